-- The bytes of a report's texts: all are of ASCII, and of them JSON escapes LF alone.
use Rattle.std.proofs.Common.{◌≡◌, ℕ, zero, suc, ◌+◌, ◌<◌, ◌/◌, ◌%◌, ◌==◌, List, [], ◌∷◌, ◌++◌, map, Bool, true, false, not, ◌&&◌, ◌||◌, cond, nat_lt, codes, decimal, refl, ap₂, ◌∙◌, arith, rules}
use Rattle.std.specs.Prelude.{flat_map, if◌then◌else◌}
use Rattle.std.specs.Fmt.{digits, digits_onto, digit_glyph}
use Rattle.std.specs.List.{list_all}
use Rattle.std.specs.Str.{IsAscii, IsUtf8}
use Rattle.std.proofs.lemmas.Bool.{and_from, and_parts}
use Rattle.std.proofs.lemmas.Bool.Decides.{nat_tests}
use Rattle.std.proofs.lemmas.List.Folds.{list_all-append}
use Rattle.std.proofs.lemmas.Str.{IsUtf8-from_ascii}
use Rattle.json.specs.Print.{escape, escape_byte}
use Rattle.mr_base.specs.Reasons.{code_of, name_of}
use Rattle.mr_base.specs.declared.reason.Reason.{Reason}
use Rattle.mr_base.specs.declared.reason.Verdict.{Verdict}
use Rattle.mr_base.specs.declared.reason.Verdict.TheVariants as verdict
use Rattle.mr_sched.specs.declared.schedule.Entry.{Entry}
use Rattle.mr_sched.specs.declared.schedule.Schedule.{Schedule}
use Rattle.mr_sched.specs.declared.version.Version.{Version}
use Rattle.mr_sched.specs.declared.version.Version.TheVariants.{One, Two}
use Rattle.mr_sched.specs.Spelling.{ended, entry_line, spaced, start_line}
use Rattle.mr_sched.specs.Versions.{are_together, group_line, groups_behind, groups_of, header_in, text_in}
use Rattle.mr_report.specs.Json.{escaped, is_printed}
use Rattle.mr_report.specs.Report.{verdict_text}

-- LF, or a byte of ASCII that stands for itself in a string
abbrev is_plain : ℕ → Bool
is_plain b = (b == 10) || (nat_lt 31 b && nat_lt b 128 && not (b == 34) && not (b == 92))

abbrev pub ArePlain : List ℕ → Type 0
ArePlain text = list_all is_plain text ≡ true

plain_below : (b : ℕ) → is_plain b ≡ true → b < 128
plain_below b h = grind (arith, nat_tests)

plain_escape : (b : ℕ) → is_plain b ≡ true → escape_byte b ≡ escaped b
unfolding escape_byte
plain_escape b h = grind (arith, nat_tests)

printed_plain : (b : ℕ) → is_printed b ≡ true → is_plain b ≡ true
printed_plain b h = grind (arith, nat_tests)

ascii_at : (b : ℕ) (bs : List ℕ) → b < 128 → IsAscii bs → IsAscii (b ∷ bs)
ascii_at b bs low more zero = low
ascii_at b bs low more (suc i) = more i

plain_ascii : (text : List ℕ) → ArePlain text → IsAscii text
plain_ascii [] h = λ i. omega arith
plain_ascii (b ∷ bs) h = let p = and_parts (is_plain b) (list_all is_plain bs) h in λ i. ascii_at b bs (plain_below b p.0) (plain_ascii bs p.1) i

pub plain_utf8 : (text : List ℕ) → ArePlain text → IsUtf8 text
plain_utf8 text h = IsUtf8-from_ascii text (plain_ascii text h)

pub escape_is : (text : List ℕ) → ArePlain text → escape text ≡ flat_map escaped text
escape_is [] h = refl
escape_is (b ∷ bs) h = let p = and_parts (is_plain b) (list_all is_plain bs) h in ap₂ (λ x y. x ++ y) (plain_escape b p.0) (escape_is bs p.1)

pub printed_are_plain : (text : List ℕ) → list_all is_printed text ≡ true → ArePlain text
printed_are_plain [] h = refl
printed_are_plain (b ∷ bs) h =
    let p = and_parts (is_printed b) (list_all is_printed bs) h in
    and_from (is_plain b) (list_all is_plain bs) (printed_plain b p.0) (printed_are_plain bs p.1)

-- ---- numbers, verdicts and schedules

both_plain : (a b : List ℕ) → ArePlain a → ArePlain b → ArePlain (a ++ b)
both_plain a b h k = list_all-append is_plain a b ∙ and_from (list_all is_plain a) (list_all is_plain b) h k

glyph_plain : (n : ℕ) → is_plain (digit_glyph false (n % 10)) ≡ true
glyph_plain n = grind (arith, nat_tests)

-- a test that the ten digits pass is passed by each byte of a decimal number
module _ (test : ℕ → Bool) (digit : (n : ℕ) → test (digit_glyph false (n % 10)) ≡ true) where
  either_passes : (c : Bool) (a b : List ℕ) → list_all test a ≡ true → list_all test b ≡ true → list_all test (cond c a b) ≡ true
  either_passes true a b h k = h
  either_passes false a b h k = k

  onto_passes : (k n : ℕ) (acc : List ℕ) → list_all test acc ≡ true → list_all test (digits_onto k 10 false n acc) ≡ true
  onto_passes zero n acc h = h
  onto_passes (suc k) n acc h =
      let d = digit_glyph false (n % 10) in
      let more = and_from (test d) (list_all test acc) (digit n) h in
      either_passes (n / 10 == 0) (d ∷ acc) (digits_onto k 10 false (n / 10) (d ∷ acc)) more (onto_passes k (n / 10) (d ∷ acc) more)

  pub decimal_passes : (n : ℕ) → list_all test (decimal n) ≡ true
  unfolding digits
  decimal_passes n = onto_passes 64 n [] refl

decimal_plain : (n : ℕ) → ArePlain (decimal n)
decimal_plain n = decimal_passes is_plain glyph_plain n

name_plain : (r : Reason) → ArePlain (name_of r)
name_plain r = search rules

undefined_plain : (r : Reason) → ArePlain (verdict_text (verdict.Undefined r))
undefined_plain r =
    let numbered = both_plain (codes "undefined ") (decimal (code_of r)) refl (decimal_plain (code_of r)) in
    let followed = both_plain (codes "undefined " ++ decimal (code_of r)) (codes " ") numbered refl in
    both_plain (codes "undefined " ++ decimal (code_of r) ++ codes " ") (name_of r) followed (name_plain r)

pub verdict_plain : (v : Verdict) → ArePlain (verdict_text v)
verdict_plain verdict.Running = refl
verdict_plain verdict.Exit = refl
verdict_plain verdict.Leak = refl
verdict_plain verdict.Abort = refl
verdict_plain verdict.Deadlock = refl
verdict_plain (verdict.Undefined r) = undefined_plain r

spaced_plain : (numbers : List ℕ) → ArePlain (spaced numbers)
spaced_plain [] = refl
spaced_plain (n ∷ ns) = both_plain (32 ∷ decimal n) (spaced ns) (decimal_plain n) (spaced_plain ns)

ended_plain : (line : List ℕ) → ArePlain line → ArePlain (ended line)
ended_plain line h = both_plain line (10 ∷ []) h refl

entry_plain : (e : Entry) → ArePlain (entry_line e)
entry_plain e = both_plain (decimal e.thread) (spaced e.picks) (decimal_plain e.thread) (spaced_plain e.picks)

-- so many entries, with `*` between thread and count
repeated_plain : (thread count : ℕ) → ArePlain (decimal thread ++ 42 ∷ decimal count)
repeated_plain thread count = both_plain (decimal thread) (42 ∷ decimal count) (decimal_plain thread) (decimal_plain count)

either_plain : (one : Bool) (a b : List ℕ) → ArePlain a → ArePlain b → ArePlain (if one then a else b)
either_plain true a b h k = h
either_plain false a b h k = k

group_plain : (e : Entry) (count : ℕ) → ArePlain (group_line (record { entry = e; count = count }))
group_plain e count = either_plain (count == 1) (entry_line e) (decimal e.thread ++ 42 ∷ decimal count) (entry_plain e) (repeated_plain e.thread count)

line_plain : (e : Entry) (count : ℕ) → ArePlain (ended (group_line (record { entry = e; count = count })))
line_plain e count = ended_plain (group_line (record { entry = e; count = count })) (group_plain e count)

-- the lines of entries, where so many stand on the first line before them
lines_plain : (v : Version) (n : ℕ) (es : List Entry) → ArePlain (flat_map ended (map group_line (groups_behind v n es)))
lines_plain v n [] = refl
lines_plain v n (e ∷ []) = both_plain (ended (group_line (record { entry = e; count = n + 1 }))) [] (line_plain e (n + 1)) refl
lines_plain v n (e ∷ f ∷ es) = by (are_together v e f) (lines_plain v (n + 1) (f ∷ es)) (lines_plain v 0 (f ∷ es))
  where
    by : (joined : Bool) → ArePlain (flat_map ended (map group_line (groups_behind v (n + 1) (f ∷ es)))) → ArePlain (flat_map ended (map group_line (groups_behind v 0 (f ∷ es))))
        → ArePlain (flat_map ended (map group_line (if joined then groups_behind v (n + 1) (f ∷ es) else record { entry = e; count = n + 1 } ∷ groups_behind v 0 (f ∷ es))))
    by true h k = h
    by false h k = both_plain (ended (group_line (record { entry = e; count = n + 1 }))) (flat_map ended (map group_line (groups_behind v 0 (f ∷ es)))) (line_plain e (n + 1)) k

start_plain : (picks : List ℕ) → ArePlain (ended (start_line picks))
start_plain picks = ended_plain (start_line picks) (both_plain (codes "start") (spaced picks) refl (spaced_plain picks))

header_plain : (v : Version) → ArePlain (ended (header_in v))
header_plain One = refl
header_plain Two = refl

pub schedule_plain : (v : Version) (w : Schedule) → ArePlain (text_in v w)
unfolding text_in
schedule_plain v w =
    let entries = flat_map ended (map group_line (groups_of v w.entries)) in
    let first = ended (start_line w.start) in
    both_plain (ended (header_in v)) (first ++ entries) (header_plain v) (both_plain first entries (start_plain w.start) (lines_plain v 0 w.entries))
