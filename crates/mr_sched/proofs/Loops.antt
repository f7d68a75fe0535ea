-- Reading one item after the other, as the code does.
use Rattle.mr_sched.proofs.Common.{◌≡◌, ℕ, ◌+◌, ◌^◌, ◌<◌, ◌≤◌, false, eqb, List, [], ◌∷◌, ◌++◌, length, Option, Some, None, Result, Ok, Err, refl, sym, ap, ◌∙◌, append_assoc, arith, option_map, replicate, IfOk, join_with_byte, ne_eqb, append-nil, nil_from_length, BAD_LINE, Entry, Group, Version, GroupFits, Fault, Gives, body_of, entries_from, group_of, line_then, number_of, on_entries, parts_at, parts_after, picks_of, starred_of, start_of}
use Rattle.std.proofs.lemmas.List.Splits.{join_with_byte-slice_split}
use Rattle.mr_sched.specs.declared.fault.SchedFault.{SchedFault}
use Rattle.mr_sched.specs.declared.fault.SchedFault.TheVariants.{Bad, Memory}
use Rattle.mr_sched.specs.declared.version.Read.{Read}
use Rattle.mr_sched.specs.Reading.{at_line}
use Rattle.mr_sched.proofs.FirstLines.{body_of-line, entries_from-line}
use Rattle.mr_sched.proofs.GroupLaws.{group_spelled, length_with}
use Rattle.mr_sched.proofs.Parts.{parts_at-first}

-- these entries
abbrev pub all_read : List Entry → Result (List Entry) Fault
all_read es = Ok es

-- what a line gave that did not fail, or failed
pub some_at_line : {A : Type 0} (line : ℕ) (o : Option A) (x : A) → at_line line o ≡ Ok x → o ≡ Some x
some_at_line line None x e = absurd cc
some_at_line line (Some y) x e = cc

-- ---- the picks of a line

-- how much is left behind a byte: nothing, or the byte and a text
abbrev pub size_of : Option (List ℕ) → ℕ
size_of None = 0
size_of (Some text) = length text + 1

-- the picks that were read, and those that the words still spell
abbrev pub picks_with : List ℕ → List (List ℕ) → Option (List ℕ)
picks_with front words = option_map (λ ns. front ++ ns) (picks_of words)

regroup : (front : List ℕ) (n : ℕ) (rest : Option (List ℕ)) → option_map (λ ns. front ++ ns) (option_map (λ ns. n ∷ ns) rest) ≡ option_map (λ ns. (front ++ n ∷ []) ++ ns) rest
regroup front n None = refl
regroup front n (Some ns) = ap (λ (w : List ℕ). Some w) (simp append_assoc)

picks_with-number : (front word : List ℕ) (words : List (List ℕ)) (n : ℕ) → number_of (2 ^ 64) word ≡ Some n → picks_with front (word ∷ words) ≡ picks_with (front ++ n ∷ []) words
unfolding picks_of
picks_with-number front word words n e = rw e (regroup front n (picks_of words))

picks_with-other : (front word : List ℕ) (words : List (List ℕ)) → number_of (2 ^ 64) word ≡ None → picks_with front (word ∷ words) ≡ None
unfolding picks_of
picks_with-other front word words e = rw e refl

picks_with-nil : (front : List ℕ) → picks_with front [] ≡ Some front
unfolding picks_of
picks_with-nil front = ap (λ (w : List ℕ). Some w) (append-nil front)

-- the next word is cut off what is left
next_word : (rest : Option (List ℕ)) (text word : List ℕ) (after : Option (List ℕ)) → rest ≡ Some text → parts_at 32 text ≡ word ∷ parts_after 32 after → parts_after 32 rest ≡ word ∷ parts_after 32 after
next_word rest text word after e parts = rw e parts

pub picks_go_on : (front : List ℕ) (rest : Option (List ℕ)) (text word : List ℕ) (after : Option (List ℕ)) (n : ℕ) (whole : Option (List ℕ)) → rest ≡ Some text → parts_at 32 text ≡ word ∷ parts_after 32 after
    → number_of (2 ^ 64) word ≡ Some n → picks_with front (parts_after 32 rest) ≡ whole → picks_with (front ++ n ∷ []) (parts_after 32 after) ≡ whole
picks_go_on front rest text word after n whole e parts number so_far =
    sym (picks_with-number front word (parts_after 32 after) n number) ∙ ap (picks_with front) (sym (next_word rest text word after e parts)) ∙ so_far

pub picks_stop : (front : List ℕ) (rest : Option (List ℕ)) (text word : List ℕ) (after whole : Option (List ℕ)) → rest ≡ Some text → parts_at 32 text ≡ word ∷ parts_after 32 after
    → number_of (2 ^ 64) word ≡ None → picks_with front (parts_after 32 rest) ≡ whole → whole ≡ None
picks_stop front rest text word after whole e parts number so_far =
    sym so_far ∙ ap (picks_with front) (next_word rest text word after e parts) ∙ picks_with-other front word (parts_after 32 after) number

pub picks_end : (front : List ℕ) (rest whole : Option (List ℕ)) → rest ≡ None → picks_with front (parts_after 32 rest) ≡ whole → whole ≡ Some front
picks_end front rest whole e so_far = sym so_far ∙ rw e (picks_with-nil front)

-- ---- the entries

pub line_goes_on : (v : Version) (front es : List Entry) (line : ℕ) (rest first after : List ℕ) (whole : Result (List Entry) Fault) → parts_at 10 rest ≡ first ∷ parts_at 10 after
    → line_then v front line (group_of v first) ≡ Ok es → entries_from v front line (parts_at 10 rest) ≡ whole → entries_from v es (line + 1) (parts_at 10 after) ≡ whole
line_goes_on v front es line rest first after whole parts found so_far =
    sym
    (ap (entries_from v front line) parts ∙ entries_from-line v front line first (parts_at 10 after) (parts_at-first 10 after)
    ∙ ap (on_entries (λ es. entries_from v es (line + 1) (parts_at 10 after))) found)
    ∙ so_far

pub line_stops : (v : Version) (front : List Entry) (line : ℕ) (rest first after : List ℕ) (f : SchedFault) (whole : Result (List Entry) Fault) → parts_at 10 rest ≡ first ∷ parts_at 10 after
    → Gives {A = List Entry} (Err f) (line_then v front line (group_of v first)) → entries_from v front line (parts_at 10 rest) ≡ whole → Gives (Err f) whole
line_stops v front line rest first after Memory whole parts failed so_far = tt
line_stops v front line rest first after (Bad k code) whole parts failed so_far =
    sym so_far ∙ ap (entries_from v front line) parts ∙ entries_from-line v front line first (parts_at 10 after) (parts_at-first 10 after)
    ∙ ap (on_entries (λ es. entries_from v es (line + 1) (parts_at 10 after))) failed

pub entries_unended : (v : Version) (front : List Entry) (n : ℕ) (rest line : List ℕ) (whole : Result (List Entry) Fault) → parts_at 10 rest ≡ line ∷ [] → 0 < length rest
    → entries_from v front n (parts_at 10 rest) ≡ whole → whole ≡ Err (record { line = n; code = BAD_LINE })
unfolding entries_from
entries_unended v front n rest line whole parts some so_far =
    let same : line ≡ rest = sym (ap (join_with_byte 10) parts) ∙ join_with_byte-slice_split 10 rest in
    let test : eqb (length line) 0 ≡ false = ne_eqb (length line) 0 (λ e. omega (arith, ap length same)) in
    sym so_far ∙ ap (entries_from v front n) parts ∙ rw test refl

pub entries_end : (v : Version) (front : List Entry) (n : ℕ) (rest : List ℕ) (whole : Result (List Entry) Fault) → length rest ≡ 0 → entries_from v front n (parts_at 10 rest) ≡ whole → whole ≡ Ok front
unfolding entries_from
entries_end v front n rest whole none so_far = sym so_far ∙ ap (λ (t : List ℕ). entries_from v front n (parts_at 10 t)) (nil_from_length rest none)

-- ---- a line

pub line_fits : (v : Version) (text : List ℕ) (line : ℕ) (g : Group) → at_line line (group_of v text) ≡ Ok g → GroupFits v g
line_fits v text line g found = (group_spelled v text g (some_at_line line (group_of v text) g found)).0

pub pushed_more : (front : List Entry) (g : Group) (r : Result (List Entry) SchedFault) → 1 ≤ g.count → length front + g.count ≤ 2 ^ 22 → Gives r (all_read (front ++ replicate g.count g.entry))
    → IfOk r (λ es. (length front + 1 ≤ length es) × (length es ≤ 2 ^ 22))
pushed_more front g (Err f) some few given = tt
pushed_more front g (Ok es) some few given =
    let same : front ++ replicate g.count g.entry ≡ es = cc in
    let len : length es ≡ length front + g.count = ap length (sym same) ∙ length_with front g in
    (omega (arith, len), omega (arith, len))

-- a line with two stars spells nothing
pub starred_twice : (text thread after count more : List ℕ) → parts_at 42 text ≡ thread ∷ parts_at 42 after → parts_at 42 after ≡ count ∷ parts_at 42 more → starred_of text (parts_at 42 text) ≡ None
starred_twice text thread after count more one two =
    let p = parts_at-first 42 more in
    ap (starred_of text) (one ∙ ap (λ (ws : List (List ℕ)). thread ∷ ws) (two ∙ ap (λ (ws : List (List ℕ)). count ∷ ws) p.2))

-- ---- line 2, and then the entries

pub body_read : (v : Version) (text line rest picks : List ℕ) (es : List Entry) → parts_at 10 text ≡ line ∷ parts_at 10 rest → at_line 2 (start_of (parts_at 32 line)) ≡ Ok picks
    → entries_from v [] 3 (parts_at 10 rest) ≡ Ok es → body_of v (parts_at 10 text) ≡ Ok (record { schedule = record { start = picks; entries = es }; version = v })
body_read v text line rest picks es parts start entries =
    rw (parts, body_of-line v line (parts_at 10 rest) (parts_at-first 10 rest), some_at_line 2 (start_of (parts_at 32 line)) picks start, entries) refl

pub body_stops : (v : Version) (text line rest picks : List ℕ) (f : SchedFault) → parts_at 10 text ≡ line ∷ parts_at 10 rest → at_line 2 (start_of (parts_at 32 line)) ≡ Ok picks
    → Gives {A = List Entry} (Err f) (entries_from v [] 3 (parts_at 10 rest)) → Gives {A = Read} (Err f) (body_of v (parts_at 10 text))
body_stops v text line rest picks Memory parts start failed = tt
body_stops v text line rest picks (Bad k code) parts start failed =
    rw (parts, body_of-line v line (parts_at 10 rest) (parts_at-first 10 rest), some_at_line 2 (start_of (parts_at 32 line)) picks start, failed) refl
