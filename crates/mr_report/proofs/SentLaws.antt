-- What is sent of a report, and the text that it has.
use Rattle.std.proofs.Common.{◌≡◌, ℕ, suc, ◌+◌, List, [], ◌∷◌, ◌++◌, length, map, true, false, Option, None, Some, option_map, codes, refl, sym, ap, ap₂, ◌∙◌, subst, append_assoc}
use Rattle.std.specs.List.{AllByRecursion, join_with_byte, list_all}
use Rattle.std.proofs.lemmas.List.Elements.{recursion_from_All}
use Rattle.json.specs.Print as json
use Rattle.json.specs.Print.{escape, escape_byte}
use Rattle.serde.specs.Event.{Log, Logs, InSeq, Then, WritesEach, WritesSeq, seq_begins, seq_ends, unsigned as unsigned_event}
use Rattle.serde_json.specs.Data.{Data, string, number, unsigned, array as array_data}
use Rattle.serde_json.specs.Events.{SendsItems, SendsValue, items_len}
use Rattle.serde_json.specs.View.{items_of}
use Rattle.serde_json.specs.Written.{compact_text, items_text, has_float, items_have_float}
use Rattle.mr_base.specs.declared.reason.Verdict.{Verdict}
use Rattle.mr_event.specs.declared.footprint.Pair.{Pair}
use Rattle.mr_sched.specs.declared.schedule.Schedule.{Schedule}
use Rattle.mr_sched.specs.declared.version.Version.{Version}
use Rattle.mr_sched.specs.Versions.{text_in}
use Rattle.mr_report.specs.declared.report.Line.{Line}
use Rattle.mr_report.specs.Json.{ArePrinted, array, is_printed, object_text, quoted, race_array, witness_value}
use Rattle.mr_report.specs.Report.{verdict_text}
use Rattle.mr_report.specs.Sent.{members_data, places_data, races_data, report_data, texts_data, witness_data}
use Rattle.mr_report.proofs.PlainLaws.{ArePlain, escape_is, printed_are_plain, schedule_plain, verdict_plain}

-- ---- what is sent

-- the items of a list, where each is sent as its data
each_sent : {A : Type 0} (w : A → Log → Log → Type 0) (d : A → Data) → ((x : A) (old new : Log) → w x old new → SendsValue (d x) old new)
    → (xs : List A) (old last new : Log) → WritesEach w xs old last → Logs last new seq_ends → SendsItems (items_of (map d xs)) old new
each_sent w d sent [] old last new h end = subst (λ l. Logs l new seq_ends) h end
each_sent w d sent (x ∷ xs) old last new h end = (h.0, sent x old h.0 h.1, each_sent w d sent xs h.0 last new h.2 end)

items_len_is : {A : Type 0} (d : A → Data) (xs : List A) → length xs ≡ items_len (items_of (map d xs))
items_len_is d [] = refl
items_len_is d (x ∷ xs) = ap suc (items_len_is d xs)

pub list_sent : {A : Type 0} (w : A → Log → Log → Type 0) (d : A → Data) → ((x : A) (old new : Log) → w x old new → SendsValue (d x) old new)
    → (xs : List A) (old new : Log) → WritesSeq w xs old new → SendsValue (array_data (items_of (map d xs))) old new
list_sent w d sent xs old new h =
    (h.0, subst (λ n. Logs old h.0 (seq_begins (Some n))) (items_len_is d xs) h.2, each_sent w d sent xs h.0 h.1 new h.3 h.4)

pub places_sent : (p : ℕ × ℕ) (old new : Log) → InSeq 2 (Then (λ a b. Logs a b (unsigned_event p.0)) (λ a b. Logs a b (unsigned_event p.1))) old new → SendsValue (places_data p) old new
places_sent p old new h = (h.0, h.2, (h.3.0, h.3.1, (h.1, h.3.2, h.4)))

-- ---- the text of what was sent

behind_comma : (d : Data) (ds : List Data) → items_text true (items_of (d ∷ ds)) ≡ 44 ∷ (join_with_byte 44 (map compact_text (d ∷ ds)) ++ 93 ∷ [])
behind_comma d [] = refl
behind_comma d (e ∷ ds) =
    ap (λ t. 44 ∷ (compact_text d ++ t)) (behind_comma e ds) ∙ ap (λ t. 44 ∷ t) (sym (append_assoc (compact_text d) (44 ∷ join_with_byte 44 (map compact_text (e ∷ ds))) (93 ∷ [])))

array_text : (ds : List Data) → compact_text (array_data (items_of ds)) ≡ array (map compact_text ds)
array_text [] = refl
array_text (d ∷ []) = refl
array_text (d ∷ e ∷ ds) =
    ap (λ t. 91 ∷ (compact_text d ++ t)) (behind_comma e ds) ∙ ap (λ t. 91 ∷ t) (sym (append_assoc (compact_text d) (44 ∷ join_with_byte 44 (map compact_text (e ∷ ds))) (93 ∷ [])))

quoted_is : (text : List ℕ) → ArePlain text → json.quoted text ≡ quoted text
quoted_is text h = ap (λ t. 34 ∷ (t ++ 34 ∷ [])) (escape_is text h)

lines_texts : (output : List Line) → AllByRecursion (λ l. list_all is_printed l.text ≡ true) output
    → map compact_text (map string (map (λ l. l.text) output)) ≡ map (λ l. quoted l.text) output
lines_texts [] h = refl
lines_texts (l ∷ ls) h = ap₂ (λ x y. x ∷ y) (quoted_is l.text (printed_are_plain l.text h.0)) (lines_texts ls h.1)

races_texts : (races : List Pair) → map compact_text (map places_data (map (λ p. (p.first + 1, p.second + 1)) races)) ≡ map race_array races
races_texts [] = refl
races_texts (p ∷ ps) = ap₂ (λ x y. x ∷ y) (array_text (number (unsigned (p.first + 1)) ∷ number (unsigned (p.second + 1)) ∷ [])) (races_texts ps)

witness_is : (version : Version) (w : Option Schedule) → compact_text (witness_data (option_map (text_in version) w)) ≡ witness_value version w
witness_is version None = refl
witness_is version (Some w) = quoted_is (text_in version w) (schedule_plain version w)

-- the members, with what stands around them
members_text : (output races verdict witness : Data) (a b c d : List ℕ) → compact_text output ≡ a → compact_text races ≡ b → compact_text verdict ≡ c → compact_text witness ≡ d
    → compact_text (members_data output races verdict witness) ≡ codes "{\"output\":" ++ (a ++ (codes ",\"races\":" ++ (b ++ (codes ",\"verdict\":" ++ (c ++ (codes ",\"witness\":" ++ (d ++ codes "}")))))))
unfolding escape_byte
members_text output races verdict witness a b c d e f g h = rw (e, f, g, h) refl

regroup : (p a q b r c s d t : List ℕ) → p ++ (a ++ (q ++ (b ++ (r ++ (c ++ (s ++ (d ++ t))))))) ≡ p ++ a ++ q ++ b ++ r ++ c ++ s ++ d ++ t
regroup p a q b r c s d t = simp append_assoc

report_text_is : (output : List Line) (v : Verdict) (races : List Pair) (w : Option Schedule) (version : Version) → ArePrinted output
    → compact_text (report_data (map (λ l. l.text) output) (map (λ p. (p.first + 1, p.second + 1)) races) (verdict_text v) (option_map (text_in version) w)) ≡ object_text output v races w version
report_text_is output v races w version printed =
    let texts = map (λ l. l.text) output in
    let places = map (λ p. (p.first + 1, p.second + 1)) races in
    let a = array (map (λ l. quoted l.text) output) in
    let b = array (map race_array races) in
    let c = quoted (verdict_text v) in
    let d = witness_value version w in
    let output_is = array_text (map string texts) ∙ ap array (lines_texts output (recursion_from_All _ output printed)) in
    let races_is = array_text (map places_data places) ∙ ap array (races_texts races) in
    members_text (texts_data texts) (races_data places) (string (verdict_text v)) (witness_data (option_map (text_in version) w)) a b c d
    output_is races_is (quoted_is (verdict_text v) (verdict_plain v)) (witness_is version w)
    ∙ regroup (codes "{\"output\":") a (codes ",\"races\":") b (codes ",\"verdict\":") c (codes ",\"witness\":") d (codes "}")

-- the same of what was told
pub told_text_is : (output : List Line) (v : Verdict) (races : List Pair) (w : Option Schedule) (version : Version) (texts : List (List ℕ)) (places : List (ℕ × ℕ)) (verdict : List ℕ) (witness : Option (List ℕ)) (bytes : List ℕ)
    → ArePrinted output → texts ≡ map (λ l. l.text) output → places ≡ map (λ p. (p.first + 1, p.second + 1)) races → verdict ≡ verdict_text v → witness ≡ option_map (text_in version) w
    → bytes ≡ compact_text (report_data texts places verdict witness) → bytes ≡ object_text output v races w version
told_text_is output v races w version texts places verdict witness bytes printed e f g h k = rw (k, e, f, g, h) (report_text_is output v races w version printed)

-- ---- no member is a float

texts_whole : (texts : List (List ℕ)) → items_have_float (items_of (map string texts)) ≡ false
texts_whole [] = refl
texts_whole (t ∷ ts) = texts_whole ts

races_whole : (races : List (ℕ × ℕ)) → items_have_float (items_of (map places_data races)) ≡ false
races_whole [] = refl
races_whole (r ∷ rs) = races_whole rs

witness_whole : (w : Option (List ℕ)) → has_float (witness_data w) ≡ false
witness_whole None = refl
witness_whole (Some t) = refl

pub report_whole : (output : List (List ℕ)) (races : List (ℕ × ℕ)) (verdict : List ℕ) (witness : Option (List ℕ)) → has_float (report_data output races verdict witness) ≡ false
report_whole output races verdict witness = rw (texts_whole output, races_whole races, witness_whole witness) refl
