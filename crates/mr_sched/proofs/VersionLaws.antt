-- Lines of entries, by version.
use Rattle.mr_sched.proofs.Common.{◌++◌, append_assoc, codes, map, ◌≡◌, ℕ, suc, zero, ◌+◌, ◌<◌, ◌≤◌, refl, ap, sym, ◌∙◌, arith, ◌⊎◌, inl, inr, drop, Bool, true, false, if◌then◌else◌, List, [], ◌∷◌, length, ◌&&◌, flat_map, replicate, slice_index_or, eqb-true, and_parts, nil_from_length, Entry, Group, Version, One, Two, Extends, ended, entry_line, spaced, start_line, are_together, begun_to, entries_in, group_line, groups_behind, groups_of, groups_text, header_in, is_joined, line_in, text_in}
use Rattle.std.specs.Prelude.{◌==◌}
use Rattle.std.proofs.lemmas.List.{replicate-append-replicate}
use Rattle.mr_sched.specs.declared.schedule.Schedule.{Schedule}
use Rattle.mr_sched.specs.Spelling.{text_of}
use Rattle.mr_sched.specs.Versions.{has_no_pick, no_entry}

pub line_next : (v : Version) (es : List Entry) (k : ℕ) → line_in v es (k + 1) ≡ (if is_joined v es k then line_in v es k else line_in v es k + 1)
line_next v es k =
    let one : k + 1 ≡ suc k = omega arith in
    ap (line_in v es) one ∙ by (is_joined v es k)
  where
    by : (b : Bool) → 3 + (if b then begun_to v es k else suc (begun_to v es k)) ≡ (if b then line_in v es k else line_in v es k + 1)
    by true = refl
    by false = omega arith

pub line_small : (v : Version) (es : List Entry) (k : ℕ) → line_in v es k ≤ 3 + k
line_small v es zero = omega arith
line_small v es (suc k) = by (is_joined v es k) (line_small v es k)
  where
    by : (b : Bool) → line_in v es k ≤ 3 + k → 3 + (if b then begun_to v es k else suc (begun_to v es k)) ≤ 3 + suc k
    by true h = omega (arith, h)
    by false h = omega (arith, h)

-- ---- where lines end

pub joined_behind : (v : Version) (e : Entry) (es : List Entry) (k : ℕ) → is_joined v (e ∷ es) (suc k) ≡ is_joined v es k
joined_behind v e es k =
    let one : suc k + 1 ≡ suc (k + 1) = omega arith in
    ap (λ j. are_together v (slice_index_or es k no_entry) (slice_index_or (e ∷ es) j no_entry)) one

drop_behind : (e : Entry) (es : List Entry) (k : ℕ) → drop (suc k + 1) (e ∷ es) ≡ drop (k + 1) es
drop_behind e es k = let one : suc k + 1 ≡ suc (k + 1) = omega arith in ap (λ j. drop j (e ∷ es)) one

-- an entry that is the last, or isn't joined by the next, ends the line
pub line_ends : (v : Version) (n : ℕ) (es : List Entry) (k : ℕ) (d : Entry) → k < length es → (k + 1 ≡ length es) ⊎ (is_joined v es k ≡ false)
    → groups_behind v n (drop k es) ≡ record { entry = slice_index_or es k d; count = n + 1 } ∷ groups_behind v 0 (drop (k + 1) es)
line_ends v n [] k d within ends = absurd (omega arith)
line_ends v n (e ∷ []) zero d within ends = refl
line_ends v n (e ∷ f ∷ es) zero d within (inl last) = absurd (omega (arith, last))
line_ends v n (e ∷ f ∷ es) zero d within (inr apart) = ap (λ b. if b then groups_behind v (n + 1) (f ∷ es) else record { entry = e; count = n + 1 } ∷ groups_behind v 0 (f ∷ es)) apart
line_ends v n (e ∷ es) (suc k) d within ends =
    line_ends v n es k d (omega arith) (elim ends [ inl last ↦ inl (omega (arith, last)) | inr apart ↦ inr (sym (joined_behind v e es k) ∙ apart) ])
    ∙ ap (λ rest. record { entry = slice_index_or es k d; count = n + 1 } ∷ groups_behind v 0 rest) (sym (drop_behind e es k))

-- one that is joined by the next doesn't
pub line_goes : (v : Version) (n : ℕ) (es : List Entry) (k : ℕ) → k + 1 < length es → is_joined v es k ≡ true → groups_behind v n (drop k es) ≡ groups_behind v (n + 1) (drop (k + 1) es)
line_goes v n [] k within joined = absurd (omega arith)
line_goes v n (e ∷ []) k within joined = absurd (omega arith)
line_goes v n (e ∷ f ∷ es) zero within joined = ap (λ b. if b then groups_behind v (n + 1) (f ∷ es) else record { entry = e; count = n + 1 } ∷ groups_behind v 0 (f ∷ es)) joined
line_goes v n (e ∷ f ∷ es) (suc k) within joined =
    line_goes v n (f ∷ es) k (omega arith) (sym (joined_behind v e (f ∷ es) k) ∙ joined)
    ∙ ap (groups_behind v (n + 1)) (sym (drop_behind e (f ∷ es) k))

-- ---- what is written

-- a line that ends with this entry
pub printed_end : (v : Version) (n : ℕ) (es : List Entry) (k : ℕ) (d : Entry) (old new : List ℕ) → k < length es → (k + 1 ≡ length es) ⊎ (is_joined v es k ≡ false)
    → new ≡ old ++ ended (group_line (record { entry = slice_index_or es k d; count = n + 1 }))
    → new ++ groups_text (groups_behind v 0 (drop (k + 1) es)) ≡ old ++ groups_text (groups_behind v n (drop k es))
printed_end v n es k d old new within ends written =
    ap (λ (x : List ℕ). x ++ groups_text (groups_behind v 0 (drop (k + 1) es))) written
    ∙ append_assoc old (ended (group_line (record { entry = slice_index_or es k d; count = n + 1 }))) (groups_text (groups_behind v 0 (drop (k + 1) es)))
    ∙ ap (λ gs. old ++ groups_text gs) (sym (line_ends v n es k d within ends))

-- a line that goes on
pub printed_on : (v : Version) (n : ℕ) (es : List Entry) (k : ℕ) (old : List ℕ) → k + 1 < length es → is_joined v es k ≡ true
    → old ++ groups_text (groups_behind v (n + 1) (drop (k + 1) es)) ≡ old ++ groups_text (groups_behind v n (drop k es))
printed_on v n es k old within joined = ap (λ gs. old ++ groups_text gs) (sym (line_goes v n es k within joined))

-- what more was written behind what was written by then
pub more_then : (old mid new : List ℕ) → Extends old mid → Extends mid new → Extends old new
more_then old mid new (x, p) (y, q) = (x ++ y, q ∙ ap (λ (w : List ℕ). w ++ y) p ∙ append_assoc old x y)

-- the text is its pieces
groups_lines : (gs : List Group) → flat_map ended (map group_line gs) ≡ groups_text gs
groups_lines [] = refl
groups_lines (g ∷ gs) = ap (λ (w : List ℕ). ended (group_line g) ++ w) (groups_lines gs)

regroup : (old head word picks entries : List ℕ) → ((((old ++ head) ++ word) ++ picks) ++ 10 ∷ []) ++ entries ≡ old ++ (head ++ (word ++ (picks ++ 10 ∷ entries)))
regroup old head word picks entries = simp append_assoc

pieces_in : (v : Version) (s : Schedule) → header_in v ++ (codes "\nstart" ++ (spaced s.start ++ 10 ∷ groups_text (groups_of v s.entries))) ≡ text_in v s
unfolding text_in
pieces_in v s = rw (← groups_lines (groups_of v s.entries), append_assoc (header_in v) (10 ∷ []) (ended (start_line s.start) ++ flat_map ended (map group_line (groups_of v s.entries))), append_assoc (spaced s.start) (10 ∷ []) (flat_map ended (map group_line (groups_of v s.entries)))) refl

pub text_by_pieces : (v : Version) (old a b c d e : List ℕ) (s : Schedule) → a ≡ old ++ header_in v → b ≡ a ++ codes "\nstart" → c ≡ b ++ spaced s.start → d ≡ c ++ 10 ∷ []
    → e ≡ d ++ groups_text (groups_of v s.entries) → e ≡ old ++ text_in v s
text_by_pieces v old a b c d e s p q r t u =
    let entries = groups_text (groups_of v s.entries) in
    u ∙ ap (λ (w : List ℕ). w ++ entries) (t ∙ ap (λ (w : List ℕ). w ++ 10 ∷ []) (r ∙ ap (λ (w : List ℕ). w ++ spaced s.start) (q ∙ ap (λ (w : List ℕ). w ++ codes "\nstart") p)))
    ∙ regroup old (header_in v) (codes "\nstart") (spaced s.start) entries ∙ ap (λ (w : List ℕ). old ++ w) (pieces_in v s)

-- ---- the entries of lines

-- entries that stand on one line are the same
pub together_same : (v : Version) (e f : Entry) → are_together v e f ≡ true → e ≡ f
together_same One e f h = absurd (cc)
together_same Two e f h =
    let (thread, picks) = and_parts (e.thread == f.thread) (has_no_pick e && has_no_pick f) h in
    let (one, other) = and_parts (has_no_pick e) (has_no_pick f) picks in
    let same : e.picks ≡ f.picks = nil_from_length e.picks (eqb-true (length e.picks) 0 one) ∙ sym (nil_from_length f.picks (eqb-true (length f.picks) 0 other)) in
    λ i. record { thread = eqb-true e.thread f.thread thread i; picks = same i }

one_more : (n : ℕ) (e : Entry) (es : List Entry) → replicate (n + 1) e ++ es ≡ replicate n e ++ e ∷ es
one_more n e es = ap (λ (xs : List Entry). xs ++ es) (sym (replicate-append-replicate n 1 e)) ∙ append_assoc (replicate n e) (e ∷ []) es

entries_behind : (v : Version) (n : ℕ) (e : Entry) (es : List Entry) → entries_in (groups_behind v n (e ∷ es)) ≡ replicate n e ++ e ∷ es
entries_behind v n e [] = one_more n e []
entries_behind v n e (f ∷ es) = by (are_together v e f) refl (entries_behind v (n + 1) f es) (entries_behind v 0 f es)
  where
    by : (b : Bool) → are_together v e f ≡ b → entries_in (groups_behind v (n + 1) (f ∷ es)) ≡ replicate (n + 1) f ++ f ∷ es → entries_in (groups_behind v 0 (f ∷ es)) ≡ f ∷ es
        → entries_in (if b then groups_behind v (n + 1) (f ∷ es) else record { entry = e; count = n + 1 } ∷ groups_behind v 0 (f ∷ es)) ≡ replicate n e ++ e ∷ f ∷ es
    by true joined on anew =
        let same = together_same v e f joined in
        on ∙ one_more n f (f ∷ es) ∙ ap (λ (x : Entry). replicate n x ++ x ∷ f ∷ es) (sym same)
    by false apart on anew = ap (λ (xs : List Entry). replicate (n + 1) e ++ xs) anew ∙ one_more n e (f ∷ es)

-- THE LINES HOLD THE ENTRIES
pub entries_of_groups : (v : Version) (es : List Entry) → entries_in (groups_of v es) ≡ es
entries_of_groups v [] = refl
entries_of_groups v (e ∷ es) = entries_behind v 0 e es

-- ---- version 1

one_each : (e : Entry) (es : List Entry) → map group_line (groups_behind One 0 (e ∷ es)) ≡ map entry_line (e ∷ es)
one_each e [] = refl
one_each e (f ∷ es) = ap (λ (ls : List (List ℕ)). entry_line e ∷ ls) (one_each f es)

lines_each : (es : List Entry) → map group_line (groups_of One es) ≡ map entry_line es
lines_each [] = refl
lines_each (e ∷ es) = one_each e es

-- IN VERSION 1 EACH ENTRY HAS A LINE
pub text_one : (s : Schedule) → text_in One s ≡ text_of s
unfolding text_in text_of
text_one s = ap (λ (ls : List (List ℕ)). flat_map ended (header_in One ∷ start_line s.start ∷ ls)) (lines_each s.entries)
