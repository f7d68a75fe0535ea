-- Reading the lines from line 3 on: what is read is spelled so, and what stops it is the first line that is wrong.
use Rattle.mr_sched.proofs.Common.{◌≡◌, ◌≢◌, ℕ, ◌+◌, ◌^◌, ◌<◌, ◌≤◌, false, eqb, ltb, ◌⊎◌, List, [], ◌∷◌, ◌++◌, length, map, Option, Some, None, Result, Ok, Err, refl, sym, ap, subst, ◌∙◌, append_assoc, arith, inl, inr, replicate, cases_Bool, ltb-true, ltb-false, lt-ltb, le-ltb, eqb-true, eqb-false, ne_eqb, append-nil, nil_from_length, BAD_LINE, TOO_LONG, Entry, Group, Version, AreLines, GroupFits, entries_in, entry_count, group_line, joins, last_entry, Fault, entries_from, group_of, line_then, on_entries}
use Rattle.mr_sched.specs.Faults.{EntriesFail, IsNext}
use Rattle.mr_sched.proofs.FirstLines.{entries_from-line, rest_or_line}
use Rattle.mr_sched.proofs.GroupLaws.{group_again, group_spelled, last_lines, last_with, length_lines, length_with}

-- ---- a line

-- the line spells entries that don't belong on the one before, and are not too many
pub record LineRead (v : Version) (front : List Entry) (line : List ℕ) (es : List Entry) : Type 0 where
  pub group : Group
  pub fits : GroupFits v group
  pub apart : joins v (last_entry None front) group.entry ≡ false
  pub spelled : line ≡ group_line group
  pub whole : es ≡ front ++ replicate group.count group.entry
  pub few : length front + group.count ≤ 2 ^ 22

line_was_read : (v : Version) (front : List Entry) (n : ℕ) (line : List ℕ) (o : Option Group) (es : List Entry) → group_of v line ≡ o → line_then v front n o ≡ Ok es → LineRead v front line es
line_was_read v front n line None es is h = absurd cc
line_was_read v front n line (Some g) es is h =
    elim (cases_Bool (joins v (last_entry None front) g.entry)) [
      | inl t ↦ absurd (let k = rw t at h in cc)
      | inr apart ↦
          elim (cases_Bool (ltb (2 ^ 22) (length front + g.count))) [
            | inl t ↦ absurd (let k = rw (apart, t) at h in cc)
            | inr f ↦
                let s = group_spelled v line g is in
                let same : front ++ replicate g.count g.entry ≡ es = let k = rw (apart, f) at h in cc in
                record { group = g; fits = s.0; apart = apart; spelled = s.1; whole = sym same; few = ltb-false _ _ f }
          ]
    ]

-- a good line is read
pub good_line : (v : Version) (front : List Entry) (n : ℕ) (g : Group) → GroupFits v g → joins v (last_entry None front) g.entry ≡ false → length front + g.count ≤ 2 ^ 22
    → line_then v front n (group_of v (group_line g)) ≡ Ok (front ++ replicate g.count g.entry)
good_line v front n g fits apart few = rw (group_again v g fits, apart, le-ltb (2 ^ 22) (length front + g.count) few) refl

-- ---- what is read

-- the lines are good lines of the entries behind the front, which aren't too many, and all are ended
pub record EntriesRead (v : Version) (front : List Entry) (lines : List (List ℕ)) (rest : List ℕ) (es : List Entry) : Type 0 where
  pub groups : List Group
  pub are : AreLines v (last_entry None front) groups
  pub spelled : lines ≡ map group_line groups
  pub ended : rest ≡ []
  pub whole : es ≡ front ++ entries_in groups
  pub few : length es ≤ 2 ^ 22

-- one line more before them
line_and_entries : (v : Version) (front mid : List Entry) (line : List ℕ) (lines : List (List ℕ)) (rest : List ℕ) (es : List Entry) → LineRead v front line mid → EntriesRead v mid lines rest es → EntriesRead v front (line ∷ lines) rest es
line_and_entries v front mid line lines rest es l h =
    let g = l.group in
    let last : last_entry None mid ≡ Some g.entry = ap (last_entry None) l.whole ∙ last_with v front g l.fits in
    record {
      groups = g ∷ h.groups;
      are = (l.fits, l.apart, subst (λ (o : Option Entry). AreLines v o h.groups) last h.are);
      spelled = ap (λ (x : List ℕ). x ∷ lines) l.spelled ∙ ap (λ (ls : List (List ℕ)). group_line g ∷ ls) h.spelled;
      ended = h.ended;
      whole = h.whole ∙ ap (λ (xs : List Entry). xs ++ entries_in h.groups) l.whole ∙ append_assoc front (replicate g.count g.entry) (entries_in h.groups);
      few = h.few;
    }

pub entries_read : (v : Version) (front : List Entry) (n : ℕ) (lines : List (List ℕ)) (rest : List ℕ) (es : List Entry) → length front ≤ 2 ^ 22 → entries_from v front n (lines ++ rest ∷ []) ≡ Ok es → EntriesRead v front lines rest es
unfolding entries_from
entries_read v front n [] rest es le h =
    elim (cases_Bool (eqb (length rest) 0)) [
      | inr f ↦ absurd (let g = rw f at h in cc)
      | inl t ↦
          let same : front ≡ es = let g = rw t at h in cc in
          record { groups = []; are = tt; spelled = refl; ended = nil_from_length rest (eqb-true _ _ t); whole = sym same ∙ sym (append-nil front); few = subst (λ (xs : List Entry). length xs ≤ 2 ^ 22) same le }
    ]
entries_read v front n (line ∷ lines) rest es le h =
    by (line_then v front n (group_of v line)) refl (λ mid small g. entries_read v mid (n + 1) lines rest es small g) (sym (entries_from-line v front n line (lines ++ rest ∷ []) (rest_or_line lines rest)) ∙ h)
  where
    by : (r : Result (List Entry) Fault) → line_then v front n (group_of v line) ≡ r
        → ((mid : List Entry) → length mid ≤ 2 ^ 22 → entries_from v mid (n + 1) (lines ++ rest ∷ []) ≡ Ok es → EntriesRead v mid lines rest es)
        → on_entries (λ es. entries_from v es (n + 1) (lines ++ rest ∷ [])) r ≡ Ok es → EntriesRead v front (line ∷ lines) rest es
    by (Err f) is others g = absurd cc
    by (Ok mid) is others g =
        let l = line_was_read v front n line (group_of v line) mid refl is in
        let small : length mid ≤ 2 ^ 22 = omega (arith, ap length l.whole, length_with front l.group, l.few) in
        line_and_entries v front mid line lines rest es l (others mid small g)

-- good lines are read, and then what stands behind them
pub good_entries : (v : Version) (front : List Entry) (n : ℕ) (good : List Group) (tail : List (List ℕ)) (rest : List ℕ) → AreLines v (last_entry None front) good → length front + entry_count good ≤ 2 ^ 22
    → entries_from v front n ((map group_line good ++ tail) ++ rest ∷ []) ≡ entries_from v (front ++ entries_in good) (n + length good) (tail ++ rest ∷ [])
good_entries v front n [] tail rest are few =
    let same : n ≡ n + 0 = omega arith in
    ap (λ (xs : List Entry). entries_from v xs n (tail ++ rest ∷ [])) (sym (append-nil front)) ∙ ap (λ (k : ℕ). entries_from v (front ++ []) k (tail ++ rest ∷ [])) same
good_entries v front n (g ∷ good) tail rest are few =
    let mid = front ++ replicate g.count g.entry in
    let lines = map group_line good ++ tail in
    let more : AreLines v (last_entry None mid) good = subst (λ (o : Option Entry). AreLines v o good) (sym (last_with v front g are.0)) are.2 in
    let others = good_entries v mid (n + 1) good tail rest more (omega (arith, length_with front g)) in
    let place : n + 1 + length good ≡ n + length (g ∷ good) = omega arith in
    entries_from-line v front n (group_line g) (lines ++ rest ∷ []) (rest_or_line lines rest)
    ∙ ap (on_entries (λ es. entries_from v es (n + 1) (lines ++ rest ∷ []))) (good_line v front n g are.0 are.1 (omega arith))
    ∙ others
    ∙ ap (λ (xs : List Entry). entries_from v xs (n + 1 + length good) (tail ++ rest ∷ [])) (append_assoc front (replicate g.count g.entry) (entries_in good))
    ∙ ap (λ (k : ℕ). entries_from v (front ++ entries_in (g ∷ good)) k (tail ++ rest ∷ [])) place

pub entries_again : (v : Version) (gs : List Group) → AreLines v None gs → entry_count gs ≤ 2 ^ 22 → entries_from v [] 3 (map group_line gs ++ [] ∷ []) ≡ Ok (entries_in gs)
unfolding entries_from
entries_again v gs are few =
    ap (λ (ls : List (List ℕ)). entries_from v [] 3 (ls ++ [] ∷ [])) (sym (append-nil (map group_line gs))) ∙ good_entries v [] 3 gs [] [] are (omega (arith, few))

-- ---- what stops it

abbrev pub failed : (A : Type 0) → Fault → Result A Fault
failed A f = Err f

pub err_is : {A : Type 0} (f g : Fault) → failed A f ≡ failed A g → f ≡ g
err_is f g e = cc

-- one good line more before it
behind_line : (v : Version) (front mid : List Entry) (n : ℕ) (first : List ℕ) (lines : List (List ℕ)) (rest : List ℕ) (line code : ℕ) → LineRead v front first mid
    → EntriesFail v (last_entry None mid) (length mid) (n + 1) lines rest line code → EntriesFail v (last_entry None front) (length front) n (first ∷ lines) rest line code
behind_line v front mid n first lines rest line code l h =
    let g = l.group in
    let last : last_entry None mid ≡ Some g.entry = ap (last_entry None) l.whole ∙ last_with v front g l.fits in
    let len : length mid ≡ length front + g.count = ap length l.whole ∙ length_with front g in
    let push = λ (ls : List (List ℕ)). first ∷ ls in
    let head = λ (ls : List (List ℕ)). ap (λ (x : List ℕ). x ∷ ls) l.spelled in
    let k = subst (λ (o : Option Entry). EntriesFail v o (length mid) (n + 1) lines rest line code) last h in
    record {
      good = g ∷ k.good;
      are_good = (l.fits, l.apart, k.are_good);
      few = omega (arith, k.few, len);
      place = omega (arith, k.place);
      why = elim k.why [
        | inl (o, c) ↦ inl (record { line = o.line; more = o.more; parts = ap push o.parts ∙ head (map group_line k.good ++ o.line ∷ o.more); other = o.other }, c)
        | inr (inl (u, c)) ↦ inr (inl (record { parts = ap push u.parts ∙ head (map group_line k.good); begun = u.begun }, c))
        | inr (inr (t, c)) ↦
            inr (inr (record { group = t.group; more = t.more; parts = ap push t.parts ∙ head (map group_line k.good ++ group_line t.group ∷ t.more); fits = t.fits; apart = t.apart; full = omega (arith, t.full, len) }, c))
      ];
    }

-- the first line is wrong
abbrev pub LineFails : Version → List Entry → ℕ → List ℕ → Fault → Type 0
LineFails v front n line f =
    (f.line ≡ n) × (((IsNext v (last_entry None front) line → ⊥) × (f.code ≡ BAD_LINE))
    ⊎ ((g : Group) × GroupFits v g × (joins v (last_entry None front) g.entry ≡ false) × (line ≡ group_line g) × (2 ^ 22 < length front + g.count) × (f.code ≡ TOO_LONG)))

same_group : (g h : Group) → Some g ≡ Some h → g ≡ h
same_group g h e = cc

-- what a line spells that may stand there is what is read of it
next_is : (v : Version) (last : Option Entry) (line : List ℕ) → IsNext v last line → (g : Group) × (group_of v line ≡ Some g) × (joins v last g.entry ≡ false)
next_is v last line (g, fits, apart, spelled) = (g, ap (group_of v) spelled ∙ group_again v g fits, apart)

line_failed : (v : Version) (front : List Entry) (n : ℕ) (line : List ℕ) (o : Option Group) (f : Fault) → group_of v line ≡ o → line_then v front n o ≡ Err f → LineFails v front n line f
line_failed v front n line None f is h =
    subst (LineFails v front n line) (err_is {A = List Entry} (record { line = n; code = BAD_LINE }) f h)
    (refl, inl (λ next. let p = next_is v (last_entry None front) line next in let e = sym is ∙ p.1 in absurd cc, refl))
line_failed v front n line (Some g) f is h =
    elim (cases_Bool (joins v (last_entry None front) g.entry)) [
      | inl joined ↦
          subst (LineFails v front n line) (err_is {A = List Entry} (record { line = n; code = BAD_LINE }) f (rw joined at h)) (
            refl,
            inl (
              λ next.
                  let p = next_is v (last_entry None front) line next in
                  let same : p.0 ≡ g = same_group p.0 g (sym p.1 ∙ is) in
                  let apart = ap (λ (x : Group). joins v (last_entry None front) x.entry) (sym same) ∙ p.2 in
                  let e = sym joined ∙ apart in absurd cc,
              refl,
            ),
          )
      | inr apart ↦
          elim (cases_Bool (ltb (2 ^ 22) (length front + g.count))) [
            | inr f ↦ absurd (let k = rw (apart, f) at h in cc)
            | inl full ↦
                let s = group_spelled v line g is in
                subst (LineFails v front n line) (err_is {A = List Entry} (record { line = n; code = TOO_LONG }) f (rw (apart, full) at h))
                (refl, inr (g, s.0, apart, s.1, ltb-true _ _ full, refl))
          ]
    ]

first_fails : (v : Version) (front : List Entry) (n : ℕ) (line : List ℕ) (lines : List (List ℕ)) (rest : List ℕ) (f : Fault) → length front ≤ 2 ^ 22 → LineFails v front n line f
    → EntriesFail v (last_entry None front) (length front) n (line ∷ lines) rest f.line f.code
first_fails v front n line lines rest f le (place, why) = record {
  good = [];
  are_good = tt;
  few = omega arith;
  place = omega (arith, place);
  why = elim why [
    | inl (other, c) ↦ inl (record { line = line; more = lines; parts = refl; other = other }, c)
    | inr (g, fits, apart, spelled, full, c) ↦
        inr (inr (record { group = g; more = lines; parts = ap (λ (x : List ℕ). x ∷ lines) spelled; fits = fits; apart = apart; full = omega (arith, full) }, c))
  ];
}

pub entries_failed : (v : Version) (front : List Entry) (n : ℕ) (lines : List (List ℕ)) (rest : List ℕ) (f : Fault) → length front ≤ 2 ^ 22 → entries_from v front n (lines ++ rest ∷ []) ≡ Err f
    → EntriesFail v (last_entry None front) (length front) n lines rest f.line f.code
unfolding entries_from
entries_failed v front n [] rest f le h =
    elim (cases_Bool (eqb (length rest) 0)) [
      | inl t ↦ absurd (let g = rw t at h in cc)
      | inr begun ↦
          subst (λ (g : Fault). EntriesFail v (last_entry None front) (length front) n [] rest g.line g.code) (err_is {A = List Entry} (record { line = n; code = BAD_LINE }) f (rw begun at h))
          (record {
            good = [];
            are_good = tt;
            few = omega arith;
            place = omega arith;
            why = inr (inl (record { parts = refl; begun = λ e. eqb-false _ _ begun (ap length e) }, refl));
          })
    ]
entries_failed v front n (line ∷ lines) rest f le h =
    by (line_then v front n (group_of v line)) refl (λ mid small g. entries_failed v mid (n + 1) lines rest f small g) (sym (entries_from-line v front n line (lines ++ rest ∷ []) (rest_or_line lines rest)) ∙ h)
  where
    by : (r : Result (List Entry) Fault) → line_then v front n (group_of v line) ≡ r
        → ((mid : List Entry) → length mid ≤ 2 ^ 22 → entries_from v mid (n + 1) (lines ++ rest ∷ []) ≡ Err f → EntriesFail v (last_entry None mid) (length mid) (n + 1) lines rest f.line f.code)
        → on_entries (λ es. entries_from v es (n + 1) (lines ++ rest ∷ [])) r ≡ Err f
        → EntriesFail v (last_entry None front) (length front) n (line ∷ lines) rest f.line f.code
    by (Err k) is others g = first_fails v front n line lines rest f le (line_failed v front n line (group_of v line) f refl (is ∙ g))
    by (Ok mid) is others g =
        let l = line_was_read v front n line (group_of v line) mid refl is in
        let small : length mid ≤ 2 ^ 22 = omega (arith, ap length l.whole, length_with front l.group, l.few) in
        behind_line v front mid n line lines rest f.line f.code l (others mid small g)

-- ---- and stops it so

other_line : (v : Version) (front : List Entry) (n : ℕ) (line : List ℕ) (o : Option Group) → group_of v line ≡ o → (IsNext v (last_entry None front) line → ⊥) → line_then v front n o ≡ Err (record { line = n; code = BAD_LINE })
other_line v front n line None is other = refl
other_line v front n line (Some g) is other =
    elim (cases_Bool (joins v (last_entry None front) g.entry)) [
      | inl joined ↦ rw joined refl
      | inr apart ↦ let s = group_spelled v line g is in absurd (other (g, s.0, apart, s.1))
    ]

stops_here : (v : Version) (front : List Entry) (n : ℕ) (line : List ℕ) (more : List (List ℕ)) (rest : List ℕ) (f : Fault) → line_then v front n (group_of v line) ≡ Err f → entries_from v front n ((line ∷ more) ++ rest ∷ []) ≡ Err f
stops_here v front n line more rest f e =
    entries_from-line v front n line (more ++ rest ∷ []) (rest_or_line more rest) ∙ ap (on_entries (λ es. entries_from v es (n + 1) (more ++ rest ∷ []))) e

unended_line : (v : Version) (front : List Entry) (n : ℕ) (rest : List ℕ) → rest ≢ [] → entries_from v front n ([] ++ rest ∷ []) ≡ Err (record { line = n; code = BAD_LINE })
unfolding entries_from
unended_line v front n rest begun = rw (ne_eqb (length rest) 0 (λ e. begun (nil_from_length rest e))) refl

too_many : (v : Version) (front : List Entry) (n : ℕ) (g : Group) → GroupFits v g → joins v (last_entry None front) g.entry ≡ false → 2 ^ 22 < length front + g.count
    → line_then v front n (group_of v (group_line g)) ≡ Err (record { line = n; code = TOO_LONG })
too_many v front n g fits apart full = rw (group_again v g fits, apart, lt-ltb (2 ^ 22) (length front + g.count) full) refl

pub entries_fail_at : (v : Version) (front : List Entry) (n : ℕ) (lines : List (List ℕ)) (rest : List ℕ) (line code : ℕ) → EntriesFail v (last_entry None front) (length front) n lines rest line code
    → entries_from v front n (lines ++ rest ∷ []) ≡ Err (record { line = line; code = code })
entries_fail_at v front n lines rest line code h =
    let m = n + length h.good in
    let all = front ++ entries_in h.good in
    let last = last_lines v front h.good h.are_good in
    elim h.why [
      | inl (o, c) ↦
          rw (o.parts, h.place, c)
          (good_entries v front n h.good (o.line ∷ o.more) rest h.are_good h.few
          ∙ stops_here v all m o.line o.more rest _
          (other_line v all m o.line (group_of v o.line) refl (λ next. o.other (subst (λ (e : Option Entry). IsNext v e o.line) last next))))
      | inr (inl (u, c)) ↦
          rw (u.parts, ← append-nil (map group_line h.good), h.place, c) (good_entries v front n h.good [] rest h.are_good h.few ∙ unended_line v all m rest u.begun)
      | inr (inr (t, c)) ↦
          rw (t.parts, h.place, c)
          (good_entries v front n h.good (group_line t.group ∷ t.more) rest h.are_good h.few
          ∙ stops_here v all m (group_line t.group) t.more rest _
          (too_many v all m t.group t.fits (ap (λ (e : Option Entry). joins v e t.group.entry) last ∙ t.apart) (omega (arith, length_lines front h.good, t.full))))
    ]
