-- Lines of entries: what spells them, and which they are.
use Rattle.mr_sched.proofs.Common.{◌≡◌, ℕ, suc, zero, ◌+◌, ◌^◌, ◌<◌, ◌≤◌, Bool, true, false, if◌then◌else◌, eqb, ltb, List, [], ◌∷◌, ◌++◌, length, map, Option, Some, None, refl, sym, ap, subst, ◌∙◌, arith, inl, inr, replicate, decimal, slice_index_or, option_map, AllByRecursion, ltb-true, lt-ltb, eqb-true, ne_eqb, eq-eqb, and_parts, decimal_digit, cond_some, nil_from_length, Entry, Group, Version, One, Two, entry_line, EntryFits, IsUnbroken, AreLines, GroupFits, are_together, entries_in, entry_count, group_line, groups_behind, groups_of, joins, last_entry, number_of, parts_at, entry_of, starred_of, group_of}
use Rattle.std.proofs.lemmas.List.{length-append, length-replicate}
use Rattle.mr_sched.specs.Versions.{last_line}
use Rattle.mr_sched.specs.Reading.{count_of, repeated_of, single}
use Rattle.mr_sched.proofs.Numerals.{spelled_from_number, number_of-decimal}
use Rattle.mr_sched.proofs.Parts.{parts_at-free, parts_at-append}
use Rattle.mr_sched.proofs.VersionLaws.{together_same}
use Rattle.mr_sched.proofs.WordLaws.{and_then_some, decimal_free, entry_again, entry_free, entry_spelled, free-append, joined, map_some}

-- ---- a line

pub group_some : (v : Version) (g : Group) → GroupFits v g → 1 ≤ g.count
group_some v g fit = elim fit.count [ inl one ↦ omega (arith, one) | inr many ↦ omega (arith, many.2) ]

pub group_bare : (v : Version) (g : Group) → GroupFits v g → 1 < g.count → g.entry.picks ≡ []
group_bare v g fit more = elim fit.count [ inl one ↦ absurd (omega (arith, one)) | inr many ↦ many.1 ]

line_single : (g : Group) → g.count ≡ 1 → group_line g ≡ entry_line g.entry
line_single g one = rw one refl

line_many : (g : Group) → 2 ≤ g.count → group_line g ≡ decimal g.entry.thread ++ 42 ∷ decimal g.count
line_many g more = rw (ne_eqb g.count 1 (λ e. omega (arith, e))) refl

single_spelled : (v : Version) (line : List ℕ) (g : Group) → single (entry_of (parts_at 32 line)) ≡ Some g → GroupFits v g × (line ≡ group_line g)
single_spelled v line g found =
    let a = map_some (λ (e : Entry). let made : Group = record { entry = e; count = 1 } in made) (entry_of (parts_at 32 line)) g found in
    let e = entry_spelled line a.0 a.1 in
    subst (λ (x : Group). GroupFits v x × (line ≡ group_line x)) a.2 (record { entry = e.0; count = inl refl; small = omega arith }, e.1)

counted : (word : List ℕ) (n : ℕ) → count_of word ≡ Some n → (word ≡ decimal n) × (n < 2 ^ 64) × (2 ≤ n)
unfolding count_of
counted word n found =
    let a = and_then_some (λ n. if ltb 1 n then Some n else None) (number_of (2 ^ 64) word) n found in
    let c = cond_some (ltb 1 a.0) a.0 n a.2 in
    let s = spelled_from_number (2 ^ 64) word a.0 (omega arith) a.1 in
    let many : 1 < a.0 = ltb-true _ _ c.0 in
    subst (λ (m : ℕ). (word ≡ decimal m) × (m < 2 ^ 64) × (2 ≤ m)) c.1 (s.0, s.1, omega arith)

repeated_spelled : (thread count : List ℕ) (g : Group) → repeated_of thread count ≡ Some g → GroupFits Two g × (thread ++ 42 ∷ count ≡ group_line g)
unfolding repeated_of
repeated_spelled thread count g found =
    let a = and_then_some (λ t. option_map (λ n. let made : Group = record { entry = record { thread = t; picks = [] }; count = n } in made) (count_of count)) (number_of (2 ^ 32) thread) g found in
    let b = map_some (λ (n : ℕ). let made : Group = record { entry = record { thread = a.0; picks = [] }; count = n } in made) (count_of count) g a.2 in
    let t = spelled_from_number (2 ^ 32) thread a.0 (omega arith) a.1 in
    let n = counted count b.0 b.1 in
    let made : Group = record { entry = record { thread = a.0; picks = [] }; count = b.0 } in
    subst (λ (x : Group). GroupFits Two x × (thread ++ 42 ∷ count ≡ group_line x)) b.2 (
      record { entry = record { thread = t.1; picks = tt }; count = inr (refl, refl, n.2); small = n.1 },
      ap (λ (w : List ℕ). w ++ 42 ∷ count) t.0 ∙ ap (λ (w : List ℕ). decimal a.0 ++ 42 ∷ w) n.0 ∙ sym (line_many made n.2),
    )

starred_spelled : (line : List ℕ) (words : List (List ℕ)) (g : Group) → parts_at 42 line ≡ words → starred_of line words ≡ Some g → GroupFits Two g × (line ≡ group_line g)
starred_spelled line [] g parts found = absurd cc
starred_spelled line (word ∷ []) g parts found = single_spelled Two line g found
starred_spelled line (thread ∷ count ∷ []) g parts found =
    let r = repeated_spelled thread count g found in
    (r.0, joined 42 line (thread ∷ count ∷ []) parts ∙ r.1)
starred_spelled line (thread ∷ count ∷ other ∷ more) g parts found = absurd cc

pub group_spelled : (v : Version) (line : List ℕ) (g : Group) → group_of v line ≡ Some g → GroupFits v g × (line ≡ group_line g)
unfolding group_of
group_spelled One line g found = single_spelled One line g found
group_spelled Two line g found = starred_spelled line (parts_at 42 line) g refl found

single_again : (v : Version) (g : Group) → GroupFits v g → g.count ≡ 1 → single (entry_of (parts_at 32 (group_line g))) ≡ Some g
single_again v g fit one =
    let same : Some (record { entry = g.entry; count = 1 }) ≡ Some g = ap (λ (n : ℕ). let made : Group = record { entry = g.entry; count = n } in Some made) (sym one) in
    ap (λ (w : List ℕ). single (entry_of (parts_at 32 w))) (line_single g one) ∙ ap single (entry_again g.entry fit.entry) ∙ same

pub group_again : (v : Version) (g : Group) → GroupFits v g → group_of v (group_line g) ≡ Some g
unfolding group_of repeated_of count_of
group_again One g fit = elim fit.count [ inl one ↦ single_again One g fit one | inr many ↦ absurd (let e = many.0 in cc) ]
group_again Two g fit =
    elim fit.count [
      | inl one ↦
          let parts : parts_at 42 (group_line g) ≡ group_line g ∷ [] =
          ap (parts_at 42) (line_single g one) ∙ parts_at-free 42 (entry_line g.entry) (entry_free 42 g.entry (omega arith) (λ e. omega arith) fit.entry)
          ∙ ap (λ (w : List ℕ). w ∷ []) (sym (line_single g one)) in
          ap (starred_of (group_line g)) parts ∙ single_again Two g fit one
      | inr many ↦
          let t = fit.entry.thread in
          let parts : parts_at 42 (group_line g) ≡ decimal g.entry.thread ∷ decimal g.count ∷ [] =
          ap (parts_at 42) (line_many g many.2)
          ∙ parts_at-append 42 (decimal g.entry.thread) (decimal g.count) (decimal_free 42 g.entry.thread (omega arith) (omega arith))
          ∙ ap (λ (w : List (List ℕ)). decimal g.entry.thread ∷ w) (parts_at-free 42 (decimal g.count) (decimal_free 42 g.count (omega arith) fit.small)) in
          let same : Some (record { entry = record { thread = g.entry.thread; picks = [] }; count = g.count }) ≡ Some g =
          ap (λ (ns : List ℕ). let made : Group = record { entry = record { thread = g.entry.thread; picks = ns }; count = g.count } in Some made) (sym many.1) in
          ap (starred_of (group_line g)) parts
          ∙ rw (number_of-decimal (2 ^ 32) g.entry.thread (omega arith) t, number_of-decimal (2 ^ 64) g.count (omega arith) fit.small, lt-ltb 1 g.count (omega (arith, many.2))) same
    ]

-- a digit alone is the line of that thread
pub group_digit : (v : Version) (n : ℕ) → n < 10 → group_of v ((48 + n) ∷ []) ≡ Some (record { entry = record { thread = n; picks = [] }; count = 1 })
group_digit v n few =
    let g : Group = record { entry = record { thread = n; picks = [] }; count = 1 } in
    let line : group_line g ≡ (48 + n) ∷ [] = ap (λ (w : List ℕ). w ++ []) (decimal_digit n few) in
    ap (group_of v) (sym line) ∙ group_again v g (record { entry = record { thread = omega arith; picks = tt }; count = inl refl; small = omega arith })

pub group_unbroken : (v : Version) (g : Group) → GroupFits v g → IsUnbroken (group_line g)
group_unbroken v g fit =
    elim fit.count [
      | inl one ↦ subst IsUnbroken (sym (line_single g one)) (entry_free 10 g.entry (omega arith) (λ e. omega arith) fit.entry)
      | inr many ↦
          let t = fit.entry.thread in
          subst IsUnbroken (sym (line_many g many.2))
          (free-append 10 (decimal g.entry.thread) (42 ∷ decimal g.count) (decimal_free 10 g.entry.thread (omega arith) (omega arith)) (λ e. omega arith, decimal_free 10 g.count (omega arith) fit.small))
    ]

pub lines_unbroken : (v : Version) (last : Option Entry) (gs : List Group) → AreLines v last gs → AllByRecursion IsUnbroken (map group_line gs)
lines_unbroken v last [] are = tt
lines_unbroken v last (g ∷ gs) are = (group_unbroken v g are.0, lines_unbroken v (Some g.entry) gs are.2)

-- ---- the last entry

pub last_none : (es : List Entry) → length es ≡ 0 → last_entry None es ≡ None
last_none es none = ap (last_entry None) (nil_from_length es none)

last_there_of : (o : Option Entry) (es : List Entry) (k : ℕ) (d : Entry) → length es ≡ suc k → last_entry o es ≡ Some (slice_index_or es k d)
last_there_of o [] k d e = absurd (omega (arith, e))
last_there_of o (x ∷ []) zero d e = refl
last_there_of o (x ∷ []) (suc k) d e = absurd (omega (arith, e))
last_there_of o (x ∷ y ∷ es) zero d e = absurd (omega (arith, e))
last_there_of o (x ∷ y ∷ es) (suc k) d e = last_there_of (Some x) (y ∷ es) k d (omega (arith, e))

pub last_there : (es : List Entry) (k : ℕ) (d : Entry) → length es ≡ k + 1 → last_entry None es ≡ Some (slice_index_or es k d)
last_there es k d e = last_there_of None es k d (omega (arith, e))

last_append : (o : Option Entry) (a b : List Entry) → last_entry o (a ++ b) ≡ last_entry (last_entry o a) b
last_append o [] b = refl
last_append o (e ∷ a) b = last_append (Some e) a b

last_replicate : (o : Option Entry) (n : ℕ) (e : Entry) → 1 ≤ n → last_entry o (replicate n e) ≡ Some e
last_replicate o zero e some = absurd (omega arith)
last_replicate o (suc zero) e some = refl
last_replicate o (suc (suc n)) e some = last_replicate (Some e) (suc n) e (omega arith)

pub last_with : (v : Version) (front : List Entry) (g : Group) → GroupFits v g → last_entry None (front ++ replicate g.count g.entry) ≡ Some g.entry
last_with v front g fit = last_append None front (replicate g.count g.entry) ∙ last_replicate (last_entry None front) g.count g.entry (group_some v g fit)

pub length_with : (front : List Entry) (g : Group) → length (front ++ replicate g.count g.entry) ≡ length front + g.count
length_with front g = length-append front (replicate g.count g.entry) ∙ ap (λ (n : ℕ). length front + n) (length-replicate g.count g.entry)

pub last_behind : (v : Version) (last : Option Entry) (gs : List Group) → AreLines v last gs → last_entry last (entries_in gs) ≡ last_line last gs
last_behind v last [] are = refl
last_behind v last (g ∷ gs) are =
    last_append last (replicate g.count g.entry) (entries_in gs)
    ∙ ap (λ (o : Option Entry). last_entry o (entries_in gs)) (last_replicate last g.count g.entry (group_some v g are.0))
    ∙ last_behind v (Some g.entry) gs are.2

pub last_lines : (v : Version) (front : List Entry) (gs : List Group) → AreLines v (last_entry None front) gs → last_entry None (front ++ entries_in gs) ≡ last_line (last_entry None front) gs
last_lines v front gs are = last_append None front (entries_in gs) ∙ last_behind v (last_entry None front) gs are

pub length_entries : (gs : List Group) → length (entries_in gs) ≡ entry_count gs
length_entries [] = refl
length_entries (g ∷ gs) =
    length-append (replicate g.count g.entry) (entries_in gs)
    ∙ ap (λ (n : ℕ). n + length (entries_in gs)) (length-replicate g.count g.entry)
    ∙ ap (λ (n : ℕ). g.count + n) (length_entries gs)

pub length_lines : (front : List Entry) (gs : List Group) → length (front ++ entries_in gs) ≡ length front + entry_count gs
length_lines front gs = length-append front (entries_in gs) ∙ ap (λ (n : ℕ). length front + n) (length_entries gs)

-- ---- the lines of entries are the only good lines of them

-- no line goes on behind an entry
abbrev HeadApart : Version → Entry → List Entry → Type 0
HeadApart v e [] = Unit {0}
HeadApart v e (f ∷ es) = are_together v e f ≡ false

run : (v : Version) (n k : ℕ) (e : Entry) (es : List Entry) → (1 ≤ k → are_together v e e ≡ true) → HeadApart v e es
    → groups_behind v n (replicate (suc k) e ++ es) ≡ record { entry = e; count = n + suc k } ∷ groups_behind v 0 es
run v n zero e [] self apart = refl
run v n zero e (f ∷ es) self apart = rw apart refl
run v n (suc k) e es self apart =
    let one : n + 1 + suc k ≡ n + suc (suc k) = omega arith in
    ap (λ (b : Bool). if b then groups_behind v (n + 1) (replicate (suc k) e ++ es) else record { entry = e; count = n + 1 } ∷ groups_behind v 0 (replicate (suc k) e ++ es)) (self (omega arith))
    ∙ run v (n + 1) k e es (λ some. self (omega arith)) apart
    ∙ ap (λ (c : ℕ). record { entry = e; count = c } ∷ groups_behind v 0 es) one

self_together : (v : Version) (g : Group) → GroupFits v g → 1 < g.count → are_together v g.entry g.entry ≡ true
self_together One g fit more = elim fit.count [ inl one ↦ absurd (omega (arith, one)) | inr many ↦ absurd (let e = many.0 in cc) ]
self_together Two g fit more = let bare = group_bare Two g fit more in rw (bare, eq-eqb g.entry.thread g.entry.thread refl) refl

run_of : (v : Version) (g : Group) (es : List Entry) (c : ℕ) → g.count ≡ c → GroupFits v g → HeadApart v g.entry es → groups_behind v 0 (replicate g.count g.entry ++ es) ≡ g ∷ groups_behind v 0 es
run_of v g es zero e fit apart = absurd (let s = group_some v g fit in omega (arith, e))
run_of v g es (suc k) e fit apart =
    let all : g.count ≡ 0 + suc k = omega (arith, e) in
    let same : g ≡ record { entry = g.entry; count = 0 + suc k } = ap (λ (n : ℕ). let made : Group = record { entry = g.entry; count = n } in made) all in
    ap (λ (n : ℕ). groups_behind v 0 (replicate n g.entry ++ es)) e
    ∙ run v 0 k g.entry es (λ some. self_together v g fit (omega (arith, e))) apart
    ∙ ap (λ (x : Group). x ∷ groups_behind v 0 es) (sym same)

head_apart : (v : Version) (e : Entry) (gs : List Group) → AreLines v (Some e) gs → HeadApart v e (entries_in gs)
head_apart v e [] are = tt
head_apart v e (g ∷ gs) are = by g.count (group_some v g are.0)
  where
    by : (c : ℕ) → 1 ≤ c → HeadApart v e (replicate c g.entry ++ entries_in gs)
    by zero some = absurd (omega arith)
    by (suc c) some = are.1

pub groups_again : (v : Version) (last : Option Entry) (gs : List Group) → AreLines v last gs → groups_of v (entries_in gs) ≡ gs
groups_again v last [] are = refl
groups_again v last (g ∷ gs) are =
    run_of v g (entries_in gs) g.count refl are.0 (head_apart v g.entry gs are.2) ∙ ap (λ (xs : List Group). g ∷ xs) (groups_again v (Some g.entry) gs are.2)

-- ---- and they are good

bare_self : (v : Version) (e : Entry) → are_together v e e ≡ true → (v ≡ Two) × (e.picks ≡ [])
bare_self One e h = absurd cc
bare_self Two e h =
    let p = and_parts (eqb e.thread e.thread) _ h in
    let q = and_parts (eqb (length e.picks) 0) _ p.1 in
    (refl, nil_from_length e.picks (eqb-true (length e.picks) 0 q.0))

group_fits : (v : Version) (n : ℕ) (e : Entry) → EntryFits e → (1 ≤ n → are_together v e e ≡ true) → n + 1 < 2 ^ 64 → GroupFits v (record { entry = e; count = n + 1 })
group_fits v zero e fit self small = record { entry = fit; count = inl refl; small = small }
group_fits v (suc n) e fit self small =
    let b = bare_self v e (self (omega arith)) in
    record { entry = fit; count = inr (b.0, b.1, omega arith); small = small }

behind_are_lines : (v : Version) (last : Option Entry) (n : ℕ) (e : Entry) (es : List Entry) → EntryFits e → AllByRecursion EntryFits es → joins v last e ≡ false → (1 ≤ n → are_together v e e ≡ true)
    → n + length (e ∷ es) < 2 ^ 64 → AreLines v last (groups_behind v n (e ∷ es))
behind_are_lines v last n e [] fit others apart self small = (group_fits v n e fit self (omega arith), apart, tt)
behind_are_lines v last n e (f ∷ es) fit others apart self small =
    by (are_together v e f) refl (λ behind own. behind_are_lines v last (n + 1) f es others.0 others.1 behind own (omega arith)) (λ behind. behind_are_lines v (Some e) 0 f es others.0 others.1 behind (λ some. absurd (omega arith)) (omega arith))
  where
    by : (b : Bool) → are_together v e f ≡ b → (joins v last f ≡ false → (1 ≤ n + 1 → are_together v f f ≡ true) → AreLines v last (groups_behind v (n + 1) (f ∷ es)))
        → (are_together v e f ≡ false → AreLines v (Some e) (groups_behind v 0 (f ∷ es)))
        → AreLines v last (if b then groups_behind v (n + 1) (f ∷ es) else record { entry = e; count = n + 1 } ∷ groups_behind v 0 (f ∷ es))
    by true joined on anew =
        let same = together_same v e f joined in
        on (ap (joins v last) (sym same) ∙ apart) (λ some. ap (λ (x : Entry). are_together v x f) (sym same) ∙ joined)
    by false other on anew = (group_fits v n e fit self (omega arith), apart, anew other)

pub groups_are_lines : (v : Version) (es : List Entry) → AllByRecursion EntryFits es → length es < 2 ^ 64 → AreLines v None (groups_of v es)
groups_are_lines v [] fit small = tt
groups_are_lines v (e ∷ es) fit small = behind_are_lines v None 0 e es fit.0 fit.1 refl (λ some. absurd (omega arith)) (omega arith)

replicate_fit : (n : ℕ) (e : Entry) (es : List Entry) → EntryFits e → AllByRecursion EntryFits es → AllByRecursion EntryFits (replicate n e ++ es)
replicate_fit zero e es fit others = others
replicate_fit (suc n) e es fit others = (fit, replicate_fit n e es fit others)

pub entries_fit : (v : Version) (last : Option Entry) (gs : List Group) → AreLines v last gs → AllByRecursion EntryFits (entries_in gs)
entries_fit v last [] are = tt
entries_fit v last (g ∷ gs) are = replicate_fit g.count g.entry (entries_in gs) are.0.entry (entries_fit v (Some g.entry) gs are.2)
