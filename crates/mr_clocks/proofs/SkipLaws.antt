-- Walks over rows, and the skips that they leave.
use Rattle.mr_clocks.proofs.Common.{◌≡◌, ℕ, ◌+◌, ◌<◌, ◌≤◌, ◌⊎◌, inl, inr, List, [], ◌∷◌, ◌++◌, Bool, true, length, length-append, get_or, set, take, refl, sym, ◌∙◌, ap, subst, arith, Contains, list_any, both_ways, get_or-take, get_or_append_left, get_or_push, get_or_read, Contains-append_left, Any-from_list_any, list_any_at, Access, races, some_race, Footprint, no_step, step_at, Edge, any_weaker, Row, Link, IsUnder, AreLinks, AreLonger, IsIn, IsOfRow, IsRow, link_at, step_of, AreAmong, AreSkips, IsServing, IsSkip, IsWalking, skip_at, ◌≢◌, thread_at, IsPart}
use Rattle.std.proofs.lemmas.List.Elements.{Contains-push, Contains-push_cases}
use Rattle.mr_clocks.specs.Keys.{IsWakes}
use Rattle.mr_clocks.specs.Rows.{IsRowSeen}
use Rattle.mr_clocks.specs.Skips.{RacesBy, no_skip}
use Rattle.mr_clocks.proofs.Each.{each_pushed, each_set}
use Rattle.mr_clocks.proofs.Chains.{in_behind, in_cases, in_here, in_less, in_low, in_more, in_most, in_none, link_left}
use Rattle.mr_clocks.proofs.RowLaws.{row_under}

-- ---- accesses by which steps race

-- what races with one of the accesses races with one of more
pub race_among : (f by more : List Access) → AreAmong by more → some_race f by ≡ true → some_race f more ≡ true
unfolding some_race
race_among f by more among h =
    any_weaker (λ x. list_any (races x) by) (λ x. list_any (races x) more)
    (λ x e.
    let a = Any-from_list_any (races x) by e in
    let c = among a.1 (a.0, a.2, a.3) in
    list_any_at (races x) more c.0 a.1 c.1 (ap (races x) c.2 ∙ a.4)) f h

-- what races with an access races with one of those that it is among
pub race_with : (f by : List Access) (b : Access) → Contains by b → list_any (λ a. races a b) f ≡ true → some_race f by ≡ true
unfolding some_race
race_with f by b c h =
    any_weaker (λ a. races a b) (λ x. list_any (races x) by) (λ x e. list_any_at (races x) by c.0 b c.1 (ap (races x) c.2 ∙ e)) f h

pub among_none : (accesses : List Access) → AreAmong [] accesses
among_none accesses = λ b c. let lt = c.1 in absurd (omega (arith, lt))

pub among_push : (by more : List Access) (b : Access) → more ≡ by ++ b ∷ [] → AreAmong by more
among_push by more b e = λ a c. subst (λ (l : List Access). Contains l a) (sym e) (Contains-append_left by (b ∷ []) a c)

pub pushed_among : (by more : List Access) (b : Access) → more ≡ by ++ b ∷ [] → Contains more b
pushed_among by more b e = subst (λ (l : List Access). Contains l b) (sym e) (Contains-push by b)

pub all_among : (by more accesses : List Access) (b : Access) → more ≡ by ++ b ∷ [] → AreAmong by accesses → Contains accesses b → AreAmong more accesses
all_among by more accesses b e one two = λ a c.
    elim (Contains-push_cases by b a (subst (λ (l : List Access). Contains l a) e c)) [
      | inl old ↦ one a old
      | inr same ↦ subst (λ (q : Access). Contains accesses q) same two
    ]

-- ---- skips that are read and written

pub skip_read : (skips : List (ℕ × ℕ × List Access)) (m : ℕ) (s : ℕ × ℕ × List Access) → m < length skips → s ≡ get_or skips m s → s ≡ skip_at skips m
skip_read skips m s lt e = get_or_read skips m s lt e no_skip

-- a skip over nothing
pub none_skips : (run : List Footprint) (n : ℕ) (links : List Link) → IsSkip run n links no_skip
none_skips run n links = record {
  inside = omega arith;
  falls = omega arith;
  within = λ k r. absurd (in_none links k 0 refl r);
  behind = λ k r. r;
  passed = λ k r. inl r;
}

pub skips_none : (run : List Footprint) (n : ℕ) (links : List Link) (skips : List (ℕ × ℕ × List Access)) → skips ≡ [] → AreSkips run n links skips
skips_none run n links skips e = λ x lt. let none = ap length e in absurd (omega (arith, lt, none))

pub skips_push : (run : List Footprint) (n : ℕ) (links : List Link) (skips new : List (ℕ × ℕ × List Access)) (skip : ℕ × ℕ × List Access) → new ≡ skips ++ skip ∷ [] → AreSkips run n links skips → IsSkip run n links skip → AreSkips run n links new
skips_push run n links skips new skip e all own = each_pushed (IsSkip run n links) no_skip skip skips new e all own

pub skips_set : (run : List Footprint) (n : ℕ) (links : List Link) (skips : List (ℕ × ℕ × List Access)) (slot : ℕ) (skip : ℕ × ℕ × List Access) → slot < length skips → AreSkips run n links skips → IsSkip run n links skip → AreSkips run n links (set skips slot skip)
skips_set run n links skips slot skip inside all own = each_set (IsSkip run n links) no_skip skip skips slot inside all own

-- all but the last, and the last
pub skips_pop : (run : List Footprint) (n : ℕ) (links : List Link) (skips less : List (ℕ × ℕ × List Access)) (skip : ℕ × ℕ × List Access) → skips ≡ less ++ skip ∷ [] → AreSkips run n links skips → AreSkips run n links less × IsSkip run n links skip
skips_pop run n links skips less skip e all = (
  λ x lt.
      let long = ap length e in
      let same : skip_at skips x ≡ skip_at less x = ap (λ (l : List (ℕ × ℕ × List Access)). skip_at l x) e ∙ get_or_append_left less (skip ∷ []) no_skip x lt in
      subst (λ (s : ℕ × ℕ × List Access). IsSkip run n links s) same (all x (omega (arith, lt, long, length-append less (skip ∷ [])))),
  let long = ap length e in
      let same : skip_at skips (length less) ≡ skip = ap (λ (l : List (ℕ × ℕ × List Access)). skip_at l (length less)) e ∙ get_or_push less skip no_skip (length less) refl in
      subst (λ (s : ℕ × ℕ × List Access). IsSkip run n links s) same (all (length less) (omega (arith, long, length-append less (skip ∷ [])))),
)

-- equal lists
pub skips_same : (run : List Footprint) (n : ℕ) (links equal : List Link) (skips same : List (ℕ × ℕ × List Access)) → equal ≡ links → same ≡ skips → AreSkips run n links skips → AreSkips run n equal same
skips_same run n links equal skips same e f a =
    subst (λ l. AreSkips run n l same) (sym e) (subst (λ l. AreSkips run n links l) (sym f) a)

-- ---- a walk

-- at its start
pub walking_start : (run : List Footprint) (j at : ℕ) (links : List Link) (row : Row) (whole : Bool) (by : List Access) → by ≡ [] → at ≡ row.last → IsRow run j links row → IsWalking run j at links row whole by
walking_start run j at links row whole by e is r =
    subst (λ (q : ℕ). IsWalking run j q links row whole by) (sym is) (record {
      low = r.last;
      falls = omega arith;
      inside = λ k here. here;
      passed = λ k here. inl here;
      covered = subst (λ (l : List Access). AreAmong l (step_at run j).accesses) (sym e) (among_none (step_at run j).accesses);
      raced = λ w k here. inl here;
    })

-- the step that the walk has come to is of the row
pub walking_step : (run : List Footprint) (j m at : ℕ) (links : List Link) (row : Row) (whole : Bool) (by : List Access) → IsWalking run j at links row whole by → IsRow run j links row → at ≡ m + 1 → IsOfRow run j row (step_of links m)
walking_step run j m at links row whole by w r e = r.steps m (w.inside m (in_here links m at e))

-- behind a link whose step has no edge
pub walking_link : (run : List Footprint) (j m at : ℕ) (links : List Link) (row : Row) (whole whole' : Bool) (by more : List Access) → AreLinks links → at ≡ m + 1 → (Edge run (step_of links m) j → ⊥) → AreAmong by more → AreAmong more (step_at run j).accesses → (whole' ≡ true → (whole ≡ true) × RacesBy run (step_of links m) more) → IsWalking run j at links row whole by → IsWalking run j (link_at links m).before links row whole' more
walking_link run j m at links row whole whole' by more a e none kept covered here w =
    let low = w.low in
    let falls = w.falls in
    let less = a.low m (omega (arith, e, low)) in
    record {
      low = omega (arith, e, low, less);
      falls = omega (arith, e, falls, less);
      inside = λ k r. w.inside k (in_behind links k m at e r);
      passed = λ k r. elim (w.passed k r) [
        | inr other ↦ inr other
        | inl there ↦ elim (in_cases there) [
          | inl is ↦ inr (λ h counts. none (subst (λ (q : ℕ). Edge run (step_of links q) j) (let same : k ≡ m = omega (arith, e, is) in same) h))
          | inr t ↦ inl (subst (λ (q : ℕ). IsIn links k (link_at links q).before) (let one = t.1 in let same : t.0 ≡ m = omega (arith, e, one) in same) t.2)
        ]
      ];
      covered = covered;
      raced = λ i k r. elim (w.raced (here i).0 k r) [
        | inr race ↦ inr (race_among (step_at run (step_of links k)).accesses by more kept race)
        | inl there ↦ elim (in_cases there) [
          | inl is ↦ inr (subst (λ (q : ℕ). RacesBy run (step_of links q) more) (let same : m ≡ k = omega (arith, e, is) in same) (here i).1)
          | inr t ↦ inl (subst (λ (q : ℕ). IsIn links k (link_at links q).before) (let one = t.1 in let same : t.0 ≡ m = omega (arith, e, one) in same) t.2)
        ]
      ];
    }

-- behind the steps that a skip leads over
pub walking_skip : (run : List Footprint) (j at : ℕ) (links : List Link) (row : Row) (whole : Bool) (by more : List Access) (skip : ℕ × ℕ × List Access) → IsSkip run j links skip → IsServing run skip at j → (IsWakes row.key → ⊥) → AreAmong by more → AreAmong skip.2 more → AreAmong more (step_at run j).accesses → IsWalking run j at links row whole by → IsWalking run j skip.1 links row whole more
walking_skip run j at links row whole by more skip s serves other kept taken covered w =
    let low = w.low in
    let falls = w.falls in
    let less = serves.falls in
    record {
      low = omega (arith, low, less);
      falls = omega (arith, falls, less);
      inside = λ k r. w.inside k (subst (λ (q : ℕ). IsIn links k q) serves.begins (s.behind k r));
      passed = λ k r. elim (w.passed k r) [
        | inr one ↦ inr one
        | inl there ↦ elim (jumped k there) [
          | inl rest ↦ inl rest
          | inr race ↦ inr (λ h counts. elim counts [
            | inl woken ↦ other woken
            | inr still ↦ both_ways (some_race (step_at run (step_of links k)).accesses (step_at run j).accesses) still (race_among (step_at run (step_of links k)).accesses skip.2 (step_at run j).accesses serves.covered race)
          ])
        ]
      ];
      covered = covered;
      raced = λ i k r. elim (w.raced i k r) [
        | inr race ↦ inr (race_among (step_at run (step_of links k)).accesses by more kept race)
        | inl there ↦ elim (jumped k there) [
          | inl rest ↦ inl rest
          | inr race ↦ inr (race_among (step_at run (step_of links k)).accesses skip.2 more taken race)
        ]
      ];
    }
  where
    jumped : (k : ℕ) → IsIn links k at → IsIn links k skip.1 ⊎ RacesBy run (step_of links k) skip.2
    jumped k there = s.passed k (subst (λ (q : ℕ). IsIn links k q) (sym serves.begins) there)

-- a walk that comes to a step that lies under the clock, or is of j's thread, has seen the row
pub walking_known : (run : List Footprint) (j m at : ℕ) (links : List Link) (row : Row) (whole : Bool) (by : List Access) (clock : List ℕ) → AreLinks links → IsRow run j links row → IsPart run clock j → at ≡ m + 1 → (thread_at run (step_of links m) ≢ thread_at run j → IsUnder run clock (step_of links m)) → IsWalking run j at links row whole by → IsRowSeen run links row clock j
walking_known run j m at links row whole by clock a r part e known w = λ k here apart h counts.
    elim (w.passed k here) [
      | inr none ↦ absurd (none h counts)
      | inl there ↦
          row_under run j row (step_of links k) (step_of links m) clock part (r.steps k here) (walking_step run j m at links row whole by w r e)
          (in_most links a m k at e w.low there) known apart
    ]

-- and so has one that comes to the end
pub walking_end : (run : List Footprint) (j at : ℕ) (links : List Link) (row : Row) (whole : Bool) (by : List Access) (clock : List ℕ) → at ≡ 0 → IsWalking run j at links row whole by → IsRowSeen run links row clock j
walking_end run j at links row whole by clock e w = λ k here apart h counts.
    elim (w.passed k here) [
      | inr none ↦ absurd (none h counts)
      | inl there ↦ absurd (in_none links k at e there)
    ]

-- what a whole walk leaves
pub walking_left : (run : List Footprint) (j at : ℕ) (links : List Link) (row : Row) (whole : Bool) (by : List Access) → IsRow run j links row → whole ≡ true → IsWalking run j at links row whole by → IsSkip run j links (row.last, at, by)
walking_left run j at links row whole by r i w = record {
  inside = r.last;
  falls = w.falls;
  within = λ k here. (r.steps k here).within;
  behind = w.inside;
  passed = λ k here. w.raced i k here;
}

-- ---- skips of a longer run, and of more links

-- a skip stays one when links are added, and one more step
pub skip_more : (run : List Footprint) (n : ℕ) (links links' : List Link) (skip : ℕ × ℕ × List Access) → AreLinks links → AreLonger links links' → IsSkip run n links skip → IsSkip run (n + 1) links' skip
skip_more run n links links' skip a longer s =
    record {
      inside = let le = s.inside in let long = ap length longer.1 in omega (arith, le, long, length-append links longer.0);
      falls = s.falls;
      within = λ k r. let lt = s.within k (down k skip.0 s.inside r) in let is = same k (down k skip.0 s.inside r) in omega (arith, lt, is);
      behind = λ k r. up k skip.0 s.inside (s.behind k (down k skip.1 low r));
      passed = λ k r.
          elim (s.passed k (down k skip.0 s.inside r)) [
            | inl rest ↦ inl (up k skip.1 low rest)
            | inr race ↦ inr (subst (λ (q : ℕ). RacesBy run q skip.2) (sym (same k (down k skip.0 s.inside r))) race)
          ];
    }
  where
    low : skip.1 ≤ length links
    low = let one = s.falls in let two = s.inside in omega (arith, one, two)

    down : (k at : ℕ) → at ≤ length links → IsIn links' k at → IsIn links k at
    down k at le r = in_less links longer.0 a (subst (λ (l : List Link). IsIn l k at) longer.1 r) le

    up : (k at : ℕ) → at ≤ length links → IsIn links k at → IsIn links' k at
    up k at le r = subst (λ (l : List Link). IsIn l k at) (sym longer.1) (in_more links longer.0 a r le)

    same : (k : ℕ) → IsIn links k skip.0 → step_of links' k ≡ step_of links k
    same k r =
        let under = in_low links a r s.inside in
        let le = s.inside in
        ap (λ (l : List Link). step_of l k) longer.1 ∙ ap (λ (l : Link). l.step) (link_left links longer.0 a k (omega (arith, under, le)))

pub skips_more : (run : List Footprint) (n : ℕ) (links links' : List Link) (skips : List (ℕ × ℕ × List Access)) → AreLinks links → AreLonger links links' → AreSkips run n links skips → AreSkips run (n + 1) links' skips
skips_more run n links links' skips a longer all = λ x lt. skip_more run n links links' (skip_at skips x) a longer (all x lt)

-- the skips of a run without its last steps
pub skips_longer : (run : List Footprint) (n : ℕ) (links : List Link) (skips : List (ℕ × ℕ × List Access)) → AreSkips (take n run) n links skips → AreSkips run n links skips
skips_longer run n links skips all = λ x lt.
    let s = all x lt in
    record {
      inside = s.inside;
      falls = s.falls;
      within = s.within;
      behind = s.behind;
      passed = λ k r. elim (s.passed k r) [
        | inl rest ↦ inl rest
        | inr race ↦ inr (ap (λ (f : Footprint). some_race f.accesses (skip_at skips x).2) (sym (get_or-take n run (step_of links k) no_step (s.within k r))) ∙ race)
      ];
    }
