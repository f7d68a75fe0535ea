-- Spans that are apart: what adding and taking away one keeps, and which of them a range overlaps.
use Rattle.mr_mem.proofs.Common.{◌≡◌, ◌≢◌, ℕ, ◌+◌, ◌-◌, ◌<◌, ◌⊎◌, inl, inr, refl, sym, ap, ◌∙◌, subst, arith, [], ◌∷◌, true, false, cond, true≢false, false_from_ne_true, none-some, same_Some, Option, Some, None, IsSome, IsSomeAnd, fold, nat_cmp_total, AllByRecursion, is_lt, nat_cmp, Less, is_meeting, AllocId, Span, id_cmp, IsFree, IsLeast, IsOverlapped, Puts, Taken, span_at}
use Rattle.std.proofs.Common.{◌≤◌, ◌++◌}
use Rattle.std.proofs.lemmas.Bool.{cases_eq}
use Rattle.std.proofs.lemmas.List.Elements.{All-weaker, recursion_from_All}
use Rattle.std.proofs.lemmas.Map.Entries.{lookup-filter-keys}
use Rattle.std.proofs.lemmas.Map.Keys.{ge_from_not_lt, le_from_not_gt}
use Rattle.std.proofs.lemmas.Map.Views.{range_contains-from_IsInRange}
use Rattle.std.proofs.lemmas.Option.{cond_some}
use Rattle.std.specs.BTreeMap.{BTreeMap, is_at}
use Rattle.std.specs.BTreeMap.Range.{IsEntryInRange, IsInRange, IsRangeOf, entries_between, range_contains}
use Rattle.std.specs.Cmp.{Equal-is, nat_cmp_is, ranked}
use Rattle.std.specs.FinMap.{nat_cmp-IsAntisymmetric}
use Rattle.std.specs.declared.ops.Bound.TheVariants.{Included, Excluded, Unbounded}
use Rattle.mr_base.proofs.Comparisons.{below_or}
use Rattle.mr_mem.specs.Spans.{AreApart, IsSharedBefore}
use Rattle.mr_runs.proofs.FindLaws.{not_greater}
use Rattle.mr_mem.proofs.Identities.{not_less}
use Rattle.mr_mem.proofs.LeastLaws.{fold_has, fold_keeps, fold_reaches, least_with}
use Rattle.mr_mem.proofs.Meetings.{AreSharing, from_meeting, meeting_from, meeting-sym}

-- ---- one span added or taken away

other_key : (a b : ℕ) → b ≢ a → is_at (nat_cmp a) b ≡ false
other_key a b n = false_from_ne_true (is_at (nat_cmp a) b) (λ e. n (sym (nat_cmp-IsAntisymmetric a b ((Equal-is (nat_cmp a b)).0 e))))

-- what a change of the program's map at one key says
pub puts_from : (es fs : Taken) (start : ℕ) (s : Option Span) → span_at fs start ≡ s → ((q : ℕ) → is_at (nat_cmp start) q ≡ false → span_at fs q ≡ span_at es q) → Puts es start s fs
puts_from es fs start s h k = record { here = h; others = λ q n. k q (other_key start q n) }

-- a span behind an addition is the new one, or an old one elsewhere
pub which_span : (old new : Taken) (start : ℕ) (s : Span) → Puts old start (Some s) new → (q : ℕ) (t : Span) → span_at new q ≡ Some t
    → ((q ≡ start) × (t ≡ s)) ⊎ ((q ≢ start) × (span_at old q ≡ Some t))
which_span old new start s p q t e =
    elim (cases_eq q start) [
      | inl is ↦ inl (is, same_Some t s (sym e ∙ ap (λ (k : ℕ). span_at new k) is ∙ p.here))
      | inr n ↦ inr (n, sym (p.others q n) ∙ e)
    ]

pub apart_added : (old new : Taken) (start : ℕ) (s : Span) → AreApart old → 0 < s.size → IsFree old start s.size → Puts old start (Some s) new → AreApart new
apart_added old new start s h filled free p = record {
  filled = λ q t e. filled_at q t (which_span old new start s p q t e);
  apart = λ q r t u e f n. apart_at q r t u n (which_span old new start s p q t e) (which_span old new start s p r u f);
}
  where
    filled_at : (q : ℕ) (t : Span) → ((q ≡ start) × (t ≡ s)) ⊎ ((q ≢ start) × (span_at old q ≡ Some t)) → 0 < t.size
    filled_at q t (inl a) = subst (λ (u : Span). 0 < u.size) (sym a.1) filled
    filled_at q t (inr a) = h.filled q t a.1

    apart_at : (q r : ℕ) (t u : Span) → q ≢ r → ((q ≡ start) × (t ≡ s)) ⊎ ((q ≢ start) × (span_at old q ≡ Some t)) → ((r ≡ start) × (u ≡ s)) ⊎ ((r ≢ start) × (span_at old r ≡ Some u))
        → is_meeting q t.size r u.size ≡ false
    apart_at q r t u n (inl a) (inl b) = absurd (n (a.0 ∙ sym b.0))
    apart_at q r t u n (inl a) (inr b) =
        let same : is_meeting q t.size r u.size ≡ is_meeting start s.size r u.size = λ i. is_meeting (a.0 i) (a.1 i).size r u.size in
        same ∙ free r u b.1
    apart_at q r t u n (inr a) (inl b) =
        let same : is_meeting r u.size q t.size ≡ is_meeting start s.size q t.size = λ i. is_meeting (b.0 i) (b.1 i).size q t.size in
        meeting-sym r u.size q t.size (same ∙ free q t a.1)
    apart_at q r t u n (inr a) (inr b) = h.apart q r t u a.1 b.1 n

pub apart_removed : (old new : Taken) (start : ℕ) → AreApart old → Puts old start None new → AreApart new
apart_removed old new start h p = record {
  filled = λ q t e. h.filled q t (still q t e (cases_eq q start));
  apart = λ q r t u e f n. h.apart q r t u (still q t e (cases_eq q start)) (still r u f (cases_eq r start)) n;
}
  where
    still : (q : ℕ) (t : Span) → span_at new q ≡ Some t → (q ≡ start) ⊎ (q ≢ start) → span_at old q ≡ Some t
    still q t e (inl is) = absurd (none-some t (sym p.here ∙ ap (λ (k : ℕ). span_at new k) (sym is) ∙ e))
    still q t e (inr n) = sym (p.others q n) ∙ e

-- added and taken away again, all is as before
pub undone : (old with_it new : Taken) (start : ℕ) (s : Span) → span_at old start ≡ None → Puts old start (Some s) with_it → Puts with_it start None new
    → (q : ℕ) → span_at new q ≡ span_at old q
undone old with_it new start s none p r q =
    elim (cases_eq q start) [
      | inl is ↦ ap (λ (k : ℕ). span_at new k) is ∙ r.here ∙ sym none ∙ ap (λ (k : ℕ). span_at old k) (sym is)
      | inr n ↦ r.others q n ∙ p.others q n
    ]

-- ---- a range without an address

pub none_overlapped : (taken : Taken) (addr size : ℕ) → size ≡ 0 → IsLeast (IsOverlapped taken addr size) None
none_overlapped taken addr size e = record {
  has = λ id f. absurd (none-some id f);
  least = λ id o. let sharing = from_meeting addr size o.0 o.1.size o.4 in let filled : 0 < size = sharing.filled in absurd (omega arith);
}

-- ---- the span below a range

module _ (m : BTreeMap ℕ Span) (addr size : ℕ) (apart : AreApart m.entries) (r : Taken) (within : IsRangeOf nat_cmp Unbounded (Excluded addr) m r) where
  under : (q : ℕ) → q < addr → IsInRange nat_cmp Unbounded (Excluded addr) q
  under q lt = (tt, sym (nat_cmp_is q addr Less lt))

  pub none_before : r ≡ [] → IsSharedBefore m.entries addr size None
  none_before empty = record {
    has = λ id e. absurd (none-some id e);
    reaching = λ start s f lt meets. absurd (none-some s (sym (within.5 empty start (under start lt)) ∙ f));
  }

  -- no span but the last below the range reaches it
  no_other : (t : Taken) (e : ℕ × Span) → r ≡ t ++ e ∷ [] → (start : ℕ) (s : Span) → span_at m.entries start ≡ Some s → start < addr
      → is_meeting addr size start s.size ≡ true → start ≢ e.0 → ⊥
  no_other t e split start s f lt meets n =
      let inside = within.3 e t split in
      let last : e.0 < addr = ranked e.0 addr Less (sym inside.0.1) in
      let most : start ≤ e.0 = ge_from_not_lt e.0 start (within.4 e t split start (under start lt) (subst IsSome (sym f) refl)) in
      let sharing = from_meeting addr size start s.size meets in
      let reach : addr < start + s.size = sharing.before in
      let own : 0 < s.size = sharing.other_filled in
      let other : 0 < e.1.size = apart.filled e.0 e.1 inside.1 in
      let less : start < e.0 = omega arith in
      let both : AreSharing start s.size e.0 e.1.size = record { filled = own; other_filled = other; before = omega arith; behind = omega arith } in
      true≢false (sym (meeting_from start s.size e.0 e.1.size both) ∙ apart.apart start e.0 s e.1 f inside.1 n)

  pub last_before : (t : Taken) (e : ℕ × Span) → r ≡ t ++ e ∷ [] → (found : Option AllocId) → found ≡ cond (is_meeting addr size e.0 e.1.size) (Some e.1.id) None
      → IsSharedBefore m.entries addr size found
  last_before t e split found is = record {
    has = λ id k. let p = cond_some (is_meeting addr size e.0 e.1.size) e.1.id id (sym is ∙ k) in (e.0, e.1, (within.3 e t split).1, p.1, p.0);
    reaching = λ start s f lt meets. reaches start s f lt meets (cases_eq start e.0);
  }
    where
      reaches : (start : ℕ) (s : Span) → span_at m.entries start ≡ Some s → start < addr → is_meeting addr size start s.size ≡ true
          → (start ≡ e.0) ⊎ (start ≢ e.0) → found ≡ Some s.id
      reaches start s f lt meets (inl same) =
          let alike : s ≡ e.1 = same_Some s e.1 (sym f ∙ ap (λ (q : ℕ). span_at m.entries q) same ∙ (within.3 e t split).1) in
          let as_last : is_meeting addr size e.0 e.1.size ≡ is_meeting addr size start s.size = λ i. is_meeting addr size (sym same i) (sym alike i).size in
          is ∙ ap (λ b. cond b (Some e.1.id) None) (as_last ∙ meets) ∙ ap (λ (u : Span). Some u.id) (sym alike)
      reaches start s f lt meets (inr n) = absurd (no_other t e split start s f lt meets n)

-- ---- the spans in a range

module _ (m : BTreeMap ℕ Span) (addr size first last : ℕ) (filled : 0 < size) (is_first : first ≡ addr) (is_last : last ≡ addr + (size - 1)) (apart : AreApart m.entries)
    (r : Taken) (within : IsRangeOf nat_cmp (Included first) (Included last) m r) (all : r ≡ entries_between nat_cmp (Included first) (Included last) m.entries) where
  overlapped : (e : ℕ × Span) → IsEntryInRange nat_cmp (Included first) (Included last) m e → IsOverlapped m.entries addr size e.1.id
  overlapped e inside =
      let from : first ≤ e.0 = le_from_not_gt first e.0 inside.0.0 in
      let to : e.0 ≤ last = le_from_not_gt e.0 last inside.0.1 in
      let other : 0 < e.1.size = apart.filled e.0 e.1 inside.1 in
      let both : AreSharing addr size e.0 e.1.size = record { filled = filled; other_filled = other; before = omega arith; behind = omega arith } in
      (e.0, e.1, inside.1, refl, meeting_from addr size e.0 e.1.size both)

  all_overlapped : AllByRecursion (λ (e : ℕ × Span). IsOverlapped m.entries addr size e.1.id) r
  all_overlapped =
      recursion_from_All (λ (e : ℕ × Span). IsOverlapped m.entries addr size e.1.id) r
      (All-weaker (λ (e : ℕ × Span). IsEntryInRange nat_cmp (Included first) (Included last) m e) (λ (e : ℕ × Span). IsOverlapped m.entries addr size e.1.id) overlapped r within.0)

  -- a span that begins in the range is among them
  held : (start : ℕ) (s : Span) → span_at m.entries start ≡ Some s → first ≤ start → start ≤ last → span_at r start ≡ Some s
  held start s f low high =
      ap (λ (es : Taken). span_at es start) all
      ∙ lookup-filter-keys (is_at (nat_cmp start)) (range_contains nat_cmp (Included first) (Included last)) true
      (λ k t. subst (λ (q : ℕ). range_contains nat_cmp (Included first) (Included last) q ≡ true) (nat_cmp-IsAntisymmetric start k ((Equal-is (nat_cmp start k)).0 t))
      (range_contains-from_IsInRange nat_cmp_total (Included first) (Included last) start (not_greater first start low, not_greater start last high)))
      m.entries
      ∙ f

  reached : (before : Option AllocId) → IsSharedBefore m.entries addr size before → (start : ℕ) (s : Span) → span_at m.entries start ≡ Some s
      → is_meeting addr size start s.size ≡ true → IsSomeAnd (fold least_with before r) (λ k. is_lt (id_cmp s.id k) ≡ false)
  reached before h start s f meets =
      elim (below_or start addr) [
        | inl lt ↦ fold_keeps r before s.id (subst (λ (o : Option AllocId). IsSomeAnd o (λ k. is_lt (id_cmp s.id k) ≡ false)) (sym (h.reaching start s f lt meets)) (not_less s.id))
        | inr ge ↦
            let sharing = from_meeting addr size start s.size meets in
            let behind : start < addr + size = sharing.behind in
            let low : first ≤ start = omega arith in
            let high : start ≤ last = omega arith in
            fold_reaches r before start s (held start s f low high)
      ]

  -- the least of what reaches the range from below and of what begins in it
  pub least_found : (before : Option AllocId) → IsSharedBefore m.entries addr size before → IsLeast (IsOverlapped m.entries addr size) (fold least_with before r)
  least_found before h = record {
    has = fold_has (IsOverlapped m.entries addr size) r before h.has all_overlapped;
    least = λ id o. subst (λ (q : AllocId). IsSomeAnd (fold least_with before r) (λ k. is_lt (id_cmp q k) ≡ false)) o.3 (reached before h o.0 o.1 o.2 o.4);
  }
