-- Spans in order: how they are made, which accesses touch them, and which places of a shelf they reach.
use Rattle.mr_clocks.proofs.Common.{◌≡◌, ℕ, ◌+◌, ◌-◌, ◌<◌, ◌≤◌, ◌^◌, ◌⊎◌, inl, inr, List, [], ◌∷◌, ◌++◌, Bool, true, false, length, length-append, get_or, max, refl, sym, ◌∙◌, ap, subst, arith, cond, ◌||◌, nat_lt, Contains, list_any, and_parts, get_or_append_left, get_or_default, get_or_push, Any-from_list_any, ℕ_discrete, Access, conflicts, overlaps, Span, AreSpansFor, IsReached, span_at}
use Rattle.std.specs.Ordering.{is_lt, nat_cmp, ord_max}
use Rattle.std.specs.declared.cmp.Ordering.{Ordering}
use Rattle.std.specs.declared.cmp.Ordering.TheVariants.{Less, Equal, Greater}
use Rattle.std.proofs.lemmas.Cmp.{ranked}
use Rattle.std.specs.List.Sorted.{IsNonDecreasingBy}
use Rattle.std.proofs.lemmas.List.Sorted.{IsNonDecreasingBy-push, IsNonDecreasingBy-short}
use Rattle.mr_base.proofs.Comparisons.{below_or, lt_from}
use Rattle.mr_clocks.specs.Spans.{AreRising, IsSpanned, last_of, no_span}

-- ---- what it says that two accesses overlap, and that they conflict

pub record Overlap (a b : Access) : Type 0 where
  pub some : 0 < a.len
  pub other : 0 < b.len
  pub low : a.addr < b.addr + b.len
  pub high : b.addr < a.addr + a.len

pub overlap : (a b : Access) → overlaps a b ≡ true → Overlap a b
overlap a b h =
    let p = and_parts _ _ h in
    let q = and_parts _ _ p.1 in
    let r = and_parts _ _ q.1 in
    record { some = lt_from _ _ p.0; other = lt_from _ _ q.0; low = lt_from _ _ r.0; high = lt_from _ _ r.1 }

-- one of the accesses conflicts with another, which it overlaps; where that one loads, it stores
pub record Rival (a : Access) (accesses : List Access) : Type 0 where
  pub is : Access
  pub among : Contains accesses is
  pub meets : overlaps a is ≡ true
  pub stored : a.store ≡ false → is.store ≡ true

pub rival : (a : Access) (accesses : List Access) → list_any (conflicts a) accesses ≡ true → Rival a accesses
rival a accesses h =
    let any = Any-from_list_any (conflicts a) accesses h in
    let b = any.1 in
    let p = and_parts (a.store || b.store) (overlaps a b) any.4 in
    record {
      is = b;
      among = (any.0, any.2, any.3);
      meets = p.1;
      stored = λ no. sym (ap (λ q. q || b.store) no) ∙ p.0;
    }

-- ---- spans that are made to rise

-- the greater of two numbers, as the code finds it
pub greater : (a b : ℕ) → ord_max nat_cmp a b ≡ max a b
greater a b = by_order (nat_cmp b a) refl
  where
    by_order : (o : Ordering) → o ≡ nat_cmp b a → cond (is_lt o) a b ≡ max a b
    by_order Less e = let less : b < a = ranked b a Less e in omega arith
    by_order Equal e = let same : b ≡ a = ranked b a Equal e in omega arith
    by_order Greater e = let more : a < b = ranked b a Greater e in omega arith

-- spans made of the first i others, up to where these end
pub record IsRisen (spans all : List Span) (i top : ℕ) : Type 0 where
  pub many : length all ≡ i
  pub rising : AreRising all
  pub below : (z : ℕ) → z < i → (span_at all z).last ≤ top
  pub firsts : (z : ℕ) → z < i → (span_at all z).first ≡ (span_at spans z).first
  pub lasts : (z : ℕ) → z < i → (span_at spans z).last ≤ (span_at all z).last

pub risen_none : (spans all : List Span) (top : ℕ) → all ≡ [] → IsRisen spans all 0 top
risen_none spans all top none =
    let empty : length all ≡ 0 = ap length none in
    record {
      many = empty;
      rising = record {
        firsts = IsNonDecreasingBy-short (λ (s : Span). s.first) all (omega (arith, empty));
        lasts = IsNonDecreasingBy-short (λ (s : Span). s.last) all (omega (arith, empty));
      };
      below = λ z lt. absurd (omega (arith, lt));
      firsts = λ z lt. absurd (omega (arith, lt));
      lasts = λ z lt. absurd (omega (arith, lt));
    }

-- what holds of the last of them holds of it by whatever stands past the end
last_by : (n : Span → ℕ) (all : List Span) (d : Span) (m : ℕ) → 0 < length all → n (span_at all (length all - 1)) ≤ m → n (get_or all (length all - 1) d) ≤ m
last_by n all d m some le = subst (λ (s : Span). n s ≤ m) (get_or_default all (length all - 1) no_span d (omega (arith, some))) le

pub risen_more : (spans all new : List Span) (i top next : ℕ) (span : Span) → IsNonDecreasingBy (λ (s : Span). s.first) spans → i < length spans → span_at spans i ≡ span
    → next ≡ max top span.last → new ≡ all ++ (record { first = span.first; last = next }) ∷ [] → IsRisen spans all i top → IsRisen spans new (i + 1) next
risen_more spans all new i top next span up inside is next_is pushed r =
    record {
      many = let long = ap length pushed in omega (arith, many, long, length-append all (made ∷ []));
      rising = subst AreRising (sym pushed) (record {
        firsts = IsNonDecreasingBy-push (λ (s : Span). s.first) all made r.rising.firsts (λ d some. last_by (λ (s : Span). s.first) all d made.first some (first_below some));
        lasts = IsNonDecreasingBy-push (λ (s : Span). s.last) all made r.rising.lasts (λ d some. last_by (λ (s : Span). s.last) all d made.last some (last_below some));
      });
      below = λ z lt. elim (ℕ_discrete z i) [
        | yes here ↦ let same = ap (λ (s : Span). s.last) (at_new z here) in omega (arith, same)
        | no ne ↦
            let old : z < i = omega (arith, lt, ne) in
            let same = ap (λ (s : Span). s.last) (at_old z old) in
            let low = r.below z old in
            omega (arith, same, low, next_is)
      ];
      firsts = λ z lt. elim (ℕ_discrete z i) [
        | yes here ↦ ap (λ (s : Span). s.first) (at_new z here) ∙ ap (λ (s : Span). s.first) (sym is) ∙ ap (λ (q : ℕ). (span_at spans q).first) (sym here)
        | no ne ↦ let old : z < i = omega (arith, lt, ne) in ap (λ (s : Span). s.first) (at_old z old) ∙ r.firsts z old
      ];
      lasts = λ z lt. elim (ℕ_discrete z i) [
        | yes here ↦
            let same = ap (λ (s : Span). s.last) (at_new z here) in
            let own = ap (λ (q : ℕ). (span_at spans q).last) here ∙ ap (λ (s : Span). s.last) is in
            omega (arith, same, own, next_is)
        | no ne ↦
            let old : z < i = omega (arith, lt, ne) in
            let same = ap (λ (s : Span). s.last) (at_old z old) in
            let low = r.lasts z old in
            omega (arith, same, low)
      ];
    }
  where
    made : Span
    made = record { first = span.first; last = next }

    many : length all ≡ i
    many = r.many

    at_new : (z : ℕ) → z ≡ i → span_at new z ≡ made
    at_new z here = ap (λ (l : List Span). span_at l z) pushed ∙ get_or_push all made no_span z (many ∙ sym here)

    at_old : (z : ℕ) → z < i → span_at new z ≡ span_at all z
    at_old z old = ap (λ (l : List Span). span_at l z) pushed ∙ get_or_append_left all (made ∷ []) no_span z (omega (arith, old, many))

    first_below : 0 < length all → (span_at all (length all - 1)).first ≤ span.first
    first_below some =
        let same = r.firsts (length all - 1) (omega (arith, some, many)) in
        let le = up (length all - 1) i no_span (omega (arith, many)) inside in
        let own = ap (λ (s : Span). s.first) is in
        omega (arith, same, le, own)

    last_below : 0 < length all → (span_at all (length all - 1)).last ≤ next
    last_below some = let low = r.below (length all - 1) (omega (arith, some, many)) in omega (arith, low, next_is)

pub risen_all : (spans all : List Span) (i top : ℕ) → IsRisen spans all i top → length spans ≤ i → (s : Span) → Contains spans s → IsSpanned all s.first s.last
risen_all spans all i top r long s c =
    let k = c.0 in
    let inside = c.1 in
    let many = r.many in
    let is : span_at spans k ≡ s = get_or_default spans k no_span s inside ∙ c.2 in
    let old : k < i = omega (arith, inside, long) in
    record {
      span = k;
      within = omega (arith, old, many);
      begins = let same = r.firsts k old in let own = ap (λ (q : Span). q.first) is in omega (arith, same, own);
      ends = let low = r.lasts k old in let own = ap (λ (q : Span). q.last) is in omega (arith, low, own);
    }

-- ---- what touches them

-- where one of the spans has an address of an access, the first one that doesn't end before it begins soon enough
pub touch_found : (spans : List Span) (a b : Access) (point : ℕ) → AreRising spans → a.addr < 2 ^ 64 → IsSpanned spans b.addr (last_of b) → overlaps a b ≡ true
    → ((k : ℕ) (d : Span) → k < length spans → k < point → nat_lt (get_or spans k d).last a.addr ≡ true)
    → (point < length spans) × ((span_at spans point).first ≤ b.addr) × (b.addr < a.addr + a.len)
touch_found spans a b point up small s meets before =
    let o = overlap a b meets in
    let low = o.low in
    let k = s.span in
    let inside : k < length spans = s.within in
    let ends : last_of b ≤ (span_at spans k).last = s.ends in
    let begins : (span_at spans k).first ≤ b.addr = s.begins in
    let behind : point ≤ k = elim (below_or k point) [
      | inl less ↦ let short : (span_at spans k).last < a.addr = lt_from _ _ (before k no_span inside less) in absurd (omega (arith, short, ends, low, small))
      | inr more ↦ more
    ] in
    let first = up.firsts point k no_span behind inside in
    (omega (arith, behind, inside), omega (arith, first, begins), o.high)

-- ---- the places of a shelf that they reach

-- one more span, of which only those places are left that the one before doesn't reach
pub swept_more : (spans : List Span) (width i : ℕ) (P Q : ℕ → Type 0) → AreRising spans → i < length spans
    → ((p : ℕ) → P p → Q p)
    → ((p : ℕ) → IsReached spans width i p → (0 < i → (span_at spans (i - 1)).last < p) → Q p)
    → ((z p : ℕ) → z < i → IsReached spans width z p → P p)
    → (z p : ℕ) → z < i + 1 → IsReached spans width z p → Q p
swept_more spans width i P Q up inside kept here old z p lt reach =
    elim (ℕ_discrete z i) [
      | no ne ↦ kept p (old z p (omega (arith, lt, ne)) reach)
      | yes is ↦ at_last (subst (λ (q : ℕ). IsReached spans width q p) is reach) (below_or 0 i)
    ]
  where
    at_last : IsReached spans width i p → (0 < i) ⊎ (i ≤ 0) → Q p
    at_last there (inr none) = here p there (λ some. absurd (omega (arith, some, none)))
    at_last there (inl some) =
        elim (below_or (span_at spans (i - 1)).last p) [
          | inl past ↦ here p there (λ _. past)
          | inr before ↦
              let from = there.0 in
              let rise = up.firsts (i - 1) i no_span (omega arith) inside in
              kept p (old (i - 1) p (omega (arith, some)) (omega (arith, from, rise), before))
        ]

-- a range that conflicts with one of the accesses begins where one of the spans reaches
pub reached : (accesses : List Access) (every : Bool) (spans : List Span) (r : Access) (width : ℕ) → AreSpansFor accesses every spans → r.len ≤ width → r.addr < 2 ^ 64
    → (every ≡ false → r.store ≡ false) → list_any (conflicts r) accesses ≡ true → (k : ℕ) × (k < length spans) × IsReached spans width k r.addr
reached accesses every spans r width for narrow small loads con =
    let v = rival r accesses con in
    let b = v.is in
    let o = overlap r b v.meets in
    let low = o.low in
    let high = o.high in
    let s = for.each b v.among o.other (λ none. v.stored (loads none)) in
    let begins : (span_at spans s.span).first ≤ b.addr = s.begins in
    let ends : last_of b ≤ (span_at spans s.span).last = s.ends in
    (s.span, s.within, (omega (arith, begins, high, narrow), omega (arith, ends, low, small)))
