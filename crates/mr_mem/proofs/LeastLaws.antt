-- The least identity with a property: there is one at most, and where it is found among ranges and among spans.
use Rattle.mr_mem.proofs.Common.{◌≡◌, ℕ, refl, sym, ap, ◌∙◌, subst, [], ◌∷◌, Bool, true, false, cond, and_parts, true≢false, none-some, same_Some, Option, Some, None, IsSomeAnd, fold, below_all, is_sorted, find, AllByRecursion, tied_itself, is_eq, is_lt, nat_cmp, Ordering, Less, Equal, Greater, is_meeting, AllocId, Span, Range, Ranges, first_overlapped, id_cmp, IsLeast, Taken, lesser_of, span_at}
use Rattle.std.specs.BTreeMap.{is_at}
use Rattle.mr_mem.proofs.Identities.{id_exact, id_rank, id_total, is_less, none_less, not_less, turned_round}

-- two properties of the same identities have one least identity
pub least_same : (P Q : AllocId → Type 0) → ((id : AllocId) → P id → Q id) → ((id : AllocId) → Q id → P id)
    → (a b : Option AllocId) → IsLeast P a → IsLeast Q b → a ≡ b
least_same P Q to from None None h k = refl
least_same P Q to from None (Some y) h k = absurd (h.least y (from y (k.has y refl)))
least_same P Q to from (Some x) None h k = absurd (k.least x (to x (h.has x refl)))
least_same P Q to from (Some x) (Some y) h k =
    ap (λ (z : AllocId). Some z) (none_less x y (k.least x (to x (h.has x refl))) (h.least y (from y (k.has y refl))))

-- ---- among ranges, in the order of their identities

-- an identity has a range that shares an address with another
abbrev pub IsShared : Ranges → ℕ → ℕ → AllocId → Type 0
IsShared rs addr size id = (r : Range) × (find id_cmp id rs ≡ Some r) × (is_meeting addr size r.addr r.size ≡ true)

-- what is found behind an identity is above it
found_above : (x : AllocId) (rs : Ranges) → below_all id_cmp x rs ≡ true → (q : AllocId) (r : Range) → find id_cmp q rs ≡ Some r → id_cmp x q ≡ Less
found_above x [] h q r e = absurd (none-some r e)
found_above x (f ∷ fs) h q r e =
    let p = and_parts (is_lt (id_cmp x f.0)) (below_all id_cmp x fs) h in
    by_order p.0 (found_above x fs p.1 q r) (id_cmp q f.0) refl e
  where
    by_order : is_lt (id_cmp x f.0) ≡ true → (find id_cmp q fs ≡ Some r → id_cmp x q ≡ Less) → (o : Ordering) → id_cmp q f.0 ≡ o
        → cond (is_eq o) (Some f.1) (find id_cmp q fs) ≡ Some r → id_cmp x q ≡ Less
    by_order below more Less is k = more k
    by_order below more Equal is k = subst (λ (y : AllocId). id_cmp x y ≡ Less) (sym (id_exact q f.0 is)) (is_less (id_cmp x f.0) below)
    by_order below more Greater is k = more k

first_has : (addr size : ℕ) (rs : Ranges) → is_sorted id_cmp rs ≡ true → (id : AllocId) → first_overlapped addr size rs ≡ Some id → IsShared rs addr size id
first_has addr size [] h id e = absurd (none-some id e)
first_has addr size (x ∷ rs) h id e =
    let p = and_parts (below_all id_cmp x.0 rs) (is_sorted id_cmp rs) h in
    by_test p.0 (first_has addr size rs p.1 id) (is_meeting addr size x.1.addr x.1.size) refl e
  where
    here : x.0 ≡ id → find id_cmp id (x ∷ rs) ≡ Some x.1
    here is =
        ap (λ (q : AllocId). find id_cmp q (x ∷ rs)) (sym is)
        ∙ ap (λ (o : Ordering). cond (is_eq o) (Some x.1) (find id_cmp x.0 rs)) (tied_itself id_total x.0)

    later : below_all id_cmp x.0 rs ≡ true → IsShared rs addr size id → IsShared (x ∷ rs) addr size id
    later below s =
        (s.0, ap (λ (o : Ordering). cond (is_eq o) (Some x.1) (find id_cmp id rs)) (turned_round x.0 id (found_above x.0 rs below id s.0 s.1)) ∙ s.1, s.2)

    by_test : below_all id_cmp x.0 rs ≡ true → (first_overlapped addr size rs ≡ Some id → IsShared rs addr size id) → (b : Bool) → is_meeting addr size x.1.addr x.1.size ≡ b
        → cond b (Some x.0) (first_overlapped addr size rs) ≡ Some id → IsShared (x ∷ rs) addr size id
    by_test below more true meets k = (x.1, here (same_Some x.0 id k), meets)
    by_test below more false meets k = later below (more k)

first_below : (addr size : ℕ) (rs : Ranges) → is_sorted id_cmp rs ≡ true → (id : AllocId) → IsShared rs addr size id
    → IsSomeAnd (first_overlapped addr size rs) (λ k. is_lt (id_cmp id k) ≡ false)
first_below addr size [] h id s = absurd (none-some s.0 s.1)
first_below addr size (x ∷ rs) h id s =
    let p = and_parts (below_all id_cmp x.0 rs) (is_sorted id_cmp rs) h in
    by_test p.0 (first_below addr size rs p.1 id) (is_meeting addr size x.1.addr x.1.size) refl
  where
    not_below : below_all id_cmp x.0 rs ≡ true → (o : Ordering) → id_cmp id x.0 ≡ o → cond (is_eq o) (Some x.1) (find id_cmp id rs) ≡ Some s.0 → is_lt o ≡ false
    not_below below Less is k = absurd (true≢false (ap is_lt (sym is ∙ turned_round x.0 id (found_above x.0 rs below id s.0 k))))
    not_below below Equal is k = refl
    not_below below Greater is k = refl

    later : is_meeting addr size x.1.addr x.1.size ≡ false → (o : Ordering) → id_cmp id x.0 ≡ o → cond (is_eq o) (Some x.1) (find id_cmp id rs) ≡ Some s.0 → IsShared rs addr size id
    later apart Less is k = (s.0, k, s.2)
    later apart Equal is k =
        absurd (true≢false (sym s.2 ∙ ap (λ (r : Range). is_meeting addr size r.addr r.size) (sym (same_Some x.1 s.0 k)) ∙ apart))
    later apart Greater is k = (s.0, k, s.2)

    by_test : below_all id_cmp x.0 rs ≡ true → (IsShared rs addr size id → IsSomeAnd (first_overlapped addr size rs) (λ k. is_lt (id_cmp id k) ≡ false)) → (b : Bool)
        → is_meeting addr size x.1.addr x.1.size ≡ b → IsSomeAnd (cond b (Some x.0) (first_overlapped addr size rs)) (λ k. is_lt (id_cmp id k) ≡ false)
    by_test below more true meets = not_below below (id_cmp id x.0) refl s.1
    by_test below more false apart = more (later apart (id_cmp id x.0) refl s.1)

-- the first range that is overlapped has the least identity of those that are
pub first_least : (addr size : ℕ) (rs : Ranges) → is_sorted id_cmp rs ≡ true → IsLeast (IsShared rs addr size) (first_overlapped addr size rs)
first_least addr size rs h = record { has = first_has addr size rs h; least = first_below addr size rs h }

-- ---- among spans, one after another

-- the least of an identity that was found, and that of a span
abbrev pub least_with : Option AllocId → ℕ × Span → Option AllocId
least_with found e = Some (lesser_of found e.1.id)

lesser_first : (k i : AllocId) → is_lt (id_cmp k (lesser_of (Some k) i)) ≡ false
lesser_first k i = by_test (is_lt (id_cmp i k)) refl
  where
    by_test : (b : Bool) → is_lt (id_cmp i k) ≡ b → is_lt (id_cmp k (cond b i k)) ≡ false
    by_test true e = id_rank.one_way i k e
    by_test false e = not_less k

lesser_second : (found : Option AllocId) (i : AllocId) → is_lt (id_cmp i (lesser_of found i)) ≡ false
lesser_second None i = not_less i
lesser_second (Some k) i = by_test (is_lt (id_cmp i k)) refl
  where
    by_test : (b : Bool) → is_lt (id_cmp i k) ≡ b → is_lt (id_cmp i (cond b i k)) ≡ false
    by_test true e = not_less i
    by_test false e = e

lesser_has : (P : AllocId → Type 0) (found : Option AllocId) (i : AllocId) → ((id : AllocId) → found ≡ Some id → P id) → P i → P (lesser_of found i)
lesser_has P None i h p = p
lesser_has P (Some k) i h p = by_test (is_lt (id_cmp i k))
  where
    by_test : (b : Bool) → P (cond b i k)
    by_test true = p
    by_test false = h k refl

-- what isn't less than the one that was found isn't less than the one in the end
pub fold_keeps : (es : Taken) (found : Option AllocId) (id : AllocId) → IsSomeAnd found (λ k. is_lt (id_cmp id k) ≡ false)
    → IsSomeAnd (fold least_with found es) (λ k. is_lt (id_cmp id k) ≡ false)
fold_keeps [] found id h = h
fold_keeps (e ∷ es) None id h = absurd h
fold_keeps (e ∷ es) (Some k) id h = fold_keeps es (least_with (Some k) e) id (id_rank.chain id k (lesser_of (Some k) e.1.id) h (lesser_first k e.1.id))

-- nor is that of a span among them
pub fold_reaches : (es : Taken) (found : Option AllocId) (start : ℕ) (s : Span) → span_at es start ≡ Some s
    → IsSomeAnd (fold least_with found es) (λ k. is_lt (id_cmp s.id k) ≡ false)
fold_reaches [] found start s f = absurd (none-some s f)
fold_reaches (e ∷ es) found start s f = by_test (fold_reaches es (least_with found e) start s) (is_at (nat_cmp start) e.0) f
  where
    by_test : (span_at es start ≡ Some s → IsSomeAnd (fold least_with (least_with found e) es) (λ k. is_lt (id_cmp s.id k) ≡ false)) → (b : Bool)
        → cond b (Some e.1) (span_at es start) ≡ Some s → IsSomeAnd (fold least_with (least_with found e) es) (λ k. is_lt (id_cmp s.id k) ≡ false)
    by_test more true k =
        fold_keeps es (least_with found e) s.id (subst (λ (u : Span). is_lt (id_cmp u.id (lesser_of found e.1.id)) ≡ false) (same_Some e.1 s k) (lesser_second found e.1.id))
    by_test more false k = more k

-- a property of the one that was found, and of those of the spans, is one of the one in the end
pub fold_has : (P : AllocId → Type 0) (es : Taken) (found : Option AllocId) → ((id : AllocId) → found ≡ Some id → P id)
    → AllByRecursion (λ (e : ℕ × Span). P e.1.id) es → (id : AllocId) → fold least_with found es ≡ Some id → P id
fold_has P [] found h each id e = h id e
fold_has P (x ∷ es) found h each id e =
    fold_has P es (least_with found x) (λ q k. subst P (same_Some (lesser_of found x.1.id) q k) (lesser_has P found x.1.id h each.0)) each.1 id e
