-- Tests of accesses, and accesses of two lists that race.
use Rattle.mr_rust_order.proofs.Common.{◌≡◌, ℕ, ◌+◌, ◌<◌, ◌≤◌, ◌⊎◌, List, [], ◌∷◌, ◌++◌, length, take, get_or, Bool, true, false, not, sym, ap, ◌∙◌, subst, inl, inr, arith, dec_lt, ◌&&◌, ◌||◌, nat_le, Contains, list_any, and_from, and_parts, both_ways, le-leb, leb-true, lt-ltb, ltb-true, or_left, get_or_append_left, get_or_push, length_push, take_more, Access, conflicts, overlaps, races, some_conflict, some_race, counts, is_load, has_byte, is_atomic_load, is_atomic_store, is_plain_store, is_store}
use Rattle.std.specs.Prelude.{nat_lt}
use Rattle.std.proofs.lemmas.Bool.{cases_lt, le-ltb, lt-leb}
use Rattle.std.proofs.lemmas.List.Elements.{Contains-append_left, Contains-push}
use Rattle.std.proofs.lemmas.List.Folds.{Any-from_list_any, list_any_at}

-- two lists have accesses that conflict
pub conflict_found : (xs ys : List Access) → some_conflict xs ys ≡ true
    → (a : Access) × Contains xs a × ((b : Access) × Contains ys b × (conflicts a b ≡ true))
unfolding some_conflict
conflict_found xs ys h =
    let one = Any-from_list_any (λ (x : Access). list_any (conflicts x) ys) xs h in
    let two = Any-from_list_any (conflicts one.1) ys one.4 in
    (one.1, (one.0, one.2, one.3), (two.1, (two.0, two.2, two.3), two.4))

-- two lists have accesses that race
pub race_found : (xs ys : List Access) → some_race xs ys ≡ true → (a : Access) × Contains xs a × ((b : Access) × Contains ys b × (races a b ≡ true))
unfolding some_race
race_found xs ys h =
    let one = Any-from_list_any (λ (x : Access). list_any (races x) ys) xs h in
    let two = Any-from_list_any (races one.1) ys one.4 in
    (one.1, (one.0, one.2, one.3), (two.1, (two.0, two.2, two.3), two.4))

pub race_there : (xs ys : List Access) (a b : Access) → Contains xs a → Contains ys b → races a b ≡ true → some_race xs ys ≡ true
unfolding some_race
race_there xs ys a b i k h =
    list_any_at (λ (x : Access). list_any (races x) ys) xs i.0 a i.1
    (ap (λ (x : Access). list_any (races x) ys) i.2 ∙ list_any_at (races a) ys k.0 b k.1 (ap (races a) k.2 ∙ h))

pub race_conflict : (a b : Access) → races a b ≡ true → conflicts a b ≡ true
race_conflict a b h = (and_parts _ _ h).1

-- ---- bytes

pub byte_from : (a : Access) (byte : ℕ) → has_byte a byte ≡ true → (a.addr ≤ byte) × (byte < a.addr + a.len)
byte_from a byte h = let p = and_parts _ _ h in (leb-true a.addr byte p.0, ltb-true byte (a.addr + a.len) p.1)

pub byte_to : (a : Access) (byte : ℕ) → a.addr ≤ byte → byte < a.addr + a.len → has_byte a byte ≡ true
byte_to a byte low high = and_from _ _ (le-leb a.addr byte low) (lt-ltb byte (a.addr + a.len) high)

-- a store to a byte of an access conflicts with it
pub store_conflicts : (r a : Access) (byte : ℕ) → is_store r byte ≡ true → has_byte a byte ≡ true → conflicts r a ≡ true
store_conflicts r a byte s h =
    let p = and_parts r.store (has_byte r byte) s in
    let own = byte_from r byte p.1 in
    let other = byte_from a byte h in
    let low = own.0 in
    let high = own.1 in
    let low' = other.0 in
    let high' = other.1 in
    and_from (r.store || a.store) (overlaps r a) (or_left r.store a.store p.0)
    (and_from _ _ (lt-ltb 0 r.len (omega (arith, low, high)))
    (and_from _ _ (lt-ltb 0 a.len (omega (arith, low', high')))
    (and_from _ _ (lt-ltb r.addr (a.addr + a.len) (omega (arith, low, high'))) (lt-ltb a.addr (r.addr + r.len) (omega (arith, low', high))))))

drop_middle : (s t h : Bool) → (s && t && h) ≡ true → (s && h) ≡ true
drop_middle true true h e = e
drop_middle true false h e = absurd (cc)
drop_middle false t h e = absurd (cc)

pub atomic_is_store : (a : Access) (byte : ℕ) → is_atomic_store a byte ≡ true → is_store a byte ≡ true
atomic_is_store a byte h = drop_middle a.store a.atomic (has_byte a byte) h

pub plain_is_store : (a : Access) (byte : ℕ) → is_plain_store a byte ≡ true → is_store a byte ≡ true
plain_is_store a byte h = drop_middle a.store (not a.atomic) (has_byte a byte) h

pub counted_is_store : (every : Bool) (a : Access) (byte : ℕ) → counts every a byte ≡ true → is_store a byte ≡ true
counted_is_store every a byte h = drop_middle a.store (every || not a.atomic) (has_byte a byte) h

add_middle : (s h : Bool) → (s && h) ≡ true → (s && true && h) ≡ true
add_middle true h e = e
add_middle false h e = absurd (cc)

pub store_is_counted : (a : Access) (byte : ℕ) → is_store a byte ≡ true → counts true a byte ≡ true
store_is_counted a byte h = add_middle a.store (has_byte a byte) h

-- up to the next border a byte belongs to the same ranges
pub same_byte : (a : Access) (byte b next : ℕ) → byte ≤ b → b < next → (byte < a.addr → next ≤ a.addr) → (byte < a.addr + a.len → next ≤ a.addr + a.len)
    → has_byte a b ≡ has_byte a byte
same_byte a byte b next low high first end = ap (λ (t : Bool). t && nat_lt b (a.addr + a.len)) begins ∙ ap (λ (t : Bool). nat_le a.addr byte && t) ends
  where
    begins : nat_le a.addr b ≡ nat_le a.addr byte
    begins = elim (cases_lt byte a.addr) [
      | inl lt ↦ let le = first lt in lt-leb a.addr b (omega (arith, le, high)) ∙ sym (lt-leb a.addr byte lt)
      | inr le ↦ le-leb a.addr b (omega (arith, le, low)) ∙ sym (le-leb a.addr byte le)
    ]

    ends : nat_lt b (a.addr + a.len) ≡ nat_lt byte (a.addr + a.len)
    ends = elim (cases_lt byte (a.addr + a.len)) [
      | inl lt ↦ let le = end lt in lt-ltb b (a.addr + a.len) (omega (arith, le, high)) ∙ sym (lt-ltb byte (a.addr + a.len) lt)
      | inr le ↦ le-ltb b (a.addr + a.len) (omega (arith, le, low)) ∙ sym (le-ltb byte (a.addr + a.len) le)
    ]

-- ---- elements of a list that has one more

pub contains_cases : (xs : List Access) (r a : Access) → Contains (xs ++ r ∷ []) a → Contains xs a ⊎ (r ≡ a)
contains_cases xs r a (k, lt, e) =
    elim (dec_lt k (length xs)) [
      | yes low ↦ inl (k, low, sym (get_or_append_left xs (r ∷ []) a k low) ∙ e)
      | no over ↦
          let long = length_push xs r in
          let at : length xs ≡ k = omega (arith, lt, over, long) in
          inr (sym (get_or_push xs r a k at) ∙ e)
    ]

-- what holds by some of the first accesses, and one more of them
pub some_more : (P : Access → Type 0) (accesses : List Access) (y : ℕ) (d : Access) → y < length accesses → (a : Access) × Contains (take (y + 1) accesses) a × P a
    → ((a : Access) × Contains (take y accesses) a × P a) ⊎ P (get_or accesses y d)
some_more P accesses y d lt s =
    elim (contains_cases (take y accesses) (get_or accesses y d) s.0 (subst (λ (l : List Access). Contains l s.0) (take_more accesses y d lt) s.1)) [
      | inl c ↦ inl (s.0, c, s.2)
      | inr e ↦ inr (subst P (sym e) s.2)
    ]

pub some_wider : (P : Access → Type 0) (accesses : List Access) (y : ℕ) (d : Access) → y < length accesses → (a : Access) × Contains (take y accesses) a × P a
    → (a : Access) × Contains (take (y + 1) accesses) a × P a
some_wider P accesses y d lt s =
    (s.0, subst (λ (l : List Access). Contains l s.0) (sym (take_more accesses y d lt)) (Contains-append_left (take y accesses) (get_or accesses y d ∷ []) s.0 s.1), s.2)

pub some_last : (P : Access → Type 0) (accesses : List Access) (y : ℕ) (d : Access) → y < length accesses → P (get_or accesses y d) → (a : Access) × Contains (take (y + 1) accesses) a × P a
some_last P accesses y d lt p =
    (get_or accesses y d, subst (λ (l : List Access). Contains l (get_or accesses y d)) (sym (take_more accesses y d lt)) (Contains-push (take y accesses) (get_or accesses y d)), p)

-- ---- atomic loads

pub not_loaded : (a : Access) (byte : ℕ) → is_load a ≡ false → is_atomic_load a byte ≡ true → ⊥
not_loaded a byte e f = both_ways (is_load a) e (and_parts (is_load a) (has_byte a byte) f).0

-- what an atomic load loads is each of its bytes
pub loaded_byte : (a : Access) (byte : ℕ) → is_load a ≡ true → is_atomic_load a byte ≡ has_byte a byte
loaded_byte a byte e = ap (λ (t : Bool). t && has_byte a byte) e
