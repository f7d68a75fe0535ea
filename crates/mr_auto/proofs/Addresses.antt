-- An address that is found: it is aligned, behind all that was found before, and none that is bad.
use Rattle.mr_auto.proofs.Common.{◌≡◌, ℕ, ◌<◌, ◌≤◌, ◌+◌, ◌-◌, ◌*◌, ◌/◌, ◌%◌, ◌^◌, refl, ap, ◌∙◌, subst, arith, Bool, true, false, not, Some, None, ◌==◌, nat_lt, if◌then◌else◌, mod-lt, same_Some, address_from, aligned_from, behind_address, behind_bytes, has_address, Chooser, found}
use Rattle.std.proofs.Common.{◌≢◌, ◌&&◌}
use native.Mathlib.Decide.{ℕ_discrete}
use Rattle.std.specs.Prelude.{◌||◌}
use Rattle.std.proofs.Math.Nat.{add-mod_right, mod-add-div', mod-eq_of_lt, mod_self, mul-mod_left}
use Rattle.std.proofs.lemmas.Bool.{ltb-true}
use Rattle.std.proofs.lemmas.Bool.Decides.{nat_tests}
use Rattle.mr_base.specs.Pairs.{is_meeting}
use Rattle.mr_start.specs.MemMemory.{is_bad_address}

-- ---- tests

zero_test : (n : ℕ) → n ≡ 0 → (n == 0) ≡ true
zero_test n h = grind (arith, nat_tests)

not_zero : (n : ℕ) → (n == 0) ≡ false → n ≢ 0
not_zero n h e = let t = zero_test n e in absurd (cc)

other_test : (n : ℕ) → n ≢ 0 → (n == 0) ≡ false
other_test n h = grind (arith, nat_tests)

not_less : (a b : ℕ) → b ≤ a → nat_lt a b ≡ false
not_less a b h = grind (arith, nat_tests)

-- ---- multiples

filled_up : (next r m : ℕ) → r + m ≡ next → r ≡ 0 → next + 0 ≡ m
filled_up next r m e z = omega arith

filled_over : (next r m align : ℕ) → r + m ≡ next → r < align → next + (align - r) ≡ m + align
filled_over next r m align e lt = omega arith

whole_left : (align : ℕ) → align - 0 ≡ align
whole_left align = omega arith

aligned_multiple : (next align : ℕ) → 0 < align → aligned_from next align % align ≡ 0
aligned_multiple next align pos =
    elim (ℕ_discrete (next % align) 0) [
      | yes z ↦
          ap (λ r. (next + (align - r) % align) % align) z
          ∙ ap (λ k. (next + k % align) % align) (whole_left align)
          ∙ ap (λ k. (next + k) % align) (mod_self align)
          ∙ ap (λ k. k % align) (filled_up next (next % align) (next / align * align) (mod-add-div' next align) z)
          ∙ mul-mod_left (next / align) align
      | no d ↦
          let lt : next % align < align = mod-lt next pos in
          let small : align - next % align < align = omega arith in
          ap (λ k. (next + k) % align) (mod-eq_of_lt small)
          ∙ ap (λ k. k % align) (filled_over next (next % align) (next / align * align) align (mod-add-div' next align) lt)
          ∙ add-mod_right (next / align * align) align
          ∙ mul-mod_left (next / align) align
    ]

-- ---- what is found

-- where an allocation ends, by its size
bytes_by : (b : Bool) (addr size : ℕ) → nat_lt 0 size ≡ b → addr + size ≤ addr + (if b then size else 1)
bytes_by true addr size e = omega arith
bytes_by false addr size e = let z : size ≤ 0 = grind (arith, nat_tests) in omega arith

one_by : (b : Bool) (addr size : ℕ) → nat_lt 0 size ≡ b → addr + 1 ≤ addr + (if b then size else 1)
one_by true addr size e = let z : 0 < size = ltb-true 0 size e in omega arith
one_by false addr size e = omega arith

pub bytes_end : (addr size : ℕ) → addr + size ≤ behind_bytes addr size
bytes_end addr size = bytes_by (nat_lt 0 size) addr size refl

pub bytes_behind : (addr size : ℕ) → addr + 1 ≤ behind_bytes addr size
bytes_behind addr size = one_by (nat_lt 0 size) addr size refl

pub record Found (c : Chooser) (size align addr : ℕ) : Type 0 where
  pub positive : align ≢ 0
  pub multiple : addr % align ≡ 0
  pub low : c.next ≤ addr
  pub high : behind_bytes addr size < 2 ^ 64
  pub next : (behind_address c size align).next ≡ behind_bytes addr size

pub found_is : (c : Chooser) (size align addr : ℕ) → found c size align ≡ Some addr → Found c size align addr
found_is c size align addr e = by_align (align == 0) refl e
  where
    by_room : align ≢ 0 → (b : Bool) → has_address c.next size align ≡ b → (if b then Some (aligned_from c.next align) else None) ≡ Some addr → Found c size align addr
    by_room pos true room h =
        let is : aligned_from c.next align ≡ addr = same_Some (aligned_from c.next align) addr h in
        let some : 0 < align = omega arith in
        let up : c.next ≤ aligned_from c.next align = omega arith in
        record {
          positive = pos;
          multiple = subst (λ a. a % align ≡ 0) is (aligned_multiple c.next align some);
          low = subst (λ a. c.next ≤ a) is up;
          high = subst (λ a. behind_bytes a size < 2 ^ 64) is (ltb-true (behind_bytes (aligned_from c.next align) size) (2 ^ 64) room);
          next = ap (λ (x : Bool). if x then behind_bytes (aligned_from c.next align) size else c.next) room ∙ ap (λ a. behind_bytes a size) is;
        }
    by_room pos false room h = absurd (cc)

    by_align : (b : Bool) → (align == 0) ≡ b → (if b then None else address_from c.next size align) ≡ Some addr → Found c size align addr
    by_align true z h = absurd (cc)
    by_align false z h = by_room (not_zero align z) (has_address c.next size align) refl h

-- ---- why it is lawful

good : (a z m l : Bool) → a ≡ false → z ≡ false → m ≡ true → l ≡ false → (a || (not (not z && m) || l)) ≡ false
good true z m l e f g h = absurd (cc)
good false true m l e f g h = absurd (cc)
good false false false l e f g h = absurd (cc)
good false false true true e f g h = absurd (cc)
good false false true false e f g h = refl

pub not_bad : (c : Chooser) (size align addr : ℕ) → Found c size align addr → 0 < c.next → is_bad_address addr size align ≡ false
not_bad c size align addr f pos =
    let low = f.low in
    let high = f.high in
    let end = bytes_end addr size in
    good (addr == 0) (align == 0) (addr % align == 0) (nat_lt (2 ^ 64) (addr + size)) (other_test addr (λ z. absurd (omega arith))) (other_test align f.positive) (zero_test (addr % align) f.multiple) (not_less (2 ^ 64) (addr + size) (omega arith))

third : (p q r s : Bool) → r ≡ false → (p && (q && (r && s))) ≡ false
third false q r s e = refl
third true false r s e = refl
third true true false s e = refl
third true true true s e = absurd (cc)

-- it is apart from what ends before it
pub apart_behind : (addr size a n bound : ℕ) → behind_bytes a n ≤ bound → bound ≤ addr → is_meeting addr size a n ≡ false
apart_behind addr size a n bound ends low =
    let end = bytes_end a n in
    third (nat_lt 0 size) (nat_lt 0 n) (nat_lt addr (a + n)) (nat_lt a (addr + size)) (not_less addr (a + n) (omega arith))
