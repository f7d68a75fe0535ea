-- A load gives as many bytes as were asked for.
use Rattle.mr_eval.proofs.Common.{◌≡◌, ℕ, ◌+◌, ◌-◌, ◌≤◌, List, [], Option, None, Some, Result, Ok, Err, Bool, true, false, length, drop, refl, subst, arith, ◌&&◌, ◌==◌, nat_le, if◌then◌else◌, and_parts, Pointer, Reason, Memory, read}
use Rattle.std.proofs.lemmas.Bool.Decides.{nat_tests}
use Rattle.std.proofs.lemmas.List.{length-drop, length-take-le}
use Rattle.mr_base.specs.declared.byte.AbstractByte.{AbstractByte}
use Rattle.mr_base.specs.declared.reason.Reason.TheVariants.{DeadAllocation, Misaligned, OutOfBounds}
use Rattle.mr_mem.specs.Memory.{Allocation, bytes_at, found, inside, is_multiple, then_give}

in_range : (a : Allocation) (addr len : ℕ) → (nat_le a.addr addr && nat_le (addr + len) (a.addr + length a.bytes)) ≡ true → length (bytes_at a addr len) ≡ len
in_range a addr len e =
    let p = and_parts (nat_le a.addr addr) (nat_le (addr + len) (a.addr + length a.bytes)) e in
    let low : a.addr ≤ addr = lower p.0 in
    let high : addr + len ≤ a.addr + length a.bytes = upper p.1 in
    let left = length-drop (addr - a.addr) a.bytes in
    length-take-le len (drop (addr - a.addr) a.bytes) (omega (arith, left, low, high))
  where
    lower : nat_le a.addr addr ≡ true → a.addr ≤ addr
    lower h = grind (arith, nat_tests)

    upper : nat_le (addr + len) (a.addr + length a.bytes) ≡ true → addr + len ≤ a.addr + length a.bytes
    upper h = grind (arith, nat_tests)

-- what an answer is, where it is one
abbrev pub IsWhere : {X : Type 0} → (X → Type 0) → Result X Reason → Type 0
IsWhere P (Ok x) = P x
IsWhere P (Err r) = Unit {0}

inside_length : (o : Option Allocation) (addr len : ℕ) → IsWhere (λ bytes. length bytes ≡ len) (then_give (inside o addr len) (λ a. bytes_at a addr len))
inside_length None addr len = tt
inside_length (Some a) addr len = by_life a.live
  where
    by_range : (b : Bool) → (nat_le a.addr addr && nat_le (addr + len) (a.addr + length a.bytes)) ≡ b
        → IsWhere (λ (bytes : List AbstractByte). length bytes ≡ len) (then_give (if b then Ok a else Err OutOfBounds) (λ x. bytes_at x addr len))
    by_range true e = in_range a addr len e
    by_range false e = tt

    by_life : (live : Bool) → IsWhere (λ (bytes : List AbstractByte). length bytes ≡ len)
        (then_give (if live then (if nat_le a.addr addr && nat_le (addr + len) (a.addr + length a.bytes) then Ok a else Err OutOfBounds) else Err DeadAllocation) (λ x. bytes_at x addr len))
    by_life true = by_range (nat_le a.addr addr && nat_le (addr + len) (a.addr + length a.bytes)) refl
    by_life false = tt

pub read_length : (m : Memory) (p : Pointer) (len align : ℕ) → IsWhere (λ bytes. length bytes ≡ len) (read m p len align)
read_length m p len align = by_alignment (is_multiple p.addr align)
  where
    by_zero : (b : Bool) → (len == 0) ≡ b → IsWhere (λ (bytes : List AbstractByte). length bytes ≡ len) (if b then Ok [] else then_give (inside (found m p.prov) p.addr len) (λ a. bytes_at a p.addr len))
    by_zero true e = nothing e
      where
        nothing : (len == 0) ≡ true → 0 ≡ len
        nothing h = grind (arith, nat_tests)
    by_zero false e = inside_length (found m p.prov) p.addr len

    by_alignment : (b : Bool) → IsWhere (λ (bytes : List AbstractByte). length bytes ≡ len)
        (if b then (if len == 0 then Ok [] else then_give (inside (found m p.prov) p.addr len) (λ a. bytes_at a p.addr len)) else Err Misaligned)
    by_alignment true = by_zero (len == 0) refl
    by_alignment false = tt

pub read_sized : (m : Memory) (p : Pointer) (len align : ℕ) (bytes : List AbstractByte) → read m p len align ≡ Ok bytes → length bytes ≡ len
read_sized m p len align bytes e = subst (IsWhere (λ (b : List AbstractByte). length b ≡ len)) e (read_length m p len align)
