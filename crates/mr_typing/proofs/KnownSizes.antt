-- How many bytes the types without parts have.
use Rattle.mr_typing.proofs.Common.{◌≡◌, ℕ, ◌*◌, ◌^◌, true, false, arith, nat_tests, nat_lt, if◌then◌else◌, Some, None, IntType, int_size}
use Rattle.mr_layout.proofs.Bounds.{type_ok_size, int_small}

pub int_fits : (i : IntType) → nat_lt (int_size i) (2 ^ 63) ≡ true
int_fits i = let small = int_small i in grind (arith, nat_tests)

pub overflow_fits : (i : IntType) → nat_lt (2 * int_size i) (2 ^ 63) ≡ true
overflow_fits i = let small = int_small i in grind (arith, nat_tests)

pub ruleset known_sizes = (int_small, int_fits, overflow_fits)

-- a size that is told
pub size_told : (n bytes : ℕ) → (if nat_lt n (2 ^ 63) then Some n else None) ≡ Some bytes → n ≡ bytes
size_told n bytes e = grind (arith, nat_tests)

-- a size that is too large to be told
pub size_untold : (n : ℕ) → (if nat_lt n (2 ^ 63) then Some n else None) ≡ None → nat_lt n (2 ^ 63) ≡ false
size_untold n e = grind (arith, nat_tests)

pub ruleset sized_laws = (type_ok_size, size_told, size_untold)
