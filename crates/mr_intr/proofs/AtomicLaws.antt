-- Atomic accesses to integers, and what a read and a change in one comes to.
use Rattle.mr_intr.proofs.Common.{◌≡◌, ℕ, ◌*◌, ◌^◌, ◌<◌, refl, subst, sym, ap, ◌∙◌, Option, Some, None, Ok, same_Some, int_size, IntType, size_int, Val, out-Val, encoding_of, Bytes, number_of, number_bytes, number_in}
use Rattle.std.specs.Prelude.{option_map}
use Rattle.mr_layout.proofs.BrokenLaws.{int_ok}
use Rattle.mr_eval.specs.Arith.{arith_of}
use Rattle.mr_eval.specs.declared.arithmetic.ArithOp.{ArithOp}
use Rattle.mr_eval.proofs.Within.{arith_of-within}
use Rattle.mr_value.specs.Decode.{decoded}
use Rattle.mr_value.proofs.DecodeLaws.{decode_int}
use Rattle.mr_value.proofs.EncodeLaws.{encode_int}
use Rattle.mr_eval.proofs.OperatorsSafe.{width}
use Rattle.mr_ast.specs.declared.types.Ty.TheVariants as ty
use Rattle.mr_value.specs.declared.val.Val.TheVariants as val
use Rattle.mr_intr.proofs.OperatedLaws.{int_number}

-- ---- an integer's bits and bytes

-- the number that decoding finds
pub number_found : (i : IntType) (bytes : Bytes) (v : Val) → decoded (ty.Int i) bytes ≡ Some v → (n : ℕ) × (v ≡ val.Int n) × (number_of bytes ≡ Some n)
number_found i bytes v e = by_number (number_of bytes) refl (sym (decode_int i bytes) ∙ e)
  where
    by_number : (o : Option ℕ) → number_of bytes ≡ o → option_map val.Int o ≡ Some v → (n : ℕ) × (v ≡ val.Int n) × (number_of bytes ≡ Some n)
    by_number None is h = absurd (cc)
    by_number (Some n) is h = (n, cc, is)

pub number_missing : (i : IntType) (bytes : Bytes) → decoded (ty.Int i) bytes ≡ None → number_of bytes ≡ None
number_missing i bytes e = by_number (number_of bytes) (sym (decode_int i bytes) ∙ e)
  where
    by_number : (o : Option ℕ) → option_map val.Int o ≡ None → o ≡ None
    by_number None h = refl
    by_number (Some n) h = absurd (cc)

-- a value has one number of bits
pub same_bits : (a b : ℕ) → val.Int a ≡ val.Int b → a ≡ b
same_bits a b e = same_Some a b (sym (int_number a) ∙ ap (λ (v : Val). number_in (out-Val v)) e ∙ int_number b)

pub computed_small : (op : ArithOp) (i : IntType) (a b n : ℕ) → a < 2 ^ (8 * int_size i) → b < 2 ^ (8 * int_size i) → arith_of op i a b ≡ Ok n → n < 2 ^ (8 * int_size i)
computed_small op i a b n lt_a lt_b is =
    let P : ℕ → ℕ → Type 0 = λ x k. x < 2 ^ k in
    subst (P n) (sym (width i)) (arith_of-within op i a b n (subst (P a) (width i) lt_a) (subst (P b) (width i) lt_b) is)

pub int_bytes_are : (i : IntType) (n : ℕ) → encoding_of (ty.Int i) (val.Int n) ≡ number_bytes (int_size i) n
int_bytes_are i n = encode_int i n

pub ruleset number_laws = (int_ok, size_int)
