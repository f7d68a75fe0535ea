-- The alignment of a type without a broken rule is a power of two of at most 4096, and its size is a multiple of it.
use Rattle.mr_layout.proofs.Common.{◌≡◌, ℕ, ◌*◌, ◌%◌, true, refl, sym, ap, ◌∙◌, arith, IntType, U8, U16, U32, U64, U128, I8, I16, I32, I64, I128, Ty, TypeCases, type_induction, size_of, align_of, int_size, is_align, TypeOk}
use Rattle.std.proofs.lemmas.Nat.{mul-mod_second}
use Rattle.std.specs.Int.Count.{ones}
use Rattle.mr_ast.specs.declared.types.Ty.TheVariants as ty
use Rattle.mr_layout.proofs.SizeLaws.{size_int, size_bool, size_raw, size_fn_ptr, size_ref, size_tuple, size_array, size_union, size_enum}
use Rattle.mr_layout.proofs.AlignLaws.{align_int, align_bool, align_raw, align_fn_ptr, align_ref, align_tuple, align_array, align_union, align_enum}
use Rattle.mr_layout.proofs.WellFormed.{tuple_ok, array_ok, union_ok, enum_ok}

-- a type's alignment is one, and its size is a multiple of it
pub record IsAligned (t : Ty) : Type 0 where
  pub power : is_align (align_of t) ≡ true
  pub whole : size_of t % align_of t ≡ 0

abbrev WhereOk : Ty → Type 0
WhereOk t = TypeOk t → IsAligned t

aligned : (t : Ty) (size align : ℕ) → size_of t ≡ size → align_of t ≡ align → is_align align ≡ true → size % align ≡ 0 → IsAligned t
aligned t size align s a power whole = record {
  power = ap is_align a ∙ power;
  whole = ap (λ n. n % align_of t) s ∙ ap (λ n. size % n) a ∙ whole;
}

int_power : (i : IntType) → is_align (int_size i) ≡ true
unfolding ones
int_power U8 = refl
int_power U16 = refl
int_power U32 = refl
int_power U64 = refl
int_power U128 = refl
int_power I8 = refl
int_power I16 = refl
int_power I32 = refl
int_power I64 = refl
int_power I128 = refl

int_whole : (i : IntType) → int_size i % int_size i ≡ 0
int_whole U8 = refl
int_whole U16 = refl
int_whole U32 = refl
int_whole U64 = refl
int_whole U128 = refl
int_whole I8 = refl
int_whole I16 = refl
int_whole I32 = refl
int_whole I64 = refl
int_whole I128 = refl

zero_mod : (m : ℕ) → 0 % m ≡ 0
zero_mod m = grind arith

many_whole : (count size align : ℕ) → size % align ≡ 0 → (count * size) % align ≡ 0
many_whole count size align e =
    sym (mul-mod_second count size align) ∙ ap (λ n. (count * n) % align) e ∙ ap (λ n. n % align) (let none : count * 0 ≡ 0 = omega arith in none) ∙ zero_mod align

aligned_cases : TypeCases WhereOk
aligned_cases = record {
  at_int = λ i ok. aligned (ty.Int i) (int_size i) (int_size i) (size_int i) (align_int i) (int_power i) (int_whole i);
  at_bool = λ ok. aligned ty.Bool 1 1 size_bool align_bool (int_power U8) refl;
  at_raw = λ ok. aligned ty.Raw 8 8 size_raw align_raw (int_power U64) refl;
  at_fn_ptr = λ ok. aligned ty.FnPtr 8 8 size_fn_ptr align_fn_ptr (int_power U64) refl;
  at_ref = λ size align never ok. aligned (ty.Ref size align never) 8 8 (size_ref size align never) (align_ref size align never) (int_power U64) refl;
  at_tuple = λ size align fields all ok.
      let k = (tuple_ok size align fields ok).sized in
      aligned (ty.Tuple size align fields) size align (size_tuple size align fields) (align_tuple size align fields) k.power k.whole;
  at_array = λ count elem all ok.
      let k = all (array_ok count elem ok).part in
      aligned (ty.Array count elem) (count * size_of elem) (align_of elem) (size_array count elem) (align_array count elem) k.power (many_whole count (size_of elem) (align_of elem) k.whole);
  at_union = λ size align fields chunks all ok.
      let k = (union_ok size align fields chunks ok).sized in
      aligned (ty.Union size align fields chunks) size align (size_union size align fields chunks) (align_union size align fields chunks) k.power k.whole;
  at_enum = λ size align disc variants tree all ok.
      let k = (enum_ok size align disc variants tree ok).sized in
      aligned (ty.Enum size align disc variants tree) size align (size_enum size align disc variants tree) (align_enum size align disc variants tree) k.power k.whole;
}

pub type_ok_aligned : (t : Ty) → TypeOk t → IsAligned t
type_ok_aligned = type_induction WhereOk aligned_cases
