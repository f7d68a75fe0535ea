-- Types that hold no other: what they are, and that intrinsics take and give no others.
use Rattle.mr_frame.proofs.Common.{◌≡◌, Bool, true, false, refl, sym, ap, ◌∙◌, List, [], ◌∷◌, Option, None, Some, subst, list_all, ◌&&◌, ◌||◌, is_some, nat_le, and_parts, Intrinsic, Ty, size_of, TypeOk, is_bool, is_fn_ptr, is_integer, is_raw, is_scalar_number, same_type, integer_in, bool_is, fn_ptr_is, raw_is, is_plain}
use Rattle.std.proofs.lemmas.Bool.{or_left, or_right}
use Rattle.mr_ast.specs.declared.types.IntType.{IntType}
use Rattle.mr_ast.specs.declared.types.IntType.TheVariants.{U32, U64}
use Rattle.mr_layout.proofs.BrokenLaws.{broken_bool, broken_fn_ptr, broken_int, broken_raw}
use Rattle.mr_typing.specs.Intrinsics.{fits_intrinsic, gives, gives_nothing, is_atomic}
use Rattle.mr_typing.specs.Operands.{is_int, is_raw_layer}
use Rattle.mr_typing.specs.Types.{integer_of}
use Rattle.mr_typing.proofs.KindLaws.{integer_is, same_with_int}
use Rattle.mr_typing.proofs.SameTypeLaws.{same_type_equal}
use Rattle.mr_ast.specs.declared.program.Intrinsic.TheVariants as intrinsic
use Rattle.mr_ast.specs.declared.types.Ty.TheVariants as ty

pub plain_int : (t : Ty) (i : IntType) → integer_of t ≡ Some i → ty.Int i ≡ t
plain_int t i e = sym (integer_is t i e)

pub plain_bool : (t : Ty) → is_bool t ≡ true → ty.Bool ≡ t
plain_bool t e = sym (bool_is t e)

pub plain_raw : (t : Ty) → is_raw t ≡ true → ty.Raw ≡ t
plain_raw t e = sym (raw_is t e)

pub plain_fn_ptr : (t : Ty) → integer_of t ≡ None → is_bool t ≡ false → is_raw t ≡ false → is_plain t ≡ true → ty.FnPtr ≡ t
plain_fn_ptr t none no_bool no_raw plain =
    let a : (is_bool t || (is_raw t || is_fn_ptr t)) ≡ true = sym (ap (λ (o : Option IntType). is_some o || (is_bool t || (is_raw t || is_fn_ptr t))) none) ∙ plain in
    let b : (is_raw t || is_fn_ptr t) ≡ true = sym (ap (λ b. b || (is_raw t || is_fn_ptr t)) no_bool) ∙ a in
    sym (fn_ptr_is t (sym (ap (λ b. b || is_fn_ptr t) no_raw) ∙ b))

-- ---- what intrinsics take and give

abbrev pub IsPlain : Ty → Type 0
IsPlain t = is_plain t ≡ true

from_integer : (t : Ty) → is_integer t ≡ true → IsPlain t
from_integer t e = or_left (is_integer t) (is_bool t || (is_raw t || is_fn_ptr t)) e

from_bool : (t : Ty) → is_bool t ≡ true → IsPlain t
from_bool t e = or_right (is_integer t) (is_bool t || (is_raw t || is_fn_ptr t)) (or_left (is_bool t) (is_raw t || is_fn_ptr t) e)

from_raw : (t : Ty) → is_raw t ≡ true → IsPlain t
from_raw t e = or_right (is_integer t) (is_bool t || (is_raw t || is_fn_ptr t)) (or_right (is_bool t) (is_raw t || is_fn_ptr t) (or_left (is_raw t) (is_fn_ptr t) e))

from_fn_ptr : (t : Ty) → is_fn_ptr t ≡ true → IsPlain t
from_fn_ptr t e = or_right (is_integer t) (is_bool t || (is_raw t || is_fn_ptr t)) (or_right (is_bool t) (is_raw t || is_fn_ptr t) (or_right (is_raw t) (is_fn_ptr t) e))

from_int : (i : IntType) (t : Ty) → is_int i t ≡ true → IsPlain t
from_int i t e = from_integer t (ap (λ (o : Option IntType). is_some o) ((same_with_int t i).0 e))

from_atomic : (t : Ty) → is_atomic t ≡ true → IsPlain t
from_atomic t e = from_integer t (and_parts (is_integer t) (nat_le (size_of t) 8) e).0

from_scalar : (t : Ty) → is_scalar_number t ≡ true → IsPlain t
from_scalar t e = by_test (is_integer t) refl
  where
    by_test : (b : Bool) → is_integer t ≡ b → IsPlain t
    by_test true k = from_integer t k
    by_test false k = from_bool t (sym (ap (λ b. b || is_bool t) k) ∙ e)

from_same : (t u : Ty) → same_type t u ≡ true → IsPlain u → IsPlain t
from_same t u e h = ap is_plain (same_type_equal t u e) ∙ h

-- the type of the place for a result is plain, where there is one
abbrev pub PlainResult : Option Ty → Type 0
PlainResult None = Unit {0}
PlainResult (Some t) = IsPlain t

nothing_given : (result : Option Ty) → gives_nothing result ≡ true → PlainResult result
nothing_given None e = tt
nothing_given (Some t) e = absurd (cc)

plain_given : (u : Ty) → IsPlain u → (result : Option Ty) → gives u result ≡ true → PlainResult result
plain_given u h None e = absurd (cc)
plain_given u h (Some t) e = from_same t u e h

raw_plain : IsPlain ty.Raw
raw_plain = from_raw ty.Raw (ap is_raw_layer ty.outs-Raw)

int_plain : (i : IntType) → IsPlain (ty.Int i)
int_plain i = from_int i (ty.Int i) ((same_with_int (ty.Int i) i).1 (ap integer_in (ty.outs-Int i)))

-- each type is plain
abbrev pub AllPlain : List Ty → Type 0
AllPlain [] = Unit {0}
AllPlain (t ∷ ts) = IsPlain t × AllPlain ts

all_scalar : (ts : List Ty) → list_all is_scalar_number ts ≡ true → AllPlain ts
all_scalar [] e = tt
all_scalar (t ∷ ts) e = let parts = and_parts (is_scalar_number t) (list_all is_scalar_number ts) e in (from_scalar t parts.0, all_scalar ts parts.1)

abbrev Plain : List Ty → Option Ty → Type 0
Plain ts result = AllPlain ts × PlainResult result

-- an atomic operation with a pointer and an integer of the result's type
plain_fetch : (a b : Ty) (result : Option Ty) → (is_raw a && (is_atomic b && gives b result)) ≡ true → Plain (a ∷ b ∷ []) result
plain_fetch a b result e =
    let p = and_parts (is_raw a) (is_atomic b && gives b result) e in
    let q = and_parts (is_atomic b) (gives b result) p.1 in
    let h = from_atomic b q.0 in
    ((from_raw a p.0, (h, tt)), plain_given b h result q.1)

-- WHAT AN INTRINSIC TAKES AND GIVES is plain
pub plain_intrinsic : (op : Intrinsic) (ts : List Ty) (result : Option Ty) → fits_intrinsic op ts result ≡ true → AllPlain ts × PlainResult result
plain_intrinsic intrinsic.Assume (a ∷ []) result e = let p = and_parts (is_bool a) (gives_nothing result) e in ((from_bool a p.0, tt), nothing_given result p.1)
plain_intrinsic intrinsic.Print ts result e = let p = and_parts (list_all is_scalar_number ts) (gives_nothing result) e in (all_scalar ts p.0, nothing_given result p.1)
plain_intrinsic intrinsic.Allocate (a ∷ b ∷ []) result e =
    let p = and_parts (is_int U64 a) (is_int U64 b && gives ty.Raw result) e in
    let q = and_parts (is_int U64 b) (gives ty.Raw result) p.1 in
    ((from_int U64 a p.0, (from_int U64 b q.0, tt)), plain_given ty.Raw raw_plain result q.1)
plain_intrinsic intrinsic.Deallocate (a ∷ b ∷ c ∷ []) result e =
    let p = and_parts (is_raw a) (is_int U64 b && (is_int U64 c && gives_nothing result)) e in
    let q = and_parts (is_int U64 b) (is_int U64 c && gives_nothing result) p.1 in
    let r = and_parts (is_int U64 c) (gives_nothing result) q.1 in
    ((from_raw a p.0, (from_int U64 b q.0, (from_int U64 c r.0, tt))), nothing_given result r.1)
plain_intrinsic intrinsic.Spawn (a ∷ b ∷ []) result e =
    let p = and_parts (is_fn_ptr a) (is_raw b && gives (ty.Int U32) result) e in
    let q = and_parts (is_raw b) (gives (ty.Int U32) result) p.1 in
    ((from_fn_ptr a p.0, (from_raw b q.0, tt)), plain_given (ty.Int U32) (int_plain U32) result q.1)
plain_intrinsic intrinsic.Join (a ∷ []) result e = let p = and_parts (is_int U32 a) (gives_nothing result) e in ((from_int U32 a p.0, tt), nothing_given result p.1)
plain_intrinsic intrinsic.CreateLock [] result e = (tt, plain_given (ty.Int U32) (int_plain U32) result e)
plain_intrinsic intrinsic.Acquire (a ∷ []) result e = let p = and_parts (is_int U32 a) (gives_nothing result) e in ((from_int U32 a p.0, tt), nothing_given result p.1)
plain_intrinsic intrinsic.Release (a ∷ []) result e = let p = and_parts (is_int U32 a) (gives_nothing result) e in ((from_int U32 a p.0, tt), nothing_given result p.1)
plain_intrinsic intrinsic.AtomicStore (a ∷ b ∷ []) result e =
    let p = and_parts (is_raw a) (is_atomic b && gives_nothing result) e in
    let q = and_parts (is_atomic b) (gives_nothing result) p.1 in
    ((from_raw a p.0, (from_atomic b q.0, tt)), nothing_given result q.1)
plain_intrinsic intrinsic.AtomicLoad (a ∷ []) (Some t) e = let p = and_parts (is_raw a) (is_atomic t) e in ((from_raw a p.0, tt), from_atomic t p.1)
plain_intrinsic intrinsic.CompareExchange (a ∷ b ∷ c ∷ []) result e =
    let p = and_parts (is_raw a) (is_atomic b && (same_type c b && gives b result)) e in
    let q = and_parts (is_atomic b) (same_type c b && gives b result) p.1 in
    let r = and_parts (same_type c b) (gives b result) q.1 in
    let h = from_atomic b q.0 in
    ((from_raw a p.0, (h, (from_same c b r.0 h, tt))), plain_given b h result r.1)
plain_intrinsic intrinsic.FetchAdd (a ∷ b ∷ []) result e = plain_fetch a b result e
plain_intrinsic intrinsic.FetchSub (a ∷ b ∷ []) result e = plain_fetch a b result e
plain_intrinsic intrinsic.FetchAnd (a ∷ b ∷ []) result e = plain_fetch a b result e
plain_intrinsic intrinsic.FetchOr (a ∷ b ∷ []) result e = plain_fetch a b result e
plain_intrinsic intrinsic.FetchXor (a ∷ b ∷ []) result e = plain_fetch a b result e
plain_intrinsic intrinsic.Payload [] result e = (tt, plain_given ty.Raw raw_plain result e)
plain_intrinsic _ ts result e = absurd (cc)

-- such types break no rule
pub plain_ok : (t : Ty) → is_plain t ≡ true → TypeOk t
plain_ok t e = by_integer (integer_of t) refl
  where
    made : (u : Ty) → u ≡ t → TypeOk u → TypeOk t
    made u same ok = subst TypeOk same ok

    by_others : (b r : Bool) → integer_of t ≡ None → is_bool t ≡ b → is_raw t ≡ r → TypeOk t
    by_others true r none is_b is_r = made ty.Bool (plain_bool t is_b) broken_bool
    by_others false true none is_b is_r = made ty.Raw (plain_raw t is_r) broken_raw
    by_others false false none is_b is_r = made ty.FnPtr (plain_fn_ptr t none is_b is_r e) broken_fn_ptr

    by_integer : (o : Option IntType) → integer_of t ≡ o → TypeOk t
    by_integer (Some i) is = made (ty.Int i) (plain_int t i is) (broken_int i)
    by_integer None is = by_others (is_bool t) (is_raw t) is refl refl

pub ruleset plain_laws = (plain_int, plain_bool, plain_raw, plain_fn_ptr)
