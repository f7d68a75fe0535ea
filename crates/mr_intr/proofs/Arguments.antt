-- What the arguments of an intrinsic are, where their types fit it.
use Rattle.mr_intr.proofs.Common.{◌≡◌, ℕ, ◌<◌, ◌*◌, ◌^◌, arith, refl, subst, sym, ap, ◌∙◌, List, [], ◌∷◌, Option, Some, None, Bool, true, false, same_Some, ◌&&◌, is_some, nat_le, slice_get, and_parts, int_size, Intrinsic, IntType, U32, U64, Ty, Pointer, lt_from, size_of, Val, has_shape, shape_int, fits_intrinsic, gives, gives_nothing, is_atomic, is_bool, is_int, is_integer, is_raw, integer_of, same_type_equal, HaveShapes, IsFetch, Fits}
use Rattle.mr_ast.specs.declared.types.IntType.TheVariants.{U8, U16, U128, I8, I16, I32, I64, I128}
use Rattle.mr_value.proofs.ShapeLaws.{shape_raw}
use Rattle.mr_typing.specs.SameTypes.{same_type}
use Rattle.mr_typing.proofs.KindLaws.{integer_is, raw_is}
use Rattle.mr_eval.proofs.ScalarLaws.{truth_value}
use Rattle.mr_ast.specs.declared.program.Intrinsic.TheVariants as intrinsic
use Rattle.mr_ast.specs.declared.types.Ty.TheVariants as ty
use Rattle.mr_value.specs.declared.val.Val.TheVariants as val
use Rattle.mr_intr.proofs.OperationSafe.{no_result, result_is}

-- ---- values of a type

-- a number of so many bits
pub record IsNumber (width : ℕ) (v : Val) : Type 0 where
  pub bits : ℕ
  pub is : v ≡ val.Int bits
  pub small : bits < 2 ^ width

number_at : (i : IntType) (t : Ty) (v : Val) → t ≡ ty.Int i → has_shape t v ≡ true → IsNumber (8 * int_size i) v
number_at i t v e h =
    let made = shape_int i v (subst (λ (u : Ty). has_shape u v ≡ true) e h) in
    record { bits = made.bits; is = made.is; small = lt_from made.bits (2 ^ (8 * int_size i)) made.fits }

number_of_int : (i : IntType) (t : Ty) (v : Val) → is_int i t ≡ true → has_shape t v ≡ true → IsNumber (8 * int_size i) v
number_of_int i t v e h = number_at i t v (same_type_equal t (ty.Int i) e) h

pointer_there : (t : Ty) (v : Val) → is_raw t ≡ true → has_shape t v ≡ true → (p : Pointer) × (v ≡ val.Ptr p)
pointer_there t v e h = let made = shape_raw v (subst (λ (u : Ty). has_shape u v ≡ true) (raw_is t e) h) in (made.pointer, made.is)

-- no integer has more than 128 bits
pub wide_int : (i : IntType) (n : ℕ) → n < 2 ^ (8 * int_size i) → n < 2 ^ 128
wide_int U8 n lt = omega arith
wide_int U16 n lt = omega arith
wide_int U32 n lt = omega arith
wide_int U64 n lt = omega arith
wide_int U128 n lt = lt
wide_int I8 n lt = omega arith
wide_int I16 n lt = omega arith
wide_int I32 n lt = omega arith
wide_int I64 n lt = omega arith
wide_int I128 n lt = lt

-- an integer type of at most eight bytes
pub record IsAtomic (t : Ty) : Type 0 where
  pub int : IntType
  pub is : t ≡ ty.Int int

atomic_there : (t : Ty) → is_atomic t ≡ true → IsAtomic t
atomic_there t e = by_integer (integer_of t) refl (and_parts (is_integer t) (nat_le (size_of t) 8) e).0
  where
    by_integer : (o : Option IntType) → integer_of t ≡ o → is_some o ≡ true → IsAtomic t
    by_integer None is some = absurd (cc)
    by_integer (Some i) is some = record { int = i; is = integer_is t i is }

-- ---- values in a row

pub record OneValue (a : Ty) (args : List Val) : Type 0 where
  pub x : Val
  pub is : args ≡ x ∷ []
  pub shape : has_shape a x ≡ true

one_value : (a : Ty) (args : List Val) → HaveShapes (a ∷ []) args → OneValue a args
one_value a [] h = absurd h
one_value a (x ∷ []) h = record { x = x; is = refl; shape = h.0 }
one_value a (x ∷ y ∷ args) h = absurd (h.1)

pub record TwoValues (a b : Ty) (args : List Val) : Type 0 where
  pub x : Val
  pub y : Val
  pub is : args ≡ x ∷ y ∷ []
  pub first : has_shape a x ≡ true
  pub second : has_shape b y ≡ true

two_values : (a b : Ty) (args : List Val) → HaveShapes (a ∷ b ∷ []) args → TwoValues a b args
two_values a b [] h = absurd h
two_values a b (x ∷ []) h = absurd (h.1)
two_values a b (x ∷ y ∷ []) h = record { x = x; y = y; is = refl; first = h.0; second = h.1.0 }
two_values a b (x ∷ y ∷ z ∷ args) h = absurd (h.1.1)

pub record ThreeValues (a b d : Ty) (args : List Val) : Type 0 where
  pub x : Val
  pub y : Val
  pub z : Val
  pub is : args ≡ x ∷ y ∷ z ∷ []
  pub first : has_shape a x ≡ true
  pub second : has_shape b y ≡ true
  pub third : has_shape d z ≡ true

three_values : (a b d : Ty) (args : List Val) → HaveShapes (a ∷ b ∷ d ∷ []) args → ThreeValues a b d args
three_values a b d [] h = absurd h
three_values a b d (x ∷ []) h = absurd (h.1)
three_values a b d (x ∷ y ∷ []) h = absurd (h.1.1)
three_values a b d (x ∷ y ∷ z ∷ []) h = record { x = x; y = y; z = z; is = refl; first = h.0; second = h.1.0; third = h.1.1.0 }
three_values a b d (x ∷ y ∷ z ∷ w ∷ args) h = absurd (h.1.1.1)

-- ---- arguments as they are read

pub one_read : (args : List Val) (x a : Val) → args ≡ x ∷ [] → slice_get args 0 ≡ Some a → args ≡ a ∷ []
one_read args x a e first = e ∙ ap (λ v. v ∷ []) (same_Some x a (sym (ap (λ (l : List Val). slice_get l 0) e) ∙ first))

pub two_read : (args : List Val) (x y a b : Val) → args ≡ x ∷ y ∷ [] → slice_get args 0 ≡ Some a → slice_get args 1 ≡ Some b → args ≡ a ∷ b ∷ []
two_read args x y a b e first second =
    let p = same_Some x a (sym (ap (λ (l : List Val). slice_get l 0) e) ∙ first) in
    let q = same_Some y b (sym (ap (λ (l : List Val). slice_get l 1) e) ∙ second) in
    e ∙ (λ i. p i ∷ q i ∷ [])

pub three_read : (args : List Val) (x y z a b d : Val) → args ≡ x ∷ y ∷ z ∷ [] → slice_get args 0 ≡ Some a → slice_get args 1 ≡ Some b → slice_get args 2 ≡ Some d → args ≡ a ∷ b ∷ d ∷ []
three_read args x y z a b d e first second third =
    let p = same_Some x a (sym (ap (λ (l : List Val). slice_get l 0) e) ∙ first) in
    let q = same_Some y b (sym (ap (λ (l : List Val). slice_get l 1) e) ∙ second) in
    let r = same_Some z d (sym (ap (λ (l : List Val). slice_get l 2) e) ∙ third) in
    e ∙ (λ i. p i ∷ q i ∷ r i ∷ [])

-- ---- `assume`

pub record TakesTruth (args : List Val) (place : Option Ty) : Type 0 where
  pub truth : Bool
  pub is : args ≡ val.Bool truth ∷ []
  pub gives : place ≡ None

pub assume_takes : (args : List Val) (types : List Ty) (place : Option Ty) → Fits intrinsic.Assume args types place → TakesTruth args place
assume_takes args [] place fit = absurd (let e = fit.fitting in cc)
assume_takes args (a ∷ []) place fit =
    let p = and_parts (is_bool a) (gives_nothing place) fit.fitting in
    let one = one_value a args fit.shapes in
    let b = truth_value a one.x p.0 one.shape in
    record { truth = b.0; is = one.is ∙ ap (λ v. v ∷ []) b.1; gives = no_result place p.1 }
assume_takes args (a ∷ b ∷ types) place fit = absurd (let e = fit.fitting in cc)

-- ---- the heap

pub record TakesSizes (args : List Val) (place : Option Ty) : Type 0 where
  pub size : ℕ
  pub align : ℕ
  pub is : args ≡ val.Int size ∷ val.Int align ∷ []
  pub size_small : size < 2 ^ 64
  pub align_small : align < 2 ^ 64
  pub gives : place ≡ Some ty.Raw

pub allocate_takes : (args : List Val) (types : List Ty) (place : Option Ty) → Fits intrinsic.Allocate args types place → TakesSizes args place
allocate_takes args [] place fit = absurd (let e = fit.fitting in cc)
allocate_takes args (a ∷ []) place fit = absurd (let e = fit.fitting in cc)
allocate_takes args (a ∷ b ∷ []) place fit =
    let p = and_parts (is_int U64 a) (is_int U64 b && gives ty.Raw place) fit.fitting in
    let q = and_parts (is_int U64 b) (gives ty.Raw place) p.1 in
    let two = two_values a b args fit.shapes in
    let n = number_of_int U64 a two.x p.0 two.first in
    let k = number_of_int U64 b two.y q.0 two.second in
    record { size = n.bits; align = k.bits; is = two.is ∙ (λ i. n.is i ∷ k.is i ∷ []); size_small = n.small; align_small = k.small; gives = result_is ty.Raw place q.1 }
allocate_takes args (a ∷ b ∷ d ∷ types) place fit = absurd (let e = fit.fitting in cc)

pub record TakesStorage (args : List Val) (place : Option Ty) : Type 0 where
  pub pointer : Pointer
  pub size : ℕ
  pub align : ℕ
  pub is : args ≡ val.Ptr pointer ∷ val.Int size ∷ val.Int align ∷ []
  pub size_small : size < 2 ^ 64
  pub align_small : align < 2 ^ 64
  pub gives : place ≡ None

pub deallocate_takes : (args : List Val) (types : List Ty) (place : Option Ty) → Fits intrinsic.Deallocate args types place → TakesStorage args place
deallocate_takes args [] place fit = absurd (let e = fit.fitting in cc)
deallocate_takes args (a ∷ []) place fit = absurd (let e = fit.fitting in cc)
deallocate_takes args (a ∷ b ∷ []) place fit = absurd (let e = fit.fitting in cc)
deallocate_takes args (a ∷ b ∷ d ∷ []) place fit =
    let p = and_parts (is_raw a) (is_int U64 b && (is_int U64 d && gives_nothing place)) fit.fitting in
    let q = and_parts (is_int U64 b) (is_int U64 d && gives_nothing place) p.1 in
    let r = and_parts (is_int U64 d) (gives_nothing place) q.1 in
    let three = three_values a b d args fit.shapes in
    let at = pointer_there a three.x p.0 three.first in
    let n = number_of_int U64 b three.y q.0 three.second in
    let k = number_of_int U64 d three.z r.0 three.third in
    record { pointer = at.0; size = n.bits; align = k.bits; is = three.is ∙ (λ i. at.1 i ∷ n.is i ∷ k.is i ∷ []); size_small = n.small; align_small = k.small; gives = no_result place r.1 }
deallocate_takes args (a ∷ b ∷ d ∷ w ∷ types) place fit = absurd (let e = fit.fitting in cc)

-- ---- threads and locks

-- a thread or a lock, by its number
pub record TakesNumber (args : List Val) (place : Option Ty) : Type 0 where
  pub number : ℕ
  pub is : args ≡ val.Int number ∷ []
  pub small : number < 2 ^ 32
  pub gives : place ≡ None

number_takes : (args : List Val) (a : Ty) (place : Option Ty) → (is_int U32 a && gives_nothing place) ≡ true → HaveShapes (a ∷ []) args → TakesNumber args place
number_takes args a place e shapes =
    let p = and_parts (is_int U32 a) (gives_nothing place) e in
    let one = one_value a args shapes in
    let n = number_of_int U32 a one.x p.0 one.shape in
    record { number = n.bits; is = one.is ∙ ap (λ v. v ∷ []) n.is; small = n.small; gives = no_result place p.1 }

pub join_takes : (args : List Val) (types : List Ty) (place : Option Ty) → Fits intrinsic.Join args types place → TakesNumber args place
join_takes args [] place fit = absurd (let e = fit.fitting in cc)
join_takes args (a ∷ []) place fit = number_takes args a place fit.fitting fit.shapes
join_takes args (a ∷ b ∷ types) place fit = absurd (let e = fit.fitting in cc)

pub acquire_takes : (args : List Val) (types : List Ty) (place : Option Ty) → Fits intrinsic.Acquire args types place → TakesNumber args place
acquire_takes args [] place fit = absurd (let e = fit.fitting in cc)
acquire_takes args (a ∷ []) place fit = number_takes args a place fit.fitting fit.shapes
acquire_takes args (a ∷ b ∷ types) place fit = absurd (let e = fit.fitting in cc)

pub release_takes : (args : List Val) (types : List Ty) (place : Option Ty) → Fits intrinsic.Release args types place → TakesNumber args place
release_takes args [] place fit = absurd (let e = fit.fitting in cc)
release_takes args (a ∷ []) place fit = number_takes args a place fit.fitting fit.shapes
release_takes args (a ∷ b ∷ types) place fit = absurd (let e = fit.fitting in cc)

pub record TakesNothing (args : List Val) (place : Option Ty) : Type 0 where
  pub is : args ≡ []
  pub gives : place ≡ Some (ty.Int U32)

pub create_lock_takes : (args : List Val) (types : List Ty) (place : Option Ty) → Fits intrinsic.CreateLock args types place → TakesNothing args place
create_lock_takes [] [] place fit = record { is = refl; gives = result_is (ty.Int U32) place fit.fitting }
create_lock_takes (x ∷ args) [] place fit = absurd fit.shapes
create_lock_takes args (a ∷ types) place fit = absurd (let e = fit.fitting in cc)

-- ---- atomics

pub record TakesStore (args : List Val) (types : List Ty) : Type 0 where
  pub pointer : Pointer
  pub int : IntType
  pub bits : ℕ
  pub first : Ty
  pub is : args ≡ val.Ptr pointer ∷ val.Int bits ∷ []
  pub typed : types ≡ first ∷ ty.Int int ∷ []
  pub small : bits < 2 ^ (8 * int_size int)
  pub shape : has_shape (ty.Int int) (val.Int bits) ≡ true

pub atomic_store_takes : (args : List Val) (types : List Ty) (place : Option Ty) → Fits intrinsic.AtomicStore args types place → TakesStore args types
atomic_store_takes args [] place fit = absurd (let e = fit.fitting in cc)
atomic_store_takes args (a ∷ []) place fit = absurd (let e = fit.fitting in cc)
atomic_store_takes args (a ∷ b ∷ []) place fit =
    let p = and_parts (is_raw a) (is_atomic b && gives_nothing place) fit.fitting in
    let q = and_parts (is_atomic b) (gives_nothing place) p.1 in
    let two = two_values a b args fit.shapes in
    let at = pointer_there a two.x p.0 two.first in
    let int = atomic_there b q.0 in
    let n = number_at int.int b two.y int.is two.second in
    record {
      pointer = at.0;
      int = int.int;
      bits = n.bits;
      first = a;
      is = two.is ∙ (λ i. at.1 i ∷ n.is i ∷ []);
      typed = ap (λ t. a ∷ t ∷ []) int.is;
      small = n.small;
      shape = (λ i. has_shape (sym int.is i) (sym n.is i)) ∙ two.second;
    }
atomic_store_takes args (a ∷ b ∷ d ∷ types) place fit = absurd (let e = fit.fitting in cc)

pub record TakesLoad (args : List Val) (place : Option Ty) : Type 0 where
  pub pointer : Pointer
  pub int : IntType
  pub is : args ≡ val.Ptr pointer ∷ []
  pub gives : place ≡ Some (ty.Int int)

pub atomic_load_takes : (args : List Val) (types : List Ty) (place : Option Ty) → Fits intrinsic.AtomicLoad args types place → TakesLoad args place
atomic_load_takes args [] place fit = absurd (let e = fit.fitting in cc)
atomic_load_takes args (a ∷ []) None fit = absurd (let e = fit.fitting in cc)
atomic_load_takes args (a ∷ []) (Some t) fit =
    let p = and_parts (is_raw a) (is_atomic t) fit.fitting in
    let one = one_value a args fit.shapes in
    let at = pointer_there a one.x p.0 one.shape in
    let int = atomic_there t p.1 in
    record { pointer = at.0; int = int.int; is = one.is ∙ ap (λ v. v ∷ []) at.1; gives = ap (λ (u : Ty). Some u) int.is }
atomic_load_takes args (a ∷ b ∷ types) place fit = absurd (let e = fit.fitting in cc)

pub record TakesExchange (args : List Val) (place : Option Ty) : Type 0 where
  pub pointer : Pointer
  pub int : IntType
  pub expected : ℕ
  pub new : ℕ
  pub is : args ≡ val.Ptr pointer ∷ val.Int expected ∷ val.Int new ∷ []
  pub expected_small : expected < 2 ^ (8 * int_size int)
  pub small : new < 2 ^ (8 * int_size int)
  pub gives : place ≡ Some (ty.Int int)

pub exchange_takes : (args : List Val) (types : List Ty) (place : Option Ty) → Fits intrinsic.CompareExchange args types place → TakesExchange args place
exchange_takes args [] place fit = absurd (let e = fit.fitting in cc)
exchange_takes args (a ∷ []) place fit = absurd (let e = fit.fitting in cc)
exchange_takes args (a ∷ b ∷ []) place fit = absurd (let e = fit.fitting in cc)
exchange_takes args (a ∷ b ∷ d ∷ []) place fit =
    let p = and_parts (is_raw a) (is_atomic b && (same_type d b && gives b place)) fit.fitting in
    let q = and_parts (is_atomic b) (same_type d b && gives b place) p.1 in
    let r = and_parts (same_type d b) (gives b place) q.1 in
    let three = three_values a b d args fit.shapes in
    let at = pointer_there a three.x p.0 three.first in
    let int = atomic_there b q.0 in
    let n = number_at int.int b three.y int.is three.second in
    let k = number_at int.int d three.z (same_type_equal d b r.0 ∙ int.is) three.third in
    record {
      pointer = at.0;
      int = int.int;
      expected = n.bits;
      new = k.bits;
      expected_small = n.small;
      is = three.is ∙ (λ i. at.1 i ∷ n.is i ∷ k.is i ∷ []);
      small = k.small;
      gives = result_is b place r.1 ∙ ap (λ (u : Ty). Some u) int.is;
    }
exchange_takes args (a ∷ b ∷ d ∷ w ∷ types) place fit = absurd (let e = fit.fitting in cc)

pub record TakesFetch (args : List Val) (place : Option Ty) : Type 0 where
  pub pointer : Pointer
  pub int : IntType
  pub by : ℕ
  pub is : args ≡ val.Ptr pointer ∷ val.Int by ∷ []
  pub small : by < 2 ^ (8 * int_size int)
  pub gives : place ≡ Some (ty.Int int)

-- the types of a fetch
abbrev pub fetch_types : List Ty → Option Ty → Bool
fetch_types (a ∷ b ∷ []) place = is_raw a && (is_atomic b && gives b place)
fetch_types _ place = false

pub fetch_fits : (op : Intrinsic) (types : List Ty) (place : Option Ty) → IsFetch op → fits_intrinsic op types place ≡ true → fetch_types types place ≡ true
fetch_fits intrinsic.FetchAdd (a ∷ b ∷ []) place is e = e
fetch_fits intrinsic.FetchAdd _ place is e = e
fetch_fits intrinsic.FetchSub (a ∷ b ∷ []) place is e = e
fetch_fits intrinsic.FetchSub _ place is e = e
fetch_fits intrinsic.FetchAnd (a ∷ b ∷ []) place is e = e
fetch_fits intrinsic.FetchAnd _ place is e = e
fetch_fits intrinsic.FetchOr (a ∷ b ∷ []) place is e = e
fetch_fits intrinsic.FetchOr _ place is e = e
fetch_fits intrinsic.FetchXor (a ∷ b ∷ []) place is e = e
fetch_fits intrinsic.FetchXor _ place is e = e
fetch_fits _ types place is e = absurd is

pub fetch_takes : (op : Intrinsic) (args : List Val) (types : List Ty) (place : Option Ty) → IsFetch op → Fits op args types place → TakesFetch args place
fetch_takes op args types place is fit = by_types types (fetch_fits op types place is fit.fitting) fit.shapes
  where
    by_types : (ts : List Ty) → fetch_types ts place ≡ true → HaveShapes ts args → TakesFetch args place
    by_types [] e shapes = absurd (cc)
    by_types (a ∷ []) e shapes = absurd (cc)
    by_types (a ∷ b ∷ []) e shapes =
        let p = and_parts (is_raw a) (is_atomic b && gives b place) e in
        let q = and_parts (is_atomic b) (gives b place) p.1 in
        let two = two_values a b args shapes in
        let at = pointer_there a two.x p.0 two.first in
        let int = atomic_there b q.0 in
        let n = number_at int.int b two.y int.is two.second in
        record {
          pointer = at.0;
          int = int.int;
          by = n.bits;
          is = two.is ∙ (λ i. at.1 i ∷ n.is i ∷ []);
          small = n.small;
          gives = result_is b place q.1 ∙ ap (λ (u : Ty). Some u) int.is;
        }
    by_types (a ∷ b ∷ d ∷ ts) e shapes = absurd (cc)
