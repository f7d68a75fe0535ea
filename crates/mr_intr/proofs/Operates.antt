-- Each intrinsic but the start of a thread and the look at a payload, on what fits it, has a rule.
use Rattle.mr_intr.proofs.Common.{◌≡◌, ℕ, refl, subst, sym, List, [], ◌∷◌, Option, None, Some, true, ◌&&◌, nat_le, slice_get, list_all, and_parts, Intrinsic, U32, U64, Ty, Enabled, size_of, Val, fits_intrinsic, gives, gives_nothing, is_atomic, is_bool, is_int, is_integer, is_raw, is_scalar_number, same_type_equal, run, HaveShapes, IsSoundTables, Notes, start_notes, Shared, answer, tables_of, AreHeld, Slot, Leaves, After, IsOperation, Operation, fetch, operation}
use Rattle.mr_typing.specs.SameTypes.{same_type}
use Rattle.mr_ast.specs.declared.program.Intrinsic.TheVariants as intrinsic
use Rattle.mr_ast.specs.declared.types.Ty.TheVariants as ty
use Rattle.mr_intr.proofs.Arguments.{fetch_fits, fetch_types}
use Rattle.mr_intr.proofs.Leaving.{OpPlan}
use Rattle.mr_intr.proofs.LockSafe.{acquire_safe, create_safe, join_safe, release_safe}
use Rattle.mr_intr.proofs.OperationSafe.{allocate_safe, assume_safe, atomic_load_safe, atomic_store_safe, deallocate_safe, exchange_safe, fetch_safe, no_result, print_safe, result_is}

module _ (s : Shared) (t c : ℕ) (sound : IsSoundTables (tables_of s)) (enabled : slice_get s.statuses t ≡ Some Enabled) (rooms : List Slot)
    (v : Shared × Notes) (leaves : Leaves s.memory t c (s, start_notes t c) v) (held : AreHeld v.0.memory rooms) where
  abbrev Planned : Option Ty → Operation → Type 0
  Planned result operating = After (OpPlan s t c rooms result) (run answer operating v)

  assume_operates : (types : List Ty) (args : List Val) (result : Option Ty) → HaveShapes types args → fits_intrinsic intrinsic.Assume types result ≡ true → Planned result (operation intrinsic.Assume args types result)
  assume_operates [] args result shapes fits = absurd (cc)
  assume_operates (a ∷ []) [] result shapes fits = absurd shapes
  assume_operates (a ∷ []) (x ∷ []) result shapes fits =
      let p = and_parts (is_bool a) (gives_nothing result) fits in
      assume_safe s t c sound enabled rooms v leaves held a x result p.0 shapes.0 (no_result result p.1)
  assume_operates (a ∷ []) (x ∷ more ∷ args) result shapes fits = absurd (shapes.1)
  assume_operates (a ∷ more ∷ types) args result shapes fits = absurd (cc)

  allocate_operates : (types : List Ty) (args : List Val) (result : Option Ty) → HaveShapes types args → fits_intrinsic intrinsic.Allocate types result ≡ true → Planned result (operation intrinsic.Allocate args types result)
  allocate_operates [] args result shapes fits = absurd (cc)
  allocate_operates (a ∷ []) args result shapes fits = absurd (cc)
  allocate_operates (a ∷ b ∷ []) [] result shapes fits = absurd shapes
  allocate_operates (a ∷ b ∷ []) (x ∷ []) result shapes fits = absurd shapes.1
  allocate_operates (a ∷ b ∷ []) (x ∷ y ∷ []) result shapes fits =
      let p = and_parts (is_int U64 a) (is_int U64 b && gives ty.Raw result) fits in
      let q = and_parts (is_int U64 b) (gives ty.Raw result) p.1 in
      allocate_safe s t c sound enabled rooms v leaves held a b x y result p.0 q.0 shapes.0 shapes.1.0 (result_is ty.Raw result q.1)
  allocate_operates (a ∷ b ∷ []) (x ∷ y ∷ more ∷ args) result shapes fits = absurd (shapes.1.1)
  allocate_operates (a ∷ b ∷ more ∷ types) args result shapes fits = absurd (cc)

  deallocate_operates : (types : List Ty) (args : List Val) (result : Option Ty) → HaveShapes types args → fits_intrinsic intrinsic.Deallocate types result ≡ true → Planned result (operation intrinsic.Deallocate args types result)
  deallocate_operates [] args result shapes fits = absurd (cc)
  deallocate_operates (a ∷ []) args result shapes fits = absurd (cc)
  deallocate_operates (a ∷ b ∷ []) args result shapes fits = absurd (cc)
  deallocate_operates (a ∷ b ∷ d ∷ []) [] result shapes fits = absurd shapes
  deallocate_operates (a ∷ b ∷ d ∷ []) (x ∷ []) result shapes fits = absurd shapes.1
  deallocate_operates (a ∷ b ∷ d ∷ []) (x ∷ y ∷ []) result shapes fits = absurd shapes.1.1
  deallocate_operates (a ∷ b ∷ d ∷ []) (x ∷ y ∷ z ∷ []) result shapes fits =
      let p = and_parts (is_raw a) (is_int U64 b && (is_int U64 d && gives_nothing result)) fits in
      let q = and_parts (is_int U64 b) (is_int U64 d && gives_nothing result) p.1 in
      let r = and_parts (is_int U64 d) (gives_nothing result) q.1 in
      deallocate_safe s t c sound enabled rooms v leaves held a b d x y z result p.0 q.0 r.0 shapes.0 shapes.1.0 shapes.1.1.0 (no_result result r.1)
  deallocate_operates (a ∷ b ∷ d ∷ []) (x ∷ y ∷ z ∷ more ∷ args) result shapes fits = absurd (shapes.1.1.1)
  deallocate_operates (a ∷ b ∷ d ∷ more ∷ types) args result shapes fits = absurd (cc)

  join_operates : (types : List Ty) (args : List Val) (result : Option Ty) → HaveShapes types args → fits_intrinsic intrinsic.Join types result ≡ true → Planned result (operation intrinsic.Join args types result)
  join_operates [] args result shapes fits = absurd (cc)
  join_operates (a ∷ []) [] result shapes fits = absurd shapes
  join_operates (a ∷ []) (x ∷ []) result shapes fits =
      let p = and_parts (is_int U32 a) (gives_nothing result) fits in
      join_safe s t c sound enabled rooms v leaves held a x result p.0 shapes.0 (no_result result p.1)
  join_operates (a ∷ []) (x ∷ more ∷ args) result shapes fits = absurd (shapes.1)
  join_operates (a ∷ more ∷ types) args result shapes fits = absurd (cc)

  create_lock_operates : (types : List Ty) (args : List Val) (result : Option Ty) → HaveShapes types args → fits_intrinsic intrinsic.CreateLock types result ≡ true → Planned result (operation intrinsic.CreateLock args types result)
  create_lock_operates [] [] result shapes fits = create_safe s t c sound enabled rooms v leaves held result (result_is (ty.Int U32) result fits)
  create_lock_operates [] (more ∷ args) result shapes fits = absurd (shapes)
  create_lock_operates (more ∷ types) args result shapes fits = absurd (cc)

  acquire_operates : (types : List Ty) (args : List Val) (result : Option Ty) → HaveShapes types args → fits_intrinsic intrinsic.Acquire types result ≡ true → Planned result (operation intrinsic.Acquire args types result)
  acquire_operates [] args result shapes fits = absurd (cc)
  acquire_operates (a ∷ []) [] result shapes fits = absurd shapes
  acquire_operates (a ∷ []) (x ∷ []) result shapes fits =
      let p = and_parts (is_int U32 a) (gives_nothing result) fits in
      acquire_safe s t c sound enabled rooms v leaves held a x result p.0 shapes.0 (no_result result p.1)
  acquire_operates (a ∷ []) (x ∷ more ∷ args) result shapes fits = absurd (shapes.1)
  acquire_operates (a ∷ more ∷ types) args result shapes fits = absurd (cc)

  release_operates : (types : List Ty) (args : List Val) (result : Option Ty) → HaveShapes types args → fits_intrinsic intrinsic.Release types result ≡ true → Planned result (operation intrinsic.Release args types result)
  release_operates [] args result shapes fits = absurd (cc)
  release_operates (a ∷ []) [] result shapes fits = absurd shapes
  release_operates (a ∷ []) (x ∷ []) result shapes fits =
      let p = and_parts (is_int U32 a) (gives_nothing result) fits in
      release_safe s t c sound enabled rooms v leaves held a x result p.0 shapes.0 (no_result result p.1)
  release_operates (a ∷ []) (x ∷ more ∷ args) result shapes fits = absurd (shapes.1)
  release_operates (a ∷ more ∷ types) args result shapes fits = absurd (cc)

  atomic_store_operates : (types : List Ty) (args : List Val) (result : Option Ty) → HaveShapes types args → fits_intrinsic intrinsic.AtomicStore types result ≡ true → Planned result (operation intrinsic.AtomicStore args types result)
  atomic_store_operates [] args result shapes fits = absurd (cc)
  atomic_store_operates (a ∷ []) args result shapes fits = absurd (cc)
  atomic_store_operates (a ∷ b ∷ []) [] result shapes fits = absurd shapes
  atomic_store_operates (a ∷ b ∷ []) (x ∷ []) result shapes fits = absurd shapes.1
  atomic_store_operates (a ∷ b ∷ []) (x ∷ y ∷ []) result shapes fits =
      let p = and_parts (is_raw a) (is_atomic b && gives_nothing result) fits in
      let q = and_parts (is_atomic b) (gives_nothing result) p.1 in
      atomic_store_safe s t c sound enabled rooms v leaves held a b x y result p.0 shapes.0 (no_result result q.1)
  atomic_store_operates (a ∷ b ∷ []) (x ∷ y ∷ more ∷ args) result shapes fits = absurd (shapes.1.1)
  atomic_store_operates (a ∷ b ∷ more ∷ types) args result shapes fits = absurd (cc)

  compare_exchange_operates : (types : List Ty) (args : List Val) (result : Option Ty) → HaveShapes types args → fits_intrinsic intrinsic.CompareExchange types result ≡ true → Planned result (operation intrinsic.CompareExchange args types result)
  compare_exchange_operates [] args result shapes fits = absurd (cc)
  compare_exchange_operates (a ∷ []) args result shapes fits = absurd (cc)
  compare_exchange_operates (a ∷ b ∷ []) args result shapes fits = absurd (cc)
  compare_exchange_operates (a ∷ b ∷ d ∷ []) [] result shapes fits = absurd shapes
  compare_exchange_operates (a ∷ b ∷ d ∷ []) (x ∷ []) result shapes fits = absurd shapes.1
  compare_exchange_operates (a ∷ b ∷ d ∷ []) (x ∷ y ∷ []) result shapes fits = absurd shapes.1.1
  compare_exchange_operates (a ∷ b ∷ d ∷ []) (x ∷ y ∷ z ∷ []) result shapes fits =
      let p = and_parts (is_raw a) (is_atomic b && (same_type d b && gives b result)) fits in
      let q = and_parts (is_atomic b) (same_type d b && gives b result) p.1 in
      let r = and_parts (same_type d b) (gives b result) q.1 in
      let int = (and_parts (is_integer b) (nat_le (size_of b) 8) q.0).0 in
      subst (λ (o : Option Ty). Planned o (operation intrinsic.CompareExchange (x ∷ y ∷ z ∷ []) (a ∷ b ∷ d ∷ []) o)) (sym (result_is b result r.1))
      (exchange_safe s t c sound enabled rooms v leaves held a b d x y z p.0 int (subst (λ (u : Ty). is_integer u ≡ true) (sym (same_type_equal d b r.0)) int) shapes.0 shapes.1.0 shapes.1.1.0)
  compare_exchange_operates (a ∷ b ∷ d ∷ []) (x ∷ y ∷ z ∷ more ∷ args) result shapes fits = absurd (shapes.1.1.1)
  compare_exchange_operates (a ∷ b ∷ d ∷ more ∷ types) args result shapes fits = absurd (cc)

  -- a fetch, by what it does with two arguments
  fetch_operates : (op : Intrinsic) → ((x y : Val) (ts : List Ty) (u : Ty) → operation op (x ∷ y ∷ []) ts (Some u) ≡ fetch op x u y)
      → (types : List Ty) (args : List Val) (result : Option Ty) → HaveShapes types args → fetch_types types result ≡ true → Planned result (operation op args types result)
  fetch_operates op is [] args result shapes fits = absurd (cc)
  fetch_operates op is (a ∷ []) args result shapes fits = absurd (cc)
  fetch_operates op is (a ∷ b ∷ []) [] result shapes fits = absurd shapes
  fetch_operates op is (a ∷ b ∷ []) (x ∷ []) result shapes fits = absurd shapes.1
  fetch_operates op is (a ∷ b ∷ []) (x ∷ y ∷ []) result shapes fits =
      let p = and_parts (is_raw a) (is_atomic b && gives b result) fits in
      let q = and_parts (is_atomic b) (gives b result) p.1 in
      let int = (and_parts (is_integer b) (nat_le (size_of b) 8) q.0).0 in
      subst (λ (o : Option Ty). Planned o (operation op (x ∷ y ∷ []) (a ∷ b ∷ []) o)) (sym (result_is b result q.1))
      (subst (Planned (Some b)) (sym (is x y (a ∷ b ∷ []) b)) (fetch_safe s t c sound enabled rooms v leaves held op a b x y p.0 int shapes.0 shapes.1.0))
  fetch_operates op is (a ∷ b ∷ []) (x ∷ y ∷ more ∷ args) result shapes fits = absurd (shapes.1.1)
  fetch_operates op is (a ∷ b ∷ more ∷ types) args result shapes fits = absurd (cc)

  print_operates : (types : List Ty) (args : List Val) (result : Option Ty) → HaveShapes types args → fits_intrinsic intrinsic.Print types result ≡ true → Planned result (operation intrinsic.Print args types result)
  print_operates types args result shapes fits =
      let p = and_parts (list_all is_scalar_number types) (gives_nothing result) fits in
      print_safe s t c sound enabled rooms v leaves held types args result p.0 shapes (no_result result p.1)

  atomic_load_operates : (types : List Ty) (args : List Val) (result : Option Ty) → HaveShapes types args → fits_intrinsic intrinsic.AtomicLoad types result ≡ true → Planned result (operation intrinsic.AtomicLoad args types result)
  atomic_load_operates [] args result shapes fits = absurd (cc)
  atomic_load_operates (a ∷ []) args None shapes fits = absurd (cc)
  atomic_load_operates (a ∷ []) [] (Some b) shapes fits = absurd shapes
  atomic_load_operates (a ∷ []) (x ∷ []) (Some b) shapes fits =
      let p = and_parts (is_raw a) (is_atomic b) fits in
      atomic_load_safe s t c sound enabled rooms v leaves held a b x p.0 shapes.0 (and_parts (is_integer b) (nat_le (size_of b) 8) p.1).0
  atomic_load_operates (a ∷ []) (x ∷ more ∷ args) (Some b) shapes fits = absurd (shapes.1)
  atomic_load_operates (a ∷ more ∷ types) args result shapes fits = absurd (cc)

  -- AN INTRINSIC'S OPERATION on what fits it
  pub operation_safe : (op : Intrinsic) → IsOperation op → (types : List Ty) (args : List Val) (result : Option Ty) → HaveShapes types args → fits_intrinsic op types result ≡ true → Planned result (operation op args types result)
  operation_safe intrinsic.Assume is types args result shapes fits = assume_operates types args result shapes fits
  operation_safe intrinsic.Print is types args result shapes fits = print_operates types args result shapes fits
  operation_safe intrinsic.Allocate is types args result shapes fits = allocate_operates types args result shapes fits
  operation_safe intrinsic.Deallocate is types args result shapes fits = deallocate_operates types args result shapes fits
  operation_safe intrinsic.Spawn is types args result shapes fits = absurd is
  operation_safe intrinsic.Join is types args result shapes fits = join_operates types args result shapes fits
  operation_safe intrinsic.CreateLock is types args result shapes fits = create_lock_operates types args result shapes fits
  operation_safe intrinsic.Acquire is types args result shapes fits = acquire_operates types args result shapes fits
  operation_safe intrinsic.Release is types args result shapes fits = release_operates types args result shapes fits
  operation_safe intrinsic.AtomicStore is types args result shapes fits = atomic_store_operates types args result shapes fits
  operation_safe intrinsic.AtomicLoad is types args result shapes fits = atomic_load_operates types args result shapes fits
  operation_safe intrinsic.CompareExchange is types args result shapes fits = compare_exchange_operates types args result shapes fits
  operation_safe intrinsic.FetchAdd is types args result shapes fits = fetch_operates intrinsic.FetchAdd (λ x y ts u. refl) types args result shapes (fetch_fits intrinsic.FetchAdd types result tt fits)
  operation_safe intrinsic.FetchSub is types args result shapes fits = fetch_operates intrinsic.FetchSub (λ x y ts u. refl) types args result shapes (fetch_fits intrinsic.FetchSub types result tt fits)
  operation_safe intrinsic.FetchAnd is types args result shapes fits = fetch_operates intrinsic.FetchAnd (λ x y ts u. refl) types args result shapes (fetch_fits intrinsic.FetchAnd types result tt fits)
  operation_safe intrinsic.FetchOr is types args result shapes fits = fetch_operates intrinsic.FetchOr (λ x y ts u. refl) types args result shapes (fetch_fits intrinsic.FetchOr types result tt fits)
  operation_safe intrinsic.FetchXor is types args result shapes fits = fetch_operates intrinsic.FetchXor (λ x y ts u. refl) types args result shapes (fetch_fits intrinsic.FetchXor types result tt fits)
  operation_safe intrinsic.Payload is types args result shapes fits = absurd is
