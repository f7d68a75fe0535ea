-- The operations of intrinsics on arguments that fit them have a rule, and what they leave.
use Rattle.mr_intr.proofs.Common.{◌≡◌, ℕ, ◌<◌, ◌*◌, ◌^◌, refl, subst, sym, ap, ◌∙◌, arith, List, [], ◌∷◌, length, Option, Some, None, Bool, true, false, slice_get, if◌then◌else◌, is_some, nat_lt, ◌-◌, ◌++◌, list_all, and_parts, Stop, plainly, int_size, IntType, U64, Ty, out-Ty, AbstractByte, Heap, Pointer, BadAlign, SizeTooLarge, Intrinsic, Enabled, align_of, size_of, lt_test, size_int, ranges_of, Val, out-Val, encoding_of, number_of, has_shape, has_int, has_raw, shape_int, gives, gives_nothing, is_bool, is_int, is_integer, is_raw, is_scalar_number, integer_of, integer_in, same_type_equal, Done, Ask, ◌>>=◌, run, Allocate, Free, MemoryScript, Modify, Write, reading_part, or_ill_formed, pointer_in, Read, HaveShapes, Address, IsSoundTables, creation_fault, picks_fault, CreatesNothing, Notes, start_notes, OfMemory, Print, Shared, StepScript, answer, memory_part, tables_of, AreHeld, Slot, no_faults, picks_length, Leaves, Left, leaves_then, After, FitsPlace, Operation, allocate, allocating, assume, assuming, atomic_load, atomic_store, compare_exchange, deallocate, exchanged, fetch, fetched, found, loaded, modify, number_in, print, truth_in, is_power_of_two, with_pick, bool_text, number_text, spaced, text_layer, text_of, texts_of}
use Rattle.std.specs.Prelude.{◌||◌}
use Rattle.mr_eval.specs.Typed.{meaningless}
use Rattle.mr_value.proofs.DecodeShape.{number_fits}
use Rattle.mr_typing.proofs.KindLaws.{bool_is, integer_is}
use Rattle.mr_base.specs.Script.{Undefined}
use Rattle.mr_eval.specs.Sound.{IsSafe, any_result}
use Rattle.mr_eval.proofs.OperatorsSafe.{bool_layer, integer_layer, raw_layer}
use Rattle.mr_eval.proofs.SafeLaws.{safe_found, safe_then}
use Rattle.mr_plan.specs.Safety.{IsSafeChange}
use Rattle.mr_plan.proofs.MemoryParts.{reading_after}
use Rattle.mr_plan.proofs.Outcomes.{after_then}
use Rattle.mr_plan.proofs.SafetyLaws.{reading_safe}
use Rattle.mr_plan.proofs.StorageRuns.{Keeps, entails_same, quiet_keeps}
use Rattle.mr_plan.proofs.QuietRuns.{reading_quiet}
use Rattle.mr_intr.specs.Operations.{instant}
use Rattle.mr_value.specs.Discriminants.{number_of_bits}
use Rattle.mr_ast.specs.declared.types.Ty.TheVariants as ty
use Rattle.mr_value.specs.declared.val.Val.TheVariants as val
use Rattle.mr_intr.proofs.Leaving.{AfterOp, OpPlan, memory_op, same_left}

-- ---- types

pub no_result : (r : Option Ty) → gives_nothing r ≡ true → r ≡ None
no_result None h = refl
no_result (Some t) h = absurd (cc)

pub result_is : (u : Ty) (r : Option Ty) → gives u r ≡ true → r ≡ Some u
result_is u None h = absurd (cc)
result_is u (Some t) h = ap (λ (x : Ty). Some x) (same_type_equal t u h)

-- the number that an integer of a type is
pub int_there : (i : IntType) (t : Ty) (v : Val) → is_int i t ≡ true → has_shape t v ≡ true → (n : ℕ) × (number_in (out-Val v) ≡ Some n)
int_there i t v e h =
    let made = shape_int i v (subst (λ (u : Ty). has_shape u v ≡ true) (same_type_equal t (ty.Int i) e) h) in
    (made.bits, ap number_in (ap out-Val made.is ∙ val.outs-Int made.bits))

pub raw_there : (t : Ty) (v : Val) → is_raw t ≡ true → has_shape t v ≡ true → (p : Pointer) × (pointer_in (out-Val v) ≡ Some p)
raw_there t v e h = let p = raw_layer t v e h in (p.0, ap pointer_in p.1)

bool_there : (t : Ty) (v : Val) → is_bool t ≡ true → has_shape t v ≡ true → (b : Bool) × (truth_in (out-Val v) ≡ Some b)
bool_there t v e h = let b = bool_layer t v e h in (b.0, ap truth_in b.1)

some_int : (o : Option IntType) → is_some o ≡ true → (i : IntType) × (o ≡ Some i)
some_int None e = absurd (cc)
some_int (Some i) e = (i, refl)

-- a number of so many bytes is one of an integer type of this size
fits_int : (t : Ty) (n : ℕ) → is_integer t ≡ true → n < 2 ^ (8 * size_of t) → has_shape t (val.Int n) ≡ true
fits_int t n e lt =
    let i = some_int (integer_of t) e in
    let is = integer_is t i.0 i.1 in
    let small : n < 2 ^ (8 * int_size i.0) = subst (λ k. n < 2 ^ (8 * k)) (ap size_of is ∙ size_int i.0) lt in
    ap (λ (u : Ty). has_shape u (val.Int n)) is ∙ has_int i.0 n ∙ lt_test n (2 ^ (8 * int_size i.0)) small

-- the second of two, where the first is not so
other : (a b : Bool) → a ≡ false → (a || b) ≡ true → b ≡ true
other true b e either = absurd (cc)
other false b e either = either

-- the texts of integers and bools
text_there : (t : Ty) (v : Val) → is_scalar_number t ≡ true → has_shape t v ≡ true → (text : List ℕ) × (text_of t v ≡ Some text)
text_there t v e h = by_test (is_integer t) refl
  where
    is_the_bool : is_integer t ≡ false → (is_integer t || is_bool t) ≡ true → is_bool t ≡ true
    is_the_bool int either = other (is_integer t) (is_bool t) int either

    by_test : (b : Bool) → is_integer t ≡ b → (text : List ℕ) × (text_of t v ≡ Some text)
    by_test true int = let made = integer_layer t v int h in (number_text (number_of_bits made.int made.bits), (λ i. text_layer ((ap out-Ty made.ty ∙ ty.outs-Int made.int) i) (made.layer i)))
    by_test false int = let b = bool_layer t v (is_the_bool int e) h in (bool_text b.0, (λ i. text_layer ((ap out-Ty (bool_is t (is_the_bool int e)) ∙ ty.outs-Bool) i) (b.1 i)))

module _ (s : Shared) (t c : ℕ) (sound : IsSoundTables (tables_of s)) (enabled : slice_get s.statuses t ≡ Some Enabled) (rooms : List Slot)
    (v : Shared × Notes) (leaves : Leaves s.memory t c (s, start_notes t c) v) (held : AreHeld v.0.memory rooms) where
  abbrev pub AfterDone : Option Ty → Option Val → Shared × Notes → Type 0
  AfterDone result r u = AfterOp s t c rooms result r u

  -- a plan that is made
  abbrev pub Planned : Option Ty → Operation → Type 0
  Planned result operating = After (OpPlan s t c rooms result) (run answer operating v)

  instant_op : (result : Option Ty) (script : StepScript (Option Val)) → After (AfterDone result) (run answer script v) → Planned result (instant script)
  instant_op result script h = λ picks legal. h

  pub found_then : {A B : Type 0} (P : B → Shared × Notes → Type 0) (o : Option A) (x : A) (f : A → StepScript B) → o ≡ Some x → After P (run answer (f x) v) → After P (run answer (found o >>= f) v)
  found_then P o x f e h = subst (λ w. After P (run answer (found w >>= f) v)) (sym e) h

  nothing : (result : Option Ty) → result ≡ None → AfterDone result None v
  nothing result e = (subst (λ r. FitsPlace r None) (sym e) refl, same_left s t c sound enabled rooms v v leaves held refl refl)

  pub assume_safe : (a : Ty) (x : Val) (result : Option Ty) → is_bool a ≡ true → has_shape a x ≡ true → result ≡ None → Planned result (assume x)
  assume_safe a x result is shape none =
      let b = bool_there a x is shape in
      instant_op result (found (truth_in (out-Val x)) >>= assuming) (found_then (AfterDone result) (truth_in (out-Val x)) b.0 assuming b.1 (by_truth b.0))
    where
      by_truth : (b : Bool) → After (AfterDone result) (run answer (assuming b) v)
      by_truth true = nothing result none
      by_truth false = tt

  -- a change of memory that neither makes nor frees on the stack
  memory_does : (result : Option Ty) (script : MemoryScript (Option Val)) → IsSafeChange (FitsPlace result) script → Keeps (λ r. rooms) rooms script → After (AfterDone result) (run answer (memory_part script) v)
  memory_does result script safe keeps = memory_op s t c sound enabled rooms result script safe keeps v leaves held

  pub allocate_safe : (a b : Ty) (x y : Val) (result : Option Ty) → is_int U64 a ≡ true → is_int U64 b ≡ true → has_shape a x ≡ true → has_shape b y ≡ true → result ≡ Some ty.Raw → Planned result (allocate x y)
  allocate_safe a b x y result is_a is_b shape_a shape_b raw =
      let n = int_there U64 a x is_a shape_a in
      let m = int_there U64 b y is_b shape_b in
      found_then (OpPlan s t c rooms result) (number_in (out-Val x)) n.0 _ n.1
      (found_then (OpPlan s t c rooms result) (number_in (out-Val y)) m.0 (allocating n.0) m.1 (by_tests n.0 m.0 (nat_lt (2 ^ 63 - 1) n.0) (is_power_of_two m.0)))
    where
      with_pick_safe : (size align : ℕ) (picks : List ℕ) → length picks ≡ 1 → After (AfterDone result) (run answer ((with_pick (Address size align) (λ a. Ask (OfMemory (Allocate Heap size align a)) (λ p. Done (Some (val.Ptr p))))).go picks) v)
      with_pick_safe size align [] e = absurd (omega arith)
      with_pick_safe size align (a ∷ []) e =
          memory_does result (Ask (Allocate Heap size align a) (λ p. Done (Some (val.Ptr p)))) (λ p good. subst (λ r. FitsPlace r (Some (val.Ptr p))) (sym raw) (val.Ptr p, refl, has_raw p)) (rooms, entails_same rooms, tt, λ p. entails_same rooms)
      with_pick_safe size align (a ∷ b ∷ picks) e = absurd (omega arith)

      by_tests : (size align : ℕ) (large power : Bool) → Planned result (if large then Undefined (plainly SizeTooLarge) else (if power then Done (with_pick (Address size align) (λ a. Ask (OfMemory (Allocate Heap size align a)) (λ p. Done (Some (val.Ptr p))))) else Undefined (plainly BadAlign)))
      by_tests size align true power = tt
      by_tests size align false true =
          λ picks legal.
          let parts = no_faults (creation_fault s CreatesNothing) (picks_fault s.statuses (ranges_of s.memory) t c (Address size align ∷ []) picks) legal in
          with_pick_safe size align picks (picks_length s.statuses (ranges_of s.memory) t c (Address size align ∷ []) picks parts.1)
      by_tests size align false false = tt

  pub deallocate_safe : (a b d : Ty) (x y z : Val) (result : Option Ty) → is_raw a ≡ true → is_int U64 b ≡ true → is_int U64 d ≡ true → has_shape a x ≡ true → has_shape b y ≡ true → has_shape d z ≡ true → result ≡ None → Planned result (deallocate x y z)
  deallocate_safe a b d x y z result is_a is_b is_d shape_a shape_b shape_d none =
      let p = raw_there a x is_a shape_a in
      let n = int_there U64 b y is_b shape_b in
      let m = int_there U64 d z is_d shape_d in
      λ picks legal.
      found_then (AfterDone result) (pointer_in (out-Val x)) p.0 _ p.1
      (found_then (AfterDone result) (number_in (out-Val y)) n.0 _ n.1
      (found_then (AfterDone result) (number_in (out-Val z)) m.0 _ m.1
      (memory_does result (Ask (Free p.0 Heap n.0 m.0) (λ u. Done None)) (λ u good. subst (λ r. FitsPlace r None) (sym none) refl) (rooms, entails_same rooms, tt, λ u. entails_same rooms))))

  pub atomic_store_safe : (a b : Ty) (x y : Val) (result : Option Ty) → is_raw a ≡ true → has_shape a x ≡ true → result ≡ None → Planned result (atomic_store x b y)
  atomic_store_safe a b x y result is_a shape_a none =
      let p = raw_there a x is_a shape_a in
      λ picks legal.
      found_then (AfterDone result) (pointer_in (out-Val x)) p.0 _ p.1
      (memory_does result (Ask (Write true p.0 (encoding_of b y) (align_of b)) (λ u. Done None)) (λ u good. subst (λ r. FitsPlace r None) (sym none) refl) (rooms, entails_same rooms, tt, λ u. entails_same rooms))

  pub atomic_load_safe : (a b : Ty) (x : Val) → is_raw a ≡ true → has_shape a x ≡ true → is_integer b ≡ true → Planned (Some b) (atomic_load x b)
  atomic_load_safe a b x is_a shape_a int =
      let p = raw_there a x is_a shape_a in
      λ picks legal.
      found_then (AfterDone (Some b)) (pointer_in (out-Val x)) p.0 _ p.1
      (memory_does (Some b) (reading_part (Ask (Read true p.0 (size_of b) (align_of b)) (λ bytes. loaded (meaningless b p.0) (number_of bytes))))
      (reading_safe (FitsPlace (Some b)) (Ask (Read true p.0 (size_of b) (align_of b)) (λ bytes. loaded (meaningless b p.0) (number_of bytes))) (λ bytes good. by_number (meaningless b p.0) bytes good (number_of bytes) refl))
      (quiet_keeps rooms (reading_part (Ask (Read true p.0 (size_of b) (align_of b)) (λ bytes. loaded (meaningless b p.0) (number_of bytes)))) (reading_quiet (Ask (Read true p.0 (size_of b) (align_of b)) (λ bytes. loaded (meaningless b p.0) (number_of bytes))))))
    where
      by_number : (stop : Stop) (bytes : List AbstractByte) → length bytes ≡ size_of b → (o : Option ℕ) → number_of bytes ≡ o → IsSafe (FitsPlace (Some b)) (loaded stop o)
      by_number stop bytes good None e = tt
      by_number stop bytes good (Some n) e = (val.Int n, refl, fits_int b n int (subst (λ k. n < 2 ^ (8 * k)) good (number_fits bytes n e)))

  -- a read and a change in one
  modify_safe : (a b : Ty) (x : Val) (change : ℕ → Option ℕ) → is_raw a ≡ true → has_shape a x ≡ true → is_integer b ≡ true → After (AfterDone (Some b)) (run answer (modify x b change) v)
  modify_safe a b x change is_a shape_a int =
      let p = raw_there a x is_a shape_a in
      found_then (AfterDone (Some b)) (pointer_in (out-Val x)) p.0 _ p.1
      (memory_does (Some b) (Ask (Modify p.0 (size_of b) change) (λ n. Done (Some (val.Int n)))) (λ n good. (val.Int n, refl, fits_int b n int good)) (rooms, entails_same rooms, tt, λ n. entails_same rooms))

  -- an integer of any type
  number_there : (a : Ty) (x : Val) → is_integer a ≡ true → has_shape a x ≡ true → (n : ℕ) × (number_in (out-Val x) ≡ Some n)
  number_there a x e h =
      let made = integer_layer a x e h in
      (made.bits, ap number_in made.layer)

  pub exchange_safe : (a b d : Ty) (x y z : Val) → is_raw a ≡ true → is_integer b ≡ true → is_integer d ≡ true → has_shape a x ≡ true → has_shape b y ≡ true → has_shape d z ≡ true → Planned (Some b) (compare_exchange x b y z)
  exchange_safe a b d x y z is_a is_b is_d shape_a shape_b shape_d =
      let n = number_there b y is_b shape_b in
      let m = number_there d z is_d shape_d in
      λ picks legal.
      found_then (AfterDone (Some b)) (number_in (out-Val y)) n.0 _ n.1
      (found_then (AfterDone (Some b)) (number_in (out-Val z)) m.0 _ m.1 (modify_safe a b x (exchanged n.0 m.0) is_a shape_a is_b))

  pub fetch_safe : (op : Intrinsic) (a b : Ty) (x y : Val) → is_raw a ≡ true → is_integer b ≡ true → has_shape a x ≡ true → has_shape b y ≡ true → Planned (Some b) (fetch op x b y)
  fetch_safe op a b x y is_a is_b shape_a shape_b =
      let i = some_int (integer_of b) is_b in
      let n = number_there b y is_b shape_b in
      λ picks legal.
      found_then (AfterDone (Some b)) (integer_in (out-Ty b)) i.0 _ i.1
      (found_then (AfterDone (Some b)) (number_in (out-Val y)) n.0 _ n.1 (modify_safe a b x (fetched op i.0 n.0) is_a shape_a is_b))

  texts_safe : (types : List Ty) (args : List Val) → list_all is_scalar_number types ≡ true → HaveShapes types args → IsSafe any_result (texts_of types args)
  texts_safe [] [] all shapes = tt
  texts_safe [] (x ∷ args) all shapes = absurd shapes
  texts_safe (a ∷ types) [] all shapes = absurd shapes
  texts_safe (a ∷ types) (x ∷ args) all shapes =
      let parts = and_parts (is_scalar_number a) (list_all is_scalar_number types) all in
      let text = text_there a x parts.0 shapes.0 in
      safe_then any_result any_result (or_ill_formed (text_of a x)) _ (safe_found any_result (text_of a x) text.0 text.1 tt)
      (λ y u. safe_then any_result any_result (texts_of types args) _ (texts_safe types args parts.1 shapes.1) (λ ys w. tt))

  pub print_safe : (types : List Ty) (args : List Val) (result : Option Ty) → list_all is_scalar_number types ≡ true → HaveShapes types args → result ≡ None → Planned result (print types args)
  print_safe types args result all shapes none =
      λ picks legal.
      after_then answer (Left s.memory t c any_result (λ x. rooms) v) (AfterDone result) (memory_part (reading_part (texts_of types args))) (λ texts. Ask (Print (spaced texts)) (λ u. Done None)) v
      (reading_after s.memory t c any_result rooms (texts_of types args) (texts_safe types args all shapes) v leaves.facts held)
      (λ texts u left. (subst (λ r. FitsPlace r None) (sym none) refl, same_left s t c sound enabled rooms u (u.0, record u.1 { printed = u.1.printed ++ spaced texts ∷ [] }) (leaves_then s.memory t c (s, start_notes t c) v u leaves left.leaves) left.held refl refl))
