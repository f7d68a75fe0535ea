-- Returns and unwinding of a frame of a well-formed program are never ill-formed, and the frames fit again behind them.
use Rattle.mr_frame.proofs.Common.{◌≡◌, ℕ, ◌<◌, refl, sym, ap, ◌∙◌, subst, arith, List, [], ◌∷◌, length, Bool, true, false, Option, Some, None, same_Some, slice_get, ◌&&◌, if◌then◌else◌, option_map, list_all, and_parts, plainly, is_block, is_optional_block, is_shaped_term, named_in, is_shaped_place, is_shaped_value, Value, BlockName, Function, Local, Program, Ty, Pointer, MainReturned, TypeOk, Val, out-Val, has_shape, broken_in_parts, sizes_of, surroundings, is_raw, WellFormed, typed_unwind, Undefined, ◌>>=◌, Surround, stored, value_script, reading_part, or_ill_formed, pointer_in, pointer_of_value, IsSafe, any_result, loading, value_safe, Shaped, loading_safe, safe_found, IsSafeChange, change_then, read_then, Targets, free_each, give_result, give_to, is_main, leave, local_type, resume, return_from, return_value, targets_of, unwind, unwind_in, unwind_to, free_storage, store, AreCalling, FitsFrame, FitsOnward, IsCalling, IsLook, Frame, GoesOn, Look, Stack, at_block, scene_in, with_top, Site, has_storage, lt_from, item_there, all_at}
use Rattle.mr_eval.proofs.OperatorsSafe.{raw_layer}
use Rattle.mr_frame.specs.Calls.{targets_at, targets_in, targets_in_function}
use Rattle.mr_ast.specs.declared.program.Term.TheVariants as term
use Rattle.mr_frame.proofs.ChangesSafe.{free_safe, store_safe}
use Rattle.mr_frame.proofs.Frames.{block_shaped, fits_block, here, keeps, onward_block, stands}
use Rattle.mr_frame.proofs.Places.{storage_there}

-- ---- parts

-- the storage of as many locals as there are
pub free_each_safe : (ls : List Local) (storage : List (Option Pointer)) → length storage ≡ length ls → IsSafeChange any_result (free_each ls storage)
free_each_safe [] [] e = tt
free_each_safe [] (o ∷ rest) e = absurd (omega arith)
free_each_safe (l ∷ ls) [] e = absurd (omega arith)
free_each_safe (l ∷ ls) (o ∷ rest) e =
    change_then any_result any_result (free_storage l.ty o) (λ _. free_each ls rest) (free_safe l.ty o) (λ u k. free_each_safe ls rest (omega arith))

-- the targets of the call at which a frame stands
pub targets_there : (look : Look) (result : Option Ty) (f : Frame) (c : IsCalling look.program result f) → targets_of look f ≡ Some (record { next = c.next; unwind = c.unwind })
targets_there look result f c =
    ap (targets_in_function f) c.fits.is ∙ ap targets_at c.fits.here ∙ ap targets_in c.term

-- those that are there are blocks of its function
module _ (look : Look) (well : WellFormed look.program) (result : Option Ty) (f : Frame) (c : IsCalling look.program result f) where
  abbrev called : Bool
  called = is_optional_block (named_in look.program c.fits.function) c.next && is_optional_block (named_in look.program c.fits.function) c.unwind

  targets_shaped : (is_optional_block (named_in look.program c.fits.function) c.next ≡ true) × (is_optional_block (named_in look.program c.fits.function) c.unwind ≡ true)
  targets_shaped =
      let named = named_in look.program c.fits.function in
      let shaped : is_shaped_term named (term.Call c.callee c.args c.place c.next c.unwind) ≡ true = ap (is_shaped_term named) (sym c.term) ∙ (block_shaped look.program well f c.fits).term in
      let first = and_parts (is_shaped_value named c.callee) (list_all (is_shaped_value named) c.args && (is_shaped_place named c.place && called)) shaped in
      let row = and_parts (list_all (is_shaped_value named) c.args) (is_shaped_place named c.place && called) first.1 in
      let last = and_parts (is_shaped_place named c.place) called row.1 in
      and_parts (is_optional_block named c.next) (is_optional_block named c.unwind) last.1

  optional_below : (o : Option BlockName) (b : BlockName) → is_optional_block (named_in look.program c.fits.function) o ≡ true → o ≡ Some b → b.0 < length c.fits.function.blocks
  optional_below o b h e = lt_from b.0 (length c.fits.function.blocks) (ap (is_optional_block (named_in look.program c.fits.function)) (sym e) ∙ h)

  pub next_below : (b : BlockName) → c.next ≡ Some b → b.0 < length c.fits.function.blocks
  next_below b e = optional_below c.next b targets_shaped.0 e

  pub unwind_below : (b : BlockName) → c.unwind ≡ Some b → b.0 < length c.fits.function.blocks
  unwind_below b e = optional_below c.unwind b targets_shaped.1 e

-- the caller goes on at a block
pub onward_caller : (look : Look) (result : Option Ty) (s : Stack) (f : Frame) (below : List Frame) (c : IsCalling look.program result f)
    → AreCalling look.program (local_type c.fits.function c.fits.function.ret) below → (b : ℕ) → b < length c.fits.function.blocks → FitsOnward look.program (GoesOn (with_top s below (at_block f b)))
onward_caller look result s f below c calling b h = (fits_block look.program f c.fits b h, refl, calling)

module _ (look : Look) (is : IsLook look) (well : WellFormed look.program) (s : Stack) (f : Frame) (below : List Frame) (fits : FitsFrame look.program f) (calling : AreCalling look.program (local_type fits.function fits.function.ret) below) where
  abbrev p : Program
  p = look.program

  abbrev fn : Function
  fn = fits.function

  abbrev site : Site
  site = here look is well f below fits

  abbrev scene : Surround
  scene = scene_in look fn f

  -- ---- return

  abbrev ret_local : (l : Local) × (slice_get fn.locals fn.ret.0 ≡ Some l)
  ret_local = item_there fn.locals fn.ret.0 (keeps p well f fits).shaped.ret

  abbrev ret_ty : Ty
  ret_ty = ret_local.0.ty

  ret_is : local_type fn fn.ret ≡ Some ret_ty
  ret_is = ap (λ o. option_map (λ (l : Local). l.ty) o) ret_local.1

  ret_ok : TypeOk ret_ty
  ret_ok = all_at (λ (l : Local). TypeOk l.ty) fn.locals fn.ret.0 ret_local.0 (keeps p well f fits).unbroken.locals ret_local.1

  value_there : IsSafe (Shaped ret_ty) (return_value fn f)
  value_there =
      let kept = and_parts (has_storage f.locals fn.ret) (list_all (has_storage f.locals) fn.args) fits.kept in
      let q = storage_there f.locals fn.ret kept.0 in
      subst (λ (w : Option (Option Pointer)). IsSafe (Shaped ret_ty) (stored w >>= λ a. or_ill_formed (local_type fn fn.ret) >>= λ t. loading t a)) (sym q.1)
      (subst (λ (w : Option Ty). IsSafe (Shaped ret_ty) (or_ill_formed w >>= λ t. loading t q.0)) (sym ret_is) (loading_safe ret_ty q.0 ret_ok))

  -- the caller has the result
  module _ (caller : Frame) (rest : List Frame) (c : IsCalling p (local_type fn fn.ret) caller) (more : AreCalling p (local_type c.fits.function c.fits.function.ret) rest) (v : Val) (shape : has_shape ret_ty v ≡ true) where
    given_safe : (next : Option BlockName) → c.next ≡ next → IsSafeChange (FitsOnward p) (give_result s caller rest (Some ret_ty) v next (Some c.kept_place))
    given_safe None e = tt
    given_safe (Some b) e =
        change_then any_result (FitsOnward p) (store ret_ty c.kept_place v) _ (store_safe ret_ty c.kept_place v shape)
        (λ u k. onward_caller look (local_type fn fn.ret) s caller rest c more b.0 (next_below look well (local_type fn fn.ret) caller c b e))

    give_safe : IsSafeChange (FitsOnward p) (give_to s caller rest (local_type fn fn.ret) v (targets_of look caller))
    give_safe =
        subst (λ (w : Option Targets). IsSafeChange (FitsOnward p) (give_to s caller rest (local_type fn fn.ret) v w)) (sym (targets_there look (local_type fn fn.ret) caller c))
        (subst (λ (w : Option Ty × Option Pointer). IsSafeChange (FitsOnward p) (give_result s caller rest w.0 v c.next w.1)) (sym (λ i. (ret_is i, c.keeps i)))
        (given_safe c.next refl))

  leave_safe : (under : List Frame) → AreCalling p (local_type fn fn.ret) under → (v : Val) → has_shape ret_ty v ≡ true → IsSafeChange (FitsOnward p) (leave look s (local_type fn fn.ret) v under)
  leave_safe [] are v shape = refl
  leave_safe (caller ∷ rest) are v shape = give_safe caller rest are.0 are.1 v shape

  pub return_safe : (thread : ℕ) → IsSafeChange (FitsOnward p) (return_from look thread s site)
  return_safe thread = by_test (is_main thread below)
    where
      goes : IsSafeChange (FitsOnward p) (reading_part (return_value fn f) >>= λ v. free_each fn.locals f.locals >>= λ _. leave look s (local_type fn fn.ret) v below)
      goes =
          read_then (Shaped ret_ty) (FitsOnward p) (return_value fn f) _ value_there
          (λ v shape. change_then any_result (FitsOnward p) (free_each fn.locals f.locals) _ (free_each_safe fn.locals f.locals fits.locals) (λ u k. leave_safe below calling v shape))

      by_test : (b : Bool) → IsSafeChange (FitsOnward p) (if b then Undefined (plainly MainReturned) else (reading_part (return_value fn f) >>= λ v. free_each fn.locals f.locals >>= λ _. leave look s (local_type fn fn.ret) v below))
      by_test true = tt
      by_test false = goes

  -- ---- unwinding

  module _ (caller : Frame) (rest : List Frame) (c : IsCalling p (local_type fn fn.ret) caller) (more : AreCalling p (local_type c.fits.function c.fits.function.ret) rest) where
    unwound_safe : (o : Option BlockName) → c.unwind ≡ o → IsSafeChange (FitsOnward p) (unwind_to s site caller rest o)
    unwound_safe None e = tt
    unwound_safe (Some b) e =
        change_then any_result (FitsOnward p) (free_each fn.locals f.locals) _ (free_each_safe fn.locals f.locals fits.locals)
        (λ u k. onward_caller look (local_type fn fn.ret) s caller rest c more b.0 (unwind_below look well (local_type fn fn.ret) caller c b e))

  pub resume_safe : (under : List Frame) → AreCalling p (local_type fn fn.ret) under → IsSafeChange (FitsOnward p) (resume look s site under)
  resume_safe [] are = tt
  resume_safe (caller ∷ rest) are =
      subst (λ (w : Option Targets). IsSafeChange (FitsOnward p) (unwind_in s site caller rest w)) (sym (targets_there look (local_type fn fn.ret) caller are.0))
      (unwound_safe caller rest are.0 are.1 are.0.unwind refl)

  pub unwind_safe : (value : Value) (b : BlockName) → is_shaped_term (named_in p fn) (term.Unwind value b) ≡ true → broken_in_parts (surroundings p fn) (term.Unwind value b) ≡ []
      → IsSafeChange (FitsOnward p) (unwind look s site value b.0)
  unwind_safe value b shaped none =
      let parts = and_parts (is_shaped_value (named_in p fn) value) (is_block (named_in p fn) b) shaped in
      let typed = typed_unwind (named_in p fn) fn (surroundings p fn) refl value b shaped none in
      let v = value_safe (named_in p fn) (sizes_of p.globals) scene (stands look is well f below fits) value parts.0 typed.unbroken in
      let raw : is_raw v.ty ≡ true = subst (λ (t : Ty). is_raw t ≡ true) (same_Some typed.ty v.ty (sym typed.is ∙ v.is)) typed.fits in
      read_then (Shaped v.ty) (FitsOnward p) (value_script scene value) _ v.safe
      (λ x shape. let q = raw_layer v.ty x raw shape in
      read_then any_result (FitsOnward p) (pointer_of_value x) _ (safe_found any_result (pointer_in (out-Val x)) q.0 (ap pointer_in q.1) tt)
      (λ a u. onward_block look is well f below fits (record s { payloads = a ∷ s.payloads }) b.0 calling (lt_from b.0 (length fn.blocks) parts.1)))
