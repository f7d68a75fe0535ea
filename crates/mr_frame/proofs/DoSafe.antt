-- What an intrinsic of a well-formed program is given is never ill-formed, and so is how it ends; the frames fit again behind it.
use Rattle.mr_frame.proofs.Common.{◌≡◌, refl, sym, ap, ◌∙◌, subst, arith, List, [], ◌∷◌, length, true, inl, inr, Option, Some, None, map, same_Some, slice_get_cases, ◌&&◌, list_all, and_parts, is_block, is_optional_place, is_shaped_term, named_in, is_shaped_value, Place, Function, Program, Stmt, Term, Ty, Pointer, Val, has_shape, broken_in_parts, broken_in_result, sizes_of, surroundings, type_of_place, type_of_value, WellFormed, typed_do, Surround, place_script, values_script, or_ill_formed, IsSafe, any_result, place_safe, safe_found, safe_then, HaveShapes, IsSafeChange, change_then, all_there, local_type, AreCalling, FitFrames, FitsFrame, FitsStack, IsLook, Frame, Look, Stack, at_block, scene_in, DueDo, Operands, OperandsFit, PlaceFits, do_at, do_due, done_stack, finish, next_do, result_place, result_type, store_result, AtStatement, Site, due_of, due_term, site_of, site_of_frames, lt_from}
use Rattle.std.proofs.Common.{subst₂}
use Rattle.mr_typing.specs.Intrinsics.{fits_intrinsic}
use Rattle.mr_typing.proofs.StmtWalk.{Gives}
use Rattle.mr_typing.proofs.TypedStmts.{TypedDo}
use Rattle.mr_frame.specs.Operations.{operands, operands_in}
use Rattle.mr_ast.specs.declared.program.Term.TheVariants as term
use Rattle.mr_frame.proofs.CallSafe.{judged_there, row_safe}
use Rattle.mr_frame.proofs.ChangesSafe.{store_safe}
use Rattle.mr_frame.proofs.Frames.{block_shaped, block_unbroken, due_end, due_stmt, fits_block, here, site_is, stands}

-- An intrinsic that is due in a thread whose frames fit.
pub record DoStands (look : Look) (is : IsLook look) (well : WellFormed look.program) (s : Stack) (d : DueDo) : Type 0 where
  pub frame : Frame
  pub below : List Frame
  pub frames : s.frames ≡ frame ∷ below
  pub fits : FitsFrame look.program frame
  pub calling : AreCalling look.program (local_type fits.function fits.function.ret) below
  pub site : d.site ≡ here look is well frame below fits
  pub term : fits.block.term ≡ term.Do d.op d.args d.place d.next

module _ (look : Look) (is : IsLook look) (well : WellFormed look.program) (s : Stack) (d : DueDo) where
  module _ (f : Frame) (below : List Frame) (frames : s.frames ≡ f ∷ below) (fits : FitsFrame look.program f) (calling : AreCalling look.program (local_type fits.function fits.function.ret) below) where
    abbrev at : Site
    at = here look is well f below fits

    -- from what the block ends with
    from_term : (t : Term) → fits.block.term ≡ t → do_due at (Some (due_term t)) ≡ Some d → DoStands look is well s d
    from_term (term.Do op args place next) due h =
        let same : record { site = at; op = op; args = args; place = place; next = next } ≡ d = same_Some _ d h in
        record {
          frame = f;
          below = below;
          frames = frames;
          fits = fits;
          calling = calling;
          site = ap (λ (e : DueDo). e.site) (sym same);
          term = due ∙ ap (λ (e : DueDo). term.Do e.op e.args e.place e.next) same;
        }
    from_term (term.Goto b) due h = absurd (cc)
    from_term (term.Switch v cases other) due h = absurd (cc)
    from_term term.Unreachable due h = absurd (cc)
    from_term (term.Call callee args place next unwind) due h = absurd (cc)
    from_term term.Return due h = absurd (cc)
    from_term (term.Unwind v b) due h = absurd (cc)
    from_term term.Resume due h = absurd (cc)
    from_term (term.Stop b) due h = absurd (cc)
    from_term term.Exit due h = absurd (cc)
    from_term term.Abort due h = absurd (cc)

    from_due : do_due at (due_of at) ≡ Some d → DoStands look is well s d
    from_due h = elim (slice_get_cases fits.block.stmts f.at).1 [
      | inl x ↦ absurd (by_stmt x.0 (ap (do_due at) (sym (due_stmt look is well f below fits x.0 x.2)) ∙ h))
      | inr none ↦
          let end : f.at ≡ length fits.block.stmts = (let low = none.0 in let high = fits.at in omega arith) in
          from_term fits.block.term refl (ap (do_due at) (sym (due_end look is well f below fits end)) ∙ h)
    ]
      where
        by_stmt : (x : Stmt) → do_due at (Some (AtStatement x)) ≡ Some d → ⊥
        by_stmt x e = cc

  by_frames : (frames : List Frame) → s.frames ≡ frames → FitFrames look.program frames → do_at (site_of_frames look frames) ≡ Some d → DoStands look is well s d
  by_frames [] e fits h = absurd fits
  by_frames (f ∷ below) e fits h = from_due f below e fits.0 fits.2 (ap do_at (sym (site_is look is well f below fits.0)) ∙ h)

  -- where an intrinsic is due, it stands in the top frame
  pub do_stands : FitsStack look.program s → next_do look s ≡ Some d → DoStands look is well s d
  unfolding next_do site_of
  do_stands fits h = by_frames s.frames refl fits h

-- ---- what it is given

-- a value of the result's type exactly where there is one
abbrev pub ValueFits : Option Ty → Option Val → Type 0
ValueFits None v = v ≡ None
ValueFits (Some t) v = (x : Val) × (v ≡ Some x) × (has_shape t x ≡ true)

module _ (look : Look) (is : IsLook look) (well : WellFormed look.program) (s : Stack) (d : DueDo) (h : DoStands look is well s d) where
  abbrev p : Program
  p = look.program

  abbrev fn : Function
  fn = h.fits.function

  abbrev scene : Surround
  scene = scene_in look fn h.frame

  shaped : is_shaped_term (named_in p fn) (term.Do d.op d.args d.place d.next) ≡ true
  shaped = ap (is_shaped_term (named_in p fn)) (sym h.term) ∙ (block_shaped p well h.frame h.fits).term

  unbroken : broken_in_parts (surroundings p fn) (term.Do d.op d.args d.place d.next) ≡ []
  unbroken = ap (broken_in_parts (surroundings p fn)) (sym h.term) ∙ (block_unbroken p well h.frame h.fits).parts

  typed : TypedDo (surroundings p fn) d.op d.args d.place
  typed = typed_do (named_in p fn) fn (surroundings p fn) refl d.op d.args d.place d.next shaped unbroken

  -- the place for a result, and its type
  place_there : (place : Option Place) (result : Option Ty) → Gives (surroundings p fn) place result → is_optional_place (named_in p fn) place ≡ true → broken_in_result (surroundings p fn) place ≡ []
      → IsSafe (λ o. PlaceFits o result) (result_place scene place)
  place_there None result gives there none = gives
  place_there (Some q) result gives there none =
      let at_place = place_safe (named_in p fn) (sizes_of p.globals) scene (stands look is well h.frame h.below h.fits) q there none in
      safe_then any_result (λ o. PlaceFits o result) (place_script scene q) _ at_place.safe (λ a u. (gives.0, gives.1))

  type_there : (place : Option Place) (result : Option Ty) → Gives (surroundings p fn) place result → IsSafe (λ t. t ≡ result) (result_type scene place)
  type_there None result gives = sym gives
  type_there (Some q) result gives =
      safe_then (λ t. t ≡ gives.0) (λ t. t ≡ result) (or_ill_formed (type_of_place fn.locals q)) _ (safe_found (λ t. t ≡ gives.0) (type_of_place fn.locals q) gives.0 gives.2 refl)
      (λ t e. ap (λ (u : Ty). Some u) e ∙ sym gives.1)

  -- WHAT AN INTRINSIC IS GIVEN
  pub operands_safe : IsSafe (OperandsFit d.op) (operands look d)
  operands_safe =
      let named = named_in p fn in
      let row = and_parts (list_all (is_shaped_value named) d.args) (is_optional_place named d.place && is_block named d.next) shaped in
      let last = and_parts (is_optional_place named d.place) (is_block named d.next) row.1 in
      let judged : all_there (map (type_of_value fn.locals) d.args) ≡ Some typed.types = judged_there (map (type_of_value fn.locals) d.args) typed.types typed.are in
      subst (λ (site : Site). IsSafe (OperandsFit d.op) (operands_in (scene_in look site.function site.frame) d)) (sym h.site)
      (safe_then (λ o. PlaceFits o typed.result) (OperandsFit d.op) (result_place scene d.place) _ (place_there d.place typed.result typed.gives last.0 typed.unbroken_place)
      (λ q place. safe_then (HaveShapes typed.types) (OperandsFit d.op) (values_script scene d.args) _ (row_safe named (sizes_of p.globals) scene (stands look is well h.frame h.below h.fits) d.args typed.types typed.are row.0 typed.unbroken_args)
      (λ vs shapes. safe_then (λ t. t ≡ typed.result) (OperandsFit d.op) (result_type scene d.place) _ (type_there d.place typed.result typed.gives)
      (λ t told. safe_then (λ ts. ts ≡ typed.types) (OperandsFit d.op) (or_ill_formed (all_there (map (type_of_value fn.locals) d.args))) _ (safe_found (λ ts. ts ≡ typed.types) (all_there (map (type_of_value fn.locals) d.args)) typed.types judged refl)
      (λ ts same. record {
        shapes = subst (λ us. HaveShapes us vs) (sym same) shapes;
        place = subst (λ u. PlaceFits q u) (sym told) place;
        fits = subst₂ (λ us u. fits_intrinsic d.op us u ≡ true) (sym same) (sym told) typed.fits;
      })))))

  -- ---- how it ends

  result_safe : (q : Option Pointer) (t : Option Ty) (v : Option Val) → PlaceFits q t → ValueFits t v → IsSafeChange any_result (store_result q t v)
  result_safe None t v place value = by_none t v place value
    where
      by_none : (u : Option Ty) (w : Option Val) → u ≡ None → ValueFits u w → IsSafeChange any_result (store_result None u w)
      by_none None w e fits = subst (λ (o : Option Val). IsSafeChange any_result (store_result None None o)) (sym fits) tt
      by_none (Some u) w e fits = absurd (cc)
  result_safe (Some q) None v place value = absurd (by_some place.1)
    where
      by_some : None ≡ Some place.0 → ⊥
      by_some e = cc
  result_safe (Some q) (Some t) v place value =
      subst (λ (o : Option Val). IsSafeChange any_result (store_result (Some q) (Some t) o)) (sym value.1) (store_safe t q value.0 value.2)

  done_fits : FitsStack p (done_stack s d)
  done_fits =
      let named = named_in p fn in
      let row = and_parts (list_all (is_shaped_value named) d.args) (is_optional_place named d.place && is_block named d.next) shaped in
      let last = and_parts (is_optional_place named d.place) (is_block named d.next) row.1 in
      subst (λ (site : Site). FitFrames p (at_block site.frame d.next.0 ∷ site.below)) (sym h.site)
      (fits_block p h.frame h.fits d.next.0 (lt_from d.next.0 (length fn.blocks) last.1), refl, h.calling)

  -- HOW AN INTRINSIC ENDS
  pub finish_safe : (o : Operands) (v : Option Val) → OperandsFit d.op o → ValueFits o.result_type v → IsSafeChange (FitsStack p) (finish s d o v)
  finish_safe o v fit value =
      change_then any_result (FitsStack p) (store_result o.result o.result_type v) _ (result_safe o.result o.result_type v fit.place value) (λ u k. done_fits)
