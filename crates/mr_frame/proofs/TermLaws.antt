-- The values of a terminator that breaks no rule: they stand in the function, and have types that fit.
use Rattle.mr_frame.proofs.Common.{◌≡◌, Bool, true, List, [], Some, refl, ap, ◌∙◌, ◌&&◌, ◌||◌, list_all, and_parts, is_block, is_shaped_target, named_in, is_shaped_value, Num, Ty, Value, BlockName, Function, broken_in_value, surroundings, is_fn_ptr, is_raw, is_scalar_number, type_of_value, typed_switch, typed_unwind, Env, InProgram, TermIn, ValueAt, is_address}
use Rattle.mr_ast.specs.declared.program.Term.TheVariants as term
use Rattle.mr_frame.proofs.InsideLaws.{scene_locals}
use Rattle.mr_frame.proofs.SwitchSafe.{switch_scalar}

module _ (e : Env) where
  -- a value of a known type
  pub value_at : (f : Function) (h : InProgram f e) (v : Value) (t : Ty) (test : Ty → Bool) → is_shaped_value (named_in e.program.now f) v ≡ true → broken_in_value (surroundings e.program.now f) v ≡ []
      → type_of_value f.locals v ≡ Some t → test t ≡ true → ValueAt e v test
  value_at f h v t test shaped none is fits = record {
    inside = record { function = f; env = h.env; shaped = shaped; unbroken = none };
    well = h.well;
    ty = t;
    is = ap (λ ls. type_of_value ls v) (scene_locals e f h) ∙ is;
    fits = fits;
  }

  pub switch_value : (v : Value) (cases : List (Num × BlockName)) (other : BlockName) → TermIn e (term.Switch v cases other) → ValueAt e v is_scalar_number
  switch_value v cases other h =
      let named = named_in e.program.now h.function in
      let parts = and_parts (is_shaped_value named v) (list_all (is_shaped_target named) cases && is_block named other) h.shaped in
      let typed = typed_switch named h.function (surroundings e.program.now h.function) refl v cases other h.shaped h.unbroken in
      value_at h.function h.inside v typed.ty is_scalar_number parts.0 typed.unbroken typed.is (switch_scalar cases typed.ty typed.fits)

  raw_address : (t : Ty) → is_raw t ≡ true → is_address t ≡ true
  raw_address t e = ap (λ b. b || is_fn_ptr t) e

  pub unwind_value : (v : Value) (b : BlockName) → TermIn e (term.Unwind v b) → ValueAt e v is_address
  unwind_value v b h =
      let named = named_in e.program.now h.function in
      let parts = and_parts (is_shaped_value named v) (is_block named b) h.shaped in
      let typed = typed_unwind named h.function (surroundings e.program.now h.function) refl v b h.shaped h.unbroken in
      value_at h.function h.inside v typed.ty is_address parts.0 typed.unbroken typed.is (raw_address typed.ty typed.fits)
