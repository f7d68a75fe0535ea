-- A call that is due in a well-formed program: what it is prepared with, and that the function can begin with it.
use Rattle.mr_frame.proofs.Common.{◌≡◌, ℕ, ◌<◌, refl, sym, ap, ◌∙◌, arith, Bool, true, false, List, [], ◌∷◌, length, Option, Some, All-cons, All-nil, flat_map, list_all, option_map, Err, slice_get, ◌&&◌, ◌||◌, if◌then◌else◌, and_parts, Stop, plainly, stop_with, Reached, is_optional_block, named_in, Named, is_shaped_place, is_shaped_value, Place, Value, BlockName, Function, Program, Ty, Pointer, SignatureMismatch, Memory, Fault, Val, broken_in_value, surroundings, is_fn_ptr, is_raw, type_of_value, both_nothing, typed_call, Outcome, Refused, Went, on, Tells, env_surround, each_valued, placed, Surround, Seen, Env, ArgsIn, CallIn, HasLocals, Prepared, Prepares, TypedIn, called, called_function, called_with, prepared, both_there, callee_of, given_types, kept_types, same_types, pointed, Look, InProgram, TermIn, is_address}
use Rattle.mr_typing.proofs.TypedLaws.{typed_value}
use Rattle.mr_frame.specs.Calling.{GivenIn}
use Rattle.mr_ast.specs.declared.program.Term.TheVariants as term
use Rattle.mr_mem.specs.declared.fault.Fault.TheVariants as fault
use Rattle.mr_frame.proofs.CallSafe.{position_below}
use Rattle.mr_frame.proofs.CalleeLaws.{callee_is}
use Rattle.mr_frame.proofs.FittingLaws.{args_known}
use Rattle.mr_frame.proofs.Frames.{function_keeps}
use Rattle.mr_frame.proofs.InsideLaws.{scene_locals, type_there}
use Rattle.mr_frame.proofs.TermLaws.{value_at}

-- ---- what stands in a call

module _ (e : Env) (f : Function) (h : InProgram f e) where
  abbrev named : Named
  named = named_in e.program.now f

  -- the arguments stand in the function, and have types
  pub args_in : (args : List Value) → list_all (is_shaped_value named) args ≡ true → flat_map (broken_in_value (surroundings e.program.now f)) args ≡ [] → ArgsIn e args
  args_in [] shaped none = All-nil (TypedIn e)
  args_in (v ∷ args) shaped none =
      let first = and_parts (is_shaped_value named v) (list_all (is_shaped_value named) args) shaped in
      let rules = both_nothing (broken_in_value (surroundings e.program.now f) v) (flat_map (broken_in_value (surroundings e.program.now f)) args) none in
      let typed = typed_value named (surroundings e.program.now f) refl v first.0 rules.0 in
      All-cons (TypedIn e) v args
      (record {
        inside = record { function = f; env = h.env; shaped = first.0; unbroken = rules.0 };
        ty = typed.0;
        is = ap (λ ls. type_of_value ls v) (scene_locals e f h) ∙ typed.1;
      })
      (args_in args first.1 rules.1)

fn_address : (t : Ty) → is_fn_ptr t ≡ true → is_address t ≡ true
fn_address t e = ap (λ b. is_raw t || b) e ∙ or_true (is_raw t)
  where
    or_true : (b : Bool) → (b || true) ≡ true
    or_true true = refl
    or_true false = refl

pub call_in : (e : Env) (callee : Value) (args : List Value) (to : Place) (next unwind : Option BlockName) → TermIn e (term.Call callee args to next unwind) → CallIn e callee args to
call_in e callee args to next unwind h =
    let f = h.function in
    let at = surroundings e.program.now f in
    let named = named_in e.program.now f in
    let blocks = is_optional_block named next && is_optional_block named unwind in
    let first = and_parts (is_shaped_value named callee) (list_all (is_shaped_value named) args && (is_shaped_place named to && blocks)) h.shaped in
    let row = and_parts (list_all (is_shaped_value named) args) (is_shaped_place named to && blocks) first.1 in
    let last = and_parts (is_shaped_place named to) blocks row.1 in
    let typed = typed_call named f at refl callee args to next unwind h.shaped h.unbroken in
    let there = type_there e f h.inside to last.0 typed.2.unbroken in
    record {
      function = f;
      inside = h.inside;
      pointer = value_at e f h.inside callee typed.0.ty is_address first.0 typed.0.unbroken typed.0.is (fn_address typed.0.ty typed.0.fits);
      given = record {
        at = record { function = f; env = h.inside.env; shaped = last.0; unbroken = typed.2.unbroken };
        ty = there.0;
        typed = there.1;
        row = args_in e f h.inside args row.0 typed.1.unbroken;
      };
    }

-- the types of the place for the result and of the arguments are there
pub given_known : (e : Env) (args : List Value) (to : Place) → GivenIn e args to → (ts : List Ty) × (given_types (env_surround e) to args ≡ Some ts)
given_known e args to h =
    let rest = args_known e args h.row in
    (h.ty ∷ rest.0, λ i. option_map (λ e. e.0 ∷ e.1) (both_there (h.typed.is i) (rest.1 i)))

-- ---- the function that is called

-- what a function keeps are locals of it
pub has_locals : (e : Env) (f : Function) → InProgram f e → (number : ℕ) (fn : Function) → slice_get e.program.now.functions number ≡ Some fn → HasLocals fn
has_locals e f h number fn there =
    let kept = function_keeps e.program.now h.well number fn there in
    record { ret = kept.shaped.ret; args = kept.shaped.args }

pub callee_below : (e : Env) (f : Function) → InProgram f e → (p : Pointer) (n : ℕ) → callee_of e.functions.now p ≡ Some n → n < length e.program.now.functions
callee_below e f h p n is =
    let low = position_below 0 e.functions.now p n (sym (callee_is e.functions.now p) ∙ is) in
    let many = h.env.functions in
    omega arith

module _ (look : Look) (given : Option (List Ty)) (place : Pointer) (vs : List Val) (seen : Seen) where
  module _ (o : Option ℕ) (number : ℕ) (is : o ≡ Some number) (fn : Function) (there : slice_get look.program.functions number ≡ Some fn) (ts us : List Ty) (typed : given ≡ Some ts) (kept : kept_types fn ≡ Some us) where
    called_by : called look given place vs o seen ≡ (if same_types ts us then Went (record { place = place; number = number; function = fn; types = us; args = vs }) seen else Refused (plainly SignatureMismatch))
    called_by =
        ap (λ p. called look given place vs p seen) is
        ∙ ap (λ (p : Option Function). called_function given place vs number p seen) there
        ∙ (λ i. called_with place vs number fn (both_there (typed i) (kept i)) seen)

    pub called_other : same_types ts us ≡ false → called look given place vs o seen ≡ Refused (plainly SignatureMismatch)
    called_other e = called_by ∙ ap (λ b. if b then Went (record { place = place; number = number; function = fn; types = us; args = vs }) seen else Refused (plainly SignatureMismatch)) e

    pub called_fits : same_types ts us ≡ true → called look given place vs o seen ≡ Went (record { place = place; number = number; function = fn; types = us; args = vs }) seen
    called_fits e = called_by ∙ ap (λ b. if b then Went (record { place = place; number = number; function = fn; types = us; args = vs }) seen else Refused (plainly SignatureMismatch)) e

-- ---- a call that is prepared

-- where a call cannot be prepared, what is behind it stops too
pub prepared_stop : {B T : Type 0} (p : Program) (f : Fault) (o : Outcome Prepared Seen) (whole : Outcome B T) (v : Seen) (t : T) (refused : Option Reached) → Prepares p (Err f) o v refused
    → ((r : Stop) → o ≡ Refused r → whole ≡ Refused r) → Tells {X = B} (Err f) whole t refused
prepared_stop p (fault.Undefined r) o whole v t refused h k = k (stop_with refused r) h
prepared_stop p fault.Memory o whole v t refused h k = tt

module _ (m : Memory) (look : Look) (s : Surround) (callee : Value) (args : List Value) (to : Place) (s0 : Seen) where
  abbrev pub last : Pointer → Pointer → List Val → Seen → Outcome Prepared Seen
  last p c vs s3 = called look (given_types s to args) p vs (callee_of look.functions c) s3

  pub prepared_is : prepared m look s callee args to s0 ≡ on (placed m s to s0) (λ p s1. on (pointed m s callee s1) (λ c s2. on (each_valued m s args s2) (λ vs s3. last p c vs s3)))
  unfolding prepared
  prepared_is = refl

pub ruleset prepared_laws = (prepared_is)
