-- The start of a function as a whole, from its parts.
use Rattle.mr_frame.proofs.Common.{◌≡◌, ℕ, ◌+◌, refl, sym, ap, ◌∙◌, arith, List, [], ◌∷◌, length, drop, Option, None, Some, same_Some, replicate, slice_get, Stop, Function, Program, Ty, Pointer, Val, WellFormed, Outcome, Refused, Went, on, World, CanBegin, HasTypes, allocated_each, stored_each, written_types, behind_first, first_frame, kept_types, with_each, entered, kept_locals, local_type, map}
use Rattle.mr_frame.specs.declared.look.Look.{Look as KeptLook}
use Rattle.mr_frame.proofs.BeginLaws.{entered_is}
use Rattle.mr_frame.proofs.BeginSteps.{names_length}
use Rattle.mr_frame.proofs.EnterLaws.{allocated_many}
use Rattle.mr_frame.proofs.Frames.{Keeps, function_keeps}
use Rattle.mr_frame.proofs.TypeRows.{first_there}

-- what a function of a well-formed program keeps are locals of it
pub function_typed : (p : Program) → WellFormed p → (number : ℕ) (fn : Function) → slice_get p.functions number ≡ Some fn → HasTypes fn
function_typed p well number fn there =
    let kept = function_keeps p well number fn there in
    record { locals = record { ret = kept.shaped.ret; args = kept.shaped.args }; ok = kept.unbroken.locals }

first_dropped : (ps : List Pointer) → behind_first ps ≡ drop 1 ps
first_dropped [] = refl
first_dropped (p ∷ ps) = refl

module _ (look : KeptLook) (number : ℕ) (vs : List Val) (picks : List ℕ) (w : World) (can : CanBegin look number vs picks w) (fn : Function) (there : slice_get look.program.now.functions number ≡ Some fn) where
  kept : Keeps look.program.now fn
  kept = function_keeps look.program.now can.ready.well number fn there

  same : can.function ≡ fn
  same = same_Some can.function fn (sym can.there ∙ there)

  typed : kept_types fn ≡ Some can.types
  typed = ap kept_types (sym same) ∙ can.typed

  pub begins_typed : HasTypes fn
  begins_typed = function_typed look.program.now can.ready.well number fn there

  -- the types of the arguments
  pub args_typed : written_types fn fn.args ≡ Some (behind_first can.types)
  args_typed =
      let f = first_there (local_type fn fn.ret) (map (local_type fn) fn.args) can.types typed in
      f.behind ∙ sym (ap (λ (ts : List Ty). Some (behind_first ts)) f.is)

  module _ (ps : List Pointer) (u : World) (allocated : (types : List Ty) → kept_types fn ≡ Some types → allocated_each types picks w ≡ Went ps u) where
    pub begins_many : length ps ≡ length fn.args + 1
    begins_many =
        let many = allocated_many can.types picks w can.allocates ps u (allocated can.types typed) in
        let args = names_length fn (kept_locals fn) can.types typed in
        omega arith

    behind_storage : entered number (slice_get look.program.now.functions number) vs picks w ≡ on (stored_each (behind_first can.types) (drop 1 ps) vs u) (λ _ v. Went (first_frame number fn ps) v)
    behind_storage =
        ap (λ (o : Option Function). entered number o vs picks w) there
        ∙ entered_is number fn can.types vs picks w typed kept.unbroken.first
        ∙ ap (λ (o : Outcome (List Pointer) World). on o (λ qs x. on (stored_each (behind_first can.types) (behind_first qs) vs x) (λ _ v. Went (first_frame number fn qs) v))) (allocated can.types typed)
        ∙ ap (λ (qs : List Pointer). on (stored_each (behind_first can.types) qs vs u) (λ _ v. Went (first_frame number fn ps) v)) (first_dropped ps)

    pub begins_stop : (r : Stop) → stored_each (behind_first can.types) (drop 1 ps) vs u ≡ Refused r → entered number (slice_get look.program.now.functions number) vs picks w ≡ Refused r
    begins_stop r stop = behind_storage ∙ ap (λ (o : Outcome (Unit {0}) World). on o (λ _ v. Went (first_frame number fn ps) v)) stop

    pub begins_went : (v : World) (locals : List (Option Pointer)) → stored_each (behind_first can.types) (drop 1 ps) vs u ≡ Went tt v
        → locals ≡ with_each (replicate (length fn.locals) None) (kept_locals fn) ps
        → entered number (slice_get look.program.now.functions number) vs picks w ≡ Went (record { function = number; locals = locals; block = 0; at = 0; call = None }) v
    begins_went v locals stored is =
        behind_storage
        ∙ ap (λ (o : Outcome (Unit {0}) World). on o (λ _ x. Went (first_frame number fn ps) x)) stored
        ∙ ap (λ (ls : List (Option Pointer)). Went (record { function = number; locals = ls; block = 0; at = 0; call = None }) v) (sym is)
