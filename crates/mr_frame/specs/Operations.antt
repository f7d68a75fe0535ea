-- The steps that are intrinsics: what they are given, and how they end. The operation between is no frame's. (MiniRust,
-- lang: intrinsics.)
use Rattle.std.specs.Prelude.{◌≡◌, true, List, map, Option, None, Some}
use Rattle.mr_ast.specs.declared.expr.Place.{Place}
use Rattle.mr_ast.specs.declared.expr.Value.{Value}
use Rattle.mr_ast.specs.declared.program.BlockName.{BlockName}
use Rattle.mr_ast.specs.declared.program.Intrinsic.{Intrinsic}
use Rattle.mr_ast.specs.declared.types.Ty.{Ty}
use Rattle.mr_base.specs.declared.byte.Pointer.{Pointer}
use Rattle.mr_value.specs.declared.val.Val.{Val}
use Rattle.mr_typing.specs.Intrinsics.{fits_intrinsic}
use Rattle.mr_typing.specs.Types.{type_of_place, type_of_value}
use Rattle.mr_base.specs.Script.{Done, IllFormed, ◌>>=◌}
use Rattle.mr_eval.specs.Evaluation.{Surround, place_script, values_script}
use Rattle.mr_eval.specs.MemoryQueries.{MemoryScript}
use Rattle.mr_eval.specs.Operators.{or_ill_formed}
use Rattle.mr_eval.specs.Reads.{ReadScript}
use Rattle.mr_eval.specs.Shapes.{HaveShapes}
use Rattle.mr_frame.specs.Calls.{all_there}
use Rattle.mr_frame.specs.Changes.{Change, store}
use Rattle.mr_frame.specs.Frames.{Look, Stack, at_block, scene_in, with_top}
use Rattle.mr_frame.specs.Sites.{Due, AtDo, Site, due_of, site_of}

-- what an intrinsic is given: the place for its result and the type of this, and the arguments with their types
pub record Operands : Type 0 where
  pub result : Option Pointer
  pub result_type : Option Ty
  pub args : List Val
  pub arg_types : List Ty

-- a place for a result is there exactly where its type is
abbrev pub PlaceFits : Option Pointer → Option Ty → Type 0
PlaceFits None result = result ≡ None
PlaceFits (Some p) result = (t : Ty) × (result ≡ Some t)

-- What an intrinsic is given fits it: values of the shapes of their types, a place where there is a result, and types
-- that the intrinsic takes.
pub record OperandsFit (op : Intrinsic) (o : Operands) : Type 0 where
  pub shapes : HaveShapes o.arg_types o.args
  pub place : PlaceFits o.result o.result_type
  pub fits : fits_intrinsic op o.arg_types o.result_type ≡ true

-- an intrinsic that is due
pub record DueDo : Type 0 where
  pub site : Site
  pub op : Intrinsic
  pub args : List Value
  pub place : Option Place
  pub next : BlockName

-- the intrinsic that is due at a site, where one is
abbrev pub do_due : Site → Option Due → Option DueDo
do_due site (Some (AtDo op args place next)) =
    Some (record { site = site; op = op; args = args; place = place; next = next })
do_due site _ = None

-- the same where a thread stands
abbrev pub do_at : Option Site → Option DueDo
do_at None = None
do_at (Some site) = do_due site (due_of site)

-- THE INTRINSIC THAT IS DUE, if one is
unfoldable pub next_do : Look → Stack → Option DueDo
next_do look s = do_at (site_of look s)

-- the place for a result, where there is one
abbrev pub result_place : Surround → Option Place → ReadScript (Option Pointer)
result_place s None = Done None
result_place s (Some place) = place_script s place >>= λ p. Done (Some p)

-- the type of the place for a result, which must be there where there is a place
abbrev pub result_type : Surround → Option Place → ReadScript (Option Ty)
result_type s None = Done None
result_type s (Some place) = or_ill_formed (type_of_place s.locals place) >>= λ t. Done (Some t)

-- the place for the result, and then the arguments from left to right
abbrev pub operands_in : Surround → DueDo → ReadScript Operands
operands_in s d = do
  p ← result_place s d.place
  vs ← values_script s d.args
  t ← result_type s d.place
  ts ← or_ill_formed (all_there (map (type_of_value s.locals) d.args))
  Done (record { result = p; result_type = t; args = vs; arg_types = ts })

-- WHAT THE INTRINSIC IS GIVEN
abbrev pub operands : Look → DueDo → ReadScript Operands
operands look d = operands_in (scene_in look d.site.function d.site.frame) d

-- the thread goes on at the block behind the intrinsic
abbrev pub done_stack : Stack → DueDo → Stack
done_stack s d = with_top s d.site.below (at_block d.site.frame d.next.0)

-- a value for a place of a type; or neither
abbrev pub store_result : Option Pointer → Option Ty → Option Val → Change
store_result (Some p) (Some t) (Some v) = store t p v
store_result None None None = Done tt
store_result _ _ _ = IllFormed

-- HOW IT ENDS: its value is stored where there is a place for it, and the thread goes on
abbrev pub finish : Stack → DueDo → Operands → Option Val → MemoryScript Stack
finish s d o v = store_result o.result o.result_type v >>= λ _. Done (done_stack s d)
