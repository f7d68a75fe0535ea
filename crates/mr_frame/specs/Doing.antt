-- What the code of intrinsics' operands and ends needs and answers.
use Rattle.std.specs.Prelude.{◌≡◌, Bool, true, ◌||◌, List, Option, None, Some}
use Rattle.mr_ast.specs.declared.expr.Place.{Place}
use Rattle.mr_ast.specs.declared.expr.Value.{Value}
use Rattle.mr_ast.specs.declared.program.Intrinsic.{Intrinsic}
use Rattle.mr_ast.specs.declared.program.Term.{Term}
use Rattle.mr_ast.specs.declared.program.Term.TheVariants as term
use Rattle.mr_ast.specs.declared.types.Ty.{Ty}
use Rattle.mr_base.specs.declared.byte.Pointer.{Pointer}
use Rattle.mr_layout.specs.TypeOk.{TypeOk}
use Rattle.mr_mem.specs.Memory.{Memory}
use Rattle.mr_value.specs.declared.val.Val.{Val}
use Rattle.mr_value.specs.Shape.{has_shape}
use Rattle.mr_base.specs.Script.{Broken, Outcome, Went, on, run}
use Rattle.mr_typing.specs.Operands.{is_bool, is_fn_ptr, is_integer, is_raw}
use Rattle.mr_typing.specs.Types.{type_of_place}
use Rattle.mr_eval.specs.Environment.{PlaceIn}
use Rattle.mr_eval.specs.Evaluated.{each_valued, placed}
use Rattle.mr_eval.specs.Evaluation.{Surround}
use Rattle.mr_eval.specs.MemoryQueries.{memory_answer}
use Rattle.mr_eval.specs.Reads.{Seen}
use Rattle.mr_eval.specs.World.{World}
use Rattle.mr_eval.specs.declared.env.Env.{Env}
use Rattle.mr_frame.specs.declared.dos.DoCall.{DoCall}
use Rattle.mr_frame.specs.Calling.{TypedIn, arg_types}
use Rattle.mr_frame.specs.Inside.{TypeAt}
use Rattle.mr_frame.specs.Operations.{Operands, store_result}

-- what an intrinsic is given, without where it lies
abbrev pub operands_of : DoCall → Operands
operands_of c =
    record { result = c.result; result_type = c.result_type; args = c.args.items; arg_types = c.arg_types.items }

-- the operation of an intrinsic; none of another terminator
abbrev pub operation_in : Term → Option Intrinsic
operation_in (term.Do op args place next) = Some op
operation_in t = None

-- an integer, a bool, a raw pointer or a pointer to a function
abbrev pub is_plain : Ty → Bool
is_plain t = is_integer t || (is_bool t || (is_raw t || is_fn_ptr t))

-- ---- what they come to, by their parts

-- the place for the result, where there is one
abbrev pub result_placed : Memory → Surround → Option Place → Seen → Outcome (Option Pointer) Seen
result_placed m s None seen = Went None seen
result_placed m s (Some place) seen = on (placed m s place seen) (λ p last. Went (Some p) last)

-- the types beside them
abbrev pub with_types : Option Pointer → List Val → Option (Option Ty) → Option (List Ty) → Seen → Outcome Operands Seen
with_types p vs (Some t) (Some ts) seen = Went (record { result = p; result_type = t; args = vs; arg_types = ts }) seen
with_types p vs _ _ seen = Broken

-- the type of the place for the result, where there is one
abbrev pub result_typed : Surround → Option Place → Option (Option Ty)
result_typed s None = Some None
result_typed s (Some place) = some_typed (type_of_place s.locals place)
  where
    some_typed : Option Ty → Option (Option Ty)
    some_typed None = None
    some_typed (Some t) = Some (Some t)

unfoldable pub given_operands : Memory → Surround → List Value → Option Place → Seen → Outcome Operands Seen
given_operands m s args place seen =
    on (result_placed m s place seen)
    (λ p s1. on (each_valued m s args s1) (λ vs s2. with_types p vs (result_typed s place) (arg_types s args) s2))

unfoldable pub result_stored : Option Pointer → Option Ty → Option Val → World → Outcome (Unit {0}) World
result_stored p t v w = run memory_answer (store_result p t v) w

-- ---- what stands in the function of an environment

-- a value of a plain type
pub record PlainIn (e : Env) (v : Value) : Type 0 where
  pub typed : TypedIn e v
  pub plain : is_plain typed.ty ≡ true

-- a place for a result of a plain type, or none
pub record PlainPlace (e : Env) (p : Place) : Type 0 where
  pub inside : PlaceIn e p
  pub ty : Ty
  pub typed : TypeAt e p ty
  pub plain : is_plain ty ≡ true

abbrev pub ResultIn : Env → Option Place → Type 0
ResultIn e None = Unit {0}
ResultIn e (Some p) = PlainPlace e p

-- A value of the type of the place for the result is there exactly where that place is.
abbrev pub FitsResult : Option Pointer → Option Ty → Option Val → Type 0
FitsResult None t v = (t ≡ None) × (v ≡ None)
FitsResult (Some p) t v = (u : Ty) × (x : Val) × (t ≡ Some u) × (v ≡ Some x) × TypeOk u × (has_shape u x ≡ true)
