-- Expressions that stand in a function of a well-formed program, and what the public calls answer.
use Rattle.std.specs.Prelude.{◌≡◌, true, List, [], Option, None, Some, Result, Ok, Err, length, slice_get}
use Rattle.mr_ast.specs.Shaped.{named_in}
use Rattle.mr_ast.specs.ShapedValues.{is_shaped_place, is_shaped_value}
use Rattle.mr_ast.specs.declared.expr.Place.{Place}
use Rattle.mr_ast.specs.declared.expr.Value.{Value}
use Rattle.mr_ast.specs.declared.program.Function.{Function}
use Rattle.mr_ast.specs.declared.program.Local.{Local}
use Rattle.mr_ast.specs.declared.types.Ty.{Ty}
use Rattle.mr_layout.specs.Cached.{IsCacheOf}
use Rattle.mr_mem.specs.Memory.{Memory}
use Rattle.mr_mem.specs.declared.fault.Fault.{Fault}
use Rattle.mr_mem.specs.declared.fault.Fault.TheVariants as fault
use Rattle.mr_base.specs.declared.reached.Reached.{Reached}
use Rattle.mr_base.specs.Stops.{stop_with}
use Rattle.mr_base.specs.Script.{Outcome, Refused, Went}
use Rattle.mr_value.specs.Shape.{has_shape}
use Rattle.mr_value.specs.declared.val.Val.{Val}
use Rattle.mr_typing.specs.Broken.{broken_in_place, broken_in_value, surroundings}
use Rattle.mr_typing.specs.Types.{type_of_value}
use Rattle.mr_eval.specs.Evaluation.{Surround}
use Rattle.mr_eval.specs.declared.env.Env.{Env}
use Rattle.mr_eval.specs.declared.halt.Halt.{Halt}
use Rattle.mr_eval.specs.declared.halt.Halt.TheVariants as halt

-- the locals of a function that is there
abbrev pub locals_of : Option Function → List Local
locals_of None = []
locals_of (Some f) = f.locals

-- the surround of an environment
abbrev pub env_surround : Env → Surround
env_surround e = record {
  locals = locals_of (slice_get e.program.now.functions e.function.0);
  storage = e.locals.now;
  functions = e.functions.now;
  globals = e.globals.now;
}

-- An environment of this function: an entry for each of its locals, a pointer for each function and each global, and
-- the program's layouts.
pub record IsEnvOf (f : Function) (e : Env) : Type 0 where
  pub function : slice_get e.program.now.functions e.function.0 ≡ Some f
  pub locals : length e.locals.now ≡ length f.locals
  pub functions : length e.functions.now ≡ length e.program.now.functions
  pub globals : length e.globals.now ≡ length e.program.now.globals
  pub cache : IsCacheOf e.cache.now e.program.now

-- a place that stands in the function: what it names is there, and it breaks no rule
pub record PlaceIn (e : Env) (p : Place) : Type 0 where
  pub function : Function
  pub env : IsEnvOf function e
  pub shaped : is_shaped_place (named_in e.program.now function) p ≡ true
  pub unbroken : broken_in_place (surroundings e.program.now function) p ≡ []

-- the same of a value
pub record ValueIn (e : Env) (v : Value) : Type 0 where
  pub function : Function
  pub env : IsEnvOf function e
  pub shaped : is_shaped_value (named_in e.program.now function) v ≡ true
  pub unbroken : broken_in_value (surroundings e.program.now function) v ≡ []

-- a value has the shape of the expression's type
pub record ShapedAs (s : Surround) (v : Value) (x : Val) : Type 0 where
  pub ty : Ty
  pub is : type_of_value s.locals v ≡ Some ty
  pub shape : has_shape ty x ≡ true

-- ---- answers

-- What a call returned and left of the state is what the run comes to, unless memory ran out. A stop speaks of the
-- bytes that were refused last, where its reason speaks of bytes.
abbrev pub Tells : {X S : Type 0} → Result X Fault → Outcome X S → S → Option Reached → Type 0
Tells (Ok x) o s last = o ≡ Went x s
Tells (Err (fault.Undefined r)) o s last = o ≡ Refused (stop_with last r)
Tells (Err fault.Memory) o s last = Unit {0}

-- the same of a call that changes memory and returns nothing
abbrev pub Leaves : {S : Type 0} → Result (Unit {0}) Fault → Outcome Memory S → Memory → S → Option Reached → Type 0
Leaves (Ok x) o m s last = o ≡ Went m s
Leaves (Err (fault.Undefined r)) o m s last = o ≡ Refused (stop_with last r)
Leaves (Err fault.Memory) o m s last = Unit {0}

-- a stop that has a rule
abbrev pub IsRuled : Halt → Type 0
IsRuled (halt.Undefined r) = Unit {0}
IsRuled halt.IllFormed = ⊥
IsRuled halt.Memory = Unit {0}

abbrev pub fault_of : Halt → Fault
fault_of (halt.Undefined r) = fault.Undefined r
fault_of halt.IllFormed = fault.Memory
fault_of halt.Memory = fault.Memory
