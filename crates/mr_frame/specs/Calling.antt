-- What a call comes to before it needs a pick, and what the code of calls answers.
use Rattle.std.specs.Prelude.{◌≡◌, ℕ, ◌<◌, All, if◌then◌else◌, List, length, map, Option, None, Some, slice_get, Result}
use Rattle.std.specs.Prelude.{Ok, Err}
use Rattle.mr_base.specs.Stops.{plainly, stop_with}
use Rattle.mr_base.specs.declared.reached.Reached.{Reached}
use Rattle.mr_ast.specs.declared.expr.Place.{Place}
use Rattle.mr_ast.specs.declared.expr.Value.{Value}
use Rattle.mr_ast.specs.declared.program.Function.{Function}
use Rattle.mr_ast.specs.declared.program.LocalName.{LocalName}
use Rattle.mr_ast.specs.declared.program.Program.{Program}
use Rattle.mr_ast.specs.declared.types.Ty.{Ty}
use Rattle.mr_base.specs.declared.byte.Pointer.{Pointer}
use Rattle.mr_base.specs.declared.reason.Reason.TheVariants.{NotAFunction, SignatureMismatch}
use Rattle.mr_mem.specs.Memory.{Memory}
use Rattle.mr_mem.specs.declared.fault.Fault.{Fault}
use Rattle.mr_mem.specs.declared.fault.Fault.TheVariants as fault
use Rattle.mr_value.specs.declared.val.Val.{Val}
use Rattle.mr_base.specs.Script.{Broken, Outcome, Refused, Went, on}
use Rattle.mr_typing.specs.Types.{type_of_value}
use Rattle.mr_eval.specs.Environment.{PlaceIn, ValueIn, env_surround}
use Rattle.mr_eval.specs.Evaluated.{each_valued, placed}
use Rattle.mr_eval.specs.Evaluation.{Surround}
use Rattle.mr_eval.specs.Reads.{Seen}
use Rattle.mr_eval.specs.declared.env.Env.{Env}
use Rattle.mr_frame.specs.declared.calls.Prepared.{Prepared as KeptPrepared}
use Rattle.mr_frame.specs.Calls.{all_there, both_there, callee_of, given_types, kept_types, local_type, same_types}
use Rattle.mr_frame.specs.Effects.{pointed}
use Rattle.mr_frame.specs.Frames.{Look}
use Rattle.mr_frame.specs.Inside.{InProgram, TypeAt, ValueAt, is_address}

-- a call that is prepared: the place for its result, the function with the types of what it keeps, and the values of
-- its arguments
pub record Prepared : Type 0 where
  pub place : Pointer
  pub number : ℕ
  pub function : Function
  pub types : List Ty
  pub args : List Val

-- 118 where the types that are given differ from those of the function
abbrev pub called_with : Pointer → List Val → ℕ → Function → Option (List Ty × List Ty) → Seen → Outcome Prepared Seen
called_with place args number fn None seen = Broken
called_with place args number fn (Some types) seen =
    if same_types types.0 types.1
    then Went (record { place = place; number = number; function = fn; types = types.1; args = args }) seen
    else Refused (plainly SignatureMismatch)

abbrev pub called_function : Option (List Ty) → Pointer → List Val → ℕ → Option Function → Seen → Outcome Prepared Seen
called_function given place args number None seen = Broken
called_function given place args number (Some fn) seen =
    called_with place args number fn (both_there given (kept_types fn)) seen

-- 117 where the pointer stands for no function
abbrev pub called : Look → Option (List Ty) → Pointer → List Val → Option ℕ → Seen → Outcome Prepared Seen
called look given place args None seen = Refused (plainly NotAFunction)
called look given place args (Some number) seen =
    called_function given place args number (slice_get look.program.functions number) seen

-- the place, the callee and the arguments, and then 117, 118
unfoldable pub prepared : Memory → Look → Surround → Value → List Value → Place → Seen → Outcome Prepared Seen
prepared m look s callee args place seen =
    on (placed m s place seen)
    (λ p s1. on (pointed m s callee s1)
    (λ c s2. on (each_valued m s args s2)
    (λ vs s3. called look (given_types s place args) p vs (callee_of look.functions c) s3)))

-- ---- answers

-- what steps look up, as an environment has it
abbrev pub look_in : Env → Look
look_in e = record { program = e.program.now; functions = e.functions.now; globals = e.globals.now }

-- the code's call is one of a function that is there, whose types are these
pub record IsPrepared (p : Program) (kept : KeptPrepared) (o : Outcome Prepared Seen) (s : Seen) : Type 0 where
  pub function : Function
  pub types : List Ty
  pub there : slice_get p.functions kept.function.0 ≡ Some function
  pub typed : kept_types function ≡ Some types
  pub is : o ≡ Went
      (record {
        place = kept.place;
        number = kept.function.0;
        function = function;
        types = types;
        args = kept.args.items;
      }) s

-- what the code prepared is what the run comes to, unless memory ran out; a stop speaks of the bytes that were refused
-- last, where its reason speaks of bytes
abbrev pub Prepares : Program → Result KeptPrepared Fault → Outcome Prepared Seen → Seen → Option Reached → Type 0
Prepares p (Ok kept) o s last = IsPrepared p kept o s
Prepares p (Err (fault.Undefined r)) o s last = o ≡ Refused (stop_with last r)
Prepares p (Err fault.Memory) o s last = Unit {0}

-- ---- what stands in the function of an environment

-- a value that stands there, and its type
pub record TypedIn (e : Env) (v : Value) : Type 0 where
  pub inside : ValueIn e v
  pub ty : Ty
  pub is : type_of_value (env_surround e).locals v ≡ Some ty

abbrev pub ArgsIn : Env → List Value → Type 0
ArgsIn e args = All (TypedIn e) args

-- arguments and a place for a result that stand there
pub record GivenIn (e : Env) (args : List Value) (place : Place) : Type 0 where
  pub at : PlaceIn e place
  pub ty : Ty
  pub typed : TypeAt e place ty
  pub row : ArgsIn e args

-- a call that stands in a function of a well-formed program
pub record CallIn (e : Env) (callee : Value) (args : List Value) (place : Place) : Type 0 where
  pub function : Function
  pub inside : InProgram function e
  pub pointer : ValueAt e callee is_address
  pub given : GivenIn e args place

-- what a function keeps are locals of it
pub record HasLocals (fn : Function) : Type 0 where
  pub ret : fn.ret.0 < length fn.locals
  pub args : All (λ (x : LocalName). x.0 < length fn.locals) fn.args

-- the types of arguments
abbrev pub arg_types : Surround → List Value → Option (List Ty)
arg_types s args = all_there (map (type_of_value s.locals) args)

-- the types of locals
abbrev pub written_types : Function → List LocalName → Option (List Ty)
written_types fn xs = all_there (map (local_type fn) xs)
