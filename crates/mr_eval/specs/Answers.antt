-- What the code's answers stand for.
use Rattle.std.specs.Prelude.{◌≡◌, ℕ, true, false, List, ◌++◌, Option, Some, Result, Ok, Err}
use Rattle.mr_ast.specs.declared.types.Ty.{Ty}
use Rattle.mr_base.specs.declared.access.Access.{Access}
use Rattle.mr_base.specs.declared.byte.AllocId.{AllocId}
use Rattle.mr_base.specs.declared.byte.Pointer.{Pointer}
use Rattle.mr_base.specs.declared.reason.Reason.{Reason}
use Rattle.mr_base.specs.declared.reached.Reached.{Reached}
use Rattle.mr_base.specs.Stops.{plainly, speaks, stop_with}
use Rattle.mr_base.specs.Script.{Broken, Done, IllFormed, Outcome, Refused, Undefined, Went}
use Rattle.mr_eval.specs.declared.halt.Halt.{Halt}
use Rattle.mr_eval.specs.declared.halt.Halt.TheVariants as halt
use Rattle.mr_eval.specs.declared.notes.Notes.{Notes}
use Rattle.mr_eval.specs.declared.here.Here.{Here}
use Rattle.mr_eval.specs.declared.placing.Placed.{Placed}
use Rattle.mr_eval.specs.declared.valuing.Valued.{Valued}
use Rattle.mr_value.specs.declared.val.Val.{Val}
use Rattle.mr_value.specs.Shape.{has_shape}
use Rattle.mr_typing.specs.Types.{field_type}
use Rattle.mr_eval.specs.Evaluation.{Surround}
use Rattle.mr_eval.specs.Reads.{ReadScript, Seen}

-- notes without where they lie
abbrev pub seen : Notes → Seen
seen n = record { accesses = n.accesses; touched = n.touched }

-- Notes that were only added to.
pub record Extends (old new : Seen) : Type 0 where
  pub accesses : List Access
  pub touched : List AllocId
  pub is : new ≡ record { accesses = old.accesses ++ accesses; touched = old.touched ++ touched }

-- What a function returned, seen by view, and the notes that it left are what the run comes to, unless memory ran out.
-- A stop speaks of the bytes that were refused last, where its reason speaks of bytes.
abbrev pub Gives : {X Y S : Type 0} → (X → Y) → Result X Halt → Outcome Y S → S → Option Reached → Type 0
Gives view (Ok x) o s last = o ≡ Went (view x) s
Gives view (Err (halt.Undefined r)) o s last = o ≡ Refused (stop_with last r)
Gives view (Err halt.IllFormed) o s last = o ≡ Broken
Gives view (Err halt.Memory) o s last = Unit {0}

-- what a function returned is what a script that asks nothing comes to; it stops for no reason that speaks of bytes
abbrev pub Says : {X Y : Type 0} → (X → Y) → Result X Halt → ReadScript Y → Type 0
Says view (Ok x) m = m ≡ Done (view x)
Says view (Err (halt.Undefined r)) m = (m ≡ Undefined (plainly r)) × (speaks r ≡ false)
Says view (Err halt.IllFormed) m = m ≡ IllFormed
Says view (Err halt.Memory) m = Unit {0}

-- where a place begins
abbrev pub at_pointer : Placed → Pointer
at_pointer p = p.at

-- a value without its type
abbrev pub value_in : Valued → Val
value_in v = v.value

-- What a call returned that notes nothing is what a run comes to that notes as much as this. It tells the reason of a
-- stop, and not what it speaks of.
abbrev pub Reasons : {X S : Type 0} → Result X Reason → (X → S) → Outcome X S → Type 0
Reasons (Ok x) note o = o ≡ Went x (note x)
Reasons (Err r) note o = (about : Option Reached) × (o ≡ Refused (record { reason = r; about = about }))

-- the surround of an evaluation
abbrev pub surround_of : Here → Surround
surround_of h =
    record { locals = h.locals.now; storage = h.storage.now; functions = h.functions.now; globals = h.globals.now }

-- a result as it is
abbrev pub same : {X : Type 0} → X → X
same x = x

-- a value of the shape of a type's field
pub record FieldShaped (t : Ty) (k : ℕ) (v : Val) : Type 0 where
  pub ty : Ty
  pub is : field_type t k ≡ Some ty
  pub shape : has_shape ty v ≡ true

-- a thing beside an answer, where there is one
abbrev pub beside_of : {A B E : Type 0} → A → Result B E → Result (A × B) E
beside_of x (Ok y) = Ok (x, y)
beside_of x (Err e) = Err e

-- a refusal notes nothing
abbrev pub IsUnnoted : {X : Type 0} → Result X Halt → Seen → Seen → Type 0
IsUnnoted (Ok x) old new = Unit {0}
IsUnnoted (Err (halt.Undefined r)) old new = new ≡ old
IsUnnoted (Err halt.IllFormed) old new = Unit {0}
IsUnnoted (Err halt.Memory) old new = Unit {0}
