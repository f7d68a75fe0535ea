-- What the judge's answers stand for, against the walk.
use Rattle.std.specs.Prelude.{◌≡◌, ℕ, Option, Some, Result, Ok, Err}
use Rattle.mr_ast.specs.FormRules.{code_of}
use Rattle.mr_ast.specs.declared.rule.Rule.{Rule}
use Rattle.mr_ast.specs.declared.rule.Rule.TheVariants as form
use Rattle.mr_ast.specs.declared.types.IntType.TheVariants.{U64}
use Rattle.mr_ast.specs.declared.types.Ty.{Ty}
use Rattle.mr_ast.specs.declared.expr.BinaryOp.{BinaryOp}
use Rattle.mr_ast.specs.declared.expr.Place.{Place}
use Rattle.mr_ast.specs.declared.program.BlockName.{BlockName}
use Rattle.mr_typing.specs.declared.fault.FormFault.{FormFault}
use Rattle.mr_typing.specs.declared.fault.Item.{Item}
use Rattle.mr_typing.specs.Types.{element_type, result_type, type_of_place}
use Rattle.mr_typing.specs.Operands.{fits_binary, is_int}
use Rattle.mr_typing.specs.Broken.{Surroundings}
use Rattle.mr_typing.specs.Judging.{◌>>=◌, judged_place, kept, there}
use Rattle.mr_wf.specs.declared.fault.Broken.{Broken}
use Rattle.mr_wf.specs.declared.fault.Broken.TheVariants as why
use Rattle.mr_wf.specs.declared.fault.Stopped.{Stopped}
use Rattle.mr_wf.specs.declared.fault.Stopped.TheVariants as stopped
use Rattle.mr_wf.specs.declared.judging.Surroundings.{Surroundings as Around}

-- where an expression stands
abbrev pub surroundings_of : Around → Surroundings
surroundings_of at = record { sizes = at.sizes.now; locals = at.listed.now }

-- the type of an element, from those of the array and the position
abbrev pub element_at : Ty → Ty → Result Ty Rule
element_at t i = do
  elem ← there form.Place (element_type t)
  _ ← kept form.Place (is_int U64 i)
  Ok elem

-- what an operator gives on operands of these types
abbrev pub operated : BinaryOp → Ty → Ty → Result Ty Rule
operated op left right = do
  _ ← kept form.Operand (fits_binary op left right)
  there form.Operand (result_type op left)

-- the walk stops at this rule, unless memory ran out
abbrev pub Stops : {Y : Type 0} → Broken → Result Y Rule → Type 0
Stops (why.Rule broken) walk = walk ≡ Err broken
Stops why.Memory walk = Unit {0}

-- An answer, seen by view, is what the walk gives, unless memory ran out.
abbrev pub Gives : {X Y : Type 0} → (X → Y) → Result X Broken → Result Y Rule → Type 0
Gives view (Ok x) walk = walk ≡ Ok (view x)
Gives view (Err e) walk = Stops e walk

-- An answer is what the walk over a place comes to, if the place has a type.
abbrev pub GivesWhereTyped : Surroundings → Result (Unit {0}) Broken → Place → Type 0
GivesWhereTyped at result place =
    (t : Ty) → type_of_place at.locals place ≡ Some t → Gives (λ (u : Unit {0}). t) result (judged_place at place)

-- what is judged at a position, unless memory ran out
abbrev pub placing : Item → Option BlockName → ℕ → Result (Unit {0}) Broken → Result (Unit {0}) Stopped
placing it block place (Ok u) = Ok u
placing it block place (Err (why.Rule broken)) =
    Err (stopped.At (record { item = it; block = block; place = place; code = code_of broken }))
placing it block place (Err why.Memory) = Err stopped.Memory

-- the same of what stops at a position
abbrev pub Walks : Result (Unit {0}) Stopped → Result (Unit {0}) FormFault → Type 0
Walks (Ok u) walk = walk ≡ Ok tt
Walks (Err (stopped.At fault)) walk = walk ≡ Err fault
Walks (Err stopped.Memory) walk = Unit {0}
