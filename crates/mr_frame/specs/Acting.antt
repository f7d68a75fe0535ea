-- What the code of a step needs.
use Rattle.std.specs.Prelude.{◌≡◌, ℕ, ◌<◌, ◌^◌, List, [], Option, None}
use Rattle.mr_ast.specs.declared.expr.Place.{Place}
use Rattle.mr_ast.specs.declared.expr.Value.{Value}
use Rattle.mr_ast.specs.declared.program.LocalName.{LocalName}
use Rattle.mr_ast.specs.declared.program.BlockName.{BlockName}
use Rattle.mr_ast.specs.declared.program.Stmt.{Stmt}
use Rattle.mr_ast.specs.declared.program.Stmt.TheVariants as stmt
use Rattle.mr_ast.specs.declared.program.Term.{Term}
use Rattle.mr_ast.specs.declared.program.Term.TheVariants as term
use Rattle.mr_mem.specs.Memory.{Memory, ranges_of}
use Rattle.mr_eval.specs.Answers.{seen}
use Rattle.mr_eval.specs.Reads.{Seen}
use Rattle.mr_eval.specs.declared.scene.Scene.{Scene}
use Rattle.mr_plan.specs.Legal.{picks_fault}
use Rattle.mr_frame.specs.declared.look.Look.{Look as KeptLook}
use Rattle.mr_frame.specs.declared.stack.Stack.{Stack as KeptStack}
use Rattle.mr_frame.specs.Effects.{asked}
use Rattle.mr_frame.specs.Frames.{Look, Stack}
use Rattle.mr_frame.specs.Operations.{next_do}
use Rattle.mr_frame.specs.Sites.{AtTerminator}
use Rattle.mr_frame.specs.Standing.{IsDue, IsUncounted}

-- The picks are lawful for what the next step asks, and the thread has made fewer than 2^63 allocations, none of them
-- with its count or a greater one.
pub record AreLawful (look : Look) (s : Stack) (picks : List ℕ) (scene : Scene) : Type 0 where
  pub lawful : picks_fault [] (ranges_of scene.memory) scene.thread scene.count
      (asked scene.memory look scene.thread s (seen scene.notes)) picks ≡ None
  pub uncounted : IsUncounted scene.memory scene.thread scene.count
  pub few : scene.count < 2 ^ 63

-- a call is due
pub record IsDueCall (look : KeptLook) (s : KeptStack) (callee : Value) (args : List Value)
    (place : Place) : Type 0 where
  pub next : Option BlockName
  pub unwind : Option BlockName
  pub due : IsDue look s (AtTerminator (term.Call callee args place next unwind))

-- nothing seen yet
abbrev pub nothing_seen : Seen
nothing_seen = record { accesses = []; touched = [] }

-- neither `live` nor a call
abbrev pub NoLive : Stmt → Type 0
NoLive x = (y : LocalName) → x ≡ stmt.Live y → ⊥

abbrev pub NoCall : Term → Type 0
NoCall (term.Call callee args place next unwind) = ⊥
NoCall t = Unit {0}

-- The next step is no intrinsic, and asks for nothing.
pub record IsQuiet (look : Look) (s : Stack) : Type 0 where
  pub other : next_do look s ≡ None
  pub asks : (m : Memory) (thread : ℕ) (seen : Seen) → asked m look thread s seen ≡ []
