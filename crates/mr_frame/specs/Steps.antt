-- The next step of a frame, other than an intrinsic: what it asks for, and what it does. (MiniRust, lang: statements
-- and terminators.)
use Rattle.std.specs.Prelude.{ℕ, List, [], ◌∷◌, Option, None, Some, slice_get}
use Rattle.mr_base.specs.Stops.{plainly}
use Rattle.mr_ast.specs.declared.program.Local.{Local}
use Rattle.mr_ast.specs.declared.program.Stmt.{Stmt}
use Rattle.mr_ast.specs.declared.program.Stmt.TheVariants as stmt
use Rattle.mr_ast.specs.declared.program.Term.{Term}
use Rattle.mr_ast.specs.declared.program.Term.TheVariants as term
use Rattle.mr_ast.specs.declared.types.Ty.{Ty}
use Rattle.mr_base.specs.declared.byte.Kind.TheVariants.{Stack as OnStack}
use Rattle.mr_base.specs.declared.byte.Pointer.{Pointer}
use Rattle.mr_base.specs.declared.reason.Reason.TheVariants.{Unreachable}
use Rattle.mr_layout.specs.Sizes.{align_of, size_of}
use Rattle.mr_sched.specs.declared.schedule.Ask.TheVariants.{Address}
use Rattle.mr_base.specs.Script.{Done, Undefined, IllFormed, Ask as Asks, ◌>>=◌}
use Rattle.mr_eval.specs.MemoryQueries.{Allocate, MemoryScript, reading_part}
use Rattle.mr_plan.specs.Machine.{CreatesNothing}
use Rattle.mr_frame.specs.Calls.{FramePlan, call, goes_to, resume, return_from, stop, unwind}
use Rattle.mr_frame.specs.Changes.{change, free_storage}
use Rattle.mr_frame.specs.Frames.{Frame, Look, Stack, Onward, GoesOn, Exits, Aborts, behind_stmt, scene_in}
use Rattle.mr_frame.specs.Frames.{with_storage, with_top}
use Rattle.mr_frame.specs.Sites.{Due, AtStatement, AtTerminator, Site, due_of, site_of}
use Rattle.mr_frame.specs.Switches.{switched}

-- a step that creates nothing and needs no pick
abbrev pub plain : MemoryScript Onward → FramePlan
plain script = Done (record { creates = CreatesNothing; asks = []; go = λ picks. script })

-- ---- statements

-- to the next statement, with such a frame
abbrev pub next : Stack → Site → Frame → Onward
next s site f = GoesOn (with_top s site.below (behind_stmt f))

-- the old storage goes, and there is new one at the picked address
abbrev pub live_at : Stack → Site → ℕ → Ty → Option Pointer → List ℕ → MemoryScript Onward
live_at s site x t storage (a ∷ []) = do
  _ ← free_storage t storage
  p ← Asks (Allocate OnStack (size_of t) (align_of t) a) Done
  Done (next s site (with_storage site.frame x (Some p)))
live_at s site x t storage _ = IllFormed

-- `live`: a local of a type, which has storage or none
abbrev pub live : Stack → Site → ℕ → Option Local → Option (Option Pointer) → FramePlan
live s site x (Some l) (Some storage) = Done (record {
  creates = CreatesNothing;
  asks = Address (size_of l.ty) (align_of l.ty) ∷ [];
  go = live_at s site x l.ty storage;
})
live s site x _ _ = IllFormed

-- `dead`: the storage of a local goes, where it has some
abbrev pub dead : Stack → Site → ℕ → Option Local → Option (Option Pointer) → MemoryScript Onward
dead s site x (Some l) (Some storage) =
    free_storage l.ty storage >>= λ _. Done (next s site (with_storage site.frame x None))
dead s site x _ _ = IllFormed

-- the step of a statement
abbrev pub statement : Look → Stack → Site → Stmt → FramePlan
statement look s site (stmt.Live x) =
    live s site x.0 (slice_get site.function.locals x.0) (slice_get site.frame.locals x.0)
statement look s site (stmt.Dead x) =
    plain (dead s site x.0 (slice_get site.function.locals x.0) (slice_get site.frame.locals x.0))
statement look s site changes =
    plain (change (scene_in look site.function site.frame) changes >>= λ _. Done (next s site site.frame))

-- ---- terminators

-- the step of a terminator
abbrev pub terminator : Look → ℕ → Stack → Site → Term → FramePlan
terminator look thread s site (term.Goto b) = plain (Done (goes_to s site b.0))
terminator look thread s site (term.Switch value cases other) =
    plain (reading_part (switched (scene_in look site.function site.frame) value cases other)
    >>= λ b. Done (goes_to s site b))
terminator look thread s site term.Unreachable = plain (Undefined (plainly Unreachable))
terminator look thread s site (term.Call callee args place next unwind) = call look s site callee args place
terminator look thread s site term.Return = plain (return_from look thread s site)
terminator look thread s site (term.Unwind value b) = plain (unwind look s site value b.0)
terminator look thread s site term.Resume = plain (resume look s site site.below)
terminator look thread s site (term.Stop b) = plain (Done (stop s site b.0))
terminator look thread s site term.Exit = plain (Done Exits)
terminator look thread s site term.Abort = plain (Done Aborts)
terminator look thread s site (term.Do op args place next) = IllFormed

-- ---- the step

-- the step of what is due: a statement, or a terminator that is no intrinsic
abbrev pub plan_due : Look → ℕ → Stack → Site → Option Due → FramePlan
plan_due look thread s site (Some (AtStatement stmt)) = statement look s site stmt
plan_due look thread s site (Some (AtTerminator term)) = terminator look thread s site term
plan_due look thread s site _ = IllFormed

-- the step of a thread that stands at a site; it has none elsewhere
abbrev pub plan_at : Look → ℕ → Stack → Option Site → FramePlan
plan_at look thread s None = IllFormed
plan_at look thread s (Some site) = plan_due look thread s site (due_of site)

-- THE NEXT STEP of a thread with a stack, where it is no intrinsic
unfoldable pub frame_plan : Look → ℕ → Stack → FramePlan
frame_plan look thread s = plan_at look thread s (site_of look s)
