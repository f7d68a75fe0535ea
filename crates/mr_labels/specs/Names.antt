-- The names of the allocations of a run: each goes by what made it.
use Rattle.std.specs.Prelude.{ℕ, List, [], ◌∷◌, ◌++◌, map, length, Option, None, Some, slice_get}
use Rattle.std.specs.List.{range_with_len}
use Rattle.mr_ast.specs.declared.program.Block.{Block}
use Rattle.mr_ast.specs.declared.program.Function.{Function}
use Rattle.mr_ast.specs.declared.program.Intrinsic.{Intrinsic}
use Rattle.mr_ast.specs.declared.program.Intrinsic.TheVariants as intrinsic
use Rattle.mr_ast.specs.declared.program.LocalName.{LocalName}
use Rattle.mr_ast.specs.declared.program.Program.{Program}
use Rattle.mr_ast.specs.declared.program.Stmt.{Stmt}
use Rattle.mr_ast.specs.declared.program.Stmt.TheVariants as stmt
use Rattle.mr_ast.specs.declared.program.Term.{Term}
use Rattle.mr_ast.specs.declared.program.Term.TheVariants as term
use Rattle.mr_labels.specs.declared.names.Name.{Name}
use Rattle.mr_labels.specs.declared.names.Name.TheVariants as name
use Rattle.mr_labels.specs.declared.step.Stand.{Stand}
use Rattle.mr_labels.specs.declared.step.ToldStep.{ToldStep}

-- a local of the function in which a thread stands
abbrev pub local_name : Stand → LocalName → Name
local_name s x = name.Local s.thread s.function x.0

-- the locals that a function keeps as long as it is at work: the returned one, and the arguments
abbrev pub kept_locals : Function → List LocalName
kept_locals fn = fn.ret ∷ fn.args

-- what is made where a thread enters a function, at whose first statement it stands now
abbrev pub entered_in : Stand → Option Function → List Name
entered_in s None = []
entered_in s (Some fn) = map (local_name s) (kept_locals fn)

abbrev pub entered_names : Program → Option Stand → List Name
entered_names p None = []
entered_names p (Some s) = entered_in s (slice_get p.functions s.function)

-- what a statement makes: `live x` makes x
abbrev pub stmt_names : Stand → Stmt → List Name
stmt_names s (stmt.Live x) = local_name s x ∷ []
stmt_names s _ = []

-- what an intrinsic makes: `spawn` what the started function keeps, `allocate` a block of the heap
abbrev pub do_names : Program → ToldStep → Intrinsic → List Name
do_names p told intrinsic.Spawn = entered_names p told.started
do_names p told intrinsic.Allocate = name.Heap told.number ∷ []
do_names p told _ = []

-- what a terminator makes: `call` what the called function keeps
abbrev pub term_names : Program → ToldStep → Term → List Name
term_names p told (term.Call callee args place next unwind) = entered_names p told.behind
term_names p told (term.Do op args place next) = do_names p told op
term_names p told _ = []

-- what stands at a position of a block: a statement, or behind the last one the terminator
abbrev pub names_at : Program → ToldStep → Stand → Block → Option Stmt → List Name
names_at p told s b (Some x) = stmt_names s x
names_at p told s b None = term_names p told b.term

abbrev pub names_in : Program → ToldStep → Stand → Option Block → List Name
names_in p told s None = []
names_in p told s (Some b) = names_at p told s b (slice_get b.stmts s.at)

abbrev pub names_of_function : Program → ToldStep → Stand → Option Function → List Name
names_of_function p told s None = []
names_of_function p told s (Some fn) = names_in p told s (slice_get fn.blocks s.block)

abbrev pub names_before : Program → ToldStep → Option Stand → List Name
names_before p told None = []
names_before p told (Some s) = names_of_function p told s (slice_get p.functions s.function)

-- THE NAMES OF WHAT A STEP MAKES, in order: by the statement or the terminator at which its thread stood
abbrev pub made_names : Program → ToldStep → List Name
made_names p told = names_before p told told.before

-- ---- the start

abbrev pub function_name : ℕ → Name
function_name i = name.Function i

abbrev pub global_name : ℕ → Name
global_name i = name.Global i

-- the returned local of the main function
abbrev pub returned_name : Program → Option Function → List Name
returned_name p None = []
returned_name p (Some fn) = name.Local 0 p.start.0 fn.ret.0 ∷ []

-- THE NAMES OF WHAT THE START MAKES, in order: each function, each global, and the returned local of the main function
abbrev pub start_names : Program → List Name
start_names p =
    map function_name (range_with_len 0 (length p.functions))
    ++ map global_name (range_with_len 0 (length p.globals))
    ++ returned_name p (slice_get p.functions p.start.0)
