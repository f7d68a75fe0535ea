-- What the next step of a thread makes, as far as the program's text tells it.
use Rattle.std.specs.Prelude.{ℕ, List, [], Option, None, Some, slice_get}
use Rattle.mr_ast.specs.declared.expr.Value.{Value}
use Rattle.mr_ast.specs.declared.expr.Value.TheVariants as value
use Rattle.mr_ast.specs.declared.program.Block.{Block}
use Rattle.mr_ast.specs.declared.program.Function.{Function}
use Rattle.mr_ast.specs.declared.program.Intrinsic.{Intrinsic}
use Rattle.mr_ast.specs.declared.program.Intrinsic.TheVariants as intrinsic
use Rattle.mr_ast.specs.declared.program.Program.{Program}
use Rattle.mr_ast.specs.declared.program.Stmt.{Stmt}
use Rattle.mr_ast.specs.declared.program.Term.{Term}
use Rattle.mr_ast.specs.declared.program.Term.TheVariants as term
use Rattle.mr_labels.specs.declared.names.Name.{Name}
use Rattle.mr_labels.specs.declared.step.Stand.{Stand}
use Rattle.mr_labels.specs.declared.step.ToldStep.{ToldStep}
use Rattle.mr_labels.specs.Names.{made_names}

-- ---- the function that is entered or started

-- the function that a value names in the text: `fn NAME`
abbrev pub named_function : Value → Option ℕ
named_function (value.Fn f) = Some f.0
named_function _ = None

abbrev pub named_first : Option Value → Option ℕ
named_first None = None
named_first (Some v) = named_function v

-- `spawn` starts its first argument
abbrev pub started_by : Intrinsic → Option Value → Option ℕ
started_by intrinsic.Spawn first = named_first first
started_by _ first = None

-- `call` enters its callee
abbrev pub function_in : Term → Option ℕ
function_in (term.Call callee args place next unwind) = named_function callee
function_in (term.Do op args place next) = started_by op (slice_get args 0)
function_in _ = None

-- the same of a block, at whose terminator a thread stands behind all statements
abbrev pub function_at : Block → Option Stmt → Option ℕ
function_at b (Some x) = None
function_at b None = function_in b.term

abbrev pub function_of_block : Stand → Option Block → Option ℕ
function_of_block s None = None
function_of_block s (Some b) = function_at b (slice_get b.stmts s.at)

abbrev pub function_of : Stand → Option Function → Option ℕ
function_of s None = None
function_of s (Some fn) = function_of_block s (slice_get fn.blocks s.block)

-- THE FUNCTION that a thread enters or starts at its next step, where it does, and the text names it
abbrev pub entered_next : Program → Stand → Option ℕ
entered_next p s = function_of s (slice_get p.functions s.function)

-- ---- the step to come

-- where a thread begins in a function
abbrev pub entry_of : ℕ → Option ℕ → Option Stand
entry_of thread None = None
entry_of thread (Some f) = Some (record { thread = thread; function = f; block = 0; at = 0 })

-- the next step of a thread that stands here, as it is told behind it: the thread enters that function, or starts it in
-- a new thread of this number
abbrev pub coming : Program → ℕ → Stand → ToldStep
coming p new s = record {
  number = 0;
  thread = s.thread;
  before = Some s;
  behind = entry_of s.thread (entered_next p s);
  status = None;
  started = entry_of new (entered_next p s);
  asks = [];
  picks = [];
  made = [];
  prints_before = 0;
  prints_behind = 0;
}

-- THE NAMES OF WHAT THE NEXT STEP MAKES of a thread that stands here, in order
abbrev pub coming_names : Program → ℕ → Option Stand → List Name
coming_names p new None = []
coming_names p new (Some s) = made_names p (coming p new s)
