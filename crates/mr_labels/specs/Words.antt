-- The names of what stands in a program, as they are written.
use Rattle.std.specs.Prelude.{ℕ, ◌+◌, ◌==◌, ◌&&◌, Bool, false, if◌then◌else◌, List, [], ◌++◌, codes, decimal}
use Rattle.std.specs.Prelude.{Option, None, Some, slice_get}
use Rattle.mr_ast.specs.declared.program.Function.{Function}
use Rattle.mr_ast.specs.declared.program.Program.{Program}
use Rattle.mr_ast.specs.Canon.{block_texts, function_texts, global_texts, local_texts}
use Rattle.mr_ast.specs.CanonValues.{text_at}
use Rattle.mr_labels.specs.declared.names.Name.{Name}
use Rattle.mr_labels.specs.declared.names.Name.TheVariants as name
use Rattle.mr_labels.specs.declared.step.Stand.{Stand}

-- the name of a function
abbrev pub function_word : Program → ℕ → List ℕ
function_word p function = text_at (function_texts p) function

-- the name of a block of a function
abbrev pub block_word : Program → ℕ → Option Function → List ℕ
block_word p block None = []
block_word p block (Some fn) = text_at (block_texts p fn) block

-- the name of a local of a function
abbrev pub local_word : Program → ℕ → Option Function → List ℕ
local_word p local None = []
local_word p local (Some fn) = text_at (local_texts p fn) local

-- whether the thread that stands here is this one, in this function
abbrev pub is_here : Option Stand → ℕ → ℕ → Bool
is_here None thread function = false
is_here (Some s) thread function = (s.thread == thread) && (s.function == function)

-- whose local it is, where it is not one of the function that stands here
abbrev pub owner_text : Program → Option Stand → ℕ → ℕ → List ℕ
owner_text p here thread function =
    if is_here here thread function then []
    else codes " of " ++ function_word p function ++ codes ", thread " ++ decimal thread

-- how many bytes an address lies behind the first one, where it does
abbrev pub behind_text : ℕ → List ℕ
behind_text offset = if offset == 0 then [] else codes "+" ++ decimal offset

-- AN ADDRESS IN AN ALLOCATION, so many bytes behind its first one, as it is called where a thread stands: `number`,
-- `number+2`, `n`, `n+4 of worker, thread 2`, `the block of step 9`, `the block+8 of step 9`
abbrev pub name_text : Program → Option Stand → ℕ → Name → List ℕ
name_text p here offset (name.Function i) = codes "fn " ++ text_at (function_texts p) i ++ behind_text offset
name_text p here offset (name.Global i) = text_at (global_texts p) i ++ behind_text offset
name_text p here offset (name.Local thread function local) =
    local_word p local (slice_get p.functions function) ++ behind_text offset ++ owner_text p here thread function
name_text p here offset (name.Heap step) =
    codes "the block" ++ behind_text offset ++ codes " of step " ++ decimal (step + 1)
