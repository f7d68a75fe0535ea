-- Small programs and runs, and what the definitions say of their allocations, computed.
use Rattle.mr_labels.proofs.Common.{◌≡◌, ℕ, List, [], ◌∷◌, Option, Some, None, refl, Allocation, found_at}
use Rattle.mr_ast.specs.declared.expr.Place.{Place}
use Rattle.mr_ast.specs.declared.expr.Value.{Value}
use Rattle.mr_ast.specs.declared.program.Block.{Block}
use Rattle.mr_ast.specs.declared.program.BlockKind.TheVariants.{Regular}
use Rattle.mr_ast.specs.declared.program.Function.{Function}
use Rattle.mr_ast.specs.declared.program.LocalName.{LocalName}
use Rattle.mr_ast.specs.declared.program.Program.{Program}
use Rattle.mr_ast.specs.declared.program.Stmt.{Stmt}
use Rattle.mr_ast.specs.declared.program.Term.{Term}
use Rattle.mr_base.specs.declared.byte.AllocId.{AllocId}
use Rattle.mr_sched.specs.declared.schedule.Ask.TheVariants.{Address}
use Rattle.mr_labels.specs.declared.names.Name.{Name}
use Rattle.mr_labels.specs.declared.step.Stand.{Stand}
use Rattle.mr_labels.specs.declared.step.ToldStep.{ToldStep}
use Rattle.mr_labels.specs.Names.{made_names, start_names}
use Rattle.mr_labels.specs.Table.{made_rows, start_rows}
use Rattle.mr_ast.specs.declared.program.Intrinsic.TheVariants as intrinsic
use Rattle.mr_ast.specs.declared.program.Stmt.TheVariants as stmt
use Rattle.mr_ast.specs.declared.program.Term.TheVariants as term
use Rattle.mr_labels.specs.declared.names.Name.TheVariants as name

-- ---- a program of two functions: main makes local 1 live and ends its block so; the other has local 1 as its argument

abbrev local : ℕ → LocalName
local n = record { 0 = n }

abbrev block : List Stmt → Term → Block
block stmts end = record { name = 2; kind = Regular; stmts = stmts; term = end }

abbrev function : List LocalName → Block → Function
function args b = record { name = 0; args = args; ret = local 0; locals = []; blocks = b ∷ [] }

abbrev small : Term → Program
small end = record {
  edition = 1;
  globals = [];
  functions =
      function [] (block (stmt.Live (local 1) ∷ []) end) ∷ function (local 1 ∷ []) (block [] term.Return) ∷ [];
  names = [];
  start = record { 0 = 0 };
}

abbrev stand : ℕ → ℕ → ℕ → Option Stand
stand thread function at = Some (record { thread = thread; function = function; block = 0; at = at })

abbrev told : Option Stand → Option Stand → Option Stand → ToldStep
told before behind started = record {
  number = 4;
  thread = 0;
  before = before;
  behind = behind;
  status = None;
  started = started;
  asks = [];
  picks = [];
  made = [];
  prints_before = 0;
  prints_behind = 0;
}

-- ---- what steps make

-- `live` of local 1
live_makes : (end : Term) → made_names (small end) (told (stand 0 0 0) (stand 0 0 1) None) ≡ name.Local 0 0 1 ∷ []
live_makes end = refl

-- a call, behind which the thread stands in the other function: its returned local and its argument
call_makes : (callee : Value) (to : Place)
    → made_names (small (term.Call callee [] to None None)) (told (stand 0 0 1) (stand 0 1 0) None)
    ≡ name.Local 0 1 0 ∷ name.Local 0 1 1 ∷ []
call_makes callee to = refl

-- the start of thread 1 in the other function
spawn_makes : made_names (small (term.Do intrinsic.Spawn [] None (record { 0 = 0 })))
    (told (stand 0 0 1) (stand 0 0 0) (stand 1 1 0))
    ≡ name.Local 1 1 0 ∷ name.Local 1 1 1 ∷ []
spawn_makes = refl

-- a block of the heap goes by the step
allocate_makes : made_names (small (term.Do intrinsic.Allocate [] None (record { 0 = 0 })))
    (told (stand 0 0 1) (stand 0 0 0) None)
    ≡ name.Heap 4 ∷ []
allocate_makes = refl

-- a return makes nothing
return_makes : made_names (small term.Return) (told (stand 0 0 1) None None) ≡ []
return_makes = refl

-- ---- the start

start_makes : start_names (small term.Return) ≡ name.Function 0 ∷ name.Function 1 ∷ name.Local 0 0 0 ∷ []
start_makes = refl

abbrev main_id : ℕ → AllocId
main_id n = record { thread = 0; count = n }

abbrev row : ℕ → ℕ → ℕ → Name → Allocation
row count start size name = record { id = main_id count; start = start; size = size; name = name }

start_has : start_rows (small term.Return) (Address 1 1 ∷ Address 1 1 ∷ Address 4 4 ∷ []) (16 ∷ 17 ∷ 64 ∷ [])
    ≡ row 0 16 1 (name.Function 0) ∷ row 1 17 1 (name.Function 1) ∷ row 2 64 4 (name.Local 0 0 0) ∷ []
start_has = refl

-- ---- rows

-- a name without a pick has no allocation
row_without_pick : made_rows (name.Heap 4 ∷ name.Heap 4 ∷ []) (main_id 3 ∷ main_id 4 ∷ []) (Address 4 4 ∷ Address 4 4 ∷ [])
    (128 ∷ [])
    ≡ row 3 128 4 (name.Heap 4) ∷ []
row_without_pick = refl

abbrev two : List Allocation
two = row 2 64 4 (name.Local 0 0 0) ∷ row 3 128 8 (name.Heap 4) ∷ []

-- the last byte of a range, and the address behind it
last_byte : found_at 135 two ≡ Some (row 3 128 8 (name.Heap 4))
last_byte = refl

behind_last : found_at 136 two ≡ None
behind_last = refl
