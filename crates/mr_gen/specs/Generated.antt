-- The program of a number: some threads add to one counter, each time under one lock, and the main function starts
-- them, waits for them and prints the counter. Above each block stands also its own line of the program's text.
use Rattle.std.specs.Prelude.{ℕ, ◌+◌, ◌*◌, ◌/◌, ◌%◌, Bool, true, false, ◌==◌, List, [], ◌∷◌, ◌++◌, map, codes, decimal}
use Rattle.std.specs.Prelude.{None, Some}
use Rattle.std.specs.List.{range_with_len}
use Rattle.mr_ast.specs.declared.types.IntType.TheVariants.{U32, U64}
use Rattle.mr_ast.specs.declared.types.Num.{Num}
use Rattle.mr_ast.specs.declared.types.Ty.{Ty}
use Rattle.mr_ast.specs.declared.types.Ty.TheVariants as ty
use Rattle.mr_ast.specs.declared.expr.BinaryOp.{BinaryOp}
use Rattle.mr_ast.specs.declared.expr.BinaryOp.TheVariants.{Add, Lt}
use Rattle.mr_ast.specs.declared.expr.Place.{Place}
use Rattle.mr_ast.specs.declared.expr.Value.{Value}
use Rattle.mr_ast.specs.declared.expr.Place.TheVariants as place
use Rattle.mr_ast.specs.declared.expr.Value.TheVariants as value
use Rattle.mr_ast.specs.declared.program.BlockKind.TheVariants.{Regular}
use Rattle.mr_ast.specs.declared.program.BlockName.{BlockName}
use Rattle.mr_ast.specs.declared.program.Intrinsic.{Intrinsic}
use Rattle.mr_ast.specs.declared.program.Intrinsic.TheVariants as intrinsic
use Rattle.mr_ast.specs.declared.program.Item_.TheVariants as item
use Rattle.mr_ast.specs.declared.program.Global_.{Global_}
use Rattle.mr_ast.specs.declared.program.Local.{Local}
use Rattle.mr_ast.specs.declared.program.Stmt.{Stmt}
use Rattle.mr_ast.specs.declared.program.Stmt.TheVariants as stmt
use Rattle.mr_ast.specs.declared.program.Term.{Term}
use Rattle.mr_ast.specs.declared.program.Term.TheVariants as term
use Rattle.mr_ast.specs.declared.program.Block.{Block}
use Rattle.mr_ast.specs.declared.program.Function.{Function}
use Rattle.mr_ast.specs.declared.program.Program.{Program}
use Rattle.mr_ast.specs.Words.{Texts}

-- ---- what a number says

-- how many threads the main function starts: from 2 to 8
abbrev pub workers_of : ℕ → ℕ
workers_of number = 2 + number % 7

-- how often each of them adds to the counter: from 1 to 1024
abbrev pub rounds_of : ℕ → ℕ
rounds_of number = 1 + (number / 7) % 1024

-- whether each of them sets the counter to 0 at its end, without the lock
abbrev pub is_resetting : ℕ → Bool
is_resetting number = number % 2 == 1

-- ---- names: each once, in the order in which the text first defines them

-- the names up to the locals of the main function; they have the numbers 0 to 12
abbrev pub first_texts : Texts
first_texts =
    codes "g" ∷ codes "w" ∷ codes "p" ∷ codes "r" ∷ codes "n"
    ∷ codes "b0" ∷ codes "b1" ∷ codes "b2" ∷ codes "b3" ∷ codes "b4" ∷ codes "b5"
    ∷ codes "main" ∷ codes "t" ∷ []

-- a letter with each of the numbers from 1 to n behind it
abbrev pub counted_texts : List ℕ → ℕ → Texts
counted_texts letter n = map (λ k. letter ++ decimal k) (range_with_len 1 n)

-- The names of a program with so many workers. Behind the first ones stand those of the blocks that start threads, of
-- those that wait for them with the one that prints, and of the last block. So the name of bK has the number 5 + K,
-- that of ck the number 12 + k, and that of ek the number 12 + workers + k.
unfoldable pub name_texts : ℕ → Texts
name_texts workers =
    first_texts ++ counted_texts (codes "c") workers ++ counted_texts (codes "e") (workers + 1) ++ codes "h" ∷ []

-- ---- types, places and values

-- the type of the value without bytes
abbrev pub unit : Ty
unit = ty.Tuple 0 1 []

-- a number without a minus
abbrev pub plain_num : ℕ → Num
plain_num n = record { neg = false; mag = n }

-- a number of 32 bits: `u32 N`
abbrev pub u32_value : ℕ → Value
u32_value n = value.Int U32 (plain_num n)

-- a number of 64 bits: `u64 N`
abbrev pub u64_value : ℕ → Value
u64_value n = value.Int U64 (plain_num n)

-- where the counter lies: `global g + 0`
abbrev pub address : Value
address = value.Global (record { 0 = 0 }) 0

-- the counter: `deref(global g + 0, u64)`
abbrev pub counter : Place
counter = place.Deref address (ty.Int U64)

-- the rounds that a worker has behind it: `n`
abbrev pub round : Place
round = place.Local (record { 0 = 2 })

-- where the number of the lock or the thread goes that was made last: `t`
abbrev pub handle : Place
handle = place.Local (record { 0 = 1 })

-- an operator on what a place holds and a number: `OP(load(P), u64 N)`
abbrev pub with_number : BinaryOp → Place → ℕ → Value
with_number op p n = value.Binary op (value.Load p) (u64_value n)

-- ---- parts of blocks

-- one more in a place: `PLACE = add(load(PLACE), u64 1)`
abbrev pub increment : Place → Stmt
increment p = stmt.Assign p (with_number Add p 1)

-- an end that goes on with the block of this number in its function: `goto B`
abbrev pub jump : ℕ → Term
jump next = term.Goto (record { 0 = next })

-- an end by an intrinsic with one argument and no result: `do OP(V) to B`
abbrev pub action : Intrinsic → Value → ℕ → Term
action op v next = term.Do op (v ∷ []) None (record { 0 = next })

-- an end by an intrinsic that makes a lock or a thread: `do OP(VALUES) -> t to B`
abbrev pub creation : Intrinsic → List Value → ℕ → Term
creation op values next = term.Do op values (Some handle) (record { 0 = next })

-- a block whose name has this number, with these statements and this end
abbrev pub regular_block : ℕ → List Stmt → Term → Block
regular_block text ss last = record { name = text; kind = Regular; stmts = ss; term = last }

-- a local whose name has this number
abbrev pub local : ℕ → Ty → Local
local text t = record { name = text; ty = t }

-- ---- the worker

-- At first no round is done.
-- b0 regular: live n; n = u64 0; goto b1;
abbrev pub begin_block : Block
begin_block = regular_block 5 (stmt.Live (record { 0 = 2 }) ∷ stmt.Assign round (u64_value 0) ∷ []) (jump 1)

-- Is a round left?
-- b1 regular: switch lt(load(n), u64 ROUNDS) { 1 => b2, _ => b5 };
abbrev pub test_block : ℕ → Block
test_block rounds =
    let cases : List (Num × BlockName) = (plain_num 1, record { 0 = 2 }) ∷ [] in
    regular_block 6 [] (term.Switch (with_number Lt round rounds) cases (record { 0 = 5 }))

-- In a round the lock is taken,
-- b2 regular: do acquire(u32 0) to b3;
abbrev pub enter_block : Block
enter_block = regular_block 7 [] (action intrinsic.Acquire (u32_value 0) 3)

-- then the counter goes up and the lock is given back,
-- b3 regular: COUNTER = add(load(COUNTER), u64 1); do release(u32 0) to b4;
abbrev pub count_block : Block
count_block = regular_block 8 (increment counter ∷ []) (action intrinsic.Release (u32_value 0) 4)

-- and the round is done.
-- b4 regular: n = add(load(n), u64 1); goto b1;
abbrev pub advance_block : Block
advance_block = regular_block 9 (increment round ∷ []) (jump 1)

-- the last statements: `dead n`, and in front of it `COUNTER = u64 0` where the counter is set to 0
abbrev pub last_stmts : Bool → List Stmt
last_stmts false = stmt.Dead (record { 0 = 2 }) ∷ []
last_stmts true = stmt.Assign counter (u64_value 0) ∷ stmt.Dead (record { 0 = 2 }) ∷ []

-- The worker ends.
-- b5 regular: dead n; return;
abbrev pub finish_block : Bool → Block
finish_block resets = regular_block 10 (last_stmts resets) term.Return

-- the blocks of a worker, b0 to b5
unfoldable pub worker_blocks : ℕ → Bool → List Block
worker_blocks rounds resets =
    begin_block ∷ test_block rounds ∷ enter_block ∷ count_block ∷ advance_block ∷ finish_block resets ∷ []

-- the locals of a worker: let p: raw, r: unit, n: u64;
abbrev pub worker_locals : List Local
worker_locals = local 2 ty.Raw ∷ local 3 unit ∷ local 4 (ty.Int U64) ∷ []

-- the worker: fn w(p) -> r
unfoldable pub worker_function : ℕ → Bool → Function
worker_function rounds resets = record {
  name = 1;
  args = record { 0 = 0 } ∷ [];
  ret = record { 0 = 1 };
  locals = worker_locals;
  blocks = worker_blocks rounds resets;
}

-- ---- the main function: b0 has the number 0 among its blocks, ck the number k, ek the number workers + k

-- The lock is made.
-- b0 regular: live t; do create_lock() -> t to c1;
abbrev pub lock_block : Block
lock_block = regular_block 5 (stmt.Live (record { 0 = 1 }) ∷ []) (creation intrinsic.CreateLock [] 1)

-- Worker k is started. The last of these blocks leads to e1.
-- ck regular: do spawn(fn w, raw 0) -> t to c(k+1);
abbrev pub spawn_block : ℕ → Block
spawn_block k =
    regular_block (12 + k) [] (creation intrinsic.Spawn (value.Fn (record { 0 = 0 }) ∷ value.Raw 0 ∷ []) (k + 1))

-- Worker k is waited for.
-- ek regular: do join(u32 k) to e(k+1);
abbrev pub join_block : ℕ → ℕ → Block
join_block workers k =
    regular_block (12 + workers + k) [] (action intrinsic.Join (u32_value k) (workers + k + 1))

-- The counter is printed.
-- e(WORKERS+1) regular: do print(load(COUNTER)) to h;
abbrev pub print_block : ℕ → Block
print_block workers =
    regular_block (13 + 2 * workers) [] (action intrinsic.Print (value.Load counter) (2 * workers + 2))

-- The program ends.
-- h regular: exit;
abbrev pub exit_block : ℕ → Block
exit_block workers = regular_block (14 + 2 * workers) [] term.Exit

-- the blocks of the main function, in the order of the text
unfoldable pub main_blocks : ℕ → List Block
main_blocks workers =
    lock_block ∷ []
    ++ map spawn_block (range_with_len 1 workers)
    ++ map (join_block workers) (range_with_len 1 workers)
    ++ print_block workers ∷ exit_block workers ∷ []

-- the locals of the main function: let r: unit, t: u32;
abbrev pub main_locals : List Local
main_locals = local 3 unit ∷ local 12 (ty.Int U32) ∷ []

-- the main function: fn main() -> r
unfoldable pub main_function : ℕ → Function
main_function workers = record {
  name = 11;
  args = [];
  ret = record { 0 = 0 };
  locals = main_locals;
  blocks = main_blocks workers;
}

-- ---- the program

-- the counter's global: global g align 8 { 0*8 }
abbrev pub counter_global : Global_
counter_global = record { name = 0; align = 8; items = item.Byte 0 8 ∷ [] }

-- the program with so many workers and so many rounds, whose workers may set the counter to 0 at their end
abbrev pub program_with : ℕ → ℕ → Bool → Program
program_with workers rounds resets = record {
  edition = 1;
  globals = counter_global ∷ [];
  functions = worker_function rounds resets ∷ main_function workers ∷ [];
  names = name_texts workers;
  start = record { 0 = 1 };
}

-- THE PROGRAM OF A NUMBER
unfoldable pub generated : ℕ → Program
generated number = program_with (workers_of number) (rounds_of number) (is_resetting number)
