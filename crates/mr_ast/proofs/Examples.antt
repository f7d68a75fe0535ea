-- Small programs, and whether they are shaped.
use Rattle.mr_ast.proofs.Common.{◌≡◌, ℕ, ◌<◌, true, false, [], ◌∷◌, inl, refl, sym, ◌∙◌, true≢false, arith, codes, Num, LocalName}
use Rattle.std.proofs.Common.{All, lit<, lit≤}
use Rattle.std.proofs.lemmas.List.Elements.{All-cons, All-head}
use Rattle.mr_ast.specs.declared.types.IntType.TheVariants.{U8, U64}
use Rattle.mr_ast.specs.declared.program.BlockKind.TheVariants.{Regular}
use Rattle.mr_ast.specs.declared.program.Global_.{Global_}
use Rattle.mr_ast.specs.declared.program.Local.{Local}
use Rattle.mr_ast.specs.declared.program.Stmt.{Stmt}
use Rattle.mr_ast.specs.declared.program.Block.{Block}
use Rattle.mr_ast.specs.declared.program.Function.{Function}
use Rattle.mr_ast.specs.declared.program.Program.{Program}
use Rattle.mr_ast.specs.Shaped.{named_in, is_shaped_stmt, ShapedItem, ShapedGlobal, ShapedLocal, ShapedBlock, ShapedFunction, Shaped}
use Rattle.mr_ast.specs.declared.types.Ty.TheVariants as ty
use Rattle.mr_ast.specs.declared.expr.Place.TheVariants as place
use Rattle.mr_ast.specs.declared.expr.Value.TheVariants as value
use Rattle.mr_ast.specs.declared.program.Item_.TheVariants as item
use Rattle.mr_ast.specs.declared.program.Stmt.TheVariants as stmt
use Rattle.mr_ast.specs.declared.program.Term.TheVariants as term
use Rattle.mr_ast.proofs.ShapedLaws.{shaped_type_laws, shaped_value_laws}

-- `global g align 1 { 9 * REPEAT }`
abbrev global : ℕ → Global_
global repeat = record { name = 0; align = 1; items = item.Byte 9 repeat ∷ [] }

-- `x: tuple size 16 align 8 { 0: u8, 8: u64 }`
abbrev local : Local
local = record { name = 2; ty = ty.Tuple 16 8 ((0, ty.Int U8) ∷ (8, ty.Int U64) ∷ []) }

-- `x.1 = u64 NUMBER`, where x is the local at a position
abbrev assign : ℕ → Num → Stmt
assign at number = stmt.Assign (place.Field (place.Local (record { 0 = at })) 1) (value.Int U64 number)

-- `b regular: STATEMENT; exit;`
abbrev block : Stmt → Block
block s = record { name = 3; kind = Regular; stmts = s ∷ []; term = term.Exit }

abbrev function : Stmt → Function
function s = record { name = 1; args = []; ret = record { 0 = 0 }; locals = local ∷ []; blocks = block s ∷ [] }

abbrev program : ℕ → Stmt → ℕ → Program
program repeat s start = record {
  edition = 1;
  globals = global repeat ∷ [];
  functions = function s ∷ [];
  names = codes "g" ∷ codes "main" ∷ codes "x" ∷ codes "b" ∷ [];
  start = record { 0 = start };
}

abbrev seven : Num
seven = record { neg = false; mag = 7 }

abbrev minus_zero : Num
minus_zero = record { neg = true; mag = 0 }

All-one : {A : Type 0} (P : A → Type 0) (x : A) → P x → All P (x ∷ [])
All-one P x h = All-cons P x [] h (λ k d inside. absurd (omega arith))

All-none : {A : Type 0} (P : A → Type 0) → All P []
All-none P k d inside = absurd (omega arith)

pub shaped_program : Shaped (program 3 (assign 0 seven) 0)
shaped_program =
    let p = program 3 (assign 0 seven) 0 in
    let f = function (assign 0 seven) in
    let b = block (assign 0 seven) in
    let shaped_stmt : is_shaped_stmt (named_in p f) (assign 0 seven) ≡ true = simp (shaped_value_laws) in
    let shaped_block : ShapedBlock p f b = record {
      name = lit< tt;
      stmts = All-one (λ s. is_shaped_stmt (named_in p f) s ≡ true) (assign 0 seven) shaped_stmt;
      term = refl;
      few_stmts = lit≤ tt;
    } in
    let shaped_local : ShapedLocal p local = record { name = lit< tt; ty = simp (shaped_type_laws) } in
    let shaped_function : ShapedFunction p f = record {
      name = lit< tt;
      args = All-none (λ (x : LocalName). x.0 < 1);
      ret = lit< tt;
      locals = All-one (ShapedLocal p) local shaped_local;
      blocks = All-one (ShapedBlock p f) b shaped_block;
      has_start = lit< tt;
      few_locals = lit≤ tt;
      few_blocks = lit≤ tt;
    } in
    let shaped_global : ShapedGlobal p (global 3) = record {
      name = lit< tt;
      align = lit< tt;
      items = All-one (ShapedItem p) (item.Byte 9 3) (lit≤ tt, record { some = lit≤ tt; bounded = lit≤ tt });
    } in
    record {
      edition = inl refl;
      globals = All-one (ShapedGlobal p) (global 3) shaped_global;
      functions = All-one (ShapedFunction p) f shaped_function;
      start = lit< tt;
      few_globals = lit≤ tt;
      few_functions = lit≤ tt;
    }

-- what a shaped program of this form says of its statement
shaped_stmt_of : (repeat : ℕ) (s : Stmt) (start : ℕ) → Shaped (program repeat s start) → is_shaped_stmt (named_in (program repeat s start) (function s)) s ≡ true
shaped_stmt_of repeat s start shaped =
    let p = program repeat s start in
    let f = function s in
    let shaped_function = All-head (ShapedFunction p) f [] shaped.functions in
    let shaped_block = All-head (ShapedBlock p f) (block s) [] shaped_function.blocks in
    All-head (λ x. is_shaped_stmt (named_in p f) x ≡ true) s [] shaped_block.stmts

-- minus 0 isn't written
pub not_shaped_minus_zero : Shaped (program 3 (assign 0 minus_zero) 0) → ⊥
not_shaped_minus_zero shaped =
    let no : is_shaped_stmt (named_in (program 3 (assign 0 minus_zero) 0) (function (assign 0 minus_zero))) (assign 0 minus_zero) ≡ false = simp (shaped_value_laws) in
    true≢false (sym (shaped_stmt_of 3 (assign 0 minus_zero) 0 shaped) ∙ no)

-- the function has one local
pub not_shaped_local : Shaped (program 3 (assign 1 seven) 0) → ⊥
not_shaped_local shaped =
    let no : is_shaped_stmt (named_in (program 3 (assign 1 seven) 0) (function (assign 1 seven))) (assign 1 seven) ≡ false = simp (shaped_value_laws) in
    true≢false (sym (shaped_stmt_of 3 (assign 1 seven) 0 shaped) ∙ no)

-- an item stands at least once
pub not_shaped_repeat : Shaped (program 0 (assign 0 seven) 0) → ⊥
not_shaped_repeat shaped =
    let p = program 0 (assign 0 seven) 0 in
    let shaped_global = All-head (ShapedGlobal p) (global 0) [] shaped.globals in
    let shaped_item = All-head (ShapedItem p) (item.Byte 9 0) [] shaped_global.items in
    omega (arith, shaped_item.1.some)

-- the program has one function
pub not_shaped_start : Shaped (program 3 (assign 0 seven) 1) → ⊥
not_shaped_start shaped = omega (arith, shaped.start)
