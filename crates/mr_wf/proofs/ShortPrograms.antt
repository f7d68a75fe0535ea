-- The positions in a shaped program have 32 bits.
use Rattle.mr_wf.proofs.Common.{◌≤◌, ◌^◌, length, All, arith, Block, IsShort}
use Rattle.mr_ast.specs.declared.program.Function.{Function}
use Rattle.mr_ast.specs.declared.program.Program.{Program}
use Rattle.mr_ast.specs.Shaped.{Shaped, ShapedBlock, ShapedFunction}

short_function : (p : Program) (f : Function) → ShapedFunction p f → IsShort f
short_function p f shaped = record {
  locals = omega (arith, shaped.few_locals);
  blocks = omega (arith, shaped.few_blocks);
  stmts = λ k d lt. short_block (shaped.blocks k d lt);
}
  where
    short_block : {b : Block} → ShapedBlock p f b → length b.stmts ≤ 2 ^ 20
    short_block b = omega (arith, b.few_stmts)

pub short_functions : (p : Program) → Shaped p → All IsShort p.functions
short_functions p shaped = λ k d lt. short_function p _ (shaped.functions k d lt)

pub few_globals : (p : Program) → Shaped p → length p.globals ≤ 2 ^ 20
few_globals p shaped = omega (arith, shaped.few_globals)

pub few_functions : (p : Program) → Shaped p → length p.functions ≤ 2 ^ 20
few_functions p shaped = omega (arith, shaped.few_functions)

pub ruleset short_laws = (short_functions, few_globals, few_functions)
