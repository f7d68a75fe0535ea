use Rattle.mr_print.proofs.Common.{arith, block_lines}
use Rattle.mr_print.proofs.AppendLaws.{with_lines_item}
use Rattle.mr_print.proofs.program.print_blocks.Goals as goal

pub loop-block-preserved : goal.loop-block-preserved
loop-block-preserved c = with_lines_item _ _ _ (omega arith) (block_lines c.args.program.now c.args.function.now) _ _ _ c.block-item.is c.loop-block.invariant c.in_ok-print_block.ensures
