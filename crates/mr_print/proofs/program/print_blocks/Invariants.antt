use Rattle.mr_print.proofs.Common.{◌≡◌, take, flat_map, block_lines, with_lines}
use Rattle.mr_print.proofs.program.print_blocks.Given as goal

abbrev pub invariant-loop-block : goal.invariant-loop-block
invariant-loop-block l = l.text.items ≡ with_lines l.fn.text.items (flat_map (block_lines l.program l.function) (take l.block-index l.blocks))
