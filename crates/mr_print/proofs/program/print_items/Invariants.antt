use Rattle.mr_print.proofs.Common.{◌≡◌, take, flat_map, words_of_item, with_words}
use Rattle.mr_print.proofs.program.print_items.Given as goal

abbrev pub invariant-loop-item : goal.invariant-loop-item
invariant-loop-item l = l.text.items ≡ with_words l.fn.text.items (flat_map (words_of_item l.program) (take l.item-index l.items))
