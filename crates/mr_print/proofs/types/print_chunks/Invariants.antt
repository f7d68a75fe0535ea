use Rattle.mr_print.proofs.Common.{◌≡◌, map, take, codes, chunk_words, with_commas, with_word, with_words}
use Rattle.mr_print.proofs.types.print_chunks.Given as goal

abbrev pub invariant-loop-i : goal.invariant-loop-i
invariant-loop-i l = l.text.items ≡ with_words (with_word l.fn.text.items (codes "{")) (with_commas (map chunk_words (take l.i l.chunks)))
