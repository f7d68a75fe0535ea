use Rattle.mr_print.proofs.Common.{words_of_term}
use Rattle.mr_print.proofs.AppendLaws.{with_words-cons, with_words-none}
use Rattle.mr_print.proofs.stmts.print_term.Goals as goal

pub returns-in-Unreachable : goal.returns-in-Unreachable
unfolding words_of_term
returns-in-Unreachable c = rw (c.in-Unreachable.is, with_words-cons, with_words-none) c.word.ensures
