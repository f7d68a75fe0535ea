use Rattle.mr_lex.proofs.Common.{refl, inl}
use Rattle.mr_lex.proofs.AnswerLaws.{gives_lexes, gives_in_order, gives_only, gives_fault, gives_first}
use Rattle.mr_lex.proofs.ReadingLaws.{fault_lexed}
use Rattle.mr_lex.proofs.scan.tokens.Goals as goal

pub returns-then-text-gt-TEXT_LIMIT-clause-exact : goal.returns-then-text-gt-TEXT_LIMIT-clause-exact
returns-then-text-gt-TEXT_LIMIT-clause-exact c =
    fault_lexed c.args.text.now _ (inl (c.if-text-gt-TEXT_LIMIT.true, refl))

pub returns-clause-lexes : goal.returns-clause-lexes
returns-clause-lexes c = gives_lexes c.args.text.now c.scan.result c.scan.ensures

pub returns-clause-only : goal.returns-clause-only
returns-clause-only c = gives_only c.args.text.now c.scan.result c.scan.ensures

pub returns-clause-ordered : goal.returns-clause-ordered
returns-clause-ordered c = gives_in_order c.args.text.now c.scan.result c.scan.ensures

pub returns-clause-bad : goal.returns-clause-bad
returns-clause-bad c = gives_fault c.args.text.now c.scan.result c.scan.ensures

pub returns-clause-first : goal.returns-clause-first
returns-clause-first c = gives_first c.args.text.now c.scan.result c.scan.ensures
