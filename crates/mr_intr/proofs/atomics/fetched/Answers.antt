use Rattle.mr_intr.proofs.Common.{refl}
use Rattle.mr_eval.specs.declared.arithmetic.ArithOp.TheVariants.{Add, And, Or, Sub, Xor}
use Rattle.mr_intr.proofs.AtomicLaws.{computed_small}
use Rattle.mr_intr.proofs.atomics.fetched.Goals as goal

pub computed-requires-clause-defined : goal.computed-requires-clause-defined
computed-requires-clause-defined c = (_, refl)

pub computed-requires-in-FetchSub-clause-defined : goal.computed-requires-in-FetchSub-clause-defined
computed-requires-in-FetchSub-clause-defined c = (_, refl)

pub computed-requires-in-FetchAnd-clause-defined : goal.computed-requires-in-FetchAnd-clause-defined
computed-requires-in-FetchAnd-clause-defined c = (_, refl)

pub computed-requires-in-FetchOr-clause-defined : goal.computed-requires-in-FetchOr-clause-defined
computed-requires-in-FetchOr-clause-defined c = (_, refl)

pub computed-requires-in-FetchXor-clause-defined : goal.computed-requires-in-FetchXor-clause-defined
computed-requires-in-FetchXor-clause-defined c = (_, refl)

pub returns-in-FetchAdd-clause-small : goal.returns-in-FetchAdd-clause-small
returns-in-FetchAdd-clause-small c = computed_small Add c.args.int c.args.found c.args.by c.computed.result c.requires.found c.requires.by c.computed.ensures

pub returns-in-FetchSub-clause-small : goal.returns-in-FetchSub-clause-small
returns-in-FetchSub-clause-small c = computed_small Sub c.args.int c.args.found c.args.by c.computed-in-FetchSub.result c.requires.found c.requires.by c.computed-in-FetchSub.ensures

pub returns-in-FetchAnd-clause-small : goal.returns-in-FetchAnd-clause-small
returns-in-FetchAnd-clause-small c = computed_small And c.args.int c.args.found c.args.by c.computed-in-FetchAnd.result c.requires.found c.requires.by c.computed-in-FetchAnd.ensures

pub returns-in-FetchOr-clause-small : goal.returns-in-FetchOr-clause-small
returns-in-FetchOr-clause-small c = computed_small Or c.args.int c.args.found c.args.by c.computed-in-FetchOr.result c.requires.found c.requires.by c.computed-in-FetchOr.ensures

pub returns-in-FetchXor-clause-small : goal.returns-in-FetchXor-clause-small
returns-in-FetchXor-clause-small c = computed_small Xor c.args.int c.args.found c.args.by c.computed-in-FetchXor.result c.requires.found c.requires.by c.computed-in-FetchXor.ensures
