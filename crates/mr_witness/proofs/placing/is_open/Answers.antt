use Rattle.mr_witness.proofs.Common.{arith}
use Rattle.mr_witness.proofs.Boards.{ends, front_there, opens}
use Rattle.mr_witness.proofs.placing.is_open.Goals as goal

pub is_ready-requires-clause-fronts : goal.is_ready-requires-clause-fronts
is_ready-requires-clause-fronts c = c.requires.fronts.own

pub returns-then-front-run : goal.returns-then-front-run
returns-then-front-run c =
    ends c.args.run.now c.args.fronts.now c.args.thread _ (front_there c.args.run.now c.args.fronts.now c.args.thread c.requires.thread) c.if-front-run.true

pub returns : goal.returns
returns c =
    opens c.args.run.now c.args.fronts.now c.requires.fronts.own c.args.thread _ c.in_ok-opened.opened (front_there c.args.run.now c.args.fronts.now c.args.thread c.requires.thread) (let low = c.if-front-run.false in omega (arith, low)) c.in_ok-opened.ensures
