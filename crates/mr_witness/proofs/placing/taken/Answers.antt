use Rattle.mr_witness.proofs.Common.{arith, ◌∙◌}
use Rattle.mr_witness.proofs.Boards.{front_is, front_read, taken_board, taken_within}
use Rattle.mr_witness.proofs.placing.taken.Goals as goal

pub next_behind-requires : goal.next_behind-requires
next_behind-requires c =
    let b = c.requires.fronts in
    let e = front_read c.args.run.now c.args.fronts.now.items c.args.thread c.index-step.result.now (omega (arith, c.requires.thread, b.threads)) c.index-step.ensures in
    taken_within c.args.run.now c.args.fronts.now.items b c.args.thread c.index-step.result.now c.requires.thread c.requires.ready e

pub returns-clause-fronts : goal.returns-clause-fronts
returns-clause-fronts c =
    let b = c.requires.fronts in
    let e = front_read c.args.run.now c.args.fronts.now.items c.args.thread c.index-step.result.now (omega (arith, c.requires.thread, b.threads)) c.index-step.ensures in
    (taken_board c.args.run.now c.args.fronts.now.items b c.args.thread c.index-step.result.now c.next_behind.result c.requires.thread c.requires.ready e c.next_behind.ensures).0

pub returns-clause-step : goal.returns-clause-step
returns-clause-step c =
    let b = c.requires.fronts in
    let e = front_read c.args.run.now c.args.fronts.now.items c.args.thread c.index-step.result.now (omega (arith, c.requires.thread, b.threads)) c.index-step.ensures in
    e ∙ front_is c.args.run.now c.args.fronts.now.items b c.args.thread c.requires.thread c.requires.ready

pub returns-clause-left : goal.returns-clause-left
returns-clause-left c =
    let b = c.requires.fronts in
    let e = front_read c.args.run.now c.args.fronts.now.items c.args.thread c.index-step.result.now (omega (arith, c.requires.thread, b.threads)) c.index-step.ensures in
    (taken_board c.args.run.now c.args.fronts.now.items b c.args.thread c.index-step.result.now c.next_behind.result c.requires.thread c.requires.ready e c.next_behind.ensures).1
