use Rattle.mr_step.proofs.Common.{◌≡◌, Some, arith, refl, subst, sym, slice_get_read, slice_get, state_of}
use Rattle.mr_turn.specs.Asking.{AsksAnswer}
use Rattle.mr_step.proofs.AskLaws.{asked_begins, asked_there, needs_here}
use Rattle.mr_step.proofs.asking.asked.Goals as goal

pub index-thread-requires : goal.index-thread-requires
index-thread-requires c =
    let there = asked_there c.args.look.now c.args.t c.args.p.now c.requires in
    omega (arith, c.args.p.now.threads.ok.0)

pub asks-requires-clause-fits : goal.asks-requires-clause-fits
asks-requires-clause-fits c =
    let p = c.args.p.now in
    let th = c.index-thread.result.now in
    let here : slice_get p.threads.items c.args.t ≡ Some th = slice_get_read p.threads.items _ c.args.t th refl (asked_there c.args.look.now c.args.t p c.requires) c.index-thread.ensures in
    (asked_begins c.args.look.now c.args.t p c.requires th here).fits

pub returns : goal.returns
returns c =
    let p = c.args.p.now in
    let th = c.index-thread.result.now in
    let here : slice_get p.threads.items c.args.t ≡ Some th = slice_get_read p.threads.items _ c.args.t th refl (asked_there c.args.look.now c.args.t p c.requires) c.index-thread.ensures in
    subst (λ n. AsksAnswer (state_of p).shared n c.args.out.now.items c.asks.new.out.items c.asks.result) (sym (needs_here c.args.look.now c.args.t p c.requires th here)) (c.asks.ensures th.count)
