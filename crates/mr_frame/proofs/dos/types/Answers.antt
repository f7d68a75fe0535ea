use Rattle.mr_frame.proofs.Common.{◌+◌, List, Some, drop, sym, ap, ◌∙◌, subst, Ty, env_surround}
use Rattle.mr_frame.proofs.DoLaws.{Typing, typing_cut, typing_end, typing_first, typing_next}
use Rattle.mr_frame.proofs.dos.types.Goals as goal

pub loop-arg-init : goal.loop-arg-init
loop-arg-init c =
    subst (λ (done : List Ty). Typing (env_surround c.args.e.now) c.args.args.now c.args.args.now done) (sym c.clear.ensures.items) (typing_first c.args.e.now c.args.args.now c.requires)

pub loop-arg-preserved : goal.loop-arg-preserved
loop-arg-preserved c =
    let s = env_surround c.args.e.now in
    let args = c.args.args.now in
    let k = c.loop-arg.arg-index in
    let cut = typing_cut s args k c.loop-arg.types.items c.arg-item.result c.loop-arg-test.true c.arg-item.is c.loop-arg.invariant in
    typing_next s c.arg-item.result (drop (k + 1) args) args c.loop-arg.types.items c.push.new.self.items c.plain.result cut (c.type_with.ensures ∙ ap (λ (t : Ty). Some t) (sym c.plain.ensures)) c.in_ok-push.ensures.items

pub returns : goal.returns
returns c = typing_end (env_surround c.args.e.now) c.args.args.now c.loop-arg.arg-index c.loop-arg.types.items c.loop-arg-test.false c.loop-arg.invariant
