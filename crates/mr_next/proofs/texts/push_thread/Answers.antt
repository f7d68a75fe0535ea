use Rattle.mr_next.proofs.Common.{◌∙◌, ◌++◌, List, ap, option_copied, Option}
use Rattle.mr_labels.specs.declared.step.Stand.{Stand}
use Rattle.mr_next.specs.declared.prospect.Want.{Want}
use Rattle.mr_next.specs.Texts.{asked_text, head_text, limit_text, stand_at}
use Rattle.mr_next.proofs.Appended.{behind, last_behind}
use Rattle.mr_next.proofs.texts.push_thread.Goals as goal

pub returns : goal.returns
returns c =
    let old = c.args.out.now.items in
    let p = c.args.p.now in
    let position = option_copied c.args.position in
    let head = head_text c.args.thread position c.args.prospect.now in
    let asked = asked_text p c.args.new (stand_at position) c.args.prospect.now.wants in
    let limit = limit_text c.args.prospect.now.limit in
    let before = c.push_head.new.out.items in
    last_behind c.push_limit.result old (head ++ asked) limit _ _
    (behind old head asked _ _ c.in_ok-push_head.ensures
    (c.in_ok-push_asked.ensures
    ∙ ap (λ (here : Option Stand). before ++ asked_text p c.args.new here c.as_slice.result.now) c.stand_at.ensures
    ∙ ap (λ (ws : List Want). before ++ asked_text p c.args.new (stand_at position) ws) c.as_slice.ensures))
    c.push_limit.ensures
