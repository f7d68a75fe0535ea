use Rattle.mr_two_orders.proofs.Common.{◌≡◌, ◌++◌, Option, subst, OnOk, slice_get, Footprint, last_behind}
use Rattle.mr_picture.specs.Texts.{step_word}
use Rattle.mr_two_orders.specs.Bare.{thread_text}
use Rattle.mr_two_orders.proofs.bare.push_step.Goals as goal

pub returns : goal.returns
returns c =
    let made = c.push_thread.new.out.items in
    let foot = slice_get c.args.run.now c.args.step in
    last_behind c.push_thread.result c.args.out.now.items (step_word c.args.step) (thread_text foot) _ made
    c.in_ok-push_step_word.ensures
    (subst (λ (o : Option Footprint). OnOk c.push_thread.result (made ≡ c.push_step_word.new.out.items ++ thread_text o))
    c.foot_at.ensures c.push_thread.ensures)
