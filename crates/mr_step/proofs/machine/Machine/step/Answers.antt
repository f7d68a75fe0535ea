use Rattle.mr_step.proofs.Common.{Err, Ok, sym, subst, ◌∙◌, StepAnswer, Standing}
use Rattle.mr_step.proofs.HandLaws.{handed, more_steps, unhanded}
use Rattle.mr_step.proofs.machine.Machine.step.Goals as goal

pub hand_out-requires : goal.hand_out-requires
hand_out-requires c =
    more_steps c.args.entry.now c.args.self.now c.go.new.self c.in_ok-turn.turn c.in_ok-turn.ensures
    (λ same. c.if-completed-before.false (c.completed.ensures ∙ same ∙ sym c.completed-before.ensures))

pub returns-in-Ok : goal.returns-in-Ok
returns-in-Ok c =
    let told = c.in-Ok.ensures in
    subst (λ (s : Standing). StepAnswer c.args.entry.now c.args.self.now s c.args.foot.now c.hand_out.new.foot (Ok c.in_ok-turn.turn)) (sym told.0)
    (handed c.args.entry.now c.args.self.now c.go.new.self c.in_ok-turn.turn c.args.foot.now c.hand_out.new.foot c.in_ok-turn.ensures
    (λ same. c.if-completed-before.false (c.completed.ensures ∙ same ∙ sym c.completed-before.ensures)) told.1)

pub returns-in-Err : goal.returns-in-Err
returns-in-Err c =
    let (is, fails) = c.in-Err.ensures in
    subst (λ e. StepAnswer c.args.entry.now c.args.self.now c.hand_out.new.self c.args.foot.now c.hand_out.new.foot (Err e)) (sym is)
    (unhanded c.args.entry.now c.args.self.now c.go.new.self c.in_ok-turn.turn c.lines-prints.result c.lines-prints.ensures c.in_ok-turn.ensures
    (λ same. c.if-completed-before.false (c.completed.ensures ∙ same ∙ sym c.completed-before.ensures)) c.hand_out.new.self fails)
