use Rattle.mr_step.proofs.Common.{◌≡◌, refl, sym, ap, ◌∙◌, look_of, fault, entry_fault, thread_step, config_of, state_of, state_unless}
use Rattle.mr_sync.specs.Tables.{is_enabled}
use Rattle.mr_step.proofs.EntryLaws.{disabled_breaks, enabled_is, gone_breaks, running_is, stopped_breaks}
use Rattle.mr_step.proofs.SoundLaws.{state_is}
use Rattle.mr_step.proofs.advance.advance.Goals as goal
use Rattle.mr_step.proofs.advance.advance.Goals.{then-p-via-then-p, then-p-via-else-p+then-not-is_running}
use Rattle.mr_sched.specs.declared.rule.ScheduleRule.TheVariants as rule

pub returns-then-p : goal.returns-then-p
returns-then-p c =
    let p = c.args.p.now in
    let l = look_of c.args.look.now in
    let e = c.args.entry.now in
    let broken : entry_fault (thread_step l) (config_of p) e ≡ fault rule.AfterStop =
    elim c.then-p.branch [
      | then-p-via-then-p w ↦ gone_breaks l (config_of p) e (ap (λ g. state_unless g (state_of p)) w.if-p.true)
      | then-p-via-else-p+then-not-is_running w ↦ stopped_breaks l (config_of p) e (sym w.is_running.ensures ∙ w.if-not-is_running.true)
    ] in
    rw c.broken.ensures (record { broken = broken; same = refl })

pub returns-then-not-is_enabled : goal.returns-then-not-is_enabled
returns-then-not-is_enabled c =
    let p = c.args.p.now in
    let l = look_of c.args.look.now in
    let e = c.args.entry.now in
    let running = running_is p.verdict (sym c.is_running.ensures ∙ c.if-not-is_running.false) in
    let disabled = ap is_enabled (sym c.status.ensures) ∙ sym c.is_enabled.ensures ∙ c.if-not-is_enabled.true in
    let broken : entry_fault (thread_step l) (config_of p) e ≡ fault rule.NotEnabled = disabled_breaks l (config_of p) e (state_of p) (state_is p c.if-p.false) running disabled in
    rw c.broken-then-not-is_enabled.ensures (record { broken = broken; same = refl })

pub take-requires : goal.take-requires
take-requires c =
    let p = c.args.p.now in
    record {
      before = c.requires;
      there = c.if-p.false;
      running = running_is p.verdict (sym c.is_running.ensures ∙ c.if-not-is_running.false);
      enabled = sym c.status.ensures ∙ enabled_is c.status.result (sym c.is_enabled.ensures ∙ c.if-not-is_enabled.false);
    }
