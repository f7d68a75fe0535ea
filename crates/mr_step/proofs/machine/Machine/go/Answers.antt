use Rattle.mr_step.proofs.Common.{◌<◌, ◌∙◌, Err, Ok, ap, refl, sym, subst, true, Program, Look, Advances, Stays, GoAnswer, fault_of, IsSound, config_of, setting_look, Standing, AreWithin, Config, Own}
use Rattle.std.proofs.Common.{◌^◌}
use Rattle.mr_event.specs.Order.{no_step}
use Rattle.mr_step.specs.declared.fault.StepFault.TheVariants as answer
use Rattle.mr_step.proofs.HandLaws.{gone_on}
use Rattle.mr_step.proofs.SoundLaws.{advanced_ok, advanced_sound}
use Rattle.mr_step.proofs.machine.Machine.go.Goals as goal

pub advance-requires : goal.advance-requires
advance-requires c =
    let m = c.self.inside in
    record {
      ready = c.look-look.ensures.ready;
      sound = subst (λ (p : Program). IsSound p (config_of m.progress)) (sym c.look-look.ensures.program) (c.self.invariant.sound c.if-self.false);
      steps = subst (λ (s : Standing). s.config.completed < 2 ^ 32) (sym c.self.view_is) c.requires;
    }

pub invariant_of-self : goal.invariant_of-self
invariant_of-self c =
    let m = c.self.inside in
    let h = subst (λ (l : Look). Advances l c.args.entry.now (config_of m.progress) (config_of c.advance.new.p)) c.look-look.ensures.look c.in-Ok.ensures in
    record {
      set = c.self.invariant.set;
      sound = λ e. subst (IsSound m.setting.program.now) (sym h.after) (advanced_sound m.setting c.self.invariant.set (config_of m.progress) c.args.entry.now (c.self.invariant.sound e) h.legal).1;
      within = λ e. subst (λ (x : Config Own). AreWithin x) (sym h.after) (advanced_ok m.setting c.self.invariant.set (config_of m.progress) c.args.entry.now (c.self.invariant.sound e) (c.self.invariant.within e) h.legal).1;
    }

pub invariant_of-self-in-Err-BadEntry : goal.invariant_of-self-in-Err-BadEntry
invariant_of-self-in-Err-BadEntry c =
    let m = c.self.inside in
    let h = rw c.in-Err-BadEntry.field-0-is at c.in-Err-BadEntry.ensures in
    record {
      set = c.self.invariant.set;
      sound = λ e. subst (IsSound m.setting.program.now) (sym h.same) (c.self.invariant.sound e);
      within = λ e. subst (λ (x : Config Own). AreWithin x) (sym h.same) (c.self.invariant.within e);
    }

pub returns-in-Ok : goal.returns-in-Ok
returns-in-Ok c =
    let m = c.self.inside in
    let look = setting_look m.setting in
    let e = c.args.entry.now in
    let h = subst (λ (l : Look). Advances l e (config_of m.progress) (config_of c.advance.new.p)) c.look-look.ensures.look c.in-Ok.ensures in
    let sound = advanced_sound m.setting c.self.invariant.set (config_of m.progress) e (c.self.invariant.sound c.if-self.false) h.legal in
    let ok = advanced_ok m.setting c.self.invariant.set (config_of m.progress) e (c.self.invariant.sound c.if-self.false) (c.self.invariant.within c.if-self.false) h.legal in
    let new : Standing = record { look = look; failed = m.failed; config = config_of c.advance.new.p } in
    subst (λ (s : Standing). GoAnswer e s new (Ok c.behind.result)) c.self.view_is
    (gone_on e (record { look = look; failed = m.failed; config = config_of m.progress }) new c.behind.result c.if-self.false h.legal sound.0 ok.0 (λ i. record { look = look; failed = c.if-self.false i; config = h.after i }) c.behind.ensures)

pub returns-then-self : goal.returns-then-self
returns-then-self c = (no_step, no_step, record { failed = ap (λ (s : Standing). s.failed) (sym c.self.view_is) ∙ c.if-self.true; same = refl; foot = refl })

pub returns-in-Err-Memory : goal.returns-in-Err-Memory
returns-in-Err-Memory c =
    let new : Standing = record { look = setting_look c.self.inside.setting; failed = true; config = config_of c.advance.new.p } in
    subst (λ (s : Standing). GoAnswer c.args.entry.now s new (Err answer.Memory)) c.self.view_is
    (no_step, no_step, record { working = c.if-self.false; failed = refl; look = refl; told = rw c.in-Err-Memory.field-0-is at c.in-Err-Memory.ensures })

pub returns-in-Err-BadEntry : goal.returns-in-Err-BadEntry
returns-in-Err-BadEntry c =
    let m = c.self.inside in
    let e = c.args.entry.now in
    let code = c.in-Err-BadEntry.code in
    let earlier = c.in-Err-BadEntry.earlier in
    let told = rw c.in-Err-BadEntry.field-0-is at c.in-Err-BadEntry.ensures in
    let h = subst (λ (l : Look). Stays l e (config_of m.progress) (config_of c.advance.new.p) (fault_of code earlier)) c.look-look.ensures.look told in
    let new : Standing = record { look = setting_look m.setting; failed = m.failed; config = config_of c.advance.new.p } in
    subst (λ (s : Standing). GoAnswer e s new (Err (answer.BadEntry code earlier))) c.self.view_is
    (no_step, no_step, record { working = c.if-self.false; broken = h.broken; same = λ i. record { look = setting_look m.setting; failed = m.failed; config = h.same i }; foot = refl })
