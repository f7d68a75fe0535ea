use Rattle.mr_step.proofs.Common.{◌≡◌, Some, subst, sym, Program, State, needs, Look, Own, thread_step, IsSound, config_of, setting_look, state_of, Standing}
use Rattle.mr_sync.specs.Tables.{IsEnabled}
use Rattle.mr_plan.specs.Queries.{tables_of}
use Rattle.mr_turn.specs.Asking.{AsksAnswer}
use Rattle.mr_step.proofs.AskLaws.{state_there}
use Rattle.mr_step.proofs.machine.Machine.asks.Goals as goal

pub asked-requires : goal.asked-requires
asked-requires c =
    let m = c.self.inside in
    let (s, state, enabled) = c.requires.enabled in
    let (there, is) = state_there m.progress.gone (state_of m.progress) s (subst (λ (x : Standing). x.config.state ≡ Some s) (sym c.self.view_is) state) in
    record {
      ready = c.look-look.ensures.ready;
      sound = subst (λ (p : Program). IsSound p (config_of m.progress)) (sym c.look-look.ensures.program) (c.self.invariant.sound (subst (λ (x : Standing). x.failed ≡ _) (sym c.self.view_is) c.requires.working));
      there = there;
      enabled = subst (λ (x : State Own). IsEnabled c.args.t (tables_of x.shared)) (sym is) enabled;
    }

pub returns-clause-asks : goal.returns-clause-asks
returns-clause-asks c = λ s state.
    let m = c.self.inside in
    let old = c.args.out.now.items in
    let is = c.asked.new.out.items in
    let (there, same) = state_there m.progress.gone (state_of m.progress) s (subst (λ (x : Standing). x.config.state ≡ Some s) (sym c.self.view_is) state) in
    subst (λ (x : Standing). AsksAnswer s.shared (needs (thread_step x.look) s c.args.t) old is c.asked.result) c.self.view_is
    (subst (λ (x : State Own). AsksAnswer x.shared (needs (thread_step (setting_look m.setting)) x c.args.t) old is c.asked.result) same
    (subst (λ (l : Look). AsksAnswer (state_of m.progress).shared (needs (thread_step l) (state_of m.progress) c.args.t) old is c.asked.result) c.look-look.ensures.look c.asked.ensures))
