use Rattle.mr_witness.proofs.Common.{List, ℕ, length, ◌-◌, ◌+◌, arith, sym, ◌∙◌, ap, subst, ◌++◌, ◌∷◌, [], IsBoard, left_of, placed_in, ready_threads, without}
use Rattle.mr_witness.proofs.Boards.{all_left, begins_many, begins_told, board_begins, turn_below, turn_is_ready, turn_many, turn_some, turn_step, turn_told}
use Rattle.mr_witness.proofs.placing.shuffled_order.Goals as goal

pub loop-turn-init : goal.loop-turn-init
loop-turn-init c =
    let f = c.in_ok-fronts.ensures in
    let all = all_left c.args.run.now c.in_ok-fronts.fronts.items f.width f.each in
    record {
      board = board_begins c.args.run.now c.in_ok-fronts.fronts.items f.width f.each f.limit;
      many = begins_many c.args.run.now c.in_ok-fronts.fronts.items all;
      told = begins_told c.args.run.now c.args.number c.new-order.result.items c.in_ok-fronts.fronts.items c.new-chooser.result c.new-order.ensures.items c.new-chooser.ensures all;
    }

pub ready_of-requires-clause-fronts : goal.ready_of-requires-clause-fronts
ready_of-requires-clause-fronts c = subst (IsBoard c.args.run.now) (sym c.as_slice.ensures.value) c.loop-turn.invariant.board

pub thread-thread-requires : goal.thread-thread-requires
thread-thread-requires c =
    turn_some c.args.run.now c.loop-turn.fronts.items c.loop-turn.chooser c.as_slice-in-loop-turn.result.now c.loop-turn._turn 0 (let lt = c.loop-turn-test.true in omega (arith, lt)) c.loop-turn.invariant.many
    (c.as_slice-in-loop-turn.ensures.value ∙ c.in_ok-ready.ensures ∙ ap (λ (l : List ℕ). ready_threads c.args.run.now (left_of c.args.run.now l)) c.as_slice.ensures.value)

pub taken-step-requires-clause-thread : goal.taken-step-requires-clause-thread
taken-step-requires-clause-thread c =
    turn_below c.args.run.now c.loop-turn.fronts.items c.loop-turn.chooser c.as_slice-in-loop-turn.result.now c.loop-turn._turn c.thread-thread.result (let lt = c.loop-turn-test.true in omega (arith, lt)) c.loop-turn.invariant.many
    (c.as_slice-in-loop-turn.ensures.value ∙ c.in_ok-ready.ensures ∙ ap (λ (l : List ℕ). ready_threads c.args.run.now (left_of c.args.run.now l)) c.as_slice.ensures.value) c.thread-thread.ensures.thread

pub taken-step-requires-clause-ready : goal.taken-step-requires-clause-ready
taken-step-requires-clause-ready c =
    turn_is_ready c.args.run.now c.loop-turn.fronts.items c.loop-turn.chooser c.as_slice-in-loop-turn.result.now c.loop-turn._turn c.thread-thread.result (let lt = c.loop-turn-test.true in omega (arith, lt)) c.loop-turn.invariant.many
    (c.as_slice-in-loop-turn.ensures.value ∙ c.in_ok-ready.ensures ∙ ap (λ (l : List ℕ). ready_threads c.args.run.now (left_of c.args.run.now l)) c.as_slice.ensures.value) c.thread-thread.ensures.thread

pub loop-turn-preserved : goal.loop-turn-preserved
loop-turn-preserved c =
    let run = c.args.run.now in
    let fronts = c.loop-turn.fronts.items in
    let new = c.taken-step.new.fronts.items in
    let i = c.loop-turn.invariant in
    let lt = c.loop-turn-test.true in
    let is = c.as_slice-in-loop-turn.ensures.value ∙ c.in_ok-ready.ensures ∙ ap (λ (l : List ℕ). ready_threads run (left_of run l)) c.as_slice.ensures.value in
    let step = turn_step run fronts c.loop-turn.chooser c.as_slice-in-loop-turn.result.now c.loop-turn._turn c.thread-thread.result (omega (arith, lt)) i.many is c.thread-thread.ensures.thread in
    let behind = c.taken-step.ensures.left ∙ ap (λ (x : ℕ). without x (left_of run fronts)) step in
    record {
      board = c.taken-step.ensures.fronts;
      many = turn_many run fronts c.loop-turn.chooser c.as_slice-in-loop-turn.result.now c.loop-turn._turn c.thread-thread.result (omega (arith, lt)) i.many is c.thread-thread.ensures.thread (left_of run new) behind;
      told =
          ap (λ d. c.push.new.self.items ++ placed_in run d (left_of run new) (length run - (c.loop-turn._turn + 1))) c.thread-thread.ensures.drawn
          ∙ turn_told run c.loop-turn.chooser (left_of run fronts) (left_of run new) c.loop-turn.order.items c.push.new.self.items _ (length run) c.loop-turn._turn (omega (arith, lt)) i.told
          (c.in_ok-push.ensures.items ∙ ap (λ (x : ℕ). c.loop-turn.order.items ++ x ∷ []) (c.taken-step.ensures.step ∙ step)) behind;
    }
