use Rattle.mr_rust_order.proofs.Common.{List, ℕ, [], ◌∷◌, false, get_or, take, ◌∙◌, sym, subst, arith, take_all, take_more, Access, AreNoted}
use Rattle.mr_rust_order.proofs.RowLaws.{noted_more, noted_none}
use Rattle.mr_rust_order.proofs.rows.note_all.Goals as goal

pub loop-y-init : goal.loop-y-init
loop-y-init c = record { marked = c.requires; noted = noted_none c.args.rows.now.items c.args.step.now.thread c.args.j c.args.clock.now }

pub loop-y-preserved : goal.loop-y-preserved
loop-y-preserved c =
    let none : Access = record { store = false; atomic = false; addr = 0; len = 0 } in
    let accesses = c.accesses-accesses.result.now in
    let old = c.args.rows.now.items in
    let mid = c.loop-y.rows.items in
    let new = c.note.new.rows.items in
    let thread = c.args.step.now.thread in
    let clock = c.args.clock.now in
    let here = subst (λ (t : ℕ). AreNoted mid (get_or accesses c.loop-y.y none ∷ []) t c.args.j clock new) c.thread.ensures c.in_ok-note.ensures.noted in
    record {
      marked = c.in_ok-note.ensures.marked;
      noted = subst (λ (l : List Access). AreNoted old l thread c.args.j clock new) (sym (take_more accesses c.loop-y.y none c.loop-y-test.true))
          (noted_more old mid new (take c.loop-y.y accesses) (get_or accesses c.loop-y.y none) thread c.args.j clock c.loop-y.invariant.noted here);
    }

pub returns-clause-noted : goal.returns-clause-noted
returns-clause-noted c =
    subst (λ (l : List Access). AreNoted c.args.rows.now.items l c.args.step.now.thread c.args.j c.args.clock.now c.loop-y.rows.items)
    (take_all c.loop-y.y c.accesses-accesses.result.now (omega arith) ∙ c.accesses-accesses.ensures) c.loop-y.invariant.noted

pub returns-clause-marked : goal.returns-clause-marked
returns-clause-marked c = c.loop-y.invariant.marked
