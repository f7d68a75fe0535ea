use Rattle.mr_rust_order.proofs.Common.{List, false, ◌∙◌, subst, arith, take_all, Access, AreJoined, IsReadOf}
use Rattle.mr_rust_order.proofs.LoadLaws.{reads_more, reads_none}
use Rattle.mr_rust_order.proofs.loads.read_all.Goals as goal

pub loop-y-init : goal.loop-y-init
loop-y-init c = record { memos = c.requires.memos; joined = reads_none c.args.rows.now c.accesses-accesses.result.now c.args.clock.now }

pub loop-y-preserved : goal.loop-y-preserved
loop-y-preserved c =
    let none : Access = record { store = false; atomic = false; addr = 0; len = 0 } in
    record {
      memos = c.in_ok-read_access.ensures.memos;
      joined = reads_more c.args.rows.now c.accesses-accesses.result.now c.loop-y.y none c.args.clock.now c.loop-y.clock c.read_access.new.clock c.loop-y-test.true c.loop-y.invariant.joined c.in_ok-read_access.ensures.joined;
    }

pub returns-clause-memos : goal.returns-clause-memos
returns-clause-memos c = c.loop-y.invariant.memos

pub returns-clause-joined : goal.returns-clause-joined
returns-clause-joined c =
    subst (λ (l : List Access). AreJoined c.args.rows.now (IsReadOf c.args.rows.now l) c.args.clock.now c.loop-y.clock)
    (take_all c.loop-y.y c.accesses-accesses.result.now (omega arith) ∙ c.accesses-accesses.ensures) c.loop-y.invariant.joined
