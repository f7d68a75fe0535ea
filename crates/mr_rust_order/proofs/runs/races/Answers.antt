use Rattle.mr_rust_order.proofs.Common.{◌≡◌, ℕ, arith, length, subst, AreRacesBelow}
use Rattle.mr_rust_order.proofs.StepLaws.{races_more, races_none, races_same}
use Rattle.mr_rust_order.proofs.TestLaws.{races_only}
use Rattle.mr_rust_order.proofs.runs.races.Goals as goal
use Rattle.mr_rust_order.proofs.runs.races.Goals.{in-Some+in_ok-push, in_default}

pub loop-j-init : goal.loop-j-init
loop-j-init c = record { tracks = c.in_ok-analysis.ensures c.args.run.now; found = races_none c.args.run.now c.new-pairs.result.items c.new-pairs.ensures.items }

pub loop-j-preserved : goal.loop-j-preserved
loop-j-preserved c =
    record {
      tracks = c.in_ok-first.ensures.tracks;
      found = elim c.match-branch-3.branch [
        | in-Some+in_ok-push w ↦ rw (w.pairs-is, w.in_ok-push.ensures.items) (races_more _ _ _ _ c.loop-j.invariant.found (rw w.in-Some.is at c.in_ok-first.ensures.race))
        | in_default w ↦ rw w.pairs-is (races_same _ _ _ c.loop-j.invariant.found (rw w.in_default.is at c.in_ok-first.ensures.race))
      ];
    }

pub returns-clause-listed : goal.returns-clause-listed
returns-clause-listed c =
    let run = c.args.run.now in
    let pairs = c.loop-j.pairs.items in
    let end : c.loop-j.j ≡ length run = omega arith in
    races_only run pairs (subst (λ (n : ℕ). AreRacesBelow run n pairs) end c.loop-j.invariant.found)
