use Rattle.mr_clocks.proofs.Common.{List, sym, subst, step_at, Row, AreAllAsked}
use Rattle.mr_clocks.proofs.Kept.{clocks_same, rows_same}
use Rattle.mr_clocks.proofs.adding.add_step.Goals as goal

pub hinted-hint-requires-clause-clocks : goal.hinted-hint-requires-clause-clocks
hinted-hint-requires-clause-clocks c =
    clocks_same c.args.run.now c.args.j c.args.clocks.now.items c.as_slice.result.now c.args.numbers.now.items c.as_slice-2.result.now
    c.as_slice.ensures.value c.as_slice-2.ensures.value c.requires.clocks

pub standing_of-standing-requires-clause-clocks : goal.standing_of-standing-requires-clause-clocks
standing_of-standing-requires-clause-clocks c =
    clocks_same c.args.run.now c.args.j c.args.clocks.now.items c.as_slice-4.result.now c.args.numbers.now.items c.as_slice-5.result.now
    c.as_slice-4.ensures.value c.as_slice-5.ensures.value c.requires.clocks

pub standing_of-standing-requires-clause-rows : goal.standing_of-standing-requires-clause-rows
standing_of-standing-requires-clause-rows c =
    rows_same c.args.run.now c.args.j c.args.rows.now.items c.as_slice-6.result.now c.args.links.now.items c.as_slice-7.result.now
    c.as_slice-6.ensures.value c.as_slice-7.ensures.value c.requires.rows

pub standing_of-standing-requires-clause-found : goal.standing_of-standing-requires-clause-found
standing_of-standing-requires-clause-found c =
    subst (λ (l : List Row). AreAllAsked (step_at c.args.run.now c.args.j) l c.args.found.now) (sym c.as_slice-6.ensures.value) c.requires.found
