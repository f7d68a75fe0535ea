use Rattle.mr_clocks.proofs.Common.{List, set, subst, refl, arith, get_or_read, Link, IsBelow, no_row}
use Rattle.mr_clocks.proofs.Noting.{noted_from}
use Rattle.mr_clocks.proofs.rows.note.Goals as goal

pub returns-clause-noted : goal.returns-clause-noted
returns-clause-noted c =
    let rows = c.args.rows.now.items in
    let row = c.index_mut-row.result.now in
    let last = c.len.result in
    noted_from rows (set rows c.args.x (record { key = row.key; thread = c.args.thread; last = last })) c.args.links.now.items c.push_reserved.new.self.items c.args.x c.args.j c.args.thread c.below-before.result last row
    c.requires.inside (get_or_read rows c.args.x row c.requires.inside c.index_mut-row.ensures.value no_row)
    (subst (λ (l : List Link). IsBelow l row.last c.args.j c.below-before.result) c.as_slice.ensures.value c.below-before.ensures) c.push_reserved.ensures.items refl (omega (arith, c.args.links.now.ok.0))
