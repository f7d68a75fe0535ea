use Rattle.mr_clocks.proofs.Common.{slice_index, refl, arith, ℕ, subst}
use Rattle.mr_clocks.specs.Rows.{IsNoted}
use Rattle.mr_clocks.proofs.Noting.{keys_same, longer_more, longer_none, noted_more, partly_ends, partly_start}
use Rattle.mr_clocks.proofs.rows.note_all.Goals as goal

pub loop-y-init : goal.loop-y-init
loop-y-init c = record {
  partly = partly_start c.args.run.now c.args.j c.args.rows.now.items c.args.links.now.items c.requires.rows;
  keys = keys_same c.args.rows.now.items;
  noted = λ z lt. absurd (omega (arith, lt));
  longer = longer_none c.args.links.now.items;
  long = omega arith;
  room = refl;
}

pub note-requires-clause-inside : goal.note-requires-clause-inside
note-requires-clause-inside c =
    let i = c.loop-y.invariant in
    let place = (c.requires.places.each c.loop-y.y c.loop-y-test.true).0 in
    let many = i.keys.many in
    omega (arith, place, many)

pub note-requires-clause-last : goal.note-requires-clause-last
note-requires-clause-last c =
    let i = c.loop-y.invariant in
    let place = (c.requires.places.each c.loop-y.y c.loop-y-test.true).0 in
    let many = i.keys.many in
    (i.partly.each (slice_index c.args.places.now c.loop-y.y) (omega (arith, place, many))).last

pub loop-y-preserved : goal.loop-y-preserved
loop-y-preserved c =
    let i = c.loop-y.invariant in
    let place = slice_index c.args.places.now c.loop-y.y in
    let n = subst (λ (t : ℕ). IsNoted c.loop-y.rows.items c.loop-y.links.items place c.args.j t c.note.new.rows.items c.note.new.links.items) c.thread_at-thread.ensures c.note.ensures.noted in
    let more = noted_more c.args.run.now c.args.j c.loop-y.y c.args.rows.now.items c.loop-y.rows.items c.note.new.rows.items c.loop-y.links.items c.note.new.links.items c.args.places.now
    i.partly c.requires.places i.keys c.loop-y-test.true n i.noted in
    record {
      partly = more.0;
      keys = more.1;
      noted = more.2;
      longer = longer_more c.args.links.now.items c.loop-y.links.items c.note.new.links.items (record { step = c.args.j; before = n.before }) i.longer n.linked;
      long = let one = c.note.ensures.one in let long = i.long in omega (arith, one, long);
      room = let same = c.note.ensures.room in let room = i.room in omega (arith, same, room);
    }

pub returns-clause-rows : goal.returns-clause-rows
returns-clause-rows c =
    let i = c.loop-y.invariant in
    partly_ends c.args.run.now c.args.j c.args.rows.now.items c.loop-y.rows.items c.loop-y.links.items c.args.places.now i.partly c.requires.places i.keys (λ z lt. i.noted z (omega (arith, lt)))
