use Rattle.mr_clocks.proofs.Common.{◌∙◌, ◌∷◌, [], length, length-append, ap, arith, IsRowFor}
use Rattle.mr_clocks.proofs.MarkLaws.{any_default, grown_same, grown_trans}
use Rattle.mr_clocks.proofs.Noting.{places_more}
use Rattle.mr_clocks.proofs.index.places_for.Goals as goal

pub loop-i-init : goal.loop-i-init
loop-i-init c = record {
  marked = c.requires;
  grown = grown_same c.args.rows.now.items;
  many = ap length c.new-places.ensures.items;
  rows = λ z d lt. absurd (omega (arith, lt));
}

pub loop-i-preserved : goal.loop-i-preserved
loop-i-preserved c =
    let i = c.loop-i.invariant in
    let new = c.place_for.new.rows.items in
    let place = c.in_ok-place.place in
    record {
      marked = c.in_ok-place.ensures.marked;
      grown = grown_trans c.args.rows.now.items c.loop-i.rows.items new i.grown c.in_ok-place.ensures.grown;
      many = let n = i.many in let long = ap length c.in_ok-push.ensures.items ∙ length-append c.loop-i.places.items (place ∷ []) in omega (arith, n, long);
      rows = places_more c.loop-i.rows.items new c.loop-i.places.items c.push.new.self.items c.args.keys.now c.args.thread c.loop-i.i place i.many c.in_ok-place.ensures.grown i.rows
          (λ d. any_default (λ k. IsRowFor new place k c.args.thread) c.args.keys.now c.loop-i.i d _ c.loop-i-test.true c.in_ok-place.ensures.row) c.in_ok-push.ensures.items;
    }
