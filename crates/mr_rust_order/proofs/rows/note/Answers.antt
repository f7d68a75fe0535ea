use Rattle.mr_rust_order.proofs.Common.{List, [], ◌∷◌, refl, sym, ap, ◌∙◌, subst, arith, Access, Row, AreMarked, IsPlaceFor, IsPut}
use Rattle.mr_rust_order.proofs.RowLaws.{place_range, put_push, put_set}
use Rattle.mr_rust_order.proofs.rows.note.Goals as goal

pub place_for-requires : goal.place_for-requires
place_for-requires c = subst (AreMarked c.args.index.now.shelves.items c.args.index.now.marks.keys) (sym c.as_slice.ensures.value) c.requires

pub returns-then-x-len : goal.returns-then-x-len
returns-then-x-len c =
    let shelves = c.place_for.new.index.shelves.items in
    let marks = c.place_for.new.index.marks.keys in
    let old = c.args.rows.now.items in
    let x = c.in_ok-x.x in
    let clock = c.args.clock.now in
    let row = c.renew.new.row in
    let place = subst (λ (l : List Row). IsPlaceFor shelves marks l c.args.range clock x) c.as_slice.ensures.value c.in_ok-x.ensures.place in
    let marked = subst (AreMarked shelves marks) c.as_slice.ensures.value c.in_ok-x.ensures.marked in
    let of = place_range shelves marks old c.args.range clock x c.index_mut-row.result.now place (omega arith) c.index_mut-row.ensures.value in
    let put = subst (λ (r : Access). IsPut (r ∷ []) c.args.thread c.args.j clock row) of c.in_ok-renew.ensures.put in
    let both = put_set shelves marks old c.args.range c.args.thread c.args.j x clock row put (c.in_ok-renew.ensures.range ∙ of) place (omega arith) marked in
    record { marked = both.1; noted = both.0 }

pub returns : goal.returns
returns c =
    let shelves = c.place_for.new.index.shelves.items in
    let marks = c.place_for.new.index.marks.keys in
    let old = c.args.rows.now.items in
    let clock = c.args.clock.now in
    let row : Row = record { range = c.args.range; thread = c.args.thread; last = c.args.j; clock = c.keep_clock.new.kept } in
    let put : IsPut (c.args.range ∷ []) c.args.thread c.args.j clock row = record { made = (0, omega arith, refl); of_thread = refl; last = refl; kept = c.in_ok-keep_clock.ensures } in
    let place = subst (λ (l : List Row). IsPlaceFor shelves marks l c.args.range clock c.in_ok-x.x) c.as_slice.ensures.value c.in_ok-x.ensures.place in
    let marked = subst (AreMarked shelves marks) c.as_slice.ensures.value c.in_ok-x.ensures.marked in
    let both =
    put_push shelves marks old c.push.new.self.items c.args.range c.args.thread c.args.j c.in_ok-x.x clock row put refl place (omega arith) c.in_ok-push.ensures.items marked in
    record { marked = both.1; noted = both.0 }
