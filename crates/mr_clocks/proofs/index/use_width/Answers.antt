use Rattle.mr_clocks.proofs.Common.{◌≡◌, ◌<◌, List, length, refl, subst, ◌∙◌, sym, arith, Shelf, AreKept, IsOnShelf, shelf_at}
use Rattle.mr_clocks.proofs.MarkLaws.{all_kept_here, kept_push, on_new_shelf, on_shelf}
use Rattle.mr_clocks.proofs.index.use_width.Goals as goal

pub returns-clause-kept : goal.returns-clause-kept
returns-clause-kept c = kept_push c.args.shelves.now.items c.push.new.self.items (record { width = c.width_of.result; stores = c.args.range.store }) c.in_ok-push.ensures.items

pub returns-in_err-push-clause-kept : goal.returns-in_err-push-clause-kept
returns-in_err-push-clause-kept c = subst (λ (l : List Shelf). AreKept c.args.shelves.now.items l) (sym c.in_err-push.ensures.items) (all_kept_here c.args.shelves.now.items)

pub returns-in-Some-clause-kept : goal.returns-in-Some-clause-kept
returns-in-Some-clause-kept c = all_kept_here c.args.shelves.now.items

pub returns-clause-placed : goal.returns-clause-placed
returns-clause-placed c =
    let new = c.push.new.self.items in
    subst (λ s. IsOnShelf new c.args.range s) (sym (c.len-s.ensures ∙ c.args.shelves.now.ok.0))
    (on_new_shelf c.args.shelves.now.items new c.args.range (record { width = c.width_of.result; stores = c.args.range.store }) c.in_ok-push.ensures.items c.width_of.ensures refl (omega arith))

pub returns-in-Some-clause-placed : goal.returns-in-Some-clause-placed
returns-in-Some-clause-placed c =
    let shelf : Shelf = record { width = c.width_of.result; stores = c.args.range.store } in
    let shelves = c.args.shelves.now.items in
    let here = subst (λ (l : List Shelf). (c.in-Some.s < length l) × (shelf_at l c.in-Some.s ≡ shelf)) c.as_slice.ensures.value c.in-Some.ensures in
    on_shelf shelves c.args.range c.in-Some.s shelf here.0 here.1 c.width_of.ensures refl (omega arith)
