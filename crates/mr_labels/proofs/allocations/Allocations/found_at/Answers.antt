use Rattle.mr_labels.proofs.Common.{◌∙◌, ap, is_apart, found_at}
use Rattle.mr_labels.proofs.IndexLaws.{found_in_index}
use Rattle.mr_labels.proofs.allocations.Allocations.found_at.Goals as goal

pub searched-requires : goal.searched-requires
searched-requires c = ap (is_apart 0) c.as_slice.ensures.value ∙ (c.self.invariant c.if-self.true).apart

pub returns-then-self : goal.returns-then-self
returns-then-self c =
    c.searched.ensures ∙ ap (found_at c.args.addr) c.as_slice.ensures.value
    ∙ found_in_index c.args.addr c.self.inside.rows.items c.self.inside.index.items (c.self.invariant c.if-self.true)
    ∙ ap (found_at c.args.addr) c.self.view_is
