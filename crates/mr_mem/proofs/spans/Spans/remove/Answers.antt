use Rattle.mr_mem.proofs.Common.{subst, None, Puts, Taken}
use Rattle.mr_mem.proofs.SpanLaws.{apart_removed, puts_from}
use Rattle.mr_mem.proofs.spans.Spans.remove.Goals as goal

pub invariant_of-self : goal.invariant_of-self
invariant_of-self c =
    let es = c.self.inside.by_start.entries in
    let fs = c.remove.new.self.entries in
    let h = c.remove.ensures.updates in
    apart_removed es fs c.args.start c.self.invariant (puts_from es fs c.args.start None h.1 h.2)

pub returns : goal.returns
returns c =
    let es = c.self.inside.by_start.entries in
    let fs = c.remove.new.self.entries in
    let h = c.remove.ensures.updates in
    subst (λ (taken : Taken). Puts taken c.args.start None fs) c.self.view_is (puts_from es fs c.args.start None h.1 h.2)
