use Rattle.mr_mem.proofs.Common.{sym, subst, Some, IsFree, Puts, Taken}
use Rattle.mr_mem.proofs.SpanLaws.{apart_added, puts_from}
use Rattle.mr_mem.proofs.spans.Spans.add.Goals as goal

pub invariant_of-self-2 : goal.invariant_of-self-2
invariant_of-self-2 c =
    let es = c.self.inside.by_start.entries in
    let fs = c.insert.new.self.entries in
    let h = c.in_ok-insert.ensures.updates in
    let free : IsFree es c.args.start c.args.span.size = subst (λ (taken : Taken). IsFree taken c.args.start c.args.span.size) (sym c.self.view_is) c.requires.free in
    apart_added es fs c.args.start c.args.span c.self.invariant c.requires.filled free (puts_from es fs c.args.start (Some c.args.span) h.1 h.2)

pub returns-clause-ok : goal.returns-clause-ok
returns-clause-ok c =
    let es = c.self.inside.by_start.entries in
    let fs = c.insert.new.self.entries in
    let h = c.in_ok-insert.ensures.updates in
    subst (λ (taken : Taken). Puts taken c.args.start (Some c.args.span) fs) c.self.view_is (puts_from es fs c.args.start (Some c.args.span) h.1 h.2)
