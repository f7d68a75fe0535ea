use Rattle.mr_mem.proofs.Common.{subst, IsLeast, IsOverlapped, Taken}
use Rattle.mr_mem.proofs.SpanLaws.{none_overlapped}
use Rattle.mr_mem.proofs.spans.Spans.least_overlapped.Goals as goal

pub returns-then-size-eq0 : goal.returns-then-size-eq0
returns-then-size-eq0 c = none_overlapped c.args.self.now c.args.addr c.args.size c.if-size-eq0.true

pub returns : goal.returns
returns c =
    subst (λ (taken : Taken). IsLeast (IsOverlapped taken c.args.addr c.args.size) c.least_shared.result) c.self.view_is c.least_shared.ensures
