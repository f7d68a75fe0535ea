use Rattle.mr_sched.proofs.Common.{sym, ◌∙◌, parts_at}
use Rattle.mr_sched.proofs.FirstLines.{lines_schedule-line}
use Rattle.mr_sched.proofs.Parts.{parts_at-first}
use Rattle.mr_sched.proofs.reading.read_lines.Goals as goal

pub returns : goal.returns
returns c =
    let parts = rw c.in-Some.is at c.cut.ensures.parts in
    let found = sym c.version_of.ensures ∙ c.in-Some-version_of.is in
    rw (parts, lines_schedule-line c.cut.result.0.now (parts_at 10 c.in-Some.rest.now) (parts_at-first 10 c.in-Some.rest.now), found) c.read_body.ensures
