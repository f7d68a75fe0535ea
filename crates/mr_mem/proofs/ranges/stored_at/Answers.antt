use Rattle.mr_mem.proofs.Common.{ap, ◌∙◌, sym, option_map, found, allocation_of, memory_of}
use Rattle.mr_mem.proofs.Views.{get_view}
use Rattle.mr_mem.proofs.ranges.stored_at.Goals as goal

pub returns-in-Some : goal.returns-in-Some
returns-in-Some c =
    let es = c.args.allocations.now.entries in
    ap (option_map allocation_of) c.get.ensures.value ∙ sym (get_view es c.in-Some.id) ∙ sym (ap (found (memory_of es)) c.in-Some.is)
