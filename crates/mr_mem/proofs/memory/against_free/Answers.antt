use Rattle.mr_mem.proofs.Common.{ap, ◌∙◌, sym, option_map, refusal, allocation_of}
use Rattle.mr_mem.proofs.Views.{get_view}
use Rattle.mr_mem.proofs.memory.against_free.Goals as goal

pub returns-in-None : goal.returns-in-None
returns-in-None c =
    sym (ap (λ o. refusal o c.args.addr c.args.kind c.args.size c.args.align) (get_view c.args.allocations.now.entries c.args.id ∙ ap (option_map allocation_of) (sym c.in-None.ensures.value)))

pub returns-in-Some : goal.returns-in-Some
returns-in-Some c =
    c.fault_of_free.ensures
    ∙ sym (ap (λ o. refusal o c.args.addr c.args.kind c.args.size c.args.align) (get_view c.args.allocations.now.entries c.args.id ∙ ap (option_map allocation_of) (sym c.in-Some.ensures.value)))
