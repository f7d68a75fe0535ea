use Rattle.mr_mem.proofs.Common.{ap, ◌∙◌, sym, subst, refl, false, IsSome, option_map, option_copied_mut, Stored, without_life, allocation_of, memory_of}
use Rattle.mr_mem.proofs.Views.{get_view, one_changed}
use Rattle.mr_mem.proofs.memory.end_life.Goals as goal

pub returns-in-Some : goal.returns-in-Some
returns-in-Some c =
    let a = c.in-Some.a.now in
    let dead : Stored = record { addr = a.addr; span = a.span; align = a.align; kind = a.kind; live = false; bytes = a.bytes } in
    let es = c.args.allocations.now.entries in
    let here = c.in-Some.ensures.value in
    one_changed es (c.get_mut.follows.lender dead).entries c.args.id dead ((c.get_mut.follows.holds dead).3 (subst IsSome here refl)).0
    ∙ sym (ap (without_life (memory_of es) c.args.id) (get_view es c.args.id ∙ ap (option_map allocation_of) (sym here)))

pub returns-in_default : goal.returns-in_default
returns-in_default c =
    let es = c.args.allocations.now.entries in
    ap (λ m. memory_of m.entries) c.get_mut.follows.holds-at-none
    ∙ sym (ap (without_life (memory_of es) c.args.id) (get_view es c.args.id ∙ ap (option_map allocation_of) (sym c.get_mut.ensures.value ∙ ap (λ o. option_copied_mut o) c.in_default.is)))
