use Rattle.mr_mem.proofs.Common.{ap, ◌∙◌, sym, subst, refl, IsSome, option_map, option_copied_mut, put_at, allocation_of, memory_of}
use Rattle.mr_runs.specs.Numbers.{with_provenance}
use Rattle.mr_mem.proofs.PutLaws.{put_refused, put_stored}
use Rattle.mr_mem.proofs.Views.{get_view}
use Rattle.mr_mem.proofs.ranges.put_numbers.Goals as goal

pub returns-in-Some-clause-stored : goal.returns-in-Some-clause-stored
returns-in-Some-clause-stored c =
    let es = c.args.allocations.now.entries in
    let x = c.put_numbers_into.new.a in
    let here = c.in-Some.ensures.value in
    put_stored es (c.get_mut.follows.lender x).entries c.args.id c.in-Some.a.now x (sym here) ((c.get_mut.follows.holds x).3 (subst IsSome here refl)).0 c.args.addr (with_provenance c.args.provenance c.args.numbers.now) c.put_numbers_into.result c.put_numbers_into.ensures.stored

pub returns-in-Some-clause-err : goal.returns-in-Some-clause-err
returns-in-Some-clause-err c =
    let es = c.args.allocations.now.entries in
    let x = c.put_numbers_into.new.a in
    let here = c.in-Some.ensures.value in
    put_refused es (c.get_mut.follows.lender x).entries c.args.id c.in-Some.a.now x (sym here) ((c.get_mut.follows.holds x).3 (subst IsSome here refl)).0 c.put_numbers_into.result c.put_numbers_into.ensures.err

pub returns-in-None-clause-stored : goal.returns-in-None-clause-stored
returns-in-None-clause-stored c =
    let es = c.args.allocations.now.entries in
    ap (λ o. put_at (memory_of es) c.args.id o c.args.addr (with_provenance c.args.provenance c.args.numbers.now))
    (get_view es c.args.id ∙ ap (option_map allocation_of) (sym c.get_mut.ensures.value ∙ ap (λ o. option_copied_mut o) c.in-None.is))
