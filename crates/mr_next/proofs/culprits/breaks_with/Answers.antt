use Rattle.mr_next.proofs.Common.{ap, false, sym, ◌∙◌, ◌==◌, Fault, program_fault, is_of_pick}
use Rattle.std.specs.Option.{option_map_or}
use Rattle.mr_auto.proofs.Nexts.{weaker}
use Rattle.mr_next.proofs.CulpritLaws.{still_broken}
use Rattle.mr_next.proofs.culprits.breaks_with.Goals as goal

pub is_broken-requires-clause-refused : goal.is_broken-requires-clause-refused
is_broken-requires-clause-refused c =
    let m = c.args.machine.now in
    let (f, is, code) = c.requires.broken in
    let s = still_broken m.look m.config c.args.entry.now c.args.count f is (ap is_of_pick code ∙ c.requires.of_pick) in
    (s.broken, ap (program_fault m.look m.config) c.in_ok-tried.ensures ∙ s.is)

pub returns-clause-breaks : goal.returns-clause-breaks
returns-clause-breaks c =
    let m = c.args.machine.now in
    let (f, is, code) = c.requires.broken in
    let s = still_broken m.look m.config c.args.entry.now c.args.count f is (ap is_of_pick code ∙ c.requires.of_pick) in
    weaker c.is_broken.result _ _
    (λ b h. h s.broken (ap (program_fault m.look m.config) c.in_ok-tried.ensures ∙ s.is) ∙ sym (ap (λ o. option_map_or (λ (g : Fault). g.code == c.args.code) o false) s.is))
    c.is_broken.ensures.broken
