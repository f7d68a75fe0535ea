use Rattle.mr_clocks.proofs.Common.{ℕ, ◌+◌, List, length, slice_index, ap, subst, arith, IsNumbered}
use Rattle.mr_clocks.proofs.Kept.{clocks_made}
use Rattle.mr_clocks.proofs.Parts.{made_some}
use Rattle.mr_clocks.proofs.SkipLaws.{skips_more}
use Rattle.mr_clocks.proofs.adding.enter.Goals as goal

pub numbered-number-requires-clause-step : goal.numbered-number-requires-clause-step
numbered-number-requires-clause-step c = omega (arith, c.requires.next, c.requires.clocks.all, ap length c.as_slice.ensures.value)

pub numbered-number-requires-clause-within : goal.numbered-number-requires-clause-within
numbered-number-requires-clause-within c = λ p e.
    let within = c.requires.clocks.within p (omega (arith, e, c.requires.next)) in
    let same = ap (λ (l : List ℕ). slice_index l p) c.as_slice.ensures.value in
    omega (arith, within, same)

pub numbered-number-requires-clause-some : goal.numbered-number-requires-clause-some
numbered-number-requires-clause-some c = made_some c.args.run.now c.args.clocks.now.items c.args.numbers.now.items c.args.next c.args.j c.args.made c.requires.made

pub returns-clause-clocks : goal.returns-clause-clocks
returns-clause-clocks c =
    clocks_made c.args.run.now c.args.j c.args.next c.args.clocks.now.items c.numbered-number.new.clocks.items c.args.numbers.now.items c.push_reserved.new.self.items c.args.made c.numbered-number.result
    c.requires.clocks c.requires.made
    (subst (λ (l : List ℕ). IsNumbered c.args.clocks.now.items l c.args.next c.args.made c.numbered-number.result c.numbered-number.new.clocks.items) c.as_slice.ensures.value c.numbered-number.ensures)
    c.push_reserved.ensures.items

pub returns-clause-skips : goal.returns-clause-skips
returns-clause-skips c =
    let run = c.args.run.now in
    let links = c.args.links.now.items in
    let new = c.note_all.new.links.items in
    c.store_all.ensures run (c.args.j + 1) new
    (skips_more run c.args.j links new c.args.skips.now.items c.requires.rows.chained c.note_all.ensures.longer c.requires.skips)
    (skips_more run c.args.j links new c.args.left.items c.requires.rows.chained c.note_all.ensures.longer c.requires.left)
