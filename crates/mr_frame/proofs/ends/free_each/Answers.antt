use Rattle.mr_frame.proofs.Common.{None, ◌∙◌, arith, get_or, world_of, unstored, freed_each}
use Rattle.mr_frame.proofs.EndLaws.{found_freed, freed_end, freed_step, freed_stop}
use Rattle.mr_frame.proofs.ToldLaws.{told_stop}
use Rattle.mr_frame.proofs.ends.free_each.Goals as goal

-- what is freed there, by the local that was found
pub loop-k-preserved : goal.loop-k-preserved
loop-k-preserved c =
    let ls = c.args.locals.now in
    let st = c.args.storage.now in
    let k = c.loop-k.k in
    let d = c.index-locals-k.result in
    let w = world_of c.loop-k.s in
    let same = c.requires.len in
    c.loop-k.invariant
    ∙ freed_step ls st k d None c.loop-k-test.true (omega (arith, same, c.loop-k-test.true)) w (world_of c.release.new.s)
    (found_freed ls st k d w c.byte_size.result c.byte_align.result c.index-locals-k.is c.byte_size.ensures c.byte_align.ensures.is ∙ c.in-Ok.ensures)

pub returns-in-Err : goal.returns-in-Err
returns-in-Err c =
    let ls = c.args.locals.now in
    let st = c.args.storage.now in
    let k = c.loop-k.k in
    let d = c.index-locals-k.result in
    let w = world_of c.loop-k.s in
    let same = c.requires.len in
    told_stop c.in-Err.fault (unstored (get_or st k None) c.byte_size.result c.byte_align.result w) (freed_each ls st (world_of c.args.s.now)) (world_of c.release.new.s) (world_of c.release.new.s) c.release.new.s.notes.refused c.in-Err.ensures
    (λ r e. c.loop-k.invariant
    ∙ freed_stop ls st k d None c.loop-k-test.true (omega (arith, same, c.loop-k-test.true)) w r
    (found_freed ls st k d w c.byte_size.result c.byte_align.result c.index-locals-k.is c.byte_size.ensures c.byte_align.ensures.is ∙ e))

pub returns : goal.returns
returns c =
    let same = c.requires.len in
    c.loop-k.invariant ∙ freed_end c.args.locals.now c.args.storage.now c.loop-k.k (world_of c.loop-k.s) (omega (arith, c.loop-k-test.false)) (omega (arith, same, c.loop-k-test.false))
