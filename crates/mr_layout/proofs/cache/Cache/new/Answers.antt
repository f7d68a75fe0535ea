use Rattle.mr_layout.proofs.Common.{◌∙◌, arith}
use Rattle.mr_layout.specs.Written.{written_types}
use Rattle.mr_layout.proofs.CacheLaws.{ok_item, next_item, all_items}
use Rattle.mr_layout.proofs.cache.Cache.new.Goals as goal

pub add-requires : goal.add-requires
add-requires c =
    ok_item c.as_slice-t-items.result.now (written_types c.args.p.now) c.loop-t.t-index c.t-item.result (c.as_slice-t-items.ensures ∙ c.in_ok-found.ensures) c.requires (omega arith) c.t-item.is

pub loop-t-preserved : goal.loop-t-preserved
loop-t-preserved c =
    next_item c.as_slice-t-items.result.now c.loop-t.cache c.add.new.self c.loop-t.t-index c.t-item.result (omega arith) c.t-item.is c.loop-t.invariant c.in_ok-add.ensures

pub returns : goal.returns
returns c =
    all_items c.as_slice-t-items.result.now c.loop-t.cache (written_types c.args.p.now) c.loop-t.t-index (omega arith) (c.as_slice-t-items.ensures ∙ c.in_ok-found.ensures) c.loop-t.invariant
