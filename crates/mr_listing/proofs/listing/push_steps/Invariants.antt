use Rattle.mr_listing.proofs.Common.{◌≡◌, ◌++◌, flat_map, take, seen}
use Rattle.mr_listing.specs.Steps.{step_text}
use Rattle.mr_listing.proofs.listing.push_steps.Given as goal

-- the steps before this one have their lines
abbrev pub invariant-loop-told : goal.invariant-loop-told
invariant-loop-told l =
    l.out.items ≡ l.fn.out.items ++ flat_map (step_text (seen l.shown) l.values) (take l.told-index l.steps)
