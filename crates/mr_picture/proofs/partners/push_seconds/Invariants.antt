use Rattle.mr_picture.proofs.Common.{◌≡◌, ◌++◌, flat_map, take, filter}
use Rattle.mr_picture.specs.Partners.{is_first, second_text}
use Rattle.mr_picture.proofs.partners.push_seconds.Given as goal

-- the races before this one are told
abbrev pub invariant-loop-race : goal.invariant-loop-race
invariant-loop-race l =
    l.out.items ≡ l.fn.out.items ++ flat_map second_text (filter (is_first l.step) (take l.race-index l.races))
