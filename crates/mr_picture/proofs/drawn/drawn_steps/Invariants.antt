use Rattle.mr_picture.proofs.Common.{◌≡◌, take, seen, drawn_steps}
use Rattle.mr_picture.proofs.drawn.drawn_steps.Given as goal

-- the drawn ones before this one are told
abbrev pub invariant-loop-told : goal.invariant-loop-told
invariant-loop-told l = l.drawn.items ≡ drawn_steps (seen l.shown) l.values l.span (take l.told-index l.steps)
