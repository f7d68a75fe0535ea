use Rattle.mr_wf.proofs.Common.{◌≡◌, drop, map, ty_of, match_element, surroundings_of, HasType}
use Rattle.mr_wf.proofs.alike.match_element.Given as goal

abbrev pub invariant-loop-i : goal.invariant-loop-i
invariant-loop-i l =
    (match_element l.elem (map ty_of l.types) ≡ match_element l.elem (map ty_of (drop l.i l.types)))
    × HasType (surroundings_of l.at) l.last l.elem
