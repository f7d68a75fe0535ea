-- When a link keeps clear of a mark.
use Rattle.std.specs.Prelude.{ℕ, ◌+◌, ◌<◌, ◌⊎◌, max, min}
use Rattle.mr_svg.specs.declared.shape.Point.{Point}
use Rattle.mr_svg.specs.declared.shape.Shape.{Shape}
use Rattle.mr_svg.specs.declared.shape.Shape.TheVariants.{Bend}

-- a point is apart from the box of two others: more than 8 to the left of it, to the right, above or below
abbrev pub IsApart : Point → Point → Point → Type 0
IsApart at p q =
    (at.x + 8 < min p.x q.x) ⊎ (max p.x q.x + 8 < at.x) ⊎ (at.y + 8 < min p.y q.y) ⊎ (max p.y q.y + 8 < at.y)

-- A WAY WITH A CORNER KEEPS CLEAR of a point: the boxes of its four parts do. No mark of a step reaches further than 8
-- from its place
abbrev pub IsClearOf : Point → Shape → Type 0
IsClearOf at (Bend from corner come to) =
    IsApart at from corner.before × IsApart at corner.before corner.behind × IsApart at corner.behind come
    × IsApart at come to
IsClearOf at _ = ⊥
