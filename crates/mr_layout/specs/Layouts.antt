-- The layout of a type, and when the layouts that are kept are those of their types.
use Rattle.std.specs.Prelude.{◌≡◌, List, map, All}
use Rattle.std.specs.Borrow.{Bor}
use Rattle.mr_ast.specs.declared.types.Ty.{Ty}
use Rattle.mr_layout.specs.declared.cache.Layout.{Layout}
use Rattle.mr_layout.specs.Sizes.{size_of, align_of, is_inhabited}

-- the size, the alignment and the inhabitedness that are defined for a type
abbrev pub layout_of : Ty → Layout
layout_of t = record { size = size_of t; align = align_of t; inhabited = is_inhabited t }

-- the types of some entries
abbrev pub held_types : List (Bor Ty × Layout) → List Ty
held_types entries = map (λ (e : Bor Ty × Layout). e.0.now) entries

-- each entry has the layout of its type
abbrev pub AreDefined : List (Bor Ty × Layout) → Type 0
AreDefined entries = All (λ (e : Bor Ty × Layout). e.1 ≡ layout_of e.0.now) entries
