-- When two accesses overlap, conflict and race. (FastTrack: races; the profile's rule on atomic accesses.)
use Rattle.std.specs.Prelude.{List, Bool, not, ◌&&◌, ◌||◌}
use Rattle.std.specs.List.{list_any}
use Rattle.mr_base.specs.declared.access.Access.{Access}
use Rattle.mr_base.specs.Pairs.{is_meeting}

-- whether some byte belongs to both
abbrev pub overlaps : Access → Access → Bool
overlaps a b = is_meeting a.addr a.len b.addr b.len

-- whether they overlap, and at least one of them stores
abbrev pub conflicts : Access → Access → Bool
conflicts a b = (a.store || b.store) && overlaps a b

-- whether they conflict, and at least one of them is not atomic
abbrev pub races : Access → Access → Bool
races a b = (not a.atomic || not b.atomic) && conflicts a b

-- whether some access of the one list conflicts with some access of the other
unfoldable pub some_conflict : List Access → List Access → Bool
some_conflict xs ys = list_any (λ x. list_any (conflicts x) ys) xs

-- whether some access of the one list races with some access of the other
unfoldable pub some_race : List Access → List Access → Bool
some_race xs ys = list_any (λ x. list_any (races x) ys) xs
