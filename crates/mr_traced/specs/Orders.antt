-- The races of a trace by two orders, as they are written: by pairs of places, those of Rust's list first; or, without
-- places, race by race.
use Rattle.std.specs.Prelude.{◌≡◌, ℕ, ◌==◌, if◌then◌else◌, Bool, true, false, List, [], ◌∷◌, ◌++◌, count_by, drop}
use Rattle.std.specs.Prelude.{flat_map, length, take}
use Rattle.mr_rust_order.specs.Tests.{rust_races}
use Rattle.mr_listing.specs.declared.pairs.Group.{Group}
use Rattle.mr_listing.specs.Races.{by_count}
use Rattle.mr_two_orders.specs.Bare.{bare_orders}
use Rattle.mr_two_orders.specs.Pairs.{either}
use Rattle.mr_two_orders.specs.Standing.{head_line, machine_line, rust_line}
use Rattle.mr_traced.specs.declared.form.Site.{Site}
use Rattle.mr_traced.specs.Groups.{both_of, groups, is_at}
use Rattle.mr_traced.specs.Races.{group_text}
use Rattle.mr_traced.specs.Seen.{Seen}

-- a trace with the races that it has by Rust's order
abbrev pub by_rust : Seen → Seen
by_rust s = record s { races = rust_races s.run }

-- the groups, those with most races first, and of those with as many the one with the lower numbers of places
abbrev pub in_order : Seen → List Group
in_order s = by_count (length s.races) (groups s)

-- how many races of a list are of the places of a group
abbrev pub count_in : Seen → Group → ℕ
count_in s g = count_by (is_at s (both_of s g.first)) s.races

-- a group of Rust's list, and below it how the machine's list stands to it
abbrev pub rust_text : Bool → Seen → Group → List ℕ
rust_text told s g = group_text s g ++ rust_line told s.run s.races g (count_in s g)

-- a group of the machine's list, where Rust's has none at its places
abbrev pub machine_text : Seen → Group → List ℕ
machine_text s g =
    if count_in (by_rust s) g == 0 then group_text s g ++ machine_line (rust_races s.run) g.first else []

-- the groups of Rust's list, of which the first eight tell why the machine's list hasn't theirs
abbrev pub rust_texts : Seen → List Group → List ℕ
rust_texts s groups = flat_map (rust_text true s) (take 8 groups) ++ flat_map (rust_text false s) (drop 8 groups)

-- how many races and groups there are, the groups of Rust's list, and those that the machine's list has alone
abbrev pub groups_text : Seen → List Group → List Group → List ℕ
groups_text s rust machine =
    head_line (length (rust_races s.run)) (length rust) (length s.races) (length machine)
    ++ rust_texts s rust ++ flat_map (machine_text s) machine

abbrev pub placed_text : Seen → List ℕ
placed_text s = groups_text s (in_order (by_rust s)) (in_order s)

-- at these sites: without any the races stand one by one
abbrev pub sites_text : Seen → List Site → List ℕ
sites_text s [] = bare_orders s.run (rust_races s.run) s.races
sites_text s (site ∷ sites) = placed_text s

-- THE RACES OF A TRACE BY TWO ORDERS
abbrev pub orders_text : Seen → List ℕ
orders_text s = sites_text s s.sites

abbrev pub IsOrdersText : Seen → List ℕ → Type 0
IsOrdersText s text = text ≡ orders_text s

-- how many races the first list has that has some
abbrev pub count_either : Seen → ℕ
count_either s = length (either (rust_races s.run) s.races)
