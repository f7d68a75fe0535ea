-- The races of a run by two orders, as they are written: by pairs of places, those of Rust's list first.
use Rattle.std.specs.Prelude.{ℕ, ◌==◌, if◌then◌else◌, Bool, true, false, List, [], ◌++◌, count_by, drop, flat_map}
use Rattle.std.specs.Prelude.{length, take}
use Rattle.std.specs.List.{filter}
use Rattle.mr_rust_order.specs.Tests.{rust_races}
use Rattle.mr_listing.specs.declared.pairs.Group.{Group}
use Rattle.mr_listing.specs.Races.{group_line, ranked, same_places}
use Rattle.mr_listing.specs.Seen.{Seen}
use Rattle.mr_two_orders.specs.Standing.{head_line, machine_line, rust_line}

-- a run with the races that it has by Rust's order
abbrev pub by_rust : Seen → Seen
by_rust s = record s { races = rust_races s.feet }

-- how many races of a list are of the places of a group
abbrev pub count_in : Seen → Group → ℕ
count_in s g = count_by (same_places s g.first) s.races

-- a group of Rust's list: the races at two places, and below them how the machine's list stands to them
abbrev pub rust_text : Bool → Seen → Group → List ℕ
rust_text told s g = group_line s g ++ rust_line told s.feet s.races g (count_in s g)

-- whether Rust's list has no race of the places of a group
abbrev pub is_alone : Seen → Group → Bool
is_alone s g = count_in (by_rust s) g == 0

-- a group of the machine's list, where Rust's has none at its places
abbrev pub machine_text : Seen → Group → List ℕ
machine_text s g =
    if is_alone s g then group_line s g ++ machine_line (rust_races s.feet) g.first else []

-- the groups of Rust's list, of which the first eight tell why the machine's list hasn't theirs
abbrev pub rust_texts : Seen → List Group → List ℕ
rust_texts s groups = flat_map (rust_text true s) (take 8 groups) ++ flat_map (rust_text false s) (drop 8 groups)

-- how many races and groups there are, the groups of Rust's list, and those that the machine's list has alone
abbrev pub groups_text : Seen → List Group → List Group → List ℕ
groups_text s rust machine =
    head_line (length (rust_races s.feet)) (length rust) (length s.races) (length machine)
    ++ rust_texts s rust ++ flat_map (machine_text s) machine

-- THE RACES OF A RUN BY TWO ORDERS: of both lists the groups with most races stand first
abbrev pub two_orders_text : Seen → List ℕ
two_orders_text s = groups_text s (ranked (by_rust s)) (ranked s)

-- the groups that are told: those of Rust's list, and those of the machine's that it has alone
abbrev pub told_groups : Seen → List Group
told_groups s = ranked (by_rust s) ++ filter (is_alone s) (ranked s)
