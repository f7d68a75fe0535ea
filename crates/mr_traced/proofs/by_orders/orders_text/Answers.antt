use Rattle.mr_traced.proofs.Common.{subst, sym, seen}
use Rattle.mr_two_orders.specs.Pairs.{IsRising}
use Rattle.mr_two_orders.proofs.PairLaws.{predicted_rises, rust_rises}
use Rattle.mr_traced.proofs.by_orders.orders_text.Goals as goal

pub bare_orders-requires-clause-rust : goal.bare_orders-requires-clause-rust
bare_orders-requires-clause-rust c = subst IsRising (sym c.requires.rust) (rust_rises (seen c.args.shown.now).run)

pub bare_orders-requires-clause-machine : goal.bare_orders-requires-clause-machine
bare_orders-requires-clause-machine c =
    subst IsRising (sym c.requires.machine) (predicted_rises (seen c.args.shown.now).run)

pub placed_text-requires-clause-rising : goal.placed_text-requires-clause-rising
placed_text-requires-clause-rising c =
    subst IsRising (sym c.requires.machine) (predicted_rises (seen c.args.shown.now).run)
