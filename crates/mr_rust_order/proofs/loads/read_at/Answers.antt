use Rattle.mr_rust_order.proofs.Common.{arith, on_ok_weaker, IsLatestStore, takes, Passes, Row}
use Rattle.mr_rust_order.proofs.LoadLaws.{latest_taken, none_latest, taken_latest}
use Rattle.mr_rust_order.proofs.TopLaws.{joined_none, joined_same}
use Rattle.mr_rust_order.proofs.loads.read_at.Goals as goal

pub returns-then-plain-latest : goal.returns-then-plain-latest
returns-then-plain-latest c =
    let rows = c.args.rows.now in
    joined_none rows (IsLatestStore rows c.args.byte) c.args.clock.now
    (λ x l. none_latest rows c.args.byte c.latest_at-latest.result c.latest_at-plain.result x c.latest_at-latest.ensures c.latest_at-plain.ensures (omega arith) l)

pub returns : goal.returns
returns c =
    let rows = c.args.rows.now in
    let byte = c.args.byte in
    let latest = c.latest_at-latest.result in
    let plain = c.latest_at-plain.result in
    on_ok_weaker c.take_all.result
    (λ j.
    joined_same rows (Passes rows (λ (r : Row). takes r byte latest)) (IsLatestStore rows byte) c.args.clock.now c.take_all.new.clock
    (λ x p. taken_latest rows byte latest plain x c.latest_at-latest.ensures c.latest_at-plain.ensures (omega arith) p)
    (λ x l. latest_taken rows byte latest x c.latest_at-latest.ensures l) j)
    c.take_all.ensures
