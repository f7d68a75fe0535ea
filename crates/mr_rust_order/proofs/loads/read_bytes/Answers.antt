use Rattle.mr_rust_order.proofs.Common.{arith}
use Rattle.mr_rust_order.proofs.AccessLaws.{byte_to}
use Rattle.mr_rust_order.proofs.LoadLaws.{bytes_all, bytes_more, bytes_none, found_at}
use Rattle.mr_rust_order.proofs.loads.read_bytes.Goals as goal

pub loop-byte-init : goal.loop-byte-init
loop-byte-init c = record { low = omega arith; high = omega arith; joined = bytes_none c.args.rows.now c.args.access _ c.args.clock.now (omega arith) }

pub read_at-requires-clause-found : goal.read_at-requires-clause-found
read_at-requires-clause-found c =
    let low = c.loop-byte.invariant.low in
    found_at c.args.rows.now c.args.access c.args.found.now c.loop-byte.byte c.requires.found (byte_to c.args.access c.loop-byte.byte low (omega arith))

pub loop-byte-preserved : goal.loop-byte-preserved
loop-byte-preserved c =
    let i = c.loop-byte.invariant in
    let e = c.next_border-byte.ensures in
    let low = i.low in
    let above = e.above in
    record {
      low = omega (arith, low, above);
      high = omega arith;
      joined = bytes_more c.args.rows.now c.args.found.now c.args.access c.loop-byte.byte c.next_border-byte.result c.args.clock.now c.loop-byte.clock c.read_at.new.clock c.requires.found low above (omega arith)
          e.same i.joined c.in_ok-read_at.ensures;
    }

pub returns : goal.returns
returns c = bytes_all c.args.rows.now c.args.access c.loop-byte.byte c.args.clock.now c.loop-byte.clock (omega arith) c.loop-byte.invariant.high c.loop-byte.invariant.joined
