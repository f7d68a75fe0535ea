use Rattle.std.proofs.Common.{arith, ◌≡◌, ◌++◌, sym, length, take, []}
use Rattle.std.proofs.lemmas.Grind.{common_steps}
use Rattle.mr_io.specs.Host.{none, more}
use Rattle.mr_io.proofs.host_files.take_bytes.Goals as goal

pub loop-taken-init : goal.loop-taken-init
loop-taken-init g c = record {
  within = grind arith;
  so_far = ([], sym c.requires, none, grind (arith, common_steps));
}

pub loop-taken-preserved : goal.loop-taken-preserved
loop-taken-preserved g c =
    let before = c.loop-taken.invariant.so_far in
    let ok = c.in_ok-n.ensures.ok in
    let piece = ok.1 in
    let n = c.in_ok-n.n in
    let long : length (take n piece.buf) ≡ n = grind (arith, common_steps, piece.count) in
    record {
      within = grind arith;
      so_far = (
        before.0 ++ take n piece.buf,
        grind (arith, common_steps, long, before.1, ok.0),
        more before.0 piece.buf n c.loop-taken.file c.take_piece.new.file before.2 (grind arith) piece.read,
        grind (arith, common_steps, piece.appended, before.3),
      );
    }
