use Rattle.std.proofs.Common.{◌≡◌, ◌-◌, ◌∙◌, sym, ap, arith, length, take, drop}
use Rattle.std.proofs.Math.Seq.{take-add}
use Rattle.std.proofs.lemmas.Grind.{common_steps}
use Rattle.std.specs.Io.KnownBytes.{append_known}
use Rattle.mr_io.proofs.Taken.{append_known-append_known}
use Rattle.mr_io.proofs.sink.write_whole.Goals as goal

pub loop-done-preserved : goal.loop-done-preserved
loop-done-preserved g c =
    let text = c.args.text.now in
    let done = c.loop-done.done in
    let n = c.in_ok-done.field-0 in
    let first = g.O.Sink.taken c.args.out.now in
    let rest : take (length text - done) (drop done text) ≡ drop done text = grind (arith, common_steps) in
    record {
      within = grind arith;
      so_far = c.in_ok-done.ensures.ok
          ∙ ap (λ piece. append_known (g.O.Sink.taken c.loop-done.out) (take n piece)) rest
          ∙ ap (λ taken. append_known taken (take n (drop done text))) c.loop-done.invariant.so_far
          ∙ append_known-append_known first (take done text) (take n (drop done text))
          ∙ ap (append_known first) (sym (take-add done n text));
      faults = grind arith;
      none_yet = grind arith;
    }
