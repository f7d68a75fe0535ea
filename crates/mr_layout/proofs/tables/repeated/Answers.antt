use Rattle.mr_layout.proofs.Common.{◌≡◌, ◌++◌, ◌+◌, ◌%◌, length, ap, ◌∙◌, arith, length-append}
use Rattle.std.proofs.Math.Nat.{mod_self}
use Rattle.mr_layout.proofs.TableLaws.{repeated_once, repeated_next, whole_next}
use Rattle.mr_layout.proofs.tables.repeated.Goals as goal

pub loop-wide-init : goal.loop-wide-init
loop-wide-init c =
    let same = c.in_ok-wide.ensures.items in
    record {
      some = omega (arith, ap length same);
      short = omega (arith, ap length same);
      whole = ap (λ n. n % length c.args.row.now) (ap length same) ∙ mod_self (length c.args.row.now);
      same = repeated_once c.args.row.now c.in_ok-wide.wide.items same;
    }

pub loop-wide-preserved : goal.loop-wide-preserved
loop-wide-preserved c =
    let wide = c.loop-wide.wide.items in
    let row = c.args.row.now in
    let pushed : c.extend_from_slice.new.self.items ≡ wide ++ row = c.in_ok-extend_from_slice.ensures.items in
    let len : length c.extend_from_slice.new.self.items ≡ length wide + length row = ap length pushed ∙ length-append wide row in
    record {
      some = omega (arith, len, c.loop-wide.invariant.some);
      short = omega (arith, len, c.loop-wide.wide.ok.0);
      whole = ap (λ n. n % length row) len ∙ whole_next (length row) (length wide) c.loop-wide.invariant.whole;
      same = repeated_next row wide c.extend_from_slice.new.self.items c.loop-wide.invariant.whole pushed c.loop-wide.invariant.same;
    }
