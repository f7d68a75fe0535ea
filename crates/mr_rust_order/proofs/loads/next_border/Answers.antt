use Rattle.mr_rust_order.proofs.Common.{◌≡◌, ℕ, ◌<◌, length, inl, inr, subst, sym, arith, has_byte, row_at}
use Rattle.mr_rust_order.proofs.TopLaws.{among_all, among_more, among_none}
use Rattle.mr_rust_order.proofs.loads.next_border.Goals as goal

pub loop-z-init : goal.loop-z-init
loop-z-init c = record { above = c.requires; below = omega arith; same = λ b x lt a. absurd (among_none c.args.found.now x a) }

pub loop-z-preserved : goal.loop-z-preserved
loop-z-preserved c =
    let rows = c.args.rows.now in
    let byte = c.args.byte in
    let i = c.loop-z.invariant in
    let e = c.row_border-next.ensures in
    record {
      above = e.above;
      below = let one = e.below in let two = i.below in omega (arith, one, two);
      same = λ b x lt a low high. elim (among_more c.args.found.now c.loop-z.z x a) [
        | inl before ↦ let less = e.below in i.same b x lt before low (omega (arith, high, less))
        | inr is ↦
            subst (λ (y : ℕ). has_byte (row_at rows y).range b ≡ has_byte (row_at rows y).range byte) (sym is)
            (e.same b (subst (λ (y : ℕ). y < length rows) is lt) low high)
      ];
    }

pub returns-clause-same : goal.returns-clause-same
returns-clause-same c = λ b x lt listed low high. c.loop-z.invariant.same b x lt (among_all c.args.found.now c.loop-z.z x (omega arith) listed) low high
