use Rattle.mr_value.proofs.Common.{◌≡◌, ℕ, ◌^◌, Bool, true, false, Some, None, sym, ◌∙◌, arith, nat_tests, nat_lt, if◌then◌else◌, size_of, ok_of}
use Rattle.mr_layout.proofs.Bounds.{type_ok_small}
use Rattle.mr_value.proofs.decoding.bytes_of.Goals as goal

not_none : (small : Bool) (n : ℕ) → small ≡ true → None ≡ (if small then Some n else None) → ⊥
not_none true n s e = cc
not_none false n s e = cc

pub unreachable-requires : goal.unreachable-requires
unreachable-requires c =
    let small = type_ok_small c.args.t.now (ok_of c.args.t.now c.requires) in
    let e : nat_lt (size_of c.args.t.now) (2 ^ 63) ≡ true = grind (arith, nat_tests) in
    not_none (nat_lt (size_of c.args.t.now) (2 ^ 63)) (size_of c.args.t.now) e (sym c.in-None.is ∙ c.size.ensures)
