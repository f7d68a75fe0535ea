-- A group of the machine's list, by what is counted of Rust's at its places.
use Rattle.mr_traced.proofs.Common.{◌≡◌, ℕ, ◌<◌, ◌≤◌, arith, List, [], ◌++◌, sym, ap, ◌∙◌, count_by, Group, both_of, is_at, machine_text, group_text, Seen}
use Rattle.std.proofs.Common.{append-nil}
use Rattle.std.proofs.lemmas.Bool.{eq-eqb, ne_eqb}
use Rattle.std.specs.Prelude.{◌==◌, if◌then◌else◌}
use Rattle.mr_rust_order.specs.Tests.{rust_races}
use Rattle.mr_two_orders.specs.Standing.{machine_line}
use Rattle.mr_traced.specs.Orders.{by_rust, count_in}

module _ (s r : Seen) (g : Group) (is : r ≡ by_rust s) (n : ℕ) (count : n ≡ count_by (is_at r (both_of r g.first)) r.races) where
  counted : n ≡ count_in (by_rust s) g
  counted = count ∙ ap (λ (t : Seen). count_in t g) is

  -- where there is one nothing is told
  pub told_with : 0 < n → (old : List ℕ) → old ≡ old ++ machine_text s g
  told_with more old =
      let e = counted in
      sym (append-nil old)
      ∙ ap (λ b. old ++ (if b then group_text s g ++ machine_line (rust_races s.run) g.first else []))
      (sym (ne_eqb (count_in (by_rust s) g) 0 (λ none. omega (arith, more, e, none))))

  -- and where there is none the group is
  pub told_alone : n ≤ 0 → group_text s g ++ machine_line (rust_races s.run) g.first ≡ machine_text s g
  told_alone none =
      let e = counted in
      let zero : count_in (by_rust s) g ≡ 0 = omega (arith, none, e) in
      ap (λ b. if b then group_text s g ++ machine_line (rust_races s.run) g.first else [])
      (sym (eq-eqb (count_in (by_rust s) g) 0 zero))

  -- the list is Rust's
  pub list_is : r.races ≡ rust_races s.run
  list_is = ap (λ (t : Seen). t.races) is
