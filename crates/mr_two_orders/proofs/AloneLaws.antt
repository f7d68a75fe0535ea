-- A group of the machine's list, by what is counted of Rust's at its places.
use Rattle.mr_two_orders.proofs.Common.{◌≡◌, ℕ, ◌<◌, ◌≤◌, arith, List, [], ◌++◌, sym, ap, ◌∙◌, eq-eqb, ne_eqb, ◌==◌, if◌then◌else◌, count_by, rust_races, Group, group_line, same_places, Seen, by_rust, count_in, machine_text}
use Rattle.std.proofs.Common.{append-nil}
use Rattle.mr_two_orders.specs.Standing.{machine_line}

module _ (s r : Seen) (g : Group) (is : r ≡ by_rust s) (n : ℕ) (count : n ≡ count_by (same_places r g.first) r.races) where
  counted : n ≡ count_in (by_rust s) g
  counted = count ∙ ap (λ (t : Seen). count_in t g) is

  -- where there is one nothing is told
  pub told_with : 0 < n → (old : List ℕ) → old ≡ old ++ machine_text s g
  told_with more old =
      let e = counted in
      sym (append-nil old)
      ∙ ap (λ b. old ++ (if b then group_line s g ++ machine_line (rust_races s.feet) g.first else []))
      (sym (ne_eqb (count_in (by_rust s) g) 0 (λ none. omega (arith, more, e, none))))

  -- and where there is none the group is
  pub told_alone : n ≤ 0 → group_line s g ++ machine_line (rust_races s.feet) g.first ≡ machine_text s g
  told_alone none =
      let e = counted in
      let zero : count_in (by_rust s) g ≡ 0 = omega (arith, none, e) in
      ap (λ b. if b then group_line s g ++ machine_line (rust_races s.feet) g.first else [])
      (sym (eq-eqb (count_in (by_rust s) g) 0 zero))

  -- the list is Rust's
  pub list_is : r.races ≡ rust_races s.feet
  list_is = ap (λ (t : Seen). t.races) is
