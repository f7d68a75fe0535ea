-- The used bytes of an array of arrays are those of one array of the inner ones' elements.
use Rattle.mr_layout.proofs.Common.{◌≡◌, ℕ, ◌*◌, ◌%◌, ◌<◌, ◌≤◌, ◌⊎◌, ⊎_elim, inl, inr, sym, ap, subst, ◌∙◌, arith, nat_lt, ◌&&◌, cases_lt, mod_below, mod-mod_of_dvd, Ty, lt_test, not_lt_test, size_of, is_used_row, Use, is_used}
use Rattle.std.proofs.Math.Nat.{dvd-mul_left, mul_assoc}
use Rattle.mr_ast.specs.declared.types.Ty.TheVariants as ty
use Rattle.mr_layout.proofs.SizeLaws.{size_array}
use Rattle.mr_layout.proofs.UsedLaws.{used_array}

-- rows with a byte have bytes in each
filled : (count len at : ℕ) → at < count * len → 0 < len
filled count len at h =
    ⊎_elim
    (λ (some : 0 < len). some)
    (λ (none : len ≤ 0).
    let zero : len ≡ 0 = omega arith in
    let all : count * len ≡ count * 0 = ap (λ n. count * n) zero in
    absurd (omega arith))
    (cases_lt 0 len)

-- rows of rows are one row
rows_of_rows : (used : Use) (count each len at : ℕ)
    → (nat_lt at ((count * each) * len) && used (at % len)) ≡ (nat_lt at (count * (each * len)) && (nat_lt (at % (each * len)) (each * len) && used ((at % (each * len)) % len)))
rows_of_rows used count each len at = by (cases_lt at (count * (each * len)))
  where
    same : (count * each) * len ≡ count * (each * len)
    same = mul_assoc count each len

    by : (at < count * (each * len)) ⊎ (count * (each * len) ≤ at)
        → (nat_lt at ((count * each) * len) && used (at % len)) ≡ (nat_lt at (count * (each * len)) && (nat_lt (at % (each * len)) (each * len) && used ((at % (each * len)) % len)))
    by (inl h) =
        let low : at < (count * each) * len = subst (λ n. at < n) (sym same) h in
        let within = lt_test (at % (each * len)) (each * len) (mod_below at (each * len) (filled count (each * len) at h)) in
        (λ i. lt_test at ((count * each) * len) low i && used (at % len))
        ∙ sym (λ i. lt_test at (count * (each * len)) h i && (within i && used (mod-mod_of_dvd len at (dvd-mul_left len each) i)))
    by (inr h) =
        let past : (count * each) * len ≤ at = subst (λ n. n ≤ at) (sym same) h in
        ap (λ b. b && used (at % len)) (not_lt_test at ((count * each) * len) past)
        ∙ sym (ap (λ b. b && (nat_lt (at % (each * len)) (each * len) && used ((at % (each * len)) % len))) (not_lt_test at (count * (each * len)) h))

-- the elements of arrays in a row are one row
pub used_rows : (count each : ℕ) (part : Ty) (at : ℕ) → is_used_row (count * each) part at ≡ is_used_row count (ty.Array each part) at
used_rows count each part at =
    rows_of_rows (is_used part) count each (size_of part) at
    ∙ sym (λ i. nat_lt at (count * size_array each part i) && used_array each part (at % size_array each part i) i)
