use Rattle.mr_layout.proofs.Common.{◌≡◌, ℕ, ◌%◌, ◌<◌, List, length, slice_index, sym, subst, IfOk-weaker}
use Rattle.mr_layout.proofs.TableLaws.{repeated_twice, whole_twice}
use Rattle.mr_layout.proofs.tables.widened.Goals as goal

pub returns-clause-whole : goal.returns-clause-whole
returns-clause-whole c =
    let back = sym c.as_slice.ensures.value in
    let row = c.args.row.now in
    let whole = subst (λ (l : List ℕ). length l % length row ≡ 0) back c.in_ok-halfway.ensures.whole in
    IfOk-weaker c.repeated-2.result _ _ (λ wide h. whole_twice _ (length c.as_slice.result.now) (length row) h whole) c.repeated-2.ensures.whole

pub returns-clause-same : goal.returns-clause-same
returns-clause-same c =
    let back = sym c.as_slice.ensures.value in
    let row = c.args.row.now in
    let some = subst (λ (l : List ℕ). 0 < length l) back c.in_ok-halfway.ensures.some in
    let whole = subst (λ (l : List ℕ). length l % length row ≡ 0) back c.in_ok-halfway.ensures.whole in
    let same = subst (λ (l : List ℕ). (k : ℕ) → k < length l → slice_index l k ≡ slice_index row (k % length row)) back c.in_ok-halfway.ensures.same in
    IfOk-weaker c.repeated-2.result _ _ (λ wide h. repeated_twice row c.as_slice.result.now _ some whole same h) c.repeated-2.ensures.same
