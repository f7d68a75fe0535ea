use Rattle.mr_intr.proofs.Common.{◌≡◌, ℕ, List, [], Some, Ok, Err, true, ap, subst, sym, ◌∙◌, reached_by, int_size, AbstractByte, lt_test, written, seen, number_bytes, accessing, seeing, has_int}
use Rattle.mr_base.specs.declared.reached.Reaching.TheVariants.{Changes}
use Rattle.mr_mem.specs.Stored.{IsStored}
use Rattle.mr_runs.specs.Numbers.{with_provenance}
use Rattle.mr_intr.proofs.AtomicLaws.{int_bytes_are}
use Rattle.mr_intr.proofs.AtomicRuns.{stored_refused, stored_went}
use Rattle.mr_intr.proofs.atomics.store_number.Goals as goal

pub encode_scalar-bytes-requires-clause-shape : goal.encode_scalar-bytes-requires-clause-shape
encode_scalar-bytes-requires-clause-shape c = has_int c.args.int c.args.n ∙ lt_test c.args.n _ c.requires

pub returns-in-Ok : goal.returns-in-Ok
returns-in-Ok c =
    let bytes : with_provenance c.encode_scalar-bytes.result.provenance c.numbers.result.now ≡ number_bytes (int_size c.args.int) c.args.n =
    ap (λ (xs : List ℕ). with_provenance c.encode_scalar-bytes.result.provenance xs) c.numbers.ensures ∙ c.encode_scalar-bytes.ensures.bytes ∙ int_bytes_are c.args.int c.args.n in
    let put : written c.args.m.now c.args.p (number_bytes (int_size c.args.int) c.args.n) (int_size c.args.int) ≡ Ok c.store_numbers.new.self =
    (λ i. written c.args.m.now c.args.p (sym bytes i) (sym c.int_bytes-size.ensures i)) ∙ c.in-Ok.ensures.stored in
    let noted = c.in_ok-access.ensures.noted ∙ ap (λ (k : ℕ). seeing (accessing true true c.args.p k) [] (seen c.args.notes.now)) c.int_bytes-size.ensures in
    stored_went c.args.m.now c.store_numbers.new.self c.args.p (int_size c.args.int) c.args.n (seen c.args.notes.now) (seen c.access.new.self) put noted

pub returns-in-Err : goal.returns-in-Err
returns-in-Err c =
    let bytes : with_provenance c.encode_scalar-bytes.result.provenance c.numbers.result.now ≡ number_bytes (int_size c.args.int) c.args.n =
    ap (λ (xs : List ℕ). with_provenance c.encode_scalar-bytes.result.provenance xs) c.numbers.ensures ∙ c.encode_scalar-bytes.ensures.bytes ∙ int_bytes_are c.args.int c.args.n in
    let P : List AbstractByte → ℕ → Type 0 = λ b k. IsStored (written c.args.m.now c.args.p b k) c.store_numbers.new.self (Err c.in-Err.fault) in
    let put : P (number_bytes (int_size c.args.int) c.args.n) (int_size c.args.int) = subst (P (number_bytes (int_size c.args.int) c.args.n)) c.int_bytes-size.ensures (subst (λ b. P b c.int_bytes-size.result) bytes c.in-Err.ensures.stored) in
    stored_refused c.args.m.now c.store_numbers.new.self c.args.p (int_size c.args.int) c.args.n (seen c.args.notes.now) (seen c.refuse.new.self) c.in-Err.fault c.refuse.new.self.refused put
    (c.refuse.ensures.last ∙ ap (λ (k : ℕ). Some (reached_by Changes c.args.p k)) c.int_bytes-size.ensures)
