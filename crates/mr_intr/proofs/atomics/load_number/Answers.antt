use Rattle.mr_intr.proofs.Common.{◌≡◌, ℕ, Some, Result, ap, sym, ◌∙◌, reached_by, read, seen, int_size}
use Rattle.mr_runs.specs.Pieces.{bytes_of_pieces}
use Rattle.mr_eval.proofs.ReadLength.{read_sized}
use Rattle.mr_intr.proofs.AtomicRuns.{number_missing, number_refused}
use Rattle.mr_intr.proofs.atomics.load_number.Goals as goal

pub number_in-requires : goal.number_in-requires
number_in-requires c =
    read_sized c.args.m.now c.args.p c.int_bytes-size.result c.int_bytes-size.result (bytes_of_pieces c.in-Ok.view) (sym c.in-Ok.ensures.lent) ∙ c.int_bytes-size.ensures

pub returns-in-Err-clause-told : goal.returns-in-Err-clause-told
returns-in-Err-clause-told c =
    let sized = c.int_bytes-size.ensures in
    number_refused c.args.m.now c.args.doing c.args.p (int_size c.args.int) (seen c.args.notes.now) c.refuse.new.self.refused
    (c.refuse.ensures.last ∙ ap (λ (n : ℕ). Some (reached_by c.args.doing c.args.p n)) sized) c.in-Err.reason
    (ap (λ (n : ℕ). read c.args.m.now c.args.p n n) (sym sized) ∙ sym c.in-Err.ensures.lent)

pub returns-in-Err-number_in-clause-told : goal.returns-in-Err-number_in-clause-told
returns-in-Err-number_in-clause-told c =
    let sized = c.int_bytes-size.ensures in
    number_missing c.args.m.now c.args.doing c.args.p (int_size c.args.int) (seen c.args.notes.now) c.refuse-in-Err-number_in.new.self.refused
    (c.refuse-in-Err-number_in.ensures.last ∙ ap (λ (n : ℕ). Some (reached_by c.args.doing c.args.p n)) sized) (bytes_of_pieces c.in-Ok.view) c.in-Err-number_in.reason
    (ap (λ (n : ℕ). read c.args.m.now c.args.p n n) (sym sized) ∙ sym c.in-Ok.ensures.lent) (sym c.in-Err-number_in.ensures.told)
