use Rattle.mr_intr.proofs.Common.{◌≡◌, ℕ, ◌*◌, ◌^◌, ◌<◌, Some, ap, subst, sym, ◌∙◌, number_of, numbered}
use Rattle.mr_runs.specs.Pieces.{bytes_of_pieces}
use Rattle.mr_value.proofs.DecodeShape.{number_fits}
use Rattle.mr_intr.proofs.AtomicLaws.{number_found, number_missing, same_bits}
use Rattle.mr_intr.proofs.atomics.number_in.Goals as goal

pub bits_in-requires : goal.bits_in-requires
bits_in-requires c =
    let found = number_found c.args.int (bytes_of_pieces c.args.view.now) c.in-Some.v (sym c.decode_scalar.ensures.value ∙ c.in-Some.is) in
    (found.0, found.1)

pub returns-in-Some-clause-told : goal.returns-in-Some-clause-told
returns-in-Some-clause-told c =
    let found = number_found c.args.int (bytes_of_pieces c.args.view.now) c.in-Some.v (sym c.decode_scalar.ensures.value ∙ c.in-Some.is) in
    sym (ap numbered (found.2 ∙ ap (λ (n : ℕ). Some n) (same_bits found.0 c.bits_in.result (sym found.1 ∙ c.bits_in.ensures))))

pub returns-in-Some-clause-small : goal.returns-in-Some-clause-small
returns-in-Some-clause-small c =
    let bytes = bytes_of_pieces c.args.view.now in
    let found = number_found c.args.int bytes c.in-Some.v (sym c.decode_scalar.ensures.value ∙ c.in-Some.is) in
    let is : number_of bytes ≡ Some c.bits_in.result = found.2 ∙ ap (λ (n : ℕ). Some n) (same_bits found.0 c.bits_in.result (sym found.1 ∙ c.bits_in.ensures)) in
    subst (λ (k : ℕ). c.bits_in.result < 2 ^ (8 * k)) c.requires (number_fits bytes c.bits_in.result is)

pub returns-clause-told : goal.returns-clause-told
returns-clause-told c = sym (ap numbered (number_missing c.args.int (bytes_of_pieces c.args.view.now) (sym c.decode_scalar.ensures.value ∙ c.in-None.is)))
