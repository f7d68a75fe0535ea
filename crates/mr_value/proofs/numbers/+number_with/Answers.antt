use Rattle.mr_value.proofs.Common.{◌≡◌, ℕ, ◌∙◌, ◌+◌, ◌-◌, ◌*◌, ◌^◌, ◌<◌, List, length, get_or, take, sym, ap, arith, length-take}
use Rattle.mr_value.specs.Spelled.{initial_number}
use Rattle.mr_value.proofs.Digits.{byte_fits}
use Rattle.mr_value.proofs.SpelledLaws.{ends_with, initial_last, wider}
use Rattle.mr_value.proofs.numbers.+number_with.Goals as goal

-- the rest of the number has 15 bytes at most
pub overflow_mul-rest : goal.overflow_mul-rest
overflow_mul-rest t c =
    let numbers = c.args.numbers.now in
    let small : c.args.rest < 2 ^ (8 * 15) = wider (16 - length numbers) 15 c.args.rest (omega (arith, c.in-len1-up.len_at_least)) c.requires.fits in
    omega (arith, small)

pub overflow_add-last : goal.overflow_add-last
overflow_add-last t c =
    let numbers = c.args.numbers.now in
    let small : c.args.rest < 2 ^ (8 * 15) = wider (16 - length numbers) 15 c.args.rest (omega (arith, c.in-len1-up.len_at_least)) c.requires.fits in
    omega (arith, small, c.type_inv.numbers (length numbers - 1))

pub number_with-requires : goal.number_with-requires
number_with-requires t c =
    let numbers = c.args.numbers.now in
    let few = c.requires.few in
    let some = c.in-len1-up.len_at_least in
    let last = get_or numbers (length numbers - 1) 0 in
    let fewer : length (take (length numbers - 1) numbers) ≡ length numbers - 1 = omega (arith, length-take (length numbers - 1) numbers) in
    let room : 16 - length (take (length numbers - 1) numbers) ≡ 16 - length numbers + 1 = omega (arith, fewer, few, some) in
    let less : c.args.rest < 2 ^ (8 * (16 - length (take (length numbers - 1) numbers) - 1)) =
    wider (16 - length numbers) (16 - length (take (length numbers - 1) numbers) - 1) c.args.rest (omega (arith, room)) c.requires.fits in (
      omega (arith, c.decreases, fewer, some),
      (
        omega (arith, fewer, few),
        byte_fits (16 - length (take (length numbers - 1) numbers)) last c.args.rest (omega (arith, room)) (omega (arith, c.type_inv.numbers (length numbers - 1))) less,
      ),
    )

pub returns-in-len1-up : goal.returns-in-len1-up
returns-in-len1-up t c =
    let numbers = c.args.numbers.now in
    let last = get_or numbers (length numbers - 1) 0 in
    c.number_with.ensures
    ∙ sym (initial_last (take (length numbers - 1) numbers) last c.args.rest (omega (arith, c.type_inv.numbers (length numbers - 1))))
    ∙ ap (λ (ns : List ℕ). initial_number ns c.args.rest) (sym (ends_with numbers c.in-len1-up.len_at_least))
