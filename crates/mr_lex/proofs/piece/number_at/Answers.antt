use Rattle.mr_lex.proofs.Common.{sym, subst, take, AllPass, is_digit}
use Rattle.mr_lex.proofs.RunLaws.{take_while_passes}
use Rattle.mr_lex.proofs.piece.number_at.Goals as goal

pub is_fine_number-requires : goal.is_fine_number-requires
is_fine_number-requires c =
    subst (λ n. AllPass is_digit (take n c.args.rest.now)) (sym c.digits_len-len.ensures) (take_while_passes is_digit c.args.rest.now)
