use Rattle.mr_frame.proofs.Common.{sym, subst, option_copied, Outcome, seen, env_surround, Seen, TellsBy, operands_of, Operands}
use Rattle.mr_frame.proofs.DoLaws.{given_known}
use Rattle.mr_frame.proofs.dos.operands.Goals as goal

pub returns-clause-given : goal.returns-clause-given
returns-clause-given c =
    let P : Outcome Operands Seen → Type 0 = λ o. TellsBy operands_of c.typed.result o (seen c.values.new.n) c.values.new.n.refused in
    subst P (sym (given_known c.args.m.now (env_surround c.args.e.now) c.args.args.now (option_copied c.args.place) (seen c.args.n.now) c.in_ok-at.at (seen c.result_place.new.n) c.in_ok-row.row.items (seen c.values.new.n) c.in_ok-at.ensures.given c.in_ok-row.ensures.given))
    (c.typed.ensures (seen c.values.new.n) c.values.new.n.refused)
