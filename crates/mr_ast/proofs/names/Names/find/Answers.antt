use Rattle.mr_ast.proofs.Common.{sym, ap, ◌∙◌}
use Rattle.std.proofs.Common.{is_some}
use Rattle.mr_ast.proofs.NameLaws.{IsFirst-position, missing-list_any}
use Rattle.mr_ast.proofs.names.Names.find.Goals as goal

pub returns-in_err-n-clause-missing : goal.returns-in_err-n-clause-missing
returns-in_err-n-clause-missing c =
    let none = sym c.get_index_of.ensures.found ∙ ap is_some c.in_err-n.was in
    rw c.from_residual.ensures (rw (← c.self.view_is) (missing-list_any _ _ none))

pub returns-clause-found : goal.returns-clause-found
returns-clause-found c = rw (← c.self.view_is) (IsFirst-position _ _ _ (sym c.in_ok-n.ensures.index))
