use Rattle.mr_runs.proofs.Common.{◌∙◌, List, length, ap, option_copied, SeenPiece, bytes_of_pieces}
use Rattle.mr_runs.proofs.ViewLaws.{lent_len}
use Rattle.mr_runs.proofs.views.View.len.Goals as goal

pub returns : goal.returns
returns c =
    lent_len (option_copied c.self.inside.kept) c.self.inside.from c.self.inside.len c.self.invariant
    ∙ ap (λ (ps : List SeenPiece). length (bytes_of_pieces ps)) c.self.view_is
