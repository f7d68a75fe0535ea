use Rattle.mr_runs.proofs.Common.{List, length, ap, arith, option_copied, SeenPiece, bytes_of_pieces}
use Rattle.mr_runs.proofs.ViewLaws.{lent_len}
use Rattle.mr_runs.proofs.views.View.byte.Goals as goal

pub byte_at-requires-clause-inside : goal.byte_at-requires-clause-inside
byte_at-requires-clause-inside c =
    omega (
      arith,
      c.requires,
      ap (λ (ps : List SeenPiece). length (bytes_of_pieces ps)) c.self.view_is,
      lent_len (option_copied c.self.inside.kept) c.self.inside.from c.self.inside.len c.self.invariant,
    )
