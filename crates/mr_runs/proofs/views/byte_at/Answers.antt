use Rattle.mr_runs.proofs.Common.{◌∙◌, ap, subst, option_copied, slice_get, lent_pieces, IsLent, bytes_of_pieces, entries_of}
use Rattle.mr_runs.proofs.ViewLaws.{lent_byte, window_byte}
use Rattle.mr_runs.proofs.views.byte_at.Goals as goal

pub byte_of-requires : goal.byte_of-requires
byte_of-requires c =
    lent_byte c.in-Some.kept.now c.args.from c.args.len c.args.at c.requires.inside
    (subst (λ o. IsLent (option_copied o) c.args.from c.args.len) c.in-Some.is c.requires.lent)

pub returns : goal.returns
returns c =
    ap (λ o. slice_get (bytes_of_pieces (lent_pieces (option_copied o) c.args.from c.args.len)) c.args.at) c.in-Some.is
    ∙ window_byte (entries_of c.in-Some.kept.now) c.args.from c.args.len c.args.at c.byte_of.result c.requires.inside c.byte_of.ensures
