use Rattle.mr_listing.proofs.Common.{◌∙◌, ap, list_any}
use Rattle.mr_base.specs.Pairs.{same_pair}
use Rattle.mr_listing.proofs.FreedLaws.{freed_is_among}
use Rattle.mr_listing.proofs.leaks.is_freed.Goals as goal

pub is_among-requires : goal.is_among-requires
is_among-requires c = c.requires.sorted

pub returns : goal.returns
returns c =
    c.is_among.ensures ∙ ap (λ p. list_any (same_pair p) c.args.freed.now) c.id_pair.ensures
    ∙ freed_is_among c.args.id c.args.feet.now c.args.freed.now c.requires
