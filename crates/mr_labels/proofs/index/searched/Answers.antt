use Rattle.mr_labels.proofs.Common.{◌∙◌, ap, first_holding}
use Rattle.mr_labels.proofs.IndexLaws.{found_past}
use Rattle.mr_labels.proofs.index.searched.Goals as goal

pub returns : goal.returns
returns c =
    c.first_holding.ensures ∙ ap (first_holding c.args.addr) c.rows_past.ensures
    ∙ found_past c.args.addr 0 c.args.index.now c.requires
