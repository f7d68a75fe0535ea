use Rattle.mr_picture.proofs.arrows_of.push_arrows.Goals as goal

pub returns : goal.returns
returns c = c.push_each_arrow.ensures
