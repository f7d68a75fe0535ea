use Rattle.mr_wf.proofs.Common.{ty_of}
use Rattle.mr_wf.proofs.ListedLaws.{element_alike}
use Rattle.mr_wf.proofs.alike.is_element.Goals as goal

pub returns-then-are_some_alike : goal.returns-then-are_some_alike
returns-then-are_some_alike c =
    element_alike c.args.at.sizes.now c.args.at.listed.now c.args.last c.args.value c.args.elem.now (ty_of c.args.t) c.requires.last c.requires.value (c.are_some_alike.ensures c.if-are_some_alike.true)
