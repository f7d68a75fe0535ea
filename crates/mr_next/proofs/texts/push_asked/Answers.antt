use Rattle.mr_next.proofs.Common.{◌≡◌, ◌∙◌, ◌++◌, List, subst, OnOk}
use Rattle.mr_labels.specs.declared.names.Name.{Name}
use Rattle.mr_next.specs.Texts.{wants_text}
use Rattle.mr_next.proofs.texts.push_asked.Goals as goal

pub returns : goal.returns
returns c =
    subst (λ (names : List Name). OnOk c.push_wants.result
    (c.push_wants.new.out.items ≡ c.args.out.now.items ++ wants_text c.args.p.now c.args.here names c.args.wants.now))
    (c.as_slice.ensures.value ∙ c.in_ok-names.ensures) c.push_wants.ensures
