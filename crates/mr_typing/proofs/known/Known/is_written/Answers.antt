use Rattle.mr_typing.proofs.Common.{sym, ap, ◌∙◌, same_type, ty_of}
use Rattle.mr_typing.specs.declared.known.Known.{Known}
use Rattle.mr_typing.proofs.SameTypeLaws.{same_type_answer}
use Rattle.mr_typing.proofs.known.Known.is_written.Goals as goal

pub returns-in-Written : goal.returns-in-Written
returns-in-Written c =
    same_type_answer c.same.result c.in-Written.u.now c.args.t.now c.same.ensures
    ∙ ap (λ (k : Known). same_type (ty_of k) c.args.t.now) (sym c.in-Written.is)
