use Rattle.mr_typing.proofs.Common.{refl, named_in, surroundings}
use Rattle.mr_typing.proofs.TypedLaws.{typed_value}
use Rattle.mr_typing.proofs.laws.has_type.Goals as goal

pub returns : goal.returns
returns c = λ p f x shaped unbroken. typed_value (named_in p f) (surroundings p f) refl x shaped unbroken
