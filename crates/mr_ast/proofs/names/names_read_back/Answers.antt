use Rattle.mr_ast.proofs.NameLaws.{Adds-again, IsFirst-Adds, IsFirst-kept, IsFirst-later, one_text}
use Rattle.mr_ast.proofs.names.names_read_back.Goals as goal

pub returns-clause-reads_back : goal.returns-clause-reads_back
returns-clause-reads_back c = λ old new later text texts n added each. (IsFirst-later old new later text texts n added each).here

pub returns-clause-same_number : goal.returns-clause-same_number
returns-clause-same_number c = λ old new later last text texts n m added each again. Adds-again later last text n m (IsFirst-later old new later text texts n added each) again

pub returns-clause-same_text : goal.returns-clause-same_text
returns-clause-same_text c = λ old new later last text other texts n added each again.
    let held = IsFirst-later old new later text texts n added each in
    one_text last text other n (IsFirst-kept later last other text n n again held).here (IsFirst-Adds later last other n again).here
