use Rattle.mr_show.proofs.shown.shown_schedule.Goals as goal

pub returns-in-OfRun-clause-answer : goal.returns-in-OfRun-clause-answer
returns-in-OfRun-clause-answer g c = λ contents told. rw c.in-OfRun.is (c.ran_file.ensures.answer contents told)

pub returns-in-OfRun-clause-texts : goal.returns-in-OfRun-clause-texts
returns-in-OfRun-clause-texts g c = λ untold. rw c.in-OfRun.is (c.ran_file.ensures.texts untold)

pub returns-in-Next-clause-answer : goal.returns-in-Next-clause-answer
returns-in-Next-clause-answer g c = λ contents told. rw c.in-Next.is (c.next_file.ensures.answer contents told)

pub returns-in-Next-clause-texts : goal.returns-in-Next-clause-texts
returns-in-Next-clause-texts g c = λ untold. rw c.in-Next.is (c.next_file.ensures.texts untold)

pub returns-in-OfOrder-clause-answer : goal.returns-in-OfOrder-clause-answer
returns-in-OfOrder-clause-answer g c = λ contents told. rw c.in-OfOrder.is (c.filled_file.ensures.answer contents told)

pub returns-in-OfOrder-clause-texts : goal.returns-in-OfOrder-clause-texts
returns-in-OfOrder-clause-texts g c = λ untold. rw c.in-OfOrder.is (c.filled_file.ensures.texts untold)

pub returns-in-Witness-clause-answer : goal.returns-in-Witness-clause-answer
returns-in-Witness-clause-answer g c = λ contents told. rw c.in-Witness.is (c.witness_file.ensures.answer contents told)

pub returns-in-Witness-clause-texts : goal.returns-in-Witness-clause-texts
returns-in-Witness-clause-texts g c = λ untold. rw c.in-Witness.is (c.witness_file.ensures.texts untold)
