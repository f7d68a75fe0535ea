use Rattle.mr_show.proofs.Common.{entry_of, is_name_of}
use Rattle.mr_show.proofs.NameLaws.{NonePasses}
use Rattle.mr_show.proofs.form.is_reason.Given as goal

-- none before this one has the name
abbrev pub invariant-loop-code : goal.invariant-loop-code
invariant-loop-code l = NonePasses (λ code. is_name_of l.word (entry_of code)) 100 l.code
