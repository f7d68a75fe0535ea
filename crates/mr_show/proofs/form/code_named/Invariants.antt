use Rattle.mr_show.proofs.Common.{◌≡◌, ◌-◌, find, range_with_len, entry_of, is_name_of}
use Rattle.mr_show.proofs.form.code_named.Given as goal

-- none before this one has the name
abbrev pub invariant-loop-code : goal.invariant-loop-code
invariant-loop-code l =
    find (λ code. is_name_of l.word (entry_of code)) (range_with_len 0 134)
    ≡ find (λ code. is_name_of l.word (entry_of code)) (range_with_len l.code (134 - l.code))
