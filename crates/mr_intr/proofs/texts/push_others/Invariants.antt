use Rattle.mr_intr.proofs.Common.{◌≡◌, ◌++◌, drop, texts_in, spaced_behind}
use Rattle.mr_intr.proofs.texts.push_others.Given as goal

-- what stands there and the texts of the rest are all that is to stand there
abbrev pub invariant-loop-i : goal.invariant-loop-i
invariant-loop-i l =
    l.fn.text.items ++ spaced_behind (texts_in l.types l.args) ≡ l.text.items ++ spaced_behind (texts_in (drop l.i l.types) (drop l.i l.args))
