-- A text behind another one, of which more was written.
use Rattle.std.proofs.Common.{◌≡◌, ℕ, List, ◌++◌, Result, Ok, Err, ap, ◌∙◌, append_assoc}
use Rattle.std.specs.Prelude.{OnErr}
use Rattle.mr_sched.specs.Spelling.{Extends}

-- what extends a text that was written behind another one, extends that
pub extends_behind : (a more b c : List ℕ) → b ≡ a ++ more → Extends b c → Extends a c
extends_behind a more b c e h = (more ++ h.0, h.1 ∙ ap (λ t. t ++ h.0) e ∙ append_assoc a more h.0)

-- it holds also where it is said of a failure
pub on_err : {A E : Type 0} (r : Result A E) (P : Type 0) → P → OnErr r P
on_err (Ok x) P h = tt
on_err (Err e) P h = h
