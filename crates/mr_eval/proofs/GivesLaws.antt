-- What follows of an answer for what comes behind it.
use Rattle.mr_eval.proofs.Common.{◌≡◌, ℤ, Option, Result, Ok, Err, ap, ◌∙◌, Reached, Pointer, Memory, Done, Outcome, Refused, Went, on, run, run_bind, moved, ReadScript, Seen, reading, Halt, Gives, same}
use Rattle.mr_eval.specs.Operators.{moved_pointer}
use Rattle.mr_eval.specs.Answers.{Says, beside_of}
use Rattle.mr_value.specs.declared.val.Val.TheVariants as val
use Rattle.mr_eval.specs.declared.halt.Halt.TheVariants as halt
use Rattle.mr_eval.proofs.RefusedLaws.{stop_plainly}

-- what stops a part stops the whole
pub gives_stop : {X Y Z W S T : Type 0} (view : X → Y) (last : Z → W) (e : Halt) (o : Outcome Y S) (whole : Outcome W T) (f : Y → S → Outcome W T) (s : S) (t : T) (refused : Option Reached)
    → whole ≡ on o f → Gives view (Err e) o s refused → Gives last (Err e) whole t refused
gives_stop view last (halt.Undefined r) o whole f s t refused is h = is ∙ ap (λ (u : Outcome _ _). on u f) h
gives_stop view last halt.IllFormed o whole f s t refused is h = is ∙ ap (λ (u : Outcome _ _). on u f) h
gives_stop view last halt.Memory o whole f s t refused is h = tt

-- what stops a move stops what is made of it
pub moved_stop : (m : Memory) (p : Pointer) (n : ℤ) (e : Halt) (old new : Seen) (refused : Option Reached)
    → Gives same (Err e) (run (reading m) (moved p n) old) new refused → Gives same (Err e) (run (reading m) (moved_pointer p n) old) new refused
moved_stop m p n e old new refused h =
    gives_stop same same e (run (reading m) (moved p n) old) (run (reading m) (moved_pointer p n) old) (λ q s. Went (val.Ptr q) s) new new refused
    (run_bind (reading m) (moved p n) (λ q. Done (val.Ptr q)) old) h

-- what a script that asks nothing comes to, over any memory
pub says_gives : {X Y : Type 0} (view : X → Y) (result : Result X Halt) (script : ReadScript Y) (m : Memory) (s : Seen) (refused : Option Reached)
    → Says view result script → Gives view result (run (reading m) script s) s refused
says_gives view (Ok x) script m s refused h = ap (λ (c : ReadScript _). run (reading m) c s) h
says_gives view (Err (halt.Undefined r)) script m s refused h = ap (λ (c : ReadScript _). run (reading m) c s) h.0 ∙ ap Refused (stop_plainly refused r h.1)
says_gives view (Err halt.IllFormed) script m s refused h = ap (λ (c : ReadScript _). run (reading m) c s) h
says_gives view (Err halt.Memory) script m s refused h = tt

-- what stands beside an answer is the thing that was put there
pub beside_first : {A B E : Type 0} (x : A) (answer : Result B E) (y : A) (z : B) → Ok (y, z) ≡ beside_of x answer → y ≡ x
beside_first {A} {B} {E} x (Ok w) y z e = ap first e
  where
    first : Result (A × B) E → A
    first (Ok both) = both.0
    first (Err h) = x
beside_first x (Err h) y z e = absurd (cc)
