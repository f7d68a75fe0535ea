-- A step of a thread stays one of that thread.
use Rattle.mr_turn.proofs.Common.{◌≡◌, ℕ, List, refl, sym, ap, ◌∙◌, Memory, Done, Undefined, ◌>>=◌, Outcome, Went, Refused, Broken, on, run, MemoryScript, memory_answer, reading_part, Tally, acted, Look, Onward, Stack, frame_plan}
use Rattle.mr_base.specs.Script.{IllFormed, Ask}
use Rattle.mr_base.proofs.ScriptSwaps.{same_state}
use Rattle.mr_frame.proofs.PlanTallyGrows.{tally_grows}

-- behind an answer that keeps it
answered : {R A : Type 0} (w v : Memory × Tally) (x : A) (o : Outcome R (Memory × Tally)) (f : R → Memory × Tally → Outcome A (Memory × Tally))
    → ((y : R) (u : Memory × Tally) → o ≡ Went y u → u.1.thread ≡ w.1.thread)
    → ((y : R) (u : Memory × Tally) → f y u ≡ Went x v → v.1.thread ≡ u.1.thread)
    → on o f ≡ Went x v → v.1.thread ≡ w.1.thread
answered w v x (Went y u) f first then e = then y u e ∙ first y u refl
answered w v x (Refused r) f first then e = absurd (cc)
answered w v x Broken f first then e = absurd (cc)

pub thread_kept : {A : Type 0} (script : MemoryScript A) (w v : Memory × Tally) (x : A) → run memory_answer script w ≡ Went x v → v.1.thread ≡ w.1.thread
thread_kept (Done a) w v x e = sym (ap (λ (u : Memory × Tally). u.1.thread) (same_state e))
thread_kept (Undefined r) w v x e = absurd (cc)
thread_kept IllFormed w v x e = absurd (cc)
thread_kept (Ask q k) w v x e =
    answered w v x (memory_answer q w) (λ y u. run memory_answer (k y) u)
    (λ y u h. (tally_grows q w.0 u.0 w.1 u.1 y h).thread)
    (λ y u h. thread_kept (k y) u v x h) e

pub acted_thread : (look : Look) (thread : ℕ) (s : Stack) (picks : List ℕ) (w v : Memory × Tally) (o : Onward) → acted look thread s picks w ≡ Went o v → v.1.thread ≡ w.1.thread
unfolding acted
acted_thread look thread s picks w v o e = thread_kept (reading_part (frame_plan look thread s) >>= λ plan. plan.go picks) w v o e
