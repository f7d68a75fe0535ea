-- What the load of an integer, a bool or a pointer comes to, whatever was noted before.
use Rattle.mr_eval.proofs.Common.{◌≡◌, ℕ, [], false, Option, None, Some, Result, Ok, Err, sym, subst, ap, ◌∙◌, meaningless, Reached, Loads, Refers, Stop, reached_by, Ty, AllocId, Pointer, Reason, DanglingReference, InvalidValue, align_of, size_of, Memory, checked, read, Outcome, Refused, Went, on, run, Val, decoded, Bytes, meant_by, read_typed, referred_to, Seen, accessing, answered, named, reading, seeing, touching, Targets, referring, targets_of}
use Rattle.mr_eval.specs.Answers.{Reasons}
use Rattle.mr_eval.specs.Noted.{listed, noted_load, noted_targets}
use Rattle.mr_eval.proofs.LoadRuns.{meant_none, meant_some, read_run}

-- what is noted of the bytes
abbrev lent_seen : Ty → Pointer → Seen → Seen
lent_seen t p s = seeing (accessing false false p (size_of t)) (touching p (size_of t)) s

-- what the load comes to when memory answers this
read_as : (m : Memory) (t : Ty) (p : Pointer) (s : Seen) (answer : Result Bytes Reason) → read m p (size_of t) (align_of t) ≡ answer
    → read_typed m t p s ≡ on (answered (reached_by Loads p (size_of t)) answer (λ (bytes : Bytes). Went bytes (lent_seen t p s))) (λ bytes z. meant_by m (meaningless t p) t bytes z)
read_as m t p s answer e =
    read_run m t p s
    ∙ ap (λ (a : Result Bytes Reason). on (answered (reached_by Loads p (size_of t)) a (λ (bytes : Bytes). Went bytes (lent_seen t p s))) (λ bytes z. meant_by m (meaningless t p) t bytes z)) e

-- a range that is refused
pub scalar_refused : (m : Memory) (t : Ty) (p : Pointer) (s : Seen) (r : Reason) → read m p (size_of t) (align_of t) ≡ Err r
    → Reasons {X = Val} (Err r) (λ v. noted_load t p v s) (read_typed m t p s)
scalar_refused m t p s r e = (Some (reached_by Loads p (size_of t)), read_as m t p s (Err r) e)

-- bytes of which it is known what they mean
pub scalar_lent : (m : Memory) (t : Ty) (p : Pointer) (s : Seen) (bytes : Bytes) (answer : Result Val Reason) → read m p (size_of t) (align_of t) ≡ Ok bytes
    → ((q : Pointer) (z : Seen) → Reasons answer (λ v. noted_targets (targets_of t v) z) (meant_by m (meaningless t q) t bytes z))
    → Reasons answer (λ v. noted_load t p v s) (read_typed m t p s)
scalar_lent m t p s bytes answer lent meant =
    subst (Reasons answer (λ v. noted_load t p v s)) (sym (read_as m t p s (Ok bytes) lent)) (meant p (lent_seen t p s))

pub ruleset scalar_laws = (scalar_refused, scalar_lent)

-- bytes that mean no value
pub scalar_meaningless : (m : Memory) (t : Ty) (p : Pointer) (bytes : Bytes) (s : Seen) → decoded t bytes ≡ None
    → Reasons {X = Val} (Err InvalidValue) (λ v. noted_targets (targets_of t v) s) (meant_by m (meaningless t p) t bytes s)
scalar_meaningless m t p bytes s none = (Some (reached_by Loads p (size_of t)), meant_none m (meaningless t p) t bytes s none)

-- a value, whose reference check passes or is refused
module _ (m : Memory) (t : Ty) (bytes : Bytes) (v : Val) (targets : Targets) (stop : Stop) (s : Seen) (is : decoded t bytes ≡ Some v) (are : targets ≡ targets_of t v) where
  checked_is : meant_by m stop t bytes s ≡ on (referred_to m targets s) (λ u z. Went v z)
  checked_is =
      meant_some m stop t bytes v s is
      ∙ ap (λ (ts : Targets). on (referred_to m ts s) (λ u z. Went v z)) (sym are)

  pub scalar_passed : ((z : Seen) → referred_to m targets z ≡ Went tt (noted_targets targets z)) → meant_by m stop t bytes s ≡ Went v (noted_targets (targets_of t v) s)
  scalar_passed passes =
      checked_is
      ∙ ap (λ (o : Outcome (Unit {0}) Seen). on o (λ u z. Went v z)) (passes s)
      ∙ ap (λ (ts : Targets). Went v (noted_targets ts s)) are

  pub scalar_dangling : (r : Reason) → ((z : Seen) → (about : Option Reached) × (referred_to m targets z ≡ Refused (record { reason = r; about = about })))
      → (about : Option Reached) × (meant_by m stop t bytes s ≡ Refused (record { reason = r; about = about }))
  scalar_dangling r stops =
      let o = stops s in
      (o.0, checked_is ∙ ap (λ (out : Outcome (Unit {0}) Seen). on out (λ u z. Went v z)) o.1)

-- one reference that points to no live range
pub target_dangling : (m : Memory) (target : Option (Pointer × ℕ)) (p : Pointer) (len : ℕ) (r : Reason) (s : Seen) → target ≡ Some (p, len) → checked m p len ≡ Err r
    → (about : Option Reached) × (referred_to m (listed target) s ≡ Refused (record { reason = DanglingReference; about = about }))
unfolding referred_to
target_dangling m target p len r s is refused = (
  Some (reached_by Refers p len),
  ap (λ (o : Option (Pointer × ℕ)). run (reading m) (referring (listed o)) s) is
      ∙ ap (λ (w : Result (Option AllocId) Reason). on (answered (reached_by Refers p len) (named DanglingReference w) (λ _. Went tt (seeing [] (touching p len) s))) (λ (u : Unit {0}) z. Went tt z)) refused,
)
