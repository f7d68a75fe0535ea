-- Scripts over memory that neither make nor free an allocation, and what their runs leave.
use Rattle.mr_plan.proofs.Common.{◌≡◌, ℕ, refl, subst, Option, Memory, Done, Undefined, IllFormed, Ask, ◌>>=◌, Went, Allocate, Free, MemoryQuery, MemoryReply, MemoryScript, Modify, Reading, Write, memory_answer, reading_part, Check, Read, ReadScript, Refer, Tally}
use Rattle.mr_plan.proofs.MemoryAnswers.{Replaces, changes, check_went, load_went, modify_went, refer_went, stays, store_went}
use Rattle.mr_plan.proofs.WentLaws.{at_outcome}

-- a query that neither makes nor frees an allocation
abbrev pub IsQuietQuery : MemoryQuery → Type 0
IsQuietQuery (Reading q) = Unit {0}
IsQuietQuery (Write atomic p bytes align) = Unit {0}
IsQuietQuery (Modify p size change) = Unit {0}
IsQuietQuery (Allocate kind size align addr) = ⊥
IsQuietQuery (Free p kind size align) = ⊥

-- a script of such queries
abbrev pub IsQuiet : {A : Type 0} → MemoryScript A → Type 0
IsQuiet (Done a) = Unit {0}
IsQuiet (Undefined r) = Unit {0}
IsQuiet IllFormed = Unit {0}
IsQuiet (Ask q k) = IsQuietQuery q × ((x : MemoryReply q) → IsQuiet (k x))

-- ---- by parts

pub reading_quiet : {A : Type 0} (script : ReadScript A) → IsQuiet (reading_part script)
reading_quiet (Done a) = tt
reading_quiet (Undefined r) = tt
reading_quiet IllFormed = tt
reading_quiet (Ask q k) = (tt, λ x. reading_quiet (k x))

pub quiet_then : {A B : Type 0} (m : MemoryScript A) (f : A → MemoryScript B) → IsQuiet m → ((x : A) → IsQuiet (f x)) → IsQuiet (m >>= f)
quiet_then (Done a) f h k = k a
quiet_then (Undefined r) f h k = tt
quiet_then IllFormed f h k = tt
quiet_then (Ask q g) f h k = (h.0, λ x. quiet_then (g x) f (h.1 x) k)

-- ---- what they leave

-- nothing was made or freed between two tallies
pub record IsUnmade (n n' : Tally) : Type 0 where
  pub thread : n'.thread ≡ n.thread
  pub count : n'.count ≡ n.count
  pub made : n'.made ≡ n.made
  pub ranges : n'.ranges ≡ n.ranges
  pub freed : n'.freed ≡ n.freed

replaced_unmade : (p : _) (size : ℕ) (m : Memory) (n : Tally) (put : Option ℕ) (t : Memory) (n' : Tally) → Replaces p size m n put t n' → IsUnmade n n'
replaced_unmade p size m n put t n' (stays none same noted) = subst (IsUnmade n) noted (record { thread = refl; count = refl; made = refl; ranges = refl; freed = refl })
replaced_unmade p size m n put t n' (changes k some wrote noted) = subst (IsUnmade n) noted (record { thread = refl; count = refl; made = refl; ranges = refl; freed = refl })

pub query_unmade : (q : MemoryQuery) → IsQuietQuery q → (m t : Memory) (n n' : Tally) (x : MemoryReply q) → memory_answer q (m, n) ≡ Went x (t, n') → IsUnmade n n'
query_unmade (Reading (Check p len)) quiet m t n n' x h = at_outcome (check_went p len m t n n' x h).goes (λ y w. IsUnmade n w.1) (record { thread = refl; count = refl; made = refl; ranges = refl; freed = refl })
query_unmade (Reading (Refer p len)) quiet m t n n' x h = at_outcome (refer_went p len m t n n' x h).goes (λ y w. IsUnmade n w.1) (record { thread = refl; count = refl; made = refl; ranges = refl; freed = refl })
query_unmade (Reading (Read atomic p len align)) quiet m t n n' x h = at_outcome (load_went atomic p len align m t n n' x h).goes (λ y w. IsUnmade n w.1) (record { thread = refl; count = refl; made = refl; ranges = refl; freed = refl })
query_unmade (Write atomic p ys align) quiet m t n n' x h = at_outcome (store_went atomic p ys align m t n n' x h).goes (λ y w. IsUnmade n w.1) (record { thread = refl; count = refl; made = refl; ranges = refl; freed = refl })
query_unmade (Modify p size change) quiet m t n n' x h = replaced_unmade p size m n (change x) t n' (modify_went p size m n change x t n' h).replaces
query_unmade (Allocate kind size align addr) quiet m t n n' x h = absurd quiet
query_unmade (Free p kind size align) quiet m t n n' x h = absurd quiet
