-- Parts of a step that ask memory alone: the allocations that they make. They note no event, and evaluation notes no allocation either.
use Rattle.mr_exchange.proofs.Common.{◌≡◌, refl, sym, subst, Done, Undefined, IllFormed, Ask, ◌>>=◌, Allocate, Free, MemoryReply, MemoryScript, Modify, Reading, Write, reading_part}
use Rattle.mr_start.specs.EvalMemoryQueries.{MemoryQuery}
use Rattle.mr_start.specs.EvalReads.{ReadScript}
use Rattle.mr_exchange.specs.PlanQueries.{StepScript, memory_part}
use Rattle.mr_start.proofs.FrameStorageSteps.{Leads}
use Rattle.mr_exchange.proofs.PlanQuietRuns.{IsQuiet, IsQuietQuery}
use Rattle.mr_exchange.proofs.Marks.{Marks, NewRanges, marked, with_new}
use Rattle.mr_exchange.proofs.Tracked.{Tracks, tracks_map, tracks_then}

-- ---- over memory

-- Whatever memory answers, the script takes the new ranges from these to those.
abbrev pub Makes : {A : Type 0} → NewRanges → NewRanges → MemoryScript A → Type 0
Makes before after script = Tracks with_new (λ x rs. rs ≡ after) before script

-- a query that neither makes nor frees an allocation
quiet_new : (q : MemoryQuery) → IsQuietQuery q → (x : MemoryReply q) (rs : NewRanges) → with_new q x rs ≡ rs
quiet_new (Reading q) h x rs = refl
quiet_new (Write atomic p bytes align) h x rs = refl
quiet_new (Modify p size change) h x rs = refl
quiet_new (Allocate kind size align addr) h x rs = absurd h
quiet_new (Free p kind size align) h x rs = absurd h

-- a script that neither makes nor frees an allocation
pub quiet_makes : {A : Type 0} (rs : NewRanges) (script : MemoryScript A) → IsQuiet script → Makes rs rs script
quiet_makes rs (Done a) h = refl
quiet_makes rs (Undefined r) h = tt
quiet_makes rs IllFormed h = tt
quiet_makes rs (Ask q k) h = λ x. subst (λ v. Makes v rs (k x)) (sym (quiet_new q h.0 x rs)) (quiet_makes rs (k x) (h.1 x))

-- a script, and one behind it
pub makes_then : {A B : Type 0} (a b c : NewRanges) (m : MemoryScript A) (f : A → MemoryScript B) → Makes a b m → ((x : A) → Makes b c (f x)) → Makes a c (m >>= f)
makes_then a b c m f h k = tracks_then with_new (λ x rs. rs ≡ b) (λ x rs. rs ≡ c) a m f h (λ x v same. subst (λ rs. Makes rs c (f x)) (sym same) (k x))

-- one that is quiet, and one behind it
pub makes_behind : {A B : Type 0} (a c : NewRanges) (m : MemoryScript A) (f : A → MemoryScript B) → IsQuiet m → ((x : A) → Makes a c (f x)) → Makes a c (m >>= f)
makes_behind a c m f quiet k = makes_then a a c m f (quiet_makes a m quiet) k

-- ---- evaluation

-- what holds of all results
leads_any : {A : Type 0} (P : A → Type 0) (script : ReadScript A) → ((x : A) → P x) → Leads P script
leads_any P (Done a) h = h a
leads_any P (Undefined r) h = tt
leads_any P IllFormed h = tt
leads_any P (Ask q k) h = λ x. leads_any P (k x) h

-- a script behind one of which nothing needs to be known
pub leads_behind : {A B : Type 0} (P : B → Type 0) (m : ReadScript A) (f : A → ReadScript B) → ((x : A) → Leads P (f x)) → Leads P (m >>= f)
leads_behind P (Done a) f h = h a
leads_behind P (Undefined r) f h = tt
leads_behind P IllFormed f h = tt
leads_behind P (Ask q k) f h = λ x. leads_behind P (k x) f h

-- ---- in a step

-- evaluation, and what is done with what it found
pub reads_then : {A B : Type 0} (Found : A → Type 0) (P : B → Marks → Type 0) (e : Marks) (m : ReadScript A) (f : A → StepScript B)
    → Leads Found m → ((x : A) → Found x → Tracks marked P e (f x)) → Tracks marked P e (memory_part (reading_part m) >>= f)
reads_then Found P e (Done a) f h k = k a h
reads_then Found P e (Undefined r) f h k = tt
reads_then Found P e IllFormed f h k = tt
reads_then Found P e (Ask q c) f h k = λ x. reads_then Found P e (c x) f (h x) k

-- whatever it found
pub reads_any : {A B : Type 0} (P : B → Marks → Type 0) (e : Marks) (m : ReadScript A) (f : A → StepScript B)
    → ((x : A) → Tracks marked P e (f x)) → Tracks marked P e (memory_part (reading_part m) >>= f)
reads_any P e m f k = reads_then (λ x. Unit {0}) P e m f (leads_any (λ x. Unit {0}) m (λ x. tt)) (λ x h. k x)

-- A PART THAT ASKS MEMORY ALONE notes its new ranges, and nothing else of both
pub memory_tracks : {A : Type 0} (P : A → Marks → Type 0) (e : Marks) (m : MemoryScript A) → Tracks with_new (λ x rs. P x (e.0, rs)) e.1 m → Tracks marked P e (memory_part m)
memory_tracks P e (Done a) h = h
memory_tracks P e (Undefined r) h = tt
memory_tracks P e IllFormed h = tt
memory_tracks P e (Ask q k) h = λ x. memory_tracks P (e.0, with_new q x e.1) (k x) (h x)

-- and what is done behind it
pub makes_first : {A B : Type 0} (P : B → Marks → Type 0) (e : Marks) (rs : NewRanges) (m : MemoryScript A) (f : A → StepScript B)
    → Makes e.1 rs m → ((x : A) → Tracks marked P (e.0, rs) (f x)) → Tracks marked P e (memory_part m >>= f)
makes_first {A = A} P e rs m f h k =
    let Rest : A → Marks → Type 0 = λ x v. Tracks marked P v (f x) in
    tracks_then marked Rest P e (memory_part m) f
    (memory_tracks Rest e m (tracks_map with_new (λ x v. v ≡ rs) (λ x v. Rest x (e.0, v)) e.1 m (λ x v same. subst (λ z. Rest x (e.0, z)) (sym same) (k x)) h))
    (λ x v rest. rest)
