-- What a run of a script over memory leaves of the allocations that it doesn't free: they are there and live still.
use Rattle.mr_plan.proofs.Common.{◌≡◌, ℕ, ◌<◌, refl, sym, ap, ◌∙◌, subst, List, [], ◌∷◌, ◌++◌, length, arith, inl, inr, Option, Some, true, Contains, Contains-push, same_Some, AbstractByte, AllocId, Pointer, Done, Undefined, IllFormed, Ask, Went, run, goes_on, same_state, Kind, Allocation, Memory, allocated, fresh, get_here, get_there, Allocate, Free, MemoryQuery, MemoryReply, MemoryScript, Modify, Reading, Write, memory_answer, next_id, number_bytes, Check, Read, Refer, Tally}
use Rattle.std.specs.FinMap as fin
use Rattle.mr_plan.proofs.FreeLaws.{Frees, dead, frees}
use Rattle.mr_plan.proofs.Headers.{Lasting, lasting_then}
use Rattle.mr_plan.proofs.IdentityCases.{id_cases}
use Rattle.mr_plan.proofs.MemoryAnswers.{Replaces, changes, check_went, free_went, load_went, modify_went, refer_went, stays, store_went}
use Rattle.mr_plan.proofs.MemoryFacts.{MemoryFacts, memory_facts}
use Rattle.mr_plan.proofs.RangeChecks.{Gave, aligned_ok, empty, filled, gave, ranged}
use Rattle.mr_plan.proofs.StoreLaws.{put_one, rewritten, rewritten_size, stored_in, written_is}
use Rattle.mr_plan.proofs.TallyGrows.{TallyGrows, grow_then, grows_same, longer_contains, tally_grows}
use Rattle.mr_plan.proofs.WentLaws.{at_outcome}

-- there is a live allocation that has what this one keeps for good
pub record Lives (a : Allocation) (m : Memory) (id : AllocId) : Type 0 where
  pub alloc : Allocation
  pub there : fin.get m id ≡ Some alloc
  pub lasting : Lasting a alloc
  pub live : alloc.live ≡ true

-- what is live stays so where an allocation is changed that stays live
live_put : (m : Memory) (id : AllocId) (a b : Allocation) → fin.get m id ≡ Some a → Lasting a b → (a.live ≡ true → b.live ≡ true)
    → (o : Allocation) (q : AllocId) → Lives o m q → Lives o (fin.insert m id b) q
live_put m id a b there lasting stay o q h = elim (id_cases q id) [
  | inl e ↦
      let same : h.alloc ≡ a = same_Some h.alloc a (sym h.there ∙ ap (fin.get m) e ∙ there) in
      record {
        alloc = b;
        there = ap (fin.get (fin.insert m id b)) e ∙ get_here m id b;
        lasting = lasting_then o a b (subst (Lasting o) same h.lasting) lasting;
        live = stay (ap (λ (w : Allocation). w.live) (sym same) ∙ h.live);
      }
  | inr d ↦ record { alloc = h.alloc; there = get_there m id b q d ∙ h.there; lasting = h.lasting; live = h.live }
]

live_stored : (m after : Memory) (p : Pointer) (ys : List AbstractByte) → Gave m p (length ys) m (stored_in m p ys) after → (o : Allocation) (q : AllocId) → Lives o m q → Lives o after q
live_stored m after p ys (empty z e) o q h = subst (λ v. Lives o v q) e h
live_stored m after p ys (filled id a ne w e) o q h =
    subst (λ v. Lives o v q) (sym (ap (λ o. put_one m o (rewritten a p.addr ys)) w.prov) ∙ e)
    (live_put m id a (rewritten a p.addr ys) w.there
    (record { addr = refl; span = refl; align = refl; kind = refl; size = sym (rewritten_size a p.addr ys w.range.from w.range.to) })
    (λ l. l) o q h)

-- ---- of one query

module _ (m0 : Memory) (t c : ℕ) (m : Memory) (n : Tally) (f : MemoryFacts m0 t c m n) (o : Allocation) (id : AllocId) (h : Lives o m id) where
  made_live : (kind : Kind) (size align addr : ℕ) → Lives o (allocated m (next_id n) kind size align addr) id
  made_live kind size align addr = elim (id_cases id (next_id n)) [
    | inl e ↦
        let k : id.count < n.count = f.counted id h.alloc h.there (ap (λ (i : AllocId). i.thread) e ∙ f.thread) in
        let same : id.count ≡ n.count = ap (λ (i : AllocId). i.count) e in
        absurd (omega arith)
    | inr d ↦ record { alloc = h.alloc; there = get_there m (next_id n) (fresh kind size align addr) id d ∙ h.there; lasting = h.lasting; live = h.live }
  ]

  freed_live : (p : Pointer) (kind : Kind) (size align : ℕ) (r : AllocId × Memory) → Frees m p kind size align r → (Contains (n.freed ++ r.0 ∷ []) id → ⊥) → Lives o r.1 id
  freed_live p kind size align r e apart =
      let is : e.id ≡ r.0 = ap (λ w. w.0) e.is in
      elim (id_cases id e.id) [
        | inl same ↦ absurd (apart (subst (Contains (n.freed ++ r.0 ∷ [])) (sym (same ∙ is)) (Contains-push n.freed r.0)))
        | inr d ↦ subst (λ v. Lives o v id) (ap (λ w. w.1) e.is) (record { alloc = h.alloc; there = get_there m e.id (dead e.alloc) id d ∙ h.there; lasting = h.lasting; live = h.live })
      ]

  replaced_live : (p : Pointer) (size : ℕ) (put : Option ℕ) (m' : Memory) (n' : Tally) → Replaces p size m n put m' n' → Lives o m' id
  replaced_live p size put m' n' (stays none same noted) = subst (λ v. Lives o v id) same h
  replaced_live p size put m' n' (changes k some wrote noted) =
      let ys = number_bytes size k in
      let ok = aligned_ok p size (ranged m p (length ys) m (stored_in m p ys)) m' (sym (written_is m p ys size) ∙ wrote) in
      live_stored m m' p ys (gave m p (length ys) m (stored_in m p ys) m' ok.1) o id h

  -- what is live and isn't freed by the query is live behind it
  pub query_live : (q : MemoryQuery) (m' : Memory) (n' : Tally) (x : MemoryReply q) → memory_answer q (m, n) ≡ Went x (m', n') → (Contains n'.freed id → ⊥) → Lives o m' id
  query_live (Reading (Check p len)) m' n' x e apart = at_outcome (check_went p len m m' n n' x e).goes (λ y w. Lives o w.0 id) h
  query_live (Reading (Refer p len)) m' n' x e apart = at_outcome (refer_went p len m m' n n' x e).goes (λ y w. Lives o w.0 id) h
  query_live (Reading (Read atomic p len align)) m' n' x e apart = at_outcome (load_went atomic p len align m m' n n' x e).goes (λ y w. Lives o w.0 id) h
  query_live (Write atomic p ys align) m' n' x e apart =
      let a = store_went atomic p ys align m m' n n' x e in
      let ok = aligned_ok p align (ranged m p (length ys) m (stored_in m p ys)) a.result (sym (written_is m p ys align) ∙ a.is) in
      at_outcome a.goes (λ y w. Lives o w.0 id) (live_stored m a.result p ys (gave m p (length ys) m (stored_in m p ys) a.result ok.1) o id h)
  query_live (Modify p size change) m' n' x e apart = replaced_live p size (change x) m' n' (modify_went p size m n change x m' n' e).replaces
  query_live (Allocate kind size align addr) m' n' x e apart = at_outcome e (λ y w. Lives o w.0 id) (made_live kind size align addr)
  query_live (Free p kind size align) m' n' x e apart =
      let a = free_went p kind size align m m' n n' x e in
      at_outcome a.goes (λ y w. (Contains w.1.freed id → ⊥) → Lives o w.0 id) (freed_live p kind size align a.result (frees m p kind size align a.result a.is)) apart

-- ---- of a run

-- what a run leaves: the facts, a tally that only grew, and what was live and isn't freed
pub record RunLeaves (m0 : Memory) (t c : ℕ) (m : Memory) (n : Tally) (m' : Memory) (n' : Tally) : Type 0 where
  pub facts : MemoryFacts m0 t c m' n'
  pub grows : TallyGrows n n'
  pub live : (o : Allocation) (id : AllocId) → Lives o m id → (Contains n'.freed id → ⊥) → Lives o m' id

pub run_leaves : {A : Type 0} (m0 : Memory) (t c : ℕ) (script : MemoryScript A) (m m' : Memory) (n n' : Tally) (x : A) → MemoryFacts m0 t c m n → run memory_answer script (m, n) ≡ Went x (m', n') → RunLeaves m0 t c m n m' n'
run_leaves m0 t c (Done a) m m' n n' x f e = subst (λ w. RunLeaves m0 t c m n w.0 w.1) (same_state e) (record { facts = f; grows = grows_same n; live = λ o id h apart. h })
run_leaves m0 t c (Undefined r) m m' n n' x f e = cc
run_leaves m0 t c IllFormed m m' n n' x f e = cc
run_leaves m0 t c (Ask q k) m m' n n' x f e =
    let g = goes_on _ _ _ _ e in
    let mid : MemoryFacts m0 t c g.mid.0 g.mid.1 = memory_facts m0 t c q m g.mid.0 n g.mid.1 g.value f g.first in
    let rest = run_leaves m0 t c (k g.value) g.mid.0 m' g.mid.1 n' x mid g.rest in
    record {
      facts = rest.facts;
      grows = grow_then n g.mid.1 n' (tally_grows q m g.mid.0 n g.mid.1 g.value g.first) rest.grows;
      live = λ o id h apart. rest.live o id (query_live m0 t c m n f o id h q g.mid.0 g.mid.1 g.value g.first (λ b. apart (longer_contains _ _ id rest.grows.freed b))) apart;
    }
