-- Of a query to memory the tally only grows.
use Rattle.mr_plan.proofs.Common.{◌≡◌, ℕ, ◌≤◌, refl, sym, ap, ◌∙◌, subst, Option, List, [], ◌∷◌, ◌++◌, append-nil, arith, inl, inr, Any, Contains, true, Contains-append_left, Access, AllocId, Went, Memory, Check, Read, Refer, seeing, Pointer, Allocate, Free, Modify, MemoryQuery, MemoryReply, Reading, Write, memory_answer, Tally, seen_of, with_seen, ByteAt, Covers, HeaderOf, MemoryPlace, ReadsMemory, StoresAt, WritesMemory}
use Rattle.std.proofs.lemmas.List.{append_assoc}
use Rattle.mr_base.proofs.Lists.{Any-append_left}
use Rattle.mr_plan.proofs.MemoryAnswers.{Modifies, Replaces, changes, check_went, free_went, load_went, modify_went, refer_went, stays, store_went, with_freed, with_load, with_made}
use Rattle.mr_plan.proofs.WentLaws.{at_outcome}

-- with more at its end
abbrev pub Longer : {A : Type 0} → List A → List A → Type 0
Longer {A} xs ys = (more : List A) × (ys ≡ xs ++ more)

pub longer_same : {A : Type 0} (xs : List A) → Longer xs xs
longer_same xs = ([], sym (append-nil xs))

longer_then : {A : Type 0} (xs ys zs : List A) → Longer xs ys → Longer ys zs → Longer xs zs
longer_then xs ys zs l k = (l.0 ++ k.0, k.1 ∙ ap (λ w. w ++ k.0) l.1 ∙ append_assoc xs l.0 k.0)

pub longer_contains : {A : Type 0} (xs ys : List A) (x : A) → Longer xs ys → Contains xs x → Contains ys x
longer_contains xs ys x l h = subst (λ zs. Contains zs x) (sym l.1) (Contains-append_left xs l.0 x h)

pub longer_any : {A : Type 0} (P : A → Type 0) (xs ys : List A) → Longer xs ys → Any P xs → Any P ys
longer_any P xs ys l h = subst (Any P) (sym l.1) (Any-append_left P xs l.0 h)

-- what is noted of memory has grown
pub record TallyGrows (n n' : Tally) : Type 0 where
  pub thread : n'.thread ≡ n.thread
  pub count : n.count ≤ n'.count
  pub accesses : Longer n.accesses n'.accesses
  pub touched : Longer n.touched n'.touched
  pub made : Longer n.made n'.made
  pub ranges : Longer n.ranges n'.ranges
  pub freed : Longer n.freed n'.freed

pub grow_seeing : (n : Tally) (accesses : List Access) (touched : List AllocId) → TallyGrows n (with_seen n (seeing accesses touched (seen_of n)))
grow_seeing n accesses touched = record {
  thread = refl;
  count = omega arith;
  accesses = (accesses, refl);
  touched = (touched, refl);
  made = longer_same n.made;
  ranges = longer_same n.ranges;
  freed = longer_same n.freed;
}

grow_made : (n : Tally) (size addr : ℕ) → TallyGrows n (with_made size addr n)
grow_made n size addr = record {
  thread = refl;
  count = omega arith;
  accesses = longer_same n.accesses;
  touched = longer_same n.touched;
  made = (_, refl);
  ranges = (_, refl);
  freed = longer_same n.freed;
}

grow_freed : (n : Tally) (id : AllocId) → TallyGrows n (with_freed id n)
grow_freed n id = record {
  thread = refl;
  count = omega arith;
  accesses = longer_same n.accesses;
  touched = longer_same n.touched;
  made = longer_same n.made;
  ranges = longer_same n.ranges;
  freed = (id ∷ [], refl);
}

pub grows_same : (n : Tally) → TallyGrows n n
grows_same n = record {
  thread = refl;
  count = omega arith;
  accesses = longer_same n.accesses;
  touched = longer_same n.touched;
  made = longer_same n.made;
  ranges = longer_same n.ranges;
  freed = longer_same n.freed;
}

pub grow_then : (a b c : Tally) → TallyGrows a b → TallyGrows b c → TallyGrows a c
grow_then a b c g k = record {
  thread = k.thread ∙ g.thread;
  count = let x = g.count in let y = k.count in omega arith;
  accesses = longer_then _ _ _ g.accesses k.accesses;
  touched = longer_then _ _ _ g.touched k.touched;
  made = longer_then _ _ _ g.made k.made;
  ranges = longer_then _ _ _ g.ranges k.ranges;
  freed = longer_then _ _ _ g.freed k.freed;
}

grow_modified : (p : Pointer) (size : ℕ) (change : ℕ → Option ℕ) (m t : Memory) (n n' : Tally) (x : ℕ) → Modifies p size change m n x t n' → TallyGrows n n'
grow_modified p size change m t n n' x w = by_rest w.replaces
  where
    by_rest : {new : Option ℕ} → Replaces p size m n new t n' → TallyGrows n n'
    by_rest (stays none same noted) = subst (TallyGrows n) noted (grow_seeing n _ _)
    by_rest (changes k some wrote noted) = subst (TallyGrows n) noted (grow_then n (with_load true p size n) _ (grow_seeing n _ _) (grow_seeing (with_load true p size n) _ _))

pub tally_grows : (q : MemoryQuery) (m t : Memory) (n n' : Tally) (x : MemoryReply q) → memory_answer q (m, n) ≡ Went x (t, n') → TallyGrows n n'
tally_grows (Reading (Check p len)) m t n n' x h = at_outcome (check_went p len m t n n' x h).goes (λ y w. TallyGrows n w.1) (grow_seeing n _ _)
tally_grows (Reading (Refer p len)) m t n n' x h = at_outcome (refer_went p len m t n n' x h).goes (λ y w. TallyGrows n w.1) (grow_seeing n _ _)
tally_grows (Reading (Read atomic p len align)) m t n n' x h = at_outcome (load_went atomic p len align m t n n' x h).goes (λ y w. TallyGrows n w.1) (grow_seeing n _ _)
tally_grows (Write atomic p ys align) m t n n' x h = at_outcome (store_went atomic p ys align m t n n' x h).goes (λ y w. TallyGrows n w.1) (grow_seeing n _ _)
tally_grows (Modify p size change) m t n n' x h = grow_modified p size change m t n n' x (modify_went p size m n change x t n' h)
tally_grows (Allocate kind size align addr) m t n n' x h = at_outcome h (λ y w. TallyGrows n w.1) (grow_made n size addr)
tally_grows (Free p kind size align) m t n n' x h = at_outcome (free_went p kind size align m t n n' x h).goes (λ y w. TallyGrows n w.1) (grow_freed n _)

module _ (n n' : Tally) (g : TallyGrows n n') where
  pub reads_grow : (o : MemoryPlace) → ReadsMemory n o → ReadsMemory n' o
  reads_grow (HeaderOf id) (inl h) = inl (longer_contains _ _ id g.touched h)
  reads_grow (HeaderOf id) (inr h) = inr (longer_contains _ _ id g.freed h)
  reads_grow (ByteAt id x) h = (longer_contains _ _ id g.touched h.0, longer_any (Covers x) _ _ g.accesses h.1)

  pub writes_grow : (o : MemoryPlace) → WritesMemory n o → WritesMemory n' o
  writes_grow (HeaderOf id) (inl h) = inl (longer_contains _ _ id g.made h)
  writes_grow (HeaderOf id) (inr h) = inr (longer_contains _ _ id g.freed h)
  writes_grow (ByteAt id x) (inl h) = inl (longer_contains _ _ id g.touched h.0, longer_any (StoresAt x) _ _ g.accesses h.1)
  writes_grow (ByteAt id x) (inr h) = inr (longer_contains _ _ id g.made h)
