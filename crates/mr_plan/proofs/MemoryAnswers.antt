-- What each query to memory comes to, by the result that memory gives.
use Rattle.mr_plan.proofs.Common.{◌≡◌, ℕ, ◌+◌, refl, ap, subst, ◌∙◌, List, [], ◌∷◌, ◌++◌, Result, Ok, Err, Option, Some, None, Bool, true, false, length, AbstractByte, AllocId, Kind, Pointer, Reason, DanglingReference, Changes, Moves, Refers, Outcome, Went, on, Memory, checked, freed, read, written, Check, Read, Refer, Seen, accessing, answered, named, seeing, touching, Free, Modify, Reading, Write, changing, memory_answer, next_id, number_bytes, replacing, Tally, seen_of, with_seen, same_state, same_value}
use Rattle.mr_base.specs.declared.reached.Reaching.{Reaching}
use Rattle.mr_base.specs.declared.reached.Reaching.TheVariants.{Frees, Loads, Stores}
use Rattle.mr_base.specs.Stops.{reached_by}
use Rattle.mr_eval.specs.ValueNumbers.{number_of}
use Rattle.mr_plan.proofs.WentLaws.{HasResult, has_result}

-- the notes behind a range check, a load, a store, a new allocation and the end of one
abbrev pub with_check : Pointer → ℕ → Tally → Tally
with_check p len n = with_seen n (seeing [] (touching p len) (seen_of n))

abbrev pub with_load : Bool → Pointer → ℕ → Tally → Tally
with_load atomic p len n = with_seen n (seeing (accessing false atomic p len) (touching p len) (seen_of n))

abbrev pub with_store : Bool → Pointer → List AbstractByte → Tally → Tally
with_store atomic p ys n = with_seen n (seeing (accessing true atomic p (length ys)) (touching p (length ys)) (seen_of n))

-- an atomic store into a range that was checked by then
abbrev pub with_change : Pointer → ℕ → Tally → Tally
with_change p size n = with_seen n (seeing (accessing true true p size) [] (seen_of n))

abbrev pub with_made : ℕ → ℕ → Tally → Tally
with_made size addr n = record n { made = n.made ++ next_id n ∷ []; ranges = n.ranges ++ (addr, size) ∷ []; count = n.count + 1 }

abbrev pub with_freed : AllocId → Tally → Tally
with_freed id n = record n { freed = n.freed ++ id ∷ [] }

-- what a range check, a load, a store and the end of an allocation come to
abbrev pub checks : {X : Type 0} → Reaching → Pointer → ℕ → Memory → Tally → Result X Reason → Outcome (Unit {0}) (Memory × Tally)
checks doing p len m n r = on (answered (reached_by doing p len) r (λ _. Went tt (seeing [] (touching p len) (seen_of n)))) (λ y s. Went y (m, with_seen n s))

abbrev pub loads : Bool → Pointer → ℕ → Memory → Tally → Result (List AbstractByte) Reason → Outcome (List AbstractByte) (Memory × Tally)
loads atomic p len m n r = on (answered (reached_by Loads p len) r (λ bytes. Went bytes (seeing (accessing false atomic p len) (touching p len) (seen_of n)))) (λ y s. Went y (m, with_seen n s))

abbrev pub stores : Bool → Pointer → List AbstractByte → Tally → Result Memory Reason → Outcome (Unit {0}) (Memory × Tally)
stores atomic p ys n r = on (answered (reached_by Stores p (length ys)) r (λ new. Went new (seeing (accessing true atomic p (length ys)) (touching p (length ys)) (seen_of n)))) (λ v s. Went tt (v, with_seen n s))

abbrev pub ends : Pointer → ℕ → Tally → Result (AllocId × Memory) Reason → Outcome (Unit {0}) (Memory × Tally)
ends p size n r = answered (reached_by Frees p size) r (λ f. Went tt (f.1, with_freed f.0 n))

module _ (p : Pointer) (len : ℕ) (m t : Memory) (n n' : Tally) where
  pub check_went : (x : Unit {0}) → memory_answer (Reading (Check p len)) (m, n) ≡ Went x (t, n') → HasResult (checked m p len) (checks Moves p len m n) x (t, n')
  check_went x h = has_result (checked m p len) (checks Moves p len m n) x (t, n') (λ e k. cc) h

  pub refer_went : (x : Unit {0}) → memory_answer (Reading (Refer p len)) (m, n) ≡ Went x (t, n') → HasResult (checked m p len) (λ r. checks Refers p len m n (named DanglingReference r)) x (t, n')
  refer_went x h = has_result (checked m p len) (λ r. checks Refers p len m n (named DanglingReference r)) x (t, n') (λ e k. cc) h

pub load_went : (atomic : Bool) (p : Pointer) (len align : ℕ) (m t : Memory) (n n' : Tally) (x : List AbstractByte)
    → memory_answer (Reading (Read atomic p len align)) (m, n) ≡ Went x (t, n') → HasResult (read m p len align) (loads atomic p len m n) x (t, n')
load_went atomic p len align m t n n' x h = has_result (read m p len align) (loads atomic p len m n) x (t, n') (λ e k. cc) h

pub store_went : (atomic : Bool) (p : Pointer) (ys : List AbstractByte) (align : ℕ) (m t : Memory) (n n' : Tally) (x : Unit {0})
    → memory_answer (Write atomic p ys align) (m, n) ≡ Went x (t, n') → HasResult (written m p ys align) (stores atomic p ys n) x (t, n')
store_went atomic p ys align m t n n' x h = has_result (written m p ys align) (stores atomic p ys n) x (t, n') (λ e k. cc) h

pub free_went : (p : Pointer) (kind : Kind) (size align : ℕ) (m t : Memory) (n n' : Tally) (x : Unit {0})
    → memory_answer (Free p kind size align) (m, n) ≡ Went x (t, n') → HasResult (freed m p kind size align) (ends p size n) x (t, n')
free_went p kind size align m t n n' x h = has_result (freed m p kind size align) (ends p size n) x (t, n') (λ e k. cc) h

-- ---- modifications

-- what is put in the place of a number, or nothing
pub data Replaces (p : Pointer) (size : ℕ) (m : Memory) (n : Tally) (new : Option ℕ) (t : Memory) (n' : Tally) : Type 0 where
  stays : new ≡ None → m ≡ t → with_load true p size n ≡ n' → Replaces p size m n new t n'
  changes : (k : ℕ) → new ≡ Some k → written m p (number_bytes size k) size ≡ Ok t → with_change p size (with_load true p size n) ≡ n' → Replaces p size m n new t n'

-- a modification that went on: the bytes that were read, which are the number that it gives, and what was put in its place
pub record Modifies (p : Pointer) (size : ℕ) (change : ℕ → Option ℕ) (m : Memory) (n : Tally) (x : ℕ) (t : Memory) (n' : Tally) : Type 0 where
  pub bytes : List AbstractByte
  pub is_read : read m p size size ≡ Ok bytes
  pub is_number : number_of bytes ≡ Some x
  pub replaces : Replaces p size m n (change x) t n'

module _ (p : Pointer) (size : ℕ) (m : Memory) (n : Tally) where
  abbrev loaded : Seen
  loaded = seeing (accessing false true p size) (touching p size) (seen_of n)

  abbrev placing : Outcome ℕ (Memory × Seen) → Outcome ℕ (Memory × Tally)
  placing o = on o (λ x v. Went x (v.0, with_seen n v.1))

  written_went : (old k : ℕ) (r : Result Memory Reason) (x : ℕ) (t : Memory) (n' : Tally)
      → placing (answered (reached_by Changes p size) r (λ after. Went old (after, seeing (accessing true true p size) [] loaded))) ≡ Went x (t, n')
      → (old ≡ x) × (r ≡ Ok t) × (with_change p size (with_load true p size n) ≡ n')
  written_went old k (Ok after) x t n' h = (same_value h, ap (λ w. Ok w.0) (same_state h), ap (λ w. w.1) (same_state h))
  written_went old k (Err r) x t n' h = absurd (cc)

  replaced_went : (old : ℕ) (new : Option ℕ) (x : ℕ) (t : Memory) (n' : Tally)
      → placing (replacing m p size old new loaded) ≡ Went x (t, n') → (old ≡ x) × Replaces p size m n new t n'
  replaced_went old None x t n' h = (same_value h, stays refl (ap (λ w. w.0) (same_state h)) (ap (λ w. w.1) (same_state h)))
  replaced_went old (Some k) x t n' h =
      let w = written_went old k (written m p (number_bytes size k) size) x t n' h in
      (w.0, changes k refl w.1 w.2)

  module _ (change : ℕ → Option ℕ) where
    changed_went : (bytes : List AbstractByte) (o : Option ℕ) (x : ℕ) (t : Memory) (n' : Tally) → read m p size size ≡ Ok bytes → number_of bytes ≡ o
        → placing (changing m p size change o loaded) ≡ Went x (t, n') → Modifies p size change m n x t n'
    changed_went bytes None x t n' r e h = absurd (cc)
    changed_went bytes (Some old) x t n' r e h =
        let w = replaced_went old (change old) x t n' h in
        record { bytes = bytes; is_read = r; is_number = e ∙ ap (λ k. Some k) w.0; replaces = subst (λ k. Replaces p size m n (change k) t n') w.0 w.1 }

    read_went : (r : Result (List AbstractByte) Reason) (x : ℕ) (t : Memory) (n' : Tally) → read m p size size ≡ r
        → placing (on (answered (reached_by Changes p size) r (λ bytes. Went bytes loaded)) (λ bytes s. changing m p size change (number_of bytes) s)) ≡ Went x (t, n') → Modifies p size change m n x t n'
    read_went (Ok bytes) x t n' e h = changed_went bytes (number_of bytes) x t n' e refl h
    read_went (Err r) x t n' e h = absurd (cc)

    pub modify_went : (x : ℕ) (t : Memory) (n' : Tally) → memory_answer (Modify p size change) (m, n) ≡ Went x (t, n') → Modifies p size change m n x t n'
    modify_went x t n' h = read_went (read m p size size) x t n' refl h

    -- and the other way round
    replaces_goes : (x : ℕ) (new : Option ℕ) (t : Memory) (n' : Tally) → Replaces p size m n new t n' → placing (replacing m p size x new loaded) ≡ Went x (t, n')
    replaces_goes x new t n' (stays none same noted) =
        ap (λ o. placing (replacing m p size x o loaded)) none ∙ ap (λ v. Went x (v, with_load true p size n)) same ∙ ap (λ k. Went x (t, k)) noted
    replaces_goes x new t n' (changes k some wrote noted) =
        ap (λ o. placing (replacing m p size x o loaded)) some
        ∙ ap (λ r. placing (answered (reached_by Changes p size) r (λ after. Went x (after, seeing (accessing true true p size) [] loaded)))) wrote
        ∙ ap (λ k. Went x (t, k)) noted

    pub modify_goes : (x : ℕ) (t : Memory) (n' : Tally) → Modifies p size change m n x t n' → memory_answer (Modify p size change) (m, n) ≡ Went x (t, n')
    modify_goes x t n' w =
        ap (λ r. placing (on (answered (reached_by Changes p size) r (λ bytes. Went bytes loaded)) (λ bytes s. changing m p size change (number_of bytes) s))) w.is_read
        ∙ ap (λ o. placing (changing m p size change o loaded)) w.is_number
        ∙ replaces_goes x (change x) t n' w.replaces
