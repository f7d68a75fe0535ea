-- A bare step that completes, taken apart and put together, and what it makes of the list of threads.
use Rattle.mr_exchange.proofs.Common.{◌≡◌, ◌≢◌, ℕ, ◌<◌, refl, sym, ap, ◌∙◌, append-nil, List, [], ◌∷◌, ◌++◌, length, arith, Option, Some, None, slice_get, slice_set, length-set, ◌>>=◌, Outcome, Went, Broken, on, run, goes_on, Aborts, Completed, Exits, Flow, Goes, Language, Needs, State, Thread, bare, needs, thread_of, Notes, start_notes, Shared, StepScript, answer, set_there}
use Rattle.std.proofs.lemmas.List.{set-append_left, set_comm}
use Rattle.mr_base.specs.Script.{Refused}
use Rattle.mr_base.proofs.ScriptRuns.{run_bind}
use Rattle.mr_start.specs.PlanMachine.{Plan, acted, needed, needs_of, settle, settled, started_threads}
use Rattle.mr_start.proofs.PlanRooms.{in_front}

-- ---- the list of threads

-- behind a step: the thread's own state and count, and the thread that it starts
abbrev pub threads_after : {L : Type 0} → List (Thread L) → ℕ → L → ℕ → Option L → List (Thread L)
threads_after ths t own count started = slice_set ths t (thread_of own count) ++ started_threads started

-- another thread is as before
pub other_thread : {L : Type 0} (ths : List (Thread L)) (t u : ℕ) (own : L) (count : ℕ) (started : Option L) (th : Thread L) → u ≢ t → slice_get ths u ≡ Some th
    → slice_get (threads_after ths t own count started) u ≡ Some th
other_thread ths t u own count started th d h =
    in_front (slice_set ths t (thread_of own count)) (started_threads started) u th (set_there ths t u (thread_of own count) d ∙ h)

-- of two steps one at most starts a thread: their order doesn't matter
started_in_order : {L : Type 0} (ths : List (Thread L)) (x y : Option L) → ((p : L) → x ≡ Some p → (q : L) → y ≡ Some q → ⊥)
    → (ths ++ started_threads y) ++ started_threads x ≡ (ths ++ started_threads x) ++ started_threads y
started_in_order ths None None one = refl
started_in_order ths (Some p) None one = ap (λ l. l ++ thread_of p 0 ∷ []) (append-nil ths) ∙ sym (append-nil (ths ++ thread_of p 0 ∷ []))
started_in_order ths None (Some q) one = append-nil (ths ++ thread_of q 0 ∷ []) ∙ sym (ap (λ l. l ++ thread_of q 0 ∷ []) (append-nil ths))
started_in_order ths (Some p) (Some q) one = absurd (one p refl q refl)

-- two steps of different threads change the list alike in either order
module _ {L : Type 0} (ths : List (Thread L)) (t u : ℕ) (a b : L) (ca cb : ℕ) (x y : Option L) (apart : t ≢ u) (t_in : t < length ths) (u_in : u < length ths)
    (one : (p : L) → x ≡ Some p → (q : L) → y ≡ Some q → ⊥) where
  -- u after t, and t after u
  t_first : threads_after (threads_after ths t a ca x) u b cb y ≡ (slice_set (slice_set ths t (thread_of a ca)) u (thread_of b cb) ++ started_threads x) ++ started_threads y
  t_first =
      let long = length-set ths t (thread_of a ca) in
      ap (λ l. l ++ started_threads y) (set-append_left (slice_set ths t (thread_of a ca)) (started_threads x) u (thread_of b cb) (omega arith))

  u_first : threads_after (threads_after ths u b cb y) t a ca x ≡ (slice_set (slice_set ths u (thread_of b cb)) t (thread_of a ca) ++ started_threads y) ++ started_threads x
  u_first =
      let long = length-set ths u (thread_of b cb) in
      ap (λ l. l ++ started_threads x) (set-append_left (slice_set ths u (thread_of b cb)) (started_threads y) t (thread_of a ca) (omega arith))

  -- so the list is the same in the end
  pub threads_in_order : threads_after (threads_after ths u b cb y) t a ca x ≡ threads_after (threads_after ths t a ca x) u b cb y
  threads_in_order =
      u_first
      ∙ ap (λ l. (l ++ started_threads y) ++ started_threads x) (sym (set_comm ths t u (thread_of a ca) (thread_of b cb) apart))
      ∙ started_in_order (slice_set (slice_set ths t (thread_of a ca)) u (thread_of b cb)) x y one
      ∙ sym t_first

-- ---- a step

-- what the plan of a step needs
abbrev pub needs_in : {A : Type 0} → Plan A → Needs
needs_in plan = record { creates = plan.creates; asks = plan.asks }

completed : {L : Type 0} {n n' : Notes} {s s' : State L} → Completed n s ≡ Completed n' s' → (n ≡ n') × (s ≡ s')
completed h = (cc, cc)

module _ {L : Type 0} (step : Language L) where
  -- a step as one script
  abbrev pub whole : L → List ℕ → StepScript (Flow L)
  whole own picks = step.next own >>= λ plan. plan.go picks

  -- A step that completed: its thread, the plan that it made, and how the plan was carried out.
  pub record Taken (s : State L) (t : ℕ) (picks : List ℕ) (n : Notes) (s' : State L) : Type 0 where
    pub th : Thread L
    pub here : slice_get s.threads t ≡ Some th
    pub plan : Plan (StepScript (Flow L))
    pub mid : Shared
    pub noted : Notes
    pub own : L
    pub started : Option L
    pub first : run answer (step.next th.own) (s.shared, start_notes t th.count) ≡ Went plan (mid, noted)
    pub second : run answer (plan.go picks) (mid, noted) ≡ Went (Goes own started) (s'.shared, n)
    pub threads : s'.threads ≡ threads_after s.threads t own n.tally.count started

  -- EACH COMPLETED STEP IS SO
  pub taken : (s : State L) (t : ℕ) (picks : List ℕ) (n : Notes) (s' : State L) → bare step s t picks ≡ Completed n s' → Taken s t picks n s'
  taken s t picks n s' h = by_thread (slice_get s.threads t) refl h
    where
      by_flow : (th : Thread L) (flow : Flow L) (w : Shared × Notes) → slice_get s.threads t ≡ Some th
          → run answer (whole th.own picks) (s.shared, start_notes t th.count) ≡ Went flow w → settle s t flow w ≡ Completed n s' → Taken s t picks n s'
      by_flow th (Goes own started) w e r k =
          let c = completed k in
          let p = goes_on (run answer (step.next th.own) (s.shared, start_notes t th.count)) (λ plan v. run answer (plan.go picks) v) (Goes own started) w
          (sym (run_bind answer (step.next th.own) (λ plan. plan.go picks) (s.shared, start_notes t th.count)) ∙ r) in
          record {
            th = th;
            here = e;
            plan = p.value;
            mid = p.mid.0;
            noted = p.mid.1;
            own = own;
            started = started;
            first = p.first;
            second = p.rest ∙ (λ i. Went (Goes own started) ((c.1 i).shared, c.0 i));
            threads = sym (ap (λ (v : State L). v.threads) c.1) ∙ ap (λ (k : Notes). threads_after s.threads t own k.tally.count started) c.0;
          }
      by_flow th Exits w e r k = absurd (cc)
      by_flow th Aborts w e r k = absurd (cc)

      by_outcome : (th : Thread L) (o : Outcome (Flow L) (Shared × Notes)) → slice_get s.threads t ≡ Some th
          → run answer (whole th.own picks) (s.shared, start_notes t th.count) ≡ o → settled s t o ≡ Completed n s' → Taken s t picks n s'
      by_outcome th (Went flow w) e r k = by_flow th flow w e r k
      by_outcome th (Refused reason) e r k = absurd (cc)
      by_outcome th Broken e r k = absurd (cc)

      by_thread : (o : Option (Thread L)) → slice_get s.threads t ≡ o → acted step s t picks o ≡ Completed n s' → Taken s t picks n s'
      by_thread None e k = absurd (cc)
      by_thread (Some th) e k = by_outcome th (run answer (whole th.own picks) (s.shared, start_notes t th.count)) e refl k

  -- the plan and what is done with it, as one run
  pub whole_run : (s : State L) (t : ℕ) (picks : List ℕ) (n : Notes) (s' : State L) (k : Taken s t picks n s')
      → run answer (whole k.th.own picks) (s.shared, start_notes t k.th.count) ≡ Went (Goes k.own k.started) (s'.shared, n)
  whole_run s t picks n s' k =
      run_bind answer (step.next k.th.own) (λ plan. plan.go picks) (s.shared, start_notes t k.th.count)
      ∙ ap (λ o. on o (λ plan v. run answer (plan.go picks) v)) k.first
      ∙ k.second

  -- and put together
  pub bare_goes : (s : State L) (t : ℕ) (picks : List ℕ) (th : Thread L) (own : L) (started : Option L) (shared : Shared) (n : Notes) → slice_get s.threads t ≡ Some th
      → run answer (whole th.own picks) (s.shared, start_notes t th.count) ≡ Went (Goes own started) (shared, n)
      → bare step s t picks ≡ Completed n (record { shared = shared; threads = threads_after s.threads t own n.tally.count started })
  bare_goes s t picks th own started shared n e r = ap (acted step s t picks) e ∙ ap (settled s t) r

  -- what it needs is what its plan needs
  pub needs_are : (s : State L) (t : ℕ) (th : Thread L) (plan : Plan (StepScript (Flow L))) (w : Shared × Notes) → slice_get s.threads t ≡ Some th
      → run answer (step.next th.own) (s.shared, start_notes t th.count) ≡ Went plan w → needs step s t ≡ needs_in plan
  needs_are s t th plan w e r = ap (needed step s t) e ∙ ap needs_of r
