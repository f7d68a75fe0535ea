-- Where the turn of an enabled thread leads.
use Rattle.mr_step.proofs.Common.{◌≡◌, ℕ, zero, suc, ◌++◌, arith, refl, sym, ap, ap₂, ◌∙◌, subst, List, [], ◌∷◌, length, true, Option, Some, None, Err, same_Some, slice_get_within, slice_get, slice_set, option_map, Scene, Memory, Entry, Fault, Notes, Config, after_bare, entry_fault, Look, look_of, Own, thread_step, own_of, picks_break, planned, shared_in, turn_by, turned, Progress, ActAnswer, Advances, IsDue, Stays, fault_of, config_of, numbered, state_of, state_unless, LeadsTo, Tells, bare_by}
use Rattle.std.proofs.Common.{Result}
use Rattle.std.proofs.Math.ListN.{length-set}
use Rattle.mr_base.specs.Stops.{Stop, stop_with}
use Rattle.mr_base.specs.declared.reached.Reached.{Reached}
use Rattle.mr_base.specs.declared.reason.Verdict.{Verdict}
use Rattle.mr_eval.specs.Tally.{start_tally}
use Rattle.mr_eval.specs.World.{tally_of, world_of}
use Rattle.mr_base.specs.Script.{Outcome, Refused}
use Rattle.mr_sync.specs.Tables.{Tables}
use Rattle.mr_plan.specs.Queries.{Shared}
use Rattle.mr_frame.specs.declared.flow.Flow.{Flow}
use Rattle.mr_exchange.specs.StartSteps.{Turn}
use Rattle.mr_turn.specs.declared.deed.Deed.{Deed}
use Rattle.mr_turn.specs.declared.deed.TurnFault.{TurnFault}
use Rattle.mr_step.specs.Advance.{Acts, AdvanceAnswer, Keeps, WithoutAnswer, act_fault, act_outcome, world_at}
use Rattle.mr_step.specs.declared.fault.StepFault.{StepFault}
use Rattle.mr_step.specs.Settling.{Settles}
use Rattle.mr_plan.proofs.Positions.{set_here}
use Rattle.mr_base.specs.declared.reason.Verdict.TheVariants as verdict
use Rattle.mr_plan.specs.Machine.{Aborts, Bare, Completed, Exits, Flow as Ways, Goes, IllFormedStep, Language, State, Stops, Thread, settle, settled, started_threads, thread_of}
use Rattle.mr_frame.specs.declared.flow.Flow.TheVariants as flow
use Rattle.mr_frame.specs.declared.look.Look.{Look as KeptLook}
use Rattle.mr_frame.specs.declared.stack.Stack.{Stack as KeptStack}
use Rattle.mr_turn.specs.declared.deed.TurnFault.TheVariants as turn
use Rattle.mr_step.specs.declared.progress.Thread.{Thread as KeptThread}
use Rattle.mr_step.proofs.EntryLaws.{fault_is, step_is}
use Rattle.mr_step.proofs.Numbered.{numbered_set, set_twice, thread_as}
use Rattle.mr_step.proofs.SoundLaws.{own_is, sound, state_is, thread_here}

-- a bare step leads on from no state
bare_leads : {L : Type 0} (step : Language L) (c : Config L) (o : Option (State L)) (b : Bare L) → after_bare step (record c { state = o }) b ≡ after_bare step c b
bare_leads step c o (Completed n s) = refl
bare_leads step c o (Stops v about) = refl
bare_leads step c o IllFormedStep = refl

-- what stood in the place of the thread before doesn't matter
settle_over : (s s' : State Own) (t : ℕ) (x : Thread Own) → s'.threads ≡ slice_set s.threads t x → (f : Ways Own) (w : Shared × Notes) → settle s' t f w ≡ settle s t f w
settle_over s s' t x e (Goes own started) w = λ i. Completed w.1 (record {
  shared = w.0;
  threads = (ap (λ ts. slice_set ts t (thread_of own w.1.tally.count)) e ∙ set_twice s.threads t x (thread_of own w.1.tally.count)) i ++ started_threads started;
})
settle_over s s' t x e Exits w = refl
settle_over s s' t x e Aborts w = refl

-- nor does the stack with which it began
turn_over : (f : Flow) (t : ℕ) (a b stack : KeptStack) (started : Option Own) → turn_by f (own_of t a) stack started ≡ turn_by f (own_of t b) stack started
turn_over flow.Went t a b stack started = refl
turn_over flow.Ended t a b stack started = refl
turn_over flow.Exit t a b stack started = refl
turn_over flow.Abort t a b stack started = refl

-- a thread put in the place that it has
set_same : {A : Type 0} (xs : List A) (i : ℕ) (x : A) → slice_get xs i ≡ Some x → slice_set xs i x ≡ xs
set_same [] i x h = refl
set_same (y ∷ xs) zero x h = ap (λ z. z ∷ xs) (sym (same_Some y x h))
set_same (y ∷ xs) (suc i) x h = ap (λ zs. y ∷ zs) (set_same xs i x h)

-- where a step leads that itself stops
pub stops_leads : (look : Look) (p : Progress) (v : Verdict) (about : Option Reached) → LeadsTo look (Stops v about) (config_of p) (config_of (record p { gone = true; verdict = v; about = about }))
stops_leads look p v about = refl

-- the scene of a step that begins
module _ (m : Memory) (t n : ℕ) (s : Scene) (world : world_of s ≡ (m, start_tally t n)) where
  pub scene_thread : s.thread ≡ t
  scene_thread = ap (λ w. w.1.thread) world

  pub scene_memory : s.memory ≡ m
  scene_memory = ap (λ w. w.0) world

  pub scene_count : s.count ≡ n
  scene_count = ap (λ w. w.1.count) world

  pub scene_begins : tally_of s ≡ start_tally s.thread s.count
  scene_begins = ap (λ w. w.1) world ∙ sym (ap₂ start_tally scene_thread scene_count)

  -- what was answered of the scene is so of its thread and its memory
  pub acted : (l : Look) (ks : List ℕ) (th new : KeptThread) (s' : Scene) (x y : Tables) (r : Result Deed TurnFault)
      → ActAnswer l s.thread ks th new s.memory s' x y r → ActAnswer l t ks th new m s' x y r
  acted l ks th new s' x y r h =
      subst (λ (k : ℕ). ActAnswer l k ks th new m s' x y r) scene_thread
      (subst (λ (o : Memory). ActAnswer l s.thread ks th new o s' x y r) scene_memory h)

module _ (look : KeptLook) (e : Entry) (p : Progress) (due : IsDue look e.thread p) (th : KeptThread) (here : slice_get p.threads.items e.thread ≡ Some th) where
  abbrev t : ℕ
  t = e.thread

  abbrev l : Look
  l = look_of look

  abbrev s : State Own
  s = state_of p

  abbrev outcome : Outcome Turn (Shared × Notes)
  outcome = act_outcome l t e.picks th p.scene.memory p.sync

  there : (config_of p).state ≡ Some s
  there = state_is p due.there

  at : slice_get s.threads t ≡ Some (thread_as t th)
  at = thread_here look t p due th here

  own : (thread_as t th).own ≡ own_of t th.stack
  own = own_is look t p due th here

  -- the rule that the entry breaks is the one that its picks break
  pub legal_is : entry_fault (thread_step l) (config_of p) e ≡ act_fault l t e.picks th p.scene.memory p.sync
  legal_is =
      fault_is l (config_of p) e s there (thread_as t th) at due.running due.enabled
      ∙ ap (λ (o : Own). picks_break (world_at t th p.scene.memory p.sync) (planned l o (world_at t th p.scene.memory p.sync)) e.picks) own

  settled_is : settled s t (turned l (thread_as t th).own e.picks (world_at t th p.scene.memory p.sync)) ≡ settled s t outcome
  settled_is = ap (λ (o : Own). settled s t (turned l o e.picks (world_at t th p.scene.memory p.sync))) own

  -- a legal entry leads where the bare step of its turn does
  pub leads_on : (b : Bare Own) (q : Progress) → act_fault l t e.picks th p.scene.memory p.sync ≡ None → settled s t outcome ≡ b
      → LeadsTo l b (config_of p) (config_of q) → Advances l e (config_of p) (config_of q)
  leads_on b q legal is h = record {
    legal = legal_is ∙ legal;
    after = h ∙ sym (step_is l (config_of p) e s there (thread_as t th) at ∙ ap (after_bare (thread_step l) (config_of p)) (settled_is ∙ is));
  }

  -- the turn stops for a reason
  pub halts : (r : Stop) → act_fault l t e.picks th p.scene.memory p.sync ≡ None → outcome ≡ Refused r
      → Advances l e (config_of p) (config_of (record p { gone = true; verdict = verdict.Undefined r.reason; about = r.about }))
  halts r legal is = leads_on (Stops (verdict.Undefined r.reason) r.about) (record p { gone = true; verdict = verdict.Undefined r.reason; about = r.about }) legal (ap (settled s t) is) (stops_leads l p (verdict.Undefined r.reason) r.about)

  -- the picks break a rule, and nothing changed
  pub stays : (fault : Fault) (new : KeptThread) (left : Scene) (x : Tables) → Keeps l t e.picks th new p.scene.memory left.memory p.sync x fault
      → (q : Progress) → q.threads.items ≡ slice_set p.threads.items t new → q ≡ record p { scene = left; threads = q.threads; sync = x }
      → Stays l e (config_of p) (config_of q) fault
  stays fault new left x h q threads same = record { broken = legal_is ∙ h.broken; same = config_is }
    where
      threads_are : numbered 0 q.threads.items ≡ numbered 0 p.threads.items
      threads_are = ap (numbered 0) (threads ∙ ap (slice_set p.threads.items t) h.thread ∙ set_same p.threads.items t th here)

      config_is : config_of q ≡ config_of p
      config_is =
          ap config_of same
          ∙ λ i. record (config_of p) {
            state = state_unless p.gone (record {
              shared = record { memory = h.memory i; statuses = (h.tables i).statuses; holders = (h.tables i).holders };
              threads = threads_are i;
            });
          }

  -- there is no turn
  pub untaken : (fault : TurnFault) (new : KeptThread) (left : Scene) (x : Tables) → ActAnswer l t e.picks th new p.scene.memory left p.sync x (Err fault)
      → (mid q : Progress) → mid.threads.items ≡ slice_set p.threads.items t new → mid ≡ record p { scene = left; threads = mid.threads; sync = x }
      → (result : Result (Unit {0}) StepFault) → WithoutAnswer fault mid q result
      → AdvanceAnswer l e (config_of p) (config_of q) result
  untaken (turn.Undefined r) new left x h mid q threads same result w =
      subst (AdvanceAnswer l e (config_of p) (config_of q)) (sym w.0)
      (subst (λ (y : Config Own). Advances l e (config_of p) y)
      (sym (ap config_of (w.1 ∙ ap (λ (y : Progress). record y { gone = true; verdict = verdict.Undefined r; about = (stop_with y.scene.notes.refused r).about }) same)))
      (halts (stop_with left.notes.refused r) h.legal h.refused))
  untaken (turn.Broken failure) new left x h mid q threads same result w =
      subst (AdvanceAnswer l e (config_of p) (config_of q)) (sym w.0)
      (subst (λ (y : Progress). Stays l e (config_of p) (config_of y) (fault_of failure.code failure.earlier)) (sym w.1)
      (stays (fault_of failure.code failure.earlier) new left x h mid threads same))
  untaken turn.Memory new left x h mid q threads same result w = subst (AdvanceAnswer l e (config_of p) (config_of q)) (sym w.0) (record { output = ap (λ (y : Progress). (config_of y).output) is; completed = ap (λ (y : Progress). (config_of y).completed) is; verdict = ap (λ (y : Progress). (config_of y).verdict) is })
    where
      is : q ≡ record p { scene = left; threads = mid.threads; sync = x }
      is = w.1 ∙ same

  -- the turn is taken, and settled
  module _ (mid q : Progress) (new : KeptThread) (d : Deed) (acts : Acts l t e.picks th new p.scene.memory p.sync mid.sync mid.scene d) (threads : mid.threads.items ≡ slice_set p.threads.items t new)
      (same : mid ≡ record p { scene = mid.scene; threads = mid.threads; sync = mid.sync }) (settles : Settles l mid q t d) where
    abbrev sc : Scene
    sc = mid.scene

    tells : Tells sc d acts.turned.notes
    tells = record {
      tally = acts.turned.tally;
      event = acts.turned.event;
      ended = acts.turned.ended;
      woken = acts.turned.woken;
      printed = acts.turned.printed;
    }

    at_mid : slice_get mid.threads.items t ≡ Some new
    at_mid = ap (λ ts. slice_get ts t) threads ∙ set_here p.threads.items t new (slice_get_within p.threads.items t th here)

    abbrev bare_mid : Bare Own
    bare_mid = bare_by (state_of mid) t new.stack mid.sync sc d acts.turned.notes

    numbers : (state_of mid).threads ≡ slice_set s.threads t (thread_as t new)
    numbers = ap (numbered 0) threads ∙ numbered_set 0 t t p.threads.items new (omega arith)

    many : length (state_of mid).threads ≡ length p.sync.statuses
    many = ap length numbers ∙ length-set s.threads t (thread_as t new) ∙ sym (sound look t p due).many

    abbrev ways : Option Own → Ways Own
    ways started = turn_by d.flow (own_of t new.stack) new.stack started

    bare_is : settled s t outcome ≡ bare_mid
    bare_is =
        ap (settled s t) acts.turned.goes
        ∙ ap (λ f. settle s t f (shared_in sc mid.sync, acts.turned.notes)) (turn_over d.flow t th.stack new.stack new.stack (option_map (own_of (length p.sync.statuses)) d.started))
        ∙ ap (λ k. settle s t (ways (option_map (own_of k) d.started)) (shared_in sc mid.sync, acts.turned.notes)) (sym many)
        ∙ sym (settle_over s (state_of mid) t (thread_as t new) numbers (ways (option_map (own_of (length (state_of mid).threads)) d.started)) (shared_in sc mid.sync, acts.turned.notes))

    abbrev base : Progress → Config Own
    base x = record (config_of p) { state = (config_of x).state }

    base_is : config_of mid ≡ base mid
    base_is = ap (λ (x : Progress). record (config_of x) { state = (config_of mid).state }) same

    pub takes : Advances l e (config_of p) (config_of q)
    takes = leads_on bare_mid q acts.legal bare_is (settles new acts.turned.notes at_mid tells ∙ ap (λ (x : Config Own). after_bare (thread_step l) x bare_mid) base_is ∙ bare_leads (thread_step l) (config_of p) (config_of mid).state bare_mid)
