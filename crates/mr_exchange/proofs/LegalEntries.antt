-- An entry breaks none of the rules of its bare step exactly where it is legal.
use Rattle.mr_exchange.proofs.Common.{◌≡◌, ℕ, refl, ap, ◌∙◌, List, Bool, true, false, cond, Option, Some, None, length, lt-ltb, nat_lt, slice_get, Status, Enabled, Ended, OnJoin, OnLock, ranges_of, Shared, CreatesLock, CreatesNothing, CreatesThread, Creation, Language, State, needs, count_of, else_fault, fault, picks_fault, state_fault, AreNewIn, HasRoom, IsLegalEntry}
use Rattle.std.proofs.Common.{◌↔◌}
use Rattle.std.proofs.lemmas.Bool.{ltb-true}
use Rattle.mr_start.specs.PlanLegal.{creation_fault, needs_fault, status_fault}
use Rattle.mr_start.proofs.PlanLegalLaws.{no_faults}
use Rattle.mr_sched.specs.declared.rule.ScheduleRule.{ScheduleRule}
use Rattle.mr_exchange.proofs.MeetsLaws.{legal_of_meets, meets_of_legal, new_of_memory}
use Rattle.mr_sched.specs.declared.rule.ScheduleRule.TheVariants as rule

-- no fault of the status: the thread is enabled
enabled_from : (o : Option Status) → status_fault o ≡ None → o ≡ Some Enabled
enabled_from None h = absurd (cc)
enabled_from (Some Enabled) h = refl
enabled_from (Some (OnJoin t)) h = absurd (cc)
enabled_from (Some (OnLock l)) h = absurd (cc)
enabled_from (Some Ended) h = absurd (cc)

-- a test of a limit that is passed
below : (b : Bool) (r : ScheduleRule) → cond b None (fault r) ≡ None → b ≡ true
below true r h = refl
below false r h = absurd (cc)

-- there is room where the limit is no rule that is broken
room_from : (s : Shared) (c : Creation) → creation_fault s c ≡ None → HasRoom s c
room_from s CreatesNothing h = tt
room_from s CreatesThread h = ltb-true (length s.statuses) 1024 (below (nat_lt (length s.statuses) 1024) rule.TooManyThreads h)
room_from s CreatesLock h = ltb-true (length s.holders) 4096 (below (nat_lt (length s.holders) 4096) rule.TooManyLocks h)

room_to : (s : Shared) (c : Creation) → HasRoom s c → creation_fault s c ≡ None
room_to s CreatesNothing h = refl
room_to s CreatesThread h = ap (λ b. cond b None (fault rule.TooManyThreads)) (lt-ltb (length s.statuses) 1024 h)
room_to s CreatesLock h = ap (λ b. cond b None (fault rule.TooManyLocks)) (lt-ltb (length s.holders) 4096 h)

module _ {L : Type 0} (step : Language L) (s : State L) (t : ℕ) (picks : List ℕ) where
  -- where no rule is broken the thread is enabled
  pub enabled_of_legal : state_fault step s t picks ≡ None → slice_get s.shared.statuses t ≡ Some Enabled
  enabled_of_legal h =
      let p = no_faults (status_fault (slice_get s.shared.statuses t)) (needs_fault s.shared t (count_of (slice_get s.threads t)) (needs step s t) picks) h in
      enabled_from (slice_get s.shared.statuses t) p.0

  -- WHERE NO RULE IS BROKEN THE ENTRY IS LEGAL, if the thread's next identities are new
  pub entry_of_legal : AreNewIn s.shared.memory t (count_of (slice_get s.threads t)) → state_fault step s t picks ≡ None → IsLegalEntry step s t picks
  entry_of_legal new h =
      let n = needs step s t in
      let c = count_of (slice_get s.threads t) in
      let p = no_faults (status_fault (slice_get s.shared.statuses t)) (needs_fault s.shared t c n picks) h in
      let q = no_faults (creation_fault s.shared n.creates) (picks_fault s.shared.statuses (ranges_of s.shared.memory) t c n.asks picks) p.1 in
      record {
        enabled = enabled_from (slice_get s.shared.statuses t) p.0;
        room = room_from s.shared n.creates q.0;
        met = meets_of_legal s.shared.statuses (ranges_of s.shared.memory) t c n.asks picks (new_of_memory s.shared.memory t c new) q.1;
      }

  -- WHERE THE ENTRY IS LEGAL NO RULE IS BROKEN
  pub legal_of_entry : IsLegalEntry step s t picks → state_fault step s t picks ≡ None
  legal_of_entry h =
      let n = needs step s t in
      let c = count_of (slice_get s.threads t) in
      ap (λ o. else_fault (status_fault o) (needs_fault s.shared t c n picks)) h.enabled
      ∙ ap (λ o. else_fault o (picks_fault s.shared.statuses (ranges_of s.shared.memory) t c n.asks picks)) (room_to s.shared n.creates h.room)
      ∙ legal_of_meets s.shared.statuses (ranges_of s.shared.memory) t c n.asks picks h.met

  -- AN ENTRY BREAKS NO RULE EXACTLY WHERE IT IS LEGAL, if the thread's next identities are new
  pub legal_entries : AreNewIn s.shared.memory t (count_of (slice_get s.threads t)) → (state_fault step s t picks ≡ None) ↔ IsLegalEntry step s t picks
  legal_entries new = (entry_of_legal new, legal_of_entry)
