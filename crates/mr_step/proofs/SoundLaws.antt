-- What a machine that keeps what states keep says of an enabled thread.
use Rattle.mr_step.proofs.Common.{◌≡◌, ℕ, ◌<◌, refl, sym, ap, ◌∙◌, subst, arith, All, List, length, Bool, true, false, Option, Some, None, same_Some, slice_get_within, slice_get, Program, Memory, Entry, Thread, AreWithin, Config, entry_fault, foot_from, has_rule, machine_step, Own, thread_step, Progress, BeginsAct, IsDue, IsSound, config_of, setting_look, state_of, state_unless}
use Rattle.mr_base.specs.declared.byte.AllocId.{AllocId}
use Rattle.mr_base.specs.declared.thread.Status.TheVariants.{Enabled}
use Rattle.mr_mem.specs.Memory.{Allocation}
use Rattle.mr_frame.specs.Fits.{FitsStack, IsLook}
use Rattle.mr_frame.specs.Kept.{stack_of}
use Rattle.mr_frame.specs.Standing.{IsUncounted}
use Rattle.mr_exchange.specs.StartSoundState.{IsCounted, SoundState}
use Rattle.mr_exchange.proofs.StartRunSound.{entry_sound}
use Rattle.mr_event.specs.FootOk.{IsFootOk}
use Rattle.mr_exchange.proofs.FootLimits.{entry_ok}
use Rattle.mr_step.specs.declared.setting.Setting.{Setting}
use Rattle.mr_step.specs.Kept.{IsSet, stack_in}
use Rattle.std.specs.FinMap as fin
use Rattle.mr_frame.specs.declared.stack.Stack.{Stack as KeptStack}
use Rattle.mr_frame.specs.declared.look.Look.{Look as KeptLook}
use Rattle.mr_step.specs.declared.progress.Thread.{Thread as KeptThread}
use Rattle.mr_step.proofs.Numbered.{numbered_at, numbered_length, thread_as}

-- a stack that fits has a frame, so its thread hasn't ended
pub not_ended : (p : Program) (ended : Bool) (s : KeptStack) → FitsStack p (stack_in ended s) → (ended ≡ false) × FitsStack p (stack_of s)
not_ended p true s h = absurd h
not_ended p false s h = (refl, h)

-- identities are below the counts of their threads
pub uncounted : (m : Memory) (threads : List (Thread Own)) (counted : (id : AllocId) (a : Allocation) → fin.get m id ≡ Some a → IsCounted threads id) (t : ℕ) (th : Thread Own) → slice_get threads t ≡ Some th → IsUncounted m t th.count
uncounted m threads counted t th here id same le = by_there (fin.get m id) refl
  where
    by_there : (o : Option Allocation) → fin.get m id ≡ o → fin.get m id ≡ None
    by_there None e = e
    by_there (Some a) e =
        let c = counted id a e in
        let at : c.thread ≡ th = same_Some c.thread th (sym c.is ∙ ap (slice_get threads) same ∙ here) in
        let below : id.count < th.count = subst (λ (x : Thread Own). id.count < x.count) at c.below in
        absurd (omega arith)

-- a machine that isn't gone has a state
pub state_is : (p : Progress) → p.gone ≡ false → (config_of p).state ≡ Some (state_of p)
state_is p there = ap (λ (g : Bool). state_unless g (state_of p)) there

module _ (look : KeptLook) (t : ℕ) (p : Progress) (due : IsDue look t p) where
  pub sound : SoundState look.program.now (state_of p)
  sound = due.before.sound (state_of p) (state_is p due.there)

  -- its thread is there
  pub thread_there : t < length p.threads.items
  thread_there =
      let within = slice_get_within p.sync.statuses t Enabled due.enabled in
      let many = sound.many in
      let same = numbered_length 0 p.threads.items in
      omega arith

  module _ (th : KeptThread) (here : slice_get p.threads.items t ≡ Some th) where
    pub thread_here : slice_get (state_of p).threads t ≡ Some (thread_as t th)
    thread_here = numbered_at 0 t t p.threads.items th (omega arith) here

    fits : (th.ended ≡ false) × FitsStack look.program.now (stack_of th.stack)
    fits = not_ended look.program.now th.ended th.stack (sound.fits t Enabled (thread_as t th) due.enabled thread_here)

    pub begins_act : BeginsAct look t th p.scene.memory p.sync
    begins_act = record {
      ready = due.before.ready;
      fits = fits.1;
      enabled = due.enabled;
      uncounted = uncounted p.scene.memory (state_of p).threads sound.counted t (thread_as t th) thread_here;
    }

    pub own_is : (thread_as t th).own ≡ record { thread = t; stack = stack_of th.stack }
    own_is = ap (λ (g : Bool). record { thread = t; stack = stack_in g th.stack }) fits.0

-- what the machine looks up has a pointer for each function and global
is_look : (s : Setting) → IsSet s → IsLook (setting_look s)
is_look s set = record { functions = set.functions; globals = set.globals }

-- a legal entry has a rule, and leads to what keeps it all
pub advanced_sound : (s : Setting) → IsSet s → (c : Config Own) (e : Entry) → IsSound s.program.now c → entry_fault (thread_step (setting_look s)) c e ≡ None
    → (has_rule (thread_step (setting_look s)) e.thread e.picks c.state ≡ true) × IsSound s.program.now (machine_step (thread_step (setting_look s)) c e)
advanced_sound s set c e sound legal = entry_sound (setting_look s) (is_look s set) set.well c e sound legal

-- its footprint keeps the machine's limits, and so does where it leads
pub advanced_ok : (s : Setting) → IsSet s → (c : Config Own) (e : Entry) → IsSound s.program.now c → AreWithin c → entry_fault (thread_step (setting_look s)) c e ≡ None
    → All IsFootOk (foot_from (thread_step (setting_look s)) e.thread e.picks c.state) × AreWithin (machine_step (thread_step (setting_look s)) c e)
advanced_ok s set c e sound within legal = entry_ok (setting_look s) (is_look s set) set.well c e sound within legal
