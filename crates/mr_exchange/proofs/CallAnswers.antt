-- What each call on locks and threads comes to, by what the tables say.
use Rattle.mr_exchange.proofs.Common.{◌≡◌, ℕ, refl, sym, ap, ◌∙◌, Bool, true, false, cond, not, Option, Some, None, Result, Ok, Err, ◌==◌, slice_get, slice_set, not-true, Acquire, Join, Release, Enabled, Outcome, Went, Broken, Tables, any_waits, handed, holding, on_lock, Notes, Shared, note, tables_of, woke}
use Rattle.std.proofs.lemmas.Bool.{not_from_false}
use Rattle.mr_base.specs.declared.reason.Reason.{Reason}
use Rattle.mr_base.specs.declared.reason.Reason.TheVariants.{NotHolder, UnknownLock}
use Rattle.mr_start.specs.SyncTables.{awaiting, trying, waits}
use Rattle.mr_start.specs.PlanQueries.{giving, going, telling, with_tables}

-- ---- tests

-- an outcome that went on was not the one without a rule
pub not_broken : {A S : Type 0} (b : Bool) (o : Outcome A S) (x : A) (w : S) → cond b Broken o ≡ Went x w → (b ≡ false) × (o ≡ Went x w)
not_broken true o x w h = absurd (cc)
not_broken false o x w h = (refl, h)

-- and the other way round
pub unbroken : {A S : Type 0} (b : Bool) (o : Outcome A S) → b ≡ false → cond b Broken o ≡ o
unbroken b o e = ap (λ c. cond c Broken o) e

-- an outcome that went on was the one that a test chose
pub chosen : {A S : Type 0} (b : Bool) (o : Outcome A S) (x : A) (w : S) → cond b o Broken ≡ Went x w → (b ≡ true) × (o ≡ Went x w)
chosen true o x w h = (refl, h)
chosen false o x w h = absurd (cc)

-- ---- the holder of a lock

-- the thread holds the lock, of which the tables say this
pub record IsHeld (t : ℕ) (o : Option (Option ℕ)) : Type 0 where
  pub holder : ℕ
  pub held : o ≡ Some (Some holder)
  pub own : (holder == t) ≡ true

-- what went on behind the test of the holder
pub holds : {A B S : Type 0} (t : ℕ) (o : Option (Option ℕ)) (a : A) (go : Result A Reason → Outcome B S) (x : B) (w : S)
    → ((r : Reason) → go (Err r) ≡ Went x w → ⊥) → go (holding t o a) ≡ Went x w → IsHeld t o × (go (Ok a) ≡ Went x w)
holds t None a go x w never h = absurd (never UnknownLock h)
holds t (Some None) a go x w never h = absurd (never NotHolder h)
holds t (Some (Some k)) a go x w never h = by_test (k == t) refl h
  where
    by_test : (c : Bool) → (k == t) ≡ c → go (cond c (Ok a) (Err NotHolder)) ≡ Went x w → IsHeld t (Some (Some k)) × (go (Ok a) ≡ Went x w)
    by_test true e r = (record { holder = k; held = refl; own = e }, r)
    by_test false e r = absurd (never NotHolder r)

-- who holds the lock passes the test
pub held_passes : {A : Type 0} (t : ℕ) (o : Option (Option ℕ)) (a : A) → IsHeld t o → holding t o a ≡ Ok a
held_passes t o a h = ap (λ g. holding t g a) h.held ∙ ap (λ c. cond c (Ok a) (Err NotHolder)) h.own

-- ---- the calls, by what the tables say of the lock or the thread

-- to take a lock
abbrev pub taking : ℕ → Option (Option ℕ) → Shared → Notes → Outcome Bool (Shared × Notes)
taking l o s n = going (Acquire l) (trying n.tally.thread l o (tables_of s)) s n

-- to wait for the end of a thread
abbrev pub joining : ℕ → Option Bool → Shared → Notes → Outcome Bool (Shared × Notes)
joining u o s n = going (Join u) (awaiting n.tally.thread u o (tables_of s)) s n

-- to ask whether a thread waits for a lock
abbrev pub looking : ℕ → Shared → Notes → Result Bool Reason → Outcome Bool (Shared × Notes)
looking l s n r = telling (Release l) r s n

-- to give a lock back
abbrev pub handing : ℕ → Option ℕ → Shared → Notes → Result Tables Reason → Outcome (Unit {0}) (Shared × Notes)
handing l to s n r = giving l to r s n

-- ---- a lock given back

-- a free lock
abbrev pub freed_tables : ℕ → Shared → Tables
freed_tables l s = record (tables_of s) { holders = slice_set s.holders l None }

-- a lock that a waiting thread gets
abbrev pub given_tables : ℕ → ℕ → Shared → Tables
given_tables l u s = record (tables_of s) { statuses = slice_set s.statuses u Enabled; holders = slice_set s.holders l (Some u) }

module _ (l : ℕ) (s : Shared) (n : Notes) where
  -- with no waiter it is free then
  pub unlocked_free : (x : Unit {0}) (w : Shared × Notes) → handing l None s n (Ok (handed l None (tables_of s))) ≡ Went x w
      → (any_waits l (tables_of s) ≡ false) × (Went tt (with_tables s (freed_tables l s), note (Release l) n) ≡ Went x w)
  unlocked_free x w h =
      let c = chosen (not (any_waits l (tables_of s))) (Went tt (with_tables s (freed_tables l s), note (Release l) n)) x w h in
      (not-true (any_waits l (tables_of s)) c.0, c.1)

  -- and the other way round
  pub unlocked_free_too : any_waits l (tables_of s) ≡ false
      → handing l None s n (Ok (handed l None (tables_of s))) ≡ Went tt (with_tables s (freed_tables l s), note (Release l) n)
  unlocked_free_too e = ap (λ c. cond c (Went tt (with_tables s (freed_tables l s), note (Release l) n)) Broken) (not_from_false (any_waits l (tables_of s)) e)

  -- a waiter that is named gets it
  module _ (u : ℕ) where
    abbrev handed_by : Bool → Shared × Notes
    handed_by c = (with_tables s (cond c (given_tables l u s) (freed_tables l s)), woke (Some u) (note (Release l) n))

    pub unlocked_given : (x : Unit {0}) (w : Shared × Notes) → handing l (Some u) s n (Ok (handed l (Some u) (tables_of s))) ≡ Went x w
        → (on_lock l (slice_get s.statuses u) ≡ true) × (Went tt (with_tables s (given_tables l u s), woke (Some u) (note (Release l) n)) ≡ Went x w)
    unlocked_given x w h =
        let c = chosen (waits l u (tables_of s)) (Went tt (handed_by (waits l u (tables_of s)))) x w h in
        (c.0, ap (λ b. Went tt (handed_by b)) (sym c.0) ∙ c.1)

    -- and the other way round
    pub unlocked_given_too : on_lock l (slice_get s.statuses u) ≡ true
        → handing l (Some u) s n (Ok (handed l (Some u) (tables_of s))) ≡ Went tt (with_tables s (given_tables l u s), woke (Some u) (note (Release l) n))
    unlocked_given_too e = ap (λ b. cond b (Went tt (handed_by b)) Broken) e
