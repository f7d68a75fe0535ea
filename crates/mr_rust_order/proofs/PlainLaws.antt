-- Of a run of plain accesses both orders are one, and so are the races.
use Rattle.mr_rust_order.proofs.Common.{◌≡◌, ◌≢◌, ℕ, ◌<◌, ◌⊎◌, ◌↔◌, inl, inr, List, Bool, true, false, IsTrue, refl, ap, ◌∙◌, length, arith, ℕ_discrete, ◌&&◌, ◌||◌, ◌==◌, All, not, Contains, and_from, both_ways, false≢true, or_right, conflicts, races, some_conflict, some_race, Access, Event, Quiet, CreateLock, Acquire, Release, Spawn, Join, Footprint, spawns, step_at, thread_at, AreRaces, Edge, HappensBefore, IsRace, releases, in_thread, started, handed_over, joined, stored, edge, chain}
use Rattle.std.proofs.lemmas.Bool.Decides.{nat_tests}
use Rattle.std.proofs.lemmas.List.Elements.{All-contains}
use Rattle.mr_event.specs.Footprints.{both_create, both_spawn, depends, joins_of, same_lock, share_id}
use Rattle.mr_event.specs.Order.{RacePair, Races}
use Rattle.mr_event.specs.Predicted.{predicted, syncs}
use Rattle.mr_event.proofs.Ordered.{woken_before}
use Rattle.mr_event.proofs.Tests.{predicted_is, syncs_is}
use Rattle.mr_rust_order.specs.Plain.{IsPlain, depends_by_deeds}
use Rattle.mr_event.specs.Order.{Edge as MachineEdge, HappensBefore as MachineBefore}
use Rattle.mr_event.specs.Order.Edge.{in_thread as machine_thread, woken, dependent}
use Rattle.mr_event.specs.Order.HappensBefore.{edge as machine_edge, chain as machine_chain}
use Rattle.mr_rust_order.proofs.AccessLaws.{conflict_found, race_there}

-- ---- tests

or_cases_of : (a b c d e f g h k : Bool) → (a || b || c || d || e || f || g || h || k) ≡ true
    → ((a || b || c || d || e || f || g || h) ≡ true) ⊎ (k ≡ true)
or_cases_of true b c d e f g h k is = inl refl
or_cases_of false true c d e f g h k is = inl refl
or_cases_of false false true d e f g h k is = inl refl
or_cases_of false false false true e f g h k is = inl refl
or_cases_of false false false false true f g h k is = inl refl
or_cases_of false false false false false true g h k is = inl refl
or_cases_of false false false false false false true h k is = inl refl
or_cases_of false false false false false false false true k is = inl refl
or_cases_of false false false false false false false false k is = inr is

first_or : (a b c d e f g h k : Bool) → a ≡ true → (a || b || c || d || e || f || g || h || k) ≡ true
first_or true b c d e f g h k is = refl
first_or false b c d e f g h k is = absurd (false≢true is)

fourth_or : (a b c d e f g h k : Bool) → d ≡ true → (a || b || c || d || e || f || g || h || k) ≡ true
fourth_or true b c d e f g h k is = refl
fourth_or false true c d e f g h k is = refl
fourth_or false false true d e f g h k is = refl
fourth_or false false false true e f g h k is = refl
fourth_or false false false false e f g h k is = absurd (false≢true is)

-- what depends on an earlier step does so by its deeds, or has an access that conflicts
depends_cases : (f g : Footprint) → depends f g ≡ true
    → (depends_by_deeds f g ≡ true) ⊎ (some_conflict f.accesses g.accesses ≡ true)
unfolding depends
depends_cases f g is =
    or_cases_of (same_lock f.event g.event) (both_create f.event g.event) (both_spawn f.event g.event)
    (joins_of f g.event) (joins_of g f.event) (share_id f.allocated g.touched) (share_id f.allocated g.freed)
    (share_id f.touched g.freed) (some_conflict f.accesses g.accesses) is

lock_depends : (f g : Footprint) → same_lock f.event g.event ≡ true → depends f g ≡ true
unfolding depends
lock_depends f g is =
    first_or (same_lock f.event g.event) (both_create f.event g.event) (both_spawn f.event g.event)
    (joins_of f g.event) (joins_of g f.event) (share_id f.allocated g.touched) (share_id f.allocated g.freed)
    (share_id f.touched g.freed) (some_conflict f.accesses g.accesses) is

join_depends : (f g : Footprint) → joins_of f g.event ≡ true → depends f g ≡ true
unfolding depends
join_depends f g is =
    fourth_or (same_lock f.event g.event) (both_create f.event g.event) (both_spawn f.event g.event)
    (joins_of f g.event) (joins_of g f.event) (share_id f.allocated g.touched) (share_id f.allocated g.freed)
    (share_id f.touched g.freed) (some_conflict f.accesses g.accesses) is

-- one lock is released and acquired
handed_lock : (d e : Event) (lock : ℕ) → releases d lock ≡ true → e ≡ Acquire lock → same_lock d e ≡ true
handed_lock (Release n) e lock is acquires = rw acquires is
handed_lock Quiet e lock is acquires = absurd (false≢true is)
handed_lock (CreateLock n) e lock is acquires = absurd (false≢true is)
handed_lock (Acquire n) e lock is acquires = absurd (false≢true is)
handed_lock (Spawn n) e lock is acquires = absurd (false≢true is)
handed_lock (Join n) e lock is acquires = absurd (false≢true is)

-- a thread that ended is joined
joined_thread : (f : Footprint) (e : Event) → f.ended ≡ true → e ≡ Join f.thread → joins_of f e ≡ true
joined_thread f e ended is =
    let same : (f.thread == f.thread) ≡ true = grind (arith, nat_tests) in
    rw is (or_right (spawns f.event f.thread) (f.ended && (f.thread == f.thread)) (and_from _ _ ended same))

-- an atomic load is atomic
middle_is : (s t h : Bool) → (s && t && h) ≡ true → t ≡ true
middle_is true true h e = refl
middle_is true false h e = absurd (cc)
middle_is false t h e = absurd (cc)

-- plain accesses that conflict race
plain_race : (x y : Access) → x.atomic ≡ false → conflicts x y ≡ true → races x y ≡ true
plain_race x y plain is = ap (λ b. (not b || not y.atomic) && conflicts x y) plain ∙ is

plain_races : (run : List Footprint) (i j : ℕ) → IsPlain run
    → some_conflict (step_at run i).accesses (step_at run j).accesses ≡ true
    → some_race (step_at run i).accesses (step_at run j).accesses ≡ true
plain_races run i j h is =
    let xs = (step_at run i).accesses in
    let ys = (step_at run j).accesses in
    let t = conflict_found xs ys is in
    race_there xs ys t.0 t.2.0 t.1 t.2.1
    (plain_race t.0 t.2.0 (All-contains (λ a. a.atomic ≡ false) xs t.0 (h.accesses i) t.1) t.2.2)

-- ---- both orders

module _ (run : List Footprint) (h : IsPlain run) where
  edge_of_machine : (i j : ℕ) → Edge run i j → MachineBefore run i j
  edge_of_machine i j (in_thread lt same) = machine_edge (machine_thread lt same)
  edge_of_machine i j (started lt wakes) = woken_before run i j lt wakes
  edge_of_machine i j (handed_over lock lt released acquires) =
      machine_edge
      (dependent lt
      (lock_depends (step_at run i) (step_at run j)
      (handed_lock (step_at run i).event (step_at run j).event lock released acquires))
      (λ r. h.locks i j lock released acquires r.race))
  edge_of_machine i j (joined lt ended joins) =
      machine_edge
      (dependent lt
      (join_depends (step_at run i) (step_at run j) (joined_thread (step_at run i) (step_at run j).event ended joins))
      (λ r. h.joins i j ended joins r.race))
  edge_of_machine i j (stored byte r) =
      let load = r.load in
      absurd
      (both_ways (load.0).atomic
      (All-contains (λ a. a.atomic ≡ false) (step_at run j).accesses load.0 (h.accesses j) load.1)
      (middle_is (not (load.0).store) (load.0).atomic _ load.2))

  pub to_machine : {i j : ℕ} → HappensBefore run i j → MachineBefore run i j
  to_machine (edge {i = m} {j = n} e) = edge_of_machine m n e
  to_machine (chain p q) = machine_chain (to_machine p) (to_machine q)

  conflict_of_rust : (i j : ℕ) (b : Bool) → syncs run i j ≡ b → i < j → thread_at run i ≢ thread_at run j
      → some_conflict (step_at run i).accesses (step_at run j).accesses ≡ true → ¬ Races run i j
      → HappensBefore run i j
  conflict_of_rust i j true is lt apart conflict quiet =
      let s = (syncs_is run i j).0 is in
      edge (started s.before s.woken)
  conflict_of_rust i j false is lt apart conflict quiet =
      absurd
      (quiet record {
        apart = apart;
        race = plain_races run i j h conflict;
        unsynced = λ s. both_ways (syncs run i j) is ((syncs_is run i j).1 s);
      })

  edge_of_rust : (i j : ℕ) → MachineEdge run i j → HappensBefore run i j
  edge_of_rust i j (machine_thread lt same) = edge (in_thread lt same)
  edge_of_rust i j (woken s) = edge (started s.before s.woken)
  edge_of_rust i j (dependent lt d quiet) =
      elim (ℕ_discrete (thread_at run i) (thread_at run j)) [
        | yes same ↦ edge (in_thread lt same)
        | no apart ↦
            elim (depends_cases (step_at run i) (step_at run j) d) [
              | inl deeds ↦ h.deeds i j lt apart deeds
              | inr conflict ↦ conflict_of_rust i j (syncs run i j) refl lt apart conflict quiet
            ]
      ]

  pub to_rust : {i j : ℕ} → MachineBefore run i j → HappensBefore run i j
  to_rust (machine_edge {i = m} {j = n} e) = edge_of_rust m n e
  to_rust (machine_chain p q) = chain (to_rust p) (to_rust q)

  -- ---- their races

  rust_race : (i j : ℕ) → RacePair run i j → IsRace run i j
  rust_race i j r = record {
    before = r.before;
    apart = r.races.apart;
    race = r.races.race;
    unordered = λ b. r.unordered (to_machine b);
  }

  machine_race : (i j : ℕ) → IsRace run i j → RacePair run i j
  machine_race i j r = record {
    before = r.before;
    races =
        record { apart = r.apart; race = r.race; unsynced = λ s. r.unordered (edge (started s.before s.woken)) };
    unordered = λ b. r.unordered (to_rust b);
  }

  pub same_races : AreRaces run (predicted run)
  same_races =
      let p = predicted_is run in
      record {
        within = p.within;
        listed = λ k d lt.
            let g = p.listed k d lt in
            record { race = rust_race _ _ g.pair; greatest = λ m low r. g.greatest m low (machine_race _ _ r) };
        rising = p.rising;
        complete = λ i j lt r. p.complete i j lt (machine_race i j r);
      }

-- THE LAW
pub plain_agrees : (run : List Footprint) → IsPlain run → (i j : ℕ) → MachineBefore run i j ↔ HappensBefore run i j
plain_agrees run h i j = (λ b. to_rust run h b, λ b. to_machine run h b)
