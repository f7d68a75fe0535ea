-- The state behind a legal start line keeps what each state keeps.
use Rattle.mr_start.proofs.Common.{◌≡◌, ℕ, zero, suc, ◌+◌, refl, sym, ap, ◌∙◌, subst, inl, inr, List, [], ◌∷◌, ◌++◌, length, drop, replicate, arith, append-nil, same_Some, Option, Some, None, slice_get, slice_set, Pointer, Status, Enabled, Local, Program, Memory, WellFormed, State, Thread, thread_of, AreHeld, Slot, IsLook, slots_with, FitsStatus, IsSoundConfig, SoundState, thread_slots, Own, new_thread, Piece, look_of, pieces, start_config, start_fault, start_frame, start_locals, start_memory, start_placed}
use Rattle.mr_base.specs.declared.byte.Kind.TheVariants.{Stack}
use Rattle.mr_layout.specs.Sizes.{align_of, size_of}
use Rattle.mr_sched.specs.declared.schedule.Schedule.{Schedule}
use Rattle.mr_sync.proofs.SoundTables.{stay_sound}
use Rattle.mr_frame.specs.PlanStorage.{IsStorage}
use Rattle.mr_frame.proofs.PlanStorageRuns.{set_cases}
use Rattle.mr_frame.specs.Storage.{slot_of, slots_in}
use Rattle.mr_start.specs.Runs.{IsSoundRun, Legal}
use Rattle.mr_base.proofs.Lists.{slice_get-drop}
use Rattle.mr_start.proofs.RunSound.{never_ill_formed}
use Rattle.mr_start.proofs.StartFacts.{HasMain, functions_length, globals_length, has_main, return_is, start_fits}
use Rattle.mr_start.proofs.StartStores.{AllLie, Lies, start_kept}

-- ---- the one local that has storage

-- a room is that of a local
record RoomOf (ls : List Local) (storage : List (Option Pointer)) (i : ℕ) (slot : Slot) : Type 0 where
  local : Local
  here : slice_get ls i ≡ Some local
  has : slice_get storage i ≡ Some slot.storage
  is : slot ≡ slot_of local.ty slot.storage

room_of : (ls : List Local) (storage : List (Option Pointer)) (i : ℕ) (slot : Slot) → slice_get (slots_in ls storage) i ≡ Some slot → RoomOf ls storage i slot
room_of [] storage i slot h = absurd (cc)
room_of (l ∷ ls) [] i slot h = absurd (cc)
room_of (l ∷ ls) (s ∷ rest) zero slot h =
    let e : slot_of l.ty s ≡ slot = same_Some (slot_of l.ty s) slot h in
    record { local = l; here = refl; has = ap (λ (x : Slot). Some x.storage) e; is = sym e ∙ ap (λ (x : Slot). slot_of l.ty x.storage) e }
room_of (l ∷ ls) (s ∷ rest) (suc i) slot h =
    let k = room_of ls rest i slot h in
    record { local = k.local; here = k.here; has = k.has; is = k.is }

-- among locals without storage none has some
none_has : (n i : ℕ) (p : Pointer) → slice_get (replicate n (let none : Option Pointer = None in none)) i ≡ Some (Some p) → ⊥
none_has zero i p h = cc
none_has (suc n) zero p h = cc
none_has (suc n) (suc i) p h = none_has n i p h

one_has : (n x i : ℕ) (q p : Pointer) → slice_get (slice_set (replicate n None) x (Some q)) i ≡ Some (Some p) → (i ≡ x) × (p ≡ q)
one_has n x i q p h = elim (set_cases (replicate n None) x (Some q) (Some p) i h) [
  | inl e ↦ (e.0, same_Some p q e.1)
  | inr d ↦ absurd (none_has n i p d.1)
]

module _ (m : Memory) (ls : List Local) (x : ℕ) (l : Local) (there : slice_get ls x ≡ Some l) (q : Pointer) (stored : (size align : ℕ) → size ≡ size_of l.ty → align ≡ align_of l.ty → IsStorage m size align q) where
  abbrev locals : List (Option Pointer)
  locals = slice_set (replicate (length ls) None) x (Some q)

  it_is : (i : ℕ) (slot : Slot) (p : Pointer) → slice_get (slots_in ls locals) i ≡ Some slot → slot.storage ≡ Some p → (i ≡ x) × (p ≡ q)
  it_is i slot p here is = one_has (length ls) x i q p ((room_of ls locals i slot here).has ∙ ap (λ o. Some o) is)

  one_held : AreHeld m (slots_in ls locals)
  one_held = record {
    each = λ i slot p here is.
        let e = it_is i slot p here is in
        let r = room_of ls locals i slot here in
        let same : r.local ≡ l = same_Some r.local l (sym r.here ∙ ap (slice_get ls) e.0 ∙ there) in
        subst (IsStorage m slot.size slot.align) (sym e.1)
        (stored slot.size slot.align (ap (λ (s : Slot). s.size) r.is ∙ ap (λ (k : Local). size_of k.ty) same) (ap (λ (s : Slot). s.align) r.is ∙ ap (λ (k : Local). align_of k.ty) same));
    apart = λ i k a b p p' d hi hk ip kp. absurd (d ((it_is i a p hi ip).0 ∙ sym (it_is k b p' hk kp).0));
  }

-- ---- a legal start

-- one piece lies at the first of some pointers
one_lies : (m : Memory) (x : Piece) (qs : List Pointer) → AllLie m (x ∷ []) qs → (q : Pointer) × (slice_get qs 0 ≡ Some q) × Lies m x q
one_lies m x [] h = absurd h
one_lies m x (q ∷ qs) h = (q, refl, h.0)

-- what lies there is the storage of a local
lies_stored : (m : Memory) (size align : ℕ) (q : Pointer) → Lies m (record { kind = Stack; size = size; align = align }) q → IsStorage m size align q
lies_stored m size align q l = record { id = l.id; alloc = l.alloc; prov = l.prov; there = l.there; live = l.live; kind = l.kind; addr = l.addr; bytes = l.size; aligned = l.aligned }

module _ (p : Program) (well : WellFormed p) (picks : List ℕ) (legal : start_fault p picks ≡ None) where
  abbrev main : HasMain p
  main = has_main p well.shaped

  abbrev pointers : List Pointer
  pointers = (start_placed p picks).pointers

  abbrev memory : Memory
  memory = start_memory p picks

  -- the return local lies at the last pointer
  returned : (q : Pointer) × (slice_get pointers (length p.functions + length p.globals) ≡ Some q) × IsStorage memory (size_of main.local.ty) (align_of main.local.ty) q
  returned =
      let last = subst (λ ps. AllLie memory ps (drop (length p.globals) (drop (length p.functions) pointers))) (return_is p main) (start_kept p picks legal).1 in
      let o = one_lies memory _ (drop (length p.globals) (drop (length p.functions) pointers)) last in
      let at : length p.functions + length p.globals ≡ length p.functions + (length p.globals + 0) = omega arith in (
        o.0,
        ap (slice_get pointers) at ∙ sym (slice_get-drop pointers (length p.functions) (length p.globals + 0)) ∙ sym (slice_get-drop (drop (length p.functions) pointers) (length p.globals) 0) ∙ o.1,
        lies_stored memory (size_of main.local.ty) (align_of main.local.ty) o.0 o.2,
      )

  abbrev thread : Thread Own
  thread = thread_of (new_thread 0 (start_frame p (Some returned.0))) (length (pieces p))

  abbrev state : State Own
  state = record { shared = record { memory = memory; statuses = Enabled ∷ []; holders = [] }; threads = thread ∷ [] }

  only : (t : ℕ) (th : Thread Own) → slice_get (thread ∷ []) t ≡ Some th → (t ≡ 0) × (th ≡ thread)
  only zero th h = (refl, sym (same_Some thread th h))
  only (suc t) th h = absurd (cc)

  enabled : (t : ℕ) (status : Status) → slice_get (Enabled ∷ []) t ≡ Some status → status ≡ Enabled
  enabled zero status h = sym (same_Some Enabled status h)
  enabled (suc t) status h = absurd (cc)

  fits : FitsStatus p Enabled thread.own.stack
  fits = (start_fits p well returned.0, refl, tt)

  held : AreHeld memory (thread_slots p (thread ∷ []))
  held =
      let f = main.function in
      let locals = slice_set (replicate (length f.locals) None) f.ret.0 (Some returned.0) in
      let one = one_held memory f.locals f.ret.0 main.local main.here returned.0 (λ size align e d. subst (λ n. IsStorage memory size n returned.0) (sym d) (subst (λ n. IsStorage memory n (align_of main.local.ty) returned.0) (sym e) returned.2)) in
      subst (AreHeld memory)
      (sym (append-nil (slots_in f.locals locals ++ []) ∙ append-nil (slots_in f.locals locals)) ∙ (λ i. (slots_with (sym main.is i) (start_locals (sym main.is i) (Some returned.0)) ++ []) ++ [])) one

  state_sound : SoundState p state
  state_sound = record {
    tables = stay_sound.new;
    many = refl;
    numbered = λ t th h. ap (λ (x : Thread Own). x.own.thread) (only t th h).1 ∙ sym (only t th h).0;
    fits = λ t status th has h.
        subst (λ (x : Thread Own). FitsStatus p status x.own.stack) (sym (only t th h).1) (subst (λ x. FitsStatus p x thread.own.stack) (sym (enabled t status has)) fits);
    counted = λ id a h.
        let k = (start_kept p picks legal).0 id a h in
        record { thread = thread; is = ap (slice_get (thread ∷ [])) k.0; below = k.1 };
    held = held;
  }

  -- WHERE A RUN BEGINS, all is kept that each state keeps
  pub start_sound : IsSoundConfig p (start_config p picks)
  unfolding start_config
  start_sound s e =
      subst (SoundState p)
      ((λ i. record { shared = record { memory = memory; statuses = Enabled ∷ []; holders = [] }; threads = thread_of (new_thread 0 (start_frame p (sym returned.1 i))) (length (pieces p)) ∷ [] })
      ∙ same_Some _ s e) state_sound

  pub start_look : IsLook (look_of p picks)
  unfolding look_of
  start_look = record { functions = functions_length p well.shaped picks legal; globals = globals_length p well.shaped picks legal }

-- NO STEP OF A LEGAL RUN IS ILL-FORMED
pub sound_run : (p : Program) (w : Schedule) → WellFormed p → Legal p w → IsSoundRun p w
unfolding look_of
sound_run p w well legal = never_ill_formed (look_of p w.start) (start_look p well w.start legal.start) well (start_config p w.start) w.entries (start_sound p well w.start legal.start) legal.entries
