-- Each step of a frame keeps the storage of the locals of all frames, and of whatever else is held beside them.
use Rattle.mr_frame.proofs.Common.{◌≡◌, ℕ, zero, suc, ◌<◌, refl, sym, ap, ◌∙◌, subst, arith, List, [], ◌∷◌, ◌++◌, length, Bool, true, false, Option, Some, None, map, length-replicate, same_Some, slice_get_within, length-set, option_map, slice_get, slice_set, replicate, if◌then◌else◌, plainly, Place, Value, Block, BlockName, Function, Local, LocalName, Program, Stmt, Term, Ty, Pointer, MainReturned, SignatureMismatch, Val, WellFormed, begins_regular, place_script, value_script, values_script, MemoryScript, reading_part, pointer_of_value, ReadScript, CreatesNothing, Plan, Targets, all_there, allocate_each, behind_first, both_there, call, call_function, call_number, call_plan, callee_of, calling, enter, enter_at, enter_with, is_main, storage_asks, free_each, give_result, give_to, given_types, goes_to, kept_types, leave, local_type, resume, return_from, return_value, same_types, store_each, targets_of, unwind, unwind_in, unwind_to, with_each, change, free_storage, store, Frame, GoesOn, Look, Onward, Stack, at_block, scene_in, IsLook, DueDo, Operands, done_stack, finish, store_result, AtDo, AtStatement, AtTerminator, Due, Site, broken_at, broken_in_head, due_of, kept_locals, none_broken, site_in, site_of, site_of_frame, site_of_frames, dead, frame_plan, live, live_at, next, plan_at, plan_due, statement, terminator, switched}
use Rattle.mr_eval.specs.Reads.{ReadReply}
use Rattle.mr_plan.specs.Storage.{Slot}
use Rattle.mr_plan.proofs.QuietRuns.{IsQuiet, reading_quiet}
use Rattle.mr_plan.proofs.StorageRuns.{Entails, Keeps, entails_same, entails_then, in_place, keeps_from, keeps_then, quiet_first, with_empty, without_first, without_front}
use Rattle.mr_frame.specs.Sites.{keeps_storage}
use Rattle.mr_frame.specs.Storage.{frame_slots, onward_slots, slot_of, slots_in, slots_with}
use Rattle.mr_ast.specs.declared.program.Term.TheVariants as term
use Rattle.mr_base.specs.Script.{Done, Undefined, IllFormed, Ask as Asks, ◌>>=◌}
use Rattle.mr_frame.proofs.CallSafe.{heads, tails}
use Rattle.mr_frame.proofs.DoSafe.{DoStands}
use Rattle.mr_frame.proofs.QuietChanges.{change_quiet, store_quiet, stores_quiet}
use Rattle.mr_frame.proofs.Statements.{by_kind, changes}

-- ---- rooms by position

same_rooms : (a b : List Slot) → a ≡ b → Entails a b
same_rooms a b e = subst (Entails a) e (entails_same a)

slots_get : (ls : List Local) (os : List (Option Pointer)) (tail : List Slot) (x : ℕ) (l : Local) (o : Option Pointer) → slice_get ls x ≡ Some l → slice_get os x ≡ Some o
    → slice_get (slots_in ls os ++ tail) x ≡ Some (slot_of l.ty o)
slots_get [] os tail x l o a b = absurd (cc)
slots_get (k ∷ ls) [] tail x l o a b = absurd (cc)
slots_get (k ∷ ls) (u ∷ os) tail zero l o a b = λ i. Some (slot_of (same_Some k l a i).ty (same_Some u o b i))
slots_get (k ∷ ls) (u ∷ os) tail (suc x) l o a b = slots_get ls os tail x l o a b

slots_set : (ls : List Local) (os : List (Option Pointer)) (tail : List Slot) (x : ℕ) (l : Local) (new : Option Pointer) → slice_get ls x ≡ Some l → x < length os
    → slice_set (slots_in ls os ++ tail) x (slot_of l.ty new) ≡ slots_in ls (slice_set os x new) ++ tail
slots_set [] os tail x l new a b = absurd (cc)
slots_set (k ∷ ls) [] tail x l new a b = absurd (omega arith)
slots_set (k ∷ ls) (u ∷ os) tail zero l new a b = λ i. slot_of (sym (same_Some k l a) i).ty new ∷ (slots_in ls os ++ tail)
slots_set (k ∷ ls) (u ∷ os) tail (suc x) l new a b = ap (λ rest. slot_of k.ty u ∷ rest) (slots_set ls os tail x l new a (omega arith))

set_twice : {A : Type 0} (xs : List A) (x : ℕ) (a b : A) → slice_set (slice_set xs x a) x b ≡ slice_set xs x b
set_twice [] x a b = refl
set_twice (y ∷ xs) zero a b = refl
set_twice (y ∷ xs) (suc x) a b = ap (λ rest. y ∷ rest) (set_twice xs x a b)

without_frames : (p : Program) (frames : List Frame) (others : List Slot) → Entails (frame_slots p frames others) others
without_frames p [] others = entails_same others
without_frames p (f ∷ below) others =
    let front = slots_with (slice_get p.functions f.function) f.locals in
    entails_then (front ++ frame_slots p below others) (frame_slots p below others) others (without_front front (frame_slots p below others)) (without_frames p below others)

-- a function's locals without storage
with_none : (ls : List Local) (l : List Slot) → Entails l (slots_in ls (replicate (length ls) None) ++ l)
with_none [] l = entails_same l
with_none (k ∷ ls) l =
    let rest = slots_in ls (replicate (length ls) None) ++ l in
    entails_then l rest (slot_of k.ty None ∷ rest) (with_none ls l) (with_empty (slot_of k.ty None) rest refl)

-- ---- parts

-- the storage of one room goes
free_keeps : (t : Ty) (storage : Option Pointer) (l : List Slot) (x : ℕ) → slice_get l x ≡ Some (slot_of t storage) → Keeps (λ u. slice_set l x (slot_of t None)) l (free_storage t storage)
free_keeps t None l x here = entails_then l (slot_of t None ∷ l) (slice_set l x (slot_of t None)) (with_empty (slot_of t None) l refl) (in_place (slot_of t None) l x)
free_keeps t (Some q) l x here =
    (l, entails_same l, record { index = x; slot = slot_of t (Some q); here = here; is = refl }, λ u. entails_same (slice_set l x (slot_of t None)))

-- the storage of all rooms in front goes
free_all : (ls : List Local) (os : List (Option Pointer)) (tail : List Slot) → Keeps (λ u. tail) (slots_in ls os ++ tail) (free_each ls os)
free_all [] [] tail = entails_same tail
free_all [] (o ∷ os) tail = tt
free_all (l ∷ ls) [] tail = tt
free_all (l ∷ ls) (o ∷ os) tail =
    let rest = slots_in ls os ++ tail in
    keeps_then (λ u. slot_of l.ty None ∷ rest) (λ u. tail) (slot_of l.ty o ∷ rest) (free_storage l.ty o) (λ u. free_each ls os)
    (free_keeps l.ty o (slot_of l.ty o ∷ rest) zero refl)
    (λ u. keeps_from (λ w. tail) (slot_of l.ty None ∷ rest) rest (free_each ls os) (without_first (slot_of l.ty None) rest) (free_all ls os tail))

abbrev both_some : Option (Ty × List Ty) → Option (List Ty)
both_some o = option_map (λ e. e.0 ∷ e.1) o

-- so it is with the rest of them, whatever has storage by then
abbrev AllocatesEach : Function → List LocalName → List Ty → List ℕ → List Slot → Type 0
AllocatesEach fn xs ts picks tail = (os : List (Option Pointer)) → all_there (map (local_type fn) xs) ≡ Some ts → length os ≡ length fn.locals
    → Keeps (λ ps. slots_in fn.locals (with_each os xs ps) ++ tail) (slots_in fn.locals os ++ tail) (allocate_each ts picks)

-- locals of a function get storage, one behind the other
allocate_keeps : (fn : Function) (xs : List LocalName) (ts : List Ty) (picks : List ℕ) (os : List (Option Pointer)) (tail : List Slot) → all_there (map (local_type fn) xs) ≡ Some ts → length os ≡ length fn.locals
    → Keeps (λ ps. slots_in fn.locals (with_each os xs ps) ++ tail) (slots_in fn.locals os ++ tail) (allocate_each ts picks)
allocate_keeps fn xs [] [] os tail typed many = same_rooms _ _ (by_names xs)
  where
    by_names : (ys : List LocalName) → slots_in fn.locals os ++ tail ≡ slots_in fn.locals (with_each os ys []) ++ tail
    by_names [] = refl
    by_names (y ∷ ys) = refl
allocate_keeps fn xs [] (a ∷ picks) os tail typed many = tt
allocate_keeps fn xs (t ∷ ts) [] os tail typed many = tt
allocate_keeps fn [] (t ∷ ts) (a ∷ picks) os tail typed many = absurd (cc)
allocate_keeps fn (x ∷ xs) (t ∷ ts) (a ∷ picks) os tail typed many = by_local (λ now rest same. allocate_keeps fn xs ts picks now tail rest same) (slice_get fn.locals x.0) refl typed
  where
    by_rest : AllocatesEach fn xs ts picks tail → (l : Local) → slice_get fn.locals x.0 ≡ Some l → l.ty ≡ t → all_there (map (local_type fn) xs) ≡ Some ts
        → Keeps (λ ps. slots_in fn.locals (with_each os (x ∷ xs) ps) ++ tail) (slots_in fn.locals os ++ tail) (allocate_each (t ∷ ts) (a ∷ picks))
    by_rest again l there same rest =
        let before = slots_in fn.locals os ++ tail in (
          before,
          entails_same before,
          tt,
          λ q. let now = slice_set os x.0 (Some q) in
              let lt : x.0 < length os = (let k = slice_get_within fn.locals x.0 l there in omega arith) in
              keeps_from (λ ps. slots_in fn.locals (with_each os (x ∷ xs) ps) ++ tail) (slot_of t (Some q) ∷ before) (slots_in fn.locals now ++ tail) (allocate_each ts picks >>= λ ps. Done (q ∷ ps))
              (entails_then (slot_of t (Some q) ∷ before) (slice_set before x.0 (slot_of t (Some q))) (slots_in fn.locals now ++ tail) (in_place (slot_of t (Some q)) before x.0)
              (same_rooms (slice_set before x.0 (slot_of t (Some q))) (slots_in fn.locals now ++ tail) (ap (λ (u : Ty). slice_set before x.0 (slot_of u (Some q))) (sym same) ∙ slots_set fn.locals os tail x.0 l (Some q) there lt)))
              (keeps_then (λ ps. slots_in fn.locals (with_each now xs ps) ++ tail) (λ ps. slots_in fn.locals (with_each os (x ∷ xs) ps) ++ tail) (slots_in fn.locals now ++ tail) (allocate_each ts picks) (λ ps. Done (q ∷ ps))
              (again now rest (length-set os x.0 (Some q) ∙ many))
              (λ ps. entails_same (slots_in fn.locals (with_each now xs ps) ++ tail))),
        )

    by_types : AllocatesEach fn xs ts picks tail → (l : Local) → slice_get fn.locals x.0 ≡ Some l → (us : Option (List Ty)) → all_there (map (local_type fn) xs) ≡ us → both_some (both_there (Some l.ty) us) ≡ Some (t ∷ ts)
        → Keeps (λ ps. slots_in fn.locals (with_each os (x ∷ xs) ps) ++ tail) (slots_in fn.locals os ++ tail) (allocate_each (t ∷ ts) (a ∷ picks))
    by_types again l there None is h = absurd (cc)
    by_types again l there (Some us) is h = let e = same_Some (l.ty ∷ us) (t ∷ ts) h in by_rest again l there (heads e) (is ∙ ap (λ w. Some w) (tails e))

    by_local : AllocatesEach fn xs ts picks tail → (o : Option Local) → slice_get fn.locals x.0 ≡ o → both_some (both_there (option_map (λ (l : Local). l.ty) o) (all_there (map (local_type fn) xs))) ≡ Some (t ∷ ts)
        → Keeps (λ ps. slots_in fn.locals (with_each os (x ∷ xs) ps) ++ tail) (slots_in fn.locals os ++ tail) (allocate_each (t ∷ ts) (a ∷ picks))
    by_local again None is h = absurd (cc)
    by_local again (Some l) is h = by_types again l is (all_there (map (local_type fn) xs)) refl h

-- the frame of a function at its start has its rooms, in front of those that were there
pub enter_keeps : (p : Program) (held : List Slot) (number : ℕ) (called : Function) → slice_get p.functions number ≡ Some called → (vs : List Val) (picks : List ℕ)
    → Keeps (λ (new : Frame). slots_with (slice_get p.functions new.function) new.locals ++ held) held (enter number (Some called) vs picks)
enter_keeps p held number called there vs picks = by_types (kept_types called) refl
  where
    with_types : (ts : List Ty) → kept_types called ≡ Some ts → Keeps (λ (new : Frame). slots_with (slice_get p.functions new.function) new.locals ++ held) held (enter_with number called ts vs picks)
    with_types ts typed =
        let none : List (Option Pointer) = replicate (length called.locals) None in
        keeps_from (λ (new : Frame). slots_with (slice_get p.functions new.function) new.locals ++ held) held (slots_in called.locals none ++ held) (enter_with number called ts vs picks) (with_none called.locals held)
        (keeps_then (λ ps. slots_in called.locals (with_each none (kept_locals called) ps) ++ held) (λ (new : Frame). slots_with (slice_get p.functions new.function) new.locals ++ held) (slots_in called.locals none ++ held) (allocate_each ts picks) _
        (allocate_keeps called (kept_locals called) ts picks none held typed (length-replicate (length called.locals) None))
        (λ ps. quiet_first (λ (new : Frame). slots_with (slice_get p.functions new.function) new.locals ++ held) (slots_in called.locals (with_each none (kept_locals called) ps) ++ held) (store_each (behind_first ts) (behind_first ps) vs) _
        (stores_quiet (behind_first ts) (behind_first ps) vs)
        (λ u. same_rooms _ _ (ap (λ o. slots_with o (with_each none (kept_locals called) ps) ++ held) (sym there)))))

    by_test : (ts : List Ty) → kept_types called ≡ Some ts → (b : Bool) → Keeps (λ (new : Frame). slots_with (slice_get p.functions new.function) new.locals ++ held) held (if b then enter_with number called ts vs picks else IllFormed)
    by_test ts typed true = with_types ts typed
    by_test ts typed false = tt

    by_types : (o : Option (List Ty)) → kept_types called ≡ o → Keeps (λ (new : Frame). slots_with (slice_get p.functions new.function) new.locals ++ held) held (enter_at number called o vs picks)
    by_types None typed = tt
    by_types (Some ts) typed = by_test ts typed (begins_regular called.blocks)

-- ---- plans

-- whatever a reading part finds, what it comes to is so
abbrev pub Leads : {A : Type 0} → (A → Type 0) → ReadScript A → Type 0
Leads P (Done a) = P a
Leads P (Undefined r) = Unit {0}
Leads P IllFormed = Unit {0}
Leads P (Asks q k) = (x : ReadReply q) → Leads P (k x)

leads_then : {A B : Type 0} (P : B → Type 0) (m : ReadScript A) (f : A → ReadScript B) → ((x : A) → Leads P (f x)) → Leads P (m >>= f)
leads_then P (Done a) f h = h a
leads_then P (Undefined r) f h = tt
leads_then P IllFormed f h = tt
leads_then P (Asks q k) f h = λ x. leads_then P (k x) f h

-- whatever picks a plan gets, it takes these rooms to those of the frames behind it
abbrev pub KeepsSlots : Program → List Slot → List Slot → Plan (MemoryScript Onward) → Type 0
KeepsSlots p others l plan = (picks : List ℕ) → Keeps (λ o. onward_slots p o others) l (plan.go picks)

module _ (look : Look) (s : Stack) (others : List Slot) (f : Frame) (below : List Frame) (fn : Function) (is : slice_get look.program.functions f.function ≡ Some fn) (block : Block) where
  abbrev p : Program
  p = look.program

  abbrev site : Site
  site = record { function = fn; block = block; frame = f; below = below }

  abbrev target : Onward → List Slot
  target o = onward_slots p o others

  -- the rooms of the frames below, and of the others
  abbrev tail : List Slot
  tail = frame_slots p below others

  abbrev rooms : List Slot
  rooms = slots_in fn.locals f.locals ++ tail

  -- with such locals of the frame
  abbrev slots : List (Option Pointer) → List Slot
  slots os = slots_with (slice_get p.functions f.function) os ++ tail

  slots_are : (os : List (Option Pointer)) → slots_in fn.locals os ++ tail ≡ slots os
  slots_are os = ap (λ o. slots_with o os ++ tail) (sym is)

  -- a step that makes and frees nothing, and keeps the frame's locals
  quiet_step : {A : Type 0} (m : MemoryScript A) (g : A → Onward) → IsQuiet m → ((x : A) → target (g x) ≡ slots f.locals) → Keeps target (slots f.locals) (m >>= λ x. Done (g x))
  quiet_step m g quiet same = quiet_first target (slots f.locals) m (λ x. Done (g x)) quiet (λ x. same_rooms (slots f.locals) (target (g x)) (sym (same x)))

  -- ---- storage of a local

  module _ (x : ℕ) (l : Local) (storage : Option Pointer) (there : slice_get fn.locals x ≡ Some l) (has : slice_get f.locals x ≡ Some storage) where
    abbrev freed : List Slot
    freed = slice_set rooms x (slot_of l.ty None)

    within_locals : x < length f.locals
    within_locals = slice_get_within f.locals x storage has

    free_first : Keeps (λ u. freed) (slots f.locals) (free_storage l.ty storage)
    free_first =
        keeps_from (λ u. freed) (slots f.locals) rooms (free_storage l.ty storage) (same_rooms (slots f.locals) rooms (sym (slots_are f.locals)))
        (free_keeps l.ty storage rooms x (slots_get fn.locals f.locals tail x l storage there has))

    stored_now : (q : Pointer) → slice_set freed x (slot_of l.ty (Some q)) ≡ slots (slice_set f.locals x (Some q))
    stored_now q =
        set_twice rooms x (slot_of l.ty None) (slot_of l.ty (Some q))
        ∙ slots_set fn.locals f.locals tail x l (Some q) there within_locals
        ∙ slots_are (slice_set f.locals x (Some q))

    live_keeps : (picks : List ℕ) → Keeps target (slots f.locals) (live_at s site x l.ty storage picks)
    live_keeps [] = tt
    live_keeps (a ∷ []) =
        keeps_then (λ u. freed) target (slots f.locals) (free_storage l.ty storage) _ free_first
        (λ u. (
          freed,
          entails_same freed,
          tt,
          λ q. entails_then (slot_of l.ty (Some q) ∷ freed) (slice_set freed x (slot_of l.ty (Some q))) (slots (slice_set f.locals x (Some q))) (in_place (slot_of l.ty (Some q)) freed x)
              (same_rooms (slice_set freed x (slot_of l.ty (Some q))) (slots (slice_set f.locals x (Some q))) (stored_now q)),
        ))
    live_keeps (a ∷ b ∷ picks) = tt

    dead_keeps : Keeps target (slots f.locals) (dead s site x (Some l) (Some storage))
    dead_keeps =
        keeps_then (λ u. freed) target (slots f.locals) (free_storage l.ty storage) _ free_first
        (λ u. same_rooms freed (slots (slice_set f.locals x None)) (slots_set fn.locals f.locals tail x l None there within_locals ∙ slots_are (slice_set f.locals x None)))

  live_leads : (x : ℕ) (l : Option Local) (storage : Option (Option Pointer)) → slice_get fn.locals x ≡ l → slice_get f.locals x ≡ storage → Leads (KeepsSlots p others (slots f.locals)) (live s site x l storage)
  live_leads x (Some l) (Some storage) there has = λ picks. live_keeps x l storage there has picks
  live_leads x (Some l) None there has = tt
  live_leads x None storage there has = tt

  dead_leads : (x : ℕ) (l : Option Local) (storage : Option (Option Pointer)) → slice_get fn.locals x ≡ l → slice_get f.locals x ≡ storage → Keeps target (slots f.locals) (dead s site x l storage)
  dead_leads x (Some l) (Some storage) there has = dead_keeps x l storage there has
  dead_leads x (Some l) None there has = tt
  dead_leads x None storage there has = tt

  changed : (x : Stmt) → Keeps target (slots f.locals) (change (scene_in look fn f) x >>= λ _. Done (next s site f))
  changed x = quiet_step (change (scene_in look fn f) x) (λ u. next s site f) (change_quiet (scene_in look fn f) x) (λ u. refl)

  statement_keeps : (x : Stmt) → Leads (KeepsSlots p others (slots f.locals)) (statement look s site x)
  statement_keeps =
      by_kind (λ x. Leads (KeepsSlots p others (slots f.locals)) (statement look s site x))
      (λ x. live_leads x.0 (slice_get fn.locals x.0) (slice_get f.locals x.0) refl refl)
      (λ x picks. dead_leads x.0 (slice_get fn.locals x.0) (slice_get f.locals x.0) refl refl)
      (λ x kind. subst (Leads (KeepsSlots p others (slots f.locals))) (sym (changes look s site x kind)) (λ picks. changed x))

  -- ---- calls

  call_leads : (place : Pointer) (number : ℕ) (called : Function) → slice_get p.functions number ≡ Some called → (vs : List Val) (types : Option (List Ty × List Ty)) → Leads (KeepsSlots p others (slots f.locals)) (call_plan s site place number called vs types)
  call_leads place number called there vs None = tt
  call_leads place number called there vs (Some types) = by_test (same_types types.0 types.1)
    where
      goes : (picks : List ℕ) → Keeps target (slots f.locals) (enter number (Some called) vs picks >>= λ new. Done (GoesOn (calling s site place new)))
      goes picks =
          keeps_then (λ (new : Frame). slots_with (slice_get p.functions new.function) new.locals ++ slots f.locals) target (slots f.locals) (enter number (Some called) vs picks) (λ new. Done (GoesOn (calling s site place new)))
          (enter_keeps p (slots f.locals) number called there vs picks)
          (λ new. entails_same (slots_with (slice_get p.functions new.function) new.locals ++ slots f.locals))

      by_test : (b : Bool) → Leads (KeepsSlots p others (slots f.locals)) (if b then Done (record { creates = CreatesNothing; asks = storage_asks types.1; go = λ picks. enter number (Some called) vs picks >>= λ new. Done (GoesOn (calling s site place new)) }) else Undefined (plainly SignatureMismatch))
      by_test true = goes
      by_test false = tt

  numbered_leads : (given : Option (List Ty)) (place : Pointer) (vs : List Val) (o : Option ℕ) → Leads (KeepsSlots p others (slots f.locals)) (call_number look s site given place vs o)
  numbered_leads given place vs None = tt
  numbered_leads given place vs (Some number) = by_function (slice_get p.functions number) refl
    where
      by_function : (g : Option Function) → slice_get p.functions number ≡ g → Leads (KeepsSlots p others (slots f.locals)) (call_function look s site given place vs number g)
      by_function None there = tt
      by_function (Some called) there = call_leads place number called there vs (both_there given (kept_types called))

  calls : (callee : Value) (args : List Value) (place : Place) → Leads (KeepsSlots p others (slots f.locals)) (call look s site callee args place)
  calls callee args place =
      let here = scene_in look fn f in
      leads_then (KeepsSlots p others (slots f.locals)) (place_script here place) _
      (λ q. leads_then (KeepsSlots p others (slots f.locals)) (value_script here callee) _
      (λ v. leads_then (KeepsSlots p others (slots f.locals)) (pointer_of_value v) _
      (λ c. leads_then (KeepsSlots p others (slots f.locals)) (values_script here args) _
      (λ vs. numbered_leads (given_types here place args) q vs (callee_of look.functions c)))))

  -- ---- the end of a function

  free_frame : Keeps (λ u. tail) (slots f.locals) (free_each fn.locals f.locals)
  free_frame = keeps_from (λ u. tail) (slots f.locals) rooms (free_each fn.locals f.locals) (same_rooms (slots f.locals) rooms (sym (slots_are f.locals))) (free_all fn.locals f.locals tail)

  gives : (caller : Frame) (under : List Frame) (t : Option Ty) (v : Val) (b : Option BlockName) (place : Option Pointer) → Keeps target (frame_slots p (caller ∷ under) others) (give_result s caller under t v b place)
  gives caller under t v None place = tt
  gives caller under None v (Some b) place = tt
  gives caller under (Some t) v (Some b) None = tt
  gives caller under (Some t) v (Some b) (Some place) =
      quiet_first target (frame_slots p (caller ∷ under) others) (store t place v) _ (store_quiet t place v) (λ u. entails_same (frame_slots p (caller ∷ under) others))

  gives_to : (caller : Frame) (under : List Frame) (t : Option Ty) (v : Val) (o : Option Targets) → Keeps target (frame_slots p (caller ∷ under) others) (give_to s caller under t v o)
  gives_to caller under t v None = tt
  gives_to caller under t v (Some targets) = gives caller under t v targets.next caller.call

  leaves : (t : Option Ty) (v : Val) (frames : List Frame) → Keeps target (frame_slots p frames others) (leave look s t v frames)
  leaves t v [] = entails_same others
  leaves t v (caller ∷ under) = gives_to caller under t v (targets_of look caller)

  returns : (thread : ℕ) → Keeps target (slots f.locals) (return_from look thread s site)
  returns thread = by_test (is_main thread below)
    where
      by_test : (b : Bool) → Keeps target (slots f.locals) (if b then Undefined (plainly MainReturned) else (reading_part (return_value fn f) >>= λ v. free_each fn.locals f.locals >>= λ u. leave look s (local_type fn fn.ret) v below))
      by_test true = tt
      by_test false =
          quiet_first target (slots f.locals) (reading_part (return_value fn f)) _ (reading_quiet (return_value fn f))
          (λ v. keeps_then (λ u. tail) target (slots f.locals) (free_each fn.locals f.locals) _ free_frame (λ u. leaves (local_type fn fn.ret) v below))

  module _ (caller : Frame) (under : List Frame) (are : below ≡ caller ∷ under) where
    unwinds_to : (b : Option BlockName) → Keeps target (slots f.locals) (unwind_to s site caller under b)
    unwinds_to None = tt
    unwinds_to (Some b) =
        keeps_then (λ u. tail) target (slots f.locals) (free_each fn.locals f.locals) _ free_frame
        (λ u. same_rooms tail (frame_slots p (caller ∷ under) others) (ap (λ (frames : List Frame). frame_slots p frames others) are))

    unwinds_in : (o : Option Targets) → Keeps target (slots f.locals) (unwind_in s site caller under o)
    unwinds_in None = tt
    unwinds_in (Some targets) = unwinds_to targets.unwind

  resumes : (frames : List Frame) → below ≡ frames → Keeps target (slots f.locals) (resume look s site frames)
  resumes [] are = tt
  resumes (caller ∷ under) are = unwinds_in caller under are (targets_of look caller)

  unwinds : (v : Value) (b : BlockName) → Keeps target (slots f.locals) (unwind look s site v b.0)
  unwinds v b =
      quiet_first target (slots f.locals) (reading_part (value_script (scene_in look fn f) v)) _ (reading_quiet (value_script (scene_in look fn f) v))
      (λ x. quiet_first target (slots f.locals) (reading_part (pointer_of_value x)) _ (reading_quiet (pointer_of_value x)) (λ q. entails_same (slots f.locals)))

  -- ---- terminators

  terminator_keeps : (thread : ℕ) (t : Term) → Leads (KeepsSlots p others (slots f.locals)) (terminator look thread s site t)
  terminator_keeps thread (term.Goto b) = λ picks. entails_same (slots f.locals)
  terminator_keeps thread (term.Switch v cases other) =
      λ picks. quiet_step (reading_part (switched (scene_in look fn f) v cases other)) (λ b. goes_to s site b) (reading_quiet (switched (scene_in look fn f) v cases other)) (λ b. refl)
  terminator_keeps thread term.Unreachable = λ picks. tt
  terminator_keeps thread (term.Call callee args place next unwind) = calls callee args place
  terminator_keeps thread term.Return = λ picks. returns thread
  terminator_keeps thread (term.Unwind v b) = λ picks. unwinds v b
  terminator_keeps thread term.Resume = λ picks. resumes below refl
  terminator_keeps thread (term.Stop b) = λ picks. entails_same (slots f.locals)
  terminator_keeps thread term.Exit = λ picks. without_frames p (f ∷ below) others
  terminator_keeps thread term.Abort = λ picks. without_frames p (f ∷ below) others
  terminator_keeps thread (term.Do op args place next) = tt

  due_keeps : (thread : ℕ) (due : Option Due) → Leads (KeepsSlots p others (slots f.locals)) (plan_due look thread s site due)
  due_keeps thread None = tt
  due_keeps thread (Some (AtStatement x)) = statement_keeps x
  due_keeps thread (Some (AtTerminator t)) = terminator_keeps thread t
  due_keeps thread (Some (AtDo op args place next)) = tt

-- THE STEP OF A THREAD keeps the storage of its frames, apart from each other and from whatever else is held
pub frame_keeps : (look : Look) (thread : ℕ) (s : Stack) (others : List Slot) → Leads (KeepsSlots look.program others (frame_slots look.program s.frames others)) (frame_plan look thread s)
unfolding frame_plan site_of
frame_keeps look thread s others = by_frames s.frames
  where
    by_block : (f : Frame) (below : List Frame) (fn : Function) → slice_get look.program.functions f.function ≡ Some fn → (b : Option Block)
        → Leads (KeepsSlots look.program others (frame_slots look.program (f ∷ below) others)) (plan_at look thread s (site_in look.program f below fn b))
    by_block f below fn is None = tt
    by_block f below fn is (Some block) = by_rules (none_broken (broken_in_head fn ++ broken_at look.program fn block (slice_get block.stmts f.at)))
      where
        by_rules : (b : Bool) → Leads (KeepsSlots look.program others (frame_slots look.program (f ∷ below) others))
            (plan_at look thread s (if b then Some (record { function = fn; block = block; frame = f; below = below }) else None))
        by_rules false = tt
        by_rules true = due_keeps look s others f below fn is block thread (due_of (record { function = fn; block = block; frame = f; below = below }))

    by_storage : (f : Frame) (below : List Frame) (fn : Function) → slice_get look.program.functions f.function ≡ Some fn → (b : Bool)
        → Leads (KeepsSlots look.program others (frame_slots look.program (f ∷ below) others)) (plan_at look thread s (if b then site_in look.program f below fn (slice_get fn.blocks f.block) else None))
    by_storage f below fn is true = by_block f below fn is (slice_get fn.blocks f.block)
    by_storage f below fn is false = tt

    by_function : (f : Frame) (below : List Frame) (o : Option Function) → slice_get look.program.functions f.function ≡ o
        → Leads (KeepsSlots look.program others (frame_slots look.program (f ∷ below) others)) (plan_at look thread s (site_of_frame look.program f below o))
    by_function f below None is = tt
    by_function f below (Some fn) is = by_storage f below fn is (keeps_storage fn f)

    by_frames : (frames : List Frame) → Leads (KeepsSlots look.program others (frame_slots look.program frames others)) (plan_at look thread s (site_of_frames look frames))
    by_frames [] = tt
    by_frames (f ∷ below) = by_function f below (slice_get look.program.functions f.function) refl

-- ---- how an intrinsic ends

-- the thread goes on with the same rooms
pub finish_keeps : (look : Look) (is : IsLook look) (well : WellFormed look.program) (s : Stack) (d : DueDo) → DoStands look is well s d → (o : Operands) (v : Option Val) (others : List Slot) (front : List Slot → List Slot)
    → Keeps (λ (x : Stack). front (frame_slots look.program x.frames others)) (front (frame_slots look.program s.frames others)) (finish s d o v)
finish_keeps look is well s d h o v others front =
    quiet_first (λ (x : Stack). front (frame_slots look.program x.frames others)) (front (frame_slots look.program s.frames others)) (store_result o.result o.result_type v) _
    (result_quiet o.result o.result_type v)
    (λ u. same_rooms (front (frame_slots look.program s.frames others)) (front (frame_slots look.program (done_stack s d).frames others)) (ap front same))
  where
    result_quiet : (q : Option Pointer) (t : Option Ty) (x : Option Val) → IsQuiet (store_result q t x)
    result_quiet None None None = tt
    result_quiet None None (Some x) = tt
    result_quiet None (Some t) x = tt
    result_quiet (Some q) None x = tt
    result_quiet (Some q) (Some t) None = tt
    result_quiet (Some q) (Some t) (Some x) = store_quiet t q x

    same : frame_slots look.program s.frames others ≡ frame_slots look.program (done_stack s d).frames others
    same =
        ap (λ (frames : List Frame). frame_slots look.program frames others) h.frames
        ∙ ap (λ (site : Site). frame_slots look.program (at_block site.frame d.next.0 ∷ site.below) others) (sym h.site)
