-- What the next step of a thread comes to, by what is due.
use Rattle.mr_frame.proofs.Common.{◌≡◌, ℕ, refl, sym, ap, ◌∙◌, List, [], ◌∷◌, Option, None, Some, slice_get, plainly, Value, BlockName, Function, Local, LocalName, Stmt, Num, Ty, Pointer, align_of, size_of, Memory, out-Val, Broken, Done, Outcome, Refused, Went, ◌>>=◌, on, run, run_bind, valued, Surround, value_script, Allocate, MemoryScript, memory_answer, reading_part, or_ill_formed, pointer_in, pointer_of_value, ReadScript, Seen, reading, seen_of, with_seen, World, on_then, reading_then, FramePlan, free_each, leave, local_type, return_from, return_value, IsChange, change, free_storage, acted, asked, asks_of, changed, chosen, pointed, there_or_broken, unstored, freed_each, left_by, returned, Frame, GoesOn, Look, Onward, Stack, at_block, scene_in, with_storage, with_top, IsReady, look_of, AtStatement, AtTerminator, Due, Site, site_of, StandsAt, switched, dead, frame_plan, live, next, plan_at, plan_due, on_itself}
use Rattle.mr_base.specs.declared.reason.Reason.TheVariants.{Unreachable}
use Rattle.mr_sched.specs.declared.schedule.Ask.TheVariants.{Address}
use Rattle.mr_frame.specs.Calls.{stop}
use Rattle.mr_frame.specs.Effects.{planned}
use Rattle.mr_frame.specs.Frames.{Aborts, Exits}
use Rattle.mr_ast.specs.declared.program.Stmt.TheVariants as stmt
use Rattle.mr_ast.specs.declared.program.Term.TheVariants as term
use Rattle.mr_base.specs.declared.byte.Kind.TheVariants.{Stack as OnStack}
use Rattle.mr_frame.specs.declared.look.Look.{Look as KeptLook}
use Rattle.mr_frame.proofs.Statements.{changes}
use Rattle.mr_frame.proofs.ChangeRuns.{left, makes_change}
use Rattle.mr_frame.proofs.Frames.{site_is}

-- ---- runs, by their parts

-- going on in the same way is the same
pub on_same : {A B S T : Type 0} (o : Outcome A S) (f g : A → S → Outcome B T) → ((x : A) (s : S) → f x s ≡ g x s) → on o f ≡ on o g
on_same (Went x s) f g h = h x s
on_same (Refused r) f g h = refl
on_same Broken f g h = refl

-- a script over memory, and one behind it
pub memory_bind : {A B : Type 0} (script : MemoryScript A) (f : A → MemoryScript B) (w : World) → run memory_answer (script >>= f) w ≡ on (run memory_answer script w) (λ x v. run memory_answer (f x) v)
memory_bind script f w = run_bind memory_answer script f w

-- what is there, or no rule
pub found_run : {A : Type 0} (m : Memory) (o : Option A) (s : Seen) → run (reading m) (or_ill_formed o) s ≡ there_or_broken o s
found_run m None s = refl
found_run m (Some x) s = refl

-- the storage of a local freed
pub free_run : (t : Ty) (storage : Option Pointer) (w : World) → run memory_answer (free_storage t storage) w ≡ unstored storage (size_of t) (align_of t) w
free_run t None w = refl
free_run t (Some p) w = on_itself _

-- the pointer that an expression gives, and what is behind it
pub pointed_run : (m : Memory) (s : Surround) (v : Value) (seen : Seen) → on (run (reading m) (value_script s v) seen) (λ x last. run (reading m) (pointer_of_value x) last) ≡ pointed m s v seen
unfolding pointed valued
pointed_run m s v seen = on_same (run (reading m) (value_script s v) seen) _ _ (λ x last. found_run m (pointer_in (out-Val x)) last)

-- ---- by what is due

module _ (look : KeptLook) (ready : IsReady look) (f : Frame) (below : List Frame) (payloads : List Pointer) where
  abbrev pub lk : Look
  lk = look_of look

  abbrev pub stack : Stack
  stack = record { frames = f ∷ below; payloads = payloads }

  module _ (due : Due) (h : StandsAt look.program.now f below due) where
    abbrev pub site : Site
    site = record { function = h.fits.function; block = h.fits.block; frame = f; below = below }

    pub plan_is : (t : ℕ) → frame_plan lk t stack ≡ plan_due lk t stack site (Some due)
    unfolding frame_plan site_of
    plan_is t =
        ap (plan_at lk t stack) (site_is lk (record { functions = ready.functions; globals = ready.globals }) ready.well f below h.fits)
        ∙ ap (plan_due lk t stack site) h.is

    pub acted_is : (t : ℕ) (picks : List ℕ) (w : World) → acted lk t stack picks w ≡ run memory_answer (reading_part (plan_due lk t stack site (Some due)) >>= λ plan. plan.go picks) w
    unfolding acted
    acted_is t picks w = ap (λ (p : FramePlan). run memory_answer (reading_part p >>= λ plan. plan.go picks) w) (plan_is t)

    pub asked_is : (m : Memory) (t : ℕ) (s : Seen) → asked m lk t stack s ≡ asks_of (run (reading m) (plan_due lk t stack site (Some due)) s)
    unfolding asked planned
    asked_is m t s = ap (λ (p : FramePlan). asks_of (run (reading m) p s)) (plan_is t)

  -- ---- statements

  module _ (x : Stmt) (kind : IsChange x) (h : StandsAt look.program.now f below (AtStatement x)) where
    abbrev here : Site
    here = site (AtStatement x) h

    abbrev scene : Surround
    scene = scene_in lk h.fits.function f

    went_on : (w : World) (o : Outcome Memory Seen) (n : Onward) → on (on o (left w)) (λ u v. Went n v) ≡ on o (λ m s. Went n (m, with_seen w.1 s))
    went_on w (Went m s) n = refl
    went_on w (Refused r) n = refl
    went_on w Broken n = refl

    pub acted_change : (t : ℕ) (picks : List ℕ) (w : World) → acted lk t stack picks w ≡ on (changed w.0 scene x (seen_of w.1)) (λ m s. Went (next stack here f) (m, with_seen w.1 s))
    acted_change t picks w =
        acted_is (AtStatement x) h t picks w
        ∙ ap (λ (p : FramePlan). run memory_answer (reading_part p >>= λ plan. plan.go picks) w) (changes lk stack here x kind)
        ∙ memory_bind (change scene x) (λ _. Done (next stack here f)) w
        ∙ ap (λ (o : Outcome (Unit {0}) World). on o (λ u v. Went (next stack here f) v)) (makes_change scene x kind w)
        ∙ went_on w (changed w.0 scene x (seen_of w.1)) (next stack here f)

    pub asked_change : (m : Memory) (t : ℕ) (s : Seen) → asked m lk t stack s ≡ []
    asked_change m t s =
        asked_is (AtStatement x) h m t s
        ∙ ap (λ (p : FramePlan). asks_of (run (reading m) p s)) (changes lk stack here x kind)

  module _ (x : LocalName) (h : StandsAt look.program.now f below (AtStatement (stmt.Live x))) (l : Local) (there : slice_get h.fits.function.locals x.0 ≡ Some l) (storage : Option Pointer) (stored : slice_get f.locals x.0 ≡ Some storage) where
    abbrev at_live : Site
    at_live = site (AtStatement (stmt.Live x)) h

    live_is : live stack at_live x.0 (slice_get h.fits.function.locals x.0) (slice_get f.locals x.0) ≡ live stack at_live x.0 (Some l) (Some storage)
    live_is = λ i. live stack at_live x.0 (there i) (stored i)

    pub acted_live : (t a : ℕ) (w : World) → acted lk t stack (a ∷ []) w
        ≡ on (unstored storage (size_of l.ty) (align_of l.ty) w) (λ u v. on (memory_answer (Allocate OnStack (size_of l.ty) (align_of l.ty) a) v) (λ p v'. Went (next stack at_live (with_storage f x.0 (Some p))) v'))
    acted_live t a w =
        acted_is (AtStatement (stmt.Live x)) h t (a ∷ []) w
        ∙ ap (λ (p : FramePlan). run memory_answer (reading_part p >>= λ plan. plan.go (a ∷ [])) w) live_is
        ∙ memory_bind (free_storage l.ty storage) _ w
        ∙ ap (λ (o : Outcome (Unit {0}) World). on o (λ u v. on (memory_answer (Allocate OnStack (size_of l.ty) (align_of l.ty) a) v) (λ p v'. Went (next stack at_live (with_storage f x.0 (Some p))) v'))) (free_run l.ty storage w)

    pub asked_live : (m : Memory) (t : ℕ) (s : Seen) → asked m lk t stack s ≡ Address (size_of l.ty) (align_of l.ty) ∷ []
    asked_live m t s = asked_is (AtStatement (stmt.Live x)) h m t s ∙ ap (λ (p : FramePlan). asks_of (run (reading m) p s)) live_is

  module _ (x : LocalName) (h : StandsAt look.program.now f below (AtStatement (stmt.Dead x))) (l : Local) (there : slice_get h.fits.function.locals x.0 ≡ Some l) (storage : Option Pointer) (stored : slice_get f.locals x.0 ≡ Some storage) where
    abbrev at_dead : Site
    at_dead = site (AtStatement (stmt.Dead x)) h

    pub acted_dead : (t : ℕ) (picks : List ℕ) (w : World) → acted lk t stack picks w ≡ on (unstored storage (size_of l.ty) (align_of l.ty) w) (λ u v. Went (next stack at_dead (with_storage f x.0 None)) v)
    acted_dead t picks w =
        acted_is (AtStatement (stmt.Dead x)) h t picks w
        ∙ (λ i. run memory_answer (dead stack at_dead x.0 (there i) (stored i)) w)
        ∙ memory_bind (free_storage l.ty storage) _ w
        ∙ ap (λ (o : Outcome (Unit {0}) World). on o (λ u v. Went (next stack at_dead (with_storage f x.0 None)) v)) (free_run l.ty storage w)

  pub asked_dead : (x : LocalName) → StandsAt look.program.now f below (AtStatement (stmt.Dead x)) → (m : Memory) (t : ℕ) (s : Seen) → asked m lk t stack s ≡ []
  asked_dead x h m t s = asked_is (AtStatement (stmt.Dead x)) h m t s

  -- ---- terminators

  -- what is behind an evaluation
  pub read_on : {A B : Type 0} (script : ReadScript A) (k : A → MemoryScript B) (g : A → World → Outcome B World) (w : World) → ((x : A) (v : World) → run memory_answer (k x) v ≡ g x v)
      → run memory_answer (reading_part script >>= k) w ≡ on (run (reading w.0) script (seen_of w.1)) (λ x s. g x (w.0, with_seen w.1 s))
  read_on script k g w h = reading_then script k w ∙ on_same (run (reading w.0) script (seen_of w.1)) _ _ (λ x s. h x (w.0, with_seen w.1 s))

  pub acted_goto : (b : BlockName) → StandsAt look.program.now f below (AtTerminator (term.Goto b)) → (t : ℕ) (picks : List ℕ) (w : World) → acted lk t stack picks w ≡ Went (GoesOn (with_top stack below (at_block f b.0))) w
  acted_goto b h t picks w = acted_is (AtTerminator (term.Goto b)) h t picks w

  pub acted_stop : (b : BlockName) → (h : StandsAt look.program.now f below (AtTerminator (term.Stop b))) → (t : ℕ) (picks : List ℕ) (w : World) → acted lk t stack picks w ≡ run memory_answer (Done (stop stack (site (AtTerminator (term.Stop b)) h) b.0)) w
  acted_stop b h t picks w = acted_is (AtTerminator (term.Stop b)) h t picks w

  pub acted_exit : StandsAt look.program.now f below (AtTerminator term.Exit) → (t : ℕ) (picks : List ℕ) (w : World) → acted lk t stack picks w ≡ Went Exits w
  acted_exit h t picks w = acted_is (AtTerminator term.Exit) h t picks w

  pub acted_abort : StandsAt look.program.now f below (AtTerminator term.Abort) → (t : ℕ) (picks : List ℕ) (w : World) → acted lk t stack picks w ≡ Went Aborts w
  acted_abort h t picks w = acted_is (AtTerminator term.Abort) h t picks w

  pub acted_unreachable : StandsAt look.program.now f below (AtTerminator term.Unreachable) → (t : ℕ) (picks : List ℕ) (w : World) → acted lk t stack picks w ≡ Refused (plainly Unreachable)
  acted_unreachable h t picks w = acted_is (AtTerminator term.Unreachable) h t picks w

  pub acted_switch : (value : Value) (cases : List (Num × BlockName)) (other : BlockName) (h : StandsAt look.program.now f below (AtTerminator (term.Switch value cases other))) → (t : ℕ) (picks : List ℕ) (w : World)
      → acted lk t stack picks w ≡ on (chosen w.0 (scene_in lk h.fits.function f) value cases other (seen_of w.1)) (λ b s. Went (GoesOn (with_top stack below (at_block f b))) (w.0, with_seen w.1 s))
  unfolding chosen
  acted_switch value cases other h t picks w =
      acted_is (AtTerminator (term.Switch value cases other)) h t picks w ∙ reading_then (switched (scene_in lk h.fits.function f) value cases other) _ w

  pub acted_unwind : (value : Value) (b : BlockName) (h : StandsAt look.program.now f below (AtTerminator (term.Unwind value b))) → (t : ℕ) (picks : List ℕ) (w : World)
      → acted lk t stack picks w ≡ on (pointed w.0 (scene_in lk h.fits.function f) value (seen_of w.1)) (λ p s. Went (GoesOn (record { frames = at_block f b.0 ∷ below; payloads = p ∷ payloads })) (w.0, with_seen w.1 s))
  acted_unwind value b h t picks w =
      let scene = scene_in lk h.fits.function f in
      let ends : Pointer → Onward = λ p. GoesOn (record { frames = at_block f b.0 ∷ below; payloads = p ∷ payloads }) in
      acted_is (AtTerminator (term.Unwind value b)) h t picks w
      ∙ reading_then (value_script scene value) _ w
      ∙ on_same (run (reading w.0) (value_script scene value) (seen_of w.1)) _ _ (λ x s. reading_then (pointer_of_value x) (λ p. Done (ends p)) (w.0, with_seen w.1 s))
      ∙ sym (on_then (run (reading w.0) (value_script scene value) (seen_of w.1)) (λ x last. run (reading w.0) (pointer_of_value x) last) (λ p s. Went (ends p) (w.0, with_seen w.1 s)))
      ∙ ap (λ (o : Outcome Pointer Seen). on o (λ p s. Went (ends p) (w.0, with_seen w.1 s))) (pointed_run w.0 scene value (seen_of w.1))

  -- ---- return

  pub acted_return : (h : StandsAt look.program.now f below (AtTerminator term.Return)) → (t : ℕ) (picks : List ℕ) (w : World)
      → acted lk t stack picks w ≡ run memory_answer (return_from lk t stack (site (AtTerminator term.Return) h)) w
  acted_return h t picks w = acted_is (AtTerminator term.Return) h t picks w

  pub return_run : (fn : Function) (w : World) → run memory_answer (reading_part (return_value fn f) >>= λ v. free_each fn.locals f.locals >>= λ _. leave lk stack (local_type fn fn.ret) v below) w
      ≡ on (returned w.0 fn f (seen_of w.1)) (λ v s. on (freed_each fn.locals f.locals (w.0, with_seen w.1 s)) (λ u v'. left_by lk stack (local_type fn fn.ret) v below v'))
  unfolding returned freed_each left_by
  return_run fn w = read_on (return_value fn f) _ (λ v w'. on (run memory_answer (free_each fn.locals f.locals) w') (λ u v'. run memory_answer (leave lk stack (local_type fn fn.ret) v below) v')) w
      (λ v w'. memory_bind (free_each fn.locals f.locals) _ w')
