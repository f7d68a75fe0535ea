-- What a step that is no intrinsic asks for, by what is due.
use Rattle.mr_frame.proofs.Common.{◌≡◌, ℕ, ◌+◌, ◌<◌, ◌≤◌, refl, sym, ap, ◌∙◌, subst, List, [], ◌∷◌, ◌++◌, length, drop, get_or, Option, None, Some, add-one, append-nil, append_assoc, drop-cons, drop_all, same_Some, All, slice_get, Place, Value, BlockName, Function, Local, LocalName, Stmt, Term, Ty, Pointer, Ask, TypeOk, Memory, Seen, HasTypes, written_types, kept_types, storage_asks, asked, Frame, Look, Stack, IsReady, below_of, frame_of, look_of, stack_of, do_due, AtStatement, AtTerminator, NoDo, Site, due_term, kept_locals, Holds, IsDue, StandsAt, item_there, all_at}
use Rattle.mr_frame.specs.Acting.{IsQuiet, NoCall, NoLive}
use Rattle.mr_ast.specs.declared.program.Stmt.TheVariants as stmt
use Rattle.mr_ast.specs.declared.program.Term.TheVariants as term
use Rattle.mr_frame.specs.declared.look.Look.{Look as KeptLook}
use Rattle.mr_frame.specs.declared.stack.Stack.{Stack as KeptStack}
use Rattle.mr_frame.proofs.ActedLaws.{asked_change, asked_dead, asked_is, asked_live, site, stack}
use Rattle.mr_frame.proofs.IntrinsicLaws.{next_do_is}
use Rattle.mr_frame.proofs.Statements.{by_kind}
use Rattle.mr_frame.proofs.BeginSteps.{first_typed, kept_known}
use Rattle.mr_frame.proofs.StandLaws.{holds_below, live_holds}
use Rattle.mr_frame.proofs.TypeRows.{none_there}

-- ---- what the start of a function asks for, one local after another

-- These locals are not asked for still.
pub record Asking (fn : Function) (names : List LocalName) (before after : List Ask) : Type 0 where
  pub types : List Ty
  pub typed : written_types fn names ≡ Some types
  pub so_far : (all : List Ty) → kept_types fn ≡ Some all → before ++ storage_asks all ≡ after ++ storage_asks types

pub asking_first : (fn : Function) → HasTypes fn → (before : List Ask) → Asking fn (kept_locals fn) before before
asking_first fn has before =
    let known = kept_known fn has.locals in
    record { types = known.0; typed = known.1; so_far = λ all e. ap (λ (ts : List Ty). before ++ storage_asks ts) (same_Some all known.0 (sym e ∙ known.1)) }

pub asking_next : (fn : Function) (x : LocalName) (names : List LocalName) (before out after : List Ask) (l : Local) → slice_get fn.locals x.0 ≡ Some l → Asking fn (x ∷ names) before out → after ≡ out ++ storage_asks (l.ty ∷ []) → Asking fn names before after
asking_next fn x names before out after l there h e =
    let row = first_typed fn x names h.types l there h.typed in
    record {
      types = row.rest;
      typed = row.behind;
      so_far = λ all k.
          h.so_far all k
          ∙ ap (λ (ts : List Ty). out ++ storage_asks ts) row.is
          ∙ sym (append_assoc out (storage_asks (l.ty ∷ [])) (storage_asks row.rest))
          ∙ ap (λ (asks : List Ask). asks ++ storage_asks row.rest) (sym e);
    }

pub asking_last : (fn : Function) (before after : List Ask) → Asking fn [] before after → (all : List Ty) → kept_types fn ≡ Some all → after ≡ before ++ storage_asks all
asking_last fn before after h all e =
    sym (h.so_far all e ∙ ap (λ (ts : List Ty). after ++ storage_asks ts) (none_there h.types h.typed) ∙ append-nil after)

module _ (fn : Function) (xs : List LocalName) (k : ℕ) (before after : List Ask) where
  pub asking_cut : (d : LocalName) → k < length xs → Asking fn (drop k xs) before after → Asking fn (get_or xs k d ∷ drop (k + 1) xs) before after
  asking_cut d lt h = subst (λ (ys : List LocalName). Asking fn ys before after) (drop-cons xs k d lt ∙ ap (λ n. get_or xs k d ∷ drop n xs) (sym (add-one k))) h

  pub asking_end : length xs ≤ k → Asking fn (drop k xs) before after → (all : List Ty) → kept_types fn ≡ Some all → after ≡ before ++ storage_asks all
  asking_end le h = asking_last fn before after (subst (λ (ys : List LocalName). Asking fn ys before after) (drop_all k xs le) h)

-- ---- by what is due

module _ (look : KeptLook) (ready : IsReady look) (f : Frame) (below : List Frame) (payloads : List Pointer) where
  abbrev lk : Look
  lk = look_of look

  abbrev whole : Stack
  whole = stack look ready f below payloads

  pub asked_stmt : (x : Stmt) → NoLive x → StandsAt look.program.now f below (AtStatement x) → (m : Memory) (t : ℕ) (s : Seen) → asked m lk t whole s ≡ []
  asked_stmt =
      by_kind (λ x. NoLive x → StandsAt look.program.now f below (AtStatement x) → (m : Memory) (t : ℕ) (s : Seen) → asked m lk t whole s ≡ [])
      (λ x other h m t s. absurd (other x refl))
      (λ x other h m t s. asked_dead look ready f below payloads x h m t s)
      (λ x kind other h m t s. asked_change look ready f below payloads x kind h m t s)

  pub asked_term : (x : Term) → NoDo x → NoCall x → StandsAt look.program.now f below (due_term x) → (m : Memory) (t : ℕ) (s : Seen) → asked m lk t whole s ≡ []
  asked_term (term.Goto b) clear other h m t s = asked_is look ready f below payloads (AtTerminator (term.Goto b)) h m t s
  asked_term (term.Switch v cases last) clear other h m t s = asked_is look ready f below payloads (AtTerminator (term.Switch v cases last)) h m t s
  asked_term term.Unreachable clear other h m t s = asked_is look ready f below payloads (AtTerminator term.Unreachable) h m t s
  asked_term (term.Call callee args place next unwind) clear other h m t s = absurd other
  asked_term term.Return clear other h m t s = asked_is look ready f below payloads (AtTerminator term.Return) h m t s
  asked_term (term.Unwind v b) clear other h m t s = asked_is look ready f below payloads (AtTerminator (term.Unwind v b)) h m t s
  asked_term term.Resume clear other h m t s = asked_is look ready f below payloads (AtTerminator term.Resume) h m t s
  asked_term (term.Stop b) clear other h m t s = asked_is look ready f below payloads (AtTerminator (term.Stop b)) h m t s
  asked_term term.Exit clear other h m t s = asked_is look ready f below payloads (AtTerminator term.Exit) h m t s
  asked_term term.Abort clear other h m t s = asked_is look ready f below payloads (AtTerminator term.Abort) h m t s
  asked_term (term.Do op args place next) clear other h m t s = absurd clear

-- of a terminator that is no call
pub no_call : (x : Term) → ((callee : Value) (args : List Value) (place : Place) (next unwind : Option BlockName) → x ≡ term.Call callee args place next unwind → ⊥) → NoCall x
no_call (term.Goto b) h = tt
no_call (term.Switch v cases last) h = tt
no_call term.Unreachable h = tt
no_call (term.Call callee args place next unwind) h = h callee args place next unwind refl
no_call term.Return h = tt
no_call (term.Unwind v b) h = tt
no_call term.Resume h = tt
no_call (term.Stop b) h = tt
no_call term.Exit h = tt
no_call term.Abort h = tt
no_call (term.Do op args place next) h = tt

-- ---- steps that ask for nothing

no_operation : (s : Site) (x : Term) → NoDo x → do_due s (Some (due_term x)) ≡ None
no_operation s (term.Goto b) clear = refl
no_operation s (term.Switch v cases last) clear = refl
no_operation s term.Unreachable clear = refl
no_operation s (term.Call callee args place next unwind) clear = refl
no_operation s term.Return clear = refl
no_operation s (term.Unwind v b) clear = refl
no_operation s term.Resume clear = refl
no_operation s (term.Stop b) clear = refl
no_operation s term.Exit clear = refl
no_operation s term.Abort clear = refl
no_operation s (term.Do op args place next) clear = absurd clear

module _ (look : KeptLook) (s : KeptStack) where
  pub quiet_stmt : (x : Stmt) → IsDue look s (AtStatement x) → NoLive x → IsQuiet (look_of look) (stack_of s)
  quiet_stmt x due other =
      let f = frame_of s.top in
      let payloads = (stack_of s).payloads in
      record {
        other = next_do_is look due.ready f (below_of s) payloads (AtStatement x) due.stands;
        asks = λ m t seen. asked_stmt look due.ready f (below_of s) payloads x other due.stands m t seen;
      }

  pub quiet_term : (x : Term) → IsDue look s (due_term x) → NoDo x → NoCall x → IsQuiet (look_of look) (stack_of s)
  quiet_term x due clear other =
      let f = frame_of s.top in
      let payloads = (stack_of s).payloads in
      record {
        other = next_do_is look due.ready f (below_of s) payloads (due_term x) due.stands
            ∙ no_operation (site look due.ready f (below_of s) payloads (due_term x) due.stands) x clear;
        asks = λ m t seen. asked_term look due.ready f (below_of s) payloads x clear other due.stands m t seen;
      }

-- ---- `live`

module _ (look : KeptLook) (s : KeptStack) (x : LocalName) (h : IsDue look s (AtStatement (stmt.Live x))) (fn : Function) (there : slice_get look.program.now.functions s.top.function ≡ Some fn) where
  holds : Holds look s x
  holds = live_holds look s (AtStatement (stmt.Live x)) h x refl

  same_held : holds.function ≡ fn
  same_held = same_Some holds.function fn (sym holds.there ∙ there)

  pub live_inside : x.0 < length fn.locals
  live_inside = subst (λ (f : Function). x.0 < length f.locals) same_held holds.inside

  module _ (l : Local) (at : slice_get fn.locals x.0 ≡ Some l) where
    pub live_ok : TypeOk l.ty
    live_ok = all_at (λ (k : Local). TypeOk k.ty) fn.locals x.0 l (subst (λ (f : Function). All (λ (k : Local). TypeOk k.ty) f.locals) same_held holds.types) at

    pub live_asks : (m : Memory) (t : ℕ) (seen : Seen) → asked m (look_of look) t (stack_of s) seen ≡ storage_asks (l.ty ∷ [])
    live_asks m t seen =
        let fits = h.stands.fits in
        let same : fits.function ≡ fn = same_Some fits.function fn (sym fits.is ∙ there) in
        let storage = item_there (frame_of s.top).locals x.0 (holds_below look s x holds) in
        asked_live look h.ready (frame_of s.top) (below_of s) (stack_of s).payloads x h.stands l (ap (λ (f : Function). slice_get f.locals x.0) same ∙ at) storage.0 storage.1 m t seen
