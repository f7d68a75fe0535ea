-- What is due in a thread stands in its top frame's function, and breaks no rule there.
use Rattle.mr_frame.proofs.Common.{◌≡◌, ℕ, ◌+◌, ◌<◌, ◌^◌, refl, sym, ap, ◌∙◌, subst, arith, Bool, true, false, List, [], length, inl, inr, Option, None, Some, same_Some, slice_get_cases, All, slice_get, ◌==◌, ◌&&◌, if◌then◌else◌, is_shaped_stmt, is_shaped_term, named_in, Function, Local, LocalName, Program, Stmt, Term, TypeOk, broken_in_parts, broken_in_stmt, is_allowed, surroundings, Env, InProgram, StmtIn, TermIn, FitsFrame, Frame, AtDo, AtStatement, AtTerminator, Due, Site, due_at, due_of, due_term, Holds, IsAt, IsDue, due_in, lt_from, all_at}
use Rattle.mr_frame.specs.declared.frame.Next.{Next}
use Rattle.mr_ast.specs.declared.program.Stmt.TheVariants as stmt
use Rattle.mr_ast.specs.declared.program.Term.TheVariants as term
use Rattle.mr_frame.specs.declared.look.Look.{Look as KeptLook}
use Rattle.mr_frame.specs.declared.stack.Stack.{Stack as KeptStack}
use Rattle.mr_frame.specs.declared.frame.Next.TheVariants as next
use Rattle.mr_frame.specs.Kept.{IsReady, frame_of, below_of as under, look_of}
use Rattle.mr_frame.proofs.Frames.{block_shaped, block_unbroken, due_end, due_stmt, keeps}

-- ---- what is due, in its block

-- a position of a list at which something stands
pub at_below : {A : Type 0} (xs : List A) (i : ℕ) (x : A) → slice_get xs i ≡ Some x → i < length xs
at_below xs i x e = elim (slice_get_cases xs i).1 [
  | inl here ↦ here.1
  | inr none ↦ absurd (none_some (sym none.1 ∙ e))
]
  where
    none_some : {A : Type 0} {x : A} → None ≡ Some x → ⊥
    none_some h = cc

module _ (s : Site) where
  from_stmts : (o : Option Stmt) (x : Stmt) → due_at s o ≡ Some (AtStatement x) → o ≡ Some x
  from_stmts (Some y) x e = ap stmt_in e
    where
      stmt_in : Option Due → Option Stmt
      stmt_in (Some (AtStatement z)) = Some z
      stmt_in _ = None
  from_stmts None x e = absurd (by_test ((s.frame.at == length s.block.stmts) && is_allowed s.function s.block.kind s.block.term) e)
    where
      by_term : (t : Term) → Some (due_term t) ≡ Some (AtStatement x) → ⊥
      by_term (term.Goto b) h = cc
      by_term (term.Switch v cases other) h = cc
      by_term term.Unreachable h = cc
      by_term (term.Call callee args place next unwind) h = cc
      by_term term.Return h = cc
      by_term (term.Unwind v b) h = cc
      by_term term.Resume h = cc
      by_term (term.Stop b) h = cc
      by_term term.Exit h = cc
      by_term term.Abort h = cc
      by_term (term.Do op args place next) h = cc

      by_test : (b : Bool) → (if b then Some (due_term s.block.term) else None) ≡ Some (AtStatement x) → ⊥
      by_test true h = by_term s.block.term h
      by_test false h = cc

  -- the statement at the position
  pub stmt_at : (x : Stmt) → due_of s ≡ Some (AtStatement x) → slice_get s.block.stmts s.frame.at ≡ Some x
  unfolding due_of
  stmt_at x e = from_stmts (slice_get s.block.stmts s.frame.at) x e

  -- the terminator that is due
  abbrev term_in : Option Due → Option Term
  term_in (Some (AtTerminator t)) = Some t
  term_in (Some (AtDo op args place next)) = Some (term.Do op args place next)
  term_in _ = None

  term_back : (t : Term) → term_in (Some (due_term t)) ≡ Some t
  term_back (term.Goto b) = refl
  term_back (term.Switch v cases other) = refl
  term_back term.Unreachable = refl
  term_back (term.Call callee args place next unwind) = refl
  term_back term.Return = refl
  term_back (term.Unwind v b) = refl
  term_back term.Resume = refl
  term_back (term.Stop b) = refl
  term_back term.Exit = refl
  term_back term.Abort = refl
  term_back (term.Do op args place next) = refl

  no_stmt : (x : Stmt) (t : Term) → Some (AtStatement x) ≡ Some (due_term t) → ⊥
  no_stmt x t e = let h : None ≡ Some t = ap term_in e ∙ term_back t in absurd (cc)

  from_end : (o : Option Stmt) (t : Term) → due_at s o ≡ Some (due_term t) → s.block.term ≡ t
  from_end (Some y) t e = absurd (no_stmt y t e)
  from_end None t e = by_test ((s.frame.at == length s.block.stmts) && is_allowed s.function s.block.kind s.block.term) e
    where
      by_test : (b : Bool) → (if b then Some (due_term s.block.term) else None) ≡ Some (due_term t) → s.block.term ≡ t
      by_test true h = same_Some s.block.term t (sym (term_back s.block.term) ∙ ap term_in h ∙ term_back t)
      by_test false h = absurd (let k : None ≡ Some t = ap term_in h ∙ term_back t in absurd (cc))

  -- the block ends with the terminator
  pub term_at : (t : Term) → due_of s ≡ Some (due_term t) → s.block.term ≡ t
  unfolding due_of
  term_at t e = from_end (slice_get s.block.stmts s.frame.at) t e

-- ---- what stands there

module _ (look : KeptLook) (s : KeptStack) (due : Due) (h : IsDue look s due) where
  abbrev p : Program
  p = look.program.now

  abbrev fn : Function
  fn = h.stands.fits.function

  abbrev at_site : Site
  at_site = record { function = fn; block = h.stands.fits.block; frame = frame_of s.top; below = under s }

  -- what breaks no rule in a program does so in an equal one
  moved : (P : Program → Type 0) (e : Env) → e.program.now ≡ p → P p → P e.program.now
  moved P e same k = subst P (sym same) k

  pub stmt_in : (x : Stmt) → due ≡ AtStatement x → (e : Env) → InProgram fn e → e.program.now ≡ p → StmtIn e x
  stmt_in x is e inside same =
      let here = stmt_at (at_site) x (h.stands.is ∙ ap (λ d. Some d) is) in
      record {
        function = fn;
        inside = inside;
        shaped = moved (λ q. is_shaped_stmt (named_in q fn) x ≡ true) e same (all_at (λ (y : Stmt). is_shaped_stmt (named_in p fn) y ≡ true) h.stands.fits.block.stmts s.top.at x (block_shaped p h.ready.well (frame_of s.top) h.stands.fits).stmts here);
        unbroken = moved (λ q. broken_in_stmt fn (surroundings q fn) x ≡ []) e same (all_at (λ (y : Stmt). broken_in_stmt fn (surroundings p fn) y ≡ []) h.stands.fits.block.stmts s.top.at x (block_unbroken p h.ready.well (frame_of s.top) h.stands.fits).stmts here);
      }

  pub term_in_block : (t : Term) → due ≡ due_term t → (e : Env) → InProgram fn e → e.program.now ≡ p → TermIn e t
  term_in_block t is e inside same =
      let here = term_at (at_site) t (h.stands.is ∙ ap (λ d. Some d) is) in
      record {
        function = fn;
        inside = inside;
        shaped = moved (λ q. is_shaped_term (named_in q fn) t ≡ true) e same (ap (is_shaped_term (named_in p fn)) (sym here) ∙ (block_shaped p h.ready.well (frame_of s.top) h.stands.fits).term);
        unbroken = moved (λ q. broken_in_parts (surroundings q fn) t ≡ []) e same (ap (broken_in_parts (surroundings p fn)) (sym here) ∙ (block_unbroken p h.ready.well (frame_of s.top) h.stands.fits).parts);
      }

  -- behind a statement there is room
  pub room_behind : (x : Stmt) → due ≡ AtStatement x → s.top.at + 1 < 2 ^ 64
  room_behind x is =
      let here = stmt_at (at_site) x (h.stands.is ∙ ap (λ d. Some d) is) in
      let low = at_below h.stands.fits.block.stmts s.top.at x here in
      let few = (block_shaped p h.ready.well (frame_of s.top) h.stands.fits).few_stmts in
      omega arith

  -- the locals of the function, whose types break no rule
  holds_at : (x : LocalName) → x.0 < length fn.locals → Holds look s x
  holds_at x inside = record {
    function = fn;
    there = h.stands.fits.is;
    types = (keeps p h.ready.well (frame_of s.top) h.stands.fits).unbroken.locals;
    inside = inside;
    locals = h.stands.fits.locals;
  }

  pub live_holds : (x : LocalName) → due ≡ AtStatement (stmt.Live x) → Holds look s x
  live_holds x is =
      let here = stmt_at (at_site) (stmt.Live x) (h.stands.is ∙ ap (λ d. Some d) is) in
      holds_at x (lt_from x.0 (length fn.locals) (all_at (λ (y : Stmt). is_shaped_stmt (named_in p fn) y ≡ true) h.stands.fits.block.stmts s.top.at (stmt.Live x) (block_shaped p h.ready.well (frame_of s.top) h.stands.fits).stmts here))

  pub dead_holds : (x : LocalName) → due ≡ AtStatement (stmt.Dead x) → Holds look s x
  dead_holds x is =
      let here = stmt_at (at_site) (stmt.Dead x) (h.stands.is ∙ ap (λ d. Some d) is) in
      holds_at x (lt_from x.0 (length fn.locals) (all_at (λ (y : Stmt). is_shaped_stmt (named_in p fn) y ≡ true) h.stands.fits.block.stmts s.top.at (stmt.Dead x) (block_shaped p h.ready.well (frame_of s.top) h.stands.fits).stmts here))

-- ---- the function of the top frame

module _ (look : KeptLook) (s : KeptStack) (due : Due) (h : IsDue look s due) where
  pub top_below : s.top.function < length look.program.now.functions
  top_below = at_below look.program.now.functions s.top.function h.stands.fits.function h.stands.fits.is

  module _ (fn : Function) (there : slice_get look.program.now.functions s.top.function ≡ Some fn) where
    pub top_is : h.stands.fits.function ≡ fn
    top_is = same_Some h.stands.fits.function fn (sym h.stands.fits.is ∙ there)

    pub top_types : All (λ (l : Local). TypeOk l.ty) fn.locals
    top_types = subst (λ (g : Function). All (λ (l : Local). TypeOk l.ty) g.locals) top_is (keeps look.program.now h.ready.well (frame_of s.top) h.stands.fits).unbroken.locals

    pub ret_inside : fn.ret.0 < length fn.locals
    ret_inside = subst (λ (g : Function). g.ret.0 < length g.locals) top_is (keeps look.program.now h.ready.well (frame_of s.top) h.stands.fits).shaped.ret

    pub ret_ok : (l : Local) → slice_get fn.locals fn.ret.0 ≡ Some l → TypeOk l.ty
    ret_ok l e = all_at (λ (k : Local). TypeOk k.ty) fn.locals fn.ret.0 l top_types e

-- a local that is one of its function's has a place for its storage
pub holds_below : (look : KeptLook) (s : KeptStack) (x : LocalName) → Holds look s x → x.0 < length s.top.locals.items
holds_below look s x h = let inside = h.inside in let same = h.locals in omega arith

-- what the code finds is due
pub found_due : (look : KeptLook) (ready : IsReady look) (f : Frame) (below : List Frame) (fits : FitsFrame look.program.now f) (n : Next) → IsAt fits.block f.at n
    → due_of (record { function = fits.function; block = fits.block; frame = f; below = below }) ≡ Some (due_in n)
found_due look ready f below fits (next.Statement x) at = due_stmt (look_of look) (record { functions = ready.functions; globals = ready.globals }) ready.well f below fits x.now at
found_due look ready f below fits (next.Terminator t) at =
    due_end (look_of look) (record { functions = ready.functions; globals = ready.globals }) ready.well f below fits at.0 ∙ ap (λ u. Some (due_term u)) at.1
