-- The step of a frame of a well-formed program is never ill-formed, and the frames fit again behind it.
use Rattle.mr_frame.proofs.Common.{◌≡◌, ℕ, ◌<◌, refl, sym, subst, arith, List, [], ◌∷◌, length, true, false, inl, inr, Option, Some, None, slice_get_cases, slice_get, is_block, is_shaped_stmt, is_shaped_term, named_in, Named, Value, BlockName, Function, Local, LocalName, Program, Stmt, Term, Num, Ty, Pointer, broken_in_parts, broken_in_stmt, is_kept, sizes_of, surroundings, WellFormed, Done, ◌>>=◌, Surround, reading_part, IsSafe, Stands, any_result, IsSafeChange, change_then, read_then, behind_first, goes_to, local_type, IsChange, change, free_storage, AreCalling, FitFrames, FitsFrame, FitsOnward, FitsStack, IsLook, IsSafePlan, Frame, Look, Stack, scene_in, with_storage, do_at, do_due, next_do, NoDo, Due, Site, due_of, due_term, site_of, site_of_frames, dead, frame_plan, live, live_at, next, plain, plan_at, plan_due, statement, terminator, switched, lt_from, item_there, all_at}
use Rattle.mr_typing.proofs.TypedStmts.{typed_dead}
use Rattle.mr_base.proofs.Comparisons.{not_true}
use Rattle.mr_ast.specs.declared.program.Term.TheVariants as term
use Rattle.mr_frame.proofs.ChangesSafe.{change_safe, free_safe}
use Rattle.mr_frame.proofs.CallSafe.{call_safe}
use Rattle.mr_frame.proofs.EndSafe.{resume_safe, return_safe, unwind_safe}
use Rattle.mr_frame.proofs.Frames.{block_shaped, block_unbroken, due_end, due_stmt, fits_next, fits_stored, fits_unstored, here, onward_block, site_is, stands}
use Rattle.mr_frame.proofs.SwitchSafe.{switch_safe}
use Rattle.mr_frame.proofs.Statements.{by_kind, changes}

module _ (look : Look) (is : IsLook look) (well : WellFormed look.program) (s : Stack) (f : Frame) (below : List Frame) (fits : FitsFrame look.program f) (bare : f.call ≡ None) (calling : AreCalling look.program (local_type fits.function fits.function.ret) below) where
  abbrev p : Program
  p = look.program

  abbrev fn : Function
  fn = fits.function

  abbrev site : Site
  site = here look is well f below fits

  abbrev named : Named
  named = named_in p fn

  abbrev sizes : List ℕ
  sizes = sizes_of p.globals

  abbrev scene : Surround
  scene = scene_in look fn f

  abbrev stand : Stands named scene
  stand = stands look is well f below fits

  -- ---- statements
  module _ (before : f.at < length fits.block.stmts) where
    onward_stored : (x : ℕ) (q : Pointer) → FitsOnward p (next s site (with_storage f x (Some q)))
    onward_stored x q = (fits_next p (with_storage f x (Some q)) (fits_stored p f fits x q) before, bare, calling)

    onward_unstored : (x : LocalName) → is_kept fn x ≡ false → FitsOnward p (next s site (with_storage f x.0 None))
    onward_unstored x h = (fits_next p (with_storage f x.0 None) (fits_unstored p f fits x h) before, bare, calling)

    onward_next : FitsOnward p (next s site f)
    onward_next = (fits_next p f fits before, bare, calling)

    live_picked : (x : ℕ) (t : Ty) (storage : Option Pointer) (picks : List ℕ) → length picks ≡ 1 → IsSafeChange (FitsOnward p) (live_at s site x t storage picks)
    live_picked x t storage [] e = absurd (omega arith)
    live_picked x t storage (a ∷ []) e = change_then any_result (FitsOnward p) (free_storage t storage) _ (free_safe t storage) (λ u k. λ q good. onward_stored x q)
    live_picked x t storage (a ∷ b ∷ picks) e = absurd (omega arith)

    live_safe : (x : LocalName) → x.0 < length fn.locals → IsSafe (IsSafePlan p) (live s site x.0 (slice_get fn.locals x.0) (slice_get f.locals x.0))
    live_safe x lt =
        let l = item_there fn.locals x.0 lt in
        let o = item_there f.locals x.0 (let same = fits.locals in omega arith) in
        subst (λ (w : Option Local × Option (Option Pointer)). IsSafe (IsSafePlan p) (live s site x.0 w.0 w.1)) (sym (λ i. (l.1 i, o.1 i)))
        (λ picks e. live_picked x.0 l.0.ty o.0 picks e)

    dead_safe : (x : LocalName) → x.0 < length fn.locals → is_kept fn x ≡ false → IsSafe (IsSafePlan p) (plain (dead s site x.0 (slice_get fn.locals x.0) (slice_get f.locals x.0)))
    dead_safe x lt h =
        let l = item_there fn.locals x.0 lt in
        let o = item_there f.locals x.0 (let same = fits.locals in omega arith) in
        subst (λ (w : Option Local × Option (Option Pointer)). IsSafe (IsSafePlan p) (plain (dead s site x.0 w.0 w.1))) (sym (λ i. (l.1 i, o.1 i)))
        (λ picks e. change_then any_result (FitsOnward p) (free_storage l.0.ty o.0) _ (free_safe l.0.ty o.0) (λ u k. onward_unstored x h))

    changed_safe : (x : Stmt) → is_shaped_stmt named x ≡ true → broken_in_stmt fn (surroundings p fn) x ≡ [] → IsChange x → IsSafe (IsSafePlan p) (plain (change scene x >>= λ _. Done (next s site f)))
    changed_safe x shaped none kind =
        λ picks e. change_then any_result (FitsOnward p) (change scene x) (λ _. Done (next s site f)) (change_safe named sizes scene stand fn x shaped none kind) (λ u k. onward_next)

    statement_safe : (x : Stmt) → is_shaped_stmt named x ≡ true → broken_in_stmt fn (surroundings p fn) x ≡ [] → IsSafe (IsSafePlan p) (statement look s site x)
    statement_safe =
        by_kind (λ x. is_shaped_stmt named x ≡ true → broken_in_stmt fn (surroundings p fn) x ≡ [] → IsSafe (IsSafePlan p) (statement look s site x))
        (λ x shaped none. live_safe x (lt_from x.0 (length fn.locals) shaped))
        (λ x shaped none. dead_safe x (lt_from x.0 (length fn.locals) shaped) (not_true (is_kept fn x) (typed_dead named fn (surroundings p fn) refl x none)))
        (λ x kind shaped none. subst (IsSafe (IsSafePlan p)) (sym (changes look s site x kind)) (changed_safe x shaped none kind))

  -- ---- terminators
  module _ (end : f.at ≡ length fits.block.stmts) where
    abbrev Unbroken : Term → Type 0
    Unbroken t = broken_in_parts (surroundings p fn) t ≡ []

    abbrev IsShaped : Term → Type 0
    IsShaped t = is_shaped_term named t ≡ true

    onward_at : (b : BlockName) → is_block named b ≡ true → FitsOnward p (goes_to s site b.0)
    onward_at b h = onward_block look is well f below fits s b.0 calling (lt_from b.0 (length fn.blocks) h)

    -- a switch, and on to its block
    switching_safe : (v : Value) (cases : List (Num × BlockName)) (other : BlockName) → IsShaped (term.Switch v cases other) → Unbroken (term.Switch v cases other)
        → IsSafeChange (FitsOnward p) (reading_part (switched scene v cases other) >>= λ b. Done (goes_to s site b))
    switching_safe v cases other shaped none =
        read_then (λ b. b < length fn.blocks) (FitsOnward p) (switched scene v cases other) _ (switch_safe named sizes scene stand fn v cases other shaped none)
        (λ b h. onward_block look is well f below fits s b calling h)

    -- a terminator that is no intrinsic
    terminator_safe : (thread : ℕ) (t : Term) → fits.block.term ≡ t → IsShaped t → Unbroken t → NoDo t → IsSafe (IsSafePlan p) (terminator look thread s site t)
    terminator_safe thread (term.Goto b) due shaped none other_than = λ picks e. onward_at b shaped
    terminator_safe thread (term.Switch v cases other) due shaped none other_than = λ picks e. switching_safe v cases other shaped none
    terminator_safe thread term.Unreachable due shaped none other_than = λ picks e. tt
    terminator_safe thread (term.Call callee args place next unwind) due shaped none other_than =
        call_safe look is well s f below fits calling callee args place next unwind end due shaped none
    terminator_safe thread term.Return due shaped none other_than = λ picks e. return_safe look is well s f below fits calling thread
    terminator_safe thread (term.Unwind v b) due shaped none other_than = λ picks e. unwind_safe look is well s f below fits calling v b shaped none
    terminator_safe thread term.Resume due shaped none other_than = λ picks e. resume_safe look is well s f below fits calling below calling
    terminator_safe thread (term.Stop b) due shaped none other_than =
        λ picks e. onward_block look is well f below fits (record s { payloads = behind_first s.payloads }) b.0 calling (lt_from b.0 (length fn.blocks) shaped)
    terminator_safe thread term.Exit due shaped none other_than = λ picks e. tt
    terminator_safe thread term.Abort due shaped none other_than = λ picks e. tt
    terminator_safe thread (term.Do op args place next) due shaped none other_than = absurd other_than

-- ---- the step

module _ (look : Look) (is : IsLook look) (well : WellFormed look.program) (thread : ℕ) (s : Stack) (f : Frame) (below : List Frame) (fits : FitsFrame look.program f) (bare : f.call ≡ None) (calling : AreCalling look.program (local_type fits.function fits.function.ret) below) where
  abbrev at_site : Site
  at_site = here look is well f below fits

  abbrev IsSafeDue : Option Due → Type 0
  IsSafeDue due = do_due at_site due ≡ None → IsSafe (IsSafePlan look.program) (plan_due look thread s at_site due)

  -- at the end of its block
  end_safe : f.at ≡ length fits.block.stmts → IsSafeDue (Some (due_term fits.block.term))
  end_safe end = subst (λ (t : Term). IsSafeDue (Some (due_term t))) refl (by_term fits.block.term refl (block_shaped look.program well f fits).term (block_unbroken look.program well f fits).parts)
    where
      no_do : (t : Term) → NoDo t → fits.block.term ≡ t → is_shaped_term (named_in look.program fits.function) t ≡ true → broken_in_parts (surroundings look.program fits.function) t ≡ []
          → IsSafe (IsSafePlan look.program) (terminator look thread s at_site t)
      no_do t plain_term due shaped none = terminator_safe look is well s f below fits bare calling end thread t due shaped none plain_term

      by_term : (t : Term) → fits.block.term ≡ t → is_shaped_term (named_in look.program fits.function) t ≡ true → broken_in_parts (surroundings look.program fits.function) t ≡ [] → IsSafeDue (Some (due_term t))
      by_term (term.Goto b) due shaped none other_than = no_do (term.Goto b) tt due shaped none
      by_term (term.Switch v cases other) due shaped none other_than = no_do (term.Switch v cases other) tt due shaped none
      by_term term.Unreachable due shaped none other_than = no_do term.Unreachable tt due shaped none
      by_term (term.Call callee args place next unwind) due shaped none other_than = no_do (term.Call callee args place next unwind) tt due shaped none
      by_term term.Return due shaped none other_than = no_do term.Return tt due shaped none
      by_term (term.Unwind v b) due shaped none other_than = no_do (term.Unwind v b) tt due shaped none
      by_term term.Resume due shaped none other_than = no_do term.Resume tt due shaped none
      by_term (term.Stop b) due shaped none other_than = no_do (term.Stop b) tt due shaped none
      by_term term.Exit due shaped none other_than = no_do term.Exit tt due shaped none
      by_term term.Abort due shaped none other_than = no_do term.Abort tt due shaped none
      by_term (term.Do op args place next) due shaped none other_than = absurd (cc)

  due_safe : IsSafeDue (due_of at_site)
  due_safe = elim (slice_get_cases fits.block.stmts f.at).1 [
    | inl x ↦
        subst IsSafeDue (sym (due_stmt look is well f below fits x.0 x.2))
        (λ plain_step. statement_safe look is well s f below fits bare calling x.1 x.0
        (all_at (λ (y : Stmt). is_shaped_stmt (named_in look.program fits.function) y ≡ true) fits.block.stmts f.at x.0 (block_shaped look.program well f fits).stmts x.2)
        (all_at (λ (y : Stmt). broken_in_stmt fits.function (surroundings look.program fits.function) y ≡ []) fits.block.stmts f.at x.0 (block_unbroken look.program well f fits).stmts x.2))
    | inr none ↦
        let end : f.at ≡ length fits.block.stmts = (let low = none.0 in let high = fits.at in omega arith) in
        subst IsSafeDue (sym (due_end look is well f below fits end)) (end_safe end)
  ]

  pub top_safe : do_at (site_of_frames look (f ∷ below)) ≡ None → IsSafe (IsSafePlan look.program) (plan_at look thread s (site_of_frames look (f ∷ below)))
  top_safe = subst (λ (o : Option Site). do_at o ≡ None → IsSafe (IsSafePlan look.program) (plan_at look thread s o)) (sym (site_is look is well f below fits)) due_safe

-- THE STEP OF A THREAD whose frames fit is never ill-formed, and its frames fit again behind it
pub frame_safe : (look : Look) → IsLook look → WellFormed look.program → (thread : ℕ) (s : Stack) → FitsStack look.program s → next_do look s ≡ None → IsSafe (IsSafePlan look.program) (frame_plan look thread s)
unfolding frame_plan site_of next_do
frame_safe look is well thread s fits plain_step = by_frames s.frames fits plain_step
  where
    by_frames : (frames : List Frame) → FitFrames look.program frames → do_at (site_of_frames look frames) ≡ None → IsSafe (IsSafePlan look.program) (plan_at look thread s (site_of_frames look frames))
    by_frames [] h none = absurd h
    by_frames (f ∷ below) h none = top_safe look is well thread s f below h.0 h.1 h.2 none
