-- Frames that fit: where they stand, and how they go on.
use Rattle.mr_frame.proofs.Common.{◌≡◌, ℕ, ◌<◌, refl, ap, ◌∙◌, arith, All, List, [], ◌∷◌, ◌++◌, length, Bool, true, false, cond, Option, Some, None, All-head, All-tail, length-set, slice_get, ◌==◌, ◌||◌, list_any, nat_tests, and_from, or_parts, named_in, Block, Function, Local, LocalName, Program, Stmt, Pointer, broken_in_stmt, is_allowed, is_kept, surroundings, TypeOk, WellFormed, begins_regular, Stands, goes_to, local_type, AreCalling, FitsFrame, FitsOnward, IsLook, Frame, Look, Stack, at_block, behind_stmt, scene_in, with_storage, AtStatement, Site, broken_at, broken_in_head, due_at, due_of, due_term, kept_locals, none_broken, site_in, site_of_frame, site_of_frames, eq_test, item_there, all_at}
use Rattle.std.proofs.Common.{ap₂}
use Rattle.std.specs.Prelude.{flat_map}
use Rattle.mr_ast.specs.declared.rule.Rule.{Rule}
use Rattle.mr_ast.specs.Shaped.{ShapedBlock, ShapedFunction}
use Rattle.mr_typing.specs.Broken.{of_type, rule}
use Rattle.mr_typing.specs.Unbroken.{UnbrokenBlock, UnbrokenFunction}
use Rattle.mr_typing.specs.Walk.{are_arguments}
use Rattle.mr_typing.proofs.UnbrokenLaws.{well_formed_keeps}
use Rattle.mr_typing.proofs.NothingLaws.{type_nothing}
use Rattle.mr_ast.specs.declared.rule.Rule.TheVariants as form
use Rattle.mr_frame.proofs.Places.{all_apart, all_stay, none_behind}

-- ---- what a function of a well-formed program keeps

pub record Keeps (p : Program) (fn : Function) : Type 0 where
  pub shaped : ShapedFunction p fn
  pub unbroken : UnbrokenFunction p fn

pub function_keeps : (p : Program) → WellFormed p → (number : ℕ) (fn : Function) → slice_get p.functions number ≡ Some fn → Keeps p fn
function_keeps p well number fn is = record {
  shaped = all_at (ShapedFunction p) p.functions number fn well.shaped.functions is;
  unbroken = all_at (UnbrokenFunction p) p.functions number fn (well_formed_keeps p well).functions is;
}

module _ (p : Program) (well : WellFormed p) (f : Frame) (fits : FitsFrame p f) where
  pub keeps : Keeps p fits.function
  keeps = function_keeps p well f.function fits.function fits.is

  pub block_shaped : ShapedBlock p fits.function fits.block
  block_shaped = all_at (ShapedBlock p fits.function) fits.function.blocks f.block fits.block keeps.shaped.blocks fits.here

  pub block_unbroken : UnbrokenBlock p fits.function fits.block
  block_unbroken = all_at (UnbrokenBlock p fits.function) fits.function.blocks f.block fits.block keeps.unbroken.blocks fits.here

-- ---- no rule is broken

kept_rule : (r : Rule) (test : Bool) → test ≡ true → rule r test ≡ []
kept_rule r test e = ap (rule r) e

locals_unbroken : (ls : List Local) → All (λ (l : Local). TypeOk l.ty) ls → flat_map (λ (l : Local). of_type l.ty) ls ≡ []
locals_unbroken [] h = refl
locals_unbroken (l ∷ ls) h =
    ap₂ (λ a b. a ++ b) (type_nothing l.ty (All-head (λ (x : Local). TypeOk x.ty) l ls h)) (locals_unbroken ls (All-tail (λ (x : Local). TypeOk x.ty) l ls h))

head_unbroken : (p : Program) (fn : Function) → Keeps p fn → broken_in_head fn ≡ []
head_unbroken p fn k =
    ap₂ (λ a b. a ++ b)
    (ap₂ (λ a b. a ++ b) (locals_unbroken fn.locals k.unbroken.locals) (kept_rule form.Arguments (are_arguments fn.ret fn.args) k.unbroken.args))
    (kept_rule form.FirstBlock (begins_regular fn.blocks) k.unbroken.first)

unbroken_at : (p : Program) (fn : Function) (b : Block) → UnbrokenBlock p fn b → (at : ℕ) → broken_at p fn b (slice_get b.stmts at) ≡ []
unbroken_at p fn b u at = by_stmt (slice_get b.stmts at) refl
  where
    by_stmt : (o : Option Stmt) → slice_get b.stmts at ≡ o → broken_at p fn b o ≡ []
    by_stmt (Some x) e = all_at (λ (s : Stmt). broken_in_stmt fn (surroundings p fn) s ≡ []) b.stmts at x u.stmts e
    by_stmt None e = ap₂ (λ a c. a ++ c) u.parts (kept_rule form.BlockKind (is_allowed fn b.kind b.term) u.allowed)

-- ---- how a frame goes on

-- at the start of a block
abbrev pub fits_block : (p : Program) (f : Frame) (fits : FitsFrame p f) (b : ℕ) → b < length fits.function.blocks → FitsFrame p (at_block f b)
fits_block p f fits b h =
    let there = item_there fits.function.blocks b h in
    record { function = fits.function; is = fits.is; locals = fits.locals; kept = fits.kept; block = there.0; here = there.1; at = omega arith }

-- behind a statement
abbrev pub fits_next : (p : Program) (f : Frame) (fits : FitsFrame p f) → f.at < length fits.block.stmts → FitsFrame p (behind_stmt f)
fits_next p f fits h = record { function = fits.function; is = fits.is; locals = fits.locals; kept = fits.kept; block = fits.block; here = fits.here; at = omega arith }

-- with new storage for a local
abbrev pub fits_stored : (p : Program) (f : Frame) (fits : FitsFrame p f) (x : ℕ) (q : Pointer) → FitsFrame p (with_storage f x (Some q))
fits_stored p f fits x q = record {
  function = fits.function;
  is = fits.is;
  locals = length-set f.locals x (Some q) ∙ fits.locals;
  kept = all_stay f.locals x q (kept_locals fits.function) fits.kept;
  block = fits.block;
  here = fits.here;
  at = fits.at;
}

-- a local that is not kept is none of those that are
pub other_local : (fn : Function) (x : LocalName) → is_kept fn x ≡ false → list_any (λ (y : LocalName). y.0 == x.0) (kept_locals fn) ≡ false
other_local fn x h =
    let parts = or_parts (x.0 == fn.ret.0) (list_any (λ (y : LocalName). y.0 == x.0) fn.args) h in
    or_both (fn.ret.0 == x.0) (list_any (λ (y : LocalName). y.0 == x.0) fn.args) (turned fn.ret.0 x.0 parts.0) parts.1
  where
    or_both : (a b : Bool) → a ≡ false → b ≡ false → (a || b) ≡ false
    or_both true b e h = absurd (cc)
    or_both false b e h = h

    turned : (m n : ℕ) → (n == m) ≡ false → (m == n) ≡ false
    turned m n e = grind (arith, nat_tests)

-- without storage for a local that is not kept
abbrev pub fits_unstored : (p : Program) (f : Frame) (fits : FitsFrame p f) (x : LocalName) → is_kept fits.function x ≡ false → FitsFrame p (with_storage f x.0 None)
fits_unstored p f fits x h = record {
  function = fits.function;
  is = fits.is;
  locals = length-set f.locals x.0 None ∙ fits.locals;
  kept = all_apart f.locals x.0 None (kept_locals fits.function) (other_local fits.function x h) fits.kept;
  block = fits.block;
  here = fits.here;
  at = fits.at;
}

-- ---- where a frame stands

module _ (look : Look) (is : IsLook look) (well : WellFormed look.program) (f : Frame) (below : List Frame) (fits : FitsFrame look.program f) where
  abbrev pub here : Site
  here = record { function = fits.function; block = fits.block; frame = f; below = below }

  pub site_is : site_of_frames look (f ∷ below) ≡ Some here
  site_is =
      ap (site_of_frame look.program f below) fits.is
      ∙ ap (λ b. cond b (site_in look.program f below fits.function (slice_get fits.function.blocks f.block)) None) fits.kept
      ∙ ap (site_in look.program f below fits.function) fits.here
      ∙ ap (λ rules. cond (none_broken rules) (Some here) None) (ap₂ (λ a b. a ++ b) (head_unbroken look.program fits.function (keeps look.program well f fits)) (unbroken_at look.program fits.function fits.block (block_unbroken look.program well f fits) f.at))

  -- its expressions can be evaluated
  pub stands : Stands (named_in look.program fits.function) (scene_in look fits.function f)
  stands = record { locals = refl; storage = fits.locals; functions = is.functions; globals = is.globals; types = (keeps look.program well f fits).unbroken.locals }

  -- at a statement
  pub due_stmt : (x : Stmt) → slice_get fits.block.stmts f.at ≡ Some x → due_of here ≡ Some (AtStatement x)
  unfolding due_of
  due_stmt x e = ap (due_at here) e

  -- at the end of its block
  pub due_end : f.at ≡ length fits.block.stmts → due_of here ≡ Some (due_term fits.block.term)
  unfolding due_of
  due_end e =
      ap (due_at here) (none_behind fits.block.stmts f.at e)
      ∙ ap (λ b. cond b (Some (due_term fits.block.term)) None)
      (and_from (f.at == length fits.block.stmts) (is_allowed fits.function fits.block.kind fits.block.term) (eq_test f.at (length fits.block.stmts) e) (block_unbroken look.program well f fits).allowed)

  -- it goes on at a block that is there
  pub onward_block : (s : Stack) (b : ℕ) → AreCalling look.program (local_type fits.function fits.function.ret) below → b < length fits.function.blocks → FitsOnward look.program (goes_to s here b)
  onward_block s b calling h = (fits_block look.program f fits b h, refl, calling)
