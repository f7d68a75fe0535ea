-- Where a thread stands, and what it does next.
use Rattle.std.specs.Prelude.{Bool, true, false, ◌==◌, ◌&&◌, List, [], ◌∷◌, ◌++◌, flat_map, length, Option, None, Some}
use Rattle.std.specs.Prelude.{slice_get, is_some}
use Rattle.std.specs.Prelude.{if◌then◌else◌}
use Rattle.std.specs.Option.{option_and_then}
use Rattle.std.specs.List.{list_all}
use Rattle.mr_ast.specs.declared.rule.Rule.TheVariants as form
use Rattle.mr_ast.specs.declared.expr.Place.{Place}
use Rattle.mr_ast.specs.declared.expr.Value.{Value}
use Rattle.mr_ast.specs.declared.program.Block.{Block}
use Rattle.mr_ast.specs.declared.program.BlockName.{BlockName}
use Rattle.mr_ast.specs.declared.program.Function.{Function}
use Rattle.mr_ast.specs.declared.program.Intrinsic.{Intrinsic}
use Rattle.mr_ast.specs.declared.program.Local.{Local}
use Rattle.mr_ast.specs.declared.program.LocalName.{LocalName}
use Rattle.mr_ast.specs.declared.program.Program.{Program}
use Rattle.mr_ast.specs.declared.program.Stmt.{Stmt}
use Rattle.mr_ast.specs.declared.program.Term.{Term}
use Rattle.mr_ast.specs.declared.program.Term.TheVariants as term
use Rattle.mr_base.specs.declared.byte.Pointer.{Pointer}
use Rattle.mr_typing.specs.Blocks.{broken_in_stmt, broken_in_term, is_allowed}
use Rattle.mr_typing.specs.Broken.{Rules, of_type, rule, surroundings}
use Rattle.mr_typing.specs.Walk.{are_arguments, begins_regular}
use Rattle.mr_frame.specs.Frames.{Frame, Look, Stack}

-- a thread's top frame, with its function and its block, and the frames below
pub record Site : Type 0 where
  pub function : Function
  pub block : Block
  pub frame : Frame
  pub below : List Frame

-- What is due: a statement; an intrinsic, with arguments, place for its result and block behind; or another terminator.
pub data Due : Type 0 where
  AtStatement : (stmt : Stmt) → Due
  AtDo : (op : Intrinsic) (args : List Value) (place : Option Place) (next : BlockName) → Due
  AtTerminator : (term : Term) → Due

-- whether a local has storage
abbrev pub has_storage : List (Option Pointer) → LocalName → Bool
has_storage locals x = is_some (option_and_then (λ s. s) (slice_get locals x.0))

-- The locals that have storage as long as their function is at work: the return local, and the arguments.
abbrev pub kept_locals : Function → List LocalName
kept_locals fn = fn.ret ∷ fn.args

-- whether each of them has storage, without which a frame has no step
abbrev pub keeps_storage : Function → Frame → Bool
keeps_storage fn f = list_all (has_storage f.locals) (kept_locals fn)

-- no rule is broken
abbrev pub none_broken : Rules → Bool
none_broken [] = true
none_broken (broken ∷ rules) = false

-- the rules that a function breaks beside those of its blocks: of its locals' types, its arguments and its first block
abbrev pub broken_in_head : Function → Rules
broken_in_head fn =
    flat_map (λ (l : Local). of_type l.ty) fn.locals ++ rule form.Arguments (are_arguments fn.ret fn.args)
    ++ rule form.FirstBlock (begins_regular fn.blocks)

-- those of what stands at a position of a block: a statement, or behind the last one the terminator
abbrev pub broken_at : Program → Function → Block → Option Stmt → Rules
broken_at p fn b (Some x) = broken_in_stmt fn (surroundings p fn) x
broken_at p fn b None = broken_in_term fn (surroundings p fn) b.kind b.term

-- a frame of a function, in a block of it, where neither the function nor what stands at the position breaks a rule
abbrev pub site_in : Program → Frame → List Frame → Function → Option Block → Option Site
site_in p f below fn None = None
site_in p f below fn (Some b) =
    if none_broken (broken_in_head fn ++ broken_at p fn b (slice_get b.stmts f.at))
    then Some (record { function = fn; block = b; frame = f; below = below }) else None

-- where a frame of the function stands, which is to keep its storage and to be at a block of it
abbrev pub site_of_frame : Program → Frame → List Frame → Option Function → Option Site
site_of_frame p f below None = None
site_of_frame p f below (Some fn) =
    if keeps_storage fn f then site_in p f below fn (slice_get fn.blocks f.block) else None

-- where the frame on top stands
abbrev pub site_of_frames : Look → List Frame → Option Site
site_of_frames look [] = None
site_of_frames look (f ∷ below) = site_of_frame look.program f below (slice_get look.program.functions f.function)

-- WHERE A THREAD STANDS, if there is such a function, block and storage, and no rule is broken there
unfoldable pub site_of : Look → Stack → Option Site
site_of look s = site_of_frames look s.frames

-- a terminator that is no intrinsic
abbrev pub NoDo : Term → Type 0
NoDo (term.Do op args place next) = ⊥
NoDo t = Unit {0}

-- a terminator, by its kind
abbrev pub due_term : Term → Due
due_term (term.Do op args place next) = AtDo op args place next
due_term t = AtTerminator t

-- behind the last statement a terminator is due, where it and its targets are allowed in the block's kind
abbrev pub due_at : Site → Option Stmt → Option Due
due_at s (Some stmt) = Some (AtStatement stmt)
due_at s None =
    if (s.frame.at == length s.block.stmts) && is_allowed s.function s.block.kind s.block.term
    then Some (due_term s.block.term) else None

-- WHAT IS DUE where a thread stands, if anything is
unfoldable pub due_of : Site → Option Due
due_of s = due_at s (slice_get s.block.stmts s.frame.at)
