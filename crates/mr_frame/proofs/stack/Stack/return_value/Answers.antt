use Rattle.mr_frame.proofs.Common.{◌≡◌, true, subst, sym, ap, ◌∙◌, same_Some, option_map, Local, Ty, has_shape, Outcome, Val, seen, Tells, Seen, frame_of, AtTerminator}
use Rattle.std.specs.Prelude.{IfOk}
use Rattle.mr_ast.specs.declared.program.Term.TheVariants as term
use Rattle.mr_frame.proofs.EndLaws.{returned_is}
use Rattle.mr_frame.proofs.StandLaws.{ret_ok}
use Rattle.mr_frame.proofs.stack.Stack.return_value.Goals as goal

pub load_typed-requires : goal.load_typed-requires
load_typed-requires c = ret_ok c.args.look.now c.args.self.now (AtTerminator term.Return) c.requires.due c.args.f.now c.requires.function c.local_at.result.now c.local_at.ensures

pub returns-clause-given : goal.returns-clause-given
returns-clause-given c =
    let P : Outcome Val Seen → Type 0 = λ o. Tells c.load_typed.result o (seen c.load_typed.new.n) c.load_typed.new.n.refused in
    subst P (sym (returned_is c.args.s.now.memory c.args.f.now (frame_of c.args.self.now.top) (seen c.args.s.now.notes) c.in-Some.p c.local_at.result.now c.in-Some.ensures c.local_at.ensures)) c.load_typed.ensures.given

pub returns-clause-shape : goal.returns-clause-shape
returns-clause-shape c =
    λ t e. let same = same_Some c.local_at.result.now.ty t (sym (ap (λ o. option_map (λ (l : Local). l.ty) o) c.local_at.ensures) ∙ e) in
    subst (λ (u : Ty). IfOk c.load_typed.result (λ v. has_shape u v ≡ true)) same c.load_typed.ensures.shape
