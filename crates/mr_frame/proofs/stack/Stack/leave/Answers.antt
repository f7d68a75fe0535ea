use Rattle.mr_frame.proofs.Common.{subst, sym, List, All, Local, TypeOk, AtTerminator}
use Rattle.mr_ast.specs.declared.program.Term.TheVariants as term
use Rattle.mr_frame.proofs.StandLaws.{ret_inside, ret_ok, top_types}
use Rattle.mr_frame.proofs.stack.Stack.leave.Goals as goal

pub free_each-requires-clause-types : goal.free_each-requires-clause-types
free_each-requires-clause-types c =
    let P : List Local → Type 0 = λ ls. All (λ (l : Local). TypeOk l.ty) ls in
    subst P (sym c.as_slice.ensures) (top_types c.args.look.now c.args.self.now (AtTerminator term.Return) c.requires.due c.args.f.now c.requires.function)

pub local_at-requires : goal.local_at-requires
local_at-requires c = ret_inside c.args.look.now c.args.self.now (AtTerminator term.Return) c.requires.due c.args.f.now c.requires.function

pub give-requires-clause-ok : goal.give-requires-clause-ok
give-requires-clause-ok c = ret_ok c.args.look.now c.args.self.now (AtTerminator term.Return) c.requires.due c.args.f.now c.requires.function c.local_at.result.now c.local_at.ensures
