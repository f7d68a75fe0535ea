use Rattle.mr_frame.proofs.Common.{sym, ap, ◌∙◌, subst, same_Some, slice_get, Program, WellFormed, below_of, frame_of, stack_of}
use Rattle.mr_frame.specs.declared.frame.Next.TheVariants as next
use Rattle.mr_frame.proofs.IntrinsicLaws.{op_due}
use Rattle.mr_frame.proofs.stack.Stack.intrinsic.Goals as goal

pub next_of-requires : goal.next_of-requires
next_of-requires c =
    let fits = c.requires.0 in
    let there = ap (λ (p : Program). slice_get p.functions c.args.self.now.top.function) (sym c.program.ensures.same) ∙ c.function_at-function.ensures in
    (c.args.program.now, fits, same_Some fits.function c.function_at-function.result.now (sym fits.is ∙ there))

pub returns-in-Statement : goal.returns-in-Statement
returns-in-Statement c =
    let s = c.args.self.now in
    let there = ap (λ (p : Program). slice_get p.functions s.top.function) (sym c.program.ensures.same) ∙ c.function_at-function.ensures in
    let well = subst WellFormed c.program.ensures.same c.program.ensures.well_formed in
    λ functions globals. op_due c.args.program.now well (frame_of s.top) (below_of s) c.requires.0 c.function_at-function.result.now there functions globals (stack_of s).payloads (next.Statement c.in-Statement.field-0) c.in-Statement.ensures

pub returns-in-Terminator : goal.returns-in-Terminator
returns-in-Terminator c =
    let s = c.args.self.now in
    let there = ap (λ (p : Program). slice_get p.functions s.top.function) (sym c.program.ensures.same) ∙ c.function_at-function.ensures in
    let well = subst WellFormed c.program.ensures.same c.program.ensures.well_formed in
    λ functions globals. c.operation.ensures
    ∙ op_due c.args.program.now well (frame_of s.top) (below_of s) c.requires.0 c.function_at-function.result.now there functions globals (stack_of s).payloads (next.Terminator c.in-Terminator.t) c.in-Terminator.ensures
