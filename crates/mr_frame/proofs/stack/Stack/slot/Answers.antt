use Rattle.mr_frame.proofs.Common.{◌≡◌, Some, sym, ap, ◌∙◌, arith, same_Some, slice_get, Function, Local, TypeOk, all_at}
use Rattle.mr_layout.proofs.Bounds.{type_ok_small}
use Rattle.mr_frame.proofs.stack.Stack.slot.Goals as goal

pub returns : goal.returns
returns c =
    let there : (fn : Function) → slice_get c.args.look.now.program.now.functions c.args.self.now.top.function ≡ Some fn → slice_get fn.locals c.args.x.0 ≡ Some c.local_at.result.now =
    λ fn e. ap (λ (f : Function). slice_get f.locals c.args.x.0) (same_Some fn c.function.result.now (sym e ∙ c.function.ensures)) ∙ c.local_at.ensures in
    let ok = all_at (λ (l : Local). TypeOk l.ty) c.requires.function.locals c.args.x.0 c.local_at.result.now c.requires.types (there c.requires.function c.requires.there) in
    let small = type_ok_small c.local_at.result.now.ty ok in
    let size = c.byte_size.ensures in
    λ fn e. record {
      local = c.local_at.result.now;
      there = there fn e;
      stored = c.storage_of.ensures;
      size = size;
      align = c.byte_align.ensures.is;
      small = omega arith;
      power = c.byte_align.ensures.power;
    }
