use Rattle.mr_value.proofs.Common.{sym, ap, ◌∙◌, has_shape}
use Rattle.mr_value.proofs.ShapeLaws.{shape_int, shape_bool, shape_raw, shape_fn_ptr, shape_ref}
use Rattle.mr_value.proofs.scalar_bytes.encode_scalar.Goals as goal

pub bits_in-requires : goal.bits_in-requires
bits_in-requires c =
    let s = shape_int c.in-Int.int c.args.v.now (sym (ap (λ x. has_shape x c.args.v.now) c.in-Int.is) ∙ c.requires.shape) in (s.bits, s.is)

pub truth_in-requires : goal.truth_in-requires
truth_in-requires c = let s = shape_bool c.args.v.now (sym (ap (λ x. has_shape x c.args.v.now) c.in-Bool.is) ∙ c.requires.shape) in (s.truth, s.is)

pub pointer_in-requires : goal.pointer_in-requires
pointer_in-requires c = let s = shape_raw c.args.v.now (sym (ap (λ x. has_shape x c.args.v.now) c.in-Raw.is) ∙ c.requires.shape) in (s.pointer, s.is)

pub pointer_in-requires-in-FnPtr : goal.pointer_in-requires-in-FnPtr
pointer_in-requires-in-FnPtr c = let s = shape_fn_ptr c.args.v.now (sym (ap (λ x. has_shape x c.args.v.now) c.in-FnPtr.is) ∙ c.requires.shape) in (s.pointer, s.is)

pub pointer_in-requires-in-Ref : goal.pointer_in-requires-in-Ref
pointer_in-requires-in-Ref c =
    let i = c.in-Ref in
    let s = shape_ref i.size i.align i.never c.args.v.now (sym (ap (λ x. has_shape x c.args.v.now) i.is) ∙ c.requires.shape) in (s.pointer, s.is)
