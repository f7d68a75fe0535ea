use Rattle.mr_value.proofs.Common.{ap, ◌∙◌, size_of, is_ok_of, bytes_of_pieces, decoded}
use Rattle.mr_value.proofs.Meanings.{whole_part, some_means, none_means, some_shape}
use Rattle.mr_value.proofs.scalars.decode_scalar.Goals as goal

pub scalar_at-requires-clause-ok : goal.scalar_at-requires-clause-ok
scalar_at-requires-clause-ok c = is_ok_of c.args.t.now c.requires.ok

pub returns-clause-meaning : goal.returns-clause-meaning
returns-clause-meaning c =
    let t = c.args.t.now in
    let b = bytes_of_pieces c.args.v.now in
    some_means t b c.scalar_at.result c.requires.sized (c.scalar_at.ensures ∙ ap (decoded t) (whole_part b (size_of t) c.requires.sized))

pub returns-clause-none : goal.returns-clause-none
returns-clause-none c =
    let t = c.args.t.now in
    let b = bytes_of_pieces c.args.v.now in
    none_means t b c.scalar_at.result (c.scalar_at.ensures ∙ ap (decoded t) (whole_part b (size_of t) c.requires.sized))

pub returns-clause-shape : goal.returns-clause-shape
returns-clause-shape c =
    let t = c.args.t.now in
    let b = bytes_of_pieces c.args.v.now in
    some_shape t b c.scalar_at.result c.requires.ok c.requires.sized (c.scalar_at.ensures ∙ ap (decoded t) (whole_part b (size_of t) c.requires.sized))
