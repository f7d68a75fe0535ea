use Rattle.mr_value.proofs.Common.{◌≡◌, ap, ◌∙◌, Option, true, IfSome, IfNone, size_of, is_ok_of, bytes_of_pieces, Val, decoded, Means, part, has_shape}
use Rattle.std.proofs.lemmas.Result.{IfOk-weaker}
use Rattle.mr_value.proofs.Meanings.{whole_part, some_means, none_means, some_shape}
use Rattle.mr_value.proofs.decoding.decode.Goals as goal

pub decode_at-requires-clause-ok : goal.decode_at-requires-clause-ok
decode_at-requires-clause-ok c = is_ok_of c.args.t.now c.requires.ok

pub returns-clause-meaning : goal.returns-clause-meaning
returns-clause-meaning c =
    let t = c.args.t.now in
    let b = bytes_of_pieces c.args.v.now in
    IfOk-weaker c.decode_at.result (λ (o : Option Val). o ≡ decoded t (part 0 (size_of t) b)) (λ (o : Option Val). IfSome o (Means t b))
    (λ o e. some_means t b o c.requires.sized (e ∙ ap (decoded t) (whole_part b (size_of t) c.requires.sized))) c.decode_at.ensures

pub returns-clause-none : goal.returns-clause-none
returns-clause-none c =
    let t = c.args.t.now in
    let b = bytes_of_pieces c.args.v.now in
    IfOk-weaker c.decode_at.result (λ (o : Option Val). o ≡ decoded t (part 0 (size_of t) b)) (λ (o : Option Val). IfNone o ((w : Val) → Means t b w → ⊥))
    (λ o e. none_means t b o (e ∙ ap (decoded t) (whole_part b (size_of t) c.requires.sized))) c.decode_at.ensures

pub returns-clause-shape : goal.returns-clause-shape
returns-clause-shape c =
    let t = c.args.t.now in
    let b = bytes_of_pieces c.args.v.now in
    IfOk-weaker c.decode_at.result (λ (o : Option Val). o ≡ decoded t (part 0 (size_of t) b)) (λ (o : Option Val). IfSome o (λ w. has_shape t w ≡ true))
    (λ o e. some_shape t b o c.requires.ok c.requires.sized (e ∙ ap (decoded t) (whole_part b (size_of t) c.requires.sized))) c.decode_at.ensures
