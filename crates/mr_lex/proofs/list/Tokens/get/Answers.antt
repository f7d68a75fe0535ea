use Rattle.mr_lex.proofs.Common.{length, sym, ap, ◌∙◌, Some, slice_get, lexeme_in}
use Rattle.std.specs.Option.{option_map}
use Rattle.std.proofs.lemmas.Option.{slice_get-map}
use Rattle.mr_lex.proofs.SpanLaws.{between_at, span_read}
use Rattle.mr_lex.proofs.list.Tokens.get.Goals as goal

pub token-requires : goal.token-requires
token-requires c =
    let found = c.in_ok-span.ensures.lookup in
    let spans = c.self.inside.spans.items in
    between_at 0 (length c.self.inside.text.now) spans c.args.i c.in_ok-span.span.now c.self.invariant
    (span_read spans _ _ _ c.deref.ensures.value found.3.0 found.1)

pub returns : goal.returns
returns c =
    let found = c.in_ok-span.ensures.lookup in
    let text = c.self.inside.text.now in
    let spans = c.self.inside.spans.items in
    ap Some c.token.ensures
    ∙ sym (ap (option_map (lexeme_in text)) (span_read spans _ _ _ c.deref.ensures.value found.3.0 found.1))
    ∙ sym (slice_get-map (lexeme_in text) spans c.args.i)
    ∙ ap (λ xs. slice_get xs c.args.i) c.self.view_is
