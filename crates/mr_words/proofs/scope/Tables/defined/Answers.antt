use Rattle.mr_words.proofs.Common.{◌≡◌, Some, None, bytes_eq, position, sym, ap, ◌∙◌, list_any, position_or_len, all_names, names_of}
use Rattle.mr_words.proofs.NamingLaws.{position_from_among}
use Rattle.mr_words.proofs.ScopeLaws.{once-any}
use Rattle.mr_words.proofs.scope.Tables.defined.Goals as goal

pub unreachable-requires : goal.unreachable-requires
unreachable-requires c =
    let t = c.args.text.now in
    let there = once-any t (all_names c.self.inside.definitions) ∙ ap (λ d. list_any (bytes_eq t) (all_names d)) c.self.view_is ∙ c.requires c.if-not-is_first.false in
    let found = position_from_among (bytes_eq t) (names_of c.self.inside.definitions) there in
    let clash : None ≡ Some (position_or_len (bytes_eq t) (names_of c.self.inside.definitions)) = sym c.in-None.is ∙ c.position.ensures ∙ ap (position (bytes_eq t)) c.self.invariant.1 ∙ found in
    absurd (cc)
