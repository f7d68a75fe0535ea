use Rattle.mr_lex.proofs.Common.{◌≡◌, ◌+◌, true, false, get_or, sym, ap, ◌∙◌, arith, is_inline}
use Rattle.std.proofs.lemmas.Bool.{eq-eqb, ne_eqb, not_from_true, not_from_false}
use Rattle.mr_lex.specs.Places.{line_of, column_of}
use Rattle.mr_lex.proofs.PlaceLaws.{column_of-le, line_of-feed, column_of-feed, inline_stays, feed_alone}
use Rattle.mr_lex.proofs.place.Place.behind.Goals as goal

pub overflow_add-result-else-text-self-eq10 : goal.overflow_add-result-else-text-self-eq10
overflow_add-result-else-text-self-eq10 c = omega (arith, c.requires.placed.col, column_of-le c.args.text.now c.args.self.at)

pub returns-then-text-self-eq10-clause-placed : goal.returns-then-text-self-eq10-clause-placed
returns-then-text-self-eq10-clause-placed c =
    let text = c.args.text.now in
    let at = c.args.self.at in
    let feed : is_inline (get_or text at 0) ≡ false = not_from_true _ (eq-eqb _ 10 c.if-text-self-eq10.true) in
    let one = feed_alone text at c.args.len c.requires.within c.requires.some c.requires.one_line feed in
    record {
      line = ap (λ n. n + 1) c.requires.placed.line ∙ sym (line_of-feed text at (omega arith) feed) ∙ ap (λ n. line_of text (at + n)) (sym one);
      col = sym (column_of-feed text at (omega arith) feed) ∙ ap (λ n. column_of text (at + n)) (sym one);
    }

pub returns-else-text-self-eq10-clause-placed : goal.returns-else-text-self-eq10-clause-placed
returns-else-text-self-eq10-clause-placed c =
    let text = c.args.text.now in
    let at = c.args.self.at in
    let inline : is_inline (get_or text at 0) ≡ true = not_from_false _ (ne_eqb _ 10 c.if-text-self-eq10.false) in
    let stays = inline_stays text at c.args.len c.requires.within c.requires.some c.requires.one_line inline in
    record {
      line = c.requires.placed.line ∙ sym stays.line;
      col = ap (λ n. n + c.args.len) c.requires.placed.col ∙ sym stays.col;
    }
