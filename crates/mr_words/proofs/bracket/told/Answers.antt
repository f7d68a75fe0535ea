use Rattle.mr_words.proofs.Common.{◌≡◌, ◌-◌, ◌==◌, true, length, refl, arith, words_of}
use Rattle.mr_words.proofs.BracketCounts.{told_deep, told_kept}
use Rattle.mr_words.proofs.PlaceLaws.{words_length}
use Rattle.mr_words.proofs.bracket.told.Goals as goal

pub returns-then-is_bracket_too_many : goal.returns-then-is_bracket_too_many
returns-then-is_bracket_too_many c =
    let ws = words_of c.args.tokens.now in
    let is_at : c.saturating_sub-at.result ≡ length ws - c.args.stop.left = omega (arith, words_length c.args.tokens.now 0) in
    let unexpected : (c.args.stop.code == 4) ≡ true = rw c.if-stop-ne-UNEXPECTED.false refl in
    told_deep ws c.args.stop c.saturating_sub-at.result is_at c.is_bracket_too_many.result c.if-is_bracket_too_many.true c.is_bracket_too_many.ensures unexpected

pub returns-else-is_bracket_too_many : goal.returns-else-is_bracket_too_many
returns-else-is_bracket_too_many c =
    let ws = words_of c.args.tokens.now in
    let is_at : c.saturating_sub-at.result ≡ length ws - c.args.stop.left = omega (arith, words_length c.args.tokens.now 0) in
    let unexpected : (c.args.stop.code == 4) ≡ true = rw c.if-stop-ne-UNEXPECTED.false refl in
    told_kept ws c.args.stop c.saturating_sub-at.result is_at c.is_bracket_too_many.result c.if-is_bracket_too_many.false c.is_bracket_too_many.ensures unexpected
