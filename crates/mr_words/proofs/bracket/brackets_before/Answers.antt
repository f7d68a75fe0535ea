use Rattle.mr_words.proofs.Common.{◌<◌, length, refl, arith, closes, opens, words_of}
use Rattle.mr_words.proofs.BracketCounts.{at_most_one_more, counted}
use Rattle.mr_words.proofs.PlaceLaws.{words_length}
use Rattle.mr_words.proofs.bracket.brackets_before.Goals as goal

pub loop-i-preserved : goal.loop-i-preserved
loop-i-preserved c =
    let ws = words_of c.args.tokens.now in
    let lt : c.loop-i.i < length ws = omega (arith, words_length c.args.tokens.now 0) in (
      counted opens (λ w. refl) ws c.loop-i.i c.loop-i.opening c.with_one-opening.result c.text_at-text.result.now c.opens.result lt c.loop-i.invariant.0 c.text_at-text.ensures c.opens.ensures c.with_one-opening.ensures,
      counted closes (λ w. refl) ws c.loop-i.i c.loop-i.closing c.with_one-closing.result c.text_at-text.result.now c.closes.result lt c.loop-i.invariant.1 c.text_at-text.ensures c.closes.ensures c.with_one-closing.ensures,
      omega (arith, c.loop-i.invariant.2, at_most_one_more c.opens.result c.loop-i.opening c.with_one-opening.result c.with_one-opening.ensures),
      omega (arith, c.loop-i.invariant.3, at_most_one_more c.closes.result c.loop-i.closing c.with_one-closing.result c.with_one-closing.ensures),
    )
