use Rattle.mr_words.proofs.Common.{◌≡◌, ◌+◌, ◌&&◌, List, ℕ, Bool, nat_le, take, sym, ap, ◌∙◌, count_by, Word, text_at, closes, opens, words_of}
use Rattle.mr_words.proofs.BracketCounts.{too_many_at}
use Rattle.mr_words.proofs.bracket.is_bracket_too_many.Goals as goal

-- whether the word at the place opens
opens_there : (ws : List Word) (n : ℕ) (text : List ℕ) (is : Bool) → text ≡ text_at ws n → is ≡ opens (record { text = text; place = 0 }) → opens (record { text = text_at ws n; place = 0 }) ≡ is
opens_there ws n text is e o = ap (λ t. opens (record { text = t; place = 0 })) (sym e) ∙ sym o

pub returns-then-not-opens : goal.returns-then-not-opens
returns-then-not-opens c =
    let ws = words_of c.args.tokens.now in
    let front = take c.args.n ws in
    sym (too_many_at front ws c.args.n ∙ ap (λ b. b && nat_le (count_by closes front + 32) (count_by opens front)) (opens_there ws c.args.n _ _ c.text_at.ensures c.opens.ensures ∙ c.if-not-opens.true))

pub returns : goal.returns
returns c =
    let ws = words_of c.args.tokens.now in
    let front = take c.args.n ws in
    ap (λ n. nat_le (n + 32) c.brackets_before-before.result.opening) c.brackets_before-before.ensures.closing
    ∙ ap (nat_le (count_by closes front + 32)) c.brackets_before-before.ensures.opening
    ∙ sym (too_many_at front ws c.args.n ∙ ap (λ b. b && nat_le (count_by closes front + 32) (count_by opens front)) (opens_there ws c.args.n _ _ c.text_at.ensures c.opens.ensures ∙ c.if-not-opens.false))
