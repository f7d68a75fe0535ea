use Rattle.mr_next.proofs.Common.{ℕ, List, ◌++◌, ◌∙◌, ap}
use Rattle.mr_next.specs.Texts.{culprit_text, earlier_text, picks_text, rule_text}
use Rattle.mr_next.proofs.Appended.{behind, last_behind}
use Rattle.mr_next.proofs.texts.push_broken.Goals as goal

pub returns : goal.returns
returns c =
    let old = c.args.out.now.items in
    let rule = rule_text c.args.sentence.now c.args.entry.now c.args.broken.now in
    let picks = picks_text c.args.entry.now.picks in
    let culprit = culprit_text c.args.entry.now.picks c.args.broken.now.culprit in
    let earlier = earlier_text c.args.broken.now.earlier in
    last_behind c.push_earlier.result old (rule ++ picks ++ culprit) earlier _ _
    (behind old (rule ++ picks) culprit _ _
    (behind old rule picks _ _ c.in_ok-push_rule.ensures
    (c.in_ok-push_picks.ensures ∙ ap (λ (xs : List ℕ). c.push_rule.new.out.items ++ picks_text xs) c.as_slice.ensures))
    (c.in_ok-push_culprit.ensures ∙ ap (λ (xs : List ℕ). c.push_picks.new.out.items ++ culprit_text xs c.args.broken.now.culprit) c.as_slice-2.ensures))
    c.push_earlier.ensures
