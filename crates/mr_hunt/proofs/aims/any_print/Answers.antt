use Rattle.mr_hunt.proofs.Common.{◌≡◌, ℕ, ◌≤◌, ◌<◌, ◌∙◌, Bool, false, true, [], ap, ap₂, arith, get_or, length, List, subst, sym, take, ◌||◌, list_any, Printed, is_print}
use Rattle.std.proofs.lemmas.List.{take_all}
use Rattle.std.proofs.lemmas.List.Folds.{list_any_at, list_any_more}
use Rattle.std.proofs.lemmas.Option.{slice_get-get_or}
use Rattle.mr_hunt.specs.Aims.{is_print_in}
use Rattle.mr_hunt.proofs.aims.any_print.Goals as goal

-- what stands for a print that isn't there
abbrev no_print : Printed
no_print = record { thread = 0; text = [] }

pub loop-i-preserved : goal.loop-i-preserved
loop-i-preserved c =
    let text = c.args.text.now in
    let prints = c.args.machine.now.config.output in
    let i = c.loop-i.i in
    let inside = subst (λ (n : ℕ). i < n) c.lines-i-end.ensures c.loop-i-test.true in
    let there = slice_get-get_or prints i no_print inside in
    let fails : is_print text (get_or prints i no_print) ≡ false =
    sym (ap (is_print_in text) (c.line.ensures ∙ there)) ∙ sym c.is_text.ensures ∙ c.if-is_text.false in
    list_any_more (is_print text) prints i no_print inside
    ∙ ap₂ (λ (a b : Bool). a || b) c.loop-i.invariant fails

pub returns-then-is_text : goal.returns-then-is_text
returns-then-is_text c =
    let text = c.args.text.now in
    let prints = c.args.machine.now.config.output in
    let i = c.loop-i.i in
    let inside = subst (λ (n : ℕ). i < n) c.lines-i-end.ensures c.loop-i-test.true in
    let there = slice_get-get_or prints i no_print inside in
    let holds : is_print text (get_or prints i no_print) ≡ true =
    sym (ap (is_print_in text) (c.line.ensures ∙ there)) ∙ sym c.is_text.ensures ∙ c.if-is_text.true in
    sym (list_any_at (is_print text) prints i no_print inside holds)

pub returns : goal.returns
returns c =
    let text = c.args.text.now in
    let prints = c.args.machine.now.config.output in
    let over = c.loop-i-test.false in
    let all : length prints ≤ c.loop-i.i = omega (arith, over, c.lines-i-end.ensures) in
    sym (sym (ap (list_any (is_print text)) (take_all c.loop-i.i prints all)) ∙ c.loop-i.invariant)
