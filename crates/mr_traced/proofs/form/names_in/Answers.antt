use Rattle.mr_traced.proofs.Common.{◌∙◌, Bor, List, ℕ, ap, arith, flat_map, sym, take_all, name_in}
use Rattle.std.proofs.lemmas.List.Folds.{flat_map-map}
use Rattle.mr_traced.proofs.Made.{next_made}
use Rattle.mr_traced.proofs.form.names_in.Goals as goal

pub loop-line-preserved : goal.loop-line-preserved
loop-line-preserved c =
    next_made (λ (x : Bor (List ℕ)). name_in x.now) _ _ c.args.lines.now c.loop-line.line-index _ c.loop-line-test.true
    c.loop-line.invariant c.in_ok-push_name.ensures

pub returns : goal.returns
returns c =
    c.loop-line.invariant
    ∙ ap (flat_map (λ (x : Bor (List ℕ)). name_in x.now))
    (take_all c.loop-line.line-index c.args.lines.now (omega (arith, c.loop-line-test.false)))
    ∙ sym (flat_map-map name_in (λ (x : Bor (List ℕ)). x.now) c.args.lines.now)
