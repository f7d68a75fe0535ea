use Rattle.mr_traced.proofs.Common.{◌∙◌, Bor, List, ℕ, Ok, Option, ap, map, sym}
use Rattle.mr_traced.specs.Places.{is_wrong, unless_wrong}
use Rattle.mr_traced.proofs.Made.{position_seen}
use Rattle.mr_traced.proofs.form.read_body.Goals as goal

pub returns-in-Some : goal.returns-in-Some
returns-in-Some c =
    let lines = map (λ (l : Bor (List ℕ)). l.now) c.args.lines.now in
    ap (λ (o : Option ℕ). unless_wrong o lines)
    (position_seen is_wrong (λ (l : Bor (List ℕ)). l.now) c.args.lines.now ∙ sym c.first_wrong.ensures ∙ c.in-Some.is)

pub returns-in_ok-places_in-in-None : goal.returns-in_ok-places_in-in-None
returns-in_ok-places_in-in-None c =
    let lines = map (λ (l : Bor (List ℕ)). l.now) c.args.lines.now in
    ap (λ (o : Option ℕ). unless_wrong o lines)
    (position_seen is_wrong (λ (l : Bor (List ℕ)). l.now) c.args.lines.now ∙ sym c.first_wrong.ensures ∙ c.in-None.is)
    ∙ ap Ok (sym c.in_ok-places_in-in-None.ensures)
