-- What the list of predicted races says of its pairs, and of the first one.
use Rattle.mr_exchange.proofs.Common.{◌≡◌, ℕ, suc, zero, ◌<◌, List, [], ◌∷◌, length, get_or, subst, ap, arith, Any, Footprint, RacePair, IsFirstPair}
use Rattle.mr_event.specs.declared.footprint.Pair.{Pair}
use Rattle.mr_event.specs.Order.{IsGreatestPartner, IsPredicted, HasNoRace}
use Rattle.mr_event.specs.Predicted.{predicted}
use Rattle.mr_event.proofs.Tests.{predicted_is}
use Rattle.std.proofs.lemmas.List.Elements.{All-contains}
use Rattle.std.specs.Prelude.{Contains}

-- a predicted race is a step with its greatest partner
pub partner_of_predicted : (run : List Footprint) (p : Pair) → Contains (predicted run) p → IsGreatestPartner run p.first p.second
partner_of_predicted run p c = All-contains (λ q. IsGreatestPartner run q.first q.second) (predicted run) p (predicted_is run).listed c

-- and both are steps of the run
pub within_predicted : (run : List Footprint) (p : Pair) → Contains (predicted run) p → p.second < length run
within_predicted run p c = All-contains (λ q. q.second < length run) (predicted run) p (predicted_is run).within c

-- the first pair is a step with its greatest partner
pub partner_of_first : (run : List Footprint) (i j : ℕ) → IsFirstPair run i j → IsGreatestPartner run i j
partner_of_first run i j first = record { pair = first.pair; greatest = first.greatest }

earlier_none : (run : List Footprint) (p : Pair) (rest : List Pair) → IsPredicted run (p ∷ rest) → (a b : ℕ) → b < p.second → RacePair run a b → ⊥
earlier_none run p rest h a b lt r = by (h.complete a b (let within : p.second < length run = h.within 0 p (omega arith) in omega arith) r)
  where
    by : Any (λ q. q.second ≡ b) (p ∷ rest) → ⊥
    by t = at_place t.0 t.1 t.2 t.3 t.4
      where
        at_place : (k : ℕ) (x : Pair) → k < length (p ∷ rest) → get_or (p ∷ rest) k x ≡ x → x.second ≡ b → ⊥
        at_place zero x low e same = let second = ap (λ q. q.second) e in omega arith
        at_place (suc k) x low e same =
            let rises = h.rising 0 (suc k) x (omega arith) low in
            let second = ap (λ q. q.second) e in
            omega arith

-- the head of the predicted races is the first pair
pub first_of_predicted : (run : List Footprint) (p : Pair) (rest : List Pair) → predicted run ≡ p ∷ rest → IsFirstPair run p.first p.second
first_of_predicted run p rest e =
    let h : IsPredicted run (p ∷ rest) = subst (IsPredicted run) e (predicted_is run) in
    let g : IsGreatestPartner run p.first p.second = h.listed 0 p (omega arith) in
    record {
      pair = g.pair;
      within = h.within 0 p (omega arith);
      earliest = earlier_none run p rest h;
      greatest = g.greatest;
    }

-- where none is predicted there is none
pub none_predicted : (run : List Footprint) → predicted run ≡ [] → HasNoRace run
none_predicted run e i j lt r =
    let h : IsPredicted run [] = subst (IsPredicted run) e (predicted_is run) in
    let t = h.complete i j lt r in
    absurd (omega (arith, t.2))
