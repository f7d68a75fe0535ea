-- Picks in front of those that are left.
use Rattle.mr_auto.proofs.Common.{◌≡◌, ℕ, suc, ◌+◌, ◌<◌, refl, sym, ap, ◌∙◌, arith, List, [], ◌∷◌, ◌++◌, append-nil, append_assoc, drop, get_or, length, Option, Some, None, Status, Chooser, Ask, Picked, picked, put}
use Rattle.std.proofs.Math.Seq.{drop-cons}
use Rattle.std.specs.Option.{option_map}
use Rattle.mr_auto.specs.Answers.{PickAnswer, PicksAnswer}
use Rattle.mr_auto.specs.Drawing.{behind_pick, pick_of}

-- these picks in front of what is picked
abbrev pub behind_picks : List ℕ → Option Picked → Option Picked
behind_picks picks = option_map (λ (r : Picked). record { picks = picks ++ r.picks; chooser = r.chooser })

none_in_front : (o : Option Picked) → o ≡ behind_picks [] o
none_in_front None = refl
none_in_front (Some r) = refl

one_more : (picks : List ℕ) (pick : ℕ) (rest : Option Picked) → behind_picks picks (put (Some pick) rest) ≡ behind_picks (picks ++ pick ∷ []) rest
one_more picks pick None = refl
one_more picks pick (Some r) = ap (λ ps. Some (record { picks = ps; chooser = r.chooser })) (sym (append_assoc picks (pick ∷ []) r.picks))

-- what is left at a position within the list
pub left_here : (asks : List Ask) (i : ℕ) (d : Ask) → i < length asks → drop i asks ≡ get_or asks i d ∷ drop (i + 1) asks
left_here asks i d h =
    let next : suc i ≡ i + 1 = omega arith in
    drop-cons asks i d h ∙ ap (λ n. get_or asks i d ∷ drop n asks) next

module _ (statuses : List Status) (first : Chooser) (all : List Ask) where
  -- what is picked is what was picked, and what is picked for the asks that are left
  abbrev pub PickedSo : List ℕ → Chooser → List Ask → Type 0
  PickedSo picks c left = picked statuses first all ≡ behind_picks picks (picked statuses c left)

  pub picked_begins : PickedSo [] first all
  picked_begins = none_in_front (picked statuses first all)

  pub picked_more : (picks : List ℕ) (c c' : Chooser) (ask : Ask) (left : List Ask) (pick : ℕ) → PickedSo picks c (ask ∷ left) → PickAnswer (pick_of statuses c ask) (behind_pick c ask) (Some pick) c'
      → PickedSo (picks ++ pick ∷ []) c' left
  picked_more picks c c' ask left pick so h =
      so
      ∙ ap (λ o. behind_picks picks (put o (picked statuses (behind_pick c ask) left))) h.0
      ∙ one_more picks pick (picked statuses (behind_pick c ask) left)
      ∙ ap (λ (d : Chooser). behind_picks (picks ++ pick ∷ []) (picked statuses d left)) (sym h.1)

  pub picked_none : (picks : List ℕ) (c c' : Chooser) (ask : Ask) (left : List Ask) → PickedSo picks c (ask ∷ left) → PickAnswer (pick_of statuses c ask) (behind_pick c ask) None c' → picked statuses first all ≡ None
  picked_none picks c c' ask left so h = so ∙ ap (λ o. behind_picks picks (put o (picked statuses (behind_pick c ask) left))) h

  pub picked_ends : (picks : List ℕ) (c : Chooser) → PickedSo picks c [] → PicksAnswer (picked statuses first all) (Some picks) c
  picked_ends picks c so = so ∙ ap (λ ps. Some (record { picks = ps; chooser = c })) (append-nil picks)
