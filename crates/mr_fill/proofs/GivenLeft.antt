-- Picks in front of those that are left.
use Rattle.mr_fill.proofs.Common.{◌≡◌, ℕ, refl, sym, ap, ◌∙◌, List, [], ◌∷◌, ◌++◌, append-nil, append_assoc, Option, Some, None, Status, Chooser, Ask, Picked, behind_given, given}
use Rattle.mr_auto.specs.Answers.{PickAnswer, PicksAnswer}
use Rattle.mr_auto.specs.Drawing.{put}
use Rattle.mr_auto.proofs.PicksLeft.{behind_picks}
use Rattle.mr_fill.specs.Filling.{given_pick}

none_in_front : (o : Option Picked) → o ≡ behind_picks [] o
none_in_front None = refl
none_in_front (Some r) = refl

one_more : (picks : List ℕ) (pick : ℕ) (rest : Option Picked) → behind_picks picks (put (Some pick) rest) ≡ behind_picks (picks ++ pick ∷ []) rest
one_more picks pick None = refl
one_more picks pick (Some r) = ap (λ ps. Some (record { picks = ps; chooser = r.chooser })) (sym (append_assoc picks (pick ∷ []) r.picks))

-- a pick is told as it is, where nothing was drawn for it
pub pick_told : (o defined : Option ℕ) (c : Chooser) → o ≡ defined → PickAnswer defined c o c
pick_told None defined c e = sym e
pick_told (Some pick) defined c e = (sym e, refl)

module _ (statuses : List Status) (receiver : Option ℕ) (first : Chooser) (all : List Ask) where
  -- what is given is what was given, and what is given for the asks that are left
  abbrev pub GivenSo : List ℕ → Chooser → List Ask → Type 0
  GivenSo picks c left = given statuses receiver first all ≡ behind_picks picks (given statuses receiver c left)

  pub given_begins : GivenSo [] first all
  given_begins = none_in_front (given statuses receiver first all)

  pub given_more : (picks : List ℕ) (c c' : Chooser) (ask : Ask) (left : List Ask) (pick : ℕ) → GivenSo picks c (ask ∷ left) → PickAnswer (given_pick statuses receiver c ask) (behind_given c ask) (Some pick) c'
      → GivenSo (picks ++ pick ∷ []) c' left
  given_more picks c c' ask left pick so h =
      so
      ∙ ap (λ o. behind_picks picks (put o (given statuses receiver (behind_given c ask) left))) h.0
      ∙ one_more picks pick (given statuses receiver (behind_given c ask) left)
      ∙ ap (λ (d : Chooser). behind_picks (picks ++ pick ∷ []) (given statuses receiver d left)) (sym h.1)

  pub given_none : (picks : List ℕ) (c c' : Chooser) (ask : Ask) (left : List Ask) → GivenSo picks c (ask ∷ left) → PickAnswer (given_pick statuses receiver c ask) (behind_given c ask) None c' → given statuses receiver first all ≡ None
  given_none picks c c' ask left so h = so ∙ ap (λ o. behind_picks picks (put o (given statuses receiver (behind_given c ask) left))) h

  pub given_ends : (picks : List ℕ) (c : Chooser) → GivenSo picks c [] → PicksAnswer (given statuses receiver first all) (Some picks) c
  given_ends picks c so = so ∙ ap (λ ps. Some (record { picks = ps; chooser = c })) (append-nil picks)
