-- Each thread that was started is named.
use Rattle.mr_picture.proofs.Common.{◌≡◌, ℕ, inl, inr, List, [], ◌∷◌, ◌++◌, ap, sym, ◌∙◌, append_assoc, codes, flat_map, Option, Some, Contains, Contains-append_cases, Seen}
use Rattle.mr_labels.specs.declared.step.Stand.{Stand}
use Rattle.mr_labels.specs.declared.step.ToldStep.{ToldStep}
use Rattle.mr_labels.specs.Words.{function_word}
use Rattle.mr_picture.specs.Drawn.{StandsIn, name_of, names_of, started_name, told_name}
use Rattle.mr_picture.proofs.Members.{none, only}

-- a piece in front of three
in_front : (a b c d : List ℕ) → a ++ (b ++ c ++ d) ≡ a ++ b ++ c ++ d
in_front a b c d = sym (append_assoc a (b ++ c) d) ∙ ap (λ zs. zs ++ d) (sym (append_assoc a b c))

-- what is made of an element stands in what is made of all
made_in : {X : Type 0} (f : X → List ℕ) (xs : List X) (x : X) → Contains xs x → StandsIn (f x) (flat_map f xs)
made_in f [] x h = absurd (none x h)
made_in f (y ∷ ys) x h =
    elim (Contains-append_cases (y ∷ []) ys x h) [
      | inl here ↦ ([], flat_map f ys, ap (λ z. f z ++ flat_map f ys) (only y x here))
      | inr later ↦
          let t = made_in f ys x later in
          (f y ++ t.0, t.1, ap (λ zs. f y ++ zs) t.2 ∙ in_front (f y) t.0 (f x) t.1)
    ]

pub started_named : (s : Seen) (told : ToldStep) (stand : Stand) → Contains s.steps told → told.started ≡ Some stand
    → StandsIn (name_of s stand.thread stand.function) (names_of s)
started_named s told stand there e =
    let main = codes "T0 " ++ function_word s.program s.program.start.0 in
    let t = made_in (told_name s) s.steps told there in (
      main ++ t.0,
      t.1,
      ap (λ zs. main ++ zs) (t.2 ∙ ap (λ (o : Option Stand). t.0 ++ started_name s o ++ t.1) e)
          ∙ in_front main t.0 (name_of s stand.thread stand.function) t.1,
    )
