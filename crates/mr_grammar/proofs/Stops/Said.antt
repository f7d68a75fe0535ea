-- What reading says of words in the forms of the language.
use Rattle.mr_grammar.proofs.Common.{Bool, List, true, ◌≡◌, false, refl, Ok, ◌∷◌, [], ap, ◌++◌, length, arith, ◌||◌, ℕ, ◌==◌, ◌-◌, suc, zero, Spelling, Mark, Part, SpelledBy, Word, Empty, Then, Cases, Either, Many, Within, In, Scope, SpelledInside, NoPart, form_of, Kind, Meaning, Writing, Reading, Reads, read_by, ◌>>=◌, read_inside, read_part, no_part, read}
use Rattle.mr_grammar.proofs.Stops.FlawLaws.{opens_part}
use Rattle.mr_grammar.proofs.Stops.PartLaws.{part_begins, IsTold}
use Rattle.mr_grammar.proofs.Stops.Predictive.{told_part}
use Rattle.mr_grammar.proofs.Stops.Samples.{sample_by, kinds_sampled}
use Rattle.mr_grammar.proofs.Walk.BeginLaws.{Opens, spelled_opens}
use Rattle.mr_grammar.proofs.Walk.CompleteLaws.{left_false}
use Rattle.mr_grammar.proofs.Walk.Fair.{AreFair}
use Rattle.mr_grammar.proofs.Walk.FairForms.{forms_fair}
use Rattle.mr_grammar.proofs.Walk.HeightLaws.{SomeInside, SomePart, settled, settled_part, SomeSpelled}
use Rattle.mr_grammar.proofs.Walk.Says.{Sample, Says, says_ok, says_then, says_made, says_first, says_either, says_many, says_within, says_also}

module _ (full : Bool) (read_in : Reading Scope Kind Meaning) (write_in : Spelling Scope Kind Meaning)
    (read_p : Scope → (kind : Kind) → Reads (Meaning kind)) (write_p : Scope → (kind : Kind) → Meaning kind → List Mark → Type 0) (parts : Bool)
    (opens_p : (scope : Scope) (kind : Kind) (x : Meaning kind) (marks : List Mark) → write_p scope kind x marks → Opens {S = Scope} {M = Meaning} part_begins (Part kind) marks)
    (sample_in : (scope : Scope) (A : Type 0) (a : Writing A) → AreFair true a → Sample (write_in scope A a))
    (sample : (scope : Scope) (A : Type 0) (a : Writing A) → AreFair parts a → Sample (SpelledBy full write_in write_p scope a))
    (said_in : full ≡ false → (scope : Scope) (A : Type 0) (a : Writing A) → AreFair true a → IsTold a → (ws : List Word) → Says (write_in scope A a) (read_in scope A a) ws)
    (said_p : parts ≡ true → (scope : Scope) (kind : Kind) (ws : List Word) → Says (write_p scope kind) (read_p scope kind) ws) where
  -- where brackets and parts are read so, so is every form
  said_by : (scope : Scope) {A : Type 0} (form : Writing A) → AreFair parts form → IsTold form → (ws : List Word)
      → Says (SpelledBy full write_in write_p scope form) (λ us. read_by full read_in read_p scope form us) ws
  said_by scope (Empty a) fair told ws = says_ok a ws (refl, refl) (λ v e. refl)
  said_by scope (Then {A} {B} {C} f a b) fair told ws =
      says_then (λ x z back. (y : B) × (z ≡ f x y) × SpelledBy full write_in write_p scope b y back)
      (λ x us. read_by full read_in read_p scope b us >>= (λ y. Ok (f x y.0, y.1))) (said_by scope a fair.0 told.0 ws)
      (λ x front rest e fine one. says_made (f x) (said_by scope b fair.1 told.1 rest) (λ y marks other. (y, refl, other)))
      (λ x. (let (y, marks, other) = sample scope _ b fair.1 in (f x y, marks, (y, refl, other))))
      (λ x z front back one (y, is, other). (x, y, front, back, is, refl, one, other))
  said_by scope (Cases {I} judge form) fair told ws =
      says_then (λ i x back. SpelledBy full write_in write_p scope (form i) x back) (λ i us. read_by full read_in read_p scope (form i) us)
      (says_first (judge scope) (let (w, i, flaw, judged) = fair.0.takes scope in (i, record { word = w; flaw = flaw } ∷ [], (w, flaw, refl, judged))) ws)
      (λ i front rest e fine one. said_by scope (form i) (fair.1 i) (told i) rest) (λ i. sample scope _ (form i) (fair.1 i))
      (λ i x front back (w, flaw, is, judged) behind. (w, i, flaw, back, judged, ap (λ ms. ms ++ back) is, behind))
  said_by scope (Either test a b) fair told ws = says_either test ws (said_by scope a fair.0 told.0 ws) (said_by scope b fair.1 told.1 ws)
  said_by scope (Many test form) fair told ws =
      says_many (λ k. read_by full read_in read_p scope (form k)) (λ k. SpelledBy full write_in write_p scope (form k)) test
      (λ k us. said_by scope (form k) (fair k) (told.0 k) us)
      (λ k x one. (let yes = spelled_opens part_begins full write_in write_p opens_p scope (form k) x [] one in let no = told.1 k in absurd (cc)))
      (length ws) 0 ws (omega arith)
  said_by scope (Within {A} over bracket a) fair told ws =
      says_within (over || full) bracket (sample_in scope A a fair) (λ free us. said_in (left_false over full free) scope A a fair told.0 us) ws
  said_by scope (Part kind) fair told ws = said_p fair scope kind ws
  said_by scope (In into a) fair told ws = said_by (into scope) a fair.1 told ws

-- what is said inside a bracket
abbrev SaidInside : ℕ → Type 1
SaidInside room = (room == 0) ≡ false → (scope : Scope) (A : Type 0) (a : Writing A) → AreFair true a → IsTold a → (ws : List Word)
    → Says (SomeInside (room - 1) scope A a) (read_inside room scope A a) ws

sample_inside : (room : ℕ) (scope : Scope) (A : Type 0) (a : Writing A) → AreFair true a → Sample (SomeInside room scope A a)
unfolding SpelledInside
sample_inside room scope A a fair =
    let (x, marks, one) = sample_by kinds_sampled true room (SomePart room) (λ _. kinds_sampled room) scope a fair in
    let (height, written) = settled room scope a x marks one in
    (x, marks, (suc height, written))

said_part : (room : ℕ) → SaidInside room → (scope : Scope) (kind : Kind) (ws : List Word) → Says (SomePart room scope kind) (read_part room scope kind) ws
unfolding read_part
said_part room inside scope kind ws =
    says_also
    (said_by (room == 0) (read_inside room) (SomeInside (room - 1)) no_part NoPart false (λ i k x ms none. absurd none) (sample_inside (room - 1))
    (λ i A a fair. sample_by kinds_sampled false room NoPart (λ clash. absurd (cc)) i a fair) inside (λ clash. absurd (cc))
    scope (form_of kind) (forms_fair false kind) (told_part kind) ws)
    (settled_part room scope kind) (λ us e. refl)

said_given : (room : ℕ) → SaidInside room → (scope : Scope) {A : Type 0} (form : Writing A) → AreFair true form → IsTold form → (ws : List Word)
    → Says (SomeSpelled room scope form) (λ us. read room scope form us) ws
said_given room inside scope form fair told ws =
    says_also
    (said_by (room == 0) (read_inside room) (SomeInside (room - 1)) (read_part room) (SomePart room) true
    (λ i kind x ms one. opens_part one.0 room i kind x ms one.1) (sample_inside (room - 1))
    (λ i A a fair. sample_by kinds_sampled true room (SomePart room) (λ _. kinds_sampled room) i a fair) inside (λ _. said_part room inside)
    scope form fair told ws)
    (settled room scope form) (λ us e. refl)

-- What reading says in each form, where so many brackets may be opened.
pub said : (room : ℕ) (scope : Scope) {A : Type 0} (form : Writing A) → AreFair true form → IsTold form → (ws : List Word)
    → Says (SomeSpelled room scope form) (λ us. read room scope form us) ws
unfolding read_inside read_part SpelledInside
said zero scope form fair told ws = said_given 0 (λ clash. absurd (cc)) scope form fair told ws
said (suc room) scope form fair told ws =
    let fewer : suc room - 1 ≡ room = omega arith in
    said_given (suc room) (λ some i A a f t us. rw fewer (says_also (said room i a f t us) (λ x marks one. (suc one.0, one.1)) (λ vs e. refl))) scope form fair told ws
