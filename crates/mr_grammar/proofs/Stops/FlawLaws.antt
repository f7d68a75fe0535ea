-- What a row of marks writes in a form of the language is read: the thing, or the first limit that the row breaks.
use Rattle.mr_grammar.proofs.Common.{◌≡◌, false, refl, ℕ, List, ◌==◌, ◌-◌, [], ◌∷◌, Ok, Some, ◌++◌, zero, suc, ◌∙◌, Mark, Part, Word, Scope, form_of, SpelledPart, SpelledInside, NoPart, Spelled, type_form, tree_form, place_from, postfixes_form, base_form, deref_form, value_form, Kind, TheType, TheTree, ThePlace, TheValue, Meaning, Writing, IsFine, words_in, stop, read_inside, read, read_part, no_part}
use Rattle.mr_grammar.proofs.Stops.PartLaws.{part_begins, IsTold, part_stops}
use Rattle.mr_grammar.proofs.Stops.Predictive.{told_part, ended_part}
use Rattle.mr_grammar.proofs.Walk.BeginLaws.{Opens, spelled_opens}
use Rattle.mr_grammar.proofs.Walk.CheckedLaws.{checked, IsRead, first-map}
use Rattle.mr_grammar.proofs.Walk.CompleteLaws.{checked_by}
use Rattle.mr_grammar.proofs.Walk.Conditions.{is_nullable, Stops}
use Rattle.mr_grammar.proofs.Walk.InsideLaws.{inside}

-- a part has a word
pub part_nonempty : (kind : Kind) → is_nullable (form_of kind) ≡ false
unfolding type_form tree_form place_from postfixes_form base_form deref_form value_form
part_nonempty TheType = refl
part_nonempty TheTree = refl
part_nonempty (ThePlace over) = refl
part_nonempty TheValue = refl

-- the first word of a row that writes a part begins it
pub opens_part : (height room : ℕ) (scope : Scope) (kind : Kind) (x : Meaning kind) (marks : List Mark) → SpelledPart height room scope kind x marks
    → Opens {S = Scope} {M = Meaning} part_begins (Part kind) marks
opens_part height room scope kind x marks s =
    go marks (spelled_opens (λ inner v. ⊥) (room == 0) (SpelledInside height (room - 1)) NoPart (λ i k y ms none. absurd none) scope (form_of kind) x marks s)
  where
    go : (row : List Mark) → Opens (λ inner v. ⊥) (form_of kind) row → Opens {S = Scope} {M = Meaning} part_begins (Part kind) row
    go [] empty = let no = part_nonempty kind in absurd (cc)
    go (m ∷ row) begun = begun

-- a row that breaks no limit, and the first mark that breaks one
pub checked-fine : {A : Type 0} (x : A) (marks : List Mark) (rest : List Word) → IsFine marks → checked x marks rest ≡ Ok (x, rest)
checked-fine x [] rest good = refl
checked-fine x (m ∷ marks) rest good = rw good.0 (checked-fine x marks rest good.1)

pub checked-flawed : {A : Type 0} (x : A) (front : List Mark) (m : Mark) (back : List Mark) (rest : List Word) (code : ℕ) → IsFine front → m.flaw ≡ Some code
    → checked x (front ++ m ∷ back) rest ≡ stop code (m.word ∷ words_in back ++ rest)
checked-flawed x [] m back rest code good flaw = rw flaw refl
checked-flawed x (n ∷ front) m back rest code good flaw = rw good.0 (checked-flawed x front m back rest code good.1 flaw)

-- a thing is read, where what stands in brackets is
checked_whole : (height room : ℕ)
    → ((room == 0) ≡ false → (scope : Scope) (A : Type 0) (form : Writing A) (x : A) (marks : List Mark) → IsTold form
    → SpelledInside height (room - 1) scope A form x marks → IsRead (read_inside room scope A form) (Stops part_stops form) x marks)
    → (scope : Scope) {A : Type 0} (form : Writing A) (x : A) (marks : List Mark) → IsTold form → Spelled height room scope form x marks
    → IsRead (λ us. read room scope form us) (Stops part_stops form) x marks
unfolding read_part
checked_whole height room bracketed scope form x marks told s =
    checked_by part_begins part_stops (room == 0) (SpelledInside height (room - 1)) (read_inside room) (SpelledPart height room) (read_part room) (opens_part height room)
    (λ inner kind y front t behind more.
    checked_by part_begins part_stops (room == 0) (SpelledInside height (room - 1)) (read_inside room) NoPart no_part (λ i k z ms none. absurd none)
    (λ i k z ms none. absurd none) bracketed inner (form_of kind) y front (told_part kind) t behind (λ good. first-map behind (ended_part kind) (more good)))
    bracketed scope form x marks told s

-- what stands in brackets is read
checked_inside : (height room : ℕ) → (room == 0) ≡ false → (scope : Scope) (A : Type 0) (form : Writing A) (x : A) (marks : List Mark) → IsTold form
    → SpelledInside height (room - 1) scope A form x marks → IsRead (read_inside room scope A form) (Stops part_stops form) x marks
unfolding SpelledInside
checked_inside zero room some scope A form x marks told s rest last = absurd s
checked_inside (suc height) room some scope A form x marks told s rest last =
    inside room scope A form (words_in marks ++ rest) some
    ∙ checked_whole height (room - 1) (checked_inside height (room - 1)) scope form x marks told s rest last

-- What a row writes is read, where the words behind it are no more of the thing.
pub read_checked : (height room : ℕ) (scope : Scope) {A : Type 0} (form : Writing A) (x : A) (marks : List Mark) → IsTold form
    → Spelled height room scope form x marks → IsRead (λ us. read room scope form us) (Stops part_stops form) x marks
read_checked height room = checked_whole height room (checked_inside height room)
