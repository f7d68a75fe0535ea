-- With which words the parts of the language begin, and behind which they end.
use Rattle.mr_grammar.proofs.Common.{◌≡◌, false, codes, Word, Kind, TheType, TheTree, ThePlace, TheValue, Writing, is_word, begins_postfix, form_of}
use Rattle.mr_grammar.proofs.Walk.Conditions.{Begins, IsPredictive}

-- a part of a kind begins with the word; no part stands in it but in brackets
abbrev pub part_begins : Kind → Word → Type 0
part_begins kind w = Begins (λ inner v. ⊥) (form_of kind) w

-- a part of a kind ends in front of the word: a type in front of all but `never`, a place in front of what is no postfix
abbrev pub part_stops : Kind → Word → Type 0
part_stops TheType w = is_word (codes "never") w.text ≡ false
part_stops TheTree w = Unit {0}
part_stops (ThePlace over) w = begins_postfix w.text ≡ false
part_stops TheValue w = Unit {0}

-- the form can be read a word at a time
abbrev pub IsTold : {A : Type 0} → Writing A → Type 0
IsTold form = IsPredictive part_begins part_stops form
