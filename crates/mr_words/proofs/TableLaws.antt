-- The words that stand in a table.
use Rattle.mr_words.proofs.Common.{◌≡◌, ℕ, Bool, true, false, ◌||◌, List, [], ◌∷◌, ◌++◌, refl, ap, ◌∙◌, bytes_eq, list_any, Texts, looked_up, reserved}
use Rattle.std.proofs.Common.{codes}
use Rattle.std.specs.Prelude.{is_some}
use Rattle.mr_ast.specs.Words.{Table, stmt_words, term_words, texts_of}

-- a word is among those of a table where it stands for something there
is_listed : {X : Type 0} (table : Table X) (more : Texts) (text : List ℕ) → list_any (bytes_eq text) (texts_of table ++ more) ≡ (is_some (looked_up table text) || list_any (bytes_eq text) more)
is_listed [] more text = refl
is_listed (entry ∷ entries) more text = at (bytes_eq text entry.0) refl (is_listed entries more text)
  where
    at : (b : Bool) → bytes_eq text entry.0 ≡ b → list_any (bytes_eq text) (texts_of entries ++ more) ≡ (is_some (looked_up entries text) || list_any (bytes_eq text) more)
        → list_any (bytes_eq text) (texts_of (entry ∷ entries) ++ more) ≡ (is_some (looked_up (entry ∷ entries) text) || list_any (bytes_eq text) more)
    at true is rest = rw is refl
    at false is rest = rw is rest

-- the words that no name may be
pub is_reserved : (text : List ℕ) → list_any (bytes_eq text) reserved ≡ (is_some (looked_up stmt_words text) || (is_some (looked_up term_words text) || (bytes_eq text (codes "deref") || (bytes_eq text (codes "_") || false))))
is_reserved text =
    is_listed stmt_words (texts_of term_words ++ codes "deref" ∷ codes "_" ∷ []) text
    ∙ ap (λ b. is_some (looked_up stmt_words text) || b) (is_listed term_words (codes "deref" ∷ codes "_" ∷ []) text)
