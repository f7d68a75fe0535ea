-- The rows of statements, terminators, blocks, functions and programs, and their semicolons.
use Rattle.mr_places.proofs.Common.{◌≡◌, ℕ, zero, suc, ◌+◌, ◌-◌, Bool, true, false, if◌then◌else◌, List, [], ◌∷◌, ◌++◌, length, take, slice_get, codes, Option, Some, None, refl, ap, sym, ◌∙◌, subst, arith, nat_le, append_assoc, Word, Mark, Cases, Either, EachSpelled, Scope, Writing, ◌◂◌, assign_form, stmt_behind, term_behind, stmt_form, term_form, Spelled, is_end}
use Rattle.std.specs.List.{sum_by}
use Rattle.std.proofs.lemmas.List.Sums.{sum_by-cons}
use Rattle.mr_grammar.proofs.BaseOptions.{some_is}
use Rattle.mr_ast.specs.declared.program.Stmt.{Stmt}
use Rattle.mr_ast.specs.declared.program.Term.{Term}
use Rattle.mr_ast.specs.Writing.{fine}
use Rattle.mr_ast.specs.ProgramGrammar.{judged_stmt, judged_term, is_stmt_word}
use Rattle.mr_places.proofs.FreeLaws.{IsFree, free_spelled}
use Rattle.mr_places.proofs.FreeForms.{forms_free, stmt_behind_free, assign_free, term_behind_free}
use Rattle.mr_places.proofs.EndLaws.{Closes, Passes, closes_none, closes_passes, closes_append, passes_append, passes_closes, free_passes, end_closes}

-- the same number of semicolons
pub closes_same : {n m : ℕ} {row : List Mark} → n ≡ m → Closes n row → Closes m row
closes_same {row = row} e c = subst (λ i. Closes i row) e c

pub passes_same : {n m : ℕ} {row : List Mark} → n ≡ m → Passes n row → Passes m row
passes_same {row = row} e c = subst (λ i. Passes i row) e c

-- ---- things in a row

-- One of them stands behind those in front of it.
pub record At {A : Type 0} (spelled : ℕ → A → List Mark → Type 0) (k : ℕ) (xs : List A) (marks : List Mark) (i : ℕ) (x : A) : Type 0 where
  pub front : List Mark
  pub own : List Mark
  pub back : List Mark
  pub whole : marks ≡ front ++ (own ++ back)
  pub before : EachSpelled spelled k (take i xs) front
  pub here : spelled (k + i) x own

pub each_at : {A : Type 0} (spelled : ℕ → A → List Mark → Type 0) (k : ℕ) (xs : List A) (marks : List Mark) → EachSpelled spelled k xs marks
    → (i : ℕ) (x : A) → slice_get xs i ≡ Some x → At spelled k xs marks i x
each_at spelled k [] marks e zero x at = absurd (cc)
each_at spelled k [] marks e (suc i) x at = absurd (cc)
each_at spelled k (y ∷ ys) marks (front, back, whole, first, others) zero x at =
    let same : y ≡ x = some_is at in
    let number : k ≡ k + 0 = omega arith in
    record { front = []; own = front; back = back; whole = whole; before = refl; here = subst (λ i. spelled i x front) number (subst (λ z. spelled k z front) same first) }
each_at spelled k (y ∷ ys) marks (front, back, whole, first, others) (suc i) x at =
    let rest = each_at spelled (suc k) ys back others i x at in
    let number : suc k + i ≡ k + suc i = omega arith in
    record {
      front = front ++ rest.front;
      own = rest.own;
      back = rest.back;
      whole = whole ∙ ap (λ r. front ++ r) rest.whole ∙ sym (append_assoc front rest.front (rest.own ++ rest.back));
      before = (front, rest.front, refl, first, rest.before);
      here = subst (λ j. spelled j x rest.own) number rest.here;
    }

pub each_shifted : {A : Type 0} (spelled : ℕ → A → List Mark → Type 0) (k : ℕ) (xs : List A) (marks : List Mark) → EachSpelled (λ i. spelled (suc i)) k xs marks → EachSpelled spelled (suc k) xs marks
each_shifted spelled k [] marks e = e
each_shifted spelled k (x ∷ xs) marks (front, back, whole, first, others) = (front, back, whole, first, each_shifted spelled (suc k) xs back others)

pub each_closes : {A : Type 0} (spelled : ℕ → A → List Mark → Type 0) (count : A → ℕ) → ((k : ℕ) (x : A) (marks : List Mark) → spelled k x marks → Closes (count x) marks)
    → (k : ℕ) (xs : List A) (marks : List Mark) → EachSpelled spelled k xs marks → Closes (sum_by count xs) marks
each_closes spelled count law k [] marks e = rw e closes_none
each_closes spelled count law k (x ∷ xs) marks (front, back, whole, first, others) = rw whole (closes_same (sym (sum_by-cons count x xs)) (closes_append (law k x front first) (each_closes spelled count law (suc k) xs back others)))

pub each_passes : {A : Type 0} (spelled : ℕ → A → List Mark → Type 0) (count : A → ℕ) → ((k : ℕ) (x : A) (marks : List Mark) → spelled k x marks → Passes (count x) marks)
    → (k : ℕ) (xs : List A) (marks : List Mark) → EachSpelled spelled k xs marks → Passes (sum_by count xs) marks
each_passes spelled count law k [] marks e = rw e (closes_passes closes_none)
each_passes spelled count law k (x ∷ xs) marks (front, back, whole, first, others) = rw whole (passes_same (sym (sum_by-cons count x xs)) (passes_append (law k x front first) (each_passes spelled count law (suc k) xs back others)))

-- things with one semicolon each
pub each_once : {A : Type 0} (spelled : ℕ → A → List Mark → Type 0) → ((k : ℕ) (x : A) (marks : List Mark) → spelled k x marks → Closes 1 marks)
    → (k : ℕ) (xs : List A) (marks : List Mark) → EachSpelled spelled k xs marks → Closes (length xs) marks
each_once spelled law k [] marks e = rw e closes_none
each_once spelled law k (x ∷ xs) marks (front, back, whole, first, others) =
    let number : 1 + length xs ≡ suc (length xs) = omega arith in
    rw whole (closes_same number (closes_append (law k x front first) (each_once spelled law (suc k) xs back others)))

-- ---- statements and terminators

-- the word that is a semicolon
is_semicolon : (w : Word) (i : Unit {0}) (flaw : Option ℕ) → fine (if is_end w.text then Some tt else None) ≡ Some (i, flaw) → is_end w.text ≡ true
is_semicolon w i flaw judged = go (is_end w.text) judged
  where
    go : (e : Bool) → fine (if e then Some (tt {0}) else None) ≡ Some (i, flaw) → e ≡ true
    go true at = refl
    go false at = absurd (cc)

-- something without semicolons, and one behind it
pub ended_closes : (height room : ℕ) (scope : Scope) {A : Type 0} (form : Writing A) → IsFree form → (x : A) (marks : List Mark)
    → Spelled height room scope (form ◂ codes ";") x marks → Closes 1 marks
ended_closes height room scope form free x marks (y, u, front, back, is_x, whole, one, (w, i, flaw, none, judged, is_back, (is_u, empty))) =
    let free_front = free_spelled forms_free height room scope form free y front one in
    let last : back ≡ record { word = w; flaw = flaw } ∷ [] = is_back ∙ ap (λ r. record { word = w; flaw = flaw } ∷ r) empty in
    let semicolon : Closes 1 back = subst (Closes 1) (sym last) (end_closes w flaw (is_semicolon w i flaw judged)) in
    let number : 0 + 1 ≡ 1 = omega arith in
    rw whole (closes_same number (passes_closes (free_passes front free_front) semicolon))

pub stmt_closes : (height room : ℕ) (scope : Scope) (k : ℕ) (s : Stmt) (marks : List Mark) → Spelled height room scope (stmt_form k) s marks → Closes 1 marks
unfolding stmt_form judged_stmt
stmt_closes height room scope k s marks h =
    let form : Writing Stmt = Either is_stmt_word (Cases (λ scope. judged_stmt (nat_le 4096 k)) stmt_behind) (assign_form (nat_le 4096 k)) in
    let free : IsFree form = (((λ scope n. refl), stmt_behind_free), assign_free (nat_le 4096 k)) in
    ended_closes height room scope form free s marks h

pub term_closes : (height room : ℕ) (scope : Scope) (t : Term) (marks : List Mark) → Spelled height room scope term_form t marks → Closes 1 marks
unfolding term_form judged_term
term_closes height room scope t marks h =
    let form : Writing Term = Cases (λ scope. judged_term) term_behind in
    let free : IsFree form = ((λ scope n. refl), term_behind_free) in
    ended_closes height room scope form free t marks h
