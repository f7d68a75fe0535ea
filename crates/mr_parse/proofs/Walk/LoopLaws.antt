-- A row of things that is read from the front on, one in each turn of a loop.
use Rattle.mr_parse.proofs.Common.{◌≡◌, ℕ, zero, suc, ◌+◌, ◌-◌, ◌<◌, ◌≤◌, Bool, true, false, List, [], ◌∷◌, codes, Result, Ok, Err, refl, sym, ap, subst, ◌∙◌, arith, Word, Scope, ◌▸◌, is_word, Stop, Fails, Gives, ◌>>=◌, Reads, expected, is_next, many_at, read}
use Rattle.std.proofs.Common.{◌++◌, bytes_eq, if◌then◌else◌, append_assoc}
use Rattle.std.proofs.lemmas.List.{append-nil}
use Rattle.mr_ast.specs.Writing.{Writing}
use Rattle.mr_words.specs.declared.fault.ReadFault.{ReadFault}
use Rattle.mr_words.specs.declared.fault.ReadFault.TheVariants.{At, Memory}
use Rattle.mr_parse.specs.ReaderViews.{Pushes}
use Rattle.mr_grammar.specs.Reading.{stop}

-- what is read, behind what was read before
abbrev pub with_front : {A : Type 0} → List A → Result (List A × List Word) Stop → Result (List A × List Word) Stop
with_front front read = read >>= λ xs. Ok (front ++ xs.0, xs.1)

-- one more item at the end of the front
with_front-push : {A : Type 0} (front : List A) (x : A) (read : Result (List A × List Word) Stop) → with_front front (read >>= λ xs. Ok (x ∷ xs.0, xs.1)) ≡ with_front (front ++ x ∷ []) read
with_front-push front x (Err s) = refl
with_front-push front x (Ok more) = ap (λ xs. Ok (xs, more.1)) (sym (append_assoc front (x ∷ []) more.0))

module _ {A : Type 0} (read : ℕ → Reads A) (test : List ℕ → Bool) (front : List A) (n k : ℕ) (ws : List Word) (total : Result (List A × List Word) Stop) (so_far : with_front front (many_at read test (n - k) k ws) ≡ total) where
  -- one more is read
  pub goes_on : (x : A) (rest : List Word) → k < n → is_next test ws ≡ true → read k ws ≡ Ok (x, rest) → with_front (front ++ x ∷ []) (many_at read test (n - (k + 1)) (k + 1) rest) ≡ total
  unfolding many_at
  goes_on x rest lt is e =
      let turn : n - k ≡ suc (n - (k + 1)) = omega arith in
      let one : k + 1 ≡ suc k = omega arith in
      let now : many_at read test (n - k) k ws ≡ (many_at read test (n - (k + 1)) (k + 1) rest >>= λ xs. Ok (x ∷ xs.0, xs.1)) = rw (turn, is, e, one) refl in
      sym (with_front-push front x (many_at read test (n - (k + 1)) (k + 1) rest)) ∙ ap (with_front front) (sym now) ∙ so_far

  -- no more stands there
  pub is_done : is_next test ws ≡ false → total ≡ Ok (front, ws)
  unfolding many_at
  is_done is = sym so_far ∙ ap (with_front front) (at (n - k)) ∙ ap (λ xs. Ok (xs, ws)) (append-nil front)
    where
      at : (m : ℕ) → many_at read test m k ws ≡ Ok ([], ws)
      at zero = refl
      at (suc m) = rw is refl

  -- the turns are used up
  pub is_past : n ≤ k → total ≡ Ok (front, ws)
  unfolding many_at
  is_past le =
      let none : n - k ≡ 0 = omega arith in
      let now : many_at read test (n - k) k ws ≡ Ok ([], ws) = rw none refl in
      sym so_far ∙ ap (with_front front) now ∙ ap (λ xs. Ok (xs, ws)) (append-nil front)

  -- one more can't be read
  pub stops : (fault : ReadFault) → k < n → is_next test ws ≡ true → Fails fault (read k ws) → Fails fault total
  unfolding many_at
  stops Memory lt is e = tt
  stops (At s) lt is e =
      let turn : n - k ≡ suc (n - (k + 1)) = omega arith in
      let now : many_at read test (n - k) k ws ≡ Err s = rw (turn, is, e) refl in
      sym so_far ∙ ap (with_front front) now

  -- one more that was read is put at the end
  pub pushed_goes_on : (answer : Result A ReadFault) (rest : List Word) (all : List A) → k < n → is_next test ws ≡ true → Gives (λ x. (x, rest)) answer (read k ws) → Pushes front answer (Ok all)
      → with_front all (many_at read test (n - (k + 1)) (k + 1) rest) ≡ total
  pushed_goes_on (Ok x) rest all lt is gives put = rw put (goes_on x rest lt is gives)
  pushed_goes_on (Err f) rest all lt is gives put = absurd (cc)

  -- one more can't be read, or memory runs out
  pub pushed_stops : (answer : Result A ReadFault) (rest : List Word) (fault : ReadFault) → k < n → is_next test ws ≡ true → Gives (λ x. (x, rest)) answer (read k ws) → Pushes front answer (Err fault)
      → Fails fault total
  pushed_stops (Ok x) rest fault lt is gives put = rw put tt
  pushed_stops (Err f) rest fault lt is gives put = let same : fault ≡ f = cc in rw same (stops f lt is gives)

-- what is read and given again
unit_law : {A : Type 0} (m : Result (A × List Word) Stop) → (m >>= λ x. Ok (x.0, x.1)) ≡ m
unit_law (Ok x) = refl
unit_law (Err s) = refl

-- something behind a word is read behind it
pub behind_word : {A : Type 0} (room : ℕ) (scope : Scope) (text : List ℕ) (a : Writing A) (ws rest : List Word) → expected text ws ≡ Ok rest → read room scope (text ▸ a) ws ≡ read room scope a rest
behind_word room scope text a [] rest e = absurd cc
behind_word {A} room scope text a (w ∷ ws) rest e = at (bytes_eq w.text text) refl
  where
    at : (b : Bool) → bytes_eq w.text text ≡ b → read room scope (text ▸ a) (w ∷ ws) ≡ read room scope a rest
    at true matches =
        let same : ws ≡ rest = taken matches in
        rw (matches, ← same) (unit_law (read room scope a ws))
      where
        taken : bytes_eq w.text text ≡ true → ws ≡ rest
        taken is = let got : Ok ws ≡ Ok rest = subst (λ b. (if b then Ok ws else stop 4 (w ∷ ws)) ≡ Ok rest) is e in cc
    at false differs = absurd (none differs)
      where
        none : bytes_eq w.text text ≡ false → ⊥
        none is = let got : stop {A = List Word} 4 (w ∷ ws) ≡ Ok rest = subst (λ b. (if b then Ok ws else stop 4 (w ∷ ws)) ≡ Ok rest) is e in cc

module _ {A : Type 0} (room : ℕ) (scope : Scope) (a : ℕ → Writing A) (front : List A) (n k : ℕ) (ws : List Word) (total : Result (List A × List Word) Stop)
    (so_far : with_front front (many_at (λ k. read room scope (codes "," ▸ a k)) (is_word (codes ",")) (n - k) k ws) ≡ total) where
  -- one more is read, behind a comma
  pub comma_goes_on : (x : A) (here rest : List Word) → k < n → is_next (is_word (codes ",")) ws ≡ true → expected (codes ",") ws ≡ Ok here → read room scope (a k) here ≡ Ok (x, rest)
      → with_front (front ++ x ∷ []) (many_at (λ k. read room scope (codes "," ▸ a k)) (is_word (codes ",")) (n - (k + 1)) (k + 1) rest) ≡ total
  comma_goes_on x here rest lt is comma e =
      goes_on (λ k. read room scope (codes "," ▸ a k)) (is_word (codes ",")) front n k ws total so_far x rest lt is (behind_word room scope (codes ",") (a k) ws here comma ∙ e)

  -- one more can't be read behind a comma
  pub comma_stops : (fault : ReadFault) (here : List Word) → k < n → is_next (is_word (codes ",")) ws ≡ true → expected (codes ",") ws ≡ Ok here → Fails fault (read room scope (a k) here) → Fails fault total
  comma_stops fault here lt is comma e =
      stops (λ k. read room scope (codes "," ▸ a k)) (is_word (codes ",")) front n k ws total so_far fault lt is
      (subst (Fails fault) (sym (behind_word room scope (codes ",") (a k) ws here comma)) e)

  -- one more that was read behind a comma is put at the end
  pub comma_pushed_goes_on : (answer : Result A ReadFault) (here rest : List Word) (all : List A) → k < n → is_next (is_word (codes ",")) ws ≡ true → expected (codes ",") ws ≡ Ok here
      → Gives (λ x. (x, rest)) answer (read room scope (a k) here) → Pushes front answer (Ok all)
      → with_front all (many_at (λ k. read room scope (codes "," ▸ a k)) (is_word (codes ",")) (n - (k + 1)) (k + 1) rest) ≡ total
  comma_pushed_goes_on (Ok x) here rest all lt is comma gives put = rw put (comma_goes_on x here rest lt is comma gives)
  comma_pushed_goes_on (Err f) here rest all lt is comma gives put = absurd (cc)

  -- one more can't be read behind a comma, or memory runs out
  pub comma_pushed_stops : (answer : Result A ReadFault) (here rest : List Word) (fault : ReadFault) → k < n → is_next (is_word (codes ",")) ws ≡ true → expected (codes ",") ws ≡ Ok here
      → Gives (λ x. (x, rest)) answer (read room scope (a k) here) → Pushes front answer (Err fault) → Fails fault total
  comma_pushed_stops (Ok x) here rest fault lt is comma gives put = rw put tt
  comma_pushed_stops (Err f) here rest fault lt is comma gives put = let same : fault ≡ f = cc in rw same (comma_stops f here lt is comma gives)

  -- no comma stands there
  pub comma_is_done : is_next (is_word (codes ",")) ws ≡ false → total ≡ Ok (front, ws)
  comma_is_done is = is_done (λ k. read room scope (codes "," ▸ a k)) (is_word (codes ",")) front n k ws total so_far is

  -- the turns are used up
  pub comma_is_past : n ≤ k → total ≡ Ok (front, ws)
  comma_is_past le = is_past (λ k. read room scope (codes "," ▸ a k)) (is_word (codes ",")) front n k ws total so_far le
