-- The postfixes of a place, one in each turn of a loop.
use Rattle.mr_parse.proofs.Common.{◌≡◌, ℕ, zero, suc, ◌+◌, ◌-◌, ◌<◌, ◌≤◌, Bool, true, false, List, [], ◌∷◌, Result, Ok, Err, refl, sym, ap, ◌∙◌, arith, Word, Stop, Fails, with_all, ◌>>=◌, Reads, is_next, many_at}
use Rattle.mr_ast.specs.declared.expr.Place.{Place}
use Rattle.mr_ast.specs.ValueGrammar.{Postfix, with_postfix}
use Rattle.mr_words.specs.declared.fault.ReadFault.{ReadFault}
use Rattle.mr_words.specs.declared.fault.ReadFault.TheVariants.{At, Memory}

with_all-push : (p : Place) (x : Postfix) (read : Result (List Postfix × List Word) Stop) → with_all p (read >>= λ xs. Ok (x ∷ xs.0, xs.1)) ≡ with_all (with_postfix p x) read
with_all-push p x (Err s) = refl
with_all-push p x (Ok more) = refl

module _ (read : ℕ → Reads Postfix) (test : List ℕ → Bool) (p : Place) (n k : ℕ) (ws : List Word) (total : Result (Place × List Word) Stop) (so_far : with_all p (many_at read test (n - k) k ws) ≡ total) where
  -- one more is read
  pub postfix_goes_on : (x : Postfix) (rest : List Word) → k < n → is_next test ws ≡ true → read k ws ≡ Ok (x, rest) → with_all (with_postfix p x) (many_at read test (n - (k + 1)) (k + 1) rest) ≡ total
  unfolding many_at
  postfix_goes_on x rest lt is e =
      let turn : n - k ≡ suc (n - (k + 1)) = omega arith in
      let one : k + 1 ≡ suc k = omega arith in
      let now : many_at read test (n - k) k ws ≡ (many_at read test (n - (k + 1)) (k + 1) rest >>= λ xs. Ok (x ∷ xs.0, xs.1)) = rw (turn, is, e, one) refl in
      sym (with_all-push p x (many_at read test (n - (k + 1)) (k + 1) rest)) ∙ ap (with_all p) (sym now) ∙ so_far

  -- no more stands there
  pub postfix_is_done : is_next test ws ≡ false → total ≡ Ok (p, ws)
  unfolding many_at
  postfix_is_done is = sym so_far ∙ ap (with_all p) (at (n - k))
    where
      at : (m : ℕ) → many_at read test m k ws ≡ Ok ([], ws)
      at zero = refl
      at (suc m) = rw is refl

  -- the turns are used up
  pub postfix_is_past : n ≤ k → total ≡ Ok (p, ws)
  unfolding many_at
  postfix_is_past le =
      let none : n - k ≡ 0 = omega arith in
      let now : many_at read test (n - k) k ws ≡ Ok ([], ws) = rw none refl in
      sym so_far ∙ ap (with_all p) now

  -- one more can't be read
  pub postfix_stops : (fault : ReadFault) → k < n → is_next test ws ≡ true → Fails fault (read k ws) → Fails fault total
  unfolding many_at
  postfix_stops Memory lt is e = tt
  postfix_stops (At s) lt is e =
      let turn : n - k ≡ suc (n - (k + 1)) = omega arith in
      let now : many_at read test (n - k) k ws ≡ Err s = rw (turn, is, e) refl in
      sym so_far ∙ ap (with_all p) now
