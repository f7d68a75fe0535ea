-- Runs of bytes that pass a test.
use Rattle.mr_lex.proofs.Common.{◌≡◌, ℕ, ◌<◌, Bool, take, length-take, arith, List, [], ◌∷◌, ◌++◌, refl, sym, ap, ◌∙◌, subst, ⊎_elim, IsTrue, AllByRecursion, AllPass, take_while, cond-true, cond-false, cases_Bool, begins, IsRun}
use Rattle.std.proofs.Common.{get_or-take}
use Rattle.std.specs.Prelude.{IsFalse}
use Rattle.std.specs.List.{prefix_len}
use Rattle.std.proofs.lemmas.List.Sums.{take_while-cons, prefix_len_passes}

-- the bytes are the longest front of a text that passes the test
pub record IsFront (each : ℕ → Bool) (text bytes behind : List ℕ) : Type 0 where
  pub whole : text ≡ bytes ++ behind
  pub within : AllByRecursion (λ b. IsTrue (each b)) bytes
  pub longest : IsFalse (begins each behind)

module _ (each : ℕ → Bool) where
  -- there is only one such front
  pub take_while_run : (bytes behind : List ℕ) → AllByRecursion (λ b. IsTrue (each b)) bytes → IsFalse (begins each behind) → take_while each (bytes ++ behind) ≡ bytes
  take_while_run [] [] within longest = refl
  take_while_run [] (b ∷ behind) within longest = take_while-cons each b behind ∙ cond-false (each b) _ _ longest
  take_while_run (b ∷ bytes) behind within longest =
      take_while-cons each b (bytes ++ behind) ∙ cond-true (each b) _ _ within.0 ∙ ap (λ bs. b ∷ bs) (take_while_run bytes behind within.1 longest)

  -- each text has one
  pub take_while_front : (text : List ℕ) → (behind : List ℕ) × IsFront each text (take_while each text) behind
  take_while_front [] = ([], record { whole = refl; within = tt; longest = refl })
  take_while_front (b ∷ text) =
      ⊎_elim
      (λ yes.
      let more = take_while_front text in (
        more.0,
        subst (λ bytes. IsFront each (b ∷ text) bytes more.0) (sym (take_while-cons each b text ∙ cond-true (each b) _ _ yes)) (record {
          whole = ap (λ bs. b ∷ bs) more.1.whole;
          within = (yes, more.1.within);
          longest = more.1.longest;
        }),
      ))
      (λ none. (b ∷ text, subst (λ bytes. IsFront each (b ∷ text) bytes (b ∷ text)) (sym (take_while-cons each b text ∙ cond-false (each b) _ _ none)) (record { whole = refl; within = tt; longest = none })))
      (cases_Bool (each b))

  -- where the text begins with a byte of a kind that passes, the front is a run
  pub take_while_is_run : (first : ℕ → Bool) (text : List ℕ) → ((b : ℕ) → IsTrue (first b) → IsTrue (each b)) → IsTrue (begins first text) → (behind : List ℕ) × (text ≡ take_while each text ++ behind) × IsRun first each (take_while each text) behind
  take_while_is_run first [] passes begun = absurd (cc)
  take_while_is_run first (b ∷ text) passes begun =
      let front = take_while_front (b ∷ text) in (
        front.0,
        front.1.whole,
        record {
          begun = subst (λ bytes. IsTrue (begins first bytes)) (sym (take_while-cons each b text ∙ cond-true (each b) _ _ (passes b begun))) begun;
          within = front.1.within;
          longest = front.1.longest;
        },
      )

  -- each byte of the front passes
  pub take_while_passes : (text : List ℕ) → AllPass each (take (prefix_len each text) text)
  take_while_passes text k d within =
      let inside : k < prefix_len each text = omega (arith, length-take (prefix_len each text) text) in
      ap each (get_or-take (prefix_len each text) text k d inside) ∙ prefix_len_passes each text k d inside
