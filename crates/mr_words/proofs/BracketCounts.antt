-- Brackets that are counted from the front on.
use Rattle.mr_words.proofs.Common.{◌≡◌, ℕ, zero, suc, ◌+◌, ◌-◌, ◌==◌, ◌<◌, ◌≤◌, Bool, true, false, ◌&&◌, nat_le, if◌then◌else◌, List, [], ◌∷◌, length, get_or, take, drop, refl, sym, ap, ◌∙◌, arith, count_by, Word, text_at, closes, opens}
use Rattle.std.proofs.lemmas.List.Sums.{count_by_more_no, count_by_more_yes}
use Rattle.mr_words.specs.declared.fault.Stop.{Stop}
use Rattle.mr_words.specs.Brackets.{is_bracket_too_many, told}

abbrev only_text : List ℕ → Word
only_text text = record { text = text; place = 0 }

text_here : (ws : List Word) (i : ℕ) (d : Word) → i < length ws → (get_or ws i d).text ≡ text_at ws i
text_here [] i d lt = absurd (omega arith)
text_here (w ∷ ws) zero d lt = refl
text_here (w ∷ ws) (suc i) d lt = text_here ws i d (omega arith)

-- one word more is counted where it passes the test, which looks at its text
pub count_more : (test : Word → Bool) → ((w : Word) → test w ≡ test (record { text = w.text; place = 0 })) → (ws : List Word) (i : ℕ) → i < length ws
    → (if test (record { text = text_at ws i; place = 0 }) then count_by test (take i ws) + 1 else count_by test (take i ws)) ≡ count_by test (take (i + 1) ws)
count_more test by_text ws i lt = go (test (only_text (text_at ws i))) refl
  where
    none : Word
    none = only_text []

    here : test (get_or ws i none) ≡ test (only_text (text_at ws i))
    here = by_text (get_or ws i none) ∙ ap (λ t. test (only_text t)) (text_here ws i none lt)

    go : (b : Bool) → test (only_text (text_at ws i)) ≡ b → (if b then count_by test (take i ws) + 1 else count_by test (take i ws)) ≡ count_by test (take (i + 1) ws)
    go true e = sym (count_by_more_yes test ws i none lt (here ∙ e))
    go false e = sym (count_by_more_no test ws i none lt (here ∙ e))

-- the same of a loop, where the count so far is known
pub counted : (test : Word → Bool) → ((w : Word) → test w ≡ test (record { text = w.text; place = 0 })) → (ws : List Word) (i count next : ℕ) (text : List ℕ) (is_one : Bool)
    → i < length ws → count ≡ count_by test (take i ws) → text ≡ text_at ws i → is_one ≡ test (record { text = text; place = 0 }) → next ≡ (if is_one then count + 1 else count)
    → next ≡ count_by test (take (i + 1) ws)
counted test by_text ws i count next text is_one lt so_far is_text is next_is =
    next_is ∙ ap (λ b. if b then count + 1 else count) (is ∙ ap (λ t. test (only_text t)) is_text)
    ∙ ap (λ n. if test (only_text (text_at ws i)) then n + 1 else n) so_far ∙ count_more test by_text ws i lt

pub at_most_one_more : (is_one : Bool) (n next : ℕ) → next ≡ (if is_one then n + 1 else n) → next ≤ n + 1
at_most_one_more true n next e = omega arith
at_most_one_more false n next e = omega arith

-- a bracket too many is an opening one behind too many
pub too_many_at : (front ws : List Word) (n : ℕ)
    → is_bracket_too_many front (drop n ws) ≡ (opens (record { text = text_at ws n; place = 0 }) && nat_le (count_by closes front + 32) (count_by opens front))
too_many_at front [] n = go n
  where
    go : (n : ℕ) → is_bracket_too_many front (drop n []) ≡ false
    go zero = refl
    go (suc n) = refl
too_many_at front (w ∷ ws) zero = refl
too_many_at front (w ∷ ws) (suc n) = too_many_at front ws n

-- ---- the fault that is told

module _ (ws : List Word) (s : Stop) (at : ℕ) (is_at : at ≡ length ws - s.left) where
  told_by : (is_too_many : Bool) → is_too_many ≡ is_bracket_too_many (take at ws) (drop at ws) → (if (s.code == 4) && is_too_many then record { code = 7; left = s.left } else s) ≡ told ws s
  told_by is_too_many e = ap (λ b. if (s.code == 4) && b then record { code = 7; left = s.left } else s) (e ∙ ap (λ n. is_bracket_too_many (take n ws) (drop n ws)) is_at)

  pub told_deep : (is_too_many : Bool) → is_too_many ≡ true → is_too_many ≡ is_bracket_too_many (take at ws) (drop at ws) → (s.code == 4) ≡ true
      → ◌≡◌ {A = Stop} (record { code = 7; left = s.left }) (told ws s)
  told_deep true is e unexpected = ap (λ b. if b && true then record { code = 7; left = s.left } else s) (sym unexpected) ∙ told_by true e
  told_deep false is e unexpected = absurd (cc)

  pub told_kept : (is_too_many : Bool) → is_too_many ≡ false → is_too_many ≡ is_bracket_too_many (take at ws) (drop at ws) → (s.code == 4) ≡ true → s ≡ told ws s
  told_kept false is e unexpected = ap (λ b. if b && false then record { code = 7; left = s.left } else s) (sym unexpected) ∙ told_by false e
  told_kept true is e unexpected = absurd (cc)
