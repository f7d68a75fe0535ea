-- What threads would do next, one after the other.
use Rattle.mr_next.proofs.Common.{◌≡◌, ℕ, ◌+◌, refl, sym, ap, ◌∙◌, [], ◌∷◌, ◌++◌, length, map, Option, Some, None, range_with_len, map-append, State, Look, Own, prospect_in}
use Rattle.std.proofs.Common.{zero-add}
use Rattle.mr_step.proofs.ExchangeLists.{range_with_len-parts}
use Rattle.mr_next.specs.Prospects.{prospects_in}

-- one number more
pub range_more : (n : ℕ) → range_with_len 0 (n + 1) ≡ range_with_len 0 n ++ n ∷ []
range_more n = range_with_len-parts 0 n 1 ∙ ap (λ k. range_with_len 0 n ++ k ∷ []) (zero-add n)

-- one thread more
pub thread_more : {A : Type 0} (f : ℕ → A) (n : ℕ) → map f (range_with_len 0 n) ++ f n ∷ [] ≡ map f (range_with_len 0 (n + 1))
thread_more f n = sym (ap (map f) (range_more n) ∙ map-append f (range_with_len 0 n) (n ∷ []))

-- where threads are told there is a state
pub state_there : (o : Option (State Own)) (count : ℕ) → (o ≡ None → count ≡ 0) → (count ≡ 0 → ⊥) → (s : State Own) × (o ≡ Some s)
state_there None count gone some = absurd (some (gone refl))
state_there (Some s) count gone some = (s, refl)

-- where none are, none would do anything
pub none_there : (look : Look) (o : Option (State Own)) (count : ℕ) → ((s : State Own) → o ≡ Some s → count ≡ length s.shared.statuses) → count ≡ 0 → [] ≡ prospects_in look o
none_there look None count there none = refl
none_there look (Some s) count there none = ap (λ n. map (prospect_in look s) (range_with_len 0 n)) (sym none ∙ there s refl)

-- all of them
pub all_there : (look : Look) (o : Option (State Own)) (s : State Own) (count : ℕ) → o ≡ Some s → count ≡ length s.shared.statuses → map (prospect_in look s) (range_with_len 0 count) ≡ prospects_in look o
all_there look o s count here many = ap (λ n. map (prospect_in look s) (range_with_len 0 n)) many ∙ ap (prospects_in look) (sym here)
