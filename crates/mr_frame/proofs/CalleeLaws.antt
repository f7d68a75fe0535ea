-- The function for which a pointer stands, pointer by pointer.
use Rattle.mr_frame.proofs.Common.{◌≡◌, ℕ, suc, ◌+◌, ◌<◌, true, false, refl, sym, ap, ◌∙◌, List, length, drop, get_or, Some, add-one, if◌then◌else◌, drop-cons, Pointer, callee_of, position_from, same_pointer}

pub callee_is : (fs : List Pointer) (p : Pointer) → callee_of fs p ≡ position_from 0 fs p
unfolding callee_of
callee_is fs p = refl

module _ (fs : List Pointer) (p : Pointer) (i : ℕ) (d : Pointer) (lt : i < length fs) where
  cut : position_from i (drop i fs) p ≡ (if same_pointer (get_or fs i d) p then Some i else position_from (suc i) (drop (suc i) fs) p)
  cut = ap (λ qs. position_from i qs p) (drop-cons fs i d lt)

  pub here_found : same_pointer (get_or fs i d) p ≡ true → position_from i (drop i fs) p ≡ Some i
  here_found e = cut ∙ ap (λ b. if b then Some i else position_from (suc i) (drop (suc i) fs) p) e

  pub not_here : same_pointer (get_or fs i d) p ≡ false → position_from i (drop i fs) p ≡ position_from (i + 1) (drop (i + 1) fs) p
  not_here e =
      cut
      ∙ ap (λ b. if b then Some i else position_from (suc i) (drop (suc i) fs) p) e
      ∙ ap (λ n. position_from n (drop n fs) p) (sym (add-one i))
