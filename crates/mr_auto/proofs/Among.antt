-- The candidates among one thread more.
use Rattle.mr_auto.proofs.Common.{◌≡◌, ℕ, ◌+◌, sym, ap, ◌∙◌, append-nil, List, [], ◌∷◌, ◌++◌, Bool, true, false, filter, range_with_len}
use Rattle.std.proofs.Common.{zero-add}
use Rattle.std.proofs.lemmas.List.Elements.{filter-append}
use Rattle.mr_run.proofs.ExchangeLists.{range_with_len-parts}

one_more : (n : ℕ) → range_with_len 0 (n + 1) ≡ range_with_len 0 n ++ n ∷ []
one_more n = range_with_len-parts 0 n 1 ∙ ap (λ k. range_with_len 0 n ++ k ∷ []) (zero-add n)

last_kept : (test : ℕ → Bool) (n : ℕ) → test n ≡ true → filter test (n ∷ []) ≡ n ∷ []
last_kept test n e = rw e

last_left : (test : ℕ → Bool) (n : ℕ) → test n ≡ false → filter test (n ∷ []) ≡ []
last_left test n e = rw e

pub thread_joins : (test : ℕ → Bool) (n : ℕ) (xs : List ℕ) → xs ≡ filter test (range_with_len 0 n) → test n ≡ true → xs ++ n ∷ [] ≡ filter test (range_with_len 0 (n + 1))
thread_joins test n xs is e =
    ap (λ l. l ++ n ∷ []) is
    ∙ ap (λ l. filter test (range_with_len 0 n) ++ l) (sym (last_kept test n e))
    ∙ sym (filter-append test (range_with_len 0 n) (n ∷ []))
    ∙ ap (filter test) (sym (one_more n))

pub thread_stays_out : (test : ℕ → Bool) (n : ℕ) (xs : List ℕ) → xs ≡ filter test (range_with_len 0 n) → test n ≡ false → xs ≡ filter test (range_with_len 0 (n + 1))
thread_stays_out test n xs is e =
    is
    ∙ sym (append-nil (filter test (range_with_len 0 n)))
    ∙ ap (λ l. filter test (range_with_len 0 n) ++ l) (sym (last_left test n e))
    ∙ sym (filter-append test (range_with_len 0 n) (n ∷ []))
    ∙ ap (filter test) (sym (one_more n))
