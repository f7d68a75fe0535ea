-- The evaluation of values in a row, one after the other.
use Rattle.mr_eval.proofs.Common.{◌≡◌, ℕ, ◌+◌, ◌<◌, ◌≤◌, List, [], ◌∷◌, ◌++◌, Option, Err, length, drop, get_or, refl, sym, ap, ◌∙◌, append-nil, append_assoc, drop_all, Value, Reached, Memory, Broken, Outcome, Refused, Went, on, Val, Halt, Gives, same, value_in, each_valued, valued, Surround, Seen}
use Rattle.mr_eval.proofs.EvalRuns.{each_at, each_none}
use Rattle.mr_eval.proofs.GivesLaws.{gives_stop}

-- values that came before those of an outcome
abbrev pub behind_row : List Val → Outcome (List Val) Seen → Outcome (List Val) Seen
behind_row row o = on o (λ xs last. Went (row ++ xs) last)

one_more : (row : List Val) (x : Val) (o : Outcome (List Val) Seen) → behind_row row (on o (λ xs last. Went (x ∷ xs) last)) ≡ behind_row (row ++ x ∷ []) o
one_more row x (Went xs s) = ap (λ (all : List Val). Went all s) (sym (append_assoc row (x ∷ []) xs))
one_more row x (Refused r) = refl
one_more row x Broken = refl

module _ (m : Memory) (s : Surround) (vs : List Value) (i : ℕ) (row : List Val) (old last : Seen) (so_far : each_valued m s vs old ≡ behind_row row (each_valued m s (drop i vs) last)) where
  -- all are there
  pub row_end : length vs ≤ i → each_valued m s vs old ≡ Went row last
  row_end le =
      so_far
      ∙ ap (λ (left : List Value). behind_row row (each_valued m s left last)) (drop_all i vs le)
      ∙ ap (behind_row row) (each_none m s last)
      ∙ ap (λ (all : List Val). Went all last) (append-nil row)

  next_is : (item : Value) → i < length vs → item ≡ get_or vs i item
      → each_valued m s (drop i vs) last ≡ on (valued m s item last) (λ x seen. on (each_valued m s (drop (i + 1) vs) seen) (λ xs t. Went (x ∷ xs) t))
  next_is item lt is =
      each_at m s last vs i item lt
      ∙ ap (λ (v : Value). on (valued m s v last) (λ x seen. on (each_valued m s (drop (i + 1) vs) seen) (λ xs t. Went (x ∷ xs) t))) (sym is)

  -- one more is there
  pub row_next : (item : Value) (x : Val) (next : Seen) → i < length vs → item ≡ get_or vs i item → valued m s item last ≡ Went x next
      → each_valued m s vs old ≡ behind_row (row ++ x ∷ []) (each_valued m s (drop (i + 1) vs) next)
  row_next item x next lt is went =
      so_far
      ∙ ap (behind_row row) (next_is item lt is ∙ ap (λ (o : Outcome Val Seen). on o (λ y seen. on (each_valued m s (drop (i + 1) vs) seen) (λ xs t. Went (y ∷ xs) t))) went)
      ∙ one_more row x (each_valued m s (drop (i + 1) vs) next)

  -- one stops them all
  pub row_stop : (item : Value) (e : Halt) (t : Seen) (refused : Option Reached) → i < length vs → item ≡ get_or vs i item → Gives value_in (Err e) (valued m s item last) t refused
      → Gives (same {X = List Val}) (Err e) (each_valued m s vs old) t refused
  row_stop item e t refused lt is stops =
      gives_stop same same e (each_valued m s (drop i vs) last) (each_valued m s vs old) (λ xs u. Went (row ++ xs) u) t t refused so_far
      (gives_stop value_in same e (valued m s item last) (each_valued m s (drop i vs) last) _ t t refused (next_is item lt is) stops)
