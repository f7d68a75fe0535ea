-- What reference checks in a row come to.
use Rattle.mr_eval.proofs.Common.{◌≡◌, ℕ, ◌+◌, ◌<◌, ◌≤◌, [], ◌∷◌, Option, Err, length, drop, get_or, refl, ap, ◌∙◌, drop_all, drop_more, Pointer, Reached, Memory, Outcome, Went, on, Halt, Gives, same, Refer, Seen, reading, Targets, referred_to}
use Rattle.mr_eval.proofs.GivesLaws.{gives_stop}

referred_none : (m : Memory) (seen : Seen) → referred_to m [] seen ≡ Went tt seen
unfolding referred_to
referred_none m seen = refl

referred_more : (m : Memory) (t : Pointer × ℕ) (targets : Targets) (seen : Seen)
    → referred_to m (t ∷ targets) seen ≡ on (reading m (Refer t.0 t.1) seen) (λ u s. referred_to m targets s)
unfolding referred_to
referred_more m t targets seen = refl

-- the checks from a position on, which are what is left of all
module _ (m : Memory) (targets : Targets) (i : ℕ) (old last : Seen) (so_far : referred_to m targets old ≡ referred_to m (drop i targets) last) where
  -- none is left
  pub referred_end : length targets ≤ i → referred_to m targets old ≡ Went tt last
  referred_end le = so_far ∙ ap (λ (left : Targets). referred_to m left last) (drop_all i targets le) ∙ referred_none m last

  next_is : (d : Pointer × ℕ) → i < length targets
      → referred_to m targets old ≡ on (reading m (Refer (get_or targets i d).0 (get_or targets i d).1) last) (λ u s. referred_to m (drop (i + 1) targets) s)
  next_is d lt =
      so_far
      ∙ ap (λ (left : Targets). referred_to m left last) (drop_more targets i d lt)
      ∙ referred_more m (get_or targets i d) (drop (i + 1) targets) last

  -- one passes
  pub referred_next : (d : Pointer × ℕ) (next : Seen) → i < length targets → reading m (Refer (get_or targets i d).0 (get_or targets i d).1) last ≡ Went tt next
      → referred_to m targets old ≡ referred_to m (drop (i + 1) targets) next
  referred_next d next lt went =
      next_is d lt ∙ ap (λ (o : Outcome (Unit {0}) Seen). on o (λ w s. referred_to m (drop (i + 1) targets) s)) went

  -- one stops them all
  pub referred_stop : (d : Pointer × ℕ) (e : Halt) (s : Seen) (refused : Option Reached) → i < length targets
      → Gives (same {X = Unit {0}}) (Err e) (reading m (Refer (get_or targets i d).0 (get_or targets i d).1) last) s refused → Gives (same {X = Unit {0}}) (Err e) (referred_to m targets old) s refused
  referred_stop d e s refused lt stops =
      gives_stop same same e (reading m (Refer (get_or targets i d).0 (get_or targets i d).1) last) (referred_to m targets old) _ s s refused (next_is d lt) stops
