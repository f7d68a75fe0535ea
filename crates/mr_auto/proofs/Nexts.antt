-- The next entry, from what the code finds.
use Rattle.mr_auto.proofs.Common.{◌≡◌, ℕ, refl, sym, ap, ◌∙◌, List, [], ◌∷◌, Bool, true, false, Option, Some, None, Result, Ok, Err, ◌==◌, length, if◌then◌else◌, behind_draw, Chooser, Ask, Fault, creation_fault, State, needs, Look, Own, thread_step, Config, is_running, candidate, enabled_in, entry_by, entry_from, entry_of, next_at, next_in, picked, within_limits}
use Rattle.std.specs.Prelude.{IfOk, is_some}
use Rattle.std.specs.Option.{option_map}
use Rattle.mr_sched.specs.Chooser.{drawn_from}

-- no code is told, so no limit is reached
pub no_limit : (o : Option Fault) (r : Option ℕ) → r ≡ option_map (λ (f : Fault). f.code) o → is_some r ≡ false → o ≡ None
no_limit None r e h = refl
no_limit (Some f) r e h = absurd (cc)

module _ (look : Look) (s : State Own) (c : Chooser) (t : ℕ) (asks : List Ask)
    (free : creation_fault s.shared (needs (thread_step look) s t).creates ≡ None) (are : asks ≡ (needs (thread_step look) s t).asks) where
  within : entry_from look s c t ≡ entry_of t (picked s.shared.statuses c asks)
  within =
      ap (λ o. within_limits o (entry_of t (picked s.shared.statuses c (needs (thread_step look) s t).asks))) free
      ∙ ap (λ l. entry_of t (picked s.shared.statuses c l)) (sym are)

  pub entry_found : (picks : List ℕ) (c' : Chooser) → picked s.shared.statuses c asks ≡ Some (record { picks = picks; chooser = c' })
      → entry_from look s c t ≡ Some (record { entry = record { thread = t; picks = picks }; chooser = c' })
  entry_found picks c' e = within ∙ ap (entry_of t) e

  pub entry_missing : picked s.shared.statuses c asks ≡ None → entry_from look s c t ≡ None
  entry_missing e = within ∙ ap (entry_of t) e

-- an answer that says more says less
pub weaker : {A E : Type 0} (r : Result A E) (P Q : A → Type 0) → ((a : A) → P a → Q a) → IfOk r P → IfOk r Q
weaker (Ok a) P Q f h = f a h
weaker (Err e) P Q f h = h

-- one of some candidates is drawn
pub drawn_is : (c : Chooser) (l : List ℕ) → (length l == 0) ≡ false → candidate c l ≡ Some (drawn_from c l)
drawn_is c [] h = absurd (cc)
drawn_is c (x ∷ xs) h = refl

-- the next entry of a machine that runs is that of the thread that is drawn
pub next_by : (look : Look) (c : Config Own) (chooser : Chooser) (s : State Own) (t : ℕ) → is_running c.verdict ≡ true → c.state ≡ Some s
    → candidate chooser (enabled_in s.shared.statuses) ≡ Some t → next_at look c chooser ≡ entry_from look s (behind_draw chooser) t
next_by look c chooser s t running there drawn =
    ap (λ (b : Bool). if b then next_in look chooser c.state else None) running
    ∙ ap (next_in look chooser) there
    ∙ ap (entry_by look s chooser) drawn
