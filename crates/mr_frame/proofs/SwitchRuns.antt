-- Where a switch goes on, by what its value is.
use Rattle.mr_frame.proofs.Common.{◌≡◌, ℕ, refl, ◌∙◌, Option, None, Some, List, Value, BlockName, Num, Memory, Val, Broken, Done, Outcome, Refused, Went, ◌>>=◌, on, run, run_bind, type_of_value, valued, Surround, value_script, or_ill_formed, Seen, reading, chosen, first_case, number_as}

module _ (m : Memory) (s : Surround) (value : Value) (cases : List (Num × BlockName)) (other : BlockName) (seen : Seen) where
  -- the block for a number, where there is one
  abbrev pub at_number : Option Num → Seen → Outcome ℕ Seen
  at_number None last = Broken
  at_number (Some n) last = Went (first_case n cases other) last

  number_run : (o : Option Num) (last : Seen) → on (run (reading m) (or_ill_formed o) last) (λ n v. Went (first_case n cases other) v) ≡ at_number o last
  number_run None last = refl
  number_run (Some n) last = refl

  each_number : (o : Outcome Val Seen) → on o (λ x last. run (reading m) (or_ill_formed (number_as (type_of_value s.locals value) x) >>= λ n. Done (first_case n cases other)) last)
      ≡ on o (λ x last. at_number (number_as (type_of_value s.locals value) x) last)
  each_number (Went x last) = run_bind (reading m) (or_ill_formed (number_as (type_of_value s.locals value) x)) _ last ∙ number_run (number_as (type_of_value s.locals value) x) last
  each_number (Refused r) = refl
  each_number Broken = refl

  pub chosen_is : chosen m s value cases other seen ≡ on (valued m s value seen) (λ x last. at_number (number_as (type_of_value s.locals value) x) last)
  unfolding chosen valued
  chosen_is = run_bind (reading m) (value_script s value) _ seen ∙ each_number (run (reading m) (value_script s value) seen)

pub ruleset switch_laws = (chosen_is)
