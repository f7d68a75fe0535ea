-- What an order becomes, as it is answered.
use Rattle.mr_show.proofs.Common.{◌≡◌, ℕ, ◌<◌, ◌^◌, ◌∙◌, ap, length, List, refl, subst, sym, Err, None, Ok, Option, Result, Some, Program, Refusal, Written, Tells, refused, told, less, longer, filled_answer, order_answer, order_in, unless_bad}
use Rattle.mr_sched.specs.Reading.{Fault, Gives}
use Rattle.mr_sched.specs.declared.fault.SchedFault.TheVariants.{Bad}
use Rattle.mr_fill.specs.Orders.{order_of}
use Rattle.mr_fill.specs.Told.{texts_from, texts_of}
use Rattle.mr_fill.specs.declared.order.Turn.{Turn}
use Rattle.mr_fill.specs.declared.told.FilledText.{FilledText}
use Rattle.mr_show.specs.declared.form.Filling.{Filling}
use Rattle.mr_input.specs.declared.refusal.Refusal.TheVariants as refusal

module _ (filling : Filling) (p : Program) where
  -- the texts that it becomes are told
  pub filled_told : (text : List ℕ) (t : FilledText) (result : Result Written Refusal)
      → Gives {A = FilledText} (Ok t) (texts_of p text) → Tells (filled_answer filling t) result
      → Tells (order_answer filling p text) result
  filled_told text t result gives tells =
      subst (λ (r : Result FilledText Fault). Tells (told (filled_answer filling) (unless_bad r)) result) (sym gives)
      tells

  -- and so is the first fault of its text
  pub bad_told : (text : List ℕ) (line code : ℕ) → Gives {A = FilledText} (Err (Bad line code)) (texts_of p text)
      → Tells (order_answer filling p text) (Err (refusal.Schedule line code None))
  bad_told text line code gives =
      ap (λ (r : Result FilledText Fault). told (filled_answer filling) (unless_bad r)) gives

  -- a text that is too long
  too_long : (text : List ℕ) → 2 ^ 26 < length text → order_of text ≡ Err (record { line = 1; code = 52 })
  unfolding order_of
  too_long text h = rw (less (2 ^ 26) (length text) h) refl

  pub long_told : (file : Option (List ℕ)) (text : List ℕ) → file ≡ Some text → 2 ^ 26 < length text
      → told (order_answer filling p) (order_in file) ≡ refused (refusal.Schedule 1 52 None)
  long_told file text is long =
      ap (λ (f : Option (List ℕ)). told (order_answer filling p) (order_in f)) is
      ∙ ap (λ (r : Result (List Turn) Fault). told (filled_answer filling) (unless_bad (texts_from p r)))
      (too_long text long)

-- there is one
pub some_long_order : (text : List ℕ) × (2 ^ 26 < length text)
some_long_order = longer (2 ^ 26)
