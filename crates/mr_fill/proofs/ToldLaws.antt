-- What a function answers of an order's text.
use Rattle.mr_fill.proofs.Common.{◌≡◌, ℕ, List, ap, sym, ◌∙◌, Result, Ok, Err, Program, Gives, filled, Turn}
use Rattle.mr_sched.specs.declared.fault.SchedFault.{SchedFault}
use Rattle.mr_sched.specs.declared.fault.SchedFault.TheVariants.{Bad, Memory}
use Rattle.mr_fill.specs.Orders.{order_of}
use Rattle.mr_fill.specs.Told.{text_by, texts_from, texts_of}
use Rattle.mr_fill.specs.declared.told.FilledText.{FilledText}

module _ (p : Program) (text : List ℕ) where
  -- the order is read
  pub text_told : (order : List Turn) (t : FilledText) → Gives {A = List Turn} (Ok order) (order_of text) → t ≡ text_by (filled p order) → Gives {A = FilledText} (Ok t) (texts_of p text)
  text_told order t read is = ap (texts_from p) read ∙ ap (λ x. Ok x) (sym is)

  -- or it has a fault
  pub fault_told : (f : SchedFault) → Gives {A = List Turn} (Err f) (order_of text) → Gives {A = FilledText} (Err f) (texts_of p text)
  fault_told Memory read = tt
  fault_told (Bad line code) read = ap (texts_from p) read
