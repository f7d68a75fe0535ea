-- What a reader answers, against what the words write.
use Rattle.std.specs.Prelude.{◌≡◌, Result, Ok, Err}
use Rattle.mr_words.specs.declared.fault.Stop.{Stop}
use Rattle.mr_words.specs.declared.fault.ReadFault.{ReadFault}
use Rattle.mr_words.specs.declared.fault.ReadFault.TheVariants.{At, Memory}

-- reading stops there, unless memory ran out
abbrev pub Fails : {Y : Type 0} → ReadFault → Result Y Stop → Type 0
Fails (At s) read = read ≡ Err s
Fails Memory read = Unit {0}

-- An answer, seen by view, is what reading gives, unless memory ran out.
abbrev pub Gives : {X Y : Type 0} → (X → Y) → Result X ReadFault → Result Y Stop → Type 0
Gives view (Ok x) read = read ≡ Ok (view x)
Gives view (Err fault) read = Fails fault read
