use Rattle.mr_words.proofs.Common.{List, ℕ, [], Bor, arith, length-map}
use Rattle.std.proofs.Math.ListN.{get_or-map}
use Rattle.mr_words.proofs.naming.add_all.Goals as goal

pub add-requires-clause-ascii : goal.add-requires-clause-ascii
add-requires-clause-ascii c =
    rw (← get_or-map (λ (w : Bor (List ℕ)). w.now) c.args.texts.now c.loop-text.text-index (record { ref_ptr = (0, 0); now = [] })) (c.requires.ascii c.loop-text.text-index [] (rw length-map (omega arith)))
