use Rattle.mr_words.proofs.Common.{List, ℕ, Bor, length, map, ap, arith, length-map, length-with_text}
use Rattle.mr_words.proofs.NamingLaws.{length-with_texts}
use Rattle.mr_words.proofs.naming.add_function.Goals as goal

pub add_all-requires-2-clause-room : goal.add_all-requires-2-clause-room
add_all-requires-2-clause-room c =
    omega (
      arith,
      length-with_text c.args.names.now c.name.result.now,
      ap length c.in_ok-add.ensures,
      length-with_texts c.add.new.names (map (λ w. w.now) c.locals.result.now),
      ap length c.in_ok-add_all.ensures,
      length-map c.locals.result.now (λ (w : Bor (List ℕ)). w.now),
      length-map c.blocks-2.result.now (λ (w : Bor (List ℕ)). w.now),
      ap length c.locals.ensures,
      ap length c.blocks-2.ensures,
    )
