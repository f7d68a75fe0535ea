use Rattle.mr_clocks.proofs.Common.{arith, dec_lt}
use Rattle.mr_clocks.proofs.index.sweep_span.Goals as goal

pub returns-then-low-span-clause-all : goal.returns-then-low-span-clause-all
returns-then-low-span-clause-all c = λ p reached past t x narrow small has asked.
    let from = reached.0 in
    let to = reached.1 in
    elim (dec_lt p c.place_behind.result) [
      | yes early ↦
          let before = c.place_behind.ensures p early in
          let low = past before.0 in
          let high = before.1 in
          absurd (omega (arith, low, high))
      | no later ↦ absurd (omega (arith, from, to, later))
    ]

pub returns-clause-all : goal.returns-clause-all
returns-clause-all c = λ p reached past t x narrow small has asked.
    let from = reached.0 in
    let to = reached.1 in
    elim (dec_lt p c.place_behind.result) [
      | yes early ↦
          let before = c.place_behind.ensures p early in
          let low = past before.0 in
          let high = before.1 in
          absurd (omega (arith, low, high))
      | no later ↦ c.in_ok-collect.ensures.all p t x (omega (arith, from, later)) (omega (arith, to)) narrow small has asked
    ]
