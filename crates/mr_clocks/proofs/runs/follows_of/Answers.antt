use Rattle.mr_clocks.proofs.Common.{◌≡◌, ℕ, ◌∙◌, ◌↔◌, IsTrue, Bool, List, [], ◌∷◌, ◌++◌, false, length, get_or, ap, sym, subst, arith, length-append, get_or_append_left, ℕ_discrete, HappensBefore}
use Rattle.std.proofs.Math.Seq.{get_or-append_seam}
use Rattle.mr_clocks.proofs.runs.follows_of.Goals as goal

pub loop-k-preserved : goal.loop-k-preserved
loop-k-preserved c =
    let run = c.args.run.now in
    let first = c.args.first in
    let i = c.loop-k.invariant in
    let old = c.loop-k.marked.items in
    let new = c.push.new.self.items in
    let x = c.orders.result in
    let pushed : new ≡ old ++ x ∷ [] = c.in_ok-push.ensures.items in
    record {
      count = ap length pushed ∙ length-append old (x ∷ []) ∙ omega (arith, i.count);
      each = λ m lt. elim (ℕ_discrete m c.loop-k.k) [
        | yes is ↦
            let at : get_or new m false ≡ x = ap (λ (l : List Bool). get_or l m false) pushed ∙ ap (λ (q : ℕ). get_or (old ++ x ∷ []) q false) (is ∙ sym i.count) ∙ get_or-append_seam old x [] false in
            subst (λ (b : Bool). IsTrue b ↔ HappensBefore run first m) (sym at) (subst (λ (q : ℕ). IsTrue x ↔ HappensBefore run first q) (sym is) c.orders.ensures)
        | no ne ↦
            let at : get_or new m false ≡ get_or old m false = ap (λ (l : List Bool). get_or l m false) pushed ∙ get_or_append_left old (x ∷ []) false m (omega (arith, lt, ne, i.count)) in
            subst (λ (b : Bool). IsTrue b ↔ HappensBefore run first m) (sym at) (i.each m (omega (arith, lt, ne)))
      ];
    }
