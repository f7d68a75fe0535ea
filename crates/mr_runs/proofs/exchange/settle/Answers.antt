use Rattle.mr_runs.proofs.Common.{ℕ, List, [], refl, sym, subst, arith, append-nil, IsSettled, SeenPiece}
use Rattle.mr_runs.proofs.ExchangeLaws.{next_below, next_taken, settled_step}
use Rattle.mr_runs.proofs.exchange.settle.Goals as goal

pub loop-at-init : goal.loop-at-init
loop-at-init g c =
    let fits = c.requires.row.fits in
    record {
      put = [];
      is = sym (append-nil c.args.row.items);
      last_is = omega (arith, fits);
      before = λ q lt. refl;
      within = λ q low high. absurd (omega (arith, low, high));
      behind = λ q le. refl;
    }

pub overflow_add-at : goal.overflow_add-at
overflow_add-at g c =
    let P : List (ℕ × SeenPiece) → Type 0 = λ es. IsSettled c.args.row.items es c.args.runs.now.entries c.loop-at.runs.entries c.loop-at.last c.args.end in
    let settled = subst P c.in-Some.ensures.items c.loop-at.invariant in
    let below = next_below c.args.row.items c.pop.new.self.items c.in-Some.at c.in-Some.run' c.args.runs.now.entries c.loop-at.runs.entries c.loop-at.last c.args.end c.requires.row settled in
    omega (arith, below.0, below.1)

pub clear-requires : goal.clear-requires
clear-requires g c =
    let P : List (ℕ × SeenPiece) → Type 0 = λ es. IsSettled c.args.row.items es c.args.runs.now.entries c.loop-at.runs.entries c.loop-at.last c.args.end in
    let settled = subst P c.in-Some.ensures.items c.loop-at.invariant in
    let below = next_below c.args.row.items c.pop.new.self.items c.in-Some.at c.in-Some.run' c.args.runs.now.entries c.loop-at.runs.entries c.loop-at.last c.args.end c.requires.row settled in
    omega (arith, below.0)

pub put-requires : goal.put-requires
put-requires g c =
    let P : List (ℕ × SeenPiece) → Type 0 = λ es. IsSettled c.args.row.items es c.args.runs.now.entries c.loop-at.runs.entries c.loop-at.last c.args.end in
    let settled = subst P c.in-Some.ensures.items c.loop-at.invariant in
    next_taken c.args.row.items c.pop.new.self.items c.in-Some.at c.in-Some.run' c.args.runs.now.entries c.loop-at.runs.entries c.clear.new.runs.entries c.loop-at.last c.args.end
    c.requires.row settled c.requires.taken c.clear.ensures.before

pub loop-at-preserved : goal.loop-at-preserved
loop-at-preserved g c =
    let P : List (ℕ × SeenPiece) → Type 0 = λ es. IsSettled c.args.row.items es c.args.runs.now.entries c.loop-at.runs.entries c.loop-at.last c.args.end in
    let settled = subst P c.in-Some.ensures.items c.loop-at.invariant in
    settled_step c.args.row.items c.pop.new.self.items c.in-Some.at c.in-Some.run' c.args.runs.now.entries c.loop-at.runs.entries c.clear.new.runs.entries c.put.new.runs.entries c.loop-at.last c.args.end
    c.requires.row settled c.clear.ensures.before c.clear.ensures.within c.clear.ensures.behind c.put.ensures
