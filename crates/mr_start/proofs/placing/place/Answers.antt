use Rattle.mr_start.proofs.Common.{◌≡◌, ℕ, List, [], ◌∷◌, ◌++◌, ap, sym, subst, ◌∙◌, drop, get_or, map, length, ◌+◌, ◌<◌, None, Pointer, Memory, allocated, pointer_to, fault_over, own_id, piece_of, Piece, placed}
use Rattle.mr_base.specs.declared.byte.Kind.TheVariants.{Heap}
use Rattle.mr_start.specs.declared.pieces.Piece.{Piece as Made}
use Rattle.mr_start.proofs.PickLaws.{left_at}
use Rattle.mr_start.proofs.PlacedLaws.{counted_next, legal_next, memory_next, over_empty, pick_there, piece_at, pointers_next}
use Rattle.mr_start.proofs.StartStores.{AreCounted, none_counted}
use Rattle.mr_start.proofs.placing.place.Goals as goal

pub loop-count-init : goal.loop-count-init
loop-count-init c =
    let pieces = map piece_of c.args.pieces.now in
    let picks = c.args.picks.now in
    let empty = c.new-memory.ensures in
    let P : Memory → Type 0 = λ m. AreCounted m 0 in
    record {
      counted = subst P (sym empty) none_counted;
      legal = sym (over_empty c.new-memory.result pieces picks empty) ∙ c.requires.lawful;
      memory = ap (λ m. (placed m 0 pieces picks).memory) (sym empty);
      pointers = ap (λ m. (placed m 0 pieces picks).pointers) (sym empty) ∙ ap (λ ps. ps ++ (placed c.new-memory.result 0 pieces picks).pointers) (sym c.new-pointers.ensures.items);
    }

-- what stands for a piece that isn't there
abbrev no_piece : Made
no_piece = record { kind = Heap; size = 0; align = 0 }

bounds_of : (m : Memory) (count : ℕ) (pieces : List Made) (picks : List ℕ) → count < length pieces → fault_over m count (map piece_of (drop count pieces)) (drop count picks) ≡ None → count < length picks
bounds_of m count pieces picks lt h =
    pick_there m count (piece_of (get_or pieces count no_piece)) (map piece_of (drop (count + 1) pieces)) picks count
    (ap (λ ps. fault_over m count ps (drop count picks)) (sym (piece_at pieces count no_piece lt)) ∙ h)

pub bounds-picks-count : goal.bounds-picks-count
bounds-picks-count c = bounds_of c.loop-count.memory c.loop-count.count c.args.pieces.now c.args.picks.now c.loop-count-test.true c.loop-count.invariant.legal

pub loop-count-preserved : goal.loop-count-preserved
loop-count-preserved c =
    let l = c.loop-count in
    let pieces = c.args.pieces.now in
    let picks = c.args.picks.now in
    let here : Made = get_or pieces l.count no_piece in
    let piece : Piece = piece_of here in
    let left = map piece_of (drop (l.count + 1) pieces) in
    let addr = get_or picks l.count 0 in
    let rest = drop (l.count + 1) picks in
    let new = c.allocate.new.self in
    let made : new ≡ allocated l.memory (own_id l.count) here.kind here.size here.align addr =
    c.in_ok-allocate.ensures.ok ∙ ap (λ i. allocated l.memory i here.kind here.size here.align addr) c.own-id.ensures in
    let pushed : c.push.new.self.items ≡ l.pointers.items ++ pointer_to (own_id l.count) addr ∷ [] =
    c.in_ok-push.ensures.items ∙ ap (λ (q : Pointer). l.pointers.items ++ q ∷ []) (c.to.ensures ∙ ap (λ i. pointer_to i addr) c.own-id.ensures) in
    let split = piece_at pieces l.count no_piece c.loop-count-test.true in
    let there = bounds_of c.loop-count.memory l.count pieces picks c.loop-count-test.true l.invariant.legal in
    let picked = left_at picks l.count 0 there in
    let legal : fault_over l.memory l.count (piece ∷ left) (addr ∷ rest) ≡ None = (λ i. fault_over l.memory l.count (sym split i) (sym picked i)) ∙ l.invariant.legal in
    record {
      counted = counted_next l.memory l.count piece addr new made l.invariant.counted;
      legal = legal_next l.memory l.count piece addr new made left rest legal;
      memory = l.invariant.memory ∙ (λ i. (placed l.memory l.count (split i) (picked i)).memory) ∙ memory_next l.memory l.count piece addr new made left rest;
      pointers = l.invariant.pointers ∙ (λ i. l.pointers.items ++ (placed l.memory l.count (split i) (picked i)).pointers) ∙ pointers_next l.memory l.count piece addr new made left rest l.pointers.items c.push.new.self.items pushed;
    }
