-- How the start is made, piece by piece, in two parts.
use Rattle.mr_start.proofs.Common.{◌≡◌, ℕ, zero, suc, ◌+◌, ◌<◌, ◌≤◌, refl, sym, ap, ◌∙◌, subst, arith, List, [], ◌∷◌, ◌++◌, length, map, drop, take, get_or, append_assoc, None, Pointer, Enabled, Memory, allocated, pick_fault, range_fault, ranges_of, with_range, pointer_to, address_fault, else_fault, picks_fault, no_faults, fault_over, own_id, piece_of, pieces_fault, Piece, ask_of, placed}
use Rattle.mr_mem.proofs.RangeLaws.{ranges-allocated, ranges-empty}
use Rattle.std.specs.FinMap as fin
use Rattle.mr_start.specs.declared.pieces.Piece.{Piece as Made}
use Rattle.mr_start.proofs.PickLaws.{left_at}
use Rattle.mr_start.proofs.StartStores.{AreCounted, counted_allocated, lawful_address}

-- the picks over the empty memory are those of a start
pub over_empty : (m : Memory) (ps : List Piece) (picks : List ℕ) → m ≡ fin.empty → pieces_fault ps picks ≡ fault_over m 0 ps picks
over_empty m ps picks e = ap (λ rs. picks_fault (Enabled ∷ []) rs 0 0 (map ask_of ps) picks) (sym ranges-empty) ∙ ap (λ d. fault_over d 0 ps picks) (sym e)

-- what is left from a position on begins with the piece there
pub piece_at : (pieces : List Made) (i : ℕ) (d : Made) → i < length pieces → map piece_of (drop i pieces) ≡ piece_of (get_or pieces i d) ∷ map piece_of (drop (i + 1) pieces)
piece_at pieces i d lt = ap (map piece_of) (left_at pieces i d lt)

-- a piece has a pick, where no rule is broken
pub pick_there : (m : Memory) (count : ℕ) (piece : Piece) (ps : List Piece) (picks : List ℕ) (i : ℕ) → fault_over m count (piece ∷ ps) (drop i picks) ≡ None → i < length picks
pick_there m count piece ps [] zero h = absurd (cc)
pick_there m count piece ps [] (suc i) h = absurd (cc)
pick_there m count piece ps (addr ∷ picks) zero h = omega arith
pick_there m count piece ps (addr ∷ picks) (suc i) h = let k = pick_there m count piece ps picks i h in omega arith

module _ (m : Memory) (count : ℕ) (piece : Piece) (ps : List Piece) (addr : ℕ) (rest : List ℕ) (legal : fault_over m count (piece ∷ ps) (addr ∷ rest) ≡ None) where
  abbrev parts : (address_fault (range_fault (ranges_of m) addr piece.size piece.align) ≡ None) × (picks_fault (Enabled ∷ []) (with_range (ranges_of m) (own_id count) addr piece.size) 0 (count + 1) (map ask_of ps) rest ≡ None)
  parts = no_faults (address_fault (range_fault (ranges_of m) addr piece.size piece.align)) _ legal

  -- the first pick is a lawful address
  pub first_lawful : pick_fault m addr piece.size piece.align ≡ None
  first_lawful = lawful_address (range_fault (ranges_of m) addr piece.size piece.align) parts.0

  -- and the others break no rule behind it
  pub others_legal : fault_over (allocated m (own_id count) piece.kind piece.size piece.align addr) (count + 1) ps rest ≡ None
  others_legal = ap (λ rs. picks_fault (Enabled ∷ []) rs 0 (count + 1) (map ask_of ps) rest) (ranges-allocated m (own_id count) piece.kind piece.size piece.align addr) ∙ parts.1

  pub all_legal : (n : ℕ) → fault_over (allocated m (own_id count) piece.kind piece.size piece.align addr) (count + 1) (take n ps) (take n rest) ≡ None
      → fault_over m count (piece ∷ take n ps) (addr ∷ take n rest) ≡ None
  all_legal n h =
      ap (λ o. else_fault o (picks_fault (Enabled ∷ []) (with_range (ranges_of m) (own_id count) addr piece.size) 0 (count + 1) (map ask_of (take n ps)) (take n rest))) parts.0
      ∙ ap (λ rs. picks_fault (Enabled ∷ []) rs 0 (count + 1) (map ask_of (take n ps)) (take n rest)) (sym (ranges-allocated m (own_id count) piece.kind piece.size piece.align addr)) ∙ h

-- ---- in two parts

-- the pieces in front are placed, and behind them the others
pub record InTwo (n : ℕ) (m : Memory) (count : ℕ) (ps : List Piece) (picks : List ℕ) : Type 0 where
  pub front : fault_over m count (take n ps) (take n picks) ≡ None
  pub behind : fault_over (placed m count (take n ps) (take n picks)).memory (count + n) (drop n ps) (drop n picks) ≡ None
  pub memory : (placed m count ps picks).memory ≡ (placed (placed m count (take n ps) (take n picks)).memory (count + n) (drop n ps) (drop n picks)).memory
  pub pointers : (placed m count ps picks).pointers
      ≡ (placed m count (take n ps) (take n picks)).pointers ++ (placed (placed m count (take n ps) (take n picks)).memory (count + n) (drop n ps) (drop n picks)).pointers

pub in_two : (n : ℕ) (m : Memory) (count : ℕ) (ps : List Piece) (picks : List ℕ) → n ≤ length ps → fault_over m count ps picks ≡ None → InTwo n m count ps picks
in_two zero m count ps picks le h =
    let e : count ≡ count + 0 = omega arith in
    record { front = refl; behind = ap (λ c. fault_over m c ps picks) (sym e) ∙ h; memory = ap (λ c. (placed m c ps picks).memory) e; pointers = ap (λ c. (placed m c ps picks).pointers) e }
in_two (suc n) m count [] picks le h = absurd (omega arith)
in_two (suc n) m count (p ∷ ps) [] le h = absurd (cc)
in_two (suc n) m count (p ∷ ps) (addr ∷ picks) le h =
    let new = allocated m (own_id count) p.kind p.size p.align addr in
    let at : Pointer = pointer_to (own_id count) addr in
    let k = in_two n new (count + 1) ps picks (omega arith) (others_legal m count p ps addr picks h) in
    let front = (placed new (count + 1) (take n ps) (take n picks)).memory in
    let e : (count + 1) + n ≡ count + suc n = omega arith in
    record {
      front = all_legal m count p ps addr picks h n k.front;
      behind = ap (λ c. fault_over front c (drop n ps) (drop n picks)) (sym e) ∙ k.behind;
      memory = k.memory ∙ ap (λ c. (placed front c (drop n ps) (drop n picks)).memory) e;
      pointers = ap (λ qs. at ∷ qs) (k.pointers ∙ ap (λ c. (placed new (count + 1) (take n ps) (take n picks)).pointers ++ (placed front c (drop n ps) (drop n picks)).pointers) e);
    }

-- ---- one piece after another

module _ (m : Memory) (count : ℕ) (piece : Piece) (addr : ℕ) (new : Memory) (made : new ≡ allocated m (own_id count) piece.kind piece.size piece.align addr) where
  pub counted_next : AreCounted m count → AreCounted new (count + 1)
  counted_next h = subst (λ (d : Memory). AreCounted d (count + 1)) (sym made) (counted_allocated m count piece.kind piece.size piece.align addr h)

  pub legal_next : (left : List Piece) (rest : List ℕ) → fault_over m count (piece ∷ left) (addr ∷ rest) ≡ None → fault_over new (count + 1) left rest ≡ None
  legal_next left rest h = ap (λ d. fault_over d (count + 1) left rest) made ∙ others_legal m count piece left addr rest h

  pub memory_next : (left : List Piece) (rest : List ℕ) → (placed m count (piece ∷ left) (addr ∷ rest)).memory ≡ (placed new (count + 1) left rest).memory
  memory_next left rest = ap (λ d. (placed d (count + 1) left rest).memory) (sym made)

  pub pointers_next : (left : List Piece) (rest : List ℕ) (before after : List Pointer) → after ≡ before ++ pointer_to (own_id count) addr ∷ []
      → before ++ (placed m count (piece ∷ left) (addr ∷ rest)).pointers ≡ after ++ (placed new (count + 1) left rest).pointers
  pointers_next left rest before after e =
      let tail : List Pointer = (placed new (count + 1) left rest).pointers in
      ap (λ d. before ++ (pointer_to (own_id count) addr ∷ (placed d (count + 1) left rest).pointers)) (sym made)
      ∙ sym (append_assoc before (pointer_to (own_id count) addr ∷ []) tail)
      ∙ ap (λ ps. ps ++ tail) (sym e)
