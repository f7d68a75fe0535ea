-- What holds of each block of the main function, and how many there are.
use Rattle.mr_gen.proofs.Common.{◌≡◌, ℕ, zero, suc, ◌+◌, ◌*◌, ◌<◌, ◌≤◌, true, [], ◌∷◌, ◌++◌, map, length, Option, None, Some, All, ap, ◌∙◌, refl, arith, length-append, Bool, false, range_with_len, All-cons, All-nil, Function, goes_to, exit_block, join_block, lock_block, main_blocks, print_block, spawn_block}
use Rattle.std.proofs.lemmas.List.Elements.{All-append, All-map}
use Rattle.std.proofs.lemmas.List.FromFn.{length-map-range_with_len}
use Rattle.std.proofs.lemmas.Option.{slice_get-get_or}
use Rattle.mr_ast.specs.declared.program.Block.{Block}
use Rattle.mr_ast.specs.declared.program.BlockKind.TheVariants.{Regular}
use Rattle.mr_typing.specs.Blocks.{same_kind}

-- what holds of each number in a row
All-range : (P : ℕ → Type 0) (a n : ℕ) → ((k : ℕ) → a ≤ k → k < a + n → P k) → All P (range_with_len a n)
All-range P a zero each = All-nil P
All-range P a (suc n) each = All-cons P a (range_with_len (a + 1) n) (each a (omega arith) (omega arith)) (All-range P (a + 1) n (λ k low high. each k (omega arith) (omega arith)))

-- what holds of each of the blocks, where it holds of those of worker k for every k
pub All-main_blocks : (P : Block → Type 0) (workers : ℕ) → P lock_block → ((k : ℕ) → 1 ≤ k → k ≤ workers → P (spawn_block k)) → ((k : ℕ) → 1 ≤ k → k ≤ workers → P (join_block workers k))
    → P (print_block workers) → P (exit_block workers) → All P (main_blocks workers)
unfolding main_blocks
All-main_blocks P workers lock spawn join print exit =
    let range = range_with_len 1 workers in
    let spawns = All-map P spawn_block range (All-range (λ k. P (spawn_block k)) 1 workers (λ k low high. spawn k low (omega arith))) in
    let joins = All-map P (join_block workers) range (All-range (λ k. P (join_block workers k)) 1 workers (λ k low high. join k low (omega arith))) in
    let first = All-cons P lock_block [] lock (All-nil P) in
    let last = All-cons P (print_block workers) (exit_block workers ∷ []) print (All-cons P (exit_block workers) [] exit (All-nil P)) in
    All-append P ((lock_block ∷ [] ++ map spawn_block range) ++ map (join_block workers) range) (print_block workers ∷ exit_block workers ∷ [])
    (All-append P (lock_block ∷ [] ++ map spawn_block range) (map (join_block workers) range) (All-append P (lock_block ∷ []) (map spawn_block range) first spawns) joins) last

pub length-main_blocks : (workers : ℕ) → length (main_blocks workers) ≡ 3 + 2 * workers
unfolding main_blocks
length-main_blocks workers =
    let spawns = map spawn_block (range_with_len 1 workers) in
    let joins = map (join_block workers) (range_with_len 1 workers) in
    let whole = length-append ((lock_block ∷ [] ++ spawns) ++ joins) (print_block workers ∷ exit_block workers ∷ []) in
    let front = length-append (lock_block ∷ [] ++ spawns) joins in
    let head = length-append (lock_block ∷ []) spawns in
    omega (arith, whole, front, head, length-map-range_with_len spawn_block 1 workers, length-map-range_with_len (join_block workers) 1 workers)

-- where all blocks of a function are regular, each of them may be gone to
pub goes_regular : (f : Function) (n : ℕ) → All (λ (b : Block). b.kind ≡ Regular) f.blocks → n < length f.blocks → goes_to f Regular (record { 0 = n }) ≡ true
goes_regular f n regular below =
    let d = lock_block in
    ap (λ (o : Option Block). elim o as (λ _. Bool) [ Some block ↦ same_kind Regular block.kind | None ↦ false ]) (slice_get-get_or f.blocks n d below)
    ∙ ap (same_kind Regular) (regular n d below)

pub all_regular : (workers : ℕ) → All (λ (b : Block). b.kind ≡ Regular) (main_blocks workers)
all_regular workers = All-main_blocks (λ (b : Block). b.kind ≡ Regular) workers refl (λ k low high. refl) (λ k low high. refl) refl refl
