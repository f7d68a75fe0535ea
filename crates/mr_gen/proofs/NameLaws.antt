-- The names of a program: how they are added, and how many there are.
use Rattle.mr_gen.proofs.Common.{◌≡◌, ℕ, zero, suc, ◌+◌, ◌*◌, ◌<◌, ◌≤◌, List, [], ◌∷◌, ◌++◌, length, refl, arith, codes, decimal, length-append, fold, with_text, counted_texts, first_texts, name_texts}
use Rattle.std.specs.Fmt.{digits}
use Rattle.std.proofs.lemmas.List.FromFn.{length-map-range_with_len}
use Rattle.mr_ast.specs.Words.{Texts}

-- ---- all of them

-- the names as they are added
abbrev added : ℕ → Texts
added workers =
    with_text (fold with_text (fold with_text (fold with_text [] first_texts) (counted_texts (codes "c") workers)) (counted_texts (codes "e") (workers + 1))) (codes "h")

-- no name is there twice
pub names_added : (workers : ℕ) → workers ≤ 8 → added workers ≡ name_texts workers
unfolding name_texts digits
names_added zero le = refl
names_added (suc zero) le = refl
names_added (suc (suc zero)) le = refl
names_added (suc (suc (suc zero))) le = refl
names_added (suc (suc (suc (suc zero)))) le = refl
names_added (suc (suc (suc (suc (suc zero))))) le = refl
names_added (suc (suc (suc (suc (suc (suc zero)))))) le = refl
names_added (suc (suc (suc (suc (suc (suc (suc zero))))))) le = refl
names_added (suc (suc (suc (suc (suc (suc (suc (suc zero)))))))) le = refl
names_added (suc (suc (suc (suc (suc (suc (suc (suc (suc n))))))))) le = absurd (omega arith)

length-counted : (letter : List ℕ) (n : ℕ) → length (counted_texts letter n) ≡ n
length-counted letter n = length-map-range_with_len (λ k. letter ++ decimal k) 1 n

pub length-name_texts : (workers : ℕ) → length (name_texts workers) ≡ 15 + 2 * workers
unfolding name_texts
length-name_texts workers =
    let cs = counted_texts (codes "c") workers in
    let es = counted_texts (codes "e") (workers + 1) in
    let whole = length-append ((first_texts ++ cs) ++ es) (codes "h" ∷ []) in
    let front = length-append (first_texts ++ cs) es in
    let head = length-append first_texts cs in
    omega (arith, whole, front, head, length-counted (codes "c") workers, length-counted (codes "e") (workers + 1))

-- each number of a name is below that
pub is_name : (workers n : ℕ) → n < 15 + 2 * workers → n < length (name_texts workers)
is_name workers n below = omega (arith, length-name_texts workers)
