-- A walk that finds a discriminant finds it in any bytes of the same length that hold what was initialised.
use Rattle.mr_value.proofs.Common.{◌≡◌, ℕ, suc, ◌+◌, ◌*◌, ◌%◌, ◌<◌, ◌≤◌, Bool, true, false, List, [], ◌∷◌, ⊎_elim, length, drop, Option, Some, None, refl, sym, ap, ◌∙◌, arith, length-take, length-drop, get_or-take, get_or-drop, get_or_past, if◌then◌else◌, option_map, option_and_then, Num, Tree, AllocId, AbstractByte, Uninit, Init, int_size, same_num, Bytes, part, number_of, number_of_bits, walk, walk_case, below_or, mapped, followed}
use Rattle.mr_ast.proofs.TreeInduction.{AllCases, TreeCases, tree_induction}
use Rattle.mr_value.proofs.Pieces.{byte_at}
use Rattle.mr_value.proofs.WalkLaws.{walk_known, walk_invalid, walk_branch}

-- each initialised byte of the one stands in the other, too
abbrev pub Holds : Bytes → Bytes → Type 0
Holds b e = (i n : ℕ) (p : Option AllocId) → byte_at e i ≡ Init n p → byte_at b i ≡ Init n p

pub uninit_init : {n : ℕ} {p : Option AllocId} → Uninit ≡ Init n p → ⊥
uninit_init g = cc

part_holds : (b e : Bytes) (at len : ℕ) → Holds b e → Holds (part at len b) (part at len e)
part_holds b e at len h i n p is = ⊎_elim within past (below_or i len)
  where
    within : i < len → byte_at (part at len b) i ≡ Init n p
    within low =
        let there = sym (get_or-take len (drop at e) i Uninit low ∙ get_or-drop at e i Uninit) ∙ is in
        get_or-take len (drop at b) i Uninit low ∙ get_or-drop at b i Uninit ∙ h (at + i) n p there

    past : len ≤ i → byte_at (part at len b) i ≡ Init n p
    past high =
        let short : length (part at len e) ≤ i = omega (arith, length-take len (drop at e)) in
        let none = get_or_past (part at len e) i Uninit short in
        absurd (uninit_init (sym none ∙ is))

number_same : (b e : Bytes) (n : ℕ) → length b ≡ length e → Holds b e → number_of e ≡ Some n → number_of b ≡ Some n
number_same [] [] n long h is = is
number_same [] (y ∷ e) n long h is = absurd (omega arith)
number_same (x ∷ b) [] n long h is = absurd (omega arith)
number_same (x ∷ b) (Uninit ∷ e) n long h is = absurd (cc)
number_same (x ∷ b) (Init k p ∷ e) n long h is =
    let m = mapped (λ r. k % 256 + 256 * r) (number_of e) n is in
    let first : x ≡ Init k p = h 0 k p refl in
    let rest = number_same b e m.0 (omega arith) (λ i j q g. h (suc i) j q g) m.1.0 in
    ap (λ (z : AbstractByte). number_of (z ∷ b)) first ∙ ap (option_map (λ r. k % 256 + 256 * r)) rest ∙ ap Some m.1.1

same_part_length : (b e : Bytes) (at len : ℕ) → length b ≡ length e → length (part at len b) ≡ length (part at len e)
same_part_length b e at len h = omega (arith, length-take len (drop at b), length-take len (drop at e), length-drop at b, length-drop at e)

abbrev FindsSame : Bytes → Bytes → Tree → Type 0
FindsSame b e t = (n : Num) → walk t e ≡ Some n → walk t b ≡ Some n

cases_same : (b e : Bytes) (k : Num) (cases : List (Num × Tree)) (rest : Tree) (n : Num) → AllCases (FindsSame b e) cases → FindsSame b e rest → walk_case k cases rest e ≡ Some n → walk_case k cases rest b ≡ Some n
cases_same b e k [] rest n all last is = last n is
cases_same b e k (c ∷ cases) rest n all last is = chosen (same_num c.0 k) (all.0 n) (cases_same b e k cases rest n all.1 last) is
  where
    chosen : (t : Bool) → (walk c.1 e ≡ Some n → walk c.1 b ≡ Some n) → (walk_case k cases rest e ≡ Some n → walk_case k cases rest b ≡ Some n)
        → (if t then walk c.1 e else walk_case k cases rest e) ≡ Some n → (if t then walk c.1 b else walk_case k cases rest b) ≡ Some n
    chosen true here more is = here is
    chosen false here more is = more is

same_cases : (b e : Bytes) → length b ≡ length e → Holds b e → TreeCases (FindsSame b e)
same_cases b e long h = record {
  at_known = λ k n is. walk_known k b ∙ sym (walk_known k e) ∙ is;
  at_invalid = λ n is. let g = sym (walk_invalid e) ∙ is in absurd (none_some g);
  at_branch = λ at int cases rest all last n is.
      let m = followed (λ bits. walk_case (number_of_bits int bits) cases rest e) (number_of (part at (int_size int) e)) n (sym (walk_branch at int cases rest e) ∙ is) in
      let same = number_same (part at (int_size int) b) (part at (int_size int) e) m.0 (same_part_length b e at (int_size int) long) (part_holds b e at (int_size int) h) m.1.0 in
      walk_branch at int cases rest b
      ∙ ap (option_and_then (λ bits. walk_case (number_of_bits int bits) cases rest b)) same
      ∙ cases_same b e (number_of_bits int m.0) cases rest n all last m.1.1;
}
  where
    none_some : {n : Num} → None ≡ Some n → ⊥
    none_some g = cc

pub walk_same : (t : Tree) (b e : Bytes) (n : Num) → length b ≡ length e → Holds b e → walk t e ≡ Some n → walk t b ≡ Some n
walk_same t b e n long h is = tree_induction (FindsSame b e) (same_cases b e long h) t n is
