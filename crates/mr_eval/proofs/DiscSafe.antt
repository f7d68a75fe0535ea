-- The search for a discriminant in memory is never ill-formed, and what it finds fits the enum's integers.
use Rattle.mr_eval.proofs.Common.{◌≡◌, ℕ, List, [], ◌∷◌, Some, Bool, true, false, map, refl, sym, ap, subst, ◌∙◌, not, ◌&&◌, ◌||◌, ◌==◌, nat_le, if◌then◌else◌, same_Some, and_parts, plainly, IntType, Num, Tree, Ty, out-Ty, roll-Ty, Ty-F, Variant, Pointer, InvalidDiscriminant, same_num, is_fitting, align_of, size_of, TypeOk, enum_ok, bits_of_number, number_of_bits, has_shape, Done, Undefined, ◌>>=◌, discriminant_in, discriminant_type, type_made, behind, case_search, numbered, or_undefined, searched, discriminant_at, discriminant_layer, IsSafe, any_result}
use Rattle.mr_ast.specs.declared.types.Tree.{roll-Tree}
use Rattle.mr_ast.specs.declared.types.Tree.TheOpen.{Tree-F}
use Rattle.mr_ast.specs.declared.types.Tree.TheFolds.{fold-roll-Tree, map-Tree}
use Rattle.mr_layout.specs.EnumRules.{are_tree_cases, are_variants, is_case, is_number_of, is_tree}
use Rattle.mr_layout.proofs.TreeOk.{branch_ok, leaf_ok, same_num_equal}
use Rattle.mr_value.specs.Numbers.{number_of}
use Rattle.mr_ast.proofs.TreeInduction.{AllCases, TreeCases, tree_induction}
use Rattle.mr_eval.specs.Typed.{Search, search_step}
use Rattle.mr_ast.specs.declared.types.Tree.TheVariants as tree
use Rattle.mr_ast.specs.declared.types.Ty.TheVariants as ty
use Rattle.mr_value.specs.declared.val.Val.TheVariants as val
use Rattle.mr_eval.proofs.SafeLaws.{safe_option, safe_then}
use Rattle.mr_eval.proofs.ShapeOf.{int_shape}

-- ---- the equations of the search

search_roll : (d : Tree-F Tree) → searched (roll-Tree d) ≡ search_step (map-Tree Tree Search searched d)
unfolding searched
search_roll d = fold-roll-Tree Search search_step d

pub search_known : (n : Num) (p : Pointer) → searched (tree.Known n) p ≡ Done n
search_known n p = ap (λ (t : Tree). searched t p) (sym (tree.rolls-Known n)) ∙ ap (λ (f : Search). f p) (search_roll (Tree-F.Known n))

pub search_invalid : (p : Pointer) → searched tree.Invalid p ≡ Undefined (plainly InvalidDiscriminant)
search_invalid p = ap (λ (t : Tree). searched t p) (sym tree.rolls-Invalid) ∙ ap (λ (f : Search). f p) (search_roll Tree-F.Invalid)

abbrev pub searches : List (Num × Tree) → List (Num × Search)
searches cases = map (λ (c : Num × Tree). (c.0, searched c.1)) cases

pub search_branch : (at : ℕ) (int : IntType) (cases : List (Num × Tree)) (rest : Tree) (p : Pointer)
    → searched (tree.Branch at int cases rest) p ≡ (numbered int (behind p at) >>= (λ n. case_search n (searches cases) (searched rest) p))
search_branch at int cases rest p =
    ap (λ (t : Tree). searched t p) (sym (tree.rolls-Branch at int cases rest)) ∙ ap (λ (f : Search). f p) (search_roll (Tree-F.Branch at int cases rest))

-- ---- the search is safe

numbered_safe : (int : IntType) (p : Pointer) → IsSafe any_result (numbered int p)
numbered_safe int p = λ bytes sized.
    safe_then any_result any_result (or_undefined (plainly InvalidDiscriminant) (number_of bytes)) (λ bits. Done (number_of_bits int bits)) (safe_option any_result (plainly InvalidDiscriminant) (number_of bytes) (λ bits e. tt)) (λ bits u. tt)

-- the number of a variant fits
number_fits : (size align : ℕ) (disc : IntType) (variants : List Variant) (n : Num) → are_variants size align disc variants ≡ true → is_number_of n variants ≡ true → is_fitting disc n ≡ true
number_fits size align disc [] n ok e = absurd (cc)
number_fits size align disc (v ∷ variants) n ok e =
    let p = and_parts (size_of v.ty == size) (nat_le (align_of v.ty) align && (is_fitting disc v.number && (not (is_number_of v.number variants) && are_variants size align disc variants))) ok in
    let q = and_parts (nat_le (align_of v.ty) align) (is_fitting disc v.number && (not (is_number_of v.number variants) && are_variants size align disc variants)) p.1 in
    let r = and_parts (is_fitting disc v.number) (not (is_number_of v.number variants) && are_variants size align disc variants) q.1 in
    let s = and_parts (not (is_number_of v.number variants)) (are_variants size align disc variants) r.1 in
    here_or_there (same_num v.number n) e r.0 (λ more. number_fits size align disc variants n s.1 more) refl
  where
    here_or_there : (b : Bool) → (b || is_number_of n variants) ≡ true → is_fitting disc v.number ≡ true → (is_number_of n variants ≡ true → is_fitting disc n ≡ true)
        → same_num v.number n ≡ b → is_fitting disc n ≡ true
    here_or_there true k fits more same = subst (λ (m : Num). is_fitting disc m ≡ true) (same_num_equal v.number n same) fits
    here_or_there false k fits more same = more k

module _ (size align : ℕ) (disc : IntType) (variants : List Variant) (are_numbered : are_variants size align disc variants ≡ true) where
  abbrev Fits : Num → Type 0
  Fits n = is_fitting disc n ≡ true

  abbrev SearchSafe : Tree → Type 0
  SearchSafe t = is_tree size variants t ≡ true → (p : Pointer) → IsSafe Fits (searched t p)

  case_safe : (int : IntType) (n : Num) (cases : List (Num × Tree)) (rest : Tree) (p : Pointer) → AllCases SearchSafe cases → are_tree_cases size variants int cases ≡ true → IsSafe Fits (searched rest p)
      → IsSafe Fits (case_search n (searches cases) (searched rest) p)
  case_safe int n [] rest p all ok last = last
  case_safe int n (c ∷ cases) rest p all ok last =
      let a = and_parts (is_fitting int c.0) (not (is_case c.0 cases) && (is_tree size variants c.1 && are_tree_cases size variants int cases)) ok in
      let b = and_parts (not (is_case c.0 cases)) (is_tree size variants c.1 && are_tree_cases size variants int cases) a.1 in
      let d = and_parts (is_tree size variants c.1) (are_tree_cases size variants int cases) b.1 in
      chosen (same_num c.0 n) (all.0 d.0 p) (case_safe int n cases rest p all.1 d.1 last)
    where
      chosen : (t : Bool) → IsSafe Fits (searched c.1 p) → IsSafe Fits (case_search n (searches cases) (searched rest) p)
          → IsSafe Fits ((if t then searched c.1 else case_search n (searches cases) (searched rest)) p)
      chosen true h k = h
      chosen false h k = k

  search_cases : TreeCases SearchSafe
  search_cases = record {
    at_known = λ n ok p. subst (IsSafe Fits) (sym (search_known n p)) (number_fits size align disc variants n are_numbered (leaf_ok size variants n ok));
    at_invalid = λ ok p. subst (IsSafe Fits) (sym (search_invalid p)) tt;
    at_branch = λ at int cases rest all last ok p.
        let parts = branch_ok size variants at int cases rest ok in
        subst (IsSafe Fits) (sym (search_branch at int cases rest p))
        (safe_then any_result Fits (numbered int (behind p at)) (λ n. case_search n (searches cases) (searched rest) p) (numbered_safe int (behind p at))
        (λ n u. case_safe int n cases rest p all parts.told (last parts.other p)));
  }

  pub search_safe : (t : Tree) → SearchSafe t
  search_safe = tree_induction SearchSafe search_cases

-- the discriminant of a place of an enum
pub discriminant_safe : (u : Ty) → TypeOk u → (p : Pointer) (t : Ty) → discriminant_type u ≡ Some t → IsSafe (λ v. has_shape t v ≡ true) (discriminant_at (Some u) p)
discriminant_safe u ok p t e = by_layer (out-Ty u) (subst TypeOk (sym (type_made u)) ok) e
  where
    by_layer : (l : Ty-F Ty Variant) → TypeOk (roll-Ty l) → discriminant_in l ≡ Some t → IsSafe (λ v. has_shape t v ≡ true) (discriminant_layer l p)
    by_layer (Ty-F.Enum size align disc variants tree) whole h =
        let parts = enum_ok size align disc variants tree (subst TypeOk (ty.rolls-Enum size align disc variants tree) whole) in
        safe_then (λ n. is_fitting disc n ≡ true) (λ v. has_shape t v ≡ true) (searched tree p) (λ n. Done (val.Int (bits_of_number disc n)))
        (search_safe size align disc variants parts.numbered tree parts.told p)
        (λ n fits. subst (λ (w : Ty). has_shape w (val.Int (bits_of_number disc n)) ≡ true) (same_Some (ty.Int disc) t h) (int_shape disc n fits))
    by_layer _ whole h = absurd (cc)
