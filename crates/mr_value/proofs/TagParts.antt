-- The tags of an enum that breaks no rule.
use Rattle.mr_value.proofs.Common.{◌≡◌, ℕ, ◌+◌, ◌%◌, ◌≤◌, true, false, List, ◌∷◌, None, sym, ◌∙◌, nat_le, not, ◌==◌, and_parts, TypeSize, TypeAlign, SizeMultiple, IntType, Tag, Tree, Ty, Variant, int_size, is_fitting, is_large, is_align, is_some_used, are_tags, are_all_tags, TypeOk, or_else_none, rule_none, le_from, not_false, not_true}
use Rattle.mr_ast.specs.declared.rule.Rule.TheVariants.{EnumVariant, EnumTag}
use Rattle.mr_layout.specs.EnumRules.{are_variants, meets_tag, enum_rules}
use Rattle.mr_layout.specs.TypeOk.{first_broken_variant}
use Rattle.mr_layout.proofs.BrokenLaws.{broken_enum}
use Rattle.mr_ast.specs.declared.types.Ty.TheVariants as ty

tags_of_rules : (size align : ℕ) (disc : IntType) (variants : List Variant) (tree : Tree) → enum_rules size align disc variants tree ≡ None → are_all_tags size variants ≡ true
unfolding enum_rules
tags_of_rules size align disc variants tree e =
    let a = rule_none TypeSize (is_large size) _ e in
    let b = rule_none TypeAlign (not (is_align align)) _ a.1 in
    let c = rule_none SizeMultiple (not (size % align == 0)) _ b.1 in
    let d = rule_none EnumVariant (not (are_variants size align disc variants)) _ c.1 in
    not_false _ (rule_none EnumTag (not (are_all_tags size variants)) _ d.1).0

pub enum_tags : (size align : ℕ) (disc : IntType) (variants : List Variant) (tree : Tree) → TypeOk (ty.Enum size align disc variants tree) → are_all_tags size variants ≡ true
enum_tags size align disc variants tree ok =
    tags_of_rules size align disc variants tree (or_else_none (first_broken_variant variants) (enum_rules size align disc variants tree) (sym (broken_enum size align disc variants tree) ∙ ok)).1

-- a tag lies inside, its number fits, and it meets neither a later tag nor a used byte of the variant's type
pub record TagOk (size : ℕ) (t : Ty) (g : Tag) (tags : List Tag) : Type 0 where
  pub inside : g.at + int_size g.int ≤ size
  pub fits : is_fitting g.int g.number ≡ true
  pub apart : meets_tag g tags ≡ false
  pub unused : is_some_used t g.at (int_size g.int) ≡ false
  pub rest : are_tags size t tags ≡ true

pub first_tag : (size : ℕ) (t : Ty) (g : Tag) (tags : List Tag) → are_tags size t (g ∷ tags) ≡ true → TagOk size t g tags
first_tag size t g tags e =
    let a = and_parts (nat_le (g.at + int_size g.int) size) _ e in
    let b = and_parts (is_fitting g.int g.number) _ a.1 in
    let c = and_parts (not (meets_tag g tags)) _ b.1 in
    let d = and_parts (not (is_some_used t g.at (int_size g.int))) (are_tags size t tags) c.1 in
    record { inside = le_from (g.at + int_size g.int) size a.0; fits = b.0; apart = not_true _ c.0; unused = not_true _ d.0; rest = d.1 }
