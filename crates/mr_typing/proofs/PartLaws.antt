-- A part of the variant with a number is that part of the whole variant.
use Rattle.mr_typing.proofs.Common.{◌≡◌, refl, Bool, true, false, if◌then◌else◌, List, [], ◌∷◌, Some, Num, Ty, Ty-F, Variant, among}
use Rattle.std.proofs.Common.{option_map}
use Rattle.mr_layout.specs.EnumRules.{same_num}
use Rattle.mr_typing.specs.Types.{variant_part}

among_whole : {A : Type 0} (part : Variant → A) (variants : List Variant) (n : Num) → among part variants n ≡ option_map part (among (λ v. v) variants n)
among_whole part [] n = refl
among_whole {A} part (v ∷ variants) n = by_test (same_num v.number n) (among_whole part variants n)
  where
    by_test : (b : Bool) → among part variants n ≡ option_map part (among (λ w. w) variants n) → (if b then Some (part v) else among part variants n) ≡ option_map part (if b then Some v else among (λ w. w) variants n)
    by_test true more = refl
    by_test false more = more

part_whole : {A : Type 0} (part : Variant → A) (x : Ty-F Ty Variant) (n : Num) → variant_part part x n ≡ option_map part (variant_part (λ v. v) x n)
part_whole part (Ty-F.Enum size align disc variants tree) n = among_whole part variants n
part_whole part _ n = refl

pub type_part : (x : Ty-F Ty Variant) (n : Num) → variant_part (λ v. v.ty) x n ≡ option_map (λ v. v.ty) (variant_part (λ v. v) x n)
type_part = part_whole (λ v. v.ty)

pub tags_part : (x : Ty-F Ty Variant) (n : Num) → variant_part (λ v. v.tags) x n ≡ option_map (λ v. v.tags) (variant_part (λ v. v) x n)
tags_part = part_whole (λ v. v.tags)

pub ruleset part_laws = (type_part, tags_part)
