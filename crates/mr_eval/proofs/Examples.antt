-- Evaluations for which there is no rule, computed.
use Rattle.mr_eval.proofs.Common.{◌≡◌, ℕ, Bool, false, [], ◌∷◌, Option, Some, ap, ◌∙◌, is_some, if◌then◌else◌, plainly, U8, U16, Num, Ty, Ty-F, Variant, Place, Pointer, TransmuteInvalid, Done, IllFormed, ◌>>=◌, Val, encoding_of, has_int, type_of_place, type_of_value, variant_in, Surround, as_variant, bare, place_script, transmuted, value_script, ReadScript, meant}
use Rattle.mr_typing.proofs.TypeLaws.{type_of_int, type_of_local}
use Rattle.mr_ast.specs.declared.types.Ty.TheVariants as ty
use Rattle.mr_ast.specs.declared.expr.Place.TheVariants as place
use Rattle.mr_ast.specs.declared.expr.Value.TheVariants as value
use Rattle.mr_value.specs.declared.val.Val.TheVariants as val
use Rattle.mr_eval.proofs.EvaluationLaws.{script_int, script_local, script_transmute, script_variant_place}

abbrev number : ℕ → Num
number n = record { neg = false; mag = n }

-- one local, a bool that is live at 16
abbrev surround : Surround
surround = record {
  locals = record { name = 0; ty = ty.Bool } ∷ [];
  storage = Some (bare 16) ∷ [];
  functions = [];
  globals = [];
}

abbrev flag : Place
flag = place.Local (record { 0 = 0 })

-- a byte holds no 300, so that there is nothing to transmute
wide_byte : value_script surround (value.Transmute (ty.Int U16) (value.Int U8 (number 300))) ≡ IllFormed
wide_byte =
    script_transmute surround (ty.Int U16) (value.Int U8 (number 300))
    ∙ ap (λ (v : ReadScript Val). v >>= transmuted (ty.Int U16) (type_of_value (surround.locals) (value.Int U8 (number 300)))) (script_int surround U8 (number 300))
    ∙ ap (λ (o : Option Ty). transmuted (ty.Int U16) o (val.Int 300)) (type_of_int (surround.locals) U8 (number 300))
    ∙ ap (λ (b : Bool). if b then meant (plainly TransmuteInvalid) (ty.Int U16) (encoding_of (ty.Int U8) (val.Int 300)) else IllFormed) (has_int U8 300)

-- a bool has no variants
no_variant : place_script surround (place.Variant flag (number 0)) ≡ IllFormed
no_variant =
    script_variant_place surround flag (number 0)
    ∙ ap (λ (p : ReadScript Pointer). p >>= as_variant (type_of_place (surround.locals) flag) (number 0)) (script_local surround (record { 0 = 0 }))
    ∙ ap (λ (o : Option Ty). as_variant o (number 0) (bare 16)) (type_of_local (surround.locals) (record { 0 = 0 }))
    ∙ ap (λ (l : Ty-F Ty Variant). if is_some (variant_in l (number 0)) then Done (bare 16) else IllFormed) ty.outs-Bool
