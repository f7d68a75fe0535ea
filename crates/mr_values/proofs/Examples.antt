-- What bytes hold, computed.
use Rattle.std.proofs.Common.{◌≡◌, ◌∙◌, ℕ, [], ◌∷◌, ap, refl, None}
use Rattle.mr_ast.specs.declared.types.IntType.TheVariants.{U16}
use Rattle.mr_base.specs.declared.byte.AbstractByte.TheVariants.{Init, Uninit}
use Rattle.mr_listing.specs.declared.held.Held.TheVariants as held
use Rattle.mr_value.specs.declared.val.Val.TheVariants as val
use Rattle.mr_value.proofs.DecodeLaws.{decode_int}
use Rattle.mr_values.specs.Reading.{held_as, held_in, held_value}

-- 2 and 1 times 256
number : held_in (Init 2 None ∷ Init 1 None ∷ []) ≡ held.Number 258
number = ap held_as (decode_int U16 (Init 2 None ∷ Init 1 None ∷ [])) ∙ ap held_value (val.outs-Int 258)

-- one byte is uninitialised
no_value : held_in (Init 2 None ∷ Uninit ∷ []) ≡ held.Nothing
no_value = ap held_as (decode_int U16 (Init 2 None ∷ Uninit ∷ []))

-- three bytes
untold : held_in (Init 1 None ∷ Init 2 None ∷ Init 3 None ∷ []) ≡ held.Untold
untold = refl
