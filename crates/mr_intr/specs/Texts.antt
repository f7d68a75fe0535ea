-- The text of a print.
use Rattle.std.specs.Prelude.{ℕ, Bool, List, [], ◌∷◌, ◌++◌, Option, None, Some, codes, decimal, if◌then◌else◌}
use Rattle.std.specs.List.{flat_map}
use Rattle.mr_ast.specs.declared.types.Num.{Num}
use Rattle.mr_ast.specs.declared.types.Ty.{Ty, out-Ty}
use Rattle.mr_ast.specs.declared.types.Ty.TheOpen.{Ty-F}
use Rattle.mr_ast.specs.declared.types.Variant.{Variant}
use Rattle.mr_value.specs.declared.val.Val.{Val, out-Val}
use Rattle.mr_value.specs.declared.val.Val.TheOpen.{Val-F}
use Rattle.mr_value.specs.Discriminants.{number_of_bits}
use Rattle.mr_base.specs.Script.{Done, IllFormed, ◌>>=◌}
use Rattle.mr_eval.specs.Operators.{or_ill_formed}
use Rattle.mr_eval.specs.Reads.{ReadScript}

-- a number in decimal, with its sign
abbrev pub number_text : Num → List ℕ
number_text n = if n.neg then 45 ∷ decimal n.mag else decimal n.mag

-- a bool as text
abbrev pub bool_text : Bool → List ℕ
bool_text b = if b then codes "true" else codes "false"

-- an integer in decimal; a bool by its name
abbrev pub text_layer : Ty-F Ty Variant → Val-F Val → Option (List ℕ)
text_layer (Ty-F.Int int) (Val-F.Int bits) = Some (number_text (number_of_bits int bits))
text_layer Ty-F.Bool (Val-F.Bool b) = Some (bool_text b)
text_layer _ _ = None

-- the text of a value of a type
abbrev pub text_of : Ty → Val → Option (List ℕ)
text_of t v = text_layer (out-Ty t) (out-Val v)

-- the text of each value, from left to right
abbrev pub texts_of : List Ty → List Val → ReadScript (List (List ℕ))
texts_of [] [] = Done []
texts_of (t ∷ ts) (v ∷ vs) = or_ill_formed (text_of t v) >>= λ text. texts_of ts vs >>= λ texts. Done (text ∷ texts)
texts_of _ _ = IllFormed

-- texts behind a first one, each led by a space
abbrev pub spaced_behind : List (List ℕ) → List ℕ
spaced_behind texts = flat_map (λ text. 32 ∷ text) texts

-- texts with one space between
abbrev pub spaced : List (List ℕ) → List ℕ
spaced [] = []
spaced (text ∷ texts) = text ++ spaced_behind texts
