-- A value is made of its layer.
use Rattle.mr_value.proofs.Common.{◌≡◌, ℕ, Bool, List, sym, subst, ap, ◌∙◌, Num, Pointer, AbstractByte, Val, out-Val}
use Rattle.mr_value.specs.declared.val.Val.{roll-Val}
use Rattle.mr_value.specs.declared.val.Val.TheOpen.{Val-F}
use Rattle.mr_value.specs.declared.val.Val.TheFolds.{ind-Val}
use Rattle.mr_value.specs.declared.val.Val.TheVariants as val

abbrev IsMade : Val → Type 0
IsMade v = roll-Val (out-Val v) ≡ v

made_layer : (x : Val-F Val) → IsMade (roll-Val x)
made_layer (Val-F.Int n) = subst IsMade (sym (val.rolls-Int n)) (ap roll-Val (val.outs-Int n) ∙ val.rolls-Int n)
made_layer (Val-F.Bool b) = subst IsMade (sym (val.rolls-Bool b)) (ap roll-Val (val.outs-Bool b) ∙ val.rolls-Bool b)
made_layer (Val-F.Ptr p) = subst IsMade (sym (val.rolls-Ptr p)) (ap roll-Val (val.outs-Ptr p) ∙ val.rolls-Ptr p)
made_layer (Val-F.Tuple vs) = subst IsMade (sym (val.rolls-Tuple vs)) (ap roll-Val (val.outs-Tuple vs) ∙ val.rolls-Tuple vs)
made_layer (Val-F.Union bytes) = subst IsMade (sym (val.rolls-Union bytes)) (ap roll-Val (val.outs-Union bytes) ∙ val.rolls-Union bytes)
made_layer (Val-F.Variant n v) = subst IsMade (sym (val.rolls-Variant n v)) (ap roll-Val (val.outs-Variant n v) ∙ val.rolls-Variant n v)

pub made_of_layer : (v : Val) → roll-Val (out-Val v) ≡ v
made_of_layer v = ind-Val IsMade (λ x y is. made_layer x) v

-- a value whose layer is known is the value of that layer
pub is_int : (v : Val) (n : ℕ) → out-Val v ≡ Val-F.Int n → v ≡ val.Int n
is_int v n e = sym (made_of_layer v) ∙ ap roll-Val e ∙ val.rolls-Int n

pub is_bool : (v : Val) (b : Bool) → out-Val v ≡ Val-F.Bool b → v ≡ val.Bool b
is_bool v b e = sym (made_of_layer v) ∙ ap roll-Val e ∙ val.rolls-Bool b

pub is_ptr : (v : Val) (p : Pointer) → out-Val v ≡ Val-F.Ptr p → v ≡ val.Ptr p
is_ptr v p e = sym (made_of_layer v) ∙ ap roll-Val e ∙ val.rolls-Ptr p

pub is_tuple : (v : Val) (vs : List Val) → out-Val v ≡ Val-F.Tuple vs → v ≡ val.Tuple vs
is_tuple v vs e = sym (made_of_layer v) ∙ ap roll-Val e ∙ val.rolls-Tuple vs

pub is_union : (v : Val) (bytes : List AbstractByte) → out-Val v ≡ Val-F.Union bytes → v ≡ val.Union bytes
is_union v bytes e = sym (made_of_layer v) ∙ ap roll-Val e ∙ val.rolls-Union bytes

pub is_variant : (v : Val) (n : Num) (x : Val) → out-Val v ≡ Val-F.Variant n x → v ≡ val.Variant n x
is_variant v n x e = sym (made_of_layer v) ∙ ap roll-Val e ∙ val.rolls-Variant n x
