-- Lists of rules and faults that hold nothing, and what a rule that is not broken tells.
use Rattle.mr_typing.proofs.Common.{◌≡◌, Bool, true, false, List, [], ◌∷◌, ◌++◌, map, Option, None, Some, refl, ap, Rule, Ty, TypeOk, broken_rule, Rules, of_type, rule}

pub cons_apart : {A : Type 0} (x : A) (rest : List A) → x ∷ rest ≡ [] → ⊥
cons_apart x rest e = cc

-- two lists that are nothing together are nothing each
pub both_nothing : {A : Type 0} (a b : List A) → a ++ b ≡ [] → (a ≡ []) × (b ≡ [])
both_nothing [] b e = (refl, e)
both_nothing (x ∷ a) b e = absurd (cons_apart x (a ++ b) e)

-- the same of three
pub three_nothing : {A : Type 0} (a b c : List A) → (a ++ b) ++ c ≡ [] → (a ≡ []) × (b ≡ []) × (c ≡ [])
three_nothing a b c e =
    let outer = both_nothing (a ++ b) c e in
    let inner = both_nothing a b outer.0 in
    (inner.0, inner.1, outer.1)

pub map_nothing : {A B : Type 0} (f : A → B) (xs : List A) → map f xs ≡ [] → xs ≡ []
map_nothing f [] e = refl
map_nothing f (x ∷ xs) e = absurd (cons_apart (f x) (map f xs) e)

-- a rule that is not broken is kept
pub rule_kept : (broken : Rule) (b : Bool) → rule broken b ≡ [] → b ≡ true
rule_kept broken true e = refl
rule_kept broken false e = absurd (cons_apart broken [] e)

-- what a type breaks whose first broken rule is this one
abbrev type_rules : Option Rule → Rules
type_rules o = elim o as (λ _. Rules) [ Some broken ↦ broken ∷ [] | None ↦ [] ]

-- a type that breaks no rule is well-formed
pub type_kept : (t : Ty) → of_type t ≡ [] → TypeOk t
type_kept t e = none_left (broken_rule t) e
  where
    none_left : (o : Option Rule) → type_rules o ≡ [] → o ≡ None
    none_left None h = refl
    none_left (Some broken) h = absurd (cons_apart broken [] h)

-- and a well-formed type breaks none
pub type_nothing : (t : Ty) → TypeOk t → of_type t ≡ []
type_nothing t ok = ap type_rules ok
