-- What an answer of the computed walk tells of the broken rules.
use Rattle.mr_typing.proofs.Common.{◌≡◌, Bool, true, false, [], ◌∷◌, ◌++◌, Option, None, Some, Result, Ok, refl, sym, ap, subst, append_assoc, ◌∙◌, ◌&&◌, is_some, Rule, Ty, broken_rule, Rules, of_type, rule, ◌>>=◌, kept, sound_type, there}
use Rattle.std.proofs.Common.{Err, true≢false}
use Rattle.mr_typing.proofs.NothingLaws.{cons_apart}

-- An answer tells the broken rules: there are none, and the answer is as it should be; or it is the first of them.
abbrev pub Tells : {A : Type 0} → Result A Rule → Rules → (A → Type 0) → Type 0
Tells (Ok x) rules is = (rules ≡ []) × is x
Tells (Err broken) rules is = (rest : Rules) × (rules ≡ broken ∷ rest)

-- nothing is said of the answer
abbrev pub Any : {A : Type 0} → A → Type 0
Any x = Unit {0}

-- ---- from one part to the next

pub tells_same : {A : Type 0} (r s : Result A Rule) (rules more : Rules) (is : A → Type 0) → r ≡ s → rules ≡ more → Tells s more is → Tells r rules is
tells_same r s rules more is er ec tells = subst (λ (x : Result _ Rule). Tells x rules is) (sym er) (subst (λ (c : Rules). Tells s c is) (sym ec) tells)

pub tells_then : {A B : Type 0} (r : Result A Rule) (rules more : Rules) (is : A → Type 0) (f : A → Result B Rule) (then : B → Type 0)
    → Tells r rules is → ((x : A) → is x → Tells (f x) more then) → Tells (r >>= f) (rules ++ more) then
tells_then (Ok x) rules more is f then tells next = subst (λ (c : Rules). Tells (f x) (c ++ more) then) (sym tells.0) (next x tells.1)
tells_then (Err broken) rules more is f then tells next = (tells.0 ++ more, ap (λ (c : Rules). c ++ more) tells.1)

-- three lists of rules in a row
pub tells_right : {A : Type 0} (r : Result A Rule) (a b c : Rules) (is : A → Type 0) → Tells r (a ++ (b ++ c)) is → Tells r ((a ++ b) ++ c) is
tells_right r a b c is tells = subst (λ (rules : Rules). Tells r rules is) (sym (append_assoc a b c)) tells

-- from one part to the next, where what follows depends on the type of the part
pub tells_typed : {A B : Type 0} (r : Result A Rule) (rules : Rules) (o : Option A) (f : A → Result B Rule) (more : Option A → Rules) (then : Option A → B → Type 0)
    → Tells r rules (λ x. o ≡ Some x) → ((x : A) → Tells (f x) (more (Some x)) (then (Some x))) → Tells (r >>= f) (rules ++ more o) (then o)
tells_typed r rules o f more then tells next =
    tells_then r rules (more o) (λ x. o ≡ Some x) f (then o) tells (λ x e. subst (λ (u : Option _). Tells (f x) (more u) (then u)) (sym e) (next x))

-- where nothing more can be broken
pub tells_map : {A B : Type 0} (r : Result A Rule) (rules : Rules) (is : A → Type 0) (g : A → B) (then : B → Type 0)
    → Tells r rules is → ((x : A) → is x → then (g x)) → Tells (r >>= (λ x. Ok (g x))) rules then
tells_map (Ok x) rules is g then tells next = (tells.0, next x tells.1)
tells_map (Err broken) rules is g then tells next = tells

-- ---- single rules

pub tells_kept : (broken : Rule) (b : Bool) → Tells (kept broken b) (rule broken b) Any
tells_kept broken true = (refl, tt)
tells_kept broken false = ([], refl)

pub tells_rule : {A : Type 0} (broken : Rule) (b : Bool) (x : A) (is : A → Type 0) → is x → Tells (kept broken b >>= (λ _. Ok x)) (rule broken b) is
tells_rule broken true x is h = (refl, h)
tells_rule broken false x is h = ([], refl)

pub tells_there : {A : Type 0} (broken : Rule) (o : Option A) → Tells (there broken o) (rule broken (is_some o)) (λ x. o ≡ Some x)
tells_there broken None = ([], refl)
tells_there broken (Some x) = (refl, refl)

pub tells_there_kept : {A : Type 0} (broken : Rule) (o : Option A) (b : Bool) → Tells (there broken o >>= (λ x. kept broken b >>= (λ _. Ok x))) (rule broken (is_some o && b)) (λ x. o ≡ Some x)
tells_there_kept broken None b = ([], refl)
tells_there_kept broken (Some x) true = (refl, refl)
tells_there_kept broken (Some x) false = ([], refl)

pub tells_kept_there : {A : Type 0} (broken : Rule) (b : Bool) (o : Option A) → (b ≡ true → is_some o ≡ true) → Tells (kept broken b >>= (λ _. there broken o)) (rule broken b) (λ x. o ≡ Some x)
tells_kept_there broken true None found = absurd (true≢false (sym (found refl)))
tells_kept_there broken true (Some x) found = (refl, refl)
tells_kept_there broken false o found = ([], refl)

pub tells_type : (t : Ty) → Tells (sound_type t) (of_type t) Any
tells_type t =
    elim (broken_rule t)
    as (λ (o : Option Rule). Tells (elim o as (λ _. Result (Unit {0}) Rule) [ None ↦ Ok tt | Some broken ↦ Err broken ]) (elim o as (λ _. Rules) [ Some broken ↦ broken ∷ [] | None ↦ [] ]) (Any {A = Unit {0}}))
    [ None ↦ (refl, tt) | Some broken ↦ ([], refl) ]

-- ---- what is told

-- where no rule is broken there is an answer
pub tells_unbroken : {A : Type 0} (r : Result A Rule) (rules : Rules) (is : A → Type 0) → Tells r rules is → rules ≡ [] → (x : A) × is x
tells_unbroken (Ok x) rules is tells e = (x, tells.1)
tells_unbroken (Err broken) rules is tells e = absurd (cons_apart broken tells.0 (sym tells.1 ∙ e))
