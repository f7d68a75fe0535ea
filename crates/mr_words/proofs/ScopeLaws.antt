-- What names stand for, where the text's definitions are known: positions.
use Rattle.mr_words.proofs.Common.{◌≡◌, ℕ, zero, suc, ◌+◌, ◌-◌, ◌≤◌, ◌<◌, ◌||◌, inl, inr, Bool, true, false, if◌then◌else◌, List, [], ◌∷◌, ◌++◌, length, map, bytes_eq, slice_index_or, Option, None, Some, refl, ap, sym, ◌∙◌, arith, nat_lt, fold, list_any, position_or_len, length-append, length-map, Definitions, FunctionNames, all_names, as_function, as_global, each_once, function_names, is_number, item_names, names_of, number_in, number_of_name, used_in, with_text, Texts}
use Rattle.std.proofs.Common.{◌⊎◌, flat_map}
use Rattle.std.proofs.Math.Bool.{or-false}
use Rattle.std.proofs.lemmas.Bool.{or_cases, or_left, or_right}
use Rattle.std.proofs.lemmas.Bool.Decides.{nat_tests}
use Rattle.std.proofs.lemmas.List.Folds.{list_any-append, list_any_at}
use Rattle.std.proofs.lemmas.List.Quantifiers.{position-Some}
use Rattle.std.proofs.lemmas.Slice.Eq.{bytes_eq-Decides}
use Rattle.mr_base.proofs.Comparisons.{lt_from}
use Rattle.mr_ast.specs.declared.words.Role.TheVariants.{DefinesGlobal, DefinesFunction, DefinesLocal, DefinesBlock, UsesGlobal, UsesFunction, UsesLocal, UsesBlock}
use Rattle.mr_ast.specs.Scope.{Scope, defined_in}
use Rattle.mr_ast.specs.ShapedValues.{Named}

-- in the function of this number, of a text that defines these names
abbrev pub scope_at : Definitions → ℕ → Scope
scope_at d k = record { known = Some d; function = k }

-- how many things can be named there
abbrev pub named_at : Definitions → ℕ → Named
named_at d k = record {
  globals = length d.globals;
  functions = length d.functions;
  locals = length (function_names d k).locals;
  blocks = length (function_names d k).blocks;
}

-- a list in which each text stands once is no longer
fold-length : (texts acc : Texts) → length (fold with_text acc texts) ≤ length acc + length texts
fold-length [] acc = omega arith
fold-length (t ∷ texts) acc = go (list_any (bytes_eq t) acc) (fold-length texts acc) (fold-length texts (acc ++ t ∷ []))
  where
    go : (there : Bool) → length (fold with_text acc texts) ≤ length acc + length texts
        → length (fold with_text (acc ++ t ∷ []) texts) ≤ length (acc ++ t ∷ []) + length texts
        → length (fold with_text (if there then acc else acc ++ t ∷ []) texts) ≤ length acc + suc (length texts)
    go true kept more = omega arith
    go false kept more = omega (arith, length-append acc (t ∷ []))

pub once-length : (texts : Texts) → length (each_once texts) ≤ length texts
unfolding each_once
once-length texts = omega (arith, fold-length texts [])

fold-any : (text : List ℕ) (texts acc : Texts) → list_any (bytes_eq text) (fold with_text acc texts) ≡ (list_any (bytes_eq text) acc || list_any (bytes_eq text) texts)
fold-any text [] acc = sym (or-false (list_any (bytes_eq text) acc))
fold-any text (t ∷ texts) acc = go (list_any (bytes_eq t) acc) refl (fold-any text texts acc) (fold-any text texts (acc ++ t ∷ []))
  where
    mine : Texts → Bool
    mine ts = list_any (bytes_eq text) ts

    there : bytes_eq text t ≡ true → list_any (bytes_eq t) acc ≡ true → mine acc ≡ true
    there e any = let same = (bytes_eq-Decides text t).0 e in rw same any

    kept : list_any (bytes_eq t) acc ≡ true → (same : Bool) → bytes_eq text t ≡ same → (mine acc || mine texts) ≡ (mine acc || (same || mine texts))
    kept any true e = let here = there e any in rw here refl
    kept any false e = refl

    go : (found : Bool) → list_any (bytes_eq t) acc ≡ found → mine (fold with_text acc texts) ≡ (mine acc || mine texts)
        → mine (fold with_text (acc ++ t ∷ []) texts) ≡ (mine (acc ++ t ∷ []) || mine texts)
        → mine (fold with_text (if found then acc else acc ++ t ∷ []) texts) ≡ (mine acc || (bytes_eq text t || mine texts))
    go true any same more = same ∙ kept any (bytes_eq text t) refl
    go false any same more =
        more ∙ ap (λ b. b || mine texts) (list_any-append (bytes_eq text) acc (t ∷ []))
        ∙ assoc (mine acc) (bytes_eq text t) (mine texts)
      where
        assoc : (a b c : Bool) → ((a || (b || false)) || c) ≡ (a || (b || c))
        assoc true b c = refl
        assoc false true c = refl
        assoc false false c = refl

pub once-any : (text : List ℕ) (texts : Texts) → list_any (bytes_eq text) (each_once texts) ≡ list_any (bytes_eq text) texts
unfolding each_once
once-any text texts = fold-any text texts []

-- the number of a name in its space
pub number_within : (space : Texts) (text : List ℕ) (n : ℕ) → number_in space text ≡ Some n → n < length space
number_within space text n e = let found = position-Some (bytes_eq text) (each_once space) n [] e in omega (arith, found.0, once-length space)

pub number_any : (space : Texts) (text : List ℕ) (n : ℕ) → number_in space text ≡ Some n → list_any (bytes_eq text) space ≡ true
number_any space text n e =
    let found = position-Some (bytes_eq text) (each_once space) n [] e in
    sym (once-any text space) ∙ list_any_at (bytes_eq text) (each_once space) n [] found.0 found.1

-- where the text stands in a list, it has a place there
place_within : (text : List ℕ) (texts : Texts) → list_any (bytes_eq text) texts ≡ true → position_or_len (bytes_eq text) texts < length texts
place_within text [] any = absurd (cc)
place_within text (t ∷ texts) any = go (bytes_eq text t) refl any (place_within text texts)
  where
    go : (same : Bool) → bytes_eq text t ≡ same → (same || list_any (bytes_eq text) texts) ≡ true
        → (list_any (bytes_eq text) texts ≡ true → position_or_len (bytes_eq text) texts < length texts) → position_or_len (bytes_eq text) (t ∷ texts) < length (t ∷ texts)
    go true e any behind = rw e (omega arith)
    go false e any behind = rw e (omega (arith, behind any))

-- a name that is among those of the program has a number
pub named_within : (d : Definitions) (text : List ℕ) → list_any (bytes_eq text) (all_names d) ≡ true → position_or_len (bytes_eq text) (names_of d) < length (names_of d)
named_within d text any = place_within text (names_of d) (once-any text (all_names d) ∙ any)

-- the spaces are parts of the program's names
names_any : (text : List ℕ) (functions : List FunctionNames) → list_any (bytes_eq text) (map (λ f. f.name) functions) ≡ true
    → list_any (bytes_eq text) (flat_map (λ f. f.name ∷ f.locals ++ f.blocks) functions) ≡ true
names_any text [] any = any
names_any text (f ∷ functions) any = go (or_cases (bytes_eq text f.name) _ any) (names_any text functions)
  where
    go : (bytes_eq text f.name ≡ true) ⊎ (list_any (bytes_eq text) (map (λ g. g.name) functions) ≡ true)
        → (list_any (bytes_eq text) (map (λ g. g.name) functions) ≡ true → list_any (bytes_eq text) (flat_map (λ g. g.name ∷ g.locals ++ g.blocks) functions) ≡ true)
        → list_any (bytes_eq text) ((f.name ∷ f.locals ++ f.blocks) ++ flat_map (λ g. g.name ∷ g.locals ++ g.blocks) functions) ≡ true
    go (inl e) behind = list_any-append (bytes_eq text) (f.name ∷ f.locals ++ f.blocks) _ ∙ or_left _ _ (or_left _ _ e)
    go (inr e) behind = list_any-append (bytes_eq text) (f.name ∷ f.locals ++ f.blocks) _ ∙ or_right _ _ (behind e)

inner_any : (text : List ℕ) (functions : List FunctionNames) (k : ℕ)
    → let f = slice_index_or functions k (record { name = []; locals = []; blocks = [] }) in
    (list_any (bytes_eq text) f.locals ≡ true) ⊎ (list_any (bytes_eq text) f.blocks ≡ true)
    → list_any (bytes_eq text) (flat_map (λ g. g.name ∷ g.locals ++ g.blocks) functions) ≡ true
inner_any text [] k (inl any) = absurd (cc)
inner_any text [] k (inr any) = absurd (cc)
inner_any text (f ∷ functions) zero any =
    list_any-append (bytes_eq text) (f.name ∷ f.locals ++ f.blocks) _ ∙ or_left _ _ (or_right (bytes_eq text f.name) _ (list_any-append (bytes_eq text) f.locals f.blocks ∙ go any))
  where
    go : (list_any (bytes_eq text) f.locals ≡ true) ⊎ (list_any (bytes_eq text) f.blocks ≡ true) → (list_any (bytes_eq text) f.locals || list_any (bytes_eq text) f.blocks) ≡ true
    go (inl e) = or_left _ _ e
    go (inr e) = or_right _ _ e
inner_any text (f ∷ functions) (suc k) any =
    list_any-append (bytes_eq text) (f.name ∷ f.locals ++ f.blocks) _ ∙ or_right _ _ (inner_any text functions k any)

pub items_any : (d : Definitions) (text : List ℕ) → list_any (bytes_eq text) (item_names d) ≡ true → list_any (bytes_eq text) (all_names d) ≡ true
items_any d text any = list_any-append (bytes_eq text) d.globals _ ∙ go (or_cases _ _ (sym (list_any-append (bytes_eq text) d.globals _) ∙ any))
  where
    go : (list_any (bytes_eq text) d.globals ≡ true) ⊎ (list_any (bytes_eq text) (map (λ f. f.name) d.functions) ≡ true)
        → (list_any (bytes_eq text) d.globals || list_any (bytes_eq text) (flat_map (λ f. f.name ∷ f.locals ++ f.blocks) d.functions)) ≡ true
    go (inl e) = or_left _ _ e
    go (inr e) = or_right _ _ (names_any text d.functions e)

pub function_any : (d : Definitions) (k : ℕ) (text : List ℕ)
    → (list_any (bytes_eq text) (function_names d k).locals ≡ true) ⊎ (list_any (bytes_eq text) (function_names d k).blocks ≡ true)
    → list_any (bytes_eq text) (all_names d) ≡ true
function_any d k text any = list_any-append (bytes_eq text) d.globals _ ∙ or_right _ _ (inner_any text d.functions k any)

-- a name that is used and defined
used_fine : (found : Option ℕ) (n : ℕ) → used_in found ≡ (n, None) → found ≡ Some n
used_fine (Some m) n e = ap (λ p. Some p.0) e
used_fine None n e = let clash = ap (λ p. p.1) e in absurd (cc)

global_fine : (globals n : ℕ) (found : Option ℕ) → as_global globals found ≡ Some n → n < globals
global_fine globals n None e = absurd (cc)
global_fine globals n (Some m) e = go (nat_lt m globals) refl e
  where
    go : (small : Bool) → nat_lt m globals ≡ small → (if small then Some m else None) ≡ Some n → n < globals
    go true t e = let same : m ≡ n = cc in rw (sym same) (lt_from m globals t)
    go false t e = absurd (cc)

function_fine : (globals n : ℕ) (found : Option ℕ) → as_function globals found ≡ Some n → (m : ℕ) × (found ≡ Some m) × (globals + n ≡ m)
function_fine globals n None e = absurd (cc)
function_fine globals n (Some m) e = go (nat_lt m globals) refl e
  where
    more : (a b : ℕ) → nat_lt a b ≡ false → b ≤ a
    more a b t = grind (arith, nat_tests)

    go : (small : Bool) → nat_lt m globals ≡ small → (if small then None else Some (m - globals)) ≡ Some n → (i : ℕ) × (Some m ≡ Some i) × (globals + n ≡ i)
    go true t e = absurd (cc)
    go false t e = let same : m - globals ≡ n = cc in (m, refl, omega (arith, more m globals t))

pub use_global : (d : Definitions) (k n : ℕ) (text : List ℕ) → number_of_name d k UsesGlobal text ≡ (n, None) → n < (named_at d k).globals
unfolding number_of_name
use_global d k n text e = global_fine (length d.globals) n (number_in (item_names d) text) (used_fine _ n e)

pub use_function : (d : Definitions) (k n : ℕ) (text : List ℕ) → number_of_name d k UsesFunction text ≡ (n, None) → n < (named_at d k).functions
unfolding number_of_name
use_function d k n text e =
    let found = function_fine (length d.globals) n (number_in (item_names d) text) (used_fine _ n e) in
    omega (arith, number_within (item_names d) text found.0 found.1, found.2, length-append d.globals (map (λ f. f.name) d.functions), length-map d.functions (λ f. f.name))

pub use_local : (d : Definitions) (k n : ℕ) (text : List ℕ) → number_of_name d k UsesLocal text ≡ (n, None) → n < (named_at d k).locals
unfolding number_of_name
use_local d k n text e = number_within (function_names d k).locals text n (used_fine _ n e)

pub use_block : (d : Definitions) (k n : ℕ) (text : List ℕ) → number_of_name d k UsesBlock text ≡ (n, None) → n < (named_at d k).blocks
unfolding number_of_name
use_block d k n text e = number_within (function_names d k).blocks text n (used_fine _ n e)

-- a name that is defined once is one of the program's
defined_fine : (d : Definitions) (space : Texts) (k n : ℕ) (text : List ℕ) → (list_any (bytes_eq text) space ≡ true → list_any (bytes_eq text) (all_names d) ≡ true)
    → defined_in d space k text ≡ (n, None) → n < length (names_of d)
defined_fine d space k n text part e = go (number_in space text) refl (ap (λ p. p.1) e)
  where
    go : (found : Option ℕ) → number_in space text ≡ found → ◌≡◌ {A = Option ℕ} (if is_number k found then None else Some 6) None → n < length (names_of d)
    go None at fine = absurd (cc)
    go (Some m) at fine = rw (sym (ap (λ p. p.0) e)) (named_within d text (part (number_any space text m at)))

pub define_global : (d : Definitions) (f k n : ℕ) (text : List ℕ) → number_of_name d f (DefinesGlobal k) text ≡ (n, None) → n < length (names_of d)
unfolding number_of_name
define_global d f k n text e = defined_fine d (item_names d) k n text (items_any d text) e

pub define_function : (d : Definitions) (f k n : ℕ) (text : List ℕ) → number_of_name d f (DefinesFunction k) text ≡ (n, None) → n < length (names_of d)
unfolding number_of_name
define_function d f k n text e = defined_fine d (item_names d) (length d.globals + k) n text (items_any d text) e

pub define_local : (d : Definitions) (f k n : ℕ) (text : List ℕ) → number_of_name d f (DefinesLocal k) text ≡ (n, None) → n < length (names_of d)
unfolding number_of_name
define_local d f k n text e = defined_fine d (function_names d f).locals k n text (λ any. function_any d f text (inl any)) e

pub define_block : (d : Definitions) (f k n : ℕ) (text : List ℕ) → number_of_name d f (DefinesBlock k) text ≡ (n, None) → n < length (names_of d)
unfolding number_of_name
define_block d f k n text e = defined_fine d (function_names d f).blocks k n text (λ any. function_any d f text (inr any)) e
