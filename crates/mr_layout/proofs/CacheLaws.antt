-- Types that are kept with their layouts, each once.
use Rattle.mr_layout.proofs.Common.{◌≡◌, ℕ, ◌+◌, ◌<◌, ◌≤◌, ⊎_elim, Bool, true, false, List, [], ◌∷◌, ◌++◌, map, length, get_or, Option, Some, None, is_some, inr, refl, sym, ap, subst, ◌∙◌, take, arith, All, Contains, IfSome, take_all, IntType, Ty, Ty-F, fold-roll-Ty, int_size, align_of, inhabited_step, is_inhabited, variant_step, layout_of, held_types, AreDefined, TypeOk, AreTypesOf, Adds}
use Rattle.std.proofs.Common.{cond, true≢false, Bor}
use Rattle.std.specs.Prelude.{IfNone, position, slice_get, ◌≢◌}
use Rattle.std.specs.Map.{keys_of, lookup, values_of}
use Rattle.std.specs.Option.{option_map}
use Rattle.std.proofs.lemmas.List.{length-map, get_or-map, get_or_default, map_push, map_more}
use Rattle.std.proofs.lemmas.List.Elements.{All-from_recursion, All-head, All-push, All-tail, All-weaker, Contains-append_left, Contains-append_right, Contains-get_or, Contains-push}
use Rattle.std.proofs.lemmas.List.Quantifiers.{all_pairs_push, position-Some}
use Rattle.std.proofs.lemmas.Map.{none_passes_from_lookup}
use Rattle.std.proofs.lemmas.Option.{get_or_from_slice_get, none-some, same_Some, slice_get-get_or, slice_get-map, slice_get_within}
use Rattle.mr_ast.specs.Equal.{equal_types, equal_types_decides}
use Rattle.mr_layout.specs.declared.cache.Layout.{Layout}
use Rattle.mr_ast.specs.declared.types.Ty.TheVariants as ty
use Rattle.mr_layout.proofs.AlignLaws.{align_int}
use Rattle.mr_layout.proofs.SizeLaws.{size_int}

-- ---- the layout of an integer type

inhabited_int : (i : IntType) → is_inhabited (ty.Int i) ≡ true
inhabited_int i = ap is_inhabited (sym (ty.rolls-Int i)) ∙ fold-roll-Ty Bool Bool inhabited_step variant_step (Ty-F.Int i)

abbrev layout_with : ℕ → ℕ → Bool → Layout
layout_with size align inhabited = record { size = size; align = align; inhabited = inhabited }

pub layout_int : (i : IntType) → layout_of (ty.Int i) ≡ record { size = int_size i; align = int_size i; inhabited = true }
layout_int i =
    ap (λ (n : ℕ). layout_with n (align_of (ty.Int i)) (is_inhabited (ty.Int i))) (size_int i)
    ∙ ap (λ (n : ℕ). layout_with (int_size i) n (is_inhabited (ty.Int i))) (align_int i)
    ∙ ap (layout_with (int_size i) (int_size i)) (inhabited_int i)

-- ---- a look-up

abbrev Entry : Type 0
Entry = Bor Ty × Layout

abbrev type_in : Entry → Ty
type_in e = e.0.now

-- a look-up tests whether the type of an entry is this one
abbrev pub is_type : Ty → Bor Ty → Bool
is_type t held = equal_types t held.now

-- what it finds is the layout of the type, which is held
pub lookup_found : (entries : List Entry) (t : Ty) (l : Layout) → AreDefined entries → lookup (is_type t) entries ≡ Some l → Contains (held_types entries) t × (l ≡ layout_of t)
lookup_found [] t l defined found = absurd (none-some l found)
lookup_found (e ∷ entries) t l defined found =
    by (is_type t e.0) refl (lookup_found entries t l (All-tail (λ (x : Entry). x.1 ≡ layout_of (type_in x)) e entries defined))
  where
    past : (b : Bool) → is_type t e.0 ≡ b → cond b (Some e.1) (lookup (is_type t) entries) ≡ Some l
    past b told = ap (λ (c : Bool). cond c (Some e.1) (lookup (is_type t) entries)) (sym told) ∙ found

    by : (b : Bool) → is_type t e.0 ≡ b → (lookup (is_type t) entries ≡ Some l → Contains (held_types entries) t × (l ≡ layout_of t))
        → Contains (held_types (e ∷ entries)) t × (l ≡ layout_of t)
    by true told rest =
        let same : type_in e ≡ t = sym ((equal_types_decides t (type_in e)).0 told) in
        let here : e.1 ≡ l = same_Some e.1 l (past true told) in (
          subst (Contains (type_in e ∷ held_types entries)) same (Contains-get_or (type_in e ∷ held_types entries) 0 (type_in e) (omega arith)),
          sym here ∙ All-head (λ (x : Entry). x.1 ≡ layout_of (type_in x)) e entries defined ∙ ap layout_of same,
        )
    by false told rest =
        let further = rest (past false told) in
        (Contains-append_right (type_in e ∷ []) (held_types entries) t further.0, further.1)

-- and a type that it doesn't find isn't held
pub lookup_missing : (entries : List Entry) (t : Ty) → lookup (is_type t) entries ≡ None → ¬ Contains (held_types entries) t
lookup_missing entries t none c =
    let d : Entry = (record { ref_ptr = (0, 0); now = t }, layout_of t) in
    let inside : c.0 < length entries = omega (arith, c.1, length-map entries type_in) in
    let other : is_type t (get_or entries c.0 d).0 ≡ false = All-from_recursion (λ (x : Entry). is_type t x.0 ≡ false) entries (none_passes_from_lookup (is_type t) entries none) c.0 d inside in
    let is : t ≡ type_in (get_or entries c.0 d) = sym c.2 ∙ get_or-map type_in entries c.0 d t inside in
    true≢false (sym ((equal_types_decides t (type_in (get_or entries c.0 d))).1 is) ∙ other)

-- what it doesn't find has no value there
pub none_there : {A : Type 0} (r : Option A) → is_some r ≡ false → r ≡ None
none_there None e = refl
none_there (Some x) e = absurd (true≢false e)

-- ---- a place among the entries

type_of_key : (o : Option Entry) → option_map type_in o ≡ option_map (λ (k : Bor Ty). k.now) (option_map (λ (e : Entry). e.0) o)
type_of_key None = refl
type_of_key (Some e) = refl

-- a place that a look-up gives has the type
pub place_found : (entries : List Entry) (t : Ty) (r : Option ℕ) → r ≡ position (is_type t) (keys_of entries) → IfSome r (λ at. slice_get (held_types entries) at ≡ Some t)
place_found entries t None is = tt
place_found entries t (Some at) is =
    let d : Bor Ty = record { ref_ptr = (0, 0); now = t } in
    let keys = keys_of entries in
    let p = position-Some (is_type t) keys at d (sym is) in
    let same : (get_or keys at d).now ≡ t = sym ((equal_types_decides t (get_or keys at d).now).0 p.1) in
    slice_get-map type_in entries at ∙ type_of_key (slice_get entries at)
    ∙ ap (option_map (λ (k : Bor Ty). k.now)) (sym (slice_get-map (λ (e : Entry). e.0) entries at) ∙ slice_get-get_or keys at d p.0) ∙ ap Some same

-- and where it gives none, the type isn't held
pub place_missing : (entries : List Entry) (t : Ty) (r : Option ℕ) → is_some r ≡ is_some (lookup (is_type t) entries) → IfNone r (¬ Contains (held_types entries) t)
place_missing entries t None is = lookup_missing entries t (none_there (lookup (is_type t) entries) (sym is))
place_missing entries t (Some at) is = tt

-- the place of a type that is held is one of an entry
pub place_within : (entries : List Entry) (t : Ty) (at : ℕ) → slice_get (held_types entries) at ≡ Some t → at < length entries
place_within entries t at found = let inside : at < length (held_types entries) = slice_get_within (held_types entries) at t found in omega (arith, length-map entries type_in)

-- and what is kept there is the layout of the type
pub kept_at : (entries : List Entry) (t : Ty) (at : ℕ) (l : Layout) → AreDefined entries → slice_get (held_types entries) at ≡ Some t → slice_get (values_of entries) at ≡ Some l
    → Contains (held_types entries) t × (l ≡ layout_of t)
kept_at entries t at l defined found value = by (slice_get entries at) refl
  where
    by : (o : Option Entry) → slice_get entries at ≡ o → Contains (held_types entries) t × (l ≡ layout_of t)
    by None is = absurd (none-some t (sym (slice_get-map type_in entries at ∙ ap (option_map type_in) is) ∙ found))
    by (Some e) is =
        let same : type_in e ≡ t = same_Some (type_in e) t (sym (slice_get-map type_in entries at ∙ ap (option_map type_in) is) ∙ found) in
        let here : e.1 ≡ l = same_Some e.1 l (sym (slice_get-map (λ (x : Entry). x.1) entries at ∙ ap (option_map (λ (x : Entry). x.1)) is) ∙ value) in
        let read : get_or entries at e ≡ e = get_or_from_slice_get entries at e e is in
        let own : e.1 ≡ layout_of (type_in e) = subst (λ (x : Entry). x.1 ≡ layout_of (type_in x)) read (defined at e (slice_get_within entries at e is)) in (
          (at, slice_get_within (held_types entries) at t found, get_or_from_slice_get (held_types entries) at t t found),
          sym here ∙ own ∙ ap layout_of same,
        )

-- ---- an entry that is put last

-- what a look-up finds is held
pub held_already : (entries : List Entry) (t : Ty) → AreDefined entries → is_some (lookup (is_type t) entries) ≡ true → Contains (held_types entries) t
held_already entries t defined found = by (lookup (is_type t) entries) refl
  where
    by : (r : Option Layout) → lookup (is_type t) entries ≡ r → Contains (held_types entries) t
    by None is = absurd (true≢false (sym found ∙ ap is_some is))
    by (Some l) is = (lookup_found entries t l defined is).0

-- an entry that is put last adds its type
pub added : (entries : List Entry) (t : Bor Ty) (l : Layout) → lookup (is_type t.now) entries ≡ None → Adds (held_types entries) t.now (held_types (entries ++ (t, l) ∷ []))
added entries t l none = inr (lookup_missing entries t.now none, map_push type_in entries (t, l))

-- and the layouts are still those of their types
pub still_defined : (entries : List Entry) (t : Bor Ty) (l : Layout) → AreDefined entries → l ≡ layout_of t.now → AreDefined (entries ++ (t, l) ∷ [])
still_defined entries t l defined is = All-push (λ (x : Entry). x.1 ≡ layout_of (type_in x)) entries (t, l) defined is

-- ---- the types of a list, one after another

-- a further type, which is put last where it isn't held
pub one_more : (old new types : List Ty) (t : Ty) → AreTypesOf old types → Adds old t new → AreTypesOf new (types ++ t ∷ [])
one_more old new types t h adds =
    ⊎_elim
    (λ (w : Contains old t × (new ≡ old)). subst (λ (held : List Ty). AreTypesOf held (types ++ t ∷ [])) (sym w.1) (record {
      all = All-push (Contains old) types t h.all w.0;
      alone = All-weaker (Contains types) (Contains (types ++ t ∷ [])) (λ u c. Contains-append_left types (t ∷ []) u c) old h.alone;
      once = h.once;
    }))
    (λ (w : (¬ Contains old t) × (new ≡ old ++ t ∷ [])). subst (λ (held : List Ty). AreTypesOf held (types ++ t ∷ [])) (sym w.1) (record {
      all = All-push (Contains (old ++ t ∷ [])) types t
          (All-weaker (Contains old) (Contains (old ++ t ∷ [])) (λ u c. Contains-append_left old (t ∷ []) u c) types h.all)
          (Contains-push old t);
      alone = All-push (Contains (types ++ t ∷ [])) old t
          (All-weaker (Contains types) (Contains (types ++ t ∷ [])) (λ u c. Contains-append_left types (t ∷ []) u c) old h.alone)
          (Contains-push types t);
      once = all_pairs_push (λ a b. a ≢ b) old t h.once (λ k d inside e. w.0 (k, inside, get_or_default old k t d inside ∙ e));
    }))
    adds

-- ---- a loop over lent types

abbrev lent : Bor Ty → Ty
lent t = t.now

-- the type that is lent at a place
type_at : (items : List (Bor Ty)) (types : List Ty) (i : ℕ) (t : Bor Ty) → map lent items ≡ types → i < length items → t ≡ get_or items i t → get_or types i t.now ≡ t.now
type_at items types i t same inside is =
    ap (λ (ts : List Ty). get_or ts i t.now) (sym same) ∙ get_or-map lent items i t t.now inside ∙ ap lent (sym is)

place_in : (items : List (Bor Ty)) (types : List Ty) (i : ℕ) → map lent items ≡ types → i < length items → i < length types
place_in items types i same inside = subst (λ (ts : List Ty). i < length ts) same (let e : length (map lent items) ≡ length items = length-map items lent in omega arith)

-- a type out of a list of lent types that are ok
pub ok_item : (items : List (Bor Ty)) (types : List Ty) (i : ℕ) (t : Bor Ty) → map lent items ≡ types → All TypeOk types → i < length items → t ≡ get_or items i t → TypeOk t.now
ok_item items types i t same ok inside is = subst TypeOk (type_at items types i t same inside is) (ok i t.now (place_in items types i same inside))

-- the types of one more of the lent types
pub next_item : (items : List (Bor Ty)) (old new : List Ty) (i : ℕ) (t : Bor Ty) → i < length items → t ≡ get_or items i t → AreTypesOf old (map lent (take i items)) → Adds old t.now new → AreTypesOf new (map lent (take (i + 1) items))
next_item items old new i t inside is h adds =
    let more : map lent (take (i + 1) items) ≡ map lent (take i items) ++ t.now ∷ [] = map_more lent items i t inside ∙ ap (λ (u : Bor Ty). map lent (take i items) ++ u.now ∷ []) (sym is) in
    subst (AreTypesOf new) (sym more) (one_more old new (map lent (take i items)) t.now h adds)

-- at the end they are those of all
pub all_items : (items : List (Bor Ty)) (held types : List Ty) (i : ℕ) → length items ≤ i → map lent items ≡ types → AreTypesOf held (map lent (take i items)) → AreTypesOf held types
all_items items held types i past same h = subst (AreTypesOf held) (ap (map lent) (take_all i items past) ∙ same) h
