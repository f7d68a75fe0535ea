-- The start of a function, one of its locals after another: what is left at each.
use Rattle.mr_frame.proofs.Common.{◌≡◌, ℕ, suc, ◌+◌, ◌<◌, ◌≤◌, refl, sym, ap, ◌∙◌, subst, arith, List, [], ◌∷◌, ◌++◌, length, map, drop, get_or, Option, Some, true, append-nil, append_assoc, add-one, length-drop, drop-cons, drop_all, length-map, same_Some, option_map, All, slice_get, Stop, Function, Local, LocalName, Ty, Pointer, ranges_of, Val, has_shape, Outcome, Refused, Went, on, HaveShapes, World, CanAllocate, HasTypes, allocated_each, stored_each, HasLocals, written_types, all_there, kept_types, local_type, storage_asks, stored_in, kept_locals, all_at, on_itself}
use Rattle.mr_eval.proofs.ShapeOf.{shapes_length}
use Rattle.mr_plan.proofs.LegalLaws.{picks_length}
use Rattle.mr_frame.specs.Beginning.{IsAllocated}
use Rattle.mr_frame.proofs.ActedLaws.{on_same}
use Rattle.mr_frame.proofs.BeginLaws.{allocated_behind, first_can, next_allocated, next_stored, none_allocated, none_stored, rest_can, stop_stored}
use Rattle.mr_frame.proofs.CallSafe.{all_within, types_there}
use Rattle.mr_frame.proofs.Places.{AllWithin}
use Rattle.mr_frame.proofs.TypeRows.{first_there, none_there}

-- ---- types in a row

-- as many as what they are the types of
pub row_length : {A : Type 0} (os : List (Option A)) (xs : List A) → all_there os ≡ Some xs → length xs ≡ length os
row_length [] xs e = ap length (none_there xs e)
row_length (o ∷ os) xs e = let f = first_there o os xs e in ap length f.is ∙ ap suc (row_length os f.rest f.behind)

pub names_length : (fn : Function) (names : List LocalName) (types : List Ty) → written_types fn names ≡ Some types → length types ≡ length names
names_length fn names types e = row_length (map (local_type fn) names) types e ∙ length-map names (local_type fn)

-- the type of the first local, and those of the others
pub record FirstTyped (fn : Function) (names : List LocalName) (types : List Ty) (l : Local) : Type 0 where
  pub rest : List Ty
  pub is : types ≡ l.ty ∷ rest
  pub behind : written_types fn names ≡ Some rest

pub first_typed : (fn : Function) (x : LocalName) (names : List LocalName) (types : List Ty) (l : Local) → slice_get fn.locals x.0 ≡ Some l → written_types fn (x ∷ names) ≡ Some types → FirstTyped fn names types l
first_typed fn x names types l there e =
    let f = first_there (local_type fn x) (map (local_type fn) names) types e in
    let same : f.first ≡ l.ty = same_Some f.first l.ty (sym f.here ∙ ap (λ (o : Option Local). option_map (λ (k : Local). k.ty) o) there) in
    record { rest = f.rest; is = f.is ∙ ap (λ (t : Ty). t ∷ f.rest) same; behind = f.behind }

-- what a function keeps has types
pub names_within : (fn : Function) (names : List LocalName) → All (λ (x : LocalName). x.0 < length fn.locals) names → AllWithin (length fn.locals) names
names_within fn names h = all_within (length fn.locals) names (λ i x e. all_at (λ (y : LocalName). y.0 < length fn.locals) names i x h e)

pub kept_known : (fn : Function) → HasLocals fn → (types : List Ty) × (kept_types fn ≡ Some types)
kept_known fn has = let there = types_there fn (kept_locals fn) (has.ret, names_within fn fn.args has.args) in (there.0, there.1)

-- ---- storage

-- These locals are without storage still, these picks are left, and the others have these pointers.
pub record Allocating (fn : Function) (names : List LocalName) (picks : List ℕ) (first_picks : List ℕ) (first : World) (done : List Pointer) (w : World) : Type 0 where
  pub types : List Ty
  pub typed : written_types fn names ≡ Some types
  pub can : CanAllocate types picks w
  pub so_far : (all : List Ty) → kept_types fn ≡ Some all → allocated_each all first_picks first ≡ on (allocated_each types picks w) (λ ps u. Went (done ++ ps) u)

pub allocating_first : (fn : Function) → HasTypes fn → (picks : List ℕ) (w : World) → ((types : List Ty) → kept_types fn ≡ Some types → CanAllocate types picks w) → Allocating fn (kept_locals fn) picks picks w [] w
allocating_first fn has picks w can =
    let known = kept_known fn has.locals in
    record {
      types = known.0;
      typed = known.1;
      can = can known.0 known.1;
      so_far = λ all e. ap (λ (ts : List Ty). allocated_each ts picks w) (same_Some all known.0 (sym e ∙ known.1)) ∙ sym (on_itself (allocated_each known.0 picks w));
    }

pub picks_left : (fn : Function) (names : List LocalName) (picks first_picks : List ℕ) (first : World) (done : List Pointer) (w : World) → Allocating fn names picks first_picks first done w → length picks ≡ length names
picks_left fn names picks first_picks first done w h =
    picks_length [] (ranges_of w.0) w.1.thread w.1.count (storage_asks h.types) picks h.can.lawful ∙ length-map h.types _ ∙ names_length fn names h.types h.typed

module _ (fn : Function) (x : LocalName) (names : List LocalName) (a : ℕ) (picks first_picks : List ℕ) (first : World) (done : List Pointer) (w : World)
    (h : Allocating fn (x ∷ names) (a ∷ picks) first_picks first done w) (l : Local) (there : slice_get fn.locals x.0 ≡ Some l) where
  row : FirstTyped fn names h.types l
  row = first_typed fn x names h.types l there h.typed

  can_all : CanAllocate (l.ty ∷ row.rest) (a ∷ picks) w
  can_all = subst (λ (ts : List Ty). CanAllocate ts (a ∷ picks) w) row.is h.can

  pub can_here : CanAllocate (l.ty ∷ []) (a ∷ []) w
  can_here = first_can l.ty row.rest a picks w can_all

  pub allocating_next : (after : List Pointer) (v : World) → IsAllocated l.ty a w v done after → Allocating fn names picks first_picks first after v
  allocating_next after v is = record {
    types = row.rest;
    typed = row.behind;
    can = rest_can l.ty row.rest a picks w can_all is.at v is.is;
    so_far = λ all e.
        h.so_far all e
        ∙ ap (λ (ts : List Ty). on (allocated_each ts (a ∷ picks) w) (λ ps u. Went (done ++ ps) u)) row.is
        ∙ ap (λ (o : Outcome (List Pointer) World). on o (λ ps u. Went (done ++ ps) u)) (next_allocated l.ty row.rest a picks w can_all is.at v is.is)
        ∙ allocated_behind (allocated_each row.rest picks v) done is.at
        ∙ on_same (allocated_each row.rest picks v) _ _ (λ ps u. ap (λ (qs : List Pointer). Went qs u) (sym (append_assoc done (is.at ∷ []) ps) ∙ ap (λ (qs : List Pointer). qs ++ ps) (sym is.joins)));
  }

-- all have storage
pub allocating_last : (fn : Function) (picks first_picks : List ℕ) (first : World) (done : List Pointer) (w : World) → Allocating fn [] picks first_picks first done w
    → (all : List Ty) → kept_types fn ≡ Some all → allocated_each all first_picks first ≡ Went done w
allocating_last fn picks first_picks first done w h all e =
    h.so_far all e
    ∙ (λ i. on (allocated_each (none_there h.types h.typed i) (no_picks picks (picks_left fn [] picks first_picks first done w h) i) w) (λ ps u. Went (done ++ ps) u))
    ∙ ap (λ (o : Outcome (List Pointer) World). on o (λ ps u. Went (done ++ ps) u)) (none_allocated w)
    ∙ ap (λ (qs : List Pointer). Went qs w) (append-nil done)
  where
    no_picks : (ps : List ℕ) → length ps ≡ 0 → ps ≡ []
    no_picks [] k = refl
    no_picks (p ∷ ps) k = absurd (omega arith)

-- the return local comes first
module _ (fn : Function) (has : HasTypes fn) (picks : List ℕ) (w : World) (can : (types : List Ty) → kept_types fn ≡ Some types → CanAllocate types picks w) where
  pub start_inside : 0 < length picks
  start_inside = let left = picks_left fn (kept_locals fn) picks picks w [] w (allocating_first fn has picks w can) in omega arith

  start_cut : Allocating fn (kept_locals fn) (get_or picks 0 0 ∷ drop 1 picks) picks w [] w
  start_cut = subst (λ (ps : List ℕ). Allocating fn (kept_locals fn) ps picks w [] w) (drop-cons picks 0 0 start_inside) (allocating_first fn has picks w can)

  module _ (l : Local) (there : slice_get fn.locals fn.ret.0 ≡ Some l) where
    pub start_can : CanAllocate (l.ty ∷ []) (get_or picks 0 0 ∷ []) w
    start_can = can_here fn fn.ret fn.args (get_or picks 0 0) (drop 1 picks) picks w [] w start_cut l there

    pub start_next : (names : List LocalName) → names ≡ fn.args → (before after : List Pointer) → before ≡ [] → (v : World) → IsAllocated l.ty (get_or picks 0 0) w v before after → Allocating fn names (drop 1 picks) picks w after v
    start_next names same before after none v is =
        subst (λ (xs : List LocalName). Allocating fn xs (drop 1 picks) picks w after v) (sym same)
        (allocating_next fn fn.ret fn.args (get_or picks 0 0) (drop 1 picks) picks w [] w start_cut l there after v (subst (λ (qs : List Pointer). IsAllocated l.ty (get_or picks 0 0) w v qs after) none is))

-- the same by the positions at which a loop stands
module _ (fn : Function) (xs : List LocalName) (k : ℕ) (d : LocalName) (picks : List ℕ) (first : World) (done : List Pointer) (w : World) where
  pub allocating_cut : k < length xs → Allocating fn (drop k xs) (drop (k + 1) picks) picks first done w
      → (k + 1 < length picks) × Allocating fn (get_or xs k d ∷ drop (k + 1) xs) (get_or picks (k + 1) 0 ∷ drop (k + 1 + 1) picks) picks first done w
  allocating_cut lt h =
      let left = picks_left fn (drop k xs) (drop (k + 1) picks) picks first done w h in
      let inside : k + 1 < length picks = omega (arith, left, length-drop k xs, length-drop (k + 1) picks) in (
        inside,
        subst (λ (z : List LocalName × List ℕ). Allocating fn z.0 z.1 picks first done w)
            (λ i. (
              (drop-cons xs k d lt ∙ ap (λ n. get_or xs k d ∷ drop n xs) (sym (add-one k))) i,
              (drop-cons picks (k + 1) 0 inside ∙ ap (λ n. get_or picks (k + 1) 0 ∷ drop n picks) (sym (add-one (k + 1)))) i,
            ))
            h,
      )

  pub allocating_end : length xs ≤ k → Allocating fn (drop k xs) (drop (k + 1) picks) picks first done w → (all : List Ty) → kept_types fn ≡ Some all → allocated_each all picks first ≡ Went done w
  allocating_end le h =
      allocating_last fn (drop (k + 1) picks) picks first done w (subst (λ (ys : List LocalName). Allocating fn ys (drop (k + 1) picks) picks first done w) (drop_all k xs le) h)

-- ---- stores

-- These arguments are not stored still.
pub record Storing (fn : Function) (names : List LocalName) (ps : List Pointer) (vs : List Val) (first_ps : List Pointer) (first_vs : List Val) (first w : World) : Type 0 where
  pub types : List Ty
  pub typed : written_types fn names ≡ Some types
  pub shapes : HaveShapes types vs
  pub many : length ps ≡ length names
  pub so_far : (all : List Ty) → written_types fn fn.args ≡ Some all → stored_each all first_ps first_vs first ≡ stored_each types ps vs w

pub storing_first : (fn : Function) → HasTypes fn → (ps : List Pointer) (vs : List Val) (w : World) → ((types : List Ty) → written_types fn fn.args ≡ Some types → HaveShapes types vs) → length ps ≡ length fn.args → Storing fn fn.args ps vs ps vs w w
storing_first fn has ps vs w shapes many =
    let there = types_there fn fn.args (names_within fn fn.args has.locals.args) in
    record {
      types = there.0;
      typed = there.1;
      shapes = shapes there.0 there.1;
      many = many;
      so_far = λ all e. ap (λ (ts : List Ty). stored_each ts ps vs w) (same_Some all there.0 (sym e ∙ there.1));
    }

-- as many arguments as locals
pub args_left : (fn : Function) (names : List LocalName) (ps first_ps : List Pointer) (vs first_vs : List Val) (first w : World) → Storing fn names ps vs first_ps first_vs first w → length vs ≡ length names
args_left fn names ps first_ps vs first_vs first w h = shapes_length h.types vs h.shapes ∙ names_length fn names h.types h.typed

module _ (fn : Function) (x : LocalName) (names : List LocalName) (p : Pointer) (ps first_ps : List Pointer) (v : Val) (vs first_vs : List Val) (first w : World)
    (h : Storing fn (x ∷ names) (p ∷ ps) (v ∷ vs) first_ps first_vs first w) (l : Local) (there : slice_get fn.locals x.0 ≡ Some l) where
  stored_row : FirstTyped fn names h.types l
  stored_row = first_typed fn x names h.types l there h.typed

  shapes_all : (has_shape l.ty v ≡ true) × HaveShapes stored_row.rest vs
  shapes_all = subst (λ (ts : List Ty). HaveShapes ts (v ∷ vs)) stored_row.is h.shapes

  pub shape_here : has_shape l.ty v ≡ true
  shape_here = shapes_all.0

  pub storing_next : (u : World) → stored_in l.ty p v w ≡ Went tt u → Storing fn names ps vs first_ps first_vs first u
  storing_next u e = record {
    types = stored_row.rest;
    typed = stored_row.behind;
    shapes = shapes_all.1;
    many = (let many = h.many in omega arith);
    so_far = λ all k.
        h.so_far all k
        ∙ ap (λ (ts : List Ty). stored_each ts (p ∷ ps) (v ∷ vs) w) stored_row.is
        ∙ next_stored l.ty stored_row.rest p ps v vs w u e;
  }

  pub storing_stops : (r : Stop) → stored_in l.ty p v w ≡ Refused r → (all : List Ty) → written_types fn fn.args ≡ Some all → stored_each all first_ps first_vs first ≡ Refused r
  storing_stops r e all k =
      h.so_far all k
      ∙ ap (λ (ts : List Ty). stored_each ts (p ∷ ps) (v ∷ vs) w) stored_row.is
      ∙ stop_stored l.ty stored_row.rest p ps v vs w r e

-- all are stored
pub storing_last : (fn : Function) (names : List LocalName) (ps first_ps : List Pointer) (first_vs : List Val) (first w : World) → Storing fn names ps [] first_ps first_vs first w
    → (all : List Ty) → written_types fn fn.args ≡ Some all → stored_each all first_ps first_vs first ≡ Went tt w
storing_last fn names ps first_ps first_vs first w h all e =
    let none = args_left fn names ps first_ps [] first_vs first w h in
    let many = h.many in
    h.so_far all e
    ∙ (λ i. stored_each (nothing h.types (sym (shapes_length h.types [] h.shapes)) i) (nothing ps (many ∙ sym none) i) [] w)
    ∙ none_stored w
  where
    nothing : {A : Type 0} (zs : List A) → length zs ≡ 0 → zs ≡ []
    nothing [] k = refl
    nothing (z ∷ zs) k = absurd (omega (arith, k))

-- the same by the positions at which a loop stands
module _ (fn : Function) (xs : List LocalName) (k : ℕ) (dx : LocalName) (ps : List Pointer) (dp : Pointer) (vs : List Val) (dv : Val) (first w : World) where
  abbrev pub StoringAt : Type 0
  StoringAt = Storing fn (drop k xs) (drop (k + 1) ps) (drop k vs) (drop 1 ps) vs first w

  pub storing_inside : k < length vs → StoringAt → (k < length xs) × (k + 1 < length ps)
  storing_inside lt h =
      let left = args_left fn (drop k xs) (drop (k + 1) ps) (drop 1 ps) (drop k vs) vs first w h in
      let many = h.many in
      let a : k < length xs = omega (arith, left, length-drop k xs, length-drop k vs) in
      (a, omega (arith, many, length-drop k xs, length-drop (k + 1) ps))

  pub storing_cut : k < length vs → StoringAt → Storing fn (get_or xs k dx ∷ drop (k + 1) xs) (get_or ps (k + 1) dp ∷ drop (k + 1 + 1) ps) (get_or vs k dv ∷ drop (k + 1) vs) (drop 1 ps) vs first w
  storing_cut lt h =
      let inside = storing_inside lt h in
      subst (λ (z : List LocalName × List Pointer × List Val). Storing fn z.0 z.1 z.2 (drop 1 ps) vs first w)
      (λ i. (
        (drop-cons xs k dx inside.0 ∙ ap (λ n. get_or xs k dx ∷ drop n xs) (sym (add-one k))) i,
        (drop-cons ps (k + 1) dp inside.1 ∙ ap (λ n. get_or ps (k + 1) dp ∷ drop n ps) (sym (add-one (k + 1)))) i,
        (drop-cons vs k dv lt ∙ ap (λ n. get_or vs k dv ∷ drop n vs) (sym (add-one k))) i,
      ))
      h

pub storing_end : (fn : Function) (xs : List LocalName) (k : ℕ) (ps : List Pointer) (vs : List Val) (first w : World) → length vs ≤ k → Storing fn (drop k xs) (drop (k + 1) ps) (drop k vs) (drop 1 ps) vs first w
    → (all : List Ty) → written_types fn fn.args ≡ Some all → stored_each all (drop 1 ps) vs first ≡ Went tt w
storing_end fn xs k ps vs first w le h =
    storing_last fn (drop k xs) (drop (k + 1) ps) (drop 1 ps) vs first w (subst (λ (ys : List Val). Storing fn (drop k xs) (drop (k + 1) ps) ys (drop 1 ps) vs first w) (drop_all k vs le) h)
