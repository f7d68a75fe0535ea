-- What a legal start makes: as many pointers as pieces, and a frame of the main function.
use Rattle.mr_start.proofs.Common.{◌≡◌, ◌^◌, subst, ℕ, suc, ◌+◌, ◌-◌, ◌≤◌, refl, sym, ap, ◌∙◌, arith, List, [], ◌∷◌, ◌++◌, length, map, drop, replicate, length-append, length-drop, length-map, length-set, length-replicate, All, Some, None, Option, Bool, true, false, ◌&&◌, ◌==◌, ◌<◌, slice_get, slice_set, same_Some, and_parts, Pointer, Enabled, Local, Global_, Program, Memory, Ranges, allocated, range_fault, with_range, items_size, WellFormed, HaveRoom, IsPossible, no_faults, set_here, address_fault, picks_fault, Piece, ask_of, function_piece, global_piece, look_of, pieces, placed, return_piece, start_fault, start_frame, start_locals, start_placed, item_there, all_at}
use Rattle.std.proofs.Common.{lit<}
use Rattle.std.proofs.lemmas.List.{length-take-le}
use Rattle.std.specs.Prelude.{is_some, nat_le}
use Rattle.std.specs.List.{list_all}
use Rattle.std.specs.Option.{option_and_then}
use Rattle.std.proofs.lemmas.Bool.Decides.{nat_tests}
use Rattle.std.proofs.lemmas.List.Elements.{All-append, All-cons, All-head, All-nil, All-tail}
use Rattle.mr_ast.specs.Shaped.{Shaped, ShapedFunction}
use Rattle.mr_ast.specs.declared.program.Function.{Function}
use Rattle.mr_ast.specs.declared.program.LocalName.{LocalName}
use Rattle.mr_layout.specs.Rules.{is_align}
use Rattle.mr_layout.specs.TypeOk.{TypeOk}
use Rattle.mr_layout.proofs.Bounds.{type_ok_small}
use Rattle.mr_typing.specs.Unbroken.{UnbrokenFunction, UnbrokenGlobal}
use Rattle.mr_typing.proofs.UnbrokenLaws.{well_formed_keeps}
use Rattle.mr_frame.specs.Fits.{FitsFrame}
use Rattle.mr_frame.specs.Sites.{has_storage}
use Rattle.mr_start.specs.Start.{local_piece}
use Rattle.mr_frame.proofs.AlignPowers.{align_power, type_ok_power}
use Rattle.mr_base.proofs.Comparisons.{le_from}
use Rattle.std.specs.FinMap as fin
use Rattle.mr_start.proofs.Overlaps.{id_of}

-- picks that break no rule give a pointer for each piece
pub placed_length : (m : Memory) (rs : Ranges) (count : ℕ) (ps : List Piece) (picks : List ℕ) → picks_fault (Enabled ∷ []) rs 0 count (map ask_of ps) picks ≡ None → length (placed m count ps picks).pointers ≡ length ps
placed_length m rs count [] picks h = refl
placed_length m rs count (p ∷ ps) [] h = absurd (cc)
placed_length m rs count (p ∷ ps) (addr ∷ picks) h =
    ap (λ n. suc n) (placed_length (allocated m (id_of 0 count) p.kind p.size p.align addr) (with_range rs (id_of 0 count) addr p.size) (count + 1) ps picks (no_faults (address_fault (range_fault rs addr p.size p.align)) _ h).1)

-- the main function, and its return local
pub record HasMain (p : Program) : Type 0 where
  pub function : Function
  pub is : slice_get p.functions p.start.0 ≡ Some function
  pub shaped : ShapedFunction p function
  pub local : Local
  pub here : slice_get function.locals function.ret.0 ≡ Some local

pub has_main : (p : Program) → Shaped p → HasMain p
has_main p shaped =
    let f = item_there p.functions p.start.0 shaped.start in
    let k = all_at (ShapedFunction p) p.functions p.start.0 f.0 shaped.functions f.1 in
    let l = item_there f.0.locals f.0.ret.0 k.ret in
    record { function = f.0; is = f.1; shaped = k; local = l.0; here = l.1 }

pub return_is : (p : Program) (h : HasMain p) → return_piece (slice_get p.functions p.start.0) ≡ local_piece (Some h.local)
return_is p h = ap return_piece h.is ∙ ap local_piece h.here

pub pieces_length : (p : Program) → Shaped p → length (pieces p) ≡ length p.functions + (length p.globals + 1)
pieces_length p shaped =
    let h = has_main p shaped in
    length-append (map function_piece p.functions) (map global_piece p.globals ++ return_piece (slice_get p.functions p.start.0))
    ∙ ap (λ n. n + length (map global_piece p.globals ++ return_piece (slice_get p.functions p.start.0))) (length-map p.functions function_piece)
    ∙ ap (λ n. length p.functions + n)
    (length-append (map global_piece p.globals) (return_piece (slice_get p.functions p.start.0))
    ∙ ap (λ n. n + length (return_piece (slice_get p.functions p.start.0))) (length-map p.globals global_piece)
    ∙ ap (λ ps. length p.globals + length ps) (return_is p h))

module _ (p : Program) (shaped : Shaped p) (picks : List ℕ) (legal : start_fault p picks ≡ None) where
  pub pointers_length : length (start_placed p picks).pointers ≡ length p.functions + (length p.globals + 1)
  unfolding start_fault
  pointers_length = placed_length fin.empty [] 0 (pieces p) picks legal ∙ pieces_length p shaped

  pub functions_length : length (look_of p picks).functions ≡ length p.functions
  unfolding look_of
  functions_length = length-take-le (length p.functions) (start_placed p picks).pointers (let e = pointers_length in omega arith)

  pub globals_length : length (look_of p picks).globals ≡ length p.globals
  unfolding look_of
  globals_length =
      let rest : length (drop (length p.functions) (start_placed p picks).pointers) ≡ length (start_placed p picks).pointers - length p.functions = length-drop (length p.functions) (start_placed p picks).pointers in
      let all = pointers_length in
      length-take-le (length p.globals) (drop (length p.functions) (start_placed p picks).pointers) (omega arith)

-- the main function takes no argument
pub no_argument : (p : Program) → WellFormed p → (h : HasMain p) → h.function.args ≡ []
no_argument p well h = by_length h.function.args (by_form (slice_get p.functions p.start.0) h.is (well_formed_keeps p well).main)
  where
    by_length : (xs : List LocalName) → (length xs == 0) ≡ true → xs ≡ []
    by_length [] e = refl
    by_length (x ∷ xs) e = absurd (let k : suc (length xs) ≡ 0 = grind (arith, nat_tests) in omega (arith, k))

    by_form : (o : Option Function) → o ≡ Some h.function → (elim o as (λ _. Bool) [ Some f ↦ length f.args == 0 | None ↦ false ]) ≡ true → (length h.function.args == 0) ≡ true
    by_form None is e = absurd (cc)
    by_form (Some f) is e = subst (λ (g : Function). (length g.args == 0) ≡ true) (same_Some f h.function is) e

-- the first frame of the main function, whose return local has storage
pub start_fits : (p : Program) → WellFormed p → (ret : Pointer) → FitsFrame p (start_frame p (Some ret))
start_fits p well ret =
    let h = has_main p well.shaped in
    let f = h.function in
    let first = item_there f.blocks 0 h.shaped.has_start in
    let none : List (Option Pointer) = replicate (length f.locals) None in
    let locals : start_locals (slice_get p.functions p.start.0) (Some ret) ≡ slice_set none f.ret.0 (Some ret) = ap (λ (o : Option Function). start_locals o (Some ret)) h.is in
    let lt : f.ret.0 < length none = (let k = length-replicate (length f.locals) (let n : Option Pointer = None in n) in let r = h.shaped.ret in omega (arith, k, r)) in
    let stored : has_storage (slice_set none f.ret.0 (Some ret)) f.ret ≡ true = ap (λ (o : Option (Option Pointer)). is_some (option_and_then (λ s. s) o)) (set_here none f.ret.0 (Some ret) lt) in
    record {
      function = f;
      is = h.is;
      locals = ap length locals ∙ length-set none f.ret.0 (Some ret) ∙ length-replicate (length f.locals) None;
      kept = (λ i. list_all (has_storage (locals i)) (f.ret ∷ no_argument p well h i)) ∙ ap (λ b. b && true) stored;
      block = first.0;
      here = first.1;
      at = omega arith;
    }

-- ---- what the start can allocate

all_turned : {A : Type 0} (P Q : A → Type 0) → ((x : A) → P x → Q x) → (xs : List A) → All P xs → All Q xs
all_turned P Q turn [] h = All-nil Q
all_turned P Q turn (x ∷ xs) h = All-cons Q x xs (turn x (All-head P x xs h)) (all_turned P Q turn xs (All-tail P x xs h))

all_mapped : {A B : Type 0} (f : A → B) (P : A → Type 0) (Q : B → Type 0) → ((x : A) → P x → Q (f x)) → (xs : List A) → All P xs → All Q (map f xs)
all_mapped f P Q turn [] h = All-nil Q
all_mapped f P Q turn (x ∷ xs) h = All-cons Q (f x) (map f xs) (turn x (All-head P x xs h)) (all_mapped f P Q turn xs (All-tail P x xs h))

pub all_behind : {A B : Type 0} (f : A → B) (Q : B → Type 0) (xs : List A) → All Q (map f xs) → All (λ x. Q (f x)) xs
all_behind f Q [] h = All-nil (λ x. Q (f x))
all_behind f Q (x ∷ xs) h = All-cons (λ y. Q (f y)) x xs (All-head Q (f x) (map f xs) h) (all_behind f Q xs (All-tail Q (f x) (map f xs) h))

pub have_room : (p : Program) → WellFormed p → HaveRoom p.globals
have_room p well =
    all_turned (UnbrokenGlobal p) (λ (g : Global_). items_size g.items ≤ 2 ^ 20)
    (λ g h. le_from (items_size g.items) (2 ^ 20) (and_parts (nat_le (items_size g.items) (2 ^ 20)) (is_align g.align) h.form).0) p.globals (well_formed_keeps p well).globals

function_possible : (fs : List Function) → All IsPossible (map function_piece fs)
function_possible [] = All-nil IsPossible
function_possible (f ∷ fs) = All-cons IsPossible (function_piece f) (map function_piece fs) (record { size = lit< tt; align = (0, refl); asked = (refl, refl) }) (function_possible fs)

global_possible : (p : Program) (g : Global_) → UnbrokenGlobal p g → IsPossible (global_piece g)
global_possible p g h =
    let parts = and_parts (nat_le (items_size g.items) (2 ^ 20)) (is_align g.align) h.form in
    let small = le_from (items_size g.items) (2 ^ 20) parts.0 in
    record { size = omega arith; align = align_power g.align parts.1; asked = tt }

pub pieces_possible : (p : Program) → WellFormed p → All IsPossible (pieces p)
pieces_possible p well =
    let h = has_main p well.shaped in
    let ok = all_at (λ (l : Local). TypeOk l.ty) h.function.locals h.function.ret.0 h.local
    (all_at (UnbrokenFunction p) p.functions p.start.0 h.function (well_formed_keeps p well).functions h.is).locals h.here in
    let small = type_ok_small h.local.ty ok in
    let last : All IsPossible (return_piece (slice_get p.functions p.start.0)) =
    subst (All IsPossible) (sym (return_is p h))
    (All-cons IsPossible _ [] (record { size = omega arith; align = type_ok_power h.local.ty ok; asked = tt }) (All-nil IsPossible)) in
    All-append IsPossible (map function_piece p.functions) (map global_piece p.globals ++ return_piece (slice_get p.functions p.start.0)) (function_possible p.functions)
    (All-append IsPossible (map global_piece p.globals) (return_piece (slice_get p.functions p.start.0))
    (all_mapped global_piece (UnbrokenGlobal p) IsPossible (global_possible p) p.globals (well_formed_keeps p well).globals) last)
