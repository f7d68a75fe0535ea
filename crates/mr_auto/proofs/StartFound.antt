-- An address is found for all that the start of a well-formed program allocates.
use Rattle.mr_auto.proofs.Common.{◌≡◌, ℕ, zero, suc, ◌+◌, ◌*◌, ◌<◌, ◌≤◌, ◌^◌, ◌-◌, ◌%◌, refl, sym, ap, ap₂, ◌∙◌, subst, arith, List, [], ◌∷◌, ◌++◌, length, map, Bool, true, false, Some, None, ◌==◌, nat_lt, if◌then◌else◌, slice_get, mod-lt, Program, Status, Enabled, address_from, aligned_from, behind_address, behind_bytes, first_chooser, has_address, Chooser, WellFormed, Piece, ask_of, pieces, Picked, found, picked, put, start_picked}
use Rattle.std.specs.Prelude.{All, count_ones, nat_le}
use Rattle.std.proofs.lemmas.Bool.{lt-ltb, and_parts}
use Rattle.std.proofs.lemmas.Bool.Decides.{nat_tests}
use Rattle.std.proofs.lemmas.List.Elements.{All-append, All-cons, All-head, All-nil, All-tail}
use Rattle.mr_ast.specs.declared.program.Function.{Function}
use Rattle.mr_ast.specs.declared.program.Global_.{Global_}
use Rattle.mr_ast.specs.declared.program.Local.{Local}
use Rattle.mr_base.proofs.Comparisons.{le_from}
use Rattle.mr_layout.specs.Rules.{is_align}
use Rattle.mr_layout.specs.TypeOk.{TypeOk}
use Rattle.mr_layout.proofs.Bounds.{type_ok_small}
use Rattle.mr_typing.specs.Broken.{items_size}
use Rattle.mr_typing.specs.Unbroken.{UnbrokenFunction, UnbrokenGlobal}
use Rattle.mr_typing.proofs.UnbrokenLaws.{well_formed_keeps}
use Rattle.mr_layout.proofs.Aligned.{type_ok_aligned}
use Rattle.mr_start.specs.Start.{function_piece, global_piece, return_piece}
use Rattle.mr_start.proofs.StartFacts.{has_main, pieces_length, return_is}
use Rattle.mr_base.proofs.Lists.{all_at}

-- ---- small pieces

pub record IsLow (p : Piece) : Type 0 where
  pub some : 0 < p.align
  pub align : p.align ≤ 4096
  pub size : p.size ≤ 1048576

power_some : (n : ℕ) → is_align n ≡ true → 0 < n
unfolding lib.Count.ones
power_some zero e =
    let one = (and_parts (count_ones 0 == 1) (nat_le 0 4096) e).0 in
    let none : (count_ones 0 == 1) ≡ false = refl in
    absurd (cc)
power_some (suc n) e = omega arith

power_low : (n : ℕ) → is_align n ≡ true → n ≤ 4096
power_low n e = le_from n 4096 (and_parts (count_ones n == 1) (nat_le n 4096) e).1

functions_low : (fs : List Function) → All IsLow (map function_piece fs)
functions_low [] = All-nil IsLow
functions_low (f ∷ fs) = All-cons IsLow (function_piece f) (map function_piece fs) (record { some = omega arith; align = omega arith; size = omega arith }) (functions_low fs)

globals_low : (p : Program) (gs : List Global_) → All (UnbrokenGlobal p) gs → All IsLow (map global_piece gs)
globals_low p [] h = All-nil IsLow
globals_low p (g ∷ gs) h =
    let parts = and_parts (nat_le (items_size g.items) (2 ^ 20)) (is_align g.align) (All-head (UnbrokenGlobal p) g gs h).form in
    let small = le_from (items_size g.items) (2 ^ 20) parts.0 in
    All-cons IsLow (global_piece g) (map global_piece gs) (record { some = power_some g.align parts.1; align = power_low g.align parts.1; size = omega arith }) (globals_low p gs (All-tail (UnbrokenGlobal p) g gs h))

pieces_low : (p : Program) → WellFormed p → All IsLow (pieces p)
pieces_low p well =
    let h = has_main p well.shaped in
    let ok = all_at (λ (l : Local). TypeOk l.ty) h.function.locals h.function.ret.0 h.local
    (all_at (UnbrokenFunction p) p.functions p.start.0 h.function (well_formed_keeps p well).functions h.is).locals h.here in
    let small = type_ok_small h.local.ty ok in
    let power = (type_ok_aligned h.local.ty ok).power in
    let last : All IsLow (return_piece (slice_get p.functions p.start.0)) =
    subst (All IsLow) (sym (return_is p h))
    (All-cons IsLow _ [] (record { some = power_some _ power; align = power_low _ power; size = omega arith }) (All-nil IsLow)) in
    All-append IsLow (map function_piece p.functions) (map global_piece p.globals ++ return_piece (slice_get p.functions p.start.0)) (functions_low p.functions)
    (All-append IsLow (map global_piece p.globals) (return_piece (slice_get p.functions p.start.0)) (globals_low p p.globals (well_formed_keeps p well).globals) last)

-- ---- an address for each

bytes_most : (b : Bool) (addr size : ℕ) → addr + (if b then size else 1) ≤ addr + size + 1
bytes_most true addr size = omega arith
bytes_most false addr size = omega arith

-- an address is found for so few bytes, and little is passed over
pub record FoundLow (c : Chooser) (size align : ℕ) : Type 0 where
  pub is : found c size align ≡ Some (aligned_from c.next align)
  pub near : (behind_address c size align).next ≤ c.next + 2097152

align_test : (n : ℕ) → 0 < n → (n == 0) ≡ false
align_test n lt = grind (arith, nat_tests)

found_low : (c : Chooser) (size align : ℕ) → 0 < align → align ≤ 4096 → size ≤ 1048576 → c.next < 2 ^ 63 → FoundLow c size align
found_low c size align some few small low =
    let rest : (align - c.next % align) % align < align = mod-lt (align - c.next % align) some in
    let end = bytes_most (nat_lt 0 size) (aligned_from c.next align) size in
    let room : has_address c.next size align ≡ true = lt-ltb (behind_bytes (aligned_from c.next align) size) (2 ^ 64) (omega arith) in
    let next : (behind_address c size align).next ≡ behind_bytes (aligned_from c.next align) size = ap (λ (x : Bool). if x then behind_bytes (aligned_from c.next align) size else c.next) room in
    record {
      is = ap (λ (x : Bool). if x then None else address_from c.next size align) (align_test align some) ∙ ap (λ (x : Bool). if x then Some (aligned_from c.next align) else None) room;
      near = omega arith;
    }

all_found : (statuses : List Status) (c : Chooser) (ps : List Piece) → All IsLow ps → c.next + length ps * 2097152 < 2 ^ 63 → (r : Picked) × (picked statuses c (map ask_of ps) ≡ Some r)
all_found statuses c [] h low = (record { picks = []; chooser = c }, refl)
all_found statuses c (p ∷ ps) h low =
    let here = All-head IsLow p ps h in
    let f = found_low c p.size p.align here.some here.align here.size (omega arith) in
    let near = f.near in
    let rest = all_found statuses (behind_address c p.size p.align) ps (All-tail IsLow p ps h) (omega arith) in
    (record { picks = aligned_from c.next p.align ∷ rest.0.picks; chooser = rest.0.chooser }, ap₂ put f.is rest.1)

pub start_found : (p : Program) → WellFormed p → (number : ℕ) → (r : Picked) × (start_picked p number ≡ Some r)
start_found p well number =
    let many = pieces_length p well.shaped in
    let functions = well.shaped.few_functions in
    let globals = well.shaped.few_globals in
    all_found (Enabled ∷ []) (first_chooser number) (pieces p) (pieces_low p well) (omega arith)
