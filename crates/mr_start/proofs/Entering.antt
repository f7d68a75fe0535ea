-- What the main function's frame is at the start, behind the allocations of functions and globals.
use Rattle.mr_start.proofs.Common.{◌≡◌, ℕ, ◌+◌, ◌≤◌, refl, sym, ap, ◌∙◌, subst, arith, List, [], ◌∷◌, ◌++◌, length, map, drop, take, replicate, length-append, length-take-le, length-drop, append_assoc, length-map, Some, None, Option, slice_get, Local, Program, Pointer, Status, Enabled, Allocation, Memory, Ranges, allocated, range_fault, ranges_of, Address, Outcome, Went, on, WellFormed, pointer_to, Fault, address_fault, else_fault, fault, picks_fault, picks_length, Frame, Stack, before_frame, fault_over, first_placed, own_id, pieces_fault, return_pointer, new_thread, Piece, ask_of, function_piece, global_piece, look_of, pieces, placed, return_piece, start_fault, start_frame, start_locals, start_placed}
use Rattle.std.proofs.lemmas.List.{drop-append-le, take-append-le}
use Rattle.std.proofs.Math.Seq.{drop-append_seam, take-append_seam}
use Rattle.std.specs.Option.{option_map}
use Rattle.mr_layout.specs.Sizes.{align_of, size_of}
use Rattle.mr_mem.proofs.RangeLaws.{ranges-empty}
use Rattle.mr_base.proofs.ScriptSwaps.{same_state, same_value}
use Rattle.mr_eval.specs.Tally.{start_tally}
use Rattle.mr_eval.specs.World.{World}
use Rattle.mr_frame.specs.Beginning.{CanAllocate, CanBegin, IsBottom, allocated_each, stored_each}
use Rattle.mr_frame.specs.Calls.{behind_first, first_frame, kept_types, local_type, all_there, with_each}
use Rattle.mr_frame.specs.Effects.{entered}
use Rattle.mr_frame.specs.Kept.{IsReady}
use Rattle.mr_frame.specs.Standing.{IsUncounted}
use Rattle.mr_frame.proofs.BeginLaws.{entered_is, none_stored}
use Rattle.mr_frame.proofs.Frames.{function_keeps}
use Rattle.mr_start.specs.Start.{Placed}
use Rattle.std.specs.FinMap as fin
use Rattle.mr_base.specs.declared.byte.Kind.TheVariants.{Stack as OnStack}
use Rattle.mr_frame.proofs.PlanRooms.{behind as at_last}
use Rattle.mr_frame.specs.declared.look.Look.{Look as KeptLook}
use Rattle.mr_start.proofs.PlacedLaws.{InTwo, in_two}
use Rattle.mr_start.proofs.StartFacts.{HasMain, has_main, no_argument, pieces_length, pointers_length, return_is}
use Rattle.mr_start.proofs.StartStores.{AreCounted, none_counted, placed_counted}
use Rattle.mr_sched.specs.declared.rule.ScheduleRule.TheVariants as rule

-- ---- a single pick

-- one address is asked for: there is one, and its range is free
pub record OneAddress (rs : Ranges) (size align : ℕ) (picks : List ℕ) : Type 0 where
  pub addr : ℕ
  pub is : picks ≡ addr ∷ []

one_address : (ss : List Status) (rs : Ranges) (t count size align : ℕ) (picks : List ℕ) → picks_fault ss rs t count (Address size align ∷ []) picks ≡ None → OneAddress rs size align picks
one_address ss rs t count size align [] h = absurd (cc)
one_address ss rs t count size align (addr ∷ []) h = record { addr = addr; is = refl }
one_address ss rs t count size align (addr ∷ more ∷ picks) h = absurd (by_first (address_fault (range_fault rs addr size align)) h)
  where
    by_first : (o : Option Fault) → else_fault o (fault rule.ExtraPick) ≡ None → ⊥
    by_first None k = cc
    by_first (Some f) k = cc

-- no status is looked at
any_statuses : (ss : List Status) (rs : Ranges) (t count size align : ℕ) (picks : List ℕ) → picks_fault ss rs t count (Address size align ∷ []) picks ≡ None → picks_fault [] rs t count (Address size align ∷ []) picks ≡ None
any_statuses ss rs t count size align [] h = h
any_statuses ss rs t count size align (addr ∷ []) h = h
any_statuses ss rs t count size align (addr ∷ more ∷ picks) h = h

-- no identity is counted that a thread has not made
uncounted : (m : Memory) (count : ℕ) → AreCounted m count → IsUncounted m 0 count
uncounted m count h id thread le = by_entry (fin.get m id) refl
  where
    by_entry : (o : Option Allocation) → fin.get m id ≡ o → fin.get m id ≡ None
    by_entry None e = e
    by_entry (Some a) e = absurd (let lt = (h id a e).1 in omega arith)

-- ---- a legal start line

module _ (p : Program) (well : WellFormed p) (picks : List ℕ) (legal : start_fault p picks ≡ None) where
  abbrev main : HasMain p
  main = has_main p well.shaped

  abbrev n : ℕ
  n = before_frame p

  abbrev size : ℕ
  size = size_of main.local.ty

  abbrev align : ℕ
  align = align_of main.local.ty

  abbrev last : Piece
  last = record { kind = OnStack; size = size; align = align }

  -- the functions and the globals, and the return local
  many : n ≤ length (pieces p)
  many = let e = pieces_length p well.shaped in omega arith

  two : InTwo n fin.empty 0 (pieces p) picks
  unfolding start_fault
  two = in_two n fin.empty 0 (pieces p) picks many (ap (λ rs. picks_fault (Enabled ∷ []) rs 0 0 (map ask_of (pieces p)) picks) ranges-empty ∙ legal)

  abbrev first : Placed
  first = first_placed p picks

  last_is : drop n (pieces p) ≡ last ∷ []
  last_is =
      let functions = map function_piece p.functions in
      let globals = map global_piece p.globals in
      let end = return_piece (slice_get p.functions p.start.0) in
      let many : length (functions ++ globals) ≡ n = length-append functions globals ∙ (λ i. length-map p.functions function_piece i + length-map p.globals global_piece i) in
      ap (drop n) (sym (append_assoc functions globals end)) ∙ ap (λ k. drop k ((functions ++ globals) ++ end)) (sym many) ∙ drop-append_seam (functions ++ globals) end ∙ return_is p main

  behind : fault_over first.memory n (last ∷ []) (drop n picks) ≡ None
  behind =
      let none : 0 + n ≡ n = omega arith in
      ap (λ ps. fault_over first.memory n ps (drop n picks)) (sym last_is) ∙ ap (λ k. fault_over first.memory k (drop n (pieces p)) (drop n picks)) (sym none) ∙ two.behind

  pub one : OneAddress (ranges_of first.memory) size align (drop n picks)
  one = one_address (Enabled ∷ []) (ranges_of first.memory) 0 n size align (drop n picks) behind

  -- all in all
  pub memory_is : (start_placed p picks).memory ≡ allocated first.memory (own_id n) OnStack size align one.addr
  memory_is =
      let none : 0 + n ≡ n = omega arith in
      two.memory ∙ (λ i. (placed first.memory (none i) (last_is i) (one.is i)).memory)

  pub pointers_are : (start_placed p picks).pointers ≡ first.pointers ++ pointer_to (own_id n) one.addr ∷ []
  pointers_are =
      let none : 0 + n ≡ n = omega arith in
      two.pointers ∙ (λ i. first.pointers ++ (placed first.memory (none i) (last_is i) (one.is i)).pointers)

  pub first_length : length first.pointers ≡ n
  first_length =
      let all = pointers_length p well.shaped picks legal in
      let e = ap length pointers_are ∙ length-append first.pointers (pointer_to (own_id n) one.addr ∷ []) in
      omega arith

  counted : AreCounted first.memory n
  counted =
      let long = length-take-le n (pieces p) many in
      let same : 0 + length (take n (pieces p)) ≡ n = omega arith in
      subst (AreCounted first.memory) same (placed_counted fin.empty 0 (take n (pieces p)) (take n picks) none_counted)

  abbrev world : World
  world = (first.memory, start_tally 0 n)

  types_are : kept_types main.function ≡ Some (main.local.ty ∷ [])
  types_are =
      (λ i. all_there (map (local_type main.function) (main.function.ret ∷ no_argument p well main i)))
      ∙ ap (λ (o : Option Local). all_there (option_map (λ (l : Local). l.ty) o ∷ [])) main.here

  allocates : CanAllocate (main.local.ty ∷ []) (drop n picks) world
  allocates = record {
    lawful = any_statuses (Enabled ∷ []) (ranges_of first.memory) 0 n size align (drop n picks) behind;
    uncounted = uncounted first.memory n counted;
    room = (let a = well.shaped.few_functions in let g = well.shaped.few_globals in omega arith);
  }

  -- the main function can begin
  pub can_begin : (look : KeptLook) → IsReady look → look.program.now ≡ p → CanBegin look p.start.0 [] (drop n picks) world
  can_begin look ready same = record {
    ready = ready;
    function = main.function;
    there = ap (λ (q : Program). slice_get q.functions p.start.0) same ∙ main.is;
    types = main.local.ty ∷ [];
    typed = types_are;
    shapes = tt;
    allocates = allocates;
  }

  -- where it stands then
  abbrev local : Pointer
  local = pointer_to (own_id n) one.addr

  abbrev entered_world : World
  entered_world = (allocated first.memory (own_id n) OnStack size align one.addr, record (start_tally 0 n) { made = own_id n ∷ []; ranges = (one.addr, size) ∷ []; count = n + 1 })

  allocated_one : allocated_each (main.local.ty ∷ []) (one.addr ∷ []) world ≡ Went (local ∷ []) entered_world
  unfolding allocated_each
  allocated_one = refl

  pub frame_is : entered p.start.0 (slice_get p.functions p.start.0) [] (drop n picks) world ≡ Went (start_frame p (Some local)) entered_world
  frame_is =
      (λ i. entered p.start.0 (main.is i) [] (one.is i) world)
      ∙ entered_is p.start.0 main.function (main.local.ty ∷ []) [] (one.addr ∷ []) world types_are (function_keeps p well p.start.0 main.function main.is).unbroken.first
      ∙ ap (λ (o : Outcome (List Pointer) World). on o (λ ps u. on (stored_each [] (behind_first ps) [] u) (λ _ v. Went (first_frame p.start.0 main.function ps) v))) allocated_one
      ∙ ap (λ (o : Outcome (Unit {0}) World). on o (λ _ v. Went (first_frame p.start.0 main.function (local ∷ [])) v)) (none_stored entered_world)
      ∙ ap (λ f. Went f entered_world) same_frame
    where
      same_frame : first_frame p.start.0 main.function (local ∷ []) ≡ start_frame p (Some local)
      same_frame =
          (λ i. record { function = p.start.0; locals = with_each (replicate (length main.function.locals) None) (main.function.ret ∷ no_argument p well main i) (local ∷ []); block = 0; at = 0; call = None })
          ∙ (λ i. record { function = p.start.0; locals = start_locals (sym main.is i) (Some local); block = 0; at = 0; call = None })

  -- the pointer to the return local
  pub return_is_last : return_pointer p picks ≡ Some local
  return_is_last =
      let k : n ≡ length first.pointers + 0 = (let e = first_length in omega arith) in
      (λ i. slice_get (pointers_are i) (k i)) ∙ at_last first.pointers (local ∷ []) 0 local refl

  -- WHAT THE ENTRY LEAVES
  pub entered_is_start : (o : Outcome Frame World) (stack : Stack) (w : World) → o ≡ entered p.start.0 (slice_get p.functions p.start.0) [] (drop n picks) world → IsBottom o stack w
      → (stack ≡ (new_thread 0 (start_frame p (return_pointer p picks))).stack) × (w.0 ≡ (start_placed p picks).memory) × (w.1.count ≡ length (pieces p))
  entered_is_start o stack w is bottom =
      let same = sym frame_is ∙ sym is ∙ bottom.went in
      let state = same_state same in (
        bottom.is ∙ (λ i. record { frames = (sym (same_value same) ∙ ap (start_frame p) (sym return_is_last)) i ∷ []; payloads = [] }),
        ap (λ (u : World). u.0) (sym state) ∙ sym memory_is,
        ap (λ (u : World). u.1.count) (sym state) ∙ (let e = pieces_length p well.shaped in omega arith),
      )

  -- there is a pick for each piece
  pub picks_are : length picks ≡ length (pieces p)
  unfolding start_fault
  picks_are = picks_length (Enabled ∷ []) [] 0 0 (map ask_of (pieces p)) picks legal ∙ length-map (pieces p) ask_of

  pub pieces_are : length (pieces p) ≡ n + 1
  pieces_are = let e = pieces_length p well.shaped in omega arith

  pub front_is_legal : pieces_fault (take n (pieces p)) (take n picks) ≡ None
  front_is_legal = ap (λ rs. picks_fault (Enabled ∷ []) rs 0 0 (map ask_of (take n (pieces p))) (take n picks)) (sym ranges-empty) ∙ two.front

  -- what is looked up
  pub functions_are : take (length p.functions) first.pointers ≡ (look_of p picks).functions
  unfolding look_of
  functions_are =
      sym (ap (take (length p.functions)) pointers_are ∙ take-append-le (length p.functions) first.pointers (local ∷ []) (let e = first_length in omega arith))

  pub globals_are : drop (length p.functions) first.pointers ≡ (look_of p picks).globals
  unfolding look_of
  globals_are =
      let long = length-drop (length p.functions) first.pointers in
      let many : length (drop (length p.functions) first.pointers) ≡ length p.globals = (let e = first_length in omega arith) in
      sym (ap (λ ps. take (length p.globals) (drop (length p.functions) ps)) pointers_are
      ∙ ap (take (length p.globals)) (drop-append-le (length p.functions) first.pointers (local ∷ []) (let e = first_length in omega arith))
      ∙ ap (λ k. take k (drop (length p.functions) first.pointers ++ local ∷ [])) (sym many)
      ∙ take-append_seam (drop (length p.functions) first.pointers) (local ∷ []))

  pub globals_many : length (drop (length p.functions) first.pointers) ≡ length p.globals
  globals_many = let long = length-drop (length p.functions) first.pointers in let e = first_length in omega arith

  pub functions_many : length (take (length p.functions) first.pointers) ≡ length p.functions
  functions_many = length-take-le (length p.functions) first.pointers (let e = first_length in omega arith)
