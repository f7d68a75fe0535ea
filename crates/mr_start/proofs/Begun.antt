-- The start as the code makes it.
use Rattle.mr_start.proofs.Common.{◌≡◌, ℕ, ◌+◌, ◌-◌, ◌≤◌, refl, sym, ap, ◌∙◌, subst, arith, List, [], length, map, drop, take, length-drop, Err, length-map, take_all, All, None, slice_get, Program, Pointer, Memory, WellFormed, Stack, IsPossible, JudgeAnswer, before_frame, first_placed, piece_of, pieces_fault, return_pointer, new_thread, Piece, look_of, pieces, start_config, start_fault, start_frame, start_memory, start_placed}
use Rattle.std.proofs.lemmas.List.{take-map}
use Rattle.std.proofs.lemmas.List.Elements.{All-take}
use Rattle.mr_eval.specs.Tally.{start_tally}
use Rattle.mr_eval.specs.World.{World}
use Rattle.mr_frame.specs.Beginning.{CanBegin, IsBottom}
use Rattle.mr_frame.specs.Effects.{entered}
use Rattle.mr_frame.specs.Kept.{IsReady}
use Rattle.mr_start.specs.declared.beginning.StartFault.{StartFault}
use Rattle.mr_start.specs.declared.placing.Begun.{Begun}
use Rattle.mr_start.specs.Begin.{BeginAnswer, IsBegun, IsPlaced, standing}
use Rattle.mr_frame.specs.declared.look.Look.{Look as KeptLook}
use Rattle.mr_start.specs.declared.beginning.StartFault.TheVariants as refused
use Rattle.mr_start.specs.declared.pieces.Piece.{Piece as Made}
use Rattle.mr_start.proofs.Entering.{can_begin, entered_is_start, first_length, front_is_legal, functions_are, functions_many, globals_are, globals_many, picks_are, pieces_are}
use Rattle.mr_start.proofs.StartFacts.{all_behind, pieces_possible}

-- ---- the entry of the main function

-- the picks behind those for functions and globals, as many as there are
rest_is : (picks : List ℕ) (made : ℕ) → take (length picks - made) (drop made picks) ≡ drop made picks
rest_is picks made = take_all (length picks - made) (drop made picks) (let e = length-drop made picks in omega arith)

module _ (look : KeptLook) (ready : IsReady look) (picks : List ℕ) (legal : start_fault look.program.now picks ≡ None) where
  abbrev p : Program
  p = look.program.now

  abbrev made : ℕ
  made = length look.functions.now + length look.globals.now

  made_is : made ≡ before_frame p
  made_is = λ i. ready.functions i + ready.globals i

  pub made_within : made ≤ length picks
  made_within =
      let all = picks_are p ready.well picks legal in
      let some = pieces_are p ready.well picks legal in
      let e = made_is in
      omega arith

  module _ (m : Memory) (memory : m ≡ (first_placed p picks).memory) (start : ℕ) (start_is : start ≡ p.start.0) (w : World) (world : w ≡ (m, start_tally 0 made)) where
    rests : drop (before_frame p) picks ≡ take (length picks - made) (drop made picks)
    rests = ap (λ k. drop k picks) (sym made_is) ∙ sym (rest_is picks made)

    worlds : ((first_placed p picks).memory, start_tally 0 (before_frame p)) ≡ w
    worlds = (λ i. (sym memory i, start_tally 0 (sym made_is i))) ∙ sym world

    pub main_begins : CanBegin look start [] (take (length picks - made) (drop made picks)) w
    main_begins =
        subst (λ k. CanBegin look k [] (take (length picks - made) (drop made picks)) w) (sym start_is)
        (subst (λ u. CanBegin look p.start.0 [] (take (length picks - made) (drop made picks)) u) worlds
        (subst (λ ks. CanBegin look p.start.0 [] ks ((first_placed p picks).memory, start_tally 0 (before_frame p))) rests (can_begin p ready.well picks legal look ready refl)))

    pub main_entered : (stack : Stack) (u : World) → IsBottom (entered start (slice_get p.functions start) [] (take (length picks - made) (drop made picks)) w) stack u
        → (stack ≡ (new_thread 0 (start_frame p (return_pointer p picks))).stack) × (u.0 ≡ (start_placed p picks).memory) × (u.1.count ≡ length (pieces p))
    main_entered stack u bottom =
        entered_is_start p ready.well picks legal _ stack u (λ i. entered (start_is i) (slice_get p.functions (start_is i)) [] (sym rests i) (sym worlds i)) bottom

-- ---- what the picks come to

pub start_fault_is : (p : Program) (picks : List ℕ) → start_fault p picks ≡ pieces_fault (pieces p) picks
unfolding start_fault
start_fault_is p picks = refl

-- picks that break a rule
pub refused_is : (p : Program) (picks : List ℕ) (f : StartFault) → JudgeAnswer (pieces_fault (pieces p) picks) (Err f) → BeginAnswer p picks (Err f)
refused_is p picks (refused.Broken e) h = start_fault_is p picks ∙ h
refused_is p picks refused.Memory h = h

module _ (p : Program) (well : WellFormed p) (items : List Made) (same : map piece_of items ≡ pieces p) (picks : List ℕ) (legal : pieces_fault (pieces p) picks ≡ None) where
  begun_legal : start_fault p picks ≡ None
  begun_legal = start_fault_is p picks ∙ legal

  -- so many pieces are in front of the frame's
  pub last_is : length items - 1 ≡ before_frame p
  last_is =
      let many = pieces_are p well picks begun_legal in
      let e : length items ≡ length (pieces p) = sym (length-map items piece_of) ∙ ap length same in
      omega arith

  module _ (last : ℕ) (at : last ≡ length items - 1) where
    pub picks_long : last ≤ length picks
    picks_long =
        let all = picks_are p well picks begun_legal in
        let some = pieces_are p well picks begun_legal in
        let e = last_is in
        omega arith

    front_is : map piece_of (take last items) ≡ take (before_frame p) (pieces p)
    front_is = sym (take-map piece_of last items) ∙ (λ i. take ((at ∙ last_is) i) (same i))

    pub front_legal : pieces_fault (map piece_of (take last items)) (take last picks) ≡ None
    front_legal = (λ i. pieces_fault (front_is i) (take ((at ∙ last_is) i) picks)) ∙ front_is_legal p well picks begun_legal

    pub front_possible : All (λ piece. IsPossible (piece_of piece)) (take last items)
    front_possible =
        All-take (λ piece. IsPossible (piece_of piece)) last items
        (all_behind piece_of IsPossible items (subst (λ (ps : List Piece). All IsPossible ps) (sym same) (pieces_possible p well)))

    pub front_begun : (b : Begun) → IsPlaced (map piece_of (take last items)) (take last picks) b → IsBegun p picks b
    front_begun b h =
        subst (λ n. IsPlaced (take (before_frame p) (pieces p)) (take n picks) b) (at ∙ last_is) (subst (λ ps. IsPlaced ps (take last picks) b) front_is h)

-- ---- what is made behind the entry

module _ (p : Program) (well : WellFormed p) (picks : List ℕ) (legal : start_fault p picks ≡ None) (pointers : List Pointer) (same : pointers ≡ (first_placed p picks).pointers) where
  pub first_functions : take (length p.functions) pointers ≡ (look_of p picks).functions
  first_functions = ap (take (length p.functions)) same ∙ functions_are p well picks legal

  pub first_globals : drop (length p.functions) pointers ≡ (look_of p picks).globals
  first_globals = ap (drop (length p.functions)) same ∙ globals_are p well picks legal

  pub functions_within : length p.functions ≤ length pointers
  functions_within = let e = ap length same ∙ first_length p well picks legal in omega arith

  pub many_functions : length (take (length p.functions) pointers) ≡ length p.functions
  many_functions = ap (λ ps. length (take (length p.functions) ps)) same ∙ functions_many p well picks legal

  pub many_globals : length (drop (length p.functions) pointers) ≡ length p.globals
  many_globals = ap (λ ps. length (drop (length p.functions) ps)) same ∙ globals_many p well picks legal

-- where the machine stands, from what is made of it
pub config_is : (p : Program) (picks : List ℕ) (m : Memory) (stack : Stack) (count : ℕ) → m ≡ start_memory p picks → stack ≡ (new_thread 0 (start_frame p (return_pointer p picks))).stack → count ≡ length (pieces p)
    → standing m stack count ≡ start_config p picks
unfolding start_config
config_is p picks m stack count memory is many = λ i. standing (memory i) (is i) (many i)

pub look_is : (p : Program) (picks : List ℕ) (functions globals : List Pointer) → functions ≡ (look_of p picks).functions → globals ≡ (look_of p picks).globals
    → record { program = p; functions = functions; globals = globals } ≡ look_of p picks
unfolding look_of
look_is p picks functions globals f g = λ i. record { program = p; functions = f i; globals = g i }
