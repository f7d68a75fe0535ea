-- Steps without a rule: each program here breaks a rule of well-formed programs, and its first step is one for which the machine has no rule.
use Rattle.std.proofs.Common.{◌≡◌, ℕ, Bool, true, false, not, ◌&&◌, ◌||◌, List, [], ◌∷◌, ◌++◌, None, Some, refl, sym, ap, ap₂, ◌∙◌}
use Rattle.std.specs.Prelude.{if◌then◌else◌, is_some, slice_get}
use Rattle.mr_ast.specs.declared.rule.Rule.TheVariants as form
use Rattle.mr_ast.specs.declared.rule.Rule.{Rule}
use Rattle.mr_base.specs.declared.byte.Pointer.{Pointer}
use Rattle.mr_base.specs.declared.thread.Status.TheVariants.{Enabled}
use Rattle.mr_ast.specs.declared.types.IntType.TheVariants.{I32, U16, U32, U64, U8}
use Rattle.mr_ast.specs.declared.types.Num.{Num}
use Rattle.mr_ast.specs.declared.types.Ty.{Ty, out-Ty}
use Rattle.mr_ast.specs.declared.types.Ty.TheOpen.{Ty-F}
use Rattle.mr_ast.specs.declared.types.Ty.TheVariants as ty
use Rattle.mr_ast.specs.declared.types.Variant.{Variant}
use Rattle.mr_ast.specs.declared.expr.BinaryOp.TheVariants as binary
use Rattle.mr_ast.specs.declared.expr.Place.{Place}
use Rattle.mr_ast.specs.declared.expr.Value.{Value}
use Rattle.mr_ast.specs.declared.expr.Place.TheVariants as place
use Rattle.mr_ast.specs.declared.expr.Value.TheVariants as value
use Rattle.mr_ast.specs.declared.program.Block.{Block}
use Rattle.mr_ast.specs.declared.program.BlockKind.TheVariants.{Cleanup, Regular}
use Rattle.mr_ast.specs.declared.program.BlockName.{BlockName}
use Rattle.mr_ast.specs.declared.program.Function.{Function}
use Rattle.mr_ast.specs.declared.program.Intrinsic.TheVariants as intrinsic
use Rattle.mr_ast.specs.declared.program.Local.{Local}
use Rattle.mr_ast.specs.declared.program.Program.{Program}
use Rattle.mr_ast.specs.declared.program.Stmt.{Stmt}
use Rattle.mr_ast.specs.declared.program.Stmt.TheVariants as stmt
use Rattle.mr_ast.specs.declared.program.Term.{Term}
use Rattle.mr_ast.specs.declared.program.Term.TheVariants as term
use Rattle.mr_typing.specs.Blocks.{broken_in_parts, fits_switch_layer}
use Rattle.mr_typing.specs.Broken.{Rules, Surroundings, broken_in_place, broken_in_value, rule, surroundings, where_all_typed, where_both_typed, where_typed}
use Rattle.mr_typing.specs.Intrinsics.{fits_intrinsic, gives_nothing}
use Rattle.mr_typing.specs.Operands.{fits_binary, is_bool_layer, is_fn_ptr, is_fn_ptr_layer, is_int, is_integer, is_raw, is_raw_layer, is_scalar_number}
use Rattle.mr_typing.specs.SameTypes.{same_type}
use Rattle.mr_typing.specs.Types.{element_type, integer_in}
use Rattle.mr_typing.proofs.BrokenInLaws.{broken_in_binary, broken_in_cast, broken_in_index, broken_in_int, broken_in_load}
use Rattle.mr_typing.proofs.KnownLaws.{int_told, int_untold}
use Rattle.mr_typing.proofs.TypeLaws.{type_of_deref, type_of_fn, type_of_int, type_of_raw}
use Rattle.mr_base.specs.Script.{Done, IllFormed, run, ◌>>=◌}
use Rattle.mr_plan.specs.Machine.{Bare, settled, thread_of}
use Rattle.mr_plan.specs.Notes.{start_notes}
use Rattle.mr_plan.specs.Queries.{answer}
use Rattle.mr_plan.specs.Runs.{has_rule, is_ill_formed}
use Rattle.mr_frame.specs.Frames.{Frame, Look}
use Rattle.mr_frame.specs.Operations as operations
use Rattle.mr_frame.specs.Operations.{do_at}
use Rattle.mr_frame.specs.Sites as sites
use Rattle.mr_frame.specs.Sites.{Site, broken_at, broken_in_head, none_broken, site_of}
use Rattle.mr_frame.specs.Steps as steps
use Rattle.mr_frame.specs.Calls.{FramePlan}
use Rattle.mr_frame.specs.Steps.{plan_at}
use Rattle.mr_start.specs.Steps.{Own, TurnPlan, in_step, own_step, reads, step_due, thread_step}
use Rattle.mr_start.specs.Start.{look_of, start_config, start_memory}
use Rattle.mr_run_tests.proofs.Examples.{block, function, program, result}

-- the picks of the start: the main function at 16, its return local at 32
abbrev picks : List ℕ
picks = 16 ∷ 32 ∷ []

-- whether the first step of a run has a rule
abbrev begins_by_rule : Program → Bool
begins_by_rule p = has_rule (thread_step (look_of p picks)) 0 [] (start_config p picks).state

-- ---- codes

in_front : (xs ys : Rules) → none_broken xs ≡ false → none_broken (xs ++ ys) ≡ false
in_front [] ys e = absurd (cc)
in_front (x ∷ xs) ys e = refl

behind : (xs ys : Rules) → none_broken ys ≡ false → none_broken (xs ++ ys) ≡ false
behind [] ys e = e
behind (x ∷ xs) ys e = refl

breaks : (r : Rule) (kept : Bool) → kept ≡ false → none_broken (rule r kept) ≡ false
breaks r kept e = ap (λ b. none_broken (rule r b)) e

-- ---- a main function whose first block is this one

abbrev main_of : Block → List Block → Program
main_of b others = program (function [] (b ∷ others) ∷ [])

module _ (b : Block) (others : List Block) where
  abbrev fn : Function
  fn = function [] (b ∷ others)

  abbrev look : Look
  look = look_of (main_of b others) picks

  -- its return local has storage
  abbrev pointer : Pointer
  pointer = record { addr = 32; prov = Some (record { thread = 0; count = 1 }) }

  abbrev frame : Frame
  frame = record { function = 0; locals = Some pointer ∷ []; block = 0; at = 0; call = None }

  abbrev main : Own
  main = record { thread = 0; stack = record { frames = frame ∷ []; payloads = [] } }

  abbrev site : Site
  site = record { function = fn; block = b; frame = frame; below = [] }

  -- what a step comes to at the start
  abbrev comes : TurnPlan → Bare Own
  comes step = settled
      (record {
        shared = record { memory = start_memory (main_of b others) picks; statuses = Enabled ∷ []; holders = [] };
        threads = thread_of main 2 ∷ [];
      }) 0
      (run answer (step >>= λ plan. plan.go []) (record { memory = start_memory (main_of b others) picks; statuses = Enabled ∷ []; holders = [] }, start_notes 0 2))

  first_rule : begins_by_rule (main_of b others) ≡ not (is_ill_formed (comes (own_step look main)))
  unfolding start_config
  first_rule = refl

  -- the rules that are broken where it stands
  abbrev broken : Rules
  broken = broken_in_head fn ++ broken_at (main_of b others) fn b (slice_get b.stmts 0)

  -- where one is, the thread stands nowhere
  no_site : none_broken broken ≡ false → site_of look main.stack ≡ None
  unfolding site_of look_of
  no_site e = ap (λ c. if c then Some site else None) e

  no_step : site_of look main.stack ≡ None → own_step look main ≡ IllFormed
  unfolding own_step operations.next_do steps.frame_plan
  no_step e =
      ap (λ o. step_due look main (do_at o)) e
      ∙ ap (λ (f : FramePlan). reads f >>= λ plan. Done (in_step main plan)) (ap (plan_at look 0 main.stack) e)

  pub ill_formed : none_broken broken ≡ false → begins_by_rule (main_of b others) ≡ false
  ill_formed e = first_rule ∙ ap (λ (t : TurnPlan). not (is_ill_formed (comes t))) (no_step (no_site e))

  -- by what is due
  pub ill_formed_due : none_broken (broken_at (main_of b others) fn b (slice_get b.stmts 0)) ≡ false → begins_by_rule (main_of b others) ≡ false
  ill_formed_due e = ill_formed (behind (broken_in_head fn) (broken_at (main_of b others) fn b (slice_get b.stmts 0)) e)

abbrev at : List Block → Surroundings
at blocks = surroundings (program (function [] blocks ∷ [])) (function [] blocks)

-- ---- heads and blocks

-- the rule of first blocks (31): the main function begins with a cleanup block
ill_formed_first_block : begins_by_rule (main_of (block Cleanup [] term.Exit) []) ≡ false
ill_formed_first_block =
    let b = block Cleanup [] term.Exit in
    ill_formed b [] (in_front (broken_in_head (fn b [])) (broken_at (main_of b []) (fn b []) b None) (behind _ (form.FirstBlock ∷ []) refl))

-- the rule of block kinds (32): `stop` in a regular block has no payload to take
ill_formed_kind : begins_by_rule (main_of (block Regular [] (term.Stop (record { 0 = 0 }))) []) ≡ false
ill_formed_kind = ill_formed_due (block Regular [] (term.Stop (record { 0 = 0 }))) [] refl

-- the same rule: a call that unwinds to a regular block
abbrev unwinding : Term
unwinding = term.Call (value.Fn (record { 0 = 0 })) [] (place.Local result) None (Some (record { 0 = 0 }))

ill_formed_unwind_target : begins_by_rule (main_of (block Regular [] unwinding) []) ≡ false
ill_formed_unwind_target =
    ill_formed_due (block Regular [] unwinding) [] (behind (broken_in_parts (at (block Regular [] unwinding ∷ [])) unwinding) (form.BlockKind ∷ []) refl)

-- the rule of main functions (45): one with an argument, which has no storage at the start
main_with_argument : Program
main_with_argument = program (function (record { 0 = 1 } ∷ []) (block Regular [] term.Exit ∷ []) ∷ [])

ill_formed_main : begins_by_rule main_with_argument ≡ false
unfolding own_step look_of start_config main_with_argument operations.next_do sites.site_of sites.due_of steps.frame_plan
ill_formed_main = refl

-- ---- statements

abbrev doing : Stmt → Block
doing x = block Regular (x ∷ []) term.Exit

-- the rule of kept locals (38): the return local gets new storage, or gives it up
ill_formed_live : begins_by_rule (main_of (doing (stmt.Live result)) []) ≡ false
ill_formed_live = ill_formed_due (doing (stmt.Live result)) [] refl

ill_formed_dead : begins_by_rule (main_of (doing (stmt.Dead result)) []) ≡ false
ill_formed_dead = ill_formed_due (doing (stmt.Dead result)) [] refl

-- numbers, and integers of two sizes
abbrev number : ℕ → Num
number n = record { neg = false; mag = n }

abbrev byte : ℕ → Value
byte n = value.Int U8 (number n)

two_sizes : same_type (ty.Int U8) (ty.Int U16) ≡ false
two_sizes = sym (int_told false (ty.Int U8) U8 U16 (ap integer_in (ty.outs-Int U8)) ((λ e. absurd (cc)), λ e. absurd (cc)))

and_false : (a b : Bool) → b ≡ false → (a && b) ≡ false
and_false true b e = e
and_false false b e = refl

-- the rule of assignments (36): a u16 in the place of a u8, which have one shape
abbrev byte_place : Place
byte_place = place.Deref (value.Raw 8) (ty.Int U8)

abbrev assigning : Block
assigning = doing (stmt.Assign byte_place (value.Int U16 (number 5)))

ill_formed_assigned : begins_by_rule (main_of assigning []) ≡ false
ill_formed_assigned =
    let locals = (at (assigning ∷ [])).locals in
    ill_formed_due assigning []
    (behind (broken_in_place (at (assigning ∷ [])) byte_place ++ broken_in_value (at (assigning ∷ [])) (value.Int U16 (number 5))) _
    (breaks form.Assign _
    (ap₂ (λ a b. where_both_typed a b same_type) (type_of_deref locals (value.Raw 8) (ty.Int U8)) (type_of_int locals U16 (number 5)) ∙ two_sizes)))

-- ---- values, as they are printed

abbrev printing : Value → Block
printing v = block Regular [] (term.Do intrinsic.Print (v ∷ []) None (record { 0 = 0 }))

abbrev at_print : Value → Surroundings
at_print v = at (printing v ∷ [])

ill_formed_value : (v : Value) → none_broken (broken_in_value (at_print v) v) ≡ false → begins_by_rule (main_of (printing v) []) ≡ false
ill_formed_value v e =
    let codes = broken_in_value (at_print v) v in
    ill_formed_due (printing v) [] (in_front _ _ (in_front _ _ (in_front (codes ++ []) [] (in_front codes [] e))))

-- the rule of constants (35): 300 is no u8
ill_formed_constant : begins_by_rule (main_of (printing (byte 300)) []) ≡ false
ill_formed_constant = ill_formed_value (byte 300) (ap none_broken (broken_in_int (at_print (byte 300)) U8 (number 300)))

-- the rule of operands (34): a u8 and a u16 are added
abbrev sum : Value
sum = value.Binary binary.Add (byte 1) (value.Int U16 (number 1))

ill_formed_operands : begins_by_rule (main_of (printing sum) []) ≡ false
ill_formed_operands =
    let here = at_print sum in
    ill_formed_value sum
    (ap none_broken (broken_in_binary here binary.Add (byte 1) (value.Int U16 (number 1)))
    ∙ behind (broken_in_value here (byte 1) ++ broken_in_value here (value.Int U16 (number 1))) _
    (breaks form.Operand _
    (ap₂ (λ a b. where_both_typed a b (fits_binary binary.Add)) (type_of_int here.locals U8 (number 1)) (type_of_int here.locals U16 (number 1))
    ∙ and_false (is_integer (ty.Int U8)) (same_type (ty.Int U8) (ty.Int U16)) two_sizes)))

-- the rule of casts (47): the address of a raw pointer is taken as a number
abbrev exposed : Value
exposed = value.Cast I32 (value.Raw 5)

raw_is_no_number : is_scalar_number ty.Raw ≡ false
raw_is_no_number = ap (λ (l : Ty-F Ty Variant). is_some (integer_in l) || is_bool_layer l) ty.outs-Raw

ill_formed_cast : begins_by_rule (main_of (printing exposed) []) ≡ false
ill_formed_cast =
    let here = at_print exposed in
    ill_formed_value exposed
    (ap none_broken (broken_in_cast here I32 (value.Raw 5))
    ∙ behind (broken_in_value here (value.Raw 5)) _
    (breaks form.Cast _ (ap (λ o. where_typed o is_scalar_number) (type_of_raw here.locals 5) ∙ raw_is_no_number)))

-- the rule of places (33): a raw pointer is an index
abbrev bytes : Place
bytes = place.Deref (value.Raw 8) (ty.Array 1 (ty.Int U8))

abbrev indexed : Place
indexed = place.Index bytes (value.Raw 0)

raw_is_no_index : is_int U64 ty.Raw ≡ false
raw_is_no_index = sym (int_untold ty.Raw U64 (ap integer_in ty.outs-Raw))

ill_formed_index : begins_by_rule (main_of (printing (value.Load indexed)) []) ≡ false
ill_formed_index =
    let here = at_print (value.Load indexed) in
    ill_formed_value (value.Load indexed)
    (ap none_broken (broken_in_load here indexed ∙ broken_in_index here bytes (value.Raw 0))
    ∙ behind (broken_in_place here bytes ++ broken_in_value here (value.Raw 0)) _
    (breaks form.Place _
    (ap₂ (λ a b. where_both_typed a b (λ t i. is_some (element_type t) && is_int U64 i)) (type_of_deref here.locals (value.Raw 8) (ty.Array 1 (ty.Int U8))) (type_of_raw here.locals 0)
    ∙ and_false (is_some (element_type (ty.Array 1 (ty.Int U8)))) (is_int U64 ty.Raw) raw_is_no_index)))

-- ---- terminators

abbrev ending : Term → Block
ending t = block Regular [] t

ill_formed_parts : (t : Term) (others : List Block) → none_broken (broken_in_parts (at (ending t ∷ others)) t) ≡ false → begins_by_rule (main_of (ending t) others) ≡ false
ill_formed_parts t others e = ill_formed_due (ending t) others (in_front (broken_in_parts (at (ending t ∷ others)) t) _ e)

-- the rule of switches (39): 300 is no u8; and a case stands twice
abbrev first : BlockName
first = record { 0 = 0 }

abbrev choosing : List (Num × BlockName) → Term
choosing cases = term.Switch (byte 5) cases first

ill_formed_switch : (cases : List (Num × BlockName)) → fits_switch_layer cases (Ty-F.Int U8) ≡ false → begins_by_rule (main_of (ending (choosing cases)) []) ≡ false
ill_formed_switch cases e =
    let here = at (ending (choosing cases) ∷ []) in
    ill_formed_parts (choosing cases) []
    (behind (broken_in_value here (byte 5)) _
    (breaks form.Switch _
    (ap (λ o. where_typed o (λ t. fits_switch_layer cases (out-Ty t))) (type_of_int here.locals U8 (number 5)) ∙ ap (fits_switch_layer cases) (ty.outs-Int U8) ∙ e)))

ill_formed_case : begins_by_rule (main_of (ending (choosing ((number 300, first) ∷ []))) []) ≡ false
ill_formed_case = ill_formed_switch ((number 300, first) ∷ []) refl

ill_formed_cases : begins_by_rule (main_of (ending (choosing ((number 5, first) ∷ (number 5, first) ∷ []))) []) ≡ false
ill_formed_cases = ill_formed_switch ((number 5, first) ∷ (number 5, first) ∷ []) refl

-- the rule of callees (40): a raw pointer is called
abbrev calling : Term
calling = term.Call (value.Raw 16) [] (place.Local result) None None

ill_formed_callee : begins_by_rule (main_of (ending calling) []) ≡ false
ill_formed_callee =
    let here = at (ending calling ∷ []) in
    ill_formed_parts calling []
    (behind (broken_in_value here (value.Raw 16) ++ [] ++ broken_in_place here (place.Local result)) _
    (breaks form.Callee _ (ap (λ o. where_typed o is_fn_ptr) (type_of_raw here.locals 16) ∙ ap is_fn_ptr_layer ty.outs-Raw)))

-- the rule of payloads (42): a pointer to a function is one
abbrev giving_up : Term
giving_up = term.Unwind (value.Fn (record { 0 = 0 })) (record { 0 = 1 })

ill_formed_payload : begins_by_rule (main_of (ending giving_up) (block Cleanup [] term.Exit ∷ [])) ≡ false
ill_formed_payload =
    let here = at (ending giving_up ∷ block Cleanup [] term.Exit ∷ []) in
    ill_formed_parts giving_up (block Cleanup [] term.Exit ∷ [])
    (behind (broken_in_value here (value.Fn (record { 0 = 0 }))) _
    (breaks form.Payload _ (ap (λ o. where_typed o is_raw) (type_of_fn here.locals (record { 0 = 0 })) ∙ ap is_raw_layer ty.outs-FnPtr)))

-- the rule of intrinsics (41): the number of a lock is a u64
abbrev locking : Term
locking = term.Do intrinsic.Acquire (value.Int U64 (number 0) ∷ []) None first

wide_is_no_lock : is_int U32 (ty.Int U64) ≡ false
wide_is_no_lock = sym (int_told false (ty.Int U64) U64 U32 (ap integer_in (ty.outs-Int U64)) ((λ e. absurd (cc)), λ e. absurd (cc)))

ill_formed_lock : begins_by_rule (main_of (ending locking) []) ≡ false
ill_formed_lock =
    let here = at (ending locking ∷ []) in
    ill_formed_parts locking []
    (behind ((broken_in_value here (value.Int U64 (number 0)) ++ []) ++ []) _
    (breaks form.Intrinsic _
    (ap (λ o. where_all_typed (o ∷ []) (λ types. fits_intrinsic intrinsic.Acquire types None)) (type_of_int here.locals U64 (number 0))
    ∙ ap (λ b. b && gives_nothing None) wide_is_no_lock)))
