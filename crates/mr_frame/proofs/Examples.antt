-- Small calls and frames, and what the definitions say of them, computed.
use Rattle.mr_frame.proofs.Common.{◌≡◌, ℕ, true, false, List, [], ◌∷◌, Some, None, refl, plainly, BlockName, Function, LocalName, Num, Pointer, SignatureMismatch, Refused, nothing_seen, called, called_with, callee_of, is_main, same_types, with_each, Frame, Look, at_block, first_case}
use Rattle.mr_base.specs.declared.reason.Reason.TheVariants.{NotAFunction}
use Rattle.mr_ast.specs.declared.types.Ty.TheVariants as ty

-- ---- callees

-- the pointer to the allocation that the main thread made first, or later
abbrev to_function : ℕ → ℕ → Pointer
to_function count addr = record { addr = addr; prov = Some (record { thread = 0; count = count }) }

abbrev functions : List Pointer
functions = to_function 0 16 ∷ to_function 1 17 ∷ []

-- the function whose pointer it is
second_found : callee_of functions (to_function 1 17) ≡ Some 1
unfolding callee_of
second_found = refl

-- none where only the address or only the provenance is a function's
address_alone : callee_of functions (record { addr = 17; prov = None }) ≡ None
unfolding callee_of
address_alone = refl

provenance_alone : callee_of functions (to_function 1 18) ≡ None
unfolding callee_of
provenance_alone = refl

-- a call of what is no function is 117
abbrev nowhere : Pointer
nowhere = record { addr = 0; prov = None }

not_a_function : (look : Look) → called look None nowhere [] None nothing_seen ≡ Refused (plainly NotAFunction)
not_a_function look = refl

-- ---- types

none_and_none : same_types [] [] ≡ true
none_and_none = refl

one_more_argument : same_types [] (ty.Bool ∷ []) ≡ false
one_more_argument = refl

-- a call with an argument too few is 118
too_few_arguments : (fn : Function) → called_with nowhere [] 0 fn (Some ([], ty.Bool ∷ [])) nothing_seen ≡ Refused (plainly SignatureMismatch)
too_few_arguments fn = refl

-- ---- frames

abbrev name : ℕ → LocalName
name n = record { 0 = n }

-- the return local 1 and the argument 0 have storage, and local 2 has none
first_storage : with_each (None ∷ None ∷ None ∷ []) (name 1 ∷ name 0 ∷ []) (to_function 2 32 ∷ to_function 3 40 ∷ []) ≡ Some (to_function 3 40) ∷ Some (to_function 2 32) ∷ None ∷ []
first_storage = refl

abbrev frame : Frame
frame = record { function = 0; locals = []; block = 2; at = 5; call = Some nowhere }

-- a frame that goes on at a block stands at its start, and at no call
at_the_start : at_block frame 1 ≡ record { function = 0; locals = []; block = 1; at = 0; call = None }
at_the_start = refl

-- the bottom frame of thread 0, and others
bottom_of_main : is_main 0 [] ≡ true
bottom_of_main = refl

called_in_main : is_main 0 (frame ∷ []) ≡ false
called_in_main = refl

bottom_of_another : is_main 1 [] ≡ false
bottom_of_another = refl

-- ---- switches

abbrev number : ℕ → Num
number n = record { neg = false; mag = n }

abbrev block : ℕ → BlockName
block n = record { 0 = n }

-- the first of two cases with one number
first_of_two : first_case (number 7) ((number 6, block 1) ∷ (number 7, block 2) ∷ (number 7, block 3) ∷ []) (block 4) ≡ 2
first_of_two = refl

no_case : first_case (number 8) ((number 7, block 2) ∷ []) (block 4) ≡ 4
no_case = refl
