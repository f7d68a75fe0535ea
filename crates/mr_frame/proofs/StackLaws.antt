-- Stacks as the code keeps them.
use Rattle.mr_frame.proofs.Common.{◌≡◌, ℕ, zero, suc, ◌-◌, refl, sym, ap, ◌∙◌, arith, Bool, true, false, List, [], ◌∷◌, ◌++◌, length, map, None, Some, slice_get, ◌==◌, ◌&&◌, nat_tests, length-map, Pointer, is_main, Frame, Stack, at_block, below_of, frame_of, stack_of, item_there}
use Rattle.std.specs.Prelude.{reverse}
use Rattle.std.specs.Bool.{IsFalse, IsTrue}
use Rattle.std.proofs.lemmas.List.{length-reverse, reverse-append}
use Rattle.mr_frame.specs.declared.frame.Frame.{Frame as KeptFrame}
use Rattle.mr_frame.specs.declared.stack.Stack.{Stack as KeptStack}
use Rattle.mr_frame.proofs.CallSafe.{heads, tails}

-- a stack of these
abbrev pub with_frames : List Frame → List Pointer → Stack
with_frames frames payloads = record { frames = frames; payloads = payloads }

-- with a payload more, and the top frame at a block
pub unwound_stack : (s new : KeptStack) (f : Frame) (p : Pointer) (b : ℕ) → stack_of new ≡ record (stack_of s) { payloads = p ∷ (stack_of s).payloads } → f ≡ at_block (frame_of new.top) b
    → with_frames (at_block (frame_of s.top) b ∷ below_of s) (p ∷ (stack_of s).payloads) ≡ with_frames (f ∷ below_of new) (stack_of new).payloads
unwound_stack s new f p b pushed jumped =
    let frames = ap (λ (k : Stack). k.frames) pushed in
    let top = jumped ∙ ap (λ (g : Frame). at_block g b) (heads frames) in
    sym (λ i. with_frames (top i ∷ tails frames i) ((pushed i).payloads))

-- a thread's bottom frame
module _ (t : ℕ) where
  and_true : (a : Bool) → a ≡ (a && true)
  and_true true = refl
  and_true false = refl

  by_below : (n : ℕ) (bs : List Frame) → length bs ≡ n → ((t == 0) && (n == 0)) ≡ is_main t bs
  by_below n [] e = ap (λ k. (t == 0) && (k == 0)) (sym e) ∙ sym (and_true (t == 0))
  by_below n (f ∷ bs) e = ap (λ k. (t == 0) && (k == 0)) (sym e) ∙ ap (λ b. (t == 0) && b) (some_test (length bs)) ∙ none (t == 0)
    where
      some_test : (k : ℕ) → (suc k == 0) ≡ false
      some_test k = grind (arith, nat_tests)

      none : (a : Bool) → (a && false) ≡ false
      none true = refl
      none false = refl

  pub main_is : (s : KeptStack) → ((t == 0) && (length s.below.items == 0)) ≡ is_main t (below_of s)
  main_is s = by_below (length s.below.items) (below_of s) (length-map (reverse s.below.items) frame_of ∙ length-reverse s.below.items)

-- the last of a list
last_at : {A : Type 0} (xs : List A) (i : ℕ) (x : A) → suc i ≡ length xs → slice_get xs i ≡ Some x → (ys : List A) × (xs ≡ ys ++ x ∷ [])
last_at [] i x n e = absurd (omega (arith, n))
last_at (y ∷ []) zero x n e = ([], ap (λ z. z ∷ []) (some_in e))
  where
    some_in : Some y ≡ Some x → y ≡ x
    some_in h = cc
last_at (y ∷ []) (suc i) x n e = absurd (omega (arith, n))
last_at (y ∷ z ∷ xs) zero x n e = absurd (omega (arith, n))
last_at (y ∷ z ∷ xs) (suc i) x n e = let rest = last_at (z ∷ xs) i x (omega (arith, n)) e in (y ∷ rest.0, ap (λ w. y ∷ w) rest.1)

last_split : {A : Type 0} (xs : List A) (x : A) → slice_get xs (length xs - 1) ≡ Some x → (ys : List A) × (xs ≡ ys ++ x ∷ [])
last_split [] x e = absurd (cc)
last_split (y ∷ xs) x e = last_at (y ∷ xs) (length (y ∷ xs) - 1) x (omega arith) e

pub last_below : (s : KeptStack) (f : KeptFrame) → slice_get s.below.items (length s.below.items - 1) ≡ Some f → (rest : List Frame) × (below_of s ≡ frame_of f ∷ rest)
last_below s f e =
    let split = last_split s.below.items f e in
    (map frame_of (reverse split.0), ap (λ xs. map frame_of (reverse xs)) split.1 ∙ ap (map frame_of) (reverse-append split.0 (f ∷ [])))

pub none_below : (s : KeptStack) → slice_get s.below.items (length s.below.items - 1) ≡ None → below_of s ≡ []
none_below s e = ap (λ xs. map frame_of (reverse xs)) (by_items s.below.items e)
  where
    by_items : (xs : List KeptFrame) → slice_get xs (length xs - 1) ≡ None → xs ≡ []
    by_items [] h = refl
    by_items (x ∷ xs) h = let there = item_there (x ∷ xs) (length (x ∷ xs) - 1) (omega arith) in absurd (let k = sym h ∙ there.1 in absurd (cc))

-- a pop where there is a frame below
pub popped : (s new : KeptStack) (b : Bool) (caller : Frame) (rest : List Frame) → below_of s ≡ caller ∷ rest → (IsTrue b → (stack_of s).frames ≡ frame_of s.top ∷ (stack_of new).frames) → (IsFalse b → below_of s ≡ [])
    → caller ∷ rest ≡ frame_of new.top ∷ below_of new
popped s new true caller rest is some none = sym is ∙ tails (some refl)
popped s new false caller rest is some none = absurd (let k = sym is ∙ none refl in absurd (cc))
