-- What the script of a statement comes to: a change of memory, noted.
use Rattle.mr_frame.proofs.Common.{◌≡◌, ℕ, refl, ap, ◌∙◌, List, [], ◌∷◌, Option, None, Some, Bool, true, false, Result, Ok, Err, if◌then◌else◌, Fault, Reached, Leaves, Tells, Num, Tag, Ty, Place, Value, Stmt, Pointer, align_of, size_of, Memory, Val, blank, encoding_of, tag_bytes, has_shape, type_of_place, Done, IllFormed, Outcome, Went, Refused, Broken, ◌>>=◌, on, run, run_bind, Surround, place_script, value_script, placed, read_typed, valued, behind, Seen, reading, stored_typed, storing, loading, seen_of, with_seen, memory_answer, reading_part, World, Change, IsChange, assign, change, deinit, mention, set_discriminant, store, tags_in, validate, with_type, write, write_found, write_tags, stored_in, Left, assigned, changed, stored_at, tagged, reading_then}
use Rattle.mr_value.specs.Numbers.{Bytes}
use Rattle.mr_frame.specs.Changes.{validate_at}
use Rattle.mr_frame.specs.Effects.{deinited, deinited_at, discriminated, mentioned, tagged_at, shaped_store, validated, validated_at}
use Rattle.mr_mem.specs.declared.fault.Fault.TheVariants as fault
use Rattle.mr_ast.specs.declared.program.Stmt.TheVariants as stmt

-- memory and tally behind a change of memory
abbrev pub left : World → Memory → Seen → Outcome (Unit {0}) World
left w m s = Went tt (m, with_seen w.1 s)

-- a script whose run is this change
abbrev pub Makes : Change → (Memory → Seen → Left) → Type 0
Makes script change = (w : World) → run memory_answer script w ≡ on (change w.0 (seen_of w.1)) (left w)

-- a script that reads first, and a change behind what it read
reads_then : {A : Type 0} (w : World) (o : Outcome A Seen) (f : A → Change) (change : A → Memory → Seen → Left) → ((x : A) → Makes (f x) (change x))
    → on o (λ x s. run memory_answer (f x) (w.0, with_seen w.1 s)) ≡ on (on o (λ x s. change x w.0 s)) (left w)
reads_then w (Went x s) f change h = h x (w.0, with_seen w.1 s)
reads_then w (Refused r) f change h = refl
reads_then w Broken f change h = refl

-- a store, and a change behind it
left_then : (w : World) (o : Left) (f : Change) (change : Memory → Seen → Left) → Makes f change → on (on o (left w)) (λ u v. run memory_answer f v) ≡ on (on o change) (left w)
left_then w (Went m s) f change h = h (m, with_seen w.1 s)
left_then w (Refused r) f change h = refl
left_then w Broken f change h = refl

write_leaves : (w : World) (o : Left) → on (on o (left w)) (λ x v. Went x v) ≡ on o (left w)
write_leaves w (Went m s) = refl
write_leaves w (Refused r) = refl
write_leaves w Broken = refl

pub makes_write : (p : Pointer) (bytes : Bytes) (align : ℕ) → Makes (write p bytes align) (λ m s. storing m false p bytes align s)
makes_write p bytes align w = write_leaves w (storing w.0 false p bytes align (seen_of w.1))

pub makes_store : (t : Ty) (p : Pointer) (v : Val) → Makes (store t p v) (λ m s. shaped_store m t p v s)
unfolding stored_typed
makes_store t p v w = by_test (has_shape t v)
  where
    by_test : (b : Bool) → run memory_answer (if b then write p (encoding_of t v) (align_of t) else IllFormed) w ≡ on (if b then storing w.0 false p (encoding_of t v) (align_of t) (seen_of w.1) else Broken) (left w)
    by_test true = makes_write p (encoding_of t v) (align_of t) w
    by_test false = refl

store_at : (t : Option Ty) (p : Pointer) (v : Val) → Makes (with_type t (λ u. store u p v)) (λ m s. stored_at m t p v s)
store_at None p v w = refl
store_at (Some t) p v w = makes_store t p v w

module _ (s : Surround) (place : Place) where
  pub makes_assign : (value : Value) → Makes (assign s place value) (λ m seen. assigned m s place value seen)
  unfolding assigned placed valued
  makes_assign value w =
      let store_in : Pointer → Val → Change = λ p v. with_type (type_of_place s.locals place) (λ t. store t p v) in
      let value_then : Pointer → Change = λ p. reading_part (value_script s value) >>= store_in p in
      reading_then (place_script s place) value_then w
      ∙ reads_then w (run (reading w.0) (place_script s place) (seen_of w.1)) value_then
      (λ p m seen. on (run (reading m) (value_script s value) seen) (λ v last. stored_at m (type_of_place s.locals place) p v last))
      (λ p v. reading_then (value_script s value) (store_in p) v
      ∙ reads_then v (run (reading v.0) (value_script s value) (seen_of v.1)) (store_in p)
      (λ x m last. stored_at m (type_of_place s.locals place) p x last)
      (λ x. store_at (type_of_place s.locals place) p x))

  pub makes_mention : Makes (mention s place) (λ m seen. mentioned m s place seen)
  unfolding mentioned placed
  makes_mention w =
      reading_then (place_script s place) (λ p. Done tt) w
      ∙ reads_then w (run (reading w.0) (place_script s place) (seen_of w.1)) (λ p. Done tt) (λ p m last. Went m last) (λ p v. refl)

  validates_at : (t : Option Ty) (p : Pointer) → Makes (with_type t (validate_at p)) (λ m seen. validated_at m t p seen)
  unfolding read_typed
  validates_at None p w = refl
  validates_at (Some t) p w =
      reading_then (loading t p) (λ v. store t p v) w
      ∙ reads_then w (run (reading w.0) (loading t p) (seen_of w.1)) (λ v. store t p v) (λ v m last. shaped_store m t p v last) (λ v. makes_store t p v)

  pub makes_validate : Makes (validate s place) (λ m seen. validated m s place seen)
  unfolding validated placed
  makes_validate w =
      reading_then (place_script s place) (λ p. with_type (type_of_place s.locals place) (validate_at p)) w
      ∙ reads_then w (run (reading w.0) (place_script s place) (seen_of w.1)) (λ p. with_type (type_of_place s.locals place) (validate_at p))
      (λ p m last. validated_at m (type_of_place s.locals place) p last) (λ p. validates_at (type_of_place s.locals place) p)

  deinits_at : (t : Option Ty) (p : Pointer) → Makes (with_type t (λ u. write p (blank (size_of u)) (align_of u))) (λ m seen. deinited_at m t p seen)
  deinits_at None p w = refl
  deinits_at (Some t) p w = makes_write p (blank (size_of t)) (align_of t) w

  pub makes_deinit : Makes (deinit s place) (λ m seen. deinited m s place seen)
  unfolding deinited placed
  makes_deinit w =
      reading_then (place_script s place) (λ p. with_type (type_of_place s.locals place) (λ u. write p (blank (size_of u)) (align_of u))) w
      ∙ reads_then w (run (reading w.0) (place_script s place) (seen_of w.1)) (λ p. with_type (type_of_place s.locals place) (λ u. write p (blank (size_of u)) (align_of u)))
      (λ p m last. deinited_at m (type_of_place s.locals place) p last) (λ p. deinits_at (type_of_place s.locals place) p)

  makes_tags : (p : Pointer) (tags : List Tag) → Makes (write_tags p tags) (λ m seen. tagged m p tags seen)
  makes_tags p [] w = refl
  makes_tags p (tag ∷ tags) w =
      run_bind memory_answer (write (behind p tag.at) (tag_bytes tag) 1) (λ u. write_tags p tags) w
      ∙ ap (λ o. on o (λ u v. run memory_answer (write_tags p tags) v)) (makes_write (behind p tag.at) (tag_bytes tag) 1 w)
      ∙ left_then w (storing w.0 false (behind p tag.at) (tag_bytes tag) 1 (seen_of w.1)) (write_tags p tags) (λ m seen. tagged m p tags seen) (makes_tags p tags)

  tags_at : (tags : Option (List Tag)) (p : Pointer) → Makes (write_found p tags) (λ m seen. tagged_at m tags p seen)
  tags_at None p w = refl
  tags_at (Some tags) p w = makes_tags p tags w

  pub makes_discriminant : (number : Num) → Makes (set_discriminant s place number) (λ m seen. discriminated m s place number seen)
  unfolding discriminated placed
  makes_discriminant number w =
      reading_then (place_script s place) (λ p. write_found p (tags_in (type_of_place s.locals place) number)) w
      ∙ reads_then w (run (reading w.0) (place_script s place) (seen_of w.1)) (λ p. write_found p (tags_in (type_of_place s.locals place) number))
      (λ p m last. tagged_at m (tags_in (type_of_place s.locals place) number) p last) (λ p. tags_at (tags_in (type_of_place s.locals place) number) p)

-- A STATEMENT that changes memory makes the change that it comes to
pub makes_change : (s : Surround) (x : Stmt) → IsChange x → Makes (change s x) (λ m seen. changed m s x seen)
makes_change s (stmt.Assign place value) kind = makes_assign s place value
makes_change s (stmt.Mention place) kind = makes_mention s place
makes_change s (stmt.Disc place number) kind = makes_discriminant s place number
makes_change s (stmt.Deinit place) kind = makes_deinit s place
makes_change s (stmt.Validate place) kind = makes_validate s place
makes_change s (stmt.Live x) kind = absurd kind
makes_change s (stmt.Dead x) kind = absurd kind

-- ---- a store over memory and tally

pub store_tells : (r : Result (Unit {0}) Fault) (t : Ty) (p : Pointer) (v : Val) (w : World) (m : Memory) (s : Seen) (refused : Option Reached) → has_shape t v ≡ true
    → Leaves r (stored_typed w.0 t p v (seen_of w.1)) m s refused → Tells r (stored_in t p v w) (m, with_seen w.1 s) refused
unfolding stored_in
store_tells r t p v w m s refused shape h = by_result r h
  where
    is : run memory_answer (store t p v) w ≡ on (stored_typed w.0 t p v (seen_of w.1)) (left w)
    is = makes_store t p v w ∙ ap (λ (b : Bool). on (if b then stored_typed w.0 t p v (seen_of w.1) else Broken) (left w)) shape

    by_result : (q : Result (Unit {0}) Fault) → Leaves q (stored_typed w.0 t p v (seen_of w.1)) m s refused → Tells q (run memory_answer (store t p v) w) (m, with_seen w.1 s) refused
    by_result (Ok u) e = is ∙ ap (λ (o : Left). on o (left w)) e
    by_result (Err (fault.Undefined q)) e = is ∙ ap (λ (o : Left). on o (left w)) e
    by_result (Err fault.Memory) e = tt
