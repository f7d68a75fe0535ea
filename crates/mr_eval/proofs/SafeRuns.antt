-- A script that is never ill-formed comes to no state without a rule over any memory.
use Rattle.mr_eval.proofs.Common.{◌≡◌, ℕ, List, [], Result, Ok, Err, true, false, length, Loads, Moves, Refers, Reached, reached_by, Named, is_shaped_place, is_shaped_value, Place, Value, Reason, DanglingReference, Memory, checked, read, Done, Undefined, IllFormed, Ask, Outcome, Went, on, run, broken_in_place, broken_in_value, Check, Read, ReadScript, Refer, Seen, accessing, answered, named, reading, seeing, touching, placed, valued, Surround, place_script, value_script, Comes, Good, IsSafe, Stands, any_result}
use Rattle.mr_eval.specs.Reads.{ReadQuery, ReadReply}
use Rattle.mr_eval.proofs.ExprSafe.{place_safe, value_safe}
use Rattle.mr_eval.proofs.OperatorsSafe.{Shaped}
use Rattle.mr_eval.proofs.ReadLength.{IsWhere, read_length}

-- ---- runs

module _ {A : Type 0} (P : A → Type 0) (m : Memory) where
  answered_then : {X Y : Type 0} (bytes : Reached) (r : Result X Reason) (good : X → Type 0) → IsWhere good r → (f : X → Y) (after : Seen) (next : Y → Seen → Outcome A Seen) → ((x : X) → good x → Comes P (next (f x) after))
      → Comes P (on (answered bytes r (λ x. Went (f x) after)) next)
  answered_then bytes (Ok x) good h f after next k = k x h
  answered_then bytes (Err e) good h f after next k = tt

  anything : {X : Type 0} (r : Result X Reason) → IsWhere any_result r
  anything (Ok x) = tt
  anything (Err e) = tt

  -- a query, and what comes after it
  query_comes : (q : ReadQuery) (seen : Seen) (next : ReadReply q → Seen → Outcome A Seen) → ((x : ReadReply q) (s : Seen) → Good q x → Comes P (next x s)) → Comes P (on (reading m q seen) next)
  query_comes (Check p len) seen next k =
      let after = seeing [] (touching p len) seen in
      answered_then (reached_by Moves p len) (checked m p len) any_result (anything (checked m p len)) (λ x. tt) after next (λ x g. k tt after tt)
  query_comes (Refer p len) seen next k =
      let after = seeing [] (touching p len) seen in
      let r = named DanglingReference (checked m p len) in
      answered_then (reached_by Refers p len) r any_result (anything r) (λ x. tt) after next (λ x g. k tt after tt)
  query_comes (Read atomic p len align) seen next k =
      let after = seeing (accessing false atomic p len) (touching p len) seen in
      answered_then (reached_by Loads p len) (read m p len align) (λ bytes. length bytes ≡ len) (read_length m p len align) (λ bytes. bytes) after next (λ bytes sized. k bytes after sized)

  pub safe_comes : (script : ReadScript A) → IsSafe P script → (seen : Seen) → Comes P (run (reading m) script seen)
  safe_comes (Done x) h seen = h
  safe_comes (Undefined r) h seen = tt
  safe_comes IllFormed h seen = h
  safe_comes (Ask q k) h seen = query_comes q seen (λ x s. run (reading m) (k x) s) (λ x s good. safe_comes (k x) (h x good) s)

-- ---- expressions

module _ (named : Named) (sizes : List ℕ) (s : Surround) (stands : Stands named s) (m : Memory) (seen : Seen) where
  pub place_comes : (p : Place) → is_shaped_place named p ≡ true → broken_in_place (record { sizes = sizes; locals = s.locals }) p ≡ [] → Comes any_result (placed m s p seen)
  unfolding placed
  place_comes p shaped none = safe_comes any_result m (place_script s p) (place_safe named sizes s stands p shaped none).safe seen

  pub value_comes : (v : Value) → (shaped : is_shaped_value named v ≡ true) → (none : broken_in_value (record { sizes = sizes; locals = s.locals }) v ≡ [])
      → Comes (Shaped (value_safe named sizes s stands v shaped none).ty) (valued m s v seen)
  unfolding valued
  value_comes v shaped none =
      let is = value_safe named sizes s stands v shaped none in
      safe_comes (Shaped is.ty) m (value_script s v) is.safe seen
