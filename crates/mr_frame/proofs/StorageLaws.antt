-- What is left behind a free of a local's storage, and new storage for it.
use Rattle.mr_frame.proofs.Common.{◌≡◌, ◌≢◌, ℕ, refl, sym, ap, ◌∙◌, subst, [], ◌∷◌, ◌++◌, Option, None, Some, Result, Ok, Err, reached_by, AllocId, Pointer, Memory, pick_fault, range_fault, ranges_of, get_there, Outcome, Refused, Broken, Went, on, Allocate, memory_answer, next_id, answered, World, tally_of, world_of, Scene, renewed, unstored, CanRenew}
use Rattle.mr_base.specs.declared.reached.Reaching.TheVariants.{Frees}
use Rattle.mr_base.specs.declared.reason.Reason.{Reason}
use Rattle.mr_mem.specs.Memory.{freed}
use Rattle.mr_mem.proofs.RangeLaws.{ranges-freed}
use Rattle.mr_plan.proofs.FreeLaws.{dead, frees}
use Rattle.mr_frame.specs.declared.slot.Slot.{Slot}
use Rattle.std.specs.FinMap as fin
use Rattle.mr_base.specs.declared.byte.Kind.TheVariants.{Stack as OnStack}

-- ---- what a free leaves

pub record Leaves (w v : World) : Type 0 where
  pub ranges : ranges_of v.0 ≡ ranges_of w.0
  pub none : (id : AllocId) → fin.get w.0 id ≡ None → fin.get v.0 id ≡ None
  pub thread : v.1.thread ≡ w.1.thread
  pub count : v.1.count ≡ w.1.count

leaves_same : (w : World) → Leaves w w
leaves_same w = record { ranges = refl; none = λ id e. e; thread = refl; count = refl }

still_none : (m : Memory) (p : Pointer) (size align : ℕ) (r : AllocId × Memory) → freed m p OnStack size align ≡ Ok r → (id : AllocId) → fin.get m id ≡ None → fin.get r.1 id ≡ None
still_none m p size align r e id none =
    let f = frees m p OnStack size align r e in
    let other : id ≢ f.id = λ same. some_none (sym f.there ∙ ap (fin.get m) (sym same) ∙ none) in
    ap (λ (q : AllocId × Memory). fin.get q.1 id) (sym f.is) ∙ get_there m f.id (dead f.alloc) id other ∙ none
  where
    some_none : {A : Type 0} {x : A} → Some x ≡ None → ⊥
    some_none h = cc

abbrev went_freed : World → AllocId × Memory → Outcome (Unit {0}) World
went_freed w f = Went tt (f.1, record w.1 { freed = w.1.freed ++ f.0 ∷ [] })

leaves_freed : (w v : World) (p : Pointer) (size align : ℕ) (r : Result (AllocId × Memory) Reason) → freed w.0 p OnStack size align ≡ r
    → answered (reached_by Frees p size) r (went_freed w) ≡ Went tt v → Leaves w v
leaves_freed w v p size align (Ok r) e h =
    subst (Leaves w) (ap (world_in w) h)
    (record { ranges = ranges-freed w.0 r.1 p OnStack size align r.0 e; none = still_none w.0 p size align r e; thread = refl; count = refl })
  where
    world_in : World → Outcome (Unit {0}) World → World
    world_in u (Went x a) = a
    world_in u (Refused q) = u
    world_in u Broken = u
leaves_freed w v p size align (Err q) e h = absurd (cc)

pub unstored_leaves : (storage : Option Pointer) (size align : ℕ) (w v : World) → unstored storage size align w ≡ Went tt v → Leaves w v
unstored_leaves None size align w v e = subst (Leaves w) (ap (world_in w) e) (leaves_same w)
  where
    world_in : World → Outcome (Unit {0}) World → World
    world_in u (Went x a) = a
    world_in u (Refused q) = u
    world_in u Broken = u
unstored_leaves (Some p) size align w v e = leaves_freed w v p size align (freed w.0 p OnStack size align) refl e

-- ---- new storage

pub renewed_is : (slot : Slot) (a : ℕ) (w : World) → renewed slot a w ≡ on (unstored slot.storage slot.size slot.align w) (λ u v. memory_answer (Allocate OnStack slot.size slot.align a) v)
unfolding renewed
renewed_is slot a w = refl

module _ (slot : Slot) (a : ℕ) (s t : Scene) (can : CanRenew slot a s) (gone : unstored slot.storage slot.size slot.align (world_of s) ≡ Went tt (world_of t)) where
  left : Leaves (world_of s) (world_of t)
  left = unstored_leaves slot.storage slot.size slot.align (world_of s) (world_of t) gone

  pub renew_lawful : pick_fault t.memory a slot.size slot.align ≡ None
  renew_lawful = ap (λ rs. range_fault rs a slot.size slot.align) left.ranges ∙ can.lawful

  pub renew_new : fin.get t.memory (next_id (tally_of t)) ≡ None
  renew_new = ap (fin.get t.memory) (λ i. record { thread = left.thread i; count = left.count i }) ∙ left.none (next_id (tally_of s)) can.new

pub ruleset storage_laws = (renewed_is, renew_lawful, renew_new)
