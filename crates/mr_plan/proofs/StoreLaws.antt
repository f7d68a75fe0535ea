-- A store puts bytes into an allocation: what that makes of its header, and of its bytes at each address.
use Rattle.mr_plan.proofs.Common.{◌≡◌, ℕ, ◌+◌, ◌-◌, ◌<◌, ◌≤◌, refl, sym, ap, ◌∙◌, List, inl, inr, Option, Some, None, Result, Ok, Err, Bool, true, false, cond, length, arith, ◌==◌, slice_get, cases_lt, le-leb, AbstractByte, AllocId, Pointer, Reason, Allocation, Memory, aligned, found, inside, then_give, written, byte_at, header_of}
use Rattle.std.proofs.lemmas.Bool.{lt-leb}
use Rattle.mr_base.specs.declared.reason.Reason.TheVariants.{NoProvenance}
use Rattle.mr_mem.specs.Memory.{put_at}
use Rattle.mr_runs.specs.Ranges.{with_range_replaced}
use Rattle.mr_runs.proofs.RangeLaws.{length-with_range_replaced}
use Rattle.std.specs.FinMap as fin
use Rattle.mr_plan.proofs.Headers.{like_header}
use Rattle.mr_plan.proofs.RangeChecks.{by_tests, range_test, ranged}
use Rattle.mr_plan.proofs.SplicedLaws.{spliced_above, spliced_below, spliced_in}

-- ---- bytes by their addresses

pub byte_inside : (a : Allocation) (x : ℕ) → a.addr ≤ x → byte_at (Some a) x ≡ slice_get a.bytes (x - a.addr)
byte_inside a x h = ap (λ b. cond b (slice_get a.bytes (x - a.addr)) None) (le-leb a.addr x h)

pub byte_below : (a : Allocation) (x : ℕ) → x < a.addr → byte_at (Some a) x ≡ None
byte_below a x h = ap (λ b. cond b (slice_get a.bytes (x - a.addr)) None) (lt-leb a.addr x h)

-- ---- stores

-- the allocation with these bytes from the address on
abbrev pub rewritten : Allocation → ℕ → List AbstractByte → Allocation
rewritten a addr ys = record a { bytes = with_range_replaced a.bytes (addr - a.addr) ys }

-- the memory with this allocation in the place of the one that a provenance names
abbrev pub put_one : Memory → Option AllocId → Allocation → Memory
put_one m None a = m
put_one m (Some id) a = fin.insert m id a

put_at_is : (m : Memory) (id : AllocId) (o : Option Allocation) (addr : ℕ) (ys : List AbstractByte)
    → put_at m id o addr ys ≡ then_give (inside o addr (length ys)) (λ a. fin.insert m id (rewritten a addr ys))
put_at_is m id None addr ys = refl
put_at_is m id (Some a) addr ys = by_both a.live (range_test a addr (length ys))
  where
    by_both : (live in_it : Bool) → then_give (then_give (by_tests a live in_it) (λ _. rewritten a addr ys)) (fin.insert m id) ≡ then_give (by_tests a live in_it) (λ w. fin.insert m id (rewritten w addr ys))
    by_both true true = refl
    by_both true false = refl
    by_both false in_it = refl

put_by : (m : Memory) (o : Option AllocId) (addr : ℕ) (ys : List AbstractByte)
    → elim o as (λ _. Result Memory Reason) [ None ↦ Err NoProvenance | Some id ↦ put_at m id (fin.get m id) addr ys ]
    ≡ then_give (inside (found m o) addr (length ys)) (λ a. put_one m o (rewritten a addr ys))
put_by m None addr ys = refl
put_by m (Some id) addr ys = put_at_is m id (fin.get m id) addr ys

-- what a store of these bytes makes of a memory, by the allocation that is found
abbrev pub stored_in : Memory → Pointer → List AbstractByte → Allocation → Memory
stored_in m p ys a = put_one m p.prov (rewritten a p.addr ys)

-- a store is given by the range check too
pub written_is : (m : Memory) (p : Pointer) (ys : List AbstractByte) (align : ℕ)
    → written m p ys align ≡ aligned p align (ranged m p (length ys) m (stored_in m p ys))
written_is m p ys align = ap (λ r. aligned p align (cond (length ys == 0) (Ok m) r)) (put_by m p.prov p.addr ys)

module _ (a : Allocation) (addr : ℕ) (ys : List AbstractByte) (from : a.addr ≤ addr) (to : addr + length ys ≤ a.addr + length a.bytes) where
  fits : (addr - a.addr) + length ys ≤ length a.bytes
  fits = omega arith

  pub rewritten_size : length (rewritten a addr ys).bytes ≡ length a.bytes
  rewritten_size = length-with_range_replaced a.bytes (addr - a.addr) ys fits

  pub rewritten_header : header_of (Some (rewritten a addr ys)) ≡ header_of (Some a)
  rewritten_header = like_header (rewritten a addr ys) a (record { lasting = record { addr = refl; span = refl; align = refl; kind = refl; size = rewritten_size }; live = refl })

  pub rewritten_in : (x : ℕ) → addr ≤ x → x < addr + length ys → byte_at (Some (rewritten a addr ys)) x ≡ slice_get ys (x - addr)
  rewritten_in x low high =
      let e : (x - a.addr) - (addr - a.addr) ≡ x - addr = omega arith in
      byte_inside (rewritten a addr ys) x (omega arith)
      ∙ spliced_in a.bytes (addr - a.addr) ys fits (x - a.addr) (omega arith) (omega arith)
      ∙ ap (slice_get ys) e

  pub rewritten_below : (x : ℕ) → x < addr → byte_at (Some (rewritten a addr ys)) x ≡ byte_at (Some a) x
  rewritten_below x high =
      elim (cases_lt x a.addr) [
        | inl b ↦ byte_below (rewritten a addr ys) x b ∙ sym (byte_below a x b)
        | inr b ↦
            byte_inside (rewritten a addr ys) x b
            ∙ spliced_below a.bytes (addr - a.addr) ys fits (x - a.addr) (omega arith)
            ∙ sym (byte_inside a x b)
      ]

  pub rewritten_above : (x : ℕ) → addr + length ys ≤ x → byte_at (Some (rewritten a addr ys)) x ≡ byte_at (Some a) x
  rewritten_above x low =
      byte_inside (rewritten a addr ys) x (omega arith)
      ∙ spliced_above a.bytes (addr - a.addr) ys fits (x - a.addr) (omega arith)
      ∙ sym (byte_inside a x (omega arith))
