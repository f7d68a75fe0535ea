-- What evaluation may ask of memory, and what is noted of it. Evaluation changes nothing. (MiniRust, mem: the basic
-- memory.)
use Rattle.std.specs.Prelude.{ℕ, Bool, false, ◌==◌, if◌then◌else◌, List, [], ◌∷◌, ◌++◌, Option, None, Some, Result, Ok}
use Rattle.std.specs.Prelude.{Err}
use Rattle.mr_base.specs.declared.access.Access.{Access}
use Rattle.mr_base.specs.declared.byte.AbstractByte.{AbstractByte}
use Rattle.mr_base.specs.declared.byte.AllocId.{AllocId}
use Rattle.mr_base.specs.declared.byte.Pointer.{Pointer}
use Rattle.mr_base.specs.declared.reason.Reason.{Reason}
use Rattle.mr_base.specs.declared.reason.Reason.TheVariants.{DanglingReference}
use Rattle.mr_base.specs.declared.reached.Reached.{Reached}
use Rattle.mr_base.specs.declared.reached.Reaching.{Reaching}
use Rattle.mr_base.specs.declared.reached.Reaching.TheVariants.{Loads, Moves, Refers}
use Rattle.mr_mem.specs.Memory.{Memory, checked, read}
use Rattle.mr_base.specs.Script.{Script, Outcome, Went, Refused}
use Rattle.mr_base.specs.Stops.{over, reached_by}

-- a range check; the same of what a reference points to; a load
pub data ReadQuery : Type 0 where
  Check : (p : Pointer) (len : ℕ) → ReadQuery
  Refer : (p : Pointer) (len : ℕ) → ReadQuery
  Read : (atomic : Bool) (p : Pointer) (len align : ℕ) → ReadQuery

-- what is answered to each query: the bytes of a read, and nothing of a check
abbrev pub ReadReply : ReadQuery → Type 0
ReadReply (Read atomic p len align) = List AbstractByte
ReadReply _ = Unit {0}

-- a script of what reads memory and changes nothing
abbrev pub ReadScript : Type 0 → Type 0
ReadScript A = Script ReadQuery ReadReply A

-- ---- what is noted

-- the accesses in order, and the allocations that range checks touched
pub record Seen : Type 0 where
  pub accesses : List Access
  pub touched : List AllocId

-- the allocation, where there is one
abbrev pub ids : Option AllocId → List AllocId
ids None = []
ids (Some id) = id ∷ []

-- what a range check of this pointer and length touches
abbrev pub touching : Pointer → ℕ → List AllocId
touching p len = if len == 0 then [] else ids p.prov

-- a load or a store of this length, noted where it isn't 0
abbrev pub accessing : Bool → Bool → Pointer → ℕ → List Access
accessing store atomic p len =
    if len == 0 then [] else (record { store = store; atomic = atomic; addr = p.addr; len = len }) ∷ []

-- with these accesses and touched allocations behind those so far
abbrev pub seeing : List Access → List AllocId → Seen → Seen
seeing accesses touched s = record { accesses = s.accesses ++ accesses; touched = s.touched ++ touched }

-- ---- what memory answers

-- what goes on behind an answer of memory, or its reason, which speaks of the bytes that were reached
abbrev pub answered : {X A S : Type 0} → Reached → Result X Reason → (X → Outcome A S) → Outcome A S
answered bytes (Ok x) f = f x
answered bytes (Err r) f = Refused (over bytes r)

-- one reason for all
abbrev pub named : {X : Type 0} → Reason → Result X Reason → Result X Reason
named r (Ok x) = Ok x
named r (Err cause) = Err r

-- a range check, of bytes with which this is done
abbrev pub looking : Reaching → Pointer → ℕ → Result (Option AllocId) Reason → Seen → Outcome (Unit {0}) Seen
looking doing p len found s = answered (reached_by doing p len) found (λ _. Went tt (seeing [] (touching p len) s))

-- the bytes of a load, with which this is done
abbrev pub lending : Memory → Reaching → Bool → Pointer → ℕ → ℕ → Seen → Outcome (List AbstractByte) Seen
lending m doing atomic p len align s =
    answered (reached_by doing p len) (read m p len align)
    (λ bytes. Went bytes (seeing (accessing false atomic p len) (touching p len) s))

-- what a memory answers, and what is noted then
abbrev pub reading : Memory → (q : ReadQuery) → Seen → Outcome (ReadReply q) Seen
reading m (Check p len) s = looking Moves p len (checked m p len) s
reading m (Refer p len) s = looking Refers p len (named DanglingReference (checked m p len)) s
reading m (Read atomic p len align) s = lending m Loads atomic p len align s
