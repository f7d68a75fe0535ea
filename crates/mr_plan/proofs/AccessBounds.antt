-- The accesses that memory notes have a byte, and end where the addresses do or before.
use Rattle.mr_plan.proofs.Common.{◌≡◌, ◌≢◌, ℕ, zero, suc, ◌<◌, refl, sym, ◌∙◌, subst, List, [], ◌++◌, length, Bool, true, false, Option, Ok, arith, Access, Pointer, Allocation, Memory, bytes_at, Went, Check, Read, Refer, accessing, Allocate, Free, MemoryQuery, MemoryReply, Modify, Reading, Write, memory_answer, Tally}
use Rattle.std.proofs.Common.{All}
use Rattle.std.proofs.lemmas.List.Elements.{All-append, All-cons, All-nil}
use Rattle.mr_event.specs.FootOk.{IsAccessOk}
use Rattle.mr_plan.specs.Limits.{ArePlaced}
use Rattle.mr_plan.proofs.MemoryAnswers.{Modifies, Replaces, changes, check_went, free_went, load_went, modify_went, refer_went, stays, store_went}
use Rattle.mr_plan.proofs.RangeChecks.{Gave, accessing_none, accessing_one, aligned_ok, empty, filled, gave, ranged}
use Rattle.mr_plan.proofs.StoreLaws.{stored_in, written_is}
use Rattle.mr_plan.proofs.WentLaws.{at_outcome}

above_none : (n : ℕ) → n ≢ 0 → 0 < n
above_none zero h = absurd (h refl)
above_none (suc n) h = omega arith

none_more : (xs : List Access) → All IsAccessOk xs → All IsAccessOk (xs ++ [])
none_more xs h = All-append IsAccessOk xs [] h (All-nil IsAccessOk)

module _ (m : Memory) (placed : ArePlaced m) (p : Pointer) (len : ℕ) {X : Type 0} (none : X) (full : Allocation → X) (x : X) where
  -- a range that was checked
  access_ok : (store atomic : Bool) → Gave m p len none full x → All IsAccessOk (accessing store atomic p len)
  access_ok store atomic (empty z e) = subst (All IsAccessOk) (sym (accessing_none store atomic p len z)) (All-nil IsAccessOk)
  access_ok store atomic (filled id a ne w e) =
      let b = placed id a w.there in
      let in_it = b.0 in
      let lies = b.1 in
      let to = w.range.to in
      subst (All IsAccessOk) (sym (accessing_one store atomic p len ne))
      (All-cons IsAccessOk (record { store = store; atomic = atomic; addr = p.addr; len = len }) [] (above_none len ne, omega arith) (All-nil IsAccessOk))

  more_ok : (xs : List Access) (store atomic : Bool) → ranged m p len none full ≡ Ok x → All IsAccessOk xs → All IsAccessOk (xs ++ accessing store atomic p len)
  more_ok xs store atomic h all = All-append IsAccessOk xs (accessing store atomic p len) all (access_ok store atomic (gave m p len none full x h))

-- a modification
modified_ok : (m : Memory) → ArePlaced m → (p : Pointer) (size : ℕ) (change : ℕ → Option ℕ) (m' : Memory) (n n' : Tally) (x : ℕ) → Modifies p size change m n x m' n' → All IsAccessOk n.accesses → All IsAccessOk n'.accesses
modified_ok m placed p size change m' n n' x w h = by_rest w.replaces
  where
    loaded : List Access
    loaded = n.accesses ++ accessing false true p size

    ok : (xs : List Access) (store : Bool) → All IsAccessOk xs → All IsAccessOk (xs ++ accessing store true p size)
    ok xs store all =
        more_ok m placed p size [] (λ b. bytes_at b p.addr size) w.bytes xs store true (aligned_ok p size (ranged m p size [] (λ b. bytes_at b p.addr size)) w.bytes w.is_read).1 all

    by_rest : {new : Option ℕ} → Replaces p size m n new m' n' → All IsAccessOk n'.accesses
    by_rest (stays none same noted) = subst (λ (v : Tally). All IsAccessOk v.accesses) noted (ok n.accesses false h)
    by_rest (changes k some wrote noted) = subst (λ (v : Tally). All IsAccessOk v.accesses) noted (ok loaded true (ok n.accesses false h))

-- WHAT EACH QUERY NOTES of accesses
pub accesses_ok : (q : MemoryQuery) (m m' : Memory) (n n' : Tally) (x : MemoryReply q) → ArePlaced m → memory_answer q (m, n) ≡ Went x (m', n') → All IsAccessOk n.accesses → All IsAccessOk n'.accesses
accesses_ok (Reading (Check p len)) m m' n n' x placed h all = at_outcome (check_went p len m m' n n' x h).goes (λ y w. All IsAccessOk w.1.accesses) (none_more n.accesses all)
accesses_ok (Reading (Refer p len)) m m' n n' x placed h all = at_outcome (refer_went p len m m' n n' x h).goes (λ y w. All IsAccessOk w.1.accesses) (none_more n.accesses all)
accesses_ok (Reading (Read atomic p len align)) m m' n n' x placed h all =
    let a = load_went atomic p len align m m' n n' x h in
    let ok = aligned_ok p align (ranged m p len [] (λ b. bytes_at b p.addr len)) a.result a.is in
    at_outcome a.goes (λ y w. All IsAccessOk w.1.accesses) (more_ok m placed p len [] (λ b. bytes_at b p.addr len) a.result n.accesses false atomic ok.1 all)
accesses_ok (Write atomic p ys align) m m' n n' x placed h all =
    let a = store_went atomic p ys align m m' n n' x h in
    let ok = aligned_ok p align (ranged m p (length ys) m (stored_in m p ys)) a.result (sym (written_is m p ys align) ∙ a.is) in
    at_outcome a.goes (λ y w. All IsAccessOk w.1.accesses) (more_ok m placed p (length ys) m (stored_in m p ys) a.result n.accesses true atomic ok.1 all)
accesses_ok (Modify p size change) m m' n n' x placed h all = modified_ok m placed p size change m' n n' x (modify_went p size m n change x m' n' h) all
accesses_ok (Allocate kind size align addr) m m' n n' x placed h all = at_outcome h (λ y w. All IsAccessOk w.1.accesses) all
accesses_ok (Free p kind size align) m m' n n' x placed h all = at_outcome (free_went p kind size align m m' n n' x h).goes (λ y w. All IsAccessOk w.1.accesses) all
