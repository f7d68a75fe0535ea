-- Memos that are made, and that stay while rows come.
use Rattle.mr_rust_order.proofs.Common.{◌≡◌, ◌≢◌, ℕ, ◌+◌, ◌<◌, ◌≤◌, List, [], ◌∷◌, ◌++◌, length, get_or, set, true, IsTrue, refl, sym, ap, ◌∙◌, subst, arith, ℕ_discrete, dec_lt, get_or_append_left, get_or_push, get_or-set_other, get_or-set_same, length-set, length_push, conflicts, Access, Memo, Row, AreMet, IsListed, AreMemos, IsMemo, AreNoted, row_at}

-- a memo that counts every row serves its access
pub memo_serves : (rows : List Row) (m : Memo) (access : Access) → IsMemo rows m → length rows ≤ m.count → m.access ≡ access → AreMet rows access m.found.items
memo_serves rows m access is all same = λ x lt con. is.met x (omega (arith, lt, all)) (subst (λ (a : Access). IsTrue (conflicts (row_at rows x).range a)) (sym same) con)

-- one memo in the place of another
pub memo_set : (rows : List Row) (old : List Memo) (s : ℕ) (m : Memo) → s < length old → AreMemos rows old → IsMemo rows m → AreMemos rows (set old s m)
memo_set rows old s m lt all own =
    record {
      room = let room = all.room in omega (arith, room, length-set old s m);
      each = λ k d less. elim (ℕ_discrete k s) [
        | yes is ↦
            let same : get_or (set old s m) k d ≡ m = ap (λ (q : ℕ). get_or (set old s m) q d) is ∙ get_or-set_same old s m d lt in
            subst (IsMemo rows) (sym same) own
        | no ne ↦ subst (IsMemo rows) (sym (get_or-set_other old s k m d ne)) (all.each k d (omega (arith, less, length-set old s m)))
      ];
    }

-- rows that come, or get another step, leave the memos as they are
pub memos_kept : (old new : List Row) (memos : List Memo) (accesses : List Access) (thread j : ℕ) (clock : List ℕ) → AreNoted old accesses thread j clock new → AreMemos old memos → AreMemos new memos
memos_kept old new memos accesses thread j clock n all =
    record {
      room = all.room;
      each = λ s d lt.
          let m = all.each s d lt in
          let longer = n.longer in
          let within = m.within in
          record {
            within = omega (arith, longer, within);
            met = λ x less con.
                m.met x less
                (subst (λ (r : Access). IsTrue (conflicts r (get_or memos s d).access)) (n.kept x (omega (arith, less, within))).of_range con);
          };
    }

-- ---- memos of no rows

-- so many memos that count no row
pub record AreFresh (memos : List Memo) (n : ℕ) : Type 0 where
  pub many : length memos ≡ n
  pub none : (s : ℕ) (d : Memo) → s < n → (get_or memos s d).count ≡ 0

pub fresh_none : (memos : List Memo) → memos ≡ [] → AreFresh memos 0
fresh_none memos none = record { many = ap length none; none = λ s d lt. absurd (omega (arith, lt)) }

pub fresh_more : (old new : List Memo) (n : ℕ) (m : Memo) → AreFresh old n → m.count ≡ 0 → new ≡ old ++ m ∷ [] → AreFresh new (n + 1)
fresh_more old new n m f zero e =
    record {
      many = let many = f.many in let long = ap length e in omega (arith, many, long, length_push old m);
      none = λ s d lt. elim (ℕ_discrete s n) [
        | yes is ↦ ap (λ (l : List Memo). (get_or l s d).count) e ∙ ap (λ (q : Memo). q.count) (get_or_push old m d s (f.many ∙ sym is)) ∙ zero
        | no ne ↦
            let many = f.many in
            let low : s < length old = omega (arith, lt, ne, many) in
            ap (λ (l : List Memo). (get_or l s d).count) e ∙ ap (λ (q : Memo). q.count) (get_or_append_left old (m ∷ []) d s low) ∙ f.none s d (omega (arith, lt, ne))
      ];
    }

pub fresh_memos : (memos : List Memo) (n : ℕ) → 1024 ≤ n → AreFresh memos n → AreMemos [] memos
fresh_memos memos n room f =
    record {
      room = let many = f.many in omega (arith, room, many);
      each = λ s d lt.
          let many = f.many in
          let none = f.none s d (omega (arith, lt, many)) in
          record { within = omega (arith, none); met = λ x less. absurd (omega (arith, less, none)) };
    }
