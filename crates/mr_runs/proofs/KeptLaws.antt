-- What is kept, changed step by step.
use Rattle.mr_runs.proofs.Common.{◌≡◌, ℕ, List, length, refl, sym, ap, ◌∙◌, subst, OnOk, Result, Ok, Err, AbstractByte, Kept, Whole, Split, SeenPiece, IsReplaced, IsTiled, bytes_in, total_len, with_range_replaced, IsChanged, IsSame, IsSound, stamped}
use Rattle.std.specs.Prelude.{OnErr}
use Rattle.std.specs.BTreeMap.{BTreeMap}

pub same_here : (kept : Kept) (len : ℕ) → IsSound kept len → IsSame kept kept len
same_here kept len s = record { sound = s; bytes_are = refl }

pub same_trans : (one two three : Kept) (len : ℕ) → IsSame one two len → IsSame two three len → IsSame one three len
same_trans one two three len a b = record { sound = b.sound; bytes_are = b.bytes_are ∙ a.bytes_are }

-- a change behind none
pub changed_behind : (one two three : Kept) (len from : ℕ) (bytes : List AbstractByte) → IsSame one two len → IsChanged two three len from bytes → IsChanged one three len from bytes
changed_behind one two three len from bytes a b =
    record { sound = b.sound; bytes_are = b.bytes_are ∙ ap (λ (bs : List AbstractByte). with_range_replaced bs from bytes) a.bytes_are }

-- ---- runs with their numbers

pub whole_changed : (runs new : BTreeMap ℕ SeenPiece) (len from : ℕ) (bytes : List AbstractByte) → IsSound (Whole runs) len → IsReplaced runs.entries new.entries from bytes → IsChanged (Whole runs) (Whole new) len from bytes
whole_changed runs new len from bytes s r = record { sound = (r.tiled, r.whole ∙ s.1); bytes_are = r.bytes_are }

pub whole_same : (runs new : BTreeMap ℕ SeenPiece) (len : ℕ) → IsSound (Whole runs) len → new.entries ≡ runs.entries → IsSame (Whole runs) (Whole new) len
whole_same runs new len s e = record {
  sound = subst (λ (es : List (ℕ × SeenPiece)). IsTiled es × (total_len es ≡ len)) (sym e) s;
  bytes_are = ap bytes_in e;
}

-- ---- marks that stand apart

-- the same marks, and the same numbers
abbrev pub AreEqual : Kept → Kept → Type 0
AreEqual (Split marks numbers) (Split others more) = (others.entries ≡ marks.entries) × (more.items ≡ numbers.items)
AreEqual (Split marks numbers) (Whole runs) = ⊥
AreEqual (Whole runs) new = ⊥

pub split_same : (old new : Kept) (len : ℕ) → IsSound old len → AreEqual old new → IsSame old new len
split_same (Whole runs) new len s e = absurd e
split_same (Split marks numbers) (Whole runs) len s e = absurd e
split_same (Split marks numbers) (Split others more) len s e = record {
  sound = record {
    tiled = subst (λ (es : List (ℕ × SeenPiece)). IsTiled es) (sym e.0) s.tiled;
    whole = ap total_len e.0 ∙ s.whole;
    all = ap length e.1 ∙ s.all;
  };
  bytes_are = ap (λ (es : List (ℕ × SeenPiece)). bytes_in (stamped more.items es)) e.0 ∙ ap (λ (ns : List ℕ). bytes_in (stamped ns marks.entries)) e.1;
}

-- two facts where a call failed
pub on_err_both : {T E P Q R : Type 0} (r : Result T E) → (P → Q → R) → OnErr r P → OnErr r Q → OnErr r R
on_err_both (Ok x) f p q = tt
on_err_both (Err e) f p q = f p q

-- whether or not a call succeeded, what is kept is sound
pub sound_after : {T E : Type 0} (r : Result T E) (old new : Kept) (len from : ℕ) (bytes : List AbstractByte) → OnOk r (IsChanged old new len from bytes) → OnErr r (IsSame old new len) → IsSound new len
sound_after (Ok x) old new len from bytes changed same = changed.sound
sound_after (Err e) old new len from bytes changed same = same.sound

-- what holds anyway
pub on_err_always : {T E P : Type 0} (r : Result T E) → P → OnErr r P
on_err_always (Ok x) p = tt
on_err_always (Err e) p = p
