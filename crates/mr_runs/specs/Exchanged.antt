-- Pieces that are put together in a row, and put in place of others.
use Rattle.std.specs.Prelude.{◌≡◌, ℕ, ◌+◌, ◌-◌, ◌<◌, ◌≤◌, Bool, false, ◌==◌, List, [], ◌∷◌, ◌++◌, length, drop}
use Rattle.std.specs.Prelude.{Option, Some, None, if◌then◌else◌, ◌⊎◌}
use Rattle.std.specs.List.{list_any}
use Rattle.std.specs.Map.{values_of}
use Rattle.std.specs.BTreeMap.{is_at}
use Rattle.std.specs.Ordering.{nat_cmp}
use Rattle.mr_base.specs.declared.byte.AbstractByte.{AbstractByte}
use Rattle.mr_base.specs.declared.byte.AbstractByte.TheVariants.{Uninit, Init}
use Rattle.mr_runs.specs.declared.mark.Mark.{Mark}
use Rattle.mr_runs.specs.Pieces.{SeenPiece, UninitPiece, InitPiece, piece_len, mark_of, AreMaximal}
use Rattle.mr_runs.specs.Placed.{IsPlaced, bytes_in, found, total_len}

-- ---- a row, from left to right

-- the numbers of a piece; uninitialised bytes have none
abbrev pub numbers_of : SeenPiece → List ℕ
numbers_of (UninitPiece len) = []
numbers_of (InitPiece numbers provenance) = numbers

-- the bytes of a piece, and behind them those of another with its mark
abbrev pub together : SeenPiece → SeenPiece → SeenPiece
together (UninitPiece len) q = UninitPiece (len + piece_len q)
together (InitPiece numbers provenance) q = InitPiece (numbers ++ numbers_of q) provenance

-- a byte as a piece
abbrev pub one_piece : AbstractByte → SeenPiece
one_piece Uninit = UninitPiece 1
one_piece (Init n provenance) = InitPiece (n ∷ []) provenance

-- the mark of the first piece
abbrev pub first_mark : List SeenPiece → Option Mark
first_mark [] = None
first_mark (p ∷ pieces) = Some (mark_of p)

-- the mark of the last piece
abbrev pub last_mark : List SeenPiece → Option Mark
last_mark [] = None
last_mark (p ∷ []) = Some (mark_of p)
last_mark (p ∷ q ∷ pieces) = last_mark (q ∷ pieces)

-- the last piece of a row had the mark of the new one, and was made longer by it
pub record IsJoined (old : List (ℕ × SeenPiece)) (p : SeenPiece) (new : List (ℕ × SeenPiece)) : Type 0 where
  pub front : List (ℕ × SeenPiece)
  pub begin : ℕ
  pub last : SeenPiece
  pub old_is : old ≡ front ++ (begin, last) ∷ []
  pub same : mark_of last ≡ mark_of p
  pub new_is : new ≡ front ++ (begin, together last p) ∷ []

-- the last piece of a row, if there is one, has another mark than the new one, which is put behind it
pub record IsAdded (old : List (ℕ × SeenPiece)) (at : ℕ) (p : SeenPiece) (new : List (ℕ × SeenPiece)) : Type 0 where
  pub apart : last_mark (values_of old) ≡ Some (mark_of p) → ⊥
  pub new_is : new ≡ old ++ (at, p) ∷ []

-- the row has one piece more, which begins at the position
abbrev pub IsPushed : List (ℕ × SeenPiece) → ℕ → SeenPiece → List (ℕ × SeenPiece) → Type 0
IsPushed old at p new = IsJoined old p new ⊎ IsAdded old at p new

-- The row, behind some first pieces of `es`, has the bytes `bytes`. Where pieces stand before it, it begins as they
-- went on.
pub record IsBegun (es row : List (ℕ × SeenPiece)) (bytes : List AbstractByte) : Type 0 where
  pub before : List (ℕ × SeenPiece)
  pub rest : List (ℕ × SeenPiece)
  pub is : es ≡ before ++ rest
  pub placed : IsPlaced row (total_len before)
  pub maximal : AreMaximal (values_of row)
  pub bytes_are : bytes_in before ++ bytes_in row ≡ bytes
  pub meets :
      (before ≡ []) ⊎ ((m : Mark) × (first_mark (values_of row) ≡ Some m) × (first_mark (values_of rest) ≡ Some m))

-- The row is ready to take the place of pieces of `es` up to the position `end`: it was made longer by the bytes
-- between `to` and `end`. Where pieces stand behind it, it ends as those did that stood before them.
pub record IsEnded (es old row : List (ℕ × SeenPiece)) (to end : ℕ) : Type 0 where
  pub front : List (ℕ × SeenPiece)
  pub behind : List (ℕ × SeenPiece)
  pub is : es ≡ front ++ behind
  pub end_is : total_len front ≡ end
  pub more : List AbstractByte
  pub bytes_are : drop to (bytes_in es) ≡ more ++ bytes_in behind
  pub grown : (fs : List (ℕ × SeenPiece)) (bytes : List AbstractByte) → IsBegun fs old bytes → length bytes ≡ to
      → IsBegun fs row (bytes ++ more)
  pub meets :
      (behind ≡ []) ⊎ ((m : Mark) × (last_mark (values_of row) ≡ Some m) × (last_mark (values_of front) ≡ Some m))

-- ---- a row in place of other pieces

-- whether a piece of the row begins at the position
abbrev pub begins : ℕ → List (ℕ × SeenPiece) → Bool
begins q row = list_any (λ e. is_at (nat_cmp e.0) q) row

-- with an empty piece where there is none
abbrev pub staked : Option SeenPiece → Option SeenPiece
staked None = Some (UninitPiece 0)
staked (Some p) = Some p

-- whether there is an empty piece
abbrev pub is_stake : Option SeenPiece → Bool
is_stake None = false
is_stake (Some p) = piece_len p == 0

-- without an empty piece
abbrev pub unstaked : Option SeenPiece → Option SeenPiece
unstaked o = (if is_stake o then None else o)

-- the row ends at a position, one piece right behind the other
pub record IsRow (row : List (ℕ × SeenPiece)) (end : ℕ) : Type 0 where
  pub fits : total_len row ≤ end
  pub placed : IsPlaced row (end - total_len row)
  pub maximal : AreMaximal (values_of row)

-- `new` has the row's pieces between where it begins and where it ends, and else what `old` has
pub record IsExchanged (row old new : List (ℕ × SeenPiece)) (end : ℕ) : Type 0 where
  pub before : (q : ℕ) → q < end - total_len row → found q new ≡ found q old
  pub within : (q : ℕ) → end - total_len row ≤ q → q < end → found q new ≡ found q row
  pub behind : (q : ℕ) → end ≤ q → found q new ≡ found q old

-- the same, where the row's pieces from `last` on are put, and the others are `rest`
pub record IsSettled (row rest old new : List (ℕ × SeenPiece)) (last end : ℕ) : Type 0 where
  pub put : List (ℕ × SeenPiece)
  pub is : row ≡ rest ++ put
  pub last_is : last ≡ (end - total_len row) + total_len rest
  pub before : (q : ℕ) → q < last → found q new ≡ found q old
  pub within : (q : ℕ) → last ≤ q → q < end → found q new ≡ found q row
  pub behind : (q : ℕ) → end ≤ q → found q new ≡ found q old
