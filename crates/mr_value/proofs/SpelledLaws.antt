-- What bytes spell, piece by piece.
use Rattle.mr_value.proofs.Common.{◌≡◌, ℕ, zero, suc, ◌+◌, ◌-◌, ◌*◌, ◌%◌, ◌^◌, ◌<◌, ◌≤◌, Bool, true, false, ◌&&◌, List, [], ◌∷◌, ◌++◌, length, get_or, take, drop, Option, Some, None, refl, sym, ap, ◌∙◌, subst, arith, length-append, if◌then◌else◌, option_map, slice_get, nat_tests, take_all, take_more, AllocId, Uninit, Init, SeenPiece, InitPiece, bytes_of_pieces, with_provenance, Bytes, number_of, all_have}
use Rattle.std.proofs.Common.{replicate}
use Rattle.std.proofs.Math.Pow.{pow_mono}
use Rattle.mr_runs.specs.Pieces.{UninitPiece, bytes_of_piece, piece_len, AreMaximal}
use Rattle.mr_runs.proofs.PlacedLaws.{length-bytes_of_piece}
use Rattle.mr_value.specs.declared.numbers.Sharing.{Sharing}
use Rattle.mr_value.specs.declared.numbers.Sharing.TheVariants.{Any, One, Differ}
use Rattle.mr_value.specs.declared.numbers.Spelled.{Spelled}
use Rattle.mr_value.specs.Spelled.{initial_number, shared_in, shares, sharing_behind, Spells}
use Rattle.mr_base.specs.Identities.{same_id}
use Rattle.mr_value.proofs.Digits.{byte_fits}
use Rattle.mr_value.proofs.NumbersBack.{id_itself}

-- ---- numbers

number_digit : (n : ℕ) (numbers : List ℕ) (o : Option ℕ) → option_map (λ m. n % 256 + 256 * m) (option_map (initial_number numbers) o) ≡ option_map (initial_number (n ∷ numbers)) o
number_digit n numbers None = refl
number_digit n numbers (Some m) = refl

number_same : (o : Option ℕ) → o ≡ option_map (initial_number []) o
number_same None = refl
number_same (Some m) = refl

pub number_of-append : (provenance : Option AllocId) (numbers : List ℕ) (bytes : Bytes) → number_of (with_provenance provenance numbers ++ bytes) ≡ option_map (initial_number numbers) (number_of bytes)
number_of-append provenance [] bytes = number_same (number_of bytes)
number_of-append provenance (n ∷ numbers) bytes =
    ap (option_map (λ m. n % 256 + 256 * m)) (number_of-append provenance numbers bytes) ∙ number_digit n numbers (number_of bytes)

fewer : (l m : ℕ) → m < 2 ^ (8 * l) → m < 2 ^ (8 * (suc l - 1))
fewer l m lt =
    let same : l ≡ suc l - 1 = omega arith in
    let e : 2 ^ (8 * l) ≡ 2 ^ (8 * (suc l - 1)) = ap (λ k. 2 ^ (8 * k)) same in
    omega arith

-- a list that isn't empty, and its last item
pub ends_with : (numbers : List ℕ) → 1 ≤ length numbers → numbers ≡ take (length numbers - 1) numbers ++ get_or numbers (length numbers - 1) 0 ∷ []
ends_with numbers some =
    let all : length numbers ≡ length numbers - 1 + 1 = omega arith in
    sym (take_all (length numbers) numbers (omega arith)) ∙ ap (λ k. take k numbers) all ∙ take_more numbers (length numbers - 1) 0 (omega arith)

-- the last of the lowest bytes
pub initial_last : (numbers : List ℕ) (n rest : ℕ) → n < 256 → initial_number (numbers ++ n ∷ []) rest ≡ initial_number numbers (n + 256 * rest)
initial_last [] n rest small = let same : n % 256 ≡ n = omega arith in ap (λ k. k + 256 * rest) same
initial_last (k ∷ numbers) n rest small = ap (λ m. k % 256 + 256 * m) (initial_last numbers n rest small)

-- a number of so many bytes fits so many
pub number_fits : (bytes : Bytes) (n : ℕ) → number_of bytes ≡ Some n → n < 2 ^ (8 * length bytes)
number_fits [] n is = let e : 0 ≡ n = cc in omega arith
number_fits (Uninit ∷ bytes) n is = absurd (cc)
number_fits (Init k p ∷ bytes) n is = by_rest (number_of bytes) is (number_fits bytes)
  where
    by_rest : (o : Option ℕ) → option_map (λ m. k % 256 + 256 * m) o ≡ Some n → ((m : ℕ) → o ≡ Some m → m < 2 ^ (8 * length bytes)) → n < 2 ^ (8 * suc (length bytes))
    by_rest None none rest = absurd (cc)
    by_rest (Some m) here rest =
        let e : k % 256 + 256 * m ≡ n = cc in
        let less : m < 2 ^ (8 * (suc (length bytes) - 1)) = fewer (length bytes) m (rest m refl) in
        let small : k % 256 < 256 = omega arith in
        let all : k % 256 + 256 * m < 2 ^ (8 * suc (length bytes)) = byte_fits (suc (length bytes)) (k % 256) m (omega arith) small less in
        omega arith

pub wider : (a b n : ℕ) → a ≤ b → n < 2 ^ (8 * a) → n < 2 ^ (8 * b)
wider a b n le lt =
    let h : 8 * a ≤ 8 * b = omega arith in
    let m : 2 ^ (8 * a) ≤ 2 ^ (8 * b) = pow_mono h in
    omega arith

-- ---- provenances

both_same : (p q r : AllocId) → same_id p q ≡ true → (same_id r p && same_id r q) ≡ same_id r q
both_same p q r same = grind (arith, nat_tests)

both_differ : (p q r : AllocId) → same_id p q ≡ false → (same_id r p && same_id r q) ≡ false
both_differ p q r differ = grind (arith, nat_tests)

twice : (a b : Bool) → (a && (a && b)) ≡ (a && b)
twice true b = refl
twice false b = refl

none_have : (r : AllocId) (n : ℕ) (numbers : List ℕ) (bytes : Bytes) → all_have r (with_provenance None (n ∷ numbers) ++ bytes) ≡ false
none_have r n numbers bytes = refl

all_have-append : (r p : AllocId) (n : ℕ) (numbers : List ℕ) (bytes : Bytes) → all_have r (with_provenance (Some p) (n ∷ numbers) ++ bytes) ≡ (same_id r p && all_have r bytes)
all_have-append r p n [] bytes = refl
all_have-append r p n (k ∷ numbers) bytes =
    ap (λ b. same_id r p && b) (all_have-append r p k numbers bytes) ∙ twice (same_id r p) (all_have r bytes)

same_have : (p : AllocId) (numbers : List ℕ) (bytes : Bytes) → all_have p (with_provenance (Some p) numbers ++ bytes) ≡ all_have p bytes
same_have p [] bytes = refl
same_have p (n ∷ numbers) bytes = all_have-append p p n numbers bytes ∙ ap (λ b. b && all_have p bytes) (id_itself p)

shares_behind : (r p : AllocId) (rest : Sharing) → (same_id r p && shares r rest) ≡ shares r (sharing_behind (Some p) rest)
shares_behind r p Any = and_true (same_id r p)
  where
    and_true : (b : Bool) → (b && true) ≡ b
    and_true true = refl
    and_true false = refl
shares_behind r p (One q) = by_test (same_id p q) refl
  where
    by_test : (b : Bool) → same_id p q ≡ b → (same_id r p && same_id r q) ≡ shares r (if b then One q else Differ)
    by_test true is = both_same p q r is
    by_test false is = both_differ p q r is
shares_behind r p Differ = and_false (same_id r p)
  where
    and_false : (b : Bool) → (b && false) ≡ false
    and_false true = refl
    and_false false = refl

same_ids : (p q : AllocId) → same_id p q ≡ true → p ≡ q
same_ids p q is =
    let thread : p.thread ≡ q.thread = grind (arith, nat_tests) in
    let count : p.count ≡ q.count = grind (arith, nat_tests) in
    λ i. record { thread = thread i; count = count i }

shared_behind : (p : AllocId) (rest : Sharing) → (if shares p rest then Some p else None) ≡ shared_in (sharing_behind (Some p) rest)
shared_behind p Any = refl
shared_behind p (One q) = by_test (same_id p q) refl
  where
    by_test : (b : Bool) → same_id p q ≡ b → (if b then Some p else None) ≡ shared_in (if b then One q else Differ)
    by_test true is = ap (λ (r : AllocId). Some r) (same_ids p q is)
    by_test false is = refl
shared_behind p Differ = refl

-- ---- one piece more

pub spelled_none : (bytes : Bytes) (provenance : Option AllocId) (numbers : List ℕ) → Spells bytes None → Spells (with_provenance provenance numbers ++ bytes) None
spelled_none bytes provenance numbers none = number_of-append provenance numbers bytes ∙ ap (option_map (initial_number numbers)) none

pub spelled_uninit : (len : ℕ) (bytes : Bytes) → 0 < len → Spells (replicate len Uninit ++ bytes) None
spelled_uninit zero bytes some = absurd (omega arith)
spelled_uninit (suc len) bytes some = refl

pub spelled_nothing : Spells [] (Some (record { number = 0; sharing = Any }))
spelled_nothing = (refl, refl, λ p. refl)

-- there are no bytes
pub spelled_empty : (bytes : Bytes) → length bytes ≡ 0 → Spells bytes (Some (record { number = 0; sharing = Any }))
spelled_empty [] none = spelled_nothing
spelled_empty (b ∷ bytes) none = absurd (omega arith)

pub spelled_more : (provenance : Option AllocId) (numbers : List ℕ) (bytes : Bytes) (s : Spelled) → 0 < length numbers → Spells bytes (Some s)
    → Spells (with_provenance provenance numbers ++ bytes) (Some (record { number = initial_number numbers s.number; sharing = sharing_behind provenance s.sharing }))
spelled_more provenance [] bytes s some h = absurd (omega arith)
spelled_more None (n ∷ numbers) bytes s some h =
    (number_of-append None (n ∷ numbers) bytes ∙ ap (option_map (initial_number (n ∷ numbers))) h.0, refl, λ r. none_have r n numbers bytes)
spelled_more (Some p) (n ∷ numbers) bytes s some h = (
  number_of-append (Some p) (n ∷ numbers) bytes ∙ ap (option_map (initial_number (n ∷ numbers))) h.0,
  ap (λ b. if b then Some p else None) (same_have p numbers bytes ∙ h.2 p) ∙ shared_behind p s.sharing,
  λ r. all_have-append r p n numbers bytes ∙ ap (λ b. same_id r p && b) (h.2 r) ∙ shares_behind r p s.sharing,
)

-- ---- pieces by number

-- the pieces from one on, which is the first of them
pub pieces_from : (ps : List SeenPiece) (n : ℕ) (p : SeenPiece) → slice_get ps n ≡ Some p → drop n ps ≡ p ∷ drop (n + 1) ps
pieces_from [] n p is = absurd (cc)
pieces_from (q ∷ ps) zero p is = let e : q ≡ p = cc in ap (λ (r : SeenPiece). r ∷ ps) e
pieces_from (q ∷ ps) (suc n) p is = pieces_from ps n p is ∙ ap (λ (rs : List SeenPiece). p ∷ rs) (one_more n)
  where
    one_more : (n : ℕ) → drop (n + 1) ps ≡ drop (suc n + 1) (q ∷ ps)
    one_more n = let e : suc n + 1 ≡ suc (n + 1) = omega arith in ap (λ k. drop k (q ∷ ps)) (sym e)

pub pieces_past_last : (ps : List SeenPiece) (n : ℕ) → slice_get ps n ≡ None → drop n ps ≡ []
pieces_past_last [] zero is = refl
pieces_past_last [] (suc n) is = refl
pieces_past_last (q ∷ ps) zero is = absurd (cc)
pieces_past_last (q ∷ ps) (suc n) is = pieces_past_last ps n is

-- none is empty
pub piece_filled : (ps : List SeenPiece) (n : ℕ) (p : SeenPiece) → AreMaximal ps → slice_get ps n ≡ Some p → 0 < piece_len p
piece_filled [] n p h is = absurd (cc)
piece_filled (q ∷ ps) zero p h is = let e : q ≡ p = cc in let filled : 0 < piece_len q = h.0 in omega (arith, ap piece_len e)
piece_filled (q ∷ ps) (suc n) p h is = piece_filled ps n p h.2 is

-- there are no more pieces than bytes
pub fewer_pieces : (ps : List SeenPiece) → AreMaximal ps → length ps ≤ length (bytes_of_pieces ps)
fewer_pieces [] h = omega arith
fewer_pieces (p ∷ ps) h =
    let filled : 0 < piece_len p = h.0 in
    omega (arith, fewer_pieces ps h.2, length-append (bytes_of_piece p) (bytes_of_pieces ps), length-bytes_of_piece p)

-- the bytes from a piece on are the piece's and those from the next one on
pub bytes_from : (ps : List SeenPiece) (n : ℕ) (p : SeenPiece) → slice_get ps n ≡ Some p → bytes_of_pieces (drop n ps) ≡ bytes_of_piece p ++ bytes_of_pieces (drop (n + 1) ps)
bytes_from ps n p is = ap bytes_of_pieces (pieces_from ps n p is)

pub len_from : (ps : List SeenPiece) (n : ℕ) (p : SeenPiece) → slice_get ps n ≡ Some p → length (bytes_of_pieces (drop n ps)) ≡ piece_len p + length (bytes_of_pieces (drop (n + 1) ps))
len_from ps n p is =
    omega (arith, ap length (bytes_from ps n p is), length-append (bytes_of_piece p) (bytes_of_pieces (drop (n + 1) ps)), length-bytes_of_piece p)

module _ (ps : List SeenPiece) (n : ℕ) (maximal : AreMaximal ps) where
  pub spells_uninit : (len : ℕ) → slice_get ps n ≡ Some (UninitPiece len) → Spells (bytes_of_pieces (drop n ps)) None
  spells_uninit len is =
      let P : Bytes → Type 0 = λ bs. Spells bs None in
      subst P (sym (bytes_from ps n (UninitPiece len) is)) (spelled_uninit len (bytes_of_pieces (drop (n + 1) ps)) (piece_filled ps n (UninitPiece len) maximal is))

  pub spells_none : (numbers : List ℕ) (provenance : Option AllocId) → slice_get ps n ≡ Some (InitPiece numbers provenance) → Spells (bytes_of_pieces (drop (n + 1) ps)) None
      → Spells (bytes_of_pieces (drop n ps)) None
  spells_none numbers provenance is none =
      let P : Bytes → Type 0 = λ bs. Spells bs None in
      subst P (sym (bytes_from ps n (InitPiece numbers provenance) is)) (spelled_none (bytes_of_pieces (drop (n + 1) ps)) provenance numbers none)

  pub spells_more : (numbers : List ℕ) (provenance : Option AllocId) (s : Spelled) → slice_get ps n ≡ Some (InitPiece numbers provenance) → Spells (bytes_of_pieces (drop (n + 1) ps)) (Some s)
      → Spells (bytes_of_pieces (drop n ps)) (Some (record { number = initial_number numbers s.number; sharing = sharing_behind provenance s.sharing }))
  spells_more numbers provenance s is h =
      let P : Bytes → Type 0 = λ bs. Spells bs (Some (record { number = initial_number numbers s.number; sharing = sharing_behind provenance s.sharing })) in
      subst P (sym (bytes_from ps n (InitPiece numbers provenance) is))
      (spelled_more provenance numbers (bytes_of_pieces (drop (n + 1) ps)) s (piece_filled ps n (InitPiece numbers provenance) maximal is) h)
