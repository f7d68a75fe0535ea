-- A piece of bytes that grows over uninitialised ones behind it.
use Rattle.mr_runs.proofs.Common.{◌≡◌, ◌≢◌, ℕ, ◌+◌, ◌-◌, ◌<◌, ◌≤◌, ◌⊎◌, min, Bool, true, false, cond, List, [], ◌∷◌, ◌++◌, length, take, Some, None, Option, refl, sym, ap, ◌∙◌, inl, inr, ⊎_elim, arith, length-append, length-take, nat_cmp, is_at, IsStrictlySortedBy, keys_of, cases_eq, cases_lt, cases_order, length-map, same_Some, AbstractByte, Init, AllocId, IsBegun, IsEnded, IsExchanged, IsPushed, with_provenance, SeenPiece, UninitPiece, InitPiece, bytes_of_piece, mark_of, piece_len, bytes_in, found, total_len, Holds, IsReplaced, IsTiled, piece_past}
use Rattle.mr_runs.specs.Growing.{with_numbers, CanGrow}
use Rattle.mr_runs.specs.declared.mark.Mark.TheVariants as mark
use Rattle.mr_runs.proofs.ExchangeLaws.{replaced}
use Rattle.mr_runs.proofs.FindLaws.{holds_found, maximal_rest, placed_rest, tiled_as, tiled_front}
use Rattle.mr_runs.proofs.PlacedLaws.{length-bytes_in, none_before, none_behind, same_as_placed}
use Rattle.mr_runs.proofs.Positions.{at_other, at_same, found_behind, found_here, found_later, same_at}
use Rattle.mr_runs.proofs.RowLaws.{begun_as, begun_front, begun_push, ended_within}
use Rattle.mr_runs.proofs.WindowLaws.{first_piece-all, piece_past-zero}

-- nothing begins within a piece
pub none_within : (es : List (ℕ × SeenPiece)) (at begin q : ℕ) (p : SeenPiece) → IsTiled es → Holds es at begin p → begin < q → q < begin + piece_len p → found q es ≡ None
none_within es at begin q p t h gt lt =
    let whole = tiled_as es (h.before ++ (begin, p) ∷ h.behind) h.is t in
    let front = tiled_front h.before ((begin, p) ∷ h.behind) whole in
    let rest = placed_rest h.before ((begin, p) ∷ h.behind) whole in
    let start : begin ≡ total_len h.before = rest.0 in
    ap (found q) h.is
    ∙ found_behind h.before ((begin, p) ∷ h.behind) q (none_behind h.before 0 q front.placed front.maximal (omega arith))
    ∙ found_later q (begin, p) h.behind (λ same. omega arith)
    ∙ none_before h.behind (total_len h.before + piece_len p) q rest.1 (omega arith)

-- one piece holds a position
pub same_begin : (es : List (ℕ × SeenPiece)) (at a b : ℕ) (p q : SeenPiece) → IsTiled es → Holds es at a p → Holds es at b q → a ≡ b
same_begin es at a b p q t h k = ⊎_elim (λ same. same) (⊎_elim (λ lt. before a b p q h k lt) (λ gt. sym (before b a q p k h gt))) (cases_order a b)
  where
    before : (a b : ℕ) (p q : SeenPiece) → Holds es at a p → Holds es at b q → a < b → a ≡ b
    before a b p q h k lt =
        let low : b ≤ at = k.from in
        let high : at < a + piece_len p = h.to in
        let no : Some q ≡ None = sym (holds_found es at b q t k) ∙ none_within es at a b p t h lt (omega arith) in
        absurd (cc)

pub same_holder : (es : List (ℕ × SeenPiece)) (at a b : ℕ) (p q : SeenPiece) → IsTiled es → Holds es at a p → Holds es at b q → p ≡ q
same_holder es at a b p q t h k =
    same_Some p q (sym (holds_found es at a p t h) ∙ ap (λ n. found n es) (same_begin es at a b p q t h k) ∙ holds_found es at b q t k)

-- a piece before another one ends where that begins
pub ends_at : (es : List (ℕ × SeenPiece)) (from begin : ℕ) (p q : SeenPiece) → IsTiled es → 0 < from → Holds es (from - 1) begin p → Holds es from from q → begin + piece_len p ≡ from
ends_at es from begin p q t some h k =
    let low : begin ≤ from - 1 = h.from in
    let high : from - 1 < begin + piece_len p = h.to in
    ⊎_elim
    (λ lt. let no : Some q ≡ None = sym (holds_found es from from q t k) ∙ none_within es (from - 1) begin from p t h (omega arith) lt in absurd (cc))
    (λ ge. omega arith)
    (cases_lt from (begin + piece_len p))

pub uninit_is : (p : SeenPiece) → mark_of p ≡ mark.Uninit → p ≡ UninitPiece (piece_len p)
uninit_is (UninitPiece len) is = refl
uninit_is (InitPiece numbers provenance) is = absurd (cc)

mark_of-with_numbers : (p : SeenPiece) (numbers : List ℕ) → mark_of (with_numbers p numbers) ≡ mark_of p
mark_of-with_numbers (UninitPiece len) numbers = refl
mark_of-with_numbers (InitPiece own provenance) numbers = refl

len-with_numbers : (p : SeenPiece) (numbers : List ℕ) (provenance : Option AllocId) → mark_of p ≡ mark.Init provenance → piece_len (with_numbers p numbers) ≡ piece_len p + length numbers
len-with_numbers (UninitPiece len) numbers provenance like = absurd (cc)
len-with_numbers (InitPiece own its) numbers provenance like = length-append own numbers

not_uninit : (p : SeenPiece) (provenance : Option AllocId) → mark_of p ≡ mark.Init provenance → mark_of p ≡ mark.Uninit → ⊥
not_uninit p provenance like is = cc

-- a row of the piece, and behind it the numbers
begun_like : (es : List (ℕ × SeenPiece)) (done : List AbstractByte) (at begin : ℕ) (p : SeenPiece) (numbers : List ℕ) (provenance : Option AllocId) → mark_of p ≡ mark.Init provenance → 0 < length numbers
    → IsBegun es ((begin, p) ∷ []) done → length done ≡ at → IsBegun es ((begin, with_numbers p numbers) ∷ []) (done ++ with_provenance provenance numbers)
begun_like es done at begin (UninitPiece len) numbers provenance like some h ends = absurd (cc)
begun_like es done at begin (InitPiece own its) numbers provenance like some h ends =
    let more = InitPiece numbers its in
    let same : its ≡ provenance = cc in
    let pushed : IsPushed ((begin, InitPiece own its) ∷ []) at (InitPiece numbers its) ((begin, InitPiece (own ++ numbers) its) ∷ []) =
    inl (record { front = []; begin = begin; last = InitPiece own its; old_is = refl; same = refl; new_is = refl }) in
    begun_as es ((begin, InitPiece (own ++ numbers) its) ∷ []) (done ++ bytes_of_piece more) (done ++ with_provenance provenance numbers)
    (ap (λ (p : Option AllocId). done ++ with_provenance p numbers) same)
    (begun_push es ((begin, InitPiece own its) ∷ []) done at more ((begin, InitPiece (own ++ numbers) its) ∷ []) h pushed ends some)

module _ (es : List (ℕ × SeenPiece)) (from begin rest : ℕ) (numbers : List ℕ) (provenance : Option AllocId) (t : IsTiled es) (some : 0 < length numbers) (inside : from + length numbers ≤ total_len es) (g : CanGrow es from (length numbers) provenance begin rest) where
  filled : 0 < piece_len g.piece
  filled =
      let at = g.holds in
      (maximal_rest at.before ((begin, g.piece) ∷ at.behind) (tiled_as es (at.before ++ (begin, g.piece) ∷ at.behind) at.is t)).0

  first_row : IsBegun es ((begin, g.piece) ∷ []) (take from (bytes_in es))
  first_row =
      begun_front es from begin g.piece g.piece t g.some g.holds
      (sym (first_piece-all (piece_past g.piece 0) (from - begin) (omega (arith, g.ends, ap piece_len (piece_past-zero g.piece))) ∙ piece_past-zero g.piece))

  front_len : length (take from (bytes_in es)) ≡ from
  front_len = omega (arith, length-take from (bytes_in es), length-bytes_in es)

  grown_row : IsBegun es ((begin, with_numbers g.piece numbers) ∷ []) (take from (bytes_in es) ++ with_provenance provenance numbers)
  grown_row = begun_like es (take from (bytes_in es)) from begin g.piece numbers provenance g.like some first_row front_len

  grown_len : piece_len (with_numbers g.piece numbers) ≡ piece_len g.piece + length numbers
  grown_len = len-with_numbers g.piece numbers provenance g.like

  ended_row : IsEnded es ((begin, with_numbers g.piece numbers) ∷ []) ((begin, with_numbers g.piece numbers) ∷ (from + length numbers, UninitPiece rest) ∷ [])
      (from + length numbers) (from + (length numbers + rest))
  ended_row =
      let left : 0 < rest = g.left in
      ended_within es ((begin, with_numbers g.piece numbers) ∷ []) ((begin, with_numbers g.piece numbers) ∷ (from + length numbers, UninitPiece rest) ∷ [])
      (from + length numbers) from (from + (length numbers + rest)) (UninitPiece (length numbers + rest)) (UninitPiece rest) t
      (record { before = g.gap.before; behind = g.gap.behind; is = g.gap.is; from = omega arith; to = omega arith })
      refl (ap UninitPiece cut)
      (inr (record { apart = λ same. not_uninit g.piece provenance g.like (sym (mark_of-with_numbers g.piece numbers) ∙ same_Some _ _ same); new_is = refl }))
    where
      cut : rest ≡ min (from + (length numbers + rest) - (from + length numbers)) (length numbers + rest - (from + length numbers - from))
      cut = omega arith

  -- the entries that the steps of the code lead to
  module _ (taken grown new : List (ℕ × SeenPiece))
      (take_is : (q : ℕ) → found q taken ≡ cond (is_at (nat_cmp (from + length numbers)) q) (Some (UninitPiece rest)) (found q es))
      (grow_is : (q : ℕ) → found q grown ≡ cond (is_at (nat_cmp begin) q) (Some (with_numbers g.piece numbers)) (found q taken))
      (new_is : (q : ℕ) → found q new ≡ cond (is_at (nat_cmp from) q) None (found q grown)) where
    ordered : begin < from
    ordered = omega (arith, g.ends, filled)

    -- another position
    elsewhere : (q : ℕ) → q ≢ begin → q ≢ from → q ≢ from + length numbers → found q new ≡ found q es
    elsewhere q a b c =
        new_is q ∙ ap (λ t. cond t None (found q grown)) (at_other from q (λ same. b (sym same)))
        ∙ grow_is q ∙ ap (λ t. cond t (Some (with_numbers g.piece numbers)) (found q taken)) (at_other begin q (λ same. a (sym same)))
        ∙ take_is q ∙ ap (λ t. cond t (Some (UninitPiece rest)) (found q es)) (at_other (from + length numbers) q (λ same. c (sym same)))

    at_begin : (q : ℕ) → q ≡ begin → found q new ≡ Some (with_numbers g.piece numbers)
    at_begin q here =
        new_is q ∙ ap (λ t. cond t None (found q grown)) (at_other from q (λ same. omega (arith, ordered)))
        ∙ grow_is q ∙ ap (λ t. cond t (Some (with_numbers g.piece numbers)) (found q taken)) (at_same begin q (sym here))

    at_from : (q : ℕ) → q ≡ from → found q new ≡ None
    at_from q here = new_is q ∙ ap (λ t. cond t None (found q grown)) (at_same from q (sym here))

    at_rest : (q : ℕ) → q ≡ from + length numbers → found q new ≡ Some (UninitPiece rest)
    at_rest q here =
        new_is q ∙ ap (λ t. cond t None (found q grown)) (at_other from q (λ same. omega arith))
        ∙ grow_is q ∙ ap (λ t. cond t (Some (with_numbers g.piece numbers)) (found q taken)) (at_other begin q (λ same. omega (arith, ordered)))
        ∙ take_is q ∙ ap (λ t. cond t (Some (UninitPiece rest)) (found q es)) (at_same (from + length numbers) q (sym here))

    -- nothing else begins in the row, nor began there
    row_elsewhere : (q : ℕ) → q ≢ begin → q ≢ from + length numbers → found q ((begin, with_numbers g.piece numbers) ∷ (from + length numbers, UninitPiece rest) ∷ []) ≡ None
    row_elsewhere q a c =
        found_later q (begin, with_numbers g.piece numbers) ((from + length numbers, UninitPiece rest) ∷ []) a
        ∙ found_later q (from + length numbers, UninitPiece rest) [] c

    none_there : (q : ℕ) → begin < q → q < from + (length numbers + rest) → q ≢ from → found q es ≡ None
    none_there q gt lt other = ⊎_elim
        (λ low. none_within es (from - 1) begin q g.piece t g.holds gt (omega (arith, g.ends)))
        (λ high. let more : from < q = omega arith in none_within es from from q (UninitPiece (length numbers + rest)) t g.gap more lt)
        (cases_lt q from)

    within_row : (q : ℕ) → begin ≤ q → q < from + (length numbers + rest) → (q ≡ begin) ⊎ (q ≡ begin → ⊥) → (q ≡ from) ⊎ (q ≡ from → ⊥) → (q ≡ from + length numbers) ⊎ (q ≡ from + length numbers → ⊥)
        → found q new ≡ found q ((begin, with_numbers g.piece numbers) ∷ (from + length numbers, UninitPiece rest) ∷ [])
    within_row q ge lt (inl here) b c = at_begin q here ∙ sym (found_here q (begin, with_numbers g.piece numbers) ((from + length numbers, UninitPiece rest) ∷ []) here)
    within_row q ge lt (inr a) (inl here) c = at_from q here ∙ sym (row_elsewhere q a (λ same. omega arith))
    within_row q ge lt (inr a) (inr b) (inl here) =
        at_rest q here
        ∙ sym (found_later q (begin, with_numbers g.piece numbers) ((from + length numbers, UninitPiece rest) ∷ []) a ∙ found_here q (from + length numbers, UninitPiece rest) [] here)
    within_row q ge lt (inr a) (inr b) (inr c) =
        let more : begin < q = omega arith in
        elsewhere q a b c ∙ none_there q more lt b ∙ sym (row_elsewhere q a c)

    exchanged : IsExchanged ((begin, with_numbers g.piece numbers) ∷ (from + length numbers, UninitPiece rest) ∷ []) es new (from + (length numbers + rest))
    exchanged =
        let begins : from + (length numbers + rest) - (piece_len (with_numbers g.piece numbers) + (rest + 0)) ≡ begin = omega (arith, grown_len, g.ends) in
        record {
          before = λ q lt. elsewhere q (λ same. omega arith) (λ same. omega (arith, ordered)) (λ same. omega (arith, ordered));
          within = λ q ge lt. within_row q (omega arith) lt (cases_eq q begin) (cases_eq q from) (cases_eq q (from + length numbers));
          behind = λ q ge. let left : 0 < rest = g.left in elsewhere q (λ same. omega (arith, ordered)) (λ same. omega arith) (λ same. omega arith);
        }

    pub grown_over : IsStrictlySortedBy nat_cmp (keys_of new) → IsReplaced es new from (with_provenance provenance numbers)
    grown_over order =
        replaced es ((begin, with_numbers g.piece numbers) ∷ []) ((begin, with_numbers g.piece numbers) ∷ (from + length numbers, UninitPiece rest) ∷ [])
        from (from + length numbers) (from + (length numbers + rest)) (with_provenance provenance numbers) t grown_row
        (ap (λ n. from + n) (sym (length-map numbers (λ n. Init n provenance)))) inside ended_row new exchanged order

  -- the run that grows is still there, where the position for the rest is taken
  pub found_taken : (taken : List (ℕ × SeenPiece)) → ((q : ℕ) → found q taken ≡ cond (is_at (nat_cmp (from + length numbers)) q) (Some (UninitPiece rest)) (found q es)) → found begin taken ≡ Some g.piece
  found_taken taken take_is =
      take_is begin
      ∙ ap (λ b. cond b (Some (UninitPiece rest)) (found begin es)) (at_other (from + length numbers) begin (λ same. omega (arith, g.ends, filled)))
      ∙ holds_found es (from - 1) begin g.piece t g.holds

  -- the position that was taken for the rest, given back: what is found is what was
  pub taken_back : (taken new : List (ℕ × SeenPiece)) → ((q : ℕ) → found q taken ≡ cond (is_at (nat_cmp (from + length numbers)) q) (Some (UninitPiece rest)) (found q es))
      → ((q : ℕ) → found q new ≡ cond (is_at (nat_cmp (from + length numbers)) q) None (found q taken)) → IsStrictlySortedBy nat_cmp (keys_of new) → new ≡ es
  taken_back taken new take_is new_is order = same_as_placed new es 0 order t.placed t.maximal (λ q. by_test q (is_at (nat_cmp (from + length numbers)) q) refl)
    where
      by_test : (q : ℕ) (b : Bool) → is_at (nat_cmp (from + length numbers)) q ≡ b → found q new ≡ found q es
      by_test q true at =
          let left : 0 < rest = g.left in
          let here : from + length numbers ≡ q = same_at (from + length numbers) q at in
          new_is q ∙ ap (λ b. cond b None (found q taken)) at
          ∙ sym (none_within es from from q (UninitPiece (length numbers + rest)) t g.gap (omega arith) (omega arith))
      by_test q false at = new_is q ∙ ap (λ b. cond b None (found q taken)) at ∙ take_is q ∙ ap (λ b. cond b (Some (UninitPiece rest)) (found q es)) at
