-- What stands behind line feeds, and where a place lies on its line.
use Rattle.std.proofs.Common.{◌≡◌, ℕ, zero, suc, ◌+◌, ◌-◌, ◌==◌, ◌<◌, ◌≤◌, Bool, true, false, not, if◌then◌else◌, List}
use Rattle.std.proofs.Common.{[], ◌∷◌, length, get_or, drop, take, refl, sym, ap, ◌∙◌, arith, subst}
use Rattle.std.specs.Prelude.{IsTrue, None, Some, slice_get}
use Rattle.std.specs.List.{AllByRecursion, prefix_len}
use Rattle.std.proofs.lemmas.List.{drop_all, drop_more, drop-drop, get_or-drop, length-drop}
use Rattle.mr_lex.specs.Bytes.{is_inline}
use Rattle.mr_lex.specs.Places.{column_of, line_of}
use Rattle.mr_lex.proofs.PlaceLaws.{StaysInLine, column_of-feed, column_of-le, line_of-feed, stays_in_line}
use Rattle.mr_refusals.specs.Lines.{behind_feeds, inline_byte, line_at}
use Rattle.mr_refusals.proofs.CaretLaws.{get_drop}

-- ---- behind line feeds

-- behind the end there is nothing
pub feeds_none : (n : ℕ) → behind_feeds n [] ≡ []
feeds_none zero = refl
feeds_none (suc n) = refl

feeds_step : (b : ℕ) (bs : List ℕ) (left : ℕ) → 0 < left
    → behind_feeds (if b == 10 then left - 1 else left) bs ≡ behind_feeds left (b ∷ bs)
feeds_step b bs zero some = absurd (omega (arith, some))
feeds_step b bs (suc n) some = go (b == 10)
  where
    go : (feed : Bool) → behind_feeds (if feed then suc n - 1 else suc n) bs
        ≡ (if feed then behind_feeds n bs else behind_feeds (suc n) bs)
    go true = let one : suc n - 1 ≡ n = omega arith in ap (λ k. behind_feeds k bs) one
    go false = refl

-- one byte further
pub feeds_next : (text : List ℕ) (at left new : ℕ) → at < length text → 0 < left
    → new ≡ (if get_or text at 0 == 10 then left - 1 else left)
    → behind_feeds new (drop (at + 1) text) ≡ behind_feeds left (drop at text)
feeds_next text at left new within some is =
    ap (λ k. behind_feeds k (drop (at + 1) text)) is ∙ feeds_step (get_or text at 0) (drop (at + 1) text) left some
    ∙ ap (behind_feeds left) (sym (drop_more text at 0 within))

-- at the end of a text nothing stands behind those that are left
pub feeds_end : (text : List ℕ) (at left end : ℕ) (all : List ℕ) → length text ≤ at → length text ≤ end
    → behind_feeds left (drop at text) ≡ all → drop end text ≡ all
feeds_end text at left end all past done is =
    drop_all end text done ∙ sym (feeds_none left) ∙ ap (behind_feeds left) (sym (drop_all at text past)) ∙ is

-- one line feed more
feeds_more : (n : ℕ) (text : List ℕ) → behind_feeds (suc n) text ≡ behind_feeds 1 (behind_feeds n text)
feeds_more zero text = refl
feeds_more (suc n) [] = refl
feeds_more (suc n) (b ∷ bs) = go (b == 10) (feeds_more n bs) (feeds_more (suc n) bs)
  where
    go : (feed : Bool) → behind_feeds (suc n) bs ≡ behind_feeds 1 (behind_feeds n bs)
        → behind_feeds (suc (suc n)) bs ≡ behind_feeds 1 (behind_feeds (suc n) bs)
        → (if feed then behind_feeds (suc n) bs else behind_feeds (suc (suc n)) bs)
        ≡ behind_feeds 1 (if feed then behind_feeds n bs else behind_feeds (suc n) bs)
    go true here later = here
    go false here later = later

-- ---- the first line of a text

-- the line goes on over a byte that ends no line
line_grows : (xs : List ℕ) (n : ℕ) → n < length xs → n ≤ prefix_len is_inline xs → is_inline (get_or xs n 0) ≡ true
    → n + 1 ≤ prefix_len is_inline xs
line_grows [] n within le inline = absurd (omega (arith, within))
line_grows (x ∷ xs) zero within le inline = rw inline (omega arith)
line_grows (x ∷ xs) (suc n) within le inline =
    go (is_inline x) (λ h. line_grows xs n (omega (arith, within)) h inline) le
  where
    go : (b : Bool) → (n ≤ prefix_len is_inline xs → n + 1 ≤ prefix_len is_inline xs)
        → suc n ≤ (if b then 1 + prefix_len is_inline xs else 0)
        → suc n + 1 ≤ (if b then 1 + prefix_len is_inline xs else 0)
    go true more le = let rest = more (omega (arith, le)) in omega (arith, rest)
    go false more le = absurd (omega (arith, le))

-- and ends at one that does
line_ends : (xs : List ℕ) (n : ℕ) → n < length xs → n ≤ prefix_len is_inline xs → is_inline (get_or xs n 0) ≡ false
    → behind_feeds 1 xs ≡ drop (n + 1) xs
line_ends [] n within le feed = absurd (omega (arith, within))
line_ends (x ∷ xs) zero within le feed = go (x == 10) feed
  where
    go : (b : Bool) → not b ≡ false → (if b then behind_feeds 0 xs else behind_feeds 1 xs) ≡ drop 1 (x ∷ xs)
    go true e = refl
    go false e = absurd (cc)
line_ends (x ∷ xs) (suc n) within le feed =
    go (x == 10) (λ h. line_ends xs n (omega (arith, within)) h feed) le
  where
    go : (b : Bool) → (n ≤ prefix_len is_inline xs → behind_feeds 1 xs ≡ drop (n + 1) xs)
        → suc n ≤ (if not b then 1 + prefix_len is_inline xs else 0)
        → (if b then behind_feeds 0 xs else behind_feeds 1 xs) ≡ drop (suc n + 1) (x ∷ xs)
    go true more le = absurd (omega (arith, le))
    go false more le =
        let one : suc (n + 1) ≡ suc n + 1 = omega arith in
        more (omega (arith, le)) ∙ ap (λ k. drop k (x ∷ xs)) one

-- what stands at a position of the first line
line_byte : (xs : List ℕ) (n : ℕ) → n ≤ prefix_len is_inline xs
    → slice_get (take (prefix_len is_inline xs) xs) n ≡ inline_byte (slice_get xs n)
line_byte [] n le = refl
line_byte (x ∷ xs) zero le = go (is_inline x)
  where
    go : (b : Bool)
        → slice_get (take (if b then 1 + prefix_len is_inline xs else 0) (x ∷ xs)) 0 ≡ (if b then Some x else None)
    go true =
        let more : 1 + prefix_len is_inline xs ≡ suc (prefix_len is_inline xs) = omega arith in
        ap (λ k. slice_get (take k (x ∷ xs)) 0) more
    go false = refl
line_byte (x ∷ xs) (suc n) le = go (is_inline x) (line_byte xs n) le
  where
    go : (b : Bool)
        → (n ≤ prefix_len is_inline xs → slice_get (take (prefix_len is_inline xs) xs) n ≡ inline_byte (slice_get xs n))
        → suc n ≤ (if b then 1 + prefix_len is_inline xs else 0)
        → slice_get (take (if b then 1 + prefix_len is_inline xs else 0) (x ∷ xs)) (suc n)
        ≡ inline_byte (slice_get xs n)
    go true rest le =
        let more : 1 + prefix_len is_inline xs ≡ suc (prefix_len is_inline xs) = omega arith in
        ap (λ k. slice_get (take k (x ∷ xs)) (suc n)) more ∙ rest (omega (arith, le))
    go false rest le = absurd (omega (arith, le))

-- ---- the line of a place

-- where its line begins
abbrev start_of : List ℕ → ℕ → ℕ
start_of text at = at - (column_of text at - 1)

-- it begins behind the line feeds, and reaches the place
record OnLine (text : List ℕ) (at : ℕ) : Type 0 where
  begins : drop (start_of text at) text ≡ behind_feeds (line_of text at - 1) text
  reaches : column_of text at - 1 ≤ prefix_len is_inline (drop (start_of text at) text)

-- behind a byte in the line
stays : (text : List ℕ) (at : ℕ) → at < length text → is_inline (get_or text at 0) ≡ true → StaysInLine text at 1
stays text at lt inline =
    stays_in_line text at 1 (omega arith)
    (subst (λ bytes. AllByRecursion (λ b. IsTrue (is_inline b)) (take 1 bytes)) (sym (drop_more text at 0 lt))
    (inline, tt))

module _ (text : List ℕ) (at : ℕ) (lt : at < length text) (h : OnLine text at) where
  within : column_of text at - 1 < length (drop (start_of text at) text)
  within = omega (arith, lt, column_of-le text at, length-drop (start_of text at) text)

  byte_is : get_or (drop (start_of text at) text) (column_of text at - 1) 0 ≡ get_or text at 0
  byte_is =
      let here : start_of text at + (column_of text at - 1) ≡ at = omega (arith, column_of-le text at) in
      get_or-drop (start_of text at) text (column_of text at - 1) 0 ∙ ap (λ k. get_or text k 0) here

  line_stays : is_inline (get_or text at 0) ≡ true → OnLine text (at + 1)
  line_stays inline =
      let stay = stays text at lt inline in
      let col = stay.col in
      let same : start_of text (at + 1) ≡ start_of text at = omega (arith, col, column_of-le text at) in
      record {
        begins =
            ap (λ k. drop k text) same ∙ h.begins
            ∙ ap (λ n. behind_feeds (n - 1) text) (sym stay.line);
        reaches =
            let grown =
            line_grows (drop (start_of text at) text) (column_of text at - 1) within h.reaches
            (ap is_inline byte_is ∙ inline) in
            subst (λ k. column_of text (at + 1) - 1 ≤ prefix_len is_inline (drop k text)) (sym same)
            (omega (arith, grown, col));
      }

  line_feeds : is_inline (get_or text at 0) ≡ false → OnLine text (at + 1)
  line_feeds feed =
      let col = column_of-feed text at lt feed in
      let next : start_of text at + (column_of text at - 1 + 1) ≡ start_of text (at + 1) =
      omega (arith, col, column_of-le text at) in
      let line : line_of text (at + 1) - 1 ≡ suc (line_of text at - 1) = omega (arith, line_of-feed text at lt feed) in
      record {
        begins =
            ap (λ k. drop k text) (sym next) ∙ sym (drop-drop (column_of text at - 1 + 1) (start_of text at) text)
            ∙ sym (line_ends (drop (start_of text at) text) (column_of text at - 1) within h.reaches
            (ap is_inline byte_is ∙ feed))
            ∙ ap (behind_feeds 1) h.begins ∙ sym (feeds_more (line_of text at - 1) text)
            ∙ ap (λ n. behind_feeds n text) (sym line);
        reaches = omega (arith, col);
      }

  next_on_line : OnLine text (at + 1)
  next_on_line = go (is_inline (get_or text at 0)) refl
    where
      go : (b : Bool) → is_inline (get_or text at 0) ≡ b → OnLine text (at + 1)
      go true e = line_stays e
      go false e = line_feeds e

on_line : (text : List ℕ) (at : ℕ) → at ≤ length text → OnLine text at
on_line text zero le = record { begins = refl; reaches = omega arith }
on_line text (suc at) le =
    let one : at + 1 ≡ suc at = omega arith in
    subst (OnLine text) one (next_on_line text at (omega (arith, le)) (on_line text at (omega (arith, le))))

pub byte_on_line : (text : List ℕ) (at : ℕ) → at ≤ length text
    → slice_get (line_at text (line_of text at)) (column_of text at - 1) ≡ inline_byte (slice_get text at)
byte_on_line text at le =
    let h = on_line text at le in
    let line : List ℕ → List ℕ = λ xs. take (prefix_len is_inline xs) xs in
    let here : start_of text at + (column_of text at - 1) ≡ at = omega (arith, column_of-le text at) in
    ap (λ (xs : List ℕ). slice_get (line xs) (column_of text at - 1)) (sym h.begins)
    ∙ line_byte (drop (start_of text at) text) (column_of text at - 1) h.reaches
    ∙ ap inline_byte (get_drop text (start_of text at) (column_of text at - 1) ∙ ap (slice_get text) here)
