-- The place at the end of a text, counted from its begin.
use Rattle.mr_words.proofs.Common.{◌≡◌, ℕ, ◌+◌, ◌==◌, ◌<◌, ◌≤◌, Bool, true, false, not, if◌then◌else◌, List, length, get_or, take, drop, refl, sym, ap, subst, arith, AllByRecursion}
use Rattle.std.proofs.Common.{length-take}
use Rattle.std.specs.Prelude.{IsTrue}
use Rattle.std.proofs.lemmas.List.{drop_more}
use Rattle.std.proofs.lemmas.List.Sums.{count_by-le-length}
use Rattle.mr_lex.specs.Bytes.{is_inline}
use Rattle.mr_lex.specs.Places.{column_of, line_of}
use Rattle.mr_lex.specs.declared.token.TextFault.{TextFault}
use Rattle.mr_lex.proofs.PlaceLaws.{column_of-feed, column_of-le, line_of-feed, stays_in_line}

-- a fault at a place of a text
abbrev pub placed : List ℕ → ℕ → ℕ → TextFault
placed text at code = record { line = line_of text at; col = column_of text at; code = code }

-- one byte further
pub placed_more : (text : List ℕ) (at code : ℕ) → at < length text
    → ◌≡◌ {A = TextFault}
    (if get_or text at 0 == 10 then record { line = line_of text at + 1; col = 1; code = code } else record { line = line_of text at; col = column_of text at + 1; code = code })
    (placed text (at + 1) code)
placed_more text at code lt = go (get_or text at 0 == 10) refl
  where
    go : (b : Bool) → (get_or text at 0 == 10) ≡ b
        → ◌≡◌ {A = TextFault}
        (if b then record { line = line_of text at + 1; col = 1; code = code } else record { line = line_of text at; col = column_of text at + 1; code = code })
        (placed text (at + 1) code)
    go true e =
        λ i. record { line = sym (line_of-feed text at lt (ap not e)) i; col = sym (column_of-feed text at lt (ap not e)) i; code = code }
    go false e =
        let inline : AllByRecursion (λ b. IsTrue (is_inline b)) (take 1 (drop at text)) =
        subst (λ bytes. AllByRecursion (λ b. IsTrue (is_inline b)) (take 1 bytes)) (sym (drop_more text at 0 lt)) (ap not e, tt) in
        let stays = stays_in_line text at 1 (omega arith) inline in
        λ i. record { line = sym stays.line i; col = sym stays.col i; code = code }

-- a line and a column are at most one more than the offset
pub line_of-le : (text : List ℕ) (at : ℕ) → line_of text at ≤ at + 1
line_of-le text at = omega (arith, count_by-le-length (λ b. b == 10) (take at text), length-take at text)

pub placed-le : (text : List ℕ) (at code : ℕ) (fault : TextFault) → fault ≡ placed text at code → (fault.line ≤ at + 1) × (fault.col ≤ at + 1)
placed-le text at code fault e = rw e (line_of-le text at, column_of-le text at)
