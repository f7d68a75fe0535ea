-- The word of a thing, looked up in its table, gives the thing back.
use Rattle.mr_ast.proofs.Common.{◌≡◌, ℕ, List, Bool, true, false, None, Some, refl, ap, sym, arith, inl, inr, codes, bytes_eq, decimal, if◌then◌else◌, IntType, UnaryOp, BinaryOp, int_word, unary_word, binary_word}
use Rattle.std.proofs.lemmas.Fmt.{decimal_digit}
use Rattle.std.proofs.lemmas.Option.{same_Some}
use Rattle.mr_ast.specs.declared.program.BlockKind.{BlockKind}
use Rattle.mr_ast.specs.declared.program.Intrinsic.{Intrinsic}
use Rattle.mr_ast.specs.Words.{IsEdition, edition_words, looked_up, int_words, unary_words, binary_words, kind_words, intrinsic_words}
use Rattle.mr_ast.specs.Canon.{kind_word, intrinsic_word}
use Rattle.mr_ast.specs.declared.types.IntType.TheVariants as int
use Rattle.mr_ast.specs.declared.expr.UnaryOp.TheVariants as unary
use Rattle.mr_ast.specs.declared.expr.BinaryOp.TheVariants as binary
use Rattle.mr_ast.specs.declared.program.BlockKind.TheVariants as kind
use Rattle.mr_ast.specs.declared.program.Intrinsic.TheVariants as intrinsic

-- the word of an edition names it
pub edition_word_found : (n : ℕ) → IsEdition n → looked_up edition_words (decimal n) ≡ Some n
edition_word_found n (inl e) = rw e (ap (looked_up edition_words) (decimal_digit 1 (omega arith)))
edition_word_found n (inr e) = rw e (ap (looked_up edition_words) (decimal_digit 2 (omega arith)))

-- what a word names is an edition
pub edition_found : (text : List ℕ) (n : ℕ) → looked_up edition_words text ≡ Some n → IsEdition n
edition_found text n h = by (bytes_eq text (codes "1")) (bytes_eq text (codes "2")) h
  where
    by : (one two : Bool) → (if one then Some 1 else (if two then Some 2 else None)) ≡ Some n → IsEdition n
    by true two e = inl (sym (same_Some _ _ e))
    by false true e = inr (sym (same_Some _ _ e))
    by false false e = absurd (cc)

pub int_word_found : (i : IntType) → looked_up int_words (int_word i) ≡ Some i
int_word_found int.U8 = refl
int_word_found _ = refl

pub unary_word_found : (o : UnaryOp) → looked_up unary_words (unary_word o) ≡ Some o
unary_word_found unary.Neg = refl
unary_word_found unary.Not = refl

pub binary_word_found : (o : BinaryOp) → looked_up binary_words (binary_word o) ≡ Some o
binary_word_found binary.Add = refl
binary_word_found _ = refl

pub kind_word_found : (k : BlockKind) → looked_up kind_words (kind_word k) ≡ Some k
kind_word_found kind.Regular = refl
kind_word_found _ = refl

pub intrinsic_word_found : (i : Intrinsic) → looked_up intrinsic_words (intrinsic_word i) ≡ Some i
intrinsic_word_found intrinsic.Assume = refl
intrinsic_word_found _ = refl
