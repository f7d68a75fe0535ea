-- A value whose word has brackets behind it.
use Rattle.mr_grammar.proofs.Common.{◌≡◌, ℕ, zero, suc, ◌==◌, true, List, Result, Ok, Err, refl, Round, ValueWord, Word, closing, Scope, Writing, giving, addr_of_form, binary_form, cast_form, transmute_form, tuple_value_form, union_value_form, value_behind, variant_value_form, Stop, ◌>>=◌, expected, opened, read, read_inside, read_part}
use Rattle.mr_ast.specs.Writing.{within}
use Rattle.mr_grammar.specs.Insides.{is_bracketed, value_inside}
use Rattle.mr_grammar.specs.Reading.{read_outside}
use Rattle.mr_ast.specs.declared.words.ValueWord.TheVariants as value_word

abbrev given : {A : Type 0} → A → List Word → Result (A × List Word) Stop
given x ws = Ok (x, ws)

-- what is made of what stands in brackets is made of it inside them
giving-within : (room : ℕ) (scope : Scope) {A B : Type 0} (f : A → B) (a : Writing A) (ws : List Word) → read_outside room scope (giving f (within Round a)) ws ≡ read_outside room scope (within Round (giving f a)) ws
unfolding read_inside read_part
giving-within zero scope {A} {B} f a ws = at (opened true Round ws)
  where
    at : (m : Result (List Word) Stop) → ((m >>= λ rest. read_inside zero scope A a rest >>= λ x. expected (closing Round) x.1 >>= λ end. given x.0 end) >>= λ y. given (f y.0) y.1) ≡ (m >>= λ rest. read_inside zero scope B (giving f a) rest >>= λ x. expected (closing Round) x.1 >>= λ end. given x.0 end)
    at (Ok rest) = refl
    at (Err s) = refl
giving-within (suc room) scope {A} {B} f a ws = at (opened (suc room == 0) Round ws)
  where
    close : (x : A × List Word) (m : Result (List Word) Stop) → ((m >>= λ end. given x.0 end) >>= λ y. given (f y.0) y.1) ≡ (m >>= λ end. given (f x.0) end)
    close x (Ok end) = refl
    close x (Err s) = refl

    within_them : (m : Result (A × List Word) Stop) → ((m >>= λ x. expected (closing Round) x.1 >>= λ end. given x.0 end) >>= λ y. given (f y.0) y.1) ≡ ((m >>= λ x. given (f x.0) x.1) >>= λ x. expected (closing Round) x.1 >>= λ end. given x.0 end)
    within_them (Ok x) = close x (expected (closing Round) x.1)
    within_them (Err s) = refl

    at : (m : Result (List Word) Stop) → ((m >>= λ rest. read room scope a rest >>= λ x. expected (closing Round) x.1 >>= λ end. given x.0 end) >>= λ y. given (f y.0) y.1) ≡ (m >>= λ rest. read room scope (giving f a) rest >>= λ x. expected (closing Round) x.1 >>= λ end. given x.0 end)
    at (Ok rest) = within_them (read room scope a rest)
    at (Err s) = refl

-- a value behind its word is read in the brackets
pub behind_bracketed : (room : ℕ) (scope : Scope) (word : ValueWord) (ws : List Word) → is_bracketed word ≡ true → read_outside room scope (value_behind word) ws ≡ read_outside room scope (within Round (value_inside word)) ws
unfolding addr_of_form binary_form cast_form transmute_form tuple_value_form union_value_form variant_value_form
behind_bracketed room scope (value_word.Int i) ws e = cc
behind_bracketed room scope value_word.True ws e = cc
behind_bracketed room scope value_word.False ws e = cc
behind_bracketed room scope value_word.Raw ws e = cc
behind_bracketed room scope value_word.Fn ws e = cc
behind_bracketed room scope value_word.Global ws e = cc
behind_bracketed room scope _ ws e = giving-within room scope _ _ ws
