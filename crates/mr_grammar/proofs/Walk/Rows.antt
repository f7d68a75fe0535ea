-- Rows of marks: their words, and that none of them breaks a limit.
use Rattle.mr_grammar.proofs.Common.{List, ◌++◌, ◌≡◌, [], ◌∷◌, None, AllByRecursion, map-append, Mark, Word, words_in, IsFine}
use Rattle.std.proofs.lemmas.List.{append_assoc}

-- the words of one row behind another
pub words-append : (front back : List Mark) → words_in (front ++ back) ≡ words_in front ++ words_in back
words-append front back = map-append (λ m. m.word) front back

pub words-append-rest : (front back : List Mark) (rest : List Word)
    → words_in (front ++ back) ++ rest ≡ words_in front ++ (words_in back ++ rest)
words-append-rest front back rest = rw (words-append front back) (append_assoc (words_in front) (words_in back) rest)

-- one list behind another, and two rows that break no limit
pub all_append : {A : Type 0} (P : A → Type 0) (front back : List A) → AllByRecursion P front → AllByRecursion P back → AllByRecursion P (front ++ back)
all_append P [] back a b = b
all_append P (x ∷ front) back a b = (a.0, all_append P front back a.1 b)

pub fine-append : (front back : List Mark) → IsFine front → IsFine back → IsFine (front ++ back)
fine-append front back a b = all_append (λ m. m.flaw ≡ None) front back a b

-- the parts of a list, and of a row that breaks no limit
pub all_parts : {A : Type 0} (P : A → Type 0) (front back : List A) → AllByRecursion P (front ++ back) → AllByRecursion P front × AllByRecursion P back
all_parts P [] back all = (tt, all)
all_parts P (x ∷ front) back all = let rest = all_parts P front back all.1 in ((all.0, rest.0), rest.1)

pub fine_parts : (front back : List Mark) → IsFine (front ++ back) → IsFine front × IsFine back
fine_parts front back fine = all_parts (λ m. m.flaw ≡ None) front back fine
