-- The words that the judges of the language take, and when its pieces can be read a word at a time.
use Rattle.mr_grammar.proofs.Common.{Bool, Option, if◌then◌else◌, None, ◌≡◌, Some, true, refl, false, List, ℕ, bytes_eq, ap, not, ◌⊎◌, inl, inr, codes, ◌^◌, ◌||◌, list_all, nat_lt, option_map, bytes_eq-Decides, Bracket, Round, Curly, Square, Role, UsesLocal, StmtWord, TermWord, Word, closing, Either, judged_stmt, begins_stmt, judged_term, item_word_of, item_form, judged_item, place_from, base_form, deref_form, value_form, judged_value, Table, looked_up, is_number, is_name, stmt_words, term_words, is_word, word, Writing, ◌▸◌, limited_word, giving, other_than, listed, separated, optional, judged_number, u64_form, judged_u64, limit, token, judged_any, judged_positive, num_form, name_form, judged_name, ThePlace, TheValue}
use Rattle.std.specs.Prelude.{is_some}
use Rattle.std.proofs.Math.Bool.{or-true}
use Rattle.std.proofs.lemmas.Bool.{or_cases}
use Rattle.mr_ast.specs.ProgramGrammar.{is_stmt_word}
use Rattle.mr_ast.specs.Writing.{signed}
use Rattle.mr_ast.specs.declared.expr.Place.TheVariants as place
use Rattle.mr_grammar.proofs.Shape.ShapedNumbers.{number_read}
use Rattle.mr_grammar.proofs.Stops.PartLaws.{part_begins, IsTold, part_stops}
use Rattle.mr_grammar.proofs.Tokens.TokenRows.{table_passes}
use Rattle.mr_grammar.proofs.Walk.Conditions.{When, Begins, is_nullable, Stops}
use Rattle.mr_grammar.proofs.Walk.FairJudges.{fine_found}

-- what a choice gives, where it gives something
if_some : {X : Type 0} (b : Bool) (found : Option X) (x : X) → (if b then found else None) ≡ Some x → b ≡ true
if_some true found x e = refl
if_some false found x e = absurd (cc)

-- a word that passes a test is none that fails it
pub other_word : (test : List ℕ → Bool) (t text : List ℕ) → test t ≡ false → test text ≡ true → is_word t text ≡ false
other_word test t text fails passes = go (bytes_eq text t) refl
  where
    go : (b : Bool) → bytes_eq text t ≡ b → b ≡ false
    go true e = let same = (bytes_eq-Decides text t).0 e in let both = ap test same in absurd (cc)
    go false e = refl

-- a word that a table gives something for fails a test that all its words fail
pub found_fails : {X : Type 0} (table : Table X) (test : List ℕ → Bool) → list_all (λ e. not (test e.0)) table ≡ true
    → (text : List ℕ) (x : X) → looked_up table text ≡ Some x → test text ≡ false
found_fails table test none text x found = not_true (test text) (table_passes (λ t. not (test t)) table text x none found)
  where
    not_true : (b : Bool) → not b ≡ true → b ≡ false
    not_true true e = absurd (cc)
    not_true false e = refl

-- the words that begin the first of two things, which needs a word
pub only_first : {X : Type 0} → X ⊎ ⊥ → X
only_first (inl x) = x
only_first (inr e) = absurd e

pub when : {T : Type 0} (b : Bool) → T → When b T
when true t = t
when false t = tt

-- a word, and what stands behind it
pub word_begins : (t : List ℕ) (w : Word) → Begins part_begins (word t) w → w.text ≡ t
word_begins t w b = (bytes_eq-Decides w.text t).0 (if_some (bytes_eq w.text t) (Some tt) b.1 (fine_found _ b.1 b.2 b.3))

pub behind_begins : (t : List ℕ) {A : Type 0} (a : Writing A) (w : Word) → Begins part_begins (t ▸ a) w → w.text ≡ t
behind_begins t a w b = word_begins t w (only_first b)

pub limited_begins : (code : ℕ) (over : Bool) (t : List ℕ) (w : Word) → Begins part_begins (limited_word code over t) w → w.text ≡ t
limited_begins code over t w b = (bytes_eq-Decides w.text t).0 (if_some (bytes_eq w.text t) _ (b.1, b.2) b.3)

pub giving_begins : {A B : Type 0} (f : A → B) (a : Writing A) (w : Word) → Begins part_begins (giving f a) w → Begins part_begins a w
giving_begins f a w (inl b) = absurd b
giving_begins f a w (inr b) = b

pub told_behind : (t : List ℕ) {A : Type 0} (a : Writing A) → IsTold a → IsTold (t ▸ a)
told_behind t a told = ((λ i. tt), told, λ w b i. tt)

closing_is : (bracket : Bracket) → (other_than (closing bracket) (closing bracket) ≡ false) × (is_word (codes ",") (closing bracket) ≡ false) × (is_word (codes "never") (closing bracket) ≡ false)
closing_is Round = (refl, refl, refl)
closing_is Curly = (refl, refl, refl)
closing_is Square = (refl, refl, refl)

-- a list in brackets, of things that begin with words that pass a test and end in front of each word but `never`
pub told_list : (bracket : Bracket) {A : Type 0} (a : Writing A) (test : List ℕ → Bool) → IsTold a → is_nullable a ≡ false
    → ((w : Word) → Begins part_begins a w → test w.text ≡ true) → test (closing bracket) ≡ false
    → ((w : Word) → is_word (codes "never") w.text ≡ false → Stops part_stops a w) → IsTold (listed bracket (separated a))
told_list bracket a test item some starts misses ends = (
  (
    (
      item,
      ((λ k. told_behind (codes ",") a item), (λ k. refl), (λ k w b. rw (behind_begins (codes ",") a w b) refl), λ j k w b. behind w (comma w b)),
      λ w b. comma w b.1,
    ),
    tt,
    rw some refl,
    (λ w b. ap not (other_word test (closing bracket) w.text misses (starts w (first w b)))),
    λ w b. absurd b,
  ),
  λ w e. (rw e (closing_is bracket).0, (ends w (rw e (closing_is bracket).2), (rw e (closing_is bracket).1, λ k. behind w (ends w (rw e (closing_is bracket).2)))), tt),
)
  where
    comma : (w : Word) → Begins part_begins (codes "," ▸ a) w → Stops part_stops a w
    comma w b = ends w (rw (behind_begins (codes ",") a w b) refl)

    behind : (w : Word) → Stops part_stops a w → Stops part_stops (codes "," ▸ a) w
    behind w s = (when (is_nullable a) (λ i. tt), s)

    first : (w : Word) → Begins part_begins (separated a) w → Begins part_begins a w
    first w (inl b) = b
    first w (inr b) = absurd (rw some at b)

-- something that may stand behind a word
pub told_optional : (t : List ℕ) {A : Type 0} (a : Writing A) → IsTold a → IsTold (optional t a)
told_optional t a told = (
  (tt, told_behind t a told, λ w b. tt),
  tt,
  refl,
  (λ w b. rw (behind_begins t a w (giving_begins (λ x. Some x) (t ▸ a) w b)) ((bytes_eq-Decides t t).1 refl)),
  λ w b. absurd b,
)

pub optional_begins : (t : List ℕ) {A : Type 0} (a : Writing A) (w : Word) → Begins part_begins (optional t a) w → w.text ≡ t
optional_begins t a w (inl b) = behind_begins t a w (giving_begins (λ x. Some x) (t ▸ a) w b)
optional_begins t a w (inr b) = absurd b

-- ---- numbers and names

number_taken : (judge : ℕ → Option (Option ℕ)) (w : Word) (n : ℕ) (flaw : Option ℕ) → judged_number judge w ≡ Some (n, flaw) → is_number w.text ≡ true
number_taken judge w n flaw e = (number_read judge w n flaw e).0

pub u64_begins : (w : Word) → Begins part_begins u64_form w → is_number w.text ≡ true
unfolding judged_u64
u64_begins w b = number_taken (λ n. Some (limit 2 (not (nat_lt n (2 ^ 64))))) w b.1 b.2 b.3

-- a number, or the minus in front of it
abbrev pub begins_num : List ℕ → Bool
begins_num text = is_word (codes "-") text || is_number text

any_begins : (w : Word) → Begins part_begins (giving (signed false) (token judged_any)) w → is_number w.text ≡ true
unfolding judged_any
any_begins w b = let taken = giving_begins (signed false) (token judged_any) w b in number_taken (λ n. Some None) w taken.1 taken.2 taken.3

minus_begins : (w : Word) → Begins part_begins (giving (signed true) (codes "-" ▸ token judged_positive)) w → w.text ≡ codes "-"
minus_begins w b = behind_begins (codes "-") (token judged_positive) w (giving_begins (signed true) (codes "-" ▸ token judged_positive) w b)

pub num_begins : (w : Word) → Begins part_begins num_form w → begins_num w.text ≡ true
num_begins w (inl b) = rw (minus_begins w b) refl
num_begins w (inr b) = rw (any_begins w b) (or-true (is_word (codes "-") w.text))

pub told_num : IsTold num_form
unfolding is_number
told_num = (
  (tt, ((λ i. tt), (λ i. tt), λ w b i. tt), λ w b. tt),
  (tt, (λ i. tt), λ w b. tt),
  refl,
  (λ w b. rw (minus_begins w b) refl),
  λ w b. other_word is_number (codes "-") w.text refl (any_begins w b),
)

pub name_begins : (over : Bool) (role : Role) (w : Word) → Begins part_begins (name_form over role) w → is_name w.text ≡ true
unfolding judged_name
name_begins over role w b = if_some (is_name w.text) _ (b.1, b.2) b.3

-- a place begins with `deref` or a name
abbrev pub begins_place : List ℕ → Bool
begins_place text = is_word (codes "deref") text || is_name text

pub place_begins : (over : Bool) (w : Word) → part_begins (ThePlace over) w → begins_place w.text ≡ true
unfolding place_from base_form deref_form
place_begins over w b = go (only_first b)
  where
    go : Begins part_begins (Either (is_word (codes "deref")) (deref_form over) (giving (λ n. place.Local (record { 0 = n })) (name_form over UsesLocal))) w → begins_place w.text ≡ true
    go (inl c) = rw (limited_begins 8 over (codes "deref") w (only_first c)) refl
    go (inr c) = rw (name_begins over UsesLocal w (giving_begins (λ n. place.Local (record { 0 = n })) (name_form over UsesLocal) w c)) (or-true (is_word (codes "deref") w.text))

-- a value begins with no closing bracket
pub value_begins : (w : Word) → part_begins TheValue w → other_than (codes ")") w.text ≡ true
unfolding value_form judged_value
value_begins w b = go (bytes_eq w.text (codes ")")) refl
  where
    go : (same : Bool) → bytes_eq w.text (codes ")") ≡ same → not same ≡ true
    go true e = let text = (bytes_eq-Decides w.text (codes ")")).0 e in let taken = rw text at b.3 in absurd (cc)
    go false e = refl

-- ---- the words of statements, terminators and items

pub stmt_taken : (over : Bool) (w : Word) (found : StmtWord × Option ℕ) → judged_stmt over w ≡ Some found → is_stmt_word w.text ≡ true
unfolding judged_stmt
stmt_taken over w found e = go (looked_up stmt_words w.text) e
  where
    go : (entry : Option StmtWord) → option_map (λ s. (s, limit 8 over)) entry ≡ Some found → is_some entry ≡ true
    go None e = absurd (cc)
    go (Some s) e = refl

name_no_stmt : (text : List ℕ) → is_name text ≡ true → is_stmt_word text ≡ false
unfolding is_name
name_no_stmt text name = go (looked_up stmt_words text) refl
  where
    go : (entry : Option StmtWord) → looked_up stmt_words text ≡ entry → is_some entry ≡ false
    go None e = refl
    go (Some s) e = let reserved = found_fails stmt_words is_name refl text s e in absurd (cc)

-- a place is no statement's word, and begins a statement
pub place_no_stmt : (text : List ℕ) → begins_place text ≡ true → (is_stmt_word text ≡ false) × (begins_stmt text ≡ true)
place_no_stmt text e = go (or_cases (is_word (codes "deref") text) (is_name text) e)
  where
    go : (is_word (codes "deref") text ≡ true) ⊎ (is_name text ≡ true) → (is_stmt_word text ≡ false) × (begins_stmt text ≡ true)
    go (inl e) = let same = (bytes_eq-Decides text (codes "deref")).0 e in rw same (refl, refl)
    go (inr name) = (name_no_stmt text name, rw (name_no_stmt text name, name) (or-true (is_word (codes "deref") text)))

pub term_no_stmt : (w : Word) (i : TermWord) (flaw : Option ℕ) → judged_term w ≡ Some (i, flaw) → begins_stmt w.text ≡ false
unfolding judged_term is_name
term_no_stmt w i flaw e = found_fails term_words begins_stmt refl w.text i (fine_found (looked_up term_words w.text) i flaw e)

pub no_item : (t : List ℕ) → item_word_of t ≡ None → (w : Word) → Begins part_begins item_form w → is_word t w.text ≡ false
unfolding item_form judged_item
no_item t none w b = go (bytes_eq w.text t) refl
  where
    go : (same : Bool) → bytes_eq w.text t ≡ same → same ≡ false
    go true e = let text = (bytes_eq-Decides w.text t).0 e in let taken = rw (text, none) at b.3 in absurd (cc)
    go false e = refl
