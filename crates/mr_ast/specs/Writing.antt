-- The pieces of the grammar: words, names, numbers, lists.
use Rattle.std.specs.Prelude.{ℕ, ◌^◌, Bool, true, false, not, ◌&&◌, ◌==◌, nat_lt, nat_le, if◌then◌else◌, List, [], ◌∷◌}
use Rattle.std.specs.Prelude.{codes, bytes_eq, Option, None, Some, option_map}
use Rattle.mr_ast.specs.Limits.{max_size}
use Rattle.mr_ast.specs.declared.types.IntType.{IntType}
use Rattle.mr_ast.specs.declared.types.Num.{Num}
use Rattle.mr_ast.specs.declared.types.Tree.{Tree}
use Rattle.mr_ast.specs.declared.types.Ty.{Ty}
use Rattle.mr_ast.specs.declared.expr.Place.{Place}
use Rattle.mr_ast.specs.declared.expr.Value.{Value}
use Rattle.mr_ast.specs.declared.program.LocalName.{LocalName}
use Rattle.mr_ast.specs.declared.program.BlockName.{BlockName}
use Rattle.mr_ast.specs.declared.program.FnName.{FnName}
use Rattle.mr_ast.specs.declared.program.GlobalName.{GlobalName}
use Rattle.mr_ast.specs.declared.program.Target.{Target}
use Rattle.mr_ast.specs.Forms.{Word, Form, Empty, Then, Cases, Either, Many, Within, closing}
use Rattle.mr_ast.specs.declared.words.Bracket.{Bracket}
use Rattle.mr_ast.specs.declared.words.Role.{Role}
use Rattle.mr_ast.specs.declared.words.Role.TheVariants.{UsesGlobal, UsesFunction, UsesLocal, UsesBlock}
use Rattle.mr_ast.specs.Scope.{Scope, name_number, name_target}
use Rattle.mr_ast.specs.Words.{is_name, is_number, value_of, looked_up, int_words}

-- the kinds of things that stand inside things of their own kind; of a place, whether its first word is too many (8)
pub data Kind : Type 0 where
  TheType : Kind
  TheTree : Kind
  ThePlace : Bool → Kind
  TheValue : Kind

-- what is read by a form of this kind
abbrev pub Meaning : Kind → Type 0
Meaning TheType = Ty
Meaning TheTree = Tree
Meaning (ThePlace over) = Place
Meaning TheValue = Value

-- how a thing of the language is written
abbrev pub Writing : Type 0 → Type 1
Writing A = Form Scope Kind Meaning A

-- What a word is taken for, with the limit that it breaks, or nothing.
abbrev pub Judged : Type 0 → Type 0
Judged I = Option (I × Option ℕ)

-- a word that breaks no limit
abbrev pub fine : {I : Type 0} → Option I → Judged I
fine None = None
fine (Some i) = Some (i, None)

-- the limit, where it is broken
abbrev pub limit : ℕ → Bool → Option ℕ
limit code broken = if broken then Some code else None

-- the text is this word
abbrev pub is_word : List ℕ → List ℕ → Bool
is_word word text = bytes_eq text word

-- the text is another than this word
abbrev pub other_than : List ℕ → List ℕ → Bool
other_than word text = not (bytes_eq text word)

-- the word itself
abbrev pub word : List ℕ → Writing (Unit {0})
word text = Cases (λ scope w. fine (if bytes_eq w.text text then Some tt else None)) Empty

-- the word itself, where one too many breaks a limit
abbrev pub limited_word : ℕ → Bool → List ℕ → Writing (Unit {0})
limited_word code over text = Cases (λ scope w. if bytes_eq w.text text then Some (tt, limit code over) else None) Empty

-- what the form writes, seen by a function
abbrev pub giving : {A B : Type 0} → (A → B) → Writing A → Writing B
giving f a = Then (λ (u : Unit {0}) x. f x) (Empty tt) a

infixr 14 ◌▸◌
infixl 15 ◌◂◌
infixr 13 ◌▪◌
-- something behind a word, before a word, and before something else
abbrev pub ◌▸◌ : {A : Type 0} → List ℕ → Writing A → Writing A
text ▸ a = Then (λ u x. x) (word text) a

abbrev pub ◌◂◌ : {A : Type 0} → Writing A → List ℕ → Writing A
a ◂ text = Then (λ x u. x) a (word text)

abbrev pub ◌▪◌ : {A B : Type 0} → Writing A → Writing B → Writing (A × B)
a ▪ b = Then (λ x y. (x, y)) a b

-- what stands within a pair of brackets
abbrev pub within : {A : Type 0} → Bracket → Writing A → Writing A
within bracket a = Within false bracket a

-- one or more, with commas between them
abbrev pub separated : {A : Type 0} → Writing A → Writing (List A)
separated a = Then (λ x xs. x ∷ xs) a (Many (is_word (codes ",")) (λ k. codes "," ▸ a))

-- a list in brackets, which may be empty
abbrev pub listed : {A : Type 0} → Bracket → Writing (List A) → Writing (List A)
listed bracket some = within bracket (Either (other_than (closing bracket)) some (Empty []))

-- something that stands there behind a word, or neither
abbrev pub optional : {A : Type 0} → List ℕ → Writing A → Writing (Option A)
optional text a = Either (is_word text) (giving Some (text ▸ a)) (Empty None)

-- a number, of which the judge says whether it may stand there and which limit it breaks
abbrev pub judged_number : (ℕ → Option (Option ℕ)) → Word → Judged ℕ
judged_number judge w =
    if is_number w.text then option_map (λ flaw. (value_of w.text, flaw)) (judge (value_of w.text)) else None

-- a number below 2^64; a greater one breaks the limit 2
unfoldable pub judged_u64 : Word → Judged ℕ
judged_u64 = judged_number (λ n. Some (limit 2 (not (nat_lt n (2 ^ 64)))))

-- a repeat is 1 to 2^20, and breaks the limit 2 from 2^64 on
unfoldable pub judged_repeat : Word → Judged ℕ
judged_repeat =
    judged_number
    (λ n. if nat_lt n (2 ^ 64) then (if nat_lt 0 n && nat_le n max_size then Some None else None) else Some (Some 2))

-- any number, and any but 0
unfoldable pub judged_any : Word → Judged ℕ
judged_any = judged_number (λ n. Some None)

-- any number but 0
unfoldable pub judged_positive : Word → Judged ℕ
judged_positive = judged_number (λ n. if n == 0 then None else Some None)

-- a thing that one word writes, whatever names stand for
abbrev pub token : {I : Type 0} → (Word → Judged I) → Writing I
token judge = Cases (λ scope. judge) Empty

-- a number below 2^64
abbrev pub u64_form : Writing ℕ
u64_form = token judged_u64

-- a number of this sign
abbrev pub signed : Bool → ℕ → Num
signed neg n = record { neg = neg; mag = n }

-- a number with its sign; there is no minus 0
abbrev pub num_form : Writing Num
num_form =
    Either (is_word (codes "-")) (giving (signed true) (codes "-" ▸ token judged_positive))
    (giving (signed false) (token judged_any))

-- a name, one too many (8) or not, and what it stands for
unfoldable pub judged_name : Bool → Role → Scope → Word → Judged ℕ
judged_name over role scope w =
    if is_name w.text then (let found = name_number scope role w in Some (found.0, if over then Some 8 else found.1))
    else None

-- a name in this role, which is one too many where over holds
abbrev pub name_form : Bool → Role → Writing ℕ
name_form over role = Cases (judged_name over role) Empty

-- names that are used
abbrev pub local_use : Writing LocalName
local_use = giving (λ n. record { 0 = n }) (name_form false UsesLocal)

-- the name of a block, where it is used
abbrev pub block_use : Writing BlockName
block_use = giving (λ n. record { 0 = n }) (name_form false UsesBlock)

-- the name of a function, where it is used
abbrev pub function_use : Writing FnName
function_use = giving (λ n. record { 0 = n }) (name_form false UsesFunction)

-- the name of a global, where it is used
abbrev pub global_use : Writing GlobalName
global_use = giving (λ n. record { 0 = n }) (name_form false UsesGlobal)

-- a name that may be a global's or a function's
unfoldable pub judged_target : Scope → Word → Judged Target
judged_target scope w = if is_name w.text then Some (name_target scope w) else None

-- the name of a function or of a global, where a pointer to it is used
abbrev pub target_use : Writing Target
target_use = Cases judged_target Empty

-- a word that is an integer type
unfoldable pub judged_int : Word → Judged IntType
judged_int w = fine (looked_up int_words w.text)

-- an integer type
abbrev pub int_form : Writing IntType
int_form = token judged_int
