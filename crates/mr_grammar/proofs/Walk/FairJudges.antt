-- The judges of words, numbers and names are fair.
use Rattle.mr_grammar.proofs.Common.{List, ℕ, Bool, Option, ◌≡◌, Some, inl, refl, None, ap, if◌then◌else◌, true, false, bytes_eq, codes, not, ◌^◌, ◌&&◌, ◌==◌, length, inr, option_map, nat_lt, nat_le, bytes_eq-Decides, some_is, Target, Role, DefinesGlobal, DefinesFunction, DefinesLocal, DefinesBlock, Word, used_in, Definitions, number_of_name, name_number, name_target, number_in, item_names, target_of, Scope, is_number, looked_up, int_words, is_name, Judged, fine, limit, word, limited_word, judged_number, token, u64_form, judged_u64, judged_repeat, num_form, judged_positive, judged_any, int_form, judged_int, name_form, judged_name, target_use, judged_target, taken}
use Rattle.mr_ast.specs.declared.program.Target.TheVariants as target
use Rattle.mr_ast.specs.declared.types.IntType.TheVariants as int
use Rattle.mr_grammar.proofs.Shape.ShapedNames.{name_fine, target_named}
use Rattle.mr_grammar.proofs.Shape.ShapedNumbers.{number_read}
use Rattle.mr_grammar.proofs.Walk.Fair.{IsFair, AreFair}

-- a word of this text
abbrev pub spelt : List ℕ → Word
spelt text = record { text = text; place = 0 }

-- a judge that looks at the word alone
pub fair_word : {I : Type 0} (judge : Word → Judged I) {empty : I → Bool} (text : List ℕ) (i : I) (flaw : Option ℕ) → judge (spelt text) ≡ Some (i, flaw)
    → ((w : Word) (j : I) → judge w ≡ Some (j, Some 4) → ⊥) → IsFair (λ scope. judge) empty
fair_word judge text i flaw taken plain = record {
  takes = λ scope. (spelt text, i, flaw, taken);
  plain = λ scope. plain;
  again = λ s t unknown w j e. (j, e, inl refl);
}

pub fine_found : {I : Type 0} (found : Option I) (i : I) (flaw : Option ℕ) → fine found ≡ Some (i, flaw) → found ≡ Some i
fine_found None i flaw e = absurd (cc)
fine_found {I} (Some j) i flaw e = ap (λ (verdict : Option (I × Option ℕ)). option_map (λ p. p.0) verdict) e

fine_plain : {I : Type 0} (found : Option I) (i : I) → fine found ≡ Some (i, Some 4) → ⊥
fine_plain None i e = absurd (cc)
fine_plain (Some j) i e = let clash = ap (λ p. p.1) (some_is e) in absurd (cc)

-- a judge that looks a word up
pub fair_fine : {I : Type 0} (found : Word → Option I) {empty : I → Bool} (text : List ℕ) (i : I) → found (spelt text) ≡ Some i → IsFair (λ scope w. fine (found w)) empty
fair_fine found text i taken = fair_word (λ w. fine (found w)) text i None (ap fine taken) (λ w j e. fine_plain (found w) j e)

pub exposed_plain : {I : Type 0} (exposed : Bool) (k : I) (found : Option I) (j : I) → (if exposed then Some (k, Some 9) else fine found) ≡ Some (j, Some 4) → ⊥
exposed_plain true k found j e = let clash = ap (λ p. p.1) (some_is e) in absurd (cc)
exposed_plain false k found j e = fine_plain found j e

pub limit_plain : (code : ℕ) (broken : Bool) → (code ≡ 4 → ⊥) → limit code broken ≡ Some 4 → ⊥
limit_plain code true other e = other (some_is e)
limit_plain code false other e = absurd (cc)

pub taken_here : {X : Type 0} (text : List ℕ) (x : X) → (if bytes_eq text text then Some x else None) ≡ Some x
taken_here text x = rw ((bytes_eq-Decides text text).1 refl) refl

-- words
pub word_fair : (parts : Bool) (text : List ℕ) → AreFair parts (word text)
word_fair parts text = (fair_fine (λ w. if bytes_eq w.text text then Some tt else None) text tt (taken_here text tt), λ i. tt)

limited_fair : (parts : Bool) (code : ℕ) → (code ≡ 4 → ⊥) → (over : Bool) (text : List ℕ) → AreFair parts (limited_word code over text)
limited_fair parts code other over text =
    (fair_word (λ w. if bytes_eq w.text text then Some (tt, limit code over) else None) text tt (limit code over) (taken_here text (tt, limit code over)) (λ w. go (bytes_eq w.text text)), λ i. tt)
  where
    go : (same : Bool) (i : Unit {0})
        → ◌≡◌ {A = Option (Unit {0} × Option ℕ)} (if same then Some (tt {0}, limit code over) else None) (Some (i, Some 4)) → ⊥
    go true i e = limit_plain code over other (ap (λ p. p.1) (some_is e))
    go false i e = absurd (cc)

pub limited_7_fair : (parts over : Bool) (text : List ℕ) → AreFair parts (limited_word 7 over text)
limited_7_fair parts over text = limited_fair parts 7 (λ e. absurd (cc)) over text

pub limited_8_fair : (parts over : Bool) (text : List ℕ) → AreFair parts (limited_word 8 over text)
limited_8_fair parts over text = limited_fair parts 8 (λ e. absurd (cc)) over text

-- numbers
number_fair : (parts : Bool) (judge : ℕ → Option (Option ℕ)) → judged_number judge (spelt (codes "1")) ≡ Some (1, None) → ((n : ℕ) → judge n ≡ Some (Some 4) → ⊥)
    → AreFair parts (token (judged_number judge))
number_fair parts judge taken plain =
    (fair_word (judged_number judge) (codes "1") 1 None taken (λ w n e. plain n (number_read judge w n (Some 4) e).2), λ i. tt)

pub u64_fair : (parts : Bool) → AreFair parts u64_form
unfolding judged_u64 is_number
u64_fair parts = number_fair parts (λ n. Some (limit 2 (not (nat_lt n (2 ^ 64))))) refl (λ n e. limit_plain 2 _ (λ f. absurd (cc)) (some_is e))

pub repeat_fair : (parts : Bool) → AreFair parts (token judged_repeat)
unfolding judged_repeat is_number
repeat_fair parts = number_fair parts judge refl (λ n e. plain (nat_lt n (2 ^ 64)) (nat_lt 0 n && nat_le n (2 ^ 20)) e)
  where
    judge : ℕ → Option (Option ℕ)
    judge n = if nat_lt n (2 ^ 64) then (if nat_lt 0 n && nat_le n (2 ^ 20) then Some None else None) else Some (Some 2)

    plain : (small good : Bool) → ◌≡◌ {A = Option (Option ℕ)} (if small then (if good then Some None else None) else Some (Some 2)) (Some (Some 4)) → ⊥
    plain true true e = absurd (cc)
    plain true false e = absurd (cc)
    plain false good e = absurd (cc)

pub num_fair : (parts : Bool) → AreFair parts num_form
unfolding judged_positive judged_any is_number
num_fair parts = (
  (tt, (word_fair parts (codes "-"), number_fair parts (λ n. if n == 0 then None else Some None) refl (λ n. positive (n == 0)))),
  (tt, number_fair parts (λ n. Some None) refl (λ n e. absurd (cc))),
)
  where
    positive : (none : Bool) → ◌≡◌ {A = Option (Option ℕ)} (if none then None else Some None) (Some (Some 4)) → ⊥
    positive true e = absurd (cc)
    positive false e = absurd (cc)

pub int_fair : (parts : Bool) → AreFair parts int_form
unfolding judged_int
int_fair parts = (fair_fine (λ w. looked_up int_words w.text) (codes "u8") int.U8 refl, λ i. tt)

-- names
used_plain : (found : Option ℕ) → (used_in found).1 ≡ Some 4 → ⊥
used_plain None e = absurd (cc)
used_plain (Some n) e = absurd (cc)

defined_plain : (first : Bool) → ◌≡◌ {A = Option ℕ} (if first then None else Some 6) (Some 4) → ⊥
defined_plain true e = absurd (cc)
defined_plain false e = absurd (cc)

role_plain : (d : Definitions) (f : ℕ) (role : Role) (text : List ℕ) → (number_of_name d f role text).1 ≡ Some 4 → ⊥
unfolding number_of_name
role_plain d f (DefinesGlobal k) text e = defined_plain _ e
role_plain d f (DefinesFunction k) text e = defined_plain _ e
role_plain d f (DefinesLocal k) text e = defined_plain _ e
role_plain d f (DefinesBlock k) text e = defined_plain _ e
role_plain d f _ text e = used_plain _ e

number_plain : (known : Option Definitions) (k : ℕ) (role : Role) (w : Word) → (name_number (record { known = known; function = k }) role w).1 ≡ Some 4 → ⊥
number_plain None k role w e = absurd (cc)
number_plain (Some d) k role w e = role_plain d k role w.text e

target_plain : (known : Option Definitions) (k : ℕ) (w : Word) → (name_target (record { known = known; function = k }) w).1 ≡ Some 4 → ⊥
target_plain None k w e = absurd (cc)
target_plain (Some d) k w e = go (number_in (item_names d) w.text) e
  where
    go : (found : Option ℕ) → (target_of (length d.globals) found).1 ≡ Some 4 → ⊥
    go None e = absurd (cc)
    go (Some n) e = absurd (cc)

name_here : is_name (codes "x") ≡ true
unfolding is_name
name_here = refl

pub name_fair : (parts over : Bool) (role : Role) → AreFair parts (name_form over role)
unfolding judged_name
name_fair parts over role = (
  record {
    takes = λ scope. (spelt (codes "x"), (name_number scope role (spelt (codes "x"))).0, if over then Some 8 else (name_number scope role (spelt (codes "x"))).1, rw name_here refl);
    plain = λ scope w i e. plain scope w i (is_name w.text) over e;
    again = λ s t unknown w n e. (let fine = name_fine over role s w n e in (w.place, rw (fine.1, fine.0, unknown) refl, inr (refl, refl)));
  },
  λ i. tt,
)
  where
    plain : (scope : Scope) (w : Word) (i : ℕ) (name many : Bool)
        → ◌≡◌ {A = Judged ℕ} (if name then Some ((name_number scope role w).0, if many then Some 8 else (name_number scope role w).1) else None)
        (Some (i, Some 4)) → ⊥
    plain scope w i true true e = let clash = ap (λ p. p.1) (some_is e) in absurd (cc)
    plain scope w i true false e = number_plain scope.known scope.function role w (ap (λ p. p.1) (some_is e))
    plain scope w i false many e = absurd (cc)

pub target_fair : (parts : Bool) → AreFair parts target_use
unfolding judged_target
target_fair parts = (
  record {
    takes = λ scope. (spelt (codes "x"), (name_target scope (spelt (codes "x"))).0, (name_target scope (spelt (codes "x"))).1, rw name_here refl);
    plain = λ scope w i e. plain scope w i (is_name w.text) e;
    again = λ s t unknown w i e. (target.Global (record { 0 = w.place }), rw ((target_named s w i e).0, unknown) refl, inr (refl, refl));
  },
  λ i. tt,
)
  where
    plain : (scope : Scope) (w : Word) (i : Target) (name : Bool)
        → ◌≡◌ {A = Judged Target} (if name then Some (name_target scope w) else None) (Some (i, Some 4)) → ⊥
    plain scope w i true e = target_plain scope.known scope.function w (ap (λ p. p.1) (some_is e))
    plain scope w i false e = absurd (cc)

pub ruleset fair_pieces = (word_fair, limited_7_fair, limited_8_fair, u64_fair, num_fair, name_fair, int_fair, repeat_fair, target_fair)
