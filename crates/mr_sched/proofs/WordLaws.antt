-- What the words of a line spell is spelled by that line, and no other.
use Rattle.mr_sched.proofs.Common.{◌≡◌, ◌≢◌, ℕ, ◌^◌, ◌<◌, true, not, eqb, List, [], ◌∷◌, ◌++◌, map, Option, Some, None, refl, sym, ap, subst, ◌∙◌, arith, inl, inr, option_map, option_and_then, decimal, codes, bytes_eq, join_with_byte, AllDigits, and_parts, cases_Bool, not-true, eqb-false, append-nil, decimal_is_IsNumeral, Entry, spaced, start_line, entry_line, EntryFits, Version, One, Two, header_in, IsUnbroken, number_of, parts_at, picks_of, start_of, entry_of}
use Rattle.std.specs.List.{list_all}
use Rattle.std.proofs.lemmas.Option.{same_Some}
use Rattle.std.proofs.lemmas.List.Splits.{join_with_byte-slice_split}
use Rattle.std.proofs.lemmas.Slice.Eq.{bytes_eq-Decides}
use Rattle.std.proofs.lemmas.Str.Parse.{digit_from_value}
use Rattle.mr_sched.specs.Spelling.{PicksFit}
use Rattle.mr_sched.proofs.Numerals.{spelled_from_number, number_of-decimal}
use Rattle.mr_sched.proofs.Parts.{IsFreeOf, parts_at-free, parts_at-append}

-- ---- bytes that aren't in a line

pub free-append : (c : ℕ) (a b : List ℕ) → IsFreeOf c a → IsFreeOf c b → IsFreeOf c (a ++ b)
free-append c [] b free more = more
free-append c (x ∷ a) b free more = (free.0, free-append c a b free.1 more)

digits_free : (c : ℕ) (ds : List ℕ) → c < 48 → AllDigits 10 ds → IsFreeOf c ds
digits_free c [] lt all = tt
digits_free c (d ∷ ds) lt all = (λ e. omega (arith, digit_from_value d all.0), digits_free c ds lt all.1)

pub decimal_free : (c n : ℕ) → c < 48 → n < 2 ^ 64 → IsFreeOf c (decimal n)
decimal_free c n lt small = digits_free c (decimal n) lt (decimal_is_IsNumeral n small).0.1

spaced_free : (c : ℕ) (ns : List ℕ) → c < 48 → 32 ≢ c → PicksFit ns → IsFreeOf c (spaced ns)
spaced_free c [] lt other fit = tt
spaced_free c (n ∷ ns) lt other fit = (other, free-append c (decimal n) (spaced ns) (decimal_free c n lt fit.0) (spaced_free c ns lt other fit.1))

free_by_test : (c : ℕ) (text : List ℕ) → list_all (λ b. not (eqb b c)) text ≡ true → IsFreeOf c text
free_by_test c [] e = tt
free_by_test c (b ∷ text) e = let p = and_parts (not (eqb b c)) _ e in (eqb-false b c (not-true _ p.0), free_by_test c text p.1)

pub header_unbroken : (v : Version) → IsUnbroken (header_in v)
header_unbroken One = free_by_test 10 (header_in One) refl
header_unbroken Two = free_by_test 10 (header_in Two) refl

pub start_unbroken : (picks : List ℕ) → PicksFit picks → IsUnbroken (start_line picks)
start_unbroken picks fit = free-append 10 (codes "start") (spaced picks) (free_by_test 10 (codes "start") refl) (spaced_free 10 picks (omega arith) (λ e. omega arith) fit)

pub entry_free : (c : ℕ) (e : Entry) → c < 48 → 32 ≢ c → EntryFits e → IsFreeOf c (entry_line e)
entry_free c e lt other fit = free-append c (decimal e.thread) (spaced e.picks) (decimal_free c e.thread lt (let t = fit.thread in omega arith)) (spaced_free c e.picks lt other fit.picks)

-- ---- picks

pub and_then_some : {A B : Type 0} (f : A → Option B) (o : Option A) (y : B) → option_and_then f o ≡ Some y → (x : A) × (o ≡ Some x) × (f x ≡ Some y)
and_then_some f None y e = absurd cc
and_then_some f (Some x) y e = (x, refl, e)

pub map_some : {A B : Type 0} (f : A → B) (o : Option A) (y : B) → option_map f o ≡ Some y → (x : A) × (o ≡ Some x) × (f x ≡ y)
map_some f None y e = absurd cc
map_some f (Some x) y e = (x, refl, same_Some (f x) y e)

picks_spelled : (word : List ℕ) (words : List (List ℕ)) (ns : List ℕ) → picks_of words ≡ Some ns → (join_with_byte 32 (word ∷ words) ≡ word ++ spaced ns) × PicksFit ns
unfolding picks_of
picks_spelled word [] ns e =
    subst (λ (w : List ℕ). (word ≡ word ++ spaced w) × PicksFit w) (same_Some [] ns e) (sym (append-nil word), tt)
picks_spelled word (w ∷ words) ns e =
    let a = and_then_some (λ n. option_map (λ ns. n ∷ ns) (picks_of words)) (number_of (2 ^ 64) w) ns e in
    let b = map_some (λ ns. a.0 ∷ ns) (picks_of words) ns a.2 in
    let n = spelled_from_number (2 ^ 64) w a.0 (omega arith) a.1 in
    let h = picks_spelled w words b.0 b.1 in
    subst (λ (v : List ℕ). (join_with_byte 32 (word ∷ w ∷ words) ≡ word ++ spaced v) × PicksFit v) b.2
    (ap (λ (t : List ℕ). word ++ (32 ∷ t)) (h.0 ∙ ap (λ (t : List ℕ). t ++ spaced b.0) n.0), (n.1, h.1))

picks_again : (ns : List ℕ) → PicksFit ns → picks_of (map decimal ns) ≡ Some ns
unfolding picks_of
picks_again [] fit = refl
picks_again (n ∷ ns) fit = rw (number_of-decimal (2 ^ 64) n (omega arith) fit.0, picks_again ns fit.1) refl

words_again : (first ns : List ℕ) → IsFreeOf 32 first → PicksFit ns → parts_at 32 (first ++ spaced ns) ≡ first ∷ map decimal ns
words_again first [] free fit = ap (parts_at 32) (append-nil first) ∙ parts_at-free 32 first free
words_again first (n ∷ ns) free fit =
    parts_at-append 32 first (decimal n ++ spaced ns) free
    ∙ ap (λ (w : List (List ℕ)). first ∷ w) (words_again (decimal n) ns (decimal_free 32 n (omega arith) fit.0) fit.1)

pub joined : (c : ℕ) (line : List ℕ) (words : List (List ℕ)) → parts_at c line ≡ words → line ≡ join_with_byte c words
joined c line words e = sym (join_with_byte-slice_split c line) ∙ ap (join_with_byte c) e

-- ---- the start picks

start_from_words : (line : List ℕ) (words : List (List ℕ)) (picks : List ℕ) → parts_at 32 line ≡ words → start_of words ≡ Some picks → PicksFit picks × (line ≡ start_line picks)
unfolding start_of
start_from_words line [] picks parts e = absurd cc
start_from_words line (word ∷ words) picks parts e =
    elim (cases_Bool (bytes_eq word (codes "start"))) [
      | inr f ↦ absurd (let g = rw f at e in cc)
      | inl t ↦
          let h = picks_spelled word words picks (rw t at e) in
          let is_start : word ≡ codes "start" = (bytes_eq-Decides word (codes "start")).0 t in
          (h.1, joined 32 line (word ∷ words) parts ∙ h.0 ∙ ap (λ (w : List ℕ). w ++ spaced picks) is_start)
    ]

pub start_spelled : (line picks : List ℕ) → start_of (parts_at 32 line) ≡ Some picks → PicksFit picks × (line ≡ start_line picks)
start_spelled line picks e = start_from_words line (parts_at 32 line) picks refl e

pub start_again : (picks : List ℕ) → PicksFit picks → start_of (parts_at 32 (start_line picks)) ≡ Some picks
unfolding start_of
start_again picks fit = rw (words_again (codes "start") picks (free_by_test 32 (codes "start") refl) fit) (picks_again picks fit)

-- ---- an entry

entry_from_words : (line : List ℕ) (words : List (List ℕ)) (e : Entry) → parts_at 32 line ≡ words → entry_of words ≡ Some e → EntryFits e × (line ≡ entry_line e)
unfolding entry_of
entry_from_words line [] e parts found = absurd cc
entry_from_words line (word ∷ words) e parts found =
    let a = and_then_some (λ t. option_map (λ ns. record { thread = t; picks = ns }) (picks_of words)) (number_of (2 ^ 32) word) e found in
    let b = map_some (λ (ns : List ℕ). let made : Entry = record { thread = a.0; picks = ns } in made) (picks_of words) e a.2 in
    let n = spelled_from_number (2 ^ 32) word a.0 (omega arith) a.1 in
    let h = picks_spelled word words b.0 b.1 in
    subst (λ (w : Entry). EntryFits w × (line ≡ entry_line w)) b.2
    (record { thread = n.1; picks = h.1 }, joined 32 line (word ∷ words) parts ∙ h.0 ∙ ap (λ (w : List ℕ). w ++ spaced b.0) n.0)

pub entry_spelled : (line : List ℕ) (e : Entry) → entry_of (parts_at 32 line) ≡ Some e → EntryFits e × (line ≡ entry_line e)
entry_spelled line e found = entry_from_words line (parts_at 32 line) e refl found

pub entry_again : (e : Entry) → EntryFits e → entry_of (parts_at 32 (entry_line e)) ≡ Some e
unfolding entry_of
entry_again e fit =
    let small = fit.thread in
    rw (words_again (decimal e.thread) e.picks (decimal_free 32 e.thread (omega arith) (omega arith)) fit.picks, number_of-decimal (2 ^ 32) e.thread (omega arith) fit.thread, picks_again e.picks fit.picks) refl
