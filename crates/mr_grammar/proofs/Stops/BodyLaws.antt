-- What is read of a whole row of words: the program that they write, or the first word at which they leave the grammar or break a limit.
use Rattle.mr_grammar.proofs.Common.{List, Result, Ok, Err, ◌≡◌, [], ap, sym, ◌∙◌, ℕ, ◌∷◌, Option, Some, ◌++◌, None, ◌≤◌, length, suc, arith, length-append, refl, ◌⊎◌, inl, inr, ◌-◌, Bool, if◌then◌else◌, true, false, ◌==◌, subst, ◌<◌, append_assoc, nat_tests, append-nil, nil_from_length, Word, Mark, ProgramBody, program_form, Scope, Stop, words_in, IsFine, Writes, ◌>>=◌, read, stop}
use Rattle.std.proofs.lemmas.Bool.{cases_order}
use Rattle.std.proofs.lemmas.List.{take_at, drop_at}
use Rattle.mr_words.specs.Brackets.{told, is_bracket_too_many}
use Rattle.mr_grammar.specs.Denotes.{SpelledProgram}
use Rattle.mr_grammar.specs.Faults.{BreaksLimit, code_of_unexpected, NothingFits, BreaksFirst, GoesOn}
use Rattle.mr_grammar.specs.Parsing.{ended, body_of}
use Rattle.mr_grammar.proofs.Stops.FlawLaws.{read_checked, checked-flawed, checked-fine}
use Rattle.mr_grammar.proofs.Stops.LimitLaws.{Keeps, row_keeps}
use Rattle.mr_grammar.proofs.Stops.ProgramTold.{told_program}
use Rattle.mr_grammar.proofs.Stops.Said.{said}
use Rattle.mr_grammar.proofs.Walk.CheckedLaws.{checked, unless_flawed}
use Rattle.mr_grammar.proofs.Walk.FairForms.{program_fair}
use Rattle.mr_grammar.proofs.Walk.HeightLaws.{SomeSpelled}
use Rattle.mr_grammar.proofs.Walk.Rows.{words-append, words-append-rest}
use Rattle.mr_grammar.proofs.Walk.Says.{Says, err-same, ok-same, next_of, Reached, Stopped}

-- what is told of an answer of the grammar
abbrev outcome : List Word → Result (ProgramBody × List Word) Stop → Result ProgramBody Stop
outcome words answer = elim (answer >>= ended) as (λ _. Result ProgramBody Stop) [ Ok body ↦ Ok body | Err s ↦ Err (told words s) ]

-- what reading says of the words of a program
program_said : (scope : Scope) (words : List Word) → Says (SomeSpelled 32 scope program_form) (λ us. read 32 scope program_form us) words
program_said scope words = said 32 scope program_form program_fair told_program words

-- a row is read whole, or up to the first limit that it breaks
row_read : (scope : Scope) (x : ProgramBody) (marks : List Mark) → SpelledProgram scope x marks → read 32 scope program_form (words_in marks) ≡ checked x marks []
row_read scope x marks s =
    ap (read 32 scope program_form) (sym (append-nil (words_in marks))) ∙ read_checked s.0 32 scope program_form x marks told_program s.1 [] (λ good. tt)

never_stops : (left : ℕ) (x : ProgramBody) (marks : List Mark) → Keeps marks → checked x marks [] ≡ Err (record { code = 4; left = left }) → ⊥
never_stops left x [] keeps e = absurd (cc)
never_stops left x (m ∷ marks) keeps e = go m.flaw keeps.0 (never_stops left x marks keeps.1) e
  where
    go : (flaw : Option ℕ) → (flaw ≡ Some 4 → ⊥) → (checked x marks [] ≡ Err (record { code = 4; left = left }) → ⊥)
        → unless_flawed flaw (m.word ∷ words_in marks ++ []) (checked x marks []) ≡ Err (record { code = 4; left = left }) → ⊥
    go None keep behind e = behind e
    go (Some found) keep behind e = keep (ap (λ s. Some s.code) (err-same e))

never_leaves : (x y : ProgramBody) (marks : List Mark) (t : Word) (rest : List Word) → checked x marks [] ≡ Ok (y, t ∷ rest) → ⊥
never_leaves x y [] t rest e = let clash = ap (λ p. p.1) (ok-same e) in absurd (cc)
never_leaves x y (m ∷ marks) t rest e = go m.flaw (never_leaves x y marks t rest) e
  where
    go : (flaw : Option ℕ) → (checked x marks [] ≡ Ok (y, t ∷ rest) → ⊥) → unless_flawed flaw (m.word ∷ words_in marks ++ []) (checked x marks []) ≡ Ok (y, t ∷ rest) → ⊥
    go None behind e = behind e
    go (Some found) behind e = absurd (cc)

-- where a row is read behind a front that breaks no limit, reading stops behind this front too
checked_left : (x : ProgramBody) (front back : List Mark) → IsFine front → (s : Stop) → checked x (front ++ back) [] ≡ Err s → s.left ≤ length (words_in back)
checked_left x [] [] good s e = absurd (cc)
checked_left x [] (m ∷ back) good s e = go m.flaw (checked_left x [] back tt s) e
  where
    go : (flaw : Option ℕ) → (checked x back [] ≡ Err s → s.left ≤ length (words_in back))
        → unless_flawed flaw (m.word ∷ words_in back ++ []) (checked x back []) ≡ Err s → s.left ≤ suc (length (words_in back))
    go None more e = let le = more e in omega arith
    go (Some code) more e = let same = ap (λ t. t.left) (err-same e) in omega (arith, same, length-append (words_in back) [])
checked_left x (m ∷ front) back good s e = checked_left x front back good.1 s (rw good.0 at e)

-- a limit of a row is no limit that it keeps
breaks_no_kept : (front : List Mark) (m : Mark) (back : List Mark) → Keeps (front ++ m ∷ back) → m.flaw ≡ Some 4 → ⊥
breaks_no_kept [] m back keeps e = keeps.0 e
breaks_no_kept (n ∷ front) m back keeps e = breaks_no_kept front m back keeps.1 e

-- of two ways to part a list, one part reaches further
split_at : {X : Type 0} (u v a b : List X) → u ++ a ≡ v ++ b → length b ≤ length a → (more : List X) × (v ≡ u ++ more) × (a ≡ more ++ b)
split_at [] v a b e le = (v, refl, e)
split_at (x ∷ u) [] a b e le = absurd (omega (arith, ap length e, length-append u a))
split_at (x ∷ u) (y ∷ v) a b e le =
    let head : x ≡ y = cc in
    let tail : u ++ a ≡ v ++ b = cc in
    let r = split_at u v a b tail le in
    (r.0, ap (λ z. z ∷ v) (sym head) ∙ ap (λ t. x ∷ t) r.1, r.2)

split_same : {X : Type 0} (u v a b : List X) → u ++ a ≡ v ++ b → length a ≡ length b → (u ≡ v) × (a ≡ b)
split_same u v a b e lengths =
    let (more, fronts, rests) = split_at u v a b e (omega arith) in
    let none : more ≡ [] = nil_from_length more (omega (arith, ap length rests, length-append more b)) in
    (sym (append-nil u) ∙ ap (λ m. u ++ m) (sym none) ∙ sym fronts, rests ∙ ap (λ m. m ++ b) none)

stop_same : (s t : Stop) → s.code ≡ t.code → s.left ≡ t.left → s ≡ t
stop_same s t p q = λ i. record { code = p i; left = q i }

-- reading stops at a limit that is the first, whatever stands behind its word
limit_reads : (scope : Scope) (front : List Mark) (rest : List Word) (code : ℕ) → BreaksLimit scope front rest code → IsFine front
    → (v : List Word) → next_of v ≡ next_of rest → read 32 scope program_form (words_in front ++ v) ≡ stop code v
limit_reads scope front rest code b good v e = go a.ending
  where
    a : Says (SomeSpelled 32 scope program_form) (λ us. read 32 scope program_form us) (words_in (front ++ b.mark ∷ b.back))
    a = program_said scope (words_in (front ++ b.mark ∷ b.back))

    found : read 32 scope program_form (words_in a.front ++ a.rest) ≡ stop code (b.mark.word ∷ words_in b.back ++ [])
    found = ap (read 32 scope program_form) (sym a.words) ∙ row_read scope b.body (front ++ b.mark ∷ b.back) b.written
        ∙ checked-flawed b.body front b.mark b.back [] code good b.broken

    go : Reached (SomeSpelled 32 scope program_form) (λ us. read 32 scope program_form us) a.front a.rest
        ⊎ Stopped (SomeSpelled 32 scope program_form) (λ us. read 32 scope program_form us) a.front a.rest
        → read 32 scope program_form (words_in front ++ v) ≡ stop code v
    go (inl (x, written, reads)) = let clash = sym (reads a.rest refl) ∙ found in absurd (cc)
    go (inr (other, stops, more)) =
        let same = err-same (sym (stops a.rest refl) ∙ found) in
        let (fronts, rests) = split_same (words_in front) (words_in a.front) (b.mark.word ∷ words_in b.back) a.rest (sym (words-append front (b.mark ∷ b.back)) ∙ a.words)
        (omega (arith, ap (λ s. s.left) same, length-append (words_in b.back) [])) in
        ap (λ us. read 32 scope program_form (us ++ v)) fronts ∙ stops v (e ∙ ap next_of b.next ∙ ap next_of rests) ∙ ap (λ c. stop c v) (ap (λ s. s.code) same)

-- the code 7 is told in place of 4, where a bracket is one too many
told_here : (front rest : List Word) → told (front ++ rest) (record { code = 4; left = length rest }) ≡ record { code = code_of_unexpected front rest; left = length rest }
told_here front rest =
    let n : length front ≡ length (front ++ rest) - length rest = omega (arith, length-append front rest) in
    rw (take_at front rest (length (front ++ rest) - length rest) n, drop_at front rest (length (front ++ rest) - length rest) n) (go (is_bracket_too_many front rest))
  where
    go : (many : Bool) → ◌≡◌ {A = Stop} (if many then record { code = 7; left = length rest } else record { code = 4; left = length rest }) (record { code = if many then 7 else 4; left = length rest })
    go true = refl
    go false = refl

told_other : (words : List Word) (s : Stop) → (s.code ≡ 4 → ⊥) → told words s ≡ s
told_other words s other = go (s.code == 4) refl
  where
    go : (four : Bool) → (s.code == 4) ≡ four → told words s ≡ s
    go true e = absurd (other (grind (arith, nat_tests)))
    go false e = rw e refl

-- nothing fits where no program begins with these words and the next
unfit : (scope : Scope) (front rest : List Word)
    → ((v : List Word) → next_of v ≡ next_of rest → (body : ProgramBody) (marks : List Mark) → words_in marks ≡ front ++ v → SpelledProgram scope body marks → ⊥)
    → NothingFits scope front rest
unfit scope front [] none = λ body marks words s. none [] refl body marks (words ∙ sym (append-nil front)) s
unfit scope front (w ∷ ws) none = λ body marks behind words s. none (w ∷ behind) refl body marks words s

writes_read : (scope : Scope) (words : List Word) (body : ProgramBody) → Writes scope words body → read 32 scope program_form words ≡ Ok (body, [])
writes_read scope words body w = rw w.row (row_read scope body w.marks w.written ∙ checked-fine body w.marks [] w.fine)

pub writes_body : (scope : Scope) (words : List Word) (body : ProgramBody) → Writes scope words body → body_of scope words ≡ Ok body
unfolding body_of
writes_body scope words body w = ap (outcome words) (writes_read scope words body w)

-- what is read of the words is what they write, or they have their first fault
abbrev BodySaid : Scope → List Word → Result ProgramBody Stop → Type 0
BodySaid scope words (Ok body) = Writes scope words body
BodySaid scope words (Err s) = BreaksFirst scope words s

body_said : (scope : Scope) (words : List Word) → BodySaid scope words (body_of scope words)
unfolding body_of
body_said scope words = go a.rest a.words a.ending
  where
    a : Says (SomeSpelled 32 scope program_form) (λ us. read 32 scope program_form us) words
    a = program_said scope words

    found : (rest : List Word) (answer : Result (ProgramBody × List Word) Stop) → words ≡ words_in a.front ++ rest → read 32 scope program_form (words_in a.front ++ rest) ≡ answer
        → BodySaid scope words (outcome words answer) → BodySaid scope words (outcome words (read 32 scope program_form words))
    found rest answer whole is said = subst (λ r. BodySaid scope words (outcome words r)) (sym (ap (read 32 scope program_form) whole ∙ is)) said

    unexpected : (rest : List Word) → words ≡ words_in a.front ++ rest → GoesOn scope a.front → NothingFits scope (words_in a.front) rest
        → BreaksFirst scope words (told words (record { code = 4; left = length rest }))
    unexpected rest whole on none =
        let here : BreaksFirst scope words (record { code = code_of_unexpected (words_in a.front) rest; left = length rest })
        = record { front = a.front; rest = rest; whole = whole; left = refl; fine = a.fine; ending = inr (refl, on, none) } in
        subst (BreaksFirst scope words) (sym (ap (λ ws. told ws (record { code = 4; left = length rest })) whole ∙ told_here (words_in a.front) rest)) here

    go : (rest : List Word) → words ≡ words_in a.front ++ rest
        → Reached (SomeSpelled 32 scope program_form) (λ us. read 32 scope program_form us) a.front rest
        ⊎ Stopped (SomeSpelled 32 scope program_form) (λ us. read 32 scope program_form us) a.front rest
        → BodySaid scope words (outcome words (read 32 scope program_form words))
    go [] whole (inl (x, written, reads)) =
        found [] (Ok (x, [])) whole (reads [] refl) (record { marks = a.front; row = whole ∙ append-nil (words_in a.front); fine = a.fine; written = written })
    go (w ∷ ws) whole (inl (x, written, reads)) =
        found (w ∷ ws) (Ok (x, w ∷ ws)) whole (reads (w ∷ ws) refl)
        (unexpected (w ∷ ws) whole (record { back = []; body = x; written = rw (append-nil a.front) written })
        (λ body marks behind same row.
        never_leaves body x marks w behind (sym (row_read scope body marks row) ∙ ap (read 32 scope program_form) same ∙ reads (w ∷ behind) refl)))
    go rest whole (inr (code, stops, (x, back, written, inl (m, others, more, same, next, flaw)))) =
        let row : SpelledProgram scope x (a.front ++ m ∷ more) = rw same at written in
        let other : code ≡ 4 → ⊥ = λ four. breaks_no_kept a.front m more (row_keeps row.0 32 scope program_form x (a.front ++ m ∷ more) program_fair row.1) (flaw ∙ ap Some four) in
        let here : BreaksFirst scope words (record { code = code; left = length rest }) = record {
          front = a.front;
          rest = rest;
          whole = whole;
          left = refl;
          fine = a.fine;
          ending = inl (record { mark = m; others = others; next = next; broken = flaw; back = more; body = x; written = row });
        } in
        found rest (stop code rest) whole (stops rest refl) (subst (BreaksFirst scope words) (sym (told_other words (record { code = code; left = length rest }) other)) here)
    go rest whole (inr (code, stops, (x, back, written, inr four))) =
        found rest (stop 4 rest) whole (stops rest refl ∙ ap (λ c. stop c rest) four)
        (unexpected rest whole (record { back = back; body = x; written = written })
        (unfit scope (words_in a.front) rest
        (λ v next body marks same row.
        never_stops (length v) body marks (row_keeps row.0 32 scope program_form body marks program_fair row.1)
        (sym (row_read scope body marks row) ∙ ap (read 32 scope program_form) same ∙ stops v next ∙ ap (λ c. stop c v) four))))

-- What is read of the words is what they write.
pub body_writes : (scope : Scope) (words : List Word) (body : ProgramBody) → body_of scope words ≡ Ok body → Writes scope words body
body_writes scope words body e = subst (BodySaid scope words) e (body_said scope words)

-- Where reading stops, the words have their first fault.
pub body_breaks : (scope : Scope) (words : List Word) (s : Stop) → body_of scope words ≡ Err s → BreaksFirst scope words s
body_breaks scope words s e = subst (BodySaid scope words) e (body_said scope words)

-- a row goes no further than to where nothing fits
not_longer : (scope : Scope) (front back : List Mark) (body : ProgramBody) (rest u others : List Word) → SpelledProgram scope body (front ++ back)
    → words_in front ++ rest ≡ u ++ others → length rest < length others → NothingFits scope u others → ⊥
not_longer scope front back body rest u [] s e less none = absurd (omega arith)
not_longer scope front back body rest u (w ∷ ws) s e less none =
    let (more, same, behind) = split_at u (words_in front) (w ∷ ws) rest (sym e) (omega arith) in
    go more same behind
  where
    go : (more : List Word) → words_in front ≡ u ++ more → w ∷ ws ≡ more ++ rest → ⊥
    go [] same behind = absurd (omega (arith, ap length behind))
    go (v ∷ more) same behind =
        let head : w ≡ v = cc in
        none body (front ++ back) (more ++ words_in back)
        (words-append front back ∙ ap (λ ws. ws ++ words_in back) same ∙ append_assoc u (v ∷ more) (words_in back) ∙ ap (λ x. u ++ (x ∷ (more ++ words_in back))) (sym head)) s

-- the parts of a first fault
abbrev FaultEnds : Scope → List Mark → List Word → Stop → Type 0
FaultEnds scope front rest s =
    BreaksLimit scope front rest s.code ⊎ ((s.code ≡ code_of_unexpected (words_in front) rest) × GoesOn scope front × NothingFits scope (words_in front) rest)

-- a limit that is the first comes behind no place where nothing fits, and before none
limit_clash : (scope : Scope) (front front' : List Mark) (rest rest' : List Word) (code : ℕ) → words_in front ++ rest ≡ words_in front' ++ rest' → IsFine front → IsFine front'
    → BreaksLimit scope front rest code → GoesOn scope front' → NothingFits scope (words_in front') rest' → ⊥
limit_clash scope front front' rest rest' code e good good' b on none = go (cases_order (length rest') (length rest))
  where
    behind : length rest ≤ length rest' → ⊥
    behind le =
        not_longer scope (front ++ b.mark ∷ []) b.back b.body b.others (words_in front') rest' (rw (append_assoc front (b.mark ∷ []) b.back) b.written)
        (words-append-rest front (b.mark ∷ []) b.others ∙ ap (λ ws. words_in front ++ ws) (sym b.next) ∙ e) (omega (arith, ap length b.next)) none

    before : (more : List Word) → words_in front' ≡ words_in front ++ more → rest ≡ more ++ rest' → length rest' < length rest → ⊥
    before [] fronts rests less = absurd (omega (arith, ap length rests))
    before (v ∷ more) fronts rests less =
        let stops = limit_reads scope front rest code b good (v ∷ more ++ words_in on.back) (ap next_of (sym rests)) in
        let whole : words_in (front' ++ on.back) ≡ words_in front ++ (v ∷ more ++ words_in on.back)
        = words-append front' on.back ∙ ap (λ ws. ws ++ words_in on.back) fronts ∙ append_assoc (words_in front) (v ∷ more) (words_in on.back) in
        let left = checked_left on.body front' on.back good' (record { code = code; left = length (v ∷ more ++ words_in on.back) })
        (sym (row_read scope on.body (front' ++ on.back) on.written) ∙ ap (read 32 scope program_form) whole ∙ stops) in
        absurd (omega (arith, left, length-append more (words_in on.back)))

    go : (length rest' ≡ length rest) ⊎ ((length rest' < length rest) ⊎ (length rest < length rest')) → ⊥
    go (inl same) = behind (omega arith)
    go (inr (inl less)) = let (more, fronts, rests) = split_at (words_in front) (words_in front') rest rest' e (omega arith) in before more fronts rests less
    go (inr (inr less)) = behind (omega arith)

-- The words have one first fault at most.
pub one_fault : (scope : Scope) (words : List Word) (s t : Stop) → BreaksFirst scope words s → BreaksFirst scope words t → s ≡ t
one_fault scope words s t b b' = go b.ending b'.ending
  where
    place : words_in b.front ++ b.rest ≡ words_in b'.front ++ b'.rest
    place = sym b.whole ∙ b'.whole

    both : s.code ≡ code_of_unexpected (words_in b.front) b.rest → GoesOn scope b.front → NothingFits scope (words_in b.front) b.rest
        → t.code ≡ code_of_unexpected (words_in b'.front) b'.rest → GoesOn scope b'.front → NothingFits scope (words_in b'.front) b'.rest
        → (length b.rest ≡ length b'.rest) ⊎ ((length b.rest < length b'.rest) ⊎ (length b'.rest < length b.rest)) → s ≡ t
    both code on none code' on' none' (inr (inl less)) = absurd (not_longer scope b.front on.back on.body b.rest (words_in b'.front) b'.rest on.written place less none')
    both code on none code' on' none' (inr (inr less)) = absurd (not_longer scope b'.front on'.back on'.body b'.rest (words_in b.front) b.rest on'.written (sym place) less none)
    both code on none code' on' none' (inl same) =
        let (fronts, rests) = split_same (words_in b.front) (words_in b'.front) b.rest b'.rest place same in
        stop_same s t (code ∙ ap (λ f. code_of_unexpected f b.rest) fronts ∙ ap (code_of_unexpected (words_in b'.front)) rests ∙ sym code') (sym b.left ∙ same ∙ b'.left)

    go : FaultEnds scope b.front b.rest s → FaultEnds scope b'.front b'.rest t → s ≡ t
    go (inl limit) (inl limit') =
        let at = limit_reads scope b.front b.rest s.code limit b.fine b.rest refl in
        let at' = limit_reads scope b'.front b'.rest t.code limit' b'.fine b'.rest refl in
        let same = err-same (sym at ∙ ap (read 32 scope program_form) place ∙ at') in
        stop_same s t (ap (λ r. r.code) same) (sym b.left ∙ ap (λ r. r.left) same ∙ b'.left)
    go (inl limit) (inr (code, on, none)) = absurd (limit_clash scope b.front b'.front b.rest b'.rest s.code place b.fine b'.fine limit on none)
    go (inr (code, on, none)) (inl limit) = absurd (limit_clash scope b'.front b.front b'.rest b.rest t.code (sym place) b'.fine b.fine limit on none)
    go (inr (code, on, none)) (inr (code', on', none')) = both code on none code' on' none' (cases_order (length b.rest) (length b'.rest))

-- Words that write a program have no fault.
pub writes_no_fault : (scope : Scope) (words : List Word) (body : ProgramBody) (s : Stop) → Writes scope words body → BreaksFirst scope words s → ⊥
writes_no_fault scope words body s w b = go b.rest b.whole b.ending
  where
    go : (rest : List Word) → words ≡ words_in b.front ++ rest → FaultEnds scope b.front rest s → ⊥
    go rest e (inl limit) =
        let clash = sym (writes_read scope words body w) ∙ ap (read 32 scope program_form) e ∙ limit_reads scope b.front rest s.code limit b.fine rest refl in absurd (cc)
    go [] e (inr (code, on, none)) = none body w.marks (sym w.row ∙ e ∙ append-nil (words_in b.front)) w.written
    go (v ∷ rest) e (inr (code, on, none)) = none body w.marks rest (sym w.row ∙ e) w.written

-- The first fault of the words is told.
pub breaks_body : (scope : Scope) (words : List Word) (s : Stop) → BreaksFirst scope words s → body_of scope words ≡ Err s
breaks_body scope words s b = go (body_of scope words) refl
  where
    go : (answer : Result ProgramBody Stop) → body_of scope words ≡ answer → body_of scope words ≡ Err s
    go (Ok body) e = absurd (writes_no_fault scope words body s (body_writes scope words body e) b)
    go (Err t) e = e ∙ ap Err (one_fault scope words t s (body_breaks scope words t e) b)
