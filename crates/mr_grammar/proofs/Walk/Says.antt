-- What reading says of words: those before the place where it ends are a row without a broken limit, and it says the same of all words that are
-- the same up to the next one.
use Rattle.mr_grammar.proofs.Common.{◌≡◌, Result, Ok, Err, List, Option, [], None, ◌∷◌, Some, ap, ◌++◌, refl, ℕ, Bool, ◌⊎◌, ◌∙◌, sym, inl, inr, subst, append_assoc, if◌then◌else◌, true, false, bytes_eq, length, ◌<◌, arith, length-append, ◌≤◌, zero, suc, append-nil, bytes_eq-Decides, some_is, Bracket, Mark, Word, opening, closing, EachSpelled, Stop, words_in, IsFine, is_next, Reads, stop, ◌>>=◌, opened, taken, expected, many_at}
use Rattle.mr_grammar.specs.Reading.{first_at}
use Rattle.mr_grammar.proofs.Walk.EnsureLaws.{unbroken}
use Rattle.mr_grammar.proofs.Walk.FairJudges.{spelt, taken_here}
use Rattle.mr_grammar.proofs.Walk.Rows.{words-append-rest, fine-append}

pub ok-same : {A B : Type 0} {x y : A} → ◌≡◌ {A = Result A B} (Ok x) (Ok y) → x ≡ y
ok-same e = cc

pub err-same : {A B : Type 0} {s t : B} → ◌≡◌ {A = Result A B} (Err s) (Err t) → s ≡ t
err-same e = cc

-- a thing and a row that writes it
abbrev pub Sample : {A : Type 0} → (A → List Mark → Type 0) → Type 0
Sample {A} writes = (x : A) × (marks : List Mark) × writes x marks

-- the next word
abbrev pub next_of : List Word → Option Word
next_of [] = None
next_of (w ∷ ws) = Some w

pub next_some : (ws : List Word) (w : Word) → next_of ws ≡ Some w → (more : List Word) × (ws ≡ w ∷ more)
next_some [] w e = absurd (cc)
next_some (v ∷ ws) w e = (ws, ap (λ u. u ∷ ws) (some_is e))

next_behind : (front v w : List Word) → next_of v ≡ next_of w → next_of (front ++ v) ≡ next_of (front ++ w)
next_behind [] v w e = e
next_behind (u ∷ front) v w e = refl

next_same : (test : List ℕ → Bool) (v w : List Word) → next_of v ≡ next_of w → is_next test v ≡ is_next test w
next_same test [] [] e = refl
next_same test [] (u ∷ w) e = absurd (cc)
next_same test (u ∷ v) [] e = absurd (cc)
next_same test (t ∷ v) (u ∷ w) e = ap (λ x. test x.text) (some_is e)

-- the next word breaks the limit with this code, where the row goes on so; or no limit is broken
abbrev pub Ends : ℕ → List Word → List Mark → Type 0
Ends code rest back = ((m : Mark) × (others : List Word) × (more : List Mark) × (back ≡ m ∷ more) × (rest ≡ m.word ∷ others) × (m.flaw ≡ Some code)) ⊎ (code ≡ 4)

-- a thing is read, or reading stops in a row of some thing
abbrev pub Reached : {A : Type 0} → (A → List Mark → Type 0) → Reads A → List Mark → List Word → Type 0
Reached {A} writes read front rest = (x : A) × writes x front × ((v : List Word) → next_of v ≡ next_of rest → read (words_in front ++ v) ≡ Ok (x, v))

abbrev pub Stopped : {A : Type 0} → (A → List Mark → Type 0) → Reads A → List Mark → List Word → Type 0
Stopped {A} writes read front rest =
    (code : ℕ) × ((v : List Word) → next_of v ≡ next_of rest → read (words_in front ++ v) ≡ stop code v)
    × ((x : A) × (back : List Mark) × writes x (front ++ back) × Ends code rest back)

pub record Says {A : Type 0} (writes : A → List Mark → Type 0) (read : Reads A) (ws : List Word) : Type 0 where
  pub front : List Mark
  pub rest : List Word
  pub words : ws ≡ words_in front ++ rest
  pub fine : IsFine front
  pub ending : Reached writes read front rest ⊎ Stopped writes read front rest

-- a reader of more things that reads as this one does, up to the next word
pub says_also : {A : Type 0} {writes writes' : A → List Mark → Type 0} {read read' : Reads A} {ws : List Word} → Says writes read ws
    → ((x : A) (marks : List Mark) → writes x marks → writes' x marks)
    → ((us : List Word) → next_of us ≡ next_of ws → read' us ≡ read us) → Says writes' read' ws
says_also {writes} {writes'} {read} {read'} s law same = record { front = s.front; rest = s.rest; words = s.words; fine = s.fine; ending = go s.ending }
  where
    again : (v : List Word) → next_of v ≡ next_of s.rest → read' (words_in s.front ++ v) ≡ read (words_in s.front ++ v)
    again v e = same (words_in s.front ++ v) (next_behind (words_in s.front) v s.rest e ∙ ap next_of (sym s.words))

    go : Reached writes read s.front s.rest ⊎ Stopped writes read s.front s.rest → Reached writes' read' s.front s.rest ⊎ Stopped writes' read' s.front s.rest
    go (inl (x, written, reads)) = inl (x, law x s.front written, λ v e. again v e ∙ reads v e)
    go (inr (code, stops, (x, back, written, why))) = inr (code, (λ v e. again v e ∙ stops v e), (x, back, law x (s.front ++ back) written, why))

-- no word is read
pub says_ok : {A : Type 0} {writes : A → List Mark → Type 0} {read : Reads A} (x : A) (ws : List Word) → writes x []
    → ((v : List Word) → next_of v ≡ next_of ws → read v ≡ Ok (x, v)) → Says writes read ws
says_ok x ws written reads = record { front = []; rest = ws; words = refl; fine = tt; ending = inl (x, written, reads) }

-- one word, which a judge takes
abbrev pub One : {I : Type 0} → (Word → Option (I × Option ℕ)) → I → List Mark → Type 0
One judge i marks = (w : Word) × (flaw : Option ℕ) × (marks ≡ record { word = w; flaw = flaw } ∷ []) × (judge w ≡ Some (i, flaw))

pub says_first : {I : Type 0} (judge : Word → Option (I × Option ℕ)) → Sample (One judge) → (ws : List Word) → Says (One judge) (first_at judge) ws
says_first {I} judge (i, marks, one) [] = record { front = []; rest = []; words = refl; fine = tt; ending = inr (4, stops, (i, marks, one, inr refl)) }
  where
    stops : (v : List Word) → next_of v ≡ None → first_at judge v ≡ stop 4 v
    stops [] e = refl
    stops (w ∷ v) e = absurd (cc)
says_first {I} judge (i, marks, one) (w ∷ ws) = go (judge w) refl
  where
    go : (verdict : Option (I × Option ℕ)) → judge w ≡ verdict → Says (One judge) (first_at judge) (w ∷ ws)
    go None is = record {
      front = [];
      rest = w ∷ ws;
      words = refl;
      fine = tt;
      ending = inr (4, (λ v e. (let (more, same) = next_some v w e in rw (same, is) refl)), (i, marks, one, inr refl));
    }
    go (Some (j, None)) is = record {
      front = record { word = w; flaw = None } ∷ [];
      rest = ws;
      words = refl;
      fine = (refl, tt);
      ending = inl (j, (w, None, refl, is), λ v e. rw is refl);
    }
    go (Some (j, Some code)) is = let m : Mark = record { word = w; flaw = Some code } in record {
      front = [];
      rest = w ∷ ws;
      words = refl;
      fine = tt;
      ending = inr (code, (λ v e. (let (more, same) = next_some v w e in rw (same, is) refl)), (j, m ∷ [], (w, Some code, refl, is), inl (m, ws, [], refl, refl, refl)));
    }

longer : (code : ℕ) (rest : List Word) (back more : List Mark) → Ends code rest back → Ends code rest (back ++ more)
longer code rest back more (inl (m, others, behind, same, next, flaw)) = inl (m, others, behind ++ more, ap (λ ms. ms ++ more) same, next, flaw)
longer code rest back more (inr four) = inr four

-- one thing behind another
pub says_then : {A B : Type 0} {writes_a : A → List Mark → Type 0} (writes_b : A → B → List Mark → Type 0) {writes : B → List Mark → Type 0}
    {read : Reads A} (next : A → Reads B) {ws : List Word} → Says writes_a read ws
    → ((x : A) (front : List Mark) (rest : List Word) → ws ≡ words_in front ++ rest → IsFine front → writes_a x front → Says (writes_b x) (next x) rest)
    → ((x : A) → Sample (writes_b x))
    → ((x : A) (y : B) (front back : List Mark) → writes_a x front → writes_b x y back → writes y (front ++ back))
    → Says writes (λ us. read us >>= (λ p. next p.0 p.1)) ws
says_then {A} {B} {writes_a} writes_b {writes} {read} next {ws} a behind some both = go a.ending
  where
    go : Reached writes_a read a.front a.rest ⊎ Stopped writes_a read a.front a.rest → Says writes (λ us. read us >>= (λ p. next p.0 p.1)) ws
    go (inl (x, written, reads)) = record {
      front = a.front ++ b.front;
      rest = b.rest;
      words = a.words ∙ ap (λ m. words_in a.front ++ m) b.words ∙ sym (words-append-rest a.front b.front b.rest);
      fine = fine-append a.front b.front a.fine b.fine;
      ending = end b.ending;
    }
      where
        b : Says (writes_b x) (next x) a.rest
        b = behind x a.front a.rest a.words a.fine written

        through : (v : List Word) → next_of v ≡ next_of b.rest → read (words_in (a.front ++ b.front) ++ v) >>= (λ p. next p.0 p.1) ≡ next x (words_in b.front ++ v)
        through v e = ap (λ us. read us >>= (λ p. next p.0 p.1)) (words-append-rest a.front b.front v)
            ∙ ap (λ r. r >>= (λ p. next p.0 p.1)) (reads (words_in b.front ++ v) (next_behind (words_in b.front) v b.rest e ∙ ap next_of (sym b.words)))

        end : Reached (writes_b x) (next x) b.front b.rest ⊎ Stopped (writes_b x) (next x) b.front b.rest
            → Reached writes (λ us. read us >>= (λ p. next p.0 p.1)) (a.front ++ b.front) b.rest
            ⊎ Stopped writes (λ us. read us >>= (λ p. next p.0 p.1)) (a.front ++ b.front) b.rest
        end (inl (y, one, ok)) = inl (y, both x y a.front b.front written one, λ v e. through v e ∙ ok v e)
        end (inr (code, stops, (y, back, one, why))) = inr (
          code,
          (λ v e. through v e ∙ stops v e),
          (y, back, subst (writes y) (sym (append_assoc a.front b.front back)) (both x y a.front (b.front ++ back) written one), why),
        )
    go (inr (code, stops, (x, back, written, why))) = let (y, more, one) = some x in record {
      front = a.front;
      rest = a.rest;
      words = a.words;
      fine = a.fine;
      ending = inr (
        code,
        (λ v e. ap (λ r. r >>= (λ p. next p.0 p.1)) (stops v e)),
        (y, back ++ more, subst (writes y) (append_assoc a.front back more) (both x y (a.front ++ back) more written one), longer code a.rest back more why),
      );
    }

-- a thing that is made of what was read
pub says_made : {A B : Type 0} (f : A → B) {writes_a : A → List Mark → Type 0} {writes : B → List Mark → Type 0} {read : Reads A} {ws : List Word} → Says writes_a read ws
    → ((x : A) (marks : List Mark) → writes_a x marks → writes (f x) marks) → Says writes (λ us. read us >>= (λ p. Ok (f p.0, p.1))) ws
says_made f a law =
    says_then (λ x y back. (y ≡ f x) × (back ≡ [])) (λ x us. Ok (f x, us)) a (λ x front rest e fine one. says_ok (f x) rest (refl, refl) (λ v same. refl))
    (λ x. (f x, [], (refl, refl))) (λ x y front back one (is_y, none). rw (is_y, none, append-nil front) (law x front one))

-- the next word tells which of two things
pub says_either : {A : Type 0} (test : List ℕ → Bool) {writes_a writes_b : A → List Mark → Type 0} {read_a read_b : Reads A} (ws : List Word)
    → Says writes_a read_a ws → Says writes_b read_b ws → Says (λ x marks. writes_a x marks ⊎ writes_b x marks) (λ us. if is_next test us then read_a us else read_b us) ws
says_either test {writes_a} {writes_b} {read_a} {read_b} ws a b = go (is_next test ws) refl
  where
    go : (passes : Bool) → is_next test ws ≡ passes → Says (λ x marks. writes_a x marks ⊎ writes_b x marks) (λ us. if is_next test us then read_a us else read_b us) ws
    go true e = says_also a (λ x marks one. inl one) (λ us same. rw (next_same test us ws same ∙ e) refl)
    go false e = says_also b (λ x marks one. inr one) (λ us same. rw (next_same test us ws same ∙ e) refl)

-- ---- brackets

-- a word that is one too many where no more may be open
abbrev bracket_word : Bool → List ℕ → Word → Option (Unit {0} × Option ℕ)
bracket_word closed text w = if bytes_eq w.text text then Some (tt, if closed then Some 7 else None) else None

opened_first : {B : Type 0} (closed : Bool) (bracket : Bracket) (next : List Word → Result B Stop) (ws : List Word)
    → opened closed bracket ws >>= next ≡ first_at (bracket_word closed (opening bracket)) ws >>= (λ i. next i.1)
opened_first closed bracket next [] = refl
opened_first {B} closed bracket next (w ∷ ws) = go (bytes_eq w.text (opening bracket)) closed
  where
    go : (same full : Bool) → (if same then (if full then stop 7 (w ∷ ws) else Ok ws) else stop 4 (w ∷ ws)) >>= next
        ≡ taken (if same then Some (tt {0}, if full then Some 7 else None) else None) w ws >>= (λ i. next i.1)
    go true true = refl
    go true false = refl
    go false full = refl

expected_first : {B : Type 0} (text : List ℕ) (next : List Word → Result B Stop) (ws : List Word)
    → expected text ws >>= next ≡ first_at (bracket_word false text) ws >>= (λ i. next i.1)
expected_first text next [] = refl
expected_first {B} text next (w ∷ ws) = go (bytes_eq w.text text)
  where
    go : (same : Bool) → (if same then Ok ws else stop 4 (w ∷ ws)) >>= next ≡ taken (if same then Some (tt {0}, None) else None) w ws >>= (λ i. next i.1)
    go true = refl
    go false = refl

-- the row of this word alone
abbrev Alone : Bool → List ℕ → List Mark → Type 0
Alone closed text marks = (w : Word) × (w.text ≡ text) × (marks ≡ record { word = w; flaw = if closed then Some 7 else None } ∷ [])

says_bracket : (closed : Bool) (text : List ℕ) (ws : List Word) → Says (λ u. Alone closed text) (first_at (bracket_word closed text)) ws
says_bracket closed text ws = says_also
    (says_first (bracket_word closed text) (tt, record { word = spelt text; flaw = flaw } ∷ [], (spelt text, flaw, refl, taken_here text (tt, flaw))) ws)
    (λ u marks (w, found, is, judged). (let (same, at) = go w (u, found) (bytes_eq w.text text) refl judged in (w, same, is ∙ ap (λ p. record { word = w; flaw = p.1 } ∷ []) (sym at))))
    (λ us e. refl)
  where
    flaw : Option ℕ
    flaw = if closed then Some 7 else None

    go : (w : Word) (p : Unit {0} × Option ℕ) (same : Bool) → bytes_eq w.text text ≡ same
        → ◌≡◌ {A = Option (Unit {0} × Option ℕ)} (if same then Some (tt, flaw) else None) (Some p) → (w.text ≡ text) × ((tt, flaw) ≡ p)
    go w p true is e = ((bytes_eq-Decides w.text text).0 is, some_is e)
    go w p false is e = absurd (cc)

bracket_free : (closed : Bool) (w : Word) (front : List Mark) → front ≡ record { word = w; flaw = if closed then Some 7 else None } ∷ [] → IsFine front → closed ≡ false
bracket_free closed w front is fine =
    let row : IsFine (record { word = w; flaw = if closed then Some 7 else None } ∷ []) = rw is at fine in unbroken 7 closed row.0

abbrev to_closing : {A : Type 0} → Bracket → Reads A → Reads A
to_closing bracket inner ws = inner ws >>= (λ x. expected (closing bracket) x.1 >>= (λ end. Ok (x.0, end)))

-- something in brackets
pub says_within : (closed : Bool) (bracket : Bracket) {A : Type 0} {inner : Reads A} {writes : A → List Mark → Type 0} → Sample writes
    → (closed ≡ false → (ws : List Word) → Says writes inner ws) → (ws : List Word)
    → Says (λ x marks. (start : Word) × (end : Word) × (between : List Mark) × (start.text ≡ opening bracket) × (end.text ≡ closing bracket)
    × (marks ≡ record { word = start; flaw = if closed then Some 7 else None } ∷ between ++ record { word = end; flaw = None } ∷ []) × writes x between)
    (λ us. opened closed bracket us >>= to_closing bracket inner) ws
says_within closed bracket {A} {inner} {writes} (x, between, one) said ws =
    says_also
    (says_then (λ u. Closed) (λ u us. inner us >>= (λ p. close p.0 p.1)) (says_bracket closed (opening bracket) ws)
    (λ u front rest words fine (w, text, is).
    says_then (λ y z back. (z ≡ y) × Alone false (closing bracket) back) close (said (bracket_free closed w front is fine) rest)
    (λ y middle after e good inside. says_made (λ u. y) (says_bracket false (closing bracket) after) (λ u marks end. (refl, end)))
    (λ y. (y, last, (refl, (spelt (closing bracket), refl, refl))))
    (λ y z middle back inside (same, (end, is_end, is_back)). (end, middle, is_end, ap (λ ms. middle ++ ms) is_back, rw same inside)))
    (λ u. (x, between ++ last, (spelt (closing bracket), between, refl, refl, one)))
    (λ u y front back (w, text, is) (end, middle, is_end, is_back, inside).
    (w, end, middle, text, is_end, ap (λ ms. ms ++ back) is ∙ ap (λ ms. record { word = w; flaw = if closed then Some 7 else None } ∷ ms) is_back, inside)))
    (λ y marks written. written)
    (λ us e. opened_first closed bracket (to_closing bracket inner) us
    ∙ (λ i. first_at (bracket_word closed (opening bracket)) us >>= (λ p. inner p.1 >>= (λ y. expected_first (closing bracket) (λ end. Ok (y.0, end)) y.1 i))))
  where
    last : List Mark
    last = record { word = spelt (closing bracket); flaw = None } ∷ []

    close : A → Reads A
    close y us = first_at (bracket_word false (closing bracket)) us >>= (λ p. Ok (y, p.1))

    Closed : A → List Mark → Type 0
    Closed y marks = (end : Word) × (middle : List Mark) × (end.text ≡ closing bracket) × (marks ≡ middle ++ record { word = end; flaw = None } ∷ []) × writes y middle

-- ---- things in a row

-- what is read of the words
pub said_ok : {A : Type 0} {writes : A → List Mark → Type 0} {read : Reads A} {ws : List Word} → Says writes read ws → (p : A × List Word) → read ws ≡ Ok p
    → (front : List Mark) × (ws ≡ words_in front ++ p.1) × writes p.0 front
said_ok {A} {writes} {read} {ws} s p e = go s.ending
  where
    go : Reached writes read s.front s.rest ⊎ Stopped writes read s.front s.rest → (front : List Mark) × (ws ≡ words_in front ++ p.1) × writes p.0 front
    go (inl (x, written, reads)) =
        let same : (x, s.rest) ≡ p = ok-same (sym (reads s.rest refl) ∙ ap read (sym s.words) ∙ e) in
        (s.front, s.words ∙ ap (λ q. words_in s.front ++ q.1) same, subst (λ q. writes q.0 s.front) same written)
    go (inr (code, stops, more)) = let clash = sym (stops s.rest refl) ∙ ap read (sym s.words) ∙ e in absurd (cc)

module _ {A : Type 0} (reads : ℕ → Reads A) (writes : ℕ → A → List Mark → Type 0) (test : List ℕ → Bool)
    (item : (k : ℕ) (ws : List Word) → Says (writes k) (reads k) ws) (none : (k : ℕ) (x : A) → writes k x [] → ⊥) where
  -- each of them takes a word
  takes_one : (k : ℕ) (x : A) (front : List Mark) (ws rest : List Word) → ws ≡ words_in front ++ rest → writes k x front → length rest < length ws
  takes_one k x [] ws rest e written = absurd (none k x written)
  takes_one k x (m ∷ front) ws rest e written = omega (arith, ap length e, length-append (words_in front) rest)

  shorter : (k : ℕ) (ws : List Word) (p : A × List Word) → reads k ws ≡ Ok p → length p.1 < length ws
  shorter k ws p e = let (front, words, written) = said_ok (item k ws) p e in takes_one k p.0 front ws p.1 words written

  -- it doesn't matter how many may be read, where there are fewer words
  enough : (n m k : ℕ) (ws : List Word) → length ws ≤ n → length ws ≤ m → many_at reads test n k ws ≡ many_at reads test m k ws
  unfolding many_at
  enough zero zero k ws le le' = refl
  enough zero (suc m) k [] le le' = refl
  enough zero (suc m) k (w ∷ ws) le le' = absurd (omega arith)
  enough (suc n) zero k [] le le' = refl
  enough (suc n) zero k (w ∷ ws) le le' = absurd (omega arith)
  enough (suc n) (suc m) k ws le le' = go (is_next test ws) (reads k ws) refl (enough n m (suc k))
    where
      go : (passes : Bool) (answer : Result (A × List Word) Stop) → reads k ws ≡ answer
          → ((us : List Word) → length us ≤ n → length us ≤ m → many_at reads test n (suc k) us ≡ many_at reads test m (suc k) us)
          → ◌≡◌ {A = Result (List A × List Word) Stop} (if passes then (answer >>= (λ x. many_at reads test n (suc k) x.1 >>= (λ xs. Ok (x.0 ∷ xs.0, xs.1)))) else Ok ([], ws))
          (if passes then (answer >>= (λ x. many_at reads test m (suc k) x.1 >>= (λ xs. Ok (x.0 ∷ xs.0, xs.1)))) else Ok ([], ws))
      go true (Ok p) at more = let less = shorter k ws p at in ap (λ r. r >>= (λ xs. Ok (p.0 ∷ xs.0, xs.1))) (more p.1 (omega arith) (omega arith))
      go true (Err s) at more = refl
      go false answer at more = refl

  pub says_many : (most k : ℕ) (ws : List Word) → length ws ≤ most → Says (EachSpelled writes k) (λ us. many_at reads test (length us) k us) ws
  unfolding many_at
  says_many most k [] le = says_ok [] [] refl stops
    where
      stops : (v : List Word) → next_of v ≡ None → many_at reads test (length v) k v ≡ Ok ([], v)
      stops [] e = refl
      stops (w ∷ v) e = absurd (cc)
  says_many zero k (w ∷ ws) le = absurd (omega arith)
  says_many (suc most) k (w ∷ ws) le = go (test w.text) refl (says_many most (suc k))
    where
      go : (passes : Bool) → test w.text ≡ passes → ((us : List Word) → length us ≤ most → Says (EachSpelled writes (suc k)) (λ vs. many_at reads test (length vs) (suc k) vs) us)
          → Says (EachSpelled writes k) (λ us. many_at reads test (length us) k us) (w ∷ ws)
      go false e more = says_ok [] (w ∷ ws) refl (λ v at. (let (us, same) = next_some v w at in rw (same, e) refl))
      go true e more =
          says_also
          (says_then (λ x ys back. (xs : List A) × (ys ≡ x ∷ xs) × EachSpelled writes (suc k) xs back)
          (λ x us. many_at reads test (length us) (suc k) us >>= (λ xs. Ok (x ∷ xs.0, xs.1))) (item k (w ∷ ws))
          (λ x front rest words fine one.
          (let less = takes_one k x front (w ∷ ws) rest words one in says_made (λ xs. x ∷ xs) (more rest (omega arith)) (λ xs marks each. (xs, refl, each))))
          (λ x. (x ∷ [], [], ([], refl, refl)))
          (λ x ys front back one (xs, is, each). rw is (front, back, refl, one, each)))
          (λ xs marks each. each)
          (λ vs at. (let (us, same) = next_some vs w at in rw same (unrolled us)))
        where
          unrolled : (us : List Word) → many_at reads test (length (w ∷ us)) k (w ∷ us)
              ≡ reads k (w ∷ us) >>= (λ p. many_at reads test (length p.1) (suc k) p.1 >>= (λ xs. Ok (p.0 ∷ xs.0, xs.1)))
          unrolled us = rw e (step (reads k (w ∷ us)) refl)
            where
              step : (answer : Result (A × List Word) Stop) → reads k (w ∷ us) ≡ answer
                  → ◌≡◌ {A = Result (List A × List Word) Stop} (answer >>= (λ p. many_at reads test (length us) (suc k) p.1 >>= (λ xs. Ok (p.0 ∷ xs.0, xs.1))))
                  (answer >>= (λ p. many_at reads test (length p.1) (suc k) p.1 >>= (λ xs. Ok (p.0 ∷ xs.0, xs.1))))
              step (Ok p) at = let less = shorter k (w ∷ us) p at in ap (λ r. r >>= (λ xs. Ok (p.0 ∷ xs.0, xs.1))) (enough (length us) (length p.1) (suc k) p.1 (omega arith) (omega arith))
              step (Err s) at = refl
