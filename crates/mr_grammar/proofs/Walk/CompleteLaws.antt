-- What a row of marks writes in a form is read: the thing, and the rest behind it; or the first limit that the row breaks.
use Rattle.mr_grammar.proofs.Common.{List, ℕ, Bool, ◌≡◌, false, [], refl, ◌∷◌, Ok, zero, suc, ◌||◌, true, ◌++◌, length, ◌≤◌, Result, arith, ap, ◌∙◌, length-append, sym, Option, Some, None, inl, inr, if◌then◌else◌, bytes_eq-Decides, Word, Form, Mark, Many, EachSpelled, Spelling, Part, SpelledBy, Empty, Then, Cases, Either, Within, closing, opening, In, Stop, words_in, IsFine, is_next, Reads, many_at, ◌>>=◌, Reading, read_by, taken, expected, opened}
use Rattle.mr_grammar.proofs.Walk.BeginLaws.{Opens, each_opens, spelled_opens}
use Rattle.mr_grammar.proofs.Walk.CheckedLaws.{First, IsRead, checked, first-map, checked-then, checked-made, unless_flawed}
use Rattle.mr_grammar.proofs.Walk.Conditions.{Begins, is_nullable, Stops, IsPredictive}
use Rattle.mr_grammar.proofs.Walk.Rows.{fine-append, words-append-rest}

-- the next word fails a test, if there is one
next_fails : (test : List ℕ → Bool) (ws : List Word) → First (λ w. test w.text ≡ false) ws → is_next test ws ≡ false
next_fails test [] f = refl
next_fails test (w ∷ ws) f = f

-- nothing more in a row stands there
many_none : {A : Type 0} (read : ℕ → Reads A) (test : List ℕ → Bool) (most k : ℕ) (ws : List Word) → is_next test ws ≡ false
    → many_at read test most k ws ≡ Ok ([], ws)
unfolding many_at
many_none read test zero k ws e = refl
many_none read test (suc most) k ws e = rw e refl

-- the second of two is false where neither is true
pub left_false : (a b : Bool) → a || b ≡ false → b ≡ false
left_false true b e = absurd (cc)
left_false false b e = e

module _ {S P : Type 0} {M : P → Type 0} (begins stops : P → Word → Type 0) where
  -- the words behind something are those of the next thing, or those behind that
  parted : {A : Type 0} (b : Form S P M A) (ends : Word → Type 0) (back : List Mark) (rest : List Word) → Opens begins b back
      → ((w : Word) → Begins begins b w → ends w) → (back ≡ [] → is_nullable b ≡ true → First ends rest) → First ends (words_in back ++ rest)
  parted b ends [] rest opens behind last = last refl opens
  parted b ends (m ∷ back) rest opens behind last = behind m.word opens

  -- whether the next word passes a test, where the first word of the thing tells it, or the word behind
  next_tells : {A : Type 0} (test : List ℕ → Bool) (passes : Bool) (form : Form S P M A) (marks : List Mark) (rest : List Word) → Opens begins form marks
      → ((w : Word) → Begins begins form w → test w.text ≡ passes) → (marks ≡ [] → is_nullable form ≡ true → is_next test rest ≡ passes)
      → is_next test (words_in marks ++ rest) ≡ passes
  next_tells test passes form [] rest opens some none = none refl opens
  next_tells test passes form (m ∷ marks) rest opens some none = some m.word opens

  -- things in a row are read, where each of them is
  module _ {A : Type 0} (test : List ℕ → Bool) (form : ℕ → Form S P M A) (read : ℕ → Reads A) (spelled : ℕ → A → List Mark → Type 0)
      (item : (k : ℕ) (x : A) (marks : List Mark) → spelled k x marks → IsRead (read k) (Stops stops (form k)) x marks)
      (opens : (k : ℕ) (x : A) (marks : List Mark) → spelled k x marks → Opens begins (form k) marks) (told : IsPredictive begins stops (Many test form)) where
    many_checked : (most k : ℕ) (xs : List A) (marks : List Mark) (rest : List Word) → EachSpelled spelled k xs marks
        → (IsFine marks → First (Stops stops (Many test form)) rest)
        → length (words_in marks ++ rest) ≤ most → many_at read test most k (words_in marks ++ rest) ≡ checked xs marks rest
    unfolding many_at
    many_checked most k [] marks rest s last le =
        rw s (many_none read test most k rest (next_fails test rest (first-map rest (λ w f. f.0) (last (rw s tt)))))
    many_checked most k (x ∷ xs) marks rest (front, back, whole, one, others) last le =
        rw whole (go front most (opens k x front one) (item k x front one (words_in back ++ rest) ends) (λ good. last (rw whole good))
        (λ more n. many_checked n (suc k) xs back rest others more) (rw whole at le))
      where
        ends : IsFine front → First (Stops stops (form k)) (words_in back ++ rest)
        ends good =
            parted (Many test form) (Stops stops (form k)) back rest (each_opens begins test form spelled opens (suc k) xs back others) (λ w b. told.3 b.0 k w b.1)
            (λ e yes. first-map rest (λ w f. f.1 k) (last (rw whole (fine-append front back good (rw e tt)))))

        next : ℕ → A × List Word → Result (List A × List Word) Stop
        next n y = many_at read test n (suc k) y.1 >>= (λ ys. Ok (y.0 ∷ ys.0, ys.1))

        go : (front : List Mark) (most : ℕ) → Opens begins (form k) front → read k (words_in front ++ (words_in back ++ rest)) ≡ checked x front (words_in back ++ rest)
            → (IsFine (front ++ back) → First (Stops stops (Many test form)) rest)
            → ((IsFine back → First (Stops stops (Many test form)) rest) → (n : ℕ) → length (words_in back ++ rest) ≤ n
            → many_at read test n (suc k) (words_in back ++ rest) ≡ checked xs back rest)
            → length (words_in (front ++ back) ++ rest) ≤ most → many_at read test most k (words_in (front ++ back) ++ rest) ≡ checked (x ∷ xs) (front ++ back) rest
        go [] most empty first last more le = let no = told.1 k in absurd (cc)
        go (m ∷ front) zero b first last more le = absurd (omega arith)
        go (m ∷ front) (suc most) b first last more le =
            let parts = words-append-rest front back rest in
            rw (told.2 k m.word b) (ap (λ ws. read k ws >>= next most) (words-append-rest (m ∷ front) back rest) ∙ ap (λ r. r >>= next most) first
            ∙ checked-then (next most) x (x ∷ xs) (m ∷ front) back rest
            (λ good. ap (λ r. r >>= (λ ys. Ok (x ∷ ys.0, ys.1)))
            (more (λ fine. last (fine-append (m ∷ front) back good fine)) most (omega (arith, ap length parts, length-append (words_in front) (words_in back ++ rest))))
            ∙ checked-made (λ ys. x ∷ ys) xs back rest))

  module _ (full : Bool) (inside : Spelling S P M) (inner : Reading S P M) (part : S → (p : P) → M p → List Mark → Type 0) (reads : S → (p : P) → Reads (M p))
      (opens_p : (scope : S) (p : P) (x : M p) (marks : List Mark) → part scope p x marks → Opens {S = S} {M = M} begins (Part p) marks)
      (parts : (scope : S) (p : P) (x : M p) (marks : List Mark) → part scope p x marks → IsRead (reads scope p) (stops p) x marks)
      (within : full ≡ false → (scope : S) (A : Type 0) (form : Form S P M A) (x : A) (marks : List Mark) → IsPredictive begins stops form
      → inside scope A form x marks → IsRead (inner scope A form) (Stops stops form) x marks) where
    -- What a row writes in a form is read, where the next word tells each choice, and the words behind the row are no more of the thing.
    pub checked_by : (scope : S) {A : Type 0} (form : Form S P M A) (x : A) (marks : List Mark) → IsPredictive begins stops form
        → SpelledBy full inside part scope form x marks → IsRead (λ us. read_by full inner reads scope form us) (Stops stops form) x marks
    checked_by scope (Empty a) x marks told s rest last = rw s.1 (ap (λ y. Ok (y, rest)) (sym s.0))
    checked_by scope (Then {A} {B} {C} f a b) z marks told (x, y, front, back, is, whole, one, other) rest last =
        rw (is, whole) (ap (λ ws. read_by full inner reads scope a ws >>= next) (words-append-rest front back rest)
        ∙ ap (λ r. r >>= next) (checked_by scope a x front told.0 one (words_in back ++ rest) ends)
        ∙ checked-then next x (f x y) front back rest
        (λ good. ap (λ r. r >>= (λ y. Ok (f x y.0, y.1)))
        (checked_by scope b y back told.1 other rest (λ more. first-map rest (λ w g. g.1) (last (rw whole (fine-append front back good more)))))
        ∙ checked-made (f x) y back rest))
      where
        next : A × List Word → Result (C × List Word) Stop
        next x = read_by full inner reads scope b x.1 >>= (λ y. Ok (f x.0 y.0, y.1))

        ends : IsFine front → First (Stops stops a) (words_in back ++ rest)
        ends good =
            parted b (Stops stops a) back rest (spelled_opens begins full inside part opens_p scope b y back other) told.2
            (λ e yes. first-map rest (λ w g. rw yes at g.0) (last (rw whole (fine-append front back good (rw e tt)))))
    checked_by scope (Cases {A} judge form) x marks told (w, i, flaw, back, judged, whole, behind) rest last =
        rw whole (go flaw judged (λ e. checked_by scope (form i) x back (told i) behind rest (λ good. first-map rest (λ w f. f i) (last (rw whole (e, good))))))
      where
        go : (flaw : Option ℕ) → judge scope w ≡ Some (i, flaw)
            → (flaw ≡ None → read_by full inner reads scope (form i) (words_in back ++ rest) ≡ checked x back rest)
            → taken (judge scope w) w (words_in back ++ rest) >>= (λ j. read_by full inner reads scope (form j.0) j.1)
            ≡ unless_flawed flaw (w ∷ words_in back ++ rest) (checked x back rest)
        go None e more = rw e (more refl)
        go (Some code) e more = rw e refl
    checked_by scope (Either test a b) x marks told (inl s) rest last =
        rw (next_tells test true a marks rest (spelled_opens begins full inside part opens_p scope a x marks s) told.3 (λ e yes. let no = told.2 in absurd (cc)))
        (checked_by scope a x marks told.0 s rest (λ good. first-map rest (λ w f. f.1) (last good)))
    checked_by scope (Either test a b) x marks told (inr s) rest last =
        rw (next_tells test false b marks rest (spelled_opens begins full inside part opens_p scope b x marks s) told.4
        (λ e yes. next_fails test rest (first-map rest (λ w f. rw yes at f.0) (last (rw e tt)))))
        (checked_by scope b x marks told.1 s rest (λ good. first-map rest (λ w f. f.2) (last good)))
    checked_by scope (Many test form) x marks told s rest last =
        many_checked test form (λ k. read_by full inner reads scope (form k)) (λ k. SpelledBy full inside part scope (form k))
        (λ k y front t. checked_by scope (form k) y front (told.0 k) t) (λ k. spelled_opens begins full inside part opens_p scope (form k)) told
        (length (words_in marks ++ rest)) 0 x marks rest s last (omega arith)
    checked_by scope (Within {A} over bracket a) x marks told (start, end, between, is_start, is_end, whole, one) rest last =
        rw whole (go (over || full)
        (λ free. ap (λ ws. inner scope A a ws >>= next) (words-append-rest between (record { word = end; flaw = None } ∷ []) rest)
        ∙ ap (λ r. r >>= next) (within (left_false over full free) scope A a x between told.0 one (end ∷ rest) (λ good. told.1 end is_end))
        ∙ checked-then next x x between (record { word = end; flaw = None } ∷ []) rest (λ good. rw ((bytes_eq-Decides end.text (closing bracket)).1 is_end) refl)))
      where
        next : A × List Word → Result (A × List Word) Stop
        next y = expected (closing bracket) y.1 >>= (λ last. Ok (y.0, last))

        row : List Mark
        row = between ++ record { word = end; flaw = None } ∷ []

        go : (closed : Bool) → (closed ≡ false → inner scope A a (words_in row ++ rest) >>= next ≡ checked x row rest)
            → opened closed bracket (start ∷ words_in row ++ rest) >>= (λ ws. inner scope A a ws >>= next)
            ≡ unless_flawed (if closed then Some 7 else None) (start ∷ words_in row ++ rest) (checked x row rest)
        go true more = rw ((bytes_eq-Decides start.text (opening bracket)).1 is_start) refl
        go false more = rw ((bytes_eq-Decides start.text (opening bracket)).1 is_start) (more refl)
    checked_by scope (Part p) x marks told s rest last = parts scope p x marks s rest last
    checked_by scope (In into a) x marks told s rest last = checked_by (into scope) a x marks told s rest last
