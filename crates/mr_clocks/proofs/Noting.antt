-- One step more in the rows.
use Rattle.mr_clocks.proofs.Common.{◌≡◌, ◌≢◌, ℕ, ◌+◌, ◌<◌, ◌≤◌, inl, inr, List, [], ◌∷◌, ◌++◌, true, length, get_or, set, slice_index, refl, sym, ◌∙◌, ap, subst, arith, get_or-set_other, get_or-set_same, get_or-take, get_or_append_left, get_or_push, length-set, length_push, ℕ_discrete, dec_lt, Footprint, step_at, thread_at, Key, Row, Link, has_row, AreLinks, AreLonger, ArePartly, ArePlaces, AreRows, HaveKeysOf, IsBelow, IsGrown, IsIn, IsKept, IsOfRow, IsRow, IsRowFor, link_at, no_link, no_row, row_at, step_of, false}
use Rattle.std.proofs.Common.{append_assoc}
use Rattle.std.proofs.lemmas.List.{append-nil}
use Rattle.mr_clocks.specs.Rows.{IsHeld, IsNoted}
use Rattle.mr_clocks.specs.Keys.{is_shared}
use Rattle.mr_clocks.proofs.Chains.{in_behind, in_cases, in_here, in_less, in_low, in_more, in_none}

-- the rows before a step is noted
pub partly_start : (run : List Footprint) (j : ℕ) (rows : List Row) (links : List Link) → AreRows run j rows links → ArePartly run j rows links
partly_start run j rows links a =
    record {
      chained = a.chained;
      each = λ x lt. let r = a.each x lt in record {
        last = r.last;
        steps = λ k inside. let s = r.steps k inside in record { within = let less = s.within in omega (arith, less); thread = s.thread; noted = s.noted };
        newest = r.newest;
      };
      held = a.held;
    }

-- one row, in which a step is noted
module _ (run : List Footprint) (j x : ℕ) (rows rows' : List Row) (links links' : List Link) (p : ArePartly run j rows links) (inside : x < length rows) (thread : is_shared (row_at rows x).key ≡ false → (row_at rows x).thread ≡ thread_at run j) (noted : has_row (step_at run j) (row_at rows x).key ≡ true) (n : IsNoted rows links x j (thread_at run j) rows' links') where
  link_new : link_at links' (length links) ≡ (record { step = j; before = n.before })
  link_new = ap (λ (l : List Link). link_at l (length links)) n.linked ∙ get_or_push links (record { step = j; before = n.before }) no_link (length links) refl

  link_old : (k : ℕ) → k < length links → link_at links' k ≡ link_at links k
  link_old k lt = ap (λ (l : List Link). link_at l k) n.linked ∙ get_or_append_left links ((record { step = j; before = n.before }) ∷ []) no_link k lt

  more_links : length links' ≡ length links + 1
  more_links = ap length n.linked ∙ length_push links (record { step = j; before = n.before })

  old_row : IsRow run (j + 1) links (row_at rows x)
  old_row = p.each x inside

  up : (k at : ℕ) → IsIn links k at → at ≤ length links → IsIn links' k at
  up k at r le = subst (λ (l : List Link). IsIn l k at) (sym n.linked) (in_more links ((record { step = j; before = n.before }) ∷ []) p.chained r le)

  down : (k at : ℕ) → IsIn links' k at → at ≤ length links → IsIn links k at
  down k at r le = in_less links ((record { step = j; before = n.before }) ∷ []) p.chained (subst (λ (l : List Link). IsIn l k at) n.linked r) le

  before_low : n.before ≤ length links
  before_low = elim n.below.all_or_less [
    | inl e ↦ let is = e.0 in let low = old_row.last in omega (arith, is, low)
    | inr t ↦
        let is = t.1 in let low = old_row.last in let before = t.2 in
        let less = p.chained.low t.0 (omega (arith, is, low)) in
        omega (arith, is, low, before, less)
  ]

  before_falls : (b : ℕ) → n.before ≡ b + 1 → step_of links b < j
  before_falls b e = elim n.below.all_or_less [
    | inl all ↦
        let is : (row_at rows x).last ≡ b + 1 = sym all.0 ∙ e in
        let within = (old_row.steps b (in_here links b (row_at rows x).last is)).within in
        let other = all.1 b is in
        omega (arith, within, other)
    | inr t ↦
        let is = t.1 in
        let low = old_row.last in
        let within = (old_row.steps t.0 (in_here links t.0 (row_at rows x).last is)).within in
        let less = p.chained.falling t.0 b (omega (arith, is, low)) (sym t.2 ∙ e) in
        omega (arith, within, less)
  ]

  -- what is behind the new link was in the row
  was_inside : (k : ℕ) → IsIn links k n.before → IsIn links k (row_at rows x).last
  was_inside k r = elim n.below.all_or_less [
    | inl all ↦ subst (λ (q : ℕ). IsIn links k q) all.0 r
    | inr t ↦ in_behind links k t.0 (row_at rows x).last t.1 (subst (λ (q : ℕ). IsIn links k q) t.2 r)
  ]

  chained' : AreLinks links'
  chained' = record {
    low = λ k lt. elim (ℕ_discrete k (length links)) [
      | yes e ↦ let is = ap (λ (q : ℕ). (link_at links' q).before) e ∙ ap (λ (l : Link). l.before) link_new in let low = before_low in omega (arith, is, low, e)
      | no ne ↦ let less : k < length links = omega (arith, lt, more_links, ne) in let is = ap (λ (l : Link). l.before) (link_old k less) in let low = p.chained.low k less in omega (arith, is, low)
    ];
    falling = λ k b lt e. elim (ℕ_discrete k (length links)) [
      | yes same ↦
          let is : n.before ≡ b + 1 = sym (ap (λ (q : ℕ). (link_at links' q).before) same ∙ ap (λ (l : Link). l.before) link_new) ∙ e in
          let low = before_low in
          let one = ap (λ (l : Link). l.step) (link_old b (omega (arith, is, low))) in
          let two = ap (λ (q : ℕ). step_of links' q) same ∙ ap (λ (l : Link). l.step) link_new in
          let less = before_falls b is in
          omega (arith, one, two, less)
      | no ne ↦
          let less : k < length links = omega (arith, lt, more_links, ne) in
          let is = ap (λ (l : Link). l.before) (link_old k less) in
          let low = p.chained.low k less in
          let one = ap (λ (l : Link). l.step) (link_old b (omega (arith, e, is, low, less))) in
          let two = ap (λ (l : Link). l.step) (link_old k less) in
          let fall = p.chained.falling k b less (sym is ∙ e) in
          omega (arith, one, two, fall)
    ];
  }

  last_new : (row_at rows' x).last ≡ length links + 1
  last_new = ap (λ (r : Row). r.last) n.here

  key_new : (row_at rows' x).key ≡ (row_at rows x).key
  key_new = ap (λ (r : Row). r.key) n.here

  thread_new : (row_at rows' x).thread ≡ thread_at run j
  thread_new = ap (λ (r : Row). r.thread) n.here

  -- a step that was of the row is
  still_of : (k : ℕ) → k < length links → IsOfRow run (j + 1) (row_at rows x) (step_of links k) → IsOfRow run (j + 1) (row_at rows' x) (step_of links' k)
  still_of k lt s =
      let is : step_of links' k ≡ step_of links k = ap (λ (l : Link). l.step) (link_old k lt) in
      record {
        within = let less = s.within in omega (arith, is, less);
        thread = λ own.
            let alone : is_shared (row_at rows x).key ≡ false = ap is_shared (sym key_new) ∙ own in
            ap (thread_at run) is ∙ s.thread alone ∙ thread alone ∙ sym thread_new;
        noted = ap (λ (q : ℕ). has_row (step_at run q) (row_at rows' x).key) is ∙ ap (has_row (step_at run (step_of links k))) key_new ∙ s.noted;
      }

  new_of : (k : ℕ) → k ≡ length links → IsOfRow run (j + 1) (row_at rows' x) (step_of links' k)
  new_of k e =
      let is : step_of links' k ≡ j = ap (step_of links') e ∙ ap (λ (l : Link). l.step) link_new in
      record {
        within = omega (arith, is);
        thread = λ _. ap (thread_at run) is ∙ sym thread_new;
        noted = ap (λ (q : ℕ). has_row (step_at run q) (row_at rows' x).key) is ∙ ap (has_row (step_at run j)) key_new ∙ noted;
      }

  -- what is behind the new link in the row
  behind_new : (k m : ℕ) → (row_at rows' x).last ≡ m + 1 → IsIn links' k (link_at links' m).before → IsIn links k n.before
  behind_new k m e r =
      let same : m ≡ length links = omega (arith, e, last_new) in
      let is : (link_at links' m).before ≡ n.before = ap (λ (q : ℕ). (link_at links' q).before) same ∙ ap (λ (l : Link). l.before) link_new in
      down k n.before (subst (λ (q : ℕ). IsIn links' k q) is r) before_low

  here_row : IsRow run (j + 1) links' (row_at rows' x)
  here_row = record {
    last = omega (arith, last_new, more_links);
    steps = λ k r. elim (in_cases r) [
      | inl e ↦ new_of k (omega (arith, e, last_new))
      | inr t ↦
          let was = was_inside k (behind_new k t.0 t.1 t.2) in
          let low = in_low links p.chained was old_row.last in
          let most = old_row.last in
          still_of k (omega (arith, low, most)) (old_row.steps k was)
    ];
    newest = λ k e.
        let same : k ≡ length links = omega (arith, e, last_new) in
        let is : step_of links' k ≡ j = ap (step_of links') same ∙ ap (λ (l : Link). l.step) link_new in
        ap (thread_at run) is ∙ sym thread_new;
  }

  other_row : (y : ℕ) → y ≢ x → y < length rows → IsRow run (j + 1) links' (row_at rows' y)
  other_row y apart lt =
      let old = p.each y lt in
      let most = old.last in
      subst (λ (r : Row). IsRow run (j + 1) links' r) (sym (n.others y apart)) (record {
        last = omega (arith, most, more_links);
        steps = λ k r.
            let was = down k (row_at rows y).last r most in
            let low = in_low links p.chained was most in
            let is : step_of links' k ≡ step_of links k = ap (λ (l : Link). l.step) (link_old k (omega (arith, low, most))) in
            subst (λ (q : ℕ). IsOfRow run (j + 1) (row_at rows y) q) (sym is) (old.steps k was);
        newest = λ k e.
            let is : step_of links' k ≡ step_of links k = ap (λ (l : Link). l.step) (link_old k (omega (arith, e, most))) in
            ap (thread_at run) is ∙ old.newest k e;
      })

  -- what was kept in the row is kept in it
  kept_here : (i : ℕ) → IsKept links (row_at rows x).last i → IsKept links' (row_at rows' x).last i
  kept_here i k = elim n.below.all_or_less [
    | inl all ↦ behind_kept (subst (λ (q : ℕ). IsIn links k.link q) (sym all.0) k.inside)
    | inr t ↦ elim (in_cases k.inside) [
      | inl e ↦ instead (let one = t.1 in let same : k.link ≡ t.0 = omega (arith, e, one) in sym k.is ∙ ap (step_of links) same ∙ t.3)
      | inr s ↦
          let same : s.0 ≡ t.0 = (let one = t.1 in let two = s.1 in omega (arith, one, two)) in
          behind_kept (subst (λ (q : ℕ). IsIn links k.link q) (ap (λ (q : ℕ). (link_at links q).before) same ∙ sym t.2) s.2)
    ]
  ]
    where
      behind_kept : IsIn links k.link n.before → IsKept links' (row_at rows' x).last i
      behind_kept r =
          let low = in_low links p.chained r before_low in
          let least = before_low in
          let old : step_of links' k.link ≡ step_of links k.link = ap (λ (l : Link). l.step) (link_old k.link (omega (arith, low, least))) in
          record {
            link = k.link;
            inside = in_behind links' k.link (length links) (row_at rows' x).last last_new (subst (λ (q : ℕ). IsIn links' k.link q) (sym (ap (λ (l : Link). l.before) link_new)) (up k.link n.before r before_low));
            is = old ∙ k.is;
          }

      instead : i ≡ j → IsKept links' (row_at rows' x).last i
      instead same = record {
        link = length links;
        inside = in_here links' (length links) (row_at rows' x).last last_new;
        is = ap (λ (l : Link). l.step) link_new ∙ sym same;
      }

  kept_other : (y i : ℕ) → y ≢ x → y < length rows → IsKept links (row_at rows y).last i → IsKept links' (row_at rows' y).last i
  kept_other y i apart lt k =
      let most = (p.each y lt).last in
      let low = in_low links p.chained k.inside most in
      let old : step_of links' k.link ≡ step_of links k.link = ap (λ (l : Link). l.step) (link_old k.link (omega (arith, low, most))) in
      record {
        link = k.link;
        inside = subst (λ (r : Row). IsIn links' k.link r.last) (sym (n.others y apart)) (up k.link (row_at rows y).last k.inside most);
        is = old ∙ k.is;
      }

  -- in each row what was kept still is
  pub kept_still : (y i : ℕ) → y < length rows → IsKept links (row_at rows y).last i → IsKept links' (row_at rows' y).last i
  kept_still y i lt k = elim (ℕ_discrete y x) [
    | yes e ↦ subst (λ (q : ℕ). IsKept links' (row_at rows' q).last i) (sym e) (kept_here i (subst (λ (q : ℕ). IsKept links (row_at rows q).last i) e k))
    | no ne ↦ kept_other y i ne lt k
  ]

  -- and so is the step that is noted
  pub kept_own : IsKept links' (row_at rows' x).last j
  kept_own = record {
    link = length links;
    inside = in_here links' (length links) (row_at rows' x).last last_new;
    is = ap (λ (l : Link). l.step) link_new;
  }

  pub keys_still : HaveKeysOf rows rows'
  keys_still = record {
    many = n.many;
    key = λ y. elim (ℕ_discrete y x) [
      | yes e ↦ subst (λ (q : ℕ). (row_at rows' q).key ≡ (row_at rows q).key) (sym e) key_new
      | no ne ↦ ap (λ (r : Row). r.key) (n.others y ne)
    ];
    thread = λ y. elim (ℕ_discrete y x) [
      | yes e ↦ subst (λ (q : ℕ). is_shared (row_at rows q).key ≡ false → (row_at rows' q).thread ≡ (row_at rows q).thread) (sym e) (λ own. thread_new ∙ sym (thread own))
      | no ne ↦ λ _. ap (λ (r : Row). r.thread) (n.others y ne)
    ];
  }

  pub partly_more : ArePartly run j rows' links'
  partly_more = record {
    chained = chained';
    each = λ y lt. elim (ℕ_discrete y x) [
      | yes e ↦ subst (λ (q : ℕ). IsRow run (j + 1) links' (row_at rows' q)) (sym e) here_row
      | no ne ↦ other_row y ne (let many = n.many in omega (arith, lt, many))
    ];
    held = λ i key lt is.
        let h = p.held i key lt is in
        record {
          row = h.row;
          within = let many = n.many in let low = h.within in omega (arith, many, low);
          of_key = keys_still.key h.row ∙ h.of_key;
          kept = kept_still h.row i h.within h.kept;
        };
  }

-- rows that have the keys of those that have the keys of the first have them too
pub keys_trans : (one two three : List Row) → HaveKeysOf one two → HaveKeysOf two three → HaveKeysOf one three
keys_trans one two three a b = record {
  many = b.many ∙ a.many;
  key = λ x. b.key x ∙ a.key x;
  thread = λ x own. b.thread x (ap is_shared (a.key x) ∙ own) ∙ a.thread x own;
}

pub keys_same : (rows : List Row) → HaveKeysOf rows rows
keys_same rows = record { many = refl; key = λ x. refl; thread = λ x _. refl }

-- the step is noted in all its rows
pub partly_ends : (run : List Footprint) (j : ℕ) (first rows : List Row) (links : List Link) (places : List ℕ) → ArePartly run j rows links → ArePlaces (step_at run j) first places → HaveKeysOf first rows → ((y : ℕ) → y < length places → IsKept links (row_at rows (slice_index places y)).last j) → AreRows run (j + 1) rows links
partly_ends run j first rows links places p at keys kept =
    record {
      chained = p.chained;
      each = p.each;
      held = λ i key lt noted. elim (ℕ_discrete i j) [
        | no ne ↦ p.held i key (omega (arith, lt, ne)) noted
        | yes e ↦ subst (λ (q : ℕ). IsHeld run rows links q key) (sym e) (own key (ap (λ (q : ℕ). has_row (step_at run q) key) (sym e) ∙ noted))
      ];
    }
  where
    own : (key : Key) → has_row (step_at run j) key ≡ true → IsHeld run rows links j key
    own key noted =
        let t = at.all key noted in
        let place = at.each t.0 t.1 in
        record {
          row = slice_index places t.0;
          within = let low = place.0 in let many = keys.many in omega (arith, low, many);
          of_key = keys.key (slice_index places t.0) ∙ t.2;
          kept = kept t.0 t.1;
        }

-- ---- rows without a step behind the others

pub grown_row : (old new : List Row) → IsGrown old new → (x : ℕ) → x < length old → row_at new x ≡ row_at old x
grown_row old new g x lt = sym (get_or-take (length old) new x no_row lt) ∙ ap (λ (l : List Row). row_at l x) g.same

pub rows_grown : (run : List Footprint) (n : ℕ) (old new : List Row) (links : List Link) → AreRows run n old links → IsGrown old new → AreRows run n new links
rows_grown run n old new links a g =
    record {
      chained = a.chained;
      each = λ x lt. elim (dec_lt x (length old)) [
        | yes low ↦ subst (λ (r : Row). IsRow run n links r) (sym (grown_row old new g x low)) (a.each x low)
        | no high ↦
            let none = g.empty x (omega (arith, high)) lt in
            record {
              last = omega (arith, none);
              steps = λ k r. absurd (in_none links k (row_at new x).last none r);
              newest = λ k e. absurd (omega (arith, none, e));
            }
      ];
      held = λ i key lt noted.
          let h = a.held i key lt noted in
          let same = grown_row old new g h.row h.within in
          record {
            row = h.row;
            within = let low = h.within in let longer = g.longer in omega (arith, low, longer);
            of_key = ap (λ (r : Row). r.key) same ∙ h.of_key;
            kept = subst (λ (r : Row). IsKept links r.last i) (sym same) h.kept;
          };
    }

-- a row stays where it is
pub row_for_grown : (old new : List Row) (x : ℕ) (key : Key) (thread : ℕ) → IsGrown old new → IsRowFor old x key thread → IsRowFor new x key thread
row_for_grown old new x key thread g r =
    let same = grown_row old new g x r.within in
    record {
      within = let low = r.within in let longer = g.longer in omega (arith, low, longer);
      of_key = ap (λ (w : Row). w.key) same ∙ r.of_key;
      of_thread = λ own. ap (λ (w : Row). w.thread) same ∙ r.of_thread own;
    }

-- one place more
pub places_more : (rows rows' : List Row) (places places' : List ℕ) (keys : List Key) (thread i place : ℕ) → length places ≡ i → IsGrown rows rows' → ((z : ℕ) (d : Key) → z < i → IsRowFor rows (slice_index places z) (get_or keys z d) thread) → ((d : Key) → IsRowFor rows' place (get_or keys i d) thread) → places' ≡ places ++ place ∷ [] → (z : ℕ) (d : Key) → z < i + 1 → IsRowFor rows' (slice_index places' z) (get_or keys z d) thread
places_more rows rows' places places' keys thread i place many g old here e z d lt =
    elim (ℕ_discrete z i) [
      | yes is ↦
          let one : slice_index places' z ≡ place = ap (λ (l : List ℕ). slice_index l z) e ∙ get_or_push places place 0 z (many ∙ sym is) in
          subst (λ (q : ℕ). IsRowFor rows' q (get_or keys z d) thread) (sym one) (subst (λ (q : ℕ). IsRowFor rows' place (get_or keys q d) thread) (sym is) (here d))
      | no ne ↦
          let low : z < i = omega (arith, lt, ne) in
          let one : slice_index places' z ≡ slice_index places z = ap (λ (l : List ℕ). slice_index l z) e ∙ get_or_append_left places (place ∷ []) 0 z (omega (arith, low, many)) in
          subst (λ (q : ℕ). IsRowFor rows' q (get_or keys z d) thread) (sym one) (row_for_grown rows rows' (slice_index places z) (get_or keys z d) thread g (old z d low))
    ]

abbrev row_of : Key → ℕ → ℕ → Row
row_of key thread last = record { key = key; thread = thread; last = last }

same_row : (a b : Row) (thread l m : ℕ) → a ≡ b → l ≡ m → row_of a.key thread l ≡ row_of b.key thread m
same_row a b thread l m e f = λ i. row_of (e i).key thread (f i)

-- what is written when a step is noted
pub noted_from : (rows rows' : List Row) (links links' : List Link) (x j thread before last : ℕ) (row : Row) → x < length rows → row ≡ row_at rows x → IsBelow links row.last j before → links' ≡ links ++ (record { step = j; before = before }) ∷ [] → rows' ≡ set rows x (record { key = row.key; thread = thread; last = last }) → last ≡ length links + 1 → IsNoted rows links x j thread rows' links'
noted_from rows rows' links links' x j thread before last row inside is below linked written at =
    record {
      before = before;
      below = subst (λ (r : Row). IsBelow links r.last j before) is below;
      linked = linked;
      many = ap length written ∙ length-set rows x (record { key = row.key; thread = thread; last = last });
      here =
          ap (λ (l : List Row). row_at l x) written
          ∙ get_or-set_same rows x (record { key = row.key; thread = thread; last = last }) no_row inside
          ∙ same_row row (row_at rows x) thread last (length links + 1) is at;
      others = λ y apart. ap (λ (l : List Row). row_at l y) written ∙ get_or-set_other rows x y (record { key = row.key; thread = thread; last = last }) no_row apart;
    }

-- more links behind more links
pub longer_more : (first links links' : List Link) (link : Link) → AreLonger first links → links' ≡ links ++ link ∷ [] → AreLonger first links'
longer_more first links links' link t e = (t.0 ++ link ∷ [], e ∙ ap (λ (l : List Link). l ++ link ∷ []) t.1 ∙ append_assoc first t.0 (link ∷ []))

pub longer_none : (links : List Link) → AreLonger links links
longer_none links = ([], sym (append-nil links))

-- one place more is noted
pub noted_more : (run : List Footprint) (j y : ℕ) (first rows rows' : List Row) (links links' : List Link) (places : List ℕ) → ArePartly run j rows links → ArePlaces (step_at run j) first places → HaveKeysOf first rows → y < length places → IsNoted rows links (slice_index places y) j (thread_at run j) rows' links' → ((z : ℕ) → z < y → IsKept links (row_at rows (slice_index places z)).last j) → ArePartly run j rows' links' × HaveKeysOf first rows' × ((z : ℕ) → z < y + 1 → IsKept links' (row_at rows' (slice_index places z)).last j)
noted_more run j y first rows rows' links links' places p at keys lt n kept =
    let x = slice_index places y in
    let place = at.each y lt in
    let inside : x < length rows = (let low = place.0 in let many = keys.many in omega (arith, low, many)) in
    let thread : is_shared (row_at rows x).key ≡ false → (row_at rows x).thread ≡ thread_at run j = λ own.
    (let alone : is_shared (row_at first x).key ≡ false = ap is_shared (sym (keys.key x)) ∙ own in keys.thread x alone ∙ place.1 alone) in
    let noted : has_row (step_at run j) (row_at rows x).key ≡ true = ap (has_row (step_at run j)) (keys.key x) ∙ place.2 in (
      partly_more run j x rows rows' links links' p inside thread noted n,
      keys_trans first rows rows' keys (keys_still run j x rows rows' links links' p inside thread noted n),
      λ z low. elim (ℕ_discrete z y) [
        | yes is ↦ subst (λ (q : ℕ). IsKept links' (row_at rows' (slice_index places q)).last j) (sym is) (kept_own run j x rows rows' links links' p inside thread noted n)
        | no ne ↦
            let less : z < y = omega (arith, low, ne) in
            let there = at.each z (omega (arith, less, lt)) in
            let many = keys.many in
            let low = there.0 in
            kept_still run j x rows rows' links links' p inside thread noted n (slice_index places z) j (omega (arith, low, many)) (kept z less)
      ],
    )

-- the rows of no step
pub rows_none : AreRows [] 0 [] []
rows_none = record {
  chained = record { low = λ k lt. absurd (omega (arith, lt)); falling = λ k b lt. absurd (omega (arith, lt)) };
  each = λ x lt. absurd (omega (arith, lt));
  held = λ i key lt. absurd (omega (arith, lt));
}
