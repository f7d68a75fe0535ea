-- One more link behind others.
use Rattle.mr_clocks.proofs.Common.{◌≡◌, ℕ, ◌+◌, ◌<◌, ◌≤◌, List, [], ◌∷◌, ◌++◌, length, refl, sym, ◌∙◌, ap, subst, arith, get_or_append_left, get_or_push, length_push, ℕ_discrete, Link, AreLinks, IsIn, IsKept, link_at, no_link, step_of}
use Rattle.mr_clocks.proofs.Chains.{in_behind, in_here, in_low, in_more}

-- a link that keeps a later step than those behind it
module _ (links links' : List Link) (j before : ℕ) (a : AreLinks links) (low : before ≤ length links) (falls : (b : ℕ) → before ≡ b + 1 → step_of links b < j) (linked : links' ≡ links ++ (record { step = j; before = before }) ∷ []) where
  pub link_new : link_at links' (length links) ≡ (record { step = j; before = before })
  link_new = ap (λ (l : List Link). link_at l (length links)) linked ∙ get_or_push links (record { step = j; before = before }) no_link (length links) refl

  pub link_old : (k : ℕ) → k < length links → link_at links' k ≡ link_at links k
  link_old k lt = ap (λ (l : List Link). link_at l k) linked ∙ get_or_append_left links ((record { step = j; before = before }) ∷ []) no_link k lt

  pub more_links : length links' ≡ length links + 1
  more_links = ap length linked ∙ length_push links (record { step = j; before = before })

  pub in_longer : (k at : ℕ) → IsIn links k at → at ≤ length links → IsIn links' k at
  in_longer k at r le = subst (λ (l : List Link). IsIn l k at) (sym linked) (in_more links ((record { step = j; before = before }) ∷ []) a r le)

  pub chained_more : AreLinks links'
  chained_more = record {
    low = λ k lt. elim (ℕ_discrete k (length links)) [
      | yes e ↦ let is = ap (λ (q : ℕ). (link_at links' q).before) e ∙ ap (λ (l : Link). l.before) link_new in omega (arith, is, low, e)
      | no ne ↦ let less : k < length links = omega (arith, lt, more_links, ne) in let is = ap (λ (l : Link). l.before) (link_old k less) in let low = a.low k less in omega (arith, is, low)
    ];
    falling = λ k b lt e. elim (ℕ_discrete k (length links)) [
      | yes same ↦
          let is : before ≡ b + 1 = sym (ap (λ (q : ℕ). (link_at links' q).before) same ∙ ap (λ (l : Link). l.before) link_new) ∙ e in
          let one = ap (λ (l : Link). l.step) (link_old b (omega (arith, is, low))) in
          let two = ap (λ (q : ℕ). step_of links' q) same ∙ ap (λ (l : Link). l.step) link_new in
          let less = falls b is in
          omega (arith, one, two, less)
      | no ne ↦
          let less : k < length links = omega (arith, lt, more_links, ne) in
          let is = ap (λ (l : Link). l.before) (link_old k less) in
          let low = a.low k less in
          let one = ap (λ (l : Link). l.step) (link_old b (omega (arith, e, is, low, less))) in
          let two = ap (λ (l : Link). l.step) (link_old k less) in
          let fall = a.falling k b less (sym is ∙ e) in
          omega (arith, one, two, fall)
    ];
  }

  -- what was kept from a number on still is
  pub kept_longer : (at i : ℕ) → at ≤ length links → IsKept links at i → IsKept links' at i
  kept_longer at i le k =
      let under = in_low links a k.inside le in
      record {
        link = k.link;
        inside = in_longer k.link at k.inside le;
        is = ap (λ (l : Link). l.step) (link_old k.link (omega (arith, under, le))) ∙ k.is;
      }

  -- what was kept behind the new link is kept from it on
  pub kept_behind : (at i : ℕ) → at ≡ length links + 1 → IsKept links before i → IsKept links' at i
  kept_behind at i e k =
      let under = in_low links a k.inside low in
      record {
        link = k.link;
        inside = in_behind links' k.link (length links) at e (subst (λ (q : ℕ). IsIn links' k.link q) (sym (ap (λ (l : Link). l.before) link_new)) (in_longer k.link before k.inside low));
        is = ap (λ (l : Link). l.step) (link_old k.link (omega (arith, under, low))) ∙ k.is;
      }

  -- and so is its own step
  pub kept_last : (at : ℕ) → at ≡ length links + 1 → IsKept links' at j
  kept_last at e = record {
    link = length links;
    inside = in_here links' (length links) at e;
    is = ap (λ (l : Link). l.step) link_new;
  }
