-- The legend tells what is drawn.
use Rattle.mr_picture.proofs.Common.{◌≡◌, ℕ, ◌≤◌, ◌==◌, ◌↔◌, inl, inr, Bool, true, if◌then◌else◌, List, [], ◌∷◌, ◌++◌, length, flat_map, filter, refl, sym, ap, subst, ◌∙◌, arith, eq-eqb, eqb-true, filter-append, Contains, Contains-append_cases, Contains-append_right, Mark, Scene, as_written, drawn_marks}
use Rattle.std.proofs.lemmas.List.Elements.{Contains-append_left}
use Rattle.std.proofs.lemmas.List.Folds.{Any-from_list_any, list_any_at}
use Rattle.std.proofs.lemmas.List.Sums.{count_by-le-length, length-filter}
use Rattle.mr_svg.specs.declared.shape.Sign.{Sign}
use Rattle.mr_svg.specs.declared.shape.Sign.TheVariants as sign
use Rattle.mr_svg.specs.Svg.{mark_text}
use Rattle.mr_picture.specs.declared.written.Written.{Written}
use Rattle.mr_picture.specs.Legend.{IsDrawn, has_sign, is_sign, legend_order, legend_signs, number_of}
use Rattle.mr_picture.specs.Written.{text_of}
use Rattle.mr_picture.proofs.Members.{first_of, from_flat, into_flat, none, only}
use Rattle.mr_picture.proofs.Within.{from_filter}
use Rattle.mr_picture.proofs.WitnessLaws.{one}

-- the texts of marks as they are written
pub texts_written : (marks : List Mark) → flat_map text_of (flat_map as_written marks) ≡ flat_map mark_text marks
texts_written [] = refl
texts_written (m ∷ marks) = ap (λ xs. mark_text m ++ xs) (texts_written marks)

few_kept : {X : Type 0} (p : X → Bool) (xs : List X) → length (filter p xs) ≤ length xs
few_kept p xs = omega (arith, length-filter p xs, count_by-le-length p xs)

-- there are nine rows at most
pub legend_few : (s : Scene) → length (legend_signs s) ≤ 9
unfolding legend_signs
legend_few s = few_kept (has_sign (flat_map as_written (drawn_marks s))) legend_order

-- what passes stays in what a filter keeps
into_filter : {X : Type 0} (p : X → Bool) (xs : List X) (x : X) → Contains xs x → p x ≡ true → Contains (filter p xs) x
into_filter p [] x h e = absurd (none x h)
into_filter p (y ∷ ys) x h e =
    subst (λ zs. Contains zs x) (sym (filter-append p (y ∷ []) ys))
    (elim (Contains-append_cases (y ∷ []) ys x h) [
      | inl here ↦
          let same = only y x here in
          Contains-append_left (filter p (y ∷ [])) (filter p ys) x
          (subst (λ zs. Contains zs x) (sym (one p y (ap p same ∙ e)))
          (subst (λ z. Contains (z ∷ []) x) (sym same) (first_of x [])))
      | inr later ↦ Contains-append_right (filter p (y ∷ [])) (filter p ys) x (into_filter p ys x later e)
    ])

-- ---- one number, one sign

abbrev sign_at : ℕ → Sign
sign_at n =
    if n == 0 then sign.Row else (if n == 1 then sign.Lane else (if n == 2 then sign.Step
    else (if n == 3 then sign.Racing else (if n == 4 then sign.Stop else (if n == 5 then sign.Wake
    else (if n == 6 then sign.Dependence else (if n == 7 then sign.MachineOrder else (if n == 8 then sign.Race
    else (if n == 9 then sign.FirstRace else (if n == 10 then sign.LeftOut else (if n == 11 then sign.Title
    else (if n == 12 then sign.Name else (if n == 13 then sign.Text else sign.Note)))))))))))))

there : (of : Sign) → sign_at (number_of of) ≡ of
there sign.Row = refl
there sign.Lane = refl
there sign.Step = refl
there sign.Racing = refl
there sign.Stop = refl
there sign.Wake = refl
there sign.Dependence = refl
there sign.MachineOrder = refl
there sign.Race = refl
there sign.FirstRace = refl
there sign.LeftOut = refl
there sign.Title = refl
there sign.Name = refl
there sign.Text = refl
there sign.Note = refl

same_sign : (a b : Sign) → number_of a ≡ number_of b → a ≡ b
same_sign a b e = sym (there a) ∙ ap sign_at e ∙ there b

-- ---- the law

-- a written mark that has a sign is a mark that has it
is_drawn : (s : Scene) (of : Sign) → has_sign (flat_map as_written (drawn_marks s)) of ≡ true → IsDrawn s of
is_drawn s of e =
    let (k, w, inside, at, same) = Any-from_list_any (is_sign of) (flat_map as_written (drawn_marks s)) e in
    let (m, drawn, here) = from_flat as_written (drawn_marks s) w (k, inside, at) in
    let own : Written = record { sign = m.sign; text = mark_text m } in
    let is = only own w here in
    (m, drawn, ap (λ (x : Written). x.sign) is ∙ same_sign w.sign of (eqb-true (number_of w.sign) (number_of of) same))

has_drawn : (s : Scene) (of : Sign) → IsDrawn s of → has_sign (flat_map as_written (drawn_marks s)) of ≡ true
has_drawn s of (m, drawn, is) =
    let own : Written = record { sign = m.sign; text = mark_text m } in
    let (k, inside, at) = into_flat as_written (drawn_marks s) m own drawn (first_of own []) in
    list_any_at (is_sign of) (flat_map as_written (drawn_marks s)) k own inside
    (ap (is_sign of) at ∙ eq-eqb (number_of m.sign) (number_of of) (ap number_of is))

-- THE LAW: a sign has a row exactly where the legend tells it and a mark has it
pub told_exactly : (s : Scene) (of : Sign) → Contains (legend_signs s) of ↔ (Contains legend_order of × IsDrawn s of)
unfolding legend_signs
told_exactly s of =
    let has = has_sign (flat_map as_written (drawn_marks s)) in (
      λ h. let both = from_filter has legend_order of h in (both.0, is_drawn s of both.1),
      λ both. into_filter has legend_order of both.0 (has_drawn s of both.1),
    )
