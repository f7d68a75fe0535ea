-- Ends of one kind.
use Rattle.mr_hunt.proofs.Common.{◌≡◌, ℕ, Bool, true, false, refl, sym, ap, ap₂, ◌∙◌, ◌&&◌, ◌==◌, Option, None, Some, End, same_end, verdict_number}
use Rattle.std.proofs.lemmas.Bool.{eq-eqb, eqb-true}
use Rattle.mr_labels.specs.declared.step.Stand.{Stand}
use Rattle.mr_listing.specs.Races.{same_stand}
use Rattle.mr_hunt.specs.declared.ends.End.TheVariants as shown

both : (a b : Bool) → (a && b) ≡ true → (a ≡ true) × (b ≡ true)
both true b e = (refl, e)
both false b e = absurd (cc)

together : (a b : Bool) → a ≡ true → b ≡ true → (a && b) ≡ true
together a b d e = ap₂ (λ (x y : Bool). x && y) d e

-- ---- places

stand_itself : (a : Option Stand) → same_stand a a ≡ true
stand_itself None = refl
stand_itself (Some a) =
    together (a.function == a.function) ((a.block == a.block) && (a.at == a.at)) (eq-eqb a.function a.function refl)
    (together (a.block == a.block) (a.at == a.at) (eq-eqb a.block a.block refl) (eq-eqb a.at a.at refl))

-- what is at the place of one is at the place of the other
stand_agrees : (a b : Option Stand) → same_stand a b ≡ true → (x : Option Stand) → same_stand b x ≡ same_stand a x
stand_agrees None None e x = refl
stand_agrees None (Some b) e x = absurd (cc)
stand_agrees (Some a) None e x = absurd (cc)
stand_agrees (Some a) (Some b) e None = refl
stand_agrees (Some a) (Some b) e (Some c) =
    let function = both (a.function == b.function) ((a.block == b.block) && (a.at == b.at)) e in
    let block = both (a.block == b.block) (a.at == b.at) function.1 in
    ap₂ (λ (x y : Bool). x && y) (ap (λ n. n == c.function) (sym (eqb-true a.function b.function function.0)))
    (ap₂ (λ (x y : Bool). x && y) (ap (λ n. n == c.block) (sym (eqb-true a.block b.block block.0)))
    (ap (λ n. n == c.at) (sym (eqb-true a.at b.at block.1))))

-- ---- ends

pub end_itself : (a : End) → same_end a a ≡ true
end_itself (shown.Verdict v) = eq-eqb (verdict_number v) (verdict_number v) refl
end_itself (shown.Race a b) = together (same_stand a a) (same_stand b b) (stand_itself a) (stand_itself b)

-- what is of the kind of one is of the kind of the other
pub end_agrees : (a b : End) → same_end a b ≡ true → (x : End) → same_end b x ≡ same_end a x
end_agrees (shown.Verdict v) (shown.Verdict w) e (shown.Verdict x) =
    ap (λ n. n == verdict_number x) (sym (eqb-true (verdict_number v) (verdict_number w) e))
end_agrees (shown.Verdict v) (shown.Verdict w) e (shown.Race a b) = refl
end_agrees (shown.Verdict v) (shown.Race a b) e x = absurd (cc)
end_agrees (shown.Race a b) (shown.Verdict v) e x = absurd (cc)
end_agrees (shown.Race a b) (shown.Race c d) e (shown.Verdict x) = refl
end_agrees (shown.Race a b) (shown.Race c d) e (shown.Race x y) =
    let each = both (same_stand a c) (same_stand b d) e in
    ap₂ (λ (p q : Bool). p && q) (stand_agrees a c each.0 x) (stand_agrees b d each.1 y)
