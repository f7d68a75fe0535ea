use Rattle.mr_intr.proofs.Common.{◌≡◌, ℕ, List, ◌++◌, [], ◌∷◌, drop, ap, sym, subst, ◌∙◌, append-nil, append_assoc, HaveShapes, Ty, Val, text_in, texts_in, spaced, spaced_behind, begun, operated}
use Rattle.std.proofs.lemmas.List.{nil_from_length}
use Rattle.mr_ast.specs.declared.program.Intrinsic.TheVariants as intrinsic
use Rattle.mr_intr.proofs.OperatedLaws.{done_as}
use Rattle.mr_intr.proofs.TextLaws.{behind_first, no_texts, printed_done, print_kinds, texts_first}
use Rattle.mr_intr.proofs.texts.print.Goals as goal

pub returns-in_default-clause-done : goal.returns-in_default-clause-done
returns-in_default-clause-done c =
    λ place picks s x.
    let types = c.args.types.now in
    let old = c.args.output.now.items in
    let none : c.args.args.now ≡ [] = nil_from_length c.args.args.now c.in_default.ensures.cases in
    let shapes : HaveShapes types [] = subst (HaveShapes types) none c.requires.1.shapes in
    let is : old ≡ old ++ spaced (texts_in types []) = sym (ap (λ (xs : List ℕ). old ++ xs) (no_texts types) ∙ append-nil old) in
    let done = printed_done types [] place picks s x old old (print_kinds types c.args.args.now c.requires.0 c.requires.1) shapes is in
    done_as intrinsic.Print s x old old _ _ (ap (λ (l : List Val). operated intrinsic.Print l types place picks (begun s x)) none) c.quiet.result _ c.quiet.ensures done

pub returns-clause-done : goal.returns-clause-done
returns-clause-done c =
    λ place picks s x.
    let types = c.args.types.now in
    let first = c.in-Some.first.now in
    let rest = c.in-Some.rest.now in
    let old = c.args.output.now.items in
    let new = c.push_others.new.text.items in
    let args : c.args.args.now ≡ first ∷ rest = c.in-Some.ensures.cases.0 in
    let shapes : HaveShapes types (first ∷ rest) = subst (HaveShapes types) args c.requires.1.shapes in
    let text = text_in c.index-types-0.result first in
    let others : new ≡ c.push_value.new.text.items ++ spaced_behind (texts_in (drop 1 types) rest) =
    c.in_ok-push_others.ensures ∙ ap (λ (ts : List Ty). c.push_value.new.text.items ++ spaced_behind (texts_in ts rest)) (behind_first types) in
    let is : new ≡ old ++ spaced (texts_in types (first ∷ rest)) =
    others
    ∙ ap (λ (xs : List ℕ). xs ++ spaced_behind (texts_in (drop 1 types) rest)) c.in_ok-push_value.ensures
    ∙ append_assoc old text (spaced_behind (texts_in (drop 1 types) rest))
    ∙ ap (λ (xs : List ℕ). old ++ xs) (sym (texts_first types c.index-types-0.result first rest shapes c.index-types-0.is)) in
    let done = printed_done types (first ∷ rest) place picks s x old new (print_kinds types c.args.args.now c.requires.0 c.requires.1) shapes is in
    done_as intrinsic.Print s x old new _ _ (ap (λ (l : List Val). operated intrinsic.Print l types place picks (begun s x)) args) c.quiet-2.result _ c.quiet-2.ensures done
