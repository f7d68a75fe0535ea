use Rattle.mr_picture.proofs.Common.{◌≡◌, ℕ, ◌+◌, ◌++◌, ◌∙◌, List, ap, sym, arith, flat_map, length, as_written, drawn_marks, legend_marks, legend_row, rows_marks, scene_in}
use Rattle.std.proofs.Common.{ap₂}
use Rattle.std.proofs.lemmas.Grind.{flat_map-append}
use Rattle.mr_svg.specs.declared.shape.Sign.{Sign}
use Rattle.mr_svg.specs.Svg.{foot_text, head_text}
use Rattle.mr_picture.specs.declared.written.Written.{Written}
use Rattle.mr_picture.specs.Ends.{title_text}
use Rattle.mr_picture.specs.Grid.{legend_y, width}
use Rattle.mr_picture.specs.Legend.{height}
use Rattle.mr_picture.specs.Picture.{marks}
use Rattle.mr_picture.specs.Written.{text_of}
use Rattle.mr_picture.proofs.LegendLaws.{legend_few, texts_written}
use Rattle.mr_picture.proofs.drawing.laid_text.Goals as goal

pub push_legend-requires-clause-few : goal.push_legend-requires-clause-few
push_legend-requires-clause-few c = omega (arith, ap length c.requires.signs, legend_few (scene_in c.args.scene.now))

pub height-high-requires-clause-rows : goal.height-high-requires-clause-rows
height-high-requires-clause-rows c =
    omega (arith, ap length c.requires.signs, legend_few (scene_in c.args.scene.now))

pub returns : goal.returns
returns c =
    let s = scene_in c.args.scene.now in
    let high : c.height-high.result ≡ height s =
    c.height-high.ensures ∙ ap (λ n. legend_y s n + 16) (ap length c.requires.signs) in
    let head : c.push_head.new.out.items ≡ head_text (width s) (height s) (title_text s) =
    c.in_ok-push_head.ensures
    ∙ ap (λ (xs : List ℕ). xs ++ head_text c.width.result c.height-high.result c.args.title.now) c.new-out.ensures.items
    ∙ ap₂ (λ (w h : ℕ). head_text w h c.args.title.now) c.width.ensures high
    ∙ ap (head_text (width s) (height s)) c.requires.title in
    let all : c.as_slice.result.now ≡ flat_map as_written (marks s) =
    c.as_slice.ensures.value ∙ c.in_ok-push_legend.ensures
    ∙ ap₂ (λ (xs : List Written) (signs : List Sign). xs ++ flat_map as_written (rows_marks (legend_row s) 0 signs))
    c.requires.drawn c.requires.signs
    ∙ sym (flat_map-append as_written (drawn_marks s) (legend_marks s)) in
    c.in_ok-push_foot.ensures
    ∙ ap (λ (xs : List ℕ). xs ++ foot_text)
    (c.in_ok-push_texts.ensures
    ∙ ap₂ (λ (xs ys : List ℕ). xs ++ ys) head (ap (flat_map text_of) all ∙ texts_written (marks s)))
