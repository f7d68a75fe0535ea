-- The picture of a run.
use Rattle.std.specs.Prelude.{ℕ, List, ◌++◌, Option}
use Rattle.mr_picture.specs.declared.span.Span.{Span}
use Rattle.mr_listing.specs.Seen.{Seen}
use Rattle.mr_listing.specs.declared.held.StepValues.{StepValues}
use Rattle.mr_svg.specs.Svg.{Mark, document}
use Rattle.mr_picture.specs.Drawn.{asked_scene}
use Rattle.mr_picture.specs.Ends.{title_text}
use Rattle.mr_picture.specs.Grid.{width}
use Rattle.mr_picture.specs.Legend.{height, legend_marks}
use Rattle.mr_picture.specs.Marks.{drawn_marks}
use Rattle.mr_picture.specs.Scene.{Scene}

-- THE MARKS OF A SCENE: those of the run, and the legend
abbrev pub marks : Scene → List Mark
marks s = drawn_marks s ++ legend_marks s

-- the document of a scene
abbrev pub scene_text : Scene → List ℕ
scene_text s = document (width s) (height s) (title_text s) (marks s)

-- THE PICTURE OF A RUN with these values, of the steps that are asked for or, without any, of those about the first race
abbrev pub picture_text : Seen → List StepValues → Option Span → List ℕ
picture_text s values asked = scene_text (asked_scene s values asked)
