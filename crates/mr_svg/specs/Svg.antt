-- Marks as SVG text.
use Rattle.std.specs.Prelude.{ℕ, List, [], ◌++◌, codes, decimal, flat_map}
use Rattle.mr_svg.specs.declared.shape.Corner.{Corner}
use Rattle.mr_svg.specs.declared.shape.Point.{Point}
use Rattle.mr_svg.specs.declared.shape.Shape.{Shape}
use Rattle.mr_svg.specs.declared.shape.Shape.TheVariants.{Band, Line, Bend, Dot, Diamond, Square, Words, WordsTo}
use Rattle.mr_svg.specs.declared.shape.Sign.{Sign}
use Rattle.mr_svg.specs.declared.shape.Sign.TheVariants as sign
use Rattle.mr_svg.specs.Escape.{escaped}
use Rattle.mr_svg.specs.Style.{style_text}

-- a mark: what it stands for, its shape, the words of that where it has some, and the title that is shown with it
pub record Mark : Type 0 where
  pub sign : Sign
  pub shape : Shape
  pub words : List ℕ
  pub title : List ℕ

-- what the style of a document calls a sign
abbrev pub sign_word : Sign → List ℕ
sign_word sign.Row = codes "row"
sign_word sign.Lane = codes "lane"
sign_word sign.Step = codes "step"
sign_word sign.Racing = codes "racing"
sign_word sign.Stop = codes "stop"
sign_word sign.Wake = codes "wake"
sign_word sign.Dependence = codes "dependence"
sign_word sign.MachineOrder = codes "machine-order"
sign_word sign.Race = codes "race"
sign_word sign.FirstRace = codes "first-race"
sign_word sign.LeftOut = codes "left-out"
sign_word sign.Title = codes "title"
sign_word sign.Name = codes "name"
sign_word sign.Text = codes "text"
sign_word sign.Note = codes "note"

-- ---- shapes

abbrev pub point_text : Point → List ℕ
point_text at = decimal at.x ++ codes " " ++ decimal at.y

abbrev pub band_text : Point → ℕ → ℕ → List ℕ
band_text at wide high =
    codes "<path d=\"M" ++ point_text at ++ codes "h" ++ decimal wide ++ codes "v" ++ decimal high ++ codes "h-"
    ++ decimal wide ++ codes "z\"/>"

abbrev pub line_text : Point → Point → List ℕ
line_text from to = codes "<path d=\"M" ++ point_text from ++ codes "L" ++ point_text to ++ codes "\"/>"

-- a corner: straight to where it begins, and round it to where it ends
abbrev pub corner_text : Corner → List ℕ
corner_text c =
    codes "L" ++ point_text c.before ++ codes "Q" ++ point_text c.at ++ codes " " ++ point_text c.behind

-- a way that goes straight to a corner, round that, and straight on by one more point
abbrev pub bend_text : Point → Corner → Point → Point → List ℕ
bend_text from corner come to =
    codes "<path d=\"M" ++ point_text from ++ corner_text corner ++ codes "L" ++ point_text come ++ codes "L"
    ++ point_text to ++ codes "\"/>"

-- an outline round a point, which is told by how far each of its corners lies from the one before
abbrev pub outline_text : Point → List ℕ → List ℕ
outline_text at outline = codes "<path d=\"M" ++ point_text at ++ outline ++ codes "\"/>"

-- words at a point, from which an attribute may turn them
abbrev pub words_text : List ℕ → Point → List ℕ → List ℕ
words_text anchor at words =
    codes "<text" ++ anchor ++ codes " x=\"" ++ decimal at.x ++ codes "\" y=\"" ++ decimal at.y ++ codes "\">"
    ++ escaped words ++ codes "</text>"

-- a shape; words stand where it has some
abbrev pub shape_text : Shape → List ℕ → List ℕ
shape_text (Band at wide high) words = band_text at wide high
shape_text (Line from to) words = line_text from to
shape_text (Bend from corner come to) words = bend_text from corner come to
shape_text (Dot at) words = outline_text at (codes "m-6 0a6 6 0 1 0 12 0a6 6 0 1 0-12 0z")
shape_text (Diamond at) words = outline_text at (codes "m-8 0l8-8l8 8l-8 8z")
shape_text (Square at) words = outline_text at (codes "m-6-6h12v12h-12z")
shape_text (Words at) words = words_text [] at words
shape_text (WordsTo at) words = words_text (codes " text-anchor=\"end\"") at words

-- A MARK: each has its title
abbrev pub mark_text : Mark → List ℕ
mark_text m =
    codes "<g class=\"" ++ sign_word m.sign ++ codes "\"><title>" ++ escaped m.title ++ codes "</title>"
    ++ shape_text m.shape m.words ++ codes "</g>\n"

-- ---- the document

-- how wide and how high it is
abbrev pub size_text : ℕ → ℕ → List ℕ
size_text wide high =
    codes " width=\"" ++ decimal wide ++ codes "\" height=\"" ++ decimal high ++ codes "\" viewBox=\"0 0 "
    ++ decimal wide ++ codes " " ++ decimal high ++ codes "\""

-- its opening, with its title
abbrev pub opening_text : ℕ → ℕ → List ℕ → List ℕ
opening_text wide high title =
    codes "<svg xmlns=\"http://www.w3.org/2000/svg\"" ++ size_text wide high
    ++ codes " xml:space=\"preserve\" role=\"img\">\n<title>"
    ++ escaped title ++ codes "</title>\n"

-- what stands before the marks
abbrev pub head_text : ℕ → ℕ → List ℕ → List ℕ
head_text wide high title =
    opening_text wide high title ++ style_text ++ codes "<rect class=\"paper\" width=\"100%\" height=\"100%\"/>\n"

-- what stands behind them
abbrev pub foot_text : List ℕ
foot_text = codes "</svg>\n"

-- THE DOCUMENT of these marks, which is so wide and so high
abbrev pub document : ℕ → ℕ → List ℕ → List Mark → List ℕ
document wide high title marks = head_text wide high title ++ flat_map mark_text marks ++ foot_text
