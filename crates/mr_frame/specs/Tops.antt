-- Where frames stand.
use Rattle.std.specs.Prelude.{List, [], ◌∷◌, Option, None, Some}
use Rattle.mr_frame.specs.declared.stack.At.{At}
use Rattle.mr_frame.specs.Frames.{Frame}

-- where a frame stands
abbrev pub at_of : Frame → At
at_of f = record { function = f.function; block = f.block; at = f.at }

-- where the top frame stands, if there is one
abbrev pub top_at : List Frame → Option At
top_at [] = None
top_at (f ∷ fs) = Some (at_of f)
