-- What the code's anchors stand for.
use Rattle.std.specs.Prelude.{List, map}
use Rattle.acsl_anchors.specs.Anchors.{Anchor, What, a_loop, a_label, the_end}
use Rattle.acsl_anchors.specs.declared.anchor.Anchor as code_anchor
use Rattle.acsl_anchors.specs.declared.anchor.What as code_what

-- what stands at an anchor, without the name of a label
abbrev pub plain_what : What → code_what.What
plain_what a_loop = code_what.TheVariants.Loop
plain_what (a_label name) = code_what.TheVariants.Label
plain_what the_end = code_what.TheVariants.End

-- an anchor as the code has it
abbrev pub plain_anchor : Anchor → code_anchor.Anchor
plain_anchor a = record { what = plain_what a.what; first = a.first; place = a.place; known = a.known }

-- anchors as the code has them
abbrev pub plain_anchors : List Anchor → List code_anchor.Anchor
plain_anchors anchors = map plain_anchor anchors
