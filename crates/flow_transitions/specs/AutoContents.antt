-- What texts of transition systems hold: their contents, their points, and the right sides of their assignments.
use Rattle.std.specs.Prelude.{ℕ, List, [], ◌∷◌, map, Option, Some, None, Result, Ok, Err}
use Rattle.lang_tree.specs.declared.form.Form.{Form}
use Rattle.lang_meaning.specs.declared.fault.ParseFault.{ParseFault}
use Rattle.lang_meaning.specs.declared.fault.ParseFault.TheVariants as parse
use Rattle.lang_meaning.specs.Expressions.{Meaning, a_number, a_condition, a_choice}
use Rattle.flow_edges.specs.declared.point.Place.TheVariants as point
use Rattle.flow_edges.specs.declared.point.Point.{Point}
use Rattle.flow_transitions.specs.declared.auto_edge.AutoEdge.{AutoEdge}
use Rattle.flow_transitions.specs.declared.fault.AutoFault.{AutoFault}
use Rattle.flow_transitions.specs.declared.reading.point_name.PointName.{PointName}

-- a transition system without its limits: its variables, its points and its edges
pub record Content : Type 0 where
  pub names : List (List ℕ)
  pub points : List Point
  pub edges : List AutoEdge

-- a transition system, or why a text is none
abbrev pub AutoAnswer : Type 0
AutoAnswer = Result Content AutoFault

-- the points: the first is the entry, each other one a label
abbrev pub label_of : PointName → Point
label_of p = record { place = point.Label p.name; line = p.line }

abbrev pub points_of : List PointName → List Point
points_of [] = []
points_of (p ∷ ps) = record { place = point.Entry; line = 0 } ∷ map label_of ps

-- the right side that an expression is for the `=` at this place: a form, or any value
abbrev pub as_side : ℕ → Meaning → Result (Option Form) ParseFault
as_side sign (a_number f) = Ok (Some f)
as_side sign (a_condition c) = Err (parse.NotAffine sign)
as_side sign a_choice = Ok None
