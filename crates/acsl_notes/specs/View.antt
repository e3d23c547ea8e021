-- What the code's anchors, conditions and bounds stand for.
use Rattle.std.specs.Prelude.{ℕ, ℤ, List, [], ◌∷◌, Option, Some, None, drop, get_or, if◌then◌else◌, map}
use Rattle.std.specs.List.{list_all}
use Rattle.base_numbers.specs.Extended.{Ext as Extended, neg_inf, fin, pos_inf}
use Rattle.base_fractions.specs.Extended.{extended}
use Rattle.base_fractions.specs.declared.ext.Ext.{Ext}
use Rattle.flow_systems.specs.View.{vector_at}
use Rattle.flow_systems.specs.declared.system.System.{System}
use Rattle.acsl_anchors.specs.Anchors.{Anchor, What, a_loop, a_label, the_end}
use Rattle.acsl_anchors.specs.declared.anchor.Anchor as code_anchor
use Rattle.acsl_anchors.specs.declared.anchor.What as code_what
use Rattle.acsl_notes.specs.Clauses.{Bounded, Clause, never, at_most, equals, clauses_from}
use Rattle.acsl_comments.specs.declared.comment.Comment.{Comment}
use Rattle.acsl_notes.specs.Texts.{comment_text, comments_from, indentation, is_space}
use Rattle.acsl_notes.specs.declared.clause.Said.{Said}
use Rattle.acsl_notes.specs.declared.clause.Said.TheVariants.{Never, AtMost, Equals}

-- what stands at an anchor of the code, a label having no name
abbrev pub what_of : code_what.What → What
what_of code_what.TheVariants.Loop = a_loop
what_of code_what.TheVariants.Label = a_label []
what_of code_what.TheVariants.End = the_end

-- an anchor of the code
abbrev pub anchor_of : code_anchor.Anchor → Anchor
anchor_of a = record { what = what_of a.what; first = a.first; place = a.place; known = a.known }

-- the condition that the code gives by the number of its row
abbrev pub clause_of : (rows : List (List ℤ)) → Said → Clause
clause_of rows Never = never
clause_of rows (AtMost row bound) = at_most bound.den (get_or rows row []) bound.num
clause_of rows (Equals row bound) = equals bound.den (get_or rows row []) bound.num

-- the conditions that the code gives
abbrev pub clauses_of_said : (rows : List (List ℤ)) → List Said → List Clause
clauses_of_said rows said = map (clause_of rows) said

-- rows with the bounds of a point, one for each
abbrev pub bounded : List (List ℤ) → List Ext → List Bounded
bounded [] bounds = []
bounded (row ∷ rows) [] = []
bounded (row ∷ rows) (bound ∷ bounds) = (row, extended bound) ∷ bounded rows bounds

-- the bound of a row
abbrev pub bound_at : List Ext → ℕ → Extended
bound_at bounds row = get_or (map extended bounds) row neg_inf

-- what rows say where this is the first bound
abbrev pub clauses_in : (known : List ℕ) → List Bounded → Extended → List Clause
clauses_in known rows neg_inf = never ∷ []
clauses_in known rows (fin q) = clauses_from known [] rows
clauses_in known rows pos_inf = clauses_from known [] rows

-- a line that is an indentation
abbrev pub indentation_of : List ℕ → Option (List ℕ)
indentation_of line = if list_all is_space line then Some line else None

-- the comment that says these conditions at an anchor
abbrev pub comment_of : (text : List ℕ) (names : List (List ℕ)) → Anchor → List Clause → Comment
comment_of text names anchor said = record {
  place = anchor.place;
  bytes =
      comment_text names anchor.what (indentation text anchor.place) said;
}

-- the comments at these anchors, which belong to the points from one on
abbrev pub comments_left : (text : List ℕ) → System → List Extended → (point : ℕ) → List code_anchor.Anchor → List Comment
comments_left text system bounds point anchors =
    comments_from text system.flow.names system.template (vector_at system bounds) point (drop point system.flow.points)
    (map anchor_of anchors)
