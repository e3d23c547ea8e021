-- The annotations of a program's text in ACSL (Baudin, Cuoq, Filliâtre, Marché, Monate, Moy and Prevosto), and the text with them.
use Rattle.std.specs.Prelude.{◌==◌, ◌||◌, ◌++◌, ℕ, suc, ℤ, Bool, List, [], ◌∷◌, Option, Some, None, codes, decimal, flat_map, if◌then◌else◌}
use Rattle.std.specs.Prelude.{map, take}
use Rattle.std.specs.Fmt.{signed_decimal}
use Rattle.std.specs.List.{list_all}
use Rattle.flow_systems.specs.Equations.{Vector}
use Rattle.flow_systems.specs.Report.{row_text}
use Rattle.flow_edges.specs.declared.point.Point.{Point}
use Rattle.acsl_comments.specs.Texts.{with_comments}
use Rattle.acsl_comments.specs.declared.comment.Comment.{Comment}
use Rattle.acsl_anchors.specs.Anchors.{Anchor, What, a_loop, a_label, the_end}
use Rattle.acsl_anchors.specs.Laws.{is_anchored}
use Rattle.acsl_notes.specs.Clauses.{Clause, never, at_most, equals, clauses}

-- ---- conditions

-- a row, with a factor unless that is 1
abbrev pub side_text : List (List ℕ) → (factor : ℕ) → List ℤ → List ℕ
side_text names factor row = if factor == 1 then row_text names row else decimal factor ++ codes " * (" ++ row_text names row ++ codes ")"

-- a condition; a backslash is 92
abbrev pub clause_text : List (List ℕ) → Clause → List ℕ
clause_text names never = 92 ∷ codes "false"
clause_text names (at_most factor row bound) = side_text names factor row ++ codes " <= " ++ signed_decimal bound
clause_text names (equals factor row bound) = side_text names factor row ++ codes " == " ++ signed_decimal bound

abbrev pub invariant_text : List (List ℕ) → Clause → List ℕ
invariant_text names clause = codes "loop invariant " ++ clause_text names clause ++ codes ";"

abbrev pub assertion_text : List (List ℕ) → Clause → List ℕ
assertion_text names clause = codes "/*@ assert " ++ clause_text names clause ++ codes "; */"

-- ---- lines

-- space and tab
abbrev pub is_space : ℕ → Bool
is_space b = (b == 32) || (b == 9)

-- the line that a text ends with, where this is its line so far
abbrev pub last_line : (so_far text : List ℕ) → List ℕ
last_line so_far [] = so_far
last_line so_far (b ∷ bs) = if b == 10 then last_line [] bs else last_line (so_far ++ b ∷ []) bs

-- the blanks before a place where nothing else stands before it on its line
abbrev pub indentation : (text : List ℕ) (place : ℕ) → Option (List ℕ)
indentation text place = if list_all is_space (last_line [] (take place text)) then Some (last_line [] (take place text)) else None

-- ---- comments

-- texts with this between them
abbrev pub joined_on : (between : List ℕ) → List (List ℕ) → List ℕ
joined_on between [] = []
joined_on between (text ∷ texts) = between ++ text ++ joined_on between texts

abbrev pub joined : (between : List ℕ) → List (List ℕ) → List ℕ
joined between [] = []
joined between (text ∷ texts) = text ++ joined_on between texts

-- the invariants of a loop in one comment: in a line of its own each in one, indented as the loop is, and else all in the loop's line
abbrev pub loop_comment : List (List ℕ) → Option (List ℕ) → List Clause → List ℕ
loop_comment names (Some blanks) said =
    codes "/*@ " ++ joined (10 ∷ blanks ++ codes "    ") (map (invariant_text names) said) ++ codes " */" ++ 10 ∷ blanks
loop_comment names None said = codes "/*@ " ++ joined (codes " ") (map (invariant_text names) said) ++ codes " */ "

-- the assertions behind a label, in its line
abbrev pub label_comment : List (List ℕ) → List Clause → List ℕ
label_comment names said = flat_map (λ clause. 32 ∷ assertion_text names clause) said

-- the assertions at the end of the function: each in a line of its own, indented as the end is, and else all in its line
abbrev pub end_comment : List (List ℕ) → Option (List ℕ) → List Clause → List ℕ
end_comment names (Some blanks) said = flat_map (λ clause. assertion_text names clause ++ 10 ∷ blanks) said
end_comment names None said = flat_map (λ clause. assertion_text names clause ++ 32 ∷ []) said

-- what is put in at an anchor
abbrev pub comment_text : List (List ℕ) → What → Option (List ℕ) → List Clause → List ℕ
comment_text names a_loop blanks said = loop_comment names blanks said
comment_text names (a_label name) blanks said = label_comment names said
comment_text names the_end blanks said = end_comment names blanks said

-- where nothing is said there is no comment
abbrev pub comment_unless_silent : (text : List ℕ) (names : List (List ℕ)) → Anchor → List Clause → List Comment
comment_unless_silent text names anchor [] = []
comment_unless_silent text names anchor (clause ∷ more) =
    record { place = anchor.place; bytes = comment_text names anchor.what (indentation text anchor.place) (clause ∷ more) } ∷ []

-- what the bounds of the point p say at an anchor
abbrev pub comment_at : (text : List ℕ) (names : List (List ℕ)) (template : List (List ℤ)) → Vector → (p : ℕ) → Anchor → List Comment
comment_at text names template v p anchor = comment_unless_silent text names anchor (clauses anchor.known template (v p))

-- the comments of a program's text: the anchors belong, in order, to the points that have one, the first point having the number p
abbrev pub comments_from : (text : List ℕ) (names : List (List ℕ)) (template : List (List ℤ)) → Vector → (p : ℕ) → List Point → List Anchor
    → List Comment
comments_from text names template v p [] anchors = []
comments_from text names template v p (point ∷ points) [] = []
comments_from text names template v p (point ∷ points) (anchor ∷ anchors) =
    if is_anchored point.place
    then comment_at text names template v p anchor ++ comments_from text names template v (suc p) points anchors
    else comments_from text names template v (suc p) points (anchor ∷ anchors)

-- the text with them
abbrev pub annotated : (text : List ℕ) (names : List (List ℕ)) → List Point → (template : List (List ℤ)) → Vector → List Anchor → List ℕ
annotated text names points template v anchors = with_comments 0 text (comments_from text names template v 0 points anchors)
