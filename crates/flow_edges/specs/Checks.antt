-- The checks of a program, and where they stand on its edges.
use Rattle.std.specs.Prelude.{◌≡◌, false, List, [], ◌∷◌, ◌++◌, map}
use Rattle.lang_tree.specs.declared.check.Check.{Check}
use Rattle.lang_tree.specs.Tree.{Condition, Statement, Statements, set, havoc, assume, only_where, check, branch, loop, jump, label}
use Rattle.lang_tree.specs.Tree.{nil, cons, Deed, sets, havocs, wheres, checks, LoopKind, while_loop, for_loop, do_loop}
use Rattle.lang_tree.specs.Cases.{cases_of}
use Rattle.flow_edges.specs.declared.checked.CheckCases.{CheckCases}
use Rattle.flow_edges.specs.declared.edge.Action.{Action}
use Rattle.flow_edges.specs.declared.edge.Action.TheVariants as action

-- a check with the condition that may not be false where it stands
pub record Checked : Type 0 where
  pub about : Check
  pub cond : Condition

-- the checks of deeds
abbrev pub deed_checks : List Deed → List Checked
deed_checks [] = []
deed_checks (sets var form line ∷ ds) = deed_checks ds
deed_checks (havocs var line ∷ ds) = deed_checks ds
deed_checks (wheres c line ∷ ds) = deed_checks ds
deed_checks (checks about c line ∷ ds) = record { about = about; cond = c } ∷ deed_checks ds

-- those of a loop, given those of its body: a prelude stands before the body but for a `do`, a change between both
abbrev pub loop_checks : LoopKind → List Checked → List Checked
loop_checks (while_loop p) inside = deed_checks p ++ inside
loop_checks (for_loop p g) inside = deed_checks p ++ (deed_checks g ++ inside)
loop_checks (do_loop p) inside = inside ++ deed_checks p

abbrev mutual
  -- the checks of a statement and of those in it, in order of the text; a check's number counts those before it
  pub checks_of : Statement → List Checked
  checks_of (set var form line) = []
  checks_of (havoc var line) = []
  checks_of (assume c line) = []
  checks_of (only_where c line) = []
  checks_of (check about c line) = record { about = about; cond = c } ∷ []
  checks_of (branch c first second line) = checks_in first ++ checks_in second
  checks_of (loop kind c body line) = loop_checks kind (checks_in body)
  checks_of (jump kind line) = []
  checks_of (label name line) = []

  -- the same for a list of statements
  pub checks_in : Statements → List Checked
  checks_in nil = []
  checks_in (cons s rest) = checks_of s ++ checks_in rest

-- a check with the cases in which its condition may be false
abbrev pub with_cases : Checked → CheckCases
with_cases c = record { check = c.about; against = cases_of false c.cond }

-- the checks of a program in order of the text, each with the cases against it
abbrev pub checks_of_program : Statements → List CheckCases
checks_of_program body = map with_cases (checks_in body)

-- these actions come before a check among actions
pub record StandsBehind (actions : List Action) (about : Check) (before : List Action) : Type 0 where
  pub later : List Action
  pub parted : actions ≡ before ++ action.Check about ∷ later
