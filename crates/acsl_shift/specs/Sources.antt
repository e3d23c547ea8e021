-- Statements of C without their lines and without the places of their tokens.
use Rattle.std.specs.Prelude.{map}
use Rattle.source_tree.specs.Expressions.{Expression, Expressions, number, variable, unknown, call, element, grouped, negative, positive}
use Rattle.source_tree.specs.Expressions.{stepped, inverse, joined, compared, both, either, chosen, none, more}
use Rattle.source_tree.specs.Expressions.{Subscripts, no_subscript, subscript}
use Rattle.source_tree.specs.Statements.{Change, sets, evaluates, LoopKind, while_loop, for_loop, do_loop}
use Rattle.source_tree.specs.Statements.{Statement, Statements, declares, changes, assumes, asserts, never, branch, loop, jump, label, nil}
use Rattle.source_tree.specs.Statements.{cons}

abbrev mutual
  -- an expression whose places are all 0
  pub expression_without : Expression → Expression
  expression_without (number v at) = number v 0
  expression_without (variable i at) = variable i 0
  expression_without (unknown at) = unknown 0
  expression_without (call es at) = call (expressions_without es) 0
  expression_without (element is at) = element (subscripts_without is) 0
  expression_without (stepped direction moment i sign at) = stepped direction moment i 0 0
  expression_without (grouped at e) = grouped 0 (expression_without e)
  expression_without (negative at e) = negative 0 (expression_without e)
  expression_without (positive at e) = positive 0 (expression_without e)
  expression_without (inverse at e) = inverse 0 (expression_without e)
  expression_without (joined o sign e f) = joined o 0 (expression_without e) (expression_without f)
  expression_without (compared rel sign e f) = compared rel 0 (expression_without e) (expression_without f)
  expression_without (both c d) = both (expression_without c) (expression_without d)
  expression_without (either c d) = either (expression_without c) (expression_without d)
  expression_without (chosen sign c e f) = chosen 0 (expression_without c) (expression_without e) (expression_without f)

  -- such expressions
  pub expressions_without : Expressions → Expressions
  expressions_without none = none
  expressions_without (more e es) = more (expression_without e) (expressions_without es)

  -- indexes of such expressions
  pub subscripts_without : Subscripts → Subscripts
  subscripts_without no_subscript = no_subscript
  subscripts_without (subscript extent bracket e is) = subscript extent 0 (expression_without e) (subscripts_without is)

-- a change without its line and its places
abbrev pub change_without : Change → Change
change_without (sets var e line) = sets var (expression_without e) 0
change_without (evaluates es line) = evaluates (expressions_without es) 0

-- the kind of a loop, with such changes
abbrev pub kind_without : LoopKind → LoopKind
kind_without while_loop = while_loop
kind_without (for_loop gs) = for_loop (map change_without gs)
kind_without do_loop = do_loop

abbrev mutual
  -- a statement without its lines and its places
  pub statement_without : Statement → Statement
  statement_without (declares var line) = declares var 0
  statement_without (changes g) = changes (change_without g)
  statement_without (assumes e line) = assumes (expression_without e) 0
  statement_without (asserts e at line) = asserts (expression_without e) 0 0
  statement_without (never at line) = never 0 0
  statement_without (branch e first second line) = branch (expression_without e) (without_places first) (without_places second) 0
  statement_without (loop kind e body line) = loop (kind_without kind) (expression_without e) (without_places body) 0
  statement_without (jump kind line) = jump kind 0
  statement_without (label name line) = label name 0

  -- such statements: a function but for its lines and its places
  pub without_places : Statements → Statements
  without_places nil = nil
  without_places (cons s rest) = cons (statement_without s) (without_places rest)
