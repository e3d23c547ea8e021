-- Conditions and statements as plain trees: what a program's text reads as.
use Rattle.std.specs.Prelude.{ℕ, ◌+◌, List, [], ◌∷◌, length}
use Rattle.lang_tree.specs.declared.form.Form.{Form}
use Rattle.lang_tree.specs.declared.cond.Rel.{Rel}
use Rattle.lang_tree.specs.declared.change.Change.{Change}
use Rattle.lang_tree.specs.declared.change.Change.TheVariants as change
use Rattle.lang_tree.specs.declared.check.Check.{Check}

-- a choice that is left open, a comparison of a form with 0, or made of conditions
pub data Condition : Type 0 where
  free : Condition
  compare : Rel → Form → Condition
  negation : Condition → Condition
  both : Condition → Condition → Condition
  either : Condition → Condition → Condition

-- what is done in one place and goes on to the next: a variable takes a form's value, or any; a condition under which alone it goes on; a
-- check
pub data Deed : Type 0 where
  sets : (var : ℕ) (form : Form) (line : ℕ) → Deed
  havocs : (var line : ℕ) → Deed
  wheres : (cond : Condition) (line : ℕ) → Deed
  checks : Check → (cond : Condition) (line : ℕ) → Deed

-- where a loop tests its condition: before its body; before it, with changes after each turn; after its body. The prelude is done each time
-- before the condition is tested
pub data LoopKind : Type 0 where
  while_loop : (prelude : List Deed) → LoopKind
  for_loop : (prelude change : List Deed) → LoopKind
  do_loop : (prelude : List Deed) → LoopKind

-- where a jump goes on: past the innermost loop that holds it, at the end of that loop's body, or at the program's exit
pub data Jump : Type 0 where
  breaks : Jump
  continues : Jump
  returns : Jump

mutual
  -- a statement with its line
  pub data Statement : Type 0 where
    set : (var : ℕ) (form : Form) (line : ℕ) → Statement
    havoc : (var line : ℕ) → Statement
    assume : (cond : Condition) (line : ℕ) → Statement
    only_where : (cond : Condition) (line : ℕ) → Statement
    check : Check → (cond : Condition) (line : ℕ) → Statement
    branch : (cond : Condition) (first second : Statements) (line : ℕ) → Statement
    loop : (kind : LoopKind) (cond : Condition) (body : Statements) (line : ℕ) → Statement
    jump : Jump → (line : ℕ) → Statement
    label : (name : List ℕ) (line : ℕ) → Statement

  -- a list of statements
  pub data Statements : Type 0 where
    nil : Statements
    cons : Statement → Statements → Statements

-- the number of leaves of a condition
abbrev pub leaf_count : Condition → ℕ
leaf_count free = 1
leaf_count (compare rel form) = 1
leaf_count (negation c) = leaf_count c
leaf_count (both c d) = leaf_count c + leaf_count d
leaf_count (either c d) = leaf_count c + leaf_count d

-- a change is a statement, too
abbrev pub change_count : Change → ℕ
change_count change.Unchanged = 0
change_count (change.Set var form line) = 1
change_count (change.Havoc var line) = 1

-- a change as deeds
abbrev pub change_deeds : Change → List Deed
change_deeds change.Unchanged = []
change_deeds (change.Set var form line) = sets var form line ∷ []
change_deeds (change.Havoc var line) = havocs var line ∷ []

-- the statements of a loop besides itself and its body
abbrev pub kind_count : LoopKind → ℕ
kind_count (while_loop prelude) = length prelude
kind_count (for_loop prelude change) = length prelude + length change
kind_count (do_loop prelude) = length prelude

abbrev mutual
  -- the number of statements in a statement, itself included
  pub node_count : Statement → ℕ
  node_count (set var form line) = 1
  node_count (havoc var line) = 1
  node_count (assume cond line) = 1
  node_count (only_where cond line) = 1
  node_count (check about cond line) = 1
  node_count (branch cond first second line) = 1 + nodes_in first + nodes_in second
  node_count (loop kind cond body line) = 1 + kind_count kind + nodes_in body
  node_count (jump kind line) = 1
  node_count (label name line) = 1

  -- the number of statements in a list, those inside others included
  pub nodes_in : Statements → ℕ
  nodes_in nil = 0
  nodes_in (cons s rest) = node_count s + nodes_in rest

-- a deed is a statement, too
abbrev pub statement_by : Deed → Statement
statement_by (sets var form line) = set var form line
statement_by (havocs var line) = havoc var line
statement_by (wheres cond line) = only_where cond line
statement_by (checks about cond line) = check about cond line
