-- Tokens at other places, and statements without their lines and without the places of their checks.
use Rattle.std.specs.Prelude.{ℕ, List, map}
use Rattle.source_grammar.specs.Tokens.{Token, token}
use Rattle.lang_tree.specs.declared.change.Change.{Change}
use Rattle.lang_tree.specs.declared.change.Change.TheVariants as change
use Rattle.lang_tree.specs.declared.check.Check.{Check}
use Rattle.lang_tree.specs.Tree.{Deed, sets, havocs, wheres, checks, LoopKind, while_loop, for_loop, do_loop}
use Rattle.lang_tree.specs.Tree.{Statement, Statements, set, havoc, assume, only_where, check, branch, loop, jump, label, nil, cons}

-- a token at another place
abbrev pub move : (ℕ → ℕ) → Token → Token
move to (token kind at) = token kind (to at)

-- tokens, each at another place
abbrev pub moved : (ℕ → ℕ) → List Token → List Token
moved to tokens = map (move to) tokens

-- the change of a `for` without its line
abbrev pub change_without_line : Change → Change
change_without_line change.Unchanged = change.Unchanged
change_without_line (change.Set var form line) = change.Set var form 0
change_without_line (change.Havoc var line) = change.Havoc var 0

-- what a check is for, without its place
abbrev pub check_without_place : Check → Check
check_without_place about = record about { at = 0 }

-- a deed without its line, and without the place of its check
abbrev pub deed_without_line : Deed → Deed
deed_without_line (sets var form line) = sets var form 0
deed_without_line (havocs var line) = havocs var 0
deed_without_line (wheres cond line) = wheres cond 0
deed_without_line (checks about cond line) = checks (check_without_place about) cond 0

-- the kind of a loop without the lines of its prelude and of its change
abbrev pub kind_without_line : LoopKind → LoopKind
kind_without_line (while_loop p) = while_loop (map deed_without_line p)
kind_without_line (for_loop p g) = for_loop (map deed_without_line p) (map deed_without_line g)
kind_without_line (do_loop p) = do_loop (map deed_without_line p)

abbrev mutual
  -- a statement whose lines are all 0, and the places of whose checks are
  pub without_line : Statement → Statement
  without_line (set var form line) = set var form 0
  without_line (havoc var line) = havoc var 0
  without_line (assume cond line) = assume cond 0
  without_line (only_where cond line) = only_where cond 0
  without_line (check about cond line) = check (check_without_place about) cond 0
  without_line (branch cond first second line) = branch cond (without_lines first) (without_lines second) 0
  without_line (loop kind cond body line) = loop (kind_without_line kind) cond (without_lines body) 0
  without_line (jump kind line) = jump kind 0
  without_line (label name line) = label name 0

  -- such statements: a program but for its lines and the places of its checks
  pub without_lines : Statements → Statements
  without_lines nil = nil
  without_lines (cons s rest) = cons (without_line s) (without_lines rest)
