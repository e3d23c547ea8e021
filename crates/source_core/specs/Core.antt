-- Statements of C as those of the core: a statement's prelude stands before it, and that of a loop's condition is the loop's.
use Rattle.std.specs.Prelude.{ℕ, List, [], ◌∷◌, ◌++◌, flat_map, pos}
use Rattle.lang_tree.specs.declared.cond.Rel.TheVariants.{Ne}
use Rattle.lang_tree.specs.declared.check.CheckKind.TheVariants.{Assert, Error}
use Rattle.lang_tree.specs.Tree.{Deed, statement_by}
use Rattle.lang_tree.specs.Tree as tree
use Rattle.lang_tree.specs.PointNumbers as points
use Rattle.base_integers.specs.declared.integers.Integers.{Integers}
use Rattle.source_tree.specs.Expressions.{Expression}
use Rattle.source_tree.specs.Statements.{Change, sets, evaluates, LoopKind, while_loop, for_loop, do_loop}
use Rattle.source_tree.specs.Statements.{Statement, Statements, declares, changes, assumes, asserts, never, branch, loop, jump, label, nil}
use Rattle.source_tree.specs.Statements.{cons}
use Rattle.source_core.specs.Forms.{constant_form}
use Rattle.source_core.specs.Elaborated.{Result, a_form, a_truth, any, Elaborated, Tested, elaborated, evaluated, held, numbered}
use Rattle.source_core.specs.Elaborated.{tested}

-- one list of statements and then another
abbrev pub followed_by : tree.Statements → tree.Statements → tree.Statements
followed_by tree.nil rest = rest
followed_by (tree.cons s ss) rest = tree.cons s (followed_by ss rest)

-- deeds as statements, and others behind them
abbrev pub behind : List Deed → tree.Statements → tree.Statements
behind [] rest = rest
behind (d ∷ ds) rest = tree.cons (statement_by d) (behind ds rest)

-- one statement
abbrev pub one : tree.Statement → tree.Statements
one s = tree.cons s tree.nil

module _ (integers : Integers) where
  -- a variable takes any of the integers
  abbrev pub taken_any : (var line : ℕ) → List Deed
  taken_any var line = tree.havocs var line ∷ held integers line var

  -- a variable takes a number; any value is taken by the variable itself, without a hidden one
  abbrev pub taken : (var line : ℕ) → Elaborated → Result → List Deed
  taken var line e (a_form f) = (numbered integers line e).prelude ++ (tree.sets var (numbered integers line e).form line ∷ [])
  taken var line e (a_truth c) = (numbered integers line e).prelude ++ (tree.sets var (numbered integers line e).form line ∷ [])
  taken var line e any = e.prelude ++ taken_any var line

-- hidden variables are numbered from n anew for each of these
module _ (integers : Integers) (n : ℕ) where
  -- a change as deeds
  abbrev pub change_deeds : Change → List Deed
  change_deeds (sets var e line) = taken integers var line (elaborated integers line e n) (elaborated integers line e n).result
  change_deeds (evaluates es line) = (evaluated integers line es n).prelude

  -- changes in order as deeds
  abbrev pub changes_deeds : List Change → List Deed
  changes_deeds gs = flat_map change_deeds gs

  -- the condition of a statement of this line, behind its prelude
  abbrev pub condition_of : (line : ℕ) → Expression → Tested
  condition_of line e = tested (elaborated integers line e n)

  -- a loop with its prelude
  abbrev pub kind_of : LoopKind → List Deed → tree.LoopKind
  kind_of while_loop prelude = tree.while_loop prelude
  kind_of (for_loop gs) prelude = tree.for_loop prelude (changes_deeds gs)
  kind_of do_loop prelude = tree.do_loop prelude

  abbrev mutual
    -- a statement as statements of the core: its prelude and what it does
    pub core_of : Statement → tree.Statements
    core_of (declares var line) = behind (taken_any integers var line) tree.nil
    core_of (changes g) = behind (change_deeds g) tree.nil
    core_of (assumes e line) =
        behind (condition_of line e).prelude (one (tree.assume (condition_of line e).condition line))
    core_of (asserts e at line) =
        behind (condition_of line e).prelude (tree.cons (tree.check record { kind = Assert; at = at } (condition_of line e).condition line)
        (one (tree.only_where (condition_of line e).condition line)))
    core_of (never at line) = one (tree.check record { kind = Error; at = at } (tree.compare Ne (constant_form (pos 0))) line)
    core_of (branch e first second line) =
        behind (condition_of line e).prelude (one (tree.branch (condition_of line e).condition (core_in first) (core_in second) line))
    core_of (loop kind e body line) =
        one (tree.loop (kind_of kind (condition_of line e).prelude) (condition_of line e).condition (core_in body) line)
    core_of (jump kind line) = one (tree.jump kind line)
    core_of (label name line) = one (tree.label name line)

    -- statements in order as statements of the core
    pub core_in : Statements → tree.Statements
    core_in nil = tree.nil
    core_in (cons s ss) = followed_by (core_of s) (core_in ss)

  -- how many points a statement makes, which is how many its core makes
  abbrev pub points_of : Statement → ℕ
  points_of s = points.points_in (core_of s)

  -- the points of statements in order
  abbrev pub points_in : Statements → ℕ
  points_in ss = points.points_in (core_in ss)
