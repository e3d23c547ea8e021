-- An item of a source program's work as deeds of the core, and what stands behind them.
use Rattle.std.proofs.Common.{◌≡◌, ℕ, List, [], ◌∷◌, ◌++◌}
use Rattle.std.proofs.Common.{refl, sym, ap, ◌∙◌}
use Rattle.std.specs.Prelude.{pos}
use Rattle.lang_tree.specs.declared.check.CheckKind.TheVariants.{Assert, Error}
use Rattle.lang_tree.specs.declared.cond.Rel.TheVariants.{Ne}
use Rattle.lang_tree.specs.Tree.{Deed, statement_by}
use Rattle.lang_tree.specs.Tree as tree
use Rattle.lang_tree.specs.Runs as core
use Rattle.source_tree.specs.Statements.{declares, changes, assumes, asserts, never, branch, loop, jump, label}
use Rattle.source_core.specs.Forms.{constant_form}
use Rattle.source_core.specs.Core.{behind, one, change_deeds, condition_of, kind_of, core_in}
use Rattle.source_core.specs.SourceRuns.{Item, node, change, mark, turn, end}
use Rattle.source_core.proofs.runs.Work.{deed_items, deeds_work-is, item_core}
use Rattle.source_core.proofs.runs.Steps.{core-behind}
use Rattle.base_integers.specs.declared.integers.Integers.TheVariants.{Mathematical}

-- the deeds of an item, up to its end or to what it tests
abbrev pub parts : ℕ → Item → List Deed
parts n (mark p) = []
parts n (change g) = change_deeds Mathematical n g
parts n (node (declares var line) m) = tree.havocs var line ∷ []
parts n (node (changes g) m) = change_deeds Mathematical n g
parts n (node (assumes e line) m) = (condition_of Mathematical n line e).prelude
parts n (node (asserts e at line) m) = (condition_of Mathematical n line e).prelude
    ++ (tree.checks record { kind = Assert; at = at } (condition_of Mathematical n line e).condition line
    ∷ tree.wheres (condition_of Mathematical n line e).condition line ∷ [])
parts n (node (never at line) m) = tree.checks record { kind = Error; at = at } (tree.compare Ne (constant_form (pos 0))) line ∷ []
parts n (node (branch e first second line) m) = (condition_of Mathematical n line e).prelude
parts n (node (loop kind e body line) m) = []
parts n (node (jump kind line) m) = []
parts n (node (label name line) m) = []
parts n (turn kind e body line m) = (condition_of Mathematical n line e).prelude
parts n (end kind e body line m) = []

-- what it tests, or does besides
abbrev pub control : ℕ → Item → List core.Item
control n (mark p) = core.mark p ∷ []
control n (change g) = []
control n (node (declares var line) m) = []
control n (node (changes g) m) = []
control n (node (assumes e line) m) = core.node (tree.assume (condition_of Mathematical n line e).condition line) m ∷ []
control n (node (asserts e at line) m) = []
control n (node (never at line) m) = []
control n (node (branch e first second line) m) =
    core.node (tree.branch (condition_of Mathematical n line e).condition (core_in Mathematical n first)
    (core_in Mathematical n second) line) m ∷ []
control n (node (loop kind e body line) m) =
    core.node (tree.loop (kind_of Mathematical n kind (condition_of Mathematical n line e).prelude)
    (condition_of Mathematical n line e).condition (core_in Mathematical n body) line) m ∷ []
control n (node (jump kind line) m) = core.node (tree.jump kind line) m ∷ []
control n (node (label name line) m) = core.node (tree.label name line) m ∷ []
control n (turn kind e body line m) =
    core.turn (kind_of Mathematical n kind (condition_of Mathematical n line e).prelude) (condition_of Mathematical n line e).condition
    (core_in Mathematical n body) line m ∷ []
control n (end kind e body line m) =
    core.end (kind_of Mathematical n kind (condition_of Mathematical n line e).prelude) (condition_of Mathematical n line e).condition
    (core_in Mathematical n body) line m ∷ []

-- the number of its nodes
abbrev pub number_of : Item → ℕ
number_of (mark p) = 0
number_of (change g) = 0
number_of (node s m) = m
number_of (turn kind e body line m) = 0
number_of (end kind e body line m) = 0

behind-then : (ds es : List Deed) (rest : tree.Statements) → behind (ds ++ es) rest ≡ behind ds (behind es rest)
behind-then [] es rest = refl
behind-then (d ∷ ds) es rest = ap (λ r. tree.cons (statement_by d) r) (behind-then ds es rest)

-- the work of the core for an item is its deeds, and then what it tests or does besides
pub item_core-is : (n : ℕ) (i : Item) (rest : List core.Item)
    → item_core Mathematical n i rest ≡ deed_items (number_of i) (parts n i) (control n i ++ rest)
item_core-is n (mark p) rest = refl
item_core-is n (change g) rest = deeds_work-is (change_deeds Mathematical n g) rest
item_core-is n (node (declares var line) m) rest = refl
item_core-is n (node (changes g) m) rest = core-behind (change_deeds Mathematical n g) tree.nil m rest
item_core-is n (node (assumes e line) m) rest =
    core-behind (condition_of Mathematical n line e).prelude (one (tree.assume (condition_of Mathematical n line e).condition line)) m rest
item_core-is n (node (asserts e at line) m) rest =
    let con = condition_of Mathematical n line e in
    let last = tree.checks record { kind = Assert; at = at } con.condition line ∷ tree.wheres con.condition line ∷ [] in
    ap (λ s. core.nodes s m ++ rest) (sym (behind-then con.prelude last tree.nil)) ∙ core-behind (con.prelude ++ last) tree.nil m rest
item_core-is n (node (never at line) m) rest = refl
item_core-is n (node (branch e first second line) m) rest = core-behind (condition_of Mathematical n line e).prelude
    (one (tree.branch (condition_of Mathematical n line e).condition (core_in Mathematical n first)
    (core_in Mathematical n second) line)) m rest
item_core-is n (node (loop kind e body line) m) rest = refl
item_core-is n (node (jump kind line) m) rest = refl
item_core-is n (node (label name line) m) rest = refl
item_core-is n (turn kind e body line m) rest = deeds_work-is (condition_of Mathematical n line e).prelude _
item_core-is n (end kind e body line m) rest = refl
