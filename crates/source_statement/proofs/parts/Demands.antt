-- Deeds before statements of the core: how many they are, and as one statement of C.
use Rattle.std.proofs.Common.{◌≡◌, ◌∙◌, ◌+◌, ◌++◌, ◌∷◌, [], ℕ, List, length, refl, sym, ap, arith}
use Rattle.lang_tree.specs.Tree as tree
use Rattle.lang_tree.specs.Tree.{nodes_in, node_count, statement_by}
use Rattle.lang_tree.specs.View.{statements_of}
use Rattle.lang_tree.specs.declared.stmt.Stmt.{Stmt}
use Rattle.source_tree.specs.Statements.{Statement}
use Rattle.source_core.specs.Core as core
use Rattle.source_core.specs.Core.{behind, core_of}
use Rattle.source_meaning.specs.Statements.{one}
use Rattle.source_change.specs.Pushed.{WasPushed}
use Rattle.source_change.proofs.lists.Deeds.{statements_append, followed_assoc, followed_nil, behind_followed}
use Rattle.base_integers.specs.declared.integers.Integers.{Integers}

-- a deed is one statement
one_node : (d : tree.Deed) → node_count (statement_by d) ≡ 1
one_node (tree.sets var f line) = refl
one_node (tree.havocs var line) = refl
one_node (tree.wheres c line) = refl
one_node (tree.checks about c line) = refl

-- how many statements deeds and others are
pub nodes_behind : (ds : List tree.Deed) (rest : tree.Statements) → nodes_in (behind ds rest) ≡ length ds + nodes_in rest
nodes_behind [] rest = omega arith
nodes_behind (d ∷ ds) rest = let a = one_node d in let b = nodes_behind ds rest in omega (arith, a, b)

-- deeds and then statements
pub behind_pushed : (integers : Integers) (n : ℕ) (a m b : List Stmt) (ds : List tree.Deed) (xs : List Stmt) (s : Statement)
    → statements_of m ≡ core.followed_by (statements_of a) (behind ds tree.nil) → b ≡ m ++ xs
    → behind ds (statements_of xs) ≡ core_of integers n s → WasPushed integers n a b (one s)
behind_pushed integers n a m b ds xs s p e h = ap statements_of e ∙ statements_append m xs
    ∙ ap (λ t. core.followed_by t (statements_of xs)) p
    ∙ followed_assoc (statements_of a) (behind ds tree.nil) (statements_of xs)
    ∙ ap (core.followed_by (statements_of a)) (sym (behind_followed ds (statements_of xs)) ∙ h ∙ sym (followed_nil (core_of integers n s)))
