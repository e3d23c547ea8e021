-- A block is larger than the blocks inside it.
use Rattle.std.specs.Prelude.{◌≤◌, List, [], ◌∷◌}
use Rattle.std.proofs.Common.{arith}
use denote.Param.Weighed.{most}
use Rattle.lang_tree.specs.declared.stmt.Stmt.{Stmt}
use Rattle.lang_tree.specs.declared.stmt.Stmt.TheVariants.{Set, Havoc, Assume, Where, Check, If, While, Do, For, Break, Continue, Return}
use Rattle.lang_tree.specs.declared.stmt.Stmt.TheVariants.{Label}
use Rattle.lang_tree.specs.declared.stmt.Block.TheDeep.{deep-Stmt}
use Rattle.lang_tree.specs.Tree.{node_count, nodes_in}
use Rattle.lang_tree.specs.View.{statement_of, statements_of}

deep_one : (s : Stmt) → deep-Stmt s ≤ node_count (statement_of s)
deep_one (Set var form line) = omega arith
deep_one (Havoc var line) = omega arith
deep_one (Assume cond line) = omega arith
deep_one (Where cond line) = omega arith
deep_one (Check about cond line) = omega arith
deep_one (If cond first second line) = omega arith
deep_one (While prelude cond body line) = omega arith
deep_one (Do prelude cond body line) = omega arith
deep_one (For prelude cond change body line) = omega arith
deep_one (Break line) = omega arith
deep_one (Continue line) = omega arith
deep_one (Return line) = omega arith
deep_one (Label name line) = omega arith

-- blocks nest at most as deep as they have statements
pub deep_all : (ss : List Stmt) → most deep-Stmt ss ≤ nodes_in (statements_of ss)
deep_all [] = omega arith
deep_all (s ∷ ss) = omega (arith, deep_one s, deep_all ss)
