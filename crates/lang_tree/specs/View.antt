-- The plain trees that the types of the code stand for.
use Rattle.std.specs.Prelude.{List, [], ◌∷◌}
use Rattle.lang_tree.specs.declared.stmt.Stmt.{Stmt}
use Rattle.lang_tree.specs.declared.stmt.Stmt.TheVariants.{Set, Havoc, Assume, Where, Check, If, While, Do, For, Break, Continue, Return}
use Rattle.lang_tree.specs.declared.stmt.Stmt.TheVariants.{Label}
use Rattle.lang_tree.specs.Tree.{Statement, Statements, set, havoc, assume, only_where, check, branch, loop, jump, label, nil, cons}
use Rattle.lang_tree.specs.Tree.{while_loop, for_loop, do_loop, breaks, continues, returns}
pub use Rattle.lang_tree.specs.DeedView.{condition_step, condition_of, deed_of, deeds_of}

-- the tree of a statement, whose blocks and deeds are trees already
abbrev pub statement_of : Stmt → Statement
statement_of (Set var form line) = set var form line
statement_of (Havoc var line) = havoc var line
statement_of (Assume cond line) = assume (condition_of cond) line
statement_of (Where cond line) = only_where (condition_of cond) line
statement_of (Check about cond line) = check about (condition_of cond) line
statement_of (If cond first second line) = branch (condition_of cond) first second line
statement_of (While prelude cond body line) = loop (while_loop prelude) (condition_of cond) body line
statement_of (Do prelude cond body line) = loop (do_loop prelude) (condition_of cond) body line
statement_of (For prelude cond change body line) = loop (for_loop prelude change) (condition_of cond) body line
statement_of (Break line) = jump breaks line
statement_of (Continue line) = jump continues line
statement_of (Return line) = jump returns line
statement_of (Label name line) = label name line

-- the trees of a list of statements
abbrev pub statements_of : List Stmt → Statements
statements_of [] = nil
statements_of (s ∷ ss) = cons (statement_of s) (statements_of ss)
