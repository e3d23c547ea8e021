-- What the code says that comes next is that.
use Rattle.std.proofs.Common.{◌≡◌, refl}
use Rattle.source_grammar.specs.Tokens.{Kind, else_word, infix_sign, times_op}
use Rattle.source_grammar.proofs.grammar.Follow.{NotElse}
use Rattle.source_statement.specs.Starts.{start_in, start_of, a_block, an_if, a_while, a_do, a_for, an_else, a_colon, a_name, a_type}
use Rattle.source_statement.specs.declared.starts.Start.{Start}
use Rattle.source_statement.specs.declared.starts.Start.TheVariants as start

-- a block
pub says_block : (s : Start) → start_of s ≡ a_block → s ≡ start.Block
says_block start.Block h = refl
says_block _ h = absurd cc

-- an if
pub says_if : (s : Start) → start_of s ≡ an_if → s ≡ start.If
says_if start.If h = refl
says_if _ h = absurd cc

-- a while
pub says_while : (s : Start) → start_of s ≡ a_while → s ≡ start.While
says_while start.While h = refl
says_while _ h = absurd cc

-- a do
pub says_do : (s : Start) → start_of s ≡ a_do → s ≡ start.Do
says_do start.Do h = refl
says_do _ h = absurd cc

-- a for
pub says_for : (s : Start) → start_of s ≡ a_for → s ≡ start.For
says_for start.For h = refl
says_for _ h = absurd cc

-- an else
pub says_else : (s : Start) → start_of s ≡ an_else → s ≡ start.Else
says_else start.Else h = refl
says_else _ h = absurd cc

-- a colon
pub says_colon : (s : Start) → start_of s ≡ a_colon → s ≡ start.Colon
says_colon start.Colon h = refl
says_colon _ h = absurd cc

-- a name
pub says_name : (s : Start) → start_of s ≡ a_name → s ≡ start.Name
says_name start.Name h = refl
says_name _ h = absurd cc

-- a type
pub says_type : (s : Start) → start_of s ≡ a_type → s ≡ start.Type
says_type start.Type h = refl
says_type _ h = absurd cc

-- where an `else` comes next it is one
pub else_comes : (k : Kind) → NotElse k → (start_in k ≡ an_else → ⊥)
else_comes else_word h e = cc
else_comes (infix_sign times_op) h e = absurd cc
else_comes _ h e = absurd cc
