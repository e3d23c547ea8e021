use Rattle.std.proofs.Common.{◌≡◌, ◌≤◌, ◌+◌, ◌*◌, ℕ, List, ◌∷◌, length}
use Rattle.lang_tokens.specs.Lines.{line_at}
use Rattle.source_grammar.specs.Tokens.{Token, token, right_brace}
use Rattle.source_grammar.specs.Grammar.{Items, GoodItems}
use Rattle.source_statement.specs.Onto.{onto_items}
use Rattle.source_statement.proofs.left.Items.{Left}
use Rattle.source_statement.proofs.+statement.Given as goal

abbrev pub decreases-items::block : goal.decreases-items::block
decreases-items::block l = 4 * length l.reader.now.ahead

abbrev pub decreases-branch::branch : goal.decreases-branch::branch
decreases-branch::branch l = 4 * length l.reader.now.ahead

abbrev pub decreases-loops::while_loop : goal.decreases-loops::while_loop
decreases-loops::while_loop l = 4 * length l.reader.now.ahead

abbrev pub decreases-loops::do_loop : goal.decreases-loops::do_loop
decreases-loops::do_loop l = 4 * length l.reader.now.ahead

abbrev pub decreases-loops::for_loop : goal.decreases-loops::for_loop
decreases-loops::for_loop l = 4 * length l.reader.now.ahead

abbrev pub decreases-body::core : goal.decreases-body::core
decreases-body::core l = 4 * length l.reader.now.ahead + 1

abbrev pub decreases-body::sub : goal.decreases-body::sub
decreases-body::sub l = 4 * length l.reader.now.ahead + 2

abbrev pub decreases-items::item : goal.decreases-items::item
decreases-items::item l = 4 * length l.reader.now.ahead + 2

abbrev pub decreases-body::body : goal.decreases-body::body
decreases-body::body l = 4 * length l.reader.now.ahead + 3

abbrev pub decreases-body::other : goal.decreases-body::other
decreases-body::other l = 4 * length l.reader.now.ahead + 3

abbrev pub decreases-items::items : goal.decreases-items::items
decreases-items::items l = 4 * length l.reader.now.ahead + 3

abbrev pub invariant-items::items-all : goal.invariant-items::items-all
invariant-items::items-all l = record {
  left : (is : Items) (b : ℕ) (rest : List Token) → GoodItems is → l.initial.reader.ahead ≡ onto_items is (token right_brace b ∷ rest)
      → Left l.initial.reader.integers (line_at l.initial.reader.text) l.initial.reader.variables l.inside is
      (token right_brace b ∷ rest) l.initial.reader l.reader
      l.initial.known l.known l.initial.out.items l.out.items;
  fewer : length l.reader.ahead ≤ length l.initial.reader.ahead;
}

abbrev pub decreases-items::items-all : goal.decreases-items::items-all
decreases-items::items-all l = length l.reader.ahead
