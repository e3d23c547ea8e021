-- What the code's search stands for.
use Rattle.std.specs.Prelude.{List, reverse}
use Rattle.source_packs.specs.Machine.{Book, State}
use Rattle.source_packs.specs.declared.goal.Goal.{Goal}
use Rattle.source_packs.specs.declared.search.Search.{Search}

-- The stack's top is the list's last.
abbrev pub stack_of : List Goal → List Goal
stack_of goals = reverse goals

-- the book of the search
abbrev pub book_in : Search → Book
book_in search = record {
  collector = search.collector;
  members = search.members.items;
  starts = reverse search.starts.items;
  testing = search.testing;
}

-- the state of the machine that the search stands for
abbrev pub state_of : Search → State
state_of search = record { goals = stack_of search.goals.items; written = book_in search }
