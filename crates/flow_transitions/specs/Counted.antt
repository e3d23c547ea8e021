-- How many choices there are, and what counting and making them needs.
use Rattle.std.specs.Prelude.{ℕ, Bool, List, length}
use Rattle.std.specs.List.{list_all}
use Rattle.flow_edges.specs.Constants.{have_rooms}
use Rattle.flow_transitions.specs.declared.auto_edge.AutoEdge.{AutoEdge}
use Rattle.flow_transitions.specs.Choices.{choices_in}

-- the number of choices along an edge of the text
abbrev pub way_count : AutoEdge → ℕ
way_count e = length (choices_in e.acts)

-- the comparisons on the edges leave room for their guards
abbrev pub have_room_along : List AutoEdge → Bool
have_room_along edges = list_all (λ e. have_rooms e.acts) edges
