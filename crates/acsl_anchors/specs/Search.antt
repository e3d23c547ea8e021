-- What the code's search stands for.
use Rattle.std.specs.Prelude.{◌<◌, ◌-◌, ◌^◌, List, reverse}
use Rattle.acsl_anchors.specs.Anchors.{Scope}
use Rattle.acsl_anchors.specs.Machine.{State}
use Rattle.acsl_anchors.specs.declared.goal.Effect.{Effect}
use Rattle.acsl_anchors.specs.declared.goal.Effect.TheVariants as effect
use Rattle.acsl_anchors.specs.declared.goal.Goal.{Goal}
use Rattle.acsl_anchors.specs.declared.search.Search.{Search}

-- The stack's top is the list's last.
abbrev pub stack_of : List Goal → List Goal
stack_of goals = reverse goals

-- the scope of the search
abbrev pub scope_in : Search → Scope
scope_in search = record { variables = search.variables.items; known = search.known.items }

-- the state of the machine that the search stands for
abbrev pub state_of : Search → State
state_of search = record { goals = stack_of search.goals.items; scope = scope_in search; found = search.anchors.items }

-- The place behind a colon is a number of the code.
abbrev pub HasRoom : Effect → Type 0
HasRoom (effect.Label first colon) = colon < 2 ^ 32 - 1
HasRoom _ = Unit {0}
