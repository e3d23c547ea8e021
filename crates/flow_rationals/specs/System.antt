-- The system of equations: an entry and a loop, one variable for each name and one more, and one row for each name.
use Rattle.std.specs.Prelude.{ℕ, ◌+◌, ℤ, pos, neg_ℤ, List, [], ◌∷◌, ◌++◌, length, map, codes}
use Rattle.std.specs.List.{flat_map, range_with_len, enumerate_from}
use Rattle.base_numbers.specs.Rational.{ℚ}
use Rattle.lang_tree.specs.declared.form.Form.{Form}
use Rattle.flow_edges.specs.declared.edge.Action.{Action}
use Rattle.flow_edges.specs.declared.edge.Action.TheVariants.{Guard, Assign, Havoc}
use Rattle.flow_edges.specs.declared.edge.Edge.{Edge}
use Rattle.flow_edges.specs.declared.point.Place.TheVariants.{Entry, Loop}
use Rattle.flow_edges.specs.declared.point.Point.{Point}
use Rattle.flow_templates.specs.Domains.{multiple}
use Rattle.flow_systems.specs.Equations.{Equations}
use Rattle.flow_rationals.specs.declared.equation.Sum.{Sum}
use Rattle.flow_rationals.specs.declared.equation.Equation.{Equation}

-- the variables: the names, and `int`, which no name of a text is
abbrev pub variables_of : List Equation → List (List ℕ)
variables_of equations = map (λ e. e.name) equations ++ codes "int" ∷ []

-- the points
abbrev pub entry_and_loop : List Point
entry_and_loop = record { place = Entry; line = 0 } ∷ record { place = Loop; line = 0 } ∷ []

-- the rows: the variables of n names
abbrev pub rows_of : ℕ → List (List ℤ)
rows_of n = map (multiple (n + 1) (pos 1)) (range_with_len 0 n)

-- at most 0 where the variable is at most the start
abbrev pub start_form : ℕ → ℕ → ℚ → Form
start_form n k start = record { coeffs = multiple (n + 1) (pos start.den) k; constant = neg_ℤ start.num }

-- an equation's name gets any value, and then is at most the start
abbrev pub start_actions : ℕ → ℕ × Equation → List Action
start_actions n numbered = Havoc numbered.0 ∷ Guard (start_form n numbered.0 numbered.1.start) ∷ []

-- the edge into the loop
abbrev pub start_edge : List Equation → Edge
start_edge equations = record { from = 0; to = 1; actions = flat_map (start_actions (length equations)) (enumerate_from 0 equations) }

-- at most 0 where the last variable is at most the sum
abbrev pub sum_form : Sum → Form
sum_form s = record { coeffs = map neg_ℤ s.coeffs ++ s.den ∷ []; constant = neg_ℤ s.constant }

-- the last of n + 1 variables
abbrev pub last_form : ℕ → Form
last_form n = record { coeffs = multiple (n + 1) (pos 1) n; constant = pos 0 }

-- the last variable gets any value that is at most each sum, and is then the value of name k
abbrev pub alternative_actions : ℕ → ℕ → List Sum → List Action
alternative_actions n k sums = Havoc n ∷ (map (λ s. Guard (sum_form s)) sums ++ Assign k (last_form n) ∷ [])

-- the edge of an alternative
abbrev pub alternative_edge : ℕ → ℕ → List Sum → Edge
alternative_edge n k sums = record { from = 1; to = 1; actions = alternative_actions n k sums }

-- the edges of an equation's alternatives
abbrev pub alternative_edges : ℕ → ℕ × Equation → List Edge
alternative_edges n numbered = map (alternative_edge n numbered.0) numbered.1.alternatives

-- the edge into the loop, and one for each alternative in order
abbrev pub edges_of : List Equation → List Edge
edges_of equations = start_edge equations ∷ flat_map (alternative_edges (length equations)) (enumerate_from 0 equations)

-- the system over these variables, points, rows and edges
abbrev pub system_of : List Equation → Equations
system_of equations = record {
  variables = length equations + 1;
  points = 2;
  edges = edges_of equations;
  template = rows_of (length equations);
}
