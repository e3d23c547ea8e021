-- The text of a generated program.
use Rattle.std.specs.Prelude.{◌+◌, ◌++◌, ℕ, List, [], ◌∷◌, codes, decimal, flat_map}
use Rattle.flow_systems.specs.Report.{line}
use Rattle.out_workload.specs.declared.draws.Loop.{Loop}
use Rattle.out_workload.specs.Draws.{following, loops_from}

-- `a`, `b` or `c`
abbrev pub variable_name : ℕ → List ℕ
variable_name variable = (97 + variable) ∷ []

-- `V = 0;`
abbrev pub start_line : List ℕ → List ℕ
start_line v = line (codes "  " ++ (v ++ codes " = 0;"))

-- `while (V < B) {`
abbrev pub while_line : List ℕ → ℕ → List ℕ
while_line v bound = line (codes "  while (" ++ (v ++ (codes " < " ++ (decimal bound ++ codes ") {"))))

-- `V += S;`
abbrev pub step_line : List ℕ → ℕ → List ℕ
step_line v step = line (codes "    " ++ (v ++ (codes " += " ++ (decimal step ++ codes ";"))))

-- `W = V;`
abbrev pub copy_line : List ℕ → List ℕ → List ℕ
copy_line w v = line (codes "    " ++ (w ++ (codes " = " ++ (v ++ codes ";"))))

-- the five lines of a loop
abbrev pub loop_text : Loop → List ℕ
loop_text l =
    start_line (variable_name l.variable)
    ++ (while_line (variable_name l.variable) l.bound
    ++ (step_line (variable_name l.variable) l.step
    ++ (copy_line (variable_name (following l.variable)) (variable_name l.variable)
    ++ line (codes "  }"))))

-- the two lines before the loops
abbrev pub front_text : List ℕ
front_text = line (codes "int main() {") ++ line (codes "  int a = 0, b = 0, c = 0;")

-- the two lines after them
abbrev pub back_text : List ℕ
back_text = line (codes "  return 0;") ++ line (codes "}")

-- the text of a number of loops from a seed
abbrev pub generated_text : ℕ → ℕ → List ℕ
generated_text seed loops = front_text ++ (flat_map loop_text (loops_from seed loops) ++ back_text)
