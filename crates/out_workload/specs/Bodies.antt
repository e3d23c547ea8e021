-- What a generated program's text means.
use Rattle.std.specs.Prelude.{ℕ, ◌+◌, pos, neg_ℤ, List, [], ◌∷◌, codes}
use Rattle.lang_tree.specs.declared.cond.Rel.TheVariants.{Lt}
use Rattle.lang_tree.specs.Tree.{Statements, compare, while_loop, set, loop, nil, cons}
use Rattle.lang_meaning.specs.Forms.{constant_form, variable_form}
use Rattle.out_workload.specs.declared.draws.Loop.{Loop}
use Rattle.out_workload.specs.Draws.{following, loops_from}

-- the variables
abbrev pub generated_names : List (List ℕ)
generated_names = codes "a" ∷ codes "b" ∷ codes "c" ∷ []

-- the body of a loop, from this line on: the step, and the copy
abbrev pub turn_of : ℕ → Loop → Statements
turn_of line l =
    cons (set l.variable (variable_form 3 l.variable (pos l.step)) line)
    (cons (set (following l.variable) (variable_form 3 l.variable (pos 0)) (line + 1)) nil)

-- loops in a row, the first of which begins on this line; each takes five lines
abbrev pub loops_body : ℕ → List Loop → Statements
loops_body line [] = nil
loops_body line (l ∷ ls) =
    cons (set l.variable (constant_form 3 (pos 0)) line)
    (cons (loop (while_loop []) (compare Lt (variable_form 3 l.variable (neg_ℤ (pos l.bound)))) (turn_of (line + 2) l) (line + 1))
    (loops_body (line + 5) ls))

-- all variables are 0 on line 2, and the loops begin on line 3
abbrev pub generated_body : ℕ → ℕ → Statements
generated_body seed loops =
    cons (set 0 (constant_form 3 (pos 0)) 2)
    (cons (set 1 (constant_form 3 (pos 0)) 2)
    (cons (set 2 (constant_form 3 (pos 0)) 2)
    (loops_body 3 (loops_from seed loops))))
