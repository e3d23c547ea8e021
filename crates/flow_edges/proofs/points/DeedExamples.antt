-- Points and edges of small programs with returns, preludes and lists of changes, worked by hand.
use Rattle.std.proofs.Common.{◌≡◌, List, [], ◌∷◌, refl}
use Rattle.std.specs.Prelude.{pos, negsuc}
use Rattle.lang_tree.specs.declared.cond.Rel.TheVariants.{Lt, Le, Ge}
use Rattle.lang_tree.specs.Tree.{Condition, free, compare, either, Deed, sets, havocs, wheres, while_loop, for_loop, do_loop, continues}
use Rattle.lang_tree.specs.Tree.{returns, Statements, set, branch, loop, jump, nil, cons}
use Rattle.flow_edges.specs.declared.edge.Action.{Action}
use Rattle.flow_edges.specs.declared.edge.Action.TheVariants.{Guard, Assign, Havoc}
use Rattle.flow_edges.specs.declared.edge.Edge.{Edge}
use Rattle.flow_edges.specs.Edges.{edges_of_program}
use Rattle.flow_edges.proofs.points.Examples.{form, minus_one, edge}
use Rattle.flow_edges.proofs.steps.Followed.{followed_edges}

-- x < 3
abbrev pub low : Condition
low = compare Lt (form (pos 1) (negsuc 2))

abbrev is_low : Action
is_low = Guard (form (pos 1) (negsuc 1))

abbrev is_high : Action
is_high = Guard (form minus_one (pos 3))

abbrev pub next : Action
next = Assign 0 (form (pos 1) (pos 1))

-- ---- if (nondet()) return; x = x + 1;
abbrev pub parting : Statements
parting = cons (branch free (cons (jump returns 1) nil) nil 1) (cons (set 0 (form (pos 1) (pos 1)) 1) nil)

-- a `return` goes past the join, which is the point 1
abbrev parting_list : List Edge
parting_list = edge 0 2 [] ∷ (edge 0 1 [] ∷ (edge 1 2 (next ∷ []) ∷ []))

parting_edges : edges_of_program parting ≡ parting_list
parting_edges = refl

parting_followed : followed_edges 20 parting ≡ parting_list
parting_followed = refl

-- ---- while (x < 3) { if (nondet()) return; x = x + 1; }
abbrev pub returning : Statements
returning = cons (loop (while_loop []) low (cons (branch free (cons (jump returns 1) nil) nil 1)
    (cons (set 0 (form (pos 1) (pos 1)) 1) nil)) 1) nil

-- a `return` in a loop goes on to the exit, which is the point 3
abbrev returning_list : List Edge
returning_list =
    edge 0 1 []
    ∷ (edge 1 3 (is_low ∷ [])
    ∷ (edge 1 2 (is_low ∷ [])
    ∷ (edge 1 3 (is_high ∷ [])
    ∷ (edge 2 1 (next ∷ []) ∷ []))))

returning_edges : edges_of_program returning ≡ returning_list
returning_edges = refl

returning_followed : followed_edges 20 returning ≡ returning_list
returning_followed = refl

-- ---- while (x < 3), before which x takes any value that is at most 5 or at least 7
abbrev pub any_but_six : List Deed
any_but_six = havocs 0 1 ∷ (wheres (either (compare Le (form (pos 1) (negsuc 4))) (compare Ge (form (pos 1) (negsuc 6)))) 1 ∷ [])

abbrev pub chosen : Statements
chosen = cons (loop (while_loop any_but_six) low nil 1) nil

abbrev at_most_five : Action
at_most_five = Guard (form (pos 1) (negsuc 4))

abbrev at_least_seven : Action
at_least_seven = Guard (form minus_one (pos 7))

-- each case of the prelude is a choice of its own
abbrev chosen_list : List Edge
chosen_list =
    edge 0 1 []
    ∷ (edge 1 1 (Havoc 0 ∷ (at_most_five ∷ (is_low ∷ [])))
    ∷ (edge 1 2 (Havoc 0 ∷ (at_most_five ∷ (is_high ∷ [])))
    ∷ (edge 1 1 (Havoc 0 ∷ (at_least_seven ∷ (is_low ∷ [])))
    ∷ (edge 1 2 (Havoc 0 ∷ (at_least_seven ∷ (is_high ∷ []))) ∷ []))))

chosen_edges : edges_of_program chosen ≡ chosen_list
chosen_edges = refl

chosen_followed : followed_edges 20 chosen ≡ chosen_list
chosen_followed = refl

-- ---- do { if (nondet()) continue; x = x + 1; } while (x < 3), before whose test x takes any value
abbrev pub tested : Statements
tested = cons (loop (do_loop (havocs 0 1 ∷ [])) low (cons (branch free (cons (jump continues 1) nil) nil 1)
    (cons (set 0 (form (pos 1) (pos 1)) 1) nil)) 1) nil

-- a `continue` goes on at the prelude
abbrev tested_list : List Edge
tested_list =
    edge 0 1 []
    ∷ (edge 1 1 (Havoc 0 ∷ (is_low ∷ []))
    ∷ (edge 1 3 (Havoc 0 ∷ (is_high ∷ []))
    ∷ (edge 1 2 []
    ∷ (edge 2 1 (next ∷ (Havoc 0 ∷ (is_low ∷ [])))
    ∷ (edge 2 3 (next ∷ (Havoc 0 ∷ (is_high ∷ []))) ∷ [])))))

tested_edges : edges_of_program tested ≡ tested_list
tested_edges = refl

tested_followed : followed_edges 20 tested ≡ tested_list
tested_followed = refl

-- ---- for (; x < 3; x = x + 1, x takes any value, x = x + 1) { }
abbrev pub stepped : Statements
stepped = cons (loop (for_loop [] (sets 0 (form (pos 1) (pos 1)) 1 ∷ (havocs 0 1 ∷ (sets 0 (form (pos 1) (pos 1)) 1 ∷ [])))) low nil 1) nil

-- all changes are made, in order
abbrev stepped_list : List Edge
stepped_list =
    edge 0 1 []
    ∷ (edge 1 1 (is_low ∷ (next ∷ (Havoc 0 ∷ (next ∷ []))))
    ∷ (edge 1 2 (is_high ∷ []) ∷ []))

stepped_edges : edges_of_program stepped ≡ stepped_list
stepped_edges = refl

stepped_followed : followed_edges 20 stepped ≡ stepped_list
stepped_followed = refl
