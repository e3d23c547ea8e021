-- Points and edges of small programs, worked by hand.
use Rattle.std.proofs.Common.{◌≡◌, ℕ, true, false, List, [], ◌∷◌, length, refl}
use Rattle.std.specs.Prelude.{ℤ, pos, negsuc}
use Rattle.lang_tree.specs.declared.form.Form.{Form}
use Rattle.lang_tree.specs.declared.cond.Rel.TheVariants.{Ne, Lt, Le, Eq, Ge}
use Rattle.lang_tree.specs.Tree.{Condition, free, compare, both, either, sets, while_loop, for_loop, do_loop, breaks, continues}
use Rattle.lang_tree.specs.Tree.{Statements, set, havoc, assume, branch, loop, jump, label, nil, cons}
use Rattle.lang_tree.specs.Cases.{cases_of}
use Rattle.flow_edges.specs.declared.edge.Action.{Action}
use Rattle.flow_edges.specs.declared.edge.Action.TheVariants.{Guard, Assign, Havoc}
use Rattle.flow_edges.specs.declared.edge.Edge.{Edge}
use Rattle.flow_edges.specs.declared.point.Place.{Place}
use Rattle.flow_edges.specs.declared.point.Place.TheVariants.{Entry, Loop, Label, Join, Assume, Exit}
use Rattle.flow_edges.specs.declared.point.Point.{Point}
use Rattle.flow_edges.specs.Points.{points_of_program}
use Rattle.flow_edges.specs.Edges.{edges_of_program}
use Rattle.flow_edges.proofs.steps.Followed.{followed_edges}

-- c * x + k
abbrev pub form : ℤ → ℤ → Form
form c k = record { coeffs = c ∷ []; constant = k }

abbrev pub minus_one : ℤ
minus_one = negsuc 0

abbrev point : Place → ℕ → Point
point place line = record { place = place; line = line }

abbrev pub edge : ℕ → ℕ → List Action → Edge
edge from to actions = record { from = from; to = to; actions = actions }

-- ---- int x = 0; while (x < 100) { x = x + 1; }
abbrev pub counting : Statements
counting = cons (set 0 (form (pos 0) (pos 0)) 1) (cons (loop (while_loop []) (compare Lt (form (pos 1) (negsuc 99)))
    (cons (set 0 (form (pos 1) (pos 1)) 1) nil) 1) nil)

counting_points : points_of_program counting ≡ point Entry 0 ∷ (point Loop 1 ∷ (point Exit 0 ∷ []))
counting_points = refl

abbrev pub counting_list : List Edge
counting_list =
    edge 0 1 (Assign 0 (form (pos 0) (pos 0)) ∷ [])
    ∷ (edge 1 1 (Guard (form (pos 1) (negsuc 98)) ∷ (Assign 0 (form (pos 1) (pos 1)) ∷ []))
    ∷ (edge 1 2 (Guard (form minus_one (pos 100)) ∷ []) ∷ []))

counting_edges : edges_of_program counting ≡ counting_list
counting_edges = refl

counting_followed : followed_edges 20 counting ≡ counting_list
counting_followed = refl

-- ---- int x = 5; while (x != 0) { x = x - 1; }
abbrev falling : Statements
falling = cons (set 0 (form (pos 0) (pos 5)) 1) (cons (loop (while_loop []) (compare Ne (form (pos 1) (pos 0)))
    (cons (set 0 (form (pos 1) minus_one) 1) nil) 1) nil)

-- two edges lead through the body, one for each side of 0
abbrev falling_list : List Edge
falling_list =
    edge 0 1 (Assign 0 (form (pos 0) (pos 5)) ∷ [])
    ∷ (edge 1 1 (Guard (form (pos 1) (pos 1)) ∷ (Assign 0 (form (pos 1) minus_one) ∷ []))
    ∷ (edge 1 1 (Guard (form minus_one (pos 1)) ∷ (Assign 0 (form (pos 1) minus_one) ∷ []))
    ∷ (edge 1 2 (Guard (form (pos 1) (pos 0)) ∷ (Guard (form minus_one (pos 0)) ∷ [])) ∷ [])))

falling_edges : edges_of_program falling ≡ falling_list
falling_edges = refl

falling_followed : followed_edges 20 falling ≡ falling_list
falling_followed = refl

-- ---- int x = 0; while (x < 100) { if (x < 50) x = x + 1; else x = x + 2; }
abbrev choosing : Statements
choosing =
    cons (set 0 (form (pos 0) (pos 0)) 1)
    (cons (loop (while_loop []) (compare Lt (form (pos 1) (negsuc 99)))
    (cons (branch (compare Lt (form (pos 1) (negsuc 49))) (cons (set 0 (form (pos 1) (pos 1)) 1) nil)
    (cons (set 0 (form (pos 1) (pos 2)) 1) nil) 1) nil) 1) nil)

-- the loop's head comes before the join in its body
choosing_points : points_of_program choosing ≡ point Entry 0 ∷ (point Loop 1 ∷ (point Join 1 ∷ (point Exit 0 ∷ [])))
choosing_points = refl

abbrev choosing_list : List Edge
choosing_list =
    edge 0 1 (Assign 0 (form (pos 0) (pos 0)) ∷ [])
    ∷ (edge 1 2 (Guard (form (pos 1) (negsuc 98)) ∷ (Guard (form (pos 1) (negsuc 48)) ∷ (Assign 0 (form (pos 1) (pos 1)) ∷ [])))
    ∷ (edge 1 2 (Guard (form (pos 1) (negsuc 98)) ∷ (Guard (form minus_one (pos 50)) ∷ (Assign 0 (form (pos 1) (pos 2)) ∷ [])))
    ∷ (edge 1 3 (Guard (form minus_one (pos 100)) ∷ [])
    ∷ (edge 2 1 [] ∷ []))))

choosing_edges : edges_of_program choosing ≡ choosing_list
choosing_edges = refl

choosing_followed : followed_edges 20 choosing ≡ choosing_list
choosing_followed = refl

-- ---- int x = nondet(); assume(x <= 1 || x <= 2); mid: if (nondet()) { } else { assume(x == 0); }
abbrev placing : Statements
placing =
    cons (havoc 0 1)
    (cons (assume (either (compare Le (form (pos 1) minus_one)) (compare Le (form (pos 1) (negsuc 1)))) 2)
    (cons (label (109 ∷ (105 ∷ (100 ∷ []))) 3)
    (cons (branch free nil (cons (assume (compare Eq (form (pos 1) (pos 0))) 5) nil) 4) nil)))

placing_points : points_of_program placing ≡ point Entry 0 ∷ (point Assume 2
    ∷ (point (Label (109 ∷ (105 ∷ (100 ∷ [])))) 3 ∷ (point Join 4 ∷ (point Exit 0 ∷ []))))
placing_points = refl

abbrev placing_list : List Edge
placing_list =
    edge 0 1 (Havoc 0 ∷ (Guard (form (pos 1) minus_one) ∷ []))
    ∷ (edge 0 1 (Havoc 0 ∷ (Guard (form (pos 1) (negsuc 1)) ∷ []))
    ∷ (edge 1 2 []
    ∷ (edge 2 3 []
    ∷ (edge 2 3 (Guard (form (pos 1) (pos 0)) ∷ (Guard (form minus_one (pos 0)) ∷ []))
    ∷ (edge 3 4 [] ∷ [])))))

placing_edges : edges_of_program placing ≡ placing_list
placing_edges = refl

placing_followed : followed_edges 20 placing ≡ placing_list
placing_followed = refl

-- ---- int x = 0; do { x = x + 2; } while (x < 5);
abbrev doing : Statements
doing = cons (set 0 (form (pos 0) (pos 0)) 1) (cons (loop (do_loop []) (compare Lt (form (pos 1) (negsuc 4)))
    (cons (set 0 (form (pos 1) (pos 2)) 1) nil) 1) nil)

doing_points : points_of_program doing ≡ point Entry 0 ∷ (point Loop 1 ∷ (point Exit 0 ∷ []))
doing_points = refl

-- the body comes before the test
abbrev doing_list : List Edge
doing_list =
    edge 0 1 (Assign 0 (form (pos 0) (pos 0)) ∷ [])
    ∷ (edge 1 1 (Assign 0 (form (pos 1) (pos 2)) ∷ (Guard (form (pos 1) (negsuc 3)) ∷ []))
    ∷ (edge 1 2 (Assign 0 (form (pos 1) (pos 2)) ∷ (Guard (form minus_one (pos 5)) ∷ [])) ∷ []))

doing_edges : edges_of_program doing ≡ doing_list
doing_edges = refl

doing_followed : followed_edges 20 doing ≡ doing_list
doing_followed = refl

-- ---- int x = 0; for (;;) { if (x >= 5) break; x++; }
abbrev breaking : Statements
breaking =
    cons (set 0 (form (pos 0) (pos 0)) 1)
    (cons (loop (for_loop [] []) (compare Le (form (pos 0) (pos 0)))
    (cons (branch (compare Ge (form (pos 1) (negsuc 4))) (cons (jump breaks 1) nil) nil 1)
    (cons (set 0 (form (pos 1) (pos 1)) 1) nil)) 1) nil)

breaking_points : points_of_program breaking ≡ point Entry 0 ∷ (point Loop 1 ∷ (point Join 1 ∷ (point Exit 0 ∷ [])))
breaking_points = refl

-- the second edge is the `break`; an absent condition is 0 <= 0, whose negation is the guard of the fourth edge
abbrev breaking_list : List Edge
breaking_list =
    edge 0 1 (Assign 0 (form (pos 0) (pos 0)) ∷ [])
    ∷ (edge 1 3 (Guard (form (pos 0) (pos 0)) ∷ (Guard (form minus_one (pos 5)) ∷ []))
    ∷ (edge 1 2 (Guard (form (pos 0) (pos 0)) ∷ (Guard (form (pos 1) (negsuc 3)) ∷ []))
    ∷ (edge 1 3 (Guard (form (pos 0) (pos 1)) ∷ [])
    ∷ (edge 2 1 (Assign 0 (form (pos 1) (pos 1)) ∷ []) ∷ []))))

breaking_edges : edges_of_program breaking ≡ breaking_list
breaking_edges = refl

breaking_followed : followed_edges 20 breaking ≡ breaking_list
breaking_followed = refl

-- ---- int x = 0; for (int i = 0; i < 4; i++) { if (i == 2) continue; x++; }
-- a * x + b * i + k
abbrev form_of_two : ℤ → ℤ → ℤ → Form
form_of_two a b k = record { coeffs = a ∷ (b ∷ []); constant = k }

abbrev counted_on : Form
counted_on = form_of_two (pos 0) (pos 1) (pos 1)

abbrev continuing : Statements
continuing =
    cons (set 0 (form_of_two (pos 0) (pos 0) (pos 0)) 1)
    (cons (set 1 (form_of_two (pos 0) (pos 0) (pos 0)) 1)
    (cons (loop (for_loop [] (sets 1 counted_on 1 ∷ [])) (compare Lt (form_of_two (pos 0) (pos 1) (negsuc 3)))
    (cons (branch (compare Eq (form_of_two (pos 0) (pos 1) (negsuc 1))) (cons (jump continues 1) nil) nil 1)
    (cons (set 0 (form_of_two (pos 1) (pos 0) (pos 1)) 1) nil)) 1) nil))

continuing_points : points_of_program continuing ≡ point Entry 0 ∷ (point Loop 1 ∷ (point Join 1 ∷ (point Exit 0 ∷ [])))
continuing_points = refl

abbrev below_four : Action
below_four = Guard (form_of_two (pos 0) (pos 1) (negsuc 2))

-- the second edge is the `continue`, with the change
abbrev continuing_list : List Edge
continuing_list =
    edge 0 1 (Assign 0 (form_of_two (pos 0) (pos 0) (pos 0)) ∷ (Assign 1 (form_of_two (pos 0) (pos 0) (pos 0)) ∷ []))
    ∷ (edge 1 1 (below_four
    ∷ (Guard (form_of_two (pos 0) (pos 1) (negsuc 1)) ∷ (Guard (form_of_two (pos 0) minus_one (pos 2)) ∷ (Assign 1 counted_on ∷ []))))
    ∷ (edge 1 2 (below_four ∷ (Guard (form_of_two (pos 0) (pos 1) minus_one) ∷ []))
    ∷ (edge 1 2 (below_four ∷ (Guard (form_of_two (pos 0) minus_one (pos 3)) ∷ []))
    ∷ (edge 1 3 (Guard (form_of_two (pos 0) minus_one (pos 4)) ∷ [])
    ∷ (edge 2 1 (Assign 0 (form_of_two (pos 1) (pos 0) (pos 1)) ∷ (Assign 1 counted_on ∷ [])) ∷ [])))))

continuing_edges : edges_of_program continuing ≡ continuing_list
continuing_edges = refl

continuing_followed : followed_edges 20 continuing ≡ continuing_list
continuing_followed = refl

-- ---- int x = 0; while (x < 3) { break; mid: if (nondet()) x = 1; x = 2; }
abbrev leaving : Statements
leaving =
    cons (set 0 (form (pos 0) (pos 0)) 1)
    (cons (loop (while_loop []) (compare Lt (form (pos 1) (negsuc 2)))
    (cons (jump breaks 1)
    (cons (label (109 ∷ (105 ∷ (100 ∷ []))) 1)
    (cons (branch free (cons (set 0 (form (pos 0) (pos 1)) 1) nil) nil 1)
    (cons (set 0 (form (pos 0) (pos 2)) 1) nil)))) 1) nil)

leaving_points : points_of_program leaving ≡ point Entry 0 ∷ (point Loop 1
    ∷ (point (Label (109 ∷ (105 ∷ (100 ∷ [])))) 1 ∷ (point Join 1 ∷ (point Exit 0 ∷ []))))
leaving_points = refl

-- the points 2 and 3 stand after the `break`: no run comes to them, and they have no edges
abbrev leaving_list : List Edge
leaving_list =
    edge 0 1 (Assign 0 (form (pos 0) (pos 0)) ∷ [])
    ∷ (edge 1 4 (Guard (form (pos 1) (negsuc 1)) ∷ [])
    ∷ (edge 1 4 (Guard (form minus_one (pos 3)) ∷ []) ∷ []))

leaving_edges : edges_of_program leaving ≡ leaving_list
leaving_edges = refl

leaving_followed : followed_edges 20 leaving ≡ leaving_list
leaving_followed = refl

-- ---- int x = 0; do { if (nondet()) continue; else break; } while (x < 5);
abbrev jumping : Statements
jumping =
    cons (set 0 (form (pos 0) (pos 0)) 1)
    (cons (loop (do_loop []) (compare Lt (form (pos 1) (negsuc 4)))
    (cons (branch free (cons (jump continues 1) nil) (cons (jump breaks 1) nil)
    1) nil) 1) nil)

jumping_points : points_of_program jumping ≡ point Entry 0 ∷ (point Loop 1 ∷ (point Join 1 ∷ (point Exit 0 ∷ [])))
jumping_points = refl

-- no run comes to the join; a `continue` in a `do` goes on to its test
abbrev jumping_list : List Edge
jumping_list =
    edge 0 1 (Assign 0 (form (pos 0) (pos 0)) ∷ [])
    ∷ (edge 1 1 (Guard (form (pos 1) (negsuc 3)) ∷ [])
    ∷ (edge 1 3 (Guard (form minus_one (pos 5)) ∷ [])
    ∷ (edge 1 3 [] ∷ [])))

jumping_edges : edges_of_program jumping ≡ jumping_list
jumping_edges = refl

jumping_followed : followed_edges 20 jumping ≡ jumping_list
jumping_followed = refl

-- ---- how many cases a chain of `!=` has
abbrev other_than : ℕ → Condition
other_than k = compare Ne (record { coeffs = pos 1 ∷ []; constant = negsuc k })

six_cases : length (cases_of true (both (both (both (both (both (other_than 0) (other_than 1)) (other_than 2)) (other_than 3))
    (other_than 4)) (other_than 5))) ≡ 64
six_cases = refl

-- its negation has one case for each
six_cases_of_negation : length (cases_of false (both (both (both (both (both (other_than 0) (other_than 1)) (other_than 2)) (other_than 3))
    (other_than 4)) (other_than 5))) ≡ 6
six_cases_of_negation = refl
