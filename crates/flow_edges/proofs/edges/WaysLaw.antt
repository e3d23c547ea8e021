-- The ways from a piece of work are those by its labelled steps, in order.
use Rattle.std.proofs.Common.{◌≡◌, ◌∙◌, ℕ, ◌+◌, Bool, true, false, List, [], ◌∷◌, ◌++◌, refl, sym, ap, ap₂}
use Rattle.std.specs.Prelude.{if◌then◌else◌, flat_map}
use Rattle.std.proofs.lemmas.Grind.{flat_map-append}
use Rattle.std.proofs.lemmas.List.{append-nil}
use Rattle.std.proofs.lemmas.List.Folds.{flat_map-map}
use Rattle.lang_tree.specs.Tree.{Condition, Deed, sets, havocs, wheres, checks, statement_by, LoopKind, while_loop, for_loop, do_loop}
use Rattle.lang_tree.specs.Tree.{breaks, continues, returns}
use Rattle.lang_tree.specs.Tree.{Statements, set, havoc, assume, only_where, check, branch, loop, jump, label, nil, cons}
use Rattle.lang_tree.specs.Cases.{cases_of}
use Rattle.lang_tree.specs.PointNumbers.{splits, points_of, points_in, join_of}
use Rattle.lang_tree.specs.Runs.{Item, node, mark, turn, end, nodes, branch_work, body_work, head_work, turn_work, deeds_work, end_work}
use Rattle.lang_tree.specs.Runs.{past_loop, end_of_body}
use Rattle.flow_edges.specs.Steps.{Labelled, labelled, guards, choices, steps_of}
use Rattle.flow_edges.specs.Edges.{Way, Jumps, arrived, prefixed, by_case, deed_ways, deeds_ways, ways_of, ways_in, body_ways, turn_ways}
use Rattle.flow_edges.specs.Edges.{head_ways}
use Rattle.flow_edges.specs.Edges.{ways_from, jumps_from}
use Rattle.flow_edges.specs.PathLaws.{IsMark, WaysAreSteps}

module _ (exit : ℕ) where
  -- ---- jumps
  pub jumps-nodes : (ss : Statements) (n : ℕ) (rest : List Item) → jumps_from exit (nodes ss n ++ rest) ≡ jumps_from exit rest
  jumps-nodes nil n rest = refl
  jumps-nodes (cons s more) n rest = jumps-nodes more (n + points_of s) rest

  ways-past_loop : (rest : List Item) → ways_from exit (past_loop rest) ≡ (jumps_from exit rest).broken
  ways-past_loop [] = refl
  ways-past_loop (node s n ∷ rest) = ways-past_loop rest
  ways-past_loop (mark p ∷ rest) = ways-past_loop rest
  ways-past_loop (turn kind c body line n ∷ rest) = ways-past_loop rest
  ways-past_loop (end kind c body line n ∷ rest) = refl

  ways-end_of_body : (rest : List Item) → ways_from exit (end_of_body rest) ≡ (jumps_from exit rest).continued
  ways-end_of_body [] = refl
  ways-end_of_body (node s n ∷ rest) = ways-end_of_body rest
  ways-end_of_body (mark p ∷ rest) = ways-end_of_body rest
  ways-end_of_body (turn kind c body line n ∷ rest) = ways-end_of_body rest
  ways-end_of_body (end kind c body line n ∷ rest) = refl

  -- a `return` goes on at the exit from wherever it stands
  pub returned-is : (rest : List Item) → (jumps_from exit rest).returned ≡ arrived exit
  returned-is [] = refl
  returned-is (node s n ∷ rest) = returned-is rest
  returned-is (mark p ∷ rest) = returned-is rest
  returned-is (turn kind c body line n ∷ rest) = returned-is rest
  returned-is (end kind c body line n ∷ rest) = refl

  -- ---- nodes and loops
  pub ways-nodes : (ss : Statements) (n : ℕ) (rest : List Item) → ways_from exit (nodes ss n ++ rest)
      ≡ ways_in ss n (jumps_from exit rest) (ways_from exit rest)
  ways-nodes nil n rest = refl
  ways-nodes (cons s more) n rest =
      let m = n + points_of s in
      ap₂ (ways_of s n) (jumps-nodes more m rest) (ways-nodes more m rest)

  ways-body : (kind : LoopKind) (c : Condition) (body : Statements) (line n : ℕ) (rest : List Item) →
      ways_from exit (body_work kind c body line n rest) ≡ body_ways kind c body n (ways_from exit rest) (arrived exit)
  ways-body kind c body line n rest = ways-nodes body (n + 1) (end kind c body line n ∷ rest)

  -- the ways from deeds are those by them
  ways-deed : (d : Deed) (jumps : Jumps) (ways : List Way) → ways_of (statement_by d) 0 jumps ways ≡ deed_ways d ways
  ways-deed (sets var form line) jumps ways = refl
  ways-deed (havocs var line) jumps ways = refl
  ways-deed (wheres c line) jumps ways = refl
  ways-deed (checks about c line) jumps ways = refl

  ways-deeds : (ds : List Deed) (work : List Item) → ways_from exit (deeds_work ds work) ≡ deeds_ways ds (ways_from exit work)
  ways-deeds [] work = refl
  ways-deeds (d ∷ ds) work = ways-deed d _ (ways_from exit (deeds_work ds work)) ∙ ap (deed_ways d) (ways-deeds ds work)

  -- the ways from the head of a loop are those of the work that begins there
  ways-turn : (kind : LoopKind) (c : Condition) (body : Statements) (line n : ℕ) (rest : List Item) →
      ways_from exit (turn kind c body line n ∷ rest) ≡ turn_ways kind c body n (ways_from exit rest) (arrived exit)
  ways-turn kind c body line n rest = refl

  -- from behind its head a loop's ways are those of its head
  pub ways-head : (kind : LoopKind) (c : Condition) (body : Statements) (line n : ℕ) (rest : List Item) →
      ways_from exit (head_work kind c body line n rest) ≡ head_ways kind c body n (ways_from exit rest) (arrived exit)
  ways-head (while_loop p) c body line n rest = ways-deeds p (turn (while_loop p) c body line n ∷ rest)
  ways-head (for_loop p g) c body line n rest = ways-deeds p (turn (for_loop p g) c body line n ∷ rest)
  ways-head (do_loop p) c body line n rest = ways-body (do_loop p) c body line n rest

  -- ---- labelled steps
  -- the ways on from a labelled step
  abbrev on : Labelled → List Way
  on s = prefixed s.actions (ways_from exit s.work)

  prefixed-nothing : (ways : List Way) → prefixed [] ways ≡ ways
  prefixed-nothing [] = refl
  prefixed-nothing (w ∷ ways) = ap (λ r. w ∷ r) (prefixed-nothing ways)

  -- a step that records nothing
  ways-one : (work : List Item) (ways : List Way) → ways_from exit work ≡ ways → ways ≡ flat_map on (labelled [] work ∷ [])
  ways-one work ways e = sym (append-nil (prefixed [] (ways_from exit work)) ∙ prefixed-nothing (ways_from exit work) ∙ e)

  ways-choices : (truth : Bool) (c : Condition) (work : List Item) → flat_map on (choices truth c work)
      ≡ by_case truth c (ways_from exit work)
  ways-choices truth c work = flat_map-map on (λ forms. labelled (guards forms) work) (cases_of truth c)

  ways-if : (b : Bool) (n : ℕ) (rest : List Item) → ways_from exit (if b then mark n ∷ rest else rest)
      ≡ (if b then arrived n else ways_from exit rest)
  ways-if true n rest = refl
  ways-if false n rest = refl

  -- a choice between two
  ways-both : (c : Condition) (yes_work no_work : List Item) (yes_ways no_ways : List Way) → ways_from exit yes_work ≡ yes_ways
      → ways_from exit no_work ≡ no_ways →
      by_case true c yes_ways ++ by_case false c no_ways ≡ flat_map on (choices true c yes_work ++ choices false c no_work)
  ways-both c yes_work no_work yes_ways no_ways p q =
      sym (flat_map-append on (choices true c yes_work) (choices false c no_work)
      ∙ ap₂ (λ u v. u ++ v) (ways-choices true c yes_work ∙ ap (by_case true c) p) (ways-choices false c no_work ∙ ap (by_case false c) q))

  by_labelled : (item : Item) (rest : List Item) → ¬ (IsMark item) → ways_from exit (item ∷ rest) ≡ flat_map on (steps_of exit item rest)
  by_labelled (mark p) rest other = absurd (other tt)
  by_labelled (node (set var form line) n) rest other = sym (append-nil _)
  by_labelled (node (havoc var line) n) rest other = sym (append-nil _)
  by_labelled (node (assume c line) n) rest other =
      sym (ways-choices true c (if splits c then mark n ∷ rest else rest) ∙ ap (by_case true c) (ways-if (splits c) n rest))
  by_labelled (node (only_where c line) n) rest other = sym (ways-choices true c rest)
  by_labelled (node (check about c line) n) rest other = sym (append-nil _)
  by_labelled (node (branch c first second line) n) rest other =
      let join = mark (join_of first second n) ∷ rest in
      ways-both c (branch_work true first second n rest) (branch_work false first second n rest) _ _
      (ways-nodes first n join) (ways-nodes second (n + points_in first) join)
  by_labelled (node (loop kind c body line) n) rest other = refl
  by_labelled (node (jump breaks line) n) rest other = ways-one (past_loop rest) _ (ways-past_loop rest)
  by_labelled (node (jump continues line) n) rest other = ways-one (end_of_body rest) _ (ways-end_of_body rest)
  by_labelled (node (jump returns line) n) rest other =
      ways-one (mark exit ∷ []) _ (sym (returned-is rest))
  by_labelled (node (label name line) n) rest other = refl
  by_labelled (turn (while_loop p) c body line n) rest other =
      ways-both c (turn_work true (while_loop p) c body line n rest) (turn_work false (while_loop p) c body line n rest) _ _
      (ways-body (while_loop p) c body line n rest) refl
  by_labelled (turn (for_loop p g) c body line n) rest other =
      ways-both c (turn_work true (for_loop p g) c body line n rest) (turn_work false (for_loop p g) c body line n rest) _ _
      (ways-body (for_loop p g) c body line n rest) refl
  by_labelled (turn (do_loop p) c body line n) rest other =
      ways-both c (turn_work true (do_loop p) c body line n rest) (turn_work false (do_loop p) c body line n rest) _ _ refl refl
  by_labelled (end (while_loop p) c body line n) rest other = refl
  by_labelled (end (for_loop p g) c body line n) rest other =
      ways-one (end_work (for_loop p g) c body line n rest) _ (ways-deeds g (node (loop (for_loop p g) c body line) n ∷ rest))
  by_labelled (end (do_loop p) c body line n) rest other =
      ways-one (end_work (do_loop p) c body line n rest) _ (ways-deeds p (turn (do_loop p) c body line n ∷ rest))

-- an item that is no mark leads on exactly by its labelled steps, in order
pub ways_law : WaysAreSteps
ways_law exit item rest other = by_labelled exit item rest other
