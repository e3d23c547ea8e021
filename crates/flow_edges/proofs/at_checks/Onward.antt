-- Labelled steps lead from all work that a run of a program has left to a mark.
use Rattle.std.proofs.Common.{◌≡◌, inl, ℕ, ◌+◌, Bool, true, false, List, [], ◌∷◌, ◌++◌, refl, sym, subst}
use Rattle.std.specs.Prelude.{IsTrue, if◌then◌else◌}
use Rattle.base_facts.specs.Elements.{In}
use Rattle.lang_tree.specs.Tree.{Condition, Deed, sets, havocs, wheres, checks, statement_by, LoopKind, while_loop, for_loop, do_loop}
use Rattle.lang_tree.specs.Tree.{breaks, continues, returns}
use Rattle.lang_tree.specs.Tree.{Statement, Statements, set, havoc, assume, only_where, check, branch, loop, jump, label, nil, cons}
use Rattle.lang_tree.specs.PointNumbers.{splits, points_of, join_of}
use Rattle.lang_tree.specs.Runs.{Item, node, mark, turn, end, nodes, branch_work, head_work, turn_work, deeds_work, past_loop}
use Rattle.lang_tree.specs.Runs.{end_of_body}
use Rattle.flow_edges.specs.declared.edge.Action.{Action}
use Rattle.flow_edges.specs.declared.edge.Action.TheVariants.{Assign, Havoc, Check}
use Rattle.flow_edges.specs.Steps.{Labelled, labelled, choices, steps_of}
use Rattle.flow_edges.specs.Paths.{Arrives, at_mark, by_step}
use Rattle.flow_edges.proofs.steps.ElementLemmas.{in-append_left, in-append_right}
use Rattle.flow_edges.proofs.steps.Walk.{past-nodes, end-nodes}
use Rattle.flow_edges.proofs.steps.Reach.{some_choice}
use Rattle.flow_edges.proofs.at_checks.Lasting.{Stands, AllStand, in_loop, HasMore, Lasting}

module _ (exit : ℕ) where
  -- labelled steps lead on to a mark
  abbrev pub ComesOn : List Item → Type 0
  ComesOn work = (actions : List Action) × (p : ℕ) × (behind : List Item) × Arrives exit work actions p behind

  -- so they do from the work behind an item, if a `break` or a `continue` comes before it
  abbrev JumpsComeOn : (inside : Bool) → List Item → Type 0
  JumpsComeOn inside rest = IsTrue inside → ComesOn (past_loop rest) × ComesOn (end_of_body rest)

  -- ---- one step
  mark_comes : (p : ℕ) (rest : List Item) → ComesOn (mark p ∷ rest)
  mark_comes p rest = ([], p, rest, at_mark p rest)

  comes_by : (item : Item) (rest : List Item) (s : Labelled) → In (steps_of exit item rest) s → ComesOn s.work → ComesOn (item ∷ rest)
  comes_by item rest s m h = (s.actions ++ h.0, h.1, h.2, by_step item rest s h.0 h.1 h.2 m h.3)

  -- the item has a case of this truth, whose work leads on
  comes_by_choice : (truth : Bool) (c : Condition) (work : List Item) (item : Item) (rest : List Item)
      → ((s : Labelled) → In (choices truth c work) s → In (steps_of exit item rest) s) → ComesOn work → ComesOn (item ∷ rest)
  comes_by_choice truth c work item rest is_step h =
      let k = some_choice truth c work in comes_by item rest k.0 (is_step k.0 k.1) (subst ComesOn (sym k.2) h)

  comes_if : (b : Bool) (n : ℕ) (rest : List Item) → ComesOn rest → ComesOn (if b then mark n ∷ rest else rest)
  comes_if true n rest h = mark_comes n rest
  comes_if false n rest h = h

  -- ---- nodes
  jumps_before : (ss : Statements) (n : ℕ) (rest : List Item) (inside : Bool) → JumpsComeOn inside rest
      → JumpsComeOn inside (nodes ss n ++ rest)
  jumps_before ss n rest inside j t =
      let k = j t in (subst ComesOn (sym (past-nodes ss n rest)) k.0, subst ComesOn (sym (end-nodes ss n rest)) k.1)

  mutual
    node_comes : (s : Statement) (n : ℕ) (rest : List Item) (inside : Bool) → Stands inside s → ComesOn rest → JumpsComeOn inside rest
        → ComesOn (node s n ∷ rest)
    node_comes (set var form line) n rest inside a h j =
        comes_by (node (set var form line) n) rest (labelled (Assign var form ∷ []) rest) (inl refl) h
    node_comes (havoc var line) n rest inside a h j =
        comes_by (node (havoc var line) n) rest (labelled (Havoc var ∷ []) rest) (inl refl) h
    node_comes (assume c line) n rest inside a h j =
        comes_by_choice true c (if splits c then mark n ∷ rest else rest) (node (assume c line) n) rest (λ s m. m)
        (comes_if (splits c) n rest h)
    node_comes (only_where c line) n rest inside a h j = comes_by_choice true c rest (node (only_where c line) n) rest (λ s m. m) h
    node_comes (check about c line) n rest inside a h j =
        comes_by (node (check about c line) n) rest (labelled (Check about ∷ []) rest) (inl refl) h
    node_comes (branch c first second line) n rest inside a h j =
        let join = mark (join_of first second n) ∷ rest in
        let yes_work = branch_work true first second n rest in
        let no_work = branch_work false first second n rest in
        comes_by_choice true c yes_work (node (branch c first second line) n) rest
        (λ s m. in-append_left (choices true c yes_work) (choices false c no_work) s m)
        (nodes_come first n join inside a.0 (mark_comes (join_of first second n) rest) j)
    node_comes (loop kind c body line) n rest inside a h j =
        let head = head_work kind c body line n rest in
        comes_by (node (loop kind c body line) n) rest (labelled [] (mark n ∷ head)) (inl refl) (mark_comes n head)
    node_comes (jump breaks line) n rest inside a h j =
        comes_by (node (jump breaks line) n) rest (labelled [] (past_loop rest)) (inl refl) (j a).0
    node_comes (jump continues line) n rest inside a h j =
        comes_by (node (jump continues line) n) rest (labelled [] (end_of_body rest)) (inl refl) (j a).1
    node_comes (jump returns line) n rest inside a h j =
        comes_by (node (jump returns line) n) rest (labelled [] (mark exit ∷ [])) (inl refl) (mark_comes exit [])
    node_comes (label name line) n rest inside a h j =
        comes_by (node (label name line) n) rest (labelled [] (mark n ∷ rest)) (inl refl) (mark_comes n rest)

    nodes_come : (ss : Statements) (n : ℕ) (rest : List Item) (inside : Bool) → AllStand inside ss → ComesOn rest → JumpsComeOn inside rest
        → ComesOn (nodes ss n ++ rest)
    nodes_come nil n rest inside a h j = h
    nodes_come (cons s more) n rest inside a h j =
        let m = n + points_of s in
        node_comes s n (nodes more m ++ rest) inside a.0 (nodes_come more m rest inside a.1 h j) (jumps_before more m rest inside j)

  -- ---- ends of loops
  again_comes : (kind : LoopKind) (c : Condition) (body : Statements) (line n : ℕ) (rest : List Item)
      → ComesOn (node (loop kind c body line) n ∷ rest)
  again_comes kind c body line n rest =
      let head = head_work kind c body line n rest in
      comes_by (node (loop kind c body line) n) rest (labelled [] (mark n ∷ head)) (inl refl) (mark_comes n head)

  deed_comes : (d : Deed) (work : List Item) → ComesOn work → ComesOn (node (statement_by d) 0 ∷ work)
  deed_comes (sets var form line) work h =
      comes_by (node (set var form line) 0) work (labelled (Assign var form ∷ []) work) (inl refl) h
  deed_comes (havocs var line) work h = comes_by (node (havoc var line) 0) work (labelled (Havoc var ∷ []) work) (inl refl) h
  deed_comes (wheres c line) work h = comes_by_choice true c work (node (only_where c line) 0) work (λ s m. m) h
  deed_comes (checks about c line) work h =
      comes_by (node (check about c line) 0) work (labelled (Check about ∷ []) work) (inl refl) h

  deeds_come : (ds : List Deed) (work : List Item) → ComesOn work → ComesOn (deeds_work ds work)
  deeds_come [] work h = h
  deeds_come (d ∷ ds) work h = deed_comes d (deeds_work ds work) (deeds_come ds work h)

  end_comes : (kind : LoopKind) (c : Condition) (body : Statements) (line n : ℕ) (rest : List Item)
      → ComesOn (end kind c body line n ∷ rest)
  end_comes (while_loop p) c body line n rest =
      comes_by (end (while_loop p) c body line n) rest (labelled [] (node (loop (while_loop p) c body line) n ∷ rest)) (inl refl)
      (again_comes (while_loop p) c body line n rest)
  end_comes (for_loop p g) c body line n rest =
      let again = node (loop (for_loop p g) c body line) n ∷ rest in
      comes_by (end (for_loop p g) c body line n) rest (labelled [] (deeds_work g again)) (inl refl)
      (deeds_come g again (again_comes (for_loop p g) c body line n rest))
  end_comes (do_loop p) c body line n rest =
      let test = turn (do_loop p) c body line n in
      let yes_work = turn_work true (do_loop p) c body line n rest in
      let no_work = turn_work false (do_loop p) c body line n rest in
      comes_by (end (do_loop p) c body line n) rest (labelled [] (deeds_work p (test ∷ rest))) (inl refl)
      (deeds_come p (test ∷ rest) (comes_by_choice true c yes_work test rest
      (λ s m. in-append_left (choices true c yes_work) (choices false c no_work) s m) (again_comes (do_loop p) c body line n rest)))

  -- a loop may be left at a turn
  turn_comes : (kind : LoopKind) (c : Condition) (body : Statements) (line n : ℕ) (rest : List Item) → ComesOn rest
      → ComesOn (turn kind c body line n ∷ rest)
  turn_comes kind c body line n rest h =
      let yes_work = turn_work true kind c body line n rest in
      let no_work = turn_work false kind c body line n rest in
      comes_by_choice false c no_work (turn kind c body line n) rest
      (λ s m. in-append_right (choices true c yes_work) (choices false c no_work) s m) h

  -- ---- work
  no_jumps_come : (inside : Bool) (rest : List Item) → inside ≡ false → JumpsComeOn inside rest
  no_jumps_come true rest e t = cc
  no_jumps_come false rest e t = cc

  works_come : (work : List Item) → Lasting work → (HasMore work → ComesOn work) × JumpsComeOn (in_loop work) work
  works_come [] l = ((λ h. absurd h), no_jumps_come false [] refl)
  works_come (mark p ∷ rest) l = ((λ h. mark_comes p rest), (works_come rest l).1)
  works_come (node s n ∷ rest) l =
      let r = works_come rest l.2 in ((λ h. node_comes s n rest (in_loop rest) l.0 (r.0 l.1) r.1), r.1)
  works_come (turn kind c body line n ∷ rest) l =
      let r = works_come rest l.2 in ((λ h. turn_comes kind c body line n rest (r.0 l.1)), r.1)
  works_come (end kind c body line n ∷ rest) l =
      let here = end_comes kind c body line n rest in
      let after = (works_come rest l.2).0 l.1 in
      ((λ h. here), (λ t. (after, here)))

  -- labelled steps lead on to a mark from whatever a run of a program has left to do
  pub work_comes : (work : List Item) → Lasting work → HasMore work → ComesOn work
  work_comes work l h = (works_come work l).0 h
