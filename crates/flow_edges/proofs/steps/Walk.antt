-- A property of work lists that the labelled steps and the marks allow holds of the work after each point.
use Rattle.std.proofs.Common.{◌≡◌, ⊎_elim, ℕ, zero, suc, ◌+◌, Bool, true, false, List, [], ◌∷◌, ◌++◌, length, refl, sym, ap, subst, arith}
use Rattle.std.proofs.Common.{length-append}
use Rattle.std.proofs.lemmas.Bool.{and_from, or_left, or_right}
use Rattle.std.specs.Prelude.{◌&&◌, ◌||◌, IsTrue, Some, None, if◌then◌else◌}
use Rattle.base_facts.specs.Elements.{In}
use Rattle.lang_tree.specs.Tree.{Condition, Deed, sets, havocs, wheres, checks, statement_by, LoopKind, while_loop, for_loop, do_loop}
use Rattle.lang_tree.specs.Tree.{breaks, continues, returns}
use Rattle.lang_tree.specs.Tree.{Statement, Statements, set, havoc, assume, only_where, check, branch, loop, jump, label, nil, cons}
use Rattle.lang_tree.specs.Cases.{cases_of}
use Rattle.lang_tree.specs.PointNumbers.{splits, points_of, points_in, join_of, exit_of, point_count}
use Rattle.lang_tree.specs.Runs.{Item, node, mark, turn, end, nodes, branch_work, body_work, head_work, turn_work, deeds_work}
use Rattle.lang_tree.specs.Runs.{past_loop, end_of_body}
use Rattle.flow_edges.specs.declared.edge.Action.TheVariants.{Assign, Havoc, Check}
use Rattle.flow_edges.specs.Steps.{Labelled, labelled, guards, choices, steps_of}
use Rattle.flow_edges.specs.Edges.{Behind, complete, completes, may_leave, leave_in, may_return, return_in, unreached, behind_of, behind_in}
use Rattle.flow_edges.specs.Edges.{behind_points}
use Rattle.flow_edges.specs.PathLaws.{IsMark}
use Rattle.flow_edges.proofs.steps.ElementLemmas.{in-append, from_map}

-- ---- as many works as points
count_if : (b : Bool) (rest : List Item) → length (if b then Some rest ∷ [] else []) ≡ (if b then 1 else 0)
count_if true rest = refl
count_if false rest = refl

unreached_count : (k : ℕ) → length (unreached k) ≡ k
unreached_count zero = refl
unreached_count (suc k) = ap suc (unreached_count k)

count_reached : (b : Bool) (ws : List Behind) (k : ℕ) → length ws ≡ k → length (if b then ws else unreached k) ≡ k
count_reached true ws k e = e
count_reached false ws k e = unreached_count k

mutual
  -- a statement has as many works after points as it makes points
  pub behind_count_of : (s : Statement) (n : ℕ) (rest : List Item) → length (behind_of s n rest) ≡ points_of s
  behind_count_of (set var form line) n rest = refl
  behind_count_of (havoc var line) n rest = refl
  behind_count_of (assume c line) n rest = count_if (splits c) rest
  behind_count_of (only_where c line) n rest = refl
  behind_count_of (check about c line) n rest = refl
  behind_count_of (branch c first second line) n rest =
      let join = mark (join_of first second n) ∷ rest in
      let one : List Behind = (if complete first || complete second then Some rest else None) ∷ [] in
      omega (
        arith,
        behind_count_in first n join,
        behind_count_in second (n + points_in first) join,
        length-append (behind_in first n join) (behind_in second (n + points_in first) join ++ one),
        length-append (behind_in second (n + points_in first) join) one,
      )
  behind_count_of (loop kind c body line) n rest = omega (arith, behind_count_in body (n + 1) (end kind c body line n ∷ rest))
  behind_count_of (jump kind line) n rest = refl
  behind_count_of (label name line) n rest = refl

  -- statements have as many works after points as they make points
  pub behind_count_in : (ss : Statements) (n : ℕ) (rest : List Item) → length (behind_in ss n rest) ≡ points_in ss
  behind_count_in nil n rest = refl
  behind_count_in (cons s more) n rest =
      let after = nodes more (n + points_of s) ++ rest in
      let inner = behind_in more (n + points_of s) rest in
      let reached : List Behind = if completes s then inner else unreached (points_in more) in
      omega (
        arith,
        behind_count_of s n after,
        count_reached (completes s) inner (points_in more) (behind_count_in more (n + points_of s) rest),
        length-append (behind_of s n after) reached,
      )

-- a fact of the work after a point that is reached
abbrev pub OfSome : (List Item → Type 0) → Behind → Type 0
OfSome F None = Unit {0}
OfSome F (Some work) = F work

-- a fact of each work with the number of its point, from n on
abbrev pub AllNumbered : (ℕ → List Item → Type 0) → ℕ → List Behind → Type 0
AllNumbered F n [] = Unit {0}
AllNumbered F n (w ∷ ws) = OfSome (F n) w × AllNumbered F (n + 1) ws

-- what holds of two lists of works with their numbers holds of the joined list
pub numbered-append : (F : ℕ → List Item → Type 0) (n : ℕ) (us ws : List Behind) → AllNumbered F n us → AllNumbered F (n + length us) ws
    → AllNumbered F n (us ++ ws)
numbered-append F n [] ws a b = let e : n + 0 ≡ n = omega arith in subst (λ k. AllNumbered F k ws) e b
numbered-append F n (u ∷ us) ws a b =
    let e : n + suc (length us) ≡ n + 1 + length us = omega arith in
    (a.0, numbered-append F (n + 1) us ws a.1 (subst (λ k. AllNumbered F k ws) e b))

numbered_left : (F : ℕ → List Item → Type 0) (n : ℕ) (us ws : List Behind) → AllNumbered F n (us ++ ws) → AllNumbered F n us
numbered_left F n [] ws a = tt
numbered_left F n (u ∷ us) ws a = (a.0, numbered_left F (n + 1) us ws a.1)

numbered_right : (F : ℕ → List Item → Type 0) (n : ℕ) (us ws : List Behind) → AllNumbered F n (us ++ ws) → AllNumbered F (n + length us) ws
numbered_right F n [] ws a = let e : n ≡ n + 0 = omega arith in subst (λ k. AllNumbered F k ws) e a
numbered_right F n (u ∷ us) ws a =
    let e : n + 1 + length us ≡ n + suc (length us) = omega arith in
    subst (λ k. AllNumbered F k ws) e (numbered_right F (n + 1) us ws a.1)

numbered_unreached : (F : ℕ → List Item → Type 0) (n k : ℕ) → AllNumbered F n (unreached k)
numbered_unreached F n zero = tt
numbered_unreached F n (suc k) = (tt, numbered_unreached F (n + 1) k)

-- the points after a statement, which are reached where it completes
pub numbered_if : (F : ℕ → List Item → Type 0) (b : Bool) (n k : ℕ) (ws : List Behind) → (IsTrue b → AllNumbered F n ws)
    → AllNumbered F n (if b then ws else unreached k)
numbered_if F true n k ws f = f refl
numbered_if F false n k ws f = numbered_unreached F n k

numbered_reached : (F : ℕ → List Item → Type 0) (b : Bool) (n k : ℕ) (ws : List Behind) → IsTrue b
    → AllNumbered F n (if b then ws else unreached k) → AllNumbered F n ws
numbered_reached F true n k ws t a = a
numbered_reached F false n k ws t a = cc

-- the one work that is reached on a condition
some_if : (F : List Item → Type 0) (b : Bool) (rest : List Item) → (IsTrue b → F rest) → OfSome F (if b then Some rest else None)
some_if F true rest f = f refl
some_if F false rest f = tt

some_reached : (F : List Item → Type 0) (b : Bool) (rest : List Item) → IsTrue b → OfSome F (if b then Some rest else None) → F rest
some_reached F true rest t a = a
some_reached F false rest t a = cc

-- ---- nodes of no loop hide no end of a loop
pub past-nodes : (ss : Statements) (n : ℕ) (rest : List Item) → past_loop (nodes ss n ++ rest) ≡ past_loop rest
past-nodes nil n rest = refl
past-nodes (cons s more) n rest = past-nodes more (n + points_of s) rest

-- nodes that stand before work don't hide the end of a loop in it
pub end-nodes : (ss : Statements) (n : ℕ) (rest : List Item) → end_of_body (nodes ss n ++ rest) ≡ end_of_body rest
end-nodes nil n rest = refl
end-nodes (cons s more) n rest = end-nodes more (n + points_of s) rest

-- a choice leaves the work that it is given
choice_work : (truth : Bool) (c : Condition) (work : List Item) (s : Labelled) → In (choices truth c work) s → s.work ≡ work
choice_work truth c work s h = let r = from_map (λ forms. labelled (guards forms) work) (cases_of truth c) s h in ap (λ t. t.work) (sym r.2)

-- a program, and a property of work
module _ (whole : Statements) (P : List Item → Type 0) (Allowed : ℕ → List Item → Type 0)
    (at_mark : (p : ℕ) (rest : List Item) → Allowed p rest → P (mark p ∷ rest))
    (by_steps : (item : Item) (rest : List Item) → ¬ (IsMark item) → ((s : Labelled) → In (steps_of (exit_of whole) item rest) s → P s.work)
    → P (item ∷ rest)) where
  -- what a `return` leaves
  abbrev exit_work : List Item
  exit_work = mark (exit_of whole) ∷ []

  -- what a `break` and a `continue` that come before this work need
  abbrev JumpsHold : List Item → Type 0
  JumpsHold rest = P (past_loop rest) × P (end_of_body rest)

  jumps_before : (ss : Statements) (n : ℕ) (rest : List Item) → JumpsHold rest → JumpsHold (nodes ss n ++ rest)
  jumps_before ss n rest j = (subst P (sym (past-nodes ss n rest)) j.0, subst P (sym (end-nodes ss n rest)) j.1)

  -- where the one step leaves this work
  by_work : (item : Item) (rest work : List Item) → ¬ (IsMark item)
      → ((s : Labelled) → In (steps_of (exit_of whole) item rest) s → s.work ≡ work) → P work
      → P (item ∷ rest)
  by_work item rest work other only h = by_steps item rest other (λ s m. subst P (sym (only s m)) h)

  by_one : (item : Item) (rest : List Item) (l : Labelled) → ¬ (IsMark item) → steps_of (exit_of whole) item rest ≡ l ∷ [] → P l.work
      → P (item ∷ rest)
  by_one item rest l other e h =
      by_work item rest l.work other (λ s m. ⊎_elim (λ (k : l ≡ s). ap (λ (t : Labelled). t.work) (sym k)) (λ k. absurd k)
      (subst (λ t. In t s) e m)) h

  by_two : (c : Condition) (item : Item) (rest yes_work no_work : List Item) → ¬ (IsMark item)
      → steps_of (exit_of whole) item rest ≡ choices true c yes_work ++ choices false c no_work →
      P yes_work → P no_work → P (item ∷ rest)
  by_two c item rest yes_work no_work other e h k = by_steps item rest other (λ s m.
      ⊎_elim (λ l. subst P (sym (choice_work true c yes_work s l)) h) (λ r. subst P (sym (choice_work false c no_work s r)) k)
      (in-append (choices true c yes_work) (choices false c no_work) s (subst (λ t. In t s) e m)))

  mark_if : (b : Bool) (n : ℕ) (rest : List Item) → AllNumbered Allowed n (if b then Some rest ∷ [] else []) → P rest
      → P (if b then mark n ∷ rest else rest)
  mark_if true n rest a h = at_mark n rest a.0
  mark_if false n rest a h = h

  -- ---- a loop whose head is allowed
  again_holds : (kind : LoopKind) (c : Condition) (body : Statements) (line n : ℕ) (rest : List Item)
      → Allowed n (head_work kind c body line n rest) →
      P (node (loop kind c body line) n ∷ rest)
  again_holds kind c body line n rest a =
      let head = head_work kind c body line n rest in
      by_one (node (loop kind c body line) n) rest (labelled [] (mark n ∷ head)) (λ m. m) refl (at_mark n head a)

  deed_holds : (d : Deed) (work : List Item) → P work → P (node (statement_by d) 0 ∷ work)
  deed_holds (sets var form line) work h = by_one (node (set var form line) 0) work (labelled (Assign var form ∷ []) work) (λ m. m) refl h
  deed_holds (havocs var line) work h = by_one (node (havoc var line) 0) work (labelled (Havoc var ∷ []) work) (λ m. m) refl h
  deed_holds (wheres c line) work h =
      by_work (node (only_where c line) 0) work work (λ m. m) (λ s m. choice_work true c work s m) h
  deed_holds (checks about c line) work h = by_one (node (check about c line) 0) work (labelled (Check about ∷ []) work) (λ m. m) refl h

  deeds_hold : (ds : List Deed) (work : List Item) → P work → P (deeds_work ds work)
  deeds_hold [] work h = h
  deeds_hold (d ∷ ds) work h = deed_holds d (deeds_work ds work) (deeds_hold ds work h)

  end_holds : (kind : LoopKind) (c : Condition) (body : Statements) (line n : ℕ) (rest : List Item)
      → Allowed n (head_work kind c body line n rest) → P rest →
      P (end kind c body line n ∷ rest)
  end_holds (while_loop p) c body line n rest a h =
      let again = node (loop (while_loop p) c body line) n ∷ rest in
      by_one (end (while_loop p) c body line n) rest (labelled [] again) (λ m. m) refl (again_holds (while_loop p) c body line n rest a)
  end_holds (for_loop p g) c body line n rest a h =
      let again = node (loop (for_loop p g) c body line) n ∷ rest in
      by_one (end (for_loop p g) c body line n) rest (labelled [] (deeds_work g again)) (λ m. m) refl
      (deeds_hold g again (again_holds (for_loop p g) c body line n rest a))
  end_holds (do_loop p) c body line n rest a h =
      let test = turn (do_loop p) c body line n in
      by_one (end (do_loop p) c body line n) rest (labelled [] (deeds_work p (test ∷ rest))) (λ m. m) refl
      (deeds_hold p (test ∷ rest) (by_two c test rest (turn_work true (do_loop p) c body line n rest)
      (turn_work false (do_loop p) c body line n rest) (λ m. m) refl (again_holds (do_loop p) c body line n rest a) h))

  -- ---- what is allowed of the parts of an `if` and of a list
  split_branch : (first second : Statements) (n : ℕ) (rest : List Item) (joined : Behind) →
      AllNumbered Allowed n (behind_in first n (mark (join_of first second n) ∷ rest)
      ++ (behind_in second (n + points_in first) (mark (join_of first second n) ∷ rest) ++ joined ∷ [])) →
      AllNumbered Allowed n (behind_in first n (mark (join_of first second n) ∷ rest))
      × AllNumbered Allowed (n + points_in first) (behind_in second (n + points_in first) (mark (join_of first second n) ∷ rest))
      × OfSome (Allowed (join_of first second n)) joined
  split_branch first second n rest joined a =
      let join = mark (join_of first second n) ∷ rest in
      let us = behind_in first n join in
      let vs = behind_in second (n + points_in first) join in
      let b = subst (λ k. AllNumbered Allowed (n + k) (vs ++ joined ∷ [])) (behind_count_in first n join)
      (numbered_right Allowed n us (vs ++ joined ∷ []) a) in
      let d = subst (λ k. AllNumbered Allowed (n + points_in first + k) (joined ∷ [])) (behind_count_in second (n + points_in first) join)
      (numbered_right Allowed (n + points_in first) vs (joined ∷ []) b) in
      (numbered_left Allowed n us (vs ++ joined ∷ []) a, numbered_left Allowed (n + points_in first) vs (joined ∷ []) b, d.0)

  split_cons : (s : Statement) (more : Statements) (n : ℕ) (rest : List Item) → AllNumbered Allowed n (behind_in (cons s more) n rest) →
      AllNumbered Allowed n (behind_of s n (nodes more (n + points_of s) ++ rest))
      × (IsTrue (completes s) → AllNumbered Allowed (n + points_of s) (behind_in more (n + points_of s) rest))
  split_cons s more n rest a =
      let after = nodes more (n + points_of s) ++ rest in
      let us = behind_of s n after in
      let ws = behind_in more (n + points_of s) rest in
      let vs : List Behind = if completes s then ws else unreached (points_in more) in
      let b = subst (λ k. AllNumbered Allowed (n + k) vs) (behind_count_of s n after) (numbered_right Allowed n us vs a) in
      (numbered_left Allowed n us vs a, λ t. numbered_reached Allowed (completes s) (n + points_of s) (points_in more) ws t b)

  -- at the join of an `if`, where it is reached
  join_holds : (p : ℕ) (rest : List Item) (b : Bool) → OfSome (Allowed p) (if b then Some rest else None) → IsTrue b → P (mark p ∷ rest)
  join_holds p rest b a t = at_mark p rest (some_reached (Allowed p) b rest t a)

  -- what a `return` needs that is in the first statement of a list, and one in those after it
  first_returns : (s : Statement) (more : Statements) (work : List Item) → IsTrue (may_return s)
      → (IsTrue (return_in (cons s more)) → P work) → P work
  first_returns s more work t r = r (or_left (may_return s) (completes s && return_in more) t)

  later_returns : (s : Statement) (more : Statements) (work : List Item) → IsTrue (completes s)
      → (IsTrue (return_in (cons s more)) → P work) → IsTrue (return_in more) → P work
  later_returns s more work t r u =
      r (or_right (may_return s) (completes s && return_in more) (and_from (completes s) (return_in more) t u))

  -- likewise a `break` or a `continue`
  later_leaves : (s : Statement) (more : Statements) (Q : Type 0) → IsTrue (completes s) → (IsTrue (leave_in (cons s more)) → Q)
      → IsTrue (leave_in more) → Q
  later_leaves s more Q t j u = j (or_right (may_leave s) (completes s && leave_in more) (and_from (completes s) (leave_in more) t u))

  -- ---- the nodes, where what they go on to has the property
  mutual
    node_holds : (s : Statement) (n : ℕ) (rest : List Item) → AllNumbered Allowed n (behind_of s n rest) → (IsTrue (completes s) → P rest)
        → (IsTrue (may_leave s) → JumpsHold rest) → (IsTrue (may_return s) → P exit_work) → P (node s n ∷ rest)
    node_holds (set var form line) n rest a h j r = by_one (node (set var form line) n) rest (labelled (Assign var form ∷ []) rest) (λ m. m)
        refl (h refl)
    node_holds (havoc var line) n rest a h j r = by_one (node (havoc var line) n) rest (labelled (Havoc var ∷ []) rest) (λ m. m) refl
        (h refl)
    node_holds (assume c line) n rest a h j r =
        by_work (node (assume c line) n) rest (if splits c then mark n ∷ rest else rest) (λ m. m) (λ s m. choice_work true c _ s m)
        (mark_if (splits c) n rest a (h refl))
    node_holds (only_where c line) n rest a h j r =
        by_work (node (only_where c line) n) rest rest (λ m. m) (λ s m. choice_work true c rest s m) (h refl)
    node_holds (check about c line) n rest a h j r =
        by_one (node (check about c line) n) rest (labelled (Check about ∷ []) rest) (λ m. m) refl (h refl)
    node_holds (branch c first second line) n rest a h j r =
        let join = mark (join_of first second n) ∷ rest in
        let b = complete first || complete second in
        let parts = split_branch first second n rest (if b then Some rest else None) a in
        by_two c (node (branch c first second line) n) rest (branch_work true first second n rest) (branch_work false first second n rest)
        (λ m. m) refl
        (nodes_hold first n join parts.0 (λ t. join_holds (join_of first second n) rest b parts.2
        (or_left (complete first) (complete second) t)) (λ t. j (or_left (leave_in first) (leave_in second) t))
        (λ t. r (or_left (return_in first) (return_in second) t)))
        (nodes_hold second (n + points_in first) join parts.1 (λ t. join_holds (join_of first second n) rest b parts.2
        (or_right (complete first) (complete second) t)) (λ t. j (or_right (leave_in first) (leave_in second) t))
        (λ t. r (or_right (return_in first) (return_in second) t)))
    node_holds (loop kind c body line) n rest a h j r = again_holds kind c body line n rest a.0
    node_holds (jump breaks line) n rest a h j r = by_one (node (jump breaks line) n) rest (labelled [] (past_loop rest)) (λ m. m) refl
        (j refl).0
    node_holds (jump continues line) n rest a h j r = by_one (node (jump continues line) n) rest (labelled [] (end_of_body rest)) (λ m. m)
        refl (j refl).1
    node_holds (jump returns line) n rest a h j r = by_one (node (jump returns line) n) rest (labelled [] exit_work) (λ m. m)
        refl (r refl)
    node_holds (label name line) n rest a h j r = by_one (node (label name line) n) rest (labelled [] (mark n ∷ rest)) (λ m. m) refl
        (at_mark n rest a.0)

    nodes_hold : (ss : Statements) (n : ℕ) (rest : List Item) → AllNumbered Allowed n (behind_in ss n rest)
        → (IsTrue (complete ss) → P rest) → (IsTrue (leave_in ss) → JumpsHold rest) → (IsTrue (return_in ss) → P exit_work)
        → P (nodes ss n ++ rest)
    nodes_hold nil n rest a h j r = h refl
    nodes_hold (cons s more) n rest a h j r =
        let parts = split_cons s more n rest a in
        node_holds s n (nodes more (n + points_of s) ++ rest) parts.0
        (λ t. nodes_hold more (n + points_of s) rest (parts.1 t) (λ u. h (and_from (completes s) (complete more) t u))
        (later_leaves s more (JumpsHold rest) t j) (later_returns s more exit_work t r))
        (λ t. jumps_before more (n + points_of s) rest (j (or_left (may_leave s) (completes s && leave_in more) t)))
        (λ t. first_returns s more exit_work t r)

  -- ---- the work after each point
  if_holds : (b : Bool) (n : ℕ) (rest : List Item) → P rest → AllNumbered (λ k w. P w) n (if b then Some rest ∷ [] else [])
  if_holds true n rest h = (h, tt)
  if_holds false n rest h = tt

  -- what the end of a loop's body needs, and a jump in it: that what comes after the loop has the property, where it is reached
  ends_hold : (kind : LoopKind) (c : Condition) (body : Statements) (line n : ℕ) (rest : List Item)
      → Allowed n (head_work kind c body line n rest) → (IsTrue (completes (loop kind c body line)) → P rest)
      → (IsTrue (complete body) → P (end kind c body line n ∷ rest)) × (IsTrue (leave_in body) → JumpsHold (end kind c body line n ∷ rest))
  ends_hold (while_loop p) c body line n rest a h =
      let e = end_holds (while_loop p) c body line n rest a (h refl) in ((λ t. e), (λ t. (h refl, e)))
  ends_hold (for_loop p g) c body line n rest a h =
      let e = end_holds (for_loop p g) c body line n rest a (h refl) in ((λ t. e), (λ t. (h refl, e)))
  ends_hold (do_loop p) c body line n rest a h = (
    (λ t. end_holds (do_loop p) c body line n rest a (h (or_left (complete body) (leave_in body) t))),
    (λ t. let q = h (or_right (complete body) (leave_in body) t) in (q, end_holds (do_loop p) c body line n rest a q)),
  )

  body_holds : (kind : LoopKind) (c : Condition) (body : Statements) (line n : ℕ) (rest : List Item)
      → AllNumbered Allowed n (behind_of (loop kind c body line) n rest) → (IsTrue (completes (loop kind c body line)) → P rest)
      → (IsTrue (return_in body) → P exit_work) → P (body_work kind c body line n rest)
  body_holds kind c body line n rest a h r =
      let e = ends_hold kind c body line n rest a.0 h in
      nodes_hold body (n + 1) (end kind c body line n ∷ rest) a.1 e.0 e.1 r

  head_holds : (kind : LoopKind) (c : Condition) (body : Statements) (line n : ℕ) (rest : List Item) → P (body_work kind c body line n rest)
      → (IsTrue (completes (loop kind c body line)) → P rest) → P (head_work kind c body line n rest)
  head_holds (while_loop p) c body line n rest b h =
      let test = turn (while_loop p) c body line n in
      deeds_hold p (test ∷ rest) (by_two c test rest (turn_work true (while_loop p) c body line n rest)
      (turn_work false (while_loop p) c body line n rest) (λ m. m) refl b (h refl))
  head_holds (for_loop p g) c body line n rest b h =
      let test = turn (for_loop p g) c body line n in
      deeds_hold p (test ∷ rest) (by_two c test rest (turn_work true (for_loop p g) c body line n rest)
      (turn_work false (for_loop p g) c body line n rest) (λ m. m) refl b (h refl))
  head_holds (do_loop p) c body line n rest b h = b

  mutual
    behind_node : (s : Statement) (n : ℕ) (rest : List Item) → AllNumbered Allowed n (behind_of s n rest) → (IsTrue (completes s) → P rest)
        → (IsTrue (may_leave s) → JumpsHold rest) → (IsTrue (may_return s) → P exit_work) →
        AllNumbered (λ k w. P w) n (behind_of s n rest)
    behind_node (set var form line) n rest a h j r = tt
    behind_node (havoc var line) n rest a h j r = tt
    behind_node (assume c line) n rest a h j r = if_holds (splits c) n rest (h refl)
    behind_node (only_where c line) n rest a h j r = tt
    behind_node (check about c line) n rest a h j r = tt
    behind_node (branch c first second line) n rest a h j r =
        let join = mark (join_of first second n) ∷ rest in
        let b = complete first || complete second in
        let joined : Behind = if b then Some rest else None in
        let parts = split_branch first second n rest joined a in
        let us = behind_in first n join in
        let vs = behind_in second (n + points_in first) join in
        let F : ℕ → List Item → Type 0 = λ k w. P w in
        let p : AllNumbered F n us =
        behind_nodes first n join parts.0 (λ t. join_holds (join_of first second n) rest b parts.2
        (or_left (complete first) (complete second) t)) (λ t. j (or_left (leave_in first) (leave_in second) t))
        (λ t. r (or_left (return_in first) (return_in second) t)) in
        let q : AllNumbered F (n + points_in first) vs =
        behind_nodes second (n + points_in first) join parts.1 (λ t. join_holds (join_of first second n) rest b parts.2
        (or_right (complete first) (complete second) t)) (λ t. j (or_right (leave_in first) (leave_in second) t))
        (λ t. r (or_right (return_in first) (return_in second) t)) in
        let last : AllNumbered F (n + points_in first + length vs) (joined ∷ []) = (some_if P b rest h, tt) in
        numbered-append F n us (vs ++ joined ∷ []) p
        (subst (λ k. AllNumbered F (n + k) (vs ++ joined ∷ [])) (sym (behind_count_in first n join))
        (numbered-append F (n + points_in first) vs (joined ∷ []) q last))
    behind_node (loop kind c body line) n rest a h j r =
        let e = ends_hold kind c body line n rest a.0 h in (
          head_holds kind c body line n rest (body_holds kind c body line n rest a h r) h,
          behind_nodes body (n + 1) (end kind c body line n ∷ rest) a.1 e.0 e.1 r,
        )
    behind_node (jump kind line) n rest a h j r = tt
    behind_node (label name line) n rest a h j r = (h refl, tt)

    behind_nodes : (ss : Statements) (n : ℕ) (rest : List Item) → AllNumbered Allowed n (behind_in ss n rest)
        → (IsTrue (complete ss) → P rest) → (IsTrue (leave_in ss) → JumpsHold rest) → (IsTrue (return_in ss) → P exit_work) →
        AllNumbered (λ k w. P w) n (behind_in ss n rest)
    behind_nodes nil n rest a h j r = tt
    behind_nodes (cons s more) n rest a h j r =
        let parts = split_cons s more n rest a in
        let F : ℕ → List Item → Type 0 = λ k w. P w in
        let m = n + points_of s in
        let after = nodes more m ++ rest in
        let ws = behind_in more m rest in
        let vs : List Behind = if completes s then ws else unreached (points_in more) in
        let later : (t : IsTrue (completes s)) (u : IsTrue (complete more)) → P rest =
        λ t u. h (and_from (completes s) (complete more) t u) in
        numbered-append F n (behind_of s n after) vs
        (behind_node s n after parts.0
        (λ t. nodes_hold more m rest (parts.1 t) (later t) (later_leaves s more (JumpsHold rest) t j)
        (later_returns s more exit_work t r))
        (λ t. jumps_before more m rest (j (or_left (may_leave s) (completes s && leave_in more) t)))
        (λ t. first_returns s more exit_work t r))
        (subst (λ k. AllNumbered F (n + k) vs) (sym (behind_count_of s n after))
        (numbered_if F (completes s) m (points_in more) ws (λ t. behind_nodes more m rest (parts.1 t) (later t)
        (later_leaves s more (JumpsHold rest) t j) (later_returns s more exit_work t r))))

  -- where all that a body's points go on with is allowed, the property holds of the work after each point
  pub points_hold : AllNumbered Allowed 1 (behind_in whole 1 (mark (exit_of whole) ∷ [])
      ++ (if complete whole || return_in whole then Some [] else None) ∷ []) → P [] →
      AllNumbered (λ k w. P w) 0 (behind_points whole)
  points_hold a none =
      let exit = mark (exit_of whole) ∷ [] in
      let ws = behind_in whole 1 exit in
      let finish : Behind = if complete whole || return_in whole then Some [] else None in
      let F : ℕ → List Item → Type 0 = λ k w. P w in
      let left : AllNumbered Allowed 1 ws = numbered_left Allowed 1 ws (finish ∷ []) a in
      let right = numbered_right Allowed 1 ws (finish ∷ []) a in
      let e : 1 + length ws ≡ exit_of whole = omega (arith, behind_count_in whole 1 exit) in
      let allowed : OfSome (Allowed (exit_of whole)) finish = subst (λ k. OfSome (Allowed k) finish) e right.0 in
      let ends = complete whole || return_in whole in
      let at_exit : IsTrue ends → P exit = join_holds (exit_of whole) [] ends allowed in
      let by_end : IsTrue (complete whole) → P exit = λ t. at_exit (or_left (complete whole) (return_in whole) t) in
      let by_return : IsTrue (return_in whole) → P exit = λ t. at_exit (or_right (complete whole) (return_in whole) t) in
      let last : AllNumbered F (1 + length ws) (finish ∷ []) = (some_if P ends [] (λ t. none), tt) in (
        nodes_hold whole 1 exit left by_end (λ t. (none, none)) by_return,
        numbered-append F 1 ws (finish ∷ [])
            (behind_nodes whole 1 exit left by_end (λ t. (none, none)) by_return) last,
      )

  -- where the work after each point is allowed, and the property holds of no work, it holds of the work after each point
  pub program_holds : AllNumbered Allowed 0 (behind_points whole) → P []
      → AllNumbered (λ k w. P w) 0 (behind_points whole)
  program_holds a none = points_hold a.1 none

-- a program has as many works after points as points
pub behind_count : (body : Statements) → length (behind_points body) ≡ point_count body
behind_count body =
    let exit = mark (exit_of body) ∷ [] in
    let last : List Behind = (if complete body || return_in body then Some [] else None) ∷ [] in
    omega (arith, behind_count_in body 1 exit, length-append (behind_in body 1 exit) last)
