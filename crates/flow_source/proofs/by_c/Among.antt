-- A check that a run of a program is at is among those of the program.
use Rattle.std.proofs.Common.{inl, inr, ⊎_elim, ◌+◌, ℕ, Bool, true, false, List, [], ◌∷◌, ◌++◌, refl, sym, subst}
use Rattle.std.specs.Prelude.{Contains, if◌then◌else◌}
use Rattle.base_facts.specs.Elements.{In}
use Rattle.lang_tree.specs.declared.check.Check.{Check}
use Rattle.lang_tree.specs.Tree.{Condition, Statements, set, havoc, assume, only_where, check, branch, loop, jump, label}
use Rattle.lang_tree.specs.Tree.{nil, cons, Deed, sets, havocs, wheres, checks, LoopKind, while_loop, for_loop, do_loop}
use Rattle.lang_tree.specs.Tree.{Jump, breaks, continues, returns}
use Rattle.lang_tree.specs.Meaning.{State}
use Rattle.lang_tree.specs.PointNumbers.{points_of, points_in, splits, join_of, exit_of}
use Rattle.lang_tree.specs.Runs.{Item, node, mark, turn, end, nodes, start_work, branch_work, body_work, deeds_work, head_work, again_work}
use Rattle.lang_tree.specs.Runs.{turn_work, end_work, past_loop, end_of_body, Does, Configuration, Step, Follows, IsRun, IsAtCheck}
use Rattle.flow_edges.specs.Checks.{Checked, deed_checks, loop_checks, checks_of, checks_in}
use Rattle.flow_edges.proofs.steps.ElementLemmas.{contains_in, in_contains}

-- the checks of an item of work
abbrev item_checks : Item → List Checked
item_checks (node s m) = checks_of s
item_checks (mark p) = []
item_checks (turn kind c body line m) = loop_checks kind (checks_in body)
item_checks (end kind c body line m) = loop_checks kind (checks_in body)

module _ (P : Checked → Type 0) where
  -- this is so of each
  abbrev Each : List Checked → Type 0
  Each [] = Unit {0}
  Each (c ∷ cs) = P c × Each cs

  -- it is so of each check in the work
  abbrev EachIn : List Item → Type 0
  EachIn [] = Unit {0}
  EachIn (item ∷ rest) = Each (item_checks item) × EachIn rest

  each_of : (xs : List Checked) → ((c : Checked) → In xs c → P c) → Each xs
  each_of [] h = tt
  each_of (c ∷ cs) h = (h c (inl refl), each_of cs (λ d k. h d (inr k)))

  left : (xs ys : List Checked) → Each (xs ++ ys) → Each xs
  left [] ys h = tt
  left (x ∷ xs) ys h = (h.0, left xs ys h.1)

  right : (xs ys : List Checked) → Each (xs ++ ys) → Each ys
  right [] ys h = h
  right (x ∷ xs) ys h = right xs ys h.1

  nodes_each : (ss : Statements) (m : ℕ) (rest : List Item) → Each (checks_in ss) → EachIn rest → EachIn (nodes ss m ++ rest)
  nodes_each nil m rest h k = k
  nodes_each (cons s ss) m rest h k =
      (left (checks_of s) (checks_in ss) h, nodes_each ss (m + points_of s) rest (right (checks_of s) (checks_in ss) h) k)

  deeds_each : (ds : List Deed) (rest : List Item) → Each (deed_checks ds) → EachIn rest → EachIn (deeds_work ds rest)
  deeds_each [] rest h k = k
  deeds_each (sets var form line ∷ ds) rest h k = (tt, deeds_each ds rest h k)
  deeds_each (havocs var line ∷ ds) rest h k = (tt, deeds_each ds rest h k)
  deeds_each (wheres c line ∷ ds) rest h k = (tt, deeds_each ds rest h k)
  deeds_each (checks about c line ∷ ds) rest h k = ((h.0, tt), deeds_each ds rest h.1 k)

  past_each : (is : List Item) → EachIn is → EachIn (past_loop is)
  past_each [] h = tt
  past_each (node s m ∷ rest) h = past_each rest h.1
  past_each (mark p ∷ rest) h = past_each rest h.1
  past_each (turn kind c body line m ∷ rest) h = past_each rest h.1
  past_each (end kind c body line m ∷ rest) h = h.1

  end_each : (is : List Item) → EachIn is → EachIn (end_of_body is)
  end_each [] h = tt
  end_each (node s m ∷ rest) h = end_each rest h.1
  end_each (mark p ∷ rest) h = end_each rest h.1
  end_each (turn kind c body line m ∷ rest) h = end_each rest h.1
  end_each (end kind c body line m ∷ rest) h = h

  -- the checks of a loop are those of its deeds and of its body
  inside : (kind : LoopKind) (cs : List Checked) → Each (loop_checks kind cs) → Each cs
  inside (while_loop p) cs h = right (deed_checks p) cs h
  inside (for_loop p g) cs h = right (deed_checks g) cs (right (deed_checks p) (deed_checks g ++ cs) h)
  inside (do_loop p) cs h = left cs (deed_checks p) h

  module _ (c : Condition) (body : Statements) (line m : ℕ) (rest : List Item) (k : EachIn rest) where
    body_each : (kind : LoopKind) → Each (loop_checks kind (checks_in body)) → EachIn (body_work kind c body line m rest)
    body_each kind h = nodes_each body (m + 1) (end kind c body line m ∷ rest) (inside kind (checks_in body) h) (h, k)

    head_each : (kind : LoopKind) → Each (loop_checks kind (checks_in body)) → EachIn (head_work kind c body line m rest)
    head_each (while_loop p) h = deeds_each p (turn (while_loop p) c body line m ∷ rest) (left (deed_checks p) (checks_in body) h) (h, k)
    head_each (for_loop p g) h =
        deeds_each p (turn (for_loop p g) c body line m ∷ rest) (left (deed_checks p) (deed_checks g ++ checks_in body) h) (h, k)
    head_each (do_loop p) h = body_each (do_loop p) h

    again_each : (kind : LoopKind) → Each (loop_checks kind (checks_in body)) → EachIn (again_work kind c body line m rest)
    again_each (while_loop p) h = body_each (while_loop p) h
    again_each (for_loop p g) h = body_each (for_loop p g) h
    again_each (do_loop p) h = (h, k)

    turn_each : (t : Bool) (kind : LoopKind) → Each (loop_checks kind (checks_in body)) → EachIn (turn_work t kind c body line m rest)
    turn_each true kind h = again_each kind h
    turn_each false kind h = k

    end_work_each : (kind : LoopKind) → Each (loop_checks kind (checks_in body)) → EachIn (end_work kind c body line m rest)
    end_work_each (while_loop p) h = (h, k)
    end_work_each (for_loop p g) h = deeds_each g (node (loop (for_loop p g) c body line) m ∷ rest)
        (left (deed_checks g) (checks_in body) (right (deed_checks p) (deed_checks g ++ checks_in body) h)) (h, k)
    end_work_each (do_loop p) h = deeds_each p (turn (do_loop p) c body line m ∷ rest) (right (checks_in body) (deed_checks p) h) (h, k)

  branch_each : (t : Bool) (first second : Statements) (m : ℕ) (rest : List Item) → Each (checks_in first ++ checks_in second) → EachIn rest
      → EachIn (branch_work t first second m rest)
  branch_each true first second m rest h k =
      nodes_each first m (mark (join_of first second m) ∷ rest) (left (checks_in first) (checks_in second) h) (tt, k)
  branch_each false first second m rest h k =
      nodes_each second (m + points_in first) (mark (join_of first second m) ∷ rest) (right (checks_in first) (checks_in second) h) (tt, k)

  split_each : (b : Bool) (m : ℕ) (rest : List Item) → EachIn rest → EachIn (if b then mark m ∷ rest else rest)
  split_each true m rest k = (tt, k)
  split_each false m rest k = k

  jump_each : (exit : ℕ) (j : Jump) (line m : ℕ) (rest : List Item) (x : State) (work : List Item) (y : State)
      → Does exit (node (jump j line) m) rest x work y → EachIn rest → EachIn work
  jump_each exit breaks line m rest x work y d k = subst EachIn (sym d.0) (past_each rest k)
  jump_each exit continues line m rest x work y d k = subst EachIn (sym d.0) (end_each rest k)
  jump_each exit returns line m rest x work y d k = subst EachIn (sym d.0) (tt, tt)

  -- a step brings in no check
  does_each : (exit : ℕ) (item : Item) (rest : List Item) (x : State) (work : List Item) (y : State) → Does exit item rest x work y
      → Each (item_checks item) → EachIn rest → EachIn work
  does_each exit (mark p) rest x work y d h k = subst EachIn (sym d.0) k
  does_each exit (node (set var form line) m) rest x work y d h k = subst EachIn (sym d.0) k
  does_each exit (node (havoc var line) m) rest x work y d h k = subst EachIn (sym d.1) k
  does_each exit (node (assume c line) m) rest x work y d h k = subst EachIn (sym d.1) (split_each (splits c) m rest k)
  does_each exit (node (only_where c line) m) rest x work y d h k = subst EachIn (sym d.1) k
  does_each exit (node (check about c line) m) rest x work y d h k = subst EachIn (sym d.0) k
  does_each exit (node (branch c first second line) m) rest x work y d h k =
      subst EachIn (sym d.2) (branch_each d.0 first second m rest h k)
  does_each exit (node (loop kind c body line) m) rest x work y d h k = subst EachIn (sym d.0) (tt, head_each c body line m rest k kind h)
  does_each exit (node (jump j line) m) rest x work y d h k = jump_each exit j line m rest x work y d k
  does_each exit (node (label name line) m) rest x work y d h k = subst EachIn (sym d.0) (tt, k)
  does_each exit (turn kind c body line m) rest x work y d h k =
      subst EachIn (sym d.2) (turn_each c body line m rest k d.0 kind h)
  does_each exit (end kind c body line m) rest x work y d h k = subst EachIn (sym d.0) (end_work_each c body line m rest k kind h)

  step_each : (n exit : ℕ) (c d : Configuration) → Step n exit c d → EachIn c.work → EachIn d.work
  step_each n exit c d s h =
      let both = subst EachIn s.first h in
      does_each exit s.item s.rest c.state d.work s.reached s.does both.0 both.1

  run_each : (n exit : ℕ) (c : Configuration) (cs : List Configuration) → Follows n exit c cs → EachIn c.work → (d : Configuration)
      → In (c ∷ cs) d → EachIn d.work
  run_each n exit c [] f h d i = ⊎_elim (λ e. subst (λ (k : Configuration). EachIn k.work) e h) (λ k. absurd k) i
  run_each n exit c (b ∷ bs) f h d i =
      ⊎_elim (λ e. subst (λ (k : Configuration). EachIn k.work) e h)
      (λ k. run_each n exit b bs f.1 (step_each n exit c b f.0 h) d k) i

-- a check that a run is at is one of the program's
pub check_among : (variables : ℕ) (body : Statements) (run : List Configuration) (now : Configuration) (about : Check) (cond : Condition)
    → IsRun variables body run → Contains run now → IsAtCheck now about cond
    → Contains (checks_in body) record { about = about; cond = cond }
check_among variables body [] now about cond r m a = absurd r
check_among variables body (c ∷ cs) now about cond r m a =
    let P : Checked → Type 0 = λ x. In (checks_in body) x in
    let all : Each P (checks_in body) = each_of P (checks_in body) (λ x i. i) in
    let start : EachIn P (start_work body) = (tt, nodes_each P body 1 (mark (exit_of body) ∷ []) all (tt, tt)) in
    let here : EachIn P now.work = run_each P variables (exit_of body) c cs r.2 (subst (EachIn P) (sym r.0) start) now
    (contains_in (c ∷ cs) now m) in
    in_contains (checks_in body) record { about = about; cond = cond } (subst (EachIn P) a.3 here).0.0
