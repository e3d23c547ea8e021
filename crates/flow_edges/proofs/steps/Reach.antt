-- Labelled steps reach the mark of each point.
use Rattle.std.proofs.Common.{◌≡◌, ◌⊎◌, inl, inr, ⊎_elim, ℕ, ◌+◌, Bool, true, false, List, [], ◌∷◌, ◌++◌, length, map, refl, sym, subst}
use Rattle.std.proofs.Common.{arith, append_assoc}
use Rattle.std.specs.Prelude.{◌&&◌, ◌||◌, IsTrue, Some, None, if◌then◌else◌}
use Rattle.std.proofs.lemmas.Bool.{and_parts}
use Rattle.base_facts.specs.Elements.{In}
use Rattle.lang_tree.specs.declared.form.Form.{Form}
use Rattle.lang_tree.specs.declared.cond.Rel.{Rel}
use Rattle.lang_tree.specs.declared.cond.Rel.TheVariants.{Eq, Ne, Lt, Le, Gt, Ge}
use Rattle.lang_tree.specs.Tree.{Condition, free, compare, negation, both, either, LoopKind, while_loop, for_loop, do_loop, breaks}
use Rattle.lang_tree.specs.Tree.{continues, returns, Deed, sets, havocs, wheres, checks, statement_by}
use Rattle.lang_tree.specs.Tree.{Statement, Statements, set, havoc, assume, only_where, check, branch, loop, jump, label, nil, cons}
use Rattle.lang_tree.specs.Cases.{comparison_cases, crossed, cases_of}
use Rattle.lang_tree.specs.PointNumbers.{splits, points_of, points_in, join_of, exit_of}
use Rattle.lang_tree.specs.Runs.{Item, node, mark, turn, end, nodes, start_work, branch_work, body_work, head_work, turn_work, again_work}
use Rattle.lang_tree.specs.Runs.{deeds_work}
use Rattle.lang_tree.specs.Runs.{past_loop, end_of_body}
use Rattle.flow_edges.specs.declared.edge.Action.{Action}
use Rattle.flow_edges.specs.declared.edge.Action.TheVariants.{Assign, Havoc, Check}
use Rattle.flow_edges.specs.Steps.{Labelled, labelled, guards, choices, steps_of}
use Rattle.flow_edges.specs.Paths.{Leads, here, past, done}
use Rattle.flow_edges.specs.Edges.{Behind, complete, completes, may_leave, leave_in, may_return, return_in, unreached, behind_of, behind_in}
use Rattle.flow_edges.specs.Edges.{behind_points}
use Rattle.flow_edges.proofs.steps.ElementLemmas.{in-append_left, in-append_right, in-map}
use Rattle.flow_edges.proofs.steps.Walk.{OfSome, AllNumbered, numbered-append, numbered_if, past-nodes, end-nodes, behind_count_of}
use Rattle.flow_edges.proofs.steps.Walk.{behind_count_in}

-- ---- every condition has a case of each truth
abbrev HasCase : List (List Form) → Type 0
HasCase cs = (forms : List Form) × In cs forms

some_comparison : (truth : Bool) (r : Rel) (f : Form) → HasCase (comparison_cases truth r f)
some_comparison true Eq f = (_, inl refl)
some_comparison false Eq f = (_, inl refl)
some_comparison true Ne f = (_, inl refl)
some_comparison false Ne f = (_, inl refl)
some_comparison true Lt f = (_, inl refl)
some_comparison false Lt f = (_, inl refl)
some_comparison true Le f = (_, inl refl)
some_comparison false Le f = (_, inl refl)
some_comparison true Gt f = (_, inl refl)
some_comparison false Gt f = (_, inl refl)
some_comparison true Ge f = (_, inl refl)
some_comparison false Ge f = (_, inl refl)

some_left : (as' bs : List (List Form)) → HasCase as' → HasCase (as' ++ bs)
some_left as' bs h = (h.0, in-append_left as' bs h.0 h.1)

some_crossed : (as' bs : List (List Form)) → HasCase as' → HasCase bs → HasCase (crossed as' bs)
some_crossed [] bs h k = absurd h.1
some_crossed (a ∷ rest) bs h k = (
  a ++ k.0,
  in-append_left (map (λ b. a ++ b) bs) (crossed rest bs) (a ++ k.0)
      (in-map (λ b. a ++ b) bs k.0 k.1),
)

some_case : (truth : Bool) (c : Condition) → HasCase (cases_of truth c)
some_case true free = ([], inl refl)
some_case false free = ([], inl refl)
some_case true (compare r f) = some_comparison true r f
some_case false (compare r f) = some_comparison false r f
some_case true (negation c) = some_case false c
some_case false (negation c) = some_case true c
some_case true (both a b) = some_crossed (cases_of true a) (cases_of true b) (some_case true a) (some_case true b)
some_case false (both a b) = some_left (cases_of false a) (cases_of false b) (some_case false a)
some_case true (either a b) = some_left (cases_of true a) (cases_of true b) (some_case true a)
some_case false (either a b) = some_crossed (cases_of false a) (cases_of false b) (some_case false a) (some_case false b)

-- a condition has a choice of each truth, which leaves the work that it is given
pub some_choice : (truth : Bool) (c : Condition) (work : List Item) → (s : Labelled) × In (choices truth c work) s × (s.work ≡ work)
some_choice truth c work =
    let k = some_case truth c in
    (labelled (guards k.0) work, in-map (λ forms. labelled (guards forms) work) (cases_of truth c) k.0 k.1, refl)

-- ---- one labelled step after others
pub leads_then : (exit : ℕ) (u v w : List Item) (a b : List Action) → Leads exit u a v → Leads exit v b w → Leads exit u (a ++ b) w
leads_then exit u v w a b (here u') k = k
leads_then exit u v w a b (past p rest a' v' h) k = past p rest (a' ++ b) w (leads_then exit rest v w a' b h k)
leads_then exit u v w a b (done item rest step later v' m h) k =
    subst (λ x. Leads exit (item ∷ rest) x w) (sym (append_assoc step.actions later b))
    (done item rest step (later ++ b) w m (leads_then exit step.work v w later b h k))

module _ (exit : ℕ) (start : List Item) where
  -- labelled steps lead to this work
  abbrev pub Reached : List Item → Type 0
  Reached work = (actions : List Action) × Leads exit start actions work

  reached_past : (p : ℕ) (rest : List Item) → Reached (mark p ∷ rest) → Reached rest
  reached_past p rest h = (h.0 ++ [], leads_then exit start (mark p ∷ rest) rest h.0 [] h.1 (past p rest [] rest (here rest)))

  reached_by : (item : Item) (rest : List Item) (s : Labelled) (work : List Item) → In (steps_of exit item rest) s → s.work ≡ work
      → Reached (item ∷ rest) → Reached work
  reached_by item rest s work m e h =
      subst Reached e (
        h.0 ++ (s.actions ++ []),
        leads_then exit start (item ∷ rest) s.work h.0 (s.actions ++ []) h.1
            (done item rest s [] s.work m (here s.work)),
      )

  -- the point's mark, and this work after it
  abbrev pub AtPoint : ℕ → List Item → Type 0
  AtPoint p work = Reached (mark p ∷ work)

  reached_choice : (c : Condition) (item : Item) (rest yes_work no_work : List Item)
      → steps_of exit item rest ≡ choices true c yes_work ++ choices false c no_work →
      Reached (item ∷ rest) → Reached yes_work × Reached no_work
  reached_choice c item rest yes_work no_work e h =
      let y = some_choice true c yes_work in
      let n = some_choice false c no_work in
      let at_yes : In (steps_of exit item rest) y.0 = subst (λ t. In t y.0) (sym e)
      (in-append_left (choices true c yes_work) (choices false c no_work) y.0 y.1) in
      let at_no : In (steps_of exit item rest) n.0 = subst (λ t. In t n.0) (sym e)
      (in-append_right (choices true c yes_work) (choices false c no_work) n.0 n.1) in
      (reached_by item rest y.0 yes_work at_yes y.2 h, reached_by item rest n.0 no_work at_no n.2 h)

  reached_if : (b : Bool) (n : ℕ) (rest : List Item) → Reached (if b then mark n ∷ rest else rest)
      → Reached rest × AllNumbered AtPoint n (if b then Some rest ∷ [] else [])
  reached_if true n rest h = (reached_past n rest h, (h, tt))
  reached_if false n rest h = (h, tt)

  -- ---- where statements go on to: what comes after them, past or to the end of the loop around them, or the exit
  record GoesOn (on leaves returns : Bool) (rest : List Item) : Type 0 where
    after : IsTrue on → Reached rest
    jumped : IsTrue leaves → Reached (past_loop rest) ⊎ Reached (end_of_body rest)
    exited : IsTrue returns → Reached (mark exit ∷ [])

  -- to what comes after them alone
  onward : (rest : List Item) → Reached rest → GoesOn true false false rest
  onward rest h = record { after = λ t. h; jumped = λ t. cc; exited = λ t. cc }

  goes_past : (a b c : Bool) (p : ℕ) (rest : List Item) → GoesOn a b c (mark p ∷ rest) → GoesOn a b c rest
  goes_past a b c p rest g = record { after = λ t. reached_past p rest (g.after t); jumped = g.jumped; exited = g.exited }

  -- the mark of a join or of the exit
  goes_at : (b : Bool) (p : ℕ) (rest : List Item) → (IsTrue b → Reached (mark p ∷ rest))
      → OfSome (AtPoint p) (if b then Some rest else None)
  goes_at true p rest g = g refl
  goes_at false p rest g = tt

  from_either : (a b : Bool) (Q : Type 0) → (IsTrue a → Q) → (IsTrue b → Q) → IsTrue (a || b) → Q
  from_either true b Q f g t = f refl
  from_either false b Q f g t = g t

  goes_either : (a b c d e f : Bool) (rest : List Item) → GoesOn a b c rest → GoesOn d e f rest → GoesOn (a || d) (b || e) (c || f) rest
  goes_either a b c d e f rest g k = record {
    after = from_either a d (Reached rest) g.after k.after;
    jumped = from_either b e (Reached (past_loop rest) ⊎ Reached (end_of_body rest)) g.jumped k.jumped;
    exited = from_either c f (Reached (mark exit ∷ [])) g.exited k.exited;
  }

  -- a list of statements, the first of which goes on so
  goes_both : (a b c d e f : Bool) (more : Statements) (m : ℕ) (rest : List Item) → GoesOn a b c (nodes more m ++ rest)
      → (Reached (nodes more m ++ rest) → GoesOn d e f rest) → GoesOn (a && d) (b || (a && e)) (c || (a && f)) rest
  goes_both a b c d e f more m rest g k = record {
    after = λ t. let p = and_parts a d t in (k (g.after p.0)).after p.1;
    jumped = from_either b (a && e) (Reached (past_loop rest) ⊎ Reached (end_of_body rest))
        (λ t. ⊎_elim (λ h. inl (subst Reached (past-nodes more m rest) h)) (λ h. inr (subst Reached (end-nodes more m rest) h))
        (g.jumped t))
        (λ t. let p = and_parts a e t in (k (g.after p.0)).jumped p.1);
    exited = from_either c (a && f) (Reached (mark exit ∷ [])) g.exited (λ t. let p = and_parts a f t in (k (g.after p.0)).exited p.1);
  }

  -- ---- deeds and loops
  reached_deed : (d : Deed) (work : List Item) → Reached (node (statement_by d) 0 ∷ work) → Reached work
  reached_deed (sets var form line) work h =
      reached_by (node (set var form line) 0) work (labelled (Assign var form ∷ []) work) work (inl refl) refl h
  reached_deed (havocs var line) work h =
      reached_by (node (havoc var line) 0) work (labelled (Havoc var ∷ []) work) work (inl refl) refl h
  reached_deed (wheres c line) work h =
      let y = some_choice true c work in reached_by (node (only_where c line) 0) work y.0 work y.1 y.2 h
  reached_deed (checks about c line) work h =
      reached_by (node (check about c line) 0) work (labelled (Check about ∷ []) work) work (inl refl) refl h

  reached_deeds : (ds : List Deed) (work : List Item) → Reached (deeds_work ds work) → Reached work
  reached_deeds [] work h = h
  reached_deeds (d ∷ ds) work h = reached_deeds ds work (reached_deed d (deeds_work ds work) h)

  -- a loop's turn leads into both ways
  reached_turn : (kind : LoopKind) (c : Condition) (body : Statements) (line n : ℕ) (rest : List Item)
      → Reached (turn kind c body line n ∷ rest) → Reached (again_work kind c body line n rest) × Reached rest
  reached_turn kind c body line n rest h =
      reached_choice c (turn kind c body line n) rest (turn_work true kind c body line n rest) (turn_work false kind c body line n rest)
      refl h

  body_reached : (kind : LoopKind) (c : Condition) (body : Statements) (line n : ℕ) (rest : List Item)
      → Reached (head_work kind c body line n rest) → Reached (body_work kind c body line n rest)
  body_reached (while_loop p) c body line n rest h =
      (reached_turn (while_loop p) c body line n rest (reached_deeds p (turn (while_loop p) c body line n ∷ rest) h)).0
  body_reached (for_loop p g) c body line n rest h =
      (reached_turn (for_loop p g) c body line n rest (reached_deeds p (turn (for_loop p g) c body line n ∷ rest) h)).0
  body_reached (do_loop p) c body line n rest h = h

  end_left : (p : List Deed) (c : Condition) (body : Statements) (line n : ℕ) (rest : List Item)
      → Reached (end (do_loop p) c body line n ∷ rest) → Reached rest
  end_left p c body line n rest h =
      let test = turn (do_loop p) c body line n in
      let work = deeds_work p (test ∷ rest) in
      (reached_turn (do_loop p) c body line n rest (reached_deeds p (test ∷ rest)
      (reached_by (end (do_loop p) c body line n) rest (labelled [] work) work (inl refl) refl h))).1

  -- where a loop is left: a `while` and a `for` at a turn, a `do` at its end or by a jump
  loop_left : (kind : LoopKind) (c : Condition) (body : Statements) (line n : ℕ) (rest : List Item)
      → Reached (head_work kind c body line n rest) → GoesOn (complete body) (leave_in body) (return_in body)
      (end kind c body line n ∷ rest)
      → IsTrue (completes (loop kind c body line)) → Reached rest
  loop_left (while_loop p) c body line n rest h g t =
      (reached_turn (while_loop p) c body line n rest (reached_deeds p (turn (while_loop p) c body line n ∷ rest) h)).1
  loop_left (for_loop p k) c body line n rest h g t =
      (reached_turn (for_loop p k) c body line n rest (reached_deeds p (turn (for_loop p k) c body line n ∷ rest) h)).1
  loop_left (do_loop p) c body line n rest h g t =
      from_either (complete body) (leave_in body) (Reached rest) (λ u. end_left p c body line n rest (g.after u))
      (λ u. ⊎_elim (λ k. k) (λ k. end_left p c body line n rest k) (g.jumped u)) t

  -- ---- nodes: where they go on to, and the marks of their points
  mutual
    reach_node : (s : Statement) (n : ℕ) (rest : List Item) → Reached (node s n ∷ rest)
        → GoesOn (completes s) (may_leave s) (may_return s) rest × AllNumbered AtPoint n (behind_of s n rest)
    reach_node (set var form line) n rest h = (
      onward rest (reached_by (node (set var form line) n) rest (labelled (Assign var form ∷ []) rest) rest (inl refl) refl h),
      tt,
    )
    reach_node (havoc var line) n rest h = (
      onward rest (reached_by (node (havoc var line) n) rest (labelled (Havoc var ∷ []) rest) rest (inl refl) refl h),
      tt,
    )
    reach_node (assume c line) n rest h =
        let work = if splits c then mark n ∷ rest else rest in
        let y = some_choice true c work in
        let r = reached_if (splits c) n rest (reached_by (node (assume c line) n) rest y.0 work y.1 y.2 h) in
        (onward rest r.0, r.1)
    reach_node (only_where c line) n rest h =
        let y = some_choice true c rest in (onward rest (reached_by (node (only_where c line) n) rest y.0 rest y.1 y.2 h), tt)
    reach_node (check about c line) n rest h =
        (onward rest (reached_by (node (check about c line) n) rest (labelled (Check about ∷ []) rest) rest (inl refl) refl h), tt)
    reach_node (branch c first second line) n rest h =
        let join = mark (join_of first second n) ∷ rest in
        let one_completes = complete first || complete second in
        let us = behind_in first n join in
        let vs = behind_in second (n + points_in first) join in
        let r = reached_choice c (node (branch c first second line) n) rest (branch_work true first second n rest)
        (branch_work false first second n rest) refl h in
        let a = reach_nodes first n join r.0 in
        let b = reach_nodes second (n + points_in first) join r.1 in
        let g : GoesOn one_completes (leave_in first || leave_in second) (return_in first || return_in second) join =
        goes_either (complete first) (leave_in first) (return_in first) (complete second) (leave_in second) (return_in second) join a.0
        b.0 in
        let joined : Behind = if one_completes then Some rest else None in
        let one : List Behind = joined ∷ [] in
        let at_join : AllNumbered AtPoint (n + points_in first + length vs) one = (
          subst (λ k. OfSome (AtPoint (n + points_in first + k)) joined) (sym (behind_count_in second (n + points_in first) join))
              (goes_at one_completes (join_of first second n) rest g.after),
          tt,
        ) in
        let both_parts : AllNumbered AtPoint (n + points_in first) (vs ++ one) =
        numbered-append AtPoint (n + points_in first) vs one b.1 at_join in (
          goes_past one_completes (leave_in first || leave_in second) (return_in first || return_in second) (join_of first second n) rest
              g,
          numbered-append AtPoint n us (vs ++ one) a.1 (subst (λ k. AllNumbered AtPoint (n + k) (vs ++ one))
              (sym (behind_count_in first n join)) both_parts),
        )
    reach_node (loop kind c body line) n rest h =
        let work = head_work kind c body line n rest in
        let head = reached_by (node (loop kind c body line) n) rest (labelled [] (mark n ∷ work)) (mark n ∷ work) (inl refl) refl h in
        let turned = reached_past n work head in
        let a = reach_nodes body (n + 1) (end kind c body line n ∷ rest) (body_reached kind c body line n rest turned) in (
          record { after = loop_left kind c body line n rest turned a.0; jumped = λ t. cc; exited = a.0.exited },
          (head, a.1),
        )
    reach_node (jump breaks line) n rest h =
        let k = reached_by (node (jump breaks line) n) rest (labelled [] (past_loop rest)) (past_loop rest) (inl refl) refl h in
        (record { after = λ t. cc; jumped = λ t. inl k; exited = λ t. cc }, tt)
    reach_node (jump continues line) n rest h =
        let k = reached_by (node (jump continues line) n) rest (labelled [] (end_of_body rest)) (end_of_body rest) (inl refl) refl h in
        (record { after = λ t. cc; jumped = λ t. inr k; exited = λ t. cc }, tt)
    reach_node (jump returns line) n rest h =
        let k = reached_by (node (jump returns line) n) rest (labelled [] (mark exit ∷ [])) (mark exit ∷ []) (inl refl) refl h in
        (record { after = λ t. cc; jumped = λ t. cc; exited = λ t. k }, tt)
    reach_node (label name line) n rest h =
        let m = reached_by (node (label name line) n) rest (labelled [] (mark n ∷ rest)) (mark n ∷ rest) (inl refl) refl h in
        (onward rest (reached_past n rest m), (m, tt))

    reach_nodes : (ss : Statements) (n : ℕ) (rest : List Item) → Reached (nodes ss n ++ rest)
        → GoesOn (complete ss) (leave_in ss) (return_in ss) rest × AllNumbered AtPoint n (behind_in ss n rest)
    reach_nodes nil n rest h = (onward rest h, tt)
    reach_nodes (cons s more) n rest h =
        let m = n + points_of s in
        let after = nodes more m ++ rest in
        let a = reach_node s n after h in
        let us = behind_of s n after in
        let ws = behind_in more m rest in
        let vs : List Behind = if completes s then ws else unreached (points_in more) in
        let all : AllNumbered AtPoint m vs = numbered_if AtPoint (completes s) m (points_in more) ws
        (λ t. (reach_nodes more m rest (a.0.after t)).1) in (
          goes_both (completes s) (may_leave s) (may_return s) (complete more) (leave_in more) (return_in more) more m rest a.0
              (λ k. (reach_nodes more m rest k).0),
          numbered-append AtPoint n us vs a.1 (subst (λ k. AllNumbered AtPoint (n + k) vs) (sym (behind_count_of s n after)) all),
        )

-- each point of a program that has work after it is reached with this work
pub points_reached : (body : Statements) → AllNumbered (AtPoint (exit_of body) (start_work body)) 0 (behind_points body)
points_reached body =
    let start = start_work body in
    let exit = exit_of body in
    let last_work = mark exit ∷ [] in
    let ws = behind_in body 1 last_work in
    let ends = complete body || return_in body in
    let finish : Behind = if ends then Some [] else None in
    let F = AtPoint exit start in
    let entry : F 0 (nodes body 1 ++ last_work) = ([], here start) in
    let r = reach_nodes exit start body 1 last_work (reached_past exit start 0 (nodes body 1 ++ last_work) entry) in
    let e : exit ≡ 1 + length ws = omega (arith, behind_count_in body 1 last_work) in
    let exits : IsTrue ends → Reached exit start last_work = from_either exit start (complete body) (return_in body)
    (Reached exit start last_work)
    r.0.after r.0.exited in
    let at_exit : OfSome (F exit) finish = goes_at exit start ends exit [] exits in
    let last : AllNumbered F (1 + length ws) (finish ∷ []) = (subst (λ k. OfSome (F k) finish) e at_exit, tt) in
    (entry, numbered-append F 1 ws (finish ∷ []) r.1 last)
