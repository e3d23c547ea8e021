-- The edges of a program end at its points, and their actions are over its variables.
use Rattle.std.proofs.Common.{ℕ, ◌+◌, ◌≤◌, Bool, true, false, List, [], ◌∷◌, ◌++◌, refl, arith}
use Rattle.std.specs.Prelude.{◌&&◌, ◌||◌, IsTrue, nat_le, if◌then◌else◌}
use Rattle.std.specs.List.{list_all}
use Rattle.std.proofs.lemmas.Bool.{and_from, and_parts}
use Rattle.lang_tree.specs.declared.form.Form.{Form}
use Rattle.lang_tree.specs.Tree.{Condition, Deed, sets, havocs, wheres, checks, LoopKind, while_loop, for_loop, do_loop, breaks, continues}
use Rattle.lang_tree.specs.Tree.{returns, leaf_count, node_count, nodes_in}
use Rattle.lang_tree.specs.Tree.{Statement, Statements, set, havoc, assume, only_where, check, branch, loop, jump, label, nil, cons}
use Rattle.lang_tree.specs.Limits.{is_condition, is_tested, is_deed, is_kind, is_statement, are_statements}
use Rattle.lang_tree.specs.Cases.{cases_of}
use Rattle.lang_tree.specs.PointNumbers.{splits, points_of, points_in, join_of, exit_of}
use Rattle.flow_edges.specs.declared.edge.Action.{Action}
use Rattle.flow_edges.specs.declared.edge.Action.TheVariants.{Guard, Assign, Havoc, Check}
use Rattle.flow_edges.specs.declared.edge.Edge.{Edge}
use Rattle.flow_edges.specs.declared.limits.TheConstants.{KEPT}
use Rattle.flow_edges.specs.FlowLimits.{is_action}
use Rattle.flow_edges.specs.Constants.{have_room, deed_room, deeds_room, kind_room, has_rooms, have_rooms}
use Rattle.flow_edges.specs.Steps.{guards}
use Rattle.flow_edges.specs.Edges.{Way, arrived, prefixed, by_case, deeds_ways, test_ways, turn_ways, Jumps, no_jumps, end_ways, loop_jumps}
use Rattle.flow_edges.specs.Edges.{ways_of, ways_in}
use Rattle.flow_edges.specs.Edges.{body_ways, head_ways, complete, completes}
use Rattle.flow_edges.specs.Trails.{begun_at, kept, reached, edges_in_node, edges_in_nodes, kept_edges}
use Rattle.flow_edges.proofs.Each.{Each, each-append, each-map, each-flat_map, each-take}
use Rattle.flow_edges.proofs.constants.FormLimits.{IsForm, cases_forms, condition_room}

-- the condition of a statement
tested : (n : ℕ) (c : Condition) → IsTrue (is_tested n c) → IsTrue (is_condition n c)
tested n c h = (and_parts (nat_le (leaf_count c) 64) (is_condition n c) h).1

-- ---- room for the guards of all conditions
deed_has_room : (n : ℕ) (d : Deed) → IsTrue (is_deed n d) → IsTrue (deed_room d)
deed_has_room n (sets var form line) h = refl
deed_has_room n (havocs var line) h = refl
deed_has_room n (wheres c line) h = condition_room n c (tested n c h)
deed_has_room n (checks about c line) h = condition_room n c (tested n c h)

deeds_have_room : (n : ℕ) (ds : List Deed) → IsTrue (list_all (is_deed n) ds) → IsTrue (deeds_room ds)
deeds_have_room n [] h = refl
deeds_have_room n (d ∷ ds) h =
    let p = and_parts (is_deed n d) (list_all (is_deed n) ds) h in
    and_from (deed_room d) (deeds_room ds) (deed_has_room n d p.0) (deeds_have_room n ds p.1)

kind_has_room : (n : ℕ) (kind : LoopKind) → IsTrue (is_kind n kind) → IsTrue (kind_room kind)
kind_has_room n (while_loop p) h = deeds_have_room n p h
kind_has_room n (for_loop p g) h =
    let q = and_parts (list_all (is_deed n) p) (list_all (is_deed n) g) h in
    and_from (deeds_room p) (deeds_room g) (deeds_have_room n p q.0) (deeds_have_room n g q.1)
kind_has_room n (do_loop p) h = deeds_have_room n p h

mutual
  room_of : (n : ℕ) (i : Bool) (s : Statement) → IsTrue (is_statement n i s) → IsTrue (has_rooms s)
  room_of n i (set var form line) h = refl
  room_of n i (havoc var line) h = refl
  room_of n i (assume c line) h = condition_room n c (tested n c h)
  room_of n i (only_where c line) h = condition_room n c (tested n c h)
  room_of n i (check about c line) h = condition_room n c (tested n c h)
  room_of n i (branch c first second line) h =
      let p = and_parts (is_tested n c) (are_statements n i first && are_statements n i second) h in
      let q = and_parts (are_statements n i first) (are_statements n i second) p.1 in
      and_from (have_room c) (have_rooms first && have_rooms second) (condition_room n c (tested n c p.0))
      (and_from (have_rooms first) (have_rooms second) (room_in n i first q.0) (room_in n i second q.1))
  room_of n i (loop kind c body line) h =
      let p = and_parts (is_tested n c) (is_kind n kind && are_statements n true body) h in
      let q = and_parts (is_kind n kind) (are_statements n true body) p.1 in
      and_from (have_room c) (kind_room kind && have_rooms body) (condition_room n c (tested n c p.0))
      (and_from (kind_room kind) (have_rooms body) (kind_has_room n kind q.0) (room_in n true body q.1))
  room_of n i (jump kind line) h = refl
  room_of n i (label name line) h = refl

  -- all conditions of statements within the limits leave room for their guards
  pub room_in : (n : ℕ) (i : Bool) (ss : Statements) → IsTrue (are_statements n i ss) → IsTrue (have_rooms ss)
  room_in n i nil h = refl
  room_in n i (cons s rest) h =
      let p = and_parts (is_statement n i s) (are_statements n i rest) h in
      and_from (has_rooms s) (have_rooms rest) (room_of n i s p.0) (room_in n i rest p.1)

-- ---- at most one point for each statement
few_if : (b : Bool) → (if b then 1 else 0) ≤ 1
few_if true = omega arith
few_if false = omega arith

mutual
  few_of : (s : Statement) → points_of s ≤ node_count s
  few_of (set var form line) = omega arith
  few_of (havoc var line) = omega arith
  few_of (assume c line) = few_if (splits c)
  few_of (only_where c line) = omega arith
  few_of (check about c line) = omega arith
  few_of (branch c first second line) = omega (arith, few_in first, few_in second)
  few_of (loop kind c body line) = omega (arith, few_in body)
  few_of (jump kind line) = omega arith
  few_of (label name line) = omega arith

  -- statements make at most one point each
  pub few_in : (ss : Statements) → points_in ss ≤ nodes_in ss
  few_in nil = omega arith
  few_in (cons s rest) = omega (arith, few_of s, few_in rest)

-- ---- the actions of ways and edges are over n variables
module _ (n : ℕ) where
  abbrev pub AreActions : List Action → Type 0
  AreActions actions = Each (λ a. IsTrue (is_action n a)) actions

  abbrev pub WayFits : Way → Type 0
  WayFits w = AreActions w.actions

  abbrev pub EdgeFits : Edge → Type 0
  EdgeFits e = AreActions e.actions

  prefixed_fit : (actions : List Action) (ways : List Way) → AreActions actions → Each WayFits ways → Each WayFits (prefixed actions ways)
  prefixed_fit actions ways h k =
      each-map WayFits WayFits (λ w. record { actions = actions ++ w.actions; to = w.to })
      (λ w a. each-append (λ b. IsTrue (is_action n b)) actions w.actions h a) ways k

  guards_fit : (forms : List Form) → Each (IsForm n) forms → AreActions (guards forms)
  guards_fit forms h = each-map (IsForm n) (λ a. IsTrue (is_action n a)) Guard (λ f k. k) forms h

  by_case_fit : (truth : Bool) (c : Condition) (ways : List Way) → IsTrue (is_tested n c) → Each WayFits ways
      → Each WayFits (by_case truth c ways)
  by_case_fit truth c ways h k =
      each-flat_map (Each (IsForm n)) WayFits (λ forms. prefixed (guards forms) ways)
      (λ forms a. prefixed_fit (guards forms) ways (guards_fit forms a) k)
      (cases_of truth c) (cases_forms n truth c (tested n c h))

  if_fit : (b : Bool) (p : ℕ) (next : List Way) → Each WayFits next → Each WayFits (if b then arrived p else next)
  if_fit true p next a = (tt, tt)
  if_fit false p next a = a

  both_fit : (c : Condition) (us vs : List Way) → IsTrue (is_tested n c) → Each WayFits us → Each WayFits vs
      → Each WayFits (by_case true c us ++ by_case false c vs)
  both_fit c us vs h k l = each-append WayFits (by_case true c us) (by_case false c vs) (by_case_fit true c us h k)
      (by_case_fit false c vs h l)

  -- the ways of jumps
  record JumpsFit (jumps : Jumps) : Type 0 where
    -- those by a `break` fit
    pub broken : Each WayFits jumps.broken
    -- those by a `continue` fit
    pub continued : Each WayFits jumps.continued
    -- those by a `return` fit
    pub returned : Each WayFits jumps.returned

  mutual
    ways_fit_of : (i : Bool) (s : Statement) (p : ℕ) (j : Jumps) (next : List Way) → IsTrue (is_statement n i s) → JumpsFit j
        → Each WayFits next →
        Each WayFits (ways_of s p j next)
    ways_fit_of i (set var form line) p j next h k a = prefixed_fit (Assign var form ∷ []) next (h, tt) a
    ways_fit_of i (havoc var line) p j next h k a = prefixed_fit (Havoc var ∷ []) next (h, tt) a
    ways_fit_of i (assume c line) p j next h k a = by_case_fit true c _ h (if_fit (splits c) p next a)
    ways_fit_of i (only_where c line) p j next h k a = by_case_fit true c next h a
    ways_fit_of i (check about c line) p j next h k a = prefixed_fit (Check about ∷ []) next (refl, tt) a
    ways_fit_of i (branch c first second line) p j next h k a =
        let t = and_parts (is_tested n c) (are_statements n i first && are_statements n i second) h in
        let u = and_parts (are_statements n i first) (are_statements n i second) t.1 in
        let join = arrived (join_of first second p) in
        both_fit c (ways_in first p j join) (ways_in second (p + points_in first) j join) t.0
        (ways_fit_in i first p j join u.0 k (tt, tt)) (ways_fit_in i second (p + points_in first) j join u.1 k (tt, tt))
    ways_fit_of i (loop kind c body line) p j next h k a = (tt, tt)
    ways_fit_of i (jump breaks line) p j next h k a = k.broken
    ways_fit_of i (jump continues line) p j next h k a = k.continued
    ways_fit_of i (jump returns line) p j next h k a = k.returned
    ways_fit_of i (label name line) p j next h k a = (tt, tt)

    ways_fit_in : (i : Bool) (ss : Statements) (p : ℕ) (j : Jumps) (next : List Way) → IsTrue (are_statements n i ss) → JumpsFit j
        → Each WayFits next →
        Each WayFits (ways_in ss p j next)
    ways_fit_in i nil p j next h k a = a
    ways_fit_in i (cons s rest) p j next h k a =
        let t = and_parts (is_statement n i s) (are_statements n i rest) h in
        ways_fit_of i s p j (ways_in rest (p + points_of s) j next) t.0 k (ways_fit_in i rest (p + points_of s) j next t.1 k a)

  deeds_fit : (ds : List Deed) (ways : List Way) → IsTrue (list_all (is_deed n) ds) → Each WayFits ways → Each WayFits (deeds_ways ds ways)
  deeds_fit [] ways h a = a
  deeds_fit (sets var form line ∷ ds) ways h a =
      let q = and_parts (is_deed n (sets var form line)) (list_all (is_deed n) ds) h in
      prefixed_fit (Assign var form ∷ []) (deeds_ways ds ways) (q.0, tt) (deeds_fit ds ways q.1 a)
  deeds_fit (havocs var line ∷ ds) ways h a =
      let q = and_parts (is_deed n (havocs var line)) (list_all (is_deed n) ds) h in
      prefixed_fit (Havoc var ∷ []) (deeds_ways ds ways) (q.0, tt) (deeds_fit ds ways q.1 a)
  deeds_fit (wheres c line ∷ ds) ways h a =
      let q = and_parts (is_tested n c) (list_all (is_deed n) ds) h in
      by_case_fit true c (deeds_ways ds ways) q.0 (deeds_fit ds ways q.1 a)
  deeds_fit (checks about c line ∷ ds) ways h a =
      let q = and_parts (is_tested n c) (list_all (is_deed n) ds) h in
      prefixed_fit (Check about ∷ []) (deeds_ways ds ways) (refl, tt) (deeds_fit ds ways q.1 a)

  end_fit : (kind : LoopKind) (c : Condition) (p : ℕ) (next : List Way) → IsTrue (is_tested n c) → IsTrue (is_kind n kind)
      → Each WayFits next →
      Each WayFits (end_ways kind c p next)
  end_fit (while_loop d) c p next h g a = (tt, tt)
  end_fit (for_loop d change) c p next h g a =
      deeds_fit change (arrived p) (and_parts (list_all (is_deed n) d) (list_all (is_deed n) change) g).1 (tt, tt)
  end_fit (do_loop d) c p next h g a = deeds_fit d (test_ways c p next) g (both_fit c (arrived p) next h (tt, tt) a)

  body_fit : (kind : LoopKind) (c : Condition) (body : Statements) (p : ℕ) (next returned : List Way) → IsTrue (is_tested n c)
      → IsTrue (is_kind n kind) →
      IsTrue (are_statements n true body) → Each WayFits next → Each WayFits returned → Each WayFits (body_ways kind c body p next returned)
  body_fit kind c body p next returned h g b a r =
      let end = end_fit kind c p next h g a in
      ways_fit_in true body (p + 1) (loop_jumps kind c p next returned) (end_ways kind c p next) b
      (record { broken = a; continued = end; returned = r }) end

  head_fit : (kind : LoopKind) (c : Condition) (body : Statements) (p : ℕ) (next returned : List Way) → IsTrue (is_tested n c)
      → IsTrue (is_kind n kind) →
      IsTrue (are_statements n true body) → Each WayFits next → Each WayFits returned → Each WayFits (head_ways kind c body p next returned)
  head_fit (while_loop d) c body p next returned h g b a r =
      deeds_fit d (turn_ways (while_loop d) c body p next returned) g (both_fit c (body_ways (while_loop d) c body p next returned) next h
      (body_fit (while_loop d) c body p next returned h g b a r) a)
  head_fit (for_loop d change) c body p next returned h g b a r =
      deeds_fit d (turn_ways (for_loop d change) c body p next returned)
      (and_parts (list_all (is_deed n) d) (list_all (is_deed n) change) g).0
      (both_fit c (body_ways (for_loop d change) c body p next returned) next h
      (body_fit (for_loop d change) c body p next returned h g b a r) a)
  head_fit (do_loop d) c body p next returned h g b a r = body_fit (do_loop d) c body p next returned h g b a r

  reached_fit : (p : ℕ) (ways : List Way) → Each WayFits ways → Each EdgeFits (reached (begun_at p) ways)
  reached_fit p ways k =
      each-map WayFits EdgeFits (λ w. record { from = p; to = w.to; actions = kept w.actions })
      (λ w a. each-take (λ b. IsTrue (is_action n b)) KEPT w.actions a) ways k

  if_edges_fit : (b : Bool) (edges : List Edge) → Each EdgeFits edges → Each EdgeFits (if b then edges else [])
  if_edges_fit true edges a = a
  if_edges_fit false edges a = tt

  mutual
    edges_fit_of : (i : Bool) (s : Statement) (p : ℕ) (j : Jumps) (next : List Way) → IsTrue (is_statement n i s) → JumpsFit j
        → Each WayFits next →
        Each EdgeFits (edges_in_node s p j next)
    edges_fit_of i (set var form line) p j next h k a = tt
    edges_fit_of i (havoc var line) p j next h k a = tt
    edges_fit_of i (assume c line) p j next h k a = if_edges_fit (splits c) (reached (begun_at p) next) (reached_fit p next a)
    edges_fit_of i (only_where c line) p j next h k a = tt
    edges_fit_of i (check about c line) p j next h k a = tt
    edges_fit_of i (branch c first second line) p j next h k a =
        let t = and_parts (is_tested n c) (are_statements n i first && are_statements n i second) h in
        let u = and_parts (are_statements n i first) (are_statements n i second) t.1 in
        let join = join_of first second p in
        each-append EdgeFits (edges_in_nodes first p j (arrived join)) _ (edges_fit_in i first p j (arrived join) u.0 k (tt, tt))
        (each-append EdgeFits (edges_in_nodes second (p + points_in first) j (arrived join)) _
        (edges_fit_in i second (p + points_in first) j (arrived join) u.1 k (tt, tt))
        (if_edges_fit (complete first || complete second) (reached (begun_at join) next) (reached_fit join next a)))
    edges_fit_of i (loop kind c body line) p j next h k a =
        let t = and_parts (is_tested n c) (is_kind n kind && are_statements n true body) h in
        let u = and_parts (is_kind n kind) (are_statements n true body) t.1 in
        let end = end_fit kind c p next t.0 u.0 a in
        let r = j.returned in
        each-append EdgeFits (reached (begun_at p) (head_ways kind c body p next r))
        (edges_in_nodes body (p + 1) (loop_jumps kind c p next r) (end_ways kind c p next))
        (reached_fit p (head_ways kind c body p next r) (head_fit kind c body p next r t.0 u.0 u.1 a k.returned))
        (edges_fit_in true body (p + 1) (loop_jumps kind c p next r) (end_ways kind c p next) u.1
        (record { broken = a; continued = end; returned = k.returned }) end)
    edges_fit_of i (jump kind line) p j next h k a = tt
    edges_fit_of i (label name line) p j next h k a = reached_fit p next a

    edges_fit_in : (i : Bool) (ss : Statements) (p : ℕ) (j : Jumps) (next : List Way) → IsTrue (are_statements n i ss) → JumpsFit j
        → Each WayFits next →
        Each EdgeFits (edges_in_nodes ss p j next)
    edges_fit_in i nil p j next h k a = tt
    edges_fit_in i (cons s rest) p j next h k a =
        let t = and_parts (is_statement n i s) (are_statements n i rest) h in
        let m = p + points_of s in
        each-append EdgeFits (edges_in_node s p j (ways_in rest m j next)) (if completes s then edges_in_nodes rest m j next else [])
        (edges_fit_of i s p j (ways_in rest m j next) t.0 k (ways_fit_in i rest m j next t.1 k a))
        (if_edges_fit (completes s) (edges_in_nodes rest m j next) (edges_fit_in i rest m j next t.1 k a))

  -- the edges of a body within the limits have actions over its variables
  pub edges_fit : (body : Statements) → IsTrue (are_statements n false body) → Each EdgeFits (kept_edges body)
  edges_fit body h =
      let exit = arrived (exit_of body) in
      let jumps = no_jumps exit in
      let none : JumpsFit jumps = record { broken = tt; continued = tt; returned = (tt, tt) } in
      each-append EdgeFits (reached (begun_at 0) (ways_in body 1 jumps exit)) (edges_in_nodes body 1 jumps exit)
      (reached_fit 0 (ways_in body 1 jumps exit) (ways_fit_in false body 1 jumps exit h none (tt, tt)))
      (edges_fit_in false body 1 jumps exit h none (tt, tt))
