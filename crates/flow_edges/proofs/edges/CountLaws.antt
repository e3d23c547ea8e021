-- The numbers of ways and edges are the lengths of their lists.
use Rattle.std.proofs.Common.{◌≡◌, ◌∙◌, ℕ, ◌+◌, ◌*◌, Bool, true, false, List, [], ◌∷◌, ◌++◌, length, min, refl, sym, ap, ap₂, arith}
use Rattle.std.proofs.Common.{length-append}
use Rattle.std.specs.Prelude.{◌||◌, if◌then◌else◌, flat_map}
use Rattle.std.proofs.lemmas.List.{length-map}
use Rattle.lang_tree.specs.declared.form.Form.{Form}
use Rattle.lang_tree.specs.Tree.{Condition, Deed, sets, havocs, wheres, checks, LoopKind, while_loop, for_loop, do_loop, breaks, continues}
use Rattle.lang_tree.specs.Tree.{returns}
use Rattle.lang_tree.specs.Tree.{Statement, Statements, set, havoc, assume, only_where, check, branch, loop, jump, label, nil, cons}
use Rattle.lang_tree.specs.Cases.{cases_of}
use Rattle.lang_tree.specs.PointNumbers.{splits, points_of, points_in, join_of, exit_of}
use Rattle.flow_edges.specs.declared.edge.Action.{Action}
use Rattle.flow_edges.specs.declared.edge.Action.TheVariants.{Assign, Havoc, Check}
use Rattle.flow_edges.specs.declared.edge.Edge.{Edge}
use Rattle.flow_edges.specs.Steps.{guards}
use Rattle.flow_edges.specs.declared.edge_count.JumpCounts.{JumpCounts}
use Rattle.flow_edges.specs.Edges.{Way, arrived, prefixed, by_case, deeds_ways, test_ways, Jumps, no_jumps, end_ways, loop_jumps, ways_of}
use Rattle.flow_edges.specs.Edges.{ways_in}
use Rattle.flow_edges.specs.Edges.{body_ways, head_ways, complete, completes, edges_of_program}
use Rattle.flow_edges.specs.Trails.{Begun, begun_at, kept, kept_edge, reached, edges_in_node, edges_in_nodes}
use Rattle.flow_edges.specs.Counts.{case_count, deeds_count, test_count, no_jump_counts, end_count, loop_jump_counts, way_count_of}
use Rattle.flow_edges.specs.Counts.{way_count_in, body_count}
use Rattle.flow_edges.specs.Counts.{turn_count, head_count, edge_count_of, edge_count_in, edge_count}
use Rattle.flow_edges.proofs.edges.Trailing.{walked_program}

length-prefixed : (actions : List Action) (ways : List Way) → length (prefixed actions ways) ≡ length ways
length-prefixed actions ways = length-map ways (λ w. let v : Way = record { actions = actions ++ w.actions; to = w.to } in v)

length-cases : (cases : List (List Form)) (ways : List Way) → length (flat_map (λ forms. prefixed (guards forms) ways) cases)
    ≡ length cases * length ways
length-cases [] ways = omega arith
length-cases (forms ∷ cases) ways =
    omega (
      arith,
      length-append (prefixed (guards forms) ways) (flat_map (λ f. prefixed (guards f) ways) cases),
      length-prefixed (guards forms) ways,
      length-cases cases ways,
    )

length-by_case : (truth : Bool) (c : Condition) (ways : List Way) (k : ℕ) → length ways ≡ k
    → length (by_case truth c ways) ≡ case_count truth c * k
length-by_case truth c ways k e = length-cases (cases_of truth c) ways ∙ ap (λ z. case_count truth c * z) e

length-if : (b : Bool) (us vs : List Way) (k l : ℕ) → length us ≡ k → length vs ≡ l → length (if b then us else vs) ≡ (if b then k else l)
length-if true us vs k l e f = e
length-if false us vs k l e f = f

length-both : (c : Condition) (us vs : List Way) (k l : ℕ) → length us ≡ k → length vs ≡ l →
    length (by_case true c us ++ by_case false c vs) ≡ case_count true c * k + case_count false c * l
length-both c us vs k l e f =
    length-append (by_case true c us) (by_case false c vs) ∙ ap₂ (λ x y. x + y) (length-by_case true c us k e)
    (length-by_case false c vs l f)

-- ---- the number of ways, from the numbers of those of jumps and from what comes after
record Counted (jumps : Jumps) (counts : JumpCounts) : Type 0 where
  -- those by a `break`
  pub broken : length jumps.broken ≡ counts.broken
  -- those by a `continue`
  pub continued : length jumps.continued ≡ counts.continued
  -- the one by a `return`
  pub returned : length jumps.returned ≡ 1

mutual
  count_of : (s : Statement) (n : ℕ) (j : Jumps) (d : JumpCounts) (next : List Way) (k : ℕ) → Counted j d → length next ≡ k
      → length (ways_of s n j next) ≡ way_count_of s d k
  count_of (set var form line) n j d next k a e = length-prefixed (Assign var form ∷ []) next ∙ e
  count_of (havoc var line) n j d next k a e = length-prefixed (Havoc var ∷ []) next ∙ e
  count_of (assume c line) n j d next k a e = length-by_case true c _ _ (length-if (splits c) (arrived n) next 1 k refl e)
  count_of (only_where c line) n j d next k a e = length-by_case true c next k e
  count_of (check about c line) n j d next k a e = length-prefixed (Check about ∷ []) next ∙ e
  count_of (branch c first second line) n j d next k a e =
      let join = arrived (join_of first second n) in
      length-both c _ _ _ _ (count_in first n j d join 1 a refl) (count_in second (n + points_in first) j d join 1 a refl)
  count_of (loop kind c body line) n j d next k a e = refl
  count_of (jump breaks line) n j d next k a e = a.broken
  count_of (jump continues line) n j d next k a e = a.continued
  count_of (jump returns line) n j d next k a e = a.returned
  count_of (label name line) n j d next k a e = refl

  count_in : (ss : Statements) (n : ℕ) (j : Jumps) (d : JumpCounts) (next : List Way) (k : ℕ) → Counted j d → length next ≡ k
      → length (ways_in ss n j next) ≡ way_count_in ss d k
  count_in nil n j d next k a e = e
  count_in (cons s rest) n j d next k a e = count_of s n j d (ways_in rest (n + points_of s) j next) _ a
      (count_in rest (n + points_of s) j d next k a e)

deeds_counted : (ds : List Deed) (next : List Way) (k : ℕ) → length next ≡ k → length (deeds_ways ds next) ≡ deeds_count ds k
deeds_counted [] next k e = e
deeds_counted (sets var form line ∷ ds) next k e = length-prefixed (Assign var form ∷ []) (deeds_ways ds next) ∙ deeds_counted ds next k e
deeds_counted (havocs var line ∷ ds) next k e = length-prefixed (Havoc var ∷ []) (deeds_ways ds next) ∙ deeds_counted ds next k e
deeds_counted (wheres c line ∷ ds) next k e = length-by_case true c (deeds_ways ds next) _ (deeds_counted ds next k e)
deeds_counted (checks about c line ∷ ds) next k e = length-prefixed (Check about ∷ []) (deeds_ways ds next) ∙ deeds_counted ds next k e

test_counted : (c : Condition) (n : ℕ) (next : List Way) (k : ℕ) → length next ≡ k → length (test_ways c n next) ≡ test_count c k
test_counted c n next k e =
    length-both c (arrived n) next 1 k refl e ∙ (let f : case_count true c * 1 + case_count false c * k
    ≡ case_count true c + case_count false c * k = omega arith in f)

end_counted : (kind : LoopKind) (c : Condition) (n : ℕ) (next : List Way) (k : ℕ) → length next ≡ k
    → length (end_ways kind c n next) ≡ end_count kind c k
end_counted (while_loop p) c n next k e = refl
end_counted (for_loop p g) c n next k e = deeds_counted g (arrived n) 1 refl
end_counted (do_loop p) c n next k e = deeds_counted p (test_ways c n next) (test_count c k) (test_counted c n next k e)

-- with the ways of a `return`
module _ (back : List Way) (one : length back ≡ 1) where
  jumps_counted : (kind : LoopKind) (c : Condition) (n : ℕ) (next : List Way) (k : ℕ) → length next ≡ k
      → Counted (loop_jumps kind c n next back) (loop_jump_counts kind c k)
  jumps_counted kind c n next k e = record { broken = e; continued = end_counted kind c n next k e; returned = one }

  body_counted : (kind : LoopKind) (c : Condition) (body : Statements) (n : ℕ) (next : List Way) (k : ℕ) → length next ≡ k
      → length (body_ways kind c body n next back) ≡ body_count kind c body k
  body_counted kind c body n next k e =
      count_in body (n + 1) (loop_jumps kind c n next back) (loop_jump_counts kind c k) (end_ways kind c n next) (end_count kind c k)
      (jumps_counted kind c n next k e)
      (end_counted kind c n next k e)

  into_counted : (kind : LoopKind) (c : Condition) (body : Statements) (n : ℕ) (next : List Way) (k : ℕ) → length next ≡ k
      → length (by_case true c (body_ways kind c body n next back) ++ by_case false c next) ≡ turn_count kind c body k
  into_counted kind c body n next k e = length-both c (body_ways kind c body n next back) next _ k (body_counted kind c body n next k e) e

  head_counted : (kind : LoopKind) (c : Condition) (body : Statements) (n : ℕ) (next : List Way) (k : ℕ) → length next ≡ k
      → length (head_ways kind c body n next back) ≡ head_count kind c body k
  head_counted (while_loop p) c body n next k e = deeds_counted p _ _ (into_counted (while_loop p) c body n next k e)
  head_counted (for_loop p g) c body n next k e = deeds_counted p _ _ (into_counted (for_loop p g) c body n next k e)
  head_counted (do_loop p) c body n next k e = body_counted (do_loop p) c body n next k e

-- ---- edges
length-reached : (b : Begun) (ways : List Way) (k : ℕ) → length ways ≡ k → length (reached b ways) ≡ k
length-reached b ways k e = length-map ways (λ w. let r : Edge = record {
  from = b.from;
  to = w.to;
  actions =
      kept (b.actions ++ w.actions);
} in r) ∙ e

length-if_edges : (b : Bool) (edges : List Edge) (k : ℕ) → length edges ≡ k → length (if b then edges else []) ≡ (if b then k else 0)
length-if_edges true edges k e = e
length-if_edges false edges k e = refl

joined : (xs ys : List Edge) (k l : ℕ) → length xs ≡ k → length ys ≡ l → length (xs ++ ys) ≡ k + l
joined xs ys k l e f = length-append xs ys ∙ ap₂ (λ x y. x + y) e f

mutual
  edges_of_node : (s : Statement) (n : ℕ) (j : Jumps) (d : JumpCounts) (next : List Way) (k : ℕ) → Counted j d → length next ≡ k →
      length (edges_in_node s n j next) ≡ edge_count_of s d k
  edges_of_node (set var form line) n j d next k a e = refl
  edges_of_node (havoc var line) n j d next k a e = refl
  edges_of_node (assume c line) n j d next k a e = length-if_edges (splits c) (reached (begun_at n) next) k
      (length-reached (begun_at n) next k e)
  edges_of_node (only_where c line) n j d next k a e = refl
  edges_of_node (check about c line) n j d next k a e = refl
  edges_of_node (branch c first second line) n j d next k a e =
      let join = join_of first second n in
      joined (edges_in_nodes first n j (arrived join)) _ _ _ (edges_of_nodes first n j d (arrived join) 1 a refl)
      (joined (edges_in_nodes second (n + points_in first) j (arrived join)) _ _ _
      (edges_of_nodes second (n + points_in first) j d (arrived join) 1 a refl)
      (length-if_edges (complete first || complete second) (reached (begun_at join) next) k (length-reached (begun_at join) next k e)))
  edges_of_node (loop kind c body line) n j d next k a e =
      let back = j.returned in
      joined _ (edges_in_nodes body (n + 1) (loop_jumps kind c n next back) (end_ways kind c n next)) _ _
      (length-reached (begun_at n) (head_ways kind c body n next back) _ (head_counted back a.returned kind c body n next k e))
      (edges_of_nodes body (n + 1) (loop_jumps kind c n next back) (loop_jump_counts kind c k) (end_ways kind c n next) (end_count kind c k)
      (jumps_counted back a.returned kind c n next k e)
      (end_counted kind c n next k e))
  edges_of_node (jump kind line) n j d next k a e = refl
  edges_of_node (label name line) n j d next k a e = length-reached (begun_at n) next k e

  edges_of_nodes : (ss : Statements) (n : ℕ) (j : Jumps) (d : JumpCounts) (next : List Way) (k : ℕ) → Counted j d → length next ≡ k →
      length (edges_in_nodes ss n j next) ≡ edge_count_in ss d k
  edges_of_nodes nil n j d next k a e = refl
  edges_of_nodes (cons s rest) n j d next k a e =
      joined (edges_in_node s n j _) _ _ _
      (edges_of_node s n j d (ways_in rest (n + points_of s) j next) _ a (count_in rest (n + points_of s) j d next k a e))
      (length-if_edges (completes s) (edges_in_nodes rest (n + points_of s) j next) _
      (edges_of_nodes rest (n + points_of s) j d next k a e))

-- as many edges as are counted
pub counted_edges : (body : Statements) → edge_count body ≡ length (edges_of_program body)
counted_edges body =
    let exit = arrived (exit_of body) in
    let jumps = no_jumps exit in
    let none : Counted jumps no_jump_counts = record { broken = refl; continued = refl; returned = refl } in
    sym (joined (reached (begun_at 0) (ways_in body 1 jumps exit)) (edges_in_nodes body 1 jumps exit) _ _
    (length-reached (begun_at 0) (ways_in body 1 jumps exit) _ (count_in body 1 jumps no_jump_counts exit 1 none refl))
    (edges_of_nodes body 1 jumps no_jump_counts exit 1 none refl))
    ∙ ap length (walked_program body) ∙ length-map (edges_of_program body) kept_edge

-- the capped count of a program's edges is the capped length of their list
pub counted_up_to : (body : Statements) (r limit : ℕ) → r ≡ min (edge_count body) limit → r ≡ min (length (edges_of_program body)) limit
counted_up_to body r limit e = e ∙ ap (λ k. min k limit) (counted_edges body)
