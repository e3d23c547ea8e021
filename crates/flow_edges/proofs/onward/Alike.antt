-- Ways that lead to the same edges, whatever is walked before them: those of which the same actions are kept.
use Rattle.std.proofs.Common.{◌≡◌, ◌∙◌, ℕ, ◌+◌, Bool, true, false, List, [], ◌∷◌, ◌++◌, refl, sym, ap₂}
use Rattle.std.specs.Prelude.{◌||◌, if◌then◌else◌}
use Rattle.lang_tree.specs.declared.form.Form.{Form}
use Rattle.lang_tree.specs.Tree.{Condition, Deed, sets, havocs, wheres, checks, LoopKind, while_loop, for_loop, do_loop}
use Rattle.lang_tree.specs.Tree.{breaks, continues, returns}
use Rattle.lang_tree.specs.Tree.{Statement, Statements, set, havoc, assume, only_where, check, branch, loop, jump, label, nil, cons}
use Rattle.lang_tree.specs.Cases.{cases_of}
use Rattle.lang_tree.specs.PointNumbers.{splits, points_of, points_in, join_of}
use Rattle.flow_edges.specs.declared.edge.Action.{Action}
use Rattle.flow_edges.specs.declared.edge.Action.TheVariants.{Assign, Havoc, Check}
use Rattle.flow_edges.specs.declared.edge.Edge.{Edge}
use Rattle.flow_edges.specs.Steps.{guards}
use Rattle.flow_edges.specs.Edges.{Way, arrived, prefixed, by_case, deeds_ways, test_ways, Jumps, end_ways, loop_jumps, ways_of, ways_in}
use Rattle.flow_edges.specs.Edges.{body_ways, head_ways, complete, completes}
use Rattle.flow_edges.specs.Trails.{Begun, begun_at, followed, reached, split, walked, edges_in_node, edges_in_nodes}
use Rattle.flow_edges.proofs.trail.TrailLemmas.{append-kept, reached-append, reached-prefixed, reached-by_case}

-- the ways lead to the same edges, whatever was walked before them
pub record Alike (us vs : List Way) : Type 0 where
  -- from whatever was begun, they reach the same edges
  pub at : (b : Begun) → reached b us ≡ reached b vs

-- ways lead to the same edges as themselves
pub alike_same : (ways : List Way) → Alike ways ways
alike_same ways = record { at = λ b. refl }

-- walked edges keep of the ways what is kept
rewalked : (p : ℕ) (b : Begun) (ways : List Way) → reached b (walked (reached (begun_at p) ways)) ≡ reached b ways
rewalked p b [] = refl
rewalked p b (w ∷ ways) =
    ap₂ (λ a r. let e : Edge = record { from = b.from; to = w.to; actions = a } in e ∷ r) (append-kept b.actions w.actions)
    (rewalked p b ways)

-- the ways that walked edges are lead to the same edges as the ways that they were walked by
pub alike_walked : (p : ℕ) (ways : List Way) → Alike (walked (reached (begun_at p) ways)) ways
alike_walked p ways = record { at = λ b. rewalked p b ways }

alike_prefixed : (actions : List Action) (us vs : List Way) → Alike us vs → Alike (prefixed actions us) (prefixed actions vs)
alike_prefixed actions us vs h = record {
  at = λ b. reached-prefixed b actions us ∙ h.at (followed b actions)
      ∙ sym (reached-prefixed b actions vs);
}

split_alike : (b : Begun) (cases : List (List Form)) (us vs : List Way) → Alike us vs → split b cases us ≡ split b cases vs
split_alike b [] us vs h = refl
split_alike b (forms ∷ cases) us vs h = ap₂ (λ x y. x ++ y) (h.at (followed b (guards forms))) (split_alike b cases us vs h)

alike_by_case : (truth : Bool) (c : Condition) (us vs : List Way) → Alike us vs → Alike (by_case truth c us) (by_case truth c vs)
alike_by_case truth c us vs h =
    record { at = λ b. reached-by_case b truth c us ∙ split_alike b (cases_of truth c) us vs h ∙ sym (reached-by_case b truth c vs) }

alike_append : (us vs xs ys : List Way) → Alike us vs → Alike xs ys → Alike (us ++ xs) (vs ++ ys)
alike_append us vs xs ys h k = record {
  at = λ b. reached-append b us xs ∙ ap₂ (λ x y. x ++ y) (h.at b) (k.at b)
      ∙ sym (reached-append b vs ys);
}

-- a choice between alike ways is alike
pub alike_both : (c : Condition) (us vs xs ys : List Way) → Alike us vs → Alike xs ys
    → Alike (by_case true c us ++ by_case false c xs) (by_case true c vs ++ by_case false c ys)
alike_both c us vs xs ys h k =
    alike_append (by_case true c us) (by_case true c vs) (by_case false c xs) (by_case false c ys) (alike_by_case true c us vs h)
    (alike_by_case false c xs ys k)

alike_if : (b : Bool) (p : ℕ) (us vs : List Way) → Alike us vs → Alike (if b then arrived p else us) (if b then arrived p else vs)
alike_if true p us vs h = alike_same (arrived p)
alike_if false p us vs h = h

-- ---- the ways along statements, where those of jumps and from what comes after are alike
-- the ways of jumps lead to the same edges
pub record AlikeJumps (j k : Jumps) : Type 0 where
  -- those of a `break`
  pub broken : Alike j.broken k.broken
  -- those of a `continue`
  pub continued : Alike j.continued k.continued
  -- those of a `return`
  pub returned : Alike j.returned k.returned

mutual
  alike_of : (s : Statement) (n : ℕ) (j k : Jumps) (us vs : List Way) → AlikeJumps j k → Alike us vs
      → Alike (ways_of s n j us) (ways_of s n k vs)
  alike_of (set var form line) n j k us vs a h = alike_prefixed (Assign var form ∷ []) us vs h
  alike_of (havoc var line) n j k us vs a h = alike_prefixed (Havoc var ∷ []) us vs h
  alike_of (assume c line) n j k us vs a h = alike_by_case true c _ _ (alike_if (splits c) n us vs h)
  alike_of (only_where c line) n j k us vs a h = alike_by_case true c us vs h
  alike_of (check about c line) n j k us vs a h = alike_prefixed (Check about ∷ []) us vs h
  alike_of (branch c first second line) n j k us vs a h =
      let join = arrived (join_of first second n) in
      alike_both c _ _ _ _ (alike_in first n j k join join a (alike_same join))
      (alike_in second (n + points_in first) j k join join a (alike_same join))
  alike_of (loop kind c body line) n j k us vs a h = alike_same (arrived n)
  alike_of (jump breaks line) n j k us vs a h = a.broken
  alike_of (jump continues line) n j k us vs a h = a.continued
  alike_of (jump returns line) n j k us vs a h = a.returned
  alike_of (label name line) n j k us vs a h = alike_same (arrived n)

  -- with alike ways of jumps and alike ways onward, the ways along statements are alike
  pub alike_in : (ss : Statements) (n : ℕ) (j k : Jumps) (us vs : List Way) → AlikeJumps j k → Alike us vs
      → Alike (ways_in ss n j us) (ways_in ss n k vs)
  alike_in nil n j k us vs a h = h
  alike_in (cons s rest) n j k us vs a h =
      alike_of s n j k (ways_in rest (n + points_of s) j us) (ways_in rest (n + points_of s) k vs) a
      (alike_in rest (n + points_of s) j k us vs a h)

-- with alike ways onward, the ways along deeds are alike
pub alike_deeds : (ds : List Deed) (us vs : List Way) → Alike us vs → Alike (deeds_ways ds us) (deeds_ways ds vs)
alike_deeds [] us vs h = h
alike_deeds (sets var form line ∷ ds) us vs h = alike_prefixed (Assign var form ∷ []) (deeds_ways ds us) (deeds_ways ds vs)
    (alike_deeds ds us vs h)
alike_deeds (havocs var line ∷ ds) us vs h = alike_prefixed (Havoc var ∷ []) (deeds_ways ds us) (deeds_ways ds vs) (alike_deeds ds us vs h)
alike_deeds (wheres c line ∷ ds) us vs h = alike_by_case true c (deeds_ways ds us) (deeds_ways ds vs) (alike_deeds ds us vs h)
alike_deeds (checks about c line ∷ ds) us vs h = alike_prefixed (Check about ∷ []) (deeds_ways ds us) (deeds_ways ds vs)
    (alike_deeds ds us vs h)

alike_test : (c : Condition) (n : ℕ) (us vs : List Way) → Alike us vs → Alike (test_ways c n us) (test_ways c n vs)
alike_test c n us vs h = alike_both c (arrived n) (arrived n) us vs (alike_same (arrived n)) h

alike_end : (kind : LoopKind) (c : Condition) (n : ℕ) (us vs : List Way) → Alike us vs → Alike (end_ways kind c n us) (end_ways kind c n vs)
alike_end (while_loop p) c n us vs h = alike_same (arrived n)
alike_end (for_loop p g) c n us vs h = alike_same (deeds_ways g (arrived n))
alike_end (do_loop p) c n us vs h = alike_deeds p (test_ways c n us) (test_ways c n vs) (alike_test c n us vs h)

alike_jumps : (kind : LoopKind) (c : Condition) (n : ℕ) (us vs x y : List Way) → Alike us vs → Alike x y
    → AlikeJumps (loop_jumps kind c n us x) (loop_jumps kind c n vs y)
alike_jumps kind c n us vs x y h back = record { broken = h; continued = alike_end kind c n us vs h; returned = back }

alike_body : (kind : LoopKind) (c : Condition) (body : Statements) (n : ℕ) (us vs x y : List Way) → Alike us vs → Alike x y
    → Alike (body_ways kind c body n us x) (body_ways kind c body n vs y)
alike_body kind c body n us vs x y h back =
    alike_in body (n + 1) (loop_jumps kind c n us x) (loop_jumps kind c n vs y) (end_ways kind c n us) (end_ways kind c n vs)
    (alike_jumps kind c n us vs x y h back)
    (alike_end kind c n us vs h)

alike_into : (kind : LoopKind) (c : Condition) (body : Statements) (n : ℕ) (us vs x y : List Way) → Alike us vs → Alike x y
    → Alike (by_case true c (body_ways kind c body n us x) ++ by_case false c us)
    (by_case true c (body_ways kind c body n vs y) ++ by_case false c vs)
alike_into kind c body n us vs x y h back = alike_both c (body_ways kind c body n us x) (body_ways kind c body n vs y) us vs
    (alike_body kind c body n us vs x y h back) h

alike_head : (kind : LoopKind) (c : Condition) (body : Statements) (n : ℕ) (us vs x y : List Way) → Alike us vs → Alike x y
    → Alike (head_ways kind c body n us x) (head_ways kind c body n vs y)
alike_head (while_loop p) c body n us vs x y h back = alike_deeds p _ _ (alike_into (while_loop p) c body n us vs x y h back)
alike_head (for_loop p g) c body n us vs x y h back = alike_deeds p _ _ (alike_into (for_loop p g) c body n us vs x y h back)
alike_head (do_loop p) c body n us vs x y h back = alike_body (do_loop p) c body n us vs x y h back

-- ---- the edges from the points of statements
edges_if : (b : Bool) (xs ys : List Edge) → xs ≡ ys → (if b then xs else []) ≡ (if b then ys else [])
edges_if true xs ys e = e
edges_if false xs ys e = refl

mutual
  -- with alike ways of jumps and alike ways onward, a statement makes the same edges
  pub edges_alike_of : (s : Statement) (n : ℕ) (j k : Jumps) (us vs : List Way) → AlikeJumps j k → Alike us vs
      → edges_in_node s n j us ≡ edges_in_node s n k vs
  edges_alike_of (set var form line) n j k us vs a h = refl
  edges_alike_of (havoc var line) n j k us vs a h = refl
  edges_alike_of (assume c line) n j k us vs a h = edges_if (splits c) (reached (begun_at n) us) (reached (begun_at n) vs)
      (h.at (begun_at n))
  edges_alike_of (only_where c line) n j k us vs a h = refl
  edges_alike_of (check about c line) n j k us vs a h = refl
  edges_alike_of (branch c first second line) n j k us vs a h =
      let join = join_of first second n in
      let same = alike_same (arrived join) in
      ap₂ (λ x y. x ++ y) (edges_alike_in first n j k (arrived join) (arrived join) a same)
      (ap₂ (λ x y. x ++ y) (edges_alike_in second (n + points_in first) j k (arrived join) (arrived join) a same)
      (edges_if (complete first || complete second) (reached (begun_at join) us) (reached (begun_at join) vs) (h.at (begun_at join))))
  edges_alike_of (loop kind c body line) n j k us vs a h =
      ap₂ (λ x y. x ++ y) ((alike_head kind c body n us vs j.returned k.returned h a.returned).at (begun_at n))
      (edges_alike_in body (n + 1) (loop_jumps kind c n us j.returned) (loop_jumps kind c n vs k.returned) (end_ways kind c n us)
      (end_ways kind c n vs)
      (alike_jumps kind c n us vs j.returned k.returned h a.returned)
      (alike_end kind c n us vs h))
  edges_alike_of (jump kind line) n j k us vs a h = refl
  edges_alike_of (label name line) n j k us vs a h = h.at (begun_at n)

  -- with alike ways of jumps and alike ways onward, statements make the same edges
  pub edges_alike_in : (ss : Statements) (n : ℕ) (j k : Jumps) (us vs : List Way) → AlikeJumps j k → Alike us vs
      → edges_in_nodes ss n j us ≡ edges_in_nodes ss n k vs
  edges_alike_in nil n j k us vs a h = refl
  edges_alike_in (cons s rest) n j k us vs a h =
      let m = n + points_of s in
      ap₂ (λ x y. x ++ y) (edges_alike_of s n j k (ways_in rest m j us) (ways_in rest m k vs) a (alike_in rest m j k us vs a h))
      (edges_if (completes s) (edges_in_nodes rest m j us) (edges_in_nodes rest m k vs) (edges_alike_in rest m j k us vs a h))
