-- The edges of a program as they are walked are its edges, with the actions of each that are kept.
use Rattle.std.proofs.Common.{◌≡◌, ◌∙◌, ℕ, zero, suc, ◌+◌, Bool, true, false, List, [], ◌∷◌, ◌++◌, length, map, refl, sym, ap, ap₂, arith}
use Rattle.std.proofs.Common.{append_assoc}
use Rattle.std.specs.Prelude.{◌||◌, Some, None, if◌then◌else◌}
use Rattle.std.proofs.lemmas.List.{map-append, append-nil}
use Rattle.lang_tree.specs.Tree.{Statement, Statements, set, havoc, assume, only_where, check, branch, loop, jump, label, nil, cons}
use Rattle.lang_tree.specs.PointNumbers.{splits, points_of, points_in, join_of, exit_of}
use Rattle.lang_tree.specs.Runs.{Item, mark, end, nodes, head_work}
use Rattle.flow_edges.specs.declared.edge.Edge.{Edge}
use Rattle.flow_edges.specs.Edges.{Way, arrived, no_jumps, loop_jumps, end_ways, head_ways, ways_from, jumps_from, Behind, complete}
use Rattle.flow_edges.specs.Edges.{completes}
use Rattle.flow_edges.specs.Edges.{return_in, unreached}
use Rattle.flow_edges.specs.Edges.{behind_of, behind_in, ways_behind, edges_from, edges_of_program}
use Rattle.flow_edges.specs.Trails.{kept, begun_at, reached, edges_in_node, edges_in_nodes, kept_edges, kept_edge}
use Rattle.flow_edges.proofs.edges.WaysLaw.{jumps-nodes, returned-is, ways-nodes, ways-head}
use Rattle.flow_edges.proofs.steps.Walk.{behind_count_of, behind_count_in}

abbrev at : ℕ → List Way → List Edge
at p ways = map (λ w. record { from = p; to = w.to; actions = w.actions }) ways

-- every edge with the actions that are kept of it
abbrev cut : List Edge → List Edge
cut edges = map kept_edge edges

reached-at : (p : ℕ) (ways : List Way) → cut (at p ways) ≡ reached (begun_at p) ways
reached-at p [] = refl
reached-at p (w ∷ ways) = ap (λ r. record { from = p; to = w.to; actions = kept w.actions } ∷ r) (reached-at p ways)

module _ (exit : ℕ) where
  edges-append : (p : ℕ) (us ws : List Behind) → edges_from exit p (us ++ ws) ≡ edges_from exit p us ++ edges_from exit (p + length us) ws
  edges-append p [] ws = let e : p ≡ p + 0 = omega arith in ap (λ k. edges_from exit k ws) e
  edges-append p (u ∷ us) ws =
      let e : suc p + length us ≡ p + suc (length us) = omega arith in
      ap (λ r. at p (ways_behind exit u) ++ r) (edges-append (suc p) us ws ∙ ap (λ k. edges_from exit (suc p) us ++ edges_from exit k ws) e)
      ∙ sym (append_assoc (at p (ways_behind exit u)) (edges_from exit (suc p) us) (edges_from exit (p + suc (length us)) ws))

  -- two parts, where the second begins with the point q
  joined : (p q : ℕ) (us ws : List Behind) (a b : List Edge) → p + length us ≡ q → cut (edges_from exit p us) ≡ a
      → cut (edges_from exit q ws) ≡ b
      → cut (edges_from exit p (us ++ ws)) ≡ a ++ b
  joined p q us ws a b e f g =
      ap cut (edges-append p us ws ∙ ap (λ k. edges_from exit p us ++ edges_from exit k ws) e)
      ∙ map-append kept_edge (edges_from exit p us) (edges_from exit q ws) ∙ ap₂ (λ u v. u ++ v) f g

  one-point : (p : ℕ) (work : List Item) → cut (edges_from exit p (Some work ∷ [])) ≡ reached (begun_at p) (ways_from exit work)
  one-point p work = ap cut (append-nil (at p (ways_from exit work))) ∙ reached-at p (ways_from exit work)

  first-point : (p : ℕ) (work : List Item) (more : List Behind) (b : List Edge) → cut (edges_from exit (suc p) more) ≡ b →
      cut (edges_from exit p (Some work ∷ more)) ≡ reached (begun_at p) (ways_from exit work) ++ b
  first-point p work more b h =
      map-append kept_edge (at p (ways_from exit work)) (edges_from exit (suc p) more)
      ∙ ap₂ (λ u v. u ++ v) (reached-at p (ways_from exit work)) h

  if-point : (b : Bool) (p : ℕ) (work : List Item) → cut (edges_from exit p (if b then Some work ∷ [] else []))
      ≡ (if b then reached (begun_at p) (ways_from exit work) else [])
  if-point true p work = one-point p work
  if-point false p work = refl

  join-point : (b : Bool) (p : ℕ) (work : List Item) →
      cut (edges_from exit p ((if b then Some work else None) ∷ [])) ≡ (if b then reached (begun_at p) (ways_from exit work) else [])
  join-point true p work = one-point p work
  join-point false p work = refl

  exit-point : (b : Bool) (p : ℕ) → cut (edges_from exit p ((if b then Some [] else None) ∷ [])) ≡ []
  exit-point true p = refl
  exit-point false p = refl

  unreached-points : (p k : ℕ) → cut (edges_from exit p (unreached k)) ≡ []
  unreached-points p zero = refl
  unreached-points p (suc k) = unreached-points (suc p) k

  -- the points after a statement, which are reached where it completes
  later-points : (b : Bool) (p k : ℕ) (ws : List Behind) (edges : List Edge) → cut (edges_from exit p ws) ≡ edges →
      cut (edges_from exit p (if b then ws else unreached k)) ≡ (if b then edges else [])
  later-points true p k ws edges e = e
  later-points false p k ws edges e = unreached-points p k

  mutual
    walked_of : (s : Statement) (n : ℕ) (rest : List Item) → cut (edges_from exit n (behind_of s n rest))
        ≡ edges_in_node s n (jumps_from exit rest) (ways_from exit rest)
    walked_of (set var form line) n rest = refl
    walked_of (havoc var line) n rest = refl
    walked_of (assume c line) n rest = if-point (splits c) n rest
    walked_of (only_where c line) n rest = refl
    walked_of (check about c line) n rest = refl
    walked_of (branch c first second line) n rest =
        let join = join_of first second n in
        let work = mark join ∷ rest in
        let b = complete first || complete second in
        let one : List Behind = (if b then Some rest else None) ∷ [] in
        let p : n + length (behind_in first n work) ≡ n + points_in first = omega (arith, behind_count_in first n work) in
        let q : n + points_in first + length (behind_in second (n + points_in first) work) ≡ join =
        omega (arith, behind_count_in second (n + points_in first) work) in
        joined n (n + points_in first) (behind_in first n work) (behind_in second (n + points_in first) work ++ one) _ _ p
        (walked_in first n work)
        (joined (n + points_in first) join (behind_in second (n + points_in first) work) one _ _ q
        (walked_in second (n + points_in first) work) (join-point b join rest))
    walked_of (loop kind c body line) n rest =
        let work = head_work kind c body line n rest in
        let turned = end kind c body line n ∷ rest in
        let inner = edges_in_nodes body (n + 1) (jumps_from exit turned) (ways_from exit turned) in
        let e : suc n ≡ n + 1 = omega arith in
        first-point n work (behind_in body (n + 1) turned) inner (ap (λ k. cut (edges_from exit k (behind_in body (n + 1) turned))) e
        ∙ walked_in body (n + 1) turned)
        ∙ ap (λ ways. reached (begun_at n) ways ++ inner) (ways-head exit kind c body line n rest)
        ∙ ap (λ returned. reached (begun_at n) (head_ways kind c body n (ways_from exit rest) returned)
        ++ edges_in_nodes body (n + 1) (loop_jumps kind c n (ways_from exit rest) returned) (end_ways kind c n (ways_from exit rest)))
        (sym (returned-is exit rest))
    walked_of (jump kind line) n rest = refl
    walked_of (label name line) n rest = one-point n rest

    walked_in : (ss : Statements) (n : ℕ) (rest : List Item) → cut (edges_from exit n (behind_in ss n rest))
        ≡ edges_in_nodes ss n (jumps_from exit rest) (ways_from exit rest)
    walked_in nil n rest = refl
    walked_in (cons s more) n rest =
        let m = n + points_of s in
        let after = nodes more m ++ rest in
        let ws = behind_in more m rest in
        let later : List Behind = if completes s then ws else unreached (points_in more) in
        let e : n + length (behind_of s n after) ≡ m = omega (arith, behind_count_of s n after) in
        joined n m (behind_of s n after) later _ _ e
        (walked_of s n after ∙ ap₂ (edges_in_node s n) (jumps-nodes exit more m rest) (ways-nodes exit more m rest))
        (later-points (completes s) m (points_in more) ws _ (walked_in more m rest))

-- the edges that are walked are the program's edges, each with the actions that are kept of it
pub walked_program : (body : Statements) → kept_edges body ≡ cut (edges_of_program body)
walked_program body =
    let exit = exit_of body in
    let rest = mark exit ∷ [] in
    let ws = behind_in body 1 rest in
    let finish : List Behind = (if complete body || return_in body then Some [] else None) ∷ [] in
    let inner = edges_in_nodes body 1 (no_jumps (arrived exit)) (arrived exit) in
    let e : 1 + length ws ≡ exit = omega (arith, behind_count_in body 1 rest) in
    let tail = joined exit 1 exit ws finish _ [] e (walked_in exit body 1 rest) (exit-point exit (complete body || return_in body) exit) in
    sym (first-point exit 0 (nodes body 1 ++ rest) (ws ++ finish) _ (tail ∙ append-nil inner)
    ∙ ap (λ ways. reached (begun_at 0) ways ++ inner) (ways-nodes exit body 1 rest))
