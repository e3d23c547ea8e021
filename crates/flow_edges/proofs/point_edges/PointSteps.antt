-- The edges from the points of a loop.
use Rattle.std.proofs.Common.{◌≡◌, ◌∙◌, ℕ, ◌+◌, true, false, List, ◌++◌, sym, ap, ap₂}
use Rattle.lang_tree.specs.Tree.{Condition, Deed, LoopKind, for_loop, do_loop, Statement, Statements, loop}
use Rattle.flow_edges.specs.declared.edge.Edge.{Edge}
use Rattle.flow_edges.specs.declared.onward.JumpEdges.{JumpEdges}
use Rattle.flow_edges.specs.Edges.{Way, arrived, by_case, deeds_ways, Jumps, end_ways, loop_jumps, body_ways, ways_in}
use Rattle.flow_edges.specs.Trails.{begun_at, reached, walked, jumps_of, ways_by_turn, edges_in_node, edges_in_nodes, edges_in_loop}
use Rattle.flow_edges.proofs.onward.Alike.{Alike, AlikeJumps, alike_same, alike_walked, alike_in, alike_deeds, alike_both, edges_alike_of}
use Rattle.flow_edges.proofs.onward.Alike.{edges_alike_in}

-- those past the loop may have been walked already
pub looped : (before after : List Edge) (s : Statement) (kind : LoopKind) (c : Condition) (body : Statements) (line n : ℕ) (jumps : Jumps)
    (next : List Way) (broken : List Edge) →
    s ≡ loop kind c body line → broken ≡ reached (begun_at n) next → after ≡ before ++ edges_in_loop s n (walked broken) jumps.returned
    → after ≡ before ++ edges_in_node s n jumps next
looped before after s kind c body line n jumps next broken e p h =
    let same : AlikeJumps jumps jumps = record {
      broken = alike_same jumps.broken;
      continued = alike_same jumps.continued;
      returned = alike_same jumps.returned;
    } in
    let edges : edges_in_loop s n (walked broken) jumps.returned ≡ edges_in_node s n jumps next =
    ap (λ t. edges_in_loop t n (walked broken) jumps.returned) e ∙ ap (λ es. edges_in_node (loop kind c body line) n jumps (walked es)) p
    ∙ edges_alike_of (loop kind c body line) n jumps jumps (walked (reached (begun_at n) next)) next same (alike_walked n next)
    ∙ ap (λ t. edges_in_node t n jumps next) (sym e) in
    h ∙ ap (λ z. before ++ z) edges

-- the ways from the end of a loop's body are those that have been walked
module _ (kind : LoopKind) (c : Condition) (body : Statements) (n : ℕ) (jumps : JumpEdges)
    (ended : Alike (walked jumps.continued) (end_ways kind c n (walked jumps.broken))) where
  abbrev next : List Way
  next = walked jumps.broken

  abbrev back : List Way
  back = arrived jumps.exit

  alike_inside : AlikeJumps (jumps_of jumps) (loop_jumps kind c n next back)
  alike_inside = record { broken = alike_same next; continued = ended; returned = alike_same back }

  alike_through : Alike (ways_in body (n + 1) (jumps_of jumps) (walked jumps.continued)) (body_ways kind c body n next back)
  alike_through = alike_in body (n + 1) (jumps_of jumps) (loop_jumps kind c n next back) (walked jumps.continued) (end_ways kind c n next)
      alike_inside ended

  edges_inside : edges_in_nodes body (n + 1) (jumps_of jumps) (walked jumps.continued)
      ≡ edges_in_nodes body (n + 1) (loop_jumps kind c n next back) (end_ways kind c n next)
  edges_inside = edges_alike_in body (n + 1) (jumps_of jumps) (loop_jumps kind c n next back) (walked jumps.continued)
      (end_ways kind c n next) alike_inside ended

  -- the edges of a loop that tests its condition at its head
  edges_by_turn : (p : List Deed) →
      reached (begun_at n) (ways_by_turn p c body n (jumps_of jumps))
      ++ edges_in_nodes body (n + 1) (jumps_of jumps) (walked jumps.continued)
      ≡ reached (begun_at n) (deeds_ways p (by_case true c (body_ways kind c body n next back) ++ by_case false c next))
      ++ edges_in_nodes body (n + 1) (loop_jumps kind c n next back) (end_ways kind c n next)
  edges_by_turn p =
      let into = alike_both c (ways_in body (n + 1) (jumps_of jumps) (walked jumps.continued)) (body_ways kind c body n next back) next next
      alike_through (alike_same next) in
      ap₂ (λ x y. x ++ y) ((alike_deeds p _ _ into).at (begun_at n)) edges_inside

-- a `for`
pub for_edges : (before after : List Edge) (s : Statement) (p q change : List Deed) (c : Condition) (body b : Statements) (line n : ℕ)
    (jumps : JumpEdges) → q ≡ p → b ≡ body → s ≡ loop (for_loop p change) c body line →
    jumps.continued ≡ reached (begun_at n) (deeds_ways change (arrived n)) →
    after ≡ before ++ (reached (begun_at n) (ways_by_turn q c b n (jumps_of jumps))
    ++ edges_in_nodes b (n + 1) (jumps_of jumps) (walked jumps.continued)) →
    after ≡ before ++ edges_in_loop s n (walked jumps.broken) (arrived jumps.exit)
for_edges before after s p q change c body b line n jumps d f e g h =
    let end = deeds_ways change (arrived n) in
    let again : Alike (walked jumps.continued) end = rw g (alike_walked n end) in
    h ∙ ap₂ (λ y z. before ++ (reached (begun_at n) (ways_by_turn y c z n (jumps_of jumps))
    ++ edges_in_nodes z (n + 1) (jumps_of jumps) (walked jumps.continued))) d f
    ∙ ap (λ z. before ++ z)
    (edges_by_turn (for_loop p change) c body n jumps again p
    ∙ ap (λ t. edges_in_loop t n (walked jumps.broken) (arrived jumps.exit)) (sym e))

-- a `do`
pub do_edges : (before after : List Edge) (s : Statement) (p : List Deed) (c : Condition) (body b : Statements) (line n : ℕ)
    (jumps : JumpEdges) → b ≡ body
    → s ≡ loop (do_loop p) c body line →
    jumps.continued ≡ reached (begun_at n) (end_ways (do_loop p) c n (walked jumps.broken)) →
    after ≡ before ++ (reached (begun_at n) (ways_in b (n + 1) (jumps_of jumps) (walked jumps.continued))
    ++ edges_in_nodes b (n + 1) (jumps_of jumps) (walked jumps.continued)) →
    after ≡ before ++ edges_in_loop s n (walked jumps.broken) (arrived jumps.exit)
do_edges before after s p c body b line n jumps f e g h =
    let end = end_ways (do_loop p) c n (walked jumps.broken) in
    let again : Alike (walked jumps.continued) end = rw g (alike_walked n end) in
    h ∙ ap (λ z. before ++ (reached (begun_at n) (ways_in z (n + 1) (jumps_of jumps) (walked jumps.continued))
    ++ edges_in_nodes z (n + 1) (jumps_of jumps) (walked jumps.continued))) f
    ∙ ap (λ z. before ++ z)
    (ap₂ (λ x y. x ++ y) ((alike_through (do_loop p) c body n jumps again).at (begun_at n)) (edges_inside (do_loop p) c body n jumps again)
    ∙ ap (λ t. edges_in_loop t n (walked jumps.broken) (arrived jumps.exit)) (sym e))
