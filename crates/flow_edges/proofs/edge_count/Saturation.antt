-- Counts are the same up to the limit where what they are made of is.
use Rattle.std.proofs.Common.{◌≡◌, ◌∙◌, ℕ, ◌+◌, ◌*◌, Bool, true, false, List, [], ◌∷◌, min, refl, sym, ap, arith}
use Rattle.std.specs.Prelude.{◌||◌, if◌then◌else◌}
use Rattle.lang_tree.specs.Tree.{Condition, Deed, sets, havocs, wheres, checks, LoopKind, while_loop, for_loop, do_loop}
use Rattle.lang_tree.specs.Tree.{breaks, continues, returns}
use Rattle.lang_tree.specs.Tree.{Statement, Statements, set, havoc, assume, only_where, check, branch, loop, jump, label, nil, cons}
use Rattle.lang_tree.specs.PointNumbers.{splits}
use Rattle.flow_edges.specs.declared.edge_count.JumpCounts.{JumpCounts}
use Rattle.flow_edges.specs.declared.saturated.TheConstants.{ENOUGH}
use Rattle.flow_edges.specs.Edges.{complete, completes}
use Rattle.flow_edges.specs.Counts.{case_count, deeds_count, test_count, end_count, loop_jump_counts, way_count_of, way_count_in}
use Rattle.flow_edges.specs.Counts.{body_count, turn_count, head_count}
use Rattle.flow_edges.specs.Counts.{edge_count_of, edge_count_in, tested_count}
use Rattle.flow_edges.proofs.count.Counting.{sum_counted, product_counted}

-- two numbers are the same up to the limit
pub record Same (a b : ℕ) : Type 0 where
  -- capped, they are one number
  pub up_to : min a ENOUGH ≡ min b ENOUGH

same : (a : ℕ) → Same a a
same a = record { up_to = refl }

capped_same : (a : ℕ) → Same (min a ENOUGH) a
capped_same a = record { up_to = omega arith }

same_sum : (a b c d : ℕ) → Same a b → Same c d → Same (a + c) (b + d)
same_sum a b c d h k = record { up_to = omega (arith, h.up_to, k.up_to) }

same_product : (k a b : ℕ) → Same a b → Same (k * a) (k * b)
same_product k a b h =
    let times = λ (z : ℕ). min (min k ENOUGH * z) ENOUGH in
    let capped = λ (z : ℕ). product_counted (min k ENOUGH) (min z ENOUGH) k z (times (min z ENOUGH)) refl refl refl in
    record { up_to = sym (capped a) ∙ ap times h.up_to ∙ capped b }

same_if : (b : Bool) (x y u v : ℕ) → Same x y → Same u v → Same (if b then x else u) (if b then y else v)
same_if true x y u v h k = h
same_if false x y u v h k = k

same_choice : (c : Condition) (a b m n : ℕ) → Same a b → Same m n → Same (case_count true c * a + case_count false c * m)
    (case_count true c * b + case_count false c * n)
same_choice c a b m n h k =
    same_sum (case_count true c * a) (case_count true c * b) (case_count false c * m) (case_count false c * n)
    (same_product (case_count true c) a b h)
    (same_product (case_count false c) m n k)

-- the counts of jumps are the same up to the limit
pub record SameJumps (j k : JumpCounts) : Type 0 where
  -- those of a `break`
  pub broken : Same j.broken k.broken
  -- those of a `continue`
  pub continued : Same j.continued k.continued

same_jumps : (j : JumpCounts) → SameJumps j j
same_jumps j = record { broken = same j.broken; continued = same j.continued }

mutual
  same_ways_of : (s : Statement) (j k : JumpCounts) (m n : ℕ) → SameJumps j k → Same m n → Same (way_count_of s j m) (way_count_of s k n)
  same_ways_of (set var form line) j k m n a h = h
  same_ways_of (havoc var line) j k m n a h = h
  same_ways_of (assume c line) j k m n a h = same_product (case_count true c) _ _ (same_if (splits c) 1 1 m n (same 1) h)
  same_ways_of (only_where c line) j k m n a h = same_product (case_count true c) m n h
  same_ways_of (check about c line) j k m n a h = h
  same_ways_of (branch c first second line) j k m n a h = same_choice c _ _ _ _ (same_ways_in first j k 1 1 a (same 1))
      (same_ways_in second j k 1 1 a (same 1))
  same_ways_of (loop kind c body line) j k m n a h = same 1
  same_ways_of (jump breaks line) j k m n a h = a.broken
  same_ways_of (jump continues line) j k m n a h = a.continued
  same_ways_of (jump returns line) j k m n a h = same 1
  same_ways_of (label name line) j k m n a h = same 1

  same_ways_in : (ss : Statements) (j k : JumpCounts) (m n : ℕ) → SameJumps j k → Same m n
      → Same (way_count_in ss j m) (way_count_in ss k n)
  same_ways_in nil j k m n a h = h
  same_ways_in (cons s rest) j k m n a h = same_ways_of s j k (way_count_in rest j m) (way_count_in rest k n) a
      (same_ways_in rest j k m n a h)

same_deeds : (ds : List Deed) (m n : ℕ) → Same m n → Same (deeds_count ds m) (deeds_count ds n)
same_deeds [] m n h = h
same_deeds (sets var form line ∷ ds) m n h = same_deeds ds m n h
same_deeds (havocs var line ∷ ds) m n h = same_deeds ds m n h
same_deeds (wheres c line ∷ ds) m n h = same_product (case_count true c) (deeds_count ds m) (deeds_count ds n) (same_deeds ds m n h)
same_deeds (checks about c line ∷ ds) m n h = same_deeds ds m n h

same_end : (kind : LoopKind) (c : Condition) (m n : ℕ) → Same m n → Same (end_count kind c m) (end_count kind c n)
same_end (while_loop p) c m n h = same 1
same_end (for_loop p g) c m n h = same (deeds_count g 1)
same_end (do_loop p) c m n h =
    same_deeds p (test_count c m) (test_count c n)
    (same_sum (case_count true c) (case_count true c) _ _ (same (case_count true c)) (same_product (case_count false c) m n h))

same_inner : (kind : LoopKind) (c : Condition) (m n : ℕ) → Same m n → SameJumps (loop_jump_counts kind c m) (loop_jump_counts kind c n)
same_inner kind c m n h = record { broken = h; continued = same_end kind c m n h }

same_body : (kind : LoopKind) (c : Condition) (body : Statements) (m n : ℕ) → Same m n
    → Same (body_count kind c body m) (body_count kind c body n)
same_body kind c body m n h =
    same_ways_in body (loop_jump_counts kind c m) (loop_jump_counts kind c n) (end_count kind c m) (end_count kind c n)
    (same_inner kind c m n h) (same_end kind c m n h)

same_turn : (kind : LoopKind) (c : Condition) (body : Statements) (m n : ℕ) → Same m n
    → Same (turn_count kind c body m) (turn_count kind c body n)
same_turn kind c body m n h = same_choice c (body_count kind c body m) (body_count kind c body n) m n (same_body kind c body m n h) h

same_head : (kind : LoopKind) (c : Condition) (body : Statements) (m n : ℕ) → Same m n
    → Same (head_count kind c body m) (head_count kind c body n)
same_head (while_loop p) c body m n h = same_deeds p _ _ (same_turn (while_loop p) c body m n h)
same_head (for_loop p g) c body m n h = same_deeds p _ _ (same_turn (for_loop p g) c body m n h)
same_head (do_loop p) c body m n h = same_body (do_loop p) c body m n h

mutual
  same_edges_of : (s : Statement) (j k : JumpCounts) (m n : ℕ) → SameJumps j k → Same m n → Same (edge_count_of s j m) (edge_count_of s k n)
  same_edges_of (set var form line) j k m n a h = same 0
  same_edges_of (havoc var line) j k m n a h = same 0
  same_edges_of (assume c line) j k m n a h = same_if (splits c) m n 0 0 h (same 0)
  same_edges_of (only_where c line) j k m n a h = same 0
  same_edges_of (check about c line) j k m n a h = same 0
  same_edges_of (branch c first second line) j k m n a h =
      same_sum (edge_count_in first j 1) (edge_count_in first k 1) _ _ (same_edges_in first j k 1 1 a (same 1))
      (same_sum (edge_count_in second j 1) (edge_count_in second k 1) _ _ (same_edges_in second j k 1 1 a (same 1))
      (same_if (complete first || complete second) m n 0 0 h (same 0)))
  same_edges_of (loop kind c body line) j k m n a h =
      same_sum (head_count kind c body m) (head_count kind c body n) _ _ (same_head kind c body m n h)
      (same_edges_in body (loop_jump_counts kind c m) (loop_jump_counts kind c n) (end_count kind c m) (end_count kind c n)
      (same_inner kind c m n h) (same_end kind c m n h))
  same_edges_of (jump kind line) j k m n a h = same 0
  same_edges_of (label name line) j k m n a h = h

  same_edges_in : (ss : Statements) (j k : JumpCounts) (m n : ℕ) → SameJumps j k → Same m n
      → Same (edge_count_in ss j m) (edge_count_in ss k n)
  same_edges_in nil j k m n a h = same 0
  same_edges_in (cons s rest) j k m n a h =
      same_sum (edge_count_of s j (way_count_in rest j m)) (edge_count_of s k (way_count_in rest k n)) _ _
      (same_edges_of s j k (way_count_in rest j m) (way_count_in rest k n) a (same_ways_in rest j k m n a h))
      (same_if (completes s) (edge_count_in rest j m) (edge_count_in rest k n) 0 0 (same_edges_in rest j k m n a h) (same 0))

-- ---- counts along the code
pub counted_on : (ss rest : Statements) (s : Statement) (jumps : JumpCounts) (next w x y r : ℕ) → ss ≡ cons s rest → completes s ≡ true →
    w ≡ min (way_count_in rest jumps next) ENOUGH → x ≡ min (edge_count_of s jumps w) ENOUGH
    → y ≡ min (edge_count_in rest jumps next) ENOUGH →
    r ≡ min (x + y) ENOUGH → r ≡ min (edge_count_in ss jumps next) ENOUGH
counted_on ss rest s jumps next w x y r e f g h k l =
    let all = way_count_in rest jumps next in
    let saturated : Same w all = record { up_to = omega (arith, g) } in
    let first = (same_edges_of s jumps jumps w all (same_jumps jumps) saturated).up_to in
    sum_counted x y (edge_count_of s jumps all) (edge_count_in rest jumps next) r (h ∙ first) k l
    ∙ ap (λ b. min (edge_count_of s jumps all + (if b then edge_count_in rest jumps next else 0)) ENOUGH) (sym f)
    ∙ ap (λ z. min (edge_count_in z jumps next) ENOUGH) (sym e)

-- where a jump ends the statements before the rest
pub counted_off : (ss rest : Statements) (s : Statement) (jumps : JumpCounts) (next w r : ℕ) → ss ≡ cons s rest → completes s ≡ false →
    w ≡ min (way_count_in rest jumps next) ENOUGH → r ≡ min (edge_count_of s jumps w) ENOUGH → r ≡ min (edge_count_in ss jumps next) ENOUGH
counted_off ss rest s jumps next w r e f g h =
    let all = way_count_in rest jumps next in
    let saturated : Same w all = record { up_to = omega (arith, g) } in
    let first = (same_edges_of s jumps jumps w all (same_jumps jumps) saturated).up_to in
    let nothing : min (edge_count_of s jumps all) ENOUGH ≡ min (edge_count_of s jumps all + 0) ENOUGH = omega arith in
    h ∙ first ∙ nothing
    ∙ ap (λ b. min (edge_count_of s jumps all + (if b then edge_count_in rest jumps next else 0)) ENOUGH) (sym f)
    ∙ ap (λ z. min (edge_count_in z jumps next) ENOUGH) (sym e)

-- where a loop tests its condition at its head
pub counted_tested : (p : List Deed) (c : Condition) (body b : Statements) (end next turn head inside r : ℕ) → b ≡ body →
    let inner : JumpCounts = record { broken = next; continued = end } in
    turn ≡ min (case_count true c * way_count_in b inner end + case_count false c * next) ENOUGH → head ≡ min (deeds_count p turn) ENOUGH
    → inside ≡ min (edge_count_in b inner end) ENOUGH → r ≡ min (head + inside) ENOUGH → r ≡ min (tested_count p c body end next) ENOUGH
counted_tested p c body b end next turn head inside r e g h i j =
    let inner : JumpCounts = record { broken = next; continued = end } in
    let all = case_count true c * way_count_in b inner end + case_count false c * next in
    let saturated : Same turn all = record { up_to = omega (arith, g) } in
    sum_counted head inside _ _ r (h ∙ (same_deeds p turn all saturated).up_to) i j
    ∙ ap (λ z. min (tested_count p c z end next) ENOUGH) e

-- the number of ways from the end of its body may be capped before
pub counted_ends : (p : List Deed) (c : Condition) (body : Statements) (x y next : ℕ) → x ≡ min y ENOUGH
    → min (tested_count p c body x next) ENOUGH ≡ min (tested_count p c body y next) ENOUGH
counted_ends p c body x y next e =
    let saturated : Same x y = record { up_to = omega (arith, e) } in
    let one : JumpCounts = record { broken = next; continued = x } in
    let other : JumpCounts = record { broken = next; continued = y } in
    let both : SameJumps one other = record { broken = same next; continued = saturated } in
    (same_sum _ _ _ _ (same_deeds p _ _ (same_choice c _ _ next next (same_ways_in body one other x y both saturated) (same next)))
    (same_edges_in body one other x y both saturated)).up_to

-- and where it tests it at the end of its body
pub counted_do : (p : List Deed) (c : Condition) (body b : Statements) (line : ℕ) (jumps : JumpCounts) (next test end head inside r : ℕ)
    → b ≡ body →
    test ≡ min (case_count true c * 1 + case_count false c * next) ENOUGH → end ≡ min (deeds_count p test) ENOUGH →
    head ≡ min (way_count_in b (record { broken = next; continued = end }) end) ENOUGH
    → inside ≡ min (edge_count_in b (record { broken = next; continued = end }) end) ENOUGH →
    r ≡ min (head + inside) ENOUGH → r ≡ min (edge_count_of (loop (do_loop p) c body line) jumps next) ENOUGH
counted_do p c body b line jumps next test end head inside r e f g h i j =
    let inner : JumpCounts = record { broken = next; continued = end } in
    let last = end_count (do_loop p) c next in
    let tested : Same test (test_count c next) = record { up_to = omega (arith, f) } in
    let ended = (same_deeds p test (test_count c next) tested).up_to in
    let saturated : Same end last = record { up_to = omega (arith, g, ended) } in
    let both : SameJumps inner (loop_jump_counts (do_loop p) c next) = record { broken = same next; continued = saturated } in
    let x = (same_ways_in b inner (loop_jump_counts (do_loop p) c next) end last both saturated).up_to in
    let y = (same_edges_in b inner (loop_jump_counts (do_loop p) c next) end last both saturated).up_to in
    sum_counted head inside _ _ r (h ∙ x) (i ∙ y) j ∙ ap (λ z. min (edge_count_of (loop (do_loop p) c z line) jumps next) ENOUGH) e
