-- A generated program has points and edges within the limits, and its edges lead on, each by few actions.
use Rattle.std.proofs.Common.{◌≡◌, ◌≤◌, ◌+◌, ◌*◌, ℕ, pos, Bool, true, false, cond, List, [], ◌∷◌, ◌++◌, length, map, Option, None, Some}
use Rattle.std.proofs.Common.{refl, sym, ap, ◌∙◌, subst, arith}
use Rattle.std.specs.Prelude.{nat_lt, neg_ℤ, if◌then◌else◌}
use Rattle.std.specs.List.{position, position_from, sum_by}
use Rattle.std.proofs.lemmas.Bool.{le-ltb}
use Rattle.std.proofs.lemmas.List.{length-append, length-map, length-take}
use Rattle.std.proofs.lemmas.List.Sums.{sum_by-cons}
use Rattle.std.proofs.lemmas.Iterator.Adapters.{position_from-zero}
use Rattle.base_limits.specs.declared.limits.TheConstants.{MOST_LOOPS}
use Rattle.lang_tree.specs.declared.cond.Rel.TheVariants.{Lt}
use Rattle.lang_tree.specs.declared.form.Form.{Form}
use Rattle.lang_tree.specs.Tree.{compare, while_loop, set, nil, cons}
use Rattle.lang_tree.specs.PointNumbers.{points_in, point_count, exit_of}
use Rattle.lang_tree.specs.Cases.{negated}
use Rattle.lang_meaning.specs.Forms.{constant_form, variable_form}
use Rattle.flow_edges.specs.declared.edge.Action.{Action}
use Rattle.flow_edges.specs.declared.edge.Action.TheVariants.{Guard, Assign}
use Rattle.flow_edges.specs.declared.edge.Edge.{Edge}
use Rattle.flow_edges.specs.declared.fault.FlowFault.{FlowFault}
use Rattle.flow_edges.specs.declared.fault.FlowFault.TheVariants as fault
use Rattle.flow_edges.specs.declared.point.Place.TheVariants.{Exit}
use Rattle.flow_edges.specs.declared.point.Point.{Point}
use Rattle.flow_edges.specs.declared.limits.TheConstants.{KEPT, MOST_ACTIONS, MOST_ALL_ACTIONS, MOST_EDGES, MOST_POINTS}
use Rattle.flow_edges.specs.Points.{made_in, points_of_program}
use Rattle.flow_edges.specs.Checks.{checks_in}
use Rattle.flow_edges.specs.Counts.{no_jump_counts, way_count_in, edge_count_in, edge_count}
use Rattle.flow_edges.specs.Edges.{Way, arrived, prefixed, by_case, Jumps, no_jumps, loop_jumps, ways_in, edges_of_program}
use Rattle.flow_edges.specs.Faults.{wide_lines_in, counted_fault, counted_after, fault_of_program, is_long}
use Rattle.flow_edges.specs.Faults.{action_count, has_many_actions}
use Rattle.flow_edges.specs.Steps.{guards}
use Rattle.flow_edges.specs.Trails.{kept, begun_at, reached, edges_in_nodes, kept_edges}
use Rattle.flow_edges.proofs.Each.{Each, each-append, each-map, each_weaker}
use Rattle.flow_edges.proofs.edges.CountLaws.{counted_edges}
use Rattle.flow_edges.proofs.faults.FlowLaws.{nothing_cut, no_fault}
use Rattle.flow_templates.specs.Domains.{intervals_of}
use Rattle.flow_systems.specs.declared.limits.TheConstants.{MOST_UNKNOWNS}
use Rattle.out_workload.specs.declared.draws.Loop.{Loop}
use Rattle.out_workload.specs.Draws.{following, loops_from}
use Rattle.out_workload.specs.Law.{LeadsOn}
use Rattle.out_workload.specs.Bodies.{turn_of, loops_body, generated_body}
use Rattle.out_workload.proofs.draws.TextParts.{count_drawn}

-- ---- counting
loops_points : (n : ℕ) (ls : List Loop) → points_in (loops_body n ls) ≡ length ls
loops_points n [] = refl
loops_points n (l ∷ ls) = omega (arith, loops_points (n + 5) ls)

generated_count : (seed loops : ℕ) → point_count (generated_body seed loops) ≡ loops + 2
generated_count seed loops = omega (arith, loops_points 3 (loops_from seed loops), count_drawn seed loops)

loops_made : (n : ℕ) (ls : List Loop) (p : ℕ) → length (made_in (loops_body n ls) p) ≡ length ls
loops_made n [] p = refl
loops_made n (l ∷ ls) p = omega (arith, loops_made (n + 5) ls (p + 0 + (1 + (0 + (0 + 0)))))

-- a generated program has one point for each loop beside the entry and the exit
pub generated_points : (seed loops : ℕ) → length (points_of_program (generated_body seed loops)) ≡ loops + 2
generated_points seed loops =
    let made = made_in (generated_body seed loops) 1 in
    let exit : Point = record { place = Exit; line = 0 } in
    omega (
      arith,
      length-append (map (λ m. m.point) made) (exit ∷ []),
      length-map made (λ m. m.point),
      loops_made 3 (loops_from seed loops) 1,
      count_drawn seed loops,
    )

-- the system over intervals of a generated program has no more unknowns than it may have
pub generated_unknowns : (seed loops : ℕ) → loops ≤ MOST_LOOPS
    → length (points_of_program (generated_body seed loops)) * length (intervals_of 3) ≤ MOST_UNKNOWNS
generated_unknowns seed loops h =
    let six : length (intervals_of 3) ≡ 6 = refl in
    omega (arith, generated_points seed loops)

none_wide : (n : ℕ) (ls : List Loop) → wide_lines_in (loops_body n ls) ≡ []
none_wide n [] = refl
none_wide n (l ∷ ls) = none_wide (n + 5) ls

one_way : (n : ℕ) (ls : List Loop) → way_count_in (loops_body n ls) no_jump_counts 1 ≡ 1
one_way n [] = refl
one_way n (l ∷ ls) = refl

two_edges : (n : ℕ) (ls : List Loop) → edge_count_in (loops_body n ls) no_jump_counts 1 ≡ 2 * length ls
two_edges n [] = refl
two_edges n (l ∷ ls) = omega (arith, one_way (n + 5) ls, two_edges (n + 5) ls)

edges_counted : (seed loops : ℕ) → edge_count (generated_body seed loops) ≡ 1 + 2 * loops
edges_counted seed loops = omega (arith, one_way 3 (loops_from seed loops), two_edges 3 (loops_from seed loops), count_drawn seed loops)

few_edges : (seed loops : ℕ) → length (edges_of_program (generated_body seed loops)) ≡ 1 + 2 * loops
few_edges seed loops = sym (counted_edges (generated_body seed loops)) ∙ edges_counted seed loops

no_more : (b c : Bool) (x : FlowFault) → b ≡ false → c ≡ false → (if b then Some x else (if c then Some fault.Edges else None)) ≡ None
no_more b c x e f = rw (e, f) refl

generated_counted : (seed loops : ℕ) → loops ≤ MOST_LOOPS → counted_fault (generated_body seed loops) ≡ None
generated_counted seed loops h =
    let body = generated_body seed loops in
    ap (λ (x : List ℕ). counted_after x body) (none_wide 3 (loops_from seed loops))
    ∙ no_more (nat_lt MOST_POINTS (point_count body)) (nat_lt MOST_EDGES (length (edges_of_program body))) (fault.Points (point_count body))
    (le-ltb MOST_POINTS (point_count body) (omega (arith, generated_count seed loops)))
    (le-ltb MOST_EDGES (length (edges_of_program body)) (omega (arith, few_edges seed loops)))

-- ---- where edges lead, and their actions
-- a way to a point or a later one, by at most so many actions
abbrev LeadsPast : ℕ → ℕ → Way → Type 0
LeadsPast k p w = (length w.actions ≤ k) × (p ≤ w.to)

-- it leads past an earlier point, too
earlier : (k p q : ℕ) → p ≤ q → (ways : List Way) → Each (LeadsPast k q) ways → Each (LeadsPast k p) ways
earlier k p q l = each_weaker (LeadsPast k q) (LeadsPast k p) (λ w h. (h.0, omega (arith, l, h.1)))

loops_ways : (n : ℕ) (ls : List Loop) (p e : ℕ) → p ≤ e
    → Each (LeadsPast 1 p) (ways_in (loops_body n ls) p (no_jumps (arrived e)) (arrived e))
loops_ways n [] p e h = ((omega arith, h), tt)
loops_ways n (l ∷ ls) p e h = ((omega arith, omega arith), tt)

kept_short : (actions : List Action) → length (kept actions) ≤ length actions
kept_short actions = omega (arith, length-take KEPT actions)

reached_on : (p : ℕ) (ways : List Way) → Each (LeadsPast 4 p) ways → Each LeadsOn (reached (begun_at p) ways)
reached_on p ways h = each-map (LeadsPast 4 p) LeadsOn (λ w. record { from = p; to = w.to; actions = kept w.actions })
    (λ w k. record { on = k.1; few = omega (arith, k.0, kept_short w.actions) }) ways h

guarded : (p : ℕ) (forms : List Form) (ways : List Way) → length forms ≡ 1 → Each (LeadsPast 1 p) ways
    → Each (LeadsPast 4 p) (prefixed (guards forms) ways)
guarded p forms ways e h =
    each-map (LeadsPast 1 p) (LeadsPast 4 p) (λ w. record { actions = guards forms ++ w.actions; to = w.to })
    (λ w k. (omega (arith, k.0, e, length-append (guards forms) w.actions, length-map forms Guard), k.1)) ways h

-- the edges from the head of a loop: through its body, and past it
head_on : (f : Form) (u v w : ℕ) (g h : Form) (m n p : ℕ) (jumps : Jumps) (next : List Way) → Each (LeadsPast 1 p) next →
    Each LeadsOn (reached (begun_at p) (by_case true (compare Lt f) (ways_in (cons (set u g m) (cons (set v h n) nil)) w jumps (arrived p))
    ++ by_case false (compare Lt f) next))
head_on f u v w g h m n p jumps next k =
    reached_on p (by_case true (compare Lt f) (ways_in (cons (set u g m) (cons (set v h n) nil)) w jumps (arrived p))
    ++ by_case false (compare Lt f) next)
    (each-append (LeadsPast 4 p) (by_case true (compare Lt f) (ways_in (cons (set u g m) (cons (set v h n) nil)) w jumps (arrived p)))
    (by_case false (compare Lt f) next)
    ((omega arith, omega arith), tt)
    (each-append (LeadsPast 4 p) (prefixed (guards (negated f ∷ [])) next) [] (guarded p (negated f ∷ []) next refl k) tt))

loops_on : (n : ℕ) (ls : List Loop) (p e : ℕ) → p + length ls ≤ e
    → Each LeadsOn (edges_in_nodes (loops_body n ls) p (no_jumps (arrived e)) (arrived e))
loops_on n [] p e h = tt
loops_on n (l ∷ ls) p e h =
    let head = p + 0 in
    let behind = head + (1 + (0 + (0 + 0))) in
    let next = ways_in (loops_body (n + 5) ls) behind (no_jumps (arrived e)) (arrived e) in
    let jumps = loop_jumps (while_loop []) (compare Lt (variable_form 3 l.variable (neg_ℤ (pos l.bound)))) head next (arrived e) in
    let through = by_case true (compare Lt (variable_form 3 l.variable (neg_ℤ (pos l.bound))))
    (ways_in (turn_of (n + 2) l) (head + 1) jumps (arrived head))
    ++ by_case false (compare Lt (variable_form 3 l.variable (neg_ℤ (pos l.bound)))) next in
    let past : Each (LeadsPast 1 head) next = earlier 1 head behind (omega arith) next (loops_ways (n + 5) ls behind e (omega arith)) in
    each-append LeadsOn (reached (begun_at head) through ++ []) (edges_in_nodes (loops_body (n + 5) ls) behind (no_jumps (arrived e))
    (arrived e))
    (each-append LeadsOn (reached (begun_at head) through) [] (head_on (variable_form 3 l.variable (neg_ℤ (pos l.bound))) l.variable
    (following l.variable) (head + 1) (variable_form 3 l.variable (pos l.step)) (variable_form 3 l.variable (pos 0)) (n + 2) (n + 2 + 1)
    head jumps next past) tt)
    (loops_on (n + 5) ls behind e (omega arith))

begin_on : (n : ℕ) (ls : List Loop) (p e : ℕ) → Each (LeadsPast 4 0) (prefixed (Assign 0 (constant_form 3 (pos 0)) ∷ [])
    (prefixed (Assign 1 (constant_form 3 (pos 0)) ∷ []) (prefixed (Assign 2 (constant_form 3 (pos 0)) ∷ [])
    (ways_in (loops_body n ls) p (no_jumps (arrived e)) (arrived e)))))
begin_on n [] p e = ((omega arith, omega arith), tt)
begin_on n (l ∷ ls) p e = ((omega arith, omega arith), tt)

-- the exit stands behind the heads of the loops
last : (seed loops : ℕ) → 1 + length (loops_from seed loops) ≤ exit_of (generated_body seed loops)
last seed loops = omega (arith, loops_points 3 (loops_from seed loops))

kept_on : (seed loops : ℕ) → Each LeadsOn (kept_edges (generated_body seed loops))
kept_on seed loops =
    let body = generated_body seed loops in
    let ls = loops_from seed loops in
    let exit = exit_of body in
    each-append LeadsOn (reached (begun_at 0) (ways_in body 1 (no_jumps (arrived exit)) (arrived exit)))
    (edges_in_nodes body 1 (no_jumps (arrived exit)) (arrived exit))
    (reached_on 0 (ways_in body 1 (no_jumps (arrived exit)) (arrived exit)) (begin_on 3 ls 1 exit))
    (loops_on 3 ls 1 exit (last seed loops))

none_from : (i : ℕ) (es : List Edge) → Each LeadsOn es → position_from is_long i es ≡ None
none_from i [] h = refl
none_from i (e ∷ es) h =
    let o : Option ℕ = position_from is_long (i + 1) es in
    ap (λ (b : Bool). cond b (Some i) o) (le-ltb MOST_ACTIONS (length e.actions) (omega (arith, h.0.few))) ∙ none_from (i + 1) es h.1

none_long : (es : List Edge) → Each LeadsOn es → position is_long es ≡ None
none_long es h = position_from-zero is_long es ∙ none_from 0 es h

-- the edges of a generated program, with all their actions, are those that are kept
uncut : (seed loops : ℕ) → kept_edges (generated_body seed loops) ≡ edges_of_program (generated_body seed loops)
uncut seed loops =
    let body = generated_body seed loops in
    nothing_cut body (none_long (kept_edges body) (kept_on seed loops))

few_together : (es : List Edge) → Each LeadsOn es → sum_by action_count es ≤ 4 * length es
few_together [] h = omega arith
few_together (e ∷ es) h = omega (arith, sum_by-cons action_count e es, h.0.few, few_together es h.1)

not_many : (seed loops : ℕ) → loops ≤ MOST_LOOPS → has_many_actions (kept_edges (generated_body seed loops)) ≡ false
not_many seed loops h =
    let edges = kept_edges (generated_body seed loops) in
    let few : length edges ≡ 1 + 2 * loops = ap length (uncut seed loops) ∙ few_edges seed loops in
    le-ltb MOST_ALL_ACTIONS (sum_by action_count edges) (omega (arith, few, few_together edges (kept_on seed loops)))

unchecked : (n : ℕ) (ls : List Loop) → length (checks_in (loops_body n ls)) ≡ 0
unchecked n [] = refl
unchecked n (l ∷ ls) = unchecked (n + 5) ls

-- a generated program has no fault
pub generated_within : (seed loops : ℕ) → loops ≤ MOST_LOOPS → fault_of_program (generated_body seed loops) ≡ None
generated_within seed loops h =
    let body = generated_body seed loops in
    no_fault body (generated_counted seed loops h) (none_long (kept_edges body) (kept_on seed loops)) (not_many seed loops h)
    (omega (arith, unchecked 3 (loops_from seed loops)))

-- each edge of a generated program leads on
pub generated_edges : (seed loops : ℕ) → Each LeadsOn (edges_of_program (generated_body seed loops))
generated_edges seed loops = subst (Each LeadsOn) (uncut seed loops) (kept_on seed loops)
