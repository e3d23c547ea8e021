-- One statement of a walk: the edges that go on from there.
use Rattle.std.proofs.Common.{◌≡◌, ◌∙◌, ℕ, ◌+◌, ◌≤◌, ◌<◌, true, false, List, [], ◌∷◌, ◌++◌, length, refl, sym, ap, ap₂}
use Rattle.std.specs.Prelude.{if◌then◌else◌}
use Rattle.std.proofs.lemmas.Bool.{lt-ltb, le-ltb}
use Rattle.lang_tree.specs.declared.form.Form.{Form}
use Rattle.lang_tree.specs.declared.check.Check.{Check}
use Rattle.lang_tree.specs.Tree.{Condition, Statement, Statements, set, havoc, assume, only_where, check, branch, jump, breaks, continues}
use Rattle.lang_tree.specs.Tree.{cons}
use Rattle.lang_tree.specs.Cases.{cases_of}
use Rattle.lang_tree.specs.PointNumbers.{splits, points_of, points_in, join_of}
use Rattle.flow_edges.specs.declared.edge.Action.{Action}
use Rattle.flow_edges.specs.declared.edge.Action.TheVariants.{Assign, Havoc}
use Rattle.flow_edges.specs.declared.edge.Action.TheVariants as action
use Rattle.flow_edges.specs.declared.edge.Edge.{Edge}
use Rattle.flow_edges.specs.Edges.{Way, Jumps, arrived, by_case, ways_of, ways_in}
use Rattle.flow_edges.specs.Trails.{Begun, followed, reached, split}
use Rattle.flow_edges.proofs.trail.TrailLemmas.{chosen, reached-prefixed, reached-by_case}

-- the ways along statements of which s is the first
ways_first : (ss : Statements) (s : Statement) (rest : Statements) (n q : ℕ) (jumps : Jumps) (next : List Way) → ss ≡ cons s rest
    → q ≡ points_of s →
    ways_in ss n jumps next ≡ ways_of s n jumps (ways_in rest (n + q) jumps next)
ways_first ss s rest n q jumps next e f =
    ap (λ z. ways_in z n jumps next) e ∙ ap (λ k. ways_of s n jumps (ways_in rest (n + k) jumps next)) (sym f)

module _ (before after : List Edge) (b : Begun) (ss rest : Statements) (s : Statement) (n q : ℕ) (jumps : Jumps) (next : List Way)
    (first : ss ≡ cons s rest) (points : q ≡ points_of s) where
  -- from the ways of the first statement
  by_first : (t : Statement) → s ≡ t → after ≡ before ++ reached b (ways_of t n jumps (ways_in rest (n + q) jumps next)) →
      after ≡ before ++ reached b (ways_in ss n jumps next)
  by_first t e h =
      h ∙ ap (λ z. before ++ reached b (ways_of z n jumps (ways_in rest (n + q) jumps next))) (sym e)
      ∙ ap (λ ways. before ++ reached b ways) (sym (ways_first ss s rest n q jumps next first points))

  -- where an assignment comes first, the edges that record it and go on from there are those of the statements
  pub walked_set : (var : ℕ) (form copy : Form) (line : ℕ) (longer : Begun) → s ≡ set var form line → copy ≡ form
      → longer ≡ followed b (Assign var copy ∷ []) →
      after ≡ before ++ reached longer (ways_in rest (n + q) jumps next) → after ≡ before ++ reached b (ways_in ss n jumps next)
  walked_set var form copy line longer e f g h =
      let ways = ways_in rest (n + q) jumps next in
      let one : List Action = Assign var form ∷ [] in
      by_first (set var form line) e
      (h ∙ ap (λ t. before ++ reached t ways) (g ∙ ap (λ z. followed b (Assign var z ∷ [])) f)
      ∙ ap (λ z. before ++ z) (sym (reached-prefixed b one ways)))

  -- where a free assignment comes first, the edges that record it and go on from there are those of the statements
  pub walked_havoc : (var line : ℕ) (longer : Begun) → s ≡ havoc var line → longer ≡ followed b (Havoc var ∷ []) →
      after ≡ before ++ reached longer (ways_in rest (n + q) jumps next) → after ≡ before ++ reached b (ways_in ss n jumps next)
  walked_havoc var line longer e g h =
      let ways = ways_in rest (n + q) jumps next in
      let one : List Action = Havoc var ∷ [] in
      by_first (havoc var line) e (h ∙ ap (λ t. before ++ reached t ways) g ∙ ap (λ z. before ++ z) (sym (reached-prefixed b one ways)))

  -- where a check comes first, the edges that record it and go on from there are those of the statements
  pub walked_check : (about : Check) (c : Condition) (line : ℕ) (longer : Begun) → s ≡ check about c line
      → longer ≡ followed b (action.Check about ∷ []) →
      after ≡ before ++ reached longer (ways_in rest (n + q) jumps next) → after ≡ before ++ reached b (ways_in ss n jumps next)
  walked_check about c line longer e g h =
      let ways = ways_in rest (n + q) jumps next in
      let one : List Action = action.Check about ∷ [] in
      by_first (check about c line) e (h ∙ ap (λ t. before ++ reached t ways) g ∙ ap (λ z. before ++ z) (sym (reached-prefixed b one ways)))

  -- where a condition that holds in silence comes first, the edges that go on by its cases are those of the statements
  pub walked_where : (c : Condition) (line : ℕ) (cases : List (List Form)) → s ≡ only_where c line → cases ≡ cases_of true c →
      after ≡ before ++ split b cases (ways_in rest (n + q) jumps next) → after ≡ before ++ reached b (ways_in ss n jumps next)
  walked_where c line cases e f h =
      let ways = ways_in rest (n + q) jumps next in
      by_first (only_where c line) e
      (h ∙ ap (λ z. before ++ split b z ways) f ∙ ap (λ z. before ++ z) (sym (reached-by_case b true c ways)))

  -- an assumption, by what comes after its cases
  assumed : (c : Condition) (line : ℕ) (cases : List (List Form)) (ways : List Way) → s ≡ assume c line → cases ≡ cases_of true c →
      (if splits c then arrived n else ways_in rest (n + q) jumps next) ≡ ways →
      after ≡ before ++ split b cases ways → after ≡ before ++ reached b (ways_in ss n jumps next)
  assumed c line cases ways e f g h =
      by_first (assume c line) e
      (h ∙ ap (λ z. before ++ split b z ways) f ∙ ap (λ z. before ++ z)
      (sym (ap (λ w. reached b (by_case true c w)) g ∙ reached-by_case b true c ways)))

  -- where an assumption of two cases or more comes first, its cases lead to its point
  pub walked_split : (c : Condition) (line : ℕ) (cases : List (List Form)) (point : List Way) → s ≡ assume c line → cases ≡ cases_of true c
      → 1 < length cases →
      point ≡ arrived n → after ≡ before ++ split b cases point → after ≡ before ++ reached b (ways_in ss n jumps next)
  walked_split c line cases point e f l p h =
      let m : 1 < length (cases_of true c) = rw f at l in
      let g : splits c ≡ true = lt-ltb 1 _ m in
      assumed c line cases (arrived n) e f (ap (λ z. let ways : List Way = (if z then arrived n else ways_in rest (n + q) jumps next) in
      ways) g)
      (h ∙ ap (λ w. before ++ split b cases w) p)

  -- where an assumption of at most one case comes first, the edges that go on by it are those of the statements
  pub walked_assume : (c : Condition) (line : ℕ) (cases : List (List Form)) → s ≡ assume c line → cases ≡ cases_of true c → length cases ≤ 1
      →
      after ≡ before ++ split b cases (ways_in rest (n + q) jumps next) → after ≡ before ++ reached b (ways_in ss n jumps next)
  walked_assume c line cases e f l h =
      let m : length (cases_of true c) ≤ 1 = rw f at l in
      let g : splits c ≡ false = le-ltb 1 _ m in
      assumed c line cases _ e f (ap (λ z. let ways : List Way = (if z then arrived n else ways_in rest (n + q) jumps next) in ways) g) h

  -- where an `if` comes first, its edges are those of the statements
  pub walked_branch : (c : Condition) (p r ys ns : Statements) (line : ℕ) → s ≡ branch c p r line → ys ≡ p → ns ≡ r →
      after ≡ before ++ reached b (ways_of (branch c ys ns 0) n jumps []) → after ≡ before ++ reached b (ways_in ss n jumps next)
  walked_branch c p r ys ns line e u v h =
      by_first (branch c p r line) e (h ∙ ap₂ (λ y z. before ++ reached b (ways_of (branch c y z 0) n jumps [])) u v)

  -- where a `break` comes first, the edges by its ways are those of the statements
  pub walked_break : (line : ℕ) (ways : List Way) → s ≡ jump breaks line → ways ≡ jumps.broken → after ≡ before ++ reached b ways →
      after ≡ before ++ reached b (ways_in ss n jumps next)
  walked_break line ways e f h = by_first (jump breaks line) e (h ∙ ap (λ w. before ++ reached b w) f)

  walked_continue : (line : ℕ) (ways : List Way) → s ≡ jump continues line → ways ≡ jumps.continued → after ≡ before ++ reached b ways →
      after ≡ before ++ reached b (ways_in ss n jumps next)
  walked_continue line ways e f h = by_first (jump continues line) e (h ∙ ap (λ w. before ++ reached b w) f)

-- the two branches of an `if`
pub branched : (before middle after : List Edge) (b : Begun) (c : Condition) (p r : Statements) (n k l : ℕ) (jumps : Jumps)
    (held failed : List (List Form)) (join : List Way) →
    held ≡ cases_of true c → failed ≡ cases_of false c → k ≡ points_in p → l ≡ points_in r → join ≡ arrived (n + k + l) →
    middle ≡ before ++ split b held (ways_in p n jumps join) → after ≡ middle ++ split b failed (ways_in r (n + k) jumps join) →
    after ≡ before ++ reached b (ways_of (branch c p r 0) n jumps [])
branched before middle after b c p r n k l jumps held failed join f g u v w h i =
    let end = arrived (join_of p r n) in
    let last : join ≡ end = w ∙ (rw (u, v) refl) in
    chosen before middle after b b c held failed (ways_in p n jumps end) (ways_in r (n + points_in p) jumps end) _ _ refl f g
    (ap (ways_in p n jumps) last)
    (ap₂ (λ m ways. ways_in r (n + m) jumps ways) u last) h i
