-- Edges go from points to points other than the entry.
use Rattle.std.proofs.Common.{⊎_elim, ℕ, ◌<◌, List, [], ◌∷◌, ◌++◌, subst, arith}
use Rattle.std.specs.Prelude.{◌||◌, Some, None, if◌then◌else◌}
use Rattle.std.proofs.lemmas.Option.{slice_get_within}
use Rattle.base_facts.specs.Elements.{In}
use Rattle.lang_tree.specs.Tree.{Statements}
use Rattle.lang_tree.specs.PointNumbers.{exit_of}
use Rattle.lang_tree.specs.Runs.{Item, mark}
use Rattle.flow_edges.specs.Steps.{Labelled, steps_of}
use Rattle.flow_edges.specs.Edges.{Way, prefixed, ways_from, Behind, complete, return_in, behind_in, behind_points, edges_of_program}
use Rattle.flow_edges.specs.PathLaws.{IsMark, EdgesInRange}
use Rattle.flow_edges.proofs.steps.ElementLemmas.{from_map, from_flat_map, contains_in}
use Rattle.flow_edges.proofs.edges.WaysLaw.{ways_law}
use Rattle.flow_edges.proofs.steps.Walk.{AllNumbered, points_hold, behind_count}
use Rattle.flow_edges.proofs.paths.PathLaw.{way, Arriving, Known, behind_known, behind_arrives, numbered_all, numbered_at, from_edges}

-- no way from the work leads to the entry
abbrev Onward : (exit : ℕ) → List Item → Type 0
Onward exit work = (w : Way) → In (ways_from exit work) w → 0 < w.to

module _ (exit : ℕ) where
  mark_onward : (p : ℕ) (rest : List Item) → 0 < p → Onward exit (mark p ∷ rest)
  mark_onward p rest h w m = ⊎_elim (λ e. subst (λ v. 0 < v.to) e h) (λ k. absurd k) m

  steps_onward : (item : Item) (rest : List Item) → ¬ (IsMark item) → ((s : Labelled) → In (steps_of exit item rest) s → Onward exit s.work)
      → Onward exit (item ∷ rest)
  steps_onward item rest other all w m =
      let on : Labelled → List Way = λ s. prefixed s.actions (ways_from exit s.work) in
      let r = from_flat_map on (steps_of exit item rest) w (subst (λ ways. In ways w) (ways_law exit item rest other) m) in
      let put : Way → Way = λ v. way (r.0.actions ++ v.actions) v.to in
      let t = from_map put (ways_from exit r.0.work) w r.2 in
      subst (λ v. 0 < v.to) t.2 (all r.0 r.1 t.0 t.1)

points_onward : (body : Statements) → AllNumbered (λ k w. Onward (exit_of body) w) 0 (behind_points body)
points_onward body =
    let exit = exit_of body in
    let ws : List Behind = behind_in body 1 (mark exit ∷ []) ++ (if complete body || return_in body then Some [] else None) ∷ [] in
    let later : AllNumbered (λ k w. 0 < k) 1 ws = numbered_all (λ k w. 0 < k) 1 ws (λ k h w. omega (arith, h)) in
    points_hold body (Onward exit) (λ k w. 0 < k) (mark_onward exit) (steps_onward exit) later (λ w m. absurd m)

-- each edge of a program goes from one of its points to one of its points other than the entry
pub ranges_law : EdgesInRange
ranges_law body e m =
    let ws = behind_points body in
    let r = from_edges (exit_of body) 0 ws e (contains_in (edges_of_program body) e m) in
    let w = way e.actions e.to in
    let a = numbered_at (λ k v. Arriving (exit_of body) v) 0 ws r.0 r.1 (behind_arrives body) r.2 w r.4 in
    let known = numbered_at (λ k v. Known body v) 0 ws r.0 r.1 (behind_known body) r.2 e.actions e.to a.0 a.1 in
    record {
      from = omega (arith, r.3, slice_get_within ws r.0 (Some r.1) r.2, behind_count body);
      to = omega (arith, slice_get_within ws e.to (Some a.0) known, behind_count body);
      later = numbered_at (λ k v. Onward (exit_of body) v) 0 ws r.0 r.1 (points_onward body) r.2 w r.4;
    }
