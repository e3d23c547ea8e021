-- The edges of a program are its paths.
use Rattle.std.proofs.Common.{◌≡◌, ◌∙◌, inl, ⊎_elim, ℕ, zero, suc, ◌+◌, ◌≤◌, List, [], ◌∷◌, ◌++◌, map, refl, sym, ap, subst, arith}
use Rattle.std.specs.Prelude.{slice_get, Some, None, Contains}
use Rattle.base_facts.specs.Elements.{In}
use Rattle.lang_tree.specs.Tree.{Statements}
use Rattle.lang_tree.specs.PointNumbers.{exit_of}
use Rattle.lang_tree.specs.Runs.{Item, node, mark, turn, end, nodes, start_work}
use Rattle.flow_edges.specs.declared.edge.Action.{Action}
use Rattle.flow_edges.specs.declared.edge.Edge.{Edge}
use Rattle.flow_edges.specs.Steps.{Labelled, steps_of}
use Rattle.flow_edges.specs.Paths.{Leads, here, past, done, Arrives, at_mark, by_step, Path}
use Rattle.flow_edges.specs.Edges.{Way, prefixed, ways_from, Behind, behind_points, ways_behind, edges_from, edges_of_program}
use Rattle.flow_edges.specs.PathLaws.{IsMark, BehindPoints, EdgesOfPrograms}
use Rattle.flow_edges.proofs.steps.ElementLemmas.{in-append, in-append_left, in-append_right, in-map, from_map, in-flat_map, from_flat_map}
use Rattle.flow_edges.proofs.steps.ElementLemmas.{in_contains, contains_in}
use Rattle.flow_edges.proofs.edges.WaysLaw.{ways_law}
use Rattle.flow_edges.proofs.steps.Walk.{OfSome, AllNumbered, program_holds}
use Rattle.flow_edges.proofs.steps.Reach.{AtPoint, points_reached}

abbrev pub way : List Action → ℕ → Way
way actions to = record { actions = actions; to = to }

-- ---- a way exactly where labelled steps arrive
step_way : (exit : ℕ) (item : Item) (rest : List Item) (step : Labelled) (w : Way) → ¬ (IsMark item) → In (steps_of exit item rest) step
    → In (ways_from exit step.work) w →
    In (ways_from exit (item ∷ rest)) (way (step.actions ++ w.actions) w.to)
step_way exit item rest step w other m h =
    let on : Labelled → List Way = λ s. prefixed s.actions (ways_from exit s.work) in
    let put : Way → Way = λ v. way (step.actions ++ v.actions) v.to in
    subst (λ ways. In ways (put w)) (sym (ways_law exit item rest other)) (in-flat_map on (steps_of exit item rest) step (put w) m
    (in-map put (ways_from exit step.work) w h))

-- each arrival of labelled steps at a mark is a way
way_of_arrival : (exit : ℕ) (work : List Item) (actions : List Action) (p : ℕ) (behind : List Item) → Arrives exit work actions p behind
    → In (ways_from exit work) (way actions p)
way_of_arrival exit work actions p behind (at_mark q rest) = inl refl
way_of_arrival exit work actions p behind (by_step (mark q) rest step later p' behind' m h) = absurd m
way_of_arrival exit work actions p behind (by_step (node s n) rest step later p' behind' m h) =
    step_way exit (node s n) rest step (way later p') (λ t. t) m (way_of_arrival exit step.work later p' behind' h)
way_of_arrival exit work actions p behind (by_step (turn k c b l n) rest step later p' behind' m h) =
    step_way exit (turn k c b l n) rest step (way later p') (λ t. t) m (way_of_arrival exit step.work later p' behind' h)
way_of_arrival exit work actions p behind (by_step (end k c b l n) rest step later p' behind' m h) =
    step_way exit (end k c b l n) rest step (way later p') (λ t. t) m (way_of_arrival exit step.work later p' behind' h)

-- each way from the work is an arrival
abbrev pub Arriving : (exit : ℕ) → List Item → Type 0
Arriving exit work = (w : Way) → In (ways_from exit work) w → (behind : List Item) × Arrives exit work w.actions w.to behind

mark_arrives : (exit p : ℕ) (rest : List Item) → Unit {0} → Arriving exit (mark p ∷ rest)
mark_arrives exit p rest u w m = ⊎_elim (λ e. (rest, subst (λ v. Arrives exit (mark p ∷ rest) v.actions v.to rest) e (at_mark p rest)))
    (λ k. absurd k) m

steps_arrive : (exit : ℕ) (item : Item) (rest : List Item) → ¬ (IsMark item)
    → ((s : Labelled) → In (steps_of exit item rest) s → Arriving exit s.work)
    → Arriving exit (item ∷ rest)
steps_arrive exit item rest other all w m =
    let on : Labelled → List Way = λ s. prefixed s.actions (ways_from exit s.work) in
    let r = from_flat_map on (steps_of exit item rest) w (subst (λ ways. In ways w) (ways_law exit item rest other) m) in
    let put : Way → Way = λ v. way (r.0.actions ++ v.actions) v.to in
    let t = from_map put (ways_from exit r.0.work) w r.2 in
    let k = all r.0 r.1 t.0 t.1 in
    (k.0, subst (λ v. Arrives exit (item ∷ rest) v.actions v.to k.0) t.2 (by_step item rest r.0 t.0.actions t.0.to k.0 r.1 k.1))

-- ---- what is numbered, by number
-- what holds of every work and number from n on
pub numbered_all : (F : ℕ → List Item → Type 0) (n : ℕ) (ws : List Behind) → ((k : ℕ) → n ≤ k → (w : List Item) → F k w)
    → AllNumbered F n ws
numbered_all F n [] f = tt
numbered_all F n (None ∷ ws) f = (tt, numbered_all F (n + 1) ws (λ k h w. f k (omega (arith, h)) w))
numbered_all F n (Some v ∷ ws) f = (f n (omega arith) v, numbered_all F (n + 1) ws (λ k h w. f k (omega (arith, h)) w))

-- what holds of each work with its number holds of the work at each place
pub numbered_at : (F : ℕ → List Item → Type 0) (n : ℕ) (ws : List Behind) (i : ℕ) (w : List Item) → AllNumbered F n ws
    → slice_get ws i ≡ Some (Some w) → F (n + i) w
numbered_at F n [] i w a e = cc
numbered_at F n (v ∷ ws) zero w a e =
    let same : v ≡ Some w = cc in
    let k : n ≡ n + 0 = omega arith in
    subst (λ m. F m w) k (subst (OfSome (F n)) same a.0)
numbered_at F n (v ∷ ws) (suc i) w a e =
    let k : n + 1 + i ≡ n + suc i = omega arith in
    subst (λ m. F m w) k (numbered_at F (n + 1) ws i w a.1 e)

-- what holds of each of a list's works at its number
numbered_itself : (F : ℕ → List Item → Type 0) (n : ℕ) (ws : List Behind)
    → ((i : ℕ) (w : List Item) → slice_get ws i ≡ Some (Some w) → F (n + i) w) → AllNumbered F n ws
numbered_itself F n [] f = tt
numbered_itself F n (v ∷ ws) f = (
  itself v (λ w e. let k : n + 0 ≡ n = omega arith in subst (λ m. F m w) k (f 0 w (ap Some e))),
  numbered_itself F (n + 1) ws (λ i w e. let m : n + suc i ≡ n + 1 + i = omega arith in subst (λ j. F j w) m (f (suc i) w e)),
)
  where
    itself : (u : Behind) → ((w : List Item) → u ≡ Some w → F n w) → OfSome (F n) u
    itself None g = tt
    itself (Some w) g = g w refl

-- ---- the work after a mark that labelled steps reach
module _ (body : Statements) where
  abbrev pub IsBehind : ℕ → List Item → Type 0
  IsBehind p rest = slice_get (behind_points body) p ≡ Some (Some rest)

  -- at the next mark, the work after that point is left
  abbrev pub Known : List Item → Type 0
  Known work = (actions : List Action) (p : ℕ) (behind : List Item) → Arrives (exit_of body) work actions p behind → IsBehind p behind

  mark_known : (p : ℕ) (rest : List Item) → IsBehind p rest → Known (mark p ∷ rest)
  mark_known p rest e actions q behind (at_mark p' rest') = e
  mark_known p rest e actions q behind (by_step item rest' step later q' behind' m h) = absurd m

  steps_known : (item : Item) (rest : List Item) → ¬ (IsMark item)
      → ((s : Labelled) → In (steps_of (exit_of body) item rest) s → Known s.work)
      → Known (item ∷ rest)
  steps_known item rest other all actions q behind (at_mark p rest') = absurd (other tt)
  steps_known item rest other all actions q behind (by_step item' rest' step later q' behind' m h) = all step m later q behind h

  nothing_known : Known []
  nothing_known actions q behind h = none [] actions q behind h refl
    where
      none : (work : List Item) (actions : List Action) (q : ℕ) (behind : List Item) → Arrives (exit_of body) work actions q behind → work
          ≡ []
          → IsBehind q behind
      none work actions q behind (at_mark p rest) e = cc
      none work actions q behind (by_step item rest step later q' behind' m h) e = cc

  -- labelled steps from the work after any point arrive at a mark with the work that the list has after it
  pub behind_known : AllNumbered (λ k w. Known w) 0 (behind_points body)
  behind_known = program_holds body Known IsBehind mark_known steps_known
      (numbered_itself IsBehind 0 (behind_points body) (λ i w e. let z : i ≡ 0 + i = omega arith in subst (λ j. IsBehind j w) z e))
      nothing_known

  known_at : (p : ℕ) (rest : List Item) → IsBehind p rest → Known rest
  known_at p rest e = numbered_at (λ k w. Known w) 0 (behind_points body) p rest behind_known e

  leads_known : (work : List Item) (actions : List Action) (goal : List Item) → Leads (exit_of body) work actions goal → Known work
      → (p : ℕ) (behind : List Item) → goal ≡ mark p ∷ behind → IsBehind p behind
  leads_known work actions goal (here work') known p behind e = known [] p behind
      (subst (λ w. Arrives (exit_of body) w [] p behind) (sym e) (at_mark p behind))
  leads_known work actions goal (past q rest a' goal' h) known p behind e =
      leads_known rest a' goal h (known_at q rest (known [] q rest (at_mark q rest))) p behind e
  leads_known work actions goal (done item rest step later goal' m h) known p behind e =
      leads_known step.work later goal h (λ a q b k. known (step.actions ++ a) q b (by_step item rest step a q b m k)) p behind e

  start_known : Known (start_work body)
  start_known = mark_known 0 (nodes body 1 ++ mark (exit_of body) ∷ []) refl

  behind_mark : (actions : List Action) (p : ℕ) (behind : List Item) → Leads (exit_of body) (start_work body) actions (mark p ∷ behind)
      → IsBehind p behind
  behind_mark actions p behind h = leads_known (start_work body) actions (mark p ∷ behind) h start_known p behind refl

  -- each way from the work after any point is an arrival of labelled steps
  pub behind_arrives : AllNumbered (λ k w. Arriving (exit_of body) w) 0 (behind_points body)
  behind_arrives = program_holds body (Arriving (exit_of body)) (λ k w. Unit {0}) (mark_arrives (exit_of body))
      (steps_arrive (exit_of body))
      (numbered_all (λ k w. Unit {0}) 0 (behind_points body) (λ k h w. tt)) (λ w m. absurd m)

-- labelled steps come to a point's mark exactly where the list has work after it, and leave that work
pub behind_law : BehindPoints
behind_law body p rest = (
  (λ e. let r = numbered_at (AtPoint (exit_of body) (start_work body)) 0 (behind_points body) p rest (points_reached body) e in
      let z : 0 + p ≡ p = omega arith in
      (r.0, subst (λ q. Leads (exit_of body) (start_work body) r.0 (mark q ∷ rest)) z r.1)),
  (λ r. behind_mark body r.0 p rest r.1),
)

-- ---- edges by their points
in_edges : (exit k : ℕ) (ws : List Behind) (p : ℕ) (work : List Item) (w : Way) → slice_get ws p ≡ Some (Some work)
    → In (ways_from exit work) w →
    In (edges_from exit k ws) (record { from = k + p; to = w.to; actions = w.actions })
in_edges exit k [] p work w e m = cc
in_edges exit k (v ∷ ws) zero work w e m =
    let same : v ≡ Some work = cc in
    let z : k ≡ k + 0 = omega arith in
    let from : ℕ → Edge = λ i. record { from = i; to = w.to; actions = w.actions } in
    subst (λ i. In (edges_from exit k (v ∷ ws)) (from i)) z
    (in-append_left (map (λ x. record { from = k; to = x.to; actions = x.actions }) (ways_behind exit v)) (edges_from exit (suc k) ws)
    (from k)
    (in-map (λ x. record { from = k; to = x.to; actions = x.actions }) (ways_behind exit v) w
    (subst (λ u. In (ways_behind exit u) w) (sym same) m)))
in_edges exit k (v ∷ ws) (suc p) work w e m =
    let z : suc k + p ≡ k + suc p = omega arith in
    let from : ℕ → Edge = λ i. record { from = i; to = w.to; actions = w.actions } in
    in-append_right (map (λ x. record { from = k; to = x.to; actions = x.actions }) (ways_behind exit v)) (edges_from exit (suc k) ws)
    (from (k + suc p))
    (subst (λ i. In (edges_from exit (suc k) ws) (from i)) z (in_edges exit (suc k) ws p work w e m))

-- only a point that is reached has ways
reached_way : (exit : ℕ) (v : Behind) (w : Way) → In (ways_behind exit v) w
    → (work : List Item) × (v ≡ Some work) × In (ways_from exit work) w
reached_way exit None w m = absurd m
reached_way exit (Some work) w m = (work, refl, m)

-- an edge in the list comes from a point that is reached, by a way from the work after it
pub from_edges : (exit k : ℕ) (ws : List Behind) (e : Edge) → In (edges_from exit k ws) e →
    (p : ℕ) × (work : List Item) × (slice_get ws p ≡ Some (Some work)) × (e.from ≡ k + p) × In (ways_from exit work) (way e.actions e.to)
from_edges exit k [] e m = absurd m
from_edges exit k (v ∷ ws) e m =
    let here_edge : Way → Edge = λ x. record { from = k; to = x.to; actions = x.actions } in
    ⊎_elim
    (λ l. let r = from_map here_edge (ways_behind exit v) e l in
    let z : k ≡ k + 0 = omega arith in
    let b = reached_way exit v (way e.actions e.to) (subst (λ x. In (ways_behind exit v) (way x.actions x.to)) r.2 r.1) in
    (0, b.0, ap Some b.1, sym (ap (λ x. x.from) r.2) ∙ z, b.2))
    (λ r. let t = from_edges exit (suc k) ws e r in
    let z : suc k + t.0 ≡ k + suc t.0 = omega arith in
    (suc t.0, t.1, t.2, t.3 ∙ z, t.4))
    (in-append (map here_edge (ways_behind exit v)) (edges_from exit (suc k) ws) e m)

-- the edges of every program are exactly its paths
pub edges_law : EdgesOfPrograms
edges_law body = record { complete = complete; sound = sound }
  where
    complete : (from to : ℕ) (actions : List Action) → Path body from actions to
        → Contains (edges_of_program body) (record { from = from; to = to; actions = actions })
    complete from to actions path =
        let z : 0 + from ≡ from = omega arith in
        let edge_at : ℕ → Edge = λ p. record { from = p; to = to; actions = actions } in
        in_contains (edges_of_program body) (edge_at from)
        (subst (λ p. In (edges_of_program body) (edge_at p)) z
        (in_edges (exit_of body) 0 (behind_points body) from path.behind (way actions to)
        (behind_mark body path.before from path.behind path.reached)
        (way_of_arrival (exit_of body) path.behind actions to path.after path.arrives)))

    sound : (e : Edge) → Contains (edges_of_program body) e → Path body e.from e.actions e.to
    sound e m =
        let r = from_edges (exit_of body) 0 (behind_points body) e (contains_in (edges_of_program body) e m) in
        let a = numbered_at (λ k w. Arriving (exit_of body) w) 0 (behind_points body) r.0 r.1 (behind_arrives body) r.2
        (way e.actions e.to) r.4 in
        let b = numbered_at (AtPoint (exit_of body) (start_work body)) 0 (behind_points body) r.0 r.1 (points_reached body) r.2 in
        let f = sym r.3 in
        record {
          before = b.0;
          behind = r.1;
          reached = subst (λ p. Leads (exit_of body) (start_work body) b.0 (mark p ∷ r.1)) f b.1;
          after = a.0;
          arrives =
              a.1;
        }
