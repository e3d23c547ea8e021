-- What the unknowns of a list have to do with the numbers.
use Rattle.std.proofs.Common.{◌≡◌, ◌∙◌, ⊎_elim, ℕ, ◌/◌, ◌<◌, List, [], ◌∷◌, length, get_or, map, Option, None, refl, ap, sym, subst, arith}
use Rattle.std.proofs.Common.{div-add-mod'}
use Rattle.std.proofs.lemmas.List.{length-map, get_or-map}
use Rattle.std.proofs.lemmas.Nat.{row_below_turned}
use Rattle.base_facts.specs.Elements.{In}
use Rattle.flow_systems.specs.declared.system.System.{System}
use Rattle.theory_transformers.specs.JointProblems.{Listed, picked}
use Rattle.solve_joint.specs.declared.node.Node.{Node}
use Rattle.solve_joint.specs.Numbers.{listed_of, number_of, all_listed, source_of, node_of, nodes_of, IsPicked, ArePicked, edge_of}
use Rattle.solve_joint.proofs.joint_rows.Picking.{picked_at}
use Rattle.solve_joint.proofs.joint_problem.EdgeSizes.{edge_from}

-- the number of the unknown of a number
pub number_back : (rows : ℕ) (pick : List (Option ℕ)) (u : ℕ) → number_of rows (listed_of rows pick u) ≡ u
number_back rows pick u = div-add-mod' u rows

module _ (system : System) (pick : List (Option ℕ)) where
  -- the unknown, with its picked edge, for which a node stands
  abbrev pub shown : Node → Listed
  shown a = listed_of (length system.template) pick a.unknown

  -- a node of a list of picked unknowns
  pub record IsNode (a : Node) : Type 0 where
    -- the node's point is that of its unknown
    pub point : a.point ≡ a.unknown / length system.template
    -- the node's source is that of its unknown's picked edge
    pub source : a.source ≡ source_of system pick a.unknown
    -- the node's point is a point of the system
    pub point_within : a.point < length system.flow.points
    -- the node's source is a point of the system
    pub source_within : a.source < length system.flow.points

  source_few : (u : ℕ) → IsPicked system pick u → source_of system pick u < length system.flow.points
  unfolding picked
  source_few u h = edge_from system (edge_of (get_or pick u None)) (subst (λ e. edge_of e < length system.flow.edges) (sym h.picks)
      h.is_edge)

  node_is : (u : ℕ) → IsPicked system pick u → IsNode (node_of system pick u)
  node_is u h = record {
    point = refl;
    source = refl;
    point_within = (row_below_turned u (length system.template) (length system.flow.points) (length system.template) h.in_range
        (omega arith)).1;
    source_within = source_few u h;
  }

  -- a node of a picked list has the point and the source of its unknown
  pub node_in : (list : List ℕ) → ArePicked system pick list → (a : Node) → In (nodes_of system pick list) a → IsNode a
  node_in [] h a m = absurd m
  node_in (u ∷ list) h a m = ⊎_elim (λ e. subst IsNode e (node_is u h.0)) (λ k. node_in list h.1 a k) m

  -- the source of each node of a picked list is a point of the system
  pub source_at : (list : List ℕ) (nodes : List Node) → nodes ≡ nodes_of system pick list → ArePicked system pick list → (k : ℕ) (d : Node)
      → k < length nodes → (get_or nodes k d).source < length system.flow.points
  source_at list nodes e h k d l =
      let l' : k < length list = let s = ap (λ (xs : List Node). length xs) e ∙ length-map list (node_of system pick) in
      omega (arith, l, s) in
      subst (λ (x : Node). x.source < length system.flow.points) (sym (get_or-map (node_of system pick) list k 0 d l')
      ∙ ap (λ (xs : List Node). get_or xs k d) (sym e)) (source_few (get_or list k 0) (picked_at system pick list k h l'))

  -- the nodes of a list show its unknowns
  pub shown_all : (list : List ℕ) → map shown (nodes_of system pick list) ≡ all_listed system pick list
  shown_all [] = refl
  shown_all (u ∷ list) = ap (λ xs. listed_of (length system.template) pick u ∷ xs) (shown_all list)

  -- the nodes of a list have its numbers
  pub unknowns_all : (list : List ℕ) → map (λ (a : Node). a.unknown) (nodes_of system pick list) ≡ list
  unknowns_all [] = refl
  unknowns_all (u ∷ list) = ap (λ xs. u ∷ xs) (unknowns_all list)

  -- there is one node for each number of the list
  pub length-nodes : (list : List ℕ) → length (nodes_of system pick list) ≡ length list
  length-nodes list = length-map list (node_of system pick)
