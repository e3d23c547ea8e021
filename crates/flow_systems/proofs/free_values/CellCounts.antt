-- The greatest counts on the edges into a point, edge by edge.
use Rattle.std.proofs.Common.{◌≡◌, ◌∙◌, ◌==◌, ℕ, suc, ◌+◌, ◌*◌, ◌<◌, ◌≤◌, Bool, true, false, cond, List, [], ◌∷◌, ◌++◌, length, get_or, map}
use Rattle.std.proofs.Common.{take, refl, ap, sym, arith, max, nat_cmp}
use Rattle.std.specs.Prelude.{IsTrue, nat_lt, nat_le}
use Rattle.std.specs.Ordering.{ord_max}
use Rattle.std.specs.List.{filter, list_all, count_by}
use Rattle.std.proofs.lemmas.Nat.{mul-le}
use Rattle.std.proofs.lemmas.Bool.Decides.{nat_tests}
use Rattle.std.proofs.lemmas.Bool.{eq-eqb, leb-true}
use Rattle.std.proofs.lemmas.List.{take_more, map-append}
use Rattle.std.proofs.lemmas.List.Sums.{count_by-le-length}
use Rattle.std.proofs.lemmas.List.Elements.{filter-append}
use Rattle.std.proofs.lemmas.List.Recursion.{is_count_by}
use Rattle.flow_edges.specs.declared.edge.Action.{Action}
use Rattle.flow_edges.specs.declared.edge.Action.TheVariants.{Guard, Assign, Havoc, Check}
use Rattle.flow_edges.specs.declared.edge.Edge.{Edge}
use Rattle.flow_edges.specs.declared.graph.Flow.{Flow}
use Rattle.flow_edges.specs.FlowLimits.{is_action, is_edge}
use Rattle.flow_edges.proofs.Each.{Each}
use Rattle.flow_systems.specs.FreeValues.{free_count}
use Rattle.flow_systems.specs.Cells.{is_havoc, guard_count, greatest, most, block_cells, most_block_cells}
use Rattle.flow_systems.proofs.Sizes.{both, flow_sizes}
use Rattle.flow_templates.specs.declared.limits.TheConstants.{MOST_ROWS}
use Rattle.lang_tree.specs.declared.limits.TheConstants.{MOST_VARIABLES, MOST_HIDDEN}
use Rattle.flow_edges.specs.declared.limits.TheConstants.{MOST_ACTIONS}

-- the number of free assignments is the count of the actions that are free assignments
pub free_count-is : (actions : List Action) → free_count actions ≡ count_by is_havoc actions
free_count-is actions = is_count_by free_count is_havoc refl step actions
  where
    step : (a : Action) (more : List Action) → free_count (a ∷ more) ≡ cond (is_havoc a) (1 + free_count more) (free_count more)
    step (Guard form) more = refl
    step (Assign var form) more = refl
    step (Havoc var) more = let e : suc (free_count more) ≡ 1 + free_count more = omega arith in e
    step (Check about) more = refl

-- the greater of two numbers as the code finds it
pub max-is : (a b : ℕ) → ord_max nat_cmp a b ≡ max a b
max-is a b = grind (arith, nat_tests)

greatest-push : (xs : List ℕ) (x : ℕ) → greatest (xs ++ x ∷ []) ≡ max (greatest xs) x
greatest-push [] x = let e : max x 0 ≡ max 0 x = omega arith in e
greatest-push (y ∷ xs) x = let e = greatest-push xs x in let k : max y (greatest (xs ++ x ∷ [])) ≡ max (max y (greatest xs)) x =
    omega (arith, e) in k

module _ (count : List Action → ℕ) where
  most-push_yes : (edges : List Edge) (e : Edge) (p : ℕ) → e.to ≡ p → most count (edges ++ e ∷ []) p
      ≡ max (most count edges p) (count e.actions)
  most-push_yes edges e p h =
      ap (λ es. greatest (map (λ e. count e.actions) es)) (filter-append (λ e. e.to == p) edges (e ∷ [])
      ∙ ap (λ b. filter (λ e. e.to == p) edges ++ cond b (e ∷ []) []) (eq-eqb e.to p h))
      ∙ ap greatest (map-append (λ e. count e.actions) (filter (λ e. e.to == p) edges) (e ∷ []))
      ∙ greatest-push (map (λ e. count e.actions) (filter (λ e. e.to == p) edges)) (count e.actions)

  -- where edge i ends at the point, the greatest count of i + 1 edges is that of i edges or edge i's
  pub most_yes : (edges : List Edge) (i : ℕ) (e : Edge) (p : ℕ) → i < length edges → e ≡ get_or edges i e → e.to ≡ p →
      most count (take (i + 1) edges) p ≡ max (most count (take i edges) p) (count e.actions)
  most_yes edges i e p l h k = ap (λ es. most count es p) (take_more edges i e l ∙ ap (λ x. take i edges ++ x ∷ []) (sym h))
      ∙ most-push_yes (take i edges) e p k

  -- where edge i ends elsewhere, the greatest count of i + 1 edges is that of i edges
  pub most_no : (edges : List Edge) (i : ℕ) (e : Edge) (p : ℕ) → i < length edges → e ≡ get_or edges i e → (e.to == p) ≡ false →
      most count (take (i + 1) edges) p ≡ most count (take i edges) p
  most_no edges i e p l h k =
      ap (λ es. most count es p) (take_more edges i e l ∙ ap (λ x. take i edges ++ x ∷ []) (sym h))
      ∙ ap (λ es. greatest (map (λ e. count e.actions) es))
      (filter-append (λ e. e.to == p) (take i edges) (e ∷ []) ∙ ap (λ b. filter (λ e. e.to == p) (take i edges) ++ cond b (e ∷ []) []) k)
      ∙ ap (λ ns. greatest ns) (map-append (λ e. count e.actions) (filter (λ e. e.to == p) (take i edges)) [])
      ∙ ap greatest (nothing_more (map (λ e. count e.actions) (filter (λ e. e.to == p) (take i edges))))
    where
      nothing_more : (ns : List ℕ) → ns ++ [] ≡ ns
      nothing_more [] = refl
      nothing_more (n ∷ ns) = ap (λ x. n ∷ x) (nothing_more ns)

-- what no edge's count exceeds, the greatest of them doesn't
pub most_le : (count : List Action → ℕ) (edges : List Edge) (p m : ℕ) → Each (λ (e : Edge). count e.actions ≤ m) edges
    → most count edges p ≤ m
most_le count [] p m h = omega arith
most_le count (e ∷ edges) p m h = at_edge (e.to == p) h.0 (most_le count edges p m h.1)
  where
    at_edge : (b : Bool) → count e.actions ≤ m → most count edges p ≤ m →
        greatest (map (λ (f : Edge). count f.actions) (cond b (e ∷ filter (λ (f : Edge). f.to == p) edges)
        (filter (λ (f : Edge). f.to == p) edges))) ≤ m
    at_edge true one rest = omega arith
    at_edge false one rest = rest

-- an edge has few actions
most_few : (count : List Action → ℕ) → ((actions : List Action) → count actions ≤ length actions)
    → (n points : ℕ) (edges : List Edge) (p : ℕ) → IsTrue (list_all (is_edge n points) edges) → most count edges p ≤ MOST_ACTIONS
most_few count few n points [] p h = let l : 0 ≤ MOST_ACTIONS = omega arith in l
most_few count few n points (e ∷ es) p h =
    let t = both (is_edge n points e) (list_all (is_edge n points) es) h in
    at_edge (e.to == p) (few_actions t.0) (most_few count few n points es p t.1)
  where
    few_actions : IsTrue (is_edge n points e) → count e.actions ≤ MOST_ACTIONS
    few_actions k =
        let a = both (nat_lt e.from points) _ k in
        let b = both (nat_lt 0 e.to) _ a.1 in
        let c = both (nat_lt e.to points) _ b.1 in
        let d = both (nat_le (length e.actions) MOST_ACTIONS) (list_all (is_action n) e.actions) c.1 in
        omega (arith, leb-true (length e.actions) MOST_ACTIONS d.0, few e.actions)

    at_edge : (b : Bool) → count e.actions ≤ MOST_ACTIONS → most count es p ≤ MOST_ACTIONS →
        greatest (map (λ e. count e.actions) (cond b (e ∷ filter (λ e. e.to == p) es) (filter (λ e. e.to == p) es))) ≤ MOST_ACTIONS
    at_edge true k l = omega (arith, k, l)
    at_edge false k l = l

-- there are at most as many guards as actions
pub guards_few : (actions : List Action) → guard_count actions ≤ length actions
guards_few actions = count_by-le-length _ actions

-- there are at most as many free assignments as actions
pub frees_few : (actions : List Action) → free_count actions ≤ length actions
frees_few actions = omega (arith, free_count-is actions, count_by-le-length is_havoc actions)

-- the entries of an unknown's block are at most those of the greatest numbers
pub block_few : (rows names guards frees : ℕ) → rows ≤ MOST_ROWS → names ≤ MOST_VARIABLES → guards ≤ MOST_ACTIONS → frees ≤ MOST_ACTIONS
    → block_cells rows names guards frees ≤ most_block_cells
block_few rows names guards frees h i j k =
    let sources = mul-le rows (2 * names + 2) MOST_ROWS (2 * MOST_VARIABLES + 2) h (omega (arith, i)) in
    let words = mul-le (guards + 1) (2 * (names + frees) + 1) (MOST_ACTIONS + 1) (2 * (MOST_VARIABLES + MOST_ACTIONS) + 1)
    (omega (arith, j)) (omega (arith, i, k)) in
    omega (arith, sources, words)

-- the counts of a flow's edges
pub few_of : (count : List Action → ℕ) → ((actions : List Action) → count actions ≤ length actions)
    → (flow : Flow) (edges : List Edge) (p n : ℕ) → edges ≡ flow.edges → n ≡ most count edges p → n ≤ MOST_ACTIONS
few_of count few flow edges p n e k = omega (
  arith,
  k,
  ap (λ es. most count es p) e,
  most_few count few (length flow.names + MOST_HIDDEN) (length flow.points) flow.edges p (flow_sizes flow).edges,
)
