-- The flow and the rows of equations are within the limits.
use Rattle.std.proofs.Common.{◌≡◌, ◌∙◌, ◌==◌, ◌&&◌, ◌||◌, not, eqb, inl, inr, ⊎_elim, ℕ, zero, suc, ◌+◌, ◌*◌, ◌<◌, ◌≤◌, Bool, true, false}
use Rattle.std.proofs.Common.{true≢false, ℤ, pos, negsuc, neg_ℤ, nat_abs, to_z, of_z, w64, List, [], ◌∷◌, ◌++◌, length, map, refl, ap, ap₂}
use Rattle.std.proofs.Common.{sym, subst, arith}
use Rattle.std.specs.Prelude.{IsTrue, flat_map, nat_le, nat_lt, if◌then◌else◌}
use Rattle.std.specs.List.{list_all, range_with_len, enumerate_from}
use Rattle.std.proofs.lemmas.Bool.{leb-true, and_parts, and_from, eq-eqb, le-leb, lt-ltb}
use Rattle.std.proofs.lemmas.Int.{ints, to_z-of_z}
use Rattle.std.proofs.lemmas.List.{length-append, length-map, length_push}
use Rattle.std.proofs.lemmas.List.FromFn.{length-map-range_with_len}
use Rattle.std.proofs.lemmas.List.Sums.{sum_by-cons}
use Rattle.std.proofs.lemmas.Option.{slice_get_within}
use Rattle.base_facts.specs.Elements.{In}
use Rattle.base_facts.proofs.elements.Membership.{of_append, of_map, of_flat_map, in_range, of_range}
use Rattle.lang_tree.specs.Numbers.{is_number, are_numbers}
use Rattle.lang_tree.specs.Limits.{is_form}
use Rattle.flow_edges.specs.declared.edge.Action.{Action}
use Rattle.flow_edges.specs.declared.edge.Action.TheVariants.{Guard, Assign}
use Rattle.flow_edges.specs.declared.edge.Edge.{Edge}
use Rattle.flow_edges.specs.declared.point.Point.{Point}
use Rattle.flow_edges.specs.FlowLimits.{is_action, is_edge, is_flow}
use Rattle.flow_systems.proofs.EdgeActions.{edges_grow}
use Rattle.lang_tree.specs.declared.limits.TheConstants.{MOST_VARIABLES, MOST_HIDDEN}
use Rattle.flow_edges.specs.declared.limits.TheConstants.{MOST_EDGES, MOST_ACTIONS}
use Rattle.flow_templates.specs.declared.limits.TheConstants.{MOST_ROWS}
use Rattle.flow_systems.specs.declared.limits.TheConstants.{MOST_UNKNOWNS}
use Rattle.flow_templates.specs.Rows.{is_row, width_of, is_template}
use Rattle.flow_templates.specs.Domains.{term, multiple}
use Rattle.flow_systems.specs.SystemLimits.{is_over, is_system}
use Rattle.flow_rationals.specs.declared.equation.Sum.{Sum}
use Rattle.flow_rationals.specs.declared.equation.Equation.{Equation}
use Rattle.flow_rationals.specs.Equations.{is_from, is_start, alternative_count, are_equations}
use Rattle.flow_rationals.specs.System.{variables_of, entry_and_loop, rows_of, start_form, start_actions, start_edge, sum_form, last_form}
use Rattle.flow_rationals.specs.System.{alternative_actions, alternative_edge, alternative_edges, edges_of}
use Rattle.flow_rationals.proofs.values.Sound.{IsSound, IsSoundAlternative, AreSound, sound_equations, in_slice}
use Rattle.flow_rationals.proofs.traces.Rows.{length-rows}
use Rattle.flow_rationals.proofs.above.Places.{of_enumerated}

-- a test that each element passes
all_from : {A : Type 0} (p : A → Bool) (xs : List A) → ((x : A) → In xs x → p x ≡ true) → list_all p xs ≡ true
all_from p [] h = refl
all_from p (x ∷ xs) h = and_from (p x) (list_all p xs) (h x (inl refl)) (all_from p xs (λ y m. h y (inr m)))

-- ---- numbers and forms
term_number : (c : ℤ) (i k : ℕ) → is_number c ≡ true → is_number (term c i k) ≡ true
term_number c i k h = by (k == i)
  where
    by : (b : Bool) → is_number (if b then c else pos 0) ≡ true
    by true = h
    by false = refl

numbers-multiple : (c : ℤ) (i : ℕ) (ks : List ℕ) → is_number c ≡ true → are_numbers (map (term c i) ks) ≡ true
numbers-multiple c i [] h = refl
numbers-multiple c i (k ∷ ks) h = and_from (is_number (term c i k)) (are_numbers (map (term c i) ks)) (term_number c i k h)
    (numbers-multiple c i ks h)

nat_abs-neg : (z : ℤ) → nat_abs (neg_ℤ z) ≡ nat_abs z
nat_abs-neg (pos zero) = refl
nat_abs-neg (pos (suc n)) = refl
nat_abs-neg (negsuc n) = refl

number_negated : (z : ℤ) → is_number z ≡ true → is_number (neg_ℤ z) ≡ true
number_negated z h = rw (nat_abs-neg z) h

is_form_of : (width : ℕ) (coeffs : List ℤ) (constant : ℤ) → length coeffs ≡ width → are_numbers coeffs ≡ true → is_number constant ≡ true →
    is_form width (record { coeffs = coeffs; constant = constant }) ≡ true
is_form_of width coeffs constant e h k =
    and_from (nat_le (length coeffs) width) (are_numbers coeffs && is_number constant) (le-leb (length coeffs) width (omega (arith, e)))
    (and_from (are_numbers coeffs) (is_number constant) h k)

multiple_form : (width : ℕ) (c : ℤ) (i : ℕ) (constant : ℤ) → is_number c ≡ true → is_number constant ≡ true →
    is_form width (record { coeffs = multiple width c i; constant = constant }) ≡ true
multiple_form width c i constant h k =
    is_form_of width (multiple width c i) constant (length-map-range_with_len (term c i) 0 width)
    (numbers-multiple c i (range_with_len 0 width) h) k

from_number : (least : ℕ) (c : ℤ) → is_from least c ≡ true → is_number c ≡ true
from_number least (pos n) h = (and_parts (nat_le least n) (nat_le n 9223372036854775807) h).1
from_number least (negsuc n) h = absurd (true≢false (sym h))

numbers_from : (cs : List ℤ) → list_all (is_from 0) cs ≡ true → are_numbers cs ≡ true
numbers_from [] h = refl
numbers_from (c ∷ cs) h =
    let parts = and_parts (is_from 0 c) (list_all (is_from 0) cs) h in
    and_from (is_number c) (are_numbers cs) (from_number 0 c parts.0) (numbers_from cs parts.1)

negated_numbers : (cs : List ℤ) (d : ℤ) → are_numbers cs ≡ true → is_number d ≡ true → are_numbers (map neg_ℤ cs ++ d ∷ []) ≡ true
negated_numbers [] d h k = and_from (is_number d) true k refl
negated_numbers (c ∷ cs) d h k =
    let parts = and_parts (is_number c) (are_numbers cs) h in
    and_from (is_number (neg_ℤ c)) (are_numbers (map neg_ℤ cs ++ d ∷ [])) (number_negated c parts.0) (negated_numbers cs d parts.1 k)

-- the negated numbers, with one more after them
pub negated_pushed : (cs list more : List ℤ) (y d : ℤ) → list ≡ map neg_ℤ cs → more ≡ list ++ y ∷ [] → y ≡ d → are_numbers cs ≡ true
    → is_number d ≡ true → are_numbers more ≡ true
negated_pushed cs list more y d e p v h k =
    subst (λ zs. are_numbers zs ≡ true) (sym (p ∙ ap (λ ys. ys ++ y ∷ []) e ∙ ap (λ z. map neg_ℤ cs ++ z ∷ []) v))
    (negated_numbers cs d h k)

-- a number of a program as the code passes it
pub number_same : (z : ℤ) → is_number z ≡ true → to_z w64 (of_z w64 z) ≡ z
number_same z h = let l = leb-true (nat_abs z) 9223372036854775807 h in to_z-of_z w64 z (omega (arith, ints, l))

sum_form_within : (n : ℕ) (s : Sum) → IsSound n s → is_form (n + 1) (sum_form s) ≡ true
sum_form_within n s sound =
    is_form_of (n + 1) (map neg_ℤ s.coeffs ++ s.den ∷ []) (neg_ℤ s.constant)
    (length_push (map neg_ℤ s.coeffs) s.den ∙ ap (λ m. m + 1) (length-map s.coeffs neg_ℤ ∙ sound.size))
    (negated_numbers s.coeffs s.den (numbers_from s.coeffs sound.coeffs) (from_number 1 s.den sound.den))
    (number_negated s.constant sound.constant)

-- ---- the edge into the loop
start_action : (n k : ℕ) (e : Equation) → k < n → is_start e.start ≡ true → (a : Action) → In (start_actions n (k, e)) a
    → is_action (n + 1) a ≡ true
start_action n k e l h a m =
    ⊎_elim (λ f. subst (λ b. is_action (n + 1) b ≡ true) f (lt-ltb k (n + 1) (omega arith)))
    (λ m'. ⊎_elim (λ f. subst (λ b. is_action (n + 1) b ≡ true) f guard) (λ none. absurd none) m') m
  where
    guard : is_form (n + 1) (start_form n k e.start) ≡ true
    guard =
        let parts = and_parts (is_number e.start.num) (nat_le e.start.den 9223372036854775807) h in
        multiple_form (n + 1) (pos e.start.den) k (neg_ℤ e.start.num) parts.1 (number_negated e.start.num parts.0)

length-starts : (n : ℕ) (equations : List Equation) (k : ℕ) → length (flat_map (start_actions n) (enumerate_from k equations))
    ≡ 2 * length equations
length-starts n [] k = refl
length-starts n (e ∷ equations) k = let h = length-starts n equations (k + 1) in omega arith

-- ---- the edges of alternatives
alternative_action : (n k : ℕ) (sums : List Sum) → k < n → IsSoundAlternative n sums → (a : Action) → In (alternative_actions n k sums) a
    → is_action (n + 1) a ≡ true
alternative_action n k sums l sound a m =
    ⊎_elim (λ f. subst (λ b. is_action (n + 1) b ≡ true) f (lt-ltb n (n + 1) (omega arith)))
    (λ m'. ⊎_elim guards (λ last. ⊎_elim (λ f. subst (λ b. is_action (n + 1) b ≡ true) f assign) (λ none. absurd none) last)
    (of_append (map (λ s. Guard (sum_form s)) sums) (Assign k (last_form n) ∷ []) a m')) m
  where
    guards : In (map (λ s. Guard (sum_form s)) sums) a → is_action (n + 1) a ≡ true
    guards h = let s = of_map (λ (u : Sum). Guard (sum_form u)) sums a h in
        subst (λ b. is_action (n + 1) b ≡ true) s.2 (sum_form_within n s.0 (sound.each s.0 s.1))

    assign : is_action (n + 1) (Assign k (last_form n)) ≡ true
    assign = and_from (nat_lt k (n + 1)) (is_form (n + 1) (last_form n)) (lt-ltb k (n + 1) (omega arith))
        (multiple_form (n + 1) (pos 1) n (pos 0) refl refl)

length-alternative : (n k : ℕ) (sums : List Sum) → length (alternative_actions n k sums) ≡ length sums + 2
length-alternative n k sums =
    let a = length_push (map (λ s. Guard (sum_form s)) sums) (Assign k (last_form n)) in
    let b = length-map sums (λ s. Guard (sum_form s)) in
    omega arith

length-edges : (n : ℕ) (equations : List Equation) (k : ℕ) → length (flat_map (alternative_edges n) (enumerate_from k equations))
    ≡ alternative_count equations
length-edges n [] k = refl
length-edges n (e ∷ equations) k =
    length-append (map (alternative_edge n k) e.alternatives) (flat_map (alternative_edges n) (enumerate_from (k + 1) equations))
    ∙ ap₂ (λ a b. a + b) (length-map e.alternatives (alternative_edge n k)) (length-edges n equations (k + 1))
    ∙ sym (sum_by-cons (λ (f : Equation). length f.alternatives) e equations)

-- ---- all edges
edge_within : (n from : ℕ) (actions : List Action) → from < 2 → length actions ≤ MOST_ACTIONS
    → ((a : Action) → In actions a → is_action (n + 1) a ≡ true) →
    is_edge (n + 1) 2 (record { from = from; to = 1; actions = actions }) ≡ true
edge_within n from actions l few h =
    and_from (nat_lt from 2) (nat_le (length actions) MOST_ACTIONS && list_all (is_action (n + 1)) actions) (lt-ltb from 2 l)
    (and_from (nat_le (length actions) MOST_ACTIONS) (list_all (is_action (n + 1)) actions) (le-leb (length actions) MOST_ACTIONS few)
    (all_from (is_action (n + 1)) actions h))

module _ (equations : List Equation) (sound : AreSound equations) where
  start_within : is_edge (length equations + 1) 2 (start_edge equations) ≡ true
  start_within =
      let n = length equations in
      let actions = flat_map (start_actions n) (enumerate_from 0 equations) in
      edge_within n 0 actions (omega arith) (let e = length-starts n equations 0 in let f = sound.few in omega arith) (λ a m.
      let r = of_flat_map (start_actions n) (enumerate_from 0 equations) a m in
      let p = of_enumerated equations 0 r.0 r.1 in
      let l : r.0.0 < n = (let i = slice_get_within equations p.0 r.0.1 p.1 in let f = p.2 in omega arith) in
      start_action n r.0.0 r.0.1 l (sound.each r.0.1 (in_slice equations p.0 r.0.1 p.1)).start a r.2)

  alternative_within : (edge : Edge) → In (flat_map (alternative_edges (length equations)) (enumerate_from 0 equations)) edge
      → is_edge (length equations + 1) 2 edge ≡ true
  alternative_within edge m =
      let n = length equations in
      let r = of_flat_map (alternative_edges n) (enumerate_from 0 equations) edge m in
      let p = of_enumerated equations 0 r.0 r.1 in
      let l : r.0.0 < n = (let i = slice_get_within equations p.0 r.0.1 p.1 in let f = p.2 in omega arith) in
      let s = of_map (alternative_edge n r.0.0) r.0.1.alternatives edge r.2 in
      let good = (sound.each r.0.1 (in_slice equations p.0 r.0.1 p.1)).alternatives s.0 s.1 in
      subst (λ e. is_edge (n + 1) 2 e ≡ true) s.2
      (edge_within n 1 (alternative_actions n r.0.0 s.0) (omega arith)
      (let e = length-alternative n r.0.0 s.0 in let f = good.few in omega arith)
      (alternative_action n r.0.0 s.0 l good))

  edges_within : list_all (is_edge (length equations + 1) 2) (edges_of equations) ≡ true
  edges_within = all_from (is_edge (length equations + 1) 2) (edges_of equations) (λ edge m.
      ⊎_elim (λ e. subst (λ f. is_edge (length equations + 1) 2 f ≡ true) e start_within) (alternative_within edge) m)

  few_edges : length (edges_of equations) ≤ MOST_EDGES
  few_edges = let e = length-edges (length equations) equations 0 in let f = sound.few_alternatives in omega arith

-- there is one variable for each equation, and one more
pub length-variables : (equations : List Equation) → length (variables_of equations) ≡ length equations + 1
length-variables equations = length_push (map (λ (e : Equation). e.name) equations) (105 ∷ 110 ∷ 116 ∷ [])
    ∙ ap (λ m. m + 1) (length-map equations (λ (e : Equation). e.name))

flow_limits : (equations : List Equation) → IsTrue (are_equations equations)
    → IsTrue (is_flow (variables_of equations) entry_and_loop (edges_of equations))
flow_limits equations h =
    let sound = sound_equations equations h in
    let few = sound.few in
    let names = length (variables_of equations) in
    let e = length-variables equations in
    let edges = edges_of equations in
    and_from (nat_le 1 names && nat_le names MOST_VARIABLES) _
    (and_from (nat_le 1 names) (nat_le names MOST_VARIABLES) (le-leb 1 names (omega arith)) (le-leb names MOST_VARIABLES (omega arith)))
    (and_from true _ refl
    (and_from true _ refl
    (and_from (nat_le (length edges) MOST_EDGES) (list_all (is_edge (names + MOST_HIDDEN) 2) edges)
    (le-leb (length edges) MOST_EDGES (few_edges equations sound))
    (edges_grow names (names + MOST_HIDDEN) 2 edges (omega arith)
    (subst (λ k. list_all (is_edge k 2) edges ≡ true) (sym e) (edges_within equations sound))))))

-- variables, points and edges of equations within the limits are a flow within the limits
pub flow_within : (equations : List Equation) (names : List (List ℕ)) (points : List Point) (edges : List Edge)
    → IsTrue (are_equations equations) →
    names ≡ variables_of equations → points ≡ entry_and_loop → edges ≡ edges_of equations → IsTrue (is_flow names points edges)
flow_within equations names points edges h e f g =
    subst (λ x. IsTrue (is_flow x points edges)) (sym e) (subst (λ x. IsTrue (is_flow (variables_of equations) x edges)) (sym f)
    (subst (λ x. IsTrue (is_flow (variables_of equations) entry_and_loop x)) (sym g) (flow_limits equations h)))

-- ---- rows
some_there : (i : ℕ) (ks : List ℕ) → In ks i → is_row (map (term (pos 1) i) ks) ≡ true
some_there i [] m = absurd m
some_there i (j ∷ ks) m = ⊎_elim (λ e. rw (eq-eqb j i e) refl) (λ h. later (not (eqb (nat_abs (term (pos 1) i j)) 0)) (some_there i ks h)) m
  where
    later : (b : Bool) → is_row (map (term (pos 1) i) ks) ≡ true → (b || is_row (map (term (pos 1) i) ks)) ≡ true
    later true h = refl
    later false h = h

-- a row over n + 1 variables, not all 0
row_passes : (n : ℕ) (row : List ℤ) → In (rows_of n) row → (is_row row ≡ true) × (length row ≡ n + 1)
row_passes n row m =
    let i = of_map (multiple (n + 1) (pos 1)) (range_with_len 0 n) row m in
    let l = of_range 0 n i.0 i.1 in (
      subst (λ r. is_row r ≡ true) i.2 (some_there i.0 (range_with_len 0 (n + 1)) (in_range 0 (n + 1) i.0 (omega arith) (omega arith))),
      ap length (sym i.2) ∙ length-map-range_with_len (term (pos 1) i.0) 0 (n + 1),
    )

width-rows : (n : ℕ) → 1 ≤ n → width_of (rows_of n) ≡ n + 1
width-rows zero h = absurd (omega arith)
width-rows (suc m) h = length-map-range_with_len (term (pos 1) 0) 0 (suc m + 1)

rows_limits : (n : ℕ) → 1 ≤ n → n ≤ 11 → IsTrue (is_template (rows_of n))
rows_limits n h k =
    let e = length-rows n in
    and_from (nat_le 1 (length (rows_of n)) && nat_le (length (rows_of n)) MOST_ROWS) _
    (and_from (nat_le 1 (length (rows_of n))) (nat_le (length (rows_of n)) MOST_ROWS) (le-leb 1 (length (rows_of n)) (omega arith))
    (le-leb (length (rows_of n)) MOST_ROWS (omega arith)))
    (all_from (λ row. is_row row && length row == width_of (rows_of n)) (rows_of n) (λ row m.
    let p = row_passes n row m in
    and_from (is_row row) (length row == width_of (rows_of n)) p.0 (eq-eqb (length row) (width_of (rows_of n))
    (p.1 ∙ sym (width-rows n h)))))

-- one row for each of at most 11 names is a template within the limits
pub rows_within : (n k : ℕ) (rows : List (List ℤ)) → rows ≡ map (multiple (n + 1) (pos 1)) (range_with_len 0 k) → k ≡ n → 1 ≤ n → n ≤ 11
    → IsTrue (is_template rows)
rows_within n k rows e f h l = subst (λ x. IsTrue (is_template x)) (sym
    (e ∙ ap (λ m. map (multiple (n + 1) (pos 1)) (range_with_len 0 m)) f)) (rows_limits n h l)

system_limits : (equations : List Equation) → IsTrue (are_equations equations)
    → IsTrue (is_system (length (variables_of equations)) 2 (rows_of (length equations)))
system_limits equations h =
    let sound = sound_equations equations h in
    let few = sound.few in
    let n = length equations in
    let names = length (variables_of equations) in
    let e = length-rows n in
    and_from (is_over names (rows_of n)) (nat_le (2 * length (rows_of n)) MOST_UNKNOWNS)
    (all_from (λ row. length row == names) (rows_of n) (λ row m. eq-eqb (length row) names
    ((row_passes n row m).1 ∙ sym (length-variables equations))))
    (le-leb (2 * length (rows_of n)) MOST_UNKNOWNS (omega arith))

-- variables, points and rows of equations within the limits are a system within the limits
pub system_within : (equations : List Equation) (names : List (List ℕ)) (points : List Point) (template : List (List ℤ))
    → IsTrue (are_equations equations) →
    names ≡ variables_of equations → points ≡ entry_and_loop → template ≡ rows_of (length equations)
    → IsTrue (is_system (length names) (length points) template)
system_within equations names points template h e f g =
    subst (λ x. IsTrue (is_system (length x) (length points) template)) (sym e)
    (subst (λ x. IsTrue (is_system (length (variables_of equations)) (length x) template)) (sym f)
    (subst (λ x. IsTrue (is_system (length (variables_of equations)) 2 x)) (sym g) (system_limits equations h)))
