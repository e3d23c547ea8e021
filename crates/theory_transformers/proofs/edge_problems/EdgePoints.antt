-- The points of an edge's problem are the words that pass and fit.
use Rattle.std.proofs.Common.{◌≡◌, ◌∙◌, ℕ, ◌<◌, ◌≤◌, true, false, List, length, refl, sym, subst, arith}
use Rattle.std.specs.Prelude.{ℤ, slice_get, Some}
use Rattle.base_numbers.specs.Rational.{ℚ, zero_ℚ, ◌≤ℚ◌}
use Rattle.base_numbers.specs.Extended.{Ext, neg_inf, fin, pos_inf, ◌≤ᴱ◌, ◌<ᴱ◌}
use Rattle.base_numbers.specs.Vector.{dot}
use Rattle.flow_edges.specs.declared.edge.Action.{Action}
use Rattle.flow_systems.specs.States.{dotℚ}
use Rattle.flow_edges.specs.declared.edge.Edge.{Edge}
use Rattle.flow_systems.specs.Equations.{Equations, Vector}
use Rattle.theory_validity.specs.Words.{Word, lin, width, guard_forms, start_form, start_of, Falls}
use Rattle.theory_validity.specs.Steps.{Runs}
use Rattle.theory_validity.proofs.words.WordLaws.{start-coeffs}
use Rattle.theory_validity.proofs.words.Widths.{start_form_width, guard_forms_width}
use Rattle.lp_theory.specs.Problem.{left}
use Rattle.lp_theory.specs.Listed.{at}
use Rattle.lp_theory.specs.Free.{IsFreePoint}
use Rattle.theory_transformers.specs.Limits.{limits_problem, tabulate, AllUnder, AllWithin}
use Rattle.theory_transformers.specs.EdgeProblems.{source_limits, guard_limits, edge_limits, edge_problem, NoneLost}
use Rattle.theory_transformers.proofs.limits.Products.{product-at, product-tabulate}
use Rattle.theory_transformers.proofs.limits.LimitLaws.{under_from, under_into, under_first, under_second, under_both, within_both}
use Rattle.theory_transformers.proofs.limits.SourceLimits.{source_out, source_in, source_within, guards_out, guards_fall, guards_in}
use Rattle.theory_transformers.proofs.limits.SourceLimits.{guards_within}

-- a start form's coefficients have at most a word's columns
pub start_within : (system : Equations) (edge : Edge) (row : List ℤ) →
    length (start_form system.variables row).coeffs ≤ width system.variables edge.actions
unfolding width
start_within system edge row = let l = start_form_width system.variables row in omega (arith, l)

-- the product of a row's start form and a word is the row's value at the word's start
pub start_is : (n : ℕ) (row : List ℤ) (w : Word) → dot (start_form n row).coeffs w ≡ dotℚ row (start_of n w)
unfolding lin
start_is n row w = start-coeffs n row w

-- a word has at least a column for each variable
pub wider : (n : ℕ) (actions : List Action) (k : ℕ) → k ≤ n → k ≤ width n actions
unfolding width
wider n actions k l = omega (arith, l)

edge_within : (system : Equations) (z : Vector) (edge : Edge) → AllWithin (width system.variables edge.actions) (edge_limits system z edge)
unfolding edge_limits
edge_within system z edge =
    let n = system.variables in
    let m = width n edge.actions in
    within_both m (source_limits (λ r u. u) n (z edge.from) system.template) (guard_limits (λ u. u) (guard_forms n edge.actions))
    (source_within m (λ r u. u) n (z edge.from) system.template (λ r u l. wider n edge.actions (length u) l))
    (guards_within m (λ u. u) m (guard_forms n edge.actions) (guard_forms_width n edge.actions) (λ u l. l))

-- a number at most each finite bound is at most the bound, if that isn't −∞
at_most_bound : (a : ℚ) (v : Ext) → neg_inf <ᴱ v → ((c : ℚ) → v ≡ fin c → a ≤ℚ c) → fin a ≤ᴱ v
at_most_bound a neg_inf h i = h
at_most_bound a (fin c) h i = i c refl
at_most_bound a pos_inf h i = tt

-- rows that are met say that the word runs
pub edge_runs : (system : Equations) (z : Vector) (edge : Edge) (x : ℕ → ℚ) → NoneLost (z edge.from) system.template
    → AllUnder true (edge_limits system z edge) x →
    Runs system z edge (tabulate (width system.variables edge.actions) x)
unfolding edge_limits
edge_runs system z edge x none h =
    let n = system.variables in
    let m = width n edge.actions in
    let a = source_limits (λ r u. u) n (z edge.from) system.template in
    let b = guard_limits (λ u. u) (guard_forms n edge.actions) in
    record {
      passes = record {
        all = guards_out (λ u. u) m (guard_forms n edge.actions) x (tabulate m x) (guard_forms_width n edge.actions)
            (λ u l. sym (product-tabulate u m x l)) (under_second true a b x h);
      };
      fits = λ r row e. at_most_bound (dotℚ row (start_of n (tabulate m x))) (z edge.from r) (none.above r row e)
          (λ c f. subst (λ s. s ≤ℚ c) (sym (product-tabulate (start_form n row).coeffs m x (start_within system edge row))
          ∙ start_is n row (tabulate m x))
          (source_out true (λ r u. u) n (z edge.from) system.template x (under_first true a b x h) r row c e f));
    }

fin_le : (a : ℚ) (v : Ext) (c : ℚ) → fin a ≤ᴱ v → v ≡ fin c → a ≤ℚ c
fin_le a v c h e = subst (λ s. fin a ≤ᴱ s) e h

-- and a word that runs meets the rows
pub edge_meets : (system : Equations) (z : Vector) (edge : Edge) (w : Word) → Runs system z edge w
    → AllUnder true (edge_limits system z edge) (at w)
unfolding edge_limits
edge_meets system z edge w runs =
    let n = system.variables in
    let m = width n edge.actions in
    under_both true (source_limits (λ r u. u) n (z edge.from) system.template) (guard_limits (λ u. u) (guard_forms n edge.actions)) (at w)
    (source_in true (λ r u. u) n (z edge.from) system.template (at w)
    (λ r row c e f. subst (λ s. s ≤ℚ c) (sym (product-at (start_form n row).coeffs w ∙ start_is n row w))
    (fin_le (dotℚ row (start_of n w)) (z edge.from r) c (runs.fits r row e) f)))
    (guards_in (λ u. u) m (guard_forms n edge.actions) (at w) w (guard_forms_width n edge.actions) (λ u l. product-at u w) runs.passes.all)

-- the points of the problem are the words that pass and fit
pub point_runs : (system : Equations) (z : Vector) (edge : Edge) (row : List ℤ) (x : ℕ → ℚ) → NoneLost (z edge.from) system.template
    → IsFreePoint (edge_problem system z edge row) x →
    Runs system z edge (tabulate (width system.variables edge.actions) x)
unfolding edge_problem limits_problem
point_runs system z edge row x none p = edge_runs system z edge x none
    (under_from true (width system.variables edge.actions) (edge_limits system z edge) x (edge_within system z edge) p.meets)

-- a word that runs is a point of the edge's problem
pub runs_point : (system : Equations) (z : Vector) (edge : Edge) (row : List ℤ) (w : Word) → Runs system z edge w
    → IsFreePoint (edge_problem system z edge row) (at w)
unfolding edge_problem limits_problem
runs_point system z edge row w runs = record {
  meets = under_into true (width system.variables edge.actions) (edge_limits system z edge)
      (at w) (edge_within system z edge) (edge_meets system z edge w runs);
}

-- along a direction that keeps the rows no guard rises, nor a source row with a finite bound
pub direction_falls : (system : Equations) (z : Vector) (edge : Edge) (row : List ℤ) (d : ℕ → ℚ) →
    ((r : ℕ) → r < (edge_problem system z edge row).rows → left (edge_problem system z edge row) r d ≤ℚ zero_ℚ) →
    Falls system.variables edge.actions (tabulate (width system.variables edge.actions) d)
    × ((r : ℕ) (source : List ℤ) (bound : ℚ) → slice_get system.template r ≡ Some source → z edge.from r ≡ fin bound →
    lin (start_form system.variables source) (tabulate (width system.variables edge.actions) d) ≤ℚ zero_ℚ)
unfolding edge_problem limits_problem edge_limits lin
direction_falls system z edge row d h =
    let n = system.variables in
    let m = width n edge.actions in
    let a = source_limits (λ r u. u) n (z edge.from) system.template in
    let b = guard_limits (λ u. u) (guard_forms n edge.actions) in
    let under = under_from false m (edge_limits system z edge) d (edge_within system z edge) h in (
      record {
        all = guards_fall (λ u. u) m (guard_forms n edge.actions) d (tabulate m d) (guard_forms_width n edge.actions)
            (λ u l. sym (product-tabulate u m d l)) (under_second false a b d under);
      },
      λ r source bound e f. subst (λ s. s ≤ℚ zero_ℚ) (sym (product-tabulate (start_form n source).coeffs m d
          (start_within system edge source)))
          (source_out false (λ r u. u) n (z edge.from) system.template d (under_first false a b d under) r source bound e f),
    )
