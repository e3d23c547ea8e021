-- A post-solution that is at most every post-solution is least: its bounds beyond the system's points may be lowered to -inf.
use Rattle.std.proofs.Common.{◌≡◌, ◌∙◌, ⊎_elim, Bool, true, false, ℕ, ◌<◌, ◌≤◌, ltb, length, refl, sym, ap, subst, arith, if◌then◌else◌}
use Rattle.std.specs.Prelude.{ℤ, List, Some, slice_get}
use Rattle.std.proofs.lemmas.Bool.{cases_lt, lt-ltb, ltb-true}
use Rattle.std.proofs.lemmas.Option.{slice_get_within}
use Rattle.base_numbers.specs.Extended.{Ext, neg_inf, fin, ◌≤ᴱ◌, ◌<ᴱ◌}
use Rattle.flow_edges.specs.declared.edge.Edge.{Edge}
use Rattle.flow_systems.specs.States.{RationalState, dotℚ}
use Rattle.flow_systems.specs.Equations.{Equations, Vector, Fits, Transition, PostSolution, Exceeds, IsBelow, Least}
use Rattle.theory_validity.specs.Steps.{Below}
use Rattle.theory_validity.specs.Certificates.{PointsInRange}
use Rattle.theory_validity.proofs.steps.LeastOfBelow.{least_of_below}
use Rattle.theory_transformers.specs.EdgeProblems.{transformer}
use Rattle.theory_transformers.proofs.edge_problems.TransformerOf.{transformer_reaches}

module _ (system : Equations) (range : PointsInRange system) (v : Vector) (post : PostSolution system v)
    (below : (w : Vector) → PostSolution system w → IsBelow system v w) where
  -- the vector at the system's points, and -inf beyond them
  lowered : Vector
  lowered p r = if ltb p system.points then v p r else neg_inf

  inside : (p r : ℕ) → p < system.points → lowered p r ≡ v p r
  unfolding lowered
  inside p r l = ap (λ b. if b then v p r else neg_inf) (lt-ltb p system.points l)

  beyond : (p r : ℕ) → system.points ≤ p → lowered p r ≡ neg_inf
  unfolding lowered
  beyond p r l = by (ltb p system.points) refl
    where
      by : (b : Bool) → ltb p system.points ≡ b → (if b then v p r else neg_inf) ≡ neg_inf
      by true e = let h = ltb-true p system.points e in absurd (omega arith)
      by false e = refl

  -- a transition starts at the system's points, where the template has a row
  starts : (edge : Edge) (x y : RationalState) (r : ℕ) (row : List ℤ) → slice_get system.template r ≡ Some row
      → Transition system lowered edge x y → edge.from < system.points
  starts edge x y r row e t =
      ⊎_elim (λ l. l) (λ l. absurd (subst (λ b. fin (dotℚ row x) ≤ᴱ b) (beyond edge.from r l) (t.fits r row e)))
      (cases_lt edge.from system.points)

  of_lowered : (edge : Edge) (x y : RationalState) → edge.from < system.points → Transition system lowered edge x y
      → Transition system v edge x y
  of_lowered edge x y l t = record {
    listed = t.listed;
    starts = t.starts;
    fits = λ r row e. subst (λ b. fin (dotℚ row x) ≤ᴱ b) (inside edge.from r l) (t.fits r row e);
    trace = t.trace;
  }

  lowered_post : PostSolution system lowered
  lowered_post = record {
    entry = λ r l. inside 0 r range.entry ∙ post.entry r l;
    closed = λ edge x y t r row e. subst (λ b. fin (dotℚ row y) ≤ᴱ b) (sym (inside edge.to r (range.ends edge t.listed)))
        (post.closed edge x y (of_lowered edge x y (starts edge x y r row e t) t) r row e);
  }

  lowered_below : (w : Vector) → PostSolution system w → Below system lowered w
  lowered_below w other p r l =
      ⊎_elim (λ h. subst (λ b. b ≤ᴱ w p r) (sym (inside p r h)) (below w other p r h l))
      (λ h. subst (λ b. b ≤ᴱ w p r) (sym (beyond p r h)) tt) (cases_lt p system.points)

  lowered_least : Least system lowered
  lowered_least = least_of_below system (transformer system) (transformer_reaches system) lowered lowered_post lowered_below

  -- the vector is least
  pub below_all_least : Least system v
  below_all_least = record {
    solves = record {
      post = post;
      supported = λ p r row number later within e h.
          let x = lowered_least.solves.supported p r row number later within e (subst (λ b. number <ᴱ b) (sym (inside p r within)) h) in
          record {
            edge = x.edge;
            before = x.before;
            after = x.after;
            into = x.into;
            transition = of_lowered x.edge x.before x.after (starts x.edge x.before x.after r row e x.transition) x.transition;
            exceeds = x.exceeds;
          };
    };
    below = below;
  }
