-- A valid certificate: x := 0; while x <= 9 { x := x + 1 }, with a plain step and a jump.
use Rattle.std.proofs.Common.{◌≡◌, inl, inr, ℕ, zero, suc, ◌<◌, List, [], ◌∷◌, pos, negsuc, get_or, refl, subst, arith}
use Rattle.base_facts.specs.Elements.{In}
use Rattle.base_numbers.specs.Vector.{vec_mat}
use Rattle.base_numbers.specs.Rational.{ℚ, whole, zero_ℚ, ◌≤ℚ◌, ◌<ℚ◌}
use Rattle.base_numbers.specs.Extended.{fin, pos_inf}
use Rattle.theory_validity.specs.Words.{end_form, start_of}
use Rattle.flow_edges.specs.declared.edge.Action.TheVariants.{Guard, Assign}
use Rattle.flow_edges.specs.declared.edge.Edge.{Edge}
use Rattle.flow_systems.specs.Equations.{Equations, Vector, Least}
use Rattle.theory_validity.specs.Steps.{Item, put, new_value, after_step, Jump, Step}
use Rattle.theory_validity.specs.Steps.{Placed, JumpItem, ValidStep, start_vector}
use Rattle.theory_validity.specs.Certificates.{Bound, after_steps, Certificate, bounds_vector, needs, needs_at, into_needs, coefficients}
use Rattle.theory_validity.specs.Certificates.{combination, row_side, guard_side, side, num, AllPass, NotFinite, Multipliers, BoundPasses}
use Rattle.theory_validity.specs.Certificates.{PointsInRange}
use Rattle.theory_validity.proofs.certificates.Needs.{in_of_contains}
use Rattle.theory_validity.proofs.certificates.Entered.{only, enter, entered, first, computing, fits_both, first_valid}
use Rattle.theory_validity.proofs.steps.CertificateLaw.{certificate_least}

abbrev again : Edge
again = record {
  from = 1;
  to = 1;
  actions = Guard (record { coeffs = pos 1 ∷ []; constant = negsuc 8 })
      ∷ Assign 0 (record { coeffs = pos 1 ∷ []; constant = pos 1 }) ∷ [];
}

abbrev system : Equations
system = entered 2 (again ∷ [])

abbrev loop : Item
loop = record {
  point = 1;
  row = 0;
  edge = 1;
  low = record { start = whole (pos 0) ∷ []; free = [] };
  second =
      record { start = whole (pos 9) ∷ []; free = [] };
  number = whole (pos 10);
}

abbrev second_step : Step
second_step = record { kind = Jump; items = loop ∷ [] }

second_valid : ValidStep system (after_step first start_vector) second_step
unfolding computing
second_valid = record {
  distinct = (tt, tt);
  placed = only (Placed system) loop
      (record { later = omega arith; point_within = omega arith; row_within = omega arith; edge_within = omega arith; into = refl });
  valid = only (JumpItem system (after_step first start_vector) (put (new_value Jump) (loop ∷ []) (after_step first start_vector))) loop
      valid;
}
  where
    valid : JumpItem system (after_step first start_vector) (put (new_value Jump) (loop ∷ []) (after_step first start_vector)) loop
    valid = record {
      low_size = (refl, refl);
      high_size = (refl, refl);
      bound = whole (pos 0);
      finite = refl;
      low_runs = record {
        passes = record { all = (record { le = tt }, tt) };
        fits =
            fits_both 2 (again ∷ []) (after_step first start_vector) 1 (start_of 1 (whole (pos 0) ∷ []))
            (record { le = tt }) (record { le = tt });
      };
      low_above = record { lt = tt };
      rises = record { le = tt };
      high_runs = record {
        passes = record { all = (record { le = tt }, tt) };
        fits =
            fits_both 2 (again ∷ []) (put (new_value Jump) (loop ∷ []) (after_step first start_vector)) 1 (start_of 1 (whole (pos 9) ∷ []))
            (record { le = tt }) (record { le = tt });
      };
      high_reaches = record { le = tt };
    }

abbrev certificate : Certificate
certificate = record {
  bounds = pos_inf ∷ pos_inf ∷ fin (whole (pos 10)) ∷ fin (whole (pos 0)) ∷ [];
  steps = first ∷ second_step ∷ [];
  uppers =
      Bound (whole (pos 0) ∷ whole (pos 0) ∷ []) [] ∷ Bound (whole (pos 0) ∷ whole (pos 0) ∷ []) (whole (pos 1) ∷ []) ∷
      Bound (whole (pos 0) ∷ whole (pos 0) ∷ []) [] ∷ Bound (whole (pos 0) ∷ whole (pos 1) ∷ []) (whole (pos 0) ∷ []) ∷ [];
}

abbrev B : Vector
B = bounds_vector system certificate.bounds

final : (p r : ℕ) → p < 2 → r < 2 → after_steps certificate.steps start_vector p r ≡ B p r
unfolding computing after_steps bounds_vector
final zero zero h i = refl
final zero (suc zero) h i = refl
final zero (suc (suc r)) h i = absurd (omega arith)
final (suc zero) zero h i = refl
final (suc zero) (suc zero) h i = refl
final (suc zero) (suc (suc r)) h i = absurd (omega arith)
final (suc (suc p)) r h i = absurd (omega arith)

-- a condition at the only number below 1
pub one : (P : ℕ → Type 0) → P 0 → (k : ℕ) → k < 1 → P k
one P a zero l = a
one P a (suc k) l = absurd (omega arith)

-- a condition at the two numbers below 2
pub two : (P : ℕ → Type 0) → P 0 → P 1 → (k : ℕ) → k < 2 → P k
two P a b zero l = a
two P a b (suc zero) l = b
two P a b (suc (suc k)) l = absurd (omega arith)

abbrev nought : List ℚ
nought = whole (pos 0) ∷ whole (pos 0) ∷ []

-- as above, with what evidence is made of
unfoldable pub opened : ◌<ℚ◌ (whole (pos 1)) (whole (pos 3))
unfolding computing after_steps bounds_vector needs needs_at into_needs coefficients combination row_side guard_side side num vec_mat
opened = record { lt = tt }

enter_multipliers : Multipliers system B enter nought []
unfolding opened
enter_multipliers = record {
  row_count = refl;
  guard_count = refl;
  rows_nonneg = (record { le = tt }, (record { le = tt }, tt));
  guards_nonneg = tt;
  zero_where = two (λ r. NotFinite (B 0 r) → get_or nought r zero_ℚ ≡ zero_ℚ) (λ n. refl) (λ n. refl);
}

-- multipliers of the loop's edge
again_multipliers : (a b c : ℚ) → zero_ℚ ≤ℚ a → zero_ℚ ≤ℚ b → zero_ℚ ≤ℚ c → Multipliers system B again (a ∷ b ∷ []) (c ∷ [])
unfolding opened
again_multipliers a b c p q r = record {
  row_count = refl;
  guard_count = refl;
  rows_nonneg = (p, (q, tt));
  guards_nonneg = (r, tt);
  zero_where = λ n l f. absurd (two (λ k. NotFinite (B 1 k) → ⊥) (λ v. v) (λ v. v) n l f);
}

upper_bounds : AllPass system B (needs system B) certificate.uppers
unfolding opened
upper_bounds =
    let high_in : BoundPasses system B enter (pos 1 ∷ []) (fin (whole (pos 10))) nought [] = record {
      multipliers = enter_multipliers;
      limit = whole (pos 10);
      finite = refl;
      same = one (λ k. get_or (combination system enter nought []) k zero_ℚ
          ≡ get_or (end_form 1 enter.actions (pos 1 ∷ [])).coeffs k zero_ℚ) refl;
      small = record { le = tt };
    } in
    let high_again : BoundPasses system B again (pos 1 ∷ []) (fin (whole (pos 10))) nought (whole (pos 1) ∷ []) = record {
      multipliers = again_multipliers (whole (pos 0)) (whole (pos 0)) (whole (pos 1)) (record { le = tt }) (record { le = tt })
          (record { le = tt });
      limit = whole (pos 10);
      finite = refl;
      same = one (λ k. get_or (combination system again nought (whole (pos 1) ∷ [])) k zero_ℚ
          ≡ get_or (end_form 1 again.actions (pos 1 ∷ [])).coeffs k zero_ℚ) refl;
      small = record { le = tt };
    } in
    let low_in : BoundPasses system B enter (negsuc 0 ∷ []) (fin (whole (pos 0))) nought [] = record {
      multipliers = enter_multipliers;
      limit = whole (pos 0);
      finite = refl;
      same = one (λ k. get_or (combination system enter nought []) k zero_ℚ
          ≡ get_or (end_form 1 enter.actions (negsuc 0 ∷ [])).coeffs k zero_ℚ) refl;
      small = record { le = tt };
    } in
    let low_again : BoundPasses system B again (negsuc 0 ∷ []) (fin (whole (pos 0))) (whole (pos 0) ∷ whole (pos 1) ∷ [])
    (whole (pos 0) ∷ []) = record {
      multipliers = again_multipliers (whole (pos 0)) (whole (pos 1)) (whole (pos 0)) (record { le = tt }) (record { le = tt })
          (record { le = tt });
      limit = whole (pos 0);
      finite = refl;
      same = one (λ k. get_or (combination system again (whole (pos 0) ∷ whole (pos 1) ∷ []) (whole (pos 0) ∷ [])) k zero_ℚ
          ≡ get_or (end_form 1 again.actions (negsuc 0 ∷ [])).coeffs k zero_ℚ) refl;
      small = record { le = tt };
    } in
    (high_in, (high_again, (low_in, (low_again, tt))))

in_range : PointsInRange system
in_range = record { entry = omega arith; ends = λ edge c. by edge (in_of_contains system.edges edge c) }
  where
    by : (edge : Edge) → In system.edges edge → edge.to < 2
    by edge (inl e) = subst (λ k. k.to < 2) e (omega arith)
    by edge (inr (inl e)) = subst (λ k. k.to < 2) e (omega arith)
    by edge (inr (inr m)) = absurd m

-- the certificate is valid, so x is from 0 to 10 at the loop's head and no bound is smaller
example : Least system B
example = certificate_least system certificate in_range
    (record { size = refl; steps = (first_valid 2 (again ∷ []) (omega arith), (second_valid, tt)); final = final; uppers = upper_bounds })
