-- A valid certificate with a ray, a source that nothing reaches and guards that nothing passes:
-- x := 0; while * { x := x + 1 }; then a point after x <= -1, with a loop of its own.
use Rattle.std.proofs.Common.{◌≡◌, inl, inr, ℕ, zero, suc, ◌<◌, List, [], ◌∷◌, ℤ, pos, negsuc, get_or, refl, subst, arith}
use Rattle.std.specs.Prelude.{slice_get, Some}
use Rattle.std.proofs.lemmas.Option.{same_Some}
use Rattle.base_facts.specs.Elements.{In}
use Rattle.base_numbers.specs.Rational.{ℚ, whole, zero_ℚ, ◌≤ℚ◌}
use Rattle.base_numbers.specs.Extended.{neg_inf, fin, pos_inf}
use Rattle.flow_edges.specs.declared.edge.Action.TheVariants.{Guard, Assign}
use Rattle.flow_edges.specs.declared.edge.Edge.{Edge}
use Rattle.flow_systems.specs.Equations.{Equations, Vector, Least}
use Rattle.theory_validity.specs.Words.{lin, start_form, end_form, start_of}
use Rattle.theory_validity.specs.Steps.{word, Item, Unnamed, row_of, after_step, Ray, Step, Placed, RayItem}
use Rattle.theory_validity.specs.Steps.{ValidStep, start_vector}
use Rattle.theory_validity.specs.Certificates.{Bound, Empty, Unreached, after_steps, Certificate, bounds_vector, needs, AllPass, NotFinite}
use Rattle.theory_validity.specs.Certificates.{BoundPasses, EmptyPasses, combination, PointsInRange}
use Rattle.theory_validity.proofs.certificates.Needs.{in_of_contains}
use Rattle.theory_validity.proofs.steps.CertificateLaw.{certificate_least}
use Rattle.theory_validity.proofs.certificates.Entered.{only, enter, entered, first, fits_both, first_valid}
use Rattle.theory_validity.proofs.certificates.Example.{opened, one, two}

abbrev again : Edge
again = record { from = 1; to = 1; actions = Assign 0 (record { coeffs = pos 1 ∷ []; constant = pos 1 }) ∷ [] }

abbrev never : Edge
never = record { from = 1; to = 2; actions = Guard (record { coeffs = pos 1 ∷ []; constant = pos 1 }) ∷ [] }

abbrev idle : Edge
idle = record { from = 2; to = 2; actions = [] }

abbrev system : Equations
system = entered 3 (again ∷ never ∷ idle ∷ [])

abbrev away : Item
away = record {
  point = 1;
  row = 0;
  edge = 1;
  low = record { start = whole (pos 0) ∷ []; free = [] };
  second =
      record { start = whole (pos 1) ∷ []; free = [] };
  number = whole (pos 1);
}

abbrev second_step : Step
second_step = record { kind = Ray; items = away ∷ [] }

second_valid : ValidStep system (after_step first start_vector) second_step
unfolding opened
second_valid = record {
  distinct = (tt, tt);
  placed = only (Placed system) away
      (record { later = omega arith; point_within = omega arith; row_within = omega arith; edge_within = omega arith; into = refl });
  valid = only (RayItem system (after_step first start_vector) (away ∷ [])) away valid;
}
  where
    named : (other : Item) → In (away ∷ []) other → other.point ≡ 1 → lin (start_form 1 (row_of system other)) (word away.second) ≤ℚ
        other.number
    named other (inl e) f = subst (λ o. lin (start_form 1 (row_of system o)) (word away.second) ≤ℚ o.number) e (record { le = tt })
    named other (inr m) f = absurd m

    others : (r : ℕ) (row : List ℤ) (bound : ℚ) → slice_get system.template r ≡ Some row → Unnamed (away ∷ []) 1 r
        → after_step first start_vector 1 r ≡ fin bound → lin (start_form 1 row) (word away.second) ≤ℚ zero_ℚ
    others zero row bound e u f = cc (u.0)
    others (suc zero) row bound e u f = subst (λ s. lin (start_form 1 s) (word away.second) ≤ℚ zero_ℚ) (same_Some (negsuc 0 ∷ []) row e)
        (record { le = tt })
    others (suc (suc r)) row bound e u f = cc

    valid : RayItem system (after_step first start_vector) (away ∷ []) away
    valid = record {
      low_size = (refl, refl);
      direction_size = (refl, refl);
      below_top = tt;
      low_runs = record {
        passes = record { all = tt };
        fits = fits_both 3 (again ∷ never ∷ idle ∷ []) (after_step first start_vector) 1 (start_of 1 (whole (pos 0) ∷ []))
            (record { le = tt }) (record { le = tt });
      };
      low_above = record { lt = tt };
      rate = record { lt = tt };
      named = named;
      others = others;
      falls = record { all = tt };
      gains = record { le = tt };
    }

abbrev certificate : Certificate
certificate = record {
  bounds = pos_inf ∷ pos_inf ∷ pos_inf ∷ fin (whole (pos 0)) ∷ neg_inf ∷ neg_inf ∷ [];
  steps = first ∷ second_step ∷ [];
  uppers =
      Bound (whole (pos 0) ∷ whole (pos 0) ∷ []) [] ∷ Bound (whole (pos 0) ∷ whole (pos 1) ∷ []) [] ∷
      Empty (whole (pos 0) ∷ whole (pos 1) ∷ []) (whole (pos 1) ∷ []) ∷ Unreached 0
      ∷ Empty (whole (pos 0) ∷ whole (pos 1) ∷ []) (whole (pos 1) ∷ []) ∷ Unreached 1 ∷ [];
}

abbrev B : Vector
B = bounds_vector system certificate.bounds

final : (p r : ℕ) → p < 3 → r < 2 → after_steps certificate.steps start_vector p r ≡ B p r
unfolding opened
final zero r h = two (λ k. after_steps certificate.steps start_vector 0 k ≡ B 0 k) refl refl r
final (suc zero) r h = two (λ k. after_steps certificate.steps start_vector 1 k ≡ B 1 k) refl refl r
final (suc (suc zero)) r h = two (λ k. after_steps certificate.steps start_vector 2 k ≡ B 2 k) refl refl r
final (suc (suc (suc p))) r h = λ l. absurd (omega arith)

uppers : AllPass system B (needs system B) certificate.uppers
unfolding opened
uppers =
    let enters : BoundPasses system B enter (negsuc 0 ∷ []) (fin (whole (pos 0))) (whole (pos 0) ∷ whole (pos 0) ∷ []) [] = record {
      multipliers = record {
        row_count = refl;
        guard_count = refl;
        rows_nonneg = (record { le = tt }, (record { le = tt }, tt));
        guards_nonneg = tt;
        zero_where = two (λ r. NotFinite (B 0 r) → get_or (whole (pos 0) ∷ whole (pos 0) ∷ []) r zero_ℚ ≡ zero_ℚ) (λ n. refl) (λ n. refl);
      };
      limit = whole (pos 0);
      finite = refl;
      same = one (λ k. get_or (combination system enter (whole (pos 0) ∷ whole (pos 0) ∷ []) []) k zero_ℚ
          ≡ get_or (end_form 1 enter.actions (negsuc 0 ∷ [])).coeffs k zero_ℚ) refl;
      small = record { le = tt };
    } in
    let goes : BoundPasses system B again (negsuc 0 ∷ []) (fin (whole (pos 0))) (whole (pos 0) ∷ whole (pos 1) ∷ []) [] = record {
      multipliers = record {
        row_count = refl;
        guard_count = refl;
        rows_nonneg = (record { le = tt }, (record { le = tt }, tt));
        guards_nonneg = tt;
        zero_where = two (λ r. NotFinite (B 1 r) → get_or (whole (pos 0) ∷ whole (pos 1) ∷ []) r zero_ℚ ≡ zero_ℚ) (λ n. refl)
            (λ n. absurd n);
      };
      limit = whole (pos 0);
      finite = refl;
      same = one (λ k. get_or (combination system again (whole (pos 0) ∷ whole (pos 1) ∷ []) []) k zero_ℚ
          ≡ get_or (end_form 1 again.actions (negsuc 0 ∷ [])).coeffs k zero_ℚ) refl;
      small = record { le = tt };
    } in
    let none : EmptyPasses system B never (whole (pos 0) ∷ whole (pos 1) ∷ []) (whole (pos 1) ∷ []) = record {
      multipliers = record {
        row_count = refl;
        guard_count = refl;
        rows_nonneg = (record { le = tt }, (record { le = tt }, tt));
        guards_nonneg = (record { le = tt }, tt);
        zero_where = two (λ r. NotFinite (B 1 r) → get_or (whole (pos 0) ∷ whole (pos 1) ∷ []) r zero_ℚ ≡ zero_ℚ) (λ n. refl)
            (λ n. absurd n);
      };
      same = one (λ k. get_or (combination system never (whole (pos 0) ∷ whole (pos 1) ∷ []) (whole (pos 1) ∷ [])) k zero_ℚ ≡ zero_ℚ) refl;
      negative = record { lt = tt };
    } in
    (enters, (goes, (none, ((omega arith, refl), (none, ((omega arith, refl), tt))))))

in_range : PointsInRange system
in_range = record { entry = omega arith; ends = λ edge c. by edge (in_of_contains system.edges edge c) }
  where
    by : (edge : Edge) → In system.edges edge → edge.to < 3
    by edge (inl e) = subst (λ k. k.to < 3) e (omega arith)
    by edge (inr (inl e)) = subst (λ k. k.to < 3) e (omega arith)
    by edge (inr (inr (inl e))) = subst (λ k. k.to < 3) e (omega arith)
    by edge (inr (inr (inr (inl e)))) = subst (λ k. k.to < 3) e (omega arith)
    by edge (inr (inr (inr (inr m)))) = absurd m

-- the certificate is valid
example : Least system B
example = certificate_least system certificate in_range (record {
  size = refl;
  steps = (first_valid 3 (again ∷ never ∷ idle ∷ []) (omega arith), (second_valid, tt));
  final =
      final;
  uppers = uppers;
})
