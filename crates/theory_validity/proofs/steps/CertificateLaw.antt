-- The vector to which a valid certificate's steps lead is the least solution.
use Rattle.std.proofs.Common.{◌≡◌, ◌∙◌, ◌⊎◌, inl, inr, ⊎_elim, ℕ, zero, suc, ◌+◌, ◌*◌, ◌<◌, ◌≤◌, arith, le_trans, le-add_right}
use Rattle.std.proofs.Common.{mul-le-mul_right, List, [], ◌∷◌, ◌++◌, length, refl, sym, subst}
use Rattle.std.specs.Prelude.{ℤ, slice_get, Some, Contains}
use Rattle.std.proofs.lemmas.List.Elements.{Contains-get_or}
use Rattle.std.proofs.lemmas.Option.{slice_get-get_or, slice_get_within}
use Rattle.std.proofs.Math.ListN.{get_or-eq_default}
use native.Mathlib.Decide.{dec_lt}
use Rattle.base_facts.specs.Elements.{In}
use Rattle.base_numbers.specs.Extended.{Ext, neg_inf, fin, pos_inf, ◌≤ᴱ◌}
use Rattle.base_numbers.proofs.extended.ExtendedLaws.{≤ᴱ_refl, ≤ᴱ_antisymm, top_from_le}
use Rattle.flow_systems.specs.States.{RationalState, dotℚ}
use Rattle.flow_systems.specs.Equations.{Equations, Vector, Fits, Transition, PostSolution, Least}
use Rattle.flow_edges.specs.declared.edge.Edge.{Edge}
use Rattle.theory_validity.specs.Words.{start_of, end_of}
use Rattle.theory_validity.specs.Steps.{Below, Runs, end_value, Upper, Item, Step, edge_of, row_of, new_value, after_step, Placed, Unnamed}
use Rattle.theory_validity.specs.Steps.{BoundsItems, start_vector}
use Rattle.theory_validity.proofs.steps.Shown.{StablyShown}
use Rattle.theory_validity.specs.Certificates.{Evidence, EvidencePasses, ValidSteps, after_steps, Certificate, bounds_vector}
use Rattle.theory_validity.specs.Certificates.{ValidCertificate, PointsInRange}
use Rattle.theory_validity.proofs.words.Traces.{trace_of_word, word_of_trace, start_length}
use Rattle.theory_validity.proofs.certificates.Needs.{UppersPass, uppers_pass}
use Rattle.theory_validity.proofs.steps.Puts.{named_or_not, put-unnamed, below_itself, below_trans}
use Rattle.theory_validity.proofs.steps.StepLaw.{step_up, step_below}
use Rattle.theory_validity.proofs.steps.ShownLaw.{start_shown, step_shown}
use Rattle.theory_validity.proofs.certificates.Uppers.{evidence_bounds}

-- ---- post-solutions by words
-- a post-solution bounds every listed edge
pub upper_of_post : (system : Equations) (q : Vector) (edge : Edge) (r : ℕ) (row : List ℤ) → PostSolution system q
    → Contains system.edges edge → slice_get system.template r ≡ Some row →
    Upper system q edge row (q edge.to r)
unfolding end_value
upper_of_post system q edge r row post listed e w runs =
    post.closed edge (start_of system.variables w) (end_of system.variables edge.actions w)
    (record {
      listed = listed;
      starts = start_length system.variables w;
      fits = runs.fits;
      trace =
          trace_of_word system.variables edge.actions w runs.passes;
    }) r row e

-- a vector that is +∞ at the entry and bounds every listed edge is a post-solution
pub post_of_uppers : (system : Equations) (q : Vector) → ((r : ℕ) → r < length system.template → q 0 r ≡ pos_inf) →
    ((edge : Edge) (r : ℕ) (row : List ℤ) → Contains system.edges edge → slice_get system.template r ≡ Some row
    → Upper system q edge row (q edge.to r)) → PostSolution system q
unfolding end_value
post_of_uppers system q entry upper = record { entry = entry; closed = closed }
  where
    closed : (edge : Edge) (x y : RationalState) → Transition system q edge x y → Fits system q edge.to y
    closed edge x y t r row e =
        let w = word_of_trace system.variables edge.actions x y t.starts t.trace in
        let runs : Runs system q edge (x ++ w.0) = record {
          passes = w.2;
          fits =
              subst (λ s. Fits system q edge.from s) (sym w.3) t.fits;
        } in
        subst (λ s. fin (dotℚ row s) ≤ᴱ q edge.to r) w.4 (upper edge r row t.listed e (x ++ w.0) runs)

-- uppers that pass at a vector with +∞ at the entry make it a post-solution
uppers_post : (system : Equations) (F : Vector) → ((r : ℕ) → r < length system.template → F 0 r ≡ pos_inf) → UppersPass system F
    → PostSolution system F
uppers_post system F entry uppers = post_of_uppers system F entry (λ edge r row listed e. by edge r row (uppers edge r row listed e))
  where
    by : (edge : Edge) (r : ℕ) (row : List ℤ) → (F edge.to r ≡ pos_inf)
        ⊎ ((evidence : Evidence) × EvidencePasses system F edge row (F edge.to r) evidence) →
        Upper system F edge row (F edge.to r)
    by edge r row (inl top) = λ w runs. subst (λ v. fin (end_value system edge row w) ≤ᴱ v) (sym top) tt
    by edge r row (inr h) = evidence_bounds system F edge row (F edge.to r) h.0 h.1

-- ---- along the steps
-- a post-solution bounds the items of a valid step
bounds_items : (system : Equations) (q : Vector) (items : List Item) → PostSolution system q
    → ((item : Item) → In items item → Placed system item) → BoundsItems system q items
unfolding edge_of row_of
bounds_items system q items post placed item m =
    let p = placed item m in
    subst (λ s. Upper system q (edge_of system item) (row_of system item) (q s item.row)) p.into
    (upper_of_post system q (edge_of system item) item.row (row_of system item) post
    (Contains-get_or system.edges item.edge (record { from = 0; to = 0; actions = [] }) p.edge_within)
    (slice_get-get_or system.template item.row [] p.row_within))

-- the vector to which valid steps lead is at least the first
pub led_up : (system : Equations) (steps : List Step) (z : Vector) → ValidSteps system z steps → Below system z (after_steps steps z)
unfolding after_steps
led_up system [] z v = below_itself system z
led_up system (step ∷ steps) z v = below_trans system z (after_step step z) (after_steps steps (after_step step z))
    (step_up system z step v.0) (led_up system steps (after_step step z) v.1)

-- and at most every post-solution above the first
led_below : (system : Equations) (steps : List Step) (z q : Vector) → ValidSteps system z steps → PostSolution system q → Below system z q
    → Below system (after_steps steps z) q
unfolding after_steps
led_below system [] z q v post below = below
led_below system (step ∷ steps) z q v post below =
    led_below system steps (after_step step z) q v.1 post (step_below system z q step v.0 below
    (bounds_items system q step.items post v.0.placed))

-- and stably shown where the first is
led_shown : (system : Equations) (steps : List Step) (z : Vector) → ValidSteps system z steps → StablyShown system z
    → StablyShown system (after_steps steps z)
unfolding after_steps
led_shown system [] z v shown = shown
led_shown system (step ∷ steps) z v shown = led_shown system steps (after_step step z) v.1 (step_shown system z step v.0 shown)

-- ---- the law

start_below : (system : Equations) (q : Vector) → PostSolution system q → Below system start_vector q
unfolding start_vector
start_below system q post zero r l = subst (λ v. pos_inf ≤ᴱ v) (sym (post.entry r l)) tt
start_below system q post (suc p) r l = tt

entry_top : (system : Equations) (F : Vector) → Below system start_vector F → (r : ℕ) → r < length system.template → F 0 r ≡ pos_inf
unfolding start_vector
entry_top system F below r l = top_from_le (F 0 r) (below 0 r l)

-- past the points nothing is named
unnamed_past : (system : Equations) (items : List Item) (p r : ℕ) → ((item : Item) → In items item → Placed system item) → system.points ≤ p
    → Unnamed items p r
unnamed_past system items p r placed past = ⊎_elim
    (λ n. let w = (placed n.0 n.1).point_within in let e = n.2 in absurd (omega arith))
    (λ u. u)
    (named_or_not items p r)

led-past : (system : Equations) (steps : List Step) (z : Vector) (p r : ℕ) → ValidSteps system z steps → system.points ≤ p
    → after_steps steps z p r ≡ z p r
unfolding after_steps after_step
led-past system [] z p r v past = refl
led-past system (step ∷ steps) z p r v past =
    led-past system steps (after_step step z) p r v.1 past ∙ put-unnamed (new_value step.kind) step.items z p r
    (unnamed_past system step.items p r v.0.placed past)

start-past : (system : Equations) (p r : ℕ) → 0 < system.points → system.points ≤ p → start_vector p r ≡ neg_inf
unfolding start_vector
start-past system zero r h i = absurd (omega arith)
start-past system (suc p) r h i = refl

bounds-past : (system : Equations) (bounds : List Ext) (p r : ℕ) → length bounds ≡ system.points * length system.template
    → system.points ≤ p → bounds_vector system bounds p r ≡ neg_inf
unfolding bounds_vector
bounds-past system bounds p r size past =
    get_or-eq_default bounds neg_inf (subst (λ n. n ≤ p * length system.template + r) (sym size)
    (le_trans (mul-le-mul_right (length system.template) past) (le-add_right (p * length system.template) r)))

-- the bounds of a valid certificate are the vector to which its steps lead
bounds_are : (system : Equations) (certificate : Certificate) → 0 < system.points → ValidCertificate system certificate → (p r : ℕ)
    → r < length system.template →
    after_steps certificate.steps start_vector p r ≡ bounds_vector system certificate.bounds p r
bounds_are system certificate h v p r l = by (dec_lt p system.points)
  where
    by : Dec (p < system.points) → after_steps certificate.steps start_vector p r ≡ bounds_vector system certificate.bounds p r
    by (yes i) = v.final p r i l
    by (no i) =
        let past : system.points ≤ p = omega arith in
        led-past system certificate.steps start_vector p r v.steps past ∙ start-past system p r h past
        ∙ sym (bounds-past system certificate.bounds p r v.size past)

-- the bounds of a valid certificate are the least solution
pub certificate_least : (system : Equations) (certificate : Certificate) → PointsInRange system → ValidCertificate system certificate
    → Least system (bounds_vector system certificate.bounds)
certificate_least system certificate range v =
    let F = after_steps certificate.steps start_vector in
    let B = bounds_vector system certificate.bounds in
    let up = led_up system certificate.steps start_vector v.steps in
    let same = bounds_are system certificate range.entry v in
    let entry : (r : ℕ) → r < length system.template → B 0 r ≡ pos_inf = λ r l. sym (same 0 r l) ∙ entry_top system F up r l in
    let over : Below system F B = λ p r l. subst (λ b. F p r ≤ᴱ b) (same p r l) (≤ᴱ_refl (F p r)) in
    record {
      solves = record {
        post = uppers_post system B entry (uppers_pass system B certificate.uppers range entry v.uppers);
        supported = λ p r row number later within listed less.
            led_shown system certificate.steps start_vector v.steps (start_shown system) B over p r later
            (sym (same p r (slice_get_within system.template r row listed))) row number listed less;
      };
      below = λ q post p r within l.
          subst (λ b. b ≤ᴱ q p r) (same p r l) (led_below system certificate.steps start_vector q v.steps post (start_below system q post) p
          r l);
    }

-- there is at most one least solution
pub least_unique : (system : Equations) (v w : Vector) → Least system v → Least system w → (p r : ℕ) → p < system.points
    → r < length system.template → v p r ≡ w p r
least_unique system v w a b p r h l = ≤ᴱ_antisymm (v p r) (w p r) (a.below w b.solves.post p r h l) (b.below v a.solves.post p r h l)
