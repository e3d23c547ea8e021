-- The values of a text's equations, from the least vector of their system.
use Rattle.std.proofs.Common.{◌≡◌, ◌∙◌, ℕ, ◌+◌, ◌≤◌, List, [], ◌∷◌, length, map, take, refl, sym, ap, subst}
use Rattle.std.specs.Prelude.{IsTrue, Ok, codes, pos}
use Rattle.std.proofs.Math.Seq.{take-append_seam}
use Rattle.std.proofs.lemmas.List.{length-map}
use Rattle.std.proofs.lemmas.List.FromFn.{length-map-range_with_len}
use Rattle.base_limits.specs.declared.limits.TheConstants.{MOST_CELLS}
use Rattle.flow_systems.specs.Cells.{cells_of}
use Rattle.flow_systems.specs.Equations.{Equations, Least}
use Rattle.flow_systems.specs.View.{equations_of, vector_of}
use Rattle.flow_systems.specs.declared.footer.Footer.TheVariants.{Improvements}
use Rattle.flow_systems.specs.declared.system.System.{System}
use Rattle.flow_templates.specs.Domains.{multiple}
use Rattle.flow_rationals.specs.declared.equation.Equation.{Equation}
use Rattle.flow_rationals.specs.Equations.{are_equations}
use Rattle.flow_rationals.specs.EquationTexts.{Answers}
use Rattle.flow_rationals.specs.Laws.{LeastAboveEqualRightSides, LeastVectorsAreLeastAbove}
use Rattle.flow_rationals.specs.System.{system_of, variables_of}
use Rattle.solve_rounds.specs.Solutions.{IsSolved}
use Rattle.solve_rounds.specs.declared.solution.Solved.{Solved}
use Rattle.ask_words.specs.declared.request.Policy.{Policy}
use Rattle.ask_words.specs.declared.request.Purpose.TheVariants.{Report}
use Rattle.ask_words.specs.declared.format.Format.{Format}
use Rattle.top_texts.specs.EquationTexts.{AreValuesOf, IsEquationSystem}
use Rattle.top_written.specs.Formats.{values_in}
use Rattle.top_texts.specs.Outcomes.{IsHalted, IsUnanswered}
use Rattle.top_texts.specs.Exact.{exact}
use Rattle.top_texts.specs.Policies.{rule_of}
use Rattle.top_texts.specs.Questions.{QuestionEnds, equations_question, rounds_end}
use Rattle.top_texts.specs.declared.refusal.Refusal.{Refusal}
use Rattle.top_status.specs.declared.status.Status.TheVariants.{Done}
use Rattle.top_texts.proofs.analyse.Halted.{only_wide}
use Rattle.top_texts.proofs.questions.Answered.{halted}
use Rattle.top_texts.proofs.rounds.OneChain.{solved_rounds}

-- ---- the sizes of the system

module _ (s : System) (equations : List Equation) (is : equations_of s ≡ system_of equations) where
  -- the template has one row for each equation
  pub rows_are : length s.template ≡ length equations
  rows_are = ap (λ (q : Equations). length q.template) is ∙ length-map-range_with_len (multiple (length equations + 1) (pos 1)) 0
      (length equations)

  -- the system has one variable more than there are equations
  pub names_are : length s.flow.names ≡ length equations + 1
  names_are = ap (λ (q : Equations). q.variables) is

  -- the system has two points
  pub points_are : length s.flow.points ≡ 2
  points_are = ap (λ (q : Equations). q.points) is

-- ---- its values

-- the names of its rows
row_names : (equations : List Equation) (n : ℕ) → n ≡ length equations → take n (variables_of equations) ≡ map (λ e. e.name) equations
row_names equations n e =
    ap (λ k. take k (variables_of equations)) (e ∙ sym (length-map equations (λ (e : Equation). e.name)))
    ∙ take-append_seam (map (λ e. e.name) equations) (codes "int" ∷ [])

module _ (text : List ℕ) (policy : Policy) (limit : ℕ) (equations : List Equation) (reading : Answers text (Ok equations)) (s : System)
    (is : equations_of s ≡ system_of equations) where
  is_system : IsEquationSystem text s
  is_system = record { equations = equations; reading = reading; system_is = is }

  -- rounds that halt leave the question of the equations unanswered
  pub unsolved : cells_of (equations_of s) ≤ MOST_CELLS → (r : Refusal) → IsHalted Report s policy limit r
      → IsUnanswered (equations_question exact text policy limit) r
  unsolved few r h = halted (equations_question exact text policy limit) Report s is_system (only_wide Report s policy limit few) r h

  -- the values of the least vector are those of the equations
  pub valued : LeastVectorsAreLeastAbove → LeastAboveEqualRightSides → IsTrue (are_equations equations)
      → s.flow.names ≡ variables_of equations → (solved : Solved) → IsSolved s (rule_of policy) limit solved
      → Least (equations_of s) (vector_of (length s.template) solved.bounds) → (format : Format) (bytes : List ℕ)
      → bytes ≡ values_in format (take (length s.template) s.flow.names) (vector_of (length s.template) solved.bounds 1)
      (Improvements solved.improvements) → AreValuesOf text policy limit format bytes
  valued above equal within names solved solution least format bytes written =
      let vector = vector_of (length s.template) solved.bounds in
      let lowest = above equations vector within (subst (λ q. Least q vector) is least) in
      record {
        equations = equations;
        reading = reading;
        values = vector 1;
        equal = equal equations (vector 1) within lowest;
        least = lowest;
        rounds = solved.improvements;
        within = solution.within;
        improvements = (s, is, vector, solved_rounds s policy limit solved solution);
        written = written ∙ ap (λ ns. values_in format ns (vector 1) (Improvements solved.improvements))
            (ap (λ ns. take (length s.template) ns) names ∙ row_names equations (length s.template) (rows_are s equations is));
      }

-- ---- what the text is answered

-- where values are written, the improvements have ended
pub values_end : (text : List ℕ) (policy : Policy) (limit : ℕ) (format : Format) (bytes : List ℕ)
    → AreValuesOf text policy limit format bytes
    → QuestionEnds (equations_question exact text policy limit) Done
values_end text policy limit format bytes v =
    let made = v.improvements in
    rounds_end made.0 refl (record { equations = v.equations; reading = v.reading; system_is = made.1 })
    (v.rounds, v.within, made.2, made.3)
