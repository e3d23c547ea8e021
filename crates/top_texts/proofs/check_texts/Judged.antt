-- What the verdicts of the least bounds on the checks of a program say of its text.
use Rattle.std.proofs.Common.{◌≡◌, inl, inr, ℕ, Bool, List, length, subst, subst₂}
use Rattle.std.specs.Prelude.{◌↔◌, IsTrue, Contains}
use Rattle.lang_tree.specs.Limits.{is_program}
use Rattle.lang_tree.specs.Tree.{Statements}
use Rattle.flow_edges.specs.Checks.{checks_in as checks_in_core, checks_of_program}
use Rattle.flow_edges.specs.declared.checked.CheckCases.{CheckCases}
use Rattle.flow_systems.specs.Equations.{Equations, Least}
use Rattle.flow_systems.specs.Solutions.{equations_of_program}
use Rattle.flow_systems.specs.States.{RationalState}
use Rattle.flow_systems.specs.View.{equations_of, vector_of}
use Rattle.flow_systems.specs.declared.system.System.{System}
use Rattle.solve_rounds.specs.Solutions.{IsSolved}
use Rattle.solve_rounds.specs.declared.solution.Solved.{Solved}
use Rattle.ask_checks.specs.Laws.{OpenStatesBreak, ProvedVerdictsHold}
use Rattle.ask_checks.specs.Verdicts.{AreCheckVerdicts}
use Rattle.ask_verdicts.specs.declared.outcome.Verdict.{Verdict}
use Rattle.ask_verdicts.specs.declared.outcome.Verdict.TheVariants.{Open}
use Rattle.ask_words.specs.declared.format.Format.{Format}
use Rattle.ask_words.specs.declared.request.Domain.{Domain}
use Rattle.ask_words.specs.declared.request.Policy.{Policy}
use Rattle.ask_words.specs.declared.request.Purpose.TheVariants.{Report}
use Rattle.top_texts.specs.CheckTexts.{AreCheckVerdictsOf, HasChecks, ending_of}
use Rattle.top_texts.specs.Exact.{exact}
use Rattle.top_written.specs.Formats.{checks_in}
use Rattle.top_texts.specs.Outcomes.{AreUnverified, HasSystemOver, IsHalted, IsRefusedBy, IsUnanswered}
use Rattle.top_texts.specs.Policies.{rule_of}
use Rattle.top_texts.specs.Questions.{checks_question}
use Rattle.top_texts.specs.Spots.{IsWideOn}
use Rattle.top_texts.specs.Texts.{HasCore, HasGroups, Program, Serve}
use Rattle.top_texts.specs.declared.refusal.Refusal.{Refusal}
use Rattle.top_texts.specs.declared.refusal.Refusal.TheVariants as refusal
use Rattle.top_status.specs.declared.status.Excess.TheVariants.{Wide, Large}
use Rattle.top_texts.proofs.analyse.Systems.{solved_system}
use Rattle.top_texts.proofs.by_c.InSource.{check_in_source, operations_in_source, runs_in_source}
use Rattle.top_texts.proofs.check_texts.Listed.{all_true, place_of, verdicts_end, verdicts_speak}
use Rattle.top_texts.proofs.questions.Answered.{halted}
use Rattle.top_texts.proofs.rounds.OneChain.{solved_rounds}
use Rattle.top_texts.proofs.texts.Once.{equations_are, rows_over}

-- the system of a program has the checks of its core
pub has_checks : (program : Program) (groups : List (List ℕ)) (rows : Domain (List ℕ)) (names : List (List ℕ)) (body : Statements)
    (s : System) (checks : List CheckCases) → HasCore program names body → Serve (HasGroups program names) rows groups
    → HasSystemOver groups rows names body s → checks ≡ checks_of_program body → IsTrue (is_program (length names) body)
    → HasChecks program rows s checks
has_checks program groups rows names body s checks core serve over are within = record {
  solved = solved_system program groups rows names body s core serve over;
  checks_are = are;
  within = within;
}

module _ (program : Program) (rows : Domain (List ℕ)) (policy : Policy) (limit : ℕ) where
  -- texts of a program and its rows that are refused
  pub unsystematic : (r : Refusal) → IsRefusedBy program rows r → IsUnanswered (checks_question exact program rows policy limit) r
  unsystematic (refusal.Text cause) h = h
  unsystematic (refusal.Certificate cause) h = absurd h
  unsystematic (refusal.Exceeded excess) h = absurd h
  unsystematic (refusal.Spent n) h = absurd h
  unsystematic refusal.NoMemory h = tt

  module _ (s : System) (checks : List CheckCases) (has : HasChecks program rows s checks) where
    -- rounds that have no end
    pub unsolved : (r : Refusal) → IsHalted Report s policy limit r → IsUnanswered (checks_question exact program rows policy limit) r
    unsolved r h = halted (checks_question exact program rows policy limit) Report s has.solved (λ excess h. inl h) r h

    module _ (solved : Solved) (solution : IsSolved s (rule_of policy) limit solved) where
      -- checks for which an operation is too wide
      pub unverified : (r : Refusal) → AreUnverified (equations_of s) (vector_of (length s.template) solved.bounds) checks r
          → IsUnanswered (checks_question exact program rows policy limit) r
      unverified (refusal.Text cause) h = absurd h
      unverified (refusal.Certificate cause) h = absurd h
      unverified (refusal.Exceeded (Large cells)) h = absurd h
      unverified (refusal.Exceeded (Wide spot)) h = record {
        system = s;
        meant = has.solved;
        exceeds = inr (record {
          rounds = solved.improvements;
          within = solution.within;
          vector = vector_of (length s.template) solved.bounds;
          has_rounds = solved_rounds s policy limit solved solution;
          names = has.solved.names;
          body = has.solved.body;
          analysed = has.solved.ready.system.analysed;
          wide = subst (λ cs. IsWideOn (equations_of s) (vector_of (length s.template) solved.bounds) cs spot) has.checks_are h;
        });
      }
      unverified (refusal.Spent n) h = absurd h
      unverified refusal.NoMemory h = tt

      -- verdicts
      pub judged : ProvedVerdictsHold → OpenStatesBreak → Least (equations_of s) (vector_of (length s.template) solved.bounds)
          → (verdicts : List Verdict)
          → AreCheckVerdicts (equations_of s) (vector_of (length s.template) solved.bounds) checks verdicts
          → (is_open : Bool) → IsTrue is_open ↔ ((state : RationalState) × Contains verdicts (Open state))
          → (format : Format) (file bytes : List ℕ) → bytes ≡ checks_in format file program.text s.flow.names checks verdicts
          solved.improvements
          → AreCheckVerdictsOf exact file program rows policy limit format (ending_of is_open) bytes
      judged hold break least verdicts h is_open said format file bytes written =
          let is = has.solved in
          let vector = vector_of (length s.template) solved.bounds in
          let system = equations_of_program (length is.names) is.body is.template in
          let same : equations_of s ≡ system = equations_are is.names is.body is.template s is.system_for in
          let lowest : Least system vector = subst (λ (q : Equations). Least q vector) same least in
          let are : AreCheckVerdicts system vector (checks_of_program is.body) verdicts =
          subst₂ (λ (q : Equations) (cs : List CheckCases). AreCheckVerdicts q vector cs verdicts) same has.checks_are h in
          let ends = verdicts_end is.body system vector verdicts are break is_open said in
          let speak = verdicts_speak (length is.names) is.body is.template vector verdicts are has.within
          (rows_over is.names is.body is.template s is.system_for) lowest.solves.post hold break in
          let core = is.ready.system.analysed.has_core in
          record {
            judged = record {
              system = s;
              solved = is;
              rounds = solved.improvements;
              within = solution.within;
              vector = vector;
              has_rounds = solved_rounds s policy limit solved solution;
              least = lowest;
              ends = ends;
            };
            verdicts = verdicts;
            verdicts_are = are;
            speak = speak;
            by_c = λ about all. check_in_source program is.names is.body core about (λ check among same.
                let at = place_of (checks_in_core is.body) check among in speak.proved at.0 check at.1 (all at.0 check at.1 same));
            all_by_c = λ done about. check_in_source program is.names is.body core about (λ check among same.
                all_true (length is.names) is.body system vector verdicts speak (ending_of is_open) ends done check among);
            operations_by_c = λ all. operations_in_source program is.names is.body core (λ check among of.
                let at = place_of (checks_in_core is.body) check among in speak.proved at.0 check at.1 (all at.0 check at.1 of));
            runs_by_all = runs_in_source program is.names;
            written = subst₂ (λ ns (cs : List CheckCases). bytes ≡ checks_in format file program.text ns cs verdicts solved.improvements)
                is.system_for.names_are has.checks_are written;
          }
