-- The texts of a program and of its rows have one ending by the program's checks, and one list of verdicts on them.
use Rattle.std.proofs.Common.{◌≡◌, ◌∙◌, ℕ, List, length, refl, sym, ap₂, subst}
use Rattle.std.specs.Prelude.{ℤ, Ok}
use Rattle.std.proofs.lemmas.Option.{slice_get_within}
use Rattle.base_numbers.specs.Extended.{fin, ◌≤ᴱ◌}
use Rattle.lang_tree.specs.Tree.{Statements}
use Rattle.flow_edges.proofs.edges.Ranges.{ranges_law}
use Rattle.flow_edges.specs.Checks.{checks_of_program}
use Rattle.flow_edges.specs.declared.checked.CheckCases.{CheckCases}
use Rattle.flow_systems.specs.Equations.{Equations, Least, Vector}
use Rattle.flow_systems.specs.SolutionLaws.{IsSame}
use Rattle.flow_systems.specs.Solutions.{equations_of_program}
use Rattle.flow_systems.specs.States.{RationalState, dotℚ}
use Rattle.flow_systems.specs.declared.system.System.{System}
use Rattle.flow_systems.proofs.equations.Leastness.{at_most_one}
use Rattle.flow_systems.specs.View.{equations_of}
use Rattle.solve_offers.proofs.at_bounds.Ranges.{points_in_range}
use Rattle.theory_rounds.proofs.rounds.Retraced.{least_law}
use Rattle.ask_checks.specs.Laws.{EdgesGoFromPoints, VerdictsAreOne}
use Rattle.ask_checks.specs.Places.{BreaksCheck}
use Rattle.ask_checks.specs.Verdicts.{AreCheckVerdicts}
use Rattle.ask_verdicts.specs.declared.outcome.Verdict.{Verdict}
use Rattle.ask_words.specs.declared.format.Format.{Format}
use Rattle.ask_words.specs.declared.request.Domain.{Domain}
use Rattle.ask_words.specs.declared.request.Policy.{Policy}
use Rattle.top_texts.specs.CheckTexts.{AreCheckVerdictsOf, ChecksEnd, IsJudged, all_proved, some_open}
use Rattle.top_texts.specs.Exact.{exact}
use Rattle.top_written.specs.Formats.{checks_in}
use Rattle.top_texts.specs.Rounds.{HasRounds, RunsOut, chosen_by}
use Rattle.top_texts.specs.Texts.{HasTemplate, IsSolvable, IsSolvedSystem, Program}
use Rattle.top_status.specs.declared.status.Status.{Status}
use Rattle.top_status.specs.declared.status.Status.TheVariants.{Done, Open}
use Rattle.top_texts.proofs.rounds.OneChain.{ends_once, rounds_once}
use Rattle.top_texts.proofs.texts.Once.{equations_are, solved_once}
use Rattle.top_texts.proofs.texts.Readings.{program_once, rows_once}

-- ---- at vectors with the same bounds

same_back : (system : Equations) (z w : Vector) → IsSame system z w → IsSame system w z
same_back system z w same = λ p r l m. sym (same p r l m)

-- a state that breaks a check at one breaks it at the other
breaks_move : (system : Equations) (z w : Vector) (check : CheckCases) (x : RationalState) → IsSame system z w → EdgesGoFromPoints system
    → BreaksCheck system z check x → BreaksCheck system w check x
breaks_move system z w check x same from b =
    let here = b.breaks.breaks in
    record {
      edge = b.edge;
      listed = b.listed;
      before = b.before;
      place = b.place;
      breaks = record {
        number = b.breaks.number;
        within = b.breaks.within;
        breaks = record {
          start = here.start;
          size = here.size;
          fits = λ r row e. subst (λ v. fin (dotℚ row here.start) ≤ᴱ v)
              (same b.edge.from r (from b.edge b.listed) (slice_get_within system.template r row e)) (here.fits r row e);
          trace = here.trace;
          passes = here.passes;
        };
      };
    }

-- so the checks decide one ending
ending_once : (body : Statements) (system : Equations) (z w : Vector) (s t : Status) → IsSame system z w → EdgesGoFromPoints system
    → ChecksEnd body system z s → ChecksEnd body system w t → s ≡ t
ending_once body system z w s t same from (all_proved e h) (all_proved f k) = e ∙ sym f
ending_once body system z w s t same from (all_proved e h) (some_open f o) =
    absurd (h o.check o.among o.state (breaks_move system w z _ o.state (same_back system z w same) from o.breaks))
ending_once body system z w s t same from (some_open e o) (all_proved f k) =
    absurd (k o.check o.among o.state (breaks_move system z w _ o.state same from o.breaks))
ending_once body system z w s t same from (some_open e o) (some_open f p) = e ∙ sym f

-- ---- of texts

-- what is so of the program and the template of texts by one reading is so by another one
program_moves : (program : Program) (rows : Domain (List ℕ)) (s t : System) (q : IsSolvedSystem program rows s)
    (p : IsSolvedSystem program rows t) (P : List (List ℕ) → Statements → List (List ℤ) → Type 0)
    → P q.names q.body q.template → P p.names p.body p.template
program_moves program rows s t q p P h =
    let same = program_once program (q.names, q.body) (p.names, p.body) q.ready.system.analysed.has_core p.ready.system.analysed.has_core in
    let template : q.template ≡ p.template =
    rows_once program rows p.names q.template p.template
    (subst (λ (x : List (List ℕ) × Statements). HasTemplate program rows x.0 (Ok q.template)) same q.ready.system.template_is)
    p.ready.system.template_is in
    subst (λ ts. P p.names p.body ts) template (subst (λ (x : List (List ℕ) × Statements). P x.0 x.1 q.template) same h)

-- the edges of a program go from its points
program_edges : (variables : ℕ) (body : Statements) (template : List (List ℤ))
    → EdgesGoFromPoints (equations_of_program variables body template)
program_edges variables body template edge c = (ranges_law body edge c).from

module _ (program : Program) (rows : Domain (List ℕ)) (policy : Policy) (limit : ℕ) where
  -- the vectors where improvements end have the same bounds
  same_vectors : (s t : Status) (a : IsJudged program rows policy limit s) (b : IsJudged program rows policy limit t)
      → IsSame (equations_of_program (length a.solved.names) a.solved.body a.solved.template) a.vector b.vector
  same_vectors s t a b =
      let system = equations_of_program (length a.solved.names) a.solved.body a.solved.template in
      let least : Least system b.vector =
      program_moves program rows b.system a.system b.solved a.solved
      (λ ns body ts. Least (equations_of_program (length ns) body ts) b.vector) b.least in
      at_most_one system a.vector b.vector a.least least.solves least.below

  -- the checks of a program decide one ending
  pub judged_once : (s t : Status) → IsJudged program rows policy limit s → IsJudged program rows policy limit t → s ≡ t
  judged_once s t a b =
      let p = a.solved in
      ending_once p.body (equations_of_program (length p.names) p.body p.template) a.vector b.vector s t (same_vectors s t a b)
      (program_edges (length p.names) p.body p.template) a.ends
      (program_moves program rows b.system a.system b.solved p
      (λ ns body ts. ChecksEnd body (equations_of_program (length ns) body ts) b.vector t) b.ends)

  -- where they do, improvements aren't spent
  pub judged_unspent : (s : Status) (system : System) → IsJudged program rows policy limit s → IsSolvedSystem program rows system
      → RunsOut system policy limit → ⊥
  judged_unspent s system j is out =
      ends_once j.system system policy limit (solved_once program rows j.system system j.solved is)
      (j.rounds, j.within, j.vector, j.has_rounds) out

  -- texts have one list of verdicts
  pub check_verdicts_once : VerdictsAreOne → (file : List ℕ) (format : Format) (s t : Status) (one other : List ℕ)
      → AreCheckVerdictsOf exact file program rows policy limit format s one
      → AreCheckVerdictsOf exact file program rows policy limit format t other → one ≡ other
  check_verdicts_once law file format s t one other a b =
      let i = a.judged in
      let j = b.judged in
      let p = i.solved in
      let system = equations_of_program (length p.names) p.body p.template in
      let moved : AreCheckVerdicts system j.vector (checks_of_program p.body) b.verdicts =
      program_moves program rows j.system i.system j.solved p
      (λ ns body ts. AreCheckVerdicts (equations_of_program (length ns) body ts) j.vector (checks_of_program body) b.verdicts)
      b.verdicts_are in
      let verdicts : a.verdicts ≡ b.verdicts =
      law system i.vector j.vector (checks_of_program p.body) a.verdicts b.verdicts (same_vectors s t i j)
      (program_edges (length p.names) p.body p.template) a.verdicts_are moved in
      let rounds : i.rounds ≡ j.rounds =
      rounds_once i.system j.system policy i.rounds j.rounds i.vector j.vector (solved_once program rows i.system j.system p j.solved)
      i.has_rounds j.has_rounds in
      let written : other ≡ checks_in format file program.text p.names (checks_of_program p.body) b.verdicts j.rounds =
      program_moves program rows j.system i.system j.solved p
      (λ ns body ts. other ≡ checks_in format file program.text ns (checks_of_program body) b.verdicts j.rounds) b.written in
      a.written
      ∙ ap₂ (λ (vs : List Verdict) n. checks_in format file program.text p.names (checks_of_program p.body) vs n) verdicts rounds
      ∙ sym written

  -- where improvements end, it isn't so that the checks decide neither ending
  pub one_judged : IsSolvable program rows policy limit → (IsJudged program rows policy limit Done → ⊥)
      → (IsJudged program rows policy limit Open → ⊥) → ⊥
  one_judged (system, is, (rounds, within, v, ends)) done other =
      let equations = equations_of_program (length is.names) is.body is.template in
      let vector = ends.vectors rounds in
      let again : HasRounds system policy rounds vector = record {
        vectors = ends.vectors;
        picks = ends.picks;
        chain = ends.chain;
        ended = ends.ended;
        same = λ p r l m. refl;
      } in
      let lowest : Least equations vector =
      subst (λ (q : Equations). Least q vector) (equations_are is.names is.body is.template system is.system_for)
      (least_law (chosen_by policy) (equations_of system) (points_in_range system) rounds v ends) in
      let made : (s : Status) → ChecksEnd is.body equations vector s → IsJudged program rows policy limit s = λ s e. record {
        system = system;
        solved = is;
        rounds = rounds;
        within = within;
        vector = vector;
        has_rounds = again;
        least = lowest;
        ends = e;
      } in
      done (made Done (all_proved refl (λ check among state breaks.
      other (made Open (some_open refl (record { check = check; among = among; state = state; breaks = breaks }))))))
