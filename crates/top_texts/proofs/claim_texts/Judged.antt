-- What the verdicts of the least bounds on the claims of a text say of the texts.
use Rattle.std.proofs.Common.{◌≡◌, inl, inr, ℕ, List, length, map, refl, subst, subst₂}
use Rattle.std.specs.Prelude.{Err, Some, slice_get}
use Rattle.std.specs.List.{All}
use Rattle.std.proofs.lemmas.Slice.Zip.{AllZip-long}
use Rattle.std.proofs.lemmas.Option.{get_or_from_slice_get, slice_get_within}
use Rattle.lang_tree.specs.View.{condition_of}
use Rattle.flow_edges.specs.Points.{points_of_program}
use Rattle.flow_edges.specs.declared.graph.Flow.{Flow as Graph}
use Rattle.flow_edges.specs.declared.point.Point.{Point}
use Rattle.flow_systems.specs.Equations.{Equations, Least}
use Rattle.flow_systems.specs.Solutions.{equations_of_program}
use Rattle.flow_systems.specs.View.{equations_of, vector_of}
use Rattle.flow_systems.specs.declared.system.System.{System}
use Rattle.solve_rounds.specs.Solutions.{IsSolved}
use Rattle.solve_rounds.specs.declared.solution.Solved.{Solved}
use Rattle.ask_claims.specs.AllVerdicts.{AreVerdicts, IsClaimVerdict}
use Rattle.ask_claims.specs.Claims.{IsClaimOf, FileMeans, Stands, stated_of}
use Rattle.ask_claims.specs.Laws.{OpenStatesBreak, ProvedVerdictsHold}
use Rattle.ask_claims.specs.declared.claim.Claim.{Claim}
use Rattle.ask_claims.specs.declared.fault.ClaimFault.{ClaimFault}
use Rattle.ask_verdicts.specs.declared.outcome.Verdict.{Verdict}
use Rattle.ask_verdicts.specs.declared.outcome.Verdict.TheVariants.{Proved}
use Rattle.ask_claims.specs.Truth.{IsTrueAt}
use Rattle.ask_claims.proofs.laws.Lists.{verdict_at}
use Rattle.ask_words.specs.declared.format.Format.{Format}
use Rattle.ask_words.specs.declared.request.Domain.{Domain}
use Rattle.ask_words.specs.declared.request.Policy.{Policy}
use Rattle.ask_words.specs.declared.request.Purpose.TheVariants.{Report}
use Rattle.top_texts.specs.ClaimTexts.{AreClaimsOf, AreNoClaims, AreVerdictsOf, IsClaimedSystem, IsTrueInRuns}
use Rattle.top_written.specs.Formats.{claims_in}
use Rattle.top_texts.specs.Exact.{exact}
use Rattle.top_texts.specs.Outcomes.{AreUnjudged, IsHalted, IsRefusedBy, IsUnanswered}
use Rattle.top_texts.specs.Policies.{rule_of}
use Rattle.top_texts.specs.Questions.{QuestionEnds, claims_question, rounds_end}
use Rattle.top_texts.specs.Texts.{IsRefused, IsSolvedSystem, Program}
use Rattle.top_texts.specs.declared.refusal.Refusal.{Refusal}
use Rattle.top_texts.specs.declared.refusal.Refusal.TheVariants as refusal
use Rattle.top_status.specs.declared.status.Excess.TheVariants.{Wide, Large}
use Rattle.top_status.specs.declared.status.Status.TheVariants.{Done}
use Rattle.top_status.specs.declared.status.TextCause.{TextCause}
use Rattle.top_status.specs.declared.status.TextCause.TheVariants.{Lex, Source as InSource, Flow, Rows, Unknowns, Claims, Equ, Auto}
use Rattle.top_texts.proofs.by_c.InSource.{kept_in_source}
use Rattle.top_texts.proofs.questions.Answered.{halted}
use Rattle.top_texts.proofs.rounds.OneChain.{solved_rounds}
use Rattle.top_texts.proofs.texts.Once.{equations_are, rows_over}

-- ---- claims over a flow

-- a verdict may be asked on each
pub claims_stand : (flow : Graph) (claims : List Claim) → All (Stands flow.names flow.points) claims → All (IsClaimOf flow) claims
claims_stand flow claims h k d within = let s = h k d within in record { point = s.within; condition = s.condition; against = s.against }

-- the claim at a place stands
stands_at : (names : List (List ℕ)) (points : List Point) (claims : List Claim) (k : ℕ) (claim : Claim) → All (Stands names points) claims
    → slice_get claims k ≡ Some claim → Stands names points claim
stands_at names points claims k claim h e =
    subst (λ c. Stands names points c) (get_or_from_slice_get claims k claim claim e) (h k claim (slice_get_within claims k claim e))

-- ---- refusals

refused_texts : (program : Program) (rows : Domain (List ℕ)) (given : List ℕ) (cause : TextCause) → IsRefused program rows cause
    → AreNoClaims program rows given cause
refused_texts program rows given (Lex f) h = h
refused_texts program rows given (InSource f) h = h
refused_texts program rows given (Flow f) h = h
refused_texts program rows given (Rows f) h = h
refused_texts program rows given (Unknowns n) h = h
refused_texts program rows given (Claims f) h = absurd h
refused_texts program rows given (Equ f) h = absurd h
refused_texts program rows given (Auto f) h = absurd h

module _ (program : Program) (rows : Domain (List ℕ)) (given : List ℕ) (policy : Policy) (limit : ℕ) where
  -- texts of a program and its rows that are refused
  pub unsystematic : (r : Refusal) → IsRefusedBy program rows r → IsUnanswered (claims_question exact program rows given policy limit) r
  unsystematic (refusal.Text cause) h = refused_texts program rows given cause h
  unsystematic (refusal.Certificate cause) h = absurd h
  unsystematic (refusal.Exceeded excess) h = absurd h
  unsystematic (refusal.Spent n) h = absurd h
  unsystematic refusal.NoMemory h = tt

  module _ (s : System) (is : IsSolvedSystem program rows s) where
    -- a text of claims that has a fault
    pub unclaimed : (f : ClaimFault) → FileMeans given s.flow.names s.flow.points (Err f) → AreNoClaims program rows given (Claims f)
    unclaimed f m = (
      is.names,
      is.body,
      is.template,
      is.ready,
      subst₂ (λ ns ps. FileMeans given ns ps (Err f)) is.system_for.names_are
          is.system_for.points_are m,
    )

    module _ (claims : List Claim) (are : AreClaimsOf given s.flow.names s.flow.points claims) where
      over : AreClaimsOf given is.names (points_of_program is.body) claims
      over = subst₂ (λ ns ps. AreClaimsOf given ns ps claims) is.system_for.names_are is.system_for.points_are are

      claimed : IsClaimedSystem program rows given s
      claimed = record { solved = is; stated = map stated_of claims; reading = over.reading }

      -- rounds that have no end
      pub unsolved : (r : Refusal) → IsHalted Report s policy limit r
          → IsUnanswered (claims_question exact program rows given policy limit) r
      unsolved r h = halted (claims_question exact program rows given policy limit) Report s claimed (λ excess h. inl h) r h

      module _ (solved : Solved) (solution : IsSolved s (rule_of policy) limit solved) where
        -- claims for which an operation is too wide
        pub unjudged : (r : Refusal) → AreUnjudged (equations_of s) (vector_of (length s.template) solved.bounds) claims r
            → IsUnanswered (claims_question exact program rows given policy limit) r
        unjudged (refusal.Text cause) h = absurd h
        unjudged (refusal.Certificate cause) h = absurd h
        unjudged (refusal.Exceeded (Large cells)) h = absurd h
        unjudged (refusal.Exceeded (Wide spot)) h = record {
          system = s;
          meant = claimed;
          exceeds = inr (record {
            rounds = solved.improvements;
            within = solution.within;
            vector = vector_of (length s.template) solved.bounds;
            has_rounds = solved_rounds s policy limit solved solution;
            claims = claims;
            claims_are = are;
            wide = h;
          });
        }
        unjudged (refusal.Spent n) h = absurd h
        unjudged refusal.NoMemory h = tt

        -- verdicts
        pub judged : ProvedVerdictsHold → OpenStatesBreak → Least (equations_of s) (vector_of (length s.template) solved.bounds)
            → (verdicts : List Verdict)
            → AreVerdicts (equations_of s) (vector_of (length s.template) solved.bounds) claims verdicts
            → (format : Format) (bytes : List ℕ)
            → bytes ≡ claims_in format s.flow.names claims verdicts solved.improvements
            → AreVerdictsOf exact program rows given policy limit format bytes
        judged proved_hold open_break least verdicts h format bytes written =
            let vector = vector_of (length s.template) solved.bounds in
            let system = equations_of_program (length is.names) is.body is.template in
            let same : equations_of s ≡ system = equations_are is.names is.body is.template s is.system_for in
            let lowest : Least system vector = subst (λ (q : Equations). Least q vector) same least in
            let are_verdicts : AreVerdicts system vector claims verdicts =
            subst (λ (q : Equations). AreVerdicts q vector claims verdicts) same h in
            let proved : (k : ℕ) (claim : Claim) → slice_get claims k ≡ Some claim → slice_get verdicts k ≡ Some Proved
            → IsTrueInRuns (length is.names) is.body claim =
            λ k claim e f. proved_hold (length is.names) is.body is.template vector claims verdicts k claim
            (rows_over is.names is.body is.template s is.system_for) lowest.solves.post are_verdicts e f
            (stands_at is.names (points_of_program is.body) claims k claim over.stand e).against in
            record {
              system = s;
              solved = is;
              claims = claims;
              claims_are = over;
              rounds = solved.improvements;
              within = solution.within;
              vector = vector;
              has_rounds = solved_rounds s policy limit solved solution;
              least = record {
                least = lowest;
                verdicts = verdicts;
                verdicts_are = are_verdicts;
                speak = record {
                  one_each = AllZip-long (IsClaimVerdict system vector) claims verdicts are_verdicts;
                  proved_where = λ k claim verdict e f. (verdict_at system vector claims verdicts k claim verdict are_verdicts e f).proved;
                  proved = proved;
                  open_ones = λ k claim state e f. open_break system vector claims verdicts k claim state are_verdicts e f;
                };
                written = subst (λ ns. bytes ≡ claims_in format ns claims verdicts solved.improvements) is.system_for.names_are written;
              };
              by_c = λ k claim e f. kept_in_source program is.names is.body is.ready.system.analysed.has_core claim.point
                  (λ state. IsTrueAt (condition_of claim.cond) state) (proved k claim e f);
            }

  -- where verdicts are written, the improvements have ended
  pub verdicts_end : (format : Format) (bytes : List ℕ) → AreVerdictsOf exact program rows given policy limit format bytes
      → QuestionEnds (claims_question exact program rows given policy limit) Done
  verdicts_end format bytes v =
      rounds_end v.system refl (record { solved = v.solved; stated = map stated_of v.claims; reading = v.claims_are.reading })
      (v.rounds, v.within, v.vector, v.has_rounds)
