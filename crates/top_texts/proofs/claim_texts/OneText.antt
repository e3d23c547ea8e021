-- The texts of a program, of its rows and of claims have one list of verdicts.
use Rattle.std.proofs.Common.{◌≡◌, ◌∙◌, ◌<◌, ℕ, false, List, [], ◌∷◌, length, get_or, map, sym, ap, subst, subst₂}
use Rattle.std.specs.Prelude.{ℤ, Ok, ◌↔◌}
use Rattle.std.specs.List.{All}
use Rattle.std.proofs.lemmas.List.Elements.{All-head, All-tail}
use Rattle.lang_tree.specs.Cases.{cases_of}
use Rattle.lang_tree.specs.Tree.{Statements}
use Rattle.flow_edges.specs.Points.{points_of_program}
use Rattle.flow_edges.specs.declared.point.Point.{Point}
use Rattle.flow_edges.proofs.points.Numbering.{numbering}
use Rattle.flow_systems.specs.Equations.{Equations, Vector}
use Rattle.flow_systems.specs.Solutions.{equations_of_program}
use Rattle.flow_systems.proofs.equations.Leastness.{at_most_one}
use Rattle.ask_claims.specs.AllVerdicts.{AreVerdicts, IsClaimVerdict}
use Rattle.ask_claims.specs.Claims.{AreAtPoints, Stands, Stated, stated_of}
use Rattle.ask_claims.specs.declared.claim.Claim.{Claim}
use Rattle.ask_verdicts.specs.Breaking.{NoneOpen}
use Rattle.ask_verdicts.specs.Verdicts.{SaysOpen}
use Rattle.ask_verdicts.specs.declared.outcome.Verdict.{Verdict}
use Rattle.ask_verdicts.specs.declared.outcome.Verdict.TheVariants.{Proved}
use Rattle.ask_claims.proofs.laws.Lists.{verdicts_are_one}
use Rattle.ask_words.specs.declared.format.Format.{Format}
use Rattle.ask_words.specs.declared.request.Domain.{Domain}
use Rattle.ask_words.specs.declared.request.Policy.{Policy}
use Rattle.top_texts.specs.ClaimTexts.{AreClaimsOf, AreLeastVerdicts, AreVerdictsOf}
use Rattle.top_written.proofs.formats.Claims.{SameStated, claims_agree, first_stated, rest_stated}
use Rattle.top_texts.specs.Exact.{exact}
use Rattle.top_texts.specs.Texts.{HasTemplate, Program}
use Rattle.top_texts.proofs.claim_texts.Once.{said_once, same_stated}
use Rattle.top_texts.proofs.rounds.OneChain.{rounds_once}
use Rattle.top_texts.proofs.texts.Once.{solved_once}
use Rattle.top_texts.proofs.texts.Readings.{program_once, rows_once}

-- ---- claims that are stated alike

-- they have the same verdicts
module _ (names : List (List ℕ)) (points : List Point) (system : Equations) (z : Vector) where
  verdict_moves : (c d : Claim) (v : Verdict) → stated_of c ≡ stated_of d → Stands names points c → Stands names points d
      → IsClaimVerdict system z d v → IsClaimVerdict system z c v
  verdict_moves c d v e h k a =
      let point : d.point ≡ c.point = sym (ap (λ (s : Stated). s.point) e) in
      let against : d.against ≡ c.against = k.against ∙ sym (ap (λ (s : Stated). cases_of false s.cond) e) ∙ sym h.against in
      record {
        proved = subst₂ (λ p cases. (v ≡ Proved) ↔ NoneOpen system z p [] cases (length cases)) point against a.proved;
        state = subst₂ (λ p cases. SaysOpen system z p [] cases v) point against a.state;
      }

  verdicts_move : (claims others : List Claim) (verdicts : List Verdict) → SameStated claims others → All (Stands names points) claims
      → All (Stands names points) others
      → AreVerdicts system z others verdicts → AreVerdicts system z claims verdicts
  verdicts_move [] [] vs e h k a = a
  verdicts_move [] (d ∷ ds) vs e h k a = absurd cc
  verdicts_move (c ∷ cs) [] vs e h k a = absurd cc
  verdicts_move (c ∷ cs) (d ∷ ds) [] e h k a = absurd a
  verdicts_move (c ∷ cs) (d ∷ ds) (v ∷ vs) e h k a = (
    verdict_moves c d v (first_stated c d cs ds e) (All-head (Stands names points) c cs h) (All-head (Stands names points) d ds k) a.0,
    verdicts_move cs ds vs (rest_stated c d cs ds e) (All-tail (Stands names points) c cs h) (All-tail (Stands names points) d ds k) a.1,
  )

-- ---- the verdicts of a program

at_points : (names : List (List ℕ)) (body : Statements) (template : List (List ℤ)) (claims : List Claim)
    → All (Stands names (points_of_program body)) claims
    → AreAtPoints (equations_of_program (length names) body template) claims
at_points names body template claims h k d within = subst (λ n. (get_or claims k d).point < n) (numbering body).count (h k d within).within

least_once : (given : List ℕ) (names : List (List ℕ)) (body : Statements) (template : List (List ℤ)) (claims others : List Claim)
    (v w : Vector) (n m : ℕ) (format : Format) (one other : List ℕ) → n ≡ m → SameStated claims others
    → AreClaimsOf given names (points_of_program body) claims → AreClaimsOf given names (points_of_program body) others
    → AreLeastVerdicts exact names body template v claims n format one
    → AreLeastVerdicts exact names body template w others m format other → one ≡ other
least_once given names body template claims others v w n m format one other rounds stated h k a b =
    let system = equations_of_program (length names) body template in
    let same = at_most_one system v w a.least b.least.solves b.least.below in
    let moved = verdicts_move names (points_of_program body) system w claims others b.verdicts stated h.stand k.stand b.verdicts_are in
    a.written
    ∙ claims_agree format names claims others a.verdicts b.verdicts n m stated
    (verdicts_are_one system v w claims a.verdicts b.verdicts same (at_points names body template claims h.stand) a.verdicts_are moved)
    rounds
    ∙ sym b.written

-- ---- of texts

-- the texts of a program, of its rows and of claims have one list of verdicts
pub verdicts_once : (program : Program) (rows : Domain (List ℕ)) (given : List ℕ) (policy : Policy) (limit : ℕ) (format : Format)
    (one other : List ℕ) → AreVerdictsOf exact program rows given policy limit format one
    → AreVerdictsOf exact program rows given policy limit format other → one ≡ other
verdicts_once program rows given policy limit format one other a b =
    let p = a.solved in
    let q = b.solved in
    let same = program_once program (q.names, q.body) (p.names, p.body) q.ready.system.analysed.has_core p.ready.system.analysed.has_core in
    let template : q.template ≡ p.template =
    rows_once program rows p.names q.template p.template
    (subst (λ (x : List (List ℕ) × Statements). HasTemplate program rows x.0 (Ok q.template)) same q.ready.system.template_is)
    p.ready.system.template_is in
    let claims : AreClaimsOf given p.names (points_of_program p.body) b.claims =
    subst (λ (x : List (List ℕ) × Statements). AreClaimsOf given x.0 (points_of_program x.1) b.claims) same b.claims_are in
    let least : AreLeastVerdicts exact p.names p.body p.template b.vector b.claims b.rounds format other =
    subst (λ t. AreLeastVerdicts exact p.names p.body t b.vector b.claims b.rounds format other) template
    (subst (λ (x : List (List ℕ) × Statements). AreLeastVerdicts exact x.0 x.1 q.template b.vector b.claims b.rounds format other) same
    b.least) in
    let stated = same_stated (map stated_of a.claims) (map stated_of b.claims)
    (said_once program rows given p.names q.names p.body q.body p.template q.template (Ok (map stated_of a.claims))
    (Ok (map stated_of b.claims)) p.ready q.ready a.claims_are.reading b.claims_are.reading) in
    least_once given p.names p.body p.template a.claims b.claims a.vector b.vector a.rounds b.rounds format one other
    (rounds_once a.system b.system policy a.rounds b.rounds a.vector b.vector (solved_once program rows a.system b.system p q) a.has_rounds
    b.has_rounds) stated a.claims_are claims a.least least
