use Rattle.std.proofs.Common.{◌≡◌, ◌∙◌, ◌<◌, ℕ, Some, Err, length, sym, ap, subst}
use Rattle.flow_edges.specs.declared.point.Point.{Point}
use Rattle.std.specs.Prelude.{List}
use Rattle.lang_tokens.specs.Reading.{end_at}
use Rattle.lang_tokens.specs.declared.token.Token.{Token}
use Rattle.lang_meaning.proofs.proper.Lexed.{all_proper, proper_at}
use Rattle.lang_parser.specs.Expressions.{read_of}
use Rattle.lang_meaning.specs.Proper.{IsProper}
use Rattle.ask_claims.specs.declared.claim.Claim.{Claim}
use Rattle.ask_claims.specs.declared.fault.ClaimFault.TheVariants.{NoMemory}
use Rattle.ask_claims.specs.Claims.{point_of, stated_of}
use Rattle.ask_claims.specs.Steps.{headed, BeginsClaim}
use Rattle.ask_claims.proofs.claims.Parsed.{ClaimMeans, answers_then, handed, refused_there, stopped_there, finished_there, stands_by}
use Rattle.ask_claims.proofs.claims.Trees.{tree_of}
use Rattle.ask_claims.proofs.reading.read_claim.Goals as goal

pub headed-requires-clause-proper : goal.headed-requires-clause-proper
headed-requires-clause-proper c =
    subst (λ (t : Token). IsProper c.args.text.now t) (sym c.token_at-name.ensures)
    (proper_at c.args.text.now c.args.tokens.now c.args.from (end_at 0) c.requires.from
    (all_proper c.args.text.now c.args.tokens.now c.requires.tokens))

pub returns-in_err-point-clause-found : goal.returns-in_err-point-clause-found
returns-in_err-point-clause-found c =
    let text = c.args.text.now in
    let names = c.args.flow.now.names in
    let points = c.args.flow.now.points in
    let tokens = c.args.tokens.now in
    let head = λ (n : c.in_err-point.field-0.0 ≡ NoMemory → ⊥). ap (λ (points : List Point). headed points text c.token_at-name.result
    c.token_at-colon.result) (sym c.as_slice.ensures)
    ∙ c.in_err-point.ensures.gives n in
    handed (λ (r : Claim × ℕ). (stated_of r.0, r.1)) (BeginsClaim text names points tokens c.args.from) c.from_residual.result
    c.in_err-point.field-0.0
    c.from_residual.ensures.1
    (λ n. tree_of text names points tokens c.requires.tokens c.args.from c.requires.from c.requires.goes_on (Err c.in_err-point.field-0.0)
    (refused_there text names points tokens c.args.from c.token_at-name.result c.token_at-colon.result c.token_at-name.ensures
    c.token_at-colon.ensures
    c.in_err-point.field-0.0 (head n)))

pub returns-in_err-read-clause-found : goal.returns-in_err-read-clause-found
returns-in_err-read-clause-found c =
    let f = c.in_err-read.ensures.found in
    let head = ap (λ (points : List Point). headed points c.args.text.now c.token_at-name.result c.token_at-colon.result)
    (sym c.as_slice.ensures) ∙ c.in_ok-point.ensures.gives in
    handed (λ (r : Claim × ℕ). (stated_of r.0, r.1)) (BeginsClaim c.args.text.now c.args.flow.now.names c.args.flow.now.points
    c.args.tokens.now c.args.from)
    c.from_residual-in_err-read.result c.in_err-read.field-0.0 c.from_residual-in_err-read.ensures.1
    (λ n. tree_of c.args.text.now c.args.flow.now.names c.args.flow.now.points c.args.tokens.now c.requires.tokens c.args.from
    c.requires.from c.requires.goes_on
    (Err c.in_err-read.field-0.0) (stopped_there c.args.text.now c.args.flow.now.names c.args.flow.now.points c.args.tokens.now c.args.from
    c.token_at-name.result
    c.token_at-colon.result c.token_at-name.ensures c.token_at-colon.ensures (c.in_ok-point.point, c.in_ok-point.label) head f.0 f.1
    c.in_err-read.field-0.0 (f.2 n)))

pub returns-clause-found : goal.returns-clause-found
returns-clause-found c =
    let f = c.in_ok-read.ensures.found in
    let head = ap (λ (points : List Point). headed points c.args.text.now c.token_at-name.result c.token_at-colon.result)
    (sym c.as_slice.ensures) ∙ c.in_ok-point.ensures.gives in
    answers_then (λ (r : Claim × ℕ). (stated_of r.0, r.1)) (ClaimMeans c.args.text.now c.args.flow.now.names c.args.flow.now.points
    c.args.tokens.now c.args.from)
    (BeginsClaim c.args.text.now c.args.flow.now.names c.args.flow.now.points c.args.tokens.now c.args.from) c.finished.result
    (λ x m. tree_of c.args.text.now c.args.flow.now.names c.args.flow.now.points c.args.tokens.now c.requires.tokens c.args.from
    c.requires.from c.requires.goes_on x m)
    (finished_there c.args.text.now c.args.flow.now.names c.args.flow.now.points c.args.tokens.now c.args.from c.token_at-name.result
    c.token_at-colon.result
    c.token_at-name.ensures c.token_at-colon.ensures (c.in_ok-point.point, c.in_ok-point.label) head f.0 f.1
    (λ (r : Claim × ℕ). (stated_of r.0, r.1))
    (read_of c.in_ok-read.read) c.finished.result f.2 c.finished.ensures.gives)

pub returns-clause-stands : goal.returns-clause-stands
returns-clause-stands c =
    stands_by c.args.flow.now.names c.args.flow.now.points c.in_ok-point.point c.in_ok-point.label c.finished.result
    (subst (λ (points : List Point). point_of c.in_ok-point.label points ≡ Some c.in_ok-point.point) c.as_slice.ensures
    c.in_ok-point.ensures.named)
    (subst (λ (points : List Point). c.in_ok-point.point < length points) c.as_slice.ensures c.in_ok-point.ensures.within)
    (c.finished.ensures.tested (length c.args.flow.now.names) c.in_ok-read.ensures.fits) c.finished.ensures.decided
    c.finished.ensures.against c.finished.ensures.names
