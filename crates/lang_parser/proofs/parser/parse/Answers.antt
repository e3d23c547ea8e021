use Rattle.lang_grammar.specs.View.{tokens_of}
use Rattle.lang_tokens.specs.Lines.{line_at}
use Rattle.lang_meaning.specs.Feed.{reading}
use Rattle.lang_meaning.proofs.results.Binds.{handed_on}
use Rattle.std.proofs.Common.{Err, refl}
use Rattle.lang_meaning.proofs.proper.Lexed.{all_proper}
use Rattle.lang_feed.proofs.counts.WholeTexts.{ends_well}
use Rattle.lang_feed.proofs.texts.Programs.{given_fits, read_means, read_width, some_meaning}
use Rattle.lang_meaning.proofs.meaning.OneMeaning.{meant_value, meant_fault}
use Rattle.lang_parser.proofs.parser.parse.Goals as goal

pub returns-in_err-first_pass-clause-exact : goal.returns-in_err-first_pass-clause-exact
returns-in_err-first_pass-clause-exact c =
    λ w m. handed_on _ _ c.in_err-first_pass.field-0.0 w c.from_residual.ensures.1
    (λ n. meant_fault c.args.text.now (tokens_of c.args.text.now c.args.tokens.now) w (Err c.in_err-first_pass.field-0.0)
    c.in_err-first_pass.field-0.0 m (c.in_err-first_pass.ensures.fault n) refl)

pub returns-in_err-first_pass-clause-found : goal.returns-in_err-first_pass-clause-found
returns-in_err-first_pass-clause-found c =
    let s = some_meaning c.args.text.now (tokens_of c.args.text.now c.args.tokens.now)
    (ends_well c.args.text.now c.args.tokens.now c.requires.tokens) in (
      s.0,
      s.1,
      handed_on _ _ c.in_err-first_pass.field-0.0 s.0 c.from_residual.ensures.1
          (λ n. meant_fault c.args.text.now (tokens_of c.args.text.now c.args.tokens.now) s.0 (Err c.in_err-first_pass.field-0.0)
          c.in_err-first_pass.field-0.0 s.1 (c.in_err-first_pass.ensures.fault n) refl),
    )

pub walked-requires : goal.walked-requires
walked-requires c = all_proper c.args.text.now c.args.tokens.now c.requires.tokens

pub returns-in_err-names-clause-exact : goal.returns-in_err-names-clause-exact
returns-in_err-names-clause-exact c =
    let r = c.in_ok-first_pass.ensures.read in
    let m = read_means c.args.text.now (tokens_of c.args.text.now c.args.tokens.now) c.width.result r
    (read_width c.args.text.now c.args.tokens.now c.width.result r c.width.ensures) in
    λ w i. handed_on _ _ c.in_err-names.field-0.0 w c.from_residual-in_err-names.ensures.1
    (λ n. meant_fault c.args.text.now (tokens_of c.args.text.now c.args.tokens.now) w
    (reading (line_at c.args.text.now) c.width.result (tokens_of c.args.text.now c.args.tokens.now)) c.in_err-names.field-0.0 i m
    (c.in_err-names.ensures n))

pub returns-in_err-names-clause-found : goal.returns-in_err-names-clause-found
returns-in_err-names-clause-found c =
    let r = c.in_ok-first_pass.ensures.read in
    let m = read_means c.args.text.now (tokens_of c.args.text.now c.args.tokens.now) c.width.result r
    (read_width c.args.text.now c.args.tokens.now c.width.result r c.width.ensures) in (
      reading (line_at c.args.text.now) c.width.result (tokens_of c.args.text.now c.args.tokens.now),
      m,
      handed_on _ _ c.in_err-names.field-0.0 _
          c.from_residual-in_err-names.ensures.1 c.in_err-names.ensures,
    )

pub invariant_of-result : goal.invariant_of-result
invariant_of-result c =
    let r = c.in_ok-first_pass.ensures.read in
    record {
      within_limits = given_fits (line_at c.args.text.now) (tokens_of c.args.text.now c.args.tokens.now) c.width.result r
          (c.in_ok-names.names, c.in_ok-names.body) (read_width c.args.text.now c.args.tokens.now c.width.result r c.width.ensures)
          c.in_ok-names.ensures;
    }

pub returns-clause-exact : goal.returns-clause-exact
returns-clause-exact c =
    let r = c.in_ok-first_pass.ensures.read in
    let m = read_means c.args.text.now (tokens_of c.args.text.now c.args.tokens.now) c.width.result r
    (read_width c.args.text.now c.args.tokens.now c.width.result r c.width.ensures) in
    λ w i. meant_value c.args.text.now (tokens_of c.args.text.now c.args.tokens.now) w
    (reading (line_at c.args.text.now) c.width.result (tokens_of c.args.text.now c.args.tokens.now))
    (c.in_ok-names.names, c.in_ok-names.body) i
    m c.in_ok-names.ensures

pub returns-clause-found : goal.returns-clause-found
returns-clause-found c =
    let r = c.in_ok-first_pass.ensures.read in
    let m = read_means c.args.text.now (tokens_of c.args.text.now c.args.tokens.now) c.width.result r
    (read_width c.args.text.now c.args.tokens.now c.width.result r c.width.ensures) in
    (reading (line_at c.args.text.now) c.width.result (tokens_of c.args.text.now c.args.tokens.now), m, c.in_ok-names.ensures)
