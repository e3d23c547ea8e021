use Rattle.std.proofs.Common.{◌∙◌, ◌-◌, List, length, drop, take, sym, ap, arith}
use Rattle.std.proofs.lemmas.List.{drop_all}
use Rattle.lang_tokens.specs.declared.token.Token.{Token}
use Rattle.source_tokens.specs.View.{tokens_of}
use Rattle.acsl_anchors.specs.Machine.{State, run, start}
use Rattle.acsl_anchors.specs.Search.{state_of}
use Rattle.acsl_anchors.proofs.find.Places.{few_between, fits_code, name_between, within_between}
use Rattle.acsl_anchors.proofs.find.Steps.{token_taken}
use Rattle.acsl_anchors.proofs.machine.Functions.{read_found}
use Rattle.acsl_anchors.proofs.find.anchors.Goals as goal

pub part_seen-requires : goal.part_seen-requires
part_seen-requires c = name_between c.args.text.now c.args.tokens.now c.requires.tokens (c.args.end - c.args.first) c.args.first
    c.loop-token.token-index _ c.loop-token-test.true

pub take-requires-clause-variables : goal.take-requires-clause-variables
take-requires-clause-variables c =
    fits_code (length c.loop-token.search.variables.items) (length c.args.text.now)
    (few_between c.args.text.now c.args.tokens.now c.requires.tokens (c.args.end - c.args.first) c.args.first c.loop-token.token-index
    (length c.loop-token.search.variables.items) c.loop-token-test.true c.loop-token.invariant.1) c.requires.size

pub take-requires-clause-place : goal.take-requires-clause-place
take-requires-clause-place c =
    fits_code _ _ (within_between c.args.text.now c.args.tokens.now c.requires.tokens (c.args.end - c.args.first) c.args.first
    c.loop-token.token-index _ c.loop-token-test.true) c.requires.size

pub loop-token-preserved : goal.loop-token-preserved
loop-token-preserved c =
    let ts : List Token = take (c.args.end - c.args.first) (drop c.args.first c.args.tokens.now) in (
      λ constants. token_taken constants c.args.text.now ts c.loop-token.token-index _ c.loop-token.search c.take.new.self
          c.part_seen.result (run start (tokens_of constants c.args.text.now ts)) c.loop-token-test.true c.part_seen.ensures
          c.in_ok-take.ensures.state (c.loop-token.invariant.0 constants),
      omega (arith, c.in_ok-take.ensures.variables, c.loop-token.invariant.1),
    )

pub returns : goal.returns
returns c = λ constants f reads.
    let ts : List Token = take (c.args.end - c.args.first) (drop c.args.first c.args.tokens.now) in
    c.into_anchors.ensures
    ∙ ap (λ (l : List Token). (run (state_of c.loop-token.search) (tokens_of constants c.args.text.now l)).found)
    (sym (drop_all c.loop-token.token-index ts c.loop-token-test.false))
    ∙ ap (λ (st : State). st.found) (c.loop-token.invariant.0 constants)
    ∙ read_found (tokens_of constants c.args.text.now ts) f reads
