use Rattle.std.proofs.Common.{◌≡◌, ◌∙◌, ℕ, List, sym, ap, subst}
use Rattle.std.proofs.lemmas.List.{drop_all}
use Rattle.lang_tokens.specs.declared.token.Token.{Token}
use Rattle.lang_groups.specs.Groups.{SameTogether}
use Rattle.source_tokens.specs.View.{tokens_of}
use Rattle.source_packs.specs.Machine.{Book, State, run, start}
use Rattle.source_packs.specs.Packs.{groups_of}
use Rattle.source_packs.specs.Search.{state_of}
use Rattle.source_packs.proofs.find.Steps.{one_in, token_taken}
use Rattle.source_packs.proofs.machine.Functions.{function_book, read_run}
use Rattle.source_packs.proofs.found.Trees.{function_puts}
use Rattle.source_packs.proofs.find.groups.Goals as goal

pub part_seen-requires-clause-token : goal.part_seen-requires-clause-token
part_seen-requires-clause-token c = λ e. one_in c.args.text.now c.args.tokens.now c.requires.tokens c.loop-token.token-index _
    c.loop-token-test.true

pub loop-token-preserved : goal.loop-token-preserved
loop-token-preserved c = token_taken c.args.names.now c.args.constants.now c.args.text.now c.args.tokens.now c.loop-token.token-index _
    c.loop-token.search c.take.new.self c.part_seen.result
    (run c.args.names.now start (tokens_of c.args.constants.now c.args.text.now c.args.tokens.now)) c.loop-token-test.true
    c.part_seen.ensures c.in_ok-take.ensures c.loop-token.invariant

pub returns : goal.returns
returns c = λ f reads.
    let ts = tokens_of c.args.constants.now c.args.text.now c.args.tokens.now in
    let names = c.args.names.now in
    let found : c.into_groups.result ≡ (run names start ts).written.collector.groups =
    c.into_groups.ensures
    ∙ ap (λ (l : List Token).
    (run names (state_of c.loop-token.search) (tokens_of c.args.constants.now c.args.text.now l)).written.collector.groups)
    (sym (drop_all c.loop-token.token-index c.args.tokens.now c.loop-token-test.false))
    ∙ ap (λ (st : State). st.written.collector.groups) c.loop-token.invariant in
    let book : c.into_groups.result ≡ (function_book names f).collector.groups =
    found ∙ ap (λ (b : Book). b.collector.groups) (read_run names ts f reads) in
    subst (λ (gs : List (List ℕ)). SameTogether gs (groups_of names f)) (sym book)
    (function_puts names c.groups_of_marks.ensures c.groups_of_tied_marks.ensures f reads.good)
