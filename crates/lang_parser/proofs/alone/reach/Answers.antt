use Rattle.std.proofs.Common.{drop}
use Rattle.lang_grammar.specs.View.{tokens_of}
use Rattle.lang_feed.proofs.texts.Expressions.{never_out, ends_from, found_from, refused_stops, refused_nests}
use Rattle.lang_parser.proofs.alone.reach.Goals as goal

pub unreachable-requires : goal.unreachable-requires
unreachable-requires c =
    never_out (drop c.args.from (tokens_of c.args.text.now c.args.tokens.now))
    (ends_from c.args.text.now c.args.tokens.now c.args.from c.requires.tokens c.requires.from)
    (found_from c.args.text.now c.args.tokens.now c.args.from _ _ c.in-Short.is (c.in_ok-count.ensures.found c.args.text.now))

pub returns-in-Reaches-clause-read : goal.returns-in-Reaches-clause-read
returns-in-Reaches-clause-read c = found_from c.args.text.now c.args.tokens.now c.args.from _ _ c.in-Reaches.is
    (c.in_ok-count.ensures.found c.args.text.now)

pub returns-in-Unexpected-clause-fault : goal.returns-in-Unexpected-clause-fault
returns-in-Unexpected-clause-fault c =
    λ n. refused_stops c.args.text.now (tokens_of c.args.text.now c.args.tokens.now) c.args.from c.in-Unexpected.at
    (found_from c.args.text.now c.args.tokens.now c.args.from _ _ c.in-Unexpected.is (c.in_ok-count.ensures.found c.args.text.now))

pub returns-in-Nested-clause-fault : goal.returns-in-Nested-clause-fault
returns-in-Nested-clause-fault c =
    λ n. refused_nests c.args.text.now (tokens_of c.args.text.now c.args.tokens.now) c.args.from c.in-Nested.at
    (found_from c.args.text.now c.args.tokens.now c.args.from _ _ c.in-Nested.is (c.in_ok-count.ensures.found c.args.text.now))
