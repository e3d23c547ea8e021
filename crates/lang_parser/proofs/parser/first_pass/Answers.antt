use Rattle.std.proofs.Common.{subst}
use Rattle.lang_grammar.specs.Faults.{Finds}
use Rattle.lang_grammar.specs.View.{tokens_of}
use Rattle.lang_grammar.specs.Goals.{scan_of}
use Rattle.lang_feed.proofs.counts.WholeTexts.{ends_well}
use Rattle.lang_feed.proofs.texts.Programs.{found_unexpected, found_nested, whole_is_read, short_is_read}
use Rattle.lang_parser.proofs.parser.first_pass.Goals as goal

pub returns-in-Unexpected-clause-fault : goal.returns-in-Unexpected-clause-fault
returns-in-Unexpected-clause-fault c = λ n. found_unexpected c.args.text.now c.in-Unexpected.at
    (tokens_of c.args.text.now c.args.tokens.now)
    (subst (λ s. Finds (scan_of s) (tokens_of c.args.text.now c.args.tokens.now)) c.in-Unexpected.is
    (c.in_ok-at.ensures.found c.args.text.now))

pub returns-in-Nested-clause-fault : goal.returns-in-Nested-clause-fault
returns-in-Nested-clause-fault c =
    λ n. found_nested c.args.text.now c.in-Nested.at (tokens_of c.args.text.now c.args.tokens.now)
    (subst (λ s. Finds (scan_of s) (tokens_of c.args.text.now c.args.tokens.now)) c.in-Nested.is (c.in_ok-at.ensures.found c.args.text.now))

pub returns-in-Whole-clause-read : goal.returns-in-Whole-clause-read
returns-in-Whole-clause-read c = whole_is_read (tokens_of c.args.text.now c.args.tokens.now)
    (subst (λ s. Finds (scan_of s) (tokens_of c.args.text.now c.args.tokens.now)) c.in-Whole.is (c.in_ok-at.ensures.found c.args.text.now))

pub returns-in-Short-clause-read : goal.returns-in-Short-clause-read
returns-in-Short-clause-read c = short_is_read (tokens_of c.args.text.now c.args.tokens.now)
    (ends_well c.args.text.now c.args.tokens.now c.requires)
    (subst (λ s. Finds (scan_of s) (tokens_of c.args.text.now c.args.tokens.now)) c.in-Short.is (c.in_ok-at.ensures.found c.args.text.now))
