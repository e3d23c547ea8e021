use Rattle.std.proofs.Common.{◌∙◌}
use Rattle.lang_meaning.proofs.proper.Lexed.{all_proper}
use Rattle.flow_transitions.proofs.progress.Range.{proper_of}
use Rattle.flow_transitions.proofs.walking.Once.{met_more}
use Rattle.flow_transitions.proofs.grouping.walk_through.Goals as goal

pub turn_in-requires-clause-proper : goal.turn_in-requires-clause-proper
turn_in-requires-clause-proper c =
    proper_of c.args.text.now c.args.tokens.now c.loop-at.at c.token.result c.token.ensures
    (all_proper c.args.text.now c.args.tokens.now c.requires.source.tokens_of)

pub loop-at-preserved : goal.loop-at-preserved
loop-at-preserved c =
    met_more c.args.text.now c.args.names.now c.args.tokens.now c.loop-at.at c.token.result c.turn_in.result c.loop-at.walk c.turn.new.self
    c.token.ensures c.turn_in.ensures c.in_ok-turn.ensures
    ∙ c.loop-at.invariant
