use Rattle.std.proofs.Common.{◌≡◌, length}
use Rattle.lang_tokens.specs.Lines.{line_at}
use Rattle.lang_tree.specs.View.{statements_of}
use Rattle.lang_meaning.specs.Feed.{attach}
use Rattle.lang_reader.specs.Frames.{frames_of}
use Rattle.lang_reader.specs.Views.{state_of}
use Rattle.lang_statement.proofs.ending.attach.Given as goal

abbrev pub invariant-loop-more : goal.invariant-loop-more
invariant-loop-more l = attach (line_at l.source.text.now) (state_of l.fn.reader.context) (statements_of l.fn.nodes.items)
    (frames_of l.fn.reader.frames)
    ≡ attach (line_at l.source.text.now) (state_of l.reader.context) (statements_of l.left.items) (frames_of l.reader.frames)

abbrev pub decreases-loop-more : goal.decreases-loop-more
decreases-loop-more l = length (frames_of l.reader.frames)
