use Rattle.std.proofs.Common.{◌≡◌, length}
use Rattle.lang_meaning.specs.Feed.{complete}
use Rattle.lang_reader.specs.Frames.{frames_of}
use Rattle.lang_reader.specs.Values.{value_of}
use Rattle.lang_reader.proofs.frames.Frames.complete.Given as goal

abbrev pub invariant-loop-frame : goal.invariant-loop-frame
invariant-loop-frame l = complete (frames_of l.fn.self) (value_of l.fn.value) ≡ complete (frames_of l.self) (value_of l.value)

abbrev pub decreases-loop-frame : goal.decreases-loop-frame
decreases-loop-frame l = length l.self
