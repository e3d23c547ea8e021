use Rattle.std.proofs.Common.{◌≡◌, ◌≤◌, length, take, reverse}
use Rattle.lang_meaning.specs.Feed.{is_inside}
use Rattle.lang_reader.specs.Frames.{frames_of}
use Rattle.lang_reader.proofs.frames.Frames.is_inside.Given as goal

abbrev pub invariant-loop-above : goal.invariant-loop-above
invariant-loop-above l = record {
  within : l.above ≤ length l.self-inside.list.items;
  same : is_inside
      (frames_of (reverse l.self-inside.list.items)) ≡ is_inside (frames_of (reverse (take l.above l.self-inside.list.items)));
}

abbrev pub decreases-loop-above : goal.decreases-loop-above
decreases-loop-above l = l.above
