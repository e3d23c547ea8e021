use Rattle.std.proofs.Common.{length, ◌-◌, ◌≡◌, drop, map}
use Rattle.ask_files.specs.Files.{texts_of}
use Rattle.ask_files.specs.Files.{unread}
use Rattle.ask_files.specs.Named.{name_of}
use Rattle.ask_files.proofs.files.unread.Given as goal

abbrev pub invariant-loop-number : goal.invariant-loop-number
invariant-loop-number l =
    unread (map name_of (drop l.number l.files)) (texts_of (drop l.number l.contents)) ≡ unread (map name_of l.files) (texts_of l.contents)

abbrev pub decreases-loop-number : goal.decreases-loop-number
decreases-loop-number l = length l.files - l.number
