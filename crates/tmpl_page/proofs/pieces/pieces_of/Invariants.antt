use Rattle.std.proofs.Common.{◌≡◌, ◌++◌, drop}
use Rattle.ask_files.specs.Files.{texts_of}
use Rattle.tmpl_page.specs.Pieces.{pieces_of}
use Rattle.tmpl_page.proofs.pieces.pieces_of.Given as goal

abbrev pub invariant-loop-length : goal.invariant-loop-length
invariant-loop-length l = texts_of l.pieces.items ++ pieces_of (drop l.length-index l.lengths) l.rest ≡ pieces_of l.lengths l.text
