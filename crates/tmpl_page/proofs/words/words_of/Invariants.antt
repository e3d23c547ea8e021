use Rattle.std.proofs.Common.{◌≡◌, map, string_bytes, take}
use Rattle.ask_files.specs.Files.{texts_of}
use Rattle.tmpl_page.proofs.words.words_of.Given as goal

abbrev pub invariant-loop-piece : goal.invariant-loop-piece
invariant-loop-piece l = map string_bytes l.words.items ≡ texts_of (take l.piece-index l.pieces)
