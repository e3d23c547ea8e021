-- What a `MemSink` keeps, and what its puts do.
use Rattle.std.specs.Prelude.{◌≡◌, ◌==◌, ◌++◌, ℕ, List, Option, Some, None, Ok, Err, find, option_map, take, map}
use Rattle.base_files.specs.Puts.{Put}
use Rattle.base_files.specs.declared.sink.PutFault.TheVariants.{Failed, NoMemory}
use Rattle.base_files.specs.declared.mem_sink.MemSink.{MemSink}

-- the bytes that it holds
abbrev pub bytes_in : MemSink → List ℕ
bytes_in sink = sink.held.items

-- the pieces that it took whole
abbrev pub pieces_in : MemSink → List (List ℕ)
pieces_in sink = map (λ piece. piece.items) sink.pieces.items

-- how many puts were made
abbrev pub puts_made : MemSink → ℕ
puts_made sink = sink.made.value

-- the numbers of the puts that fail, each with the bytes that it still takes
abbrev pub planned_puts : MemSink → List (ℕ × ℕ)
planned_puts sink = sink.faults.items

-- how many bytes the next put still takes, where it is to fail: the first pair of its number counts
abbrev pub planned_cut : MemSink → Option ℕ
planned_cut sink = option_map (λ f. f.1) (find (λ f. f.0 == sink.made.value) sink.faults.items)

-- the put takes all bytes, or fails after so many
abbrev pub PutsAsPlanned : Option ℕ → (before now piece : List ℕ) → Put → Type 0
PutsAsPlanned None before now piece (Ok done) = now ≡ before ++ piece
PutsAsPlanned None before now piece (Err Failed) = ⊥
PutsAsPlanned (Some cut) before now piece (Ok done) = ⊥
PutsAsPlanned (Some cut) before now piece (Err Failed) = now ≡ before ++ take cut piece
PutsAsPlanned plan before now piece (Err NoMemory) = now ≡ before
