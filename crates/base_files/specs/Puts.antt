-- What a put appends, and what it counts.
use Rattle.std.specs.Prelude.{◌≡◌, ◌<◌, ◌++◌, ℕ, List, [], ◌∷◌, Option, None, Some, Result, Ok, Err, length, take, ⊤}
use Rattle.std.specs.Io.KnownBytes.{Appends}
use Rattle.base_files.specs.Faults.{Rose}
use Rattle.base_files.specs.declared.sink.PutFault.{PutFault}
use Rattle.base_files.specs.declared.sink.PutFault.TheVariants.{Failed, NoMemory}

-- the answer of a put
abbrev pub Put : Type 0
Put = Result (Unit {0}) PutFault

-- the whole piece is appended at `Ok`, and else a prefix of it
abbrev pub Puts : (before now : Option (List ℕ)) → List ℕ → Put → Type 0
Puts before now piece (Ok done) = Appends before now piece
Puts before now piece (Err fault) = (n : ℕ) × Appends before now (take n piece)

-- known pieces grow by these, in order
abbrev pub AddsPieces : (before now : Option (List (List ℕ))) → List (List ℕ) → Type 0
AddsPieces None now pieces = ⊤
AddsPieces (Some old) None pieces = ⊥
AddsPieces (Some old) (Some new) pieces = new ≡ old ++ pieces

-- the piece alone, or nothing where it is empty
abbrev pub as_pieces : List ℕ → List (List ℕ)
as_pieces [] = []
as_pieces (byte ∷ rest) = (byte ∷ rest) ∷ []

-- at `Ok` the piece is one more of those that were taken whole, where it isn't empty, and else there is none more
abbrev pub Takes : (before now : Option (List (List ℕ))) → List ℕ → Put → Type 0
Takes before now piece (Ok done) = AddsPieces before now (as_pieces piece)
Takes before now piece (Err fault) = now ≡ before

-- `Failed` comes only where the count rose, and `NoMemory` only where the piece is longer than the spare; nothing else counts
abbrev pub HasPutCause : (before now spare : ℕ) → List ℕ → Put → Type 0
HasPutCause before now spare piece (Ok done) = now ≡ before
HasPutCause before now spare piece (Err Failed) = Rose before now
HasPutCause before now spare piece (Err NoMemory) = (spare < length piece) × (now ≡ before)
