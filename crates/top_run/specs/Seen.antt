-- What is seen of a shelf and of a sink, before a run and after it.
use Rattle.std.specs.Prelude.{ℕ, List, Option}
use Rattle.base_files.specs.Files.{Contents}
use Rattle.base_files.specs.Loads.{LoadedFile}

-- of a shelf: its files, where it tells them, its loads, how many have failed, and the name of the last one that did
pub record ShelfSeen : Type 0 where
  pub files : Option Contents
  pub loads : List LoadedFile
  pub faults : ℕ
  pub last_failed : List ℕ

-- a shelf with these
abbrev pub shelf_with : Option Contents → List LoadedFile → (faults : ℕ) → (last_failed : List ℕ) → ShelfSeen
shelf_with files loads faults last_failed = record { files = files; loads = loads; faults = faults; last_failed = last_failed }

-- of a sink: its bytes and the pieces that it took whole, where it tells them, how many puts have failed, and how many more bytes it takes
-- with no memory
pub record SinkSeen : Type 0 where
  pub held : Option (List ℕ)
  pub taken : Option (List (List ℕ))
  pub faults : ℕ
  pub spare : ℕ

-- a sink with these
abbrev pub sink_with : Option (List ℕ) → Option (List (List ℕ)) → (faults spare : ℕ) → SinkSeen
sink_with held taken faults spare = record { held = held; taken = taken; faults = faults; spare = spare }
