-- What a load answers, what it adds to the log of loads, and what it counts.
use Rattle.std.specs.Prelude.{◌≡◌, ◌++◌, ◌-◌, ℕ, List, [], ◌∷◌, Option, Some, None, Result, Ok, Err, ⊤}
use Rattle.std.specs.Prelude.{get_or, length, map, option_map, string_bytes, take}
use Rattle.base_files.specs.Faults.{next_count}
use Rattle.base_files.specs.Files.{Contents}
use Rattle.base_files.specs.declared.load.Load.{Load}
use Rattle.base_files.specs.declared.shelf.LoadFault.{LoadFault}
use Rattle.base_files.specs.declared.shelf.LoadFault.TheVariants.{Failed, NoMemory}

-- a file as it was loaded: its name, and the bytes that the load gave
abbrev pub LoadedFile : Type 0
LoadedFile = List ℕ × List ℕ

-- kept loads as such files
abbrev pub loaded_files : List Load → List LoadedFile
loaded_files loads = map (λ load. (string_bytes load.name, load.bytes.items)) loads

-- the bytes of the file with this number, counted from 0, and none where there is no such file
abbrev pub bytes_at : List LoadedFile → ℕ → List ℕ
bytes_at loads number = (get_or loads number ([], [])).1

-- the bytes of the last of these files, and none where there is no file
abbrev pub newest_bytes : List LoadedFile → List ℕ
newest_bytes loads = bytes_at loads (length loads - 1)

-- the answer of a load
abbrev pub LoadAnswer : Type 0
LoadAnswer = Result (Unit {0}) LoadFault

-- at `Ok` the log is the old one and then exactly one more file, of this name; at an error it is the old one
abbrev pub LogsLoad : {E : Type 0} → (before now : List LoadedFile) → List ℕ → Result (Unit {0}) E → Type 0
LogsLoad before now name (Ok done) = now ≡ before ++ (name, newest_bytes now) ∷ []
LogsLoad before now name (Err fault) = now ≡ before

-- where the files are told there is one of the name, and these are its first `most` bytes
abbrev pub IsFrontOf : Option Contents → (name : List ℕ) → (most : ℕ) → List ℕ → Type 0
IsFrontOf None name most bytes = ⊤
IsFrontOf (Some files) name most bytes = option_map (take most) (files name) ≡ Some bytes

-- the load succeeds exactly where there is a content, but for want of memory
abbrev pub FailsIfAbsent : Option (List ℕ) → LoadAnswer → Type 0
FailsIfAbsent None (Ok done) = ⊥
FailsIfAbsent None (Err fault) = ⊤
FailsIfAbsent (Some content) (Ok done) = ⊤
FailsIfAbsent (Some content) (Err Failed) = ⊥
FailsIfAbsent (Some content) (Err NoMemory) = ⊤

-- `Failed` counts once, and the name is then the last failed name; no other answer changes the two
abbrev pub HasLoadCause : (before now : ℕ) (last_before last_now name : List ℕ) → LoadAnswer → Type 0
HasLoadCause before now last_before last_now name (Ok done) = (now ≡ before) × (last_now ≡ last_before)
HasLoadCause before now last_before last_now name (Err Failed) = (now ≡ next_count before) × (last_now ≡ name)
HasLoadCause before now last_before last_now name (Err NoMemory) = (now ≡ before) × (last_now ≡ last_before)
