-- The loads of the files of a request.
use Rattle.std.specs.Prelude.{◌≡◌, ◌≤◌, ◌<◌, ◌+◌, ◌++◌, ℕ, Bool, true, false, List, [], ◌∷◌, Option, Result, Ok, IsOk, IsErr, length, map}
use Rattle.base_files.specs.Faults.{next_count}
use Rattle.base_files.specs.Files.{Contents}
use Rattle.base_files.specs.Loads.{IsFrontOf, LoadedFile}
use Rattle.ask_files.specs.Files.{NamedFile, most_bytes}

-- what loads gave
abbrev pub contents_of : List LoadedFile → List (List ℕ)
contents_of made = map (λ load. load.1) made

-- this is a load of the file: of its name, with the first bytes of its content where the shelf tells it, one more than it may have
pub record IsLoadOf (told : Option Contents) (file : NamedFile) (load : LoadedFile) : Type 0 where
  pub name_is : load.0 ≡ file.1
  pub front : IsFrontOf told file.1 (most_bytes file.0 + 1) load.1

-- a file was read: it was loaded, and is within its limit
pub record IsRead (told : Option Contents) (file : NamedFile) (load : LoadedFile) : Type 0 where
  pub is_load : IsLoadOf told file load
  pub within : length load.1 ≤ most_bytes file.0

-- a file was loaded, and is too long
pub record IsLong (told : Option Contents) (file : NamedFile) (load : LoadedFile) : Type 0 where
  pub is_load : IsLoadOf told file load
  pub over : most_bytes file.0 < length load.1

-- these loads are of the first of these files, one for each in their order, each of which was read; these files are left
abbrev pub AreRead : Option Contents → List NamedFile → List LoadedFile → List NamedFile → Type 0
AreRead told files [] left = files ≡ left
AreRead told [] (load ∷ made) left = ⊥
AreRead told (file ∷ files) (load ∷ made) left = IsRead told file load × AreRead told files made left

-- the load of one file: it was read, or is too long, or its load failed and was counted, or memory was wanted
pub data LoadsNext {E : Type 0} (told : Option Contents) (file : NamedFile) (loads loads_now : List LoadedFile) (faults faults_now : ℕ)
    (last : List ℕ) (result : Result Bool E) : Type 0 where
  was_read : (load : LoadedFile) → loads_now ≡ loads ++ load ∷ [] → IsRead told file load → faults_now ≡ faults → result ≡ Ok true
      → LoadsNext told file loads loads_now faults faults_now last result
  was_long : (load : LoadedFile) → loads_now ≡ loads ++ load ∷ [] → IsLong told file load → faults_now ≡ faults → result ≡ Ok false
      → LoadsNext told file loads loads_now faults faults_now last result
  has_failed : loads_now ≡ loads → faults_now ≡ next_count faults → last ≡ file.1 → result ≡ Ok false
      → LoadsNext told file loads loads_now faults faults_now last result
  wanted_memory : loads_now ≡ loads → faults_now ≡ faults → IsErr result
      → LoadsNext told file loads loads_now faults faults_now last result

-- the loads of these files: all were read; or those before one whose load failed, which was counted; or those before one that is too long,
-- and its load; or memory was wanted
pub data LoadsEnd {E : Type 0} (told : Option Contents) (files : List NamedFile) (made : List LoadedFile) (faults faults_now : ℕ)
    (last : List ℕ) (result : Result (Unit {0}) E) : Type 0 where
  all_read : AreRead told files made [] → faults_now ≡ faults → IsOk result → LoadsEnd told files made faults faults_now last result
  failed : (file : NamedFile) (left : List NamedFile) → AreRead told files made (file ∷ left) → faults_now ≡ next_count faults
      → last ≡ file.1 → IsOk result → LoadsEnd told files made faults faults_now last result
  too_long : (before : List LoadedFile) (long : LoadedFile) (file : NamedFile) (left : List NamedFile) → made ≡ before ++ long ∷ []
      → AreRead told files before (file ∷ left) → IsLong told file long → faults_now ≡ faults → IsOk result
      → LoadsEnd told files made faults faults_now last result
  wants_memory : (file : NamedFile) (left : List NamedFile) → AreRead told files made (file ∷ left) → faults_now ≡ faults → IsErr result
      → LoadsEnd told files made faults faults_now last result
