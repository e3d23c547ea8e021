-- What a `MemShelf` keeps.
use Rattle.std.specs.Prelude.{◌==◌, ℕ, List, Option, None, if◌then◌else◌}
use Rattle.std.specs.List.{list_any}
use Rattle.base_files.specs.Files.{content_of}
use Rattle.base_files.specs.declared.mem_shelf.MemShelf.{MemShelf}

-- how many loads were made
abbrev pub loads_made : MemShelf → ℕ
loads_made shelf = shelf.made.value

-- the numbers of the loads that fail
abbrev pub planned_loads : MemShelf → List ℕ
planned_loads shelf = shelf.faults.items

-- the content that a load of the name finds: none where the load is to fail
abbrev pub found_by : MemShelf → List ℕ → Option (List ℕ)
found_by shelf name = if list_any (λ fault. fault == shelf.made.value) shelf.faults.items then None else content_of shelf.files.items name
