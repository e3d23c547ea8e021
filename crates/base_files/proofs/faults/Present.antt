-- A plain shelf never fails to load a file that it has: what a program over one may cite.
use Rattle.std.proofs.Common.{◌≡◌, ◌<◌, ℕ, List, Some, None, IsSome, is_some, option_and_then, string_bytes, ap, sym, ◌∙◌, arith}
use Rattle.base_files.specs.Faults.{Rose}
use Rattle.base_files.specs.Files.{content_of}
use Rattle.base_files.specs.declared.plain_shelf.PlainShelf.{PlainShelf}

-- since no load had failed before, a count that rose says that the last failed name has no file
pub never_fails : (before now : PlainShelf) (name : List ℕ) → before.failures.count.value ≡ 0
    → Rose before.failures.count.value now.failures.count.value → string_bytes now.failures.last ≡ name
    → Some (content_of now.files.items) ≡ Some (content_of before.files.items) → IsSome (content_of before.files.items name) → ⊥
never_fails before now name fresh rose last kept present =
    let some : 0 < now.failures.count.value = omega arith in
    let gone : content_of now.files.items name ≡ None = ap (content_of now.files.items) (sym last) ∙ now.absent some in
    let had = sym (ap (option_and_then (λ files. files name)) kept) ∙ gone in
    let none = ap is_some had in
    cc
