-- A certificate that can be written can be written with all entries of its lists.
use Rattle.std.proofs.Common.{◌≡◌, ◌∙◌, ◌%◌, ◌<◌, ◌&&◌, ◌==◌, suc, true, List, [], ◌∷◌, length, map, refl, sym}
use Rattle.std.proofs.Common.{ap, ap₂, subst}
use Rattle.std.specs.Prelude.{ℤ}
use Rattle.std.specs.List.{list_all}
use Rattle.base_numbers.specs.Rational.{whole}
use Rattle.base_numbers.proofs.rational.Parts.{den-whole}
use Rattle.cert_types.specs.Shaped.{IsShaped, has_item, has_some}
use Rattle.cert_types.specs.declared.cert.Cert.{Cert}
use Rattle.cert_types.specs.declared.step.Step.{Step}
use Rattle.cert_types.specs.declared.step.Step.TheVariants.{Plain, Jump, Ray}
use Rattle.cert_written.specs.Shaped.{IsShaped as IsWritten, are_whole, has_item as has_written, has_some as some_written, is_whole}
use Rattle.cert_fitted.specs.Dense.{dense_cert, dense_row, dense_step}

long_map : {A B : Type 0} (f : A → B) (xs : List A) → length (map f xs) ≡ length xs
long_map f [] = refl
long_map f (x ∷ xs) = ap suc (long_map f xs)

row_whole : (row : List ℤ) → list_all is_whole (map whole row) ≡ true
row_whole [] = refl
row_whole (z ∷ row) = ap₂ (λ n b. (n == 1) && b) (den-whole z) (row_whole row)

rows_whole : (rows : List (List ℤ)) → list_all are_whole (map dense_row rows) ≡ true
rows_whole [] = refl
rows_whole (row ∷ rows) = ap₂ (λ a b. a && b) (row_whole row) (rows_whole rows)

same_some : {A B : Type 0} (f : A → B) (xs : List A) → some_written (map f xs) ≡ has_some xs
same_some f [] = refl
same_some f (x ∷ xs) = refl

same_item : (s : Step) → has_written (dense_step s) ≡ has_item s
same_item (Plain items) = same_some _ items
same_item (Jump items) = same_some _ items
same_item (Ray items) = same_some _ items

same_items : (steps : List Step) → list_all has_written (map dense_step steps) ≡ list_all has_item steps
same_items [] = refl
same_items (s ∷ steps) = ap₂ (λ a b. a && b) (same_item s) (same_items steps)

-- a shaped certificate is so with all entries of its lists
pub dense_shaped : (c : Cert) → IsShaped c → IsWritten (dense_cert c)
dense_shaped c h = record {
  row = subst (λ n. 0 < n) (sym (long_map dense_row c.rows)) h.row;
  numbers = rows_whole c.rows;
  points = ap (λ n. length c.bounds % n) (long_map dense_row c.rows) ∙ h.points;
  items = same_items c.steps ∙ h.items;
}
