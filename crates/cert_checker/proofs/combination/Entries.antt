-- The numbers that are read to sum multiples.
use Rattle.std.proofs.Common.{◌≡◌, ◌∙◌, ℕ, ◌+◌, ◌*◌, ◌<◌, ℤ, pos, List, length, get_or, map, sym, ap, zero-add}
use Rattle.std.specs.Prelude.{Some, slice_get}
use Rattle.std.specs.List.{range_with_len}
use Rattle.std.proofs.lemmas.List.{get_or-map}
use Rattle.std.proofs.lemmas.List.FromFn.{get_or-map-range_with_len}
use Rattle.std.proofs.lemmas.Option.{slice_get_within, get_or_from_slice_get}
use Rattle.base_numbers.specs.Rational.{ℚ, whole, zero_ℚ, neg_ℚ}
use Rattle.base_numbers.specs.Extended.{Ext, neg_inf}
use Rattle.flow_systems.specs.Equations.{Equations, Vector}
use Rattle.solve_composition.specs.declared.affine.Affine.{Affine}
use Rattle.solve_composition.specs.Sums.{dense_column}
use Rattle.cert_checker.specs.Combined.{negated_constants}
use Rattle.cert_checker.specs.EvidenceEvents.{row_column}
use Rattle.cert_checker.specs.Stands.{Stands}

-- of a row at a column
pub row_read : (system : Equations) (r k : ℕ) (row : List ℤ) (x : ℚ) → r < length system.template → row ≡ get_or system.template r row
    → x ≡ whole (get_or row k (pos 0)) → x ≡ get_or (row_column system k) r x
row_read system r k row x l e read =
    read ∙ ap (λ cs. whole (get_or cs k (pos 0))) e ∙ sym (get_or-map (λ (cs : List ℤ). whole (get_or cs k (pos 0))) system.template r row x
    l)

-- of a guard at a column
pub guard_read : (guards : List Affine) (g k : ℕ) (f : Affine) (x : ℚ) → slice_get guards g ≡ Some f → x ≡ get_or f.coeffs k zero_ℚ
    → x ≡ get_or (dense_column k guards) g x
guard_read guards g k f x e read =
    read ∙ ap (λ (h : Affine). get_or h.coeffs k zero_ℚ) (sym (get_or_from_slice_get guards g f f e))
    ∙ sym (get_or-map (λ (h : Affine). get_or h.coeffs k zero_ℚ) guards g f x (slice_get_within guards g f e))

-- of a guard's constant
pub constant_read : (guards : List Affine) (g : ℕ) (f : Affine) (x : ℚ) → slice_get guards g ≡ Some f → x ≡ neg_ℚ f.constant
    → x ≡ get_or (negated_constants guards) g x
constant_read guards g f x e read =
    read ∙ ap (λ (h : Affine). neg_ℚ h.constant) (sym (get_or_from_slice_get guards g f f e))
    ∙ sym (get_or-map (λ (h : Affine). neg_ℚ h.constant) guards g f x (slice_get_within guards g f e))

-- of a bound at a point
pub bound_at_row : (system : Equations) (bounds : List Ext) (z : Vector) → Stands system bounds z → (p r n : ℕ) (b : Ext)
    → p < system.points → r < length system.template → n ≡ length system.template → b ≡ get_or bounds (p * n + r) neg_inf → b ≡ z p r
bound_at_row system bounds z h p r n b l k e read = read ∙ ap (λ m. get_or bounds (p * m + r) neg_inf) e ∙ h.at p r l k

-- a number that is read is the list's at that place
pub number_read : (f : ℕ → ℚ) (n r : ℕ) (x : ℚ) → r < n → x ≡ f r → x ≡ get_or (map f (range_with_len 0 n)) r x
number_read f n r x l e = e ∙ sym (get_or-map-range_with_len f 0 n r r x l (zero-add r))
