-- Lists of one length, one after another.
use Rattle.std.proofs.Common.{◌≡◌, ◌==◌, ◌+◌, ◌*◌, ◌/◌, ◌<◌, ◌≤◌, ◌++◌, ◌&&◌, ℕ, zero, suc, true, List, [], ◌∷◌, length, map, take, drop}
use Rattle.std.proofs.Common.{get_or, refl, sym, ap, ap₂, ◌∙◌, arith, append_assoc, length-drop, eq-eqb}
use Rattle.std.specs.List.{list_all}
use Rattle.std.proofs.lemmas.List.{append-nil, take_more}
use Rattle.serde_json.specs.Data.{Data, array, item}
use Rattle.serde_json.specs.Events.{items_len}
use Rattle.cert_text.specs.Lists.{items_data, list_data}
use Rattle.base_numbers.specs.Extended.{Ext as Extended}
use Rattle.base_fractions.specs.Extended.{extended}
use Rattle.base_fractions.specs.declared.ext.Ext.{Ext}
use Rattle.cert_text.specs.Numbers.{bound_data}
use Rattle.cert_text.specs.BoundLines.{bounds_data, ext_line_data, joined, line_data, lines_of}

-- ---- joining

joined-snoc : {A : Type 0} (xss : List (List A)) (xs : List A) → joined (xss ++ xs ∷ []) ≡ joined xss ++ xs
joined-snoc [] xs = append-nil xs
joined-snoc (ys ∷ xss) xs = ap (λ zs. ys ++ zs) (joined-snoc xss xs) ∙ sym (append_assoc ys (joined xss) xs)

-- the first i lists joined, and the next one, are the first i + 1 joined
pub joined_more : {A : Type 0} (xss : List (List A)) (i : ℕ) (xs done : List A) → i < length xss → xs ≡ get_or xss i xs
    → done ≡ joined (take i xss) → done ++ xs ≡ joined (take (i + 1) xss)
joined_more xss i xs done lt is e = ap (λ ys. ys ++ xs) e ∙ sym (joined-snoc (take i xss) xs) ∙ ap (λ ys. joined (take i xss ++ ys ∷ [])) is
    ∙ ap joined (sym (take_more xss i xs lt))

-- ---- cutting

drop-nil : {A : Type 0} (n : ℕ) → drop {A = A} n [] ≡ []
drop-nil zero = refl
drop-nil (suc n) = refl

drop_drop : {A : Type 0} (m n : ℕ) (xs : List A) → drop m (drop n xs) ≡ drop (n + m) xs
drop_drop m zero xs = ap (λ k. drop k xs) (omega arith)
drop_drop zero (suc n) [] = sym (drop-nil (suc n + 0))
drop_drop (suc m) (suc n) [] = sym (drop-nil (suc n + suc m))
drop_drop m (suc n) (x ∷ xs) = let e : suc (n + m) ≡ suc n + m = omega arith in drop_drop m n xs ∙ ap (λ k. drop k (x ∷ xs)) e

-- the first n + 1 lines of a list are the first n, and the next ones of this length
pub lines_more : {A : Type 0} (rows n : ℕ) (xs : List A) → lines_of rows (suc n) xs
    ≡ lines_of rows n xs ++ take rows (drop (n * rows) xs) ∷ []
lines_more rows zero xs = let e : 0 ≡ 0 * rows = omega arith in ap (λ k. take rows (drop k xs) ∷ []) e
lines_more rows (suc n) xs =
    let e : rows + n * rows ≡ suc n * rows = omega arith in
    ap (λ yss. take rows xs ∷ yss) (lines_more rows n (drop rows xs) ∙ ap (λ ys. lines_of rows n (drop rows xs) ++ take rows ys ∷ [])
    (drop_drop (n * rows) rows xs ∙ ap (λ k. drop k xs) e))

length_take : {A : Type 0} (n : ℕ) (xs : List A) → n ≤ length xs → length (take n xs) ≡ n
length_take zero xs h = refl
length_take (suc n) [] h = absurd (omega arith)
length_take (suc n) (x ∷ xs) h = ap suc (length_take n xs (omega arith))

take_drop : {A : Type 0} (n : ℕ) (xs : List A) → take n xs ++ drop n xs ≡ xs
take_drop zero xs = refl
take_drop (suc n) [] = refl
take_drop (suc n) (x ∷ xs) = ap (λ ys. x ∷ ys) (take_drop n xs)

-- each list has the length
lines_even : {A : Type 0} (rows n : ℕ) (xs : List A) → n * rows ≤ length xs
    → list_all (λ (line : List A). length line == rows) (lines_of rows n xs) ≡ true
lines_even rows zero xs h = refl
lines_even rows (suc n) xs h =
    ap₂ (λ a b. a && b) (eq-eqb (length (take rows xs)) rows (length_take rows xs (omega (arith, h))))
    (lines_even rows n (drop rows xs) (omega (arith, h, length-drop rows xs)))

-- joined again
lines_joined : {A : Type 0} (rows n : ℕ) (xs : List A) → n * rows ≡ length xs → joined (lines_of rows n xs) ≡ xs
lines_joined rows zero [] h = refl
lines_joined rows zero (x ∷ xs) h = absurd (omega (arith, h))
lines_joined rows (suc n) xs h =
    ap (λ ys. take rows xs ++ ys) (lines_joined rows n (drop rows xs) (omega (arith, h, length-drop rows xs))) ∙ take_drop rows xs

module _ {A B : Type 0} (f : A → B) where
  take-map : (n : ℕ) (xs : List A) → map f (take n xs) ≡ take n (map f xs)
  take-map zero xs = refl
  take-map (suc n) [] = refl
  take-map (suc n) (x ∷ xs) = ap (λ ys. f x ∷ ys) (take-map n xs)

  drop-map : (n : ℕ) (xs : List A) → map f (drop n xs) ≡ drop n (map f xs)
  drop-map zero xs = refl
  drop-map (suc n) [] = refl
  drop-map (suc n) (x ∷ xs) = drop-map n xs

  lines_of-map : (rows n : ℕ) (xs : List A) → map (λ line. map f line) (lines_of rows n xs) ≡ lines_of rows n (map f xs)
  lines_of-map rows zero xs = refl
  lines_of-map rows (suc n) xs = ap₂ (λ ys yss. ys ∷ yss) (take-map rows xs)
      (lines_of-map rows n (drop rows xs) ∙ ap (lines_of rows n) (drop-map rows xs))

  items_data-map : (write : B → Data) (xs : List A) → items_data (λ x. write (f x)) xs ≡ items_data write (map f xs)
  items_data-map write [] = refl
  items_data-map write (x ∷ xs) = ap (item (write (f x))) (items_data-map write xs)

  -- what a function makes of a list is as long as the list
  pub length_map : (xs : List A) → length (map f xs) ≡ length xs
  length_map [] = refl
  length_map (x ∷ xs) = ap suc (length_map xs)

-- the values of lines, as bounds of the code and as extended numbers
lines_data : (lines : List (List Ext)) → items_data ext_line_data lines ≡ items_data line_data (map (λ line. map extended line) lines)
lines_data [] = refl
lines_data (line ∷ lines) = ap₂ item (ap array (items_data-map extended bound_data line)) (lines_data lines)

-- as many values as elements
pub items_len-items_data : {A : Type 0} (write : A → Data) (xs : List A) → items_len (items_data write xs) ≡ length xs
items_len-items_data write [] = refl
items_len-items_data write (x ∷ xs) = ap suc (items_len-items_data write xs)

-- the bounds of whole points, as bounds of the code and as extended numbers
module _ (rows : ℕ) (bounds : List Extended) (xs : List Ext) (lines : List (List Ext)) (is : map extended xs ≡ bounds)
    (cut : lines ≡ lines_of rows (length xs / rows) xs) where
  same_length : length xs ≡ length bounds
  same_length = sym (length_map extended xs) ∙ ap length is

  -- the value of the lines of bounds of the code is that of the extended numbers they stand for
  pub bounds_data_is : list_data ext_line_data lines ≡ bounds_data rows bounds
  bounds_data_is =
      ap (list_data ext_line_data) cut ∙ ap array (lines_data (lines_of rows (length xs / rows) xs)
      ∙ ap (items_data line_data) (lines_of-map extended rows (length xs / rows) xs
      ∙ ap₂ (λ k ys. lines_of rows (k / rows) ys) same_length is))

  module _ (whole : length bounds / rows * rows ≡ length bounds) where
    whole_xs : length xs / rows * rows ≡ length xs
    whole_xs = ap (λ k. k / rows * rows) same_length ∙ whole ∙ sym same_length

    -- where the bounds are those of whole points, each line has one bound for each row
    pub cut_even : list_all (λ (line : List Ext). length line == rows) lines ≡ true
    cut_even = ap (list_all (λ (line : List Ext). length line == rows)) cut
        ∙ lines_even rows (length xs / rows) xs (omega (arith, whole_xs))

    -- where the bounds are those of whole points, the lines joined are the bounds
    pub cut_joined : map extended (joined lines) ≡ bounds
    cut_joined = ap (λ yss. map extended (joined yss)) cut ∙ ap (map extended) (lines_joined rows (length xs / rows) xs whole_xs) ∙ is
