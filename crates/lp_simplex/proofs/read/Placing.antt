-- Values that are put at the places of their names, one after another.
use Rattle.std.proofs.Common.{◌≡◌, ◌≢◌, ℕ, zero, suc, ◌+◌, ◌-◌, ◌<◌, ⊎_elim, List, [], ◌∷◌, ◌++◌, length, map, get_or, set, refl, ap}
use Rattle.std.proofs.Common.{sym, ◌∙◌, arith}
use Rattle.std.proofs.lemmas.Bool.{cases_lt}
use Rattle.std.proofs.lemmas.List.{length-set, length-map, map_push, get_or_append_left}
use Rattle.base_numbers.specs.Rational.{ℚ, zero_ℚ}
use Rattle.lp_dictionary.specs.Cells.{cell}
use Rattle.lp_dictionary.proofs.cells.Cells.{cell_written, cell_kept}
use Rattle.lp_dictionary.proofs.listed.DictBuilds.{get_behind}
use Rattle.lp_simplex.specs.Placed.{IsPlaced, Places}

module _ {F : Type 0} (m : F → ℚ) where
  -- a value is put
  pub put_in : (xs : List F) (name base : ℕ) (v : F) → base < name → name - base - 1 < length xs
      → Places m name base (m v) xs (set xs (name - base - 1) v)
  put_in xs name base v b l = record {
    size = length-set xs (name - base - 1) v;
    put = λ j k e. let p : j ≡ name - base - 1 = omega (arith, e) in ap (cell m (set xs (name - base - 1) v)) p
        ∙ cell_written m xs (name - base - 1) v l;
    kept = λ j n. cell_kept m xs (name - base - 1) j v (λ e. n (omega (arith, e, b)));
  }

  -- the name has no place
  put_out : (xs : List F) (name base : ℕ) (v : ℚ) → ((j : ℕ) → j < length xs → name ≢ suc (j + base)) → Places m name base v xs xs
  put_out xs name base v h = record { size = refl; put = λ j l e. absurd (h j l e); kept = λ j n. refl }

  -- one more 0
  zero_pushed : (xs : List F) (z : F) → ((j : ℕ) → cell m xs j ≡ zero_ℚ) → m z ≡ zero_ℚ → (j : ℕ) → cell m (xs ++ z ∷ []) j ≡ zero_ℚ
  zero_pushed xs z h e j = ap (λ ys. get_or ys j zero_ℚ) (map_push m xs z) ∙ ⊎_elim
      (λ l. get_or_append_left (map m xs) (m z ∷ []) zero_ℚ j (let k = length-map xs m in omega (arith, l, k)) ∙ h j)
      (λ l. get_behind (map m xs) (m z ∷ []) (j - length xs) j zero_ℚ (let k = length-map xs m in omega (arith, l, k))
      ∙ last (j - length xs))
      (cases_lt j (length xs))
    where
      last : (i : ℕ) → get_or (m z ∷ []) i zero_ℚ ≡ zero_ℚ
      last zero = e
      last (suc i) = refl

  -- nothing is placed yet
  placed_none : (name : ℕ → ℕ) (value : ℕ → ℚ) (base count : ℕ) (xs : List F) → length xs ≡ count → ((j : ℕ) → cell m xs j ≡ zero_ℚ)
      → IsPlaced m name value 0 base count xs
  placed_none name value base count xs e h = record { size = e; put = λ i j l. absurd (omega (arith, l)); rest = λ j l n. h j }

  -- one more name
  placed_more : (name : ℕ → ℕ) (value : ℕ → ℚ) (n base count : ℕ) (xs ys : List F) → IsPlaced m name value n base count xs
      → Places m (name n) base (value n) xs ys → ((i : ℕ) → i < n → name i ≢ name n) → IsPlaced m name value (n + 1) base count ys
  placed_more name value n base count xs ys h p apart = record {
    size = p.size ∙ h.size;
    put = λ i j l b e. ⊎_elim
        (λ a. p.kept j (λ f. apart i a (e ∙ sym f)) ∙ h.put i j a b e)
        (λ a. let q : i ≡ n = omega (arith, a, l) in p.put j (omega (arith, b, h.size)) (ap name (sym q) ∙ e) ∙ ap value (sym q))
        (cases_lt i n);
    rest = λ j b k. p.kept j (k n (omega arith)) ∙ h.rest j b (λ i l. k i (omega (arith, l)));
  }
