-- The choices of a pick by the numbers of the unknowns.
use Rattle.std.proofs.Common.{◌≡◌, ◌∙◌, ℕ, zero, suc, ◌+◌, ◌*◌, ◌/◌, ◌%◌, ◌<◌, ◌≤◌, false, List, [], ◌++◌, get_or, length, refl, sym, ap}
use Rattle.std.proofs.Common.{ap₂, arith, if◌then◌else◌}
use Rattle.std.specs.Prelude.{Option, None, replicate, flat_map}
use Rattle.std.specs.List.{range_with_len}
use Rattle.std.proofs.lemmas.Bool.{lt-ltb}
use Rattle.std.proofs.lemmas.Grind.{flat_map-append}
use Rattle.std.proofs.lemmas.List.{get_or-replicate}
use Rattle.std.proofs.lemmas.Nat.{div-add-mod', div-mul-add, mod-mul-add}
use Rattle.flow_systems.specs.View.{equations_of}
use Rattle.flow_systems.specs.declared.system.System.{System}
use Rattle.theory_strategy.specs.Picks.{choice_at, choices}
use Rattle.solve_offers.specs.Improvement.{pick_of}
use Rattle.solve_rounds.specs.Growing.{left_at, left_from}
use Rattle.solve_offers.proofs.offers.Unknowns.{row_within}
use Rattle.solve_rounds.proofs.growing.Walked.{range-append}

-- functions that agree on a range
flat_same : {A : Type 0} (f g : ℕ → List A) (a n : ℕ) → ((u : ℕ) → u < a + n → f u ≡ g u)
    → flat_map f (range_with_len a n) ≡ flat_map g (range_with_len a n)
flat_same f g a zero h = refl
flat_same f g a (suc n) h = ap₂ (λ x y. x ++ y) (h a (omega arith)) (flat_same f g (a + 1) n (λ u l. h u (omega (arith, l))))

module _ {A : Type 0} (f : ℕ → ℕ → List A) (rows : ℕ) where
  -- the rows of a point
  rows_at : (p j m : ℕ) → j + m ≤ rows → flat_map (λ r. f p r) (range_with_len j m)
      ≡ flat_map (λ u. f (u / rows) (u % rows)) (range_with_len (p * rows + j) m)
  rows_at p j zero l = refl
  rows_at p j (suc m) l =
      let h : j < rows = omega arith in
      ap₂ (λ x y. x ++ y) (sym (ap₂ f (div-mul-add p rows j h) (mod-mul-add p rows j h)))
      (rows_at p (j + 1) m (omega arith) ∙ ap (λ k. flat_map (λ u. f (u / rows) (u % rows)) (range_with_len k m))
      (let e : p * rows + (j + 1) ≡ p * rows + j + 1 = omega arith in e))

  -- points and then rows, and the numbers in order
  pub points_at : (a n : ℕ) → flat_map (λ p. flat_map (λ r. f p r) (range_with_len 0 rows)) (range_with_len a n)
      ≡ flat_map (λ u. f (u / rows) (u % rows)) (range_with_len (a * rows) (n * rows))
  points_at a zero = ap (λ k. flat_map (λ u. f (u / rows) (u % rows)) (range_with_len (a * rows) k))
      (let e : 0 ≡ zero * rows = omega arith in e)
  points_at a (suc n) =
      ap₂ (λ x y. x ++ y)
      (rows_at a 0 rows (omega arith) ∙ ap (λ k. flat_map (λ u. f (u / rows) (u % rows)) (range_with_len k rows))
      (let e : a * rows + 0 ≡ a * rows = omega arith in e))
      (points_at (a + 1) n ∙ ap (λ k. flat_map (λ u. f (u / rows) (u % rows)) (range_with_len k (n * rows)))
      (let e : (a + 1) * rows ≡ a * rows + rows = omega arith in e))
      ∙ sym (flat_map-append (λ u. f (u / rows) (u % rows)) (range_with_len (a * rows) rows) (range_with_len (a * rows + rows) (n * rows)))
      ∙ ap (flat_map (λ u. f (u / rows) (u % rows))) (sym (range-append (a * rows) rows (n * rows)))
      ∙ ap (λ k. flat_map (λ u. f (u / rows) (u % rows)) (range_with_len (a * rows) k))
      (let e : rows + n * rows ≡ suc n * rows = omega arith in e)

-- before anything is raised, the choices are left
pub choices_left : (points rows : ℕ) (pick : List (Option ℕ)) →
    flat_map (λ p. flat_map (λ r. choice_at p r (pick_of rows pick p r)) (range_with_len 0 rows)) (range_with_len 0 points)
    ≡ left_from rows pick (replicate (points * rows) false) 0 (points * rows)
choices_left points rows pick =
    points_at (λ p r. choice_at p r (pick_of rows pick p r)) rows 0 points
    ∙ ap (λ k. flat_map (λ u. choice_at (u / rows) (u % rows) (pick_of rows pick (u / rows) (u % rows))) (range_with_len k (points * rows)))
    (let e : 0 * rows ≡ 0 = omega arith in e)
    ∙ flat_same (λ u. choice_at (u / rows) (u % rows) (pick_of rows pick (u / rows) (u % rows)))
    (left_at rows pick (replicate (points * rows) false)) 0 (points * rows) (λ u l. same u (omega (arith, l)))
  where
    same : (u : ℕ) → u < points * rows → choice_at (u / rows) (u % rows) (pick_of rows pick (u / rows) (u % rows))
        ≡ left_at rows pick (replicate (points * rows) false) u
    same u l =
        ap (λ b. choice_at (u / rows) (u % rows) (if b then get_or pick (u / rows * rows + u % rows) None else None))
        (lt-ltb (u % rows) rows (row_within u points rows l))
        ∙ ap (λ k. choice_at (u / rows) (u % rows) (get_or pick k None)) (div-add-mod' u rows)
        ∙ ap (λ b. if b then [] else choice_at (u / rows) (u % rows) (get_or pick u None))
        (sym (get_or-replicate (points * rows) u false false l))

-- the choices of the code's pick
pub choices_are : (system : System) (pick : List (Option ℕ)) →
    choices (equations_of system) (pick_of (length system.template) pick)
    ≡ left_from (length system.template) pick (replicate (length system.flow.points * length system.template) false) 0
    (length system.flow.points * length system.template)
unfolding choices
choices_are system pick = choices_left (length system.flow.points) (length system.template) pick
