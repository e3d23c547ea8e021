-- Marks of points.
use Rattle.std.proofs.Common.{◌≡◌, ◌∙◌, ⊎_elim, ℕ, Bool, true, false, true≢false, List, length, get_or, refl, sym, ap, arith}
use Rattle.std.specs.Prelude.{slice_set}
use Rattle.std.proofs.lemmas.Bool.{cases_lt}
use Rattle.std.proofs.lemmas.Bool.Decides.{eqb_tells}
use Rattle.std.proofs.lemmas.List.{get_or_past, get_or-set_same, get_or-set_other, length-set}

-- a mark that is taken away is gone
pub false_set : (marks : List Bool) (place : ℕ) → get_or (slice_set marks place false) place false ≡ false
false_set marks place = ⊎_elim (λ l. get_or-set_same marks place false false l)
    (λ l. get_or_past (slice_set marks place false) place false (let n = length-set marks place false in omega (arith, l, n)))
    (cases_lt place (length marks))

-- where each mark that is left was there before, none comes up
pub stays_unmarked : (old new : Bool) → (new ≡ true → old ≡ true) → old ≡ false → new ≡ false
stays_unmarked old true keeps e = sym (keeps refl) ∙ e
stays_unmarked old false keeps e = refl

module _ (marks new : List Bool) (place : ℕ) (is : new ≡ slice_set marks place false) where
  -- the mark is gone
  pub mark_gone : get_or new place false ≡ false
  mark_gone = ap (λ ms. get_or ms place false) is ∙ false_set marks place

  -- a mark that is left was there before
  pub was_mark : (p : ℕ) → get_or new p false ≡ true → get_or marks p false ≡ true
  was_mark p t = ⊎_elim
      (λ same. absurd (true≢false (sym t ∙ ap (λ k. get_or new k false) same.1 ∙ mark_gone)))
      (λ apart. sym (get_or-set_other marks place p false false apart.1) ∙ sym (ap (λ ms. get_or ms p false) is) ∙ t)
      (eqb_tells p place)
