-- What isn't marked as raised.
use Rattle.std.proofs.Common.{◌≡◌, ◌∙◌, ⊎_elim, ℕ, ◌<◌, Bool, true, false, true≢false, List, length, get_or, refl, sym, ap}
use Rattle.std.specs.Prelude.{slice_set}
use Rattle.std.proofs.lemmas.Bool.Decides.{eqb_tells}
use Rattle.std.proofs.lemmas.List.{get_or-set_same, get_or-set_other}
use Rattle.base_numbers.specs.Extended.{Ext as Extended, neg_inf}
use Rattle.solve_rounds.specs.declared.growing.Growing.{Growing}
use Rattle.solve_rounds.specs.Growing.{StaysUnraised}

-- what isn't marked after one more mark wasn't before, and is another one
pub unmarked_before : (marks : List Bool) (k u : ℕ) → k < length marks → get_or (slice_set marks k true) u false ≡ false
    → (get_or marks u false ≡ false) × (u ≡ k → ⊥)
unmarked_before marks k u l n =
    ⊎_elim (λ t. absurd (true≢false (sym (get_or-set_same marks k true false l)
    ∙ ap (λ j. get_or (slice_set marks k true) j false) (sym t.1) ∙ n)))
    (λ t. (sym (get_or-set_other marks k u true false t.1) ∙ n, t.1)) (eqb_tells u k)

-- where nothing changes
pub stays_same : (now : Growing) → StaysUnraised now now
stays_same now u n = (n, refl)

-- over two changes
pub stays_twice : (old mid new : Growing) → StaysUnraised old mid → StaysUnraised mid new → StaysUnraised old new
stays_twice old mid new a b u n =
    let after = b u n in
    let before = a u after.0 in
    (before.0, after.1 ∙ before.1)

-- over a raise
pub stays_raised : (old new : Growing) (unknown : ℕ) (bound : Extended) → unknown < length old.raised.items
    → new.bounds ≡ slice_set old.bounds unknown bound → new.raised.items ≡ slice_set old.raised.items unknown true
    → StaysUnraised old new
stays_raised old new unknown bound l b r u n =
    let before = unmarked_before old.raised.items unknown u l (sym (ap (λ x. get_or x u false) r) ∙ n) in
    (before.0, ap (λ x. get_or x u neg_inf) b ∙ get_or-set_other old.bounds unknown u bound neg_inf before.1)
