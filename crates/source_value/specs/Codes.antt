-- A code of conditions, by which a proof tells them apart. It is no part of their meaning.
use Rattle.std.specs.Prelude.{◌≡◌, List, [], ◌∷◌}
use Rattle.std.proofs.Common.{ap}
use base.Stored.{Coded}
use Rattle.lang_tree.specs.Tree.{Condition, free, Deed, wheres}
use Rattle.lang_tree.specs.Codes.{deeds_code, deeds_inj}

-- a condition as a deed
abbrev pub deed_with : Condition → List Deed
deed_with c = wheres c 0 ∷ []

condition_in : List Deed → Condition
condition_in (wheres c line ∷ ds) = c
condition_in ds = free

same_condition : (c d : Condition) → deed_with c ≡ deed_with d → c ≡ d
unfolding condition_in
same_condition c d e = ap condition_in e

-- two conditions with one code are the same
pub condition_inj : (c d : Condition) → deeds_code (deed_with c) ≡ deeds_code (deed_with d) → c ≡ d
condition_inj c d e = same_condition c d (deeds_inj (deed_with c) (deed_with d) e)

-- conditions are told apart by their codes
abbrev pub coded_condition : Coded Condition
coded_condition = record { code = λ c. deeds_code (deed_with c); inj = condition_inj }
