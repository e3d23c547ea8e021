-- The trees of conditions, variant by variant.
use Rattle.std.proofs.Common.{◌≡◌, ◌∙◌, sym, ap}
use Rattle.lang_tree.specs.declared.cond.Cond.TheOpen as open_cond
use Rattle.lang_tree.specs.declared.cond.Cond.TheFolds.{fold-roll-Cond}
use Rattle.lang_tree.specs.declared.cond.Cond.TheVariants.{Both, Either, rolls-Both, rolls-Either}
use Rattle.lang_tree.specs.Tree.{Condition, both, either}
use Rattle.lang_tree.specs.View.{condition_of, condition_step}

-- a `&&` of the code stands for both of its two conditions
pub condition-Both : (x y : _) → condition_of (Both x y) ≡ both (condition_of x.value) (condition_of y.value)
condition-Both x y = ap condition_of (sym (rolls-Both x y)) ∙ fold-roll-Cond Condition condition_step (open_cond.Both x y)

-- a `||` of the code stands for either of its two conditions
pub condition-Either : (x y : _) → condition_of (Either x y) ≡ either (condition_of x.value) (condition_of y.value)
condition-Either x y = ap condition_of (sym (rolls-Either x y)) ∙ fold-roll-Cond Condition condition_step (open_cond.Either x y)
