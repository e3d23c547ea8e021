-- What holds where the limits of a statement are kept.
use Rattle.std.proofs.Common.{◌≤◌, ◌+◌, ℕ, IsTrue, List}
use Rattle.std.specs.Prelude.{◌&&◌, nat_le}
use Rattle.std.specs.List.{list_all}
use Rattle.std.proofs.lemmas.Bool.{leb-true, and_parts}
use Rattle.lang_tree.specs.declared.limits.TheConstants.{MOST_HIDDEN}
use Rattle.lang_tree.specs.Tree.{Condition, Deed}
use Rattle.source_meaning.specs.declared.fault.FunctionFault.TheVariants as fault
use Rattle.source_meaning.specs.declared.fault.Limit.TheVariants as limit
use Rattle.source_meaning.specs.Results.{provided}
use Rattle.source_meaning.specs.Limits.{is_small, is_small_deed, limited}
use Rattle.source_meaning.proofs.results.Values.{OnValue, on_bind, on_provided}

-- a value has what follows of it from the limits: of hidden variables, and of leaves in deeds and conditions
pub limited_has : {A : Type 0} (P : A → Type 0) (n at next : ℕ) (deeds : List Deed) (conditions : List Condition) (x : A)
    → (next ≤ n + MOST_HIDDEN → IsTrue (list_all is_small_deed deeds) → IsTrue (list_all is_small conditions) → P x)
    → OnValue P (limited n at next deeds conditions x)
limited_has P n at next deeds conditions x f =
    on_bind (λ y. IsTrue (list_all is_small_deed deeds && list_all is_small conditions) → P y) P
    (provided (nat_le next (n + MOST_HIDDEN)) (fault.Limit at limit.Hidden) x) _
    (on_provided (λ y. IsTrue (list_all is_small_deed deeds && list_all is_small conditions) → P y) (nat_le next (n + MOST_HIDDEN))
    (fault.Limit at limit.Hidden) x
    (λ t u. let p = and_parts (list_all is_small_deed deeds) (list_all is_small conditions) u in
    f (leb-true next (n + MOST_HIDDEN) t) p.0 p.1))
    (λ y g. on_provided P (list_all is_small_deed deeds && list_all is_small conditions) (fault.Limit at limit.Leaves) y g)
