-- The limits of a statement, which are told behind the other faults of its expressions, in this order: hidden variables, leaves,
-- statements.
use Rattle.std.specs.Prelude.{ℕ, ◌+◌, Bool, true, ◌&&◌, List, nat_le, Result}
use Rattle.std.specs.List.{list_all}
use Rattle.lang_tree.specs.declared.limits.TheConstants.{MOST_HIDDEN}
use Rattle.lang_tree.specs.Tree.{Condition, leaf_count, Deed, sets, havocs, wheres, checks}
use Rattle.source_meaning.specs.declared.fault.FunctionFault.{FunctionFault}
use Rattle.source_meaning.specs.declared.fault.FunctionFault.TheVariants as fault
use Rattle.source_meaning.specs.declared.fault.Limit.TheVariants as limit
use Rattle.source_meaning.specs.Results.{◌>>=◌, provided}
use Rattle.source_meaning.specs.Names.{State}

-- a condition has at most 64 leaves
abbrev pub is_small : Condition → Bool
is_small c = nat_le (leaf_count c) 64

-- so has that of a deed
abbrev pub is_small_deed : Deed → Bool
is_small_deed (sets var f line) = true
is_small_deed (havocs var line) = true
is_small_deed (wheres c line) = is_small c
is_small_deed (checks about c line) = is_small c

-- the statement of n variables that begins at this place takes hidden variables up to this one, and its deeds and conditions have few
-- leaves
abbrev pub limited : {A : Type 0} → (n at next : ℕ) → List Deed → List Condition → A → Result A FunctionFault
limited n at next deeds conditions x =
    provided (nat_le next (n + MOST_HIDDEN)) (fault.Limit at limit.Hidden) x
    >>= λ x. provided (list_all is_small_deed deeds && list_all is_small conditions) (fault.Limit at limit.Leaves) x

-- so many statements more, for the statement that begins at this place
abbrev pub counted : (at more : ℕ) → State → Result State FunctionFault
counted at more st = provided (nat_le (st.count + more) 4096) (fault.Limit at limit.Statements) (record st { count = st.count + more })
