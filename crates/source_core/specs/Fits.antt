-- Whether all numbers of what an expression is in the core are in their ranges.
use Rattle.std.specs.Prelude.{◌+◌, Bool, true, ◌&&◌, List, nat_abs, nat_le}
use Rattle.std.specs.List.{list_all}
use Rattle.lang_tree.specs.declared.form.Form.{Form}
use Rattle.lang_tree.specs.Tree.{Condition, free, compare, negation, both, either, Deed, sets, havocs, wheres, checks}
use Rattle.lang_tree.specs.Limits.{has_numbers}
use Rattle.source_core.specs.Elaborated.{Result, a_form, a_truth, any, Elaborated, Numbered, Tested, Evaluated}

-- a form that may be compared with 0: its numbers are within 2^63 - 1, and its constant is within 2^63 - 2
abbrev pub is_comparable : Form → Bool
is_comparable f = has_numbers f && nat_le (nat_abs f.constant + 1) 9223372036854775807

-- each form that is compared may be
abbrev pub condition_fits : Condition → Bool
condition_fits free = true
condition_fits (compare rel f) = is_comparable f
condition_fits (negation c) = condition_fits c
condition_fits (both c d) = condition_fits c && condition_fits d
condition_fits (either c d) = condition_fits c && condition_fits d

-- the form or the condition of a deed is in range
abbrev pub deed_fits : Deed → Bool
deed_fits (sets var f line) = has_numbers f
deed_fits (havocs var line) = true
deed_fits (wheres c line) = condition_fits c
deed_fits (checks about c line) = condition_fits c

-- those of all deeds are
abbrev pub deeds_fit : List Deed → Bool
deeds_fit ds = list_all deed_fits ds

-- the form or the condition of a result is in range
abbrev pub result_fits : Result → Bool
result_fits (a_form f) = has_numbers f
result_fits (a_truth c) = condition_fits c
result_fits any = true

-- the prelude and the result of an expression are in range
abbrev pub fits : Elaborated → Bool
fits e = deeds_fit e.prelude && result_fits e.result

-- likewise of a number, a condition, and a prelude alone
abbrev pub numbered_fits : Numbered → Bool
numbered_fits a = deeds_fit a.prelude && has_numbers a.form

abbrev pub tested_fits : Tested → Bool
tested_fits a = deeds_fit a.prelude && condition_fits a.condition

abbrev pub evaluated_fits : Evaluated → Bool
evaluated_fits a = deeds_fit a.prelude
