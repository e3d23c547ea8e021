-- What the values of the second pass stand for.
use Rattle.lang_tree.specs.View.{condition_of}
use Rattle.lang_meaning.specs.Walk.{Value, a_form, a_truth, a_nondet}
use Rattle.lang_reader.specs.declared.value.Value as code_value

abbrev pub value_of : code_value.Value → Value
value_of (code_value.TheVariants.Form f first) = a_form f first
value_of (code_value.TheVariants.Truth c) = a_truth (condition_of c)
value_of (code_value.TheVariants.Nondet at) = a_nondet at
