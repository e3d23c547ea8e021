-- What the value of a transformer says.
use Rattle.std.specs.Prelude.{◌++◌}
use Rattle.base_numbers.specs.Extended.{Ext, neg_inf, fin, pos_inf}
use Rattle.flow_systems.specs.declared.trace.Trace.{Trace}
use Rattle.theory_validity.specs.Words.{Word}
use Rattle.solve_composition.specs.declared.value.Value.{Value}
use Rattle.solve_composition.specs.declared.value.Value.TheVariants.{Unreached, Empty, Best, Unbounded}

-- the extended number of a value
abbrev pub number_of : Value → Ext
number_of (Unreached r) = neg_inf
number_of (Empty rows guards) = neg_inf
number_of (Best value trace rows guards) = fin value
number_of (Unbounded trace direction) = pos_inf

-- the word of a trace
abbrev pub word_of : Trace → Word
word_of trace = trace.start ++ trace.free
