-- The operations of the code.
use Rattle.source_tree.specs.Expressions as tree
use Rattle.source_value.specs.declared.operation.Operation.{Operation}
use Rattle.source_value.specs.declared.operation.Operation.TheVariants.{Plus, Minus, Times, Over, Remainder}

-- the operation of a tree that one of the code is
abbrev pub operation_of : Operation → tree.Operation
operation_of Plus = tree.plus
operation_of Minus = tree.minus
operation_of Times = tree.times
operation_of Over = tree.over
operation_of Remainder = tree.remainder
