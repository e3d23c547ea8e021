-- The sizes of arrays, as extents of their indexes.
use Rattle.std.specs.Prelude.{ℕ, ℤ, pos, negsuc, ◌&&◌, List, [], ◌∷◌, nat_le, Option, Some, None, Result, Ok, Err}
use Rattle.source_grammar.specs.Grammar.{Size, number_size, name_size, Sizes, last_size, next_size, Bounds, sized_bounds, open_bound}
use Rattle.source_grammar.specs.Grammar.{open_bounds}
use Rattle.source_tree.specs.Expressions.{Extent, endless, elements}
use Rattle.source_meaning.specs.declared.fault.FunctionFault.{FunctionFault}
use Rattle.source_meaning.specs.declared.fault.FunctionFault.TheVariants.{UnknownName, WrongKind, Array}
use Rattle.source_meaning.specs.Results.{◌>>=◌, provided}
use Rattle.source_meaning.specs.Names.{Thing, variable, array, constant, State, thing_of}

-- an array has 1 to 2^31 - 1 elements
abbrev pub sized_by : (at : ℕ) → ℤ → Result Extent FunctionFault
sized_by at (pos n) = provided (nat_le 1 n && nat_le n 2147483647) (Array at) (elements n)
sized_by at (negsuc n) = Err (Array at)

-- as many as a constant says
abbrev pub sized_by_name : (at : ℕ) → Option Thing → Result Extent FunctionFault
sized_by_name at None = Err (UnknownName at)
sized_by_name at (Some (variable i)) = Err (WrongKind at)
sized_by_name at (Some (array extents)) = Err (WrongKind at)
sized_by_name at (Some (constant v)) = sized_by at v

-- a size
abbrev pub read_size : State → Size → Result Extent FunctionFault
read_size st (number_size n at) = sized_by at (pos n)
read_size st (name_size x at) = sized_by_name at (thing_of x st)

-- the sizes of an array, from the left
abbrev pub read_sizes : State → Sizes → Result (List Extent) FunctionFault
read_sizes st (last_size a s b) = read_size st s >>= λ e. Ok (e ∷ [])
read_sizes st (next_size a s b ss) = read_size st s >>= λ e. read_sizes st ss >>= λ es. Ok (e ∷ es)

-- those of a parameter; where the first isn't given there is an element at each index from 0 on
abbrev pub read_bounds : State → Bounds → Result (List Extent) FunctionFault
read_bounds st (sized_bounds ss) = read_sizes st ss
read_bounds st (open_bound a b) = Ok (endless ∷ [])
read_bounds st (open_bounds a b ss) = read_sizes st ss >>= λ es. Ok (endless ∷ es)
