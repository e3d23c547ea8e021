-- The numbers that are drawn from a seed, and the loops that they make.
use Rattle.std.specs.Prelude.{ℕ, zero, suc, ◌+◌, ◌*◌, ◌/◌, ◌%◌, List, [], ◌∷◌}
use Rattle.out_workload.specs.declared.draws.Loop.{Loop}

-- a draw sets the state to this
abbrev pub next_state : ℕ → ℕ
next_state state = (1103515245 * state + 12345) % 2147483648

-- and then gives this
abbrev pub drawn : ℕ → ℕ
drawn state = state / 65536

-- the state after the three draws of a loop
abbrev pub after_loop : ℕ → ℕ
after_loop state = next_state (next_state (next_state state))

-- a loop: the first draw chooses its variable, the second its bound, the third its step
abbrev pub loop_at : ℕ → Loop
loop_at state = record {
  variable = drawn (next_state state) % 3;
  bound = 1 + drawn (next_state (next_state state)) % 100;
  step = 1 + drawn (next_state (next_state (next_state state))) % 9;
}

-- the variable that a loop copies its own to: the next one in the circle of three
abbrev pub following : ℕ → ℕ
following variable = (variable + 1) % 3

-- a number of loops from a state
abbrev pub loops_from : ℕ → ℕ → List Loop
loops_from state zero = []
loops_from state (suc loops) = loop_at state ∷ loops_from (after_loop state) loops
