-- What statements without statements in them begin with.
use Rattle.std.proofs.Common.{◌≡◌, List, refl}
use Rattle.source_grammar.specs.Tokens as g
use Rattle.source_grammar.specs.Tokens.{Token}
use Rattle.source_grammar.specs.Grammar.{Core, empty, block, if_alone, if_else, repeat, repeat_after, repeat_for, jumps, returns, demands}
use Rattle.source_grammar.specs.Grammar.{calls, updates, update, place, step_before}
use Rattle.source_reader.specs.Reading.{first_kind}
use Rattle.source_statement.specs.Onto.{onto_core}
use Rattle.source_statement.specs.Parts.{IsSimple}
use Rattle.source_statement.specs.Starts.{Begins, start_in, start_of, a_semicolon, a_jump, a_return, a_demand, a_name, a_step, another}
use Rattle.source_statement.specs.declared.starts.Start.{Start}
use Rattle.source_statement.specs.declared.starts.Start.TheVariants as start
use Rattle.source_grammar.specs.declared.symbol.Jump as code_jump
use Rattle.source_grammar.specs.declared.symbol.Demand as code_demand

-- with what a statement begins
abbrev pub begins : Core → Begins
begins (empty a) = a_semicolon
begins (jumps j a b) = a_jump j
begins (returns a t b) = a_return
begins (demands k a b e c d) = a_demand k
begins (calls x a b es c d) = a_name
begins (updates (update (place x a i) f) c) = a_name
begins (updates (step_before d a p) c) = a_step
begins _ = another

-- its first token does
pub core_begins : (c : Core) (w : List Token) → IsSimple c → start_in (first_kind (onto_core c w)) ≡ begins c
core_begins (empty a) w s = refl
core_begins (jumps j a b) w s = refl
core_begins (returns a t b) w s = refl
core_begins (demands k a b e c d) w s = refl
core_begins (calls x a b es c d) w s = refl
core_begins (updates (update (place x a i) f) c) w s = refl
core_begins (updates (step_before d a p) c) w s = refl
core_begins (block a is b) w s = absurd s
core_begins (if_alone a b e c t) w s = absurd s
core_begins (if_else a b e c t d u) w s = absurd s
core_begins (repeat a b e c t) w s = absurd s
core_begins (repeat_after a t b c e d i) w s = absurd s
core_begins (repeat_for a b f c t d us i u) w s = absurd s

-- what the code says is that
pub says_return : (s : Start) → start_of s ≡ a_return → s ≡ start.Return
says_return start.Return h = refl
says_return _ h = absurd cc

-- a name
pub says_name : (s : Start) → start_of s ≡ a_name → s ≡ start.Name
says_name start.Name h = refl
says_name _ h = absurd cc

-- a jump
pub says_jump : (s : Start) (j : g.Jump) → start_of s ≡ a_jump j → (i : code_jump.Jump) × (s ≡ start.Jump i)
says_jump (start.Jump i) j h = (i, refl)
says_jump _ j h = absurd cc

-- an assumption or an assertion
pub says_demand : (s : Start) (k : g.Demand) → start_of s ≡ a_demand k → (i : code_demand.Demand) × (s ≡ start.Demand i)
says_demand (start.Demand i) k h = (i, refl)
says_demand _ k h = absurd cc
