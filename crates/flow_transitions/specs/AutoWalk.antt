-- How the groups of a transition system are found, token by token.
use Rattle.std.specs.Prelude.{ℕ, true, false, List, [], ◌∷◌, Option, Some, None, if◌then◌else◌}
use Rattle.lang_grammar.specs.Grammar.{Op, or_op, and_op, compare_op, plus_op, minus_op, times_op}
use Rattle.lang_grammar.specs.Grammar.{Kind, a_name, infix_sign, left_paren, right_paren, left_brace, semicolon, change_sign, replaces}
use Rattle.lang_grammar.specs.Grammar.{Token, token}
use Rattle.lang_meaning.specs.Names.{place_of}
use Rattle.lang_groups.specs.declared.mark.Mark.TheVariants as mark
use Rattle.lang_groups.specs.Machine.{at_rest, taken, ended, ended_together}
use Rattle.flow_transitions.specs.declared.grouping.Walk.{Walk}
use Rattle.flow_transitions.specs.declared.grouping.turn.Turn.{Turn}
use Rattle.flow_transitions.specs.declared.grouping.turn.Turn.TheVariants.{Takes, Assigns, Ends, Passes}

-- what a name is, by its number among the variables
abbrev pub named : Option ℕ → Turn
named (Some x) = Takes (mark.Variable x)
named None = Passes

-- what the sign between two sides is
abbrev pub op_turn : Op → Turn
op_turn or_op = Takes mark.Parts
op_turn and_op = Takes mark.Parts
op_turn (compare_op r) = Takes mark.Compares
op_turn plus_op = Passes
op_turn minus_op = Passes
op_turn times_op = Passes

-- what a token is to the groups over these variables
abbrev pub turn_of : List (List ℕ) → Kind → Turn
turn_of names (a_name x) = named (place_of x names)
turn_of names (infix_sign o) = op_turn o
turn_of names left_paren = Takes mark.Opens
turn_of names right_paren = Takes mark.Closes
turn_of names (change_sign replaces) = Assigns
turn_of names semicolon = Ends
turn_of names left_brace = Ends
turn_of names _ = Passes

-- nothing has begun
abbrev pub at_start : List (List ℕ) → Walk
at_start gs = record { collector = at_rest gs; assigned = false }

-- what has been met behind a token
abbrev pub turned : Turn → Walk → Walk
turned (Takes m) w = record w { collector = taken m w.collector }
turned Assigns w = record { collector = taken mark.Parts w.collector; assigned = true }
turned Ends w = record { collector = if w.assigned then ended_together w.collector else ended w.collector; assigned = false }
turned Passes w = w

-- what has been met behind tokens
abbrev pub walked : List (List ℕ) → List Token → Walk → Walk
walked names [] w = w
walked names (token k a ∷ ts) w = walked names ts (turned (turn_of names k) w)
