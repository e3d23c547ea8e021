-- What is asked of tokens is asked without their names and numbers.
use Rattle.std.proofs.Common.{◌≡◌, refl, Bool, true, false}
use Rattle.source_grammar.specs.Tokens as g
use Rattle.source_grammar.specs.Tokens.{Kind}
use Rattle.source_grammar.specs.View.{plain_kind}
use Rattle.source_change.specs.Nexts.{Following, a_comma, next_in, is_comma, step_in}
use Rattle.source_change.specs.Nexts.{begins_change}

-- what comes next
pub plain_next : (k : Kind) → next_in (plain_kind k) ≡ next_in k
plain_next (g.a_name x) = refl
plain_next (g.a_number n) = refl
plain_next _ = refl

-- a comma
abbrev pub comma_is : Following → Bool
comma_is a_comma = true
comma_is f = false

-- a comma is told by what comes next
pub comma_next : (k : Kind) → is_comma k ≡ comma_is (next_in k)
comma_next (g.a_name x) = refl
comma_next (g.step_sign d) = refl
comma_next (g.change_sign c) = refl
comma_next g.left_bracket = refl
comma_next g.comma = refl
comma_next _ = refl

-- a step
pub plain_step : (k : Kind) → step_in (plain_kind k) ≡ step_in k
plain_step (g.a_name x) = refl
plain_step (g.a_number n) = refl
plain_step _ = refl

-- a change
pub plain_begins : (k : Kind) → begins_change (plain_kind k) ≡ begins_change k
plain_begins (g.a_name x) = refl
plain_begins (g.a_number n) = refl
plain_begins _ = refl
