-- Where the loop over the tokens of an expression ends.
use Rattle.std.proofs.Common.{◌≡◌, ◌∙◌, ◌<◌, ◌≤◌, ℕ, List, length, map, drop, get_or, sym, ap, subst, Bool, true, false}
use Rattle.std.proofs.Math.ListN.{drop_of_length-le}
use Rattle.std.proofs.lemmas.List.{at_drop_more}
use Rattle.lang_grammar.specs.Machine.{Goal}
use Rattle.lang_grammar.specs.Verdicts.{verdict}
use Rattle.lang_grammar.specs.Expressions.{reaches, runs_out, stops_at, nests_at}
use Rattle.lang_grammar.specs.Reaches.{ends_before, longer_by, reach}
use Rattle.lang_grammar.specs.View.{plain_kind, plain_token}
use Rattle.lang_grammar.specs.Goals.{stack_of, Advances}
use Rattle.lang_grammar.specs.declared.goal.Goal as code_goal
use Rattle.lang_grammar.specs.declared.machine.Outcome as code_outcome
use Rattle.lang_grammar.proofs.phrase.Reached.{reaches_by, out_by, stops_by, nests_by, reach_ends, reach_stops, reach_nests}
use Rattle.lang_tokens.specs.declared.token.Token.{Token}

-- the token at n, with the stack and whether the expression ends before the token
module _ (ts : List Token) (n : ℕ) (d : Token) (within : n < length ts) (stack shown : List code_goal.Goal) (same : shown ≡ stack)
    (b : Bool)
    (says : b ≡ ends_before (stack_of shown) (plain_kind (get_or ts n d).kind)) where
  said : ends_before (stack_of stack) (plain_kind (get_or ts n d).kind) ≡ b
  said = ap (λ x. ends_before (stack_of x) (plain_kind (get_or ts n d).kind)) (sym same) ∙ sym says

  -- where the expression ends before the token, it reaches that far
  pub turn_ends : b ≡ true → longer_by n (reach (stack_of stack) (map plain_token (drop n ts))) ≡ reaches n
  turn_ends h = at_drop_more (λ x. longer_by n (reach (stack_of stack) (map plain_token x))) ts n d within
      ∙ ap (longer_by n) (reach_ends (stack_of stack) _ _ _ (said ∙ h)) ∙ reaches_by n

  module _ (h : b ≡ false) (o : code_outcome.Outcome) (now : List Goal)
      (advances : Advances o (verdict (stack_of stack) (plain_kind (get_or ts n d).kind)) now) where
    -- where the machine refuses the token, the reading stops at its place
    pub turn_stops : o ≡ code_outcome.TheVariants.Refused → longer_by n (reach (stack_of stack) (map plain_token (drop n ts)))
        ≡ stops_at (get_or ts n d).at
    turn_stops i = at_drop_more (λ x. longer_by n (reach (stack_of stack) (map plain_token x))) ts n d within
        ∙ ap (longer_by n) (reach_stops (stack_of stack) _ _ _ (said ∙ h)
        (subst (λ x. Advances x (verdict (stack_of stack) (plain_kind (get_or ts n d).kind)) now) i advances))
        ∙ stops_by n _

    -- where the token opens one construct too many, the reading nests too deep at its place
    pub turn_nests : o ≡ code_outcome.TheVariants.TooDeep → longer_by n (reach (stack_of stack) (map plain_token (drop n ts)))
        ≡ nests_at (get_or ts n d).at
    turn_nests i = at_drop_more (λ x. longer_by n (reach (stack_of stack) (map plain_token x))) ts n d within
        ∙ ap (longer_by n) (reach_nests (stack_of stack) _ _ _ (said ∙ h)
        (subst (λ x. Advances x (verdict (stack_of stack) (plain_kind (get_or ts n d).kind)) now) i advances))
        ∙ nests_by n _

-- where no token is left, they end too early
pub turn_out : (ts : List Token) (n : ℕ) (gs : List Goal) → length ts ≤ n → longer_by n (reach gs (map plain_token (drop n ts))) ≡ runs_out
turn_out ts n gs h = ap (λ x. longer_by n (reach gs (map plain_token x))) (drop_of_length-le ts h) ∙ out_by n
