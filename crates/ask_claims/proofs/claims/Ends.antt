-- Where tokens go on, and what a flow's limits say.
use Rattle.std.proofs.Common.{◌≡◌, ◌∙◌, ◌+◌, ◌++◌, ◌<◌, ◌≤◌, ℕ, List, [], ◌∷◌, length, get_or, Bool, true, false, nat_lt, nat_le, IsTrue}
use Rattle.std.proofs.Common.{refl, sym, ap, arith}
use Rattle.std.proofs.Math.Seq.{get_or-append_seam}
use Rattle.std.proofs.lemmas.Bool.{leb-true}
use Rattle.std.proofs.lemmas.List.{length-append}
use Rattle.flow_edges.specs.FlowLimits.{is_flow}
use Rattle.flow_edges.specs.declared.edge.Edge.{Edge}
use Rattle.flow_edges.specs.declared.limits.TheConstants.{MOST_POINTS}
use Rattle.flow_edges.specs.declared.point.Point.{Point}
use Rattle.lang_tokens.specs.Reading.{end_at}
use Rattle.lang_tokens.specs.TokenLists.{AreTokensOf}
use Rattle.lang_tokens.specs.declared.token.Kind as lex_kind
use Rattle.lang_tokens.specs.declared.token.Token.{Token}
use Rattle.flow_systems.proofs.Sizes.{both as and_split}
use Rattle.lang_tree.specs.Limits.{is_condition, is_tested}
use Rattle.lang_tree.specs.Tree.{Condition, leaf_count}
use Rattle.lang_tree.specs.declared.limits.TheConstants.{MOST_VARIABLES}
use Rattle.ask_claims.specs.Steps.{is_end, is_colon, is_semicolon, token_at, IsEnded}

-- the tokens of a text are some tokens and the end behind them
pub ended : (text : List ℕ) (tokens : List Token) → AreTokensOf text tokens → IsEnded tokens
ended text tokens h = (h.front, length text, h.ended)

-- tokens with the end behind them are at least one
pub some_token : (tokens : List Token) → IsEnded tokens → 0 < length tokens
some_token tokens (front, a, e) = let size = ap length (sym e) ∙ length-append front (end_at a ∷ []) in omega (arith, size)

-- behind a token that is not the end there is one more
pub goes_on : (tokens : List Token) (i : ℕ) → IsEnded tokens → i < length tokens → is_end (token_at tokens i).kind ≡ false
    → i + 1 < length tokens
goes_on tokens i (front, a, e) h k = on (nat_lt i (length front)) refl where
  size : length tokens ≡ length front + 1
  size = ap length (sym e) ∙ length-append front (end_at a ∷ [])

  on : (b : Bool) → nat_lt i (length front) ≡ b → i + 1 < length tokens
  on true m = omega (arith, size, Rattle.std.proofs.lemmas.Bool.ltb-true i (length front) m)
  on false m =
      let n = Rattle.std.proofs.lemmas.Bool.ltb-false i (length front) m in
      let same : i ≡ length front = omega (arith, size, n, h) in
      let there : get_or tokens i (end_at 0) ≡ end_at a = ap (λ x. get_or x i (end_at 0)) (sym e)
      ∙ ap (λ j. get_or (front ++ end_at a ∷ []) j (end_at 0)) same
      ∙ get_or-append_seam front (end_at a) [] (end_at 0) in
      let last : is_end (token_at tokens i).kind ≡ true = ap (λ (t : Token). is_end t.kind) there in absurd (cc)

-- a `:` is not the end of the text
pub colon_goes_on : (k : lex_kind.Kind) → IsTrue (is_colon k) → is_end k ≡ false
colon_goes_on lex_kind.TheVariants.End h = cc
colon_goes_on _ h = refl

-- a `;` is not the end of the text
pub semicolon_goes_on : (k : lex_kind.Kind) → IsTrue (is_semicolon k) → is_end k ≡ false
semicolon_goes_on lex_kind.TheVariants.End h = cc
semicolon_goes_on _ h = refl

-- ---- limits
pub few_points : (names : List (List ℕ)) (points : List Point) (edges : List Edge) → IsTrue (is_flow names points edges)
    → length points ≤ MOST_POINTS
few_points names points edges h = leb-true (length points) MOST_POINTS (and_split _ _ (and_split _ _ (and_split _ _ h).1).0).1

-- a flow within the limits has at most as many variables as there may be
pub few_names : (names : List (List ℕ)) (points : List Point) (edges : List Edge) → IsTrue (is_flow names points edges)
    → length names ≤ MOST_VARIABLES
few_names names points edges h = leb-true (length names) MOST_VARIABLES (and_split _ _ (and_split _ _ h).0).1

-- a condition that can be tested is over its variables
pub is_over : (n : ℕ) (c : Condition) → IsTrue (is_tested n c) → IsTrue (is_condition n c)
is_over n c h = (and_split (nat_le (leaf_count c) 64) (is_condition n c) h).1
