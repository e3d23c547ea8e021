-- What is read as an expression fits its limits.
use Rattle.std.proofs.Common.{◌+◌, inl, inr, ℕ, List, length, drop, Ok, sym, subst}
use Rattle.lang_grammar.specs.Grammar.{Token, Expr}
use Rattle.lang_tokens.specs.Lines.{line_at}
use Rattle.lang_meaning.specs.Walk.{Value, a_form, a_truth, a_nondet, few_leaves, walk_expr}
use Rattle.lang_meaning.specs.Expressions.{a_condition, knowing, meaning_of, meant, first_place}
use Rattle.lang_meaning.specs.ExpressionAnswers.{ExpressionAnswer, ExpressionMeans, MeaningFits}
use Rattle.lang_meaning.proofs.limits.Values.{OnValue, on_bind, ValueFits, TestFits, tested_fits}
use Rattle.lang_meaning.proofs.limits.Programs.{expr_fits}

meaning_fits : (n a : ℕ) (v : Value) → ValueFits n v → OnValue (MeaningFits n) (meaning_of a v)
meaning_fits n a (a_form f first) h = h
meaning_fits n a (a_truth c) h = on_bind (TestFits n) (MeaningFits n) (few_leaves a c) (λ d. Ok (a_condition d))
    (tested_fits n a (a_truth c) h) (λ d i. i)
meaning_fits n a (a_nondet b) h = tt

-- what it is and the number of a token
abbrev pub AnswerFits : ℕ → ExpressionAnswer → Type 0
AnswerFits n r = OnValue (λ p. MeaningFits n p.0) r

meant_fits : (text : List ℕ) (names : List (List ℕ)) (a : ℕ) (e : Expr) → OnValue (MeaningFits (length names)) (meant text names a e)
meant_fits text names a e =
    on_bind (ValueFits (length names)) (MeaningFits (length names)) (walk_expr (line_at text) (length names) (knowing names) e)
    (λ v. meaning_of a v)
    (expr_fits (line_at text) (length names) (knowing names) e) (λ v h. meaning_fits (length names) a v h)

-- what is meant of an expression is within the limits
pub means_fits : (text : List ℕ) (ts : List Token) (from : ℕ) (names : List (List ℕ)) (r : ExpressionAnswer)
    → ExpressionMeans text ts from names r
    → AnswerFits (length names) r
means_fits text ts from names r (inl (a, f, e)) = subst (AnswerFits (length names)) (sym e) tt
means_fits text ts from names r (inr (inl (a, f, e))) = subst (AnswerFits (length names)) (sym e) tt
means_fits text ts from names r (inr (inr (p, n, l, e))) =
    subst (AnswerFits (length names)) (sym e)
    (on_bind (MeaningFits (length names)) (λ q. MeaningFits (length names) q.0) (meant text names (first_place (drop from ts)) p)
    (λ m. Ok (m, from + n))
    (meant_fits text names (first_place (drop from ts)) p) (λ m h. h))
