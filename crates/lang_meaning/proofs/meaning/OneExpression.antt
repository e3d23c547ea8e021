-- The tokens of an expression mean one thing.
use Rattle.std.proofs.Common.{◌≡◌, ◌∙◌, ◌+◌, inl, inr, ℕ, List, drop, Ok, Err, sym, ap, ap₂}
use Rattle.lang_grammar.specs.Grammar.{Token, Expr}
use Rattle.lang_grammar.specs.Expressions.{IsLongest, FindsExpr, reaches, stops_at, nests_at}
use Rattle.lang_grammar.proofs.phrase.Once.{found_is, longest_size, longest_once}
use Rattle.lang_meaning.specs.declared.fault.ParseFault.TheVariants as fault
use Rattle.lang_meaning.specs.declared.fault.Limit.TheVariants.{Nesting}
use Rattle.lang_meaning.specs.Results.{◌>>=◌}
use Rattle.lang_meaning.specs.Expressions.{first_place, meant}
use Rattle.lang_meaning.specs.ExpressionAnswers.{ExpressionAnswer, ExpressionMeans}

two_stops : (a b : ℕ) (ts : List Token) → FindsExpr (stops_at a) ts → FindsExpr (stops_at b) ts → a ≡ b
two_stops a b ts f g = let h = sym (found_is (stops_at a) ts (λ e. cc) f) ∙ found_is (stops_at b) ts (λ e. cc) g in cc

two_nests : (a b : ℕ) (ts : List Token) → FindsExpr (nests_at a) ts → FindsExpr (nests_at b) ts → a ≡ b
two_nests a b ts f g = let h = sym (found_is (nests_at a) ts (λ e. cc) f) ∙ found_is (nests_at b) ts (λ e. cc) g in cc

not_both : (a b : ℕ) (ts : List Token) → FindsExpr (stops_at a) ts → FindsExpr (nests_at b) ts → ⊥
not_both a b ts f g = let h = sym (found_is (stops_at a) ts (λ e. cc) f) ∙ found_is (nests_at b) ts (λ e. cc) g in cc

not_read : (a n : ℕ) (ts : List Token) (e : Expr) → FindsExpr (stops_at a) ts → IsLongest ts n e → ⊥
not_read a n ts e f l = let h = sym (found_is (stops_at a) ts (λ e. cc) f) ∙ found_is (reaches n) ts (λ e. cc) (e, l) in cc

not_nested : (a n : ℕ) (ts : List Token) (e : Expr) → FindsExpr (nests_at a) ts → IsLongest ts n e → ⊥
not_nested a n ts e f l = let h = sym (found_is (nests_at a) ts (λ e. cc) f) ∙ found_is (reaches n) ts (λ e. cc) (e, l) in cc

-- At most one answer is meant.
pub expression_once : (text : List ℕ) (ts : List Token) (from : ℕ) (names : List (List ℕ)) (r s : ExpressionAnswer)
    → ExpressionMeans text ts from names r
    → ExpressionMeans text ts from names s → r ≡ s
expression_once text ts from names r s (inl (a, f, e)) (inl (b, g, h)) =
    e ∙ ap (λ x. Err (fault.Unexpected x)) (two_stops a b (drop from ts) f g) ∙ sym h
expression_once text ts from names r s (inl (a, f, e)) (inr (inl (b, g, h))) = absurd (not_both a b (drop from ts) f g)
expression_once text ts from names r s (inl (a, f, e)) (inr (inr (p, n, l, i))) = absurd (not_read a n (drop from ts) p f l)
expression_once text ts from names r s (inr (inl (a, f, e))) (inl (b, g, h)) = absurd (not_both b a (drop from ts) g f)
expression_once text ts from names r s (inr (inl (a, f, e))) (inr (inl (b, g, h))) =
    e ∙ ap (λ x. Err (fault.Limit x Nesting)) (two_nests a b (drop from ts) f g) ∙ sym h
expression_once text ts from names r s (inr (inl (a, f, e))) (inr (inr (p, n, l, i))) = absurd (not_nested a n (drop from ts) p f l)
expression_once text ts from names r s (inr (inr (p, n, l, e))) (inl (b, g, h)) = absurd (not_read b n (drop from ts) p g l)
expression_once text ts from names r s (inr (inr (p, n, l, e))) (inr (inl (b, g, h))) = absurd (not_nested b n (drop from ts) p g l)
expression_once text ts from names r s (inr (inr (p, n, l, e))) (inr (inr (q, m, k, h))) =
    e ∙ ap₂ (λ x i. meant text names (first_place (drop from ts)) x >>= λ v. Ok (v, from + i)) (longest_once (drop from ts) n m p q l k)
    (longest_size (drop from ts) n m p q l k) ∙ sym h
