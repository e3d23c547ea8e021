-- Tokens have one longest expression.
use Rattle.std.proofs.Common.{◌≡◌, ◌∙◌, ◌++◌, ℕ, suc, List, [], ◌∷◌, length, refl, sym, ap, arith}
use Rattle.lang_grammar.specs.Grammar.{semicolon, Token, token, Expr}
use Rattle.lang_grammar.specs.Expressions.{ReadsExpr, IsLongest, Reach, reaches, runs_out, FindsExpr}
use Rattle.lang_grammar.specs.Reaches.{expression_start, reach}
use Rattle.lang_grammar.proofs.grammar.Unique.{weight, unique, unique_expr}
use Rattle.lang_grammar.proofs.phrase.Exact.{exact_by}

-- what is found is what the machine says
pub found_is : (x : Reach) (ts : List Token) → (x ≡ runs_out → ⊥) → FindsExpr x ts → reach expression_start ts ≡ x
found_is x ts n f = exact_by (reach expression_start ts) x ts refl n f

-- tokens read as one expression at most
pub reads_once : (front : List Token) (e f : Expr) → ReadsExpr front e → ReadsExpr front f → e ≡ f
reads_once front e f r s =
    (unique_expr (suc (weight e)) (unique (suc (weight e))) e f (token semicolon 0) (token semicolon 0) [] [] (omega arith) r.good s.good tt
    tt
    (ap (λ x. x ++ token semicolon 0 ∷ []) (r.spelled ∙ sym s.spelled))).0

same_front : (xs ys u v : List Token) → length xs ≡ length ys → xs ++ u ≡ ys ++ v → xs ≡ ys
same_front [] [] u v h e = refl
same_front [] (y ∷ ys) u v h e = cc
same_front (x ∷ xs) [] u v h e = cc
same_front (x ∷ xs) (y ∷ ys) u v h e = let i = same_front xs ys u v (cc) (cc) in let j : x ≡ y = cc in cc

-- the longest expression has one size
pub longest_size : (ts : List Token) (n m : ℕ) (e f : Expr) → IsLongest ts n e → IsLongest ts m f → n ≡ m
longest_size ts n m e f l k = let h = sym (found_is (reaches n) ts (λ i. cc) (e, l)) ∙ found_is (reaches m) ts (λ i. cc) (f, k) in cc

-- there is one longest expression
pub longest_once : (ts : List Token) (n m : ℕ) (e f : Expr) → IsLongest ts n e → IsLongest ts m f → e ≡ f
longest_once ts n m e f l k =
    let i = same_front l.front k.front (l.next ∷ l.rest) (k.next ∷ k.rest) (l.size ∙ longest_size ts n m e f l k ∙ sym k.size)
    (sym l.split ∙ k.split) in
    reads_once l.front e f l.reads (record { spelled = k.reads.spelled ∙ sym i; good = k.reads.good })
