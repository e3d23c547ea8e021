-- Lists of deeds and of statements of the code.
use Rattle.std.proofs.Common.{◌≡◌, ◌++◌, suc, List, [], ◌∷◌, length, refl, ap}
use Rattle.lang_tree.specs.Tree.{Deed, Statements, nil, cons, statement_by}
use Rattle.lang_tree.specs.View.{deed_of, deeds_of, statement_of, statements_of}
use Rattle.lang_tree.specs.declared.deed.Deed as code_deed
use Rattle.lang_tree.specs.declared.stmt.Stmt.{Stmt}
use Rattle.source_core.specs.Core.{followed_by, behind}

-- there are as many
pub length_deeds : (ds : List code_deed.Deed) → length (deeds_of ds) ≡ length ds
length_deeds [] = refl
length_deeds (d ∷ ds) = ap suc (length_deeds ds)

-- deeds and then others
pub deeds_append : (xs ys : List code_deed.Deed) → deeds_of (xs ++ ys) ≡ deeds_of xs ++ deeds_of ys
deeds_append [] ys = refl
deeds_append (x ∷ xs) ys = ap (λ ds. deed_of x ∷ ds) (deeds_append xs ys)

-- statements and then others
pub statements_append : (xs ys : List Stmt) → statements_of (xs ++ ys) ≡ followed_by (statements_of xs) (statements_of ys)
statements_append [] ys = refl
statements_append (x ∷ xs) ys = ap (cons (statement_of x)) (statements_append xs ys)

-- statements behind two lists of them
pub followed_assoc : (a b c : Statements) → followed_by (followed_by a b) c ≡ followed_by a (followed_by b c)
followed_assoc nil b c = refl
followed_assoc (cons s a) b c = ap (cons s) (followed_assoc a b c)

-- and behind none
pub followed_nil : (a : Statements) → followed_by a nil ≡ a
followed_nil nil = refl
followed_nil (cons s a) = ap (cons s) (followed_nil a)

-- deeds before others
pub behind_append : (ds es : List Deed) (rest : Statements) → behind (ds ++ es) rest ≡ behind ds (behind es rest)
behind_append [] es rest = refl
behind_append (d ∷ ds) es rest = ap (cons (statement_by d)) (behind_append ds es rest)

-- deeds before statements
pub behind_followed : (ds : List Deed) (rest : Statements) → behind ds rest ≡ followed_by (behind ds nil) rest
behind_followed [] rest = refl
behind_followed (d ∷ ds) rest = ap (cons (statement_by d)) (behind_followed ds rest)
