-- Statements of the core behind others.
use Rattle.std.proofs.Common.{◌≡◌, ◌∙◌, ◌++◌, ◌∷◌, [], ℕ, List, refl, sym, ap}
use Rattle.lang_tree.specs.Tree as tree
use Rattle.lang_tree.specs.View.{statement_of, statements_of}
use Rattle.lang_tree.specs.declared.stmt.Stmt.{Stmt}
use Rattle.source_tree.specs.Statements.{Change, Statement, Statements, changes, nil}
use Rattle.source_core.specs.Core as core
use Rattle.source_core.specs.Core.{behind, change_deeds, changes_deeds, core_in, core_of}
use Rattle.source_meaning.specs.Statements.{as_statements, followed_by, one}
use Rattle.source_change.specs.Pushed.{WasPushed}
use Rattle.source_change.proofs.lists.Deeds.{statements_append, followed_assoc, followed_nil, behind_append, behind_followed}
use Rattle.source_change.proofs.lists.Statements.{core_followed}
use Rattle.base_integers.specs.declared.integers.Integers.{Integers}

-- a statement of the code is one of the core
pub one_pushed : (integers : Integers) (n : ℕ) (before after : List Stmt) (x : Stmt) (s : Statement) → after ≡ before ++ (x ∷ [])
    → core.one (statement_of x) ≡ core_of integers n s → WasPushed integers n before after (one s)
one_pushed integers n before after x s e h = ap statements_of e ∙ statements_append before (x ∷ [])
    ∙ ap (core.followed_by (statements_of before)) (h ∙ sym (followed_nil (core_of integers n s)))

-- statements and then others
pub then_pushed : (integers : Integers) (n : ℕ) (a b d : List Stmt) (s t : Statements) → WasPushed integers n a b s
    → WasPushed integers n b d t
    → WasPushed integers n a d (followed_by s t)
then_pushed integers n a b d s t p q = q ∙ ap (λ u. core.followed_by u (core_in integers n t)) p
    ∙ followed_assoc (statements_of a) (core_in integers n s) (core_in integers n t)
    ∙ sym (ap (core.followed_by (statements_of a)) (core_followed integers n s t))

-- none
pub none_pushed : (integers : Integers) (n : ℕ) (a : List Stmt) → WasPushed integers n a a nil
none_pushed integers n a = sym (followed_nil (statements_of a))

-- the deeds of a change
pub change_pushed : (integers : Integers) (n : ℕ) (a b : List Stmt) (ds : List tree.Deed) (g : Change)
    → statements_of b ≡ core.followed_by (statements_of a) (behind ds tree.nil) → ds ≡ change_deeds integers n g
    → WasPushed integers n a b (one (changes g))
change_pushed integers n a b ds g e h = e ∙ ap (λ ds. core.followed_by (statements_of a) (behind ds tree.nil)) h
    ∙ ap (core.followed_by (statements_of a)) (sym (followed_nil (behind (change_deeds integers n g) tree.nil)))

-- changes as statements are their deeds
as_deeds : (integers : Integers) (n : ℕ) (gs : List Change) → core_in integers n (as_statements gs) ≡ behind
    (changes_deeds integers n gs) tree.nil
as_deeds integers n [] = refl
as_deeds integers n (g ∷ gs) = ap (core.followed_by (behind (change_deeds integers n g) tree.nil)) (as_deeds integers n gs)
    ∙ sym (behind_followed (change_deeds integers n g) (behind (changes_deeds integers n gs) tree.nil))
    ∙ sym (behind_append (change_deeds integers n g) (changes_deeds integers n gs) tree.nil)

-- the deeds of changes in order
pub changes_pushed : (integers : Integers) (n : ℕ) (a b : List Stmt) (ds : List tree.Deed) (gs : List Change)
    → statements_of b ≡ core.followed_by (statements_of a) (behind ds tree.nil) → ds ≡ changes_deeds integers n gs
    → WasPushed integers n a b (as_statements gs)
changes_pushed integers n a b ds gs e h = e ∙ ap (λ ds. core.followed_by (statements_of a) (behind ds tree.nil)) h
    ∙ ap (core.followed_by (statements_of a)) (sym (as_deeds integers n gs))
