-- What is promised of a `do`, from what was read at each step.
use Rattle.std.proofs.Common.{◌≡◌, ◌∙◌, ◌++◌, ◌∷◌, [], ℕ, Bool, true, List, Result, Ok, Err, length, ap, subst}
use Rattle.std.specs.Result.{IsErrAnd}
use Rattle.lang_tokens.specs.Lines.{line_at}
use Rattle.lang_tree.specs.Tree as tree
use Rattle.lang_tree.specs.View as view
use Rattle.lang_tree.specs.View.{deeds_of, statement_of}
use Rattle.lang_tree.specs.declared.stmt.Stmt.{Stmt}
use Rattle.source_grammar.specs.Tokens.{Token, semicolon, do_word}
use Rattle.source_grammar.specs.Grammar.{Core, GoodCore}
use Rattle.source_grammar.specs.Grammar.{Expr, Sub, repeat_after}
use Rattle.source_meaning.specs.declared.fault.FunctionFault.{FunctionFault}
use Rattle.source_meaning.specs.Names.{State}
use Rattle.source_meaning.specs.Limits.{counted}
use Rattle.source_meaning.specs.Statements.{read_core}
use Rattle.source_names.specs.Gives.{Gives}
use Rattle.source_reader.specs.Answers.{Answers}
use Rattle.source_reader.specs.Reading.{Reading, at_tokens, first_kind, first_place, passed}
use Rattle.source_reader.specs.declared.stop.Stop.{Stop}
use Rattle.source_reader.specs.declared.stop.Stop.TheVariants.{Fault}
use Rattle.source_change.specs.Tests.{WasRead}
use Rattle.source_change.specs.declared.conditions.Test.{Test}
use Rattle.source_statement.specs.Onto.{onto_core, onto_sub}
use Rattle.source_statement.proofs.steps.Moved.{BodyReads, TestReads}
use Rattle.source_statement.proofs.steps.Moved.{passed_is}
use Rattle.source_statement.proofs.steps.Repeats.{do_rest, do_body_fault, do_read}
use Rattle.source_statement.proofs.steps.Faults.{do_test_fault}
use Rattle.source_statement.proofs.steps.Faults.{do_end_fault, do_count_fault}

module _ (old here mid : Reading) (k now met : State) (at : ℕ) (m : at ≡ first_place old.ahead) (p : here ≡ passed old)
    (y : Gives {A = Unit {0}} (λ _. now) (Ok tt) (counted at 1 k)) where
  -- that it is this statement
  abbrev Is : (new : Reading) → List Token → State → (before after : List Stmt) → Result (Unit {0}) Stop → Bool → Core → Type 0
  Is new rest met o v r inside c =
      Answers (λ _ q. WasRead old.integers old.variables rest old new met o v q) r (read_core old.integers
      (line_at old.text) old.variables inside k c)

  -- what is promised of a `do`
  abbrev pub DoReads : (new : Reading) (met : State) (before after : List Stmt) → Result (Unit {0}) Stop → Type 0
  DoReads new met o v r = (inside : Bool) (a : ℕ) (s : Sub) (b c : ℕ) (e : Expr) (d i : ℕ) (rest : List Token)
      → GoodCore (repeat_after a s b c e d i) → old.ahead ≡ onto_core (repeat_after a s b c e d i) rest
      → Is new rest met o v r inside (repeat_after a s b c e d i)

  -- its reader is behind the word
  behind_do : (a : ℕ) (s : Sub) (b c : ℕ) (e : Expr) (d i : ℕ) (rest : List Token)
      → old.ahead ≡ onto_core (repeat_after a s b c e d i) rest → here ≡ at_tokens old (onto_sub s (do_rest b c e d i rest))
  behind_do a s b c e d i rest q = passed_is old here do_word a (onto_sub s (do_rest b c e d i rest)) q p

  -- its body has a fault
  pub do_body : (o : List Stmt) (r : Result (Unit {0}) Stop) (x : Stop) → BodyReads here mid now met true (Err x) → IsErrAnd r (λ t. t ≡ x)
      → DoReads mid met o o r
  do_body o r x z h inside a s b c e d i rest g q =
      subst (λ a. Is mid rest met o o r inside (repeat_after a s b c e d i)) (m ∙ ap first_place q)
      (do_body_fault (λ _ q. WasRead old.integers old.variables rest old mid met o o q) old here mid k now met inside at s b c e d i rest
      r x g.0
      (behind_do a s b c e d i rest q) y z h)

  module _ (behind test : Reading) (u : tree.Statements) (z : BodyReads here mid now met true (Ok u)) (pb : behind ≡ passed mid) where
    -- its condition has one
    pub do_test : (o : List Stmt) (r : Result (Unit {0}) Stop) (x : Stop) → TestReads behind test met at (Err x) → IsErrAnd r (λ t. t ≡ x)
        → DoReads test met o o r
    do_test o r x w h inside a s b c e d i rest g q =
        subst (λ a. Is test rest met o o r inside (repeat_after a s b c e d i)) (m ∙ ap first_place q)
        (do_test_fault (λ _ q. WasRead old.integers old.variables rest old test met o o q) old here mid behind test k now met inside at s
        b c e d i
        rest u
        r x g.0 g.1 (behind_do a s b c e d i rest q) y z pb w h)

    -- no `;` follows, which the grammar rules out
    pub do_end : (new : Reading) (o : List Stmt) (r : Result (Unit {0}) Stop) (t : Test) → TestReads behind test met at (Ok t)
        → (first_kind test.ahead ≡ semicolon → ⊥) → DoReads new met o o r
    do_end new o r t w h inside a s b c e d i rest g q =
        subst (λ a. Is new rest met o o r inside (repeat_after a s b c e d i)) (m ∙ ap first_place q)
        (do_end_fault (λ _ q. WasRead old.integers old.variables rest old new met o o q) old here mid behind test k now met inside at s b
        c e d i
        rest t u
        r g.0 g.1 (behind_do a s b c e d i rest q) y z pb w h)

    -- its prelude makes too many statements
    pub do_count : (new : Reading) (last : State) (o : List Stmt) (r : Result (Unit {0}) Stop) (x : FunctionFault) (t : Test) (size : ℕ)
        → TestReads behind test met at (Ok t) → size ≡ length t.prelude.items
        → Gives {A = Unit {0}} (λ _. last) (Err x) (counted at size met) → IsErrAnd r (λ t. t ≡ Fault x) → DoReads new last o o r
    do_count new last o r x t size w l j h inside a s b c e d i rest g q =
        subst (λ a. Is new rest last o o r inside (repeat_after a s b c e d i)) (m ∙ ap first_place q)
        (do_count_fault (λ _ q. WasRead old.integers old.variables rest old new last o o q) old here mid behind test k now met last
        inside at s b c
        e d i
        rest t u r x g.0 g.1 (behind_do a s b c e d i rest q) y z pb w
        (subst (λ n. Gives {A = Unit {0}} (λ _. last) (Err x) (counted at n met)) l j) h)

    -- it is read
    pub do_all : (new : Reading) (last : State) (o v : List Stmt) (t : Test) (size : ℕ) (st : Stmt) (line : ℕ) (deeds : tree.LoopKind)
        → TestReads behind test met at (Ok t) → new ≡ passed test → size ≡ length t.prelude.items
        → Gives {A = Unit {0}} (λ _. last) (Ok tt) (counted at size met) → v ≡ o ++ (st ∷ [])
        → statement_of st ≡ tree.loop deeds (view.condition_of t.cond) u line → deeds ≡ tree.do_loop (deeds_of t.prelude.items)
        → line ≡ line_at new.text at → DoReads new last o v (Ok tt)
    do_all new last o v t size st line deeds w pn l j push made ds n inside a s b c e d i rest g q =
        subst (λ a. Is new rest last o v (Ok tt) inside (repeat_after a s b c e d i)) (m ∙ ap first_place q)
        (do_read old here mid behind test new k now met last inside at s b c e d i rest t u o v st line deeds g.0 g.1
        (behind_do a s b c e d i rest q) y z pb w pn (subst (λ n. Gives {A = Unit {0}} (λ _. last) (Ok tt) (counted at n met)) l j)
        push made ds n)
