-- What is promised of loops and branches, from what was read at each step.
use Rattle.std.proofs.Common.{◌≡◌, ◌∙◌, ◌+◌, ◌++◌, ◌∷◌, [], ℕ, Bool, true, List, Result, Ok, Err, length, ap, subst}
use Rattle.std.specs.Result.{IsErrAnd}
use Rattle.lang_tokens.specs.Lines.{line_at}
use Rattle.lang_tree.specs.Tree as tree
use Rattle.lang_tree.specs.View as view
use Rattle.lang_tree.specs.View.{deeds_of, statement_of}
use Rattle.lang_tree.specs.declared.stmt.Stmt.{Stmt}
use Rattle.source_grammar.specs.Tokens.{Token, token, left_paren, right_paren, while_word, if_word}
use Rattle.source_grammar.specs.Grammar.{Core, GoodCore, ending_core}
use Rattle.source_grammar.specs.Grammar.{Expr, Groups, spell_expr, Sub, GoodSub, repeat}
use Rattle.source_grammar.proofs.grammar.Follow.{AfterCore}
use Rattle.source_tree.specs.Expressions.{Expression}
use Rattle.source_tree.specs.Statements.{Statements, branch}
use Rattle.source_core.specs.Core.{condition_of, core_in}
use Rattle.source_meaning.specs.declared.fault.FunctionFault.{FunctionFault}
use Rattle.source_meaning.specs.Names.{State}
use Rattle.source_meaning.specs.Limits.{counted}
use Rattle.source_meaning.specs.Statements.{read_condition, read_core}
use Rattle.source_meaning.specs.Statements.{one}
use Rattle.source_names.specs.Gives.{Gives}
use Rattle.source_reader.specs.Answers.{Answers}
use Rattle.source_reader.specs.Reading.{Reading, at_tokens, first_kind, first_place, passed}
use Rattle.source_reader.specs.declared.stop.Stop.{Stop}
use Rattle.source_reader.specs.declared.stop.Stop.TheVariants.{Fault}
use Rattle.source_change.specs.Tests.{IsTest, WasRead}
use Rattle.source_change.specs.Pushed.{WasPushed}
use Rattle.source_change.specs.declared.conditions.Test.{Test}
use Rattle.source_statement.specs.Onto.{onto_core, onto_sub}
use Rattle.source_statement.specs.Parts.{Other, onto_other, GoodOther, AfterOther, read_branch}
use Rattle.source_statement.proofs.steps.Moved.{BodyReads, OtherReads, TestReads, test_read}
use Rattle.source_statement.proofs.steps.Loops.{Tested}
use Rattle.source_statement.proofs.steps.Loops.{while_fault, while_read, first_fault, second_fault, branch_read}
use Rattle.source_statement.proofs.steps.Moved.{passed_is}
use Rattle.source_statement.proofs.steps.Faults.{while_test_fault, while_count_fault, if_test_fault, if_count_fault}
use Rattle.base_integers.specs.declared.integers.Integers.{Integers}

module _ (old here test : Reading) (k : State) (at : ℕ) (m : at ≡ first_place old.ahead) (p : here ≡ passed old) where
  -- what was read
  abbrev Was : (new : Reading) → List Token → State → (before after : List Stmt) → Unit {0} → State × Statements → Type 0
  Was new rest met o v u q = WasRead old.integers old.variables rest old new met o v q

  -- that it is this statement
  abbrev Is : (new : Reading) → List Token → State → (before after : List Stmt) → Result (Unit {0}) Stop → Bool → Core → Type 0
  Is new rest met o v r inside c = Answers (Was new rest met o v) r (read_core old.integers (line_at old.text) old.variables inside k c)

  -- what is promised of a `while`
  abbrev pub WhileReads : (new : Reading) (met : State) (before after : List Stmt) → Result (Unit {0}) Stop → Type 0
  WhileReads new met o v r = (inside : Bool) (a b : ℕ) (e : Expr) (c : ℕ) (s : Sub) (rest : List Token)
      → GoodCore (repeat a b e c s) → old.ahead ≡ onto_core (repeat a b e c s) rest
      → AfterCore (ending_core (repeat a b e c s)) (first_kind rest) → Is new rest met o v r inside (repeat a b e c s)

  -- its reader is behind the word
  behind_while : (a b : ℕ) (e : Expr) (c : ℕ) (s : Sub) (rest : List Token) → old.ahead ≡ onto_core (repeat a b e c s) rest
      → here ≡ at_tokens old (token left_paren b ∷ (spell_expr e ++ token right_paren c ∷ onto_sub s rest))
  behind_while a b e c s rest q =
      passed_is old here while_word a (token left_paren b ∷ (spell_expr e ++ token right_paren c ∷ onto_sub s rest)) q p

  -- its condition has a fault
  pub while_test : (o : List Stmt) (r : Result (Unit {0}) Stop) (d : Stop) → TestReads here test k at (Err d) → IsErrAnd r (λ t. t ≡ d)
      → WhileReads test k o o r
  while_test o r d x h inside a b e c s rest g q f =
      subst (λ a. Is test rest k o o r inside (repeat a b e c s)) (m ∙ ap first_place q)
      (while_test_fault (Was test rest k o o) old test k inside at b e c s rest r d
      (test_read old here test k at (Err d) b e c (onto_sub s rest) g.0 (behind_while a b e c s rest q) x) h)

  -- so many deeds were counted with one more
  abbrev pub Counts : (now : State) (size : ℕ) → Result (Unit {0}) FunctionFault → Type 0
  Counts now size r = Gives {A = Unit {0}} (λ _. now) r (counted at (size + 1) k)

  -- it makes too many statements
  pub while_count : (now : State) (t : Test) (size : ℕ) (o : List Stmt) (r : Result (Unit {0}) Stop) (d : FunctionFault)
      → TestReads here test k at (Ok t) → size ≡ length t.prelude.items → Counts now size (Err d) → IsErrAnd r (λ t. t ≡ Fault d)
      → WhileReads test now o o r
  while_count now t size o r d x l y h inside a b e c s rest g q f =
      subst (λ a. Is test rest now o o r inside (repeat a b e c s)) (m ∙ ap first_place q)
      (while_count_fault (Was test rest now o o) old test k now inside at b e c s rest t r d
      (test_read old here test k at (Ok t) b e c (onto_sub s rest) g.0 (behind_while a b e c s rest q) x)
      (subst (λ n. Counts now n (Err d)) l y) h)

  -- its body has a fault
  pub while_body : (new : Reading) (now met : State) (t : Test) (size : ℕ) (o : List Stmt) (r : Result (Unit {0}) Stop) (d : Stop)
      → TestReads here test k at (Ok t) → size ≡ length t.prelude.items → Counts now size (Ok tt)
      → BodyReads test new now met true (Err d) → IsErrAnd r (λ t. t ≡ d) → WhileReads new met o o r
  while_body new now met t size o r d x l y z h inside a b e c s rest g q f =
      subst (λ a. Is new rest met o o r inside (repeat a b e c s)) (m ∙ ap first_place q)
      (while_fault (Was new rest met o o) old test new k now met inside at b e c s rest t r d g.1 f
      (test_read old here test k at (Ok t) b e c (onto_sub s rest) g.0 (behind_while a b e c s rest q) x)
      (subst (λ n. Counts now n (Ok tt)) l y) z h)

  -- it is read
  pub while_all : (new : Reading) (now met : State) (t : Test) (size : ℕ) (u : tree.Statements) (o v : List Stmt) (st : Stmt) (line : ℕ)
      (deeds : tree.LoopKind) → TestReads here test k at (Ok t) → size ≡ length t.prelude.items → Counts now size (Ok tt)
      → BodyReads test new now met true (Ok u) → v ≡ o ++ (st ∷ [])
      → statement_of st ≡ tree.loop deeds (view.condition_of t.cond) u line → deeds ≡ tree.while_loop (deeds_of t.prelude.items)
      → line ≡ line_at new.text at → WhileReads new met o v (Ok tt)
  while_all new now met t size u o v st line deeds x l y z push made ds j inside a b e c s rest g q f =
      subst (λ a. Is new rest met o v (Ok tt) inside (repeat a b e c s)) (m ∙ ap first_place q)
      (while_read old test new k now met inside at b e c s rest t u o v st line deeds g.1 f
      (test_read old here test k at (Ok t) b e c (onto_sub s rest) g.0 (behind_while a b e c s rest q) x)
      (subst (λ n. Counts now n (Ok tt)) l y) z push made ds j)

  -- that it is this branch
  abbrev IsBranch : (new : Reading) → List Token → State → (before after : List Stmt) → Result (Unit {0}) Stop → Bool → ℕ → Expr → Sub
      → Other → Type 0
  IsBranch new rest met o v r inside a e s w =
      Answers (Was new rest met o v) r (read_branch old.integers (line_at old.text) old.variables inside k a e s w)

  -- what is promised of an `if`
  abbrev pub BranchReads : (new : Reading) (met : State) (inside : Bool) (before after : List Stmt) → Result (Unit {0}) Stop → Type 0
  BranchReads new met inside o v r = (a b : ℕ) (e : Expr) (c : ℕ) (s : Sub) (w : Other) (rest : List Token) → Groups 0 e → GoodSub s
      → GoodOther s w
      → old.ahead ≡ token if_word a ∷ token left_paren b ∷ (spell_expr e ++ token right_paren c ∷ onto_sub s (onto_other w rest))
      → AfterOther w (first_kind rest) → IsBranch new rest met o v r inside a e s w

  -- its test is read behind the word
  test_behind : (r : Result Test Stop) (a b : ℕ) (e : Expr) (c : ℕ) (ts : List Token) → Groups 0 e
      → old.ahead ≡ token if_word a ∷ token left_paren b ∷ (spell_expr e ++ token right_paren c ∷ ts) → TestReads here test k at r
      → Answers (Tested old test at ts) r (read_condition old.integers (line_at old.text) old.variables k at e)
  test_behind r a b e c ts g q x = test_read old here test k at r b e c ts g
      (passed_is old here if_word a (token left_paren b ∷ (spell_expr e ++ token right_paren c ∷ ts)) q p) x

  -- its condition has a fault
  pub if_test : (inside : Bool) (o : List Stmt) (r : Result (Unit {0}) Stop) (d : Stop) → TestReads here test k at (Err d)
      → IsErrAnd r (λ t. t ≡ d) → BranchReads test k inside o o r
  if_test inside o r d x h a b e c s w rest ge g i q f =
      subst (λ a. IsBranch test rest k o o r inside a e s w) (m ∙ ap first_place q)
      (if_test_fault (Was test rest k o o) old test k inside at e s w (onto_sub s (onto_other w rest)) r d
      (test_behind (Err d) a b e c (onto_sub s (onto_other w rest)) ge q x) h)

  -- it makes too many statements
  pub if_count : (now : State) (inside : Bool) (t : Test) (size : ℕ) (o : List Stmt) (r : Result (Unit {0}) Stop) (d : FunctionFault)
      → TestReads here test k at (Ok t) → size ≡ length t.prelude.items → Counts now size (Err d) → IsErrAnd r (λ t. t ≡ Fault d)
      → BranchReads test now inside o o r
  if_count now inside t size o r d x l y h a b e c s w rest ge g i q f =
      subst (λ a. IsBranch test rest now o o r inside a e s w) (m ∙ ap first_place q)
      (if_count_fault (Was test rest now o o) old test k now inside at e s w (onto_sub s (onto_other w rest)) t r d
      (test_behind (Ok t) a b e c (onto_sub s (onto_other w rest)) ge q x) (subst (λ n. Counts now n (Err d)) l y) h)

  -- its first branch has a fault
  pub if_first : (new : Reading) (now met : State) (inside : Bool) (t : Test) (size : ℕ) (o : List Stmt) (r : Result (Unit {0}) Stop)
      (d : Stop) → TestReads here test k at (Ok t) → size ≡ length t.prelude.items → Counts now size (Ok tt)
      → BodyReads test new now met inside (Err d) → IsErrAnd r (λ t. t ≡ d) → BranchReads new met inside o o r
  if_first new now met inside t size o r d x l y z h a b e c s w rest ge g i q f =
      subst (λ a. IsBranch new rest met o o r inside a e s w) (m ∙ ap first_place q)
      (first_fault (Was new rest met o o) old test new k now met inside at e s w rest t r d g i f
      (test_behind (Ok t) a b e c (onto_sub s (onto_other w rest)) ge q x) (subst (λ n. Counts now n (Ok tt)) l y) z h)

  -- what stands behind its `else` has one
  pub if_second : (mid new : Reading) (now met last : State) (inside : Bool) (t : Test) (size : ℕ) (u : tree.Statements) (o : List Stmt)
      (r : Result (Unit {0}) Stop) (d : Stop) → TestReads here test k at (Ok t) → size ≡ length t.prelude.items → Counts now size (Ok tt)
      → BodyReads test mid now met inside (Ok u) → OtherReads mid new met last inside (Err d) → IsErrAnd r (λ t. t ≡ d)
      → BranchReads new last inside o o r
  if_second mid new now met last inside t size u o r d x l y z z' h a b e c s w rest ge g i q f =
      subst (λ a. IsBranch new rest last o o r inside a e s w) (m ∙ ap first_place q)
      (second_fault (Was new rest last o o) old test mid new k now met last inside at e s w rest t u r d g i f
      (test_behind (Ok t) a b e c (onto_sub s (onto_other w rest)) ge q x) (subst (λ n. Counts now n (Ok tt)) l y) z z' h)

  -- it is read
  pub if_all : (mid new : Reading) (now met last : State) (inside : Bool) (t : Test) (size : ℕ) (u u' : tree.Statements) (o v : List Stmt)
      (line : ℕ) → TestReads here test k at (Ok t) → size ≡ length t.prelude.items → Counts now size (Ok tt)
      → BodyReads test mid now met inside (Ok u) → OtherReads mid new met last inside (Ok u')
      → ((integers : Integers) (n : ℕ) (e : Expression) (yes no : Statements) → IsTest t (condition_of integers n line e)
      → u ≡ core_in integers n yes → u' ≡ core_in integers n no
      → WasPushed integers n o v (one (branch e yes no line)))
      → line ≡ line_at new.text at → BranchReads new last inside o v (Ok tt)
  if_all mid new now met last inside t size u u' o v line x l y z z' push j a b e c s w rest ge g i q f =
      subst (λ a. IsBranch new rest last o v (Ok tt) inside a e s w) (m ∙ ap first_place q)
      (branch_read old test mid new k now met last inside at e s w rest t u u' o v line g i f
      (test_behind (Ok t) a b e c (onto_sub s (onto_other w rest)) ge q x) (subst (λ n. Counts now n (Ok tt)) l y) z z' push j)
