-- Loops, branches and blocks that were read, from their parts.
use Rattle.std.proofs.Common.{◌≡◌, ◌∙◌, ◌+◌, ◌++◌, ◌∷◌, [], ℕ, Bool, true, List, Result, Ok, Err, length, refl, sym, ap, subst}
use Rattle.std.specs.Result.{IsErrAnd}
use Rattle.lang_tokens.specs.Lines.{line_at}
use Rattle.lang_tree.specs.Tree as tree
use Rattle.lang_tree.specs.View as view
use Rattle.lang_tree.specs.View.{deeds_of, statement_of}
use Rattle.lang_tree.specs.declared.stmt.Stmt.{Stmt}
use Rattle.source_grammar.specs.Tokens.{Token, token, right_brace}
use Rattle.source_grammar.specs.Grammar.{Expr, Sub, GoodSub, ending_sub, Items, GoodItems, block, repeat}
use Rattle.source_grammar.proofs.grammar.Follow.{AfterCore}
use Rattle.source_tree.specs.Expressions.{Expression}
use Rattle.source_tree.specs.Statements.{Statements, loop, branch}
use Rattle.source_tree.specs.Statements as made
use Rattle.source_core.specs.Core.{condition_of, core_in}
use Rattle.source_meaning.specs.Results.{◌>>=◌}
use Rattle.source_meaning.specs.Names.{State, closed}
use Rattle.source_meaning.specs.Limits.{counted}
use Rattle.source_meaning.specs.Statements.{read_condition, read_sub, read_core, read_items}
use Rattle.source_meaning.specs.Statements.{one}
use Rattle.source_names.specs.Gives.{Gives}
use Rattle.source_reader.specs.Answers.{Answers}
use Rattle.source_reader.specs.Reading.{Reading, at_tokens, first_kind, passed}
use Rattle.source_reader.specs.declared.stop.Stop.{Stop}
use Rattle.source_change.specs.Tests.{IsTest, WasRead}
use Rattle.source_change.specs.Pushed.{WasPushed}
use Rattle.source_change.specs.declared.conditions.Test.{Test}
use Rattle.source_change.proofs.results.Answered.{err_then, ok_then}
use Rattle.source_statement.specs.Headed.{WasBlock}
use Rattle.source_statement.specs.Onto.{onto_sub, onto_items}
use Rattle.source_statement.specs.Parts.{Other, no_other, other, onto_other, GoodOther, AfterOther, read_branch, read_other}
use Rattle.source_statement.proofs.steps.Moved.{BodyReads, body_read, OtherReads, other_read, ItemsRead, items_read}
use Rattle.source_statement.proofs.steps.Moved.{may_end, passed_then}
use Rattle.source_statement.proofs.steps.Tested.{counted_then, loop_made}
use Rattle.base_integers.specs.declared.integers.Integers.{Integers}

-- a test was read up to these tokens
abbrev pub Tested : (old new : Reading) (at : ℕ) → List Token → Test → Expression → Type 0
Tested old new at ts t x = IsTest t (condition_of old.integers old.variables (line_at old.text at) x) × (new ≡ at_tokens old ts)

-- a block was read
abbrev pub Blocks : (old new : Reading) → List Token → State → tree.Statements → State × Statements → Type 0
Blocks old new rest met b q = WasBlock old.integers old.variables rest old new met b q

-- ---- `while`
-- the fault of its body
pub while_fault : {C : Type 0} (Was : C → State × Statements → Type 0) (old test new : Reading) (k now met : State) (inside : Bool) (a
    b : ℕ)
    (e : Expr) (c : ℕ) (s : Sub) (rest : List Token) (t : Test) (r : Result C Stop) (d : Stop)
    → GoodSub s → AfterCore (ending_sub s) (first_kind rest)
    → Answers (Tested old test a (onto_sub s rest)) (Ok t) (read_condition old.integers (line_at old.text) old.variables k a e)
    → Gives {A = Unit {0}} (λ _. now) (Ok tt) (counted a (length t.prelude.items + 1) k)
    → BodyReads test new now met true (Err d) → IsErrAnd r (λ t. t ≡ d)
    → Answers Was r (read_core old.integers (line_at old.text) old.variables inside k (repeat a b e c s))
while_fault Was old test new k now met inside a b e c s rest t r d g f x y z h =
    let integers : Integers = old.integers in
    let line : ℕ → ℕ = line_at old.text in
    let n : ℕ = old.variables in
    counted_then integers line n Was (test ≡ at_tokens old (onto_sub s rest)) a (λ m. m + 1) k now e t r
    (λ x now. read_sub integers line n true now s >>= λ r. Ok (r.0, one (loop made.while_loop x r.1 (line a)))) x y
    (λ x i p. err_then (Blocks old new rest met) Was r d (read_sub integers line n true now s)
    (λ r. Ok (r.0, one (loop made.while_loop x r.1 (line a)))) h (body_read old test new now met true (Err d) s rest g p f z))

-- all of it
pub while_read : (old test new : Reading) (k now met : State) (inside : Bool) (a b : ℕ) (e : Expr) (c : ℕ) (s : Sub) (rest : List Token)
    (t : Test) (u : tree.Statements) (o p : List Stmt) (st : Stmt) (l : ℕ) (deeds : tree.LoopKind)
    → GoodSub s → AfterCore (ending_sub s) (first_kind rest)
    → Answers (Tested old test a (onto_sub s rest)) (Ok t) (read_condition old.integers (line_at old.text) old.variables k a e)
    → Gives {A = Unit {0}} (λ _. now) (Ok tt) (counted a (length t.prelude.items + 1) k)
    → BodyReads test new now met true (Ok u) → p ≡ o ++ (st ∷ [])
    → statement_of st ≡ tree.loop deeds (view.condition_of t.cond) u l → deeds ≡ tree.while_loop (deeds_of t.prelude.items)
    → l ≡ line_at new.text a
    → Answers {A = Unit {0}} (λ _ r. WasRead old.integers old.variables rest old new met o p r) (Ok tt)
    (read_core old.integers (line_at old.text) old.variables inside k (repeat a b e c s))
while_read old test new k now met inside a b e c s rest t u o p st l deeds g f x y z v m d j =
    let integers : Integers = old.integers in
    let line : ℕ → ℕ = line_at old.text in
    let n : ℕ = old.variables in
    counted_then integers line n {C = Unit {0}} (λ _ r. WasRead integers n rest old new met o p r) (test ≡ at_tokens old
    (onto_sub s rest)) a
    (λ m. m + 1) k now e t (Ok tt)
    (λ x now. read_sub integers line n true now s >>= λ r. Ok (r.0, one (loop made.while_loop x r.1 (line a)))) x y
    (λ x i p'. ok_then {C = Unit {0}} (Blocks old new rest met) (λ _ r. WasRead integers n rest old new met o p r) u (Ok tt)
    (read_sub integers line n true now s) (λ r. Ok (r.0, one (loop made.while_loop x r.1 (line a))))
    (body_read old test new now met true (Ok u) s rest g p' f z)
    (λ q w. (
      (q.0, one (loop made.while_loop x q.1 (line a))),
      refl,
      record {
        known = w.known;
        out = loop_made integers n (line a) l made.while_loop deeds x t u q.1 st o p v m (d ∙ ap tree.while_loop i.prelude) i w.block
            (j ∙ ap (λ (r : Reading). line_at r.text a) w.reader);
        reader = w.reader;
      },
    )))

-- ---- `if`
-- what may follow its first statement
pub other_follows : (s : Sub) (o : Other) (rest : List Token) → GoodOther s o → AfterOther o (first_kind rest)
    → AfterCore (ending_sub s) (first_kind (onto_other o rest))
other_follows s no_other rest g f = may_end (ending_sub s) (first_kind rest) f
other_follows s (other d t) rest g f = subst (λ e. AfterCore e (first_kind (onto_other (other d t) rest))) (sym g.0) tt

-- the fault of its first statement
pub first_fault : {C : Type 0} (Was : C → State × Statements → Type 0) (old test new : Reading) (k now met : State) (inside : Bool) (a : ℕ)
    (e : Expr) (s : Sub) (o : Other) (rest : List Token) (t : Test) (r : Result C Stop) (d : Stop)
    → GoodSub s → GoodOther s o → AfterOther o (first_kind rest)
    → Answers (Tested old test a (onto_sub s (onto_other o rest))) (Ok t) (read_condition old.integers
    (line_at old.text) old.variables k a e)
    → Gives {A = Unit {0}} (λ _. now) (Ok tt) (counted a (length t.prelude.items + 1) k)
    → BodyReads test new now met inside (Err d) → IsErrAnd r (λ t. t ≡ d)
    → Answers Was r (read_branch old.integers (line_at old.text) old.variables inside k a e s o)
first_fault Was old test new k now met inside a e s o rest t r d g i f x y z h =
    let integers : Integers = old.integers in
    let line : ℕ → ℕ = line_at old.text in
    let n : ℕ = old.variables in
    let ts : List Token = onto_other o rest in
    counted_then integers line n Was (test ≡ at_tokens old (onto_sub s ts)) a (λ m. m + 1) k now e t r
    (λ x now. read_sub integers line n inside now s >>= λ r. read_other integers line n inside r.0 o >>= λ q. Ok (
      q.0,
      one
          (branch x r.1 q.1 (line a)),
    )) x y
    (λ x j p. err_then (Blocks old new ts met) Was r d (read_sub integers line n inside now s)
    (λ r. read_other integers line n inside r.0 o >>= λ q. Ok (q.0, one (branch x r.1 q.1 (line a)))) h
    (body_read old test new now met inside (Err d) s ts g p (other_follows s o rest i f) z))

-- the fault of its second
pub second_fault : {C : Type 0} (Was : C → State × Statements → Type 0) (old test mid new : Reading) (k now met last : State)
    (inside : Bool) (a : ℕ) (e : Expr) (s : Sub) (o : Other) (rest : List Token) (t : Test) (u : tree.Statements) (r : Result C Stop)
    (d : Stop) → GoodSub s → GoodOther s o → AfterOther o (first_kind rest)
    → Answers (Tested old test a (onto_sub s (onto_other o rest))) (Ok t) (read_condition old.integers
    (line_at old.text) old.variables k a e)
    → Gives {A = Unit {0}} (λ _. now) (Ok tt) (counted a (length t.prelude.items + 1) k)
    → BodyReads test mid now met inside (Ok u) → OtherReads mid new met last inside (Err d) → IsErrAnd r (λ t. t ≡ d)
    → Answers Was r (read_branch old.integers (line_at old.text) old.variables inside k a e s o)
second_fault Was old test mid new k now met last inside a e s o rest t u r d g i f x y z z' h =
    let integers : Integers = old.integers in
    let line : ℕ → ℕ = line_at old.text in
    let n : ℕ = old.variables in
    let ts : List Token = onto_other o rest in
    counted_then integers line n Was (test ≡ at_tokens old (onto_sub s ts)) a (λ m. m + 1) k now e t r
    (λ x now. read_sub integers line n inside now s >>= λ r. read_other integers line n inside r.0 o >>= λ q. Ok (
      q.0,
      one
          (branch x r.1 q.1 (line a)),
    )) x y
    (λ x j p. ok_then (Blocks old mid ts met) Was u r (read_sub integers line n inside now s)
    (λ r. read_other integers line n inside r.0 o >>= λ q. Ok (q.0, one (branch x r.1 q.1 (line a))))
    (body_read old test mid now met inside (Ok u) s ts g p (other_follows s o rest i f) z)
    (λ q w. let P : State → Type 0 = λ m. Answers (Blocks old new rest last) (Err d) (read_other integers line n inside m o) in
    err_then (Blocks old new rest last) Was r d (read_other integers line n inside q.0 o) (λ v. Ok (v.0, one (branch x q.1 v.1 (line a)))) h
    (subst P w.known (other_read old mid new met last inside (Err d) s o rest i w.reader f z'))))

-- all of it
pub branch_read : (old test mid new : Reading) (k now met last : State) (inside : Bool) (a : ℕ) (e : Expr) (s : Sub) (o : Other)
    (rest : List Token) (t : Test) (u v : tree.Statements) (before after : List Stmt) (l : ℕ)
    → GoodSub s → GoodOther s o → AfterOther o (first_kind rest)
    → Answers (Tested old test a (onto_sub s (onto_other o rest))) (Ok t) (read_condition old.integers
    (line_at old.text) old.variables k a e)
    → Gives {A = Unit {0}} (λ _. now) (Ok tt) (counted a (length t.prelude.items + 1) k)
    → BodyReads test mid now met inside (Ok u) → OtherReads mid new met last inside (Ok v)
    → ((integers : Integers) (n : ℕ) (e : Expression) (yes no : Statements) → IsTest t (condition_of integers n l e)
    → u ≡ core_in integers n yes → v ≡ core_in integers n no
    → WasPushed integers n before after (one (branch e yes no l)))
    → l ≡ line_at new.text a
    → Answers {A = Unit {0}} (λ _ r. WasRead old.integers old.variables rest old new last before after r) (Ok tt)
    (read_branch old.integers (line_at old.text) old.variables inside k a e s o)
branch_read old test mid new k now met last inside a e s o rest t u v before after l g i f x y z z' push j =
    let integers : Integers = old.integers in
    let line : ℕ → ℕ = line_at old.text in
    let n : ℕ = old.variables in
    let ts : List Token = onto_other o rest in
    counted_then integers line n {C = Unit {0}} (λ _ r. WasRead integers n rest old new last before after r) (test ≡ at_tokens old
    (onto_sub s ts)) a
    (λ m. m + 1) k now e t (Ok tt)
    (λ x now. read_sub integers line n inside now s >>= λ r. read_other integers line n inside r.0 o >>= λ q. Ok (
      q.0,
      one
          (branch x r.1 q.1 (line a)),
    )) x y
    (λ x i' p. ok_then {C = Unit {0}} (Blocks old mid ts met) (λ _ r. WasRead integers n rest old new last before after r) u (Ok tt)
    (read_sub integers line n inside now s)
    (λ r. read_other integers line n inside r.0 o >>= λ q. Ok (q.0, one (branch x r.1 q.1 (line a))))
    (body_read old test mid now met inside (Ok u) s ts g p (other_follows s o rest i f) z)
    (λ q w. let P : State → Type 0 = λ m. Answers (Blocks old new rest last) (Ok v) (read_other integers line n inside m o) in
    ok_then {C = Unit {0}} (Blocks old new rest last) (λ _ r. WasRead integers n rest old new last before after r) v (Ok tt)
    (read_other integers line n inside q.0 o) (λ v. Ok (v.0, one (branch x q.1 v.1 (line a))))
    (subst P w.known (other_read old mid new met last inside (Ok v) s o rest i w.reader f z'))
    (λ q' w'. let m : l ≡ line a = j ∙ ap (λ (r : Reading). line_at r.text a) w'.reader in
    let Q : ℕ → Type 0 = λ l. IsTest t (condition_of integers n l x) in (
      (q'.0, one (branch x q.1 q'.1 (line a))),
      refl,
      record {
        known = w'.known;
        out = subst (λ l. WasPushed integers n before after (one (branch x q.1 q'.1 l))) m
            (push integers n x q.1 q'.1 (subst Q (sym m) i') w.block w'.block);
        reader = w'.reader;
      },
    ))))

-- ---- a block
-- the fault of its statements
pub block_fault : {C : Type 0} (Was : C → State × Statements → Type 0) (old here new : Reading) (k met : State) (inside : Bool) (a : ℕ)
    (is : Items) (b : ℕ) (rest : List Token) (o p : List Stmt) (r : Result C Stop) (d : Stop) → GoodItems is
    → here ≡ at_tokens old (onto_items is (token right_brace b ∷ rest)) → ItemsRead here new k met inside o p (Err d)
    → IsErrAnd r (λ t. t ≡ d) → Answers Was r (read_core old.integers (line_at old.text) old.variables inside k (block a is b))
block_fault Was old here new k met inside a is b rest o p r d g e z h =
    err_then {A = Unit {0}} (λ _ q. WasRead old.integers old.variables (token right_brace b ∷ rest) old new met o p q) Was r d
    (read_items old.integers (line_at old.text) old.variables inside k is) (λ r. Ok (closed (length k.names) r.0, r.1)) h
    (items_read old here new k met inside o p (Err d) is b rest g e z)

-- all of it
pub block_read : (old here mid new : Reading) (k met last : State) (inside : Bool) (a : ℕ) (is : Items) (b : ℕ) (rest : List Token)
    (o p : List Stmt) (before : ℕ) → GoodItems is
    → here ≡ at_tokens old (onto_items is (token right_brace b ∷ rest)) → ItemsRead here mid k met inside o p (Ok tt)
    → new ≡ passed mid → before ≡ length k.names → last ≡ closed before met
    → Answers {A = Unit {0}} (λ _ r. WasRead old.integers old.variables rest old new last o p r) (Ok tt)
    (read_core old.integers (line_at old.text) old.variables inside k (block a is b))
block_read old here mid new k met last inside a is b rest o p before g e z m l s =
    ok_then {A = Unit {0}} {C = Unit {0}} (λ _ q. WasRead old.integers old.variables (token right_brace b ∷ rest) old mid met o p q)
    (λ _ r. WasRead old.integers old.variables rest old new last o p r) tt (Ok tt)
    (read_items old.integers (line_at old.text) old.variables inside k is) (λ r. Ok (closed (length k.names) r.0, r.1))
    (items_read old here mid k met inside o p (Ok tt) is b rest g e z)
    (λ q w. (
      (closed (length k.names) q.0, q.1),
      refl,
      record {
        known = s ∙ ap (λ b. closed b met) l ∙ ap (closed (length k.names)) w.known;
        out = w.out;
        reader = passed_then old mid new right_brace b rest w.reader m;
      },
    ))
