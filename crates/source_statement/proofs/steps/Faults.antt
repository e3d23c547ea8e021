-- Faults of tests and counts in loops and branches.
use Rattle.std.proofs.Common.{◌≡◌, ◌+◌, ◌++◌, ◌∷◌, ℕ, Bool, true, List, Result, Ok, Err, length, ap}
use Rattle.std.specs.Result.{IsErrAnd}
use Rattle.lang_tokens.specs.Lines.{line_at}
use Rattle.lang_tree.specs.Tree as tree
use Rattle.source_grammar.specs.Tokens.{Token, token, left_paren, right_paren, semicolon, while_word}
use Rattle.source_grammar.specs.Grammar.{Expr, Groups, spell_expr, Sub, GoodSub, repeat, repeat_after}
use Rattle.source_tree.specs.Statements.{Statements, loop, branch}
use Rattle.source_tree.specs.Statements as made
use Rattle.source_meaning.specs.declared.fault.FunctionFault.{FunctionFault}
use Rattle.source_meaning.specs.Results.{◌>>=◌}
use Rattle.source_meaning.specs.Names.{State}
use Rattle.source_meaning.specs.Limits.{counted}
use Rattle.source_meaning.specs.Statements.{read_condition, prelude_of, read_sub, read_core}
use Rattle.source_meaning.specs.Statements.{one}
use Rattle.source_names.specs.Gives.{Gives}
use Rattle.source_reader.specs.Answers.{Answers}
use Rattle.source_reader.specs.Reading.{Reading, at_tokens, first_kind, passed}
use Rattle.source_reader.specs.declared.stop.Stop.{Stop}
use Rattle.source_reader.specs.declared.stop.Stop.TheVariants.{Fault}
use Rattle.source_change.specs.declared.conditions.Test.{Test}
use Rattle.source_change.proofs.results.Answered.{err_then}
use Rattle.source_statement.specs.Onto.{onto_sub}
use Rattle.source_statement.specs.Parts.{Other, read_branch, read_other}
use Rattle.source_statement.proofs.steps.Moved.{BodyReads, TestReads, test_read}
use Rattle.source_statement.proofs.steps.Moved.{passed_then}
use Rattle.source_statement.proofs.steps.Tested.{counted_fault}
use Rattle.source_statement.proofs.steps.Loops.{Tested}
use Rattle.source_statement.proofs.steps.Repeats.{do_rest, do_then}
use Rattle.base_integers.specs.declared.integers.Integers.{Integers}

-- the fault of the test of a `while`
pub while_test_fault : {C : Type 0} (Was : C → State × Statements → Type 0) (old new : Reading) (k : State) (inside : Bool) (a b : ℕ)
    (e : Expr) (c : ℕ) (s : Sub) (rest : List Token) (r : Result C Stop) (d : Stop)
    → Answers (Tested old new a (onto_sub s rest)) (Err d) (read_condition old.integers (line_at old.text) old.variables k a e)
    → IsErrAnd r (λ t. t ≡ d) → Answers Was r (read_core old.integers (line_at old.text) old.variables inside k (repeat a b e c s))
while_test_fault Was old new k inside a b e c s rest r d x h =
    let integers : Integers = old.integers in
    let line : ℕ → ℕ = line_at old.text in
    let n : ℕ = old.variables in
    err_then (Tested old new a (onto_sub s rest)) Was r d (read_condition integers line n k a e)
    (λ x. counted a (prelude_of integers line n a x + 1) k >>= λ now. read_sub integers line n true now s
    >>= λ r. Ok (r.0, one (loop made.while_loop x r.1 (line a)))) h x

-- that of its count
pub while_count_fault : {C : Type 0} (Was : C → State × Statements → Type 0) (old new : Reading) (k now : State) (inside : Bool) (a b : ℕ)
    (e : Expr) (c : ℕ) (s : Sub) (rest : List Token) (t : Test) (r : Result C Stop) (d : FunctionFault)
    → Answers (Tested old new a (onto_sub s rest)) (Ok t) (read_condition old.integers (line_at old.text) old.variables k a e)
    → Gives {A = Unit {0}} (λ _. now) (Err d) (counted a (length t.prelude.items + 1) k)
    → IsErrAnd r (λ t. t ≡ Fault d) → Answers Was r (read_core old.integers (line_at old.text) old.variables inside k (repeat a b e c s))
while_count_fault Was old new k now inside a b e c s rest t r d x y h =
    let integers : Integers = old.integers in
    let line : ℕ → ℕ = line_at old.text in
    let n : ℕ = old.variables in
    counted_fault integers line n Was (new ≡ at_tokens old (onto_sub s rest)) a (λ m. m + 1) k now e t r d
    (λ x now. read_sub integers line n true now s >>= λ r. Ok (r.0, one (loop made.while_loop x r.1 (line a)))) x y h

-- the fault of the test of an `if`
pub if_test_fault : {C : Type 0} (Was : C → State × Statements → Type 0) (old new : Reading) (k : State) (inside : Bool) (a : ℕ)
    (e : Expr) (s : Sub) (o : Other) (rest : List Token) (r : Result C Stop) (d : Stop)
    → Answers (Tested old new a rest) (Err d) (read_condition old.integers (line_at old.text) old.variables k a e)
    → IsErrAnd r (λ t. t ≡ d) → Answers Was r (read_branch old.integers (line_at old.text) old.variables inside k a e s o)
if_test_fault Was old new k inside a e s o rest r d x h =
    let integers : Integers = old.integers in
    let line : ℕ → ℕ = line_at old.text in
    let n : ℕ = old.variables in
    err_then (Tested old new a rest) Was r d (read_condition integers line n k a e)
    (λ x. counted a (prelude_of integers line n a x + 1) k >>= λ now. read_sub integers line n inside now s
    >>= λ r. read_other integers line n inside r.0 o >>= λ q. Ok (q.0, one (branch x r.1 q.1 (line a)))) h x

-- that of its count
pub if_count_fault : {C : Type 0} (Was : C → State × Statements → Type 0) (old new : Reading) (k now : State) (inside : Bool) (a : ℕ)
    (e : Expr) (s : Sub) (o : Other) (rest : List Token) (t : Test) (r : Result C Stop) (d : FunctionFault)
    → Answers (Tested old new a rest) (Ok t) (read_condition old.integers (line_at old.text) old.variables k a e)
    → Gives {A = Unit {0}} (λ _. now) (Err d) (counted a (length t.prelude.items + 1) k)
    → IsErrAnd r (λ t. t ≡ Fault d) → Answers Was r (read_branch old.integers (line_at old.text) old.variables inside k a e s o)
if_count_fault Was old new k now inside a e s o rest t r d x y h =
    let integers : Integers = old.integers in
    let line : ℕ → ℕ = line_at old.text in
    let n : ℕ = old.variables in
    counted_fault integers line n Was (new ≡ at_tokens old rest) a (λ m. m + 1) k now e t r d
    (λ x now. read_sub integers line n inside now s >>= λ r. read_other integers line n inside r.0 o >>= λ q. Ok (
      q.0,
      one
          (branch x r.1 q.1 (line a)),
    ))
    x y h

-- ---- of a `do`
-- the fault of its test
pub do_test_fault : {C : Type 0} (Was : C → State × Statements → Type 0) (old here mid behind new : Reading) (k now met : State)
    (inside : Bool) (a : ℕ) (s : Sub) (b c : ℕ) (e : Expr) (d i : ℕ) (rest : List Token) (u : tree.Statements) (r : Result C Stop)
    (x : Stop)
    → GoodSub s → Groups 0 e → here ≡ at_tokens old (onto_sub s (do_rest b c e d i rest))
    → Gives {A = Unit {0}} (λ _. now) (Ok tt) (counted a 1 k) → BodyReads here mid now met true (Ok u)
    → behind ≡ passed mid → TestReads behind new met a (Err x) → IsErrAnd r (λ t. t ≡ x)
    → Answers Was r (read_core old.integers (line_at old.text) old.variables inside k (repeat_after a s b c e d i))
do_test_fault Was old here mid behind new k now met inside a s b c e d i rest u r x g ge ph y z pb zt h =
    let integers : Integers = old.integers in
    let line : ℕ → ℕ = line_at old.text in
    let n : ℕ = old.variables in
    let ts : List Token = token semicolon i ∷ rest in
    do_then Was old here mid k now met inside a s b c e d i rest u r g ph y z
    (λ body w p. let q : behind ≡ at_tokens old (token left_paren c ∷ (spell_expr e ++ token right_paren d ∷ ts)) =
    passed_then old mid behind while_word b (token left_paren c ∷ (spell_expr e ++ token right_paren d ∷ ts)) p pb in
    err_then (Tested old new a ts) Was r x (read_condition integers line n met a e)
    (λ x. counted a (prelude_of integers line n a x) met >>= λ now. Ok (now, one (loop made.do_loop x body (line a)))) h
    (test_read old behind new met a (Err x) c e d ts ge q zt))

-- a `;` comes behind it
pub do_end_fault : {C : Type 0} (Was : C → State × Statements → Type 0) (old here mid behind new : Reading) (k now met : State)
    (inside : Bool) (a : ℕ) (s : Sub) (b c : ℕ) (e : Expr) (d i : ℕ) (rest : List Token) (t : Test) (u : tree.Statements)
    (r : Result C Stop)
    → GoodSub s → Groups 0 e → here ≡ at_tokens old (onto_sub s (do_rest b c e d i rest))
    → Gives {A = Unit {0}} (λ _. now) (Ok tt) (counted a 1 k) → BodyReads here mid now met true (Ok u)
    → behind ≡ passed mid → TestReads behind new met a (Ok t) → (first_kind new.ahead ≡ semicolon → ⊥)
    → Answers Was r (read_core old.integers (line_at old.text) old.variables inside k (repeat_after a s b c e d i))
do_end_fault Was old here mid behind new k now met inside a s b c e d i rest t u r g ge ph y z pb zt h =
    let ts : List Token = token semicolon i ∷ rest in
    do_then Was old here mid k now met inside a s b c e d i rest u r g ph y z
    (λ body w p. let q : behind ≡ at_tokens old (token left_paren c ∷ (spell_expr e ++ token right_paren d ∷ ts)) =
    passed_then old mid behind while_word b (token left_paren c ∷ (spell_expr e ++ token right_paren d ∷ ts)) p pb in
    let v = test_read old behind new met a (Ok t) c e d ts ge q zt in
    absurd (h (ap (λ (r : Reading). first_kind r.ahead) v.2.1)))

-- the fault of the count of its prelude
pub do_count_fault : {C : Type 0} (Was : C → State × Statements → Type 0) (old here mid behind new : Reading) (k now met last : State)
    (inside : Bool) (a : ℕ) (s : Sub) (b c : ℕ) (e : Expr) (d i : ℕ) (rest : List Token) (t : Test) (u : tree.Statements)
    (r : Result C Stop) (x : FunctionFault)
    → GoodSub s → Groups 0 e → here ≡ at_tokens old (onto_sub s (do_rest b c e d i rest))
    → Gives {A = Unit {0}} (λ _. now) (Ok tt) (counted a 1 k) → BodyReads here mid now met true (Ok u)
    → behind ≡ passed mid → TestReads behind new met a (Ok t)
    → Gives {A = Unit {0}} (λ _. last) (Err x) (counted a (length t.prelude.items) met) → IsErrAnd r (λ t. t ≡ Fault x)
    → Answers Was r (read_core old.integers (line_at old.text) old.variables inside k (repeat_after a s b c e d i))
do_count_fault Was old here mid behind new k now met last inside a s b c e d i rest t u r x g ge ph y z pb zt y' h =
    let integers : Integers = old.integers in
    let line : ℕ → ℕ = line_at old.text in
    let n : ℕ = old.variables in
    let ts : List Token = token semicolon i ∷ rest in
    do_then Was old here mid k now met inside a s b c e d i rest u r g ph y z
    (λ body w p. let q : behind ≡ at_tokens old (token left_paren c ∷ (spell_expr e ++ token right_paren d ∷ ts)) =
    passed_then old mid behind while_word b (token left_paren c ∷ (spell_expr e ++ token right_paren d ∷ ts)) p pb in
    counted_fault integers line n Was (new ≡ at_tokens old ts) a (λ m. m) met last e t r x
    (λ x now. Ok (now, one (loop made.do_loop x body (line a)))) (test_read old behind new met a (Ok t) c e d ts ge q zt) y' h)
