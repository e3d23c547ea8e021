-- Statements with a label.
use Rattle.std.proofs.Common.{◌≡◌, ◌∙◌, ◌∷◌, ℕ, Bool, List, Result, Ok, Err, refl, sym, ap, subst}
use Rattle.std.specs.Prelude.{OnOk}
use Rattle.std.specs.Result.{IsErrAnd}
use Rattle.lang_tokens.specs.Lines.{line_at}
use Rattle.lang_tree.specs.View.{statements_of}
use Rattle.lang_tree.specs.declared.stmt.Stmt.{Stmt}
use Rattle.source_grammar.specs.Tokens.{Name, Token, token, a_name, colon}
use Rattle.source_grammar.specs.Grammar.{Sub, GoodSub, ending_sub, labelled}
use Rattle.source_grammar.proofs.grammar.Follow.{AfterCore}
use Rattle.source_tree.specs.Statements.{Statements, label}
use Rattle.source_core.specs.Core as core
use Rattle.source_core.specs.Core.{core_in}
use Rattle.source_meaning.specs.declared.fault.FunctionFault.{FunctionFault}
use Rattle.source_meaning.specs.Results.{◌>>=◌}
use Rattle.source_meaning.specs.Names.{State}
use Rattle.source_meaning.specs.Statements.{followed_by, read_sub, new_label, one}
use Rattle.source_reader.specs.Answers.{Answers}
use Rattle.source_reader.specs.Reading.{Reading, first_kind}
use Rattle.source_reader.specs.declared.stop.Stop.{Stop}
use Rattle.source_change.specs.Tests.{WasRead}
use Rattle.source_change.proofs.lists.Deeds.{followed_assoc}
use Rattle.source_change.proofs.lists.Statements.{core_followed}
use Rattle.source_change.proofs.results.Answered.{answers_so, err_then, ok_then}
use Rattle.source_change.proofs.results.Binds.{bind_assoc}
use Rattle.source_statement.specs.Onto.{onto_sub}
use Rattle.source_statement.specs.Parts.{read_label}
use Rattle.source_statement.proofs.steps.Moved.{SubReads, sub_read}
use Rattle.base_integers.specs.declared.integers.Integers.{Integers}

-- a label is read here
abbrev pub LabelReads : (here new : Reading) (k met : State) → (before after : List Stmt) → Result (Unit {0}) Stop → Type 0
LabelReads here new k met o p r = (x : Name) (a b : ℕ) (rest : List Token) → here.ahead ≡ token (a_name x) a ∷ token colon b ∷ rest
    → Answers (λ _ q. WasRead here.integers here.variables rest here new met o p q) r
    (read_label here.integers (line_at here.text) here.variables k x a)

-- a statement with a label is the label and then the statement
pub labelled_parts : (integers : Integers) (line : ℕ → ℕ) (n : ℕ) (inside : Bool) (k : State) (x : Name) (a b : ℕ) (s : Sub)
    → (read_label integers line n k x a >>= λ r. read_sub integers line n inside r.0 s >>= λ q. Ok (q.0, followed_by r.1 q.1))
    ≡ read_sub integers line n inside k (labelled x a b s)
labelled_parts integers line n inside k x a b s = bind_assoc (new_label x a k) (λ now. Ok (now, one (label x.text (line a))))
    (λ r. read_sub integers line n inside r.0 s >>= λ q. Ok (q.0, followed_by r.1 q.1))

-- the fault of a label
pub label_fault : {C : Type 0} (Was : C → State × Statements → Type 0) (old new : Reading) (k met : State) (inside : Bool)
    (o p : List Stmt) (r : Result C Stop) (d : Stop) (x : Name) (a b : ℕ) (s : Sub) (rest : List Token)
    → old.ahead ≡ token (a_name x) a ∷ token colon b ∷ rest → LabelReads old new k met o p (Err d) → IsErrAnd r (λ t. t ≡ d)
    → Answers Was r (read_sub old.integers (line_at old.text) old.variables inside k (labelled x a b s))
label_fault Was old new k met inside o p r d x a b s rest e h g =
    let integers : Integers = old.integers in
    let line : ℕ → ℕ = line_at old.text in
    let n : ℕ = old.variables in
    let P : Result (State × Statements) FunctionFault → Type 0 = λ w. Answers Was r w in
    subst P (labelled_parts integers line n inside k x a b s)
    (err_then {A = Unit {0}} (λ _ q. WasRead integers n rest old new met o p q) Was r d (read_label integers line n k x a)
    (λ r. read_sub integers line n inside r.0 s >>= λ q. Ok (q.0, followed_by r.1 q.1)) g (h x a b rest e))

-- a label and a statement
pub labelled_read : (old mid new : Reading) (k met last : State) (inside : Bool)
    (o p v : List Stmt) (r : Result (Unit {0}) Stop) (x : Name) (a b : ℕ) (s : Sub) (rest : List Token)
    → GoodSub s → AfterCore (ending_sub s) (first_kind rest) → old.ahead ≡ token (a_name x) a ∷ token colon b ∷ onto_sub s rest
    → LabelReads old mid k met o p (Ok tt) → SubReads mid new met last inside p v r
    → Answers (λ _ q. WasRead old.integers old.variables rest old new last o v q) r
    (read_sub old.integers (line_at old.text) old.variables inside k (labelled x a b s))
labelled_read old mid new k met last inside o p v r x a b s rest g f e h z =
    let integers : Integers = old.integers in
    let line : ℕ → ℕ = line_at old.text in
    let n : ℕ = old.variables in
    let P : Result (State × Statements) FunctionFault → Type 0 = λ w. Answers (λ _ q. WasRead integers n rest old new last o v q) r w in
    subst P (labelled_parts integers line n inside k x a b s)
    (ok_then {A = Unit {0}} (λ _ q. WasRead integers n (onto_sub s rest) old mid met o p q)
    (λ _ q. WasRead integers n rest old new last o v q) tt r
    (read_label integers line n k x a) (λ r. read_sub integers line n inside r.0 s >>= λ q. Ok (q.0, followed_by r.1 q.1))
    (h x a b (onto_sub s rest) e)
    (λ y w. let Q : State → Type 0 = λ m. Answers (λ _ q. WasRead integers n rest old new last p v q) r
    (read_sub integers line n inside m s) in
    answers_so (λ _ q. WasRead integers n rest old new last p v q) (λ _ q. WasRead integers n rest old new last o v q) r
    (read_sub integers line n inside y.0 s)
    (read_sub integers line n inside y.0 s >>= λ q. Ok (q.0, followed_by y.1 q.1)) (λ q. (q.0, followed_by y.1 q.1)) refl
    (λ u q s. record {
      known = s.known;
      out = s.out ∙ ap (λ t. core.followed_by t (core_in integers n q.1)) w.out
          ∙ followed_assoc (statements_of o) (core_in integers n y.1) (core_in integers n q.1)
          ∙ sym (ap (core.followed_by (statements_of o)) (core_followed integers n y.1 q.1));
      reader = s.reader;
    })
    (subst Q w.known (sub_read old mid new met last inside p v r s rest g w.reader f z))))

-- what holds where there is no fault
pub on_ok : {A B P Q : Type 0} (r : Result A B) → (P → Q) → OnOk r P → OnOk r Q
on_ok (Ok x) f p = f p
on_ok (Err e) f p = p
