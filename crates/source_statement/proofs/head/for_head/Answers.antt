use Rattle.std.proofs.Common.{◌≡◌, ◌∙◌, ◌∷◌, ◌+◌, ℕ, List, [], Ok, Err, length, refl, sym, ap, subst, rules}
use Rattle.std.specs.declared.alloc.Global.{Global}
use Rattle.std.specs.declared.vec.Vec.{Vec}
use Rattle.lang_tokens.specs.Lines.{line_at}
use Rattle.lang_tree.specs.declared.deed.Deed.{Deed}
use Rattle.source_grammar.specs.Tokens.{Token, token, right_paren, semicolon}
use Rattle.source_tree.specs.Expressions.{Expression}
use Rattle.source_tree.specs.Statements.{Change, Statements}
use Rattle.source_core.specs.Core.{condition_of}
use Rattle.source_meaning.specs.Results.{◌>>=◌}
use Rattle.source_meaning.specs.Names.{State}
use Rattle.source_meaning.specs.Limits.{counted}
use Rattle.source_meaning.specs.Statements.{prelude_of, read_first, read_test, read_updates}
use Rattle.source_names.specs.Gives.{Gives}
use Rattle.source_reader.specs.Answers.{Answers}
use Rattle.source_reader.specs.Reading.{Reading, at_tokens, behind_first, passed}
use Rattle.source_change.specs.Onto.{onto_updates}
use Rattle.source_change.specs.Tests.{IsTest, WasRead, WereChanged}
use Rattle.source_change.specs.declared.conditions.Test.{Test}
use Rattle.source_change.proofs.lists.Deeds.{length_deeds}
use Rattle.source_change.proofs.results.Answered.{err_given, err_then, given_then, ok_then}
use Rattle.source_statement.specs.Onto.{onto_first, onto_optional}
use Rattle.source_statement.specs.Headed.{WasHeaded}
use Rattle.source_statement.specs.declared.head.Head.{Head}
use Rattle.source_statement.proofs.parts.Heads.{headed}
use Rattle.base_integers.specs.declared.integers.Integers.{Integers}
use Rattle.source_statement.proofs.head.for_head.Goals as goal

-- there are as many deeds
as_many : (integers : Integers) (line : ℕ → ℕ) (n at k : ℕ) (t : Test) (x : Expression) → IsTest t (condition_of integers n (line at) x)
    → k ≡ length t.prelude.items → k + 1 ≡ prelude_of integers line n at x + 1
as_many integers line n at k t x s e = ap (λ k. k + 1) (e ∙ sym (length_deeds t.prelude.items) ∙ ap length s.prelude)

-- the condition was read up to tokens
abbrev Tests : (integers : Integers) (n line : ℕ) → Reading → Reading → List Token → Test → Expression → Type 0
Tests integers n line old new ts t x = IsTest t (condition_of integers n line x) × (new ≡ at_tokens old ts)

pub returns-in_err-count-clause-reads : goal.returns-in_err-count-clause-reads
returns-in_err-count-clause-reads c = λ b f d t i us j rest gf gt gu e.
    let old : Reading = c.args.reader.now in
    let integers : Integers = old.integers in
    let n : ℕ = old.variables in
    let line : ℕ → ℕ = line_at old.text in
    let at : ℕ = c.args.at in
    let st : State = c.args.known.now in
    let k : State = c.first.new.known in
    let ts₄ : List Token = onto_updates us (token right_paren j ∷ rest) in
    let ts₃ : List Token = token semicolon i ∷ ts₄ in
    let ts₂ : List Token = onto_optional t ts₃ in
    let ts₁ : List Token = token semicolon d ∷ ts₂ in
    let mid₁ : c.take.new.self ≡ at_tokens old (onto_first f ts₁) =
    c.in_ok-take.ensures.2 ∙ ap (λ ts. at_tokens old (behind_first ts)) e in
    let P₁ : Reading → Type 0 = λ m. Answers {A = Unit {0}} (λ _ r. WasRead m.integers m.variables ts₁ m c.first.new.reader k
    c.args.out.now.items
    c.first.new.out.items r) (Ok tt) (read_first m.integers (line_at m.text) m.variables st f) in
    let a : P₁ (at_tokens old (onto_first f ts₁)) = subst P₁ mid₁
    (c.in_ok-first.ensures.reads f d ts₂ gf (ap (λ (r : Reading). r.ahead) mid₁)) in
    let mid₂ : c.take-2.new.self ≡ at_tokens old ts₂ = c.in_ok-take-2.ensures.2 ∙ ap passed a.2.reader in
    let P₂ : Reading → Type 0 = λ m. Answers (Tests m.integers m.variables (line_at m.text at) m c.for_test.new.reader ts₃)
    (Ok c.in_ok-test.test)
    (read_test m.integers (line_at m.text) m.variables k at t) in
    let s : P₂ (at_tokens old ts₂) = subst P₂ mid₂ (c.in_ok-test.ensures.reads t i ts₄ gt (ap (λ (r : Reading). r.ahead) mid₂)) in
    let l : c.len.result ≡ length c.in_ok-test.test.prelude.items = search rules in
    headed integers (λ _ r. WasRead integers n ts₁ (at_tokens old
    (onto_first f ts₁)) c.first.new.reader k c.args.out.now.items c.first.new.out.items r)
    (Tests integers n (line at) (at_tokens old ts₂) c.for_test.new.reader ts₃) _ c.from_residual-in_err-count.result c.in_ok-test.test line
    n st k at f t us
    (λ r w. w.known) a s
    (λ r x w h. let P : ℕ → Type 0 = λ m. Gives {A = Unit {0}} (λ _. c.count.new.self) (Err c.in_err-count.field-0.0)
    (counted at m k) in
    err_given {A = Unit {0}} (λ _. c.count.new.self) _ c.from_residual-in_err-count.result c.in_err-count.field-0.0
    (counted at (prelude_of integers line n at x + 1) k) (λ now. read_updates integers line n now us >>= λ u. Ok (u.0, r.1, x, u.1))
    c.from_residual-in_err-count.ensures.1
    (subst P (as_many integers line n at c.len.result c.in_ok-test.test x h.0 l) c.in_err-count.ensures))

pub returns-in_err-change-clause-reads : goal.returns-in_err-change-clause-reads
returns-in_err-change-clause-reads c = λ b f d t i us j rest gf gt gu e.
    let old : Reading = c.args.reader.now in
    let integers : Integers = old.integers in
    let n : ℕ = old.variables in
    let line : ℕ → ℕ = line_at old.text in
    let at : ℕ = c.args.at in
    let st : State = c.args.known.now in
    let k : State = c.first.new.known in
    let ts₄ : List Token = onto_updates us (token right_paren j ∷ rest) in
    let ts₃ : List Token = token semicolon i ∷ ts₄ in
    let ts₂ : List Token = onto_optional t ts₃ in
    let ts₁ : List Token = token semicolon d ∷ ts₂ in
    let mid₁ : c.take.new.self ≡ at_tokens old (onto_first f ts₁) =
    c.in_ok-take.ensures.2 ∙ ap (λ ts. at_tokens old (behind_first ts)) e in
    let P₁ : Reading → Type 0 = λ m. Answers {A = Unit {0}} (λ _ r. WasRead m.integers m.variables ts₁ m c.first.new.reader k
    c.args.out.now.items
    c.first.new.out.items r) (Ok tt) (read_first m.integers (line_at m.text) m.variables st f) in
    let a : P₁ (at_tokens old (onto_first f ts₁)) = subst P₁ mid₁
    (c.in_ok-first.ensures.reads f d ts₂ gf (ap (λ (r : Reading). r.ahead) mid₁)) in
    let mid₂ : c.take-2.new.self ≡ at_tokens old ts₂ = c.in_ok-take-2.ensures.2 ∙ ap passed a.2.reader in
    let P₂ : Reading → Type 0 = λ m. Answers (Tests m.integers m.variables (line_at m.text at) m c.for_test.new.reader ts₃)
    (Ok c.in_ok-test.test)
    (read_test m.integers (line_at m.text) m.variables k at t) in
    let s : P₂ (at_tokens old ts₂) = subst P₂ mid₂ (c.in_ok-test.ensures.reads t i ts₄ gt (ap (λ (r : Reading). r.ahead) mid₂)) in
    let l : c.len.result ≡ length c.in_ok-test.test.prelude.items = search rules in
    let mid₄ : c.take-3.new.self ≡ at_tokens old ts₄ = c.in_ok-take-3.ensures.2 ∙ ap passed s.2.1 in
    let now : State = c.count.new.self in
    let P₄ : Reading → Type 0 = λ m. Answers (λ (v : Vec Deed Global) u. WereChanged m.integers m.variables (token right_paren j ∷ rest) m
    c.updates.new.reader c.updates.new.known [] v.items u) (Err c.in_err-change.field-0.0)
    (read_updates m.integers (line_at m.text) m.variables now us) in
    let q : P₄ (at_tokens old ts₄) = subst P₄ mid₄ (c.in_err-change.ensures.reads us (token right_paren j ∷ rest) gu
    (ap (λ (r : Reading). r.ahead) mid₄) tt) in
    headed integers (λ _ r. WasRead integers n ts₁ (at_tokens old
    (onto_first f ts₁)) c.first.new.reader k c.args.out.now.items c.first.new.out.items r)
    (Tests integers n (line at) (at_tokens old ts₂) c.for_test.new.reader ts₃) _ c.from_residual-in_err-change.result c.in_ok-test.test line
    n st k at f t us
    (λ r w. w.known) a s
    (λ r x w h. let P : ℕ → Type 0 = λ m. Gives {A = Unit {0}} (λ _. now) (Ok tt) (counted at m k) in
    given_then {A = Unit {0}} (λ _. now) _ tt c.from_residual-in_err-change.result
    (counted at (prelude_of integers line n at x + 1) k) (λ now. read_updates integers line n now us >>= λ u. Ok (u.0, r.1, x, u.1))
    (subst P (as_many integers line n at c.len.result c.in_ok-test.test x h.0 l) c.in_ok-count.ensures)
    (err_then (λ (v : Vec Deed Global) u. WereChanged integers n (token right_paren j ∷ rest) (at_tokens old ts₄)
    c.updates.new.reader c.updates.new.known [] v.items u) _ c.from_residual-in_err-change.result c.in_err-change.field-0.0
    (read_updates integers line n now us) (λ u. Ok (u.0, r.1, x, u.1)) c.from_residual-in_err-change.ensures.1 q))

pub returns-clause-reads : goal.returns-clause-reads
returns-clause-reads c = λ b f d t i us j rest gf gt gu e.
    let old : Reading = c.args.reader.now in
    let integers : Integers = old.integers in
    let n : ℕ = old.variables in
    let line : ℕ → ℕ = line_at old.text in
    let at : ℕ = c.args.at in
    let st : State = c.args.known.now in
    let k : State = c.first.new.known in
    let ts₄ : List Token = onto_updates us (token right_paren j ∷ rest) in
    let ts₃ : List Token = token semicolon i ∷ ts₄ in
    let ts₂ : List Token = onto_optional t ts₃ in
    let ts₁ : List Token = token semicolon d ∷ ts₂ in
    let mid₁ : c.take.new.self ≡ at_tokens old (onto_first f ts₁) =
    c.in_ok-take.ensures.2 ∙ ap (λ ts. at_tokens old (behind_first ts)) e in
    let P₁ : Reading → Type 0 = λ m. Answers {A = Unit {0}} (λ _ r. WasRead m.integers m.variables ts₁ m c.first.new.reader k
    c.args.out.now.items
    c.first.new.out.items r) (Ok tt) (read_first m.integers (line_at m.text) m.variables st f) in
    let a : P₁ (at_tokens old (onto_first f ts₁)) = subst P₁ mid₁
    (c.in_ok-first.ensures.reads f d ts₂ gf (ap (λ (r : Reading). r.ahead) mid₁)) in
    let mid₂ : c.take-2.new.self ≡ at_tokens old ts₂ = c.in_ok-take-2.ensures.2 ∙ ap passed a.2.reader in
    let P₂ : Reading → Type 0 = λ m. Answers (Tests m.integers m.variables (line_at m.text at) m c.for_test.new.reader ts₃)
    (Ok c.in_ok-test.test)
    (read_test m.integers (line_at m.text) m.variables k at t) in
    let s : P₂ (at_tokens old ts₂) = subst P₂ mid₂ (c.in_ok-test.ensures.reads t i ts₄ gt (ap (λ (r : Reading). r.ahead) mid₂)) in
    let l : c.len.result ≡ length c.in_ok-test.test.prelude.items = search rules in
    let mid₄ : c.take-3.new.self ≡ at_tokens old ts₄ = c.in_ok-take-3.ensures.2 ∙ ap passed s.2.1 in
    let now : State = c.count.new.self in
    let P₄ : Reading → Type 0 = λ m. Answers (λ (v : Vec Deed Global) u. WereChanged m.integers m.variables (token right_paren j ∷ rest) m
    c.updates.new.reader c.updates.new.known [] v.items u) (Ok c.in_ok-change.change)
    (read_updates m.integers (line_at m.text) m.variables now us) in
    let q : P₄ (at_tokens old ts₄) = subst P₄ mid₄ (c.in_ok-change.ensures.reads us (token right_paren j ∷ rest) gu
    (ap (λ (r : Reading). r.ahead) mid₄) tt) in
    let h : Head = record { test = c.in_ok-test.test; change = c.in_ok-change.change } in
    let is : Head → State × Statements × Expression × List Change
    → Type 0 = λ h r. WasHeaded integers n (line at) rest old c.take-4.new.self
    c.updates.new.known c.args.out.now.items c.first.new.out.items h r in
    headed integers (λ _ r. WasRead integers n ts₁ (at_tokens old
    (onto_first f ts₁)) c.first.new.reader k c.args.out.now.items c.first.new.out.items r)
    (Tests integers n (line at) (at_tokens old ts₂) c.for_test.new.reader ts₃) is (Ok h) c.in_ok-test.test line n st k at f t us
    (λ r w. w.known) a s
    (λ r x w g. let P : ℕ → Type 0 = λ m. Gives {A = Unit {0}} (λ _. now) (Ok tt) (counted at m k) in
    given_then {A = Unit {0}} (λ _. now) is tt (Ok h)
    (counted at (prelude_of integers line n at x + 1) k) (λ now. read_updates integers line n now us >>= λ u. Ok (u.0, r.1, x, u.1))
    (subst P (as_many integers line n at c.len.result c.in_ok-test.test x g.0 l) c.in_ok-count.ensures)
    (ok_then (λ (v : Vec Deed Global) u. WereChanged integers n (token right_paren j ∷ rest) (at_tokens old ts₄)
    c.updates.new.reader c.updates.new.known [] v.items u) is c.in_ok-change.change (Ok h)
    (read_updates integers line n now us) (λ u. Ok (u.0, r.1, x, u.1)) q
    (λ u v. (
      (u.0, r.1, x, u.1),
      refl,
      record {
        known = v.known;
        out = w.out;
        test = g.0;
        change = v.deeds;
        reader = c.in_ok-take-4.ensures.2 ∙ ap passed v.reader;
      },
    ))))
