use Rattle.std.proofs.Common.{◌≡◌, ◌∙◌, ◌∷◌, ◌++◌, ◌+◌, ℕ, List, Result, Ok, Err, length, refl, sym, ap, ap₂, subst, rules}
use Rattle.lang_tokens.specs.Lines.{line_at}
use Rattle.lang_tree.specs.Tree.{nodes_in}
use Rattle.source_grammar.specs.Tokens as g
use Rattle.source_grammar.specs.Tokens.{Token, token, right_paren, semicolon}
use Rattle.source_grammar.specs.Symbols.{demand_of}
use Rattle.source_grammar.specs.Grammar.{Expr, spell_expr}
use Rattle.source_tree.specs.Expressions.{Expression}
use Rattle.source_core.specs.Core.{condition_of, core_of}
use Rattle.source_meaning.specs.Results.{◌>>=◌}
use Rattle.source_meaning.specs.Names.{State}
use Rattle.source_meaning.specs.Limits.{counted}
use Rattle.source_meaning.specs.Statements.{demand_of as node_of, one, read_condition}
use Rattle.source_names.specs.Gives.{Gives}
use Rattle.source_reader.specs.Answers.{Answers}
use Rattle.source_reader.specs.declared.stop.Stop.{Stop}
use Rattle.source_reader.specs.Marks.{mark_in}
use Rattle.source_reader.specs.Reading.{Reading, at_tokens, behind_first, first_kind, first_place, passed}
use Rattle.source_change.specs.Tests.{IsTest}
use Rattle.source_change.specs.Pushed.{WasPushed}
use Rattle.source_change.specs.declared.conditions.Test.{Test}
use Rattle.source_change.proofs.lists.Deeds.{length_deeds}
use Rattle.source_change.proofs.results.Answered.{err_given, err_then, ok_then}
use Rattle.base_integers.specs.declared.integers.Integers.{Integers}
use Rattle.source_statement.proofs.demand.demand.Goals as goal

-- the condition was read up to tokens
abbrev Was : (integers : Integers) (n line : ℕ) → Reading → Reading → List Token → Test → Expression → Type 0
Was integers n line old new ts t x = IsTest t (condition_of integers n line x) × (new ≡ at_tokens old ts)

-- what is read of a reading, where the statement begins at this place
abbrev Tests : (k : State) (new : Reading) (ts : List Token) (e : Expr) → Result Test Stop → Reading → ℕ → Type 0
Tests k new ts e r m a = Answers (Was m.integers m.variables (line_at m.text a) m new ts) r (read_condition m.integers
    (line_at m.text) m.variables k a e)

-- there are as many statements
as_many : (integers : Integers) (n line at k m : ℕ) (d : g.Demand) (t : Test) (x : Expression) → IsTest t (condition_of integers n line x)
    → k ≡ length t.prelude.items → nodes_in (core_of integers n (node_of d x at line)) ≡ length (condition_of integers n line x).prelude + m
    → k + m ≡ nodes_in (core_of integers n (node_of d x at line))
as_many integers n line at k m d t x s e h = ap (λ k. k + m) (e ∙ sym (length_deeds t.prelude.items) ∙ ap length s.prelude) ∙ sym h

pub returns-in_err-test-clause-reads : goal.returns-in_err-test-clause-reads
returns-in_err-test-clause-reads c = λ inside a b e d i rest gr f.
    let old : Reading = c.args.reader.now in
    let integers : Integers = old.integers in
    let n : ℕ = old.variables in
    let line : ℕ → ℕ = line_at old.text in
    let st : State = c.args.known.now in
    let k : g.Demand = demand_of c.args.demand in
    let ts : List Token = token semicolon i ∷ rest in
    let us : List Token = token g.left_paren b ∷ (spell_expr e ++ token right_paren d ∷ ts) in
    let place : c.at-at.result ≡ a = c.at-at.ensures ∙ ap first_place f in
    let mid : c.skip.new.self ≡ at_tokens old us = c.skip.ensures ∙ ap (λ ts. at_tokens old (behind_first ts)) f in
    let P : Reading → ℕ → Type 0 = λ m a. Tests st c.parenthesised.new.reader ts e (Err c.in_err-test.field-0.0) m a in
    let raw : P (at_tokens old us) c.at-at.result = subst (λ m. P m c.at-at.result) mid
    (c.in_err-test.ensures.reads b e d ts gr (ap (λ (r : Reading). r.ahead) mid)) in
    let q : P (at_tokens old us) a = subst (λ a. P (at_tokens old us) a) place raw in
    err_then (Was integers n (line a) (at_tokens old us) c.parenthesised.new.reader ts) _ c.from_residual.result c.in_err-test.field-0.0
    (read_condition integers line n st a e)
    (λ x. counted a (nodes_in (core_of integers n (node_of k x a (line a)))) st >>= λ now. Ok (now, one (node_of k x a (line a))))
    c.from_residual.ensures.1 q

pub returns-in_err-take-clause-reads : goal.returns-in_err-take-clause-reads
returns-in_err-take-clause-reads c = λ inside a b e d i rest gr f.
    let old : Reading = c.args.reader.now in
    let st : State = c.args.known.now in
    let ts : List Token = token semicolon i ∷ rest in
    let us : List Token = token g.left_paren b ∷ (spell_expr e ++ token right_paren d ∷ ts) in
    let mid : c.skip.new.self ≡ at_tokens old us = c.skip.ensures ∙ ap (λ ts. at_tokens old (behind_first ts)) f in
    let q = c.in_ok-test.ensures.reads b e d ts gr (ap (λ (r : Reading). r.ahead) mid) in
    absurd (c.in_err-take.ensures.0 (ap (λ (r : Reading). mark_in (first_kind r.ahead)) q.2.1))

pub overflow_add-len : goal.overflow_add-len
overflow_add-len c = search rules

pub returns-in_err-count-clause-reads : goal.returns-in_err-count-clause-reads
returns-in_err-count-clause-reads c = λ inside a b e d i rest gr f.
    let old : Reading = c.args.reader.now in
    let integers : Integers = old.integers in
    let n : ℕ = old.variables in
    let line : ℕ → ℕ = line_at old.text in
    let st : State = c.args.known.now in
    let k : g.Demand = demand_of c.args.demand in
    let ts : List Token = token semicolon i ∷ rest in
    let us : List Token = token g.left_paren b ∷ (spell_expr e ++ token right_paren d ∷ ts) in
    let place : c.at-at.result ≡ a = c.at-at.ensures ∙ ap first_place f in
    let mid : c.skip.new.self ≡ at_tokens old us = c.skip.ensures ∙ ap (λ ts. at_tokens old (behind_first ts)) f in
    let P : Reading → ℕ → Type 0 = λ m a. Tests st c.parenthesised.new.reader ts e (Ok c.in_ok-test.test) m a in
    let raw : P (at_tokens old us) c.at-at.result = subst (λ m. P m c.at-at.result) mid
    (c.in_ok-test.ensures.reads b e d ts gr (ap (λ (r : Reading). r.ahead) mid)) in
    let q : P (at_tokens old us) a = subst (λ a. P (at_tokens old us) a) place raw in
    let l : c.len.result ≡ length c.in_ok-test.test.prelude.items = search rules in
    ok_then (Was integers n (line a) (at_tokens old us) c.parenthesised.new.reader ts) _ c.in_ok-test.test
    c.from_residual-in_err-count.result
    (read_condition integers line n st a e)
    (λ x. counted a (nodes_in (core_of integers n (node_of k x a (line a)))) st >>= λ now. Ok (now, one (node_of k x a (line a)))) q
    (λ x s. let G : ℕ → ℕ → Type 0 = λ a m. Gives {A = Unit {0}} (λ _. c.count.new.self) (Err c.in_err-count.field-0.0)
    (counted a m st) in
    err_given {A = Unit {0}} (λ _. c.count.new.self) _ c.from_residual-in_err-count.result c.in_err-count.field-0.0
    (counted a (nodes_in (core_of integers n (node_of k x a (line a)))) st) (λ now. Ok (now, one (node_of k x a (line a))))
    c.from_residual-in_err-count.ensures.1
    (subst (λ m. G a m) (as_many integers n (line a) a c.len.result c.size.result k c.in_ok-test.test x s.0 l
    (c.size.ensures.nodes integers n (line a) a x))
    (subst (λ a. G a (c.len.result + c.size.result)) place c.in_err-count.ensures)))

pub returns-clause-reads : goal.returns-clause-reads
returns-clause-reads c = λ inside a b e d i rest gr f.
    let old : Reading = c.args.reader.now in
    let integers : Integers = old.integers in
    let n : ℕ = old.variables in
    let line : ℕ → ℕ = line_at old.text in
    let st : State = c.args.known.now in
    let now : State = c.count.new.self in
    let k : g.Demand = demand_of c.args.demand in
    let ts : List Token = token semicolon i ∷ rest in
    let us : List Token = token g.left_paren b ∷ (spell_expr e ++ token right_paren d ∷ ts) in
    let place : c.at-at.result ≡ a = c.at-at.ensures ∙ ap first_place f in
    let mid : c.skip.new.self ≡ at_tokens old us = c.skip.ensures ∙ ap (λ ts. at_tokens old (behind_first ts)) f in
    let P : Reading → ℕ → Type 0 = λ m a. Tests st c.parenthesised.new.reader ts e (Ok c.in_ok-test.test) m a in
    let raw : P (at_tokens old us) c.at-at.result = subst (λ m. P m c.at-at.result) mid
    (c.in_ok-test.ensures.reads b e d ts gr (ap (λ (r : Reading). r.ahead) mid)) in
    let q : P (at_tokens old us) a = subst (λ a. P (at_tokens old us) a) place raw in
    let l : c.len.result ≡ length c.in_ok-test.test.prelude.items = search rules in
    let x : Expression = q.0 in
    let s = q.2 in
    let end : c.take.new.self ≡ at_tokens old rest = c.in_ok-take.ensures.2 ∙ ap passed s.1 in
    let G : ℕ → ℕ → Type 0 = λ a m. Gives {A = Unit {0}} (λ _. now) (Ok tt) (counted a m st) in
    let given : G a (nodes_in (core_of integers n (node_of k x a (line a)))) =
    subst (λ m. G a m) (as_many integers n (line a) a c.len.result c.size.result k c.in_ok-test.test x s.0 l
    (c.size.ensures.nodes integers n (line a) a x))
    (subst (λ a. G a (c.len.result + c.size.result)) place c.in_ok-count.ensures) in
    let lined : c.line.result ≡ line a = c.line.ensures ∙ ap₂ (λ (r : Reading) k. line_at r.text k) end place in
    let W : ℕ → ℕ → Type 0 = λ a l. WasPushed integers n c.args.out.now.items c.push_demand.new.out.items (one (node_of k x a l)) in
    let T : ℕ → Type 0 = λ l. IsTest c.in_ok-test.test (condition_of integers n l x) in
    let pushed : W c.at-at.result c.line.result = c.in_ok-push_demand.ensures integers n x (subst T (sym lined) s.0) in (
      (now, one (node_of k x a (line a))),
      ap (λ v. v >>= λ x. counted a (nodes_in (core_of integers n (node_of k x a (line a)))) st >>= λ now. Ok (
        now,
        one (node_of k x a
            (line a)),
      )) q.1
          ∙ ap (λ v. v >>= λ now. Ok (now, one (node_of k x a (line a)))) given,
      record {
        known = refl;
        out = subst (λ l. W a l) lined (subst (λ a. W a c.line.result) place pushed);
        reader = end;
      },
    )
