use Rattle.std.proofs.Common.{◌≡◌, ◌∙◌, ℕ, sym, ap, refl, subst, List, Ok}
use Rattle.lang_tokens.specs.Lines.{line_at}
use Rattle.lang_tree.specs.View.{statements_of}
use Rattle.source_grammar.specs.Tokens.{Token}
use Rattle.source_grammar.specs.Grammar.{Declarators, declares, GoodDeclarators}
use Rattle.source_grammar.proofs.grammar.Follow.{AfterList}
use Rattle.source_core.specs.Core as core
use Rattle.source_core.specs.Core.{core_in}
use Rattle.source_meaning.specs.Results.{◌>>=◌}
use Rattle.source_meaning.specs.Names.{State}
use Rattle.source_meaning.specs.Statements.{followed_by, read_declarator, read_more_declarators, read_declarators}
use Rattle.source_reader.specs.Answers.{Answers}
use Rattle.source_reader.specs.Reading.{Reading, at_tokens, first_kind}
use Rattle.source_change.specs.Onto.{onto_more_declarators, onto_declarators}
use Rattle.source_change.specs.Tests.{WasRead}
use Rattle.source_change.proofs.lists.Deeds.{followed_assoc}
use Rattle.source_change.proofs.lists.Statements.{core_followed}
use Rattle.source_change.proofs.loops.Declarators.{part_follows}
use Rattle.source_change.proofs.results.Answered.{answers_so, err_then, ok_then}
use Rattle.base_integers.specs.declared.integers.Integers.{Integers}
use Rattle.source_change.proofs.declarations.declarators.Goals as goal

pub returns-in_err-declarator-clause-reads : goal.returns-in_err-declarator-clause-reads
returns-in_err-declarator-clause-reads c = λ xs rest g e f. on xs rest g e f where
  on : (xs : Declarators) (rest : List Token) → GoodDeclarators xs → c.args.reader.now.ahead ≡ onto_declarators xs rest
      → AfterList (first_kind rest)
      → Answers {A = Unit {0}}
      (λ _ r. WasRead c.args.reader.now.integers c.args.reader.now.variables rest c.args.reader.now c.declarator.new.reader
      c.declarator.new.known
      c.args.out.now.items c.declarator.new.out.items r) c.from_residual.result
      (read_declarators c.args.reader.now.integers (line_at c.args.reader.now.text) c.args.reader.now.variables c.args.known.now xs)
  on (declares x ys) rest g e f =
      let integers : Integers = c.args.reader.now.integers in
      let line : ℕ → ℕ = line_at c.args.reader.now.text in
      let n : ℕ = c.args.reader.now.variables in
      err_then {A = Unit {0}} (λ _ r. WasRead integers n
      (onto_more_declarators ys rest) c.args.reader.now c.declarator.new.reader c.declarator.new.known
      c.args.out.now.items c.declarator.new.out.items r)
      (λ (u : Unit {0}) r. WasRead integers n rest c.args.reader.now c.declarator.new.reader c.declarator.new.known
      c.args.out.now.items c.declarator.new.out.items r) c.from_residual.result c.in_err-declarator.field-0.0
      (read_declarator integers line n c.args.known.now x) (λ r. read_more_declarators integers line n r.0 ys >>= λ q. Ok
      (q.0, followed_by r.1 q.1))
      c.from_residual.ensures.1 (c.in_err-declarator.ensures.reads x (onto_more_declarators ys rest) g.0 e
      (part_follows integers line n ys rest f))

pub returns-clause-reads : goal.returns-clause-reads
returns-clause-reads c = λ xs rest g e f. on xs rest g e f where
  on : (xs : Declarators) (rest : List Token) → GoodDeclarators xs → c.args.reader.now.ahead ≡ onto_declarators xs rest
      → AfterList (first_kind rest)
      → Answers {A = Unit {0}} (λ _ r. WasRead c.args.reader.now.integers c.args.reader.now.variables rest c.args.reader.now
      c.more_declarators.new.reader
      c.more_declarators.new.known c.args.out.now.items c.more_declarators.new.out.items r) c.more_declarators.result
      (read_declarators c.args.reader.now.integers (line_at c.args.reader.now.text) c.args.reader.now.variables c.args.known.now xs)
  on (declares x ys) rest g e f =
      let old : Reading = c.args.reader.now in
      let mid : Reading = c.declarator.new.reader in
      let new : Reading = c.more_declarators.new.reader in
      let integers : Integers = old.integers in
      let line : ℕ → ℕ = line_at old.text in
      let n : ℕ = old.variables in
      let ts : List Token = onto_more_declarators ys rest in
      ok_then {A = Unit {0}} (λ _ r. WasRead integers n ts old mid c.declarator.new.known c.args.out.now.items c.declarator.new.out.items r)
      (λ (u : Unit {0}) r. WasRead integers n rest old new c.more_declarators.new.known c.args.out.now.items
      c.more_declarators.new.out.items r) tt
      c.more_declarators.result (read_declarator integers line n c.args.known.now x)
      (λ r. read_more_declarators integers line n r.0 ys >>= λ q. Ok (q.0, followed_by r.1 q.1))
      (c.in_ok-declarator.ensures.reads x ts g.0 e (part_follows integers line n ys rest f))
      (λ r w.
      let P : Reading → Type 0 = λ m. Answers {A = Unit {0}} (λ _ q. WasRead m.integers m.variables rest m new c.more_declarators.new.known
      c.declarator.new.out.items c.more_declarators.new.out.items q) c.more_declarators.result
      (read_more_declarators m.integers (line_at m.text) m.variables c.declarator.new.known ys) in
      let a : P (at_tokens old ts) = subst P w.reader
      (c.more_declarators.ensures.reads ys rest g.1 (ap (λ (r : Reading). r.ahead) w.reader) f) in
      let Q : State → Type 0 = λ k. Answers {A = Unit {0}} (λ _ q. WasRead integers n rest
      (at_tokens old ts) new c.more_declarators.new.known
      c.declarator.new.out.items c.more_declarators.new.out.items q) c.more_declarators.result
      (read_more_declarators integers line n k ys) in
      answers_so {A = Unit {0}} (λ _ q. WasRead integers n rest (at_tokens old ts) new c.more_declarators.new.known
      c.declarator.new.out.items c.more_declarators.new.out.items q)
      (λ _ r. WasRead integers n rest old new c.more_declarators.new.known c.args.out.now.items c.more_declarators.new.out.items r)
      c.more_declarators.result (read_more_declarators integers line n r.0 ys)
      (read_more_declarators integers line n r.0 ys >>= λ q. Ok (q.0, followed_by r.1 q.1)) (λ q. (q.0, followed_by r.1 q.1)) refl
      (λ u q s. record {
        known = s.known;
        out = s.out ∙ ap (λ t. core.followed_by t (core_in integers n q.1)) w.out
            ∙ followed_assoc (statements_of c.args.out.now.items) (core_in integers n r.1) (core_in integers n q.1)
            ∙ sym (ap (core.followed_by (statements_of c.args.out.now.items)) (core_followed integers n r.1 q.1));
        reader = s.reader;
      })
      (subst Q w.known a))
