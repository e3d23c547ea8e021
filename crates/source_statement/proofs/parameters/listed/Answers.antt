use Rattle.std.proofs.Common.{◌≡◌, ◌∙◌, ◌∷◌, ℕ, sym, ap, refl, subst, List, Result, Ok, arith}
use Rattle.lang_tokens.specs.Lines.{line_at}
use Rattle.source_grammar.specs.Tokens.{Token, token, right_paren}
use Rattle.source_grammar.specs.Grammar.{Parameters, no_parameters, void_parameters, some_parameters}
use Rattle.source_tree.specs.Statements.{Statements, nil}
use Rattle.source_meaning.specs.Results.{◌>>=◌}
use Rattle.source_meaning.specs.Names.{State}
use Rattle.source_meaning.specs.Statements.{followed_by}
use Rattle.source_meaning.specs.Walk.{read_parameter, read_more_parameters, read_parameters}
use Rattle.source_reader.specs.Answers.{Answers}
use Rattle.source_reader.specs.Reading.{Reading, at_tokens, behind_first, first_kind}
use Rattle.source_reader.specs.declared.stop.Stop.{Stop}
use Rattle.source_change.specs.Tests.{WasRead}
use Rattle.source_change.proofs.results.Answered.{answers_so, err_then, ok_then}
use Rattle.source_statement.specs.Onto.{onto_more_parameters, onto_parameters}
use Rattle.source_statement.specs.Starts.{start_in, start_of, a_type, a_void}
use Rattle.source_change.proofs.lists.Pushed.{none_pushed, then_pushed}
use Rattle.source_statement.proofs.parts.Read.{at_first}
use Rattle.source_statement.proofs.parts.Starting.{says_type, says_void, parameter_begins}
use Rattle.source_statement.proofs.parts.Parameters.{parameter_follows}
use Rattle.base_integers.specs.declared.integers.Integers.{Integers}
use Rattle.source_statement.proofs.parameters.listed.Goals as goal

pub returns-in-Void-clause-reads : goal.returns-in-Void-clause-reads
returns-in-Void-clause-reads c = λ ps b rest e. on ps b rest e
    (sym (ap start_of c.in-Void.is) ∙ c.coming.ensures ∙ ap (λ ts. start_in (first_kind ts)) e) where
      on : (ps : Parameters) (b : ℕ) (rest : List Token) → c.args.reader.now.ahead ≡ onto_parameters ps (token right_paren b ∷ rest)
          → a_void ≡ start_in (first_kind (onto_parameters ps (token right_paren b ∷ rest)))
          → Answers {A = Unit {0}} (λ _ r. WasRead c.args.reader.now.integers c.args.reader.now.variables
          (token right_paren b ∷ rest) c.args.reader.now c.skip.new.self
          c.args.known.now c.args.out.now.items c.args.out.now.items r) (Ok tt)
          (read_parameters c.args.reader.now.integers (line_at c.args.reader.now.text) c.args.known.now ps)
      on no_parameters b rest e h = absurd cc
      on (void_parameters a) b rest e h = (
        (c.args.known.now, nil),
        refl,
        record {
          known = refl;
          out = none_pushed c.args.reader.now.integers c.args.reader.now.variables c.args.out.now.items;
          reader = c.skip.ensures ∙ ap (λ ts. at_tokens c.args.reader.now (behind_first ts)) e;
        },
      )
      on (some_parameters p ms) b rest e h =
          let k = sym (parameter_begins p (onto_more_parameters ms (token right_paren b ∷ rest))) ∙ sym h in cc

pub returns-in_err-parameter-in-Type-clause-reads : goal.returns-in_err-parameter-in-Type-clause-reads
returns-in_err-parameter-in-Type-clause-reads c = λ ps b rest e. on ps b rest e
    (sym (ap start_of c.in-Type.is) ∙ c.coming.ensures ∙ ap (λ ts. start_in (first_kind ts)) e) where
      on : (ps : Parameters) (b : ℕ) (rest : List Token) → c.args.reader.now.ahead ≡ onto_parameters ps (token right_paren b ∷ rest)
          → a_type ≡ start_in (first_kind (onto_parameters ps (token right_paren b ∷ rest)))
          → Answers {A = Unit {0}} (λ _ r. WasRead c.args.reader.now.integers c.args.reader.now.variables
          (token right_paren b ∷ rest) c.args.reader.now
          c.parameter.new.reader c.parameter.new.known c.args.out.now.items c.parameter.new.out.items r) c.from_residual.result
          (read_parameters c.args.reader.now.integers (line_at c.args.reader.now.text) c.args.known.now ps)
      on no_parameters b rest e h = absurd cc
      on (void_parameters a) b rest e h = absurd cc
      on (some_parameters p ms) b rest e h =
          let old : Reading = c.args.reader.now in
          let integers : Integers = old.integers in
          let n : ℕ = old.variables in
          let line : ℕ → ℕ = line_at old.text in
          let st : State = c.args.known.now in
          let w : List Token = token right_paren b ∷ rest in
          let ts : List Token = onto_more_parameters ms w in
          let s : Stop = c.in_err-parameter-in-Type.field-0.0 in
          err_then {A = Unit {0}} (λ _ r. WasRead integers n ts old c.parameter.new.reader c.parameter.new.known
          c.args.out.now.items c.parameter.new.out.items r)
          (λ (u : Unit {0}) r. WasRead integers n w old c.parameter.new.reader c.parameter.new.known
          c.args.out.now.items c.parameter.new.out.items r) c.from_residual.result s (read_parameter integers line st p)
          (λ r. read_more_parameters integers line r.0 ms >>= λ q. Ok (q.0, followed_by r.1 q.1)) c.from_residual.ensures.1
          (c.in_err-parameter-in-Type.ensures.reads p ts e (parameter_follows ms b rest))

pub returns-in_ok-parameter-in-Type-clause-reads : goal.returns-in_ok-parameter-in-Type-clause-reads
returns-in_ok-parameter-in-Type-clause-reads c = λ ps b rest e. on ps b rest e
    (sym (ap start_of c.in-Type.is) ∙ c.coming.ensures ∙ ap (λ ts. start_in (first_kind ts)) e) where
      on : (ps : Parameters) (b : ℕ) (rest : List Token) → c.args.reader.now.ahead ≡ onto_parameters ps (token right_paren b ∷ rest)
          → a_type ≡ start_in (first_kind (onto_parameters ps (token right_paren b ∷ rest)))
          → Answers {A = Unit {0}} (λ _ r. WasRead c.args.reader.now.integers c.args.reader.now.variables
          (token right_paren b ∷ rest) c.args.reader.now
          c.more_parameters.new.reader c.more_parameters.new.known c.args.out.now.items c.more_parameters.new.out.items r)
          c.more_parameters.result (read_parameters c.args.reader.now.integers (line_at c.args.reader.now.text) c.args.known.now ps)
      on no_parameters b rest e h = absurd cc
      on (void_parameters a) b rest e h = absurd cc
      on (some_parameters p ms) b rest e h =
          let old : Reading = c.args.reader.now in
          let integers : Integers = old.integers in
          let n : ℕ = old.variables in
          let line : ℕ → ℕ = line_at old.text in
          let st : State = c.args.known.now in
          let w : List Token = token right_paren b ∷ rest in
          let ts : List Token = onto_more_parameters ms w in
          let res : Result (Unit {0}) Stop = c.more_parameters.result in
          let is : Unit {0} → State × Statements → Type 0 = λ _ r. WasRead integers n w old c.more_parameters.new.reader
          c.more_parameters.new.known
          c.args.out.now.items c.more_parameters.new.out.items r in
          ok_then {A = Unit {0}} (λ _ r. WasRead integers n ts old c.parameter.new.reader c.parameter.new.known
          c.args.out.now.items c.parameter.new.out.items r) is tt res (read_parameter integers line st p)
          (λ r. read_more_parameters integers line r.0 ms >>= λ q. Ok (q.0, followed_by r.1 q.1))
          (c.in_ok-parameter-in-Type.ensures.reads p ts e (parameter_follows ms b rest))
          (λ r v.
          let Q : Reading → State → Type 0 = λ m k. Answers {A = Unit {0}}
          (λ _ q. WasRead m.integers m.variables w m c.more_parameters.new.reader
          c.more_parameters.new.known c.parameter.new.out.items c.more_parameters.new.out.items q) res
          (read_more_parameters m.integers (line_at m.text) k ms) in
          let q : Q (at_tokens old ts) r.0 = subst (λ k. Q (at_tokens old ts) k) v.known (subst (λ m. Q m c.parameter.new.known) v.reader
          (c.more_parameters.ensures.reads ms b rest (ap (λ (r : Reading). r.ahead) v.reader))) in
          answers_so {A = Unit {0}} (λ _ q. WasRead integers n w (at_tokens old ts) c.more_parameters.new.reader c.more_parameters.new.known
          c.parameter.new.out.items c.more_parameters.new.out.items q) is res (read_more_parameters integers line r.0 ms)
          (read_more_parameters integers line r.0 ms >>= λ q. Ok (q.0, followed_by r.1 q.1)) (λ q. (q.0, followed_by r.1 q.1)) refl
          (λ u q s. record {
            known = s.known;
            out = then_pushed integers n c.args.out.now.items c.parameter.new.out.items c.more_parameters.new.out.items r.1 q.1 v.out s.out;
            reader = s.reader;
          }) q)

pub returns-in_default : goal.returns-in_default
returns-in_default c = record {
  reads = λ ps b rest e. on ps b rest e (c.coming.ensures ∙ ap (λ ts. start_in (first_kind ts)) e);
  shorter = omega arith;
} where
  on : (ps : Parameters) (b : ℕ) (rest : List Token) → c.args.reader.now.ahead ≡ onto_parameters ps (token right_paren b ∷ rest)
      → start_of c.coming.result ≡ start_in (first_kind (onto_parameters ps (token right_paren b ∷ rest)))
      → Answers {A = Unit {0}} (λ _ r. WasRead c.args.reader.now.integers c.args.reader.now.variables
      (token right_paren b ∷ rest) c.args.reader.now
      c.args.reader.now c.args.known.now c.args.out.now.items c.args.out.now.items r) (Ok tt)
      (read_parameters c.args.reader.now.integers (line_at c.args.reader.now.text) c.args.known.now ps)
  on no_parameters b rest e h = (
    (c.args.known.now, nil),
    refl,
    record {
      known = refl;
      out = none_pushed c.args.reader.now.integers c.args.reader.now.variables c.args.out.now.items;
      reader = at_first c.args.reader.now (token right_paren b ∷ rest) e;
    },
  )
  on (void_parameters a) b rest e h = absurd (c.in_default.not-Void (says_void c.coming.result h))
  on (some_parameters p ms) b rest e h = absurd (c.in_default.not-Type (says_type c.coming.result
      (h ∙ parameter_begins p (onto_more_parameters ms (token right_paren b ∷ rest)))))
