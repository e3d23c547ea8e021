use Rattle.std.proofs.Common.{◌≡◌, ◌∙◌, ◌∷◌, ◌++◌, List, Ok, refl, sym, ap, subst}
use Rattle.lang_tokens.specs.Lines.{line_at}
use Rattle.source_grammar.specs.Tokens as g
use Rattle.source_grammar.specs.Tokens.{Name, Token, token, a_name, left_paren, right_paren, semicolon, jump_word, demand_word}
use Rattle.source_grammar.specs.Symbols.{jump_of, demand_of}
use Rattle.source_grammar.specs.Grammar.{Core, GoodCore, empty, jumps, returns, demands, calls, updates, update, place, step_before}
use Rattle.source_grammar.specs.Grammar.{spell_expr}
use Rattle.source_tree.specs.Statements.{nil}
use Rattle.source_meaning.specs.Statements.{read_core}
use Rattle.source_reader.specs.Answers.{Answers}
use Rattle.source_reader.specs.Reading.{at_tokens, behind_first, first_kind}
use Rattle.source_change.specs.Tests.{WasRead}
use Rattle.source_statement.specs.Onto.{onto_core}
use Rattle.source_statement.specs.Parts.{IsSimple}
use Rattle.source_statement.specs.Starts.{start_in, start_of, a_semicolon, a_jump, a_return, a_demand, a_name as begins_name}
use Rattle.source_change.proofs.lists.Pushed.{none_pushed}
use Rattle.source_statement.proofs.parts.Simple.{begins, core_begins, says_return, says_name, says_jump, says_demand}
use Rattle.source_statement.proofs.parts.Starting.{says_semicolon}
use Rattle.source_statement.proofs.simple.simple.Goals as goal

pub returns-in-Semicolon-clause-reads : goal.returns-in-Semicolon-clause-reads
returns-in-Semicolon-clause-reads c = λ x rest s g e. on x rest e
    (sym (ap start_of c.in-Semicolon.is) ∙ c.coming.ensures ∙ ap (λ ts. start_in (first_kind ts)) e ∙ core_begins x rest s) where
      on : (x : Core) (rest : List Token) → c.args.reader.now.ahead ≡ onto_core x rest → a_semicolon ≡ begins x
          → Answers {A = Unit {0}} (λ _ r. WasRead c.args.reader.now.integers c.args.reader.now.variables rest c.args.reader.now
          c.skip.new.self c.args.known.now
          c.args.out.now.items c.args.out.now.items r) (Ok tt)
          (read_core c.args.reader.now.integers (line_at c.args.reader.now.text) c.args.reader.now.variables c.args.inside
          c.args.known.now x)
      on (empty a) rest e h = (
        (c.args.known.now, nil),
        refl,
        record {
          known = refl;
          out = none_pushed c.args.reader.now.integers c.args.reader.now.variables c.args.out.now.items;
          reader = c.skip.ensures ∙ ap (λ ts. at_tokens c.args.reader.now (behind_first ts)) e;
        },
      )
      on (updates (update (place x a i) f) d) rest e h = absurd cc
      on (updates (step_before k a p) d) rest e h = absurd cc
      on _ rest e h = absurd cc

pub returns-in-Jump-clause-reads : goal.returns-in-Jump-clause-reads
returns-in-Jump-clause-reads c = λ x rest s g e. on x rest e
    (sym (ap start_of c.in-Jump.is) ∙ c.coming.ensures ∙ ap (λ ts. start_in (first_kind ts)) e ∙ core_begins x rest s) where
      on : (x : Core) (rest : List Token) → c.args.reader.now.ahead ≡ onto_core x rest → a_jump (jump_of c.in-Jump.which) ≡ begins x
          → Answers {A = Unit {0}} (λ _ r. WasRead c.args.reader.now.integers c.args.reader.now.variables rest c.args.reader.now
          c.jump.new.reader c.jump.new.known
          c.args.out.now.items c.jump.new.out.items r) c.jump.result
          (read_core c.args.reader.now.integers (line_at c.args.reader.now.text) c.args.reader.now.variables c.args.inside
          c.args.known.now x)
      on (jumps j a b) rest e h =
          let k : jump_of c.in-Jump.which ≡ j = cc in
          let P : g.Jump → Type 0 = λ j. c.args.reader.now.ahead ≡ token (jump_word j) a ∷ token semicolon b ∷ rest
          → Answers {A = Unit {0}} (λ _ r. WasRead c.args.reader.now.integers c.args.reader.now.variables rest c.args.reader.now
          c.jump.new.reader c.jump.new.known
          c.args.out.now.items c.jump.new.out.items r) c.jump.result
          (read_core c.args.reader.now.integers (line_at c.args.reader.now.text) c.args.reader.now.variables c.args.inside
          c.args.known.now (jumps j a b)) in
          subst P k (λ e. c.jump.ensures.reads a b rest e) e
      on (updates (update (place x a i) f) d) rest e h = absurd cc
      on (updates (step_before k a p) d) rest e h = absurd cc
      on _ rest e h = absurd cc

pub returns-in-Return-clause-reads : goal.returns-in-Return-clause-reads
returns-in-Return-clause-reads c = λ x rest s g e. on x rest g e
    (sym (ap start_of c.in-Return.is) ∙ c.coming.ensures ∙ ap (λ ts. start_in (first_kind ts)) e ∙ core_begins x rest s) where
      on : (x : Core) (rest : List Token) → GoodCore x → c.args.reader.now.ahead ≡ onto_core x rest → a_return ≡ begins x
          → Answers {A = Unit {0}} (λ _ r. WasRead c.args.reader.now.integers c.args.reader.now.variables rest c.args.reader.now
          c.return_statement.new.reader
          c.return_statement.new.known c.args.out.now.items c.return_statement.new.out.items r) c.return_statement.result
          (read_core c.args.reader.now.integers (line_at c.args.reader.now.text) c.args.reader.now.variables c.args.inside
          c.args.known.now x)
      on (returns a t b) rest g e h = c.return_statement.ensures.reads c.args.inside a t b rest g e
      on (updates (update (place x a i) f) d) rest g e h = absurd cc
      on (updates (step_before k a p) d) rest g e h = absurd cc
      on _ rest g e h = absurd cc

pub returns-in-Demand-clause-reads : goal.returns-in-Demand-clause-reads
returns-in-Demand-clause-reads c = λ x rest s ok e. on x rest ok e
    (sym (ap start_of c.in-Demand.is) ∙ c.coming.ensures ∙ ap (λ ts. start_in (first_kind ts)) e ∙ core_begins x rest s) where
      on : (x : Core) (rest : List Token) → GoodCore x → c.args.reader.now.ahead ≡ onto_core x rest
          → a_demand (demand_of c.in-Demand.which) ≡ begins x
          → Answers {A = Unit {0}} (λ _ r. WasRead c.args.reader.now.integers c.args.reader.now.variables rest c.args.reader.now
          c.demand.new.reader c.demand.new.known
          c.args.out.now.items c.demand.new.out.items r) c.demand.result
          (read_core c.args.reader.now.integers (line_at c.args.reader.now.text) c.args.reader.now.variables c.args.inside
          c.args.known.now x)
      on (demands k a b y d i) rest ok e h =
          let same : demand_of c.in-Demand.which ≡ k = cc in
          let P : g.Demand → Type 0 = λ k. c.args.reader.now.ahead ≡ token (demand_word k) a ∷ token left_paren b
          ∷ (spell_expr y ++ token right_paren d ∷ token semicolon i ∷ rest)
          → Answers {A = Unit {0}} (λ _ r. WasRead c.args.reader.now.integers c.args.reader.now.variables rest c.args.reader.now
          c.demand.new.reader c.demand.new.known
          c.args.out.now.items c.demand.new.out.items r) c.demand.result
          (read_core c.args.reader.now.integers (line_at c.args.reader.now.text) c.args.reader.now.variables c.args.inside
          c.args.known.now (demands k a b y d i)) in
          subst P same (λ e. c.demand.ensures.reads c.args.inside a b y d i rest ok e) e
      on (updates (update (place x a i) f) d) rest ok e h = absurd cc
      on (updates (step_before k a p) d) rest ok e h = absurd cc
      on _ rest ok e h = absurd cc

pub returns-in-Name-clause-reads : goal.returns-in-Name-clause-reads
returns-in-Name-clause-reads c = λ x rest s g e. on x rest g e
    (sym (ap start_of c.in-Name.is) ∙ c.coming.ensures ∙ ap (λ ts. start_in (first_kind ts)) e ∙ core_begins x rest s) where
      on : (x : Core) (rest : List Token) → GoodCore x → c.args.reader.now.ahead ≡ onto_core x rest → begins_name ≡ begins x
          → Answers {A = Unit {0}} (λ _ r. WasRead c.args.reader.now.integers c.args.reader.now.variables rest c.args.reader.now
          c.named_statement.new.reader
          c.named_statement.new.known c.args.out.now.items c.named_statement.new.out.items r) c.named_statement.result
          (read_core c.args.reader.now.integers (line_at c.args.reader.now.text) c.args.reader.now.variables c.args.inside
          c.args.known.now x)
      on (calls x a b es d i) rest g e h = c.named_statement.ensures.reads c.args.inside (calls x a b es d i) rest tt g e
      on (updates (update (place x a i) f) d) rest g e h =
          c.named_statement.ensures.reads c.args.inside (updates (update (place x a i) f) d) rest tt g e
      on (updates (step_before k a p) d) rest g e h = absurd cc
      on _ rest g e h = absurd cc

pub returns-in_default : goal.returns-in_default
returns-in_default c = record {
  reads = λ x rest s g e. on x rest s g e (c.coming.ensures ∙ ap (λ ts. start_in (first_kind ts)) e ∙ core_begins x rest s);
  shorter = c.update_statement.ensures.shorter;
} where
  on : (x : Core) (rest : List Token) → IsSimple x → GoodCore x → c.args.reader.now.ahead ≡ onto_core x rest
      → start_of c.coming.result ≡ begins x
      → Answers {A = Unit {0}} (λ _ r. WasRead c.args.reader.now.integers c.args.reader.now.variables rest c.args.reader.now
      c.update_statement.new.reader
      c.update_statement.new.known c.args.out.now.items c.update_statement.new.out.items r) c.update_statement.result
      (read_core c.args.reader.now.integers (line_at c.args.reader.now.text) c.args.reader.now.variables c.args.inside c.args.known.now x)
  on (empty a) rest s g e h = absurd (c.in_default.not-Semicolon (says_semicolon c.coming.result h))
  on (jumps j a b) rest s g e h = let k = says_jump c.coming.result j h in absurd (c.in_default.not-Jump k.0 k.1)
  on (returns a t b) rest s g e h = absurd (c.in_default.not-Return (says_return c.coming.result h))
  on (demands k a b y d i) rest s g e h = let k = says_demand c.coming.result k h in absurd (c.in_default.not-Demand k.0 k.1)
  on (calls x a b es d i) rest s g e h = absurd (c.in_default.not-Name (says_name c.coming.result h))
  on (updates u d) rest s g e h = c.update_statement.ensures.reads c.args.inside u d rest g e
  on _ rest s g e h = absurd s
