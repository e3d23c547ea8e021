use Rattle.std.proofs.Common.{◌≡◌, ◌∙◌, ◌++◌, ℕ, true, false, List, Result, Ok, Err, Some, refl, sym, ap, subst, rules}
use Rattle.lang_tokens.specs.Lines.{line_at}
use Rattle.lang_tree.specs.View.{statements_of}
use Rattle.lang_tree.specs.declared.stmt.Stmt.{Stmt}
use Rattle.source_grammar.specs.Tokens as g
use Rattle.source_grammar.specs.Tokens.{Kind, Name, Token}
use Rattle.source_grammar.specs.Grammar.{Sizes, Values, Initialiser, bare, given, sized, filled, GoodInitialiser, declarator}
use Rattle.source_grammar.specs.Grammar.{spell_declarator}
use Rattle.source_grammar.proofs.grammar.Follow.{AfterPart, NoBracket}
use Rattle.source_tree.specs.Expressions.{Expressions, Extent}
use Rattle.source_tree.specs.Statements.{Statements, evaluates, nil}
use Rattle.source_core.specs.Core.{core_in, followed_by}
use Rattle.source_core.specs.Elaborated.{evaluated}
use Rattle.source_meaning.specs.declared.fault.FunctionFault.{FunctionFault}
use Rattle.source_meaning.specs.Results.{◌>>=◌}
use Rattle.source_meaning.specs.Names.{State, among, fresh_array, with_array}
use Rattle.source_meaning.specs.Arrays.{read_sizes}
use Rattle.source_meaning.specs.Expressions.{read_values}
use Rattle.source_meaning.specs.Statements.{read_declarator, read_evaluated}
use Rattle.source_value.specs.Stands.{StandsEvaluated}
use Rattle.source_value.specs.declared.value.Evaluated.{Evaluated}
use Rattle.source_reader.specs.Answers.{Answers}
use Rattle.source_reader.specs.Reading.{Reading, at_tokens, first_kind}
use Rattle.source_reader.specs.declared.stop.Stop.{Stop}
use Rattle.source_change.specs.Arrays.{IsArray, WereSized, extents_of}
use Rattle.source_change.specs.Nexts.{is_assignment}
use Rattle.source_change.specs.Onto.{onto_initialiser, onto_values}
use Rattle.source_change.specs.Pushed.{WasEvaluated}
use Rattle.source_change.specs.Tests.{WasRead, WasTaken, name_of}
use Rattle.source_change.specs.declared.names.Named.{Named}
use Rattle.source_change.proofs.lists.Deeds.{followed_nil}
use Rattle.source_change.proofs.firsts.Ends.{part_ends}
use Rattle.source_change.proofs.firsts.Taken.{renamed, taken_is}
use Rattle.source_change.proofs.results.Answered.{err_never, err_then, ok_then}
use Rattle.source_change.proofs.spelled.Changes.{declarator_onto}
use Rattle.base_integers.specs.declared.integers.Integers.{Integers}
use Rattle.source_change.proofs.arrays.array.Goals as goal
use Rattle.source_change.proofs.arrays.array.Goals.{then-has_assignment+in_ok-all+in_ok-push_evaluated, else-has_assignment}

-- what may follow an array that is declared is no bracket
no_bracket : (k : Kind) → AfterPart k → NoBracket k
no_bracket g.semicolon h = tt
no_bracket g.right_paren h = tt
no_bracket g.comma h = tt
no_bracket _ h = absurd h

-- nor the sign of an assignment
no_assignment : (k : Kind) → AfterPart k → is_assignment k ≡ false
no_assignment g.semicolon h = refl
no_assignment g.right_paren h = refl
no_assignment g.comma h = refl
no_assignment _ h = absurd h

module _ (integers : Integers) (line : ℕ → ℕ) (n : ℕ) (st : State) (x : Name) (at : ℕ) (fresh : fresh_array x at st ≡ Ok st) where
  -- it is declared behind its values
  abbrev known_behind : List Extent → State × Statements → Result (State × Statements) FunctionFault
  known_behind es r = Ok (with_array x es r.0, r.1)

  -- its name may be declared
  sized_so : (ss : Sizes) → read_declarator integers line n st (declarator x at (sized ss))
      ≡ (read_sizes st ss >>= λ es. Ok (with_array x es st, nil))
  sized_so ss = ap (λ w. w >>= λ now. read_sizes now ss >>= λ es. Ok (with_array x es now, nil)) fresh

  -- so it may where it has values, which are read there and evaluated behind its sizes
  filled_so : (ss : Sizes) (a b : ℕ) (vs : Values) (d : ℕ) (there : State)
      → there ≡ among (spell_declarator (declarator x at (filled ss a b vs d))) st
      → read_declarator integers line n st (declarator x at (filled ss a b vs d))
      ≡ (read_sizes st ss >>= λ es. read_values integers (line at) there vs n >>= λ xs. read_evaluated integers line n st at
      (evaluates xs (line at)) >>= known_behind es)
  filled_so ss a b vs d there e =
      ap (λ w. w >>= λ now. read_sizes now ss
      >>= λ es. read_values integers (line at) (among (spell_declarator (declarator x at (filled ss a b vs d))) now) vs n
      >>= λ xs. read_evaluated integers line n now at (evaluates xs (line at)) >>= λ r. Ok (with_array x es r.0, r.1)) fresh
      ∙ ap (λ z. read_sizes st ss >>= λ es. read_values integers (line at) z vs n >>= λ xs. read_evaluated integers line n st at
      (evaluates xs (line at)) >>= known_behind es) (sym e)

  -- what it declares where nothing of it has a fault
  filled_read : (ss : Sizes) (a b : ℕ) (vs : Values) (d : ℕ) (there : State)
      → there ≡ among (spell_declarator (declarator x at (filled ss a b vs d))) st
      → (es : List Extent) (xs : Expressions) (r : State × Statements) → read_sizes st ss ≡ Ok es
      → read_values integers (line at) there vs n ≡ Ok xs → read_evaluated integers line n st at (evaluates xs (line at)) ≡ Ok r
      → read_declarator integers line n st (declarator x at (filled ss a b vs d)) ≡ known_behind es r
  filled_read ss a b vs d there e es xs r p q h =
      filled_so ss a b vs d there e
      ∙ ap (λ w. w >>= λ es. read_values integers (line at) there vs n >>= λ xs. read_evaluated integers line n st at
      (evaluates xs (line at)) >>= known_behind es) p
      ∙ ap (λ w. w >>= λ xs. read_evaluated integers line n st at (evaluates xs (line at)) >>= known_behind es) q
      ∙ ap (λ w. w >>= known_behind es) h

-- values were read up to tokens, in this line over v variables
abbrev Were : (integers : Integers) (l v : ℕ) → Reading → Reading → List Token → Evaluated → Expressions → Type 0
Were integers l v old new ts all es = StandsEvaluated v all (evaluated integers l es v) × (new ≡ at_tokens old ts)

pub returns-in_err-first-clause-reads : goal.returns-in_err-first-clause-reads
returns-in_err-first-clause-reads c = λ x a i rest w gi e h.
    err_never (λ (n : Named) p. WasTaken (onto_initialiser i rest) c.args.reader.now c.take_name.new.reader n p)
    (λ _ r. WasRead c.args.reader.now.integers c.args.reader.now.variables rest c.args.reader.now c.take_name.new.reader c.args.known.now
    c.args.out.now.items c.args.out.now.items r) c.from_residual.result c.in_err-first.field-0.0 (x, a)
    (read_declarator c.args.reader.now.integers (line_at c.args.reader.now.text) c.args.reader.now.variables c.args.known.now
    (declarator x a i))
    c.from_residual.ensures.1 (c.in_err-first.ensures.reads x a (onto_initialiser i rest) e)

pub returns-in_err-sizes-clause-reads : goal.returns-in_err-sizes-clause-reads
returns-in_err-sizes-clause-reads c = λ x a i rest w gi e h.
    let old : Reading = c.args.reader.now in
    let mid : Reading = c.take_name.new.reader in
    let first : Named = c.in_ok-first.first in
    let t = taken_is (onto_initialiser i rest) old mid first x a (c.in_ok-first.ensures.reads x a (onto_initialiser i rest) e) in
    let around = c.scope-scope.ensures.declarator (declarator x a i) rest (e ∙ sym (declarator_onto (declarator x a i) rest))
    (part_ends (first_kind rest) h) in
    renamed {C = Unit {0}} (λ _ r. WasRead old.integers old.variables rest old c.sizes.new.reader c.args.known.now
    c.args.out.now.items c.args.out.now.items r) c.from_residual-in_err-sizes.result old.integers (line_at old.text) old.variables
    c.args.known.now c.scope-scope.result i x (name_of first) a first.at t.0 t.1 around
    (λ there. on i rest w (ap (λ (r : Reading). r.ahead) t.2) h there) where
      fresh : fresh_array (name_of c.in_ok-first.first) c.in_ok-first.first.at c.args.known.now ≡ Ok c.args.known.now
      fresh = ap (λ y. fresh_array (record { text = y; value = c.in_ok-first.first.value }) c.in_ok-first.first.at c.args.known.now)
          (sym c.bytes.ensures.bytes) ∙ sym c.in_ok-fresh_array.ensures

      on : (i : Initialiser) (rest : List Token) → IsArray i → c.take_name.new.reader.ahead ≡ onto_initialiser i rest
          → AfterPart (first_kind rest)
          → c.scope-scope.result ≡ among (spell_declarator (declarator (name_of c.in_ok-first.first) c.in_ok-first.first.at i))
          c.args.known.now
          → Answers {A = Unit {0}} (λ _ r. WasRead c.args.reader.now.integers c.args.reader.now.variables rest c.args.reader.now
          c.sizes.new.reader c.args.known.now c.args.out.now.items c.args.out.now.items r) c.from_residual-in_err-sizes.result
          (read_declarator c.args.reader.now.integers (line_at c.args.reader.now.text) c.args.reader.now.variables c.args.known.now
          (declarator (name_of c.in_ok-first.first) c.in_ok-first.first.at i))
      on bare rest w e h there = absurd w
      on (given a x) rest w e h there = absurd w
      on (sized ss) rest w e h there =
          let old : Reading = c.args.reader.now in
          let st : State = c.args.known.now in
          let x : Name = name_of c.in_ok-first.first in
          let at : ℕ = c.in_ok-first.first.at in
          let is : Unit {0} → State × Statements → Type 0 = λ _ r. WasRead old.integers old.variables rest old c.sizes.new.reader st
          c.args.out.now.items c.args.out.now.items r in
          let P : Result (State × Statements) FunctionFault → Type 0 = λ v. Answers is c.from_residual-in_err-sizes.result v in
          subst P (sym (sized_so old.integers (line_at old.text) old.variables st x at fresh ss))
          (err_then {A = Unit {0}} (λ _ es. WereSized rest c.take_name.new.reader c.sizes.new.reader c.new-extents.result.items
          c.sizes.new.extents.items es) is
          c.from_residual-in_err-sizes.result c.in_err-sizes.field-0.0 (read_sizes st ss) (λ es. Ok (with_array x es st, nil))
          c.from_residual-in_err-sizes.ensures.1 (c.in_err-sizes.ensures.reads (Some ss) rest e (no_bracket (first_kind rest) h)))
      on (filled ss a b vs d) rest w e h there =
          let old : Reading = c.args.reader.now in
          let st : State = c.args.known.now in
          let x : Name = name_of c.in_ok-first.first in
          let line : ℕ → ℕ = line_at old.text in
          let at : ℕ = c.in_ok-first.first.at in
          let ts : List Token = onto_values a b vs d rest in
          let is : Unit {0} → State × Statements → Type 0 = λ _ r. WasRead old.integers old.variables rest old c.sizes.new.reader st
          c.args.out.now.items c.args.out.now.items r in
          let P : Result (State × Statements) FunctionFault → Type 0 = λ v. Answers is c.from_residual-in_err-sizes.result v in
          subst P (sym (filled_so old.integers line old.variables st x at fresh ss a b vs d c.scope-scope.result there))
          (err_then {A = Unit {0}} (λ _ es. WereSized ts c.take_name.new.reader c.sizes.new.reader c.new-extents.result.items
          c.sizes.new.extents.items es) is
          c.from_residual-in_err-sizes.result c.in_err-sizes.field-0.0 (read_sizes st ss)
          (λ es. read_values old.integers (line at) c.scope-scope.result vs old.variables
          >>= λ xs. read_evaluated old.integers line old.variables st at (evaluates xs (line at))
          >>= known_behind old.integers line old.variables st x at fresh es)
          c.from_residual-in_err-sizes.ensures.1 (c.in_err-sizes.ensures.reads (Some ss) ts e tt))

pub returns-in_err-all-clause-reads : goal.returns-in_err-all-clause-reads
returns-in_err-all-clause-reads c = λ x a i rest w gi e h.
    let old : Reading = c.args.reader.now in
    let mid : Reading = c.take_name.new.reader in
    let first : Named = c.in_ok-first.first in
    let t = taken_is (onto_initialiser i rest) old mid first x a (c.in_ok-first.ensures.reads x a (onto_initialiser i rest) e) in
    let around = c.scope-scope.ensures.declarator (declarator x a i) rest (e ∙ sym (declarator_onto (declarator x a i) rest))
    (part_ends (first_kind rest) h) in
    renamed {C = Unit {0}} (λ _ r. WasRead old.integers old.variables rest old c.filled.new.reader c.args.known.now
    c.args.out.now.items c.args.out.now.items r) c.from_residual-in_err-all.result old.integers (line_at old.text) old.variables
    c.args.known.now c.scope-scope.result i x (name_of first) a first.at t.0 t.1 around
    (λ there. on i rest w gi t.2 h there) where
      fresh : fresh_array (name_of c.in_ok-first.first) c.in_ok-first.first.at c.args.known.now ≡ Ok c.args.known.now
      fresh = ap (λ y. fresh_array (record { text = y; value = c.in_ok-first.first.value }) c.in_ok-first.first.at c.args.known.now)
          (sym c.bytes.ensures.bytes) ∙ sym c.in_ok-fresh_array.ensures

      assigns : is_assignment (first_kind c.sizes.new.reader.ahead) ≡ true
      assigns = search rules

      on : (i : Initialiser) (rest : List Token) → IsArray i → GoodInitialiser i
          → c.take_name.new.reader ≡ at_tokens c.args.reader.now (onto_initialiser i rest) → AfterPart (first_kind rest)
          → c.scope-scope.result ≡ among (spell_declarator (declarator (name_of c.in_ok-first.first) c.in_ok-first.first.at i))
          c.args.known.now
          → Answers {A = Unit {0}} (λ _ r. WasRead c.args.reader.now.integers c.args.reader.now.variables rest c.args.reader.now
          c.filled.new.reader c.args.known.now c.args.out.now.items c.args.out.now.items r) c.from_residual-in_err-all.result
          (read_declarator c.args.reader.now.integers (line_at c.args.reader.now.text) c.args.reader.now.variables c.args.known.now
          (declarator (name_of c.in_ok-first.first) c.in_ok-first.first.at i))
      on bare rest w gi e h there = absurd w
      on (given a x) rest w gi e h there = absurd w
      on (sized ss) rest w gi e h there =
          let q = c.in_ok-sizes.ensures.reads (Some ss) rest (ap (λ (r : Reading). r.ahead) e) (no_bracket (first_kind rest) h) in
          let k : is_assignment (first_kind c.sizes.new.reader.ahead) ≡ false = ap (λ (r : Reading). is_assignment (first_kind r.ahead))
          q.2.reader ∙ no_assignment (first_kind rest) h in
          absurd (let j = assigns in cc)
      on (filled ss a b vs d) rest w gi e h there =
          let old : Reading = c.args.reader.now in
          let st : State = c.args.known.now in
          let x : Name = name_of c.in_ok-first.first in
          let line : ℕ → ℕ = line_at old.text in
          let integers : Integers = old.integers in
          let n : ℕ = old.variables in
          let at : ℕ = c.in_ok-first.first.at in
          let ts : List Token = onto_values a b vs d rest in
          let sc : State = c.scope-scope.result in
          let res = c.from_residual-in_err-all.result in
          let s : Stop = c.in_err-all.field-0.0 in
          let is : Unit {0} → State × Statements → Type 0 = λ _ r. WasRead integers n rest old c.filled.new.reader st
          c.args.out.now.items c.args.out.now.items r in
          let P : Result (State × Statements) FunctionFault → Type 0 = λ v. Answers is res v in
          let q = c.in_ok-sizes.ensures.reads (Some ss) ts (ap (λ (r : Reading). r.ahead) e) tt in
          let here : c.sizes.new.reader ≡ at_tokens old ts = q.2.reader ∙ ap (λ (r : Reading). at_tokens r ts) e in
          let j : Integers = c.site-site.result.integers in
          let l : ℕ = c.site-site.result.line in
          let v : ℕ = c.site-site.result.variables in
          let by : j ≡ integers = c.site-site.ensures.integers ∙ ap (λ (r : Reading). r.integers) here in
          let lined : l ≡ line at = c.site-site.ensures.line ∙ ap (λ (r : Reading). line_at r.text at) here in
          let many : v ≡ n = c.site-site.ensures.variables ∙ ap (λ (r : Reading). r.variables) here in
          let A : Integers → ℕ → ℕ → Type 0 = λ j l v. Answers (Were j l v c.sizes.new.reader c.filled.new.reader rest) (Err s)
          (read_values j l sc vs v) in
          let raw : A j l v = c.in_err-all.ensures.reads a b vs d rest gi (ap (λ (r : Reading). r.ahead) here) in
          let f : A integers (line at) n =
          subst (λ v. A integers (line at) v) many (subst (λ l. A integers l v) lined (subst (λ j. A j l v) by raw)) in
          subst P (sym (filled_so integers line n st x at fresh ss a b vs d sc there))
          (ok_then {A = Unit {0}} (λ _ es. WereSized ts c.take_name.new.reader c.sizes.new.reader c.new-extents.result.items
          c.sizes.new.extents.items es) is tt res (read_sizes st ss)
          (λ es. read_values integers (line at) sc vs n >>= λ xs. read_evaluated integers line n st at (evaluates xs (line at))
          >>= known_behind integers line n st x at fresh es) q
          (λ es k. err_then (Were integers (line at) n c.sizes.new.reader c.filled.new.reader rest) is res s
          (read_values integers (line at) sc vs n) (λ xs. read_evaluated integers line n st at (evaluates xs (line at))
          >>= known_behind integers line n st x at fresh es) c.from_residual-in_err-all.ensures.1 f))

pub returns-in_err-push_evaluated-clause-reads : goal.returns-in_err-push_evaluated-clause-reads
returns-in_err-push_evaluated-clause-reads c = λ x a i rest w gi e h.
    let old : Reading = c.args.reader.now in
    let mid : Reading = c.take_name.new.reader in
    let first : Named = c.in_ok-first.first in
    let t = taken_is (onto_initialiser i rest) old mid first x a (c.in_ok-first.ensures.reads x a (onto_initialiser i rest) e) in
    let around = c.scope-scope.ensures.declarator (declarator x a i) rest (e ∙ sym (declarator_onto (declarator x a i) rest))
    (part_ends (first_kind rest) h) in
    renamed {C = Unit {0}} (λ _ r. WasRead old.integers old.variables rest old c.filled.new.reader c.push_evaluated.new.known
    c.args.out.now.items c.push_evaluated.new.out.items r) c.from_residual-in_err-push_evaluated.result old.integers (line_at old.text)
    old.variables c.args.known.now c.scope-scope.result i x (name_of first) a first.at t.0 t.1 around
    (λ there. on i rest w gi t.2 h there) where
      fresh : fresh_array (name_of c.in_ok-first.first) c.in_ok-first.first.at c.args.known.now ≡ Ok c.args.known.now
      fresh = ap (λ y. fresh_array (record { text = y; value = c.in_ok-first.first.value }) c.in_ok-first.first.at c.args.known.now)
          (sym c.bytes.ensures.bytes) ∙ sym c.in_ok-fresh_array.ensures

      assigns : is_assignment (first_kind c.sizes.new.reader.ahead) ≡ true
      assigns = search rules

      on : (i : Initialiser) (rest : List Token) → IsArray i → GoodInitialiser i
          → c.take_name.new.reader ≡ at_tokens c.args.reader.now (onto_initialiser i rest) → AfterPart (first_kind rest)
          → c.scope-scope.result ≡ among (spell_declarator (declarator (name_of c.in_ok-first.first) c.in_ok-first.first.at i))
          c.args.known.now
          → Answers {A = Unit {0}} (λ _ r. WasRead c.args.reader.now.integers c.args.reader.now.variables rest c.args.reader.now
          c.filled.new.reader c.push_evaluated.new.known c.args.out.now.items c.push_evaluated.new.out.items r)
          c.from_residual-in_err-push_evaluated.result
          (read_declarator c.args.reader.now.integers (line_at c.args.reader.now.text) c.args.reader.now.variables c.args.known.now
          (declarator (name_of c.in_ok-first.first) c.in_ok-first.first.at i))
      on bare rest w gi e h there = absurd w
      on (given a x) rest w gi e h there = absurd w
      on (sized ss) rest w gi e h there =
          let q = c.in_ok-sizes.ensures.reads (Some ss) rest (ap (λ (r : Reading). r.ahead) e) (no_bracket (first_kind rest) h) in
          let k : is_assignment (first_kind c.sizes.new.reader.ahead) ≡ false = ap (λ (r : Reading). is_assignment (first_kind r.ahead))
          q.2.reader ∙ no_assignment (first_kind rest) h in
          absurd (let j = assigns in cc)
      on (filled ss a b vs d) rest w gi e h there =
          let old : Reading = c.args.reader.now in
          let st : State = c.args.known.now in
          let x : Name = name_of c.in_ok-first.first in
          let line : ℕ → ℕ = line_at old.text in
          let integers : Integers = old.integers in
          let n : ℕ = old.variables in
          let at : ℕ = c.in_ok-first.first.at in
          let ts : List Token = onto_values a b vs d rest in
          let sc : State = c.scope-scope.result in
          let all : Evaluated = c.in_ok-all.all in
          let res = c.from_residual-in_err-push_evaluated.result in
          let s : Stop = c.in_err-push_evaluated.field-0.0 in
          let is : Unit {0} → State × Statements → Type 0 = λ _ r. WasRead integers n rest old c.filled.new.reader
          c.push_evaluated.new.known c.args.out.now.items c.push_evaluated.new.out.items r in
          let P : Result (State × Statements) FunctionFault → Type 0 = λ v. Answers is res v in
          let q = c.in_ok-sizes.ensures.reads (Some ss) ts (ap (λ (r : Reading). r.ahead) e) tt in
          let here : c.sizes.new.reader ≡ at_tokens old ts = q.2.reader ∙ ap (λ (r : Reading). at_tokens r ts) e in
          let j : Integers = c.site-site.result.integers in
          let l : ℕ = c.site-site.result.line in
          let v : ℕ = c.site-site.result.variables in
          let by : j ≡ integers = c.site-site.ensures.integers ∙ ap (λ (r : Reading). r.integers) here in
          let lined : l ≡ line at = c.site-site.ensures.line ∙ ap (λ (r : Reading). line_at r.text at) here in
          let many : v ≡ n = c.site-site.ensures.variables ∙ ap (λ (r : Reading). r.variables) here in
          let A : Integers → ℕ → ℕ → Type 0 = λ j l v. Answers (Were j l v c.sizes.new.reader c.filled.new.reader rest) (Ok all)
          (read_values j l sc vs v) in
          let raw : A j l v = c.in_ok-all.ensures.reads a b vs d rest gi (ap (λ (r : Reading). r.ahead) here) in
          let f : A integers (line at) n =
          subst (λ v. A integers (line at) v) many (subst (λ l. A integers l v) lined (subst (λ j. A j l v) by raw)) in
          subst P (sym (filled_so integers line n st x at fresh ss a b vs d sc there))
          (ok_then {A = Unit {0}} (λ _ es. WereSized ts c.take_name.new.reader c.sizes.new.reader c.new-extents.result.items
          c.sizes.new.extents.items es) is tt res (read_sizes st ss)
          (λ es. read_values integers (line at) sc vs n >>= λ xs. read_evaluated integers line n st at (evaluates xs (line at))
          >>= known_behind integers line n st x at fresh es) q
          (λ es k. ok_then (Were integers (line at) n c.sizes.new.reader c.filled.new.reader rest) is all res
          (read_values integers (line at) sc vs n) (λ xs. read_evaluated integers line n st at (evaluates xs (line at))
          >>= known_behind integers line n st x at fresh es) f
          (λ ys k.
          let B : Integers → ℕ → Type 0 = λ j v. StandsEvaluated v all (evaluated j (line at) ys v)
          → Answers {A = Unit {0}} (λ _ r. WasEvaluated j v c.push_evaluated.new.known c.args.out.now.items
          c.push_evaluated.new.out.items r) (Err s) (read_evaluated j line v st at (evaluates ys (line at))) in
          let p : B integers n = subst (λ v. B integers v) many (subst (λ j. B j v) by (c.in_err-push_evaluated.ensures line ys lined)) in
          err_then {A = Unit {0}} (λ _ r. WasEvaluated integers n c.push_evaluated.new.known c.args.out.now.items
          c.push_evaluated.new.out.items r) is res s (read_evaluated integers line n st at (evaluates ys (line at)))
          (known_behind integers line n st x at fresh es) c.from_residual-in_err-push_evaluated.ensures.1 (p k.0))))

same_ok : (a b : State) → (let r : Result State FunctionFault = Ok a in r ≡ Ok b) → a ≡ b
same_ok a b e = cc

-- Behind its values an array is as good as declared.
record Behind (integers : Integers) (line : ℕ → ℕ) (n : ℕ) (st : State) (x : Name) (at : ℕ) (i : Initialiser) (rest : List Token)
    (old now : Reading) (es : List Extent) (met : State) (before after : List Stmt) : Type 0 where
  -- what was met, and the statements of the values
  r : State × Statements
  read : read_declarator integers line n st (declarator x at i) ≡ Ok (with_array x es r.0, r.1)
  known : met ≡ r.0
  out : statements_of after ≡ followed_by (statements_of before) (core_in integers n r.1)
  reader : now ≡ at_tokens old rest

pub returns-clause-reads : goal.returns-clause-reads
returns-clause-reads c = λ x a i rest w gi e h.
    let old : Reading = c.args.reader.now in
    let mid : Reading = c.take_name.new.reader in
    let first : Named = c.in_ok-first.first in
    let t = taken_is (onto_initialiser i rest) old mid first x a (c.in_ok-first.ensures.reads x a (onto_initialiser i rest) e) in
    let around = c.scope-scope.ensures.declarator (declarator x a i) rest (e ∙ sym (declarator_onto (declarator x a i) rest))
    (part_ends (first_kind rest) h) in
    renamed {C = Unit {0}} (λ _ r. WasRead old.integers old.variables rest old c.if-has_assignment.reader c.add_array.new.self
    c.args.out.now.items c.if-has_assignment.out.items r) (Ok tt) old.integers (line_at old.text) old.variables c.args.known.now
    c.scope-scope.result i x (name_of first) a first.at t.0 t.1 around
    (λ there. ends i rest (on i rest w gi t.2 h there)) where
      fresh : fresh_array (name_of c.in_ok-first.first) c.in_ok-first.first.at c.args.known.now ≡ Ok c.args.known.now
      fresh = ap (λ y. fresh_array (record { text = y; value = c.in_ok-first.first.value }) c.in_ok-first.first.at c.args.known.now)
          (sym c.bytes.ensures.bytes) ∙ sym c.in_ok-fresh_array.ensures

      -- the sizes as extents
      are : (es : List Extent) → extents_of c.sizes.new.extents.items ≡ extents_of c.new-extents.result.items ++ es
          → es ≡ extents_of c.sizes.new.extents.items
      are es p = sym (p ∙ ap (λ l. extents_of l ++ es) c.new-extents.ensures.items)

      on : (i : Initialiser) (rest : List Token) → IsArray i → GoodInitialiser i
          → c.take_name.new.reader ≡ at_tokens c.args.reader.now (onto_initialiser i rest) → AfterPart (first_kind rest)
          → c.scope-scope.result ≡ among (spell_declarator (declarator (name_of c.in_ok-first.first) c.in_ok-first.first.at i))
          c.args.known.now
          → Behind c.args.reader.now.integers (line_at c.args.reader.now.text) c.args.reader.now.variables c.args.known.now
          (name_of c.in_ok-first.first) c.in_ok-first.first.at i rest c.args.reader.now c.if-has_assignment.reader
          (extents_of c.sizes.new.extents.items) c.if-has_assignment.known c.args.out.now.items c.if-has_assignment.out.items
      on bare rest w gi e h there = absurd w
      on (given a x) rest w gi e h there = absurd w
      on (sized ss) rest w gi e h there =
          let old : Reading = c.args.reader.now in
          let st : State = c.args.known.now in
          let x : Name = name_of c.in_ok-first.first in
          let at : ℕ = c.in_ok-first.first.at in
          let q = c.in_ok-sizes.ensures.reads (Some ss) rest (ap (λ (r : Reading). r.ahead) e) (no_bracket (first_kind rest) h) in
          let k : is_assignment (first_kind c.sizes.new.reader.ahead) ≡ false = ap (λ (r : Reading). is_assignment (first_kind r.ahead))
          q.2.reader ∙ no_assignment (first_kind rest) h in
          elim c.if-has_assignment.branch [
            | then-has_assignment+in_ok-all+in_ok-push_evaluated w ↦ absurd
                (let j : is_assignment (first_kind c.sizes.new.reader.ahead) ≡ true =
                sym c.has_assignment.ensures ∙ w.if-has_assignment.true in cc)
            | else-has_assignment w ↦ record {
              r = (st, nil);
              read = sized_so old.integers (line_at old.text) old.variables st x at fresh ss
                  ∙ ap (λ v. v >>= λ es. Ok (with_array x es st, nil)) q.1
                  ∙ ap (λ (es : List Extent). Ok (with_array x es st, nil)) (are q.0 q.2.extents);
              known = w.known-is;
              out = ap (λ o. statements_of o.items) w.out-is ∙ sym (followed_nil (statements_of c.args.out.now.items));
              reader = w.reader-is ∙ q.2.reader ∙ ap (λ (r : Reading). at_tokens r rest) e;
            }
          ]
      on (filled ss a b vs d) rest w gi e h there =
          let old : Reading = c.args.reader.now in
          let st : State = c.args.known.now in
          let x : Name = name_of c.in_ok-first.first in
          let line : ℕ → ℕ = line_at old.text in
          let integers : Integers = old.integers in
          let n : ℕ = old.variables in
          let at : ℕ = c.in_ok-first.first.at in
          let ts : List Token = onto_values a b vs d rest in
          let sc : State = c.scope-scope.result in
          let q = c.in_ok-sizes.ensures.reads (Some ss) ts (ap (λ (r : Reading). r.ahead) e) tt in
          let here : c.sizes.new.reader ≡ at_tokens old ts = q.2.reader ∙ ap (λ (r : Reading). at_tokens r ts) e in
          let k : is_assignment (first_kind c.sizes.new.reader.ahead) ≡ true = ap (λ (r : Reading). is_assignment (first_kind r.ahead))
          q.2.reader in
          elim c.if-has_assignment.branch [
            | then-has_assignment+in_ok-all+in_ok-push_evaluated w ↦
                let all : Evaluated = w.in_ok-all.all in
                let j : Integers = w.site-site.result.integers in
                let l : ℕ = w.site-site.result.line in
                let v : ℕ = w.site-site.result.variables in
                let by : j ≡ integers = w.site-site.ensures.integers ∙ ap (λ (r : Reading). r.integers) here in
                let lined : l ≡ line at = w.site-site.ensures.line ∙ ap (λ (r : Reading). line_at r.text at) here in
                let many : v ≡ n = w.site-site.ensures.variables ∙ ap (λ (r : Reading). r.variables) here in
                let A : Integers → ℕ → ℕ → Type 0 = λ j l v. Answers (Were j l v c.sizes.new.reader w.filled.new.reader rest) (Ok all)
                (read_values j l sc vs v) in
                let raw : A j l v = w.in_ok-all.ensures.reads a b vs d rest gi (ap (λ (r : Reading). r.ahead) here) in
                let f : A integers (line at) n =
                subst (λ v. A integers (line at) v) many (subst (λ l. A integers l v) lined (subst (λ j. A j l v) by raw)) in
                let ys : Expressions = f.0 in
                let B : Integers → ℕ → Type 0 = λ j v. StandsEvaluated v all (evaluated j (line at) ys v)
                → Answers {A = Unit {0}} (λ _ r. WasEvaluated j v w.push_evaluated.new.known c.args.out.now.items
                w.push_evaluated.new.out.items r) (Ok tt) (read_evaluated j line v st at (evaluates ys (line at))) in
                let g : B integers n = subst (λ v. B integers v) many (subst (λ j. B j v) by
                (w.in_ok-push_evaluated.ensures line ys lined)) in
                let p = g f.2.0 in
                record {
                  r = p.0;
                  read = filled_read integers line n st x at fresh ss a b vs d sc there q.0 ys p.0 q.1 f.1 p.1
                      ∙ ap (λ (es : List Extent). Ok (with_array x es p.0.0, p.0.1)) (are q.0 q.2.extents);
                  known = w.known-is ∙ p.2.0;
                  out = ap (λ o. statements_of o.items) w.out-is ∙ p.2.1;
                  reader = w.reader-is ∙ f.2.1 ∙ ap (λ (r : Reading). at_tokens r rest) here;
                }
            | else-has_assignment w ↦ absurd (let j : is_assignment (first_kind c.sizes.new.reader.ahead) ≡ false =
                sym c.has_assignment.ensures ∙ w.if-has_assignment.false in cc)
          ]

      ends : (i : Initialiser) (rest : List Token) → Behind c.args.reader.now.integers
          (line_at c.args.reader.now.text) c.args.reader.now.variables c.args.known.now
          (name_of c.in_ok-first.first) c.in_ok-first.first.at i rest c.args.reader.now c.if-has_assignment.reader
          (extents_of c.sizes.new.extents.items) c.if-has_assignment.known c.args.out.now.items c.if-has_assignment.out.items
          → Answers {A = Unit {0}} (λ _ r. WasRead c.args.reader.now.integers c.args.reader.now.variables rest c.args.reader.now
          c.if-has_assignment.reader c.add_array.new.self c.args.out.now.items c.if-has_assignment.out.items r) (Ok tt)
          (read_declarator c.args.reader.now.integers (line_at c.args.reader.now.text) c.args.reader.now.variables c.args.known.now
          (declarator (name_of c.in_ok-first.first) c.in_ok-first.first.at i))
      ends i rest b =
          let x : Name = name_of c.in_ok-first.first in
          let es : List Extent = extents_of c.sizes.new.extents.items in
          let now : with_array x es b.r.0 ≡ c.add_array.new.self = ap (λ k. with_array x es k) (sym b.known)
          ∙ same_ok (with_array x es c.if-has_assignment.known) c.add_array.new.self c.in_ok-add_array.ensures in (
            (c.add_array.new.self, b.r.1),
            b.read ∙ ap (λ (k : State). Ok (k, b.r.1)) now,
            record { known = refl; out = b.out; reader = b.reader },
          )
