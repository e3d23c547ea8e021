use Rattle.std.proofs.Common.{◌≡◌, ◌∙◌, ◌∷◌, ◌++◌, [], ℕ, Bool, List, Option, Some, None, Result, Ok, Err, refl}
use Rattle.std.proofs.Common.{sym, ap, append_assoc, subst}
use Rattle.lang_tokens.specs.Lines.{line_at}
use Rattle.lang_tree.specs.Tree.{nodes_in}
use Rattle.source_grammar.specs.Tokens.{Name, Token, token, a_name, left_paren, right_paren, semicolon}
use Rattle.source_grammar.specs.Grammar.{Arguments, calls, spell_arguments, spell_expr}
use Rattle.source_grammar.specs.Grammar as tree
use Rattle.source_tree.specs.Expressions.{Expressions}
use Rattle.source_tree.specs.Statements.{Statements, evaluates}
use Rattle.source_core.specs.Elaborated.{evaluated}
use Rattle.source_core.specs.Core.{core_in}
use Rattle.source_meaning.specs.declared.fault.FunctionFault.{FunctionFault}
use Rattle.source_meaning.specs.Results.{◌>>=◌}
use Rattle.source_meaning.specs.Names.{State, Thing, among, as_called, thing_of}
use Rattle.source_meaning.specs.Limits.{counted}
use Rattle.source_meaning.specs.Expressions.{read_arguments}
use Rattle.source_meaning.specs.Statements.{call_of, followed_by, read_core, read_evaluated}
use Rattle.source_value.specs.Stands.{StandsEvaluated}
use Rattle.source_value.specs.declared.value.Evaluated.{Evaluated}
use Rattle.source_reader.specs.Answers.{Answers}
use Rattle.source_reader.specs.declared.stop.Stop.{Stop}
use Rattle.source_reader.specs.Reading.{Reading, at_tokens}
use Rattle.source_change.specs.Pushed.{WasEvaluated, WasPushed}
use Rattle.source_change.specs.Tests.{WasRead, WasTaken, name_of}
use Rattle.source_change.specs.declared.names.Named.{Named}
use Rattle.source_change.proofs.firsts.Taken.{taken_is}
use Rattle.source_change.proofs.results.Answered.{answers_so, err_never, err_then, ok_then}
use Rattle.source_change.proofs.results.Binds.{bind_assoc}
use Rattle.source_change.proofs.lists.Pushed.{then_pushed}
use Rattle.source_statement.specs.Parts.{read_given}
use Rattle.base_integers.specs.declared.integers.Integers.{Integers}
use Rattle.source_statement.proofs.call.call.Goals as goal

-- a call before its `;`
called_onto : (x : Name) (a b : ℕ) (es : Arguments) (c d : ℕ) (rest : List Token)
    → token (a_name x) a ∷ token left_paren b ∷ (spell_arguments es ++ token right_paren c ∷ token semicolon d ∷ rest)
    ≡ spell_expr (tree.call x a b es c) ++ token semicolon d ∷ rest
called_onto x a b es c d rest = ap (λ ts. token (a_name x) a ∷ token left_paren b ∷ ts)
    (sym (append_assoc (spell_arguments es) (token right_paren c ∷ []) (token semicolon d ∷ rest)))

-- behind a name that may be called come these arguments
called_as : {A : Type 0} (at : ℕ) (t : Option Thing) (es : Arguments) (f g : Arguments → Result A FunctionFault) → f es ≡ g es
    → (as_called at t es >>= f) ≡ (as_called at t es >>= g)
called_as at None es f g e = e
called_as at (Some t) es f g e = refl

module _ (integers : Integers) (line : ℕ → ℕ) (n : ℕ) (st : State) where
  -- what the call of this name at this place does behind its arguments
  abbrev put : Name → (at : ℕ) → State × Statements → Result (State × Statements) FunctionFault
  put x at r = counted at (nodes_in (core_in integers n (call_of x at (line at)))) r.0
      >>= λ now. Ok (now, followed_by r.1 (call_of x at (line at)))

  -- a call is its arguments, which are read there and evaluated, and what it does behind them
  calls_so : (inside : Bool) (x : Name) (a b : ℕ) (es : Arguments) (c d : ℕ) (there : State)
      → there ≡ among (spell_expr (tree.call x a b es c)) st
      → read_core integers line n inside st (calls x a b es c d)
      ≡ (read_given integers (line a) n there x a es >>= λ ys. read_evaluated integers line n st a (evaluates ys (line a)) >>= put x a)
  calls_so inside x a b es c d there e =
      let among_them : Arguments → Result Expressions FunctionFault =
      λ es. read_arguments integers (line a) (among (spell_expr (tree.call x a b es c)) st) es n in
      let then : Expressions → Result (State × Statements) FunctionFault =
      λ ys. read_evaluated integers line n st a (evaluates ys (line a)) >>= put x a in
      sym (bind_assoc (as_called a (thing_of x st) es) among_them then)
      ∙ ap (λ w. w >>= then) (called_as a (thing_of x st) es among_them
      (λ fs. read_arguments integers (line a) (among (spell_expr (tree.call x a b es c)) st) fs n) refl)
      ∙ ap (λ z. read_given integers (line a) n z x a es >>= then) (sym e)

  -- what is answered of the call of one name is answered of that of the same name
  renamed : {C : Type 0} (Is : C → State × Statements → Type 0) (r : Result C Stop) (inside : Bool) (x y : Name) (a k b : ℕ)
      (es : Arguments) (c d : ℕ) (there : State) → y ≡ x → k ≡ a → there ≡ among (spell_expr (tree.call x a b es c)) st
      → (there ≡ among (spell_expr (tree.call y k b es c)) st
      → Answers Is r (read_core integers line n inside st (calls y k b es c d)))
      → Answers Is r (read_core integers line n inside st (calls x a b es c d))
  renamed Is r inside x y a k b es c d there p q e f =
      let P : Name → ℕ → Type 0 = λ z m. there ≡ among (spell_expr (tree.call z m b es c)) st
      → Answers Is r (read_core integers line n inside st (calls z m b es c d)) in
      subst (λ z. P z a) p (subst (λ m. P y m) q f) e

-- the arguments were read up to tokens
abbrev Were : Reading → Reading → List Token → Integers → ℕ → ℕ → Evaluated → Expressions → Type 0
Were old new ts integers l v w ys = StandsEvaluated v w (evaluated integers l ys v) × (new ≡ at_tokens old ts)

pub returns-in_err-first-clause-reads : goal.returns-in_err-first-clause-reads
returns-in_err-first-clause-reads c = λ inside x a b es d i rest g e.
    let ts : List Token = token left_paren b ∷ (spell_arguments es ++ token right_paren d ∷ token semicolon i ∷ rest) in
    err_never (λ (n : Named) p. WasTaken ts c.args.reader.now c.take_name.new.reader n p)
    (λ _ r. WasRead c.args.reader.now.integers c.args.reader.now.variables rest c.args.reader.now c.take_name.new.reader c.args.known.now
    c.args.out.now.items c.args.out.now.items r) c.from_residual.result c.in_err-first.field-0.0 (x, a)
    (read_core c.args.reader.now.integers (line_at c.args.reader.now.text) c.args.reader.now.variables inside c.args.known.now
    (calls x a b es d i))
    c.from_residual.ensures.1 (c.in_err-first.ensures.reads x a ts e)

pub returns-in_err-all-clause-reads : goal.returns-in_err-all-clause-reads
returns-in_err-all-clause-reads c = λ inside x a b es d i rest g e.
    let old : Reading = c.args.reader.now in
    let mid : Reading = c.take_name.new.reader in
    let new : Reading = c.given.new.reader in
    let integers : Integers = old.integers in
    let n : ℕ = old.variables in
    let line : ℕ → ℕ = line_at old.text in
    let st : State = c.args.known.now in
    let there : State = c.scope-scope.result in
    let first : Named = c.in_ok-first.first in
    let y : Name = name_of first in
    let at : ℕ = first.at in
    let ts : List Token = token left_paren b ∷ (spell_arguments es ++ token right_paren d ∷ token semicolon i ∷ rest) in
    let t = taken_is ts old mid first x a (c.in_ok-first.ensures.reads x a ts e) in
    let j : Integers = c.site-site.result.integers in
    let l : ℕ = c.site-site.result.line in
    let v : ℕ = c.site-site.result.variables in
    let by : j ≡ integers = c.site-site.ensures.integers ∙ ap (λ (r : Reading). r.integers) t.2 in
    let lined : l ≡ line at = c.site-site.ensures.line ∙ ap (λ (r : Reading). line_at r.text at) t.2 in
    let many : v ≡ n = c.site-site.ensures.variables ∙ ap (λ (r : Reading). r.variables) t.2 in
    let res = c.from_residual-in_err-all.result in
    let s : Stop = c.in_err-all.field-0.0 in
    let is : Unit {0} → State × Statements → Type 0 = λ _ r. WasRead integers n rest old new st c.args.out.now.items
    c.args.out.now.items r in
    let A : Integers → ℕ → ℕ → Type 0 = λ j l v. Answers (Were mid new rest j l v) (Err s) (read_given j l v there y at es) in
    let raw : A j l v = c.in_err-all.ensures.reads b es d i rest g (ap (λ (r : Reading). r.ahead) t.2) in
    let q : A integers (line at) n =
    subst (λ v. A integers (line at) v) many (subst (λ l. A integers l v) lined (subst (λ j. A j l v) by raw)) in
    renamed integers line n st is res inside x y a at b es d i there t.0 t.1
    (c.scope-scope.ensures.expression (tree.call x a b es d) (token semicolon i ∷ rest) (e ∙ called_onto x a b es d i rest) refl)
    (λ around. let P : Result (State × Statements) FunctionFault → Type 0 = λ w. Answers is res w in
    subst P (sym (calls_so integers line n st inside y at b es d i there around))
    (err_then (Were mid new rest integers (line at) n) is res s (read_given integers (line at) n there y at es)
    (λ ys. read_evaluated integers line n st at (evaluates ys (line at)) >>= put integers line n st y at)
    c.from_residual-in_err-all.ensures.1 q))

pub returns-in_err-push_evaluated-clause-reads : goal.returns-in_err-push_evaluated-clause-reads
returns-in_err-push_evaluated-clause-reads c = λ inside x a b es d i rest g e.
    let old : Reading = c.args.reader.now in
    let mid : Reading = c.take_name.new.reader in
    let new : Reading = c.given.new.reader in
    let integers : Integers = old.integers in
    let n : ℕ = old.variables in
    let line : ℕ → ℕ = line_at old.text in
    let st : State = c.args.known.now in
    let there : State = c.scope-scope.result in
    let first : Named = c.in_ok-first.first in
    let all : Evaluated = c.in_ok-all.all in
    let y : Name = name_of first in
    let at : ℕ = first.at in
    let ts : List Token = token left_paren b ∷ (spell_arguments es ++ token right_paren d ∷ token semicolon i ∷ rest) in
    let t = taken_is ts old mid first x a (c.in_ok-first.ensures.reads x a ts e) in
    let j : Integers = c.site-site.result.integers in
    let l : ℕ = c.site-site.result.line in
    let v : ℕ = c.site-site.result.variables in
    let by : j ≡ integers = c.site-site.ensures.integers ∙ ap (λ (r : Reading). r.integers) t.2 in
    let lined : l ≡ line at = c.site-site.ensures.line ∙ ap (λ (r : Reading). line_at r.text at) t.2 in
    let many : v ≡ n = c.site-site.ensures.variables ∙ ap (λ (r : Reading). r.variables) t.2 in
    let res = c.from_residual-in_err-push_evaluated.result in
    let s : Stop = c.in_err-push_evaluated.field-0.0 in
    let is : Unit {0} → State × Statements → Type 0 = λ _ r. WasRead integers n rest old new c.push_evaluated.new.known
    c.args.out.now.items c.push_evaluated.new.out.items r in
    let A : Integers → ℕ → ℕ → Type 0 = λ j l v. Answers (Were mid new rest j l v) (Ok all) (read_given j l v there y at es) in
    let raw : A j l v = c.in_ok-all.ensures.reads b es d i rest g (ap (λ (r : Reading). r.ahead) t.2) in
    let q : A integers (line at) n =
    subst (λ v. A integers (line at) v) many (subst (λ l. A integers l v) lined (subst (λ j. A j l v) by raw)) in
    renamed integers line n st is res inside x y a at b es d i there t.0 t.1
    (c.scope-scope.ensures.expression (tree.call x a b es d) (token semicolon i ∷ rest) (e ∙ called_onto x a b es d i rest) refl)
    (λ around. let P : Result (State × Statements) FunctionFault → Type 0 = λ w. Answers is res w in
    subst P (sym (calls_so integers line n st inside y at b es d i there around))
    (ok_then (Were mid new rest integers (line at) n) is all res (read_given integers (line at) n there y at es)
    (λ ys. read_evaluated integers line n st at (evaluates ys (line at)) >>= put integers line n st y at) q
    (λ ys h.
    let B : Integers → ℕ → Type 0 = λ j v. StandsEvaluated v all (evaluated j (line at) ys v)
    → Answers {A = Unit {0}} (λ _ r. WasEvaluated j v c.push_evaluated.new.known c.args.out.now.items c.push_evaluated.new.out.items r)
    (Err s) (read_evaluated j line v st at (evaluates ys (line at))) in
    let f : B integers n = subst (λ v. B integers v) many (subst (λ j. B j v) by (c.in_err-push_evaluated.ensures line ys lined)) in
    err_then {A = Unit {0}} (λ _ r. WasEvaluated integers n c.push_evaluated.new.known c.args.out.now.items
    c.push_evaluated.new.out.items r) is res s (read_evaluated integers line n st at (evaluates ys (line at)))
    (put integers line n st y at) c.from_residual-in_err-push_evaluated.ensures.1 (f h.0))))

pub returns-clause-reads : goal.returns-clause-reads
returns-clause-reads c = λ inside x a b es d i rest g e.
    let old : Reading = c.args.reader.now in
    let mid : Reading = c.take_name.new.reader in
    let new : Reading = c.given.new.reader in
    let integers : Integers = old.integers in
    let n : ℕ = old.variables in
    let line : ℕ → ℕ = line_at old.text in
    let st : State = c.args.known.now in
    let there : State = c.scope-scope.result in
    let first : Named = c.in_ok-first.first in
    let all : Evaluated = c.in_ok-all.all in
    let y : Name = name_of first in
    let at : ℕ = first.at in
    let ts : List Token = token left_paren b ∷ (spell_arguments es ++ token right_paren d ∷ token semicolon i ∷ rest) in
    let t = taken_is ts old mid first x a (c.in_ok-first.ensures.reads x a ts e) in
    let j : Integers = c.site-site.result.integers in
    let l : ℕ = c.site-site.result.line in
    let v : ℕ = c.site-site.result.variables in
    let by : j ≡ integers = c.site-site.ensures.integers ∙ ap (λ (r : Reading). r.integers) t.2 in
    let lined : l ≡ line at = c.site-site.ensures.line ∙ ap (λ (r : Reading). line_at r.text at) t.2 in
    let many : v ≡ n = c.site-site.ensures.variables ∙ ap (λ (r : Reading). r.variables) t.2 in
    let res = c.push_call.result in
    let after : Statements = call_of y at (line at) in
    let is : Unit {0} → State × Statements → Type 0 = λ _ r. WasRead integers n rest old new c.push_call.new.known
    c.args.out.now.items c.push_call.new.out.items r in
    let A : Integers → ℕ → ℕ → Type 0 = λ j l v. Answers (Were mid new rest j l v) (Ok all) (read_given j l v there y at es) in
    let raw : A j l v = c.in_ok-all.ensures.reads b es d i rest g (ap (λ (r : Reading). r.ahead) t.2) in
    let q : A integers (line at) n =
    subst (λ v. A integers (line at) v) many (subst (λ l. A integers l v) lined (subst (λ j. A j l v) by raw)) in
    let C : Reading → State → Type 0 = λ m k. Answers {A = Unit {0}} (λ _ st. (c.push_call.new.known ≡ st)
    × WasPushed m.integers m.variables c.push_evaluated.new.out.items c.push_call.new.out.items (call_of y at (line_at m.text at)))
    c.push_call.result (counted at (nodes_in (core_in m.integers m.variables (call_of y at (line_at m.text at)))) k) in
    renamed integers line n st is res inside x y a at b es d i there t.0 t.1
    (c.scope-scope.ensures.expression (tree.call x a b es d) (token semicolon i ∷ rest) (e ∙ called_onto x a b es d i rest) refl)
    (λ around. let P : Result (State × Statements) FunctionFault → Type 0 = λ w. Answers is res w in
    subst P (sym (calls_so integers line n st inside y at b es d i there around))
    (ok_then (Were mid new rest integers (line at) n) is all res (read_given integers (line at) n there y at es)
    (λ ys. read_evaluated integers line n st at (evaluates ys (line at)) >>= put integers line n st y at) q
    (λ ys h.
    let end : new ≡ at_tokens old rest = h.1 ∙ ap (λ (r : Reading). at_tokens r rest) t.2 in
    let done : C (at_tokens old rest) c.push_evaluated.new.known = subst (λ m. C m c.push_evaluated.new.known) end c.push_call.ensures in
    let B : Integers → ℕ → Type 0 = λ j v. StandsEvaluated v all (evaluated j (line at) ys v)
    → Answers {A = Unit {0}} (λ _ r. WasEvaluated j v c.push_evaluated.new.known c.args.out.now.items c.push_evaluated.new.out.items r)
    (Ok tt) (read_evaluated j line v st at (evaluates ys (line at))) in
    let f : B integers n = subst (λ v. B integers v) many (subst (λ j. B j v) by (c.in_ok-push_evaluated.ensures line ys lined)) in
    ok_then {A = Unit {0}} (λ _ r. WasEvaluated integers n c.push_evaluated.new.known c.args.out.now.items
    c.push_evaluated.new.out.items r) is tt res (read_evaluated integers line n st at (evaluates ys (line at)))
    (put integers line n st y at) (f h.0)
    (λ r w. answers_so {A = Unit {0}} (λ _ st. (c.push_call.new.known ≡ st)
    × WasPushed integers n c.push_evaluated.new.out.items c.push_call.new.out.items after) is res
    (counted at (nodes_in (core_in integers n after)) r.0) (put integers line n st y at r) (λ now. (now, followed_by r.1 after)) refl
    (λ u now s. record {
      known = s.0;
      out = then_pushed integers n c.args.out.now.items c.push_evaluated.new.out.items c.push_call.new.out.items r.1 after w.1 s.1;
      reader = end;
    })
    (subst (λ k. C (at_tokens old rest) k) w.0 done)))))
