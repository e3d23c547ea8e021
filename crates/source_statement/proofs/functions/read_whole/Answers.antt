use Rattle.std.proofs.Common.{◌≡◌, ◌∙◌, ◌∷◌, ℕ, List, [], false, Result, Ok, Err, reverse, refl, sym, ap, subst, rules}
use Rattle.lang_tokens.specs.Lines.{line_at}
use Rattle.lang_tree.specs.View.{statements_of}
use Rattle.lang_tree.specs.declared.stmt.Stmt.{Stmt}
use Rattle.source_grammar.specs.Tokens.{Token, token, left_paren, right_paren, left_brace, right_brace}
use Rattle.source_grammar.specs.Grammar.{Function, function, Good, spell}
use Rattle.source_tree.specs.Statements.{Statements}
use Rattle.source_core.specs.Core as core
use Rattle.source_core.specs.Core.{core_in}
use Rattle.source_meaning.specs.declared.fault.FunctionFault.{FunctionFault}
use Rattle.source_meaning.specs.declared.fault.FunctionFault.TheVariants.{NoVariables}
use Rattle.source_meaning.specs.Results.{◌>>=◌}
use Rattle.source_meaning.specs.Names.{State, start_state}
use Rattle.source_meaning.specs.Statements.{followed_by, read_items}
use Rattle.source_meaning.specs.Walk.{function_of, read_parameters, walk, width_of}
use Rattle.source_reader.specs.Answers.{Answers}
use Rattle.source_reader.specs.Marks.{mark_in}
use Rattle.source_reader.specs.Reading.{Reading, at_tokens, first_kind, passed}
use Rattle.source_change.specs.Tests.{WasRead}
use Rattle.source_change.specs.Pushed.{WasPushed}
use Rattle.source_change.proofs.results.Answered.{err_then}
use Rattle.source_statement.specs.Onto.{onto_items, onto_parameters}
use Rattle.source_statement.specs.Whole.{IsWhole}
use Rattle.source_statement.specs.declared.functions.Whole.{Whole}
use Rattle.source_statement.proofs.parts.Functions.{no_variables, none_here, some_here, some_variables, spelled_so, walked}
use Rattle.source_change.proofs.lists.Pushed.{then_pushed}
use Rattle.base_integers.specs.declared.integers.Integers.{Integers}
use Rattle.source_statement.proofs.functions.read_whole.Goals as goal

pub returns : goal.returns
returns c = λ f g e v. on f g e v where
  on : (f : Function) → Good f → c.args.reader.now.ahead ≡ spell f → c.args.reader.now.variables ≡ width_of f
      → Answers (λ (w : Whole) r. IsWhole c.args.reader.now.integers (width_of f) w r) (Ok
      (record { names = c.into_names-names.result; list = c.items.new.out }))
      (walk c.args.reader.now.integers (line_at c.args.reader.now.text) f)
  on (function ss x a ps b i is d) g e v =
      let old : Reading = c.args.reader.now in
      let integers : Integers = old.integers in
      let line : ℕ → ℕ = line_at old.text in
      let n : ℕ = old.variables in
      let o₁ : List Stmt = c.parameters.new.out.items in
      let o₂ : List Stmt = c.items.new.out.items in
      let names : List (List ℕ) = c.into_names-names.result in
      let ts₃ : List Token = onto_items is (token right_brace d ∷ []) in
      let ts₂ : List Token = token left_brace i ∷ ts₃ in
      let ts₁ : List Token = token left_paren a ∷ onto_parameters ps (token right_paren b ∷ ts₂) in
      let mid₁ : c.pass_name.new.reader ≡ at_tokens old ts₁ = c.pass_name.ensures ss x ts₁ (e ∙ spelled_so ss x a ps b i is d) in
      let P : Reading → State → Type 0 = λ m k. Answers {A = Unit {0}} (λ _ r. WasRead m.integers m.variables ts₂ m c.parameters.new.reader
      c.parameters.new.known c.new-list.result.items o₁ r) (Ok tt) (read_parameters m.integers (line_at m.text) k ps) in
      let p : P (at_tokens old ts₁) start_state = subst (λ k. P (at_tokens old ts₁) k) c.new-known.ensures
      (subst (λ m. P m c.new-known.result) mid₁ (c.in_ok-parameters.ensures.reads a ps b ts₂ (ap (λ (r : Reading). r.ahead) mid₁))) in
      let none : c.new-list.result.items ≡ [] = search rules in
      let mid₂ : c.take.new.self ≡ at_tokens old ts₃ = c.in_ok-take.ensures.2 ∙ ap passed p.2.reader in
      let Q : Reading → State → Type 0 = λ m k. Answers {A = Unit {0}} (λ _ r. WasRead m.integers m.variables (token right_brace d ∷ []) m
      c.items.new.reader c.items.new.known o₁ o₂ r) (Ok tt) (read_items m.integers (line_at m.text) m.variables false k is) in
      let q : Q (at_tokens old ts₃) p.0.0 = subst (λ k. Q (at_tokens old ts₃) k) p.2.known
      (subst (λ m. Q m c.parameters.new.known) mid₂ (c.in_ok-items.ensures.reads is d [] g (ap (λ (r : Reading). r.ahead) mid₂))) in
      let N : ℕ → Type 0 = λ n. read_items integers line n false p.0.0 is ≡ Ok q.0 in
      let met : names ≡ reverse q.0.0.variables = c.into_names-names.ensures
      ∙ ap (λ (k : State). reverse k.variables) q.2.known in
      let body : Statements = followed_by p.0.1 q.0.1 in
      let some : names ≡ [] → ⊥ = λ h. some_here c.as_slice.result.now c.if-is_empty.ensures (c.as_slice.ensures ∙ h) in
      let first : WasPushed integers n [] o₁ p.0.1 = p.2.out ∙ ap (λ o. core.followed_by (statements_of o)
      (core_in integers n p.0.1)) none in
      let C : ℕ → Type 0 = λ n. statements_of o₂ ≡ core_in integers n body in
      let all : C n = then_pushed integers n [] o₁ o₂ p.0.1 q.0.1 first q.2.out in (
        (names, body),
        walked integers line ss x a ps b i is d p.0 q.0 p.1 (subst N v q.1) ∙ some_variables integers line q.0.0 body names met some,
        (refl, subst C v all),
      )

pub returns-in_err-parameters : goal.returns-in_err-parameters
returns-in_err-parameters c = λ f g e v. on f g e v where
  on : (f : Function) → Good f → c.args.reader.now.ahead ≡ spell f → c.args.reader.now.variables ≡ width_of f
      → Answers (λ (w : Whole) r. IsWhole c.args.reader.now.integers (width_of f) w r) c.from_residual.result
      (walk c.args.reader.now.integers (line_at c.args.reader.now.text) f)
  on (function ss x a ps b i is d) g e v =
      let old : Reading = c.args.reader.now in
      let integers : Integers = old.integers in
      let line : ℕ → ℕ = line_at old.text in
      let n : ℕ = old.variables in
      let o₁ : List Stmt = c.parameters.new.out.items in
      let ts₃ : List Token = onto_items is (token right_brace d ∷ []) in
      let ts₂ : List Token = token left_brace i ∷ ts₃ in
      let ts₁ : List Token = token left_paren a ∷ onto_parameters ps (token right_paren b ∷ ts₂) in
      let mid₁ : c.pass_name.new.reader ≡ at_tokens old ts₁ = c.pass_name.ensures ss x ts₁ (e ∙ spelled_so ss x a ps b i is d) in
      let P : Reading → State → Type 0 = λ m k. Answers {A = Unit {0}} (λ _ r. WasRead m.integers m.variables ts₂ m c.parameters.new.reader
      c.parameters.new.known c.new-list.result.items o₁ r) (Err c.in_err-parameters.field-0.0) (read_parameters m.integers
      (line_at m.text) k ps) in
      let p : P (at_tokens old ts₁) start_state = subst (λ k. P (at_tokens old ts₁) k) c.new-known.ensures
      (subst (λ m. P m c.new-known.result) mid₁ (c.in_err-parameters.ensures.reads a ps b ts₂ (ap (λ (r : Reading). r.ahead) mid₁))) in
      err_then {A = Unit {0}} (λ _ r. WasRead integers n ts₂
      (at_tokens old ts₁) c.parameters.new.reader c.parameters.new.known c.new-list.result.items o₁ r)
      (λ (w : Whole) r. IsWhole integers (width_of (function ss x a ps b i is d)) w r) c.from_residual.result c.in_err-parameters.field-0.0
      (read_parameters integers line start_state ps)
      (λ p. read_items integers line (width_of (function ss x a ps b i is d)) false p.0 is
      >>= λ r. function_of integers line r.0 (followed_by p.1 r.1)) c.from_residual.ensures.1 p

pub returns-in_err-take : goal.returns-in_err-take
returns-in_err-take c = λ f g e v. on f g e v where
  on : (f : Function) → Good f → c.args.reader.now.ahead ≡ spell f → c.args.reader.now.variables ≡ width_of f
      → Answers (λ (w : Whole) r. IsWhole c.args.reader.now.integers (width_of f) w r) c.from_residual-in_err-take.result
      (walk c.args.reader.now.integers (line_at c.args.reader.now.text) f)
  on (function ss x a ps b i is d) g e v =
      let old : Reading = c.args.reader.now in
      let integers : Integers = old.integers in
      let line : ℕ → ℕ = line_at old.text in
      let n : ℕ = old.variables in
      let o₁ : List Stmt = c.parameters.new.out.items in
      let ts₃ : List Token = onto_items is (token right_brace d ∷ []) in
      let ts₂ : List Token = token left_brace i ∷ ts₃ in
      let ts₁ : List Token = token left_paren a ∷ onto_parameters ps (token right_paren b ∷ ts₂) in
      let mid₁ : c.pass_name.new.reader ≡ at_tokens old ts₁ = c.pass_name.ensures ss x ts₁ (e ∙ spelled_so ss x a ps b i is d) in
      let P : Reading → State → Type 0 = λ m k. Answers {A = Unit {0}} (λ _ r. WasRead m.integers m.variables ts₂ m c.parameters.new.reader
      c.parameters.new.known c.new-list.result.items o₁ r) (Ok tt) (read_parameters m.integers (line_at m.text) k ps) in
      let p : P (at_tokens old ts₁) start_state = subst (λ k. P (at_tokens old ts₁) k) c.new-known.ensures
      (subst (λ m. P m c.new-known.result) mid₁ (c.in_ok-parameters.ensures.reads a ps b ts₂ (ap (λ (r : Reading). r.ahead) mid₁))) in
      absurd (c.in_err-take.ensures.0 (ap (λ (r : Reading). mark_in (first_kind r.ahead)) p.2.reader))

pub returns-in_err-items : goal.returns-in_err-items
returns-in_err-items c = λ f g e v. on f g e v where
  on : (f : Function) → Good f → c.args.reader.now.ahead ≡ spell f → c.args.reader.now.variables ≡ width_of f
      → Answers (λ (w : Whole) r. IsWhole c.args.reader.now.integers (width_of f) w r) c.from_residual-in_err-items.result
      (walk c.args.reader.now.integers (line_at c.args.reader.now.text) f)
  on (function ss x a ps b i is d) g e v =
      let old : Reading = c.args.reader.now in
      let integers : Integers = old.integers in
      let line : ℕ → ℕ = line_at old.text in
      let n : ℕ = old.variables in
      let o₁ : List Stmt = c.parameters.new.out.items in
      let o₂ : List Stmt = c.items.new.out.items in
      let ts₃ : List Token = onto_items is (token right_brace d ∷ []) in
      let ts₂ : List Token = token left_brace i ∷ ts₃ in
      let ts₁ : List Token = token left_paren a ∷ onto_parameters ps (token right_paren b ∷ ts₂) in
      let mid₁ : c.pass_name.new.reader ≡ at_tokens old ts₁ = c.pass_name.ensures ss x ts₁ (e ∙ spelled_so ss x a ps b i is d) in
      let P : Reading → State → Type 0 = λ m k. Answers {A = Unit {0}} (λ _ r. WasRead m.integers m.variables ts₂ m c.parameters.new.reader
      c.parameters.new.known c.new-list.result.items o₁ r) (Ok tt) (read_parameters m.integers (line_at m.text) k ps) in
      let p : P (at_tokens old ts₁) start_state = subst (λ k. P (at_tokens old ts₁) k) c.new-known.ensures
      (subst (λ m. P m c.new-known.result) mid₁ (c.in_ok-parameters.ensures.reads a ps b ts₂ (ap (λ (r : Reading). r.ahead) mid₁))) in
      let mid₂ : c.take.new.self ≡ at_tokens old ts₃ = c.in_ok-take.ensures.2 ∙ ap passed p.2.reader in
      let Q : Reading → State → Type 0 = λ m k. Answers {A = Unit {0}} (λ _ r. WasRead m.integers m.variables (token right_brace d ∷ []) m
      c.items.new.reader c.items.new.known o₁ o₂ r) (Err c.in_err-items.field-0.0) (read_items m.integers
      (line_at m.text) m.variables false k is) in
      let q : Q (at_tokens old ts₃) p.0.0 = subst (λ k. Q (at_tokens old ts₃) k) p.2.known
      (subst (λ m. Q m c.parameters.new.known) mid₂ (c.in_err-items.ensures.reads is d [] g (ap (λ (r : Reading). r.ahead) mid₂))) in
      let w : ℕ = width_of (function ss x a ps b i is d) in
      let put : State × Statements → Result (List (List ℕ) × Statements) FunctionFault = λ r. function_of integers line r.0
      (followed_by p.0.1 r.1) in
      let N : ℕ → Type 0 = λ n. Answers {A = Unit {0}} (λ _ r. WasRead integers n (token right_brace d ∷ []) (at_tokens old ts₃)
      c.items.new.reader c.items.new.known o₁ o₂ r) (Err c.in_err-items.field-0.0) (read_items integers line n false p.0.0 is) in
      let W : Result (List (List ℕ) × Statements) FunctionFault → Type 0 = λ t. Answers (λ (w : Whole) r. IsWhole integers
      (width_of (function ss x a ps b i is d)) w r) c.from_residual-in_err-items.result t in
      subst W (sym (ap (λ t. t >>= (λ p. read_items integers line (width_of (function ss x a ps b i is d)) false p.0 is
      >>= λ r. function_of integers line r.0 (followed_by p.1 r.1))) p.1))
      (err_then {A = Unit {0}} (λ _ r. WasRead integers w (token right_brace d ∷ []) (at_tokens old ts₃)
      c.items.new.reader c.items.new.known o₁ o₂ r) (λ (w : Whole) r. IsWhole integers (width_of (function ss x a ps b i is d)) w r)
      c.from_residual-in_err-items.result c.in_err-items.field-0.0 (read_items integers line w false p.0.0 is) put
      c.from_residual-in_err-items.ensures.1 (subst N v q))

pub returns-then-is_empty : goal.returns-then-is_empty
returns-then-is_empty c = λ f g e v m. on f g e v where
  on : (f : Function) → Good f → c.args.reader.now.ahead ≡ spell f → c.args.reader.now.variables ≡ width_of f
      → walk c.args.reader.now.integers (line_at c.args.reader.now.text) f ≡ Err NoVariables
  on (function ss x a ps b i is d) g e v =
      let old : Reading = c.args.reader.now in
      let integers : Integers = old.integers in
      let line : ℕ → ℕ = line_at old.text in
      let n : ℕ = old.variables in
      let o₁ : List Stmt = c.parameters.new.out.items in
      let o₂ : List Stmt = c.items.new.out.items in
      let names : List (List ℕ) = c.into_names-names.result in
      let ts₃ : List Token = onto_items is (token right_brace d ∷ []) in
      let ts₂ : List Token = token left_brace i ∷ ts₃ in
      let ts₁ : List Token = token left_paren a ∷ onto_parameters ps (token right_paren b ∷ ts₂) in
      let mid₁ : c.pass_name.new.reader ≡ at_tokens old ts₁ = c.pass_name.ensures ss x ts₁ (e ∙ spelled_so ss x a ps b i is d) in
      let P : Reading → State → Type 0 = λ m k. Answers {A = Unit {0}} (λ _ r. WasRead m.integers m.variables ts₂ m c.parameters.new.reader
      c.parameters.new.known c.new-list.result.items o₁ r) (Ok tt) (read_parameters m.integers (line_at m.text) k ps) in
      let p : P (at_tokens old ts₁) start_state = subst (λ k. P (at_tokens old ts₁) k) c.new-known.ensures
      (subst (λ m. P m c.new-known.result) mid₁ (c.in_ok-parameters.ensures.reads a ps b ts₂ (ap (λ (r : Reading). r.ahead) mid₁))) in
      let mid₂ : c.take.new.self ≡ at_tokens old ts₃ = c.in_ok-take.ensures.2 ∙ ap passed p.2.reader in
      let Q : Reading → State → Type 0 = λ m k. Answers {A = Unit {0}} (λ _ r. WasRead m.integers m.variables (token right_brace d ∷ []) m
      c.items.new.reader c.items.new.known o₁ o₂ r) (Ok tt) (read_items m.integers (line_at m.text) m.variables false k is) in
      let q : Q (at_tokens old ts₃) p.0.0 = subst (λ k. Q (at_tokens old ts₃) k) p.2.known
      (subst (λ m. Q m c.parameters.new.known) mid₂ (c.in_ok-items.ensures.reads is d [] g (ap (λ (r : Reading). r.ahead) mid₂))) in
      let N : ℕ → Type 0 = λ n. read_items integers line n false p.0.0 is ≡ Ok q.0 in
      let met : names ≡ reverse q.0.0.variables = c.into_names-names.ensures
      ∙ ap (λ (k : State). reverse k.variables) q.2.known in
      walked integers line ss x a ps b i is d p.0 q.0 p.1 (subst N v q.1)
      ∙ no_variables integers line q.0.0 (followed_by p.0.1 q.0.1) names met
      (sym c.as_slice.ensures ∙ none_here c.as_slice.result.now c.if-is_empty.ensures)
