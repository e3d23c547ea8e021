use Rattle.std.proofs.Common.{◌≡◌, ◌∙◌, ◌++◌, ℕ, List, Some, None, sym, ap, refl, subst, Result, Ok}
use Rattle.std.proofs.lemmas.List.{append-nil}
use Rattle.source_grammar.specs.Tokens as g
use Rattle.source_grammar.specs.Tokens.{Token}
use Rattle.source_grammar.specs.Grammar.{Expr, assigns}
use Rattle.source_core.specs.Elaborated.{Elaborated, elaborated, evaluated}
use Rattle.source_core.specs.Fits.{deeds_fit, result_fits}
use Rattle.source_tree.specs.Expressions.{Expression, none, more}
use Rattle.source_tree.specs.Statements.{Change, sets, evaluates}
use Rattle.source_meaning.specs.declared.fault.FunctionFault.{FunctionFault}
use Rattle.source_meaning.specs.Results.{◌>>=◌}
use Rattle.source_meaning.specs.Names.{State}
use Rattle.source_meaning.specs.Expressions.{read}
use Rattle.source_value.specs.Kept.{kept_deeds}
use Rattle.source_value.specs.Stands.{StandsEvaluated}
use Rattle.source_value.specs.declared.value.Value.{Value}
use Rattle.source_value.specs.declared.value.Evaluated.{Evaluated}
use Rattle.source_reader.specs.Answers.{Answers}
use Rattle.source_reader.specs.Reading.{Reading, at_tokens}
use Rattle.source_expression.specs.Sides.{IsRead}
use Rattle.source_change.specs.Changed.{Aim, a_variable, an_element, StandsChange, old_of, var_of, done_to}
use Rattle.source_change.specs.declared.deeds.Changed.{Changed}
use Rattle.source_change.specs.declared.deeds.Changed.TheVariants as changed
use Rattle.source_change.proofs.limited.Limits.{both_true}
use Rattle.source_change.proofs.firsts.Going.{came_to}
use Rattle.source_change.proofs.results.Answered.{ok_then}
use Rattle.source_change.proofs.results.Binds.{bind_assoc}
use Rattle.source_expression.proofs.Grows.{grows}
use Rattle.base_integers.specs.declared.integers.Integers.{Integers}
use Rattle.source_change.proofs.effects.replaced.Goals as goal

module _ (integers : Integers) (n line : ℕ) (st : State) (sign : ℕ) (e : Expr) where
  -- a variable takes a value
  variable_so : (v : ℕ) (a : Aim) → Some v ≡ var_of a
      → done_to integers n line st a (assigns g.replaces sign e) ≡ (read integers line st e n >>= λ x. Ok (sets v x line))
  variable_so v (a_variable i at) h = let k : i ≡ v = cc in ap (λ i. read integers line st e n >>= λ x. Ok (sets i x line)) k
  variable_so v (an_element old) h = cc

  -- a value is written to an element
  element_so : (a : Aim) → None ≡ var_of a → done_to integers n line st a (assigns g.replaces sign e)
      ≡ (read integers line st e (elaborated integers line (old_of a) n).next >>= λ x. Ok (evaluates (more (old_of a) (more x none)) line))
  element_so (a_variable i at) h = cc
  element_so (an_element old) h = bind_assoc (read integers line st e (elaborated integers line old n).next) (λ x. Ok (more old
      (more x none)))
      (λ es. Ok (evaluates es line))

-- what was done was read up to tokens
abbrev Done : (integers : Integers) (v l : ℕ) → Reading → Reading → List Token → Changed → Change → Type 0
Done integers v l old new ts t g = StandsChange integers v l t g × (new ≡ at_tokens old ts)

-- both values are evaluated
both : (integers : Integers) (n line : ℕ) (old x : Expression) (all : Evaluated)
    → StandsEvaluated n all (record {
      prelude = (elaborated integers line old n).prelude ++ (elaborated integers line x (elaborated integers line old n).next).prelude;
      next = (elaborated integers line x (elaborated integers line old n).next).next;
    })
    → StandsEvaluated n all (evaluated integers line (more old (more x none)) n)
both integers n line old x all s =
    let o : Elaborated = elaborated integers line old n in
    let v : Elaborated = elaborated integers line x o.next in
    let e = ap (λ ds. o.prelude ++ ds) (append-nil v.prelude) in
    record {
      prelude = s.prelude ∙ ap (kept_deeds n v.next) (sym e);
      next = s.next;
      numbers = ap deeds_fit e ∙ s.numbers;
    }

pub returns-in_ok-value-in-Some-clause-reads : goal.returns-in_ok-value-in-Some-clause-reads
returns-in_ok-value-in-Some-clause-reads c = λ a sign e rest t g f after.
    let integers : Integers = c.args.site.integers in
    let n : ℕ = c.args.site.variables in
    let line : ℕ = c.args.site.line in
    let st : State = c.args.scope.now in
    let new : Reading = c.expression.new.reader in
    let v : ℕ = c.in-Some.var in
    let value : Value = c.in_ok-value-in-Some.value in
    let is = Done integers n line c.args.reader.now new rest in
    let P : Result Change FunctionFault → Type 0 = λ w. Answers is (Ok (changed.Sets v value)) w in
    subst P (sym (variable_so integers n line st sign e v a (sym c.in-Some.is ∙ t.var)))
    (ok_then (λ (w : Value) x. IsRead c.args.site n w x × (new.ahead ≡ rest)) is value (Ok (changed.Sets v value))
    (read integers line st e n)
    (λ x. Ok (sets v x line)) (c.in_ok-value-in-Some.ensures.reads e rest g after f)
    (λ x s. (sets v x line, refl, ((refl, refl, s.0), came_to c.args.reader.now new rest c.in_ok-value-in-Some.ensures.goes s.1))))

pub returns-in_ok-with-in-None-clause-reads : goal.returns-in_ok-with-in-None-clause-reads
returns-in_ok-with-in-None-clause-reads c = λ a sign e rest t g f after.
    let integers : Integers = c.args.site.integers in
    let n : ℕ = c.args.site.variables in
    let line : ℕ = c.args.site.line in
    let st : State = c.args.scope.now in
    let new : Reading = c.expression-in-None.new.reader in
    let value : Value = c.in_ok-value-in-None.value in
    let all : Evaluated = c.in_ok-with-in-None.field-0 in
    let o : Elaborated = elaborated integers line (old_of a) n in
    let fit = both_true (deeds_fit o.prelude) (result_fits o.result) t.old.numbers in
    let is = Done integers n line c.args.reader.now new rest in
    let Q : ℕ → Type 0 = λ h. Answers (λ (w : Value) x. IsRead c.args.site h w x
    × (new.ahead ≡ rest)) (Ok value) (read integers line st e h) in
    let P : Result Change FunctionFault → Type 0 = λ w. Answers is (Ok (changed.Evaluates all)) w in
    subst P (sym (element_so integers n line st sign e a (sym c.in-None.is ∙ t.var)))
    (ok_then (λ (w : Value) x. IsRead c.args.site o.next w x × (new.ahead ≡ rest)) is value (Ok (changed.Evaluates all))
    (read integers line st e o.next)
    (λ x. Ok (evaluates (more (old_of a) (more x none)) line)) (subst Q t.old.next (c.in_ok-value-in-None.ensures.reads e rest g after f))
    (λ x s. (
      evaluates (more (old_of a) (more x none)) line,
      refl,
      (
        (
          refl,
          both integers n line (old_of a) x all
              (c.in_ok-with-in-None.ensures n (record { prelude = o.prelude; next = o.next }) (elaborated integers line x o.next)
              (grows integers line x o.next)
              (record { prelude = t.old.prelude; next = t.old.next; numbers = fit.0 }) s.0),
        ),
        came_to c.args.reader.now new rest c.in_ok-value-in-None.ensures.goes s.1,
      ),
    )))
