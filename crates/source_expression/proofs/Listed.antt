-- Expressions that are evaluated one after another.
use Rattle.std.proofs.Common.{◌≡◌, ◌∙◌, ◌≤◌, ◌++◌, ℕ, Bool, true, false, cond, List, Result, Ok, Err, refl, sym, ap, subst}
use Rattle.std.proofs.Common.{append_assoc, append-nil}
use Rattle.std.specs.Result.{IsErrAnd}
use Rattle.lang_tree.specs.Tree.{Deed}
use Rattle.source_tree.specs.Expressions.{Expression, Expressions, none, more}
use Rattle.source_core.specs.Elaborated.{Elaborated, Evaluated, elaborated, evaluated}
use Rattle.source_core.specs.Elaborated as core
use Rattle.source_grammar.specs.Tokens.{Token}
use Rattle.source_grammar.specs.Grammar.{Expr, MoreArguments, next_argument, Value, MoreValues, next_value, spell_expr, Groups}
use Rattle.source_grammar.proofs.grammar.Follow.{AfterExpr}
use Rattle.source_meaning.specs.declared.fault.FunctionFault.{FunctionFault}
use Rattle.source_meaning.specs.Results.{◌>>=◌}
use Rattle.source_meaning.specs.Names.{State}
use Rattle.source_meaning.specs.Expressions.{is_array_name, read, read_more, read_value, read_more_values}
use Rattle.source_value.specs.declared.site.Site.{Site}
use Rattle.source_value.specs.declared.value.Value as code_value
use Rattle.source_value.specs.declared.value.Evaluated as code_evaluated
use Rattle.source_value.specs.Stands.{Stands, StandsEvaluated}
use Rattle.source_reader.specs.declared.stop.Stop.{Stop}
use Rattle.source_reader.specs.Answers.{Answers}
use Rattle.source_reader.specs.Reading.{Reading, first_kind}
use Rattle.source_expression.specs.Sides.{IsRead, IsEvaluatedOf}
use Rattle.source_expression.specs.Readings.{Reads, ReadsAll}
use Rattle.source_expression.specs.Joins.{with_last, read_behind}
use Rattle.source_expression.specs.Lists.{and_one, read_one, read_argument, read_listed, read_values_behind}
use Rattle.source_expression.proofs.Answering.{handed_then}
use Rattle.source_expression.proofs.Joined.{bind_ok}
use Rattle.source_expression.proofs.Grows.{grows}
use Rattle.base_integers.specs.declared.integers.Integers.{Integers}

made : List Deed → ℕ → Evaluated
made ds n = record { prelude = ds; next = n }

module _ (integers : Integers) (line : ℕ) where
  -- expressions and one more behind them are evaluated so
  pub one_more : (xs : Expressions) (x : Expression) (h : ℕ) → evaluated integers line (and_one xs x) h
      ≡ record {
        prelude = (evaluated integers line xs h).prelude ++ (elaborated integers line x (evaluated integers line xs h).next).prelude;
        next = (elaborated integers line x (evaluated integers line xs h).next).next;
      }
  unfolding made
  one_more none x h = ap (λ ds. made ds (elaborated integers line x h).next) (append-nil (elaborated integers line x h).prelude)
  one_more (more y ys) x h =
      let a = elaborated integers line y h in
      let b = evaluated integers line ys a.next in
      let c = elaborated integers line x b.next in
      ap (λ (e : Evaluated). made (a.prelude ++ e.prelude) e.next) (one_more ys x a.next)
      ∙ ap (λ ds. made ds c.next) (sym (append_assoc a.prelude b.prelude c.prelude))

-- nothing behind expressions
pub with_none : (xs : Expressions) → with_last xs none ≡ xs
with_none none = refl
with_none (more x xs) = ap (more x) (with_none xs)

with_two : (xs : Expressions) (x : Expression) (ys : Expressions) → with_last (and_one xs x) ys ≡ with_last xs (more x ys)
with_two none x ys = refl
with_two (more z zs) x ys = ap (more z) (with_two zs x ys)

module _ (integers : Integers) (line : ℕ) where
  -- one more expression is read behind some, and then others
  pub one_read : (xs : Expressions) (h : ℕ) (r : Result Expression FunctionFault) (f : ℕ → Result Expressions FunctionFault)
      → ((r >>= λ x. f (elaborated integers line x (evaluated integers line xs h).next).next >>= λ ys. Ok (more x ys))
      >>= λ ys. Ok (with_last xs ys))
      ≡ ((r >>= λ x. Ok (and_one xs x)) >>= λ zs. f (evaluated integers line zs h).next >>= λ ys. Ok (with_last zs ys))
  one_read xs h (Err e) f = refl
  one_read xs h (Ok x) f = by (f (elaborated integers line x (evaluated integers line xs h).next).next)
      ∙ ap (λ (d : Evaluated). f d.next >>= λ ys. Ok (with_last (and_one xs x) ys)) (sym (one_more integers line xs x h)) where
        by : (q : Result Expressions FunctionFault) → ((q >>= λ ys. Ok (more x ys)) >>= λ ys. Ok (with_last xs ys))
            ≡ (q >>= λ ys. Ok (with_last (and_one xs x) ys))
        by (Ok ys) = ap Ok (sym (with_two xs x ys))
        by (Err e) = refl

module _ (integers : Integers) (line : ℕ) (st : State) where
  -- one more argument is read behind some
  pub next_argument_read : (xs : Expressions) (a : ℕ) (e : Expr) (es : MoreArguments) (h : ℕ)
      → read_behind integers line st xs (next_argument a e es) h
      ≡ (read_argument integers line st xs e h >>= λ ys. read_behind integers line st ys es h)
  next_argument_read xs a e es h = by (is_array_name st e) where
    n : ℕ
    n = (evaluated integers line xs h).next

    by : (b : Bool) → (cond b (read_more integers line st es n)
        (read integers line st e n >>= λ x. read_more integers line st es (elaborated integers line x n).next >>= λ ys. Ok (more x ys))
        >>= λ ys. Ok (with_last xs ys))
        ≡ (cond b (Ok xs) (read integers line st e n >>= λ x. Ok (and_one xs x)) >>= λ ys. read_behind integers line st ys es h)
    by true = refl
    by false = one_read integers line xs h (read integers line st e n) (λ m. read_more integers line st es m)

  -- and the first one
  pub first_argument_read : (a : ℕ) (e : Expr) (es : MoreArguments) (h : ℕ) → read_more integers line st (next_argument a e es) h
      ≡ (read_argument integers line st none e h >>= λ ys. read_behind integers line st ys es h)
  first_argument_read a e es h =
      sym (bind_ok (read_more integers line st (next_argument a e es) h)) ∙ next_argument_read none a e es h

  -- one more value is read behind some
  pub next_value_read : (xs : Expressions) (a : ℕ) (v : Value) (vs : MoreValues) (h : ℕ)
      → read_values_behind integers line st xs (next_value a v vs) h
      ≡ (read_listed integers line st xs v h >>= λ ys. read_values_behind integers line st ys vs h)
  next_value_read xs a v vs h =
      one_read integers line xs h (read_value integers line st v (evaluated integers line xs h).next)
      (λ m. read_more_values integers line st vs m)

  -- and the first one
  pub first_value_read : (a : ℕ) (v : Value) (vs : MoreValues) (h : ℕ) → read_more_values integers line st (next_value a v vs) h
      ≡ (read_listed integers line st none v h >>= λ ys. read_values_behind integers line st ys vs h)
  first_value_read a v vs h =
      sym (bind_ok (read_more_values integers line st (next_value a v vs) h)) ∙ next_value_read none a v vs h

-- one more expression is evaluated behind others
pub with_one : (site : Site) (h : ℕ) (xs : Expressions) (x : Expression) (v : code_evaluated.Evaluated) (w : code_value.Value)
    (all : code_evaluated.Evaluated) → IsEvaluatedOf site h v xs → IsRead site v.next w x
    → ((n : ℕ) (d : core.Evaluated) (e : Elaborated) → d.next ≤ e.next → StandsEvaluated n v d → Stands n w e
    → StandsEvaluated n all (record { prelude = d.prelude ++ e.prelude; next = e.next })) → IsEvaluatedOf site h all (and_one xs x)
with_one site h xs x v w all i j k =
    let d = evaluated site.integers site.line xs h in
    let r : IsRead site d.next w x = subst (λ n. IsRead site n w x) i.next j in
    subst (λ d. StandsEvaluated site.variables all d) (sym (one_more site.integers site.line xs x h))
    (k site.variables d (elaborated site.integers site.line x d.next) (grows site.integers site.line x d.next) i r)

-- what reading an expression answers
abbrev pub ReadsExpr : Site → State → ℕ → Reading → Result code_value.Value Stop → Reading → Type 0
ReadsExpr site st h now result after = (e : Expr) (rest : List Token) → Groups 0 e → AfterExpr (first_kind rest)
    → now.ahead ≡ spell_expr e ++ rest → Reads site h (read site.integers site.line st e h) rest result after

module _ (site : Site) (st : State) (h : ℕ) (xs : Expressions) (e : Expr) (rest : List Token) (v : code_evaluated.Evaluated)
    (i : IsEvaluatedOf site h v xs) (g : Groups 0 e) (a : AfterExpr (first_kind rest)) (now : Reading)
    (q : now.ahead ≡ spell_expr e ++ rest) where
  -- the hidden variable that is next behind those before
  abbrev next : ℕ
  next = (evaluated site.integers site.line xs h).next

  -- a fault of an expression behind others
  pub one_fault : (out : Result code_evaluated.Evaluated Stop) (s : Stop) (after : Reading) → IsErrAnd out (λ z. z ≡ s)
      → ReadsExpr site st v.next now (Err s) after → ReadsAll site h (read_one site.integers site.line st xs e h) rest out after
  one_fault out s after k r =
      let Is : code_value.Value → Expression → Type 0 = λ w x. IsRead site v.next w x × (after.ahead ≡ rest) in
      handed_then Is (λ v xs. IsEvaluatedOf site h v xs × (after.ahead ≡ rest)) out s (read site.integers site.line st e next)
      (λ x. Ok (and_one xs x)) k
      (subst (λ n. Answers Is (Err s) (read site.integers site.line st e n)) i.next (r e rest g a q))

  -- the expression behind them
  pub one_done : (w : code_value.Value) (all : code_evaluated.Evaluated) (after : Reading) → ReadsExpr site st v.next now (Ok w) after
      → ((n : ℕ) (d : core.Evaluated) (e : Elaborated) → d.next ≤ e.next → StandsEvaluated n v d → Stands n w e
      → StandsEvaluated n all (record { prelude = d.prelude ++ e.prelude; next = e.next }))
      → ReadsAll site h (read_one site.integers site.line st xs e h) rest (Ok all) after
  one_done w all after r k =
      let t = r e rest g a q in
      let p : read site.integers site.line st e next ≡ Ok t.0 =
      subst (λ n. read site.integers site.line st e n ≡ Ok t.0) i.next t.1 in (
        and_one xs t.0,
        ap (λ r. r >>= λ x. Ok (and_one xs x)) p,
        (with_one site h xs t.0 v w all i t.2.0 k, t.2.1),
      )
