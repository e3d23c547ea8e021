-- What readings answer, and where the reader then is.
use Rattle.std.specs.Prelude.{◌≡◌, ℕ, List, Result, Ok}
use Rattle.source_tree.specs.Expressions.{Expression, Expressions, Subscripts}
use Rattle.source_grammar.specs.Tokens.{Token}
use Rattle.source_meaning.specs.declared.fault.FunctionFault.{FunctionFault}
use Rattle.source_value.specs.declared.site.Site.{Site}
use Rattle.source_value.specs.declared.value.Value.{Value}
use Rattle.source_value.specs.declared.value.Tested.{Tested}
use Rattle.source_value.specs.declared.value.Evaluated.{Evaluated}
use Rattle.source_reader.specs.declared.stop.Stop.{Stop}
use Rattle.source_reader.specs.Answers.{Answers}
use Rattle.source_reader.specs.Reading.{Reading}
use Rattle.source_expression.specs.Sides.{IsRead, IsTestedOf, IsEvaluatedOf, IsIndexedOf}

-- hidden variables are taken from h on, in the statement at this site
module _ (site : Site) (h : ℕ) where
  -- the code answers what is wanted of an expression, and then these tokens are to come
  abbrev pub Reads : (wanted : Result Expression FunctionFault) → (rest : List Token) → Result Value Stop → (after : Reading) → Type 0
  Reads wanted rest result after = Answers (λ v x. IsRead site h v x × (after.ahead ≡ rest)) result wanted

  -- likewise of an expression that has no fault
  abbrev pub ReadsOk : Expression → (rest : List Token) → Result Value Stop → (after : Reading) → Type 0
  ReadsOk x rest result after = Reads (Ok x) rest result after

  -- likewise of an expression as a condition
  abbrev pub ReadsTested : (wanted : Result Expression FunctionFault) → (rest : List Token) → Result Tested Stop → (after : Reading)
      → Type 0
  ReadsTested wanted rest result after = Answers (λ v x. IsTestedOf site h v x × (after.ahead ≡ rest)) result wanted

  -- likewise of expressions that are evaluated
  abbrev pub ReadsAll : (wanted : Result Expressions FunctionFault) → (rest : List Token) → Result Evaluated Stop → (after : Reading)
      → Type 0
  ReadsAll wanted rest result after = Answers (λ v xs. IsEvaluatedOf site h v xs × (after.ahead ≡ rest)) result wanted

  -- likewise of indexes
  abbrev pub ReadsIndexes : (wanted : Result Subscripts FunctionFault) → (rest : List Token) → Result Evaluated Stop → (after : Reading)
      → Type 0
  ReadsIndexes wanted rest result after = Answers (λ v ys. IsIndexedOf site h v ys × (after.ahead ≡ rest)) result wanted
