-- Steps of variables as operands.
use Rattle.std.proofs.Common.{◌≡◌, ◌∙◌, ℕ, Result, Ok, refl, sym, ap, subst}
use Rattle.source_tree.specs.Expressions as made
use Rattle.source_tree.specs.Expressions.{Expression, Direction, Moment}
use Rattle.source_core.specs.Elaborated.{step_behind}
use Rattle.source_grammar.specs.Tokens.{Name}
use Rattle.source_meaning.specs.declared.fault.FunctionFault.{FunctionFault}
use Rattle.source_meaning.specs.Results.{◌>>=◌}
use Rattle.source_meaning.specs.Names.{State, stepped_of}
use Rattle.source_value.specs.declared.site.Site.{Site}
use Rattle.source_value.specs.declared.value.Value.{Value}
use Rattle.source_value.specs.Stands.{Stands}
use Rattle.source_reader.specs.Answers.{Answers}
use Rattle.source_expression.specs.Sides.{IsRead}
use Rattle.source_expression.proofs.Answering.{ok_then}

-- the name x at a is stepped by the sign at b, in this direction; the step is read as an expression at this place, and P holds then
module _ (site : Site) (h : ℕ) (st : State) (x : Name) (a b : ℕ) (d : Direction) (m : Moment) (at : ℕ) (P : Type 0) where
  -- what is wanted of a step
  abbrev pub wanted : Result Expression FunctionFault
  wanted = stepped_of x a b st >>= λ i. Ok (made.stepped d m i b at)

  -- the step is read
  pub step_read : (i s : ℕ) (e : Direction) (v : Value) → s ≡ b → Ok i ≡ stepped_of x a s st → e ≡ d
      → Stands site.variables v (step_behind site.integers site.line e m i s h) → P
      → Answers (λ v x. IsRead site h v x × P) (Ok v) wanted
  step_read i s e v p k q t r =
      let by : Stands site.variables v (step_behind site.integers site.line d m i b h) =
      subst (λ s. Stands site.variables v (step_behind site.integers site.line d m i s h)) p
      (subst (λ e. Stands site.variables v (step_behind site.integers site.line e m i s h)) q t) in
      ok_then (λ v x. IsRead site h v x × P) (Ok v) (stepped_of x a b st) i (λ i. Ok (made.stepped d m i b at))
      (sym (k ∙ ap (λ s. stepped_of x a s st) p)) (made.stepped d m i b at, refl, (by, r))
