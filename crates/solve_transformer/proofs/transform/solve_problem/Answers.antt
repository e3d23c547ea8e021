use Rattle.std.proofs.Common.{◌∙◌, ◌+◌, ap, sym, subst}
use Rattle.base_numbers.specs.Rational.{ℚ}
use Rattle.base_fractions.specs.Fits.{long_limit}
use Rattle.base_fractions.specs.Operation.{first_wide}
use Rattle.lp_theory.specs.Simplex.{lp}
use Rattle.lp_dictionary.specs.Exact.{exact}
use Rattle.solve_transformer.specs.Splits.{bounds_at}
use Rattle.solve_transformer.specs.Values.{reading_operations}
use Rattle.solve_transformer.specs.Readings.{listed_outcome}
use Rattle.flow_systems.specs.Faults.{IsFaultOf}
use Rattle.solve_transformer.proofs.read.Outcomes.{reads_same, operations_same}
use Rattle.solve_transformer.proofs.transform.solve_problem.Goals as goal

pub returns-in-Ok-read_outcome-clause-value : goal.returns-in-Ok-read_outcome-clause-value
returns-in-Ok-read_outcome-clause-value c = λ template e s.
    let P = exact (λ (q : ℚ). q) c.args.problem.now in
    reads_same P c.args.sizes.variables (c.args.sizes.variables + c.args.sizes.frees) c.args.constant (bounds_at c.args.source.now) template
    c.args.sizes.guards s (lp P) c.in-Ok.outcome c.in-Ok.ensures.outcome c.in-Ok-read_outcome.value
    (c.in-Ok-read_outcome.ensures template e).0

pub returns-in-Ok-read_outcome-clause-reading : goal.returns-in-Ok-read_outcome-clause-reading
returns-in-Ok-read_outcome-clause-reading c = λ template e s.
    let P = exact (λ (q : ℚ). q) c.args.problem.now in
    ap (first_wide long_limit) (sym (operations_same P c.args.sizes.variables (c.args.sizes.variables + c.args.sizes.frees) c.args.constant
    (bounds_at c.args.source.now) template c.args.sizes.guards s (lp P) c.in-Ok.outcome c.in-Ok.ensures.outcome))
    ∙ (c.in-Ok-read_outcome.ensures template e).1

pub returns-in-Err-Wide-read_outcome-clause-refused : goal.returns-in-Err-Wide-read_outcome-clause-refused
returns-in-Err-Wide-read_outcome-clause-refused c = λ template e s.
    let P = exact (λ (q : ℚ). q) c.args.problem.now in
    let operations = reading_operations (c.args.sizes.variables + c.args.sizes.frees) c.args.constant (listed_outcome c.in-Ok.outcome) in (
      c.in-Ok.ensures.fits,
      ap (first_wide long_limit) (sym (operations_same P c.args.sizes.variables (c.args.sizes.variables + c.args.sizes.frees)
          c.args.constant (bounds_at c.args.source.now) template c.args.sizes.guards s (lp P) c.in-Ok.outcome c.in-Ok.ensures.outcome))
          ∙ subst (IsFaultOf operations) c.in-Err-Wide-read_outcome.field-0-is (c.in-Err-Wide-read_outcome.ensures template e),
    )
