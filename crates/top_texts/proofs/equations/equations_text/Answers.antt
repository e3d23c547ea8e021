use Rattle.std.proofs.Common.{◌*◌, ◌≤◌, ℕ, ap, arith, length, rules}
use Rattle.base_limits.specs.declared.limits.TheConstants.{MOST_CELLS}
use Rattle.ask_words.specs.declared.request.Purpose.TheVariants.{Report}
use Rattle.top_texts.specs.Exact.{exact}
use Rattle.top_texts.specs.Questions.{equations_question}
use Rattle.top_texts.specs.Outcomes.{IsUnanswered}
use Rattle.top_texts.proofs.equation_texts.Solved.{names_are, points_are, rows_are, unsolved, valued}
use Rattle.top_texts.proofs.equations.equations_text.Goals as goal

few_cells : (n : ℕ) → n ≤ 11957 → n ≤ MOST_CELLS
few_cells n h = omega (arith, h)

pub returns-in_err-equations-clause-err : goal.returns-in_err-equations-clause-err
returns-in_err-equations-clause-err g c =
    let h : IsUnanswered (equations_question exact c.args.text.now c.args.policy c.args.limit) c.in_err-equations.field-0.0 =
    c.in_err-equations.ensures.err c.args.policy c.args.limit in
    search (rules, h)

pub returns-in_err-solved-clause-err : goal.returns-in_err-solved-clause-err
returns-in_err-solved-clause-err g c =
    let h : IsUnanswered (equations_question exact c.args.text.now c.args.policy c.args.limit) c.in_err-solved.field-0.0 =
    unsolved c.args.text.now c.args.policy c.args.limit c.in_ok-equations.equations c.in_ok-equations.ensures.ok c.in_ok-system.system
    c.in_ok-system.ensures.system (few_cells _ c.in_ok-system.ensures.cells) _ (c.in_err-solved.ensures.err Report) in
    search (rules, h)

pub returns-clause-ok : goal.returns-clause-ok
returns-clause-ok g c =
    valued c.args.text.now c.args.policy c.args.limit c.in_ok-equations.equations c.in_ok-equations.ensures.ok c.in_ok-system.system
    c.in_ok-system.ensures.system
    c.least_vectors_are_least_above.ensures.least c.least_above_equal_right_sides.ensures c.in_ok-equations.ensures.within
    c.in_ok-system.ensures.names
    c.in_ok-solved.solved c.in_ok-solved.ensures.solved c.in_ok-solved.ensures.least c.args.format _ c.in_ok-lines_of.ensures

pub lines_of-requires-clause-rows : goal.lines_of-requires-clause-rows
lines_of-requires-clause-rows g c =
    let s = c.in_ok-system.system in
    let equations = c.in_ok-equations.equations in
    omega (arith, rows_are s equations c.in_ok-system.ensures.system, names_are s equations c.in_ok-system.ensures.system)

pub lines_of-requires-clause-bounds : goal.lines_of-requires-clause-bounds
lines_of-requires-clause-bounds g c =
    let s = c.in_ok-system.system in
    let twice = ap (λ k. k * length s.template) (points_are s c.in_ok-equations.equations c.in_ok-system.ensures.system) in
    omega (arith, c.in_ok-solved.ensures.count, twice)
