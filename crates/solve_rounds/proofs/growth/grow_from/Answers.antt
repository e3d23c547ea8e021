use Rattle.std.proofs.Common.{◌≡◌, ◌∙◌, ◌*◌, length, map, get_or, rules, sym, ap, ap₂, subst}
use Rattle.base_facts.specs.Elements.{In}
use Rattle.base_numbers.specs.Extended.{neg_inf}
use Rattle.base_fractions.specs.Extended.{extended}
use Rattle.flow_systems.specs.View.{vector_at}
use Rattle.cert_types.specs.Certificates.{step_of}
use Rattle.theory_validity.specs.Certificates.{after_steps}
use Rattle.solve_rounds.specs.declared.growing.Growing.{Growing}
use Rattle.solve_rounds.specs.Growing.{IsFresh, marked_numbers}
use Rattle.solve_rounds.specs.Growth.{named_at}
use Rattle.solve_rounds.proofs.growth.Marked.{kept_fresh, marked_are_named, unlisted_unmarked}
use Rattle.solve_rounds.proofs.quiet_marks.KnownQuiet.{quiet_within}
use Rattle.solve_rounds.proofs.growth.grow_from.Goals as goal
use Rattle.solve_rounds.proofs.growth.grow_from.Goals.{After-new}

-- what the passes begin with
abbrev begun : After-new → Growing
begun c = record {
  bounds = map extended c.bounds.inside.list.items;
  raised = c.in_ok-vec.field-0;
  quiet = c.in_ok-quiet.quiet;
  calm = c.in_ok-calm.calm;
  steps = c.new.result;
}

pub passes-requires-clause-kept : goal.passes-requires-clause-kept
passes-requires-clause-kept c =
    let system = c.args.system.now in
    let growing = begun (goal.at.passes-requires-clause-kept c).After-new in
    let size : length growing.bounds ≡ length system.flow.points * length system.template =
    ap (λ l. length l) c.bounds.view_is ∙ c.requires.bounds in
    let fresh : IsFresh system growing = search rules in
    kept_fresh system growing size fresh

pub passes-requires-clause-quiet : goal.passes-requires-clause-quiet
passes-requires-clause-quiet c =
    let system = c.args.system.now in
    let growing = begun (goal.at.passes-requires-clause-quiet c).After-new in
    let same : growing.bounds ≡ c.args.bounds = c.bounds.view_is in
    let calm : growing.calm.items ≡ c.args.known.now.settled.items = search rules in
    quiet_within system c.args.bounds c.args.pick.now c.args.known.now growing c.requires.edges c.requires.ends c.requires.known same calm
    c.in_ok-quiet.ensures

pub returns-clause-bounds : goal.returns-clause-bounds
returns-clause-bounds c p r l =
    let system = c.args.system.now in
    ap₂ (λ steps bounds. after_steps (map (step_of (length system.template)) steps) (vector_at system bounds) p r) c.new-2.ensures
    (sym c.bounds.view_is) ∙ c.in_ok-passes.ensures.grown.agrees p r l

pub returns-clause-raised : goal.returns-clause-raised
returns-clause-raised c =
    let system = c.args.system.now in
    c.in_ok-raised.ensures.numbers ∙ ap (λ l. marked_numbers l (length l)) c.deref.ensures.value
    ∙ marked_are_named system c.passes.new.growing c.in_ok-passes.ensures.kept
    ∙ ap (λ steps. named_at system (map (step_of (length system.template)) steps)) (sym c.new-2.ensures)

pub returns-clause-others : goal.returns-clause-others
returns-clause-others c u none =
    let marks = c.passes.new.growing.raised.items in
    let numbers = c.in_ok-raised.ensures.numbers ∙ ap (λ l. marked_numbers l (length l)) c.deref.ensures.value in
    (c.in_ok-passes.ensures.stays u (unlisted_unmarked marks u (λ m. none (subst (λ l. In l u) (sym numbers) m)))).1
    ∙ ap (λ b. get_or b u neg_inf) c.bounds.view_is
