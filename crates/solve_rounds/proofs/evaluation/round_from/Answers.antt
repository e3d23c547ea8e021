use Rattle.std.proofs.Common.{◌≡◌, ◌∙◌, ◌<◌, ℕ, inr, List, ◌++◌, length, map, get_or, ap, refl, sym, subst₂, arith}
use Rattle.std.proofs.lemmas.Result.{err_from_is_err_and}
use Rattle.std.proofs.lemmas.List.{length-map}
use Rattle.base_fractions.specs.Extended.{extended}
use Rattle.cert_types.specs.declared.step.Step.{Step as CodeStep}
use Rattle.cert_types.specs.Certificates.{step_of}
use Rattle.solve_rounds.specs.Growing.{Agrees}
use Rattle.solve_rounds.specs.Round.{rounded_at, IsTurnOf}
use Rattle.solve_rounds.specs.Turning.{finite_in, ComesAmong}
use Rattle.solve_rounds.proofs.growing.Kept.{system_size}
use Rattle.solve_rounds.proofs.evaluation.RoundRaises.{raises_are, raises_few}
use Rattle.solve_rounds.proofs.evaluation.RoundMade.{Setting, setting, setting_list, setting_waits, setting_comes, setting_round}
use Rattle.solve_rounds.proofs.evaluation.RoundMade.{setting_bounds, setting_valid, above_bounds, tight_bounds, round_done, picked_edges}
use Rattle.solve_rounds.proofs.evaluation.RoundMade.{picked_ends, named_within, round_others}
use Rattle.solve_rounds.proofs.evaluation.TurnStops.{turn_stop_more}
use Rattle.solve_rounds.proofs.evaluation.round_from.Given.{Over}
use Rattle.solve_rounds.proofs.evaluation.round_from.Goals as goal
use Rattle.solve_rounds.proofs.evaluation.round_from.Goals.{After-as_slice-5}

pub grow_from-requires-clause-edges : goal.grow_from-requires-clause-edges
grow_from-requires-clause-edges g c = picked_edges c.args.system.now c.args.pick.now c.requires.pick c.requires.supported.is_pick

pub grow_from-requires-clause-ends : goal.grow_from-requires-clause-ends
grow_from-requires-clause-ends g c = picked_ends c.args.system.now c.args.pick.now c.requires.pick c.requires.supported.is_pick

pub places-requires-clause-raises : goal.places-requires-clause-raises
places-requires-clause-raises g c =
    let is = c.as_slice.ensures.value ∙ c.into_list-steps.ensures in
    raises_are c.args.system.now c.args.pick.now c.args.bounds c.requires.supported.is_pick c.as_slice.result.now
    (ap (map (step_of (length c.args.system.now.template))) is ∙ c.in_ok-grown.ensures.steps)
    (length c.as_slice-count.result.now) (sym (length-map c.as_slice-count.result.now extended) ∙ ap length c.as_slice-count.ensures
    ∙ c.in_ok-grown.ensures.size ∙ c.requires.bounds)

pub places-requires-clause-few : goal.places-requires-clause-few
places-requires-clause-few g c =
    let is = c.as_slice.ensures.value ∙ c.into_list-steps.ensures in
    let few = raises_few c.args.system.now c.args.pick.now c.args.bounds c.requires.supported.is_pick c.as_slice.result.now
    (ap (map (step_of (length c.args.system.now.template))) is ∙ c.in_ok-grown.ensures.steps) in
    let size = system_size c.args.system.now in
    omega arith

pub finite-requires : goal.finite-requires
finite-requires g c =
    let system = c.args.system.now in
    let e = c.in_ok-grown.ensures in
    let steps = map (step_of (length system.template)) c.in_ok-grown.grown.steps in
    subst₂ (λ (l : List ℕ) (n : ℕ). (k : ℕ) → k < length l → get_or l k 0 < n) (sym (c.as_slice-2.ensures ∙ e.raised))
    (sym (e.size ∙ c.requires.bounds)) (named_within system steps)

-- what was grown is the setting of the turns
ready : (g : Over) (c : After-as_slice-5 g) → Setting c.args.system.now c.args.bounds c.args.pick.now c.as_slice-3.result.now
    c.in_ok-grown.grown.bounds c.as_slice-4.result.now c.as_slice-5.result.now
ready g c =
    let args = c.args in
    let grown = c.in_ok-grown.grown in
    let e = c.in_ok-grown.ensures in
    setting args.system.now args.bounds args.pick.now grown.steps c.as_slice.result.now c.as_slice-3.result.now grown.bounds
    c.in_ok-places.places.items c.as_slice-4.result.now grown.raised c.as_slice-2.result.now c.in_ok-list.list.items
    c.as_slice-5.result.now
    (c.as_slice.ensures.value ∙ c.into_list-steps.ensures) (c.as_slice-3.ensures.value ∙ c.into_list-steps.ensures)
    c.as_slice-4.ensures.value c.as_slice-2.ensures c.as_slice-5.ensures.value
    e.steps e.bounds e.raised (c.in_ok-places.ensures.size ∙ sym (length-map c.as_slice-count.result.now extended)
    ∙ ap length c.as_slice-count.ensures ∙ e.size ∙ c.requires.bounds) c.in_ok-places.ensures.places c.in_ok-list.ensures.list

pub turns-requires-clause-list : goal.turns-requires-clause-list
turns-requires-clause-list g c =
    let args = c.args in
    let grown = c.in_ok-grown.grown in
    let s = ready g (goal.at.turns-requires-clause-list g c).After-as_slice-5 in
    setting_list args.system.now args.bounds args.pick.now c.requires.supported.is_pick c.as_slice-3.result.now grown.bounds
    c.as_slice-4.result.now c.as_slice-5.result.now s

pub turns-requires-clause-waiting : goal.turns-requires-clause-waiting
turns-requires-clause-waiting g c =
    let args = c.args in
    let grown = c.in_ok-grown.grown in
    let s = ready g (goal.at.turns-requires-clause-waiting g c).After-as_slice-5 in
    setting_waits args.system.now args.bounds args.pick.now c.requires.supported.is_pick c.as_slice-3.result.now grown.bounds
    c.as_slice-4.result.now c.as_slice-5.result.now s c.requires.supported

pub returns-in_err-turns-clause-stop : goal.returns-in_err-turns-clause-stop
returns-in_err-turns-clause-stop g c =
    let q = err_from_is_err_and c.from_residual-in_err-turns.result c.from_residual-in_err-turns.ensures.1 in
    let args = c.args in
    let grown = c.in_ok-grown.grown in
    let s = ready g (goal.at.returns-in_err-turns-clause-stop g c).After-as_slice-5 in
    rw (q.1, q.2)
    (inr (turn_stop_more args.system.now args.pick.now (ComesAmong args.system.now args.pick.now c.as_slice-3.result.now
    c.as_slice-4.result.now c.as_slice-5.result.now grown.bounds) (IsTurnOf args.system.now args.bounds args.pick.now) args.round
    (setting_comes args.system.now args.bounds args.pick.now c.requires.supported.is_pick c.as_slice-3.result.now grown.bounds
    c.as_slice-4.result.now c.as_slice-5.result.now s c.requires.supported) c.in_err-turns.field-0.0 c.in_err-turns.ensures.stop))

-- the growth's raises and then the turns' steps are all steps
appended : (g : Over) (c : goal.After-drop-places-2 g) → c.new-2.result ≡ c.as_slice-3.result.now ++ c.turns.new.turning.steps.items
appended g c = c.new-2.ensures ∙ c.in_ok-append.ensures.items ∙ ap (λ (x : List CodeStep). x ++ c.turns.new.turning.steps.items)
    (sym c.as_slice-3.ensures.value)

pub returns-clause-steps : goal.returns-clause-steps
returns-clause-steps g c =
    let args = c.args in
    let grown = c.in_ok-grown.grown in
    let s = ready g (goal.at.returns-clause-steps g c).After-as_slice-5 in
    setting_round args.system.now args.bounds args.pick.now c.requires.supported.is_pick c.as_slice-3.result.now grown.bounds
    c.as_slice-4.result.now c.as_slice-5.result.now s c.requires.supported (record { bounds = grown.bounds; steps = c.new.result })
    c.turns.new.turning c.new-2.result refl c.new.ensures.items c.in_ok-turns.ensures.done (appended g c)

-- the bounds are the vector's of the round
agreed : (g : Over) (c : goal.After-drop-places-2 g)
    → Agrees c.args.system.now (rounded_at c.args.system.now c.args.bounds c.args.pick.now) c.turns.new.turning.bounds
agreed g c =
    let args = c.args in
    let grown = c.in_ok-grown.grown in
    let s = ready g (goal.at.returns-clause-bounds g c).After-as_slice-5 in
    setting_bounds args.system.now args.bounds args.pick.now c.requires.supported.is_pick c.as_slice-3.result.now grown.bounds
    c.as_slice-4.result.now c.as_slice-5.result.now s c.requires.supported (record { bounds = grown.bounds; steps = c.new.result })
    c.turns.new.turning c.new-2.result refl c.new.ensures.items c.in_ok-turns.ensures.done (appended g c)

pub returns-clause-bounds : goal.returns-clause-bounds
returns-clause-bounds g c = λ p r i l. sym (agreed g c p r l)

pub returns-clause-above : goal.returns-clause-above
returns-clause-above g c =
    let done = round_done c.args.system.now c.args.bounds c.args.pick.now c.requires.supported in
    above_bounds c.args.system.now c.args.pick.now (rounded_at c.args.system.now c.args.bounds c.args.pick.now)
    c.turns.new.turning.bounds (agreed g c) c.requires.supported.is_pick c.args.bounds done.0

pub returns-clause-tight : goal.returns-clause-tight
returns-clause-tight g c =
    let done = round_done c.args.system.now c.args.bounds c.args.pick.now c.requires.supported in
    tight_bounds c.args.system.now c.args.pick.now (rounded_at c.args.system.now c.args.bounds c.args.pick.now)
    c.turns.new.turning.bounds (agreed g c) c.requires.supported.is_pick done.1

pub returns-clause-valid : goal.returns-clause-valid
returns-clause-valid g c =
    let args = c.args in
    let grown = c.in_ok-grown.grown in
    let s = ready g (goal.at.returns-clause-valid g c).After-as_slice-5 in
    setting_valid args.system.now args.bounds args.pick.now c.requires.supported.is_pick c.as_slice-3.result.now grown.bounds
    c.as_slice-4.result.now c.as_slice-5.result.now s c.requires.supported (record { bounds = grown.bounds; steps = c.new.result })
    c.turns.new.turning c.new-2.result refl c.new.ensures.items c.in_ok-turns.ensures.done (appended g c)

pub returns-clause-others : goal.returns-clause-others
returns-clause-others g c =
    let grown = c.in_ok-grown.grown in
    round_others grown.raised c.as_slice-5.result.now c.args.bounds grown.bounds c.turns.new.turning.bounds
    (c.as_slice-5.ensures.value ∙ c.in_ok-list.ensures.list ∙ ap (finite_in grown.bounds) c.as_slice-2.ensures)
    c.in_ok-grown.ensures.others c.in_ok-turns.ensures.others
