use Rattle.std.proofs.Common.{◌≡◌, ◌∙◌, ◌<◌, Bool, false, true≢false, length, get_or, refl, sym, ap, subst, arith}
use Rattle.std.specs.Prelude.{Some, None}
use Rattle.std.proofs.lemmas.Result.{IfOk-weaker, IfErr-weaker}
use Rattle.base_numbers.specs.Extended.{neg_inf}
use Rattle.solve_offers.specs.AtBounds.{vector_at}
use Rattle.solve_offers.specs.Offers.{is_top}
use Rattle.solve_offers.proofs.offers.Offered.{below_top}
use Rattle.solve_rounds.specs.Growing.{AreOver, IsTested}
use Rattle.solve_rounds.proofs.growing.Kept.{mark_is}
use Rattle.solve_rounds.proofs.growing.Over.{over_one}
use Rattle.solve_rounds.proofs.growing.Quiet.{stay_within, top_within, within_passed}
use Rattle.solve_rounds.proofs.growing.Walked.{left_marked, left_unpicked, passed_none, test_passed, test_stop, others_stay}
use Rattle.solve_rounds.proofs.growing.test.Goals as goal

pub returns-then-index-clause-passed : goal.returns-then-index-clause-passed
returns-then-index-clause-passed c z agrees =
    let system = c.args.system.now in
    passed_none system c.args.pick.now c.args.unknown z c.args.growing.now
    (left_marked (length system.template) c.args.pick.now c.args.growing.now.raised.items c.args.unknown
    (mark_is c.args.growing.now.raised.items c.args.unknown c.index.result.now
    (let r = c.requires.kept.raised in let u = c.requires.unknown in omega arith) c.index.ensures ∙ c.if-index.true)) agrees

pub returns-then-index-clause-over : goal.returns-then-index-clause-over
returns-then-index-clause-over c e =
    over_one c.args.system.now c.args.pick.now c.args.unknown c.args.growing.now c.args.growing.now refl refl
    (λ n. absurd (true≢false (sym (mark_is c.args.growing.now.raised.items c.args.unknown c.index.result.now
    (let r = c.requires.kept.raised in let u = c.requires.unknown in omega arith) c.index.ensures ∙ c.if-index.true) ∙ n)))

pub returns-then-index-2-clause-passed : goal.returns-then-index-2-clause-passed
returns-then-index-2-clause-passed c z agrees =
    let system = c.args.system.now in
    within_passed system c.args.pick.now c.args.unknown c.requires.unknown z c.args.growing.now c.requires.kept agrees
    (c.requires.quiet.within c.args.unknown c.requires.unknown
    (mark_is c.args.growing.now.quiet.items c.args.unknown c.index-2.result.now
    (let s = c.requires.quiet.marks.quiet in let u = c.requires.unknown in omega arith) c.index-2.ensures ∙ c.if-index-2.true))
    (mark_is c.args.growing.now.raised.items c.args.unknown c.index.result.now
    (let r = c.requires.kept.raised in let u = c.requires.unknown in omega arith) c.index.ensures ∙ c.if-index.false)

pub returns-then-index-2-clause-over : goal.returns-then-index-2-clause-over
returns-then-index-2-clause-over c e =
    over_one c.args.system.now c.args.pick.now c.args.unknown c.args.growing.now c.args.growing.now refl refl
    (λ n. c.requires.quiet.within c.args.unknown c.requires.unknown
    (mark_is c.args.growing.now.quiet.items c.args.unknown c.index-2.result.now
    (let s = c.requires.quiet.marks.quiet in let u = c.requires.unknown in omega arith) c.index-2.ensures ∙ c.if-index-2.true))

pub returns-then-is_unlimited-clause-passed : goal.returns-then-is_unlimited-clause-passed
returns-then-is_unlimited-clause-passed c z agrees =
    let system = c.args.system.now in
    within_passed system c.args.pick.now c.args.unknown c.requires.unknown z c.args.growing.now c.requires.kept agrees
    (top_within system c.args.growing.now.bounds c.args.pick.now c.args.unknown
    (sym (sym c.if-is_unlimited.true ∙ c.is_unlimited.ensures ∙ ap is_top c.at.ensures)))
    (mark_is c.args.growing.now.raised.items c.args.unknown c.index.result.now
    (let r = c.requires.kept.raised in let u = c.requires.unknown in omega arith) c.index.ensures ∙ c.if-index.false)

pub returns-then-is_unlimited-clause-over : goal.returns-then-is_unlimited-clause-over
returns-then-is_unlimited-clause-over c e =
    over_one c.args.system.now c.args.pick.now c.args.unknown c.args.growing.now c.args.growing.now refl refl
    (λ n. top_within c.args.system.now c.args.growing.now.bounds c.args.pick.now c.args.unknown
    (sym (sym c.if-is_unlimited.true ∙ c.is_unlimited.ensures ∙ ap is_top c.at.ensures)))

pub returns-in-None-clause-over : goal.returns-in-None-clause-over
returns-in-None-clause-over c e =
    over_one c.args.system.now c.args.pick.now c.args.unknown c.args.growing.now c.args.growing.now refl refl
    (λ n edge is. absurd (let f : None ≡ Some edge = sym c.in-None.is ∙ c.at-2.ensures ∙ is in cc))

pub returns-in-Some-clause-over : goal.returns-in-Some-clause-over
returns-in-Some-clause-over c =
    let system = c.args.system.now in
    let old = c.args.growing.now in
    let new = c.test_picked.new.growing in
    let edge = c.in-Some.edge in
    let z = vector_at system old.bounds in
    IfOk-weaker c.test_picked.result _ (λ told. told ≡ false → AreOver system c.args.pick.now c.args.unknown 1 old new)
    (λ (told : Bool) h (e : told ≡ false).
    let stay = subst (λ b. IsTested system edge c.args.unknown z old new b) e (h z (λ p r l. refl)) in
    over_one system c.args.pick.now c.args.unknown old new stay.bounds stay.raised (λ n. stay_within system c.args.pick.now c.args.unknown
    edge old new c.requires.unknown c.requires.kept (sym c.at-2.ensures ∙ c.in-Some.is) stay)) c.test_picked.ensures.tested

pub returns-in-None-clause-passed : goal.returns-in-None-clause-passed
returns-in-None-clause-passed c z agrees =
    let system = c.args.system.now in
    passed_none system c.args.pick.now c.args.unknown z c.args.growing.now
    (left_unpicked (length system.template) c.args.pick.now c.args.growing.now.raised.items c.args.unknown
    (mark_is c.args.growing.now.raised.items c.args.unknown c.index.result.now
    (let r = c.requires.kept.raised in let u = c.requires.unknown in omega arith) c.index.ensures ∙ c.if-index.false)
    (sym c.at-2.ensures ∙ c.in-None.is)) agrees

pub returns-in-Some-clause-others : goal.returns-in-Some-clause-others
returns-in-Some-clause-others c =
    let system = c.args.system.now in
    let z = vector_at system c.args.growing.now.bounds in
    IfOk-weaker c.test_picked.result _ _ (λ told h. others_stay system c.in-Some.edge c.args.unknown z c.args.growing.now
    c.test_picked.new.growing told (h z (λ p r l. refl))) c.test_picked.ensures.tested

pub returns-in-Some-clause-passed : goal.returns-in-Some-clause-passed
returns-in-Some-clause-passed c =
    let system = c.args.system.now in
    let within : c.args.unknown < length c.args.growing.now.raised.items =
    let r = c.requires.kept.raised in let u = c.requires.unknown in omega arith in
    IfOk-weaker c.test_picked.result _ _
    (λ told h z agrees. test_passed system c.args.pick.now c.args.unknown c.in-Some.edge z c.args.growing.now c.test_picked.new.growing
    agrees (mark_is c.args.growing.now.raised.items c.args.unknown c.index.result.now
    (let r = c.requires.kept.raised in let u = c.requires.unknown in omega arith) c.index.ensures ∙ c.if-index.false)
    (sym c.at-2.ensures ∙ c.in-Some.is) within told (h z agrees))
    c.test_picked.ensures.tested

pub returns-in-Some-clause-stop : goal.returns-in-Some-clause-stop
returns-in-Some-clause-stop c =
    let system = c.args.system.now in
    let within : c.args.unknown < length c.args.growing.now.raised.items =
    let r = c.requires.kept.raised in let u = c.requires.unknown in omega arith in
    IfErr-weaker c.test_picked.result _ _
    (λ stop h z agrees. test_stop system c.args.pick.now c.args.unknown c.in-Some.edge z c.args.growing.now c.test_picked.new.growing agrees
    (mark_is c.args.growing.now.raised.items c.args.unknown c.index.result.now
    (let r = c.requires.kept.raised in let u = c.requires.unknown in omega arith) c.index.ensures ∙ c.if-index.false)
    (sym c.at-2.ensures ∙ c.in-Some.is) within c.args.round stop (h z agrees))
    c.test_picked.ensures.stop

pub test_picked-requires-clause-limited : goal.test_picked-requires-clause-limited
test_picked-requires-clause-limited c =
    below_top (get_or c.args.growing.now.bounds c.args.unknown neg_inf)
    (sym (sym c.if-is_unlimited.false ∙ c.is_unlimited.ensures ∙ ap is_top c.at.ensures))
