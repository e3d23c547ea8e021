use Rattle.std.proofs.Common.{◌≡◌, ◌∙◌, ℕ, ◌+◌, ◌<◌, List, [], ◌∷◌, length, map, drop, get_or, sym, ap, subst, arith}
use Rattle.std.proofs.lemmas.Result.{err_from_is_err_and}
use Rattle.std.proofs.lemmas.List.{length-map, get_or-map}
use Rattle.flow_systems.specs.View.{equations_of}
use Rattle.cert_types.specs.Certificates.{evidence_of}
use Rattle.theory_validity.specs.Certificates.{Evidence, Need, bounds_vector, needs}
use Rattle.cert_checker.specs.declared.needs.Needed.{Needed}
use Rattle.cert_checker.specs.CheckEvents.{uppers_events}
use Rattle.cert_checker.specs.Events.{first_stop}
use Rattle.cert_checker.specs.Needs.{need_of, needs_left}
use Rattle.cert_checker.proofs.events.Numbers.{stands_itself}
use Rattle.cert_checker.proofs.events.Supply.{UppersLeft, uppers_enough, uppers_more, uppers_out, uppers_stop}
use Rattle.cert_written.specs.declared.upper.Upper.{Upper as Written}
use Rattle.cert_fitted.specs.Fitted.{upper_for, uppers_for}
use Rattle.cert_fitted.specs.Needed.{guards_needed}
use Rattle.cert_fitted.proofs.fitted_laws.Evidence.{guards_of, needed_guards}
use Rattle.cert_fitted.proofs.checking.Answered.{ends_same}
use Rattle.cert_fitted.proofs.checking.Pieces.{as_many, count_next, piece_at}
use Rattle.cert_fitted.proofs.checking.check_uppers.Goals as goal

-- the pieces of evidence for which written ones stand
abbrev all_theirs : ℕ → List ℕ → List Written → List Evidence
all_theirs rows counts us = map evidence_of (uppers_for rows counts us)

long : (rows : ℕ) (counts : List ℕ) (us : List Written) → length (all_theirs rows counts us) ≡ length us
long rows counts us = length-map (uppers_for rows counts us) evidence_of ∙ as_many rows counts us

-- a written piece where this is needed, as the one for which it stands
there : (rows : ℕ) (counts : List ℕ) (us : List Written) (i : ℕ) (u : Written) (need : Need) (more : List Need) → i < length us
    → u ≡ get_or us i u → drop i counts ≡ guards_of need ∷ map guards_of more →
    (i < length (all_theirs rows counts us)) × (evidence_of (upper_for rows (guards_of need) u)
    ≡ get_or (all_theirs rows counts us) i (evidence_of (upper_for rows (guards_of need) u)))
    × (drop (i + 1) counts ≡ map guards_of more)
there rows counts us i u need more l is e =
    let n = count_next counts i (guards_of need) (map guards_of more) e in
    let made = upper_for rows (guards_of need) u in
    let m = as_many rows counts us in (
      (let k = long rows counts us in omega (arith, k, l)),
      ap evidence_of (ap (λ c. upper_for rows c u) (sym n.0) ∙ piece_at rows counts us i u made l is)
          ∙ sym (get_or-map evidence_of (uppers_for rows counts us) i made (evidence_of made) (omega (arith, m, l))),
      n.1,
    )

pub loop-upper-init : goal.loop-upper-init
loop-upper-init c =
    let S = equations_of c.args.system.now in
    let z = bounds_vector S c.args.bounds.now in
    let first = sym (c.first-from.ensures z) in
    record {
      left = ap (λ ns. first_stop (uppers_events S z ns
          (all_theirs (length S.template) (guards_needed S c.args.bounds.now) c.args.uppers.now))) first;
      counts = sym (needed_guards S c.args.bounds.now) ∙ ap (map guards_of) first;
    }

pub returns-in-None : goal.returns-in-None
returns-in-None c =
    let S = equations_of c.args.system.now in
    let z = bounds_vector S c.args.bounds.now in
    let es = all_theirs (length S.template) (guards_needed S c.args.bounds.now) c.args.uppers.now in
    let h = stands_itself S c.args.bounds.now c.requires.bounds in
    (tt, uppers_enough S z es c.loop-upper.from c.loop-upper.upper-index c.loop-upper.invariant.left (c.in-None.ensures.next z h))

pub loop-upper-preserved : goal.loop-upper-preserved
loop-upper-preserved c =
    let S = equations_of c.args.system.now in
    let z = bounds_vector S c.args.bounds.now in
    let rows = length S.template in
    let counts = guards_needed S c.args.bounds.now in
    let i = c.loop-upper.upper-index in
    let needed = c.in-Some.needed in
    let h = stands_itself S c.args.bounds.now c.requires.bounds in
    let next = c.in-Some.ensures.next z h in
    let after : Needed = record { unknown = needed.unknown; edge = needed.edge + 1 } in
    let at = there rows counts c.args.uppers.now i c.upper-item.result (need_of S needed) (needs_left S z after) c.loop-upper-test.true
    c.upper-item.is (c.loop-upper.invariant.counts ∙ ap (map guards_of) next.left) in
    let es = all_theirs rows counts c.args.uppers.now in
    let made = evidence_of (upper_for rows (guards_of (need_of S needed)) c.upper-item.result) in
    record {
      left = subst (λ from. UppersLeft S z es from (i + 1)) (sym c.after-from.ensures)
          (uppers_more S z es c.loop-upper.from i c.loop-upper.invariant.left needed next made at.0 at.1
          (c.in_ok-check_upper_for-in-Some.ensures z h next.ends).1);
      counts = at.2 ∙ ap (λ from. map guards_of (needs_left S z from)) (sym c.after-from.ensures);
    }

pub returns-in_err-check_upper_for-in-Some : goal.returns-in_err-check_upper_for-in-Some
returns-in_err-check_upper_for-in-Some c =
    let S = equations_of c.args.system.now in
    let z = bounds_vector S c.args.bounds.now in
    let rows = length S.template in
    let counts = guards_needed S c.args.bounds.now in
    let i = c.loop-upper.upper-index in
    let needed = c.in-Some.needed in
    let h = stands_itself S c.args.bounds.now c.requires.bounds in
    let next = c.in-Some.ensures.next z h in
    let after : Needed = record { unknown = needed.unknown; edge = needed.edge + 1 } in
    let at = there rows counts c.args.uppers.now i c.upper-item.result (need_of S needed) (needs_left S z after) c.loop-upper-test.true
    c.upper-item.is (c.loop-upper.invariant.counts ∙ ap (map guards_of) next.left) in
    let es = all_theirs rows counts c.args.uppers.now in
    let made = evidence_of (upper_for rows (guards_of (need_of S needed)) c.upper-item.result) in
    let q = err_from_is_err_and c.from_residual.result c.from_residual.ensures.1 in
    rw (q.1, q.2) (ends_same (uppers_events S z (needs S z) es) (uppers_events S z (need_of S needed ∷ []) (made ∷ []))
    (λ f e. uppers_stop S z es c.loop-upper.from i c.loop-upper.invariant.left needed next made at.0 at.1 f e)
    c.in_err-check_upper_for-in-Some.field-0.0 (c.in_err-check_upper_for-in-Some.ensures z h next.ends))

pub returns-in_err-check_end : goal.returns-in_err-check_end
returns-in_err-check_end c =
    let S = equations_of c.args.system.now in
    let z = bounds_vector S c.args.bounds.now in
    let counts = guards_needed S c.args.bounds.now in
    let m = long (length S.template) counts c.args.uppers.now in
    let t = c.loop-upper-test.false in
    let q = err_from_is_err_and c.from_residual-in_err-check_end.result c.from_residual-in_err-check_end.ensures.1 in
    rw (q.1, q.2) (uppers_out S z (all_theirs (length S.template) counts c.args.uppers.now) c.loop-upper.from c.loop-upper.upper-index
    c.loop-upper.invariant.left (omega (arith, m, t))
    ∙ c.in_err-check_end.ensures z (stands_itself S c.args.bounds.now c.requires.bounds))

pub returns : goal.returns
returns c =
    let S = equations_of c.args.system.now in
    let z = bounds_vector S c.args.bounds.now in
    let counts = guards_needed S c.args.bounds.now in
    let m = long (length S.template) counts c.args.uppers.now in
    let t = c.loop-upper-test.false in (
      tt,
      uppers_out S z (all_theirs (length S.template) counts c.args.uppers.now) c.loop-upper.from c.loop-upper.upper-index
          c.loop-upper.invariant.left (omega (arith, m, t))
          ∙ (c.in_ok-check_end.ensures z (stands_itself S c.args.bounds.now c.requires.bounds)).1,
    )
