use Rattle.std.proofs.Common.{◌≡◌, ◌+◌, ◌-◌, ◌/◌, ◌<◌, ⊎_elim, length, ap, arith}
use Rattle.std.proofs.lemmas.Bool.{cases_lt}
use Rattle.lp_dictionary.specs.Entries.{col_at}
use Rattle.lp_dictionary.proofs.kept.Lists.{cols_rise}
use Rattle.lp_dictionary.proofs.kept.Lists.{col_read}
use Rattle.lp_dictionary.proofs.place.place_of.Goals as goal

pub loop-low-preserved-then-entries-middle : goal.loop-low-preserved-then-entries-middle
loop-low-preserved-then-entries-middle g c =
    let es = c.args.entries.now in
    let j = c.loop-low.low + (c.loop-low.high - c.loop-low.low) / 2 in
    let l : c.loop-low.low + (c.loop-low.high - c.loop-low.low) / 2 < length c.args.entries.now = omega arith in
    let at = col_read es j c.index-entries-middle.result l in
    let small = c.if-entries-middle.true in
    record {
      order = omega arith;
      within = omega arith;
      before = λ k b. ⊎_elim
          (λ a. let r = cols_rise 0 c.requires.0 k j es c.requires.1 a l in omega (arith, r, at, small))
          (λ a. let q : k ≡ c.loop-low.low + (c.loop-low.high - c.loop-low.low) / 2 = omega (arith, a, b) in let e = ap (col_at es) q in
          omega (arith, e, at, small))
          (cases_lt k j);
      behind = λ k b d. c.loop-low.invariant.behind k b d;
    }

pub loop-low-preserved : goal.loop-low-preserved
loop-low-preserved g c =
    let es = c.args.entries.now in
    let j = c.loop-low.low + (c.loop-low.high - c.loop-low.low) / 2 in
    let l : c.loop-low.low + (c.loop-low.high - c.loop-low.low) / 2 < length c.args.entries.now = omega arith in
    let at = col_read es j c.index-entries-middle.result l in
    let large = c.if-entries-middle.false in
    record {
      order = omega arith;
      within = omega arith;
      before = λ k b. c.loop-low.invariant.before k b;
      behind = λ k b d. ⊎_elim
          (λ a. let r = cols_rise 0 c.requires.0 j k es c.requires.1 a d in omega (arith, r, at, large))
          (λ a. let q : k ≡ c.loop-low.low + (c.loop-low.high - c.loop-low.low) / 2 = omega (arith, a, b) in let e = ap (col_at es) q in
          omega (arith, e, at, large))
          (cases_lt j k);
    }
