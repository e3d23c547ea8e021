use Rattle.std.proofs.Common.{◌∙◌, ◌++◌, ◌∷◌, [], ℤ, List, ap, map}
use Rattle.std.proofs.lemmas.List.{take_all}
use Rattle.base_numbers.specs.Rational.{ℚ}
use Rattle.flow_systems.proofs.states.Summed.{number_same}
use Rattle.cert_fitted.proofs.lists.Maps.{map_push, number_push, same_small}
use Rattle.cert_fitted.proofs.fitting.numerators.Goals as goal

pub loop-number-preserved : goal.loop-number-preserved
loop-number-preserved c =
    let z = c.num.result in
    let small = same_small c.number-item.result z c.num.ensures.fits c.num.ensures.value in
    let more = c.in_ok-push.ensures.items ∙ ap (λ (y : ℤ). c.loop-number.row.items ++ y ∷ []) (number_same z small) in
    record {
      values = map_push (λ (q : ℚ). q.num) c.args.list.now c.loop-number.number-index c.number-item.result c.loop-number.row.items
          c.push.new.self.items c.num.result c.loop-number-test.true c.number-item.is c.loop-number.invariant.values
          more c.num.ensures.value;
      numbers = number_push c.number-item.result c.loop-number.row.items c.push.new.self.items c.num.result c.num.ensures.fits
          c.num.ensures.value more c.loop-number.invariant.numbers;
    }

pub new-requires : goal.new-requires
new-requires c = c.loop-number.invariant.numbers

pub returns : goal.returns
returns c =
    c.new.ensures ∙ c.loop-number.invariant.values
    ∙ ap (λ (xs : List ℚ). map (λ (q : ℚ). q.num) xs) (take_all c.loop-number.number-index c.args.list.now c.loop-number-test.false)
