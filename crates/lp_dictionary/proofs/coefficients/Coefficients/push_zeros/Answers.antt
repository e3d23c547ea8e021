use Rattle.std.proofs.Common.{◌≡◌, ◌+◌, ◌++◌, ℕ, List, length, ap, sym, ◌∙◌, subst, arith, ◌≤◌, length-append}
use Rattle.base_numbers.specs.Rational.{ℚ}
use Rattle.base_numbers.specs.Vector.{zeros}
use Rattle.lp_dictionary.specs.Entries.{spread}
use Rattle.base_numbers.proofs.vector.Vectors.{length-zeros}
use Rattle.lp_dictionary.proofs.kept.Listing.{length-spread, lists_spread, lists_gap, spread_lists, lists_rise}
use Rattle.lp_dictionary.proofs.coefficients.Coefficients.push_zeros.Goals as goal

gap_long : (xs : List ℚ) (n k l : ℕ) → length xs ≡ n → l ≡ n + k → l ≡ length (xs ++ zeros k)
gap_long xs n k l e h = let a = length-append xs (zeros k) in let z = length-zeros k in omega (arith, a, z, e, h)

pub invariant_of-self : goal.invariant_of-self
invariant_of-self g c =
    let m = g.F.OrderedField.meaning in
    let n = c.self.inside.length in
    let es = c.self.inside.entries.items in
    let k = c.args.count in
    let h = lists_gap m (spread m n es) es k (lists_spread m n es c.self.invariant.0 c.self.invariant.1) in (
      lists_rise m (spread m n es ++ zeros k) es c.in-Ok.sum h
          (gap_long (spread m n es) n k c.in-Ok.sum (length-spread m n es) c.in-Ok.ensures),
      c.self.invariant.1,
    )

pub returns-in-Ok-clause-pushed : goal.returns-in-Ok-clause-pushed
returns-in-Ok-clause-pushed g c =
    let m = g.F.OrderedField.meaning in
    let n = c.self.inside.length in
    let es = c.self.inside.entries.items in
    let k = c.args.count in
    let h = lists_gap m (spread m n es) es k (lists_spread m n es c.self.invariant.0 c.self.invariant.1) in
    spread_lists m (spread m n es ++ zeros k) es c.in-Ok.sum h
    (gap_long (spread m n es) n k c.in-Ok.sum (length-spread m n es) c.in-Ok.ensures)
    ∙ ap (λ ys. ys ++ zeros k) c.self.view_is

pub returns-in-Err-clause-full : goal.returns-in-Err-clause-full
returns-in-Err-clause-full g c =
    subst (λ n. 4294967296 ≤ n + c.args.count)
    (sym (length-spread g.F.OrderedField.meaning c.self.inside.length c.self.inside.entries.items) ∙ ap length c.self.view_is)
    c.in-Err.ensures
