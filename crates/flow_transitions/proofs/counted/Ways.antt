-- Choices and edges, counted no further than they matter.
use Rattle.std.proofs.Common.{◌≡◌, ◌∙◌, ℕ, zero, suc, ◌+◌, ◌*◌, ◌<◌, ◌≤◌, min, Bool, true, false, List, [], ◌∷◌, length, refl, sym, ap}
use Rattle.std.proofs.Common.{⊎_elim, arith, cond}
use Rattle.std.specs.Prelude.{◌||◌, Option, Some, None, option_map}
use Rattle.std.specs.List.{find, sum_by}
use Rattle.std.proofs.lemmas.Bool.{cases_lt}
use Rattle.std.proofs.lemmas.List.Sums.{sum_by-cons}
use Rattle.std.proofs.Math.Nat.{mul_comm, mul_assoc, suc-mul, mul-one}
use Rattle.lang_tree.specs.Tree.{Statement, Statements, nil, cons}
use Rattle.flow_transitions.specs.declared.auto_edge.AutoEdge.{AutoEdge}
use Rattle.flow_transitions.specs.declared.counting.TheConstants.{ENOUGH}
use Rattle.flow_transitions.specs.declared.fault.AutoFault.{AutoFault}
use Rattle.flow_transitions.specs.declared.fault.AutoFault.TheVariants.{Cases}
use Rattle.flow_transitions.specs.Choices.{choices_of, choices_in}
use Rattle.flow_transitions.specs.Counted.{way_count}
use Rattle.flow_transitions.specs.AutoFaults.{is_wide_act, has_wide, cases_fault}
use Rattle.flow_transitions.proofs.choosing.Crossing.{length-crossing}

-- ---- products and sums up to where counting stops
many : (a b : ℕ) → ENOUGH ≤ a → min (ENOUGH * suc b) ENOUGH ≡ min (a * suc b) ENOUGH
many a b h = omega (arith, mul_comm a (suc b), suc-mul b a, mul_comm ENOUGH (suc b), suc-mul b ENOUGH)

capped : (a b : ℕ) → ENOUGH ≤ a → min (ENOUGH * b) ENOUGH ≡ min (a * b) ENOUGH
capped a zero h = omega (arith, mul_comm a zero)
capped a (suc b) h = many a b h

-- the first factor may be cut where counting stops
pub product_capped : (a b : ℕ) → min (min a ENOUGH * b) ENOUGH ≡ min (a * b) ENOUGH
product_capped a b =
    ⊎_elim
    (λ (h : ENOUGH < a). ap (λ k. min (k * b) ENOUGH) (let e : min a ENOUGH ≡ ENOUGH = omega arith in e) ∙ capped a b (omega arith))
    (λ (h : a ≤ ENOUGH). ap (λ k. min (k * b) ENOUGH) (let e : min a ENOUGH ≡ a = omega arith in e))
    (cases_lt ENOUGH a)

-- ---- along acts
-- choices that are counted so far, and what is left of the acts
pub record AreCounted (all rest : Statements) (count : ℕ) : Type 0 where
  -- the count is no larger than counting goes
  pub few : count ≤ ENOUGH
  -- the count times the choices of what is left is the number of all choices, as far as counting goes
  pub product : min (count * length (choices_in rest)) ENOUGH ≡ min (length (choices_in all)) ENOUGH
  -- no act that was counted is too wide
  pub wide : has_wide all ≡ has_wide rest

-- before the first act the count is 1
pub counted_none : (all : Statements) → AreCounted all all 1
counted_none all = record {
  few = omega arith;
  product = ap (λ k. min k ENOUGH)
      (let e : 1 * length (choices_in all) ≡ length (choices_in all) = omega arith in e);
  wide = refl;
}

-- an act that isn't too wide multiplies the count by the number of its choices
pub counted_more : (all : Statements) (s : Statement) (rest : Statements) (count n after : ℕ) → n ≡ length (choices_of s)
    → is_wide_act s ≡ false → after ≡ min (count * n) ENOUGH →
    AreCounted all (cons s rest) count → AreCounted all rest after
counted_more all s rest count n after e w f c =
    let m = length (choices_in rest) in
    let total : length (choices_in (cons s rest)) ≡ n * m = length-crossing (choices_of s) (choices_in rest) ∙ ap (λ k. k * m) (sym e) in
    record {
      few = omega arith;
      product =
          ap (λ k. min (k * m) ENOUGH) f ∙ product_capped (count * n) m ∙ ap (λ k. min k ENOUGH) (mul_assoc count n m)
          ∙ ap (λ k. min (count * k) ENOUGH) (sym total) ∙ c.product;
      wide = c.wide ∙ ap (λ b. b || has_wide rest) w;
    }

-- behind the last act the count is the number of choices, as far as counting goes, and no act is too wide
pub counted_all : (all : Statements) (count : ℕ) → AreCounted all nil count
    → (count ≡ min (length (choices_in all)) ENOUGH) × (has_wide all ≡ false)
counted_all all count c = ((let p = c.product in let f = c.few in omega (arith, mul-one count)), c.wide)

-- an act that is too wide makes all acts have one
pub counted_wide : (all : Statements) (s : Statement) (rest : Statements) (count : ℕ) → is_wide_act s ≡ true
    → AreCounted all (cons s rest) count → has_wide all ≡ true
counted_wide all s rest count w c = c.wide ∙ ap (λ b. b || has_wide rest) w

-- ---- along all edges of the text
pub record AreSummed (all rest : List AutoEdge) (count : ℕ) : Type 0 where
  -- the count is no larger than counting goes
  pub few : count ≤ ENOUGH
  -- the count with the choices along the edges that are left is the number along all edges, as far as counting goes
  pub sum : min (count + sum_by way_count rest) ENOUGH ≡ min (sum_by way_count all) ENOUGH
  -- no edge that was counted has a fault
  pub wide : cases_fault all ≡ cases_fault rest

-- before the first edge the count is 0
pub summed_none : (all : List AutoEdge) → AreSummed all all 0
summed_none all = record {
  few = omega arith;
  sum = ap (λ k. min k ENOUGH)
      (let e : 0 + sum_by way_count all ≡ sum_by way_count all = omega arith in e);
  wide = refl;
}

abbrev found : Bool → AutoEdge → List AutoEdge → Option AutoFault
found b e rest = option_map (λ (x : AutoEdge). Cases x.at) (cond b (Some e) (find (λ x. has_wide x.acts) rest))

-- an edge with no act too wide adds the number of choices along it to the count
pub summed_more : (all : List AutoEdge) (e : AutoEdge) (rest : List AutoEdge) (count n after : ℕ) → n ≡ min (way_count e) ENOUGH
    → has_wide e.acts ≡ false → after ≡ min (count + n) ENOUGH →
    AreSummed all (e ∷ rest) count → AreSummed all rest after
summed_more all e rest count n after f w g c = record {
  few = omega arith;
  sum = let s = c.sum in omega (arith, sum_by-cons way_count e rest);
  wide = c.wide ∙ ap (λ b. found b e rest) w;
}

-- behind the last edge the count is the number of choices along all of them, as far as counting goes, and none has a fault
pub summed_all : (all : List AutoEdge) (count : ℕ) → AreSummed all [] count
    → (count ≡ min (sum_by way_count all) ENOUGH) × (cases_fault all ≡ None)
summed_all all count c = ((let s = c.sum in let f = c.few in omega arith), c.wide)

-- an edge with an act too wide, behind edges without one, has the fault
pub summed_wide : (all : List AutoEdge) (e : AutoEdge) (rest : List AutoEdge) (count : ℕ) → has_wide e.acts ≡ true
    → AreSummed all (e ∷ rest) count → cases_fault all ≡ Some (Cases e.at)
summed_wide all e rest count w c = c.wide ∙ ap (λ b. found b e rest) w
