use Rattle.std.proofs.Common.{◌≡◌, ◌∙◌, ℕ, Bool, List, get_or, refl, sym, ap₂, arith}
use Rattle.std.proofs.lemmas.List.{drop_all}
use Rattle.std.specs.Str.{bytes_eq}
use Rattle.source_packs.proofs.Positions.{position_here, position_behind, position_none}
use Rattle.source_packs.proofs.part.position.Goals as goal

-- the bytes that are compared are those of the name and of the one at this place
compared : (x : List ℕ) (ys : List (List ℕ)) (i : ℕ) (d second : List ℕ) (b : Bool) → second ≡ d → d ≡ get_or ys i d
    → b ≡ bytes_eq x second → bytes_eq x (get_or ys i d) ≡ b
compared x ys i d second b f h same = ap₂ (λ (y z : List ℕ). bytes_eq y z) (let e : x ≡ x = refl in e) (sym h ∙ sym f) ∙ sym same

pub returns-then-eq : goal.returns-then-eq
returns-then-eq c = position_here c.args.name.now c.args.names.now c.loop-other.other-index c.loop-other.number c.other-item.result
    c.loop-other-test.true
    (compared c.args.name.now c.args.names.now c.loop-other.other-index c.other-item.result c.bytes.result.now c.eq.result
    c.bytes.ensures.bytes c.other-item.is c.eq.ensures ∙ c.if-eq.true) c.loop-other.invariant.0

pub loop-other-preserved : goal.loop-other-preserved
loop-other-preserved c = (
  position_behind c.args.name.now c.args.names.now c.loop-other.other-index c.loop-other.number c.other-item.result
      c.loop-other-test.true
      (compared c.args.name.now c.args.names.now c.loop-other.other-index c.other-item.result c.bytes.result.now c.eq.result
      c.bytes.ensures.bytes c.other-item.is c.eq.ensures ∙ c.if-eq.false) c.loop-other.invariant.0,
  omega (arith, c.loop-other.invariant.1),
)

pub returns : goal.returns
returns c = position_none c.args.name.now c.args.names.now c.loop-other.other-index c.loop-other.number
    (drop_all c.loop-other.other-index c.args.names.now c.loop-other-test.false) c.loop-other.invariant.0
