use Rattle.std.proofs.Common.{◌≡◌, ◌∙◌, ◌+◌, ◌<◌, ℕ, Bool, true, false, List, [], ◌∷◌, ◌++◌, Option, Some, None, length, take, get_or}
use Rattle.std.proofs.Common.{refl, sym, ap, cond, add-one}
use Rattle.std.proofs.Math.Seq.{take-suc}
use Rattle.std.specs.Option.{option_copied}
use Rattle.source_tokens.specs.Constants.{defined_at, is_before}
use Rattle.source_tokens.specs.declared.definition.Definition.{Definition}
use Rattle.source_tokens.proofs.constants.defined_of.Goals as goal
use Rattle.source_tokens.proofs.constants.defined_of.Goals.{then-is_before, else-is_before}

or_this : (b : Bool) (c d : Definition) (o other : Option Definition)
    → elim (cond b (Some d) o) as (λ x. Option Definition) [ None ↦ other | Some e ↦ Some e ]
    ≡ cond b (Some d) (elim o as (λ x. Option Definition) [ None ↦ other | Some e ↦ Some e ])
or_this true c d o other = refl
or_this false c d o other = refl

-- the last definition is the one that counts, if it is of the name and before the place
defined_last : (ds : List Definition) (d : Definition) (x : List ℕ) (at : ℕ)
    → defined_at (ds ++ d ∷ []) x at ≡ cond (is_before x at d) (Some d) (defined_at ds x at)
defined_last [] d x at = refl
defined_last (c ∷ ds) d x at =
    ap (λ (o : Option Definition). elim o as (λ y. Option Definition) [ None ↦ cond (is_before x at c) (Some c) None | Some e ↦ Some e ])
    (defined_last ds d x at)
    ∙ or_this (is_before x at d) c d (defined_at ds x at) (cond (is_before x at c) (Some c) None)

defined_more : (ds : List Definition) (i : ℕ) (d : Definition) (x : List ℕ) (at : ℕ) → i < length ds → d ≡ get_or ds i d
    → defined_at (take (i + 1) ds) x at ≡ cond (is_before x at d) (Some d) (defined_at (take i ds) x at)
defined_more ds i d x at h e =
    ap (λ n. defined_at (take n ds) x at) (add-one i)
    ∙ ap (λ (l : List Definition). defined_at l x at) (take-suc ds i d h ∙ ap (λ (y : Definition). take i ds ++ y ∷ []) (sym e))
    ∙ defined_last (take i ds) d x at

pub loop-definition-preserved : goal.loop-definition-preserved
loop-definition-preserved c =
    let ds = c.args.definitions.now in
    let d = c.definition-item.result in
    let before = defined_at (take c.loop-definition.definition-index ds) c.args.name.now c.args.at in
    let more = defined_more ds c.loop-definition.definition-index d c.args.name.now c.args.at c.loop-definition-test.true
    c.definition-item.is ∙ ap (λ b. cond b (Some d) before) (sym c.is_before.ensures) in
    elim c.if-is_before.branch [
      | then-is_before w ↦ ap option_copied w.last-is ∙ sym (more ∙ ap (λ b. cond b (Some d) before) w.if-is_before.true)
      | else-is_before w ↦ ap option_copied w.last-is ∙ c.loop-definition.invariant
          ∙ sym (more ∙ ap (λ b. cond b (Some d) before) w.if-is_before.false)
    ]
