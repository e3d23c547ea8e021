use Rattle.std.proofs.Common.{◌≡◌, ◌≢◌, ◌∙◌, ◌+◌, ◌*◌, ◌/◌, ◌%◌, ◌<◌, true, false, true≢false, refl, sym, ap, subst, arith}
use Rattle.std.proofs.Math.Nat.{div-add-mod}
use Rattle.cert_types.specs.Certificates.{step_of}
use Rattle.theory_validity.specs.Steps.{names, Unnamed}
use Rattle.theory_validity.proofs.steps.Puts.{names_itself}
use Rattle.cert_checker.specs.Items.{item_at, earlier_items}
use Rattle.cert_checker.proofs.names.Items.{names_no, not_earlier, earlier_more}
use Rattle.cert_checker.proofs.names.is_repeated.Goals as goal

pub loop-j-init : goal.loop-j-init
unfolding earlier_items
loop-j-init c = λ rows h. tt

pub returns-then-unknown_at-unknown : goal.returns-then-unknown_at-unknown
returns-then-unknown_at-unknown c = λ rows h.
    let j = c.loop-j.j in
    let k = c.args.k in
    let step = c.args.step.now in
    let point : (item_at rows step j).point ≡ (item_at rows step k).point =
    c.unknown_at.ensures.point rows ∙ ap (λ u. u / rows) c.if-unknown_at-unknown.true
    ∙ sym (c.unknown_at-unknown.ensures.point rows) in
    let row : (item_at rows step j).row ≡ (item_at rows step k).row = c.unknown_at.ensures.row rows
    ∙ ap (λ u. u % rows) c.if-unknown_at-unknown.true ∙ sym (c.unknown_at-unknown.ensures.row rows) in
    let named : names (item_at rows step j) (item_at rows step k).point (item_at rows step k).row ≡ true =
    subst (λ p. names (item_at rows step j) p (item_at rows step k).row ≡ true) point
    (subst (λ r. names (item_at rows step j) (item_at rows step j).point r ≡ true) row (names_itself (item_at rows step j))) in (
      (λ e. absurd (true≢false e)),
      (λ u. absurd (not_earlier (step_of rows step).items k j (item_at rows step k).point
          (item_at rows step k).row c.loop-j-test.true named u)),
    )

pub loop-j-preserved : goal.loop-j-preserved
loop-j-preserved c = λ rows h.
    let j = c.loop-j.j in
    let k = c.args.k in
    let step = c.args.step.now in
    let u = c.unknown_at-unknown.result in
    let less : u % rows < rows = omega (arith, h) in
    let apart : c.unknown_at.result ≢ u / rows * rows + u % rows = λ e. c.if-unknown_at-unknown.false
    (let a = div-add-mod u rows in omega (arith, a, e)) in
    let free : names (item_at rows step j) (u / rows) (u % rows) ≡ false =
    names_no rows (item_at rows step j) c.unknown_at.result (c.unknown_at.ensures.point rows) (c.unknown_at.ensures.row rows)
    (u / rows) (u % rows) less apart in
    earlier_more (step_of rows step).items j (item_at rows step k).point (item_at rows step k).row
    (subst (λ p. names (item_at rows step j) p (item_at rows step k).row ≡ false) (sym (c.unknown_at-unknown.ensures.point rows))
    (subst (λ r. names (item_at rows step j) (u / rows) r ≡ false) (sym (c.unknown_at-unknown.ensures.row rows)) free))
    (c.loop-j.invariant rows h)

pub returns : goal.returns
returns c = λ rows h.
    let e : c.loop-j.j ≡ c.args.k = let a = c.loop-j-test.false in let b = c.loop-j.auto.j-end in omega (arith, a, b) in
    let step = c.args.step.now in (
      (λ t. subst (λ n. Unnamed (earlier_items (step_of rows step).items n) (item_at rows step c.args.k).point
          (item_at rows step c.args.k).row) e (c.loop-j.invariant rows h)),
      (λ u. refl),
    )
