use Rattle.std.proofs.Common.{◌∙◌, ◌+◌, ◌++◌, ◌∷◌, [], length, refl, ap, sym, arith}
use Rattle.std.proofs.lemmas.List.{length-append}
use Rattle.lang_tree.specs.Meaning.{put}
use Rattle.lang_tree.proofs.Put.{put_within}
use Rattle.theory_validity.specs.Words.{no_form}
use Rattle.solve_composition.specs.Composed.{dense}
use Rattle.solve_composition.proofs.walk.Pushed.{put_pushed}
use Rattle.solve_composition.proofs.walk.put.Goals as goal

pub loop-added-init : goal.loop-added-init
loop-added-init c =
    let v = c.args.state.now in
    record { same = refl; size = omega (arith, v.ok.0, c.len-added.ensures) }

pub loop-added-preserved : goal.loop-added-preserved
loop-added-preserved c =
    let size = c.loop-added.invariant.size in
    let pushed = c.in_ok-push.ensures.items ∙ ap (λ f. c.loop-added.state.items ++ f ∷ []) c.in_ok-compose_nothing.ensures in
    record {
      same = ap (λ r. put (dense c.args.width no_form) r c.args.variable c.args.form) pushed
          ∙ put_pushed (dense c.args.width no_form) c.loop-added.state.items c.args.variable c.args.form (omega arith)
          ∙ c.loop-added.invariant.same;
      size = ap length pushed ∙ length-append c.loop-added.state.items (dense c.args.width no_form ∷ []) ∙ ap (λ k. k + 1) size;
    }

pub index_mut-requires : goal.index_mut-requires
index_mut-requires c =
    let v = c.loop-added.state in
    let size = c.loop-added.invariant.size in
    omega (arith, v.ok.0, size, c.loop-added-test.false)

pub returns : goal.returns
returns c =
    let size = c.loop-added.invariant.size in
    sym (put_within (dense c.args.width no_form) c.loop-added.state.items c.args.variable c.args.form (omega arith))
    ∙ c.loop-added.invariant.same
