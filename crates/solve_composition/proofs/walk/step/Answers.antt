use Rattle.std.proofs.Common.{◌∙◌, ◌∷◌, [], List, ap, ap₂, refl, sym, arith}
use Rattle.std.proofs.lemmas.List.{append-nil}
use Rattle.lang_tree.specs.Meaning.{put}
use Rattle.lang_tree.proofs.Put.{map-put}
use Rattle.theory_validity.specs.Words.{column, composed, free_count, no_form}
use Rattle.solve_composition.specs.declared.affine.Affine.{Affine}
use Rattle.solve_composition.specs.Composed.{dense}
use Rattle.solve_composition.proofs.walk.Frees.{frees-havoc}
use Rattle.solve_composition.proofs.walk.step.Goals as goal

pub compose_column-requires : goal.compose_column-requires
compose_column-requires c =
    let one = ap (λ a. free_count (a ∷ [])) c.in-Havoc.is ∙ frees-havoc c.in-Havoc.var in
    let room = c.requires.next in
    omega (arith, one, room)

pub overflow_add-result : goal.overflow_add-result
overflow_add-result c =
    let one = ap (λ a. free_count (a ∷ [])) c.in-Havoc.is ∙ frees-havoc c.in-Havoc.var in
    let room = c.requires.next in
    omega (arith, one, room, c.ranges.width.fits)

pub returns-in_ok-put-in-Assign : goal.returns-in_ok-put-in-Assign
returns-in_ok-put-in-Assign c = λ forms e.
    let f = c.in_ok-value-in-Assign.ensures forms (c.as_slice-in-Assign.ensures.value ∙ e) in
    rw c.in-Assign.is (
      refl,
      c.in_ok-put-in-Assign.ensures
          ∙ ap₂ (λ (s : List Affine) x. put (dense c.args.width no_form) s c.in-Assign.var x) e f.0
          ∙ sym (map-put (dense c.args.width) no_form forms c.in-Assign.var (composed c.in-Assign.form forms)),
      sym (append-nil c.args.guards.now.items),
      f.1,
    )

pub returns-in_ok-put-in-Havoc : goal.returns-in_ok-put-in-Havoc
returns-in_ok-put-in-Havoc c = λ forms e.
    rw c.in-Havoc.is (
      omega arith,
      c.in_ok-put-in-Havoc.ensures
          ∙ ap₂ (λ (s : List Affine) x. put (dense c.args.width no_form) s c.in-Havoc.var x) e c.in_ok-value-in-Havoc.ensures
          ∙ sym (map-put (dense c.args.width) no_form forms c.in-Havoc.var (column c.args.next)),
      sym (append-nil c.args.guards.now.items),
      refl,
    )
