use Rattle.std.proofs.Common.{◌≡◌, length}
use Rattle.lang_tree.specs.Meaning.{put}
use Rattle.theory_validity.specs.Words.{no_form}
use Rattle.solve_composition.specs.Composed.{dense}
use Rattle.solve_composition.proofs.walk.put.Given as goal

abbrev pub invariant-loop-added : goal.invariant-loop-added
invariant-loop-added l = record {
  same : put (dense l.width no_form) l.state.items l.variable l.form ≡ put (dense l.width no_form) l.fn.state.items l.variable l.form;
  size : length l.state.items ≡ l._added;
}
