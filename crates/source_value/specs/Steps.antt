-- The steps of the code.
use Rattle.std.specs.Prelude.{ℕ, pos}
use Rattle.lang_tree.specs.declared.form.Form.{Form}
use Rattle.source_tree.specs.Expressions as tree
use Rattle.source_core.specs.Forms.{constant_form, variable_form, plus, minus}
use Rattle.source_value.specs.declared.step.Direction.{Direction}
use Rattle.source_value.specs.declared.step.Direction.TheVariants.{Up, Down}
use Rattle.source_value.specs.declared.step.Moment.{Moment}
use Rattle.source_value.specs.declared.step.Moment.TheVariants.{Before, Behind}

-- the direction of a tree that one of the code is
abbrev pub direction_of : Direction → tree.Direction
direction_of Up = tree.up
direction_of Down = tree.down

-- the moment of a tree that one of the code is
abbrev pub moment_of : Moment → tree.Moment
moment_of Before = tree.before
moment_of Behind = tree.behind

-- what a variable has behind its step
abbrev pub stepped_form : tree.Direction → (var : ℕ) → Form
stepped_form tree.up i = plus (variable_form i) (constant_form (pos 1))
stepped_form tree.down i = minus (variable_form i) (constant_form (pos 1))
