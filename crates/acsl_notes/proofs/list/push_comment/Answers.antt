use Rattle.std.proofs.Common.{◌≡◌, ◌++◌, List, ℕ, ℤ, ap, subst₂, ◌∙◌, length, map}
use Rattle.std.proofs.lemmas.Result.{IfOk-weaker}
use Rattle.base_fractions.specs.Extended.{extended}
use Rattle.flow_systems.specs.View.{vector_of}
use Rattle.acsl_notes.specs.Clauses.{clauses}
use Rattle.acsl_notes.specs.Texts.{comment_unless_silent}
use Rattle.acsl_notes.specs.View.{anchor_of, clauses_of_said}
use Rattle.acsl_notes.proofs.list.push_comment.Goals as goal

pub returns : goal.returns
returns c =
    let said = c.in_ok-said.said.items in
    let template = c.args.system.now.template in
    let bounds = c.args.bounds.now in
    let says : clauses_of_said template said ≡ clauses c.args.anchor.now.known template
    (vector_of (length template) (map extended bounds) c.args.point) =
    subst₂ (λ (rows : List (List ℤ)) (known : List ℕ). clauses_of_said rows said
    ≡ clauses known rows (vector_of (length rows) (map extended bounds) c.args.point))
    c.as_slice-rows.ensures.rows c.as_slice.ensures c.in_ok-said.ensures in
    IfOk-weaker c.push_unless_silent.result _ _
    (λ x e. e ∙ ap (λ list. c.args.found.now.items ++ comment_unless_silent c.args.text.now c.args.system.now.flow.names
    (anchor_of c.args.anchor.now) list)
    (ap (clauses_of_said template) c.deref.ensures.value ∙ says))
    c.push_unless_silent.ensures
