use Rattle.std.proofs.Common.{◌≡◌, ◌∙◌, sym, [], List}
use Rattle.std.specs.declared.alloc.Global.{Global}
use Rattle.std.specs.declared.vec.Vec.{Vec}
use Rattle.lang_tree.specs.Tree.{Deed}
use Rattle.lang_tree.specs.DeedView.{deeds_of}
use Rattle.lang_tree.specs.declared.deed.Deed as code_deed
use Rattle.source_change.proofs.limited.Told.{hidden_told, deeds_told, leaves_told}
use Rattle.source_change.proofs.limits.limited_deeds.Goals as goal

-- deeds of the code are these
abbrev Are : Vec code_deed.Deed Global → List Deed → Type 0
Are v es = deeds_of v.items ≡ es

pub returns-then-not-is_within : goal.returns-then-not-is_within
returns-then-not-is_within c = λ ds e. hidden_told c.args.site.variables c.args.at c.args.next Are c.past.result ds [] ds c.past.ensures
    (sym c.if-not-is_within.ensures)

pub returns-in-Some : goal.returns-in-Some
returns-in-Some c = λ ds e. deeds_told c.args.site.variables c.args.at c.args.next ds c.in-Some.deeds (c.in-Some.ensures ∙ e)

pub returns-in-None : goal.returns-in-None
returns-in-None c = λ ds e. leaves_told c.args.site.variables c.args.at c.args.next Are c.past-in-None.result ds c.past-in-None.ensures
    (sym c.if-not-is_within.ensures) (c.in-None.ensures ∙ e)
