use Rattle.std.proofs.Common.{List, sym, subst}
use Rattle.flow_rationals.specs.declared.reading.written.Written.{Written}
use Rattle.flow_rationals.proofs.found.Tree.{EquationsGoOn, equations_start, equations_go, equations_stuck, equations_end}
use Rattle.flow_rationals.proofs.reading.tree.equations.Goals as goal

pub equations-init : goal.equations-init
equations-init c = λ es h.
    subst (λ (x : List Written). EquationsGoOn x c.args.symbols.now es) (sym c.new-equations.ensures.items)
    (equations_start c.args.symbols.now es h)

pub returns-in_default-2 : goal.returns-in_default-2
returns-in_default-2 c = λ es h.
    equations_stuck c.equations.equations.items c.equations.rest.now es (c.equations.invariant es h) c.in-None.ensures
    (rw c.in_default-2.is at c.in_ok-next.ensures.found)

pub equations-preserved : goal.equations-preserved
equations-preserved c = λ es h.
    subst (λ (x : List Written). EquationsGoOn x c.in-Some.after.now es) (sym c.in_ok-push.ensures.items)
    (equations_go c.equations.equations.items c.equations.rest.now c.in-Some.after.now c.in-Some.next es (c.equations.invariant es h)
    c.in-None.ensures
    (rw c.in-Some.is at c.in_ok-next.ensures.found))

pub returns : goal.returns
returns c = λ es h.
    equations_end c.equations.equations.items c.equations.rest.now c.in_default.field-0.now es (c.equations.invariant es h)
    c.in_default.ensures
