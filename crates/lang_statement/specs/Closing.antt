-- One step of closing or attaching.
use Rattle.std.specs.Prelude.{◌≡◌, ◌<◌, List, length, Option, Some, None}
use Rattle.std.specs.declared.alloc.Global.{Global}
use Rattle.std.specs.declared.vec.Vec.{Vec}
use Rattle.lang_tree.specs.declared.stmt.Stmt.{Stmt}
use Rattle.lang_tree.specs.Tree.{Statements}
use Rattle.lang_tree.specs.View.{statements_of}
use Rattle.lang_meaning.specs.Walk.{State}
use Rattle.lang_meaning.specs.Feed.{Frame}

-- What is pending before a step and after it: there are no nodes left where this is what the whole gives; else the whole goes on with the
-- nodes that are left, and fewer frames are pending.
abbrev pub GoesOn : (State → Statements → List Frame → State × List Frame) → State × List Frame → Statements → State
    × List Frame → Option (Vec Stmt Global) → Type 0
GoesOn whole before nodes now None = whole before.0 nodes before.1 ≡ now
GoesOn whole before nodes now (Some left) = (whole before.0 nodes before.1
    ≡ whole now.0 (statements_of left.items) now.1) × (length now.1 < length before.1)
