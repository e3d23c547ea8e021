-- The work of a source program, and that of its core.
use Rattle.std.proofs.Common.{◌≡◌, ◌+◌, ℕ, Bool, true, false, List, [], ◌∷◌, ◌++◌, append_assoc, refl, sym, ap, ◌∙◌, arith}
use Rattle.std.specs.Prelude.{if◌then◌else◌}
use Rattle.lang_tree.specs.Tree.{Deed, sets, havocs, wheres, checks, statement_by}
use Rattle.lang_tree.specs.Tree as tree
use Rattle.lang_tree.specs.PointNumbers as points
use Rattle.lang_tree.specs.Runs as core
use Rattle.source_tree.specs.Expressions.{Expression}
use Rattle.source_tree.specs.Statements.{Change, LoopKind, while_loop, for_loop, do_loop}
use Rattle.source_tree.specs.Statements.{Statements, loop, nil, cons}
use Rattle.source_core.specs.Core.{followed_by, behind, change_deeds, changes_deeds, condition_of, kind_of, core_of, core_in, points_of}
use Rattle.source_core.specs.Core.{points_in}
use Rattle.source_core.specs.SourceRuns.{Item, node, change, mark, turn, end, nodes, branch_work, head_work, turn_work, end_work, past_loop}
use Rattle.source_core.specs.SourceRuns.{end_of_body, changes_work}
use Rattle.base_integers.specs.declared.integers.Integers.{Integers}

-- ---- deeds with a number
-- the nodes of deeds, all with one number, and other work behind them
abbrev pub deed_items : ℕ → List Deed → List core.Item → List core.Item
deed_items m [] rest = rest
deed_items m (d ∷ ds) rest = core.node (statement_by d) m ∷ deed_items m ds rest

-- deeds in a work list are nodes with the number 0
pub deeds_work-is : (ds : List Deed) (rest : List core.Item) → core.deeds_work ds rest ≡ deed_items 0 ds rest
deeds_work-is [] rest = refl
deeds_work-is (d ∷ ds) rest = ap (λ r. core.node (statement_by d) 0 ∷ r) (deeds_work-is ds rest)

-- what is put behind the work of deeds is put behind what stands behind them
pub deed_items-onto : (m : ℕ) (ds : List Deed) (us bs : List core.Item) → deed_items m ds us ++ bs ≡ deed_items m ds (us ++ bs)
deed_items-onto m [] us bs = refl
deed_items-onto m (d ∷ ds) us bs = ap (λ r. core.node (statement_by d) m ∷ r) (deed_items-onto m ds us bs)

no_points : (d : Deed) (m : ℕ) → m + points.points_of (statement_by d) ≡ m
no_points (sets v f line) m = omega arith
no_points (havocs v line) m = omega arith
no_points (wheres c line) m = omega arith
no_points (checks about c line) m = omega arith

-- the nodes of deeds that stand before statements are those of the deeds, and then those of the statements
pub nodes-behind : (ds : List Deed) (rest : tree.Statements) (m : ℕ) → core.nodes (behind ds rest) m ≡ deed_items m ds (core.nodes rest m)
nodes-behind [] rest m = refl
nodes-behind (d ∷ ds) rest m =
    ap (λ r. core.node (statement_by d) m ∷ r)
    (ap (λ k. core.nodes (behind ds rest) k) (no_points d m) ∙ nodes-behind ds rest m)

-- the work of one list of deeds and then another is that of the first onto that of the second
pub deeds_work-then : (ds es : List Deed) (rest : List core.Item)
    → core.deeds_work (ds ++ es) rest ≡ core.deeds_work ds (core.deeds_work es rest)
deeds_work-then [] es rest = refl
deeds_work-then (d ∷ ds) es rest = ap (λ r. core.node (statement_by d) 0 ∷ r) (deeds_work-then ds es rest)

-- ---- one list of statements and then another
-- the points of one list and then another
pub points-followed : (a b : tree.Statements) → points.points_in (followed_by a b) ≡ points.points_in a + points.points_in b
points-followed tree.nil b = omega arith
points-followed (tree.cons s ss) b = let e = points-followed ss b in omega (arith, e)

nodes-followed : (a b : tree.Statements) (m : ℕ) → core.nodes (followed_by a b) m ≡ core.nodes a m ++ core.nodes b (m + points.points_in a)
nodes-followed tree.nil b m = ap (λ k. core.nodes b k) (omega arith)
nodes-followed (tree.cons s ss) b m =
    ap (λ r. core.node s m ∷ r) (nodes-followed ss b (m + points.points_of s)
    ∙ ap (λ k. core.nodes ss (m + points.points_of s) ++ core.nodes b k) (omega arith))

-- ---- images
-- the work of the core for an item
abbrev pub item_core : (integers : Integers) → ℕ → Item → List core.Item → List core.Item
item_core integers n (node s m) rest = core.nodes (core_of integers n s) m ++ rest
item_core integers n (change g) rest = core.deeds_work (change_deeds integers n g) rest
item_core integers n (mark p) rest = core.mark p ∷ rest
item_core integers n (turn kind e body line m) rest = core.deeds_work (condition_of integers n line e).prelude
    (core.turn (kind_of integers n kind (condition_of integers n line e).prelude) (condition_of integers n line e).condition
    (core_in integers n body) line m ∷ rest)
item_core integers n (end kind e body line m) rest =
    core.end (kind_of integers n kind (condition_of integers n line e).prelude) (condition_of integers n line e).condition
    (core_in integers n body) line m ∷ rest

-- the work of the core for a list of items, onto other work
abbrev pub image_onto : (integers : Integers) → ℕ → List Item → List core.Item → List core.Item
image_onto integers n [] rest = rest
image_onto integers n (i ∷ is) rest = item_core integers n i (image_onto integers n is rest)

-- the work of the core for a list of items
abbrev pub image : (integers : Integers) → ℕ → List Item → List core.Item
image integers n is = image_onto integers n is []

-- the core's work for one list of items and then another is that of the first onto that of the second
pub image-then : (integers : Integers) (n : ℕ) (us bs : List Item) (rest : List core.Item)
    → image_onto integers n (us ++ bs) rest ≡ image_onto integers n us (image_onto integers n bs rest)
image-then integers n [] bs rest = refl
image-then integers n (a ∷ us) bs rest = ap (λ r. item_core integers n a r) (image-then integers n us bs rest)

-- the core's work for the nodes of statements is the nodes of their core
pub image-nodes : (integers : Integers) (n : ℕ) (ss : Statements) (m : ℕ) (rest : List core.Item)
    → image_onto integers n (nodes integers n ss m) rest ≡ core.nodes (core_in integers n ss) m ++ rest
image-nodes integers n nil m rest = refl
image-nodes integers n (cons s ss) m rest =
    ap (λ r. core.nodes (core_of integers n s) m ++ r) (image-nodes integers n ss (m + points_of integers n s) rest)
    ∙ sym (append_assoc (core.nodes (core_of integers n s) m) (core.nodes (core_in integers n ss) (m + points_of integers n s)) rest)
    ∙ ap (λ r. r ++ rest) (sym (nodes-followed (core_of integers n s) (core_in integers n ss) m))

-- the nodes of statements, and other work behind them
pub image-nodes_then : (integers : Integers) (n : ℕ) (ss : Statements) (m : ℕ) (is : List Item)
    → image integers n (nodes integers n ss m ++ is) ≡ core.nodes (core_in integers n ss) m ++ image integers n is
image-nodes_then integers n ss m is = image-then integers n (nodes integers n ss m) is []
    ∙ image-nodes integers n ss m (image integers n is)

-- behind an `if` the core's work is that for the source's
pub image-branch : (integers : Integers) (n : ℕ) (t : Bool) (first second : Statements) (m : ℕ) (is : List Item)
    → core.branch_work t (core_in integers n first) (core_in integers n second) m (image integers n is) ≡ image integers n
    (branch_work integers n t first second m is)
image-branch integers n true first second m is = sym (image-nodes_then integers n first m (mark _ ∷ is))
image-branch integers n false first second m is = sym (image-nodes_then integers n second (m + points_in integers n first) (mark _ ∷ is))

image-body : (integers : Integers) (n : ℕ) (kind : LoopKind) (e : Expression) (body : Statements) (line m : ℕ) (is : List Item)
    → core.body_work (kind_of integers n kind (condition_of integers n line e).prelude) (condition_of integers n line e).condition
    (core_in integers n body) line m (image integers n is)
    ≡ image integers n (nodes integers n body (m + 1) ++ (end kind e body line m ∷ is))
image-body integers n kind e body line m is = sym (image-nodes_then integers n body (m + 1) (end kind e body line m ∷ is))

-- behind the head of a loop the core's work is that for the source's
pub image-head : (integers : Integers) (n : ℕ) (kind : LoopKind) (e : Expression) (body : Statements) (line m : ℕ) (is : List Item)
    → core.head_work (kind_of integers n kind (condition_of integers n line e).prelude) (condition_of integers n line e).condition
    (core_in integers n body) line m (image integers n is)
    ≡ image integers n (head_work integers n kind e body line m is)
image-head integers n while_loop e body line m is = refl
image-head integers n (for_loop gs) e body line m is = refl
image-head integers n do_loop e body line m is = image-body integers n do_loop e body line m is

-- behind the turn of a loop the core's work is that for the source's
pub image-turn : (integers : Integers) (n : ℕ) (t : Bool) (kind : LoopKind) (e : Expression) (body : Statements) (line m : ℕ)
    (is : List Item)
    → core.turn_work t (kind_of integers n kind (condition_of integers n line e).prelude) (condition_of integers n line e).condition
    (core_in integers n body) line m
    (image integers n is)
    ≡ image integers n (turn_work integers n t kind e body line m is)
image-turn integers n true while_loop e body line m is = image-body integers n while_loop e body line m is
image-turn integers n true (for_loop gs) e body line m is = image-body integers n (for_loop gs) e body line m is
image-turn integers n true do_loop e body line m is = refl
image-turn integers n false kind e body line m is = refl

image-changes : (integers : Integers) (n : ℕ) (gs : List Change) (is : List Item)
    → core.deeds_work (changes_deeds integers n gs) (image integers n is) ≡ image integers n (changes_work gs is)
image-changes integers n [] is = refl
image-changes integers n (g ∷ gs) is = deeds_work-then (change_deeds integers n g) (changes_deeds integers n gs) (image integers n is)
    ∙ ap (λ r. core.deeds_work (change_deeds integers n g) r) (image-changes integers n gs is)

-- behind the end of a loop's body the core's work is that for the source's
pub image-end : (integers : Integers) (n : ℕ) (kind : LoopKind) (e : Expression) (body : Statements) (line m : ℕ) (is : List Item)
    → core.end_work (kind_of integers n kind (condition_of integers n line e).prelude) (condition_of integers n line e).condition
    (core_in integers n body) line m (image integers n is)
    ≡ image integers n (end_work integers n kind e body line m is)
image-end integers n while_loop e body line m is = refl
image-end integers n (for_loop gs) e body line m is = image-changes integers n gs (node (loop (for_loop gs) e body line) m ∷ is)
image-end integers n do_loop e body line m is = refl

-- behind an assumption the core's work is that for the source's
pub image-split : (integers : Integers) (n : ℕ) (t : Bool) (m : ℕ) (is : List Item)
    → (if t then core.mark m ∷ image integers n is else image integers n is) ≡ image integers n (if t then mark m ∷ is else is)
image-split integers n true m is = refl
image-split integers n false m is = refl

-- ---- jumps
past-deeds : (ds : List Deed) (rest : List core.Item) → core.past_loop (core.deeds_work ds rest) ≡ core.past_loop rest
past-deeds [] rest = refl
past-deeds (d ∷ ds) rest = past-deeds ds rest

past-nodes : (ss : tree.Statements) (m : ℕ) (rest : List core.Item) → core.past_loop (core.nodes ss m ++ rest) ≡ core.past_loop rest
past-nodes tree.nil m rest = refl
past-nodes (tree.cons s ss) m rest = past-nodes ss (m + points.points_of s) rest

-- past the innermost loop the core's work is that for the source's
pub image-past : (integers : Integers) (n : ℕ) (is : List Item) → core.past_loop (image integers n is) ≡ image integers n (past_loop is)
image-past integers n [] = refl
image-past integers n (node s m ∷ is) = past-nodes (core_of integers n s) m (image integers n is) ∙ image-past integers n is
image-past integers n (change g ∷ is) = past-deeds (change_deeds integers n g) (image integers n is) ∙ image-past integers n is
image-past integers n (mark p ∷ is) = image-past integers n is
image-past integers n (turn kind e body line m ∷ is) = past-deeds (condition_of integers n line e).prelude _ ∙ image-past integers n is
image-past integers n (end kind e body line m ∷ is) = refl

ending-deeds : (ds : List Deed) (rest : List core.Item) → core.end_of_body (core.deeds_work ds rest) ≡ core.end_of_body rest
ending-deeds [] rest = refl
ending-deeds (d ∷ ds) rest = ending-deeds ds rest

ending-nodes : (ss : tree.Statements) (m : ℕ) (rest : List core.Item) → core.end_of_body (core.nodes ss m ++ rest) ≡ core.end_of_body rest
ending-nodes tree.nil m rest = refl
ending-nodes (tree.cons s ss) m rest = ending-nodes ss (m + points.points_of s) rest

-- from the end of the innermost loop's body on the core's work is that for the source's
pub image-ending : (integers : Integers) (n : ℕ) (is : List Item)
    → core.end_of_body (image integers n is) ≡ image integers n (end_of_body is)
image-ending integers n [] = refl
image-ending integers n (node s m ∷ is) = ending-nodes (core_of integers n s) m (image integers n is) ∙ image-ending integers n is
image-ending integers n (change g ∷ is) = ending-deeds (change_deeds integers n g) (image integers n is) ∙ image-ending integers n is
image-ending integers n (mark p ∷ is) = image-ending integers n is
image-ending integers n (turn kind e body line m ∷ is) = ending-deeds (condition_of integers n line e).prelude _
    ∙ image-ending integers n is
image-ending integers n (end kind e body line m ∷ is) = refl
