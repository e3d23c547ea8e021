-- What statements without their places are in the core: the same, but for lines and the places of checks.
use Rattle.std.proofs.Common.{◌≡◌, ◌∙◌, ◌++◌, ◌∷◌, ℕ, List, [], map, length, refl, ap, ap₂, sym}
use Rattle.std.specs.List.{list_all}
use Rattle.lang_tree.specs.declared.check.CheckKind.TheVariants.{Assert}
use Rattle.lang_tree.specs.Tree as tree
use Rattle.lang_tree.specs.Tree.{Deed, nodes_in}
use Rattle.source_tree.specs.Expressions.{Expression}
use Rattle.source_tree.specs.Statements.{Change, sets, evaluates, LoopKind, while_loop, for_loop, do_loop}
use Rattle.source_tree.specs.Statements.{Statement, Statements, declares, changes, assumes, asserts, never, branch, loop, jump, label, nil}
use Rattle.source_tree.specs.Statements.{cons}
use Rattle.source_core.specs.Elaborated.{Result, a_form, a_truth, any, Elaborated, Numbered, Tested, Evaluated, elaborated, numbered}
use Rattle.source_core.specs.Elaborated.{tested}
use Rattle.source_core.specs.Core.{followed_by, behind, one, taken_any, taken, change_deeds, changes_deeds, condition_of, kind_of}
use Rattle.source_core.specs.Core.{core_of, core_in}
use Rattle.source_meaning.specs.Limits.{is_small_deed}
use Rattle.source_meaning.specs.Changes.{behind_taken, behind_change}
use Rattle.acsl_shift.specs.Moves.{kind_without_line, without_lines}
use Rattle.acsl_shift.specs.Sources.{expression_without, change_without, kind_without, statement_without, without_places}
use Rattle.acsl_shift.proofs.moves.Deeds.{bare_deeds, bare_append, bare_length, bare_small, followed_bare, behind_bare, nodes_same}
use Rattle.acsl_shift.proofs.moves.Elaborated.{bare, bare_test, any_bare, elaborated_bare, evaluated_bare, numbered_bare}
use Rattle.base_integers.specs.declared.integers.Integers.{Integers}

-- ---- what a variable takes
module _ (integers : Integers) (line : ℕ) (e : Elaborated) where
  -- the deeds
  taken_bare : (var : ℕ) (r : Result) → bare_deeds (taken integers var line e r) ≡ taken integers var 0 (bare e) r
  taken_bare var (a_form f) =
      bare_append (numbered integers line e).prelude (tree.sets var (numbered integers line e).form line ∷ [])
      ∙ ap (λ (a : Numbered). a.prelude ++ (tree.sets var a.form 0 ∷ [])) (numbered_bare integers line e (bare e) refl)
  taken_bare var (a_truth c) =
      bare_append (numbered integers line e).prelude (tree.sets var (numbered integers line e).form line ∷ [])
      ∙ ap (λ (a : Numbered). a.prelude ++ (tree.sets var a.form 0 ∷ [])) (numbered_bare integers line e (bare e) refl)
  taken_bare var any = bare_append e.prelude (taken_any integers var line)
      ∙ ap (λ (ds : List Deed). bare_deeds e.prelude ++ ds) (any_bare integers line var)

  -- the hidden variable behind it
  behind_taken_bare : (r : Result) → behind_taken integers line e r ≡ behind_taken integers 0 (bare e) r
  behind_taken_bare (a_form f) = ap (λ (a : Numbered). a.next) (numbered_bare integers line e (bare e) refl)
  behind_taken_bare (a_truth c) = ap (λ (a : Numbered). a.next) (numbered_bare integers line e (bare e) refl)
  behind_taken_bare any = refl

-- how many deeds there are where a variable takes any of the integers
pub any_length : (integers : Integers) (var line : ℕ) → length (taken_any integers var line) ≡ length (taken_any integers var 0)
any_length integers var line = sym (bare_length (taken_any integers var line))
    ∙ ap (λ (ds : List Deed). length ds) (any_bare integers line var)

module _ (integers : Integers) (n : ℕ) where
  -- ---- changes
  -- the deeds of a change
  pub deeds_same : (g : Change) → bare_deeds (change_deeds integers n g) ≡ change_deeds integers n (change_without g)
  deeds_same (sets var e line) =
      taken_bare integers line (elaborated integers line e n) var (elaborated integers line e n).result
      ∙ ap (λ (x : Elaborated). taken integers var 0 x x.result) (elaborated_bare integers line e n)
  deeds_same (evaluates es line) = ap (λ (x : Evaluated). x.prelude) (evaluated_bare integers line es n)

  -- the hidden variable behind it
  pub behind_change_same : (line : ℕ) (g : Change) → behind_change integers n line g ≡ behind_change integers n 0 (change_without g)
  behind_change_same line (sets var e k) =
      behind_taken_bare integers k (elaborated integers k e n) (elaborated integers k e n).result
      ∙ ap (λ (x : Elaborated). behind_taken integers 0 x x.result) (elaborated_bare integers k e n)
  behind_change_same line (evaluates es k) = ap (λ (x : Evaluated). x.next) (evaluated_bare integers k es n)

  -- how many they are
  pub deeds_length : (g : Change) → length (change_deeds integers n g) ≡ length (change_deeds integers n (change_without g))
  deeds_length g = sym (bare_length (change_deeds integers n g)) ∙ ap (λ (ds : List Deed). length ds) (deeds_same g)

  -- how small they are
  pub deeds_small : (g : Change)
      → list_all is_small_deed (change_deeds integers n g) ≡ list_all is_small_deed (change_deeds integers n (change_without g))
  deeds_small g = sym (bare_small (change_deeds integers n g)) ∙ ap (λ (ds : List Deed). list_all is_small_deed ds) (deeds_same g)

  -- the deeds of changes in order
  changes_same : (gs : List Change) → bare_deeds (changes_deeds integers n gs) ≡ changes_deeds integers n (map change_without gs)
  changes_same [] = refl
  changes_same (g ∷ gs) = bare_append (change_deeds integers n g) (changes_deeds integers n gs)
      ∙ ap₂ (λ (ds es : List Deed). ds ++ es) (deeds_same g) (changes_same gs)

  -- ---- conditions
  -- a condition behind its prelude
  pub condition_same : (line : ℕ) (e : Expression)
      → bare_test (condition_of integers n line e) ≡ condition_of integers n 0 (expression_without e)
  condition_same line e = ap (λ (x : Elaborated). tested x) (elaborated_bare integers line e n)

  -- a loop with its prelude
  kind_same : (k : LoopKind) (ds : List Deed)
      → kind_without_line (kind_of integers n k ds) ≡ kind_of integers n (kind_without k) (bare_deeds ds)
  kind_same while_loop ds = refl
  kind_same (for_loop gs) ds = ap (λ (es : List Deed). tree.for_loop (bare_deeds ds) es) (changes_same gs)
  kind_same do_loop ds = refl

  mutual
    -- a statement
    pub core_same : (s : Statement) → without_lines (core_of integers n s) ≡ core_of integers n (statement_without s)
    core_same (declares var line) = behind_bare (taken_any integers var line) tree.nil
        ∙ ap (λ (ds : List Deed). behind ds tree.nil) (any_bare integers line var)
    core_same (changes g) = behind_bare (change_deeds integers n g) tree.nil ∙ ap (λ (ds : List Deed). behind ds tree.nil) (deeds_same g)
    core_same (assumes e line) =
        let t = condition_of integers n line e in
        behind_bare t.prelude (one (tree.assume t.condition line))
        ∙ ap (λ (x : Tested). behind x.prelude (one (tree.assume x.condition 0))) (condition_same line e)
    core_same (asserts e at line) =
        let t = condition_of integers n line e in
        behind_bare t.prelude (tree.cons (tree.check record { kind = Assert; at = at } t.condition line)
        (one (tree.only_where t.condition line)))
        ∙ ap (λ (x : Tested). behind x.prelude (tree.cons (tree.check record { kind = Assert; at = 0 } x.condition 0)
        (one (tree.only_where x.condition 0)))) (condition_same line e)
    core_same (never at line) = refl
    core_same (branch e first second line) =
        let t = condition_of integers n line e in
        behind_bare t.prelude (one (tree.branch t.condition (core_in integers n first) (core_in integers n second) line))
        ∙ ap₂ (λ (f s : tree.Statements). behind (bare_deeds t.prelude) (one (tree.branch t.condition f s 0))) (cores_same first)
        (cores_same second)
        ∙ ap (λ (x : Tested). behind x.prelude (one (tree.branch x.condition (core_in integers n (without_places first))
        (core_in integers n (without_places second)) 0))) (condition_same line e)
    core_same (loop kind e body line) =
        let t = condition_of integers n line e in
        ap₂ (λ (k : tree.LoopKind) (b : tree.Statements). one (tree.loop k t.condition b 0)) (kind_same kind t.prelude) (cores_same body)
        ∙ ap (λ (x : Tested). one
        (tree.loop (kind_of integers n (kind_without kind) x.prelude) x.condition (core_in integers n (without_places body)) 0))
        (condition_same line e)
    core_same (jump kind line) = refl
    core_same (label name line) = refl

    -- statements in order
    pub cores_same : (ss : Statements) → without_lines (core_in integers n ss) ≡ core_in integers n (without_places ss)
    cores_same nil = refl
    cores_same (cons s ss) = followed_bare (core_of integers n s) (core_in integers n ss)
        ∙ ap₂ (λ (x y : tree.Statements). followed_by x y) (core_same s) (cores_same ss)

  -- As many statements of the core.
  pub node_same : (s : Statement) → nodes_in (core_of integers n s) ≡ nodes_in (core_of integers n (statement_without s))
  node_same s = sym (nodes_same (core_of integers n s)) ∙ ap (λ (x : tree.Statements). nodes_in x) (core_same s)

  -- As many of those in order.
  pub nodes_in_same : (ss : Statements) → nodes_in (core_in integers n ss) ≡ nodes_in (core_in integers n (without_places ss))
  nodes_in_same ss = sym (nodes_same (core_in integers n ss)) ∙ ap (λ (x : tree.Statements). nodes_in x) (cores_same ss)
