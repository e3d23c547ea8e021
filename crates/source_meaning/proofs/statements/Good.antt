-- What holds of the statements that are read.
use Rattle.std.proofs.Common.{pos, ◌≡◌, ◌+◌, ℕ, Bool, true, IsTrue, List, [], ◌∷◌, length, refl}
use Rattle.std.proofs.Common.{arith}
use Rattle.std.specs.Prelude.{◌&&◌, nat_lt, pos}
use Rattle.std.specs.List.{list_all}
use Rattle.std.proofs.lemmas.Bool.{and_from, and_parts, ltb-true}
use Rattle.std.proofs.lemmas.List.{length-append}
use Rattle.lang_tree.specs.declared.cond.Rel.TheVariants.{Ne, Le}
use Rattle.lang_tree.specs.declared.check.Check.{Check}
use Rattle.lang_tree.specs.declared.check.CheckKind.TheVariants.{Assert}
use Rattle.lang_tree.specs.declared.limits.TheConstants.{MOST_HIDDEN}
use Rattle.lang_tree.specs.Limits.{is_tested, is_deed, is_kind, is_statement, are_statements}
use Rattle.lang_tree.specs.Tree.{Jump, breaks, continues, returns, Deed, sets as sets_deed, havocs, wheres, checks, nodes_in, node_count}
use Rattle.lang_tree.specs.Tree.{statement_by, kind_count}
use Rattle.lang_tree.specs.Tree as core
use Rattle.source_tree.specs.Expressions.{Expression, number, compared}
use Rattle.source_tree.specs.Statements.{Change, while_loop, for_loop, do_loop, Statement, Statements, declares}
use Rattle.source_tree.specs.Statements.{changes, assumes, asserts, never, branch, loop, jump, label, nil, cons}
use Rattle.source_core.specs.Forms.{constant_form}
use Rattle.source_core.specs.Laws.{is_over, steps_apart}
use Rattle.source_core.specs.RunLaws.{Test, passes, all_pass, is_change_over, over_test, are_statements_over, is_change_apart, apart_test}
use Rattle.source_core.specs.RunLaws.{are_statements_apart}
use Rattle.source_core.proofs.runs.Passing.{all-pass-more}
use Rattle.source_core.specs.Core.{taken_any, change_deeds, changes_deeds, condition_of, kind_of, core_of, core_in, behind}
use Rattle.source_core.specs.Core as kept
use Rattle.source_meaning.specs.Statements.{followed_by, one, as_statements}
use Rattle.source_meaning.proofs.limits.Deeds.{any_good, tested_good}
use Rattle.source_meaning.proofs.expressions.Fits.{all_then}
use Rattle.base_integers.specs.declared.integers.Integers.{Integers}
use Rattle.base_integers.specs.declared.integers.Integers.TheVariants.{Mathematical, Machine}
use Rattle.base_integers.specs.declared.integers.Width.TheVariants.{Bits8, Bits16, Bits32}

-- ---- how many statements the core has
-- statements one list behind the other add up
pub nodes_followed : (a b : core.Statements) → nodes_in (kept.followed_by a b) ≡ nodes_in a + nodes_in b
nodes_followed core.nil b = omega arith
nodes_followed (core.cons s ss) b = let e = nodes_followed ss b in omega (arith, e)

one_deed : (d : Deed) → node_count (statement_by d) ≡ 1
one_deed (sets_deed var f line) = refl
one_deed (havocs var line) = refl
one_deed (wheres c line) = refl
one_deed (checks about c line) = refl

-- each deed is one
pub nodes_behind : (ds : List Deed) (rest : core.Statements) → nodes_in (behind ds rest) ≡ length ds + nodes_in rest
nodes_behind [] rest = omega arith
nodes_behind (d ∷ ds) rest = let e = nodes_behind ds rest in let k = one_deed d in omega (arith, e, k)

module _ (integers : Integers) (n : ℕ) where
  -- how many statements of the core these are
  abbrev pub nodes : Statements → ℕ
  nodes ss = nodes_in (core_in integers n ss)

  -- a statement and others are as many as both together
  pub nodes_cons : (s : Statement) (ss : Statements) → nodes (cons s ss) ≡ nodes_in (core_of integers n s) + nodes ss
  nodes_cons s ss = nodes_followed (core_of integers n s) (core_in integers n ss)

  -- so are statements and others behind them
  pub nodes_then : (a b : Statements) → nodes (followed_by a b) ≡ nodes a + nodes b
  nodes_then nil b = omega arith
  nodes_then (cons s ss) b =
      let e = nodes_then ss b in let f = nodes_cons s (followed_by ss b) in let g = nodes_cons s ss in omega (arith, e, f, g)

  -- one statement alone is as many as it is
  pub nodes_one : (s : Statement) → nodes (one s) ≡ nodes_in (core_of integers n s)
  nodes_one s = let e = nodes_cons s nil in omega (arith, e)

  -- a change is as many as its deeds
  pub nodes_change : (g : Change) → nodes_in (core_of integers n (changes g)) ≡ length (change_deeds integers n g)
  nodes_change g = let e = nodes_behind (change_deeds integers n g) core.nil in omega (arith, e)

  -- so is a declaration
  pub nodes_declares : (var line : ℕ) → nodes_in (core_of integers n (declares var line)) ≡ length (taken_any integers var line)
  nodes_declares var line = let e = nodes_behind (taken_any integers var line) core.nil in omega (arith, e)

  -- so are changes in order
  pub nodes_changes : (gs : List Change) → nodes (as_statements gs) ≡ length (changes_deeds integers n gs)
  nodes_changes [] = refl
  nodes_changes (g ∷ gs) =
      let e = nodes_changes gs in
      let f = nodes_cons (changes g) (as_statements gs) in
      let k = nodes_change g in
      let l = length-append (change_deeds integers n g) (changes_deeds integers n gs) in
      omega (arith, e, f, k, l)

  -- an `if` is its prelude, itself and its two sides
  pub nodes_branch : (e : Expression) (a b : Statements) (line : ℕ)
      → nodes_in (core_of integers n (branch e a b line)) ≡ length (condition_of integers n line e).prelude + 1 + nodes a + nodes b
  nodes_branch e a b line =
      let k = nodes_behind (condition_of integers n line e).prelude
      (kept.one (core.branch (condition_of integers n line e).condition (core_in integers n a) (core_in integers n b) line)) in
      omega (arith, k)

-- ---- statements of the core
-- what two lists of statements are, one behind the other is
pub core_then : (m : ℕ) (inside : Bool) (a b : core.Statements) → IsTrue (are_statements m inside a) → IsTrue (are_statements m inside b)
    → IsTrue (are_statements m inside (kept.followed_by a b))
core_then m inside core.nil b g h = h
core_then m inside (core.cons s ss) b g h = let p = and_parts (is_statement m inside s) (are_statements m inside ss) g in
    and_from (is_statement m inside s) (are_statements m inside (kept.followed_by ss b)) p.0 (core_then m inside ss b p.1 h)

core_parts : (m : ℕ) (inside : Bool) (a b : core.Statements) → IsTrue (are_statements m inside (kept.followed_by a b))
    → IsTrue (are_statements m inside a) × IsTrue (are_statements m inside b)
core_parts m inside core.nil b h = (refl, h)
core_parts m inside (core.cons s ss) b h =
    let p = and_parts (is_statement m inside s) (are_statements m inside (kept.followed_by ss b)) h in
    let q = core_parts m inside ss b p.1 in
    (and_from (is_statement m inside s) (are_statements m inside ss) p.0 q.0, q.1)

one_deed_good : (m : ℕ) (inside : Bool) (d : Deed) → IsTrue (is_deed m d) → IsTrue (is_statement m inside (statement_by d))
one_deed_good m inside (sets_deed var f line) h = h
one_deed_good m inside (havocs var line) h = h
one_deed_good m inside (wheres c line) h = h
one_deed_good m inside (checks about c line) h = h

-- deeds within the limits and statements behind them
pub core_behind : (m : ℕ) (inside : Bool) (ds : List Deed) (rest : core.Statements) → IsTrue (list_all (is_deed m) ds)
    → IsTrue (are_statements m inside rest) → IsTrue (are_statements m inside (behind ds rest))
core_behind m inside [] rest h k = k
core_behind m inside (d ∷ ds) rest h k = let p = and_parts (is_deed m d) (list_all (is_deed m) ds) h in
    and_from (is_statement m inside (statement_by d)) (are_statements m inside (behind ds rest)) (one_deed_good m inside d p.0)
    (core_behind m inside ds rest p.1 k)

core_one : (m : ℕ) (inside : Bool) (s : core.Statement) → IsTrue (is_statement m inside s) → IsTrue (are_statements m inside (kept.one s))
core_one m inside s h = and_from (is_statement m inside s) true h refl

-- 0 is one of the integers, and it is compared with itself
always_good : (integers : Integers) (m n line at : ℕ)
    → IsTrue (list_all (is_deed m) (condition_of integers n line (compared Le at (number (pos 0) at) (number (pos 0) at))).prelude)
    × IsTrue (is_tested m (condition_of integers n line (compared Le at (number (pos 0) at) (number (pos 0) at))).condition)
always_good integers m n line at = by integers where
  always : Expression
  always = compared Le at (number (pos 0) at) (number (pos 0) at)

  Limited : Integers → Type 0
  Limited i = IsTrue (list_all (is_deed m) (condition_of i n line always).prelude)
      × IsTrue (is_tested m (condition_of i n line always).condition)

  by : (i : Integers) → Limited i
  by Mathematical = (refl, tested_good m (condition_of Mathematical n line always).condition (omega arith) refl refl)
  by (Machine Bits8) = (refl, tested_good m (condition_of (Machine Bits8) n line always).condition (omega arith) refl refl)
  by (Machine Bits16) = (refl, tested_good m (condition_of (Machine Bits16) n line always).condition (omega arith) refl refl)
  by (Machine Bits32) = (refl, tested_good m (condition_of (Machine Bits32) n line always).condition (omega arith) refl refl)

-- ---- what is good
-- an expression has no variables but the first n, and steps in it stand apart
abbrev pub is_kept : ℕ → Expression → Bool
is_kept n e = is_over n e && steps_apart e

-- so a change
abbrev pub is_change_kept : ℕ → Change → Bool
is_change_kept n g = is_change_over n g && is_change_apart g

-- so statements
abbrev pub kept_test : ℕ → Test
kept_test n = record { declared = λ var. nat_lt var n; changed = is_change_kept n; tested = λ line e. is_kept n e }

-- they have no variables but the first n
pub kept_over : (n : ℕ) (ss : Statements) → IsTrue (all_pass (kept_test n) ss) → IsTrue (are_statements_over n ss)
kept_over n ss h = all-pass-more (kept_test n) (over_test n) (λ i k. k)
    (λ g k. (and_parts (is_change_over n g) (is_change_apart g) k).0) (λ line e k. (and_parts (is_over n e) (steps_apart e) k).0) ss h

-- steps in them stand apart
pub kept_apart : (n : ℕ) (ss : Statements) → IsTrue (all_pass (kept_test n) ss) → IsTrue (are_statements_apart ss)
kept_apart n ss h = all-pass-more (kept_test n) apart_test (λ i k. refl)
    (λ g k. (and_parts (is_change_over n g) (is_change_apart g) k).1) (λ line e k. (and_parts (is_over n e) (steps_apart e) k).1) ss h

module _ (integers : Integers) (n : ℕ) where
  -- a condition has the first n variables, and in the core it keeps to the limits
  abbrev pub GoodCondition : (line : ℕ) → Expression → Type 0
  GoodCondition line e = IsTrue (is_kept n e) × IsTrue (list_all (is_deed (n + MOST_HIDDEN)) (condition_of integers n line e).prelude)
      × IsTrue (is_tested (n + MOST_HIDDEN) (condition_of integers n line e).condition)

  -- so does a change
  abbrev pub GoodChange : Change → Type 0
  GoodChange g = IsTrue (is_change_kept n g) × IsTrue (list_all (is_deed (n + MOST_HIDDEN)) (change_deeds integers n g))

  -- so do changes in order
  abbrev pub GoodChanges : List Change → Type 0
  GoodChanges [] = Unit {0}
  GoodChanges (g ∷ gs) = GoodChange g × GoodChanges gs

  -- so do statements, a jump standing where it may
  abbrev pub GoodStatement : (inside : Bool) → Statement → Type 0
  GoodStatement inside s = IsTrue (passes (kept_test n) s) × IsTrue (are_statements (n + MOST_HIDDEN) inside (core_of integers n s))

  abbrev pub Good : (inside : Bool) → Statements → Type 0
  Good inside ss = IsTrue (all_pass (kept_test n) ss) × IsTrue (are_statements (n + MOST_HIDDEN) inside (core_in integers n ss))

  -- no statements are good
  pub good_nil : (inside : Bool) → Good inside nil
  good_nil inside = (refl, refl)

  -- a good statement and others
  pub good_cons : (inside : Bool) (s : Statement) (ss : Statements) → GoodStatement inside s → Good inside ss → Good inside (cons s ss)
  good_cons inside s ss g h = (
    and_from (passes (kept_test n) s) (all_pass (kept_test n) ss) g.0 h.0,
    core_then (n + MOST_HIDDEN) inside (core_of integers n s) (core_in integers n ss) g.1 h.1,
  )

  -- a good statement alone
  pub good_one : (inside : Bool) (s : Statement) → GoodStatement inside s → Good inside (one s)
  good_one inside s g = good_cons inside s nil g (good_nil inside)

  good_parts : (inside : Bool) (s : Statement) (ss : Statements) → Good inside (cons s ss) → GoodStatement inside s × Good inside ss
  good_parts inside s ss g =
      let p = and_parts (passes (kept_test n) s) (all_pass (kept_test n) ss) g.0 in
      let q = core_parts (n + MOST_HIDDEN) inside (core_of integers n s) (core_in integers n ss) g.1 in
      ((p.0, q.0), (p.1, q.1))

  -- good statements and others behind them
  pub good_then : (inside : Bool) (a b : Statements) → Good inside a → Good inside b → Good inside (followed_by a b)
  good_then inside nil b g h = h
  good_then inside (cons s ss) b g h = let p = good_parts inside s ss g in
      good_cons inside s (followed_by ss b) p.0 (good_then inside ss b p.1 h)

  -- a declaration of one of the variables
  pub good_declares : (inside : Bool) (var line : ℕ) → IsTrue (nat_lt var n) → GoodStatement inside (declares var line)
  good_declares inside var line h = (
    h,
    core_behind (n + MOST_HIDDEN) inside (taken_any integers var line) core.nil
        (any_good integers (n + MOST_HIDDEN) var line (omega (arith, ltb-true var n h))) refl,
  )

  -- a good change
  pub good_change : (inside : Bool) (g : Change) → GoodChange g → GoodStatement inside (changes g)
  good_change inside g h = (h.0, core_behind (n + MOST_HIDDEN) inside (change_deeds integers n g) core.nil h.1 refl)

  -- no changes are good
  pub no_changes : GoodChanges []
  no_changes = tt

  -- a good change and others
  pub more_changes : (g : Change) (gs : List Change) → GoodChange g → GoodChanges gs → GoodChanges (g ∷ gs)
  more_changes g gs h k = (h, k)

  changes_over : (gs : List Change) → GoodChanges gs → IsTrue (list_all (is_change_kept n) gs)
  changes_over [] h = refl
  changes_over (g ∷ gs) h = and_from (is_change_kept n g) (list_all (is_change_kept n) gs) h.0.0 (changes_over gs h.1)

  changes_limited : (gs : List Change) → GoodChanges gs → IsTrue (list_all (is_deed (n + MOST_HIDDEN)) (changes_deeds integers n gs))
  changes_limited [] h = refl
  changes_limited (g ∷ gs) h =
      all_then (is_deed (n + MOST_HIDDEN)) (change_deeds integers n g) (changes_deeds integers n gs) h.0.1 (changes_limited gs h.1)

  -- changes as statements
  pub good_changes : (inside : Bool) (gs : List Change) → GoodChanges gs → Good inside (as_statements gs)
  good_changes inside [] h = good_nil inside
  good_changes inside (g ∷ gs) h =
      good_cons inside (changes g) (as_statements gs) (good_change inside g h.0) (good_changes inside gs h.1)

  -- an `if` with a good condition and good sides
  pub good_branch : (inside : Bool) (line : ℕ) (e : Expression) (a b : Statements) → GoodCondition line e → Good inside a → Good inside b
      → GoodStatement inside (branch e a b line)
  good_branch inside line e a b c g h =
      let m = n + MOST_HIDDEN in
      let t = (condition_of integers n line e).condition in (
        and_from (is_kept n e) (all_pass (kept_test n) a && all_pass (kept_test n) b) c.0
            (and_from (all_pass (kept_test n) a) (all_pass (kept_test n) b) g.0 h.0),
        core_behind m inside (condition_of integers n line e).prelude
            (kept.one (core.branch t (core_in integers n a) (core_in integers n b) line)) c.1
            (core_one m inside (core.branch t (core_in integers n a) (core_in integers n b) line)
            (and_from (is_tested m t) (are_statements m inside (core_in integers n a) && are_statements m inside (core_in integers n b)) c.2
            (and_from (are_statements m inside (core_in integers n a)) (are_statements m inside (core_in integers n b)) g.1 h.1))),
      )

  core_loop : (inside : Bool) (line : ℕ) (kind : core.LoopKind) (e : Expression) (body : Statements) → GoodCondition line e
      → IsTrue (is_kind (n + MOST_HIDDEN) kind) → Good true body
      → IsTrue (are_statements (n + MOST_HIDDEN) inside
      (kept.one (core.loop kind (condition_of integers n line e).condition (core_in integers n body) line)))
  core_loop inside line kind e body c k g =
      let m = n + MOST_HIDDEN in
      core_one m inside (core.loop kind (condition_of integers n line e).condition (core_in integers n body) line)
      (and_from (is_tested m (condition_of integers n line e).condition)
      (is_kind m kind && are_statements m true (core_in integers n body)) c.2
      (and_from (is_kind m kind) (are_statements m true (core_in integers n body)) k g.1))

  -- a `while` with a good condition and a good body
  pub good_while : (inside : Bool) (line : ℕ) (e : Expression) (body : Statements) → GoodCondition line e → Good true body
      → GoodStatement inside (loop while_loop e body line)
  good_while inside line e body c g = (
    and_from (is_kept n e) (all_pass (kept_test n) body) c.0 g.0,
    core_loop inside line (core.while_loop (condition_of integers n line e).prelude) e body c c.1 g,
  )

  -- a `do` likewise
  pub good_do : (inside : Bool) (line : ℕ) (e : Expression) (body : Statements) → GoodCondition line e → Good true body
      → GoodStatement inside (loop do_loop e body line)
  good_do inside line e body c g = (
    and_from (is_kept n e) (all_pass (kept_test n) body) c.0 g.0,
    core_loop inside line (core.do_loop (condition_of integers n line e).prelude) e body c c.1 g,
  )

  -- a `for` with good changes, too
  pub good_for : (inside : Bool) (line : ℕ) (gs : List Change) (e : Expression) (body : Statements) → GoodChanges gs → GoodCondition line e
      → Good true body → GoodStatement inside (loop (for_loop gs) e body line)
  good_for inside line gs e body k c g =
      let m = n + MOST_HIDDEN in
      let p = (condition_of integers n line e).prelude in (
        and_from (list_all (is_change_kept n) gs) (is_kept n e && all_pass (kept_test n) body) (changes_over gs k)
            (and_from (is_kept n e) (all_pass (kept_test n) body) c.0 g.0),
        core_loop inside line (core.for_loop p (changes_deeds integers n gs)) e body c
            (and_from (list_all (is_deed m) p) (list_all (is_deed m) (changes_deeds integers n gs)) c.1 (changes_limited gs k)) g,
      )

  -- 0 is compared with 0
  pub good_always : (line at : ℕ) → GoodCondition line (compared Le at (number (pos 0) at) (number (pos 0) at))
  good_always line at = let g = always_good integers (n + MOST_HIDDEN) n line at in (refl, g.0, g.1)

  -- an assumption of a good condition
  pub good_assumes : (inside : Bool) (line : ℕ) (e : Expression) → GoodCondition line e → GoodStatement inside (assumes e line)
  good_assumes inside line e c =
      let t = core.assume (condition_of integers n line e).condition line in (
        c.0,
        core_behind (n + MOST_HIDDEN) inside (condition_of integers n line e).prelude (kept.one t) c.1
            (core_one (n + MOST_HIDDEN) inside t c.2),
      )

  -- an assertion of a good condition
  pub good_asserts : (inside : Bool) (line at : ℕ) (e : Expression) → GoodCondition line e → GoodStatement inside (asserts e at line)
  good_asserts inside line at e c =
      let m = n + MOST_HIDDEN in
      let d = (condition_of integers n line e).condition in
      let about : Check = record { kind = Assert; at = at } in
      let last = kept.one (core.only_where d line) in (
        c.0,
        core_behind m inside (condition_of integers n line e).prelude (core.cons (core.check about d line) last) c.1
            (and_from (is_tested m d) (are_statements m inside last) c.2 (core_one m inside (core.only_where d line) c.2)),
      )

  -- a place that is not to be reached
  pub good_never : (inside : Bool) (at line : ℕ) → GoodStatement inside (never at line)
  good_never inside at line =
      let m = n + MOST_HIDDEN in
      let c = core.compare Ne (constant_form (pos 0)) in
      (refl, and_from (is_tested m c) true (tested_good m c (omega arith) refl refl) refl)

  -- a `return`
  pub good_returns : (inside : Bool) (line : ℕ) → GoodStatement inside (jump returns line)
  good_returns inside line = (refl, refl)

  -- a `break` in a loop's body
  pub good_breaks : (inside : Bool) (line : ℕ) → IsTrue inside → GoodStatement inside (jump breaks line)
  good_breaks inside line h = (refl, and_from inside true h refl)

  -- a `continue` in a loop's body
  pub good_continues : (inside : Bool) (line : ℕ) → IsTrue inside → GoodStatement inside (jump continues line)
  good_continues inside line h = (refl, and_from inside true h refl)

  -- a label
  pub good_label : (inside : Bool) (name : List ℕ) (line : ℕ) → GoodStatement inside (label name line)
  good_label inside name line = (refl, refl)
