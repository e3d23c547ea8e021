-- The anchors of a statement are those of its points, and the scope behind it is what the walk knows there.
use Rattle.std.proofs.Common.{◌≡◌, ◌∙◌, ◌+◌, ◌++◌, ◌∷◌, ℕ, Bool, true, List, [], length, reverse, map, Ok, refl, sym, ap, ap₂, subst}
use Rattle.std.proofs.lemmas.List.{append-nil, map-append}
use Rattle.lang_tree.specs.Tree as core
use Rattle.lang_tree.specs.Tree.{nodes_in, returns}
use Rattle.lang_tree.specs.PointNumbers.{points_in}
use Rattle.flow_edges.specs.declared.point.Point.{Point}
use Rattle.source_grammar.specs.Grammar.{Core, empty, block, if_alone, if_else, repeat, repeat_after, repeat_for}
use Rattle.source_grammar.specs.Grammar.{jumps, demands, calls, updates, Sub, labelled, plain, Items, no_items, label, declaration, item}
use Rattle.source_grammar.specs.Grammar as tree
use Rattle.source_grammar.specs.Tokens as g
use Rattle.source_tree.specs.Expressions.{Expression}
use Rattle.source_tree.specs.Statements.{LoopKind, while_loop, do_loop, for_loop, Statement, Statements, branch, loop, jump, nil}
use Rattle.source_tree.specs.Statements as source
use Rattle.source_core.specs.Core.{condition_of, kind_of, core_of, core_in}
use Rattle.source_meaning.specs.Names.{State, closed}
use Rattle.source_meaning.specs.Limits.{counted}
use Rattle.source_meaning.specs.Statements.{followed_by, one, new_label, jumped, jump_of, demand_of, read_condition, prelude_of}
use Rattle.source_meaning.specs.Statements.{read_declarators}
use Rattle.source_meaning.specs.Statements.{read_first, read_test, read_updates, read_returned, read_core, read_sub, read_items}
use Rattle.acsl_anchors.specs.Anchors.{Anchor, Scope, loop_at, label_at, closing, scope_declarators, scope_first, scope_core, scope_sub}
use Rattle.acsl_anchors.specs.Anchors.{scope_items, anchors_core, anchors_sub, anchors_items}
use Rattle.acsl_anchors.specs.Laws.{point_of, known_in, scope_of, IsNumbered}
use Rattle.acsl_anchors.proofs.walked.Binds.{met, IsOk, ok_is}
use Rattle.acsl_anchors.proofs.walked.Names.{Grows, grows_none, grows_then, closed_known, closed_grows}
use Rattle.acsl_anchors.proofs.walked.Parts.{Still, still_scope, still_numbered, still_grows, still_then, counted_still, label_still}
use Rattle.acsl_anchors.proofs.walked.Parts.{jumped_still}
use Rattle.acsl_anchors.proofs.walked.Parts.{Passes, declarators_pass, updates_still, update_passes, first_passes, returned_passes}
use Rattle.acsl_anchors.proofs.walked.Parts.{call_passes}
use Rattle.source_grammar.specs.Expressions as expression
use Rattle.source_grammar.specs.Expressions.{spell_expr}
use Rattle.acsl_anchors.proofs.walked.Numbered.{numbered_closed}
use Rattle.acsl_anchors.proofs.walked.Points.{anchored_in, behind_deeds, branch_anchored, loop_anchored, assume_anchored, anchored_followed}
use Rattle.acsl_anchors.proofs.walked.Points.{anchored_one}
use Rattle.base_integers.specs.declared.integers.Integers.{Integers}

-- a way from scope to scope, and anchors by the scope before them, where the walk goes from one state to another and gives statements
pub record Matches (integers : Integers) (line : ℕ → ℕ) (n : ℕ) (scope : Scope → Scope) (anchors : Scope → List Anchor)
    (st now : State) (nodes : Statements) :
    Type 0 where
  -- the way leads from the scope of the first state to that of the second
  pub behind : IsNumbered st → scope (scope_of st) ≡ scope_of now
  -- the numbers are still those of the names
  pub numbered : IsNumbered st → IsNumbered now
  -- the names grow
  pub grows : Grows st now
  -- the anchors' points are those of the statements that have anchors
  pub points : (s : Scope) (m : ℕ) → map (point_of line) (anchors s) ≡ anchored_in (core_in integers n nodes) m

module _ (integers : Integers) (line : ℕ → ℕ) (n : ℕ) where
  -- What is said of statements that were given is said of the result.
  matched : (scope : Scope → Scope) (anchors : Scope → List Anchor) (st : State) (p r : State × Statements) → IsOk (Ok p) r
      → Matches integers line n scope anchors st p.0 p.1 → Matches integers line n scope anchors st r.0 r.1
  matched scope anchors st p r h m = let P : State × Statements → Type 0 = λ q. Matches integers line n scope anchors st q.0 q.1 in
      subst P (ok_is p r h) m

  -- What passes without anchors matches none.
  passed : (scope : Scope → Scope) (st now : State) (nodes : Statements) → Passes integers n scope st now nodes
      → Matches integers line n scope (λ s. []) st now nodes
  passed scope st now nodes p =
      record { behind = p.behind; numbered = p.numbered; grows = p.grows; points = λ s m. sym (p.none m) }

  -- One way and then another.
  then_matches : (first second : Scope → Scope) (xs ys : Scope → List Anchor) (st now last : State) (ss rest : Statements)
      → Matches integers line n first xs st now ss → Matches integers line n second ys now last rest
      → Matches integers line n (λ s. second (first s)) (λ s. xs s ++ ys (first s)) st last (followed_by ss rest)
  then_matches first second xs ys st now last ss rest p q = record {
    behind = λ i. ap second (p.behind i) ∙ q.behind (p.numbered i);
    numbered = λ i. q.numbered (p.numbered i);
    grows = grows_then st now last p.grows q.grows;
    points = λ s m.
        let (k, e) = anchored_followed integers n ss rest m in
        map-append (point_of line) (xs s) (ys (first s))
        ∙ ap₂ (λ (y z : List Point). y ++ z) (p.points s m) (q.points (first s) k)
        ∙ sym e;
  }

  -- A state that is still the same before a way.
  still_matches : (scope : Scope → Scope) (anchors : Scope → List Anchor) (st now last : State) (nodes : Statements) → Still st now
      → Matches integers line n scope anchors now last nodes → Matches integers line n scope anchors st last nodes
  still_matches scope anchors st now last nodes s m = record {
    behind = λ i. ap scope (still_scope st now s) ∙ m.behind (still_numbered st now s i);
    numbered = λ i. m.numbered (still_numbered st now s i);
    grows = grows_then st now last (still_grows st now s) m.grows;
    points = m.points;
  }

  -- Behind a block what it declares is forgotten.
  block_matches : (scope : Scope → Scope) (anchors : Scope → List Anchor) (st now : State) (nodes : Statements)
      → Matches integers line n scope anchors st now nodes
      → Matches integers line n (λ s. closing s (scope s)) anchors st (closed (length st.names) now) nodes
  block_matches scope anchors st now nodes m = record {
    behind = λ i. ap (λ (vs : List (List ℕ)). let s : Scope = record { variables = vs; known = known_in st.names } in s)
        (ap (λ (s : Scope). s.variables) (m.behind i))
        ∙ ap (λ (l : List ℕ). let s : Scope = record { variables = reverse now.variables; known = l } in s)
        (sym (closed_known st now m.grows));
    numbered = λ i. numbered_closed (length st.names) now (m.numbered i);
    grows = closed_grows st now m.grows;
    points = m.points;
  }

  -- an `if` without `else`
  alone_matches : (a : ℕ) (body : Sub) (st : State) (x : Expression) (q : State × Statements)
      → Matches integers line n (scope_sub body) (anchors_sub body) st q.0 q.1
      → Matches integers line n (scope_sub body) (anchors_sub body) st q.0 (one (branch x q.1 nil (line a)))
  alone_matches a body st x q h =
      let t = condition_of integers n (line a) x in
      record {
        behind = h.behind;
        numbered = h.numbered;
        grows = h.grows;
        points = λ s m.
            let (k, e) = behind_deeds t.prelude
            (core.cons (core.branch t.condition (core_in integers n q.1) core.nil (line a)) core.nil) m in
            h.points s k ∙ sym (append-nil (anchored_in (core_in integers n q.1) k))
            ∙ sym (branch_anchored t.condition (core_in integers n q.1) core.nil (line a) k)
            ∙ sym e ∙ sym (anchored_one integers n (branch x q.1 nil (line a)) m);
      }

  -- the anchors of both branches, one after another
  abbrev both : Sub → Sub → Scope → List Anchor
  both first second s = anchors_sub first s ++ anchors_sub second (scope_sub first s)

  -- an `if` with both branches
  both_match : (a : ℕ) (first second : Sub) (st : State) (x : Expression) (p q : State × Statements)
      → Matches integers line n (scope_sub first) (anchors_sub first) st p.0 p.1
      → Matches integers line n (scope_sub second) (anchors_sub second) p.0 q.0 q.1
      → Matches integers line n (λ s. scope_sub second (scope_sub first s)) (both first second) st q.0 (one (branch x p.1 q.1 (line a)))
  both_match a first second st x p q h i =
      let t = condition_of integers n (line a) x in
      record {
        behind = λ o. ap (scope_sub second) (h.behind o) ∙ i.behind (h.numbered o);
        numbered = λ o. i.numbered (h.numbered o);
        grows = grows_then st p.0 q.0 h.grows i.grows;
        points = λ s m.
            let (k, e) = behind_deeds t.prelude
            (core.cons (core.branch t.condition (core_in integers n p.1) (core_in integers n q.1) (line a)) core.nil) m in
            map-append (point_of line) (anchors_sub first s) (anchors_sub second (scope_sub first s))
            ∙ ap₂ (λ (l o : List Point). l ++ o) (h.points s k) (i.points (scope_sub first s) (k + points_in (core_in integers n p.1)))
            ∙ sym (branch_anchored t.condition (core_in integers n p.1) (core_in integers n q.1) (line a) k)
            ∙ sym e ∙ sym (anchored_one integers n (branch x p.1 q.1 (line a)) m);
      }

  -- The anchor of a loop stands before those in its body.
  loop_matches : (kind : LoopKind) (a : ℕ) (body : Sub) (st : State) (x : Expression) (q : State × Statements)
      → Matches integers line n (scope_sub body) (anchors_sub body) st q.0 q.1
      → Matches integers line n (scope_sub body) (λ s. loop_at a s ∷ anchors_sub body s) st q.0 (one (loop kind x q.1 (line a)))
  loop_matches kind a body st x q h =
      let t = condition_of integers n (line a) x in
      record {
        behind = h.behind;
        numbered = h.numbered;
        grows = h.grows;
        points = λ s m. ap (λ (l : List Point). point_of line (loop_at a s) ∷ l) (h.points s (m + 1))
            ∙ sym (loop_anchored (kind_of integers n kind t.prelude) t.condition (core_in integers n q.1) (line a) m);
      }

  -- an assumption or an assertion has none
  demand_none : (k : g.Demand) (a : ℕ) (x : Expression) (m : ℕ) → [] ≡ anchored_in (core_in integers n (one (demand_of k x a (line a)))) m
  demand_none g.assumes a x m =
      let t = condition_of integers n (line a) x in
      let (k, e) = behind_deeds t.prelude (core.cons (core.assume t.condition (line a)) core.nil) m in
      sym (anchored_one integers n (source.assumes x (line a)) m ∙ e ∙ assume_anchored t.condition (line a) k)
  demand_none g.asserts a x m =
      let t = condition_of integers n (line a) x in
      sym (anchored_one integers n (source.asserts x a (line a)) m ∙ (behind_deeds t.prelude _ m).1)

  -- a jump has none
  jump_none : (j : g.Jump) (k m : ℕ) → [] ≡ anchored_in (core_in integers n (one (jump_of j k))) m
  jump_none g.breaks k m = refl
  jump_none g.continues k m = refl

  mutual
    -- a statement
    core_matches : (inside : Bool) (c : Core) (st : State) (r : State × Statements) → IsOk (read_core integers line n inside st c) r
        → Matches integers line n (scope_core c) (anchors_core c) st r.0 r.1
    core_matches inside (empty a) st r h =
        matched _ _ st (st, nil) r h (record { behind = λ i. refl; numbered = λ i. i; grows = grows_none st st refl; points = λ s m. refl })
    core_matches inside (block a is b) st r h =
        let q = met (read_items integers line n inside st is) _ r h in
        matched (scope_core (block a is b)) (anchors_core (block a is b)) st _ r q.gave
        (block_matches (scope_items is) (anchors_items is) st q.value.0 q.value.1 (items_matches inside is st q.value q.was))
    core_matches inside (if_alone a b e c body) st r h =
        let x = met (read_condition integers line n st a e) _ r h in
        let now = met (counted a (prelude_of integers line n a x.value + 1) st) _ r x.gave in
        let q = met (read_sub integers line n inside now.value body) _ r now.gave in
        matched (scope_sub body) (anchors_sub body) st _ r q.gave
        (still_matches (scope_sub body) (anchors_sub body) st now.value q.value.0 _ (counted_still a _ st now.value now.was)
        (alone_matches a body now.value x.value q.value (sub_matches inside body now.value q.value q.was)))
    core_matches inside (if_else a b e c first d second) st r h =
        let x = met (read_condition integers line n st a e) _ r h in
        let now = met (counted a (prelude_of integers line n a x.value + 1) st) _ r x.gave in
        let p = met (read_sub integers line n inside now.value first) _ r now.gave in
        let q = met (read_sub integers line n inside p.value.0 second) _ r p.gave in
        matched (λ s. scope_sub second (scope_sub first s)) (both first second) st _ r q.gave
        (still_matches (λ s. scope_sub second (scope_sub first s)) (both first second) st now.value q.value.0 _
        (counted_still a _ st now.value now.was)
        (both_match a first second now.value x.value p.value q.value (sub_matches inside first now.value p.value p.was)
        (sub_matches inside second p.value.0 q.value q.was)))
    core_matches inside (repeat a b e c body) st r h =
        let x = met (read_condition integers line n st a e) _ r h in
        let now = met (counted a (prelude_of integers line n a x.value + 1) st) _ r x.gave in
        let q = met (read_sub integers line n true now.value body) _ r now.gave in
        matched (scope_sub body) (λ s. loop_at a s ∷ anchors_sub body s) st _ r q.gave
        (still_matches (scope_sub body) (λ s. loop_at a s ∷ anchors_sub body s) st now.value q.value.0 _
        (counted_still a _ st now.value now.was)
        (loop_matches while_loop a body now.value x.value q.value (sub_matches true body now.value q.value q.was)))
    core_matches inside (repeat_after a body b c e d i) st r h =
        let now = met (counted a 1 st) _ r h in
        let q = met (read_sub integers line n true now.value body) _ r now.gave in
        let x = met (read_condition integers line n q.value.0 a e) _ r q.gave in
        let last = met (counted a (prelude_of integers line n a x.value) q.value.0) _ r x.gave in
        let scope : Scope → Scope = scope_sub body in
        let anchors : Scope → List Anchor = λ s. loop_at a s ∷ anchors_sub body s in
        let l = loop_matches do_loop a body now.value x.value q.value (sub_matches true body now.value q.value q.was) in
        let s = counted_still a _ q.value.0 last.value last.was in
        matched scope anchors st _ r last.gave
        (still_matches scope anchors st now.value last.value _ (counted_still a _ st now.value now.was) (record {
          behind = λ o. l.behind o ∙ still_scope q.value.0 last.value s;
          numbered = λ o. still_numbered q.value.0 last.value s (l.numbered o);
          grows = grows_then now.value q.value.0 last.value l.grows (still_grows q.value.0 last.value s);
          points = l.points;
        }))
    core_matches inside (repeat_for a b f c t d us i body) st r h =
        let o = met (read_first integers line n st f) _ r h in
        let x = met (read_test integers line n o.value.0 a t) _ r o.gave in
        let now = met (counted a (prelude_of integers line n a x.value + 1) o.value.0) _ r x.gave in
        let u = met (read_updates integers line n now.value us) _ r now.gave in
        let q = met (read_sub integers line n true u.value.0 body) _ r u.gave in
        let scope : Scope → Scope = scope_sub body in
        let anchors : Scope → List Anchor = λ s. loop_at a s ∷ anchors_sub body s in
        let still = still_then o.value.0 now.value u.value.0 (counted_still a _ o.value.0 now.value now.was)
        (updates_still integers line n us now.value u.value u.was) in
        let inner = still_matches scope anchors o.value.0 u.value.0 q.value.0 _ still
        (loop_matches (for_loop u.value.1) a body u.value.0 x.value q.value (sub_matches true body u.value.0 q.value q.was)) in
        matched (scope_core (repeat_for a b f c t d us i body)) (anchors_core (repeat_for a b f c t d us i body)) st _ r q.gave
        (block_matches (λ s. scope (scope_first f s)) (λ s. anchors (scope_first f s)) st q.value.0 _
        (then_matches (scope_first f) scope (λ s. []) anchors st o.value.0 q.value.0 o.value.1 _
        (passed (scope_first f) st o.value.0 o.value.1 (first_passes integers line n f st o.value o.was)) inner))
    core_matches inside (jumps j a b) st r h =
        let now = met (jumped inside a st) _ r h in
        let s = jumped_still inside a st now.value now.was in
        matched (scope_core (jumps j a b)) (anchors_core (jumps j a b)) st _ r now.gave (record {
          behind = λ o. still_scope st now.value s;
          numbered = still_numbered st now.value s;
          grows = still_grows st now.value s;
          points = λ s m. jump_none j (line a) m;
        })
    core_matches inside (tree.returns a t b) st r h =
        let o = met (read_returned integers line n st a t) _ r h in
        let now = met (counted a 1 o.value.0) _ r o.gave in
        let s = counted_still a 1 o.value.0 now.value now.was in
        matched (scope_core (tree.returns a t b)) (anchors_core (tree.returns a t b)) st _ r now.gave
        (then_matches (λ s. s) (λ s. s) (λ s. []) (λ s. []) st o.value.0 now.value o.value.1 (one (jump returns (line a)))
        (passed (λ s. s) st o.value.0 o.value.1 (returned_passes integers line n a t st o.value o.was)) (record {
          behind = λ i. still_scope o.value.0 now.value s;
          numbered = still_numbered o.value.0 now.value s;
          grows = still_grows o.value.0 now.value s;
          points = λ s m. refl;
        }))
    core_matches inside (demands k a b e c d) st r h =
        let x = met (read_condition integers line n st a e) _ r h in
        let node : Statement = demand_of k x.value a (line a) in
        let now = met (counted a (nodes_in (core_of integers n node)) st) _ r x.gave in
        let s = counted_still a (nodes_in (core_of integers n node)) st now.value now.was in
        matched (scope_core (demands k a b e c d)) (anchors_core (demands k a b e c d)) st _ r now.gave (record {
          behind = λ o. still_scope st now.value s;
          numbered = still_numbered st now.value s;
          grows = still_grows st now.value s;
          points = λ s m. demand_none k a x.value m;
        })
    core_matches inside (calls x a b es c d) st r h =
        passed (λ s. s) st r.0 r.1 (call_passes integers line n x a es (λ es. spell_expr (expression.call x a b es c)) st r h)
    core_matches inside (updates u c) st r h = passed (λ s. s) st r.0 r.1 (update_passes integers line n u st r h)

    -- a statement under a loop, an `if` or a label
    sub_matches : (inside : Bool) (b : Sub) (st : State) (r : State × Statements) → IsOk (read_sub integers line n inside st b) r
        → Matches integers line n (scope_sub b) (anchors_sub b) st r.0 r.1
    sub_matches inside (labelled x a b body) st r h =
        let now = met (new_label x a st) _ r h in
        let q = met (read_sub integers line n inside now.value body) _ r now.gave in
        let l = sub_matches inside body now.value q.value q.was in
        matched (scope_sub (labelled x a b body)) (anchors_sub (labelled x a b body)) st _ r q.gave
        (still_matches (scope_sub body) (λ s. label_at x a b s ∷ anchors_sub body s) st now.value q.value.0 _
        (label_still x a st now.value now.was) (record {
          behind = l.behind;
          numbered = l.numbered;
          grows = l.grows;
          points = λ s m. ap (λ (l : List Point). point_of line (label_at x a b s) ∷ l) (l.points s (m + 1));
        }))
    sub_matches inside (plain c) st r h =
        let m = core_matches inside c st r h in record { behind = m.behind; numbered = m.numbered; grows = m.grows; points = m.points }

    -- statements in a row
    pub items_matches : (inside : Bool) (is : Items) (st : State) (r : State × Statements)
        → IsOk (read_items integers line n inside st is) r
        → Matches integers line n (scope_items is) (anchors_items is) st r.0 r.1
    items_matches inside no_items st r h =
        matched _ _ st (st, nil) r h (record { behind = λ i. refl; numbered = λ i. i; grows = grows_none st st refl; points = λ s m. refl })
    items_matches inside (label x a b is) st r h =
        let now = met (new_label x a st) _ r h in
        let q = met (read_items integers line n inside now.value is) _ r now.gave in
        let l = items_matches inside is now.value q.value q.was in
        matched (scope_items (label x a b is)) (anchors_items (label x a b is)) st _ r q.gave
        (still_matches (scope_items is) (λ s. label_at x a b s ∷ anchors_items is s) st now.value q.value.0 _
        (label_still x a st now.value now.was) (record {
          behind = l.behind;
          numbered = l.numbered;
          grows = l.grows;
          points = λ s m. ap (λ (l : List Point). point_of line (label_at x a b s) ∷ l) (l.points s (m + 1));
        }))
    items_matches inside (declaration t xs b is) st r h =
        let o = met (read_declarators integers line n st xs) _ r h in
        let q = met (read_items integers line n inside o.value.0 is) _ r o.gave in
        matched (scope_items (declaration t xs b is)) (anchors_items (declaration t xs b is)) st _ r q.gave
        (then_matches (scope_declarators xs) (scope_items is) (λ s. []) (anchors_items is) st o.value.0 q.value.0 o.value.1 q.value.1
        (passed (scope_declarators xs) st o.value.0 o.value.1 (declarators_pass integers line n xs st o.value o.was))
        (items_matches inside is o.value.0 q.value q.was))
    items_matches inside (item c is) st r h =
        let o = met (read_core integers line n inside st c) _ r h in
        let q = met (read_items integers line n inside o.value.0 is) _ r o.gave in
        matched (scope_items (item c is)) (anchors_items (item c is)) st _ r q.gave
        (then_matches (scope_core c) (scope_items is) (anchors_core c) (anchors_items is) st o.value.0 q.value.0 o.value.1 q.value.1
        (core_matches inside c st o.value o.was) (items_matches inside is o.value.0 q.value q.was))
