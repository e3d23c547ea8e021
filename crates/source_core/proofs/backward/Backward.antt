-- Where operations are exact, runs of the core are runs of the source.
use Rattle.std.proofs.Common.{◌≡◌, inl, inr, ⊎_elim, ◌≤◌, ℕ, List, [], ◌∷◌, ◌++◌, length}
use Rattle.std.proofs.Common.{refl, sym, ap, subst, ◌∙◌, arith}
use Rattle.lang_tree.specs.Tree.{Deed}
use Rattle.lang_tree.specs.Meaning.{State}
use Rattle.lang_tree.specs.Runs as core
use Rattle.lang_tree.specs.Runs.{left_at}
use Rattle.source_tree.specs.Statements.{declares, changes, assumes, asserts, never, branch, loop, jump, label}
use Rattle.source_core.specs.Preludes.{AllLeave}
use Rattle.source_core.specs.Laws.{Agree}
use Rattle.source_core.specs.RunLaws.{over_test, apart_test, exact_test, RunsAreExact}
use Rattle.source_core.specs.SourceRuns.{Item, node, change, mark, turn, end, Configuration, Follows, IsAt, exit_of, start_work}
use Rattle.source_core.proofs.forms.Over.{agree_refl}
use Rattle.source_core.proofs.runs.Work.{deed_items, image, image-nodes_then}
use Rattle.source_core.proofs.runs.Passing.{passing-nodes}
use Rattle.source_core.proofs.backward.Completed.{nothing_there}
use Rattle.source_core.proofs.backward.Items.{parts, control, number_of}
use Rattle.source_core.proofs.runs.Runs.{Among, among-first, contains-among, among-contains, same_state, taken_ends, take-all}
use Rattle.source_core.proofs.backward.Middle.{Settled, Live, final_of, settle}
use Rattle.source_core.proofs.backward.Reverse.{advances, cons_head}
use Rattle.base_integers.specs.declared.integers.Integers.TheVariants.{Mathematical}

-- ---- marks
abbrev AtMark : core.Item → Type 0
AtMark (core.mark p) = Unit {0}
AtMark (core.node s m) = ⊥
AtMark (core.turn kind c body line m) = ⊥
AtMark (core.end kind c body line m) = ⊥

abbrev mark_number : core.Item → ℕ
mark_number (core.mark p) = p
mark_number (core.node s m) = 0
mark_number (core.turn kind c body line m) = 0
mark_number (core.end kind c body line m) = 0

-- an item other than a mark isn't one
no_mark : {X : Type 0} (i : core.Item) (p : ℕ) (is more : List core.Item) → ¬ (AtMark i) → i ∷ is ≡ core.mark p ∷ more → X
no_mark i p is more n e = absurd (n (subst AtMark (sym (cons_head i (core.mark p) is more e)) tt))

-- where the core is at a mark behind no deeds, so is the source, at the mark's own item
at_mark : (n : ℕ) (i : Item) (p : ℕ) (is more : List core.Item) → Live [] (control n i) → control n i ++ is ≡ core.mark p ∷ more
    → (i ≡ mark p) × (parts n i ≡ [])
at_mark n (mark q) p is more v e = (ap (λ k. mark (mark_number k)) (cons_head (core.mark q) (core.mark p) is more e), refl)
at_mark n (change g) p is more v e = absurd v
at_mark n (node (declares var line) m) p is more v e = absurd v
at_mark n (node (changes g) m) p is more v e = absurd v
at_mark n (node (assumes c line) m) p is more v e = no_mark _ p is more (λ h. h) e
at_mark n (node (asserts c at line) m) p is more v e = absurd v
at_mark n (node (never at line) m) p is more v e = absurd v
at_mark n (node (branch c first second line) m) p is more v e = no_mark _ p is more (λ h. h) e
at_mark n (node (loop kind c body line) m) p is more v e = no_mark _ p is more (λ h. h) e
at_mark n (node (jump kind line) m) p is more v e = no_mark _ p is more (λ h. h) e
at_mark n (node (label name line) m) p is more v e = no_mark _ p is more (λ h. h) e
at_mark n (turn kind c body line m) p is more v e = no_mark _ p is more (λ h. h) e
at_mark n (end kind c body line m) p is more v e = no_mark _ p is more (λ h. h) e

none_of : {A : Type 0} (xs ys : List A) → [] ≡ xs ++ ys → xs ≡ []
none_of [] ys e = refl
none_of (x ∷ xs) ys e = nothing_there x (xs ++ ys) (sym e)

-- a configuration of the core at a mark, and the one of the source
met : (n : ℕ) (s : Configuration) (c : core.Configuration) → Settled n s c → (p : ℕ) → core.IsAt c p → IsAt s p × (s.state ≡ c.state)
met n s c (inl f) p at = nothing_there (core.mark p) at.0 (sym at.1 ∙ f.1)
met n s c (inr m) p at = by m.todo m.all m.work m.live
  where
    by : (todo : List Deed) → parts n m.item ≡ m.done ++ todo
        → c.work ≡ deed_items (number_of m.item) todo (control n m.item ++ image Mathematical n m.rest)
        → Live todo (control n m.item) → IsAt s p × (s.state ≡ c.state)
    by (d ∷ ds) all work live = no_mark _ p _ at.0 (λ h. h) (sym work ∙ at.1)
    by [] all work live =
        let i = at_mark n m.item p (image Mathematical n m.rest) at.0 live (sym work ∙ at.1) in
        let none = none_of m.done [] (sym i.1 ∙ all) in
        let left = subst (λ v. AllLeave v m.start c.state) none m.left in
        let agree = subst (λ v. Agree n s.state v) (sym left) m.agree in
        let short = taken_ends n c.state (ap (λ v. left_at n v c.state) (sym at.1) ∙ m.kept) in
        let long : n ≤ length c.state = subst (λ (v : State). n ≤ length v) (sym left) m.enough in
        ((m.rest, m.first ∙ ap (λ k. k ∷ m.rest) i.0), same_state n s.state c.state m.size (omega (arith, short, long)) agree)

-- ---- runs
follows-on : (n exit : ℕ) (c : Configuration) (cs ds : List Configuration) → Follows Mathematical n exit c cs
    → Follows Mathematical n exit (final_of c cs) ds
    → Follows Mathematical n exit c (cs ++ ds)
follows-on n exit c [] ds f g = g
follows-on n exit c (d ∷ cs) ds f g = (f.0, follows-on n exit d cs ds f.1 g)

among-on : (c : Configuration) (cs ds : List Configuration) (d : Configuration) → Among (final_of c cs) ds d → Among c (cs ++ ds) d
among-on c [] ds d h = h
among-on c (e ∷ cs) ds d h = inr (among-on e cs ds d h)

among-last : (c : Configuration) (cs ds : List Configuration) → Among c (cs ++ ds) (final_of c cs)
among-last c cs ds = among-on c cs ds (final_of c cs) (among-first (final_of c cs) ds)

-- a run of the source that is at each point where this one of the core is
record Traced (n exit : ℕ) (s : Configuration) (c : core.Configuration) (ds : List core.Configuration) : Type 0 where
  -- the configurations of the source behind its first
  pub path : List Configuration
  -- each is a step from the one before it
  pub follows : Follows Mathematical n exit s path
  -- where the core is at a point, one of them is at it, in the same state
  pub each : (d : core.Configuration) → Among c ds d → (p : ℕ) → core.IsAt d p
      → (t : Configuration) × Among s path t × IsAt t p × (t.state ≡ d.state)

traced : (n exit : ℕ) (s : Configuration) (c : core.Configuration) (ds : List core.Configuration) → Settled n s c → core.Follows n exit c ds
    → Traced n exit s c ds
traced n exit s c [] settled f = record {
  path = [];
  follows = tt;
  each = λ d h p at.
      let m = met n s c settled p (subst (λ v. core.IsAt v p) h at) in (s, refl, m.0, m.1 ∙ ap (λ v. v.state) (sym h));
}
traced n exit s c (e ∷ es) (inl g) f = nothing_there f.0.item f.0.rest (sym f.0.first ∙ g.1)
traced n exit s c (e ∷ es) (inr m) f =
    let r = advances n exit s c e m f.0 in
    let k = traced n exit r.0 e es r.2 f.1 in
    record {
      path = r.1.path ++ k.path;
      follows = follows-on n exit s r.1.path k.path r.1.follows (subst (λ v. Follows Mathematical n exit v k.path)
          (sym r.1.ends) k.follows);
      each = λ d h p at. ⊎_elim
          (λ q. let u = met n s c (inr m) p (subst (λ v. core.IsAt v p) q at) in
          (s, among-first s (r.1.path ++ k.path), u.0, u.1 ∙ ap (λ v. v.state) (sym q)))
          (λ q. let u = k.each d q p at in
          (u.0, among-on s r.1.path k.path u.0 (subst (λ v. Among v k.path u.0) (sym r.1.ends) u.1), u.2, u.3)) h;
    }

-- where operations are exact, for each run of the core there is one of the source
pub runs-exact : RunsAreExact
runs-exact n body o p q [] r = absurd r
runs-exact n body o p q (c ∷ cs) r =
    let exit = exit_of Mathematical n body in
    let s : Configuration = record { work = start_work Mathematical n body; state = c.state } in
    let ends = mark exit ∷ [] in
    let e : c.work ≡ image Mathematical n (start_work Mathematical n body) = r.0
    ∙ ap (λ w. core.mark 0 ∷ w) (sym (image-nodes_then Mathematical n body 1 ends)) in
    let kept = ap (λ w. left_at n w c.state) r.0 ∙ take-all n c.state r.1 in
    let long : n ≤ length c.state = omega (arith, r.1) in
    let b = settle n exit (start_work Mathematical n body) c.state c.work c.state e (agree_refl n c.state) r.1 long
    (tt, passing-nodes (over_test n) Mathematical n body 1 ends o (tt, tt))
    (tt, passing-nodes apart_test Mathematical n body 1 ends p (tt, tt))
    (tt, passing-nodes (exact_test n) Mathematical n body 1 ends q (tt, tt)) kept in
    let t = traced n exit b.0 c cs b.2 r.2 in
    let path = b.1.path ++ t.path in (
      s ∷ path,
      (
        refl,
        r.1,
        (λ i l. tt),
        follows-on n exit s b.1.path t.path b.1.follows (subst (λ v. Follows Mathematical n exit v t.path)
            (sym b.1.ends) t.follows),
      ),
      λ d h i at.
          let u = t.each d (contains-among c cs d h) i at in
          (u.0, among-contains s path u.0 (among-on s b.1.path t.path u.0 (subst (λ v. Among v t.path u.0) (sym b.1.ends) u.1)), u.2, u.3),
    )
