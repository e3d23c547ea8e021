-- Each state of a run at a point has a value for each variable.
use Rattle.std.proofs.Common.{◌≡◌, ◌∙◌, ⊎_elim, ℕ, ◌≤◌, List, [], ◌∷◌, length, take, ap, sym, subst, arith}
use Rattle.std.specs.Prelude.{Contains, pos}
use Rattle.std.proofs.lemmas.List.{length-take-le, take_all}
use Rattle.base_facts.specs.Elements.{In}
use Rattle.lang_tree.specs.Tree.{Statements, breaks, continues, returns, set, havoc, assume, only_where, check}
use Rattle.lang_tree.specs.Tree.{branch, loop, jump, label}
use Rattle.lang_tree.specs.PointNumbers.{exit_of}
use Rattle.lang_tree.specs.Meaning.{State, value}
use Rattle.lang_tree.specs.Runs.{Item, node, mark, turn, end, start_work, left_at, Does, Configuration, Step, Follows, IsRun, IsAt}
use Rattle.lang_tree.proofs.Put.{put_keeps}
use Rattle.flow_edges.proofs.steps.ElementLemmas.{contains_in}

same_size : (x y : State) → y ≡ x → length x ≤ length y
same_size x y e = omega (arith, ap length e)

-- a step loses no value
pub keeps_size : (exit : ℕ) (item : Item) (rest : List Item) (x : State) (work : List Item) (y : State) → Does exit item rest x work y
    → length x ≤ length y
keeps_size exit (mark p) rest x work y d = same_size x y d.1
keeps_size exit (node (set var form line) n) rest x work y d = omega (arith, ap length d.1, put_keeps (pos 0) x var (value form x))
keeps_size exit (node (havoc var line) n) rest x work y d = omega (arith, ap length d.2, put_keeps (pos 0) x var d.0)
keeps_size exit (node (assume c line) n) rest x work y d = same_size x y d.2
keeps_size exit (node (only_where c line) n) rest x work y d = same_size x y d.2
keeps_size exit (node (check about c line) n) rest x work y d = same_size x y d.1
keeps_size exit (node (branch c first second line) n) rest x work y d = same_size x y d.3
keeps_size exit (node (loop kind c body line) n) rest x work y d = same_size x y d.1
keeps_size exit (node (jump breaks line) n) rest x work y d = same_size x y d.1
keeps_size exit (node (jump continues line) n) rest x work y d = same_size x y d.1
keeps_size exit (node (jump returns line) n) rest x work y d = same_size x y d.1
keeps_size exit (node (label name line) n) rest x work y d = same_size x y d.1
keeps_size exit (turn kind c body line n) rest x work y d = same_size x y d.3
keeps_size exit (end kind c body line n) rest x work y d = same_size x y d.1

-- nor do values of variables that are forgotten
pub left_size : (n : ℕ) (work : List Item) (x : State) → n ≤ length x → n ≤ length (left_at n work x)
left_size n [] x h = h
left_size n (mark p ∷ rest) x h = omega (arith, length-take-le n x h)
left_size n (node s m ∷ rest) x h = h
left_size n (turn kind c body line m ∷ rest) x h = h
left_size n (end kind c body line m ∷ rest) x h = h

-- so there is a value for each of n variables after a step
pub enough_after : (n exit : ℕ) (a b : Configuration) (step : Step n exit a b) (x : State) → n ≤ length x → a.state ≡ left_at n a.work x
    → n ≤ length step.reached
enough_after n exit a b step x h e =
    omega (arith, keeps_size exit step.item step.rest a.state b.work step.reached step.does, left_size n a.work x h, ap length e)

-- and at the start no value is forgotten
pub start_is_left : (n : ℕ) (body : Statements) (a : Configuration) → a.work ≡ start_work body → length a.state ≡ n
    → a.state ≡ left_at n a.work a.state
start_is_left n body a w e =
    let whole : take n a.state ≡ a.state = take_all n a.state (omega (arith, e)) in
    sym (ap (λ w. left_at n w a.state) w ∙ whole)

-- a state of n variables that is left before some work: there is a value for each
pub record Left (n : ℕ) (c : Configuration) : Type 0 where
  -- the state before hidden values are forgotten
  pub reached : State
  -- it has the values
  pub enough : n ≤ length reached
  -- it is the state but for these
  pub left : c.state ≡ left_at n c.work reached

left_after : (n exit : ℕ) (a b : Configuration) → Step n exit a b → Left n a → Left n b
left_after n exit a b step l = record {
  reached = step.reached;
  enough = enough_after n exit a b step l.reached l.enough l.left;
  left = step.left;
}

left_start : (n : ℕ) (body : Statements) (a : Configuration) → a.work ≡ start_work body → length a.state ≡ n → Left n a
left_start n body a w e = record { reached = a.state; enough = omega (arith, e); left = start_is_left n body a w e }

sizes : (n exit : ℕ) (a : Configuration) (cs : List Configuration) → Left n a → Follows n exit a cs → (c : Configuration) → In (a ∷ cs) c
    → Left n c
sizes n exit a [] l f c m = ⊎_elim (λ s. subst (Left n) s l) (λ h. absurd h) m
sizes n exit a (b ∷ cs) l f c m = ⊎_elim (λ s. subst (Left n) s l) (λ h. sizes n exit b cs (left_after n exit a b f.0 l) f.1 c h) m

at_size : (n p : ℕ) (c : Configuration) → Left n c → IsAt c p → length c.state ≡ n
at_size n p c l a = ap length (l.left ∙ ap (λ w. left_at n w l.reached) a.1) ∙ length-take-le n l.reached l.enough

-- the states of a run at points have a value for each variable, and none else
pub run_size : (n : ℕ) (body : Statements) (run : List Configuration) (c : Configuration) (p : ℕ) → IsRun n body run → Contains run c
    → IsAt c p → length c.state ≡ n
run_size n body [] c p h m a = absurd h
run_size n body (b ∷ cs) c p h m a = at_size n p c (sizes n (exit_of body) b cs (left_start n body b h.0 h.1) h.2 c
    (contains_in (b ∷ cs) c m)) a
