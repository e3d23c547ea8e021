-- Steps of the core one after another.
use Rattle.std.proofs.Common.{◌≡◌, ⊎_elim, ℕ, false, List, [], ◌∷◌, ◌++◌, refl, sym, ap}
use Rattle.std.proofs.Common.{◌∙◌, subst}
use Rattle.lang_tree.specs.declared.check.Check.{Check}
use Rattle.lang_tree.specs.Tree.{Condition, Deed, sets, havocs, wheres, checks, statement_by}
use Rattle.lang_tree.specs.Tree as tree
use Rattle.lang_tree.specs.Meaning.{State, MayBe}
use Rattle.lang_tree.specs.Runs.{Item, node, Configuration, Does, Step, Follows, left_at}
use Rattle.source_core.specs.Preludes.{Leaves, AllLeave, MayFail}
use Rattle.source_core.proofs.runs.Work.{deed_items}

-- the last configuration of a path, which is where it begins if it is empty
abbrev pub last_of : Configuration → List Configuration → Configuration
last_of c [] = c
last_of c (d ∷ ds) = last_of d ds

-- steps lead from one configuration to another
pub record Reaches (n exit : ℕ) (c d : Configuration) : Type 0 where
  -- the configurations behind the first
  pub path : List Configuration
  -- each is a step from the one before it
  pub follows : Follows n exit c path
  -- the last of them is the other one
  pub ends : last_of c path ≡ d

-- a configuration is reached from itself
pub reaches-same : (n exit : ℕ) (c : Configuration) → Reaches n exit c c
reaches-same n exit c = record { path = []; follows = tt; ends = refl }

-- what is reached behind a step is reached from before it
pub reaches-step : (n exit : ℕ) (c d e : Configuration) → Step n exit c d → Reaches n exit d e → Reaches n exit c e
reaches-step n exit c d e s r = record { path = d ∷ r.path; follows = (s, r.follows); ends = r.ends }

-- a path and one that goes on from its end are one path
pub follows-then : (n exit : ℕ) (c : Configuration) (cs ds : List Configuration) → Follows n exit c cs → Follows n exit (last_of c cs) ds
    → Follows n exit c (cs ++ ds)
follows-then n exit c [] ds f g = g
follows-then n exit c (d ∷ cs) ds f g = (f.0, follows-then n exit d cs ds f.1 g)

-- a path and one that goes on from its end have the end of the second
pub last-then : (c : Configuration) (cs ds : List Configuration) → last_of c (cs ++ ds) ≡ last_of (last_of c cs) ds
last-then c [] ds = refl
last-then c (d ∷ cs) ds = last-then d cs ds

-- what is reached from a configuration that is reached is reached
pub reaches-then : (n exit : ℕ) (c d e : Configuration) → Reaches n exit c d → Reaches n exit d e → Reaches n exit c e
reaches-then n exit c d e r s = record {
  path = r.path ++ s.path;
  follows = follows-then n exit c r.path s.path r.follows (subst (λ k. Follows n exit k s.path) (sym r.ends) s.follows);
  ends = last-then c r.path s.path ∙ ap (λ k. last_of k s.path) r.ends ∙ s.ends;
}

-- a step with the first item
pub step : (n exit : ℕ) (item : Item) (rest work : List Item) (x y : State) → Does exit item rest x work y
    → Step n exit record { work = item ∷ rest; state = x } record { work = work; state = left_at n work y }
step n exit item rest work x y d = record { item = item; rest = rest; first = refl; reached = y; does = d; left = refl }

-- ---- deeds
deed-does : (exit : ℕ) (d : Deed) (m : ℕ) (rest : List Item) (x y : State) → Leaves d x y
    → Does exit (node (statement_by d) m) rest x rest y
deed-does exit (sets v f line) m rest x y l = (refl, l)
deed-does exit (havocs v line) m rest x y l = (l.0, refl, l.1)
deed-does exit (wheres c line) m rest x y l = (l.0, refl, l.1)
deed-does exit (checks about c line) m rest x y l = (refl, l)

-- nodes of deeds do the deeds one after another, from a state that is left where they begin
pub do-deeds : (n exit : ℕ) (ds : List Deed) (m : ℕ) (rest : List Item) (x y : State) → left_at n (deed_items m ds rest) x ≡ x
    → AllLeave ds x y
    → Reaches n exit record { work = deed_items m ds rest; state = x } record { work = rest; state = left_at n rest y }
do-deeds n exit [] m rest x y e l =
    subst (λ z. Reaches n exit record { work = rest; state = x } record { work = rest; state = z }) (sym (ap (left_at n rest) l ∙ e))
    (reaches-same n exit record { work = rest; state = x })
do-deeds n exit (d ∷ []) m rest x y e l =
    let at = ap (left_at n rest) l.2 in
    subst (λ z. Reaches n exit record { work = node (statement_by d) m ∷ rest; state = x } record { work = rest; state = z }) (sym at)
    (reaches-step n exit _ _ _ (step n exit (node (statement_by d) m) rest rest x l.0 (deed-does exit d m rest x l.0 l.1))
    (reaches-same n exit record { work = rest; state = left_at n rest l.0 }))
do-deeds n exit (d ∷ (k ∷ ds)) m rest x y e l =
    reaches-step n exit _ _ _ (step n exit (node (statement_by d) m) (deed_items m (k ∷ ds) rest) (deed_items m (k ∷ ds) rest) x l.0
    (deed-does exit d m (deed_items m (k ∷ ds) rest) x l.0 l.1))
    (do-deeds n exit (k ∷ ds) m rest l.0 y refl l.2)

-- a configuration is reached that is at this check, and whose state may make its condition false
pub record Fails (n exit : ℕ) (c : Configuration) (about : Check) : Type 0 where
  -- the condition of the check there
  pub cond : Condition
  -- its line
  pub line : ℕ
  -- the number of its node
  pub number : ℕ
  -- the work behind it
  pub rest : List Item
  -- the state there
  pub state : State
  -- steps lead there
  pub reaches : Reaches n exit c record { work = node (tree.check about cond line) number ∷ rest; state = state }
  -- and there the condition may be false
  pub fails : MayBe false cond state

-- a check that may be false behind a step may be so from before it
pub fails-step : (n exit : ℕ) (c d : Configuration) (about : Check) → Step n exit c d → Fails n exit d about → Fails n exit c about
fails-step n exit c d about s f = record {
  cond = f.cond;
  line = f.line;
  number = f.number;
  rest = f.rest;
  state = f.state;
  reaches = reaches-step n exit c d _ s f.reaches;
  fails = f.fails;
}

-- a check that may be false from a configuration that is reached may be so from where that is
pub fails-behind : (n exit : ℕ) (c d : Configuration) (about : Check) → Reaches n exit c d → Fails n exit d about → Fails n exit c about
fails-behind n exit c d about s f = record {
  cond = f.cond;
  line = f.line;
  number = f.number;
  rest = f.rest;
  state = f.state;
  reaches = reaches-then n exit c d _ s f.reaches;
  fails = f.fails;
}

-- a check that stands first, and whose condition may be false, may be so
pub fails-here : (n exit : ℕ) (about : Check) (cond : Condition) (line m : ℕ) (rest : List Item) (x : State) → MayBe false cond x
    → Fails n exit record { work = node (tree.check about cond line) m ∷ rest; state = x } about
fails-here n exit about cond line m rest x f = record {
  cond = cond;
  line = line;
  number = m;
  rest = rest;
  state = x;
  reaches = reaches-same n exit record { work = node (tree.check about cond line) m ∷ rest; state = x };
  fails = f;
}

nothing_fails : (about : Check) (x : State) → ¬ (MayFail [] x about)
nothing_fails about x h = h

-- the state behind a deed that others follow
one_deed : (n exit : ℕ) (d : Deed) (ds : List Deed) (m : ℕ) (rest : List Item) (x z : State) (about : Check) → Leaves d x z
    → MayFail ds z about
    → ((w : State) → MayFail ds w about → Fails n exit record { work = deed_items m ds rest; state = w } about)
    → Fails n exit record { work = node (statement_by d) m ∷ deed_items m ds rest; state = x } about
one_deed n exit d [] m rest x z about l h f = absurd h
one_deed n exit d (k ∷ ds) m rest x z about l h f =
    fails-step n exit _ _ about (step n exit (node (statement_by d) m) (deed_items m (k ∷ ds) rest) (deed_items m (k ∷ ds) rest) x z
    (deed-does exit d m (deed_items m (k ∷ ds) rest) x z l)) (f z h)

-- a check that may be false on the way through deeds may be so along their nodes
pub fail-deeds : (n exit : ℕ) (ds : List Deed) (m : ℕ) (rest : List Item) (x : State) (about : Check) → MayFail ds x about
    → Fails n exit record { work = deed_items m ds rest; state = x } about
fail-deeds n exit [] m rest x about h = absurd h
fail-deeds n exit (sets v f line ∷ ds) m rest x about h =
    one_deed n exit (sets v f line) ds m rest x h.0 about h.1 h.2 (λ w k. fail-deeds n exit ds m rest w about k)
fail-deeds n exit (havocs v line ∷ ds) m rest x about h =
    one_deed n exit (havocs v line) ds m rest x h.0 about h.1 h.2 (λ w k. fail-deeds n exit ds m rest w about k)
fail-deeds n exit (wheres c line ∷ ds) m rest x about h =
    one_deed n exit (wheres c line) ds m rest x h.0 about h.1 h.2 (λ w k. fail-deeds n exit ds m rest w about k)
fail-deeds n exit (checks other c line ∷ ds) m rest x about h = ⊎_elim
    (λ k. subst (λ a. Fails n exit record { work = node (tree.check other c line) m ∷ deed_items m ds rest; state = x } a) k.0
    (fails-here n exit other c line m (deed_items m ds rest) x k.1))
    (λ k. one_deed n exit (checks other c line) ds m rest x x about refl k (λ w t. fail-deeds n exit ds m rest w about t)) h
