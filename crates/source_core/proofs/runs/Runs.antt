-- Each run of a source program is kept by one of its core: at the same points, in the same states.
use Rattle.std.proofs.Common.{◌≡◌, ◌⊎◌, inl, inr, ⊎_elim, ◌≤◌, ℕ, zero, suc, List, [], ◌∷◌, ◌++◌, length, take}
use Rattle.std.proofs.Common.{refl, sym, ap, subst, ◌∙◌, arith, ap₂}
use Rattle.std.proofs.Math.Seq.{take-length}
use Rattle.std.proofs.lemmas.List.{length-take}
use Rattle.std.specs.Prelude.{ℤ, IsTrue, Contains}
use Rattle.lang_tree.specs.Meaning.{State}
use Rattle.lang_tree.specs.Runs as core
use Rattle.lang_tree.specs.Runs.{left_at}
use Rattle.source_tree.specs.Statements.{Statements}
use Rattle.source_core.specs.Laws.{Agree}
use Rattle.source_core.specs.RunLaws.{Test, all_pass, over_test, are_statements_over, apart_test, are_statements_apart, RunsAreKept}
use Rattle.source_core.specs.Core.{core_in}
use Rattle.source_core.specs.SourceRuns.{mark, Configuration, Follows, exit_of, start_work}
use Rattle.source_core.proofs.forms.Over.{agree_refl, agree_sym}
use Rattle.source_core.proofs.runs.Work.{image, image-nodes_then}
use Rattle.source_core.proofs.runs.Reach.{last_of, follows-then}
use Rattle.source_core.proofs.runs.Passing.{work_passes, passing-nodes}
use Rattle.source_core.proofs.runs.Steps.{Same}
use Rattle.source_core.proofs.runs.Simulated.{simulated}
use Rattle.base_integers.specs.declared.integers.Integers.{Integers}

-- a configuration is one of a list, or the one before it
abbrev pub Among : {C : Type 0} → C → List C → C → Type 0
Among c [] d = d ≡ c
Among c (e ∷ es) d = (d ≡ c) ⊎ Among e es d

-- a run of the core that is at each configuration of this one
pub record Kept (integers : Integers) (n exit : ℕ) (s : Configuration) (ss : List Configuration) (c : core.Configuration) : Type 0 where
  -- the configurations of the core behind its first
  pub path : List core.Configuration
  -- each is a step from the one before it
  pub follows : core.Follows n exit c path
  -- for each configuration of the source there is one of the core that stands for it
  pub each : (t : Configuration) → Among s ss t → (d : core.Configuration) × Among c path d × Same integers n t d

-- the one before a list is among both
pub among-first : {C : Type 0} (c : C) (cs : List C) → Among c cs c
among-first c [] = refl
among-first c (d ∷ cs) = inl refl

among-later : (c : core.Configuration) (cs ds : List core.Configuration) (d : core.Configuration) → Among (last_of c cs) ds d
    → Among c (cs ++ ds) d
among-later c [] ds d h = h
among-later c (e ∷ cs) ds d h = inr (among-later e cs ds d h)

-- steps of the source are kept from a configuration of the core that stands for the first
pub keep : (integers : Integers) (n exit : ℕ) (s : Configuration) (ss : List Configuration) (c : core.Configuration)
    → Same integers n s c → Follows integers n exit s ss
    → Kept integers n exit s ss c
keep integers n exit s [] c same f = record {
  path = [];
  follows = tt;
  each = λ t h. (c, refl, subst (λ v. Same integers n v c) (sym h) same);
}
keep integers n exit s (t ∷ ts) c same f =
    let st = f.0 in
    let at : Same integers n record { work = st.item ∷ st.rest; state = s.state } c =
    subst (λ w. Same integers n record { work = w; state = s.state } c) st.first same in
    let r = simulated integers n exit st.item st.rest t.work s.state t.state c at st.does in
    let k = keep integers n exit t ts r.0 r.2 f.1 in
    record {
      path = r.1.path ++ k.path;
      follows = follows-then n exit c r.1.path k.path r.1.follows (subst (λ v. core.Follows n exit v k.path) (sym r.1.ends) k.follows);
      each = λ u h. ⊎_elim
          (λ e. (c, among-first c (r.1.path ++ k.path), subst (λ v. Same integers n v c) (sym e) same))
          (λ m. let g = k.each u m in
          (g.0, among-later c r.1.path k.path g.0 (subst (λ v. Among v k.path g.0) (sym r.1.ends) g.1), g.2)) h;
    }

-- ---- the first configurations
-- the first n values of a state of n variables are all
pub take-all : (n : ℕ) (x : State) → length x ≡ n → take n x ≡ x
take-all n x e = ap (λ k. take k x) (sym e) ∙ take-length x

-- what the source starts with passes what its statements pass
pub started : (test : Test) (integers : Integers) (n : ℕ) (body : Statements) (s : Configuration) → s.work ≡ start_work integers n body
    → IsTrue (all_pass test body) → work_passes test s.work
started test integers n body s w o =
    subst (work_passes test) (sym w) (tt, passing-nodes test integers n body 1 (mark (exit_of integers n body) ∷ []) o (tt, tt))

-- where the core starts stands for where the source starts, in the same state
pub starts : (integers : Integers) (n : ℕ) (body : Statements) (s : Configuration) → IsTrue (are_statements_over n body)
    → IsTrue (are_statements_apart body) → s.work ≡ start_work integers n body
    → length s.state ≡ n → Same integers n s record { work = core.start_work (core_in integers n body); state = s.state }
starts integers n body s o p w l = record {
  work = sym (ap (image integers n) w ∙ ap (λ r. core.mark 0 ∷ r) (image-nodes_then integers n body 1 (mark
      (exit_of integers n body) ∷ [])));
  agree = agree_refl n s.state;
  size = l;
  enough = omega (arith, l);
  left = take-all n s.state l;
  over = started (over_test n) integers n body s w o;
  apart = started apart_test integers n body s w p;
}

-- ---- elements of lists
-- what a list contains is its first element or among those behind it
pub contains-among : {C : Type 0} (c : C) (cs : List C) (d : C) → Contains (c ∷ cs) d → Among c cs d
contains-among c [] d (zero, l, e) = sym e
contains-among c [] d (suc k, l, e) = absurd (omega (arith, l))
contains-among c (b ∷ bs) d (zero, l, e) = inl (sym e)
contains-among c (b ∷ bs) d (suc k, l, e) = inr (contains-among b bs d (k, omega (arith, l), e))

-- the first element of a list, and what is among those behind it, is contained in the list
pub among-contains : {C : Type 0} (c : C) (cs : List C) (d : C) → Among c cs d → Contains (c ∷ cs) d
among-contains c [] d h = (zero, omega arith, sym h)
among-contains c (b ∷ bs) d h = ⊎_elim (λ e. (zero, omega arith, sym e))
    (λ r. let k = among-contains b bs d r in (suc k.0, omega (arith, k.1), k.2)) h

-- ---- states of n variables
-- states of n variables that agree on all of these are the same
pub same_state : (n : ℕ) (x y : State) → length x ≡ n → length y ≡ n → Agree n x y → x ≡ y
same_state n [] [] l m a = refl
same_state n [] (z ∷ y) l m a = absurd (omega (arith, l, m))
same_state n (z ∷ x) [] l m a = absurd (omega (arith, l, m))
same_state zero (z ∷ x) (w ∷ y) l m a = absurd (omega (arith, l))
same_state (suc n) (z ∷ x) (w ∷ y) l m a =
    ap₂ (λ (v : ℤ) (r : List ℤ). v ∷ r) (a 0 (omega arith))
    (same_state n x y (omega (arith, l)) (omega (arith, m)) (λ i h. a (suc i) (omega (arith, h))))

-- a state that is its own first n values has no more
pub taken_ends : (n : ℕ) (x : State) → take n x ≡ x → length x ≤ n
taken_ends n x e = let k = length-take n x in let t = ap (λ (s : State). length s) e in omega (arith, k, t)

-- ---- the law
-- for each run of the source there is one of its core
pub runs-kept : RunsAreKept
runs-kept integers n body o p [] r = absurd r
runs-kept integers n body o p (s ∷ ss) r =
    let c : core.Configuration = record { work = core.start_work (core_in integers n body); state = s.state } in
    let k = keep integers n (exit_of integers n body) s ss c (starts integers n body s o p r.0 r.1) r.3 in (
      c ∷ k.path,
      (refl, r.1, k.follows),
      λ t h q at.
          let d = k.each t (contains-among s ss t h) in
          let w = d.2.work ∙ ap (image integers n) at.1 in
          let short = taken_ends n d.0.state (ap (λ v. left_at n v d.0.state) (sym w) ∙ d.2.left) in (
            d.0,
            among-contains c k.path d.0 d.1,
            (image integers n at.0, w),
            same_state n d.0.state t.state (omega (arith, short, d.2.enough)) d.2.size (agree_sym n t.state d.0.state d.2.agree),
          ),
    )
