-- Every post-solution of a program's system holds in every run.
use Rattle.std.proofs.Common.{◌≡◌, ◌∙◌, ◌⊎◌, inl, inr, ⊎_elim, ℕ, List, [], ◌∷◌, ◌++◌, refl, sym, ap, subst}
use Rattle.std.proofs.Common.{suc, zero, ◌==◌, ◌≤◌, length, take, arith}
use Rattle.std.specs.Prelude.{ℤ, pos, IsTrue, slice_get, Some}
use Rattle.std.proofs.lemmas.Bool.{eqb-true, and_parts}
use Rattle.std.proofs.lemmas.List.{length-map, length-take-le, take-map}
use Rattle.std.proofs.lemmas.Option.{slice_get_within}
use Rattle.base_facts.specs.Elements.{In}
use Rattle.base_numbers.specs.Rational.{whole, zero_ℚ, ◌+ℚ◌, ◌*ℚ◌, ◌≤ℚ◌}
use Rattle.base_numbers.specs.Extended.{fin, ◌≤ᴱ◌}
use Rattle.base_numbers.proofs.rational.Laws.{whole-zero, whole_le}
use Rattle.lang_tree.specs.Tree.{Statements}
use Rattle.lang_tree.specs.PointNumbers.{exit_of}
use Rattle.lang_tree.proofs.Put.{map-put}
use Rattle.lang_tree.specs.Meaning.{State, put, value}
use Rattle.lang_tree.specs.Runs.{Item, node, mark, turn, end, start_work, left_at, Does, Configuration, Step, Follows, IsAt}
use Rattle.flow_edges.specs.declared.edge.Action.{Action}
use Rattle.flow_edges.specs.declared.edge.Action.TheVariants.{Guard, Assign, Havoc, Check}
use Rattle.flow_edges.specs.Steps.{Labelled, steps_of, Acts}
use Rattle.flow_edges.specs.Paths.{Leads, here, past, at_mark, Path}
use Rattle.flow_edges.specs.PathLaws.{EdgesArePaths, IsMark}
use Rattle.flow_edges.proofs.steps.ElementLemmas.{contains_in}
use Rattle.flow_edges.proofs.steps.StepLaw.{steps_law}
use Rattle.flow_edges.proofs.steps.Reach.{leads_then}
use Rattle.flow_edges.proofs.paths.PathLaw.{edges_law}
use Rattle.flow_edges.proofs.at_checks.SinceMark.{Part, none, more, part_arrives, part_leads}
use Rattle.flow_systems.specs.States.{RationalState, dotℚ, valueℚ, rational, Traces}
use Rattle.flow_systems.specs.SystemLimits.{is_over}
use Rattle.flow_systems.specs.Equations.{Equations, Vector, Fits, PostSolution}
use Rattle.flow_systems.specs.Solutions.{equations_of_program, Holds}
use Rattle.flow_systems.specs.SolutionLaws.{PostSolutionsHold, ProgramPostSolutionsHold}
use Rattle.flow_systems.proofs.states.RationalStates.{value_rational}
use Rattle.flow_systems.proofs.states.Sizes.{enough_after, start_is_left}

-- ---- a step of a run is a labelled step and a trace
trace-append : (a b : List Action) (x y z : RationalState) → Traces a x y → Traces b y z → Traces (a ++ b) x z
trace-append [] b x y z h k = subst (λ w. Traces b w z) h k
trace-append (Guard f ∷ a) b x y z h k = (h.0, trace-append a b x y z h.1 k)
trace-append (Assign var f ∷ a) b x y z h k = trace-append a b (put zero_ℚ x var (valueℚ f x)) y z h k
trace-append (Havoc var ∷ a) b x y z h k = (h.0, trace-append a b (put zero_ℚ x var h.0) y z h.1 k)
trace-append (Check about ∷ a) b x y z h k = trace-append a b x y z h k

-- a value that is put into an integer state is put into the rational state that it is
pub rational_put : (x : State) (k : ℕ) (z : ℤ) → rational (put (pos 0) x k z) ≡ put zero_ℚ (rational x) k (whole z)
rational_put x k z = map-put whole (pos 0) x k z ∙ ap (λ q. put q (rational x) k (whole z)) whole-zero

-- actions that lead from one integer state to another are a trace
pub acts_trace : (actions : List Action) (x y : State) → Acts actions x y → Traces actions (rational x) (rational y)
acts_trace [] x y h = ap rational h
acts_trace (Guard f ∷ actions) x y h =
    let at_most : whole (value f x) ≤ℚ zero_ℚ = subst (λ q. whole (value f x) ≤ℚ q) whole-zero (whole_le (value f x) (pos 0) h.0) in
    (subst (λ q. q ≤ℚ zero_ℚ) (sym (value_rational f x)) at_most, acts_trace actions x y h.1)
acts_trace (Assign var f ∷ actions) x y h =
    let e : rational (put (pos 0) x var (value f x)) ≡ put zero_ℚ (rational x) var (valueℚ f (rational x)) =
    rational_put x var (value f x) ∙ ap (put zero_ℚ (rational x) var) (sym (value_rational f x)) in
    subst (λ z. Traces actions z (rational y)) e (acts_trace actions (put (pos 0) x var (value f x)) y h)
acts_trace (Havoc var ∷ actions) x y h =
    (whole h.0, subst (λ z. Traces actions z (rational y)) (rational_put x var h.0) (acts_trace actions (put (pos 0) x var h.0) y h.1))
acts_trace (Check about ∷ actions) x y h = acts_trace actions x y h

-- a labelled step with the item that leaves this work, along which a trace leads from one state to the other
abbrev Recorded : (exit : ℕ) → Item → List Item → State → List Item → State → Type 0
Recorded exit item rest x work y =
    (s : Labelled) × In (steps_of exit item rest) s × (s.work ≡ work) × Traces s.actions (rational x) (rational y)

recorded : (exit : ℕ) (item : Item) (rest : List Item) (x : State) (work : List Item) (y : State) → ¬ (IsMark item)
    → Does exit item rest x work y → Recorded exit item rest x work y
recorded exit item rest x work y other d = let r = (steps_law exit item rest x work y other).0 d
    in (r.0, r.1, r.2, acts_trace r.0.actions x y r.3)

-- ---- what rows see of a state
-- a row over the first variables doesn't see those behind
row_sees : (n : ℕ) (row : List ℤ) (x : RationalState) → length row ≤ n → dotℚ row (take n x) ≡ dotℚ row x
row_sees n [] x h = refl
row_sees zero (c ∷ cs) x h = absurd (omega arith)
row_sees (suc n) (c ∷ cs) [] h = refl
row_sees (suc n) (c ∷ cs) (q ∷ x) h = ap (λ r. (whole c *ℚ q) +ℚ r) (row_sees n cs x (omega arith))

some_same : (s t : List ℤ) → Some s ≡ Some t → s ≡ t
some_same s t e = cc

-- each row over variables has a coefficient for each
row_size : (n : ℕ) (template : List (List ℤ)) (r : ℕ) (row : List ℤ) → IsTrue (is_over n template) → slice_get template r ≡ Some row
    → length row ≡ n
row_size n [] r row h e = cc
row_size n (first ∷ rows) zero row h e =
    ap length (sym (some_same first row e)) ∙ eqb-true (length first) n (and_parts (length first == n) (is_over n rows) h).0
row_size n (first ∷ rows) (suc r) row h e = row_size n rows r row (and_parts (length first == n) (is_over n rows) h).1 e

-- so a state fits by its first values
fits_visible : (system : Equations) (v : Vector) (p : ℕ) (x : RationalState) → IsTrue (is_over system.variables system.template)
    → Fits system v p x → Fits system v p (take system.variables x)
fits_visible system v p x over f r row listed =
    let size = row_size system.variables system.template r row over listed in
    subst (λ q. fin q ≤ᴱ v p r) (sym (row_sees system.variables row x (omega (arith, size)))) (f r row listed)

-- ---- since the last mark
module _ (system : Equations) (body : Statements) (v : Vector) (over : IsTrue (is_over system.variables system.template))
    (paths : EdgesArePaths system.edges body) (post : PostSolution system v) where
  abbrev exit : ℕ
  exit = exit_of body

  -- the mark of a point that labelled steps reach, with a state that fits there
  record AtMark (p : ℕ) (behind : List Item) (x : RationalState) : Type 0 where
    before : List Action
    reached : Leads exit (start_work body) before (mark p ∷ behind)
    fits : Fits system v p x

  -- the last mark, and what was done since
  record Since (work : List Item) (x : RationalState) : Type 0 where
    from : ℕ
    behind : List Item
    begin : RationalState
    last : AtMark from behind begin
    starts : length begin ≡ system.variables
    actions : List Action
    part : Part exit behind actions work
    trace : Traces actions begin x

  -- what holds of a configuration in a run
  record Known (c : Configuration) : Type 0 where
    reached : State
    enough : system.variables ≤ length reached
    left : c.state ≡ left_at system.variables c.work reached
    past_work : (c.work ≡ start_work body) ⊎ Since c.work (rational reached)

  fits_entry : (x : RationalState) → Fits system v 0 x
  fits_entry x r row listed = subst (λ b. fin (dotℚ row x) ≤ᴱ b) (sym (post.entry r (slice_get_within system.template r row listed))) tt

  arrived : (p : ℕ) (rest : List Item) (x : RationalState) → Since (mark p ∷ rest) x → AtMark p rest x
  arrived p rest x s =
      let arrives = part_arrives exit s.behind s.actions (mark p ∷ rest) [] p rest s.part (at_mark p rest) in
      let path : Path body s.from (s.actions ++ []) p = record {
        before = s.last.before;
        behind = s.behind;
        reached =
            s.last.reached;
        after = rest;
        arrives = arrives;
      } in
      record {
        before = s.last.before ++ s.actions;
        reached = leads_then exit (start_work body) (mark s.from ∷ s.behind) (mark p ∷ rest) s.last.before s.actions s.last.reached
            (past s.from s.behind s.actions (mark p ∷ rest) (part_leads exit s.behind s.actions (mark p ∷ rest) s.part));
        fits = post.closed (record { from = s.from; to = p; actions = s.actions ++ [] }) s.begin x
            (record {
              listed = paths.complete s.from p (s.actions ++ []) path;
              starts = s.starts;
              fits = s.last.fits;
              trace =
                  trace-append s.actions [] s.begin x x s.trace refl;
            });
      }

  at_start : (p : ℕ) (rest : List Item) (x : RationalState) → mark p ∷ rest ≡ start_work body → AtMark p rest x
  at_start p rest x e =
      let zero_is : 0 ≡ p = cc in
      record {
        before = [];
        reached = subst (λ w. Leads exit (start_work body) [] w) (sym e) (here (start_work body));
        fits = subst (λ q. Fits system v q x) zero_is (fits_entry x);
      }

  marked : (p : ℕ) (rest : List Item) (x : RationalState) → (mark p ∷ rest ≡ start_work body) ⊎ Since (mark p ∷ rest) x → AtMark p rest x
  marked p rest x h = ⊎_elim (λ e. at_start p rest x e) (λ s. arrived p rest x s) h

  went_on : (item : Item) (rest : List Item) (x : State) (work : List Item) (y : State) → Recorded exit item rest x work y
      → Since (item ∷ rest) (rational x) → Since work (rational y)
  went_on item rest x work y r s =
      subst (λ w. Since w (rational y)) r.2
      (record {
        from = s.from;
        behind = s.behind;
        begin = s.begin;
        last = s.last;
        starts = s.starts;
        actions = s.actions ++ r.0.actions;
        part = more s.actions item rest r.0 s.part r.1;
        trace = trace-append s.actions r.0.actions s.begin (rational x) (rational y) s.trace r.3;
      })

  -- the same mark with its state's first values
  visible_mark : (p : ℕ) (rest : List Item) (x : State) → AtMark p rest (rational x) → AtMark p rest (rational (take system.variables x))
  visible_mark p rest x m = record {
    before = m.before;
    reached = m.reached;
    fits = subst (Fits system v p) (take-map whole system.variables x) (fits_visible system v p (rational x) over m.fits);
  }

  starts_with_mark : (item : Item) (rest : List Item) → ¬ (IsMark item) → ¬ (item ∷ rest ≡ start_work body)
  starts_with_mark (mark p) rest other e = other tt
  starts_with_mark (node s n) rest other e = cc
  starts_with_mark (turn k c b l n) rest other e = cc
  starts_with_mark (end k c b l n) rest other e = cc

  advanced_by : (item : Item) (rest : List Item) (z x : State) (work : List Item) (y : State) → ¬ (IsMark item) → z ≡ x
      → Does exit item rest z work y → (item ∷ rest ≡ start_work body) ⊎ Since (item ∷ rest) (rational x) → Since work (rational y)
  advanced_by item rest z x work y other same d h =
      let e = subst (λ w. Does exit item rest w work y) same d in
      ⊎_elim (λ e. absurd (starts_with_mark item rest other e)) (λ s. went_on item rest x work y (recorded exit item rest x work y other e)
      s) h

  advanced : (item : Item) (rest : List Item) (z x : State) (work : List Item) (y : State) → Does exit item rest z work y
      → system.variables ≤ length x → z ≡ left_at system.variables (item ∷ rest) x →
      (item ∷ rest ≡ start_work body) ⊎ Since (item ∷ rest) (rational x) → Since work (rational y)
  advanced (mark p) rest z x work y d size same h =
      let first = take system.variables x in
      subst (λ w. Since w (rational y)) (sym d.0) (subst (λ z. Since rest (rational z)) (sym (d.1 ∙ same))
      (record {
        from = p;
        behind = rest;
        begin = rational first;
        last = visible_mark p rest x (marked p rest (rational x) h);
        starts = length-map first whole ∙ length-take-le system.variables x size;
        actions = [];
        part = none;
        trace = refl;
      }))
  advanced (node s n) rest z x work y d size same h = advanced_by (node s n) rest z x work y (λ m. m) same d h
  advanced (turn k c b l n) rest z x work y d size same h = advanced_by (turn k c b l n) rest z x work y (λ m. m) same d h
  advanced (end k c b l n) rest z x work y d size same h = advanced_by (end k c b l n) rest z x work y (λ m. m) same d h

  known_step : (a b : Configuration) → Step system.variables exit a b → Known a → Known b
  known_step a b step k =
      let x = k.reached in
      let past_first = subst (λ w. (w ≡ start_work body) ⊎ Since w (rational x)) step.first k.past_work in
      let same : a.state ≡ left_at system.variables (step.item ∷ step.rest) x = k.left
      ∙ ap (λ w. left_at system.variables w x) step.first in
      record {
        reached = step.reached;
        enough = enough_after system.variables exit a b step x k.enough k.left;
        left = step.left;
        past_work = inr (advanced step.item step.rest a.state x b.work step.reached step.does k.enough same past_first);
      }

  known_all : (a : Configuration) (cs : List Configuration) → Follows system.variables exit a cs → Known a → (c : Configuration)
      → In (a ∷ cs) c
      → Known c
  known_all a [] f k c m = ⊎_elim (λ e. subst Known e k) (λ n. absurd n) m
  known_all a (b ∷ cs) f k c m = ⊎_elim (λ e. subst Known e k) (λ n. known_all b cs f.1 (known_step a b f.0 k) c n) m

  fits_at : (c : Configuration) (p : ℕ) → Known c → IsAt c p → Fits system v p (rational c.state)
  fits_at c p k a =
      let x = k.reached in
      let same : c.state ≡ take system.variables x = k.left ∙ ap (λ w. left_at system.variables w x) a.1 in
      let m = marked p a.0 (rational x) (subst (λ w. (w ≡ start_work body) ⊎ Since w (rational x)) a.1 k.past_work) in
      subst (λ z. Fits system v p (rational z)) (sym same) (visible_mark p a.0 x m).fits

  holds : Holds system body v
  holds [] c p run m at_p = absurd run
  holds (a ∷ cs) c p run m at_p =
      let start : Known a = record {
        reached = a.state;
        enough = omega (arith, run.1);
        left = start_is_left system.variables body a run.0 run.1;
        past_work = inl run.0;
      } in
      fits_at c p (known_all a cs run.2 start c (contains_in (a ∷ cs) c m)) at_p

-- where the edges are the paths of a program, every post-solution holds in every run
pub soundness : PostSolutionsHold
soundness system body v over paths post = holds system body v over paths post

-- every post-solution of a program's system holds in every run
pub program_soundness : ProgramPostSolutionsHold
program_soundness variables body template v over post = holds (equations_of_program variables body template) body v over (edges_law body)
    post
