-- What a run did since the last mark that it passed.
use Rattle.std.proofs.Common.{◌≡◌, ◌⊎◌, inl, inr, ⊎_elim, ℕ, List, [], ◌∷◌, ◌++◌, ◌∙◌, refl, sym, ap, subst, append_assoc, append-nil}
use Rattle.std.specs.Prelude.{pos}
use Rattle.base_facts.specs.Elements.{In}
use Rattle.lang_tree.specs.Tree.{Statements}
use Rattle.lang_tree.specs.PointNumbers.{exit_of}
use Rattle.lang_tree.specs.Meaning.{State, put, value}
use Rattle.lang_tree.specs.Runs.{Item, node, mark, turn, end, start_work, left_at, Does, Configuration, Step, Follows}
use Rattle.flow_edges.specs.declared.edge.Action.{Action}
use Rattle.flow_edges.specs.declared.edge.Action.TheVariants.{Guard, Assign, Havoc, Check}
use Rattle.flow_edges.specs.Steps.{Labelled, steps_of, Acts}
use Rattle.flow_edges.specs.Paths.{Leads, here, past, done, Arrives, by_step}
use Rattle.flow_edges.specs.PathLaws.{IsMark}
use Rattle.flow_edges.proofs.steps.StepLaw.{steps_law}
use Rattle.flow_edges.proofs.steps.Reach.{leads_then}
use Rattle.flow_edges.proofs.at_checks.Lasting.{Lasting, step_lasts}

acts-append : (a b : List Action) (x y z : State) → Acts a x y → Acts b y z → Acts (a ++ b) x z
acts-append [] b x y z h k = subst (λ w. Acts b w z) h k
acts-append (Guard f ∷ a) b x y z h k = (h.0, acts-append a b x y z h.1 k)
acts-append (Assign var f ∷ a) b x y z h k = acts-append a b (put (pos 0) x var (value f x)) y z h k
acts-append (Havoc var ∷ a) b x y z h k = (h.0, acts-append a b (put (pos 0) x var h.0) y z h.1 k)
acts-append (Check about ∷ a) b x y z h k = acts-append a b x y z h k

-- ---- labelled steps with no mark on the way
-- labelled steps from the work after a mark, with no mark on the way
pub data Part (exit : ℕ) (start : List Item) : List Action → List Item → Type 0 where
  none : Part exit start [] start
  more : (actions : List Action) (item : Item) (rest : List Item) (s : Labelled) → Part exit start actions (item ∷ rest)
      → In (steps_of exit item rest) s → Part exit start (actions ++ s.actions) s.work

-- where they lead on to a mark, all of them do
pub part_arrives : (exit : ℕ) (start : List Item) (actions : List Action) (work : List Item) (later : List Action) (p : ℕ)
    (behind : List Item) →
    Part exit start actions work → Arrives exit work later p behind → Arrives exit start (actions ++ later) p behind
part_arrives exit start actions work later p behind none l = l
part_arrives exit start actions work later p behind (more before item rest s part m) l =
    subst (λ a. Arrives exit start a p behind) (sym (append_assoc before s.actions later))
    (part_arrives exit start before (item ∷ rest) (s.actions ++ later) p behind part (by_step item rest s later p behind m l))

-- labelled steps with no mark on the way are labelled steps
pub part_leads : (exit : ℕ) (start : List Item) (actions : List Action) (work : List Item) → Part exit start actions work
    → Leads exit start actions work
part_leads exit start actions work none = here start
part_leads exit start actions work (more before item rest s part m) =
    let one = done item rest s [] s.work m (here s.work) in
    subst (λ a. Leads exit start (before ++ a) s.work) (append-nil s.actions)
    (leads_then exit start (item ∷ rest) s.work before (s.actions ++ []) (part_leads exit start before (item ∷ rest) part) one)

-- ---- runs
module _ (variables : ℕ) (body : Statements) (run : List Configuration) where
  -- the last mark that was passed, and what was done since
  pub record Since (work : List Item) (now : State) : Type 0 where
    -- where the mark was the first item
    pub source : Configuration
    -- that is in the run
    pub passed : In run source
    -- the mark's point
    pub from : ℕ
    -- the work behind the mark
    pub behind : List Item
    -- the mark is the first item there
    pub first : source.work ≡ mark from ∷ behind
    -- what labelled steps record up to there
    pub earlier : List Action
    -- they lead there
    pub reached : Leads (exit_of body) (start_work body) earlier (mark from ∷ behind)
    -- what was done since
    pub actions : List Action
    -- by labelled steps
    pub part : Part (exit_of body) behind actions work
    -- between these states
    pub acts : Acts actions source.state now

  -- nothing was done yet, or there is a last mark
  abbrev pub Past : List Item → State → Type 0
  Past work now = (work ≡ start_work body) ⊎ Since work now

  -- what holds of a configuration in a run
  pub record Known (c : Configuration) : Type 0 where
    -- its work leads on
    pub lasts : Lasting c.work
    -- the state before hidden values are forgotten
    pub reached : State
    -- and the state is what is left of it
    pub left : c.state ≡ left_at variables c.work reached
    -- and it came from a mark
    pub past_work : Past c.work reached

  since_reached : (work : List Item) (now : State) → Since work now
      → (actions : List Action) × Leads (exit_of body) (start_work body) actions work
  since_reached work now s = (
    s.earlier ++ s.actions,
    leads_then (exit_of body) (start_work body) (mark s.from ∷ s.behind) work s.earlier s.actions s.reached
        (past s.from s.behind s.actions work (part_leads (exit_of body) s.behind s.actions work s.part)),
  )

  -- labelled steps lead to the work of each configuration
  work_reached : (work : List Item) (now : State) → Past work now
      → (actions : List Action) × Leads (exit_of body) (start_work body) actions work
  work_reached work now h =
      ⊎_elim (λ e. ([], subst (λ w. Leads (exit_of body) (start_work body) [] w) (sym e) (here (start_work body))))
      (λ s. since_reached work now s) h

  starts_with_mark : (item : Item) (rest : List Item) → ¬ (IsMark item) → ¬ (item ∷ rest ≡ start_work body)
  starts_with_mark (mark p) rest other e = other tt
  starts_with_mark (node s n) rest other e = cc
  starts_with_mark (turn k c b l n) rest other e = cc
  starts_with_mark (end k c b l n) rest other e = cc

  -- work that begins with no mark came from one
  pub since_mark : (item : Item) (rest : List Item) (now : State) → ¬ (IsMark item) → Past (item ∷ rest) now → Since (item ∷ rest) now
  since_mark item rest now other h = ⊎_elim (λ e. absurd (starts_with_mark item rest other e)) (λ s. s) h

  went_on : (item : Item) (rest : List Item) (x : State) (work : List Item) (y : State) → ¬ (IsMark item)
      → Does (exit_of body) item rest x work y
      → Since (item ∷ rest) x → Since work y
  went_on item rest x work y other d s =
      let r = (steps_law (exit_of body) item rest x work y other).0 d in
      subst (λ w. Since w y) r.2
      (record {
        source = s.source;
        passed = s.passed;
        from = s.from;
        behind = s.behind;
        first = s.first;
        earlier = s.earlier;
        reached = s.reached;
        actions = s.actions ++ r.0.actions;
        part = more s.actions item rest r.0 s.part r.1;
        acts = acts-append s.actions r.0.actions s.source.state x y s.acts r.3;
      })

  passed_mark : (a : Configuration) (p : ℕ) (rest work : List Item) (x y : State) → In run a → a.work ≡ mark p ∷ rest
      → Past (mark p ∷ rest) x → work ≡ rest → y ≡ a.state → Since work y
  passed_mark a p rest work x y m e h w z =
      let r = work_reached (mark p ∷ rest) x h in
      subst (λ v. Since v y) (sym w) (subst (λ v. Since rest v) (sym z)
      (record {
        source = a;
        passed = m;
        from = p;
        behind = rest;
        first = e;
        earlier = r.0;
        reached = r.1;
        actions = [];
        part = none;
        acts = refl;
      }))

  advanced_by : (a : Configuration) (item : Item) (rest work : List Item) (x y : State) → ¬ (IsMark item) → a.state ≡ x
      → Does (exit_of body) item rest a.state work y → Past (item ∷ rest) x → Since work y
  advanced_by a item rest work x y other same d h =
      went_on item rest x work y other (subst (λ z. Does (exit_of body) item rest z work y) same d) (since_mark item rest x other h)

  advanced : (a : Configuration) (item : Item) (rest work : List Item) (x y : State) → In run a → a.work ≡ item ∷ rest
      → a.state ≡ left_at variables (item ∷ rest) x → Does (exit_of body) item rest a.state work y → Past (item ∷ rest) x → Since work y
  advanced a (mark p) rest work x y m e same d h = passed_mark a p rest work x y m e h d.0 d.1
  advanced a (node s n) rest work x y m e same d h = advanced_by a (node s n) rest work x y (λ t. t) same d h
  advanced a (turn k c b l n) rest work x y m e same d h = advanced_by a (turn k c b l n) rest work x y (λ t. t) same d h
  advanced a (end k c b l n) rest work x y m e same d h = advanced_by a (end k c b l n) rest work x y (λ t. t) same d h

  known_step : (a b : Configuration) → In run a → Step variables (exit_of body) a b → Known a → Known b
  known_step a b m step k =
      let h = subst (λ w. Past w k.reached) step.first k.past_work in
      let same : a.state ≡ left_at variables (step.item ∷ step.rest) k.reached = k.left
      ∙ ap (λ w. left_at variables w k.reached) step.first in
      let l = subst Lasting step.first k.lasts in
      record {
        lasts = step_lasts (exit_of body) step.item step.rest a.state b.work step.reached step.does l;
        reached = step.reached;
        left = step.left;
        past_work = inr (advanced a step.item step.rest b.work k.reached step.reached m step.first same step.does h);
      }

  -- what holds of a configuration in the run holds of all that follow it
  pub known_all : (a : Configuration) (cs : List Configuration) → ((c : Configuration) → In (a ∷ cs) c → In run c)
      → Follows variables (exit_of body) a cs
      → Known a → (c : Configuration) → In (a ∷ cs) c → Known c
  known_all a [] all f k c m = ⊎_elim (λ e. subst Known e k) (λ n. absurd n) m
  known_all a (b ∷ cs) all f k c m =
      ⊎_elim (λ e. subst Known e k)
      (λ n. known_all b cs (λ d i. all d (inr i)) f.1 (known_step a b (all a (inl refl)) f.0 k) c n) m
