-- Every post-solution of a transition system's edges holds along its runs.
use Rattle.std.proofs.Common.{◌≡◌, ◌∙◌, ℕ, ◌<◌, inl, inr, ⊎_elim, Bool, true, false, cond, List, [], ◌∷◌, length, refl, sym, ap, subst}
use Rattle.std.proofs.Common.{arith}
use Rattle.std.specs.Prelude.{ℤ, pos, IsTrue, filter, nat_lt}
use Rattle.std.specs.List.{list_all, range_with_len}
use Rattle.std.proofs.lemmas.Bool.{and_parts, eq-eqb, ltb-true}
use Rattle.std.proofs.lemmas.List.{length-map}
use Rattle.std.proofs.lemmas.Option.{slice_get_within}
use Rattle.base_facts.specs.Elements.{In}
use Rattle.base_facts.proofs.elements.Membership.{in_map, in_flat_map, in_range, contains_from_in}
use Rattle.base_numbers.specs.Rational.{whole}
use Rattle.base_numbers.specs.Extended.{fin, ◌≤ᴱ◌}
use Rattle.lang_tree.specs.Meaning.{State, put, value}
use Rattle.lang_tree.specs.Limits.{is_form}
use Rattle.lang_tree.proofs.Put.{put_size}
use Rattle.flow_edges.specs.declared.edge.Action.{Action}
use Rattle.flow_edges.specs.declared.edge.Action.TheVariants.{Guard, Assign, Havoc, Check}
use Rattle.flow_edges.specs.Steps.{Acts}
use Rattle.flow_edges.specs.FlowLimits.{is_action}
use Rattle.flow_edges.proofs.Each.{Each}
use Rattle.flow_edges.proofs.steps.ElementLemmas.{contains_in}
use Rattle.flow_systems.specs.States.{dotℚ, rational}
use Rattle.flow_systems.specs.Equations.{Vector, Fits, PostSolution}
use Rattle.flow_systems.proofs.states.Soundness.{acts_trace}
use Rattle.flow_transitions.specs.declared.auto.Auto.{Auto}
use Rattle.flow_transitions.specs.declared.auto_edge.AutoEdge.{AutoEdge}
use Rattle.flow_transitions.specs.AutoLimits.{is_auto_edge}
use Rattle.flow_transitions.specs.Choices.{choices_in, edge_by, edges_along, starts_at, edges_at, edges_of}
use Rattle.flow_transitions.specs.AutoRuns.{AutoConfiguration, AutoStep, AutoFollows}
use Rattle.flow_transitions.specs.AutoLaws.{PostSolutionsHoldAlong}
use Rattle.flow_transitions.specs.AutoSystem.{equations_of_auto, HoldsAlong}
use Rattle.flow_transitions.proofs.made.Within.{limits, edge_limits, choices_fit}
use Rattle.flow_transitions.proofs.along.ActLaw.{choices_law}

-- ---- actions between integer states
-- those over the variables keep the number of values
acts_size : (n : ℕ) (actions : List Action) (x y : State) → Each (λ a. IsTrue (is_action n a)) actions → length x ≡ n → Acts actions x y
    → length y ≡ n
acts_size n [] x y f e h = ap length h ∙ e
acts_size n (Guard g ∷ actions) x y f e h = acts_size n actions x y f.1 e h.1
acts_size n (Assign var g ∷ actions) x y f e h =
    let l = ltb-true var n (and_parts (nat_lt var n) (is_form n g) f.0).0 in
    acts_size n actions (put (pos 0) x var (value g x)) y f.1 (put_size (pos 0) x var (value g x) (omega (arith, l, e)) ∙ e) h
acts_size n (Havoc var ∷ actions) x y f e h =
    let l = ltb-true var n f.0 in
    acts_size n actions (put (pos 0) x var h.0) y f.1 (put_size (pos 0) x var h.0 (omega (arith, l, e)) ∙ e) h.1
acts_size n (Check about ∷ actions) x y f e h = acts_size n actions x y f.1 e h

-- ---- elements
all_in : {A : Type 0} (p : A → Bool) (xs : List A) (x : A) → IsTrue (list_all p xs) → In xs x → IsTrue (p x)
all_in p [] x h m = absurd m
all_in p (y ∷ xs) x h m =
    let q = and_parts (p y) (list_all p xs) h in
    ⊎_elim (λ e. subst (λ z. IsTrue (p z)) e q.0) (λ k. all_in p xs x q.1 k) m

in_filter : {A : Type 0} (p : A → Bool) (xs : List A) (x : A) → In xs x → p x ≡ true → In (filter p xs) x
in_filter p [] x m h = absurd m
in_filter p (y ∷ xs) x m h =
    ⊎_elim
    (λ (e : y ≡ x). subst (λ b. In (cond b (y ∷ filter p xs) (filter p xs)) x) (sym (ap p e ∙ h)) (inl e))
    (λ (k : In xs x). later (p y) (in_filter p xs x k h)) m
  where
    later : (b : Bool) → In (filter p xs) x → In (cond b (y ∷ filter p xs) (filter p xs)) x
    later true k = inr k
    later false k = k

each_at : {A : Type 0} (P : A → Type 0) (xs : List A) (x : A) → Each P xs → In xs x → P x
each_at P [] x h m = absurd m
each_at P (y ∷ xs) x h m = ⊎_elim (λ e. subst P e h.0) (λ k. each_at P xs x h.1 k) m

-- the edge of a choice is listed
chosen_in : (edges : List AutoEdge) (points : ℕ) (e : AutoEdge) (actions : List Action) → In edges e → e.from < points
    → In (choices_in e.acts) actions →
    In (edges_of points edges) (edge_by e actions)
chosen_in edges points e actions m l k =
    let from = e.from in
    in_flat_map (edges_at edges) (range_with_len 0 points) from (edge_by e actions) (in_range 0 points from (omega arith) (omega arith))
    (in_flat_map edges_along (filter (starts_at from) edges) e (edge_by e actions)
    (in_filter (starts_at from) edges e m (eq-eqb from from refl))
    (in_map (edge_by e) (choices_in e.acts) actions k))

module _ (auto : Auto) (template : List (List ℤ)) (v : Vector) (post : PostSolution (equations_of_auto auto template) v) where
  -- what holds of a configuration in a run
  record Known (c : AutoConfiguration) : Type 0 where
    size : length c.state ≡ length auto.names
    fits : Fits (equations_of_auto auto template) v c.point (rational c.state)

  at_start : (c : AutoConfiguration) → c.point ≡ 0 → length c.state ≡ length auto.names → Known c
  at_start c e l = record {
    size = l;
    fits = λ r row listed. subst (λ b. fin (dotℚ row (rational c.state)) ≤ᴱ b)
        (sym (ap (λ p. v p r) e ∙ post.entry r (slice_get_within template r row listed))) tt;
  }

  stepped : (a b : AutoConfiguration) → AutoStep auto.edges a b → Known a → Known b
  stepped a b step k =
      let e = step.edge in
      let m = contains_in auto.edges e step.listed in
      let n = length auto.names in
      let l = edge_limits n (length auto.points) e (all_in (is_auto_edge n (length auto.points)) auto.edges e
      (limits auto.names auto.points auto.edges auto.within_limits).along m) in
      let c = (choices_law n e.acts a.state b.state l.acts).0 step.does in
      let listed = contains_from_in (edges_of (length auto.points) auto.edges) (edge_by e c.0)
      (chosen_in auto.edges (length auto.points) e c.0 m l.from c.1) in
      let fit = each_at (Each (λ a. IsTrue (is_action n a))) (choices_in e.acts) c.0 (choices_fit n e.acts l.acts) c.1 in
      record {
        size = acts_size n c.0 a.state b.state fit k.size c.2;
        fits = subst (λ p. Fits (equations_of_auto auto template) v p (rational b.state)) step.to
            (post.closed (edge_by e c.0) (rational a.state) (rational b.state)
            (record {
              listed = listed;
              starts = length-map a.state whole ∙ k.size;
              fits = subst (λ p. Fits (equations_of_auto auto template) v p (rational a.state)) (sym step.from) k.fits;
              trace = acts_trace c.0 a.state b.state c.2;
            }));
      }

  all_known : (a : AutoConfiguration) (cs : List AutoConfiguration) → AutoFollows auto.edges a cs → Known a → (c : AutoConfiguration)
      → In (a ∷ cs) c → Known c
  all_known a [] f k c m = ⊎_elim (λ e. subst Known e k) (λ n. absurd n) m
  all_known a (b ∷ cs) f k c m = ⊎_elim (λ e. subst Known e k) (λ n. all_known b cs f.1 (stepped a b f.0 k) c n) m

  holds : HoldsAlong auto (equations_of_auto auto template) v
  holds [] c run m = absurd run
  holds (a ∷ cs) c run m = (all_known a cs run.2 (at_start a run.0 run.1) c (contains_in (a ∷ cs) c m)).fits

-- what any post-solution says of a point is so at each configuration there, in every run
pub soundness_along : PostSolutionsHoldAlong
soundness_along auto template v post = holds auto template v post
