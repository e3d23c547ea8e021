-- Acts lead from one state to another exactly where the actions of one of their choices do.
use Rattle.std.proofs.Common.{◌≡◌, ℕ, inl, ⊎_elim, List, [], ◌∷◌, ◌++◌, map, refl, sym, ap, subst}
use Rattle.std.specs.Prelude.{IsTrue, true}
use Rattle.std.proofs.lemmas.Bool.{and_parts, false≢true}
use Rattle.base_facts.specs.Elements.{In}
use Rattle.base_facts.proofs.elements.Membership.{in_map, of_map, in_flat_map, of_flat_map}
use Rattle.lang_tree.specs.declared.form.Form.{Form}
use Rattle.lang_tree.specs.Tree.{Statement, Statements, set, havoc, assume, only_where, check, branch, loop, jump, label, nil, cons}
use Rattle.lang_tree.specs.Cases.{cases_of}
use Rattle.lang_tree.specs.Meaning.{State, put, value}
use Rattle.lang_tree.specs.Runs.{node, mark}
use Rattle.lang_tree.specs.PointNumbers.{splits}
use Rattle.std.specs.Prelude.{pos, if◌then◌else◌}
use Rattle.flow_edges.specs.declared.edge.Action.{Action}
use Rattle.flow_edges.specs.declared.edge.Action.TheVariants.{Guard, Assign, Havoc, Check}
use Rattle.flow_edges.specs.Steps.{Labelled, labelled, guards, steps_of, Acts}
use Rattle.flow_edges.proofs.steps.StepLaw.{steps_law}
use Rattle.flow_transitions.specs.AutoLimits.{is_act, are_acts}
use Rattle.flow_transitions.specs.Choices.{choices_of, choices_in}
use Rattle.flow_transitions.specs.AutoRuns.{DoesAct, DoesActs}
use Rattle.flow_transitions.specs.AutoLaws.{ChoicesAreActs}

-- ---- actions one after another
acts-append : (a b : List Action) (x y z : State) → Acts a x y → Acts b y z → Acts (a ++ b) x z
acts-append [] b x y z h k = subst (λ w. Acts b w z) h k
acts-append (Guard f ∷ a) b x y z h k = (h.0, acts-append a b x y z h.1 k)
acts-append (Assign var f ∷ a) b x y z h k = acts-append a b (put (pos 0) x var (value f x)) y z h k
acts-append (Havoc var ∷ a) b x y z h k = (h.0, acts-append a b (put (pos 0) x var h.0) y z h.1 k)
acts-append (Check about ∷ a) b x y z h k = acts-append a b x y z h k

acts_split : (a b : List Action) (x z : State) → Acts (a ++ b) x z → (y : State) × Acts a x y × Acts b y z
acts_split [] b x z h = (x, refl, h)
acts_split (Guard f ∷ a) b x z h = let r = acts_split a b x z h.1 in (r.0, (h.0, r.1), r.2)
acts_split (Assign var f ∷ a) b x z h = acts_split a b (put (pos 0) x var (value f x)) z h
acts_split (Havoc var ∷ a) b x z h = let r = acts_split a b (put (pos 0) x var h.0) z h.1 in (r.0, (h.0, r.1), r.2)
acts_split (Check about ∷ a) b x z h = acts_split a b x z h

-- ---- one act
-- the choices of an act are the actions of its labelled steps as a program's statement
abbrev recorded : Labelled → List Action
recorded s = s.actions

choices_are_steps : (n : ℕ) (s : Statement) → IsTrue (is_act n s) → choices_of s ≡ map recorded (steps_of 0 (node s 0) [])
choices_are_steps n (set var form line) h = refl
choices_are_steps n (havoc var line) h = refl
choices_are_steps n (assume c line) h = map_map (cases_of true c)
  where
    map_map : (cs : List (List Form)) → map guards cs ≡ map recorded (map
        (λ forms. labelled (guards forms) (if splits c then mark 0 ∷ [] else [])) cs)
    map_map [] = refl
    map_map (forms ∷ cs) = ap (λ r. guards forms ∷ r) (map_map cs)
choices_are_steps n (only_where c line) h = absurd (false≢true h)
choices_are_steps n (check about c line) h = absurd (false≢true h)
choices_are_steps n (branch c first second line) h = absurd (false≢true h)
choices_are_steps n (loop kind c body line) h = absurd (false≢true h)
choices_are_steps n (jump kind line) h = absurd (false≢true h)
choices_are_steps n (label name line) h = absurd (false≢true h)

-- an act does what one of its choices records, and the other way round
abbrev Chosen : List (List Action) → State → State → Type 0
Chosen choices x y = (actions : List Action) × In choices actions × Acts actions x y

act_chosen : (n : ℕ) (s : Statement) (x y : State) → IsTrue (is_act n s) → DoesAct s x y → Chosen (choices_of s) x y
act_chosen n s x y h d =
    let r = (steps_law 0 (node s 0) [] x d.0 y (λ m. m)).0 d.1 in
    (r.0.actions, subst (λ cs. In cs r.0.actions) (sym (choices_are_steps n s h)) (in_map recorded (steps_of 0 (node s 0) []) r.0 r.1), r.3)

act_done : (n : ℕ) (s : Statement) (x y : State) → IsTrue (is_act n s) → Chosen (choices_of s) x y → DoesAct s x y
act_done n s x y h c =
    let r = of_map recorded (steps_of 0 (node s 0) []) c.0 (subst (λ cs. In cs c.0) (choices_are_steps n s h) c.1) in
    (r.0.work, (steps_law 0 (node s 0) [] x r.0.work y (λ m. m)).1 (r.0, r.1, refl, subst (λ a. Acts a x y) (sym r.2) c.2))

-- ---- acts one after another
abbrev then_later : Statements → List Action → List (List Action)
then_later rest first = map (λ later. first ++ later) (choices_in rest)

acts_chosen : (n : ℕ) (acts : Statements) (x y : State) → IsTrue (are_acts n acts) → DoesActs acts x y → Chosen (choices_in acts) x y
acts_chosen n nil x y h d = ([], inl refl, d)
acts_chosen n (cons s rest) x y h d =
    let p = and_parts (is_act n s) (are_acts n rest) h in
    let first = act_chosen n s x d.0 p.0 d.1 in
    let later = acts_chosen n rest d.0 y p.1 d.2 in (
      first.0 ++ later.0,
      in_flat_map (then_later rest) (choices_of s) first.0 (first.0 ++ later.0) first.1
          (in_map (λ a. first.0 ++ a) (choices_in rest) later.0 later.1),
      acts-append first.0 later.0 x d.0 y first.2 later.2,
    )

acts_done : (n : ℕ) (acts : Statements) (x y : State) → IsTrue (are_acts n acts) → Chosen (choices_in acts) x y → DoesActs acts x y
acts_done n nil x y h c = ⊎_elim (λ e. subst (λ a. Acts a x y) (sym e) c.2) (λ m. absurd m) c.1
acts_done n (cons s rest) x y h c =
    let p = and_parts (is_act n s) (are_acts n rest) h in
    let r = of_flat_map (then_later rest) (choices_of s) c.0 c.1 in
    let t = of_map (λ later. r.0 ++ later) (choices_in rest) c.0 r.2 in
    let q = acts_split r.0 t.0 x y (subst (λ a. Acts a x y) (sym t.2) c.2) in
    (q.0, act_done n s x q.0 p.0 (r.0, r.1, q.1), acts_done n rest q.0 y p.1 (t.0, t.1, q.2))

-- acts lead from state to state exactly where the actions of one of their choices do
pub choices_law : ChoicesAreActs
choices_law n acts x y h = ((λ d. acts_chosen n acts x y h d), (λ c. acts_done n acts x y h c))
