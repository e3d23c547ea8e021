-- A step of a run does what one of its labelled steps records.
use Rattle.std.proofs.Common.{◌≡◌, ◌∙◌, inl, inr, ⊎_elim, Bool, true, false, List, [], ◌∷◌, ◌++◌, refl, sym, ap, subst, ℕ}
use Rattle.std.specs.Prelude.{if◌then◌else◌}
use Rattle.base_facts.specs.Elements.{In}
use Rattle.lang_tree.specs.declared.form.Form.{Form}
use Rattle.lang_tree.specs.Tree.{Condition, breaks, continues, returns, set, havoc, assume}
use Rattle.lang_tree.specs.Tree.{only_where, check, branch, loop, jump, label}
use Rattle.lang_tree.specs.Meaning.{State, MayBe}
use Rattle.lang_tree.specs.Cases.{HoldAll, HoldSome, cases_of}
use Rattle.lang_tree.specs.PointNumbers.{splits}
use Rattle.lang_tree.specs.Runs.{Item, node, mark, turn, end, branch_work, head_work, turn_work, end_work, past_loop}
use Rattle.lang_tree.specs.Runs.{end_of_body, Does}
use Rattle.lang_tree.proofs.cases.CaseLaw.{cases_law}
use Rattle.flow_edges.specs.declared.edge.Action.TheVariants.{Assign, Havoc, Check}
use Rattle.flow_edges.specs.Steps.{Labelled, labelled, guards, choices, steps_of, Acts}
use Rattle.flow_edges.specs.PathLaws.{IsMark, StepsAreRecorded}
use Rattle.flow_edges.proofs.steps.ElementLemmas.{in-append, in-append_left, in-append_right, in-map, from_map}

-- a labelled step with the item that leaves this work and can be taken between the states
abbrev Recorded : (exit : ℕ) → Item → List Item → State → List Item → State → Type 0
Recorded exit item rest x work y = (s : Labelled) × In (steps_of exit item rest) s × (s.work ≡ work) × Acts s.actions x y

-- ---- guards
guards_act : (forms : List Form) (x : State) → HoldAll x forms → Acts (guards forms) x x
guards_act [] x h = refl
guards_act (f ∷ forms) x h = (h.0, guards_act forms x h.1)

acts_guard : (forms : List Form) (x y : State) → Acts (guards forms) x y → HoldAll x forms × (y ≡ x)
acts_guard [] x y h = (tt, h)
acts_guard (f ∷ forms) x y h = let r = acts_guard forms x y h.1 in ((h.0, r.0), r.1)

holding_case : (x : State) (cs : List (List Form)) → HoldSome x cs → (forms : List Form) × (In cs forms × HoldAll x forms)
holding_case x [] h = absurd h
holding_case x (c ∷ cs) h = ⊎_elim (λ k. (c, (inl refl, k))) (λ k. let r = holding_case x cs k in (r.0, (inr r.1.0, r.1.1))) h

some_holds : (x : State) (cs : List (List Form)) (forms : List Form) → In cs forms → HoldAll x forms → HoldSome x cs
some_holds x [] forms m h = absurd m
some_holds x (c ∷ cs) forms m h = ⊎_elim (λ e. inl (subst (HoldAll x) (sym e) h)) (λ k. inr (some_holds x cs forms k h)) m

-- ---- choices
chosen : (truth : Bool) (c : Condition) (work : List Item) (x : State) → MayBe truth c x
    → (s : Labelled) × In (choices truth c work) s × (s.work ≡ work) × Acts s.actions x x
chosen truth c work x h =
    let r = holding_case x (cases_of truth c) ((cases_law truth c x).0 h) in
    (labelled (guards r.0) work, in-map (λ forms. labelled (guards forms) work) (cases_of truth c) r.0 r.1.0, refl, guards_act r.0 x r.1.1)

-- a choice that can be taken
taken : (truth : Bool) (c : Condition) (work : List Item) (s : Labelled) (x y : State) → In (choices truth c work) s → Acts s.actions x y
    → MayBe truth c x × (work ≡ s.work) × (y ≡ x)
taken truth c work s x y m h =
    let r = from_map (λ forms. labelled (guards forms) work) (cases_of truth c) s m in
    let g = acts_guard r.0 x y (subst (λ (t : Labelled). Acts t.actions x y) (sym r.2) h) in
    ((cases_law truth c x).1 (some_holds x (cases_of truth c) r.0 r.1 g.0), ap (λ (t : Labelled). t.work) r.2, g.1)

-- ---- a choice of both truths, and the work that each leaves
chosen_of_two : (truth : Bool) (c : Condition) (left : Bool → List Item) (x : State) → MayBe truth c x →
    (s : Labelled) × In (choices true c (left true) ++ choices false c (left false)) s × (s.work ≡ left truth) × Acts s.actions x x
chosen_of_two true c left x h =
    let k = chosen true c (left true) x h in (
      k.0,
      in-append_left (choices true c (left true)) (choices false c (left false)) k.0 k.1,
      k.2,
      k.3,
    )
chosen_of_two false c left x h =
    let k = chosen false c (left false) x h in (
      k.0,
      in-append_right (choices true c (left true)) (choices false c (left false)) k.0 k.1,
      k.2,
      k.3,
    )

taken_of_two : (c : Condition) (left : Bool → List Item) (s : Labelled) (x y : State)
    → In (choices true c (left true) ++ choices false c (left false)) s →
    Acts s.actions x y → (truth : Bool) × MayBe truth c x × (s.work ≡ left truth) × (y ≡ x)
taken_of_two c left s x y m h =
    ⊎_elim (λ k. let t = taken true c (left true) s x y k h in (true, t.0, sym t.1, t.2))
    (λ k. let t = taken false c (left false) s x y k h in (false, t.0, sym t.1, t.2))
    (in-append (choices true c (left true)) (choices false c (left false)) s m)

-- such a choice is recorded, and what is recorded of it can be done
chosen_step : (exit : ℕ) (item : Item) (rest : List Item) (c : Condition) (left : Bool
    → List Item) (x : State) (work : List Item) (y : State) →
    steps_of exit item rest ≡ choices true c (left true) ++ choices false c (left false) →
    (truth : Bool) × MayBe truth c x × (work ≡ left truth) × (y ≡ x) → Recorded exit item rest x work y
chosen_step exit item rest c left x work y e d =
    let k = chosen_of_two d.0 c left x d.1 in
    (k.0, subst (λ t. In t k.0) (sym e) k.1, k.2 ∙ sym d.2, subst (λ z. Acts k.0.actions x z) (sym d.3) k.3)

taken_step : (exit : ℕ) (item : Item) (rest : List Item) (c : Condition) (left : Bool
    → List Item) (x : State) (work : List Item) (y : State) →
    steps_of exit item rest ≡ choices true c (left true) ++ choices false c (left false) → Recorded exit item rest x work y →
    (truth : Bool) × MayBe truth c x × (work ≡ left truth) × (y ≡ x)
taken_step exit item rest c left x work y e r =
    let t = taken_of_two c left r.0 x y (subst (λ u. In u r.0) e r.1) r.3 in (t.0, t.1, sym r.2 ∙ t.2, t.3)

-- ---- both ways
recorded : (exit : ℕ) (item : Item) (rest : List Item) (x : State) (work : List Item) (y : State) → ¬ (IsMark item)
    → Does exit item rest x work y
    → Recorded exit item rest x work y
recorded exit (mark p) rest x work y other d = absurd (other tt)
recorded exit (node (set var form line) n) rest x work y other d = (labelled (Assign var form ∷ []) rest, inl refl, sym d.0, d.1)
recorded exit (node (havoc var line) n) rest x work y other d = (labelled (Havoc var ∷ []) rest, inl refl, sym d.1, (d.0, d.2))
recorded exit (node (assume c line) n) rest x work y other d =
    let k = chosen true c (if splits c then mark n ∷ rest else rest) x d.0 in
    (k.0, k.1, k.2 ∙ sym d.1, subst (λ z. Acts k.0.actions x z) (sym d.2) k.3)
recorded exit (node (only_where c line) n) rest x work y other d =
    let k = chosen true c rest x d.0 in (k.0, k.1, k.2 ∙ sym d.1, subst (λ z. Acts k.0.actions x z) (sym d.2) k.3)
recorded exit (node (check about c line) n) rest x work y other d = (labelled (Check about ∷ []) rest, inl refl, sym d.0, d.1)
recorded exit (node (branch c first second line) n) rest x work y other d =
    chosen_step exit (node (branch c first second line) n) rest c (λ t. branch_work t first second n rest) x work y refl d
recorded exit (node (loop kind c body line) n) rest x work y other d = (
  labelled [] (mark n ∷ head_work kind c body line n rest),
  inl refl,
  sym d.0,
  d.1,
)
recorded exit (node (jump breaks line) n) rest x work y other d = (labelled [] (past_loop rest), inl refl, sym d.0, d.1)
recorded exit (node (jump continues line) n) rest x work y other d = (labelled [] (end_of_body rest), inl refl, sym d.0, d.1)
recorded exit (node (jump returns line) n) rest x work y other d = (labelled [] (mark exit ∷ []), inl refl, sym d.0, d.1)
recorded exit (node (label name line) n) rest x work y other d = (labelled [] (mark n ∷ rest), inl refl, sym d.0, d.1)
recorded exit (turn kind c body line n) rest x work y other d =
    chosen_step exit (turn kind c body line n) rest c (λ t. turn_work t kind c body line n rest) x work y refl d
recorded exit (end kind c body line n) rest x work y other d = (labelled [] (end_work kind c body line n rest), inl refl, sym d.0, d.1)

-- the only labelled step
only : (l s : Labelled) (x y : State) → In (l ∷ []) s → Acts s.actions x y → (s.work ≡ l.work) × Acts l.actions x y
only l s x y m h = ⊎_elim (λ e. (ap (λ (t : Labelled). t.work) (sym e), subst (λ (t : Labelled). Acts t.actions x y) (sym e) h))
    (λ k. absurd k) m

-- what it leaves and does
alone : (exit : ℕ) (item : Item) (rest : List Item) (l : Labelled) (x : State) (work : List Item) (y : State) → steps_of exit item rest
    ≡ l ∷ []
    → Recorded exit item rest x work y →
    (work ≡ l.work) × Acts l.actions x y
alone exit item rest l x work y e r = let o = only l r.0 x y (subst (λ t. In t r.0) e r.1) r.3 in (sym r.2 ∙ o.0, o.1)

stepped : (exit : ℕ) (item : Item) (rest : List Item) (x : State) (work : List Item) (y : State) → ¬ (IsMark item)
    → Recorded exit item rest x work y
    → Does exit item rest x work y
stepped exit (mark p) rest x work y other r = absurd (other tt)
stepped exit (node (set var form line) n) rest x work y other r = alone exit (node (set var form line) n) rest
    (labelled (Assign var form ∷ []) rest)
    x work y refl r
stepped exit (node (havoc var line) n) rest x work y other r =
    let o = alone exit (node (havoc var line) n) rest (labelled (Havoc var ∷ []) rest) x work y refl r in (o.1.0, o.0, o.1.1)
stepped exit (node (assume c line) n) rest x work y other r =
    let t = taken true c (if splits c then mark n ∷ rest else rest) r.0 x y r.1 r.3 in (t.0, sym r.2 ∙ sym t.1, t.2)
stepped exit (node (only_where c line) n) rest x work y other r =
    let t = taken true c rest r.0 x y r.1 r.3 in (t.0, sym r.2 ∙ sym t.1, t.2)
stepped exit (node (check about c line) n) rest x work y other r =
    alone exit (node (check about c line) n) rest (labelled (Check about ∷ []) rest) x work y refl r
stepped exit (node (branch c first second line) n) rest x work y other r =
    taken_step exit (node (branch c first second line) n) rest c (λ t. branch_work t first second n rest) x work y refl r
stepped exit (node (loop kind c body line) n) rest x work y other r =
    alone exit (node (loop kind c body line) n) rest (labelled [] (mark n ∷ head_work kind c body line n rest)) x work y refl r
stepped exit (node (jump breaks line) n) rest x work y other r = alone exit (node (jump breaks line) n) rest (labelled [] (past_loop rest))
    x work y
    refl r
stepped exit (node (jump continues line) n) rest x work y other r = alone exit (node (jump continues line) n) rest
    (labelled [] (end_of_body rest)) x
    work y refl r
stepped exit (node (jump returns line) n) rest x work y other r =
    alone exit (node (jump returns line) n) rest (labelled [] (mark exit ∷ [])) x work y refl r
stepped exit (node (label name line) n) rest x work y other r = alone exit (node (label name line) n) rest (labelled [] (mark n ∷ rest)) x
    work y refl
    r
stepped exit (turn kind c body line n) rest x work y other r =
    taken_step exit (turn kind c body line n) rest c (λ t. turn_work t kind c body line n rest) x work y refl r
stepped exit (end kind c body line n) rest x work y other r =
    alone exit (end kind c body line n) rest (labelled [] (end_work kind c body line n rest)) x work y refl r

-- a step of a run does what one of its labelled steps records, and each labelled step that can be taken is a step
pub steps_law : StepsAreRecorded
steps_law exit item rest x work y other = ((λ d. recorded exit item rest x work y other d), (λ r. stepped exit item rest x work y other r))
