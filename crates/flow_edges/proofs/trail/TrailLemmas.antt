-- Edges that are begun, and more actions after them.
use Rattle.std.proofs.Common.{◌≡◌, ◌∙◌, ⊎_elim, ℕ, zero, suc, ◌+◌, ◌≤◌, ◌<◌, Bool, true, false, List, [], ◌∷◌, ◌++◌, length, get_or, take}
use Rattle.std.proofs.Common.{drop}
use Rattle.std.proofs.Common.{refl, sym, ap, ap₂, arith}
use Rattle.std.proofs.Common.{append_assoc, length-append}
use Rattle.std.specs.Prelude.{flat_map}
use Rattle.std.proofs.lemmas.Grind.{flat_map-append}
use Rattle.std.proofs.lemmas.List.Folds.{flat_map-map}
use Rattle.std.proofs.lemmas.List.{map-append, append-nil, take_more, take_all, take-append-le, take-take, length-take}
use Rattle.lang_tree.specs.declared.form.Form.{Form}
use Rattle.lang_tree.specs.Tree.{Condition, Deed, sets, havocs, wheres, checks}
use Rattle.lang_tree.specs.Cases.{cases_of}
use Rattle.flow_edges.specs.declared.edge.Action.{Action}
use Rattle.flow_edges.specs.declared.edge.Action.TheVariants.{Guard, Assign, Havoc, Check}
use Rattle.flow_edges.specs.declared.edge.Edge.{Edge}
use Rattle.flow_edges.specs.declared.limits.TheConstants.{KEPT}
use Rattle.flow_edges.specs.Steps.{guards}
use Rattle.flow_edges.specs.Edges.{Way, prefixed, by_case, deed_ways, deeds_ways}
use Rattle.flow_edges.specs.Trails.{Begun, begun_at, kept, followed, reached, split, by_cases, begun_by, begun_along}
use Rattle.flow_edges.proofs.count.Counting.{either_way}
use Rattle.flow_edges.proofs.edge_walk.Loops.{loop_end}

-- of actions that are few enough all are kept
pub kept_all : (xs : List Action) → length xs ≤ KEPT → kept xs ≡ xs
kept_all xs h = take_all KEPT xs h

-- what is cut off already changes nothing
kept-append : (xs ys : List Action) → kept (kept xs ++ ys) ≡ kept (xs ++ ys)
kept-append xs ys =
    ⊎_elim
    (λ (h : KEPT ≤ length xs).
    let l : length (kept xs) ≡ KEPT = omega (arith, length-take KEPT xs) in
    let m : KEPT ≤ length (kept xs) = omega arith in
    let n : length (kept xs) ≤ KEPT = omega arith in
    take-append-le KEPT (kept xs) ys m ∙ take_all KEPT (kept xs) n ∙ sym (take-append-le KEPT xs ys h))
    (λ (h : length xs < KEPT). ap (λ z. kept (z ++ ys)) (kept_all xs (omega arith)))
    (either_way KEPT (length xs))

take-append-take : (k m : ℕ) (xs ys : List Action) → k ≤ m → take k (xs ++ take m ys) ≡ take k (xs ++ ys)
take-append-take k m [] ys h = take-take k m ys h
take-append-take zero m (x ∷ xs) ys h = refl
take-append-take (suc k) m (x ∷ xs) ys h = ap (λ r. x ∷ r) (take-append-take k m xs ys (omega arith))

-- also what is cut off of later actions
pub append-kept : (xs ys : List Action) → kept (xs ++ kept ys) ≡ kept (xs ++ ys)
append-kept xs ys = take-append-take KEPT KEPT xs ys (omega arith)

-- what is kept of kept actions is what was kept
pub kept_twice : (xs : List Action) → kept (kept xs) ≡ kept xs
kept_twice xs = take-take KEPT KEPT xs (omega arith)

abbrev begun : ℕ → List Action → Begun
begun p actions = record { from = p; actions = actions }

-- following an edge by no action leaves it as it is
pub followed_by_nothing : (b : Begun) → length b.actions ≤ KEPT → followed b [] ≡ b
followed_by_nothing b h = ap (begun b.from) (ap kept (append-nil b.actions) ∙ kept_all b.actions h)

followed_on : (b : Begun) (xs ys : List Action) → followed (followed b xs) ys ≡ followed b (xs ++ ys)
followed_on b xs ys = ap (begun b.from) (kept-append (b.actions ++ xs) ys ∙ ap kept (append_assoc b.actions xs ys))

-- one more action, where there is room for it
pub followed_by_one : (b : Begun) (a : Action) (items : List Action) → items ≡ b.actions ++ a ∷ [] → length b.actions < KEPT
    → begun b.from items ≡ followed b (a ∷ [])
followed_by_one b a items e h =
    let one : List Action = a ∷ [] in
    ap (begun b.from) (e ∙ sym (kept_all (b.actions ++ one) (omega (arith, length-append b.actions one))))

-- and where there is none
pub followed_past : (b : Begun) (xs : List Action) → KEPT ≤ length b.actions → length b.actions ≤ KEPT → b ≡ followed b xs
followed_past b xs h k = sym (ap (begun b.from) (take-append-le KEPT b.actions xs h ∙ kept_all b.actions k))

abbrev arrow : Begun → Way → Edge
arrow b w = record { from = b.from; to = w.to; actions = kept (b.actions ++ w.actions) }

-- ---- the edges that go on from there
pub reached-append : (b : Begun) (us vs : List Way) → reached b (us ++ vs) ≡ reached b us ++ reached b vs
reached-append b us vs = map-append (arrow b) us vs

-- edges that go on by ways with actions before them are edges followed by the actions that go on by the ways
pub reached-prefixed : (b : Begun) (actions : List Action) (ways : List Way)
    → reached b (prefixed actions ways) ≡ reached (followed b actions) ways
reached-prefixed b actions [] = refl
reached-prefixed b actions (w ∷ ways) =
    ap₂ (λ a r. let e : Edge = record { from = b.from; to = w.to; actions = a } in e ∷ r)
    (ap kept (sym (append_assoc b.actions actions w.actions)) ∙ sym (kept-append (b.actions ++ actions) w.actions))
    (reached-prefixed b actions ways)

reached-cases : (b : Begun) (cases : List (List Form)) (ways : List Way)
    → reached b (flat_map (λ forms. prefixed (guards forms) ways) cases) ≡ split b cases ways
reached-cases b [] ways = refl
reached-cases b (forms ∷ cases) ways =
    reached-append b (prefixed (guards forms) ways) (flat_map (λ f. prefixed (guards f) ways) cases)
    ∙ ap₂ (λ u v. u ++ v) (reached-prefixed b (guards forms) ways) (reached-cases b cases ways)

-- edges that go on by the ways of a condition's cases are the edges that go on by each case
pub reached-by_case : (b : Begun) (truth : Bool) (c : Condition) (ways : List Way)
    → reached b (by_case truth c ways) ≡ split b (cases_of truth c) ways
reached-by_case b truth c ways = reached-cases b (cases_of truth c) ways

reached-both : (b : Begun) (c : Condition) (us vs : List Way) →
    reached b (by_case true c us ++ by_case false c vs) ≡ split b (cases_of true c) us ++ split b (cases_of false c) vs
reached-both b c us vs =
    reached-append b (by_case true c us) (by_case false c vs) ∙ ap₂ (λ u v. u ++ v) (reached-by_case b true c us)
    (reached-by_case b false c vs)

-- the edges of a choice: those by the cases for true, and then those by the cases for false
pub chosen : (before middle after : List Edge) (b t : Begun) (c : Condition) (held failed : List (List Form)) (us vs xs ys : List Way)
    → t ≡ b →
    held ≡ cases_of true c → failed ≡ cases_of false c → xs ≡ us → ys ≡ vs → middle ≡ before ++ split t held xs
    → after ≡ middle ++ split t failed ys →
    after ≡ before ++ reached b (by_case true c us ++ by_case false c vs)
chosen before middle after b t c held failed us vs xs ys p f g u v h i =
    let one : split t held xs ≡ split b (cases_of true c) us = rw (p, f, u) refl in
    let other : split t failed ys ≡ split b (cases_of false c) vs = rw (p, g, v) refl in
    i ∙ ap₂ (λ z w. z ++ w) (h ∙ ap (λ z. before ++ z) one) other ∙ append_assoc before (split b (cases_of true c) us)
    (split b (cases_of false c) vs)
    ∙ ap (λ z. before ++ z) (sym (reached-both b c us vs))

-- ---- the edges that go on along deeds
module _ {A B C : Type 0} where
  flat_map-join : (f : B → List C) (g : A → List B) (xs : List A) → flat_map f (flat_map g xs) ≡ flat_map (λ x. flat_map f (g x)) xs
  flat_map-join f g [] = refl
  flat_map-join f g (x ∷ xs) = flat_map-append f (g x) (flat_map g xs) ∙ ap (λ z. flat_map f (g x) ++ z) (flat_map-join f g xs)

module _ {A C : Type 0} where
  flat_map_same : (f g : A → List C) → ((x : A) → f x ≡ g x) → (xs : List A) → flat_map f xs ≡ flat_map g xs
  flat_map_same f g e [] = refl
  flat_map_same f g e (x ∷ xs) = ap₂ (λ u v. u ++ v) (e x) (flat_map_same f g e xs)

split_cases : (b : Begun) (cases : List (List Form)) (ways : List Way) → flat_map (λ t. reached t ways) (by_cases cases b)
    ≡ split b cases ways
split_cases b cases ways = flat_map-map (λ t. reached t ways) (λ forms. followed b (guards forms)) cases

reached_by : (b : Begun) (a : Action) (ways : List Way)
    → flat_map (λ t. reached t ways) (followed b (a ∷ []) ∷ []) ≡ reached b (prefixed (a ∷ []) ways)
reached_by b a ways = append-nil (reached (followed b (a ∷ [])) ways) ∙ sym (reached-prefixed b (a ∷ []) ways)

reached_deed : (d : Deed) (ways : List Way) (b : Begun) → flat_map (λ t. reached t ways) (begun_by d b) ≡ reached b (deed_ways d ways)
reached_deed (sets var form line) ways b = reached_by b (Assign var form) ways
reached_deed (havocs var line) ways b = reached_by b (Havoc var) ways
reached_deed (wheres c line) ways b = split_cases b (cases_of true c) ways ∙ sym (reached-by_case b true c ways)
reached_deed (checks about c line) ways b = reached_by b (Check about) ways

reached_along : (ds : List Deed) (ways : List Way) (bs : List Begun)
    → flat_map (λ b. reached b ways) (begun_along ds bs) ≡ flat_map (λ b. reached b (deeds_ways ds ways)) bs
reached_along [] ways bs = refl
reached_along (d ∷ ds) ways bs =
    let later = deeds_ways ds ways in
    reached_along ds ways (flat_map (begun_by d) bs)
    ∙ flat_map-join {A = Begun} {B = Begun} {C = Edge} (λ b. reached b later) (begun_by d) bs
    ∙ flat_map_same {A = Begun} {C = Edge} (λ b. flat_map (λ t. reached t later) (begun_by d b)) (λ b. reached b (deed_ways d later))
    (reached_deed d later) bs

-- the edges that are begun along deeds and go on by ways go on by the ways along the deeds
pub reached_from : (p : ℕ) (ds : List Deed) (ways : List Way) (trails : List Begun) → trails ≡ begun_along ds (begun_at p ∷ [])
    → flat_map (λ b. reached b ways) trails ≡ reached (begun_at p) (deeds_ways ds ways)
reached_from p ds ways trails e =
    ap (flat_map (λ b. reached b ways)) e ∙ reached_along ds ways (begun_at p ∷ []) ∙ append-nil (reached (begun_at p) (deeds_ways ds ways))

-- where a loop over the edges that are begun along deeds has gone on from each, the ways along the deeds have been walked
pub walked_along : (p : ℕ) (ds : List Deed) (ways : List Way) (before after : List Edge) (trails items : List Begun) (i : ℕ)
    → length items ≤ i → trails ≡ begun_along ds (begun_at p ∷ []) →
    after ++ flat_map (λ b. reached b ways) (drop i items) ≡ before ++ flat_map (λ b. reached b ways) trails
    → after ≡ before ++ reached (begun_at p) (deeds_ways ds ways)
walked_along p ds ways before after trails items i l e h =
    loop_end (flat_map (λ b. reached b ways)) (λ b. reached b ways) (λ x xs. refl) after
    (before ++ flat_map (λ b. reached b ways) trails) items i l refl h
    ∙ ap (λ z. before ++ z) (reached_from p ds ways trails e)

-- one guard more
guards_more : (forms : List Form) (i : ℕ) (x : Form) → i < length forms → x ≡ get_or forms i x
    → guards (take i forms) ++ Guard x ∷ [] ≡ guards (take (i + 1) forms)
guards_more forms i x l e =
    let one : List Form = x ∷ [] in
    sym (ap guards (take_more forms i x l ∙ ap (λ y. take i forms ++ y ∷ []) (sym e)) ∙ map-append Guard (take i forms) one)

-- after the guards of i forms, the next form's guard makes those of i + 1 forms
pub followed_more : (b before after : Begun) (forms : List Form) (i : ℕ) (x y : Form) → i < length forms → x ≡ get_or forms i x → y ≡ x →
    after ≡ followed before (Guard y ∷ []) → before ≡ followed b (guards (take i forms)) → after ≡ followed b (guards (take (i + 1) forms))
followed_more b before after forms i x y l e f g h =
    let one : List Action = Guard y ∷ [] in
    let same : List Action → Begun = λ a. followed b a in
    g ∙ ap (λ t. followed t one) h ∙ followed_on b (guards (take i forms)) one
    ∙ ap (λ z. same (guards (take i forms) ++ Guard z ∷ [])) f ∙ ap same (guards_more forms i x l e)

-- one action more
pub followed_further : (b before after : Begun) (actions : List Action) (i : ℕ) (x y : Action) → i < length actions → x ≡ get_or actions i x
    → y ≡ x →
    after ≡ followed before (y ∷ []) → before ≡ followed b (take i actions) → after ≡ followed b (take (i + 1) actions)
followed_further b before after actions i x y l e f g h =
    let one : List Action = y ∷ [] in
    g ∙ ap (λ t. followed t one) h ∙ followed_on b (take i actions) one
    ∙ ap (λ z. followed b (take i actions ++ z ∷ [])) (f ∙ e) ∙ ap (followed b) (sym (take_more actions i x l))
