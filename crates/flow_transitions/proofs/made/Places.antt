-- One element more of the lists that are walked.
use Rattle.std.proofs.Common.{◌≡◌, ◌∙◌, ℕ, zero, suc, ◌+◌, ◌<◌, Bool, List, [], ◌∷◌, ◌++◌, length, map, get_or, drop, take, sym, ap, subst}
use Rattle.std.proofs.Common.{arith, append_assoc}
use Rattle.std.specs.Prelude.{IsTrue, flat_map}
use Rattle.std.specs.List.{range_with_len, list_all}
use Rattle.std.proofs.lemmas.Bool.{and_parts}
use Rattle.std.proofs.lemmas.List.{at_drop_more, map-append, take_more, append-nil}
use Rattle.std.proofs.lemmas.List.Concat.{flat_map-append}
use Rattle.base_facts.proofs.Ranges.{range_append}
use Rattle.lang_tree.specs.declared.form.Form.{Form}
use Rattle.lang_tree.specs.declared.stmt.Stmt.{Stmt}
use Rattle.lang_tree.specs.Tree.{cons}
use Rattle.lang_tree.specs.View.{statement_of, statements_of}
use Rattle.flow_edges.specs.Constants.{has_rooms, have_rooms}
use Rattle.flow_edges.specs.declared.edge.Action.{Action}
use Rattle.flow_edges.specs.declared.edge.Action.TheVariants.{Guard}
use Rattle.flow_edges.specs.Steps.{guards}
use Rattle.flow_edges.specs.Trails.{kept, kept_edge}
use Rattle.flow_edges.specs.declared.edge.Edge.{Edge}
use Rattle.flow_transitions.specs.declared.auto_edge.AutoEdge.{AutoEdge}
use Rattle.flow_transitions.specs.Choices.{edge_by, edges_at, edges_of}
use Rattle.flow_transitions.specs.Counted.{have_room_along}
use Rattle.flow_transitions.proofs.choosing.Chosen.{kept-append}

-- a test of each element at one of them
pub list_all_place : {A : Type 0} (p : A → Bool) (xs : List A) (i : ℕ) (x : A) → i < length xs → x ≡ get_or xs i x → IsTrue (list_all p xs)
    → IsTrue (p x)
list_all_place p [] i x l e h = absurd (omega arith)
list_all_place p (y ∷ xs) zero x l e h = subst (λ z. IsTrue (p z)) (sym e) (and_parts (p y) (list_all p xs) h).0
list_all_place p (y ∷ xs) (suc i) x l e h = list_all_place p xs i x (omega arith) e (and_parts (p y) (list_all p xs) h).1

-- the statements from a place on
pub statements-drop : (ss : List Stmt) (i : ℕ) (x : Stmt) → i < length ss → x ≡ get_or ss i x →
    statements_of (drop i ss) ≡ cons (statement_of x) (statements_of (drop (i + 1) ss))
statements-drop ss i x l e =
    at_drop_more statements_of ss i x l ∙ ap (λ y. cons (statement_of y) (statements_of (drop (i + 1) ss))) (sym e)

-- room in one of the statements
pub room_at : (ss : List Stmt) (i : ℕ) (x : Stmt) → i < length ss → x ≡ get_or ss i x → IsTrue (have_rooms (statements_of ss))
    → IsTrue (has_rooms (statement_of x))
room_at [] i x l e h = absurd (omega arith)
room_at (s ∷ ss) zero x l e h = subst (λ y. IsTrue (has_rooms (statement_of y))) (sym e)
    (and_parts (has_rooms (statement_of s)) (have_rooms (statements_of ss)) h).0
room_at (s ∷ ss) (suc i) x l e h = room_at ss i x (omega arith) e (and_parts (has_rooms (statement_of s)) (have_rooms (statements_of ss))
    h).1

-- room on one of the edges
pub room_along_at : (es : List AutoEdge) (i : ℕ) (x : AutoEdge) → i < length es → x ≡ get_or es i x → IsTrue (have_room_along es)
    → IsTrue (have_rooms x.acts)
room_along_at es i x l e h = list_all_place (λ y. have_rooms y.acts) es i x l e h

-- one guard more
pub guard_more : (first before after : List Action) (forms : List Form) (i : ℕ) (x y : Form) → i < length forms → x ≡ get_or forms i x
    → y ≡ x →
    after ≡ kept (before ++ Guard y ∷ []) → before ≡ kept (first ++ guards (take i forms))
    → after ≡ kept (first ++ guards (take (i + 1) forms))
guard_more first before after forms i x y l e f g h =
    let one : List Action = Guard x ∷ [] in
    let all : guards (take i forms) ++ one ≡ guards (take (i + 1) forms) =
    sym (ap guards (take_more forms i x l ∙ ap (λ z. take i forms ++ z ∷ []) (sym e)) ∙ map-append Guard (take i forms) (x ∷ [])) in
    g ∙ ap (λ z. kept (before ++ Guard z ∷ [])) f ∙ ap (λ z. kept (z ++ one)) h ∙ kept-append (first ++ guards (take i forms)) one
    ∙ ap kept (append_assoc first (guards (take i forms)) one ∙ ap (λ z. first ++ z) all)

-- the edges of one choice more
pub choice_more : (first before after : List Edge) (e : AutoEdge) (all : List (List Action)) (i : ℕ) (x : Edge) → i < length all →
    x ≡ record { from = e.from; to = e.to; actions = kept (get_or all i []) } → after ≡ before ++ x ∷ [] →
    before ≡ first ++ map kept_edge (map (edge_by e) (take i all)) → after ≡ first ++ map kept_edge (map (edge_by e) (take (i + 1) all))
choice_more first before after e all i x l f g h =
    let made : List (List Action) → List Edge = λ actions. map kept_edge (map (edge_by e) actions) in
    let one : made (take (i + 1) all) ≡ made (take i all) ++ x ∷ [] =
    ap made (take_more all i [] l) ∙ ap (map kept_edge) (map-append (edge_by e) (take i all) (get_or all i [] ∷ []))
    ∙ map-append kept_edge (map (edge_by e) (take i all)) (edge_by e (get_or all i []) ∷ [])
    ∙ ap (λ z. made (take i all) ++ z ∷ []) (sym f) in
    g ∙ ap (λ z. z ++ x ∷ []) h ∙ append_assoc first (made (take i all)) (x ∷ []) ∙ ap (λ z. first ++ z) (sym one)

-- the edges of one point more
pub edges_of-more : (edges : List AutoEdge) (p : ℕ) → edges_of (p + 1) edges ≡ edges_of p edges ++ edges_at edges p
edges_of-more edges p =
    let next : 0 + p ≡ p = omega arith in
    ap (flat_map (edges_at edges)) (range_append 0 p 1)
    ∙ flat_map-append (edges_at edges) (range_with_len 0 p) (range_with_len (0 + p) 1)
    ∙ ap (λ z. edges_of p edges ++ z) (append-nil (edges_at edges (0 + p)) ∙ ap (edges_at edges) next)

-- the edges of the points up to one, and those at this point, are the edges of the points up to the next
pub point_more : (before after : List Edge) (edges : List AutoEdge) (p : ℕ) → after ≡ before ++ map kept_edge (edges_at edges p)
    → before ≡ map kept_edge (edges_of p edges) →
    after ≡ map kept_edge (edges_of (p + 1) edges)
point_more before after edges p f h =
    f ∙ ap (λ z. z ++ map kept_edge (edges_at edges p)) h ∙ sym (ap (map kept_edge) (edges_of-more edges p)
    ∙ map-append kept_edge (edges_of p edges) (edges_at edges p))
