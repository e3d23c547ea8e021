-- What has been read by the loops of the reading.
use Rattle.std.proofs.Common.{◌≡◌, ◌∙◌, ℕ, suc, ◌<◌, ◌≤◌, Bool, true, false, cond, List, [], ◌∷◌, ◌++◌, length, map, refl, sym, ap, subst}
use Rattle.std.proofs.Common.{arith}
use Rattle.std.specs.Prelude.{◌&&◌, IsTrue, Option, Some, None, nat_lt, nat_le}
use Rattle.std.specs.List.{list_all}
use Rattle.std.proofs.lemmas.Bool.{and_from, and_parts, lt-ltb, le-leb}
use Rattle.std.proofs.lemmas.List.{length-map}
use Rattle.lang_tree.specs.declared.form.Form.{Form}
use Rattle.lang_tree.specs.Limits.{is_form}
use Rattle.lang_meaning.specs.Walk.{assignment}
use Rattle.lang_meaning.proofs.limits.Values.{whole_fits}
use Rattle.lang_tokens.specs.declared.token.Token.{Token}
use Rattle.flow_transitions.specs.declared.limits.TheConstants.{MOST_VARIABLES}
use Rattle.lang_tree.specs.declared.stmt.Stmt.{Stmt}
use Rattle.lang_tree.specs.Tree.{Statement, Statements, nil, cons}
use Rattle.lang_tree.specs.View.{statement_of, statements_of}
use Rattle.flow_transitions.specs.declared.limits.TheConstants.{MOST_POINTS}
use Rattle.flow_transitions.specs.declared.auto_edge.AutoEdge.{AutoEdge}
use Rattle.flow_transitions.specs.declared.reading.point_name.PointName.{PointName}
use Rattle.flow_transitions.specs.AutoLimits.{is_act, are_acts, is_auto_edge, is_label, are_labels, is_auto}
use Rattle.flow_transitions.specs.AutoReading.{progress, start, at_variable, at_points, at_point, at_edge, at_act, edge_to, then_act}
use Rattle.flow_transitions.specs.AutoReading.{with_act, is_side, label_of, points_of}
use Rattle.flow_transitions.proofs.progress.Steps.{Goes}

-- ---- variables
pub record ReadVariables (text : List ℕ) (tokens : List Token) (names : List (List ℕ)) (at : ℕ) (more : Bool) : Type 0 where
  -- the reading has come from its start to these variables
  pub goes : Goes text tokens start 0 (progress names [] [] (cond more at_variable at_points)) at
  -- it stands at a token
  pub within : at < length tokens
  -- there are not too many
  pub few : length names ≤ MOST_VARIABLES
  -- where no more follow there is one
  pub some : more ≡ false → 1 ≤ length names

-- ---- points
pub record ReadPoints (text : List ℕ) (tokens : List Token) (begin : ℕ) (points : List PointName) (at : ℕ) (more : Bool) : Type 0 where
  -- the reading has come from the word `points` to these points
  pub goes : (variables : List (List ℕ)) → Goes text tokens (progress variables [] [] at_points) begin
      (progress variables points [] (cond more at_point at_edge)) at
  -- it stands at a token
  pub within : at < length tokens
  -- there are no more points than tokens before it
  pub paced : length points ≤ at
  -- where no more follow, there are as many as there may be
  pub counted : more ≡ false → (2 ≤ length points) × (length points ≤ MOST_POINTS)

-- ---- acts
abbrev pub acted : ℕ → ℕ → ℕ → ℕ → Statements → AutoEdge
acted line from place to acts = record (edge_to line from place to) { acts = acts }

pub record ReadActs (text : List ℕ) (tokens : List Token) (names : List (List ℕ)) (begin : ℕ) (acts : List Stmt) (at : ℕ) : Type 0 where
  -- the reading has come from the edge's first act to behind these
  pub goes : (points : List PointName) (edges : List AutoEdge) (line from place to : ℕ) →
      Goes text tokens (progress names points edges (at_act (edge_to line from place to))) begin
      (progress names points edges (at_act (acted line from place to (statements_of acts)))) at
  -- it stands at a token
  pub within : at < length tokens
  -- not before the first one
  pub later : begin ≤ at
  -- the acts are within the limits
  pub fit : IsTrue (are_acts (length names) (statements_of acts))

-- the statements of a list with one behind it are those of the list with that one behind
pub statements_push : (ss : List Stmt) (s : Stmt) → statements_of (ss ++ s ∷ []) ≡ then_act (statements_of ss) (statement_of s)
statements_push [] s = refl
statements_push (x ∷ ss) s = ap (cons (statement_of x)) (statements_push ss s)

acts_push : (n : ℕ) (acts : Statements) (s : Statement) → IsTrue (are_acts n acts) → IsTrue (is_act n s)
    → IsTrue (are_acts n (then_act acts s))
acts_push n nil s h k = and_from (is_act n s) true k refl
acts_push n (cons t rest) s h k =
    let p = and_parts (is_act n t) (are_acts n rest) h in and_from (is_act n t) (are_acts n (then_act rest s)) p.0
    (acts_push n rest s p.1 k)

-- an act that is read, and put behind the others, is one more of them
pub acts_more : (text : List ℕ) (tokens : List Token) (names : List (List ℕ)) (begin : ℕ) (acts after : List Stmt) (s : Stmt) (at next : ℕ)
    →
    ReadActs text tokens names begin acts at → after ≡ acts ++ s ∷ [] →
    ((points : List PointName) (edges : List AutoEdge) (e : AutoEdge) →
    Goes text tokens (progress names points edges (at_act e)) at (progress names points edges (at_act (with_act e (statement_of s))))
    next) →
    at < next → next < length tokens → IsTrue (is_act (length names) (statement_of s)) → ReadActs text tokens names begin after next
acts_more text tokens names begin acts after s at next r e g l k f =
    let pushed : statements_of after ≡ then_act (statements_of acts) (statement_of s) = ap statements_of e ∙ statements_push acts s in
    record {
      goes = λ points edges line from place to.
          subst (λ a. Goes text tokens (progress names points edges (at_act (edge_to line from place to))) begin
          (progress names points edges (at_act (acted line from place to a))) next) (sym pushed)
          (λ answer h. r.goes points edges line from place to answer (g points edges (acted line from place to (statements_of acts)) answer
          h));
      within = k;
      later = let m = r.later in omega arith;
      fit = subst (λ a. IsTrue (are_acts (length names) a)) (sym pushed)
          (acts_push (length names) (statements_of acts) (statement_of s) r.fit f);
    }

-- ---- edges
pub record ReadEdges (text : List ℕ) (tokens : List Token) (names : List (List ℕ)) (points : List PointName) (begin : ℕ)
    (edges : List AutoEdge) (at : ℕ) : Type 0 where
  -- the reading has come from the first edge to behind these
  pub goes : Goes text tokens (progress names points [] at_edge) begin (progress names points edges at_edge) at
  -- it stands at a token
  pub within : at < length tokens
  -- the edges are within the limits
  pub fit : IsTrue (list_all (is_auto_edge (length names) (length points)) edges)

all_push : {A : Type 0} (p : A → Bool) (xs : List A) (x : A) → IsTrue (list_all p xs) → IsTrue (p x) → IsTrue (list_all p (xs ++ x ∷ []))
all_push p [] x h k = and_from (p x) true k refl
all_push p (y ∷ xs) x h k = let q = and_parts (p y) (list_all p xs) h in
    and_from (p y) (list_all p (xs ++ x ∷ [])) q.0 (all_push p xs x q.1 k)

-- an edge that is read, and put behind the others, is one more of them
pub edges_more : (text : List ℕ) (tokens : List Token) (names : List (List ℕ)) (points : List PointName) (begin : ℕ)
    (edges after : List AutoEdge) (e : AutoEdge) (at next : ℕ) →
    ReadEdges text tokens names points begin edges at → after ≡ edges ++ e ∷ []
    → Goes text tokens (progress names points edges at_edge) at (progress names points (edges ++ e ∷ []) at_edge) next →
    next < length tokens → IsTrue (is_auto_edge (length names) (length points) e) → ReadEdges text tokens names points begin after next
edges_more text tokens names points begin edges after e at next r f g k h =
    record {
      goes = subst (λ es. Goes text tokens (progress names points [] at_edge) begin (progress names points es at_edge) next) (sym f)
          (λ answer a. r.goes answer (g answer a));
      within = k;
      fit = subst (λ es. IsTrue (list_all (is_auto_edge (length names) (length points)) es)) (sym f)
          (all_push (is_auto_edge (length names) (length points)) edges e r.fit h);
    }

-- ---- an assignment is an act
pub assignment_act : (n var line : ℕ) (side : Option Form) → var < n → IsTrue (is_side n side)
    → IsTrue (is_act n (assignment var side line))
assignment_act n var line (Some f) l h = and_from (nat_lt var n) (is_form n f) (lt-ltb var n l) (whole_fits n f h)
assignment_act n var line None l h = lt-ltb var n l

-- ---- the whole is within the limits
pub length-points_of : (points : List PointName) → length (points_of points) ≡ length points
length-points_of [] = refl
length-points_of (p ∷ ps) = ap suc (length-map ps label_of)

all_labels : (points : List PointName) → IsTrue (list_all (λ q. is_label q.place) (map label_of points))
all_labels [] = refl
all_labels (p ∷ ps) = all_labels ps

labels : (points : List PointName) → 2 ≤ length points → IsTrue (are_labels (points_of points))
labels [] h = absurd (omega arith)
labels (p ∷ ps) h = all_labels ps

-- as many variables and points as there may be, and edges within the limits, make a transition system within them
pub auto_within : (names : List (List ℕ)) (points : List PointName) (edges : List AutoEdge) → 1 ≤ length names
    → length names ≤ MOST_VARIABLES → 2 ≤ length points → length points ≤ MOST_POINTS →
    IsTrue (list_all (is_auto_edge (length names) (length points)) edges) → IsTrue (is_auto names (points_of points) edges)
auto_within names points edges a b c d h =
    let n = length names in
    let m = length (points_of points) in
    let size : m ≡ length points = length-points_of points in
    let two : 2 ≤ m = omega arith in
    let few : m ≤ MOST_POINTS = omega arith in
    and_from (nat_le 1 n && nat_le n MOST_VARIABLES) _ (and_from (nat_le 1 n) (nat_le n MOST_VARIABLES) (le-leb 1 n a)
    (le-leb n MOST_VARIABLES b))
    (and_from (nat_le 2 m && nat_le m MOST_POINTS) _ (and_from (nat_le 2 m) (nat_le m MOST_POINTS) (le-leb 2 m two)
    (le-leb m MOST_POINTS few))
    (and_from (are_labels (points_of points)) (list_all (is_auto_edge n m) edges) (labels points c)
    (subst (λ k. IsTrue (list_all (is_auto_edge n k) edges)) (sym size) h)))
