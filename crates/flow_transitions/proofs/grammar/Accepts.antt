-- Which tokens may stand behind a beginning.
use Rattle.std.proofs.Common.{◌≡◌, ◌∙◌, ◌++◌, ◌⊎◌, inl, inr, ℕ, List, [], ◌∷◌, false, refl, sym, ap, ap₂, subst}
use Rattle.std.proofs.Common.{append_assoc}
use Rattle.std.proofs.lemmas.List.{append-nil}
use Rattle.std.specs.Prelude.{codes}
use Rattle.lang_grammar.specs.Expressions.{ReadsExpr, BeginsExpr}
use Rattle.lang_grammar.specs.Reaches.{is_infix}
use Rattle.lang_grammar.specs.Grammar.{Kind, a_name, comma, semicolon, left_brace, right_brace, left_paren, right_paren, change_sign}
use Rattle.lang_grammar.specs.Grammar.{replaces}
use Rattle.lang_grammar.specs.Grammar.{the_end, Token, token, Expr, number, spell_expr, Groups}
use Rattle.lang_grammar.proofs.phrase.Found.{ends_there}
use Rattle.lang_grammar.proofs.phrase.Starts.{reads_run}
use Rattle.flow_transitions.specs.AutoGrammar.{Spot, Names, commas_then, names_then, Act, sets, assumes, act_then, acts_then, Head}
use Rattle.flow_transitions.specs.AutoGrammar.{head_then}
use Rattle.flow_transitions.specs.AutoGrammar.{Written, edge_then}
use Rattle.flow_transitions.specs.AutoGrammar.{edges_then, Heads, System, vars_then, points_then, heads_then, system_then, Frame, condition}
use Rattle.flow_transitions.specs.AutoGrammar.{side}
use Rattle.flow_transitions.specs.AutoGrammar.{closing, frame_then}
use Rattle.flow_transitions.specs.AutoGrammar.{Inside, inside_then, Begun, begun_then, no_token, some_variables, a_variable, all_variables}
use Rattle.flow_transitions.specs.AutoGrammar.{some_points, a_point, some_edges}
use Rattle.flow_transitions.specs.AutoGrammar.{an_edge, a_source, a_target, some_acts, an_assume, an_assigned, some_expression}
use Rattle.flow_transitions.specs.AutoGrammar.{an_expression}
use Rattle.flow_transitions.specs.AutoGrammar.{an_assumption, assume_word}
use Rattle.flow_transitions.specs.AutoGrammar.{GoodAct, GoodActs, GoodEdges, Begins, IsUnexpected}
use Rattle.flow_transitions.proofs.grammar.Lists.{begun_append, commas_more, acts_more, edges_more, good_more, all_good_more, cancel_commas}
use Rattle.flow_transitions.proofs.grammar.Lists.{cancel_names}
use Rattle.flow_transitions.proofs.grammar.Lists.{cancel_acts, cancel_edges, cut_paren}

abbrev pub GoodInside : Inside → Type 0
GoodInside i = GoodEdges i.edges × GoodActs i.acts

-- the expressions of a beginning group as they must
abbrev pub Good : Begun → Type 0
Good (some_edges c es) = GoodEdges es
Good (an_edge c es w) = GoodEdges es
Good (a_source c es w x a) = GoodEdges es
Good (a_target c es w x a y b) = GoodEdges es
Good (some_acts i) = GoodInside i
Good (an_assume i a) = GoodInside i
Good (an_assigned i x a) = GoodInside i
Good (some_expression i f begun) = GoodInside i × BeginsExpr begun × ((e : Expr) → ReadsExpr begun e → ⊥)
Good (an_expression i f e) = GoodInside i × Groups 0 e
Good (an_assumption i a b e d) = GoodInside i × Groups 0 e
Good _ = Unit {0}

abbrev pub IsName : Kind → Type 0
IsName k = (x : List ℕ) × (k ≡ a_name x)

-- this token may stand behind this beginning
abbrev pub Accepts : Begun → Kind → ℕ → Type 0
Accepts no_token k a = k ≡ a_name (codes "vars")
Accepts (some_variables v ss) k a = IsName k
Accepts (a_variable v ss x b) k a = (k ≡ comma) ⊎ (k ≡ semicolon)
Accepts (all_variables v ns) k a = k ≡ a_name (codes "points")
Accepts (some_points v ns p ss) k a = IsName k
Accepts (a_point v ns p ss x b) k a = (k ≡ comma) ⊎ (k ≡ semicolon)
Accepts (some_edges c es) k a = (k ≡ a_name (codes "edge")) ⊎ (k ≡ the_end)
Accepts (an_edge c es w) k a = IsName k
Accepts (a_source c es w x b) k a = IsName k
Accepts (a_target c es w x b y d) k a = k ≡ left_brace
Accepts (some_acts i) k a = (k ≡ right_brace) ⊎ ((k ≡ assume_word) ⊎ IsName k)
Accepts (an_assume i b) k a = k ≡ left_paren
Accepts (an_assigned i x b) k a = k ≡ change_sign replaces
Accepts (some_expression i f begun) k a = BeginsExpr (begun ++ token k a ∷ [])
Accepts (an_expression i f e) k a = (k ≡ closing f) ⊎ BeginsExpr (spell_expr e ++ token k a ∷ [])
Accepts (an_assumption i b c e d) k a = k ≡ semicolon

-- ---- what may stand there begins a text
abbrev over : List Token
over = token the_end 0 ∷ []

finish : (b : Begun) (xs more : List Token) (s : System) → GoodEdges s.edges → begun_then b (xs ++ more) ≡ system_then s over
    → Begins (begun_then b xs)
finish b xs more s g e = (s, more, record { end_at = 0; spelled = sym e ∙ sym (begun_append b xs more); good = g })

abbrev spot : List ℕ → ℕ → ℕ → Spot
spot x a c = record { name = x; at = a; sign_at = c }

abbrev listed : List Spot → Spot → Names
listed ss l = record { first_ones = ss; last = l }

abbrev headed : ℕ → Names → ℕ → Names → Heads
headed v ns p ms = record { vars_at = v; variables = ns; points_at = p; points = ms }

abbrev whole : Heads → List Written → System
whole h es = record { heads = h; edges = es }

abbrev no_points : Names
no_points = listed [] (spot [] 0 0)

abbrev points_rest : List Token
points_rest = points_then 0 (names_then no_points over)

abbrev edge_by : Inside → List Act → ℕ → Written
edge_by i hs c = record { head = i.head; acts = hs; closing_at = c }

-- an edge with one more act
inside_done : (i : Inside) (a : Act) → inside_then i (act_then a (token right_brace 0 ∷ over))
    ≡ system_then (whole i.heads (i.edges ++ edge_by i (i.acts ++ a ∷ []) 0 ∷ [])) over
inside_done i a =
    ap (heads_then i.heads) (ap (λ z. edges_then i.edges (head_then i.head z)) (sym (acts_more i.acts a (token right_brace 0 ∷ over)))
    ∙ sym (edges_more i.edges (edge_by i (i.acts ++ a ∷ []) 0) over))

done_good : (i : Inside) (a : Act) → GoodInside i → GoodAct a → GoodEdges (i.edges ++ edge_by i (i.acts ++ a ∷ []) 0 ∷ [])
done_good i a g h = all_good_more i.edges (edge_by i (i.acts ++ a ∷ []) 0) g.0 (good_more i.acts a g.1 h)

abbrev framed : Frame → Expr → Act
framed (condition a b) e = assumes a b e 0 0
framed (side x a b) e = sets x a b e 0

abbrev frame_rest : Frame → List Token
frame_rest (condition a b) = token right_paren 0 ∷ token semicolon 0 ∷ token right_brace 0 ∷ over
frame_rest (side x a b) = token semicolon 0 ∷ token right_brace 0 ∷ over

framed_is : (f : Frame) (e : Expr) → frame_then f (spell_expr e ++ frame_rest f) ≡ act_then (framed f e) (token right_brace 0 ∷ over)
framed_is (condition a b) e = refl
framed_is (side x a b) e = refl

framed_good : (f : Frame) (e : Expr) → Groups 0 e → GoodAct (framed f e)
framed_good (condition a b) e g = g
framed_good (side x a b) e g = g

-- tokens that begin an expression, behind a frame
expression_begins : (i : Inside) (f : Frame) (xs : List Token) → GoodInside i → BeginsExpr xs
    → (more : List Token) × (s : System) × GoodEdges s.edges × (inside_then i (frame_then f (xs ++ more)) ≡ system_then s over)
expression_begins i f xs g (e, rest, r) = (
  rest ++ frame_rest f,
  whole i.heads (i.edges ++ edge_by i (i.acts ++ framed f e ∷ []) 0 ∷ []),
  done_good i (framed f e) g (framed_good f e r.good),
  ap (λ z. inside_then i (frame_then f z)) (sym (append_assoc xs rest (frame_rest f)) ∙ ap (λ z. z ++ frame_rest f) (sym r.spelled))
      ∙ ap (inside_then i) (framed_is f e) ∙ inside_done i (framed f e),
)

abbrev an_end : Head → Written
an_end h = record { head = h; acts = []; closing_at = 0 }

abbrev head_at : ℕ → List ℕ → ℕ → List ℕ → ℕ → ℕ → Head
head_at w x a y b o = record { word_at = w; source = x; source_at = a; target = y; target_at = b; opening_at = o }

edge_done : (c : Heads) (es : List Written) (e : Written) → heads_then c (edges_then es (edge_then e over))
    ≡ system_then (whole c (es ++ e ∷ [])) over
edge_done c es e = ap (heads_then c) (sym (edges_more es e over))

-- a beginning with a token that may stand behind it begins a text
pub accepted_begins : (b : Begun) (k : Kind) (a : ℕ) → Good b → Accepts b k a → Begins (begun_then b (token k a ∷ []))
accepted_begins b k a g h = on b g h where
  by : (b : Begun) (l : Kind) (more : List Token) (s : System) → k ≡ l → GoodEdges s.edges
      → begun_then b (token l a ∷ more) ≡ system_then s over
      → Begins (begun_then b (token k a ∷ []))
  by b l more s i g e = finish b (token k a ∷ []) more s g (ap (λ z. begun_then b (token z a ∷ more)) i ∙ e)

  on : (b : Begun) → Good b → Accepts b k a → Begins (begun_then b (token k a ∷ []))
  on no_token g i = by no_token _ (names_then no_points points_rest) (whole (headed a no_points 0 no_points) []) i tt refl
  on (some_variables v ss) g (x, i) = by (some_variables v ss) _ (token semicolon 0 ∷ points_rest)
      (whole (headed v (listed ss (spot x a 0)) 0 no_points) []) i tt refl
  on (a_variable v ss x d) g (inl i) =
      by (a_variable v ss x d) comma (names_then no_points points_rest)
      (whole (headed v (listed (ss ++ spot x d a ∷ []) (spot [] 0 0)) 0 no_points) []) i tt
      (ap (vars_then v) (sym (commas_more ss (spot x d a) (names_then no_points points_rest))))
  on (a_variable v ss x d) g (inr i) = by (a_variable v ss x d) semicolon points_rest
      (whole (headed v (listed ss (spot x d a)) 0 no_points) []) i tt refl
  on (all_variables v ns) g i = by (all_variables v ns) _ (names_then no_points over) (whole (headed v ns a no_points) []) i tt refl
  on (some_points v ns p ss) g (x, i) = by (some_points v ns p ss) _ (token semicolon 0 ∷ over)
      (whole (headed v ns p (listed ss (spot x a 0))) []) i tt refl
  on (a_point v ns p ss x d) g (inl i) =
      by (a_point v ns p ss x d) comma (names_then no_points over) (whole (headed v ns p (listed (ss ++ spot x d a ∷ []) (spot [] 0 0))) [])
      i tt
      (ap (λ z. vars_then v (names_then ns (points_then p z))) (sym (commas_more ss (spot x d a) (names_then no_points over))))
  on (a_point v ns p ss x d) g (inr i) = by (a_point v ns p ss x d) semicolon over (whole (headed v ns p (listed ss (spot x d a))) []) i tt
      refl
  on (some_edges c es) g (inl i) =
      by (some_edges c es) _ _ (whole c (es ++ an_end (head_at a [] 0 [] 0 0) ∷ [])) i
      (all_good_more es (an_end (head_at a [] 0 [] 0 0)) g tt)
      (edge_done c es (an_end (head_at a [] 0 [] 0 0)))
  on (some_edges c es) g (inr i) = (
    whole c es,
    [],
    record {
      end_at = a;
      spelled = ap (λ z. heads_then c (edges_then es (token z a ∷ []))) (sym i) ∙ sym (append-nil _);
      good = g;
    },
  )
  on (an_edge c es w) g (x, i) =
      by (an_edge c es w) _ _ (whole c (es ++ an_end (head_at w x a [] 0 0) ∷ [])) i (all_good_more es (an_end (head_at w x a [] 0 0)) g tt)
      (edge_done c es (an_end (head_at w x a [] 0 0)))
  on (a_source c es w y d) g (x, i) =
      by (a_source c es w y d) _ _ (whole c (es ++ an_end (head_at w y d x a 0) ∷ [])) i
      (all_good_more es (an_end (head_at w y d x a 0)) g tt)
      (edge_done c es (an_end (head_at w y d x a 0)))
  on (a_target c es w y d z f) g i =
      by (a_target c es w y d z f) left_brace _ (whole c (es ++ an_end (head_at w y d z f a) ∷ [])) i
      (all_good_more es (an_end (head_at w y d z f a)) g tt)
      (edge_done c es (an_end (head_at w y d z f a)))
  on (some_acts i) g (inl e) =
      by (some_acts i) right_brace over (whole i.heads (i.edges ++ edge_by i i.acts a ∷ [])) e
      (all_good_more i.edges (edge_by i i.acts a) g.0 g.1)
      (ap (heads_then i.heads) (sym (edges_more i.edges (edge_by i i.acts a) over)))
  on (some_acts i) g (inr (inl e)) =
      by (some_acts i) assume_word _ (whole i.heads (i.edges ++ edge_by i (i.acts ++ assumes a 0 (number 0 0) 0 0 ∷ []) 0 ∷ [])) e
      (done_good i (assumes a 0 (number 0 0) 0 0) g tt) (inside_done i (assumes a 0 (number 0 0) 0 0))
  on (some_acts i) g (inr (inr (x, e))) =
      by (some_acts i) _ _ (whole i.heads (i.edges ++ edge_by i (i.acts ++ sets x a 0 (number 0 0) 0 ∷ []) 0 ∷ [])) e
      (done_good i (sets x a 0 (number 0 0) 0) g tt) (inside_done i (sets x a 0 (number 0 0) 0))
  on (an_assume i d) g e =
      by (an_assume i d) left_paren _ (whole i.heads (i.edges ++ edge_by i (i.acts ++ assumes d a (number 0 0) 0 0 ∷ []) 0 ∷ [])) e
      (done_good i (assumes d a (number 0 0) 0 0) g tt) (inside_done i (assumes d a (number 0 0) 0 0))
  on (an_assigned i x d) g e =
      by (an_assigned i x d) (change_sign replaces) _ (whole i.heads (i.edges ++ edge_by i (i.acts ++ sets x d a (number 0 0) 0 ∷ []) 0
      ∷ [])) e
      (done_good i (sets x d a (number 0 0) 0) g tt) (inside_done i (sets x d a (number 0 0) 0))
  on (some_expression i f begun) g h =
      let q = expression_begins i f (begun ++ token k a ∷ []) g.0 h in
      finish (some_expression i f begun) (token k a ∷ []) q.0 q.1 q.2
      (ap (λ z. inside_then i (frame_then f z)) (sym (append_assoc begun (token k a ∷ []) q.0)) ∙ q.3)
  on (an_expression i (condition d l) e) g (inl h) =
      by (an_expression i (condition d l) e) right_paren _ (whole i.heads (i.edges ++ edge_by i (i.acts ++ assumes d l e a 0 ∷ []) 0 ∷ []))
      h
      (done_good i (assumes d l e a 0) g.0 g.1) (inside_done i (assumes d l e a 0))
  on (an_expression i (side x d l) e) g (inl h) =
      by (an_expression i (side x d l) e) semicolon _ (whole i.heads (i.edges ++ edge_by i (i.acts ++ sets x d l e a ∷ []) 0 ∷ [])) h
      (done_good i (sets x d l e a) g.0 g.1) (inside_done i (sets x d l e a))
  on (an_expression i f e) g (inr h) =
      let q = expression_begins i f (spell_expr e ++ token k a ∷ []) g.0 h in
      finish (an_expression i f e) (token k a ∷ []) q.0 q.1 q.2
      (ap (λ z. inside_then i (frame_then f z)) (sym (append_assoc (spell_expr e) (token k a ∷ []) q.0)) ∙ q.3)
  on (an_assumption i d l e c) g h =
      by (an_assumption i d l e c) semicolon _ (whole i.heads (i.edges ++ edge_by i (i.acts ++ assumes d l e c a ∷ []) 0 ∷ [])) h
      (done_good i (assumes d l e c a) g.0 g.1) (inside_done i (assumes d l e c a))

-- some token may stand there
next_there : (b : Begun) → Good b → (k : Kind) × (a : ℕ) × Accepts b k a
next_there no_token g = (_, 0, refl)
next_there (some_variables v ss) g = (a_name [], 0, ([], refl))
next_there (a_variable v ss x b) g = (comma, 0, inl refl)
next_there (all_variables v ns) g = (_, 0, refl)
next_there (some_points v ns p ss) g = (a_name [], 0, ([], refl))
next_there (a_point v ns p ss x b) g = (comma, 0, inl refl)
next_there (some_edges c es) g = (the_end, 0, inr refl)
next_there (an_edge c es w) g = (a_name [], 0, ([], refl))
next_there (a_source c es w x b) g = (a_name [], 0, ([], refl))
next_there (a_target c es w x b y d) g = (left_brace, 0, refl)
next_there (some_acts i) g = (right_brace, 0, inl refl)
next_there (an_assume i b) g = (left_paren, 0, refl)
next_there (an_assigned i x b) g = (change_sign replaces, 0, refl)
next_there (some_expression i f begun) g = on begun g.1 g.2 where
  on : (begun : List Token) → BeginsExpr begun → ((e : Expr) → ReadsExpr begun e → ⊥)
      → (k : Kind) × (a : ℕ) × BeginsExpr (begun ++ token k a ∷ [])
  on begun (e, [], r) unread = absurd (unread e (record { spelled = r.spelled ∙ append-nil begun; good = r.good }))
  on begun (e, token k a ∷ rest, r) unread = (
    k,
    a,
    (
      e,
      rest,
      record {
        spelled =
            r.spelled ∙ sym (append_assoc begun (token k a ∷ []) rest);
        good = r.good;
      },
    ),
  )
next_there (an_expression i f e) g = (closing f, 0, inl refl)
next_there (an_assumption i b c e d) g = (semicolon, 0, refl)

shorter : (xs ys : List Token) → Begins (xs ++ ys) → Begins xs
shorter xs ys (s, rest, r) = (s, ys ++ rest, record { end_at = r.end_at; spelled = r.spelled ∙ append_assoc xs ys rest; good = r.good })

-- a beginning begins a text
pub front_begins : (b : Begun) → Good b → Begins (begun_then b [])
front_begins b g =
    let n = next_there b g in
    shorter (begun_then b []) (token n.0 n.1 ∷ []) (subst Begins (sym (begun_append b [] (token n.0 n.1 ∷ [])))
    (accepted_begins b n.0 n.1 g n.2))

-- ---- what begins a text may stand there
cancel_heads : (c d : Heads) (xs ys : List Token) → heads_then c xs ≡ heads_then d ys → xs ≡ ys
cancel_heads c d xs ys e =
    let i : points_then c.points_at (names_then c.points xs) ≡ points_then d.points_at (names_then d.points ys) =
    cancel_names c.variables.first_ones d.variables.first_ones c.variables.last d.variables.last
    (points_then c.points_at (names_then c.points xs)) (points_then d.points_at (names_then d.points ys)) (cc) in
    cancel_names c.points.first_ones d.points.first_ones c.points.last d.points.last xs ys (cc)

names_start : (ns : Names) (k : Kind) (a : ℕ) (rest tail : List Token) → token k a ∷ rest ≡ names_then ns tail → IsName k
names_start ns k a rest tail e = on ns.first_ones e where
  on : (ss : List Spot) → token k a ∷ rest ≡ commas_then ss (token (a_name ns.last.name) ns.last.at ∷ token semicolon ns.last.sign_at
      ∷ tail) → IsName k
  on [] e = (ns.last.name, cc)
  on (s ∷ ss) e = (s.name, cc)

names_sign : (ns : Names) (x : List ℕ) (b : ℕ) (k : Kind) (a : ℕ) (rest tail : List Token)
    → token (a_name x) b ∷ token k a ∷ rest ≡ names_then ns tail
    → (k ≡ comma) ⊎ (k ≡ semicolon)
names_sign ns x b k a rest tail e = on ns.first_ones e where
  on : (ss : List Spot) → token (a_name x) b ∷ token k a ∷ rest ≡ commas_then ss
      (token (a_name ns.last.name) ns.last.at ∷ token semicolon ns.last.sign_at ∷ tail)
      → (k ≡ comma) ⊎ (k ≡ semicolon)
  on [] e = inr (cc)
  on (s ∷ ss) e = inl (cc)

-- which acts go on within an edge
within : (i : Inside) (xs : List Token) (s : System) (p : ℕ) → GoodInside i → GoodEdges s.edges
    → inside_then i xs ≡ system_then s (token the_end p ∷ [])
    → (hs : List Act) × (c : ℕ) × (tail : List Token) × (xs ≡ acts_then hs (token right_brace c ∷ tail)) × GoodActs hs
within i xs s p g h e =
    let q = cancel_edges i.edges s.edges (head_then i.head (acts_then i.acts xs)) p g.0 h (cancel_heads i.heads s.heads _ _ e) in
    on q.0 q.1 q.2 where
      on : (fs : List Written) → head_then i.head (acts_then i.acts xs) ≡ edges_then fs (token the_end p ∷ []) → GoodEdges fs
          → (hs : List Act) × (c : ℕ) × (tail : List Token) × (xs ≡ acts_then hs (token right_brace c ∷ tail)) × GoodActs hs
      on [] e k = cc
      on (f ∷ fs) e k =
          let j : acts_then i.acts xs ≡ acts_then f.acts (token right_brace f.closing_at ∷ edges_then fs (token the_end p ∷ [])) = cc in
          let r = cancel_acts i.acts f.acts xs f.closing_at (edges_then fs (token the_end p ∷ [])) g.1 k.0 j in
          (r.0, f.closing_at, edges_then fs (token the_end p ∷ []), r.1, r.2)

-- behind a whole expression no sign but an infix one goes on with it
pub ended_by : (e : Expr) (k : Kind) (a : ℕ) → Groups 0 e → is_infix k ≡ false → BeginsExpr (spell_expr e ++ token k a ∷ []) → ⊥
ended_by e k a g n b = ends_there (spell_expr e) k a (reads_run (spell_expr e) e (record { spelled = refl; good = g })) n b

-- two lists with a token behind each
compare : (xs ys us vs : List Token) (t u : Token) → xs ++ t ∷ us ≡ ys ++ u ∷ vs
    → ((xs ≡ ys) × (t ≡ u)) ⊎ (((more : List Token) × (ys ≡ (xs ++ t ∷ []) ++ more))
    ⊎ ((more : List Token) × (xs ≡ (ys ++ u ∷ []) ++ more)))
compare [] [] us vs t u e = inl (refl, cc)
compare [] (y ∷ ys) us vs t u e = inr (inl (ys, cc))
compare (x ∷ xs) [] us vs t u e = inr (inr (xs, cc))
compare (x ∷ xs) (y ∷ ys) us vs t u e = on (compare xs ys us vs t u (cc)) where
  head : x ≡ y
  head = cc

  on : ((xs ≡ ys) × (t ≡ u)) ⊎ (((more : List Token) × (ys ≡ (xs ++ t ∷ []) ++ more))
      ⊎ ((more : List Token) × (xs ≡ (ys ++ u ∷ []) ++ more)))
      → ((x ∷ xs ≡ y ∷ ys) × (t ≡ u))
      ⊎ (((more : List Token) × (y ∷ ys ≡ (x ∷ xs ++ t ∷ []) ++ more)) ⊎ ((more : List Token) × (x ∷ xs ≡ (y ∷ ys ++ u ∷ []) ++ more)))
  on (inl (i, j)) = inl (ap₂ (λ (z : Token) zs. z ∷ zs) head i, j)
  on (inr (inl (more, i))) = inr (inl (more, ap₂ (λ (z : Token) zs. z ∷ zs) (sym head) i))
  on (inr (inr (more, i))) = inr (inr (more, ap₂ (λ (z : Token) zs. z ∷ zs) head i))

-- what begins an expression goes on with it, or is one where its end comes
expression_next : (begun : List Token) (k : Kind) (a : ℕ) (rest : List Token) (e : Expr) (l : Kind) (c : ℕ) (tail : List Token)
    → BeginsExpr begun → Groups 0 e
    → is_infix l ≡ false → begun ++ token k a ∷ rest ≡ spell_expr e ++ token l c ∷ tail
    → (ReadsExpr begun e × (k ≡ l)) ⊎ BeginsExpr (begun ++ token k a ∷ [])
expression_next begun k a rest e l c tail (f, more, r) g n i = on (compare begun (spell_expr e) rest tail (token k a) (token l c) i) where
  on : ((begun ≡ spell_expr e) × (token k a ≡ token l c))
      ⊎ (((more : List Token) × (spell_expr e ≡ (begun ++ token k a ∷ []) ++ more))
      ⊎ ((more : List Token) × (begun ≡ (spell_expr e ++ token l c ∷ []) ++ more)))
      → (ReadsExpr begun e × (k ≡ l)) ⊎ BeginsExpr (begun ++ token k a ∷ [])
  on (inl (j, t)) = inl (record { spelled = sym j; good = g }, cc)
  on (inr (inl (w, j))) = inr (e, w, record { spelled = j; good = g })
  on (inr (inr (w, j))) =
      absurd (ended_by e l c g n (
        f,
        w ++ more,
        record { spelled = r.spelled ∙ ap (λ z. z ++ more) j ∙ append_assoc (spell_expr e ++ token l c ∷ []) w more; good = r.good },
      ))

-- behind a frame
frame_next : (f : Frame) (begun : List Token) (k : Kind) (a : ℕ) (rest : List Token) (hs : List Act) (c : ℕ) (tail : List Token)
    → BeginsExpr begun → GoodActs hs
    → frame_then f (begun ++ token k a ∷ rest) ≡ acts_then hs (token right_brace c ∷ tail)
    → ((e : Expr) × ReadsExpr begun e × (k ≡ closing f)) ⊎ BeginsExpr (begun ++ token k a ∷ [])
frame_next (condition d l) begun k a rest [] c tail b g i = cc
frame_next (side x d l) begun k a rest [] c tail b g i = cc
frame_next (condition d l) begun k a rest (sets y p q e s ∷ hs) c tail b g i = cc
frame_next (side x d l) begun k a rest (assumes p q e o s ∷ hs) c tail b g i = cc
frame_next (condition d l) begun k a rest (assumes p q e o s ∷ hs) c tail b g i =
    on (expression_next begun k a rest e right_paren o (token semicolon s ∷ acts_then hs (token right_brace c ∷ tail)) b g.0 refl
    (cc)) where
      on : (ReadsExpr begun e × (k ≡ right_paren)) ⊎ BeginsExpr (begun ++ token k a ∷ [])
          → ((e : Expr) × ReadsExpr begun e × (k ≡ right_paren)) ⊎ BeginsExpr (begun ++ token k a ∷ [])
      on (inl (r, j)) = inl (e, r, j)
      on (inr j) = inr j
frame_next (side x d l) begun k a rest (sets y p q e s ∷ hs) c tail b g i =
    on (expression_next begun k a rest e semicolon s (acts_then hs (token right_brace c ∷ tail)) b g.0 refl (cc)) where
      on : (ReadsExpr begun e × (k ≡ semicolon)) ⊎ BeginsExpr (begun ++ token k a ∷ [])
          → ((e : Expr) × ReadsExpr begun e × (k ≡ semicolon)) ⊎ BeginsExpr (begun ++ token k a ∷ [])
      on (inl (r, j)) = inl (e, r, j)
      on (inr j) = inr j

begins_by : (e : Expr) → Groups 0 e → BeginsExpr (spell_expr e)
begins_by e g = (e, [], record { spelled = sym (append-nil (spell_expr e)); good = g })

-- where a beginning with a token begins a text, the token may stand there
pub begins_accepted : (b : Begun) (k : Kind) (a : ℕ) → Good b → Begins (begun_then b (token k a ∷ [])) → Accepts b k a
begins_accepted b k a g (s, rest, r) = on b g (sym (begun_append b (token k a ∷ []) rest) ∙ sym r.spelled) where
  on : (b : Begun) → Good b → begun_then b (token k a ∷ rest) ≡ system_then s (token the_end r.end_at ∷ []) → Accepts b k a
  on no_token g e = cc
  on (some_variables v ss) g e =
      let q = cancel_commas ss s.heads.variables.first_ones s.heads.variables.last (token k a ∷ rest)
      (points_then s.heads.points_at (names_then s.heads.points (edges_then s.edges (token the_end r.end_at ∷ [])))) (cc) in
      names_start q.0 k a rest _ q.1
  on (a_variable v ss x d) g e =
      let q = cancel_commas ss s.heads.variables.first_ones s.heads.variables.last (token (a_name x) d ∷ token k a ∷ rest)
      (points_then s.heads.points_at (names_then s.heads.points (edges_then s.edges (token the_end r.end_at ∷ [])))) (cc) in
      names_sign q.0 x d k a rest _ q.1
  on (all_variables v ns) g e =
      let q : token k a ∷ rest ≡ points_then s.heads.points_at (names_then s.heads.points
      (edges_then s.edges (token the_end r.end_at ∷ []))) =
      cancel_names ns.first_ones s.heads.variables.first_ones ns.last s.heads.variables.last (token k a ∷ rest)
      (points_then s.heads.points_at (names_then s.heads.points (edges_then s.edges (token the_end r.end_at ∷ [])))) (cc) in cc
  on (some_points v ns p ss) g e =
      let i : points_then p (commas_then ss (token k a ∷ rest)) ≡ points_then s.heads.points_at
      (names_then s.heads.points (edges_then s.edges (token the_end r.end_at ∷ []))) =
      cancel_names ns.first_ones s.heads.variables.first_ones ns.last s.heads.variables.last
      (points_then p (commas_then ss (token k a ∷ rest)))
      (points_then s.heads.points_at (names_then s.heads.points (edges_then s.edges (token the_end r.end_at ∷ [])))) (cc) in
      let q = cancel_commas ss s.heads.points.first_ones s.heads.points.last (token k a ∷ rest)
      (edges_then s.edges (token the_end r.end_at ∷ [])) (cc) in
      names_start q.0 k a rest _ q.1
  on (a_point v ns p ss x d) g e =
      let i : points_then p (commas_then ss (token (a_name x) d ∷ token k a ∷ rest))
      ≡ points_then s.heads.points_at (names_then s.heads.points (edges_then s.edges (token the_end r.end_at ∷ []))) =
      cancel_names ns.first_ones s.heads.variables.first_ones ns.last s.heads.variables.last
      (points_then p (commas_then ss (token (a_name x) d ∷ token k a ∷ rest)))
      (points_then s.heads.points_at (names_then s.heads.points (edges_then s.edges (token the_end r.end_at ∷ [])))) (cc) in
      let q = cancel_commas ss s.heads.points.first_ones s.heads.points.last (token (a_name x) d ∷ token k a ∷ rest)
      (edges_then s.edges (token the_end r.end_at ∷ [])) (cc) in
      names_sign q.0 x d k a rest _ q.1
  on (some_edges c es) g e = let q = cancel_edges es s.edges (token k a ∷ rest) r.end_at g r.good (cancel_heads c s.heads _ _ e) in
      edge_start q.0 q.1 where
        edge_start : (fs : List Written) → token k a ∷ rest ≡ edges_then fs (token the_end r.end_at ∷ [])
            → (k ≡ a_name (codes "edge")) ⊎ (k ≡ the_end)
        edge_start [] e = inr (cc)
        edge_start (f ∷ fs) e = inl (cc)
  on (an_edge c es w) g e = let q = cancel_edges es s.edges _ r.end_at g r.good (cancel_heads c s.heads _ _ e) in start q.0 q.1 where
    start : (fs : List Written) → token (a_name (codes "edge")) w ∷ token k a ∷ rest ≡ edges_then fs (token the_end r.end_at ∷ [])
        → IsName k
    start [] e = cc
    start (f ∷ fs) e = (f.head.source, cc)
  on (a_source c es w x d) g e = let q = cancel_edges es s.edges _ r.end_at g r.good (cancel_heads c s.heads _ _ e) in start q.0 q.1 where
    start : (fs : List Written) → token (a_name (codes "edge")) w ∷ token (a_name x) d ∷ token k a ∷ rest
        ≡ edges_then fs (token the_end r.end_at ∷ []) → IsName k
    start [] e = cc
    start (f ∷ fs) e = (f.head.target, cc)
  on (a_target c es w x d y f) g e = let q = cancel_edges es s.edges _ r.end_at g r.good (cancel_heads c s.heads _ _ e) in
      start q.0 q.1 where
        start : (fs : List Written) → token (a_name (codes "edge")) w ∷ token (a_name x) d ∷ token (a_name y) f ∷ token k a ∷ rest
            ≡ edges_then fs (token the_end r.end_at ∷ [])
            → k ≡ left_brace
        start [] e = cc
        start (h ∷ fs) e = cc
  on (some_acts i) g e = let q = within i (token k a ∷ rest) s r.end_at g r.good e in start q.0 q.1 q.2 q.3 where
    start : (hs : List Act) (c : ℕ) (tail : List Token) → token k a ∷ rest ≡ acts_then hs (token right_brace c ∷ tail)
        → (k ≡ right_brace) ⊎ ((k ≡ assume_word) ⊎ IsName k)
    start [] c tail e = inl (cc)
    start (sets x p o f t ∷ hs) c tail e = inr (inr (x, cc))
    start (assumes p o f t u ∷ hs) c tail e = inr (inl (cc))
  on (an_assume i d) g e = let q = within i (token assume_word d ∷ token k a ∷ rest) s r.end_at g r.good e in start q.0 q.1 q.2 q.3 where
    start : (hs : List Act) (c : ℕ) (tail : List Token) → token assume_word d ∷ token k a ∷ rest ≡ acts_then hs (token right_brace c ∷ tail)
        → k ≡ left_paren
    start [] c tail e = cc
    start (sets x p o f t ∷ hs) c tail e = cc
    start (assumes p o f t u ∷ hs) c tail e = cc
  on (an_assigned i x d) g e = let q = within i (token (a_name x) d ∷ token k a ∷ rest) s r.end_at g r.good e in start q.0 q.1 q.2 q.3 where
    start : (hs : List Act) (c : ℕ) (tail : List Token) → token (a_name x) d ∷ token k a ∷ rest ≡ acts_then hs (token right_brace c ∷ tail)
        → k ≡ change_sign replaces
    start [] c tail e = cc
    start (sets y p o f t ∷ hs) c tail e = cc
    start (assumes p o f t u ∷ hs) c tail e = cc
  on (some_expression i f begun) g e =
      let q = within i _ s r.end_at g.0 r.good e in only (frame_next f begun k a rest q.0 q.1 q.2 g.1 q.4 q.3) where
        only : ((e : Expr) × ReadsExpr begun e × (k ≡ closing f)) ⊎ BeginsExpr (begun ++ token k a ∷ [])
            → BeginsExpr (begun ++ token k a ∷ [])
        only (inl (h, j, l)) = absurd (g.2 h j)
        only (inr j) = j
  on (an_expression i f h) g e =
      let q = within i _ s r.end_at g.0 r.good e in only (frame_next f (spell_expr h) k a rest q.0 q.1 q.2 (begins_by h g.1) q.4 q.3) where
        only : ((e : Expr) × ReadsExpr (spell_expr h) e × (k ≡ closing f)) ⊎ BeginsExpr (spell_expr h ++ token k a ∷ [])
            → (k ≡ closing f) ⊎ BeginsExpr (spell_expr h ++ token k a ∷ [])
        only (inl (o, j, l)) = inl l
        only (inr j) = inr j
  on (an_assumption i d l h c) g e = let q = within i _ s r.end_at g.0 r.good e in start q.0 q.1 q.2 q.3 q.4 where
    start : (hs : List Act) (o : ℕ) (tail : List Token) → frame_then (condition d l)
        (spell_expr h ++ token right_paren c ∷ token k a ∷ rest) ≡ acts_then hs (token right_brace o ∷ tail)
        → GoodActs hs → k ≡ semicolon
    start [] o tail e w = cc
    start (sets y p z f t ∷ hs) o tail e w = cc
    start (assumes p z f t u ∷ hs) o tail e w =
        let v : token k a ∷ rest ≡ token semicolon u ∷ acts_then hs (token right_brace o ∷ tail) =
        cut_paren h f c t (token k a ∷ rest) _ g.1 w.0 (cc) in cc

-- ---- unexpected tokens
pub unexpected_by : (b : Begun) (k : Kind) (a : ℕ) → Good b → (Accepts b k a → ⊥) → IsUnexpected (begun_then b []) (token k a)
unexpected_by b k a g h = (front_begins b g, λ s. h (begins_accepted b k a g (subst Begins (begun_append b [] (token k a ∷ [])) s)))

-- a token that is unexpected behind a beginning may not stand there
pub unexpected_stops : (b : Begun) (k : Kind) (a : ℕ) → Good b → IsUnexpected (begun_then b []) (token k a) → Accepts b k a → ⊥
unexpected_stops b k a g u h = u.1 (subst Begins (sym (begun_append b [] (token k a ∷ []))) (accepted_begins b k a g h))
