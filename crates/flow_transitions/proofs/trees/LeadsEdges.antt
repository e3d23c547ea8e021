-- The reading along acts and edges.
use Rattle.std.proofs.Common.{◌≡◌, ◌∙◌, ◌++◌, ◌<◌, ℕ, zero, suc, List, [], ◌∷◌, Some, Result, Ok, Err}
use Rattle.std.proofs.Common.{refl, sym, ap, ap₂, subst, arith, append_assoc}
use Rattle.std.proofs.lemmas.List.{append-nil}
use Rattle.std.specs.Prelude.{codes}
use Rattle.lang_tokens.specs.declared.token.Token as lex_token
use Rattle.lang_tokens.specs.Lines.{line_at}
use Rattle.lang_grammar.specs.Expressions.{BeginsExpr, FineExpr}
use Rattle.lang_grammar.specs.Grammar.{a_name, semicolon, left_brace, right_brace, left_paren, right_paren, change_sign}
use Rattle.lang_grammar.specs.Grammar.{replaces, Token, token, Expr, spell_expr, Groups}
use Rattle.lang_tree.specs.Tree.{Statement, Statements, nil, cons}
use Rattle.lang_meaning.specs.declared.fault.ParseFault.{ParseFault}
use Rattle.lang_meaning.specs.Names.{place_of}
use Rattle.lang_meaning.specs.Results as results
use Rattle.lang_meaning.specs.Expressions.{Meaning, as_truth, first_place, meant}
use Rattle.flow_transitions.specs.declared.auto_edge.AutoEdge.{AutoEdge}
use Rattle.flow_transitions.specs.declared.reading.point_name.PointName.{PointName}
use Rattle.flow_transitions.specs.AutoReading.{Stand, Progress, progress, expression_at, wanted_at, an_expression, going}
use Rattle.flow_transitions.specs.AutoReading.{names_of, point_or, not_first, from_then, to_then, assigned_if, assumed, assigned, as_side}
use Rattle.flow_transitions.specs.AutoReading.{at_edge, at_source, at_target, at_opening, at_act, at_paren, at_condition, past_condition}
use Rattle.flow_transitions.specs.AutoReading.{at_equal, at_right_side, past_act, edge_to, then_act, with_act}
use Rattle.flow_transitions.specs.AutoGrammar.{assume_word, Act, sets, assumes, act_then, acts_then, Head, head_then, Written, edges_then}
use Rattle.flow_transitions.specs.AutoGrammar.{Frame, condition, side, frame_then}
use Rattle.flow_transitions.specs.AutoTrees.{FrameSays, FrameStands, ActsSay, HeadSays, EdgesSay, frame_of, expr_in}
use Rattle.flow_transitions.proofs.grammar.Accepts.{ended_by}
use Rattle.flow_transitions.proofs.progress.Loops.{acted}
use Rattle.flow_transitions.proofs.trees.Has.{stand_behind}
use Rattle.flow_transitions.proofs.trees.Here.{seen_here}
use Rattle.flow_transitions.proofs.trees.Leads.{Leads, stays, chain, token_leads, expression_leads}

-- ---- what comes of an expression
-- a value that comes of another one: there is this other one
pub value_back : {A B : Type 0} (x : Result A ParseFault) (f : A → Result B ParseFault) (b : B) → results.◌>>=◌ x f ≡ Ok b
    → (a : A) × (x ≡ Ok a) × (f a ≡ Ok b)
value_back (Ok a) f b e = (a, refl, e)
value_back (Err p) f b e = cc

-- where the reading stands before the expression of a frame
abbrev pub stand_at : (text : List ℕ) (names : List (List ℕ)) → AutoEdge → (f : Frame) → FrameStands names f → Stand
stand_at text names e (condition a b) h = at_condition e (line_at text a)
stand_at text names e (side x a b) h = at_right_side e h.0 (line_at text a) b

-- what is without fault has a frame without fault
abbrev pub says_stands : (text : List ℕ) (names : List (List ℕ)) (f : Frame) (x : Expr) (s : Statement) → FrameSays text names f x s
    → FrameStands names f
says_stands text names (condition a b) x s h = tt
says_stands text names (side x a b) y s (g, fine, (var, form, place, value, same)) = (var, place)

-- what an expression without fault means, and what the reading makes of it
pub record Used (text : List ℕ) (names : List (List ℕ)) (f : Frame) (x : Expr) (s : Statement) (e : AutoEdge)
    (h : FrameStands names f) : Type 0 where
  -- it groups as it must
  pub groups : Groups 0 x
  -- none of its tokens opens one construct too many
  pub fine : FineExpr (spell_expr x)
  -- what it means
  pub meaning : Meaning
  -- it means this
  pub meant_so : meant text names (first_place (spell_expr x)) x ≡ Ok meaning
  -- the reading makes the statement of it
  pub goes : (r : Progress) → expression_at (stand_at text names e f h) (first_place (spell_expr x)) meaning r ≡ going r
      (stand_behind f e s)

-- an expression without fault behind a frame is used as the act's statement
pub used : (text : List ℕ) (names : List (List ℕ)) (f : Frame) (x : Expr) (s : Statement) (e : AutoEdge) (h : FrameSays text names f x s)
    → Used text names f x s e (says_stands text names f x s h)
used text names (condition a b) x s e (g, fine, (c, truth, same)) =
    let q = value_back (meant text names (first_place (spell_expr x)) x) (λ m. as_truth (first_place (spell_expr x)) m) c truth in
    record {
      groups = g;
      fine = fine;
      meaning = q.0;
      meant_so = q.1;
      goes = λ r. ap (λ t. assumed t e (line_at text a) r) q.2 ∙ ap (λ z. going r (past_condition e z)) (sym same);
    }
used text names (side x a b) y s e (g, fine, (var, form, place, value, same)) =
    let q = value_back (meant text names (first_place (spell_expr y)) y) (λ m. as_side b m) form value in
    record {
      groups = g;
      fine = fine;
      meaning = q.0;
      meant_so = q.1;
      goes = λ r. ap (λ t. assigned t e var (line_at text a) r) q.2 ∙ ap (λ z. going r (past_act e z)) (sym same);
    }

-- an expression has to come there
pub stand_wants : (text : List ℕ) (names : List (List ℕ)) (e : AutoEdge) (f : Frame) (h : FrameStands names f)
    → wanted_at (stand_at text names e f h) ≡ an_expression
stand_wants text names e (condition a b) h = refl
stand_wants text names e (side x a b) h = refl

-- the acts of an edge with these behind them
abbrev pub joined : Statements → Statements → Statements
joined acts nil = acts
joined acts (cons s ss) = joined (then_act acts s) ss

joined_cons : (t : Statement) (acts ss : Statements) → joined (cons t acts) ss ≡ cons t (joined acts ss)
joined_cons t acts nil = refl
joined_cons t acts (cons s ss) = joined_cons t (then_act acts s) ss

-- the acts of an edge that has none are those behind it
pub joined_nil : (ss : Statements) → joined nil ss ≡ ss
joined_nil nil = refl
joined_nil (cons s ss) = joined_cons s nil ss ∙ ap (cons s) (joined_nil ss)

module _ (text : List ℕ) (tokens : List lex_token.Token) (names : List (List ℕ)) (points : List PointName) where
  abbrev To : Progress → List Token → Progress → List Token → Type 0
  To r xs s ys = Leads text tokens r xs s ys

  -- ---- acts
  module _ (edges : List AutoEdge) where
    abbrev at : Stand → Progress
    at stand = progress names points edges stand

    -- what stands before an expression
    pub assume_leads : (e : AutoEdge) (a : ℕ) (ys : List Token)
        → To (at (at_act e)) (token assume_word a ∷ ys) (at (at_paren e (line_at text a))) ys
    assume_leads e a ys = token_leads text tokens (at (at_act e)) assume_word a ys refl (at (at_paren e (line_at text a))) refl

    -- a variable that is assigned leads on to its `=`
    pub variable_leads : (e : AutoEdge) (x : List ℕ) (a var : ℕ) (ys : List Token) → place_of x names ≡ Some var
        → To (at (at_act e)) (token (a_name x) a ∷ ys) (at (at_equal e var (line_at text a))) ys
    variable_leads e x a var ys place =
        token_leads text tokens (at (at_act e)) (a_name x) a ys refl (at (at_equal e var (line_at text a)))
        (ap (λ o. assigned_if o e (at (at_act e)) (seen_here text (a_name x) a)) place)

    -- a frame leads on to its expression
    pub frame_leads : (e : AutoEdge) (f : Frame) (h : FrameStands names f) (ys : List Token)
        → To (at (at_act e)) (frame_then f ys) (at (stand_at text names e f h)) ys
    frame_leads e (condition a b) h ys =
        chain text tokens (at (at_act e)) (at (at_paren e (line_at text a))) (at (at_condition e (line_at text a))) _ _ ys
        (assume_leads e a (token left_paren b ∷ ys))
        (token_leads text tokens (at (at_paren e (line_at text a))) left_paren b ys refl (at (at_condition e (line_at text a))) refl)
    frame_leads e (side x a b) (var, place) ys =
        chain text tokens (at (at_act e)) (at (at_equal e var (line_at text a))) (at (at_right_side e var (line_at text a) b)) _ _ ys
        (variable_leads e x a var (token (change_sign replaces) b ∷ ys) place)
        (token_leads text tokens (at (at_equal e var (line_at text a))) (change_sign replaces) b ys refl
        (at (at_right_side e var (line_at text a) b)) refl)

    -- a frame and its expression, where the token behind it ends it
    pub whole_leads : (e : AutoEdge) (f : Frame) (x : Expr) (s : Statement) (t : Token) (ys : List Token) → FrameSays text names f x s
        → (BeginsExpr (spell_expr x ++ t ∷ []) → ⊥)
        → To (at (at_act e)) (frame_then f (spell_expr x ++ t ∷ ys)) (at (stand_behind f e s)) (t ∷ ys)
    whole_leads e f x s t ys says ends =
        let h = says_stands text names f x s says in
        let u = used text names f x s e says in
        chain text tokens (at (at_act e)) (at (stand_at text names e f h)) (at (stand_behind f e s)) _ _ (t ∷ ys)
        (frame_leads e f h (spell_expr x ++ t ∷ ys))
        (expression_leads text tokens (at (stand_at text names e f h)) (at (stand_behind f e s)) u.meaning x t ys
        (stand_wants text names e f h) u.groups u.fine ends u.meant_so (u.goes (at (stand_at text names e f h))))

    act_leads : (e : AutoEdge) (h : Act) (s : Statement) (ys : List Token) → FrameSays text names (frame_of h) (expr_in h) s
        → To (at (at_act e)) (act_then h ys) (at (at_act (with_act e s))) ys
    act_leads e (sets x a b y c) s ys says =
        chain text tokens (at (at_act e)) (at (past_act e s)) (at (at_act (with_act e s))) _ _ ys
        (whole_leads e (side x a b) y s (token semicolon c) ys says (ended_by y semicolon c says.0 refl))
        (token_leads text tokens (at (past_act e s)) semicolon c ys refl (at (at_act (with_act e s))) refl)
    act_leads e (assumes a b y c d) s ys says =
        chain text tokens (at (at_act e)) (at (past_condition e s)) (at (at_act (with_act e s))) _ _ ys
        (whole_leads e (condition a b) y s (token right_paren c) (token semicolon d ∷ ys) says (ended_by y right_paren c says.0 refl))
        (chain text tokens (at (past_condition e s)) (at (past_act e s)) (at (at_act (with_act e s))) _ _ ys
        (token_leads text tokens (at (past_condition e s)) right_paren c (token semicolon d ∷ ys) refl (at (past_act e s)) refl)
        (token_leads text tokens (at (past_act e s)) semicolon d ys refl (at (at_act (with_act e s))) refl))

    acts_lead : (line from place to : ℕ) (acts : Statements) (hs : List Act) (ss : Statements) (ys : List Token) → ActsSay text names hs ss
        → To (at (at_act (acted line from place to acts))) (acts_then hs ys) (at (at_act (acted line from place to (joined acts ss)))) ys
    acts_lead line from place to acts [] nil ys says = stays text tokens (at (at_act (acted line from place to acts))) ys
    acts_lead line from place to acts (h ∷ hs) (cons s ss) ys says =
        chain text tokens (at (at_act (acted line from place to acts))) (at (at_act (acted line from place to (then_act acts s))))
        (at (at_act (acted line from place to (joined (then_act acts s) ss)))) _ _ ys
        (act_leads (acted line from place to acts) h s (acts_then hs ys) says.0)
        (acts_lead line from place to (then_act acts s) hs ss ys says.1)
    acts_lead line from place to acts [] (cons s ss) ys says = absurd says
    acts_lead line from place to acts (h ∷ hs) nil ys says = absurd says

  -- ---- edges
  module _ (known : List (List ℕ)) (are : names_of points ≡ known) where
    abbrev over : List AutoEdge → Stand → Progress
    over edges stand = progress names points edges stand

    -- the word `edge` leads on to the first point
    pub word_leads : (edges : List AutoEdge) (w : ℕ) (ys : List Token)
        → To (over edges at_edge) (token (a_name (codes "edge")) w ∷ ys) (over edges (at_source (line_at text w))) ys
    word_leads edges w ys =
        token_leads text tokens (over edges at_edge) (a_name (codes "edge")) w ys refl (over edges (at_source (line_at text w))) refl

    -- the name of the first point leads on to the second one
    pub source_leads : (edges : List AutoEdge) (line : ℕ) (x : List ℕ) (a p : ℕ) (ys : List Token) → place_of x known ≡ Some p
        → To (over edges (at_source line)) (token (a_name x) a ∷ ys) (over edges (at_target line p a)) ys
    source_leads edges line x a p ys h =
        token_leads text tokens (over edges (at_source line)) (a_name x) a ys refl (over edges (at_target line p a))
        (ap (λ o. from_then (point_or o (seen_here text (a_name x) a)) line a (over edges (at_source line))) (ap (place_of x) are ∙ h))

    -- the name of a later point leads on to the `{`
    pub target_leads : (edges : List AutoEdge) (line from place : ℕ) (y : List ℕ) (b q : ℕ) (ys : List Token)
        → place_of y known ≡ Some q → 0 < q
        → To (over edges (at_target line from place)) (token (a_name y) b ∷ ys) (over edges (at_opening (edge_to line from place q))) ys
    target_leads edges line from place y b zero ys h later = absurd (omega (arith, later))
    target_leads edges line from place y b (suc q) ys h later =
        token_leads text tokens (over edges (at_target line from place)) (a_name y) b ys refl
        (over edges (at_opening (edge_to line from place (suc q))))
        (ap (λ o. to_then (not_first (point_or o (seen_here text (a_name y) b)) (seen_here text (a_name y) b)) line from place
        (over edges (at_target line from place))) (ap (place_of y) are ∙ h))

    -- the acts so far behind a head
    pub head_leads : (edges : List AutoEdge) (h : Head) (e : AutoEdge) (hs : List Act) (ys : List Token) → HeadSays text known h e
        → ActsSay text names hs e.acts
        → To (over edges at_edge) (head_then h (acts_then hs ys)) (over edges (at_act e)) ys
    head_leads edges h e hs ys head acts =
        let line = line_at text h.word_at in
        let edge : AutoEdge = edge_to line e.from h.source_at e.to in
        let four : List Token = acts_then hs ys in
        let three : List Token = token left_brace h.opening_at ∷ four in
        let two : List Token = token (a_name h.target) h.target_at ∷ three in
        let one : List Token = token (a_name h.source) h.source_at ∷ two in
        let done : AutoEdge = acted line e.from h.source_at e.to (joined nil e.acts) in
        let same : done ≡ e = ap₂ (λ l p. acted l e.from p e.to (joined nil e.acts)) (sym head.line) (sym head.place)
        ∙ ap (λ z. acted e.line e.from e.at e.to z) (joined_nil e.acts) in
        subst (λ z. To (over edges at_edge) (head_then h four) (over edges (at_act z)) ys) same
        (chain text tokens (over edges at_edge) (over edges (at_source line)) (over edges (at_act done)) _ one ys
        (word_leads edges h.word_at one)
        (chain text tokens (over edges (at_source line)) (over edges (at_target line e.from h.source_at)) (over edges (at_act done)) one two
        ys
        (source_leads edges line h.source h.source_at e.from two head.source)
        (chain text tokens (over edges (at_target line e.from h.source_at)) (over edges (at_opening edge)) (over edges (at_act done)) two
        three ys
        (target_leads edges line e.from h.source_at h.target h.target_at e.to three head.target head.later)
        (chain text tokens (over edges (at_opening edge)) (over edges (at_act edge)) (over edges (at_act done)) three four ys
        (token_leads text tokens (over edges (at_opening edge)) left_brace h.opening_at four refl (over edges (at_act edge)) refl)
        (acts_lead edges line e.from h.source_at e.to nil hs e.acts ys acts)))))

    -- whole edges lead on to the next one
    pub edges_lead : (before : List AutoEdge) (ws : List Written) (es : List AutoEdge) (ys : List Token)
        → EdgesSay text names known ws es → To (over before at_edge) (edges_then ws ys) (over (before ++ es) at_edge) ys
    edges_lead before [] [] ys says =
        subst (λ z. To (over before at_edge) ys (over z at_edge) ys) (sym (append-nil before)) (stays text tokens (over before at_edge) ys)
    edges_lead before (w ∷ ws) (e ∷ es) ys says =
        let more : List AutoEdge = before ++ e ∷ [] in
        let behind : List Token = edges_then ws ys in
        let closed : List Token = token right_brace w.closing_at ∷ behind in
        subst (λ z. To (over before at_edge) (edges_then (w ∷ ws) ys) (over z at_edge) ys) (append_assoc before (e ∷ []) es)
        (chain text tokens (over before at_edge) (over before (at_act e)) (over (more ++ es) at_edge) _ closed ys
        (head_leads before w.head e w.acts closed says.0 says.1)
        (chain text tokens (over before (at_act e)) (over more at_edge) (over (more ++ es) at_edge) closed behind ys
        (token_leads text tokens (over before (at_act e)) right_brace w.closing_at behind refl (over more at_edge) refl)
        (edges_lead more ws es ys says.2)))
    edges_lead before [] (e ∷ es) ys says = absurd says
    edges_lead before (w ∷ ws) [] ys says = absurd says
