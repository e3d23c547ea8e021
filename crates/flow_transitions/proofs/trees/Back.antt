-- What the trees say is what the reading answers.
use Rattle.std.proofs.Common.{◌≡◌, ◌∙◌, ◌+◌, ◌++◌, ◌<◌, ◌⊎◌, inl, inr, ⊎_elim, ℕ, Bool, true, false, List, [], ◌∷◌, length, map, drop}
use Rattle.std.proofs.Common.{Some, None, Result, Ok, Err, refl, sym, ap, subst, arith}
use Rattle.std.proofs.lemmas.Bool.{ltb-true, leb-true}
use Rattle.std.proofs.lemmas.List.{length-append, length-map}
use Rattle.std.specs.Prelude.{nat_lt, nat_le}
use Rattle.lang_tokens.specs.declared.token.Token as lex_token
use Rattle.lang_tokens.specs.Lines.{line_at}
use Rattle.lang_grammar.specs.Expressions.{IsLongest, BeginsExpr, FindsExpr, stops_at, nests_at}
use Rattle.lang_grammar.specs.Grammar.{Kind, a_name, semicolon, right_paren, the_end, Token, token, Expr, spell_expr}
use Rattle.lang_grammar.specs.View.{tokens_of}
use Rattle.flow_transitions.specs.declared.limits.TheConstants.{MOST_VARIABLES}
use Rattle.flow_transitions.specs.declared.limits.TheConstants.{MOST_POINTS}
use Rattle.lang_tree.specs.Tree.{Statement}
use Rattle.lang_meaning.specs.declared.fault.ParseFault.{ParseFault}
use Rattle.lang_meaning.specs.declared.fault.ParseFault.TheVariants as parse
use Rattle.lang_meaning.specs.declared.fault.Limit.TheVariants.{Nesting, Variables}
use Rattle.lang_meaning.specs.Names.{place_of}
use Rattle.lang_meaning.specs.Results as results
use Rattle.lang_meaning.specs.Expressions.{Meaning, as_truth, first_place, meant}
use Rattle.flow_transitions.specs.declared.fault.AutoFault.{AutoFault}
use Rattle.flow_transitions.specs.declared.fault.AutoFault.TheVariants as fault
use Rattle.flow_transitions.specs.declared.reading.point_name.PointName.{PointName}
use Rattle.flow_transitions.specs.AutoContents.{AutoAnswer, as_side}
use Rattle.flow_transitions.specs.AutoReading.{Stand, Progress, progress, start, Stepped, token_at, a_token}
use Rattle.flow_transitions.specs.AutoReading.{ReadsTo, ended, wanted_at, point_or, not_first, from_then, to_then}
use Rattle.flow_transitions.specs.AutoReading.{variable_if, point_if, counted_then, assigned_if, assumed, assigned}
use Rattle.flow_transitions.specs.AutoReading.{at_variable, at_point, past_point, at_edge, at_source, at_target}
use Rattle.flow_transitions.specs.AutoReading.{at_opening, at_act, at_paren, at_equal, past_condition, past_act, at_end, edge_to}
use Rattle.flow_transitions.specs.AutoGrammar.{tokens_here, Spot, Written, Heads, Frame, condition, side, frame_then}
use Rattle.flow_transitions.specs.AutoGrammar.{Inside, inside_then, Begun, begun_then, no_token, some_variables, a_variable, all_variables}
use Rattle.flow_transitions.specs.AutoGrammar.{some_points, a_point, some_edges, an_edge, a_source, a_target, some_acts, an_assume}
use Rattle.flow_transitions.specs.AutoGrammar.{an_assigned, an_assumption, some_expression as begun_expression}
use Rattle.flow_transitions.specs.AutoGrammar.{an_expression as whole_expression}
use Rattle.flow_transitions.specs.AutoTrees.{names_in, spot_names, all_spots, point_here, Outer, Inner, FrameSays, FrameStands, FrameFault}
use Rattle.flow_transitions.specs.AutoTrees.{Faultless, FirstFault, SystemMeans}
use Rattle.flow_transitions.specs.AutoTrees.{unexpected as unexpected_token, variable_twice, many_variables, point_twice, point_count}
use Rattle.flow_transitions.specs.AutoTrees.{no_source, no_target, into_entry, no_variable, too_deep, says_nothing}
use Rattle.flow_transitions.specs.AutoReading.{IsRead, no_tokens as no_reading, some_tokens}
use Rattle.flow_transitions.specs.AutoTexts.{IsAuto, no_tokens, by_tokens}
use Rattle.flow_transitions.proofs.grammar.Accepts.{Accepts, ended_by, unexpected_stops}
use Rattle.flow_transitions.proofs.progress.Steps.{Fails, refused_fails}
use Rattle.flow_transitions.proofs.trees.Alike.{here_alike, stops_alike, nests_alike}
use Rattle.flow_transitions.proofs.trees.Has.{outside, inside, points_in, stand_behind, good_of, names_back}
use Rattle.flow_transitions.proofs.trees.Here.{seen_here}
use Rattle.flow_transitions.proofs.trees.Leads.{Leads, Refuses, chain, chain_refuses, token_leads, token_refuses, meant_fails, use_fails}
use Rattle.flow_transitions.proofs.trees.LeadsNames.{to_variables, to_variable, to_points_word, to_points, to_point, to_edges, edges_at}
use Rattle.flow_transitions.proofs.trees.LeadsEdges.{stand_at, stand_wants, edges_lead, head_leads, frame_leads, whole_leads}
use Rattle.flow_transitions.proofs.trees.LeadsEdges.{word_leads, source_leads, target_leads, assume_leads, variable_leads}
use Rattle.flow_transitions.proofs.trees.Refused.{IsRefused, no_vars, no_variable as no_variable_name, no_variable_sign, no_points}
use Rattle.flow_transitions.proofs.trees.Refused.{no_point}
use Rattle.flow_transitions.proofs.trees.Refused.{no_point_sign, no_edge, no_source_name, no_target_name, no_opening, no_act, no_paren}
use Rattle.flow_transitions.proofs.trees.Refused.{no_equal, no_closing, no_semicolon}

-- what becomes of what an expression means, where its use is refused
use_back : {A : Type 0} (x : Result Meaning ParseFault) (f : Meaning → Result A ParseFault) (p : ParseFault) → results.◌>>=◌ x f ≡ Err p
    → (x ≡ Err p) ⊎ ((m : Meaning) × (x ≡ Ok m) × (f m ≡ Err p))
use_back (Ok m) f p e = inr (m, refl, e)
use_back (Err q) f p e = let same : q ≡ p = cc in inl (ap Err same)

module _ (text : List ℕ) (tokens : List lex_token.Token) where
  abbrev From : List Token → Progress → List Token → Type 0
  From xs s ys = Leads text tokens start xs s ys

  abbrev Fault : List Token → AutoFault → Type 0
  Fault xs f = Refuses text tokens start xs f

  -- ---- the reading along a beginning without fault
  module _ (h : Heads) (ws : List Written) (o : Outer text h ws) where
    abbrev out : Stand → Progress
    out stand = outside text h ws o stand

    to_whole : (ys : List Token) → From (begun_then (some_edges h ws) ys) (out at_edge) ys
    to_whole ys =
        chain text tokens start (edges_at text tokens h) (out at_edge) _ _ ys (to_edges text tokens h _ o.heads)
        (edges_lead text tokens (names_in h.variables) (points_in text h) (names_in h.points) (names_back text (all_spots h.points)) [] ws
        o.edges ys o.say)

    to_word : (w : ℕ) (ys : List Token) → From (begun_then (an_edge h ws w) ys) (out (at_source (line_at text w))) ys
    to_word w ys =
        chain text tokens start (out at_edge) (out (at_source (line_at text w))) _ _ ys (to_whole _)
        (word_leads text tokens (names_in h.variables) (points_in text h) (names_in h.points) (names_back text (all_spots h.points)) o.edges
        w ys)

    to_source : (w : ℕ) (x : List ℕ) (a p : ℕ) (ys : List Token) → place_of x (names_in h.points) ≡ Some p
        → From (begun_then (a_source h ws w x a) ys) (out (at_target (line_at text w) p a)) ys
    to_source w x a p ys e =
        chain text tokens start (out (at_source (line_at text w))) (out (at_target (line_at text w) p a)) _ _ ys (to_word w _)
        (source_leads text tokens (names_in h.variables) (points_in text h) (names_in h.points) (names_back text (all_spots h.points))
        o.edges (line_at text w) x a p ys e)

    to_target : (w : ℕ) (x : List ℕ) (a p : ℕ) (y : List ℕ) (b q : ℕ) (ys : List Token) → place_of x (names_in h.points) ≡ Some p
        → place_of y (names_in h.points) ≡ Some q → 0 < q
        → From (begun_then (a_target h ws w x a y b) ys) (out (at_opening (edge_to (line_at text w) p a q))) ys
    to_target w x a p y b q ys e d later =
        chain text tokens start (out (at_target (line_at text w) p a)) (out (at_opening (edge_to (line_at text w) p a q))) _ _ ys
        (to_source w x a p _ e)
        (target_leads text tokens (names_in h.variables) (points_in text h) (names_in h.points) (names_back text (all_spots h.points))
        o.edges (line_at text w) p a y b q ys d later)

  module _ (i : Inside) (n : Inner text i) where
    abbrev ins : Stand → Progress
    ins stand = inside text i n stand

    abbrev names : List (List ℕ)
    names = names_in i.heads.variables

    abbrev points : List PointName
    points = points_in text i.heads

    to_acts : (ys : List Token) → From (inside_then i ys) (ins (at_act n.edge)) ys
    to_acts ys =
        chain text tokens start (ins at_edge) (ins (at_act n.edge)) _ _ ys (to_whole i.heads i.edges n.outer _)
        (head_leads text tokens names points (names_in i.heads.points) (names_back text (all_spots i.heads.points)) n.outer.edges i.head
        n.edge i.acts ys n.head n.acts)

    to_assume : (a : ℕ) (ys : List Token) → From (begun_then (an_assume i a) ys) (ins (at_paren n.edge (line_at text a))) ys
    to_assume a ys =
        chain text tokens start (ins (at_act n.edge)) (ins (at_paren n.edge (line_at text a))) _ _ ys (to_acts _)
        (assume_leads text tokens names points n.outer.edges n.edge a ys)

    to_assigned : (x : List ℕ) (a var : ℕ) (ys : List Token) → place_of x names ≡ Some var
        → From (begun_then (an_assigned i x a) ys) (ins (at_equal n.edge var (line_at text a))) ys
    to_assigned x a var ys e =
        chain text tokens start (ins (at_act n.edge)) (ins (at_equal n.edge var (line_at text a))) _ _ ys (to_acts _)
        (variable_leads text tokens names points n.outer.edges n.edge x a var ys e)

    to_frame : (f : Frame) (h : FrameStands names f) (ys : List Token)
        → From (inside_then i (frame_then f ys)) (ins (stand_at text names n.edge f h)) ys
    to_frame f h ys =
        chain text tokens start (ins (at_act n.edge)) (ins (stand_at text names n.edge f h)) _ _ ys (to_acts _)
        (frame_leads text tokens names points n.outer.edges n.edge f h ys)

    to_expression : (f : Frame) (x : Expr) (s : Statement) (t : Token) (ys : List Token) → FrameSays text names f x s
        → (BeginsExpr (spell_expr x ++ t ∷ []) → ⊥)
        → From (begun_then (whole_expression i f x) (t ∷ ys)) (ins (stand_behind f n.edge s)) (t ∷ ys)
    to_expression f x s t ys says ends =
        chain text tokens start (ins (at_act n.edge)) (ins (stand_behind f n.edge s)) _ _ (t ∷ ys) (to_acts _)
        (whole_leads text tokens names points n.outer.edges n.edge f x s t ys says ends)

    to_assumption : (a b : ℕ) (x : Expr) (d : ℕ) (s : Statement) (ys : List Token) → FrameSays text names (condition a b) x s
        → From (begun_then (an_assumption i a b x d) ys) (ins (past_act n.edge s)) ys
    to_assumption a b x d s ys says =
        chain text tokens start (ins (past_condition n.edge s)) (ins (past_act n.edge s)) _ (token right_paren d ∷ ys) ys
        (to_expression (condition a b) x s (token right_paren d) ys says (ended_by x right_paren d says.0 refl))
        (token_leads text tokens (ins (past_condition n.edge s)) right_paren d ys refl (ins (past_act n.edge s)) refl)

  -- ---- an unexpected token
  module _ (k : Kind) (a : ℕ) (ys : List Token) where
    abbrev unexpected_there : AutoFault
    unexpected_there = fault.Parse (parse.Unexpected a)

    refused_at : (r : Progress) (xs : List Token) → wanted_at r.stand ≡ a_token
        → From xs r (token k a ∷ ys) → IsRefused text r k a → Fault xs unexpected_there
    refused_at r xs w way is =
        chain_refuses text tokens start r xs (token k a ∷ ys) unexpected_there way
        (token_refuses text tokens r k a ys w unexpected_there is)

    -- what stands behind a frame goes on to no expression
    stops : (i : Inside) (n : Inner text i) (f : Frame) (begun : List Token) (h : FrameStands (names_in i.heads.variables) f)
        → FindsExpr (stops_at a) (begun ++ token k a ∷ ys)
        → Fault (begun_then (begun_expression i f begun) (token k a ∷ ys)) unexpected_there
    stops i n f begun h finds =
        let r = inside text i n (stand_at text (names_in i.heads.variables) n.edge f h) in
        chain_refuses text tokens start r _ (begun ++ token k a ∷ ys) unexpected_there
        (to_frame i n f h (begun ++ token k a ∷ ys))
        (λ j e.
        let there = stops_alike _ (drop j (tokens_of text tokens)) a (here_alike text tokens j) (subst (FindsExpr (stops_at a)) (sym e)
        finds) in
        refused_fails text tokens r j (parse.Unexpected a) unexpected_there
        (stand_wants text (names_in i.heads.variables) n.edge f h) (inl (a, there, refl)) refl)

    unexpected_said : (b : Begun) → Faultless text b → (Accepts b k a → ⊥) → Fault (begun_then b (token k a ∷ ys)) unexpected_there
    unexpected_said no_token g n =
        token_refuses text tokens start k a ys refl unexpected_there (no_vars text [] [] [] k a n)
    unexpected_said (some_variables v ss) g n =
        refused_at _ _ refl (to_variables text tokens v ss _ g) (no_variable_name text (spot_names ss) [] [] k a n)
    unexpected_said (a_variable v ss x b) g n =
        refused_at _ _ refl (to_variable text tokens v ss x b _ g) (no_variable_sign text (spot_names ss ++ x ∷ []) [] [] k a n)
    unexpected_said (all_variables v ns) g n =
        refused_at _ _ refl (to_points_word text tokens v ns _ g) (no_points text (names_in ns) [] [] k a n)
    unexpected_said (some_points v ns p ss) g n =
        refused_at _ _ refl (to_points text tokens v ns p ss _ g) (no_point text (names_in ns) (map (point_here text) ss) [] k a n)
    unexpected_said (a_point v ns p ss x b) g n =
        refused_at _ _ refl (to_point text tokens v ns p ss x b _ g) (no_point_sign text (names_in ns) _ [] k a n)
    unexpected_said (some_edges h ws) o n =
        refused_at _ _ refl (to_whole h ws o _) (no_edge text (names_in h.variables) (points_in text h) o.edges k a n)
    unexpected_said (an_edge h ws w) o n =
        refused_at _ _ refl (to_word h ws o w _) (no_source_name text (names_in h.variables) (points_in text h) o.edges (line_at text w) k a
        n)
    unexpected_said (a_source h ws w x b) (o, (p, e)) n =
        refused_at _ _ refl (to_source h ws o w x b p _ e)
        (no_target_name text (names_in h.variables) (points_in text h) o.edges (line_at text w) p b k a n)
    unexpected_said (a_target h ws w x b y c) (o, (p, e), (q, d, later)) n =
        refused_at _ _ refl (to_target h ws o w x b p y c q _ e d later)
        (no_opening text (names_in h.variables) (points_in text h) o.edges (edge_to (line_at text w) p b q) k a n)
    unexpected_said (some_acts i) m n =
        refused_at _ _ refl (to_acts i m _) (no_act text (names_in i.heads.variables) (points_in text i.heads) m.outer.edges m.edge k a n)
    unexpected_said (an_assume i b) m n =
        refused_at _ _ refl (to_assume i m b _)
        (no_paren text (names_in i.heads.variables) (points_in text i.heads) m.outer.edges m.edge (line_at text b) k a n)
    unexpected_said (an_assigned i x b) (m, (var, e)) n =
        refused_at _ _ refl (to_assigned i m x b var _ e)
        (no_equal text (names_in i.heads.variables) (points_in text i.heads) m.outer.edges m.edge var (line_at text b) k a n)
    unexpected_said (begun_expression i f begun) (m, stands, fine, unread) n =
        stops i m f begun stands (begun, k, ys, refl, fine, unread, n)
    unexpected_said (whole_expression i (condition b c) x) (m, (s, says)) n =
        refused_at _ _ refl (to_expression i m (condition b c) x s (token k a) ys says (λ h. n (inr h)))
        (no_closing text (names_in i.heads.variables) (points_in text i.heads) m.outer.edges m.edge s k a (λ h. n (inl h)))
    unexpected_said (whole_expression i (side x b c) y) (m, (s, says)) n =
        refused_at _ _ refl (to_expression i m (side x b c) y s (token k a) ys says (λ h. n (inr h)))
        (no_semicolon text (names_in i.heads.variables) (points_in text i.heads) m.outer.edges m.edge s k a (λ h. n (inl h)))
    unexpected_said (an_assumption i b c x d) (m, (s, says)) n =
        refused_at _ _ refl (to_assumption i m b c x d s _ says)
        (no_semicolon text (names_in i.heads.variables) (points_in text i.heads) m.outer.edges m.edge s k a n)

  -- ---- each other fault
  abbrev named : List ℕ → ℕ → Token
  named x a = token (a_name x) a

  too_many : (ss : List Spot) (x : List ℕ) (a : ℕ) → place_of x (spot_names ss) ≡ None → length ss ≡ MOST_VARIABLES
      → token_at at_variable (progress (spot_names ss) [] [] at_variable) (seen_here text (a_name x) a)
      ≡ Err (fault.Parse (parse.Limit a Variables))
  too_many ss x a new full =
      ap (λ o. variable_if o (progress (spot_names ss) [] [] at_variable) (seen_here text (a_name x) a)) new
      ∙ on (nat_lt (length (spot_names ss)) MOST_VARIABLES) refl where
        on : (t : Bool) → nat_lt (length (spot_names ss)) MOST_VARIABLES ≡ t
            → variable_if None (progress (spot_names ss) [] [] at_variable) (seen_here text (a_name x) a)
            ≡ Err (fault.Parse (parse.Limit a Variables))
        on true t =
            let l = ltb-true (length (spot_names ss)) MOST_VARIABLES t in
            let size = length-map ss (λ (s : Spot). s.name) in
            absurd (omega (arith, l, size, full))
        on false t = rw t refl

  counted_fails : (count : ℕ) (next : Stepped) → (count < 2) ⊎ (MOST_POINTS < count) → counted_then count next ≡ Err (fault.Points count)
  counted_fails count next w = on (nat_le 2 count) (nat_le count MOST_POINTS) refl refl where
    on : (t u : Bool) → nat_le 2 count ≡ t → nat_le count MOST_POINTS ≡ u → counted_then count next ≡ Err (fault.Points count)
    on true true e f =
        let l = leb-true 2 count e in
        let m = leb-true count MOST_POINTS f in
        absurd (⊎_elim (λ (z : count < 2). omega (arith, l, z)) (λ (z : MOST_POINTS < count). omega (arith, m, z)) w)
    on true false e f = rw (e, f) refl
    on false u e f = rw e refl

  -- the reading behind a frame
  abbrev framed : (i : Inside) (n : Inner text i) (g : Frame) → FrameStands (names_in i.heads.variables) g → Progress
  framed i n g h = inside text i n (stand_at text (names_in i.heads.variables) n.edge g h)

  deep_said : (i : Inside) (n : Inner text i) (g : Frame) (h : FrameStands (names_in i.heads.variables) g) (rest : List Token) (d : ℕ)
      → FindsExpr (nests_at d) rest → Fault (inside_then i (frame_then g rest)) (fault.Parse (parse.Limit d Nesting))
  deep_said i n g h rest d finds =
      let f : AutoFault = fault.Parse (parse.Limit d Nesting) in
      chain_refuses text tokens start (framed i n g h) _ rest f (to_frame i n g h rest)
      (λ j e.
      let there = nests_alike _ (drop j (tokens_of text tokens)) d (here_alike text tokens j) (subst (FindsExpr (nests_at d)) (sym e)
      finds) in
      refused_fails text tokens (framed i n g h) j (parse.Limit d Nesting) f (stand_wants text (names_in i.heads.variables) n.edge g h)
      (inr (inl (d, there, refl))) refl)

  nothing_said : (i : Inside) (n : Inner text i) (g : Frame) (h : FrameStands (names_in i.heads.variables) g) (rest : List Token) (l : ℕ)
      (e : Expr) (p : ParseFault) → IsLongest rest l e → FrameFault text (names_in i.heads.variables) g e p
      → Fault (inside_then i (frame_then g rest)) (fault.Parse p)
  nothing_said i n g h rest l e p longest wrong =
      chain_refuses text tokens start (framed i n g h) _ rest (fault.Parse p) (to_frame i n g h rest)
      (λ j same. on g h j (subst (λ z. IsLongest z l e) (sym same) longest) wrong) where
        on : (g : Frame) (h : FrameStands (names_in i.heads.variables) g) (j : ℕ) → IsLongest (drop j (tokens_here text tokens)) l e
            → FrameFault text (names_in i.heads.variables) g e p → Fails text tokens (framed i n g h) j (fault.Parse p)
        on (condition a b) h j there wrong =
            let r = framed i n (condition a b) h in
            ⊎_elim (λ z. meant_fails text tokens r refl j l e there p z)
            (λ z. use_fails text tokens r refl j l e there z.0 (fault.Parse p) z.1
            (ap (λ t. assumed t n.edge (line_at text a) r) z.2))
            (use_back (meant text (names_in i.heads.variables) (first_place (spell_expr e)) e)
            (λ m. as_truth (first_place (spell_expr e)) m) p wrong)
        on (side x a b) h j there wrong =
            let r = framed i n (side x a b) h in
            ⊎_elim (λ z. meant_fails text tokens r refl j l e there p z)
            (λ z. use_fails text tokens r refl j l e there z.0 (fault.Parse p) z.1
            (ap (λ t. assigned t n.edge h.0 (line_at text a) r) z.2))
            (use_back (meant text (names_in i.heads.variables) (first_place (spell_expr e)) e) (λ m. as_side b m) p wrong)

  -- the tokens have this fault first, and so the reading ends with it
  abbrev Tokens : List Token
  Tokens = tokens_here text tokens

  abbrev Answers : AutoFault → Type 0
  Answers f = ReadsTo text tokens (Ok start) 0 (Err f)

  by_fault : (xs : List Token) (f g : AutoFault) → Tokens ≡ xs → f ≡ g → Fault xs g → Answers f
  by_fault xs f g e same h = subst Answers (sym same) (h 0 e)

  fault_said : (f : AutoFault) → FirstFault text Tokens f → Answers f
  fault_said f (unexpected_token b k a ys split u g is) =
      by_fault _ f _ split is (unexpected_said k a ys b g (unexpected_stops b k a (good_of text b g) u))
  fault_said f (variable_twice v ss x a ys i split g place is) =
      by_fault _ f _ split is (chain_refuses text tokens start _ _ (named x a ∷ ys) _ (to_variables text tokens v ss _ g)
      (token_refuses text tokens (progress (spot_names ss) [] [] at_variable) (a_name x) a ys refl _
      (ap (λ o. variable_if o (progress (spot_names ss) [] [] at_variable) (seen_here text (a_name x) a)) place)))
  fault_said f (many_variables v ss x a ys split g new full is) =
      by_fault _ f _ split is (chain_refuses text tokens start _ _ (named x a ∷ ys) _ (to_variables text tokens v ss _ g)
      (token_refuses text tokens (progress (spot_names ss) [] [] at_variable) (a_name x) a ys refl _ (too_many ss x a new full)))
  fault_said f (point_twice b v ns p ss x a ys i same split g place is) =
      let h = subst (Faultless text) same g in
      let r = progress (names_in ns) (map (point_here text) ss) [] at_point in
      by_fault _ f _ (split ∙ ap (λ (z : Begun). begun_then z (named x a ∷ ys)) same) is
      (chain_refuses text tokens start r _ (named x a ∷ ys) _ (to_points text tokens v ns p ss _ h)
      (token_refuses text tokens r (a_name x) a ys refl _
      (ap (λ o. point_if o r (seen_here text (a_name x) a)) (ap (place_of x) (names_back text ss) ∙ place))))
  fault_said f (point_count v ns p ss x a c ys split g wrong is) =
      let points : List PointName = map (point_here text) ss ++ record { name = x; line = line_at text a } ∷ [] in
      let r = progress (names_in ns) points [] past_point in
      let size : length points ≡ length ss + 1 = length-append (map (point_here text) ss) _
      ∙ ap (λ z. z + 1) (length-map ss (point_here text)) in
      by_fault _ f (fault.Points (length points)) split (is ∙ ap fault.Points (sym size))
      (chain_refuses text tokens start r _ (token semicolon c ∷ ys) _ (to_point text tokens v ns p ss x a _ g)
      (token_refuses text tokens r semicolon c ys refl _
      (counted_fails (length points) (Ok (progress (names_in ns) points [] at_edge))
      (subst (λ z. (z < 2) ⊎ (MOST_POINTS < z)) (sym size) wrong))))
  fault_said f (no_source h ws w x a ys split o place is) =
      let r = outside text h ws o (at_source (line_at text w)) in
      by_fault _ f _ split is (chain_refuses text tokens start r _ (named x a ∷ ys) _ (to_word h ws o w _)
      (token_refuses text tokens r (a_name x) a ys refl _
      (ap (λ z. from_then (point_or z (seen_here text (a_name x) a)) (line_at text w) a r)
      (ap (place_of x) (names_back text (all_spots h.points)) ∙ place))))
  fault_said f (no_target h ws w x a y b ys split (o, (p, e)) place is) =
      let r = outside text h ws o (at_target (line_at text w) p a) in
      by_fault _ f _ split is (chain_refuses text tokens start r _ (named y b ∷ ys) _ (to_source h ws o w x a p _ e)
      (token_refuses text tokens r (a_name y) b ys refl _
      (ap (λ z. to_then (not_first (point_or z (seen_here text (a_name y) b)) (seen_here text (a_name y) b)) (line_at text w) p a r)
      (ap (place_of y) (names_back text (all_spots h.points)) ∙ place))))
  fault_said f (into_entry h ws w x a y b ys split (o, (p, e)) place is) =
      let r = outside text h ws o (at_target (line_at text w) p a) in
      by_fault _ f _ split is (chain_refuses text tokens start r _ (named y b ∷ ys) _ (to_source h ws o w x a p _ e)
      (token_refuses text tokens r (a_name y) b ys refl _
      (ap (λ z. to_then (not_first (point_or z (seen_here text (a_name y) b)) (seen_here text (a_name y) b)) (line_at text w) p a r)
      (ap (place_of y) (names_back text (all_spots h.points)) ∙ place))))
  fault_said f (no_variable i x a ys split n place is) =
      let r = inside text i n (at_act n.edge) in
      by_fault _ f _ split is (chain_refuses text tokens start r _ (named x a ∷ ys) _ (to_acts i n _)
      (token_refuses text tokens r (a_name x) a ys refl _
      (ap (λ o. assigned_if o n.edge r (seen_here text (a_name x) a)) place)))
  fault_said f (too_deep i g ys d split n h finds is) = by_fault _ f _ split is (deep_said i n g h ys d finds)
  fault_said f (says_nothing i g ys l e p split n h longest wrong is) =
      by_fault _ f _ split is (nothing_said i n g h ys l e p longest wrong)

  -- ---- the whole reading
  pub reads_said : (answer : AutoAnswer) → SystemMeans text Tokens answer → ReadsTo text tokens (Ok start) 0 answer
  reads_said (Ok c) (s, reads, (outer, same)) =
      let r = outside text s.heads s.edges outer at_edge in
      let t = outside text s.heads s.edges outer at_end in
      let way : From Tokens t [] = subst (λ xs. From xs t []) reads.spelled
      (chain text tokens start r t _ (token the_end reads.end_at ∷ []) [] (to_whole s.heads s.edges outer _)
      (token_leads text tokens r the_end reads.end_at [] refl t refl)) in
      let q = way 0 refl in
      q.2 (Ok c) (ended (Ok t) q.0 (Ok c) t refl refl (ap Ok same))
  reads_said (Err f) h = fault_said f h

-- what a text is, it is read as
pub is_read : (text : List ℕ) (answer : AutoAnswer) → IsAuto text answer → IsRead text answer
is_read text answer (no_tokens f h e) = no_reading f h e
is_read text answer (by_tokens tokens h m) = some_tokens tokens h (reads_said text tokens answer m)
