-- One token on: the reading goes on behind a longer beginning, or the token has the first fault.
use Rattle.std.proofs.Common.{◌≡◌, ◌∙◌, ◌++◌, ◌<◌, ◌⊎◌, inl, inr, ℕ, zero, suc, List, [], ◌∷◌}
use Rattle.std.proofs.Common.{Option, Some, None, refl, sym, ap, subst, arith}
use Rattle.std.specs.Prelude.{codes}
use Rattle.std.specs.Str.{bytes_eq}
use Rattle.lang_tokens.specs.Lines.{line_at}
use Rattle.lang_grammar.specs.Expressions.{BeginsExpr}
use Rattle.lang_grammar.specs.Grammar.{Kind, a_name, comma, semicolon, left_brace, right_brace, left_paren, right_paren, change_sign}
use Rattle.lang_grammar.specs.Grammar.{replaces}
use Rattle.lang_grammar.specs.Grammar.{demand_word, assumes as to_assume, the_end, token, Expr, spell_expr}
use Rattle.lang_tree.specs.Tree.{Statement}
use Rattle.lang_meaning.specs.Names.{place_of}
use Rattle.flow_transitions.specs.AutoReading.{Stand, Progress, progress, start, Stepped, Wanted, a_token, an_expression, wanted_at}
use Rattle.flow_transitions.specs.AutoReading.{token_at}
use Rattle.flow_transitions.specs.AutoReading.{unexpected_fault, names_of, edge_to}
use Rattle.flow_transitions.specs.AutoReading.{at_vars, at_variable, past_variable, at_points, at_point, past_point, at_edge, at_source}
use Rattle.flow_transitions.specs.AutoReading.{at_target}
use Rattle.flow_transitions.specs.AutoReading.{at_opening, at_act, at_paren}
use Rattle.flow_transitions.specs.AutoReading.{at_condition, past_condition, at_equal, at_right_side, past_act, at_end, variable_if}
use Rattle.flow_transitions.specs.AutoReading.{point_if}
use Rattle.flow_transitions.specs.AutoReading.{counted_then, going, point_or}
use Rattle.flow_transitions.specs.AutoReading.{from_then, to_then, not_first, assigned_if, unexpected}
use Rattle.flow_transitions.specs.AutoGrammar.{Act, sets, assumes, head_then, Written, edges_then, Heads}
use Rattle.flow_transitions.specs.AutoGrammar.{heads_then}
use Rattle.flow_transitions.specs.AutoGrammar.{condition, side, Inside, Begun, no_token, some_variables}
use Rattle.flow_transitions.specs.AutoGrammar.{a_variable, all_variables}
use Rattle.flow_transitions.specs.AutoGrammar.{some_points, a_point, some_edges, an_edge, a_source, a_target, some_acts, an_assume}
use Rattle.flow_transitions.specs.AutoGrammar.{an_assigned}
use Rattle.flow_transitions.specs.AutoGrammar.{an_assumption}
use Rattle.flow_transitions.specs.AutoGrammar.{some_expression as begun_expression, an_expression as whole_expression}
use Rattle.flow_transitions.specs.AutoTrees.{spot_names, all_spots, names_in, point_here, AreNew, AreVariables, AreHeads, Outer, Inner}
use Rattle.flow_transitions.specs.AutoTrees.{FrameSays}
use Rattle.flow_transitions.specs.AutoTrees.{Faultless, FirstFault}
use Rattle.flow_transitions.specs.AutoTrees.{variable_twice, many_variables, point_twice, point_count, no_source, no_target, into_entry}
use Rattle.flow_transitions.specs.AutoTrees.{no_variable}
use Rattle.flow_transitions.specs.AutoTrees.{unexpected as unexpected_token}
use Rattle.flow_transitions.proofs.grammar.Lists.{acts_more, edges_more}
use Rattle.flow_transitions.proofs.trees.Has.{Has, outside, inside}
use Rattle.flow_transitions.proofs.trees.Has.{names_back}
use Rattle.flow_transitions.proofs.trees.Has.{acts_say_more, edges_say_more}
use Rattle.flow_transitions.proofs.trees.Here.{seen_here}
use Rattle.flow_transitions.proofs.trees.AfterNames.{Ready, After, neither, refuse, by_word, step_start, step_variables, step_variable}
use Rattle.flow_transitions.proofs.trees.AfterNames.{step_all, step_points, step_point}

module _ (text : List ℕ) where
  -- ---- edges
  step_edges : (h : Heads) (ws : List Written) (o : Outer text h ws) (k : Kind) (a : ℕ)
      → After text (some_edges h ws) k a (token_at at_edge (outside text h ws o at_edge) (seen_here text k a))
  step_edges h ws o the_end a = inr (record { heads = h; edges = ws; outer = o; place = refl; kind = refl; there = refl })
  step_edges h ws o (a_name x) a =
      by_word text (some_edges h ws) x a (codes "edge") (outside text h ws o (at_source (line_at text a))) o (named x)
      (λ e. record {
        now = an_edge h ws a;
        has = (o, refl);
        grown = λ ts. ap (λ z. heads_then h (edges_then ws (token (a_name z) a ∷ ts))) e;
        ready = λ k a. tt;
        more = λ h. cc;
      }) (bytes_eq x (codes "edge")) refl where
        named : (x : List ℕ) → (a_name x ≡ a_name (codes "edge")) ⊎ (a_name x ≡ the_end) → a_name x ≡ a_name (codes "edge")
        named x (inl e) = e
        named x (inr e) = cc
  step_edges h ws o (change_sign replaces) a = refuse text (some_edges h ws) (change_sign replaces) a o (neither comma (λ e. cc) (λ e. cc))
  step_edges h ws o (demand_word to_assume) a = refuse text (some_edges h ws) (demand_word to_assume) a o
      (neither comma (λ e. cc) (λ e. cc))
  step_edges h ws o _ a = refuse text (some_edges h ws) _ a o (neither comma (λ e. cc) (λ e. cc))

  source_by : (h : Heads) (ws : List Written) (o : Outer text h ws) (w : ℕ) (x : List ℕ) (a : ℕ) (q : Option ℕ)
      → place_of x (names_in h.points) ≡ q
      → After text (an_edge h ws w) (a_name x) a (from_then (point_or q (seen_here text (a_name x) a)) (line_at text w) a
      (outside text h ws o (at_source (line_at text w))))
  source_by h ws o w x a None e = λ ts. no_source h ws w x a ts refl o e refl
  source_by h ws o w x a (Some p) e = inl (record {
    now = a_source h ws w x a;
    has = (o, p, e, refl);
    grown = λ ts. refl;
    ready =
        λ k a. tt;
    more = λ h. cc;
  })

  step_edge : (h : Heads) (ws : List Written) (o : Outer text h ws) (w : ℕ) (k : Kind) (a : ℕ)
      → After text (an_edge h ws w) k a (token_at (at_source (line_at text w)) (outside text h ws o (at_source (line_at text w)))
      (seen_here text k a))
  step_edge h ws o w (a_name x) a =
      subst (λ y. After text (an_edge h ws w) (a_name x) a (from_then (point_or (place_of x y) (seen_here text (a_name x) a))
      (line_at text w) a (outside text h ws o (at_source (line_at text w)))))
      (sym (names_back text (all_spots h.points))) (source_by h ws o w x a (place_of x (names_in h.points)) refl)
  step_edge h ws o w (change_sign replaces) a = refuse text (an_edge h ws w) (change_sign replaces) a o (λ n. let e = n.1 in cc)
  step_edge h ws o w (demand_word to_assume) a = refuse text (an_edge h ws w) (demand_word to_assume) a o (λ n. let e = n.1 in cc)
  step_edge h ws o w _ a = refuse text (an_edge h ws w) _ a o (λ n. let e = n.1 in cc)

  module _ (h : Heads) (ws : List Written) (o : Outer text h ws) (w : ℕ) (x : List ℕ) (b p : ℕ)
      (from : place_of x (names_in h.points) ≡ Some p) where
    target_by : (y : List ℕ) (a : ℕ) (q : Option ℕ) → place_of y (names_in h.points) ≡ q
        → After text (a_source h ws w x b) (a_name y) a (to_then (not_first (point_or q (seen_here text (a_name y) a))
        (seen_here text (a_name y) a)) (line_at text w) p b
        (outside text h ws o (at_target (line_at text w) p b)))
    target_by y a None e = λ ts. no_target h ws w x b y a ts refl (o, (p, from)) e refl
    target_by y a (Some zero) e = λ ts. into_entry h ws w x b y a ts refl (o, (p, from)) e refl
    target_by y a (Some (suc q)) e = inl (record {
      now = a_target h ws w x b y a;
      has = (o, p, from, (suc q, e, omega arith, refl));
      grown = λ ts. refl;
      ready = λ k a. tt;
      more = λ h. cc;
    })

    step_source : (k : Kind) (a : ℕ)
        → After text (a_source h ws w x b) k a (token_at (at_target (line_at text w) p b)
        (outside text h ws o (at_target (line_at text w) p b)) (seen_here text k a))
    step_source (a_name y) a =
        subst (λ z. After text (a_source h ws w x b) (a_name y) a (to_then
        (not_first (point_or (place_of y z) (seen_here text (a_name y) a)) (seen_here text (a_name y) a)) (line_at text w) p b
        (outside text h ws o (at_target (line_at text w) p b)))) (sym (names_back text (all_spots h.points)))
        (target_by y a (place_of y (names_in h.points)) refl)
    step_source (change_sign replaces) a = refuse text (a_source h ws w x b) (change_sign replaces) a (o, (p, from))
        (λ n. let e = n.1 in cc)
    step_source (demand_word to_assume) a = refuse text (a_source h ws w x b) (demand_word to_assume) a (o, (p, from))
        (λ n. let e = n.1 in cc)
    step_source _ a = refuse text (a_source h ws w x b) _ a (o, (p, from)) (λ n. let e = n.1 in cc)

    step_target : (y : List ℕ) (c q : ℕ) → place_of y (names_in h.points) ≡ Some q → 0 < q → (k : Kind) (a : ℕ)
        → After text (a_target h ws w x b y c) k a (token_at (at_opening (edge_to (line_at text w) p b q))
        (outside text h ws o (at_opening (edge_to (line_at text w) p b q))) (seen_here text k a))
    step_target y c q to later left_brace a = inl (record {
      now = some_acts (record {
        heads = h;
        edges = ws;
        head = record {
          word_at = w;
          source = x;
          source_at = b;
          target = y;
          target_at =
              c;
          opening_at = a;
        };
        acts = [];
      });
      has = (
        record {
          outer = o;
          edge = edge_to (line_at text w) p b q;
          head =
              record { source = from; target = to; later = later; line = refl; place = refl };
          acts = tt;
        },
        refl,
      );
      grown = λ ts. refl;
      ready = λ k a. tt;
      more = λ h. cc;
    })
    step_target y c q to later (change_sign replaces) a = refuse text (a_target h ws w x b y c) (change_sign replaces) a
        (o, (p, from), (q, to, later)) (λ e. cc)
    step_target y c q to later (demand_word to_assume) a = refuse text (a_target h ws w x b y c) (demand_word to_assume) a
        (o, (p, from), (q, to, later)) (λ e. cc)
    step_target y c q to later _ a = refuse text (a_target h ws w x b y c) _ a (o, (p, from), (q, to, later)) (λ e. cc)

  -- ---- acts
  module _ (i : Inside) (n : Inner text i) where
    abbrev one_more : Act → Inside
    one_more act = record { heads = i.heads; edges = i.edges; head = i.head; acts = i.acts ++ act ∷ [] }

    -- an act behind the others
    abbrev acted : (act : Act) (s : Statement) → FrameSays text (names_in i.heads.variables)
        (Rattle.flow_transitions.specs.AutoTrees.frame_of act)
        (Rattle.flow_transitions.specs.AutoTrees.expr_in act) s
        → Inner text (one_more act)
    acted act s says = record {
      outer = n.outer;
      edge = Rattle.flow_transitions.specs.AutoReading.with_act n.edge s;
      head = record { source = n.head.source; target = n.head.target; later = n.head.later; line = n.head.line; place = n.head.place };
      acts = acts_say_more text (names_in i.heads.variables) i.acts n.edge.acts act s n.acts says;
    }

    abbrev closed_edge : ℕ → Written
    closed_edge a = record { head = i.head; acts = i.acts; closing_at = a }

    name_by : (x : List ℕ) (a : ℕ) (q : Option ℕ) → place_of x (names_in i.heads.variables) ≡ q
        → After text (some_acts i) (a_name x) a (assigned_if q n.edge (inside text i n (at_act n.edge)) (seen_here text (a_name x) a))
    name_by x a None e = λ ts. no_variable i x a ts refl n e refl
    name_by x a (Some var) e = inl (record {
      now = an_assigned i x a;
      has = (n, var, e, refl);
      grown = λ ts. refl;
      ready = λ k a. tt;
      more =
          λ h. cc;
    })

    step_acts : (k : Kind) (a : ℕ) → After text (some_acts i) k a (token_at (at_act n.edge) (inside text i n (at_act n.edge))
        (seen_here text k a))
    step_acts right_brace a = inl (record {
      now = some_edges i.heads (i.edges ++ closed_edge a ∷ []);
      has = (
        record {
          heads = n.outer.heads;
          edges = n.outer.edges ++ n.edge ∷ [];
          say = edges_say_more text (names_in i.heads.variables) (names_in i.heads.points) i.edges n.outer.edges (closed_edge a) n.edge
              n.outer.say n.head n.acts;
        },
        refl,
      );
      grown = λ ts. ap (heads_then i.heads) (sym (edges_more i.edges (closed_edge a) ts));
      ready = λ k a. tt;
      more = λ h. cc;
    })
    step_acts (demand_word to_assume) a =
        inl (record { now = an_assume i a; has = (n, refl); grown = λ ts. refl; ready = λ k a. tt; more = λ h. cc })
    step_acts (a_name x) a = name_by x a (place_of x (names_in i.heads.variables)) refl
    step_acts (change_sign replaces) a = refuse text (some_acts i) (change_sign replaces) a n
        (neither comma (λ e. cc) (neither comma (λ e. cc) (λ m. let e = m.1 in cc)))
    step_acts _ a = refuse text (some_acts i) _ a n (neither comma (λ e. cc) (neither comma (λ e. cc) (λ m. let e = m.1 in cc)))

    step_assume : (b : ℕ) (k : Kind) (a : ℕ)
        → After text (an_assume i b) k a (token_at (at_paren n.edge (line_at text b)) (inside text i n (at_paren n.edge (line_at text b)))
        (seen_here text k a))
    step_assume b left_paren a = inl (record {
      now = begun_expression i (condition b a) [];
      has = (refl, (n, at_condition n.edge (line_at text b), refl, refl));
      grown = λ ts. refl;
      ready = λ k a. tt;
      more = λ h. cc;
    })
    step_assume b (change_sign replaces) a = refuse text (an_assume i b) (change_sign replaces) a n (λ e. cc)
    step_assume b (demand_word to_assume) a = refuse text (an_assume i b) (demand_word to_assume) a n (λ e. cc)
    step_assume b _ a = refuse text (an_assume i b) _ a n (λ e. cc)

    step_assigned : (x : List ℕ) (b var : ℕ) → place_of x (names_in i.heads.variables) ≡ Some var → (k : Kind) (a : ℕ)
        → After text (an_assigned i x b) k a (token_at (at_equal n.edge var (line_at text b))
        (inside text i n (at_equal n.edge var (line_at text b))) (seen_here text k a))
    step_assigned x b var e (change_sign replaces) a = inl (record {
      now = begun_expression i (side x b a) [];
      has = (refl, (n, at_right_side n.edge var (line_at text b) a, (var, e, refl), refl));
      grown = λ ts. refl;
      ready = λ k a. tt;
      more = λ h. cc;
    })
    step_assigned x b var e (demand_word to_assume) a = refuse text (an_assigned i x b) (demand_word to_assume) a (n, (var, e)) (λ e. cc)
    step_assigned x b var e _ a = refuse text (an_assigned i x b) _ a (n, (var, e)) (λ e. cc)

    step_condition : (b c : ℕ) (e : Expr) (s : Statement) → FrameSays text (names_in i.heads.variables) (condition b c) e s
        → (k : Kind) (a : ℕ)
        → (BeginsExpr (spell_expr e ++ token k a ∷ []) → ⊥)
        → After text (whole_expression i (condition b c) e) k a (token_at (past_condition n.edge s)
        (inside text i n (past_condition n.edge s)) (seen_here text k a))
    step_condition b c e s says right_paren a stops = inl (record {
      now = an_assumption i b c e a;
      has = (n, s, says, refl);
      grown = λ ts. refl;
      ready = λ k a. tt;
      more = λ h. cc;
    })
    step_condition b c e s says (change_sign replaces) a stops = refuse text (whole_expression i (condition b c) e) (change_sign replaces) a
        (n, (s, says)) (neither comma (λ e. cc) stops)
    step_condition b c e s says (demand_word to_assume) a stops = refuse text (whole_expression i (condition b c) e) (demand_word to_assume)
        a (n, (s, says)) (neither comma (λ e. cc) stops)
    step_condition b c e s says _ a stops = refuse text (whole_expression i (condition b c) e) _ a (n, (s, says))
        (neither comma (λ e. cc) stops)

    step_side : (x : List ℕ) (b c : ℕ) (e : Expr) (s : Statement) → FrameSays text (names_in i.heads.variables) (side x b c) e s
        → (k : Kind) (a : ℕ)
        → (BeginsExpr (spell_expr e ++ token k a ∷ []) → ⊥)
        → After text (whole_expression i (side x b c) e) k a (token_at (past_act n.edge s) (inside text i n (past_act n.edge s))
        (seen_here text k a))
    step_side x b c e s says semicolon a stops = inl (record {
      now = some_acts (one_more (sets x b c e a));
      has = (acted (sets x b c e a) s says, refl);
      grown = λ ts. ap (λ z. heads_then i.heads (edges_then i.edges (head_then i.head z))) (sym (acts_more i.acts (sets x b c e a) ts));
      ready = λ k a. tt;
      more = λ h. cc;
    })
    step_side x b c e s says (change_sign replaces) a stops = refuse text (whole_expression i (side x b c) e) (change_sign replaces) a
        (n, (s, says)) (neither comma (λ e. cc) stops)
    step_side x b c e s says (demand_word to_assume) a stops = refuse text (whole_expression i (side x b c) e) (demand_word to_assume) a
        (n, (s, says)) (neither comma (λ e. cc) stops)
    step_side x b c e s says _ a stops = refuse text (whole_expression i (side x b c) e) _ a (n, (s, says)) (neither comma (λ e. cc) stops)

    step_assumption : (b c : ℕ) (e : Expr) (d : ℕ) (s : Statement) → FrameSays text (names_in i.heads.variables) (condition b c) e s
        → (k : Kind) (a : ℕ)
        → After text (an_assumption i b c e d) k a (token_at (past_act n.edge s) (inside text i n (past_act n.edge s)) (seen_here text k a))
    step_assumption b c e d s says semicolon a = inl (record {
      now = some_acts (one_more (assumes b c e d a));
      has = (acted (assumes b c e d a) s says, refl);
      grown = λ ts. ap (λ z. heads_then i.heads (edges_then i.edges (head_then i.head z))) (sym (acts_more i.acts (assumes b c e d a) ts));
      ready = λ k a. tt;
      more = λ h. cc;
    })
    step_assumption b c e d s says (change_sign replaces) a = refuse text (an_assumption i b c e d) (change_sign replaces) a (n, (s, says))
        (λ e. cc)
    step_assumption b c e d s says (demand_word to_assume) a = refuse text (an_assumption i b c e d) (demand_word to_assume) a
        (n, (s, says)) (λ e. cc)
    step_assumption b c e d s says _ a = refuse text (an_assumption i b c e d) _ a (n, (s, says)) (λ e. cc)

  -- ---- all of them
  pub step : (b : Begun) (r : Progress) → Has text b r → wanted_at r.stand ≡ a_token → (k : Kind) (a : ℕ) → Ready b k a
      → After text b k a (token_at r.stand r (seen_here text k a))
  step b r h w k a y = on b h y where
    by : (b : Begun) (s : Progress) → r ≡ s → After text b k a (token_at s.stand s (seen_here text k a))
        → After text b k a (token_at r.stand r (seen_here text k a))
    by b s e m = subst (λ (z : Progress). After text b k a (token_at z.stand z (seen_here text k a))) (sym e) m

    on : (b : Begun) → Has text b r → Ready b k a → After text b k a (token_at r.stand r (seen_here text k a))
    on no_token h y = by no_token start h (step_start text k a)
    on (some_variables v ss) h y = by (some_variables v ss) _ h.1 (step_variables text v ss k a h.0)
    on (a_variable v ss x b) h y = by (a_variable v ss x b) _ h.1 (step_variable text v ss x b k a h.0)
    on (all_variables v ns) h y = by (all_variables v ns) _ h.1 (step_all text v ns k a h.0)
    on (some_points v ns p ss) h y = by (some_points v ns p ss) _ h.1 (step_points text v ns p ss k a h.0)
    on (a_point v ns p ss x b) h y = by (a_point v ns p ss x b) _ h.1 (step_point text v ns p ss x b k a h.0)
    on (some_edges c ws) (o, e) y = by (some_edges c ws) _ e (step_edges c ws o k a)
    on (an_edge c ws w) (o, e) y = by (an_edge c ws w) _ e (step_edge c ws o w k a)
    on (a_source c ws w x b) (o, p, from, e) y = by (a_source c ws w x b) _ e (step_source c ws o w x b p from k a)
    on (a_target c ws w x b z d) (o, p, from, (q, to, later, e)) y = by (a_target c ws w x b z d) _ e
        (step_target c ws o w x b p from z d q to later k a)
    on (some_acts i) (n, e) y = by (some_acts i) _ e (step_acts i n k a)
    on (an_assume i b) (n, e) y = by (an_assume i b) _ e (step_assume i n b k a)
    on (an_assigned i x b) (n, var, v, e) y = by (an_assigned i x b) _ e (step_assigned i n x b var v k a)
    on (begun_expression i (condition b c) begun) (z, (n, stand, st, e)) y =
        let q : an_expression ≡ a_token = ap wanted_at (sym st) ∙ ap (λ (p : Progress). wanted_at p.stand) (sym e) ∙ w in cc
    on (begun_expression i (side x b c) begun) (z, (n, stand, st, e)) y =
        let q : an_expression ≡ a_token = ap wanted_at (sym st.2) ∙ ap (λ (p : Progress). wanted_at p.stand) (sym e) ∙ w in cc
    on (whole_expression i (condition b c) e) (n, s, says, h) y = by (whole_expression i (condition b c) e) _ h
        (step_condition i n b c e s says k a y)
    on (whole_expression i (side x b c) e) (n, s, says, h) y = by (whole_expression i (side x b c) e) _ h
        (step_side i n x b c e s says k a y)
    on (an_assumption i b c e d) (n, s, says, h) y = by (an_assumption i b c e d) _ h (step_assumption i n b c e d s says k a)
