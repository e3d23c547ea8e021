-- What the reading answers is what the trees say.
use Rattle.std.proofs.Common.{◌≡◌, ◌∙◌, ◌+◌, ◌++◌, ◌<◌, ◌≤◌, ◌⊎◌, inl, inr, ℕ, zero, suc, Bool, true, false, nat_lt, List, [], ◌∷◌, length}
use Rattle.std.proofs.Common.{map, drop, get_or, Option, Result, Ok, Err, refl, sym, ap, ap₂, subst, arith, append_assoc}
use Rattle.std.proofs.Math.ListN.{get_or-append}
use Rattle.std.proofs.Math.Seq.{drop-append_seam}
use Rattle.std.proofs.lemmas.Bool.{ltb-true, ltb-false}
use Rattle.std.proofs.lemmas.List.{drop-drop, drop-map, drop_all, length-append}
use Rattle.lang_tokens.specs.declared.lexicon.Lexicon.TheVariants.{Own}
use Rattle.lang_tokens.specs.Lexemes.{IsToken}
use Rattle.lang_tokens.specs.Lines.{line_at}
use Rattle.lang_tokens.specs.Reading.{end_at}
use Rattle.lang_tokens.specs.TokenLists.{AreTokensAfter, AreTokensOf}
use Rattle.lang_tokens.specs.declared.token.Kind as lex_kind
use Rattle.lang_tokens.specs.declared.token.Token as lex_token
use Rattle.lang_tokens.specs.declared.word.Word as lex_word
use Rattle.lang_tokens.specs.declared.sign.Sign as lex_sign
use Rattle.lang_grammar.specs.Expressions.{IsLongest, BeginsExpr, FineExpr, FindsExpr, stops_at}
use Rattle.lang_grammar.specs.Grammar.{Kind, the_end, Token, token, Expr, number, variable, free, grouped, prefixed, joined, spell_expr}
use Rattle.lang_grammar.specs.View.{tokens_of}
use Rattle.lang_tree.specs.Tree.{assume}
use Rattle.lang_meaning.specs.declared.fault.ParseFault.{ParseFault}
use Rattle.lang_meaning.specs.declared.fault.ParseFault.TheVariants as parse
use Rattle.lang_meaning.specs.declared.fault.Limit.TheVariants.{Nesting}
use Rattle.lang_meaning.specs.Results as results
use Rattle.lang_meaning.specs.Walk.{assignment}
use Rattle.lang_meaning.specs.Expressions.{Meaning, as_truth, first_place, meant}
use Rattle.lang_meaning.specs.ExpressionAnswers.{ExpressionAnswer, ExpressionMeans}
use Rattle.lang_feed.proofs.texts.Expressions.{longest_within}
use Rattle.flow_transitions.specs.declared.auto_edge.AutoEdge.{AutoEdge}
use Rattle.flow_transitions.specs.declared.fault.AutoFault.TheVariants as fault
use Rattle.flow_transitions.specs.declared.reading.symbol.Symbol.TheVariants as symbol
use Rattle.flow_transitions.specs.AutoSymbols.{seen_at}
use Rattle.flow_transitions.specs.AutoReading.{Stand, Progress, start, Stepped, Wanted, a_token, an_expression, nothing, wanted_at}
use Rattle.flow_transitions.specs.AutoReading.{token_at, expression_at, as_side}
use Rattle.flow_transitions.specs.AutoReading.{at_condition, at_right_side, at_end, assumed, assigned, content_of}
use Rattle.flow_transitions.specs.AutoReading.{AutoAnswer}
use Rattle.flow_transitions.specs.AutoReading.{ReadsTo, failed, ended, by_token, by_expression, no_expression}
use Rattle.flow_transitions.specs.AutoGrammar.{tokens_here, kind_here, Written, Heads, system_then, Frame, condition, side, frame_then}
use Rattle.flow_transitions.specs.AutoGrammar.{Inside, inside_then, Begun}
use Rattle.flow_transitions.specs.AutoGrammar.{begun_then, no_token, some_variables, a_variable, all_variables, some_points, a_point}
use Rattle.flow_transitions.specs.AutoGrammar.{some_edges}
use Rattle.flow_transitions.specs.AutoGrammar.{an_edge, a_source, a_target}
use Rattle.flow_transitions.specs.AutoGrammar.{some_acts, an_assume, an_assigned, an_assumption, some_expression as begun_expression}
use Rattle.flow_transitions.specs.AutoGrammar.{an_expression as whole_expression}
use Rattle.flow_transitions.specs.AutoTrees.{names_in, Outer, Inner, FrameSays, FrameStands, FrameFault, truth_of, side_of, FirstFault}
use Rattle.flow_transitions.specs.AutoTrees.{too_deep}
use Rattle.flow_transitions.specs.AutoTrees.{says_nothing, SystemMeans}
use Rattle.flow_transitions.specs.AutoTrees.{unexpected as unexpected_token}
use Rattle.flow_transitions.proofs.grammar.Accepts.{unexpected_by}
use Rattle.flow_transitions.proofs.progress.Range.{not_last, some_token}
use Rattle.lang_tokens.proofs.reading.Placed.{placed_tokens}
use Rattle.flow_transitions.specs.AutoReading.{IsRead, no_tokens as no_reading, some_tokens}
use Rattle.flow_transitions.specs.AutoTexts.{IsAuto, no_tokens, by_tokens}
use Rattle.flow_transitions.proofs.trees.Alike.{alike_here, longest_there, stops_alike, nests_alike}
use Rattle.flow_transitions.proofs.trees.AfterNames.{Ready, IsReady, After}
use Rattle.flow_transitions.proofs.trees.After.{step}
use Rattle.flow_transitions.proofs.trees.Has.{Has, StandsBefore, stand_behind, outside, inside, good_of, outer_good}
use Rattle.flow_transitions.proofs.trees.Here.{symbol_here, seen_here, there, kind_at, drop_here, token_seen, place_seen, symbol_there}

-- ---- what comes next
abbrev want_of : Begun → Wanted
want_of (begun_expression i f begun) = an_expression
want_of _ = a_token

stand_wants : (text : List ℕ) (i : Inside) (n : Inner text i) (f : Frame) (stand : Stand) → StandsBefore text i n f stand
    → wanted_at stand ≡ an_expression
stand_wants text i n (condition a b) stand e = ap wanted_at e
stand_wants text i n (side x a b) stand e = ap wanted_at e.2

behind_wants : (f : Frame) (e : AutoEdge) (s : Rattle.lang_tree.specs.Tree.Statement) → wanted_at (stand_behind f e s) ≡ a_token
behind_wants (condition a b) e s = refl
behind_wants (side x a b) e s = refl

-- behind a beginning the reading wants an expression where one has to stand, and else a token
pub wanted_has : (text : List ℕ) (b : Begun) (r : Progress) → Has text b r → wanted_at r.stand ≡ want_of b
wanted_has text b r h = on b h where
  by : {s : Progress} → r ≡ s → wanted_at r.stand ≡ wanted_at s.stand
  by e = ap (λ (p : Progress). wanted_at p.stand) e

  on : (b : Begun) → Has text b r → wanted_at r.stand ≡ want_of b
  on no_token h = by h
  on (some_variables v ss) h = by h.1
  on (a_variable v ss x a) h = by h.1
  on (all_variables v ns) h = by h.1
  on (some_points v ns p ss) h = by h.1
  on (a_point v ns p ss x a) h = by h.1
  on (some_edges c ws) h = by h.1
  on (an_edge c ws w) h = by h.1
  on (a_source c ws w x a) h = by h.3
  on (a_target c ws w x a y d) h = by h.3.3
  on (some_acts i) h = by h.1
  on (an_assume i a) h = by h.1
  on (an_assigned i x a) h = by h.3
  on (begun_expression i f begun) h = by h.1.3 ∙ stand_wants text i h.1.0 f h.1.1 h.1.2
  on (whole_expression i f e) h = by h.3 ∙ behind_wants f h.0.edge h.1
  on (an_assumption i a d e c) h = by h.3

-- only behind a frame an expression comes
pub record BeforeExpression (text : List ℕ) (b : Begun) (r : Progress) : Type 0 where
  -- the inside of the edge
  pub i : Inside
  -- the frame before the expression
  pub f : Frame
  -- what stands within the edge is without fault
  pub n : Inner text i
  -- where the reading stands
  pub stand : Stand
  -- the beginning is this inside and this frame
  pub place : b ≡ begun_expression i f []
  -- the reading stands behind the frame
  pub stands : StandsBefore text i n f stand
  -- what the reading has of the text is what stands within the edge says
  pub there : r ≡ inside text i n stand

before_expression : (text : List ℕ) (b : Begun) (r : Progress) → Has text b r → wanted_at r.stand ≡ an_expression
    → BeforeExpression text b r
before_expression text b r h w = on b h (sym (wanted_has text b r h) ∙ w) where
  on : (b : Begun) → Has text b r → want_of b ≡ an_expression → BeforeExpression text b r
  on (begun_expression i f begun) h q =
      record { i = i; f = f; n = h.1.0; stand = h.1.1; place = ap (begun_expression i f) h.0; stands = h.1.2; there = h.1.3 }
  on _ h q = cc

want_some : (b : Begun) → want_of b ≡ nothing → ⊥
want_some (begun_expression i f begun) h = cc
want_some _ h = cc

-- ---- expressions
pub first_same : (e : Expr) (xs : List Token) → first_place (spell_expr e ++ xs) ≡ first_place (spell_expr e)
first_same (number n a) xs = refl
first_same (variable x a) xs = refl
first_same (free a b c) xs = refl
first_same (grouped a e b) xs = refl
first_same (prefixed p a e) xs = refl
first_same (joined e o a f) xs = ap first_place (append_assoc (spell_expr e) _ xs) ∙ first_same e _ ∙ sym (first_same e _)

abbrev pub next_with : ℕ → Result Meaning ParseFault → ExpressionAnswer
next_with k x = results.◌>>=◌ x (λ m. Ok (m, k))

meaning_back : (k next : ℕ) (m : Meaning) (x : Result Meaning ParseFault) → Ok (m, next) ≡ next_with k x → (x ≡ Ok m) × (next ≡ k)
meaning_back k next m (Ok y) e =
    let q : (m, next) ≡ (y, k) = cc in
    let there : y ≡ m = sym (ap (λ (p : Meaning × ℕ). p.0) q) in (ap Ok there, ap (λ (p : Meaning × ℕ). p.1) q)
meaning_back k next m (Err f) e = cc

fault_back : (k : ℕ) (f : ParseFault) (x : Result Meaning ParseFault) → Err f ≡ next_with k x → x ≡ Err f
fault_back k f (Ok y) e = cc
fault_back k f (Err g) e = cc

-- ---- the end is last
kind_goes : (k : lex_kind.Kind) (b : List ℕ) → IsToken k b → kind_here b k ≡ the_end → ⊥
kind_goes lex_kind.TheVariants.End b h e = h
kind_goes lex_kind.TheVariants.Name b h e = cc
kind_goes (lex_kind.TheVariants.Number n) b h e = cc
kind_goes (lex_kind.TheVariants.Foreign f) b h e = cc
kind_goes (lex_kind.TheVariants.Aside s) b h e = cc
kind_goes (lex_kind.TheVariants.Word w) b h e = words w e where
  words : (w : lex_word.Word) → kind_here b (lex_kind.TheVariants.Word w) ≡ the_end → ⊥
  words lex_word.TheVariants.VerifierAssume e = cc
  words lex_word.TheVariants.Assert e = cc
  words lex_word.TheVariants.VerifierAssert e = cc
  words _ e = cc
kind_goes (lex_kind.TheVariants.Sign s) b h e = signs s e where
  signs : (s : lex_sign.Sign) → kind_here b (lex_kind.TheVariants.Sign s) ≡ the_end → ⊥
  signs lex_sign.TheVariants.Comma e = cc
  signs _ e = cc

placed_goes : (text : List ℕ) (place : ℕ) (ts : List lex_token.Token) (i : ℕ) → AreTokensAfter text place ts → i < length ts
    → kind_at text ts i ≡ the_end → ⊥
placed_goes text place [] i a h e = omega arith
placed_goes text place (t ∷ ts) zero a h e = kind_goes t.kind _ a.0.is_token e
placed_goes text place (t ∷ ts) (suc i) a h e = placed_goes text (t.at + t.len) ts i a.1 (omega (arith, h)) e

end_last : (text : List ℕ) (ts : List lex_token.Token) (i : ℕ) → AreTokensOf text ts → kind_at text ts i ≡ the_end
    → drop (i + 1) (tokens_here text ts) ≡ []
end_last text ts i a h = drop-map _ (i + 1) ts ∙ ap (map _) (drop_all (i + 1) ts (on (nat_lt i (length a.front)) refl)) where
  size : length ts ≡ length a.front + 1
  size = ap length (sym a.ended) ∙ length-append a.front (end_at (length text) ∷ [])

  on : (b : Bool) → nat_lt i (length a.front) ≡ b → length ts ≤ i + 1
  on true m =
      let l = ltb-true i (length a.front) m in
      let same : there text ts i ≡ there text a.front i = ap (λ x. get_or x i (end_at 0)) (sym a.ended)
      ∙ get_or-append a.front (end_at (length text) ∷ []) (end_at 0) i l in
      absurd (placed_goes text 0 a.front i a.placed l (ap (λ (t : lex_token.Token). kind_here
      (Rattle.std.specs.Prelude.slice_range text t.at (t.at + t.len)) t.kind) (sym same) ∙ h))
  on false m = let l = ltb-false i (length a.front) m in omega (arith, size, l)

end_only : (k : Kind) → symbol_here k ≡ symbol.End → k ≡ the_end
end_only the_end h = refl
end_only (Rattle.lang_grammar.specs.Grammar.change_sign Rattle.lang_grammar.specs.Grammar.replaces) h = cc
end_only (Rattle.lang_grammar.specs.Grammar.demand_word Rattle.lang_grammar.specs.Grammar.assumes) h = cc
end_only _ h = cc

module _ (text : List ℕ) (tokens : List lex_token.Token) (are : AreTokensOf text tokens) where
  abbrev pub rest : ℕ → List Token
  rest i = drop i (tokens_here text tokens)

  abbrev ReadyAt : Begun → List Token → Type 0
  ReadyAt b [] = Unit {0}
  ReadyAt b (token k a ∷ ts) = Ready b k a

  ready_any : (b : Begun) → IsReady b → (ts : List Token) → ReadyAt b ts
  ready_any b h [] = tt
  ready_any b h (token k a ∷ ts) = h k a

  -- where the reading stands in the text
  pub record Stays (r : Progress) (i : ℕ) : Type 0 where
    -- the beginning
    pub b : Begun
    -- the reading stands behind it
    pub has : Has text b r
    -- the tokens are it and those that are left
    pub split : tokens_here text tokens ≡ begun_then b (rest i)
    -- the next token may follow it
    pub ready : ReadyAt b (rest i)
    -- there is a next token
    pub within : i < length tokens

  pub record Done (r : Progress) : Type 0 where
    -- the heads of the text
    pub heads : Heads
    -- its edges
    pub edges : List Written
    -- they are without fault
    pub outer : Outer text heads edges
    -- the place of the end
    pub end_at : ℕ
    -- the reading is over, with what they say
    pub is : r ≡ outside text heads edges outer at_end
    -- the tokens spell them, with the end behind them
    pub whole : tokens_here text tokens ≡ system_then (record { heads = heads; edges = edges }) (token the_end end_at ∷ [])

  abbrev Inv : Stepped → ℕ → Type 0
  Inv (Ok r) i = Stays r i ⊎ Done r
  Inv (Err f) i = FirstFault text (tokens_here text tokens) f

  abbrev Says : AutoAnswer → Type 0
  Says answer = SystemMeans text (tokens_here text tokens) answer

  ended_by : (r : Progress) (i : ℕ) → wanted_at r.stand ≡ nothing → Stays r i ⊎ Done r → Says (Ok (content_of r))
  ended_by r i w (inl s) = absurd (want_some s.b (sym (wanted_has text s.b r s.has) ∙ w))
  ended_by r i w (inr d) = (
    record { heads = d.heads; edges = d.edges },
    record { end_at = d.end_at; spelled = sym d.whole; good = outer_good text d.heads d.edges d.outer },
    (d.outer, ap content_of d.is),
  )

  done_wants : (r : Progress) → Done r → wanted_at r.stand ≡ nothing
  done_wants r d = ap (λ (p : Progress). wanted_at p.stand) d.is

  -- ---- a token
  module _ (r : Progress) (i : ℕ) (s : Stays r i) where
    abbrev k : Kind
    k = kind_at text tokens i

    abbrev a : ℕ
    a = (there text tokens i).at

    here : rest i ≡ token k a ∷ rest (i + 1)
    here = drop_here text tokens i s.within

    split_here : tokens_here text tokens ≡ begun_then s.b (token k a ∷ rest (i + 1))
    split_here = s.split ∙ ap (begun_then s.b) here

    after : (x : Stepped) → After text s.b k a x → Inv x (i + 1)
    after (Ok q) (inl m) = inl (record {
      b = m.now;
      has = m.has;
      split = split_here ∙ m.grown (rest (i + 1));
      ready = ready_any m.now m.ready (rest (i + 1));
      within = not_last text tokens i are s.within (λ e. m.more (end_only k (sym (symbol_there text tokens i s.within) ∙ e)));
    })
    after (Ok q) (inr d) = inr (record {
      heads = d.heads;
      edges = d.edges;
      outer = d.outer;
      end_at = a;
      is = d.there;
      whole = split_here ∙ ap (λ (b : Begun). begun_then b (token k a ∷ rest (i + 1))) d.place
          ∙ ap₂ (λ z ts. begun_then (some_edges d.heads d.edges) (token z a ∷ ts)) d.kind (end_last text tokens i are d.kind);
    })
    after (Err f) m = subst (λ ts. FirstFault text ts f) (sym split_here) (m (rest (i + 1)))

    token_next : wanted_at r.stand ≡ a_token → Inv (token_at r.stand r (seen_at text tokens i)) (i + 1)
    token_next w =
        subst (λ x. Inv x (i + 1)) (sym (token_seen text tokens i r.stand r s.within))
        (after (token_at r.stand r (seen_here text k a)) (step text s.b r s.has w k a (subst (ReadyAt s.b) here s.ready)))

  by_next : (r : Progress) (i : ℕ) → wanted_at r.stand ≡ a_token → Stays r i ⊎ Done r
      → Inv (token_at r.stand r (seen_at text tokens i)) (i + 1)
  by_next r i w (inl s) = token_next r i s w
  by_next r i w (inr d) = let q : nothing ≡ a_token = sym (done_wants r d) ∙ w in cc

  -- ---- an expression
  module _ (r : Progress) (i : ℕ) (s : Stays r i) (b : BeforeExpression text s.b r) where
    abbrev names : List (List ℕ)
    names = names_in b.i.heads.variables

    names_are : r.variables ≡ names
    names_are = ap (λ (p : Progress). p.variables) b.there

    split_frame : tokens_here text tokens ≡ begun_then (begun_expression b.i b.f []) (rest i)
    split_frame = s.split ∙ ap (λ (z : Begun). begun_then z (rest i)) b.place

    frame_stands : FrameStands names b.f
    frame_stands = on b.f b.stands where
      on : (f : Frame) → StandsBefore text b.i b.n f b.stand → FrameStands names f
      on (condition p q) h = tt
      on (side x p q) h = (h.0, h.1)

    refused_by : (f : ParseFault) → ExpressionMeans text (tokens_of text tokens) i r.variables (Err f)
        → FirstFault text (tokens_here text tokens) (fault.Parse f)
    refused_by f (inl (d, finds, e)) = on (stops_alike (drop i (tokens_of text tokens)) (rest i) d (alike_here text tokens i) finds) where
      on : FindsExpr (stops_at d) (rest i) → FirstFault text (tokens_here text tokens) (fault.Parse f)
      on (front, l, tail, split, fine, unread, stops) =
          let less : FrameStands names b.f = frame_stands in
          unexpected_token (begun_expression b.i b.f front) l d tail
          (split_frame ∙ ap (λ z. inside_then b.i (frame_then b.f z)) split)
          (unexpected_by (begun_expression b.i b.f front) l d (good_of text (begun_expression b.i b.f front) (b.n, less, fine, unread))
          stops)
          (b.n, less, fine, unread) (ap fault.Parse (let q : f ≡ parse.Unexpected d = cc in q))
    refused_by f (inr (inl (d, finds, e))) =
        too_deep b.i b.f (rest i) d split_frame b.n frame_stands (nests_alike (drop i (tokens_of text tokens)) (rest i) d
        (alike_here text tokens i) finds)
        (ap fault.Parse (let q : f ≡ parse.Limit d Nesting = cc in q))
    refused_by f (inr (inr (e, n, l, h))) =
        let place : first_place (drop i (tokens_of text tokens)) ≡ first_place (spell_expr e) =
        ap first_place (l.split ∙ ap (λ y. y ++ l.next ∷ l.rest) (sym l.reads.spelled)) ∙ first_same e (l.next ∷ l.rest) in
        let m : meant text names (first_place (spell_expr e)) e ≡ Err f =
        ap₂ (λ ns q. meant text ns q e) (sym names_are) (sym place)
        ∙ fault_back (i + n) f (meant text r.variables (first_place (drop i (tokens_of text tokens))) e) h in
        says_nothing b.i b.f (rest i) n e f split_frame b.n frame_stands
        (longest_there (drop i (tokens_of text tokens)) (rest i) n e (alike_here text tokens i) l) (on b.f e m) refl where
          on : (g : Frame) (e : Expr) → meant text names (first_place (spell_expr e)) e ≡ Err f → FrameFault text names g e f
          on (condition p q) e m = ap (λ x. results.◌>>=◌ x (λ y. as_truth (first_place (spell_expr e)) y)) m
          on (side x p q) e m = ap (λ z. results.◌>>=◌ z (λ y. as_side q y)) m

    module _ (m : Meaning) (e : Expr) (n : ℕ) (l : IsLongest (drop i (tokens_of text tokens)) n e)
        (is : meant text r.variables (first_place (drop i (tokens_of text tokens))) e ≡ Ok m) where
      longest : IsLongest (rest i) n e
      longest = longest_there (drop i (tokens_of text tokens)) (rest i) n e (alike_here text tokens i) l

      whole : rest i ≡ spell_expr e ++ longest.next ∷ longest.rest
      whole = longest.split ∙ ap (λ y. y ++ longest.next ∷ longest.rest) (sym longest.reads.spelled)

      behind : rest (i + n) ≡ longest.next ∷ longest.rest
      behind =
          sym (drop-drop n i (tokens_here text tokens)) ∙ ap₂ drop (sym longest.size ∙ ap length (sym longest.reads.spelled)) whole
          ∙ drop-append_seam (spell_expr e) (longest.next ∷ longest.rest)

      place : first_place (drop i (tokens_of text tokens)) ≡ first_place (spell_expr e)
      place = ap first_place (l.split ∙ ap (λ y. y ++ l.next ∷ l.rest) (sym l.reads.spelled)) ∙ first_same e (l.next ∷ l.rest)

      first_is : (seen_at text tokens i).at ≡ first_place (spell_expr e)
      first_is =
          place_seen text tokens i s.within ∙ sym (ap first_place (drop_here text tokens i s.within)) ∙ ap first_place whole
          ∙ first_same e (longest.next ∷ longest.rest)

      says : meant text names (first_place (spell_expr e)) e ≡ Ok m
      says = ap₂ (λ ns q. meant text ns q e) (sym names_are) (sym place) ∙ is

      split_more : tokens_here text tokens ≡ begun_then (whole_expression b.i b.f e) (rest (i + n))
      split_more = split_frame ∙ ap (λ z. inside_then b.i (frame_then b.f z)) (whole ∙ ap (λ y. spell_expr e ++ y) (sym behind))

      fine : FineExpr (spell_expr e)
      fine = subst FineExpr (sym l.reads.spelled) l.fine

      stays : (st : Rattle.lang_tree.specs.Tree.Statement) → FrameSays text names b.f e st
          → Stays (inside text b.i b.n (stand_behind b.f b.n.edge st)) (i + n)
      stays st h = record {
        b = whole_expression b.i b.f e;
        has = (b.n, st, h, refl);
        split = split_more;
        ready = subst (ReadyAt (whole_expression b.i b.f e)) (sym behind) (ready_next longest.next longest.ends);
        within = longest_within text tokens i n s.within (e, l);
      } where
        ready_next : (t : Token) → (BeginsExpr (longest.front ++ t ∷ []) → ⊥) → ReadyAt (whole_expression b.i b.f e) (t ∷ longest.rest)
        ready_next (token k a) stops = λ h. stops (subst (λ y. BeginsExpr (y ++ token k a ∷ [])) longest.reads.spelled h)

      faulty : (p : ParseFault) → FrameFault text names b.f e p → FirstFault text (tokens_here text tokens) (fault.Parse p)
      faulty p h = says_nothing b.i b.f (rest i) n e p split_frame b.n frame_stands longest h refl

      -- by the frame
      by_frame : (f : Frame) → f ≡ b.f → StandsBefore text b.i b.n f b.stand
          → Inv (expression_at b.stand (seen_at text tokens i).at m (inside text b.i b.n b.stand)) (i + n)
      by_frame (condition p q) same h =
          subst (λ z. Inv (expression_at z (seen_at text tokens i).at m (inside text b.i b.n z)) (i + n)) (sym h)
          (subst (λ z. Inv (assumed (as_truth z m) b.n.edge (line_at text p) (inside text b.i b.n (at_condition b.n.edge (line_at text p))))
          (i + n)) (sym first_is)
          (on (as_truth (first_place (spell_expr e)) m) refl)) where
            truth : truth_of text names e ≡ as_truth (first_place (spell_expr e)) m
            truth = ap (λ x. results.◌>>=◌ x (λ y. as_truth (first_place (spell_expr e)) y)) says

            on : (t : Result Rattle.lang_tree.specs.Tree.Condition ParseFault) → as_truth (first_place (spell_expr e)) m ≡ t
                → Inv (assumed t b.n.edge (line_at text p) (inside text b.i b.n (at_condition b.n.edge (line_at text p)))) (i + n)
            on (Ok c) t =
                inl (subst (λ g. Stays (inside text b.i b.n (stand_behind g b.n.edge (assume c (line_at text p)))) (i + n)) (sym same)
                (stays (assume c (line_at text p)) (subst (λ g. FrameSays text names g e (assume c (line_at text p))) same
                (l.reads.good, fine, (c, truth ∙ t, refl)))))
            on (Err f) t = faulty f (subst (λ g. FrameFault text names g e f) same (truth ∙ t))
      by_frame (side x p q) same (var, known, h) =
          subst (λ z. Inv (expression_at z (seen_at text tokens i).at m (inside text b.i b.n z)) (i + n)) (sym h)
          (on (as_side q m) refl) where
            truth : side_of text names q e ≡ as_side q m
            truth = ap (λ z. results.◌>>=◌ z (λ y. as_side q y)) says

            on : (t : Result (Option Rattle.lang_tree.specs.declared.form.Form.Form) ParseFault) → as_side q m ≡ t
                → Inv (assigned t b.n.edge var (line_at text p) (inside text b.i b.n (at_right_side b.n.edge var (line_at text p) q)))
                (i + n)
            on (Ok g) t =
                inl (subst (λ g2. Stays (inside text b.i b.n (stand_behind g2 b.n.edge (assignment var g (line_at text p)))) (i + n))
                (sym same)
                (stays (assignment var g (line_at text p)) (subst (λ g2. FrameSays text names g2 e (assignment var g (line_at text p))) same
                (l.reads.good, fine, (var, g, known, truth ∙ t, refl)))))
            on (Err f) t = faulty f (subst (λ g. FrameFault text names g e f) same (truth ∙ t))

      expression_next : Inv (expression_at r.stand (seen_at text tokens i).at m r) (i + n)
      expression_next = subst (λ (p : Progress). Inv (expression_at p.stand (seen_at text tokens i).at m p) (i + n)) (sym b.there)
          (by_frame b.f refl b.stands)

    read_by : (m : Meaning) (next : ℕ) → ExpressionMeans text (tokens_of text tokens) i r.variables (Ok (m, next))
        → Inv (expression_at r.stand (seen_at text tokens i).at m r) next
    read_by m next (inl (d, finds, e)) = cc
    read_by m next (inr (inl (d, finds, e))) = cc
    read_by m next (inr (inr (e, n, l, h))) =
        let q = meaning_back (i + n) next m (meant text r.variables (first_place (drop i (tokens_of text tokens))) e) h in
        subst (λ j. Inv (expression_at r.stand (seen_at text tokens i).at m r) j) (sym q.1) (expression_next m e n l q.0)

  by_read : (r : Progress) (i : ℕ) (m : Meaning) (next : ℕ) → wanted_at r.stand ≡ an_expression
      → ExpressionMeans text (tokens_of text tokens) i r.variables (Ok (m, next))
      → Stays r i ⊎ Done r → Inv (expression_at r.stand (seen_at text tokens i).at m r) next
  by_read r i m next w g (inl s) = read_by r i s (before_expression text s.b r s.has w) m next g
  by_read r i m next w g (inr d) = let q : nothing ≡ an_expression = sym (done_wants r d) ∙ w in cc

  by_refused : (r : Progress) (i : ℕ) (f : ParseFault) → wanted_at r.stand ≡ an_expression
      → ExpressionMeans text (tokens_of text tokens) i r.variables (Err f)
      → Stays r i ⊎ Done r → Says (Err (fault.Parse f))
  by_refused r i f w g (inl s) = refused_by r i s (before_expression text s.b r s.has w) f g
  by_refused r i f w g (inr d) = let q : nothing ≡ an_expression = sym (done_wants r d) ∙ w in cc

  -- ---- the whole reading
  means_from : (x : Stepped) (i : ℕ) (answer : AutoAnswer) → ReadsTo text tokens x i answer → Inv x i → Says answer
  means_from x i answer (failed _ _ _ f e q) v = subst Says (sym q) (subst (λ z. Inv z i) e v)
  means_from x i answer (ended _ _ _ r e w q) v = subst Says (sym q) (ended_by r i w (subst (λ z. Inv z i) e v))
  means_from x i answer (by_token _ _ _ r e w h) v = means_from (token_at r.stand r (seen_at text tokens i)) (i + 1) answer h
      (by_next r i w (subst (λ z. Inv z i) e v))
  means_from x i answer (by_expression _ _ _ r m next e w g h) v =
      means_from (expression_at r.stand (seen_at text tokens i).at m r) next answer h (by_read r i m next w g (subst (λ z. Inv z i) e v))
  means_from x i answer (no_expression _ _ _ r f e w g q) v = subst Says (sym q) (by_refused r i f w g (subst (λ z. Inv z i) e v))

  -- what tokens read as is what they mean
  pub means_of : (answer : AutoAnswer) → 0 < length tokens → ReadsTo text tokens (Ok start) 0 answer → Says answer
  means_of answer l h = means_from (Ok start) 0 answer h (inl (record {
    b = no_token;
    has = refl;
    split = refl;
    ready =
        ready_any no_token (λ k a. tt) (rest 0);
    within = l;
  }))

-- what a text is read as, it is
pub read_is : (text : List ℕ) (answer : AutoAnswer) → IsRead text answer → IsAuto text answer
read_is text answer (no_reading f h e) = no_tokens f h e
read_is text answer (some_tokens tokens h r) =
    by_tokens tokens h
    (means_of text tokens (placed_tokens Own text tokens h) answer (some_token text tokens (placed_tokens Own text tokens h)) r)
