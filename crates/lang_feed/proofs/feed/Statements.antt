-- Feeding the spelling of statements and of a program is walking them.
use Rattle.std.proofs.Common.{◌≡◌, ◌∙◌, ℕ, List, [], ◌∷◌, Ok, refl, sym, ap, ◌++◌, length, Bool, true, false, Option, Some, None, Result}
use Rattle.std.proofs.Common.{ap₂, append_assoc}
use Rattle.lang_grammar.specs.Grammar.{Kind, else_word, Token, token, Ending, a_name, right_paren, left_paren, right_brace, comma}
use Rattle.lang_grammar.specs.Grammar.{semicolon, colon, int_word, for_word, the_end, Expr, spell_expr, Declarators, Declarator, declares}
use Rattle.lang_grammar.specs.Grammar.{number, variable, free, grouped, prefixed, joined, negative, positive, negation, infix_sign}
use Rattle.lang_grammar.specs.Grammar.{declares_more, bare, given, spell_declarator, spell_declarators, GoodDeclarator, GoodDeclarators}
use Rattle.lang_grammar.specs.Grammar.{Update, set, step_after, step_before, spell_update, GoodUpdate, ForFirst, no_first, declared_first}
use Rattle.lang_grammar.specs.Grammar.{updated_first, spell_first, GoodFirst, ForTest, no_test, given_test, spell_test, GoodTest, ForLast}
use Rattle.lang_grammar.specs.Grammar.{no_last, updated_last, spell_last, GoodLast, Jump, Core, empty, block, if_alone, if_else, repeat}
use Rattle.lang_grammar.specs.Grammar.{repeat_after, repeat_for, jumps, demands, updates, Sub, labelled, plain, Items, no_items, label}
use Rattle.lang_grammar.specs.Grammar.{declaration, item, spell_core, spell_sub, spell_items, ending_core, ending_sub, GoodCore, GoodSub}
use Rattle.lang_grammar.specs.Grammar.{GoodItems, Return, no_return, returns, returns_minus, spell_return, Parameters, nothing, void_at}
use Rattle.lang_grammar.specs.Grammar.{program, spell}
use Rattle.lang_grammar.proofs.grammar.Complete.{GoesOn, items_head, return_head}
use Rattle.lang_tree.specs.Tree as tree
use Rattle.lang_tree.specs.Tree.{Condition, Statement, Statements, nil, cons}
use Rattle.lang_meaning.specs.Results.{◌>>=◌}
use Rattle.lang_meaning.specs.Walk.{State, followed_by, one, closed, Value, start_state, counted, labelled_by, known_number, tested}
use Rattle.lang_meaning.specs.Walk.{right_side, assignment, changed, change_nodes, assigned, always, jump_kind, jumped, step_node}
use Rattle.lang_meaning.specs.Walk.{step_change, declared_by, program_of, walk_expr, walk_declarator, walk_declarators, walk_update}
use Rattle.lang_meaning.specs.Walk.{walk_first, walk_test, walk_last, walk_core, walk_sub, walk_items}
use Rattle.lang_meaning.specs.Feed as feeds
use Rattle.lang_meaning.specs.Feed.{Frame, before, assigns, initial, header, header_tested, of_items, of_branch, of_other, of_loop, of_body}
use Rattle.lang_meaning.specs.Feed.{of_for, under, stands, Machine, at, Outcome, is_inside, pushed, settled, wants, has, first_part}
use Rattle.lang_meaning.specs.Feed.{test_part, last_part, ends, Mode, change_in, next_mode, begin, result_of, declares as names_next}
use Rattle.lang_feed.proofs.feed.Expressions.{feed, Next, fed_expr}
use Rattle.lang_meaning.specs.declared.fault.ParseFault.{ParseFault}
use Rattle.lang_tree.specs.declared.form.Form.{Form}
use Rattle.lang_tree.specs.declared.change.Change.{Change}
use Rattle.lang_tree.specs.declared.change.Change.TheVariants as change
use Rattle.lang_grammar.specs.Grammar as assign
use Rattle.lang_meaning.proofs.results.Binds.{bind_both, bind_left, bind_right, bind_same}
use Rattle.lang_feed.proofs.feed.SmallConditions.{walk_small, small_then, tested_same, side_respects, assigned_respects}
use Rattle.lang_feed.proofs.feed.StatementPieces.{follow_nil, follow_assoc, Follows, goes_follows, shut_follows, IsOpen, pushed_close}
use Rattle.lang_feed.proofs.feed.StatementPieces.{pushed_attach, pushed_open, pushed_inside, settled_open, pass, pass_items, Walk, Does}
use Rattle.lang_feed.proofs.feed.StatementPieces.{DoesItems, case_block, case_if_alone, case_repeat, case_if_else, case_demands, case_do}

module _ (line : ℕ → ℕ) (width : ℕ) where
  abbrev F : List Token → Machine → Outcome
  F ts s = feed line width ts s

  -- ---- assignments and steps
  -- what ends them
  abbrev IsEnd : Kind → Type 0
  IsEnd semicolon = Unit {0}
  IsEnd right_paren = Unit {0}
  IsEnd _ = ⊥

  end_next : (k : Kind) (c : ℕ) → IsEnd k → Next 0 (token k c)
  end_next semicolon c h = tt
  end_next right_paren c h = tt
  end_next _ c h = absurd h

  one_changed : (i : ℕ) (o : Option Form) (l : ℕ) → one (assignment i o l) ≡ change_nodes (changed i o l)
  one_changed i (Some f) l = refl
  one_changed i None l = refl

  abbrev turn : State → ℕ → Option Form → ℕ → Result (State × Change) ParseFault
  turn st i o a = Ok (st, changed i o (line a))

  assigned_then : (i : ℕ) (g : assign.Change) (b a : ℕ) (v : Value) (w : List Token) (st : State) (fs : List Frame)
      → (assigned width g i b v >>= λ o. Ok (settled st fs (one (assignment i o (line a))))) >>= (λ s. F w s)
      ≡ (assigned width g i b v >>= λ o. turn st i o a) >>= λ r. F w (settled r.0 fs (change_nodes r.1))
  assigned_then i g b a v w st fs =
      bind_both (assigned width g i b v) (λ o. Ok (settled st fs (one (assignment i o (line a))))) (λ s. F w s) (λ o. turn st i o a) _
      (λ o. ap (λ (ns : Statements). F w (settled st fs ns)) (one_changed i o (line a)))

  assigned_fed : (i : ℕ) (g : assign.Change) (b a : ℕ) (v : Value) (k : Kind) (c : ℕ) (w : List Token) (st : State) (fs : List Frame)
      → IsEnd k
      → F (token k c ∷ w) (at st (assigns i g b a ∷ fs) (has v))
      ≡ (assigned width g i b v >>= λ o. turn st i o a) >>= λ r. F w (settled r.0 fs (change_nodes r.1))
  assigned_fed i g b a v semicolon c w st fs h = assigned_then i g b a v w st fs
  assigned_fed i g b a v right_paren c w st fs h = assigned_then i g b a v w st fs
  assigned_fed i g b a v _ c w st fs h = absurd h

  -- an assignment or a step, and what ends it
  update_fed : (u : Update) (k : Kind) (c : ℕ) (w : List Token) (st : State) (fs : List Frame) → GoodUpdate u → IsEnd k
      → F (spell_update u ++ token k c ∷ w) (at st fs stands) ≡ walk_update line width u st >>= λ r. F w (settled r.0 fs (change_nodes r.1))
  update_fed (set x a g b e) k c w st fs h n =
      bind_both (known_number x a st) (λ i. counted a st >>= λ now. Ok (at now (assigns i g b a ∷ fs) wants))
      (λ s. F (spell_expr e ++ token k c ∷ w) s) (λ i. counted a st >>= λ now. walk_expr line width now e
      >>= λ v. assigned width g i b v >>= λ o. turn now i o a) _
      (λ i. bind_both (counted a st) (λ now. Ok (at now (assigns i g b a ∷ fs) wants)) (λ s. F (spell_expr e ++ token k c ∷ w) s)
      (λ now. walk_expr line width now e >>= λ v. assigned width g i b v >>= λ o. turn now i o a) _ (λ now.
      fed_expr line width now e 0 (assigns i g b a ∷ fs) (token k c) w h tt (end_next k c n)
      ∙ bind_right (walk_small line width now e) _ (λ v. assigned width g i b v >>= λ o. turn now i o a)
      (λ r. F w (settled r.0 fs (change_nodes r.1))) (λ v. assigned_fed i g b a v k c w now fs n)
      ∙ small_then line width now e (λ v. assigned width g i b v >>= λ o. turn now i o a)
      (λ r. F w (settled r.0 fs (change_nodes r.1))) (assigned_respects line width g i b (λ o. turn now i o a))))
  update_fed (step_after x a g b) k c w st fs h n =
      bind_both (known_number x a st) (λ i. counted a st >>= λ now. Ok (at now fs (ends (step_node line width g i a))))
      (λ s. F (token k c ∷ w) s) (λ i. counted a st >>= λ now. Ok (now, step_change line width g i a)) _
      (λ i. bind_both (counted a st) (λ now. Ok (at now fs (ends (step_node line width g i a)))) (λ s. F (token k c ∷ w) s)
      (λ now. Ok (now, step_change line width g i a)) _ (λ now. refl))
  update_fed (step_before g a x b) k c w st fs h n =
      bind_both (counted a st) (λ now. Ok (at now fs (feeds.stepping g a))) (λ s. F (token (a_name x) b ∷ token k c ∷ w) s)
      (λ now. known_number x b now >>= λ i. Ok (now, step_change line width g i a)) _
      (λ now. bind_both (known_number x b now) (λ i. Ok (at now fs (ends (step_node line width g i a)))) (λ s. F (token k c ∷ w) s)
      (λ i. Ok (now, step_change line width g i a)) _ (λ i. refl))

  case_updates : (u : Update) (c : ℕ) (w : List Token) (st : State) (fs : List Frame) → IsOpen fs → GoodUpdate u
      → Does line width (spell_update u ++ token semicolon c ∷ []) w st fs (walk_update line width u st >>= λ r. Ok (r.0, change_nodes r.1))
  case_updates u c w st fs o g =
      ap (λ (y : List Token). F y (at st fs stands)) (append_assoc (spell_update u) (token semicolon c ∷ []) w)
      ∙ update_fed u semicolon c w st fs g tt
      ∙ bind_right (walk_update line width u st) _ (λ r. Ok (r.0, change_nodes r.1)) _
      (λ r. ap (λ (m : Machine). F w m) (settled_open line width r.0 fs (change_nodes r.1) o))

  case_jumps : (j : Jump) (a b : ℕ) (w : List Token) (st : State) (fs : List Frame) (n : Bool) → IsOpen fs → is_inside fs ≡ n
      → Does line width (spell_core (jumps j a b)) w st fs (walk_core line width n (jumps j a b) st)
  case_jumps j a b w st fs n o e =
      ap (λ (m : Bool). (jumped m a st >>= λ now. Ok (at now fs (ends (one (tree.jump (jump_kind j) (line a))))))
      >>= λ s. F (token semicolon b ∷ w) s) e
      ∙ bind_both (jumped n a st) (λ now. Ok (at now fs (ends (one (tree.jump (jump_kind j) (line a)))))) (λ s. F (token semicolon b ∷ w) s)
      (λ now. Ok (now, one (tree.jump (jump_kind j) (line a)))) _
      (λ now. ap (λ (m : Machine). F w m) (settled_open line width now fs (one (tree.jump (jump_kind j) (line a))) o))

  -- a label before a statement
  case_labelled : (x : List ℕ) (a b : ℕ) (y w : List Token) (st : State) (fs : List Frame) (walked : Walk line width) (n : Ending)
      → IsOpen fs → Follows n w
      → ((now : State) → Does line width y w now (pushed (tree.label x (line a)) fs) (walked now))
      → Does line width (token (a_name x) a ∷ token colon b ∷ y) w st fs
      (labelled_by x a st >>= λ now. walked now >>= λ r. Ok (r.0, cons (tree.label x (line a)) r.1))
  case_labelled x a b y w st fs walked n o h f =
      bind_both (labelled_by x a st) (λ now. Ok (at now (pushed (tree.label x (line a)) fs) stands)) (λ s. F (y ++ w) s)
      (λ now. walked now >>= λ r. Ok (r.0, cons (tree.label x (line a)) r.1)) _ (λ now.
      f now
      ∙ bind_right (walked now) _ (λ r. Ok (r.0, cons (tree.label x (line a)) r.1)) _
      (λ r. pass line width r.0 r.0 (pushed (tree.label x (line a)) fs) fs r.1 (cons (tree.label x (line a)) r.1) n w h
      (pushed_close line width (tree.label x (line a)) r.0 fs r.1 o) (pushed_attach line width (tree.label x (line a)) r.0 fs r.1 o)))

  case_label : (x : List ℕ) (a b : ℕ) (y w : List Token) (st : State) (i : ℕ) (ns : Statements) (fs : List Frame) (walked : Walk line width)
      → ((now : State) (ms : Statements) → DoesItems line width y w now i ms fs (walked now))
      → DoesItems line width (token (a_name x) a ∷ token colon b ∷ y) w st i ns fs (labelled_by x a st >>= λ now. walked now
      >>= λ r. Ok (r.0, cons (tree.label x (line a)) r.1))
  case_label x a b y w st i ns fs walked f =
      bind_both (labelled_by x a st) (λ now. Ok (at now (under (of_items i) (followed_by ns (one (tree.label x (line a)))) ∷ fs) stands))
      (λ s. F (y ++ w) s) (λ now. walked now >>= λ r. Ok (r.0, cons (tree.label x (line a)) r.1)) _ (λ now.
      f now (followed_by ns (one (tree.label x (line a))))
      ∙ bind_right (walked now) _ (λ r. Ok (r.0, cons (tree.label x (line a)) r.1)) _
      (λ r. ap (λ (z : Statements). F w (at r.0 (under (of_items i) z ∷ fs) stands)) (follow_assoc ns (one (tree.label x (line a))) r.1)))

  -- ---- declarations
  -- a frame that takes the nodes of declarators, and what follows their `;`
  abbrev IsHolder : (Statements → Frame) → Mode → Type 0
  IsHolder holder m = ((n : Statement) (ns : Statements) (fs : List Frame)
      → pushed n (holder ns ∷ fs) ≡ holder (followed_by ns (one n)) ∷ fs)
      × ((ns : Statements) (fs : List Frame) → next_mode (holder ns ∷ fs) ≡ m)

  put : (holder : Statements → Frame) (m : Mode) (h : IsHolder holder m) (w : List Token) (ns : Statements) (fs : List Frame)
      (r : State × Statement)
      → F w (at r.0 (pushed r.1 (holder ns ∷ fs)) (next_mode (holder ns ∷ fs))) ≡ F w (at r.0 (holder (followed_by ns (one r.1)) ∷ fs) m)
  put holder m h w ns fs r = ap₂ (λ (x : List Frame) (y : Mode). F w (at r.0 x y)) (h.0 r.1 ns fs) (h.1 ns fs)

  put_more : (holder : Statements → Frame) (m : Mode) (h : IsHolder holder m) (w : List Token) (ns : Statements) (fs : List Frame)
      (r : State × Statement)
      → F w (at r.0 (pushed r.1 (holder ns ∷ fs)) names_next) ≡ F w (at r.0 (holder (followed_by ns (one r.1)) ∷ fs) names_next)
  put_more holder m h w ns fs r = ap (λ (x : List Frame). F w (at r.0 x names_next)) (h.0 r.1 ns fs)

  -- a declarator before `;`, and before `,`
  before_semicolon : (x : Declarator) (c : ℕ) (w : List Token) (st : State) (holder : Statements → Frame) (m : Mode) (h : IsHolder holder m)
      (ns : Statements) (fs : List Frame) → GoodDeclarator x
      → F (spell_declarator x ++ token semicolon c ∷ w) (at st (holder ns ∷ fs) names_next) ≡ walk_declarator line width x st
      >>= λ r. F w (at r.0 (holder (followed_by ns (one r.1)) ∷ fs) m)
  before_semicolon (bare x a) c w st holder m h ns fs g =
      bind_left (declared_by line x a None st) (λ r. Ok (at r.0 (pushed r.1 (holder ns ∷ fs)) (next_mode (holder ns ∷ fs)))) (λ s. F w s) _
      (λ r. put holder m h w ns fs r)
  before_semicolon (given x a b e) c w st holder m h ns fs g =
      fed_expr line width st e 0 (initial x a b ∷ holder ns ∷ fs) (token semicolon c) w g tt tt
      ∙ bind_right (walk_small line width st e) _ (λ v. right_side b v >>= λ o. declared_by line x a o st)
      (λ (r : State × Statement). F w (at r.0 (holder (followed_by ns (one r.1)) ∷ fs) m))
      (λ v. bind_both (right_side b v) (λ o. declared_by line x a o st
      >>= λ r. Ok (at r.0 (pushed r.1 (holder ns ∷ fs)) (next_mode (holder ns ∷ fs)))) (λ s. F w s) (λ o. declared_by line x a o st) _
      (λ o. bind_left (declared_by line x a o st) (λ r. Ok (at r.0 (pushed r.1 (holder ns ∷ fs)) (next_mode (holder ns ∷ fs)))) (λ s. F w s)
      _
      (λ r. put holder m h w ns fs r))) ∙ small_then line width st e (λ v. right_side b v >>= λ o. declared_by line x a o st)
      (λ (r : State × Statement). F w (at r.0 (holder (followed_by ns (one r.1)) ∷ fs) m))
      (side_respects line width b (λ o. declared_by line x a o st))

  before_comma : (x : Declarator) (c : ℕ) (w : List Token) (st : State) (holder : Statements → Frame) (m : Mode) (h : IsHolder holder m)
      (ns : Statements) (fs : List Frame) → GoodDeclarator x
      → F (spell_declarator x ++ token comma c ∷ w) (at st (holder ns ∷ fs) names_next) ≡ walk_declarator line width x st
      >>= λ r. F w (at r.0 (holder (followed_by ns (one r.1)) ∷ fs) names_next)
  before_comma (bare x a) c w st holder m h ns fs g =
      bind_left (declared_by line x a None st) (λ r. Ok (at r.0 (pushed r.1 (holder ns ∷ fs)) names_next)) (λ s. F w s) _
      (λ r. put_more holder m h w ns fs r)
  before_comma (given x a b e) c w st holder m h ns fs g = fed_expr line width st e 0 (initial x a b ∷ holder ns ∷ fs) (token comma c) w g
      tt tt
      ∙ bind_right (walk_small line width st e) _ (λ v. right_side b v >>= λ o. declared_by line x a o st)
      (λ (r : State × Statement). F w (at r.0 (holder (followed_by ns (one r.1)) ∷ fs) names_next))
      (λ v. bind_both (right_side b v) (λ o. declared_by line x a o st
      >>= λ r. Ok (at r.0 (pushed r.1 (holder ns ∷ fs)) names_next)) (λ s. F w s) (λ o. declared_by line x a o st) _
      (λ o. bind_left (declared_by line x a o st) (λ r. Ok (at r.0 (pushed r.1 (holder ns ∷ fs)) names_next)) (λ s. F w s) _
      (λ r. put_more holder m h w ns fs r))) ∙ small_then line width st e (λ v. right_side b v >>= λ o. declared_by line x a o st)
      (λ (r : State × Statement). F w (at r.0 (holder (followed_by ns (one r.1)) ∷ fs) names_next))
      (side_respects line width b (λ o. declared_by line x a o st))

  declarators_fed : (xs : Declarators) (w : List Token) (st : State) (holder : Statements → Frame) (m : Mode) (h : IsHolder holder m)
      (ns : Statements) (fs : List Frame) → GoodDeclarators xs
      → F (spell_declarators xs ++ w) (at st (holder ns ∷ fs) names_next) ≡ walk_declarators line width xs st
      >>= λ q. F w (at q.0 (holder (followed_by ns q.1) ∷ fs) m)
  declarators_fed (declares x c) w st holder m h ns fs g =
      ap (λ (u : List Token). F u (at st (holder ns ∷ fs) names_next)) (append_assoc (spell_declarator x) (token semicolon c ∷ []) w)
      ∙ before_semicolon x c w st holder m h ns fs g
      ∙ bind_right (walk_declarator line width x st) _ (λ r. Ok (r.0, one r.1)) _ (λ r. refl)
  declarators_fed (declares_more x c xs) w st holder m h ns fs g =
      ap (λ (u : List Token). F u (at st (holder ns ∷ fs) names_next))
      (append_assoc (spell_declarator x) (token comma c ∷ spell_declarators xs) w)
      ∙ before_comma x c (spell_declarators xs ++ w) st holder m h ns fs g.0
      ∙ bind_right (walk_declarator line width x st) _ (λ r. walk_declarators line width xs r.0 >>= λ q. Ok (q.0, cons r.1 q.1)) _ (λ r.
      declarators_fed xs w r.0 holder m h (followed_by ns (one r.1)) fs g.1
      ∙ bind_right (walk_declarators line width xs r.0) _ (λ q. Ok (q.0, cons r.1 q.1)) _
      (λ q. ap (λ (z : Statements). F w (at q.0 (holder z ∷ fs) m)) (follow_assoc ns (one r.1) q.1)))

  items_hold : (i : ℕ) → IsHolder (λ ns. under (of_items i) ns) stands
  items_hold i = ((λ n ns fs. refl), (λ ns fs. refl))

  header_holds : (k a : ℕ) → IsHolder (λ ns. header k a ns) test_part
  header_holds k a = ((λ n ns fs. refl), (λ ns fs. refl))

  -- ---- the head of a `for`
  update_first : (u : Update) (z : List Token) (st : State) (fs : List Frame)
      → F (spell_update u ++ z) (at st fs first_part) ≡ F (spell_update u ++ z) (at st fs stands)
  update_first (set x a g b e) z st fs = refl
  update_first (step_after x a g b) z st fs = refl
  update_first (step_before g a x b) z st fs = refl

  update_last : (u : Update) (z : List Token) (st : State) (fs : List Frame)
      → F (spell_update u ++ z) (at st fs last_part) ≡ F (spell_update u ++ z) (at st fs stands)
  update_last (set x a g b e) z st fs = refl
  update_last (step_after x a g b) z st fs = refl
  update_last (step_before g a x b) z st fs = refl

  first_fed : (f : ForFirst) (w : List Token) (st : State) (k a : ℕ) (fs : List Frame) → GoodFirst f
      → F (spell_first f ++ w) (at st (header k a nil ∷ fs) first_part) ≡ walk_first line width f st
      >>= λ r. F w (at r.0 (header k a r.1 ∷ fs) test_part)
  first_fed (no_first b) w st k a fs g = refl
  first_fed (declared_first b xs) w st k a fs g = declarators_fed xs w st (λ ns. header k a ns) test_part (header_holds k a) nil fs g
  first_fed (updated_first u b) w st k a fs g =
      ap (λ (y : List Token). F y (at st (header k a nil ∷ fs) first_part)) (append_assoc (spell_update u) (token semicolon b ∷ []) w)
      ∙ update_first u (token semicolon b ∷ w) st (header k a nil ∷ fs)
      ∙ update_fed u semicolon b w st (header k a nil ∷ fs) g tt
      ∙ bind_right (walk_update line width u st) _ (λ r. Ok (r.0, change_nodes r.1)) _ (λ r. refl)

  -- an expression is no `;`
  test_wants : (e : Expr) (z : List Token) (st : State) (fs : List Frame)
      → F (spell_expr e ++ z) (at st fs test_part) ≡ F (spell_expr e ++ z) (at st fs wants)
  test_wants (number n a) z st fs = refl
  test_wants (variable x a) z st fs = refl
  test_wants (free a b c) z st fs = refl
  test_wants (grouped a e b) z st fs = refl
  test_wants (prefixed negative a e) z st fs = refl
  test_wants (prefixed positive a e) z st fs = refl
  test_wants (prefixed negation a e) z st fs = refl
  test_wants (joined e o a f) z st fs =
      ap (λ (y : List Token). F y (at st fs test_part)) (append_assoc (spell_expr e) (token (infix_sign o) a ∷ spell_expr f) z)
      ∙ test_wants e (token (infix_sign o) a ∷ (spell_expr f ++ z)) st fs
      ∙ sym (ap (λ (y : List Token). F y (at st fs wants)) (append_assoc (spell_expr e) (token (infix_sign o) a ∷ spell_expr f) z))

  head_then : (c : Condition) (w : List Token) (st : State) (k a : ℕ) (ns : Statements) (fs : List Frame)
      → feeds.headed st (header k a ns ∷ fs) c >>= (λ s. F w s) ≡ counted a st
      >>= λ now. F w (at now (header_tested k a ns c ∷ fs) last_part)
  head_then c w st k a ns fs = bind_left (counted a st) (λ now. Ok (at now (header_tested k a ns c ∷ fs) last_part)) (λ s. F w s) _
      (λ now. refl)

  test_fed : (t : ForTest) (w : List Token) (st : State) (k a : ℕ) (ns : Statements) (fs : List Frame) → GoodTest t
      → F (spell_test t ++ w) (at st (header k a ns ∷ fs) test_part)
      ≡ walk_test line width a t st >>= λ x. counted a st >>= λ now. F w (at now (header_tested k a ns x ∷ fs) last_part)
  test_fed (no_test b) w st k a ns fs g = head_then (always width) w st k a ns fs
  test_fed (given_test e b) w st k a ns fs g =
      ap (λ (y : List Token). F y (at st (header k a ns ∷ fs) test_part)) (append_assoc (spell_expr e) (token semicolon b ∷ []) w)
      ∙ test_wants e (token semicolon b ∷ w) st (header k a ns ∷ fs)
      ∙ fed_expr line width st e 0 (header k a ns ∷ fs) (token semicolon b) w g tt tt
      ∙ bind_right (walk_small line width st e) _ (λ v. tested a v) (λ x. counted a st
      >>= λ now. F w (at now (header_tested k a ns x ∷ fs) last_part))
      (λ v. bind_left (tested a v) (λ c. feeds.headed st (header k a ns ∷ fs) c) (λ s. F w s) _ (λ c. head_then c w st k a ns fs))
      ∙ small_then line width st e (λ v. tested a v) (λ x. counted a st >>= λ now. F w (at now (header_tested k a ns x ∷ fs) last_part))
      (tested_same line width a)

  change_again : (g : Change) → change_in (change_nodes g) ≡ g
  change_again change.Unchanged = refl
  change_again (change.Set i f l) = refl
  change_again (change.Havoc i l) = refl

  last_fed : (l : ForLast) (w : List Token) (st : State) (k a : ℕ) (ns : Statements) (x : Condition) (fs : List Frame) → GoodLast l
      → F (spell_last l ++ w) (at st (header_tested k a ns x ∷ fs) last_part)
      ≡ walk_last line width l st >>= λ u. F w (at u.0 (under (of_for k a ns x u.1) nil ∷ fs) stands)
  last_fed (no_last b) w st k a ns x fs g = refl
  last_fed (updated_last u b) w st k a ns x fs g =
      ap (λ (y : List Token). F y (at st (header_tested k a ns x ∷ fs) last_part))
      (append_assoc (spell_update u) (token right_paren b ∷ []) w)
      ∙ update_last u (token right_paren b ∷ w) st (header_tested k a ns x ∷ fs)
      ∙ update_fed u right_paren b w st (header_tested k a ns x ∷ fs) g tt
      ∙ bind_same (walk_update line width u st) _ _
      (λ r. ap (λ (m : Change). F w (at r.0 (under (of_for k a ns x m) nil ∷ fs) stands)) (change_again r.1))

  case_for : (a b : ℕ) (f : ForFirst) (t : ForTest) (l : ForLast) (y w : List Token) (st : State) (fs : List Frame)
      (walked : Walk line width) (n : Ending)
      → GoodFirst f → GoodTest t → GoodLast l → Follows n w
      → ((now : State) (ns : Statements) (x : Condition) (m : Change) →
      Does line width y w now (under (of_for (length st.known) a ns x m) nil ∷ fs) (walked now))
      → Does line width (token for_word a ∷ token left_paren b ∷ (spell_first f ++ (spell_test t ++ (spell_last l ++ y)))) w st fs
      (walk_first line width f st >>= λ r. walk_test line width a t r.0 >>= λ x. counted a r.0 >>= λ now. walk_last line width l now
      >>= λ u. walked u.0
      >>= λ q. Ok (
        closed (length st.known) q.0,
        followed_by r.1
            (one (tree.loop (tree.for_loop [] (tree.change_deeds u.1)) x q.1 (line a))),
      ))
  case_for a b f t l y w st fs walked n g h i j d =
      ap (λ (z : List Token). F z (at st (header (length st.known) a nil ∷ fs) first_part))
      (append_assoc (spell_first f) (spell_test t ++ (spell_last l ++ y)) w)
      ∙ first_fed f ((spell_test t ++ (spell_last l ++ y)) ++ w) st (length st.known) a fs g
      ∙ bind_right (walk_first line width f st) _ (λ r. walk_test line width a t r.0 >>= λ x. counted a r.0
      >>= λ now. walk_last line width l now
      >>= λ u. walked u.0 >>= λ q. Ok (
        closed (length st.known) q.0,
        followed_by r.1
            (one (tree.loop (tree.for_loop [] (tree.change_deeds u.1)) x q.1 (line a))),
      ))
      _ (λ r.
      ap (λ (z : List Token). F z (at r.0 (header (length st.known) a r.1 ∷ fs) test_part))
      (append_assoc (spell_test t) (spell_last l ++ y) w)
      ∙ test_fed t ((spell_last l ++ y) ++ w) r.0 (length st.known) a r.1 fs h
      ∙ bind_right (walk_test line width a t r.0) _ (λ x. counted a r.0 >>= λ now. walk_last line width l now
      >>= λ u. walked u.0 >>= λ q. Ok (
        closed (length st.known) q.0,
        followed_by r.1
            (one (tree.loop (tree.for_loop [] (tree.change_deeds u.1)) x q.1 (line a))),
      ))
      _ (λ x.
      bind_right (counted a r.0) _ (λ now. walk_last line width l now
      >>= λ u. walked u.0 >>= λ q. Ok (
        closed (length st.known) q.0,
        followed_by r.1
            (one (tree.loop (tree.for_loop [] (tree.change_deeds u.1)) x q.1 (line a))),
      ))
      _ (λ now.
      ap (λ (z : List Token). F z (at now (header_tested (length st.known) a r.1 x ∷ fs) last_part)) (append_assoc (spell_last l) y w)
      ∙ last_fed l (y ++ w) now (length st.known) a r.1 x fs i
      ∙ bind_right (walk_last line width l now) _ (λ u. walked u.0
      >>= λ q. Ok (
        closed (length st.known) q.0,
        followed_by r.1
            (one (tree.loop (tree.for_loop [] (tree.change_deeds u.1)) x q.1 (line a))),
      )) _ (λ u.
      d u.0 r.1 x u.1
      ∙ bind_right (walked u.0) _ (λ q. Ok (
        closed (length st.known) q.0,
        followed_by r.1 (one (tree.loop (tree.for_loop [] (tree.change_deeds u.1)) x q.1 (line a))),
      )) _
      (λ q. pass line width q.0 (closed (length st.known) q.0) (under (of_for (length st.known) a r.1 x u.1) nil ∷ fs) fs q.1
      (followed_by r.1 (one (tree.loop (tree.for_loop [] (tree.change_deeds u.1)) x q.1 (line a)))) n w j refl refl)))))

  case_declaration : (a : ℕ) (xs : Declarators) (y w : List Token) (st : State) (i : ℕ) (ns : Statements) (fs : List Frame)
      (walked : Walk line width)
      → GoodDeclarators xs → ((now : State) (ms : Statements) → DoesItems line width y w now i ms fs (walked now))
      → DoesItems line width (token int_word a ∷ (spell_declarators xs ++ y)) w st i ns fs
      (walk_declarators line width xs st >>= λ r. walked r.0
      >>= λ q. Ok (q.0, followed_by r.1 q.1))
  case_declaration a xs y w st i ns fs walked g f =
      ap (λ (u : List Token). F u (at st (under (of_items i) ns ∷ fs) names_next)) (append_assoc (spell_declarators xs) y w)
      ∙ declarators_fed xs (y ++ w) st (λ ms. under (of_items i) ms) stands (items_hold i) ns fs g
      ∙ bind_right (walk_declarators line width xs st) _ (λ r. walked r.0 >>= λ q. Ok (q.0, followed_by r.1 q.1)) _ (λ r.
      f r.0 (followed_by ns r.1)
      ∙ bind_right (walked r.0) _ (λ q. Ok (q.0, followed_by r.1 q.1)) _
      (λ q. ap (λ (z : Statements). F w (at q.0 (under (of_items i) z ∷ fs) stands)) (follow_assoc ns r.1 q.1)))

  case_item : (x y w : List Token) (st : State) (i : ℕ) (ns : Statements) (fs : List Frame) (core : Result (State × Statements) ParseFault)
      (walked : Walk line width) → GoesOn (y ++ w) → Does line width x (y ++ w) st (under (of_items i) ns ∷ fs) core
      → ((now : State) (ms : Statements) → DoesItems line width y w now i ms fs (walked now))
      → DoesItems line width (x ++ y) w st i ns fs (core >>= λ r. walked r.0 >>= λ q. Ok (q.0, followed_by r.1 q.1))
  case_item x y w st i ns fs core walked g h f =
      ap (λ (u : List Token). F u (at st (under (of_items i) ns ∷ fs) stands)) (append_assoc x y w)
      ∙ h
      ∙ bind_right core _ (λ r. walked r.0 >>= λ q. Ok (q.0, followed_by r.1 q.1)) _ (λ r.
      pass_items line width r.0 i ns fs r.1 (y ++ w) g
      ∙ f r.0 (followed_by ns r.1)
      ∙ bind_right (walked r.0) _ (λ q. Ok (q.0, followed_by r.1 q.1)) _
      (λ q. ap (λ (z : Statements). F w (at q.0 (under (of_items i) z ∷ fs) stands)) (follow_assoc ns r.1 q.1)))

  case_none : (w : List Token) (st : State) (i : ℕ) (ns : Statements) (fs : List Frame)
      → DoesItems line width [] w st i ns fs (Ok (st, nil))
  case_none w st i ns fs = ap (λ (z : Statements). F w (at st (under (of_items i) z ∷ fs) stands)) (sym (follow_nil ns))

  mutual
    core_fed : (c : Core) (w : List Token) (st : State) (fs : List Frame) (n : Bool) → is_inside fs ≡ n → IsOpen fs → GoodCore c
        → Follows (ending_core c) w
        → Does line width (spell_core c) w st fs (walk_core line width n c st)
    core_fed (empty a) w st fs n i o g h = refl
    core_fed (block a is b) w st fs n i o g h =
        case_block line width a (spell_items is) b w st fs (walk_items line width n is st)
        (items_fed is (token right_brace b ∷ w) st (length st.known) nil fs n i g refl)
    core_fed (if_alone a b e c s) w st fs n i o g h = case_if_alone line width a b c e (spell_sub s) w st fs (walk_sub line width n s) g.0 h
        (λ now x. sub_fed s w now (under (of_branch x a) nil ∷ fs) n i tt g.1 (goes_follows (ending_sub s) w h))
    core_fed (if_else a b e c s d t) w st fs n i o g h =
        case_if_else line width a b c d e (spell_sub s) (spell_sub t) w st fs (walk_sub line width n s) (walk_sub line width n t)
        (ending_sub t) g.0 h
        (λ now x. sub_fed s (token else_word d ∷ (spell_sub t ++ w)) now (under (of_branch x a) nil ∷ fs) n i tt g.1
        (shut_follows (ending_sub s) (token else_word d) (spell_sub t ++ w) g.2))
        (λ now x ns. sub_fed t w now (under (of_other x ns a) nil ∷ fs) n i tt g.3 h)
    core_fed (repeat a b e c s) w st fs n i o g h = case_repeat line width a b c e (spell_sub s) w st fs (walk_sub line width true s)
        (ending_sub s) g.0 h
        (λ now x. sub_fed s w now (under (of_loop x a) nil ∷ fs) true refl tt g.1 h)
    core_fed (repeat_after a s b c e d j) w st fs n i o g h = case_do line width a b c d j e (spell_sub s) w st fs
        (walk_sub line width true s) o g.1
        (λ now. sub_fed s _ now (under (of_body a) nil ∷ fs) true refl tt g.0 (goes_follows (ending_sub s) _ refl))
    core_fed (repeat_for a b f t l s) w st fs n i o g h = case_for a b f t l (spell_sub s) w st fs (walk_sub line width true s)
        (ending_sub s) g.0 g.1 g.2 h
        (λ now ns x m. sub_fed s w now (under (of_for (length st.known) a ns x m) nil ∷ fs) true refl tt g.3 h)
    core_fed (jumps j a b) w st fs n i o g h = case_jumps j a b w st fs n o i
    core_fed (demands k a b e c d) w st fs n i o g h = case_demands line width k a b c d e w st fs n o g
    core_fed (updates u c) w st fs n i o g h = case_updates u c w st fs o g

    sub_fed : (s : Sub) (w : List Token) (st : State) (fs : List Frame) (n : Bool) → is_inside fs ≡ n → IsOpen fs → GoodSub s
        → Follows (ending_sub s) w
        → Does line width (spell_sub s) w st fs (walk_sub line width n s st)
    sub_fed (labelled x a b s) w st fs n i o g h = case_labelled x a b (spell_sub s) w st fs (walk_sub line width n s) (ending_sub s) o h
        (λ now. sub_fed s w now (pushed (tree.label x (line a)) fs) n (pushed_inside line width (tree.label x (line a)) fs o ∙ i)
        (pushed_open line width (tree.label x (line a)) fs o) g h)
    sub_fed (plain c) w st fs n i o g h = core_fed c w st fs n i o g h

    items_fed : (is : Items) (w : List Token) (st : State) (k : ℕ) (ns : Statements) (fs : List Frame) (n : Bool) → is_inside fs ≡ n
        → GoodItems is → GoesOn w
        → DoesItems line width (spell_items is) w st k ns fs (walk_items line width n is st)
    items_fed no_items w st k ns fs n i g h = case_none w st k ns fs
    items_fed (label x a b is) w st k ns fs n i g h = case_label x a b (spell_items is) w st k ns fs (walk_items line width n is)
        (λ now ms. items_fed is w now k ms fs n i g h)
    items_fed (declaration a xs is) w st k ns fs n i g h =
        case_declaration a xs (spell_items is) w st k ns fs (walk_items line width n is) g.0
        (λ now ms. items_fed is w now k ms fs n i g.1 h)
    items_fed (item c is) w st k ns fs n i g h =
        case_item (spell_core c) (spell_items is) w st k ns fs (walk_core line width n c st) (walk_items line width n is)
        (items_head is w h)
        (core_fed c (spell_items is ++ w) st (under (of_items k) ns ∷ fs) n i tt g.0 (goes_follows (ending_core c) _ (items_head is w h)))
        (λ now ms. items_fed is w now k ms fs n i g.1 h)

  -- ---- how `main` ends
  abbrev whole_end : Return → ℕ → ℕ → List Token
  whole_end r f i = spell_return r ++ token right_brace f ∷ token the_end i ∷ []

  end_fed : (r : Return) (f i : ℕ) (st : State) (ns : Statements) → (F (whole_end r f i) (at st (under (of_items 0) ns ∷ []) stands)
      >>= λ s. result_of s) ≡ program_of (st, ns)
  end_fed no_return f i st ns = refl
  end_fed (returns a n b c) f i st ns = refl
  end_fed (returns_minus a b n c d) f i st ns = refl

-- Feeding a program's tokens is walking it.
pub program_fed : (line : ℕ → ℕ) (width : ℕ) (a b c : ℕ) (ps : Parameters) (d e : ℕ) (is : Items) (r : Return) (f i : ℕ) → GoodItems is
    → (feed line width (spell (program a b c ps d e is r f i)) begin >>= λ s. result_of s) ≡ walk_items line width false is start_state
    >>= λ q. program_of q
program_fed line width a b c nothing d e is r f i g =
    ap (λ (o : Outcome). o >>= λ s. result_of s) (items_fed line width is (whole_end line width r f i) start_state 0 nil [] false refl g
    (return_head r f _))
    ∙ bind_left (walk_items line width false is start_state) _ _ _ (λ q. end_fed line width r f i q.0 q.1)
program_fed line width a b c (void_at v) d e is r f i g =
    ap (λ (o : Outcome). o >>= λ s. result_of s) (items_fed line width is (whole_end line width r f i) start_state 0 nil [] false refl g
    (return_head r f _))
    ∙ bind_left (walk_items line width false is start_state) _ _ _ (λ q. end_fed line width r f i q.0 q.1)
