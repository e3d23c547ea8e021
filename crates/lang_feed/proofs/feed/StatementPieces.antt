-- What a statement leaves within another one, and behind it.
use Rattle.std.proofs.Common.{◌≡◌, ◌∙◌, ℕ, List, [], ◌∷◌, Ok, refl, sym, ap, ◌++◌, length, Bool, Result, append_assoc}
use Rattle.lang_grammar.specs.Grammar.{Kind, else_word, while_word, Token, token, Ending, shut, waiting, right_paren, left_paren}
use Rattle.lang_grammar.specs.Grammar.{right_brace, left_brace, semicolon, if_word, do_word, Groups, Expr, spell_expr, Demand, demands}
use Rattle.lang_grammar.specs.Grammar.{spell_core}
use Rattle.lang_grammar.proofs.grammar.Complete.{NotElse, GoesOn}
use Rattle.lang_tree.specs.Tree as tree
use Rattle.lang_tree.specs.Tree.{Condition, Statement, Statements, nil, cons}
use Rattle.lang_meaning.specs.Results.{◌>>=◌}
use Rattle.lang_meaning.specs.Walk.{State, followed_by, one, closed, counted, counted_for, demanded, tested, walk_expr}
use Rattle.lang_meaning.specs.Walk.{walk_core}
use Rattle.lang_meaning.specs.Feed as feeds
use Rattle.lang_meaning.specs.Feed.{Frame, side, before, group, test, assigns, initial, header, header_tested, of_items, of_branch}
use Rattle.lang_meaning.specs.Feed.{of_other, of_loop, of_body, of_for, under, wrapped, stands, after, Machine, at, Outcome, is_inside}
use Rattle.lang_meaning.specs.Feed.{pushed, settled, of_if, of_while, of_do, of_demand, wants}
use Rattle.lang_feed.proofs.feed.Expressions.{feed, fed_expr}
use Rattle.lang_meaning.specs.declared.fault.ParseFault.{ParseFault}
use Rattle.lang_meaning.proofs.results.Binds.{bind_both, bind_right}
use Rattle.lang_feed.proofs.feed.SmallConditions.{walk_small, small_then, test_respects}

-- statements followed by none are themselves
pub follow_nil : (ns : Statements) → followed_by ns nil ≡ ns
follow_nil nil = refl
follow_nil (cons n ns) = ap (cons n) (follow_nil ns)

-- following is associative
pub follow_assoc : (ns ms ls : Statements) → followed_by (followed_by ns ms) ls ≡ followed_by ns (followed_by ms ls)
follow_assoc nil ms ls = refl
follow_assoc (cons n ns) ms ls = ap (cons n) (follow_assoc ns ms ls)

-- The text goes on, and where an `if` waits for its `else`, with another token.
abbrev pub Follows : Ending → List Token → Type 0
Follows shut [] = ⊥
Follows shut (t ∷ w) = Unit {0}
Follows waiting w = GoesOn w

-- what goes on with no `else` follows any statement
pub goes_follows : (x : Ending) (w : List Token) → GoesOn w → Follows x w
goes_follows shut [] h = absurd h
goes_follows shut (t ∷ w) h = tt
goes_follows waiting w h = h

-- any token follows a statement that takes no `else`
pub shut_follows : (x : Ending) (t : Token) (w : List Token) → x ≡ shut → Follows x (t ∷ w)
shut_follows shut t w h = tt
shut_follows waiting t w h = cc

-- a frame of statements is on top
abbrev pub IsOpen : List Frame → Type 0
IsOpen (under w ns ∷ fs) = Unit {0}
IsOpen _ = ⊥

module _ (line : ℕ → ℕ) (width : ℕ) where
  abbrev F : List Token → Machine → Outcome
  F ts s = feed line width ts s

  abbrev behind : State → List Frame → Statements → Kind → ℕ → Outcome
  behind st fs ms k a = feeds.behind_statement line width st fs ms k a

  abbrev behind_closed : State × List Frame → Kind → ℕ → Outcome
  behind_closed r k a = feeds.behind_closed line width r k a

  abbrev close : State → Statements → List Frame → State × List Frame
  close st ms fs = feeds.close line st ms fs

  abbrev attach : State → Statements → List Frame → State × List Frame
  attach st ms fs = feeds.attach line st ms fs

  abbrev pair : State → List Frame → State × List Frame
  pair st fs = (st, fs)

  -- what follows a statement depends on what is closed and attached alone
  behind_same : (st su : State) (fs gs : List Frame) (ms ns : Statements) (k : Kind) (b : ℕ) → close st ms fs ≡ close su ns gs
      → attach st ms fs ≡ attach su ns gs → behind st fs ms k b ≡ behind su gs ns k b
  behind_same st su fs gs ms ns else_word b h i = ap (λ (x : State × List Frame). Ok (at x.0 x.1 stands)) i
  behind_same st su fs gs ms ns k b h i = ap (λ (x : State × List Frame). behind_closed x k b) h

  behind_go : (st : State) (fs : List Frame) (ms : Statements) (k : Kind) (b : ℕ) → NotElse k
      → behind st fs ms k b ≡ behind_closed (close st ms fs) k b
  behind_go st fs ms else_word b h = cc
  behind_go st fs ms _ b h = refl

  -- what closes a frame with a statement more
  pub pushed_close : (n : Statement) (st : State) (fs : List Frame) (ms : Statements) → IsOpen fs
      → close st ms (pushed n fs) ≡ close st (cons n ms) fs
  pushed_close n st (under (of_items k) ns ∷ fs) ms h = ap (λ (x : Statements). pair st (under (of_items k) x ∷ fs))
      (follow_assoc ns (one n) ms)
  pushed_close n st (under (of_body a) ns ∷ fs) ms h = ap (λ (x : Statements). pair st (under (of_body a) x ∷ fs))
      (follow_assoc ns (one n) ms)
  pushed_close n st (under (of_branch c a) ns ∷ fs) ms h = ap (λ (x : Statements). close st (wrapped line (of_branch c a) x) fs)
      (follow_assoc ns (one n) ms)
  pushed_close n st (under (of_other c ls a) ns ∷ fs) ms h = ap (λ (x : Statements). close st (wrapped line (of_other c ls a) x) fs)
      (follow_assoc ns (one n) ms)
  pushed_close n st (under (of_loop c a) ns ∷ fs) ms h = ap (λ (x : Statements). close st (wrapped line (of_loop c a) x) fs)
      (follow_assoc ns (one n) ms)
  pushed_close n st (under (of_for k a bs c g) ns ∷ fs) ms h = ap (λ (x : Statements). close (closed k st)
      (wrapped line (of_for k a bs c g) x) fs) (follow_assoc ns (one n) ms)
  pushed_close n st _ ms h = absurd h

  -- what is attached to a frame with a statement more
  pub pushed_attach : (n : Statement) (st : State) (fs : List Frame) (ms : Statements) → IsOpen fs
      → attach st ms (pushed n fs) ≡ attach st (cons n ms) fs
  pushed_attach n st (under (of_items k) ns ∷ fs) ms h = refl
  pushed_attach n st (under (of_body a) ns ∷ fs) ms h = refl
  pushed_attach n st (under (of_branch c a) ns ∷ fs) ms h = ap (λ (x : Statements). pair st (under (of_other c x a) nil ∷ fs))
      (follow_assoc ns (one n) ms)
  pushed_attach n st (under (of_other c ls a) ns ∷ fs) ms h = ap (λ (x : Statements). attach st (wrapped line (of_other c ls a) x) fs)
      (follow_assoc ns (one n) ms)
  pushed_attach n st (under (of_loop c a) ns ∷ fs) ms h = ap (λ (x : Statements). attach st (wrapped line (of_loop c a) x) fs)
      (follow_assoc ns (one n) ms)
  pushed_attach n st (under (of_for k a bs c g) ns ∷ fs) ms h = ap (λ (x : Statements). attach (closed k st)
      (wrapped line (of_for k a bs c g) x) fs) (follow_assoc ns (one n) ms)
  pushed_attach n st _ ms h = absurd h

  -- a frame of statements stays one with a statement more
  pub pushed_open : (n : Statement) (fs : List Frame) → IsOpen fs → IsOpen (pushed n fs)
  pushed_open n (under w ns ∷ fs) h = tt
  pushed_open n _ h = absurd h

  -- a statement more changes nothing of the loops around
  pub pushed_inside : (n : Statement) (fs : List Frame) → IsOpen fs → is_inside (pushed n fs) ≡ is_inside fs
  pushed_inside n (under (of_items k) ns ∷ fs) h = refl
  pushed_inside n (under (of_body a) ns ∷ fs) h = refl
  pushed_inside n (under (of_branch c a) ns ∷ fs) h = refl
  pushed_inside n (under (of_other c ls a) ns ∷ fs) h = refl
  pushed_inside n (under (of_loop c a) ns ∷ fs) h = refl
  pushed_inside n (under (of_for k a bs c g) ns ∷ fs) h = refl
  pushed_inside n [] h = absurd h
  pushed_inside n (side u o a ∷ fs) h = absurd h
  pushed_inside n (before p a ∷ fs) h = absurd h
  pushed_inside n (group a ∷ fs) h = absurd h
  pushed_inside n (test t a ∷ fs) h = absurd h
  pushed_inside n (assigns i g b a ∷ fs) h = absurd h
  pushed_inside n (initial x a b ∷ fs) h = absurd h
  pushed_inside n (header k a ns ∷ fs) h = absurd h
  pushed_inside n (header_tested k a ns c ∷ fs) h = absurd h

  -- behind a statement a frame of statements goes on
  pub settled_open : (st : State) (fs : List Frame) (ms : Statements) → IsOpen fs → settled st fs ms ≡ at st fs (after ms)
  settled_open st (under w ns ∷ fs) ms h = refl
  settled_open st [] ms h = absurd h
  settled_open st (side u o a ∷ fs) ms h = absurd h
  settled_open st (before p a ∷ fs) ms h = absurd h
  settled_open st (group a ∷ fs) ms h = absurd h
  settled_open st (test t a ∷ fs) ms h = absurd h
  settled_open st (assigns i g b a ∷ fs) ms h = absurd h
  settled_open st (initial x a b ∷ fs) ms h = absurd h
  settled_open st (header k a ns ∷ fs) ms h = absurd h
  settled_open st (header_tested k a ns c ∷ fs) ms h = absurd h

  -- ---- what a statement within another one leaves
  -- feeding what follows a statement depends on what is closed and attached alone
  pub pass : (st su : State) (fs gs : List Frame) (ms ns : Statements) (x : Ending) (w : List Token) → Follows x w
      → close st ms fs ≡ close su ns gs
      → attach st ms fs ≡ attach su ns gs → F w (at st fs (after ms)) ≡ F w (at su gs (after ns))
  pass st su fs gs ms ns shut [] f h i = absurd f
  pass st su fs gs ms ns waiting [] f h i = absurd f
  pass st su fs gs ms ns x (token k b ∷ w) f h i = ap (λ (r : Outcome). r >>= λ s. F w s) (behind_same st su fs gs ms ns k b h i)

  -- where no `else` follows, an `if` is closed
  pub pass_branch : (st : State) (c : Condition) (a : ℕ) (ns : Statements) (fs : List Frame) (ms : Statements) (w : List Token) → GoesOn w
      → F w (at st (under (of_branch c a) ns ∷ fs) (after ms)) ≡ F w (at st fs
      (after (one (tree.branch c (followed_by ns ms) nil (line a)))))
  pass_branch st c a ns fs ms [] h = absurd h
  pass_branch st c a ns fs ms (token k b ∷ w) h = ap (λ (r : Outcome). r >>= λ s. F w s)
      (behind_go st (under (of_branch c a) ns ∷ fs) ms k b h
      ∙ sym (behind_go st fs (one (tree.branch c (followed_by ns ms) nil (line a))) k b h))

  items_begun : (st : State) (i : ℕ) (ns : Statements) (fs : List Frame) (k : Kind) (b : ℕ)
      → behind_closed (pair st (under (of_items i) ns ∷ fs)) k b ≡ feeds.begun line width st (under (of_items i) ns ∷ fs) k b
  items_begun st i ns fs while_word b = refl
  items_begun st i ns fs _ b = refl

  -- items go on behind a statement
  pub pass_items : (st : State) (i : ℕ) (ns : Statements) (fs : List Frame) (ms : Statements) (w : List Token) → GoesOn w
      → F w (at st (under (of_items i) ns ∷ fs) (after ms)) ≡ F w (at st (under (of_items i) (followed_by ns ms) ∷ fs) stands)
  pass_items st i ns fs ms [] h = absurd h
  pass_items st i ns fs ms (token k b ∷ w) h = ap (λ (r : Outcome). r >>= λ s. F w s) (behind_go st (under (of_items i) ns ∷ fs) ms k b h
      ∙ items_begun st i (followed_by ns ms) fs k b)

  -- ---- what each tree does
  -- what a tree makes of a state
  abbrev pub Walk : Type 0
  Walk = State → Result (State × Statements) ParseFault

  -- the tokens do what this walk does, as a statement
  abbrev pub Does : List Token → List Token → State → List Frame → Result (State × Statements) ParseFault → Type 0
  Does x w st fs r = F (x ++ w) (at st fs stands) ≡ r >>= λ q. F w (at q.0 fs (after q.1))

  -- the same as items
  abbrev pub DoesItems : List Token → List Token → State → ℕ → Statements → List Frame → Result (State × Statements) ParseFault → Type 0
  DoesItems x w st i ns fs r = F (x ++ w) (at st (under (of_items i) ns ∷ fs) stands) ≡ r
      >>= λ q. F w (at q.0 (under (of_items i) (followed_by ns q.1) ∷ fs) stands)

  -- a block does what its items do
  pub case_block : (a : ℕ) (x : List Token) (b : ℕ) (w : List Token) (st : State) (fs : List Frame)
      (walked : Result (State × Statements) ParseFault)
      → DoesItems x (token right_brace b ∷ w) st (length st.known) nil fs walked
      → Does (token left_brace a ∷ (x ++ token right_brace b ∷ [])) w st fs (walked >>= λ r. Ok (closed (length st.known) r.0, r.1))
  case_block a x b w st fs walked h =
      ap (λ (y : List Token). F y (at st (under (of_items (length st.known)) nil ∷ fs) stands))
      (append_assoc x (token right_brace b ∷ []) w) ∙ h
      ∙ bind_right walked _ (λ r. Ok (closed (length st.known) r.0, r.1)) _ (λ r. refl)

  -- a condition in parentheses, and what comes of it
  condition_fed : (a : ℕ) (t : feeds.Test) (st : State) (fs : List Frame) (e : Expr) (c : ℕ) (y w : List Token) (g : Condition
      → Result (State × Statements) ParseFault) → Groups 0 e
      → ((x : Condition) → (feeds.decided line width t a st fs x >>= λ s. F (y ++ w) s) ≡ g x >>= λ q. F w (at q.0 fs (after q.1)))
      → F ((spell_expr e ++ token right_paren c ∷ y) ++ w) (at st (test t a ∷ fs) wants)
      ≡ (walk_expr line width st e >>= λ v. tested a v >>= λ x. g x) >>= λ q. F w (at q.0 fs (after q.1))
  condition_fed a t st fs e c y w g k h =
      ap (λ (z : List Token). F z (at st (test t a ∷ fs) wants)) (append_assoc (spell_expr e) (token right_paren c ∷ y) w)
      ∙ fed_expr line width st e 0 (test t a ∷ fs) (token right_paren c) (y ++ w) k tt tt
      ∙ bind_right (walk_small line width st e) _ (λ v. tested a v >>= λ x. g x) (λ q. F w (at q.0 fs (after q.1)))
      (λ v. bind_both (tested a v) (λ x. feeds.decided line width t a st fs x) (λ s. F (y ++ w) s) (λ x. g x) _ h)
      ∙ small_then line width st e (λ v. tested a v >>= λ x. g x) (λ q. F w (at q.0 fs (after q.1))) (test_respects line width a g)

  -- an `if` without `else` does what its branch does
  pub case_if_alone : (a b c : ℕ) (e : Expr) (y w : List Token) (st : State) (fs : List Frame) (walked : Walk) → Groups 0 e → GoesOn w
      → ((now : State) (x : Condition) → Does y w now (under (of_branch x a) nil ∷ fs) (walked now))
      → Does (token if_word a ∷ token left_paren b ∷ (spell_expr e ++ token right_paren c ∷ y)) w st fs (walk_expr line width st e
      >>= λ v. tested a v >>= λ x. counted a st >>= λ now. walked now >>= λ r. Ok (r.0, one (tree.branch x r.1 nil (line a))))
  case_if_alone a b c e y w st fs walked g h f =
      condition_fed a of_if st fs e c y w (λ x. counted a st >>= λ now. walked now >>= λ r. Ok (r.0, one (tree.branch x r.1 nil (line a))))
      g
      (λ x. bind_both (counted a st) (λ now. Ok (at now (under (of_branch x a) nil ∷ fs) stands)) (λ s. F (y ++ w) s)
      (λ now. walked now >>= λ r. Ok (r.0, one (tree.branch x r.1 nil (line a)))) _ (λ now. f now x
      ∙ bind_right (walked now) _ (λ r. Ok (r.0, one (tree.branch x r.1 nil (line a)))) _ (λ r. pass_branch r.0 x a nil fs r.1 w h)))

  -- a `while` does what its body does
  pub case_repeat : (a b c : ℕ) (e : Expr) (y w : List Token) (st : State) (fs : List Frame) (walked : Walk) (n : Ending) → Groups 0 e
      → Follows n w
      → ((now : State) (x : Condition) → Does y w now (under (of_loop x a) nil ∷ fs) (walked now))
      → Does (token while_word a ∷ token left_paren b ∷ (spell_expr e ++ token right_paren c ∷ y)) w st fs (walk_expr line width st e
      >>= λ v. tested a v >>= λ x. counted a st >>= λ now. walked now >>= λ r. Ok
      (r.0, one (tree.loop (tree.while_loop []) x r.1 (line a))))
  case_repeat a b c e y w st fs walked n g h f =
      condition_fed a of_while st fs e c y w (λ x. counted a st >>= λ now. walked now
      >>= λ r. Ok (r.0, one (tree.loop (tree.while_loop []) x r.1 (line a)))) g
      (λ x. bind_both (counted a st) (λ now. Ok (at now (under (of_loop x a) nil ∷ fs) stands)) (λ s. F (y ++ w) s)
      (λ now. walked now >>= λ r. Ok (r.0, one (tree.loop (tree.while_loop []) x r.1 (line a)))) _ (λ now. f now x
      ∙ bind_right (walked now) _ (λ r. Ok (r.0, one (tree.loop (tree.while_loop []) x r.1 (line a)))) _
      (λ r. pass r.0 r.0 (under (of_loop x a) nil ∷ fs) fs r.1 (one (tree.loop (tree.while_loop []) x r.1 (line a))) n w h refl refl)))

  -- an `if` with `else` does what its branches do
  pub case_if_else : (a b c i : ℕ) (e : Expr) (y z w : List Token) (st : State) (fs : List Frame) (first second : Walk) (n : Ending)
      → Groups 0 e
      → Follows n w → ((now : State) (x : Condition) → Does y (token else_word i ∷ (z ++ w)) now (under (of_branch x a) nil ∷ fs)
      (first now))
      → ((now : State) (x : Condition) (ns : Statements) → Does z w now (under (of_other x ns a) nil ∷ fs) (second now))
      → Does (token if_word a ∷ token left_paren b ∷ (spell_expr e ++ token right_paren c ∷ (y ++ token else_word i ∷ z))) w st fs
      (walk_expr line width st e >>= λ v. tested a v >>= λ x. counted a st >>= λ now. first now >>= λ r. second r.0
      >>= λ q. Ok (q.0, one (tree.branch x r.1 q.1 (line a))))
  case_if_else a b c i e y z w st fs first second n g h f k =
      condition_fed a of_if st fs e c (y ++ token else_word i ∷ z) w (λ x. counted a st >>= λ now. first now >>= λ r. second r.0
      >>= λ q. Ok (q.0, one (tree.branch x r.1 q.1 (line a)))) g
      (λ x. bind_both (counted a st) (λ now. Ok (at now (under (of_branch x a) nil ∷ fs) stands))
      (λ s. F ((y ++ token else_word i ∷ z) ++ w) s)
      (λ now. first now >>= λ r. second r.0 >>= λ q. Ok (q.0, one (tree.branch x r.1 q.1 (line a)))) _ (λ now.
      ap (λ (u : List Token). F u (at now (under (of_branch x a) nil ∷ fs) stands)) (append_assoc y (token else_word i ∷ z) w)
      ∙ f now x
      ∙ bind_right (first now) _ (λ r. second r.0 >>= λ q. Ok (q.0, one (tree.branch x r.1 q.1 (line a)))) _ (λ r.
      k r.0 x r.1
      ∙ bind_right (second r.0) _ (λ q. Ok (q.0, one (tree.branch x r.1 q.1 (line a)))) _
      (λ q. pass q.0 q.0 (under (of_other x r.1 a) nil ∷ fs) fs q.1 (one (tree.branch x r.1 q.1 (line a))) n w h refl refl))))

  -- an `assume` or `assert` does what its condition does
  pub case_demands : (k : Demand) (a b c d : ℕ) (e : Expr) (w : List Token) (st : State) (fs : List Frame) (n : Bool) → IsOpen fs
      → Groups 0 e
      → Does (spell_core (demands k a b e c d)) w st fs (walk_core line width n (demands k a b e c d) st)
  case_demands k a b c d e w st fs n o g =
      bind_both (counted_for k a st) (λ now. Ok (at now fs (feeds.opens (of_demand k) a)))
      (λ s. F (token left_paren b ∷ ((spell_expr e ++ token right_paren c ∷ token semicolon d ∷ []) ++ w)) s)
      (λ now. walk_expr line width now e
      >>= λ v. tested a v >>= λ x. Ok (now, demanded line k a x)) _
      (λ now. condition_fed a (of_demand k) now fs e c (token semicolon d ∷ []) w (λ x. Ok (now, demanded line k a x)) g
      (λ x. ap (λ (m : Machine). F w m) (settled_open now fs (demanded line k a x) o)))

  -- a `do` does what its body does
  pub case_do : (a b c d i : ℕ) (e : Expr) (y w : List Token) (st : State) (fs : List Frame) (walked : Walk) → IsOpen fs → Groups 0 e
      → ((now : State) → Does y (token while_word b ∷ token left_paren c
      ∷ ((spell_expr e ++ token right_paren d ∷ token semicolon i ∷ []) ++ w))
      now (under (of_body a) nil ∷ fs) (walked now))
      → Does (token do_word a ∷ (y ++ token while_word b ∷ token left_paren c
      ∷ (spell_expr e ++ token right_paren d ∷ token semicolon i ∷ []))) w st fs
      (counted a st >>= λ now. walked now >>= λ r. walk_expr line width r.0 e >>= λ v. tested a v
      >>= λ x. Ok (r.0, one (tree.loop (tree.do_loop []) x r.1 (line a))))
  case_do a b c d i e y w st fs walked o g f =
      bind_both (counted a st) (λ now. Ok (at now (under (of_body a) nil ∷ fs) stands))
      (λ s. F ((y ++ token while_word b ∷ token left_paren c ∷ (spell_expr e ++ token right_paren d ∷ token semicolon i ∷ [])) ++ w) s)
      (λ now. walked now >>= λ r. walk_expr line width r.0 e >>= λ v. tested a v
      >>= λ x. Ok (r.0, one (tree.loop (tree.do_loop []) x r.1 (line a)))) _ (λ now.
      ap (λ (u : List Token). F u (at now (under (of_body a) nil ∷ fs) stands))
      (append_assoc y (token while_word b ∷ token left_paren c ∷ (spell_expr e ++ token right_paren d ∷ token semicolon i ∷ [])) w)
      ∙ f now
      ∙ bind_right (walked now) _ (λ r. walk_expr line width r.0 e >>= λ v. tested a v
      >>= λ x. Ok (r.0, one (tree.loop (tree.do_loop []) x r.1 (line a)))) _
      (λ r. condition_fed a (of_do r.1) r.0 fs e d (token semicolon i ∷ []) w
      (λ x. Ok (r.0, one (tree.loop (tree.do_loop []) x r.1 (line a)))) g
      (λ x. ap (λ (m : Machine). F w m) (settled_open r.0 fs (one (tree.loop (tree.do_loop []) x r.1 (line a))) o))))
