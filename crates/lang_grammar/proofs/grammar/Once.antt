-- A text has at most one program.
use Rattle.std.proofs.Common.{◌≡◌, ◌∙◌, ◌++◌, ℕ, suc, List, [], ◌∷◌, refl, sym, ap, ap₂, append_assoc, arith}
use Rattle.lang_grammar.specs.Grammar.{Kind, infix_sign, minus_op, a_name, a_number, right_paren, left_paren, right_brace, left_brace}
use Rattle.lang_grammar.specs.Grammar.{semicolon, change_sign, int_word, main_word, if_word, else_word, while_word, return_word}
use Rattle.lang_grammar.specs.Grammar.{demand_word, the_end}
use Rattle.lang_grammar.specs.Grammar.{do_word, for_word, negative, positive, negation, number, variable, free, grouped, prefixed, joined}
use Rattle.lang_grammar.specs.Grammar.{Update, spell_update, GoodUpdate, ForFirst, no_first, declared_first, updated_first, spell_first}
use Rattle.lang_grammar.specs.Grammar.{GoodFirst, ForTest, no_test}
use Rattle.lang_grammar.specs.Grammar.{given_test, spell_test, GoodTest, ForLast, no_last, updated_last, spell_last, GoodLast, repeat_after}
use Rattle.lang_grammar.specs.Grammar.{repeat_for, jumps, updates}
use Rattle.lang_grammar.specs.Grammar.{Token, token, Expr, spell_expr, spell_declarators}
use Rattle.lang_grammar.specs.Grammar.{Core, empty, block, if_alone, if_else, repeat, demands, set, step_after, step_before, Sub, labelled}
use Rattle.lang_grammar.specs.Grammar.{plain}
use Rattle.lang_grammar.specs.Grammar.{Items, no_items, label, declaration, item, spell_core, spell_sub, spell_items, ending_core}
use Rattle.lang_grammar.specs.Grammar.{ending_sub, GoodCore, GoodSub, GoodItems, Parameters, nothing, void_at, Return, no_return, returns}
use Rattle.lang_grammar.specs.Grammar.{returns_minus}
use Rattle.lang_grammar.specs.Grammar.{spell_return, Program, program, spell, Good, Reads}
use Rattle.lang_grammar.proofs.grammar.Complete.{items_head}
use Rattle.lang_grammar.proofs.grammar.Sound.{Clear}
use Rattle.lang_grammar.proofs.grammar.Unique.{weight, IsEnd, unique, unique_expr, tail_of, head_of}
use Rattle.lang_grammar.proofs.grammar.OncePieces.{cond_once, goes_clear, any_clear, shut_clear, not_else, label_core, int_core, Ends}
use Rattle.lang_grammar.proofs.grammar.OncePieces.{end_core, end_name, end_int, end_goes, if_alone_same, if_else_same, repeat_same}
use Rattle.lang_grammar.proofs.grammar.OncePieces.{repeat_after_same, repeat_for_same, set_same, demands_same, labelled_same, label_same}
use Rattle.lang_grammar.proofs.grammar.OncePieces.{declaration_same, declarators_once}

-- ---- assignments and steps, and what ends them
update_once : (u v : Update) (t s : Token) (w x : List Token) → IsEnd t → IsEnd s → GoodUpdate u → GoodUpdate v
    → spell_update u ++ t ∷ w ≡ spell_update v ++ s ∷ x → (u ≡ v) × (t ∷ w ≡ s ∷ x)
update_once (set v a g b f) (set v2 a2 g2 b2 f2) t s w x m n h i e =
    let q = tail_of (token (a_name v) a) (token (a_name v2) a2) _ _ e in
    let r = unique_expr (suc (weight f)) (unique (suc (weight f))) f f2 t s w x (omega arith) h i m n
    (tail_of (token (change_sign g) b) (token (change_sign g2) b2) _ _ q) in
    (set_same v a b g f v2 a2 b2 g2 f2 (head_of _ _ _ _ e) (head_of _ _ _ _ q) r.0, r.1)
update_once (step_after v a g b) (step_after v2 a2 g2 b2) t s w x m n h i e = ((cc), (cc))
update_once (step_before g a v b) (step_before g2 a2 v2 b2) t s w x m n h i e = ((cc), (cc))
update_once _ _ t s w x m n h i e = cc

-- an assignment or a step, and one token
ended_once : (u v : Update) (t s : Token) (w x : List Token) → IsEnd t → IsEnd s → GoodUpdate u → GoodUpdate v
    → (spell_update u ++ t ∷ []) ++ w ≡ (spell_update v ++ s ∷ []) ++ x → (u ≡ v) × (t ∷ w ≡ s ∷ x)
ended_once u v t s w x m n h i e = update_once u v t s w x m n h i (sym (append_assoc (spell_update u) (t ∷ []) w) ∙ e
    ∙ append_assoc (spell_update v) (s ∷ []) x)

-- an assignment or a step, and the sign that ends it
signed_once : (k : Kind) (u v : Update) (a b : ℕ) (w x : List Token) → IsEnd (token k a) → IsEnd (token k b) → GoodUpdate u → GoodUpdate v
    → (spell_update u ++ token k a ∷ []) ++ w ≡ (spell_update v ++ token k b ∷ []) ++ x → (u ≡ v) × (a ≡ b) × (w ≡ x)
signed_once k u v a b w x m n h i e =
    let r = ended_once u v (token k a) (token k b) w x m n h i e in
    let q : token k a ≡ token k b = head_of _ _ _ _ r.1 in
    (r.0, cc, tail_of _ _ _ _ r.1)

updates_once : (u v : Update) (a b : ℕ) (w x : List Token) → GoodUpdate u → GoodUpdate v
    → (spell_update u ++ token semicolon a ∷ []) ++ w ≡ (spell_update v ++ token semicolon b ∷ []) ++ x
    → (updates u a ≡ updates v b) × (w ≡ x)
updates_once u v a b w x h i e = let r = signed_once semicolon u v a b w x tt tt h i e in (ap₂ updates r.0 r.1, r.2)

-- ---- the head of a `for`
first_once : (f g : ForFirst) (w x : List Token) → GoodFirst f → GoodFirst g → spell_first f ++ w ≡ spell_first g ++ x → (f ≡ g) × (w ≡ x)
first_once (no_first a) (no_first b) w x h i e = ((cc), (cc))
first_once (declared_first a xs) (declared_first b ys) w x h i e =
    let r = declarators_once xs ys w x h i (tail_of (token int_word a) (token int_word b) _ _ e) in
    let k : token int_word a ≡ token int_word b = head_of _ _ _ _ e in
    let j : xs ≡ ys = r.0 in
    ((cc), r.1)
first_once (updated_first u a) (updated_first v b) w x h i e =
    let r = signed_once semicolon u v a b w x tt tt h i e in (ap₂ updated_first r.0 r.1, r.2)
first_once _ (updated_first (set v a y b f) z) w x h i e = cc
first_once _ (updated_first (step_after v a y b) z) w x h i e = cc
first_once _ (updated_first (step_before y a v b) z) w x h i e = cc
first_once (updated_first (set v a y b f) z) _ w x h i e = cc
first_once (updated_first (step_after v a y b) z) _ w x h i e = cc
first_once (updated_first (step_before y a v b) z) _ w x h i e = cc
first_once _ _ w x h i e = cc

-- no expression begins with `;`
semicolon_expr : (e : Expr) (a : ℕ) (w x : List Token) → token semicolon a ∷ w ≡ spell_expr e ++ x → ⊥
semicolon_expr (number n b) a w x q = cc
semicolon_expr (variable v b) a w x q = cc
semicolon_expr (free b c d) a w x q = cc
semicolon_expr (grouped b e c) a w x q = cc
semicolon_expr (prefixed negative b e) a w x q = cc
semicolon_expr (prefixed positive b e) a w x q = cc
semicolon_expr (prefixed negation b e) a w x q = cc
semicolon_expr (joined e o b f) a w x q = semicolon_expr e a w (token (infix_sign o) b ∷ (spell_expr f ++ x))
    (q ∙ append_assoc (spell_expr e) (token (infix_sign o) b ∷ spell_expr f) x)

test_once : (t u : ForTest) (w x : List Token) → GoodTest t → GoodTest u → spell_test t ++ w ≡ spell_test u ++ x → (t ≡ u) × (w ≡ x)
test_once (no_test a) (no_test b) w x h i e = ((cc), (cc))
test_once (no_test a) (given_test f b) w x h i e = absurd (semicolon_expr f a w (token semicolon b ∷ x)
    (e ∙ append_assoc (spell_expr f) (token semicolon b ∷ []) x))
test_once (given_test f a) (no_test b) w x h i e = absurd (semicolon_expr f b x (token semicolon a ∷ w)
    (sym e ∙ append_assoc (spell_expr f) (token semicolon a ∷ []) w))
test_once (given_test f a) (given_test g b) w x h i e =
    let r = unique_expr (suc (weight f)) (unique (suc (weight f))) f g (token semicolon a) (token semicolon b) w x (omega arith) h i tt tt
    (sym (append_assoc (spell_expr f) (token semicolon a ∷ []) w) ∙ e ∙ append_assoc (spell_expr g) (token semicolon b ∷ []) x) in
    let k : token semicolon a ≡ token semicolon b = head_of _ _ _ _ r.1 in
    let j : f ≡ g = r.0 in
    ((cc), tail_of _ _ _ _ r.1)

last_once : (l m : ForLast) (w x : List Token) → GoodLast l → GoodLast m → spell_last l ++ w ≡ spell_last m ++ x → (l ≡ m) × (w ≡ x)
last_once (no_last a) (no_last b) w x h i e = ((cc), (cc))
last_once (updated_last u a) (updated_last v b) w x h i e =
    let r = signed_once right_paren u v a b w x tt tt h i e in (ap₂ updated_last r.0 r.1, r.2)
last_once _ (updated_last (set v a y b f) z) w x h i e = cc
last_once _ (updated_last (step_after v a y b) z) w x h i e = cc
last_once _ (updated_last (step_before y a v b) z) w x h i e = cc
last_once (updated_last (set v a y b f) z) _ w x h i e = cc
last_once (updated_last (step_after v a y b) z) _ w x h i e = cc
last_once (updated_last (step_before y a v b) z) _ w x h i e = cc

-- the end of a `do`
abbrev do_tail : ℕ → ℕ → Expr → ℕ → ℕ → List Token
do_tail b c f d i = token while_word b ∷ token left_paren c ∷ (spell_expr f ++ token right_paren d ∷ token semicolon i ∷ [])

-- the rest of a `for`
abbrev after_first : ForTest → ForLast → Sub → List Token
after_first t l s = spell_test t ++ (spell_last l ++ spell_sub s)

mutual
  core_once : (c d : Core) (w x : List Token) → GoodCore c → GoodCore d → Clear (ending_core c) w → Clear (ending_core d) x
      → spell_core c ++ w ≡ spell_core d ++ x → (c ≡ d) × (w ≡ x)
  core_once (empty a) (empty b) w x g h m n e = ((cc), (cc))
  core_once (block a is b) (block c js d) w x g h m n e =
      let r = items_once is js right_brace b right_brace d w x g h tt tt
      (sym (append_assoc (spell_items is) (token right_brace b ∷ []) w) ∙ tail_of (token left_brace a) (token left_brace c) _ _ e
      ∙ append_assoc (spell_items js) (token right_brace d ∷ []) x) in
      let i : is ≡ js = r.0 in
      let j : token right_brace b ∷ w ≡ token right_brace d ∷ x = r.1 in
      let k : token left_brace a ≡ token left_brace c = head_of _ _ _ _ e in
      ((cc), (cc))
  core_once (if_alone a b f c s) (if_alone a2 b2 f2 c2 s2) w x g h m n e =
      let r = cond_once if_word a b f c left_paren a2 b2 f2 c2 right_paren (spell_sub s) (spell_sub s2) w x tt g.0 h.0 e in
      let q = sub_once s s2 w x g.1 h.1 (any_clear (ending_sub s) w m) (any_clear (ending_sub s2) x n) r.rest in
      (if_alone_same a b f c s a2 b2 f2 c2 s2 r.one r.two r.same r.three q.0, q.1)
  core_once (if_alone a b f c s) (if_else a2 b2 f2 c2 s2 i t) w x g h m n e =
      let r = cond_once if_word a b f c left_paren a2 b2 f2 c2 right_paren (spell_sub s) (spell_sub s2 ++ token else_word i ∷ spell_sub t) w
      x tt g.0 h.0 e in
      let q = sub_once s s2 w (token else_word i ∷ (spell_sub t ++ x)) g.1 h.1 (any_clear (ending_sub s) w m)
      (shut_clear (ending_sub s2) _ h.2) (r.rest ∙ append_assoc (spell_sub s2) (token else_word i ∷ spell_sub t) x) in
      absurd (not_else w _ i m q.1)
  core_once (if_else a b f c s i t) (if_alone a2 b2 f2 c2 s2) w x g h m n e =
      let r = cond_once if_word a b f c left_paren a2 b2 f2 c2 right_paren (spell_sub s ++ token else_word i ∷ spell_sub t) (spell_sub s2) w
      x tt g.0 h.0 e in
      let q = sub_once s s2 (token else_word i ∷ (spell_sub t ++ w)) x g.1 h.1 (shut_clear (ending_sub s) _ g.2)
      (any_clear (ending_sub s2) x n) (sym (append_assoc (spell_sub s) (token else_word i ∷ spell_sub t) w) ∙ r.rest) in
      absurd (not_else x _ i n (sym q.1))
  core_once (if_else a b f c s i t) (if_else a2 b2 f2 c2 s2 j u) w x g h m n e =
      let r = cond_once if_word a b f c left_paren a2 b2 f2 c2 right_paren (spell_sub s ++ token else_word i ∷ spell_sub t)
      (spell_sub s2 ++ token else_word j ∷ spell_sub u) w x tt g.0 h.0 e in
      let q = sub_once s s2 (token else_word i ∷ (spell_sub t ++ w)) (token else_word j ∷ (spell_sub u ++ x)) g.1 h.1
      (shut_clear (ending_sub s) _ g.2) (shut_clear (ending_sub s2) _ h.2)
      (sym (append_assoc (spell_sub s) (token else_word i ∷ spell_sub t) w) ∙ r.rest
      ∙ append_assoc (spell_sub s2) (token else_word j ∷ spell_sub u) x) in
      let y = sub_once t u w x g.3 h.3 m n (tail_of _ _ _ _ q.1) in
      (if_else_same a b f c s i t a2 b2 f2 c2 s2 j u r.one r.two r.same r.three q.0 (head_of _ _ _ _ q.1) y.0, y.1)
  core_once (repeat a b f c s) (repeat a2 b2 f2 c2 s2) w x g h m n e =
      let r = cond_once while_word a b f c left_paren a2 b2 f2 c2 right_paren (spell_sub s) (spell_sub s2) w x tt g.0 h.0 e in
      let q = sub_once s s2 w x g.1 h.1 m n r.rest in
      (repeat_same a b f c s a2 b2 f2 c2 s2 r.one r.two r.same r.three q.0, q.1)
  core_once (demands y a b f c d) (demands y2 a2 b2 f2 c2 d2) w x g h m n e =
      let k : token (demand_word y) a ≡ token (demand_word y2) a2 = head_of _ _ _ _ e in
      let r = cond_once (demand_word y) a b f c left_paren a2 b2 f2 c2 right_paren (token semicolon d ∷ []) (token semicolon d2 ∷ []) w x tt
      g h (cc) in
      let q : token semicolon d ≡ token semicolon d2 = head_of _ _ _ _ r.rest in
      (demands_same y a b f c d y2 a2 b2 f2 c2 d2 k r.two r.same r.three (cc), tail_of _ _ _ _ r.rest)
  core_once (repeat_after a s b c f d i) (repeat_after a2 s2 b2 c2 f2 d2 i2) w x g h m n e =
      let r = sub_once s s2 (do_tail b c f d i ++ w) (do_tail b2 c2 f2 d2 i2 ++ x) g.0 h.0 (goes_clear (ending_sub s) _ refl)
      (goes_clear (ending_sub s2) _ refl) (sym (append_assoc (spell_sub s) (do_tail b c f d i) w)
      ∙ tail_of (token do_word a) (token do_word a2) _ _ e ∙ append_assoc (spell_sub s2) (do_tail b2 c2 f2 d2 i2) x) in
      let q = cond_once while_word b c f d left_paren b2 c2 f2 d2 right_paren (token semicolon i ∷ []) (token semicolon i2 ∷ []) w x tt g.1
      h.1 r.1 in (
        repeat_after_same a s b c f d i a2 s2 b2 c2 f2 d2 i2 (head_of _ _ _ _ e) r.0 q.one q.two q.same q.three (head_of _ _ _ _ q.rest),
        tail_of _ _ _ _ q.rest,
      )
  core_once (repeat_for a b f t l s) (repeat_for a2 b2 f2 t2 l2 s2) w x g h m n e =
      let k = tail_of (token for_word a) (token for_word a2) _ _ e in
      let r = first_once f f2 (after_first t l s ++ w) (after_first t2 l2 s2 ++ x) g.0 h.0
      (sym (append_assoc (spell_first f) (after_first t l s) w) ∙ tail_of (token left_paren b) (token left_paren b2) _ _ k
      ∙ append_assoc (spell_first f2) (after_first t2 l2 s2) x) in
      let q = test_once t t2 ((spell_last l ++ spell_sub s) ++ w) ((spell_last l2 ++ spell_sub s2) ++ x) g.1 h.1
      (sym (append_assoc (spell_test t) (spell_last l ++ spell_sub s) w) ∙ r.1
      ∙ append_assoc (spell_test t2) (spell_last l2 ++ spell_sub s2) x) in
      let o = last_once l l2 (spell_sub s ++ w) (spell_sub s2 ++ x) g.2 h.2
      (sym (append_assoc (spell_last l) (spell_sub s) w) ∙ q.1 ∙ append_assoc (spell_last l2) (spell_sub s2) x) in
      let y = sub_once s s2 w x g.3 h.3 m n o.1 in
      (repeat_for_same a b f t l s a2 b2 f2 t2 l2 s2 (head_of _ _ _ _ e) (head_of _ _ _ _ k) r.0 q.0 o.0 y.0, y.1)
  core_once (jumps y a b) (jumps y2 a2 b2) w x g h m n e = ((cc), (cc))
  core_once (updates (set v a y b f) c) (updates (set v2 a2 y2 b2 f2) c2) w x g h m n e =
      updates_once (set v a y b f) (set v2 a2 y2 b2 f2) c c2 w x g h e
  core_once (updates (step_after v a y b) c) (updates (step_after v2 a2 y2 b2) c2) w x g h m n e = ((cc), (cc))
  core_once (updates (step_before y a v b) c) (updates (step_before y2 a2 v2 b2) c2) w x g h m n e = ((cc), (cc))
  core_once _ (updates (set v a y b f) z) w x g h m n e = cc
  core_once _ (updates (step_after v a y b) z) w x g h m n e = cc
  core_once _ (updates (step_before y a v b) z) w x g h m n e = cc
  core_once (updates (set v a y b f) z) _ w x g h m n e = cc
  core_once (updates (step_after v a y b) z) _ w x g h m n e = cc
  core_once (updates (step_before y a v b) z) _ w x g h m n e = cc
  core_once _ _ w x g h m n e = cc

  sub_once : (s t : Sub) (w x : List Token) → GoodSub s → GoodSub t → Clear (ending_sub s) w → Clear (ending_sub t) x
      → spell_sub s ++ w ≡ spell_sub t ++ x → (s ≡ t) × (w ≡ x)
  sub_once (labelled v a b s) (labelled v2 a2 b2 t) w x g h m n e =
      let q = sub_once s t w x g h m n (tail_of _ _ _ _ (tail_of (token (a_name v) a) (token (a_name v2) a2) _ _ e)) in (
        labelled_same v a b s v2 a2 b2 t (head_of _ _ _ _ e) (head_of _ _ _ _ (tail_of (token (a_name v) a) (token (a_name v2) a2) _ _ e))
            q.0,
        q.1,
      )
  sub_once (labelled v a b s) (plain c) w x g h m n e = absurd (label_core v a b _ x c e)
  sub_once (plain c) (labelled v a b s) w x g h m n e = absurd (label_core v a b _ w c (sym e))
  sub_once (plain c) (plain d) w x g h m n e = let q = core_once c d w x g h m n e in (ap plain q.0, q.1)

  items_once : (is js : Items) (k : Kind) (a : ℕ) (l : Kind) (b : ℕ) (w x : List Token) → GoodItems is → GoodItems js → Ends k → Ends l
      → spell_items is ++ token k a ∷ w ≡ spell_items js ++ token l b ∷ x → (is ≡ js) × (token k a ∷ w ≡ token l b ∷ x)
  items_once no_items no_items k a l b w x g h m n e = (refl, e)
  items_once no_items (label v i j js) k a l b w x g h m n e = absurd (end_name k a i v w _ m e)
  items_once (label v i j is) no_items k a l b w x g h m n e = absurd (end_name l b i v x _ n (sym e))
  items_once no_items (declaration i xs js) k a l b w x g h m n e = absurd (end_int k a i w _ m e)
  items_once (declaration i xs is) no_items k a l b w x g h m n e = absurd (end_int l b i x _ n (sym e))
  items_once no_items (item c js) k a l b w x g h m n e = absurd (end_core k a w (spell_items js ++ token l b ∷ x) c m
      (e ∙ append_assoc (spell_core c) (spell_items js) (token l b ∷ x)))
  items_once (item c is) no_items k a l b w x g h m n e = absurd (end_core l b x (spell_items is ++ token k a ∷ w) c n
      (sym e ∙ append_assoc (spell_core c) (spell_items is) (token k a ∷ w)))
  items_once (label v i j is) (label v2 i2 j2 js) k a l b w x g h m n e =
      let q = items_once is js k a l b w x g h m n (tail_of _ _ _ _ (tail_of (token (a_name v) i) (token (a_name v2) i2) _ _ e)) in (
        label_same v i j is v2 i2 j2 js (head_of _ _ _ _ e) (head_of _ _ _ _ (tail_of (token (a_name v) i) (token (a_name v2) i2) _ _ e))
            q.0,
        q.1,
      )
  items_once (label v i j is) (declaration i2 xs js) k a l b w x g h m n e = cc
  items_once (declaration i2 xs is) (label v i j js) k a l b w x g h m n e = cc
  items_once (declaration i xs is) (declaration i2 ys js) k a l b w x g h m n e =
      let r = declarators_once xs ys (spell_items is ++ token k a ∷ w) (spell_items js ++ token l b ∷ x) g.0 h.0
      (sym (append_assoc (spell_declarators xs) (spell_items is) (token k a ∷ w))
      ∙ tail_of (token int_word i) (token int_word i2) _ _ e ∙ append_assoc (spell_declarators ys) (spell_items js)
      (token l b ∷ x)) in
      let q = items_once is js k a l b w x g.1 h.1 m n r.1 in
      (declaration_same i i2 xs ys is js (head_of _ _ _ _ e) r.0 q.0, q.1)
  items_once (label v i j is) (item c js) k a l b w x g h m n e = absurd
      (label_core v i j _ (spell_items js ++ token l b ∷ x) c (e ∙ append_assoc (spell_core c) (spell_items js) (token l b ∷ x)))
  items_once (item c is) (label v i j js) k a l b w x g h m n e = absurd
      (label_core v i j _ (spell_items is ++ token k a ∷ w) c (sym e ∙ append_assoc (spell_core c) (spell_items is) (token k a ∷ w)))
  items_once (declaration i xs is) (item c js) k a l b w x g h m n e =
      absurd (int_core i _ (spell_items js ++ token l b ∷ x) c (e ∙ append_assoc (spell_core c) (spell_items js) (token l b ∷ x)))
  items_once (item c is) (declaration i xs js) k a l b w x g h m n e =
      absurd (int_core i _ (spell_items is ++ token k a ∷ w) c (sym e ∙ append_assoc (spell_core c) (spell_items is) (token k a ∷ w)))
  items_once (item c is) (item d js) k a l b w x g h m n e =
      let r = core_once c d (spell_items is ++ token k a ∷ w) (spell_items js ++ token l b ∷ x) g.0 h.0
      (goes_clear (ending_core c) _ (items_head is _ (end_goes k a w m)))
      (goes_clear (ending_core d) _ (items_head js _ (end_goes l b x n)))
      (sym (append_assoc (spell_core c) (spell_items is) (token k a ∷ w)) ∙ e
      ∙ append_assoc (spell_core d) (spell_items js) (token l b ∷ x)) in
      let q = items_once is js k a l b w x g.1 h.1 m n r.1 in
      (ap₂ item r.0 q.0, q.1)

-- how `main` ends, as a token and the rest
abbrev end_kind : Return → Kind
end_kind no_return = right_brace
end_kind (returns a n b c) = return_word
end_kind (returns_minus a b n c d) = return_word

abbrev end_place : Return → ℕ → ℕ
end_place no_return f = f
end_place (returns a n b c) f = a
end_place (returns_minus a b n c d) f = a

abbrev end_rest : Return → ℕ → ℕ → List Token
end_rest no_return f i = token the_end i ∷ []
end_rest (returns a n b c) f i = token (a_number n) b ∷ token semicolon c ∷ token right_brace f ∷ token the_end i ∷ []
end_rest (returns_minus a b n c d) f i = token (infix_sign minus_op) b ∷ token (a_number n) c ∷ token semicolon d ∷ token right_brace f
    ∷ token the_end i ∷ []

abbrev whole_end : Return → ℕ → ℕ → List Token
whole_end r f i = spell_return r ++ token right_brace f ∷ token the_end i ∷ []

end_split : (r : Return) (f i : ℕ) → whole_end r f i ≡ token (end_kind r) (end_place r f) ∷ end_rest r f i
end_split no_return f i = refl
end_split (returns a n b c) f i = refl
end_split (returns_minus a b n c d) f i = refl

end_ends : (r : Return) → Ends (end_kind r)
end_ends no_return = tt
end_ends (returns a n b c) = tt
end_ends (returns_minus a b n c d) = tt

return_once : (r s : Return) (f i g j : ℕ) → whole_end r f i ≡ whole_end s g j → (r ≡ s) × (f ≡ g) × (i ≡ j)
return_once no_return no_return f i g j e = ((cc), (cc), (cc))
return_once (returns a n b c) (returns a2 n2 b2 c2) f i g j e = ((cc), (cc), (cc))
return_once (returns_minus a b n c d) (returns_minus a2 b2 n2 c2 d2) f i g j e = ((cc), (cc), (cc))
return_once no_return (returns a n b c) f i g j e = cc
return_once no_return (returns_minus a b n c d) f i g j e = cc
return_once (returns a n b c) no_return f i g j e = cc
return_once (returns a n b c) (returns_minus a2 b2 n2 c2 d2) f i g j e = cc
return_once (returns_minus a b n c d) no_return f i g j e = cc
return_once (returns_minus a b n c d) (returns a2 n2 b2 c2) f i g j e = cc

-- items and how `main` ends
body_once : (is js : Items) (r s : Return) (f i g j : ℕ) → GoodItems is → GoodItems js
    → spell_items is ++ whole_end r f i ≡ spell_items js ++ whole_end s g j → (is ≡ js) × ((r ≡ s) × (f ≡ g) × (i ≡ j))
body_once is js r s f i g j m n e =
    let q = items_once is js (end_kind r) (end_place r f) (end_kind s) (end_place s g) (end_rest r f i) (end_rest s g j) m n (end_ends r)
    (end_ends s) (ap (λ (x : List Token). spell_items is ++ x) (sym (end_split r f i)) ∙ e
    ∙ ap (λ (x : List Token). spell_items js ++ x) (end_split s g j)) in
    (q.0, return_once r s f i g j (end_split r f i ∙ q.1 ∙ sym (end_split s g j)))

program_same : (a b c : ℕ) (ps : Parameters) (d e : ℕ) (is : Items) (r : Return) (f i a2 b2 c2 : ℕ) (qs : Parameters) (d2 e2 : ℕ)
    (js : Items) (s : Return) (g j : ℕ) → token int_word a ≡ token int_word a2 → token main_word b ≡ token main_word b2
    → token left_paren c ≡ token left_paren c2 → ps ≡ qs → token right_paren d ≡ token right_paren d2
    → token left_brace e ≡ token left_brace e2 → (is ≡ js) × ((r ≡ s) × (f ≡ g) × (i ≡ j))
    → program a b c ps d e is r f i ≡ program a2 b2 c2 qs d2 e2 js s g j
program_same a b c ps d e is r f i a2 b2 c2 qs d2 e2 js s g j h k l m n o (p, (q, u, v)) = cc

program_once : (p q : Program) → Good p → Good q → spell p ≡ spell q → p ≡ q
program_once (program a b c nothing d e is r f i) (program a2 b2 c2 nothing d2 e2 js s g j) m n q =
    program_same a b c nothing d e is r f i a2 b2 c2 nothing d2 e2 js s g j (cc) (cc) (cc) refl (cc) (cc)
    (body_once is js r s f i g j m n (tail_of _ _ _ _ (tail_of _ _ _ _ (tail_of _ _ _ _ (tail_of _ _ _ _ (tail_of _ _ _ _ q))))))
program_once (program a b c (void_at v) d e is r f i) (program a2 b2 c2 (void_at v2) d2 e2 js s g j) m n q =
    program_same a b c (void_at v) d e is r f i a2 b2 c2 (void_at v2) d2 e2 js s g j (cc) (cc) (cc) (cc) (cc) (cc)
    (body_once is js r s f i g j m n (tail_of _ _ _ _ (tail_of _ _ _ _
    (tail_of _ _ _ _ (tail_of _ _ _ _ (tail_of _ _ _ _ (tail_of _ _ _ _ q)))))))
program_once (program a b c nothing d e is r f i) (program a2 b2 c2 (void_at v) d2 e2 js s g j) m n q = cc
program_once (program a b c (void_at v) d e is r f i) (program a2 b2 c2 nothing d2 e2 js s g j) m n q = cc

-- At most one program is read.
pub reads_once : (ts : List Token) (p q : Program) → Reads ts p → Reads ts q → p ≡ q
reads_once ts p q r s = program_once p q r.good s.good (r.spelled ∙ sym s.spelled)
