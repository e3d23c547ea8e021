-- Whole expressions.
use Rattle.std.proofs.Common.{◌≡◌, ◌∙◌, ◌≤◌, ◌++◌, ℕ, true, false, List, [], ◌∷◌, Some, Result, Ok, Err, refl, sym, ap}
use Rattle.std.proofs.Common.{arith, append_assoc}
use Rattle.std.specs.Result.{IsErrAnd}
use Rattle.source_tree.specs.Expressions.{Expression}
use Rattle.source_grammar.specs.Tokens as g
use Rattle.source_grammar.specs.Tokens.{Kind, Op, Token, token, infix_sign, question, colon}
use Rattle.source_grammar.specs.Grammar as tree
use Rattle.source_grammar.specs.Grammar.{Expr, spell_expr, Groups}
use Rattle.source_grammar.proofs.grammar.Follow.{AfterExpr}
use Rattle.source_meaning.specs.Names.{State}
use Rattle.source_meaning.specs.Expressions.{first_of, read}
use Rattle.source_value.specs.declared.site.Site.{Site}
use Rattle.source_value.specs.declared.value.Value.{Value}
use Rattle.source_reader.specs.declared.stop.Stop.{Stop}
use Rattle.source_grammar.specs.View.{plain_kind}
use Rattle.source_reader.specs.Reading.{Reading, behind_first, first_kind, first_place}
use Rattle.source_expression.specs.declared.signs.Opening.{Opening}
use Rattle.source_expression.specs.Signs.{is_question, opening_in}
use Rattle.source_expression.specs.Sides.{IsRead}
use Rattle.source_expression.specs.Readings.{Reads}
use Rattle.source_expression.specs.Joins.{Join, spell_joins, Stops, chosen_with}
use Rattle.source_expression.proofs.Answering.{handed, handed_then, ok_then, wanted_of}
use Rattle.source_expression.proofs.Shapes.{Case, operand_by}
use Rattle.source_expression.proofs.Shapes.{level_between, stops_seven, stops_looser, after_stops, first_place_of, choice_or}
use Rattle.source_expression.proofs.Joined.{Split, split, Goes, goes_first}

-- ---- operands
-- an operand is read as those are that begin with its first two tokens
pub operand_opens : (site : Site) (st : State) (h : ℕ) (old : Reading) (out : Result Value Stop) (after : Reading) (e : Expr)
    (rest : List Token) (j k : Kind) (o : Opening) → Groups 7 e → Stops 7 rest → old.ahead ≡ spell_expr e ++ rest
    → j ≡ plain_kind (first_kind old.ahead) → k ≡ plain_kind (first_kind (behind_first old.ahead)) → Some o ≡ opening_in j k
    → Case (λ e. old.ahead ≡ spell_expr e ++ rest → Reads site h (read site.integers site.line st e h) rest out after) o
    → Reads site h (read site.integers site.line st e h) rest out after
operand_opens site st h old out after e rest j k o g s q a b r m =
    let M : Expr → Type 0 = λ e. old.ahead ≡ spell_expr e ++ rest → Reads site h (read site.integers site.line st e h) rest out after in
    operand_by M e rest j k o g s (a ∙ ap (λ ts. plain_kind (first_kind ts)) q) (b ∙ ap (λ ts. plain_kind (first_kind (behind_first ts))) q)
    r m q

-- ---- signs behind an operand
module _ (site : Site) (st : State) (h least : ℕ) (e : Expr) (rest : List Token) (l : 1 ≤ least) (g : Groups least e)
    (s : Stops least rest) (old : Reading) (q : old.ahead ≡ spell_expr e ++ rest) where
  -- the operand and its signs
  abbrev pub parts : Split site.integers site.line st h least e
  parts = split site.integers site.line st h least e l g

  -- what stands behind the operand
  abbrev pub behind_operand : List Token
  behind_operand = spell_joins parts.joins ++ rest

  -- the operand comes next
  pub operand_ahead : old.ahead ≡ spell_expr parts.operand ++ behind_operand
  operand_ahead = q ∙ ap (λ ts. ts ++ rest) parts.spelled ∙ append_assoc (spell_expr parts.operand) (spell_joins parts.joins) rest

  -- it stops before the first of its signs
  pub operand_stops : Stops 7 behind_operand
  operand_stops = by parts.joins where
    by : (js : List Join) → Stops 7 (spell_joins js ++ rest)
    by [] = stops_seven least (first_kind rest) s
    by (j ∷ js) = let m = (level_between j.op).1 in stops_looser 7 j.op (omega (arith, m))

  -- a fault of the operand
  pub operand_fault : (out : Result Value Stop) (x : Stop) (after later : Reading) → IsErrAnd out (λ z. z ≡ x)
      → Reads site h (read site.integers site.line st parts.operand h) behind_operand (Err x) after
      → Reads site h (read site.integers site.line st e h) rest out later
  operand_fault out x after later k a =
      let As : Value → Expression → Type 0 = λ v x. IsRead site h v x × (later.ahead ≡ rest) in
      wanted_of As out (read site.integers site.line st e h) _ parts.reads
      (handed_then (λ v x. IsRead site h v x × (after.ahead ≡ behind_operand)) As out x
      (read site.integers site.line st parts.operand h) _ k a)

  -- where it has none
  pub operand_read : (v : Value) (after : Reading) (first : ℕ) → first ≡ first_place old.ahead
      → Reads site h (read site.integers site.line st parts.operand h) behind_operand (Ok v) after
      → Goes site st h least first e rest v after.ahead
  operand_read v after first p a = goes_first site st h least first e rest s parts v a.0 after.ahead
      (p ∙ ap first_place operand_ahead ∙ first_place_of parts.operand behind_operand) a.1 a.2.0 a.2.1

-- ---- choices
asks_no_more : {A : Type 0} (k : Kind) → AfterExpr k → is_question k ≡ true → A
asks_no_more g.semicolon a e = cc
asks_no_more g.right_paren a e = cc
asks_no_more g.right_brace a e = cc
asks_no_more g.right_bracket a e = cc
asks_no_more g.colon a e = cc
asks_no_more g.comma a e = cc
asks_no_more _ a e = absurd a

module _ (c : Expr) (a : ℕ) (f : Expr) (b : ℕ) (k : Expr) (rest : List Token) where
  -- what stands behind the condition of a choice
  abbrev pub behind_condition : List Token
  behind_condition = token question a ∷ (spell_expr f ++ token colon b ∷ (spell_expr k ++ rest))

  -- a choice is its condition and what stands behind it
  pub choice_ahead : spell_expr (tree.chosen c a f b k) ++ rest ≡ spell_expr c ++ behind_condition
  choice_ahead = append_assoc (spell_expr c) _ rest
      ∙ ap (λ ts. spell_expr c ++ token question a ∷ ts) (append_assoc (spell_expr f) (token colon b ∷ spell_expr k) rest)

module _ (site : Site) (st : State) (h : ℕ) (old : Reading) where
  -- what reading an expression without a choice answers
  abbrev pub ReadsJoins : Result Value Stop → Reading → Type 0
  ReadsJoins result after = (e : Expr) (rest : List Token) → 1 ≤ 1 → Groups 1 e → Stops 1 rest → old.ahead ≡ spell_expr e ++ rest
      → Reads site h (read site.integers site.line st e h) rest result after

  -- what reading an expression answers
  abbrev pub ReadsWhole : Result Value Stop → Reading → Type 0
  ReadsWhole result after = (e : Expr) (rest : List Token) → Groups 0 e → AfterExpr (first_kind rest) → old.ahead ≡ spell_expr e ++ rest
      → Reads site h (read site.integers site.line st e h) rest result after

  -- a fault of what stands before a `?`, or of the whole
  pub whole_fault : (out : Result Value Stop) (x : Stop) (after later : Reading) → IsErrAnd out (λ z. z ≡ x) → ReadsJoins (Err x) after
      → ReadsWhole out later
  whole_fault out x after later k r e rest g a q =
      let M : Expr → Type 0 = λ e. old.ahead ≡ spell_expr e ++ rest → Reads site h (read site.integers site.line st e h) rest out later in
      choice_or M e g
      (λ g q. handed (λ v x. IsRead site h v x × (after.ahead ≡ rest)) (λ v x. IsRead site h v x × (later.ahead ≡ rest)) out x
      (read site.integers site.line st e h) k (r e rest (omega arith) g (after_stops 1 (first_kind rest) a) q))
      (λ c d f b j gc gf gj q. handed_then (λ v x. IsRead site h v x × (after.ahead ≡ behind_condition c d f b j rest))
      (λ v x. IsRead site h v x × (later.ahead ≡ rest)) out x (read site.integers site.line st c h)
      (λ x. chosen_with site.integers site.line st (first_of c) d x f j h) k
      (r c (behind_condition c d f b j rest) (omega arith) gc refl (q ∙ choice_ahead c d f b j rest)))
      q

  -- what is read where no `?` follows
  pub whole_read : (v : Value) (after : Reading) → ReadsJoins (Ok v) after → is_question (first_kind after.ahead) ≡ false
      → ReadsWhole (Ok v) after
  whole_read v after r n e rest g a q =
      let M : Expr → Type 0 = λ e. old.ahead ≡ spell_expr e ++ rest
      → Reads site h (read site.integers site.line st e h) rest (Ok v) after in
      choice_or M e g (λ g q. r e rest (omega arith) g (after_stops 1 (first_kind rest) a) q)
      (λ c d f b j gc gf gj q.
      let t = r c (behind_condition c d f b j rest) (omega arith) gc refl (q ∙ choice_ahead c d f b j rest) in
      let k : true ≡ false = sym (ap (λ ts. is_question (first_kind ts)) t.2.1) ∙ n in
      absurd cc)
      q

  -- what reading a choice behind a condition answers
  abbrev pub ReadsChoice : (first : ℕ) → Value → Reading → Result Value Stop → Reading → Type 0
  ReadsChoice first v now result after = (x : Expression) (h sign between : ℕ) (e f : Expr) (rest : List Token) → IsRead site h v x
      → Groups 0 e → Groups 0 f → AfterExpr (first_kind rest)
      → now.ahead ≡ token question sign ∷ (spell_expr e ++ token colon between ∷ (spell_expr f ++ rest))
      → Reads site h (chosen_with site.integers site.line st first sign x e f h) rest result after

  -- what is read where one does
  pub whole_choice : (first : ℕ) (v : Value) (now after : Reading) (out : Result Value Stop) → first ≡ first_place old.ahead
      → ReadsJoins (Ok v) now → is_question (first_kind now.ahead) ≡ true → ReadsChoice first v now out after → ReadsWhole out after
  whole_choice first v now after out p r n m e rest g a q =
      let M : Expr → Type 0 = λ e. old.ahead ≡ spell_expr e ++ rest → Reads site h (read site.integers site.line st e h) rest out after in
      choice_or M e g
      (λ g q.
      let t = r e rest (omega arith) g (after_stops 1 (first_kind rest) a) q in
      asks_no_more (first_kind rest) a (sym (ap (λ ts. is_question (first_kind ts)) t.2.1) ∙ n))
      (λ c d f b j gc gf gj q.
      let w = q ∙ choice_ahead c d f b j rest in
      let t = r c (behind_condition c d f b j rest) (omega arith) gc refl w in
      let i : first ≡ first_of c = p ∙ ap first_place w ∙ first_place_of c (behind_condition c d f b j rest) in
      let As : Value → Expression → Type 0 = λ v x. IsRead site h v x × (after.ahead ≡ rest) in
      ok_then As out (read site.integers site.line st c h) t.0 (λ x. chosen_with site.integers site.line st (first_of c) d x f j h) t.1
      (wanted_of As out (chosen_with site.integers site.line st (first_of c) d t.0 f j h)
      (chosen_with site.integers site.line st first d t.0 f j h)
      (ap (λ n. chosen_with site.integers site.line st n d t.0 f j h) (sym i)) (m t.0 h d b f j rest t.2.0 gf gj a t.2.1)))
      q
