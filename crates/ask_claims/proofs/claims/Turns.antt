-- What the next claim, the end or the first fault is at tokens is one thing.
use Rattle.std.proofs.Common.{◌≡◌, ◌∙◌, ◌+◌, ◌++◌, ◌<◌, ◌≤◌, inl, inr, ℕ, Bool, true, false, List, [], ◌∷◌, length, take, drop}
use Rattle.std.proofs.Common.{nat_lt, Option, Some, None, Result, Ok, Err, refl, sym, ap, ap₂, subst, arith, append_assoc}
use Rattle.std.proofs.Math.Seq.{take-append_seam, drop-append_seam}
use Rattle.std.proofs.lemmas.Bool.{ltb-true, ltb-false}
use Rattle.lang_grammar.specs.Expressions.{IsLongest, BeginsExpr, FineExpr}
use Rattle.lang_grammar.specs.Grammar.{Kind, a_name, colon, semicolon, the_end, Token, token, Expr, number, variable, free, grouped}
use Rattle.lang_grammar.specs.Grammar.{prefixed}
use Rattle.lang_grammar.specs.Grammar.{joined, spell_expr, Groups}
use Rattle.flow_edges.specs.declared.point.Point.{Point}
use Rattle.lang_meaning.specs.declared.fault.Limit.TheVariants.{Nesting}
use Rattle.lang_meaning.specs.declared.fault.ParseFault.{ParseFault}
use Rattle.lang_meaning.specs.declared.fault.ParseFault.TheVariants as parse
use Rattle.lang_meaning.specs.Expressions.{Meaning, as_truth, first_place, meant}
use Rattle.lang_meaning.specs.ExpressionAnswers.{ExpressionAnswer, ExpressionMeans}
use Rattle.lang_meaning.specs.Results as results
use Rattle.lang_meaning.proofs.meaning.OneExpression.{expression_once}
use Rattle.lang_tree.specs.Cases.{cases_of}
use Rattle.lang_tree.specs.Tree.{Condition}
use Rattle.ask_claims.specs.declared.fault.ClaimFault.{ClaimFault}
use Rattle.ask_claims.specs.declared.fault.ClaimFault.TheVariants as fault
use Rattle.ask_claims.specs.Grammar.{Written, claim_then, claims_then, AllGroup, IsUnexpected}
use Rattle.ask_claims.specs.Claims.{Stated, ◌>>=◌, of_parse, parsed, point_of, choice_at, decided, truth_of, Says, IsHead, Faultless}
use Rattle.ask_claims.specs.Claims.{FirstFault}
use Rattle.ask_claims.specs.Claims.{at_start, behind_name, within_condition, behind_condition, too_many, unknown_label, too_deep}
use Rattle.ask_claims.specs.Claims.{no_condition, many_cases, unexpected}
use Rattle.ask_claims.proofs.grammar.Spelling.{ends_claim, begun_goes, GoesOn}
use Rattle.ask_claims.proofs.grammar.Unexpected.{names_claim, ends_text, ends_name, both_ways, start_refused, colon_refused, within_refused}
use Rattle.ask_claims.proofs.grammar.Unexpected.{semicolon_refused}

-- what comes next
pub data Turn : Type 0 where
  ends : Turn
  fails : ClaimFault → Turn
  claims : Stated → List Token → Turn

-- how the next claim begins
pub data Head : Type 0 where
  none : Head
  faulty : ClaimFault → Head
  opened : ℕ → List ℕ → ℕ → List Token → Head

abbrev colon_head : ℕ → List ℕ → ℕ → List Token → Head
colon_head p x a [] = none
colon_head p x a (token colon b ∷ ts) = opened p x a ts
colon_head p x a (token k b ∷ ts) = faulty (fault.Parse (parse.Unexpected b))

abbrev label_head : List ℕ → ℕ → List Token → Option ℕ → Head
label_head x a ts None = faulty (fault.UnknownLabel a)
label_head x a ts (Some p) = colon_head p x a ts

abbrev name_head : Bool → List Point → List ℕ → ℕ → List Token → Head
name_head true points x a ts = label_head x a ts (point_of x points)
name_head false points x a ts = faulty (fault.Count a)

abbrev first_head : Bool → List Point → Kind → ℕ → List Token → Head
first_head few points (a_name x) a ts = name_head few points x a ts
first_head few points the_end a ts = none
first_head few points k a ts = faulty (fault.Parse (parse.Unexpected a))

abbrev head_of : Bool → List Point → List Token → Head
head_of few points [] = none
head_of few points (token k a ∷ ts) = first_head few points k a ts

-- what its end is, behind its condition
abbrev cases_end : Bool → ℕ → List ℕ → ℕ → Condition → List Token → Turn
cases_end true p x a c rest = fails (fault.Cases a)
cases_end false p x a c rest = claims (record { point = p; label = x; cond = c }) rest

abbrev semicolon_end : ℕ → List ℕ → ℕ → Condition → List Token → Turn
semicolon_end p x a c [] = ends
semicolon_end p x a c (token semicolon b ∷ rest) = cases_end (nat_lt 64 (length (cases_of false c))) p x a c rest
semicolon_end p x a c (token k b ∷ rest) = fails (fault.Parse (parse.Unexpected b))

abbrev truth_end : ℕ → List ℕ → ℕ → Result Condition ClaimFault → List Token → Turn
truth_end p x a (Err f) rest = fails f
truth_end p x a (Ok c) rest = semicolon_end p x a c rest

abbrev closed : ℕ → List ℕ → ℕ → List Token → ExpressionAnswer → Turn
closed p x a ts (Err f) = fails (of_parse f)
closed p x a ts (Ok m) =
    truth_end p x a (parsed (as_truth (first_place ts) m.0) >>= λ c. decided (choice_at (take m.1 ts)) c >>= λ _. Ok c) (drop m.1 ts)

abbrev GoesBy : List ℕ → List (List ℕ) → Head → Turn → Type 0
GoesBy text names none t = t ≡ ends
GoesBy text names (faulty f) t = t ≡ fails f
GoesBy text names (opened p x a ts) t = (w : ExpressionAnswer) × ExpressionMeans text ts 0 names w × (t ≡ closed p x a ts w)

-- this comes next at these tokens; there may be few enough claims before
abbrev pub TurnIs : List ℕ → List (List ℕ) → List Point → Bool → List Token → Turn → Type 0
TurnIs text names points few ts t = GoesBy text names (head_of few points ts) t

goes_once : (text : List ℕ) (names : List (List ℕ)) (h : Head) (t u : Turn) → GoesBy text names h t → GoesBy text names h u → t ≡ u
goes_once text names none t u e g = e ∙ sym g
goes_once text names (faulty f) t u e g = e ∙ sym g
goes_once text names (opened p x a ts) t u (w, m, e) (v, n, g) = e ∙ ap (closed p x a ts) (expression_once text ts 0 names w v m n) ∙ sym g

-- one thing alone comes next at tokens
pub turn_once : (text : List ℕ) (names : List (List ℕ)) (points : List Point) (few : Bool) (ts : List Token) (t u : Turn)
    → TurnIs text names points few ts t
    → TurnIs text names points few ts u → t ≡ u
turn_once text names points few ts t u m n = goes_once text names (head_of few points ts) t u m n

-- ---- expressions
pub first_same : (e : Expr) (xs : List Token) → first_place (spell_expr e ++ xs) ≡ first_place (spell_expr e)
first_same (number n a) xs = refl
first_same (variable x a) xs = refl
first_same (free a b c) xs = refl
first_same (grouped a e b) xs = refl
first_same (prefixed p a e) xs = refl
first_same (joined e o a f) xs = ap first_place (append_assoc (spell_expr e) _ xs) ∙ first_same e _ ∙ sym (first_same e _)

-- a `;` goes on with no expression
pub shut : (e : Expr) (a : ℕ) → BeginsExpr (spell_expr e ++ token semicolon a ∷ []) → ⊥
shut e a b = on (spell_expr e) (begun_goes _ b) where
  on : (xs : List Token) → GoesOn (xs ++ token semicolon a ∷ []) → ⊥
  on [] g = both_ways refl g.0
  on (token k c ∷ xs) g = on xs g.1

-- an expression is the longest one where the token behind it goes on with none
pub longest_by : (e : Expr) (t : Token) (rest : List Token) → Groups 0 e → FineExpr (spell_expr e)
    → (BeginsExpr (spell_expr e ++ t ∷ []) → ⊥)
    → IsLongest (spell_expr e ++ t ∷ rest) (length (spell_expr e)) e
longest_by e t rest g f stops = record {
  front = spell_expr e;
  next = t;
  rest = rest;
  split = refl;
  size = refl;
  reads = record { spelled = refl; good = g };
  ends = stops;
  fine = f;
}

-- what an expression that means this says as a condition, where this is its first place
abbrev truth_by : Expr → Result Meaning ParseFault → ℕ → Result Condition ClaimFault
truth_by e r q = parsed r >>= λ m. parsed (as_truth q m) >>= λ c. decided (choice_at (spell_expr e)) c >>= λ _. Ok c

module _ (text : List ℕ) (names : List (List ℕ)) where
  -- the condition that the longest expression says, and then the tokens behind it
  closed_by : (p : ℕ) (x : List ℕ) (a : ℕ) (ts : List Token) (n : ℕ) (e : Expr) (t : Turn) → IsLongest ts n e
      → t ≡ truth_end p x a (truth_of text names e) (drop n ts)
      → (w : ExpressionAnswer) × ExpressionMeans text ts 0 names w × (t ≡ closed p x a ts w)
  closed_by p x a ts n e t l h = (
    results.◌>>=◌ (meant text names (first_place ts) e) (λ m. Ok (m, 0 + n)),
    inr (inr (e, n, l, refl)),
    h ∙ sym (on (meant text names (first_place ts) e) ∙ ap (λ q. truth_end p x a (truth_by e (meant text names q e) q) (drop n ts)) first),
  ) where
    whole : ts ≡ spell_expr e ++ l.next ∷ l.rest
    whole = l.split ∙ ap (λ y. y ++ l.next ∷ l.rest) (sym l.reads.spelled)

    first : first_place ts ≡ first_place (spell_expr e)
    first = ap first_place whole ∙ first_same e (l.next ∷ l.rest)

    plain : 0 + n ≡ n
    plain = omega arith

    front : take (0 + n) ts ≡ spell_expr e
    front = ap₂ take (plain ∙ sym l.size ∙ ap length (sym l.reads.spelled)) whole ∙ take-append_seam (spell_expr e) (l.next ∷ l.rest)

    on : (r : Result Meaning ParseFault) → closed p x a ts (results.◌>>=◌ r (λ m. Ok (m, 0 + n)))
        ≡ truth_end p x a (truth_by e r (first_place ts)) (drop n ts)
    on (Err f) = refl
    on (Ok m) = ap₂ (λ y k. truth_end p x a (parsed (as_truth (first_place ts) m) >>= λ c. decided (choice_at y) c >>= λ _. Ok c)
        (drop k ts)) front plain

module _ (text : List ℕ) (names : List (List ℕ)) (points : List Point) where
  -- ---- a claim without fault comes next
  pub claim_turn : (c : Written) (s : Stated) (rest : List Token) → Says text names points c s
      → TurnIs text names points true (claim_then c rest) (claims s rest)
  claim_turn c s rest h =
      let tail : List Token = spell_expr c.expr ++ token semicolon c.semicolon_at ∷ rest in
      let n = length (spell_expr c.expr) in
      let few : nat_lt 64 (length (cases_of false s.cond)) ≡ false = ltb-false_le (h.few) in
      let there : drop n tail ≡ token semicolon c.semicolon_at ∷ rest =
      drop-append_seam (spell_expr c.expr) (token semicolon c.semicolon_at ∷ rest) in
      let same : record { point = s.point; label = c.name; cond = s.cond } ≡ s =
      ap (λ x. record { point = s.point; label = x; cond = s.cond }) h.label in
      let end : claims s rest ≡ truth_end s.point c.name c.name_at (truth_of text names c.expr) (drop n tail) =
      sym (ap₂ (truth_end s.point c.name c.name_at) h.condition there ∙ ap (λ b. cases_end b s.point c.name c.name_at s.cond rest) few
      ∙ ap (λ x. claims x rest) same) in
      subst (λ y. GoesBy text names y (claims s rest)) (sym (ap (label_head c.name c.name_at (token colon c.colon_at ∷ tail)) h.point))
      (closed_by text names s.point c.name c.name_at tail n c.expr (claims s rest)
      (longest_by c.expr (token semicolon c.semicolon_at) rest h.good h.shallow (shut c.expr c.semicolon_at)) end) where
        ltb-false_le : {n : ℕ} → n ≤ 64 → nat_lt 64 n ≡ false
        ltb-false_le {n} l = on (nat_lt 64 n) refl where
          on : (b : Bool) → nat_lt 64 n ≡ b → b ≡ false
          on true e = absurd (let i = ltb-true 64 n e in omega arith)
          on false e = refl

  -- at the end of the text the end comes next
  pub end_turn : (few : Bool) (a : ℕ) → TurnIs text names points few (token the_end a ∷ []) ends
  end_turn few a = refl

  -- ---- a first fault comes next
  other_head : (few : Bool) (k : Kind) (a : ℕ) (ts : List Token) → names_claim k ≡ false → ends_text k ≡ false
      → first_head few points k a ts ≡ faulty (fault.Parse (parse.Unexpected a))
  other_head few (a_name x) a ts h e = absurd (both_ways refl h)
  other_head few the_end a ts h e = absurd (both_ways refl e)
  other_head few _ a ts h e = refl

  other_colon : (p : ℕ) (x : List ℕ) (a : ℕ) (k : Kind) (b : ℕ) (ts : List Token) → ends_name k ≡ false
      → colon_head p x a (token k b ∷ ts) ≡ faulty (fault.Parse (parse.Unexpected b))
  other_colon p x a colon b ts h = absurd (both_ways refl h)
  other_colon p x a _ b ts h = refl

  other_end : (p : ℕ) (x : List ℕ) (a : ℕ) (c : Condition) (k : Kind) (b : ℕ) (ts : List Token) → ends_claim k ≡ false
      → semicolon_end p x a c (token k b ∷ ts) ≡ fails (fault.Parse (parse.Unexpected b))
  other_end p x a c semicolon b ts h = absurd (both_ways refl h)
  other_end p x a c _ b ts h = refl

  is_few : (n : ℕ) → n < 64 → nat_lt n 64 ≡ true
  is_few n h = on (nat_lt n 64) refl where
    on : (b : Bool) → nat_lt n 64 ≡ b → b ≡ true
    on true e = refl
    on false e = absurd (let i = ltb-false n 64 e in omega arith)

  is_full : (n : ℕ) → n ≡ 64 → nat_lt n 64 ≡ false
  is_full n h = on (nat_lt n 64) refl where
    on : (b : Bool) → nat_lt n 64 ≡ b → b ≡ false
    on true e = absurd (let i = ltb-true n 64 e in omega arith)
    on false e = refl

  is_many : (n : ℕ) → 64 < n → nat_lt 64 n ≡ true
  is_many n h = on (nat_lt 64 n) refl where
    on : (b : Bool) → nat_lt 64 n ≡ b → b ≡ true
    on true e = refl
    on false e = absurd (let i = ltb-false 64 n e in omega arith)

  -- behind a label and a colon
  module _ (cs : List Written) (x : List ℕ) (a : ℕ) (head : IsHead points cs x) where
    named : (ts : List Token) → head_of (nat_lt (length cs) 64) points (token (a_name x) a ∷ ts) ≡ colon_head head.point x a ts
    named ts = ap (λ b. name_head b points x a ts) (is_few (length cs) head.within) ∙ ap (label_head x a ts) head.labels

    by_head : (ts : List Token) (h : Head) (t : Turn) → colon_head head.point x a ts ≡ h → GoesBy text names h t
        → TurnIs text names points (nat_lt (length cs) 64) (token (a_name x) a ∷ ts) t
    by_head ts h t e g = subst (λ y. GoesBy text names y t) (sym (named ts ∙ e)) g

    by_truth : (b : ℕ) (ts : List Token) (n : ℕ) (e : Expr) (t : Turn) → IsLongest ts n e
        → t ≡ truth_end head.point x a (truth_of text names e) (drop n ts)
        → TurnIs text names points (nat_lt (length cs) 64) (token (a_name x) a ∷ token colon b ∷ ts) t
    by_truth b ts n e t l h = by_head (token colon b ∷ ts) (opened head.point x a ts) t refl
        (closed_by text names head.point x a ts n e t l h)

  -- the first unexpected token
  unexpected_turn : (cs : List Written) (g : AllGroup cs) (part : List Token) (k : Kind) (b : ℕ) (rest : List Token)
      → IsUnexpected (claims_then cs part) (token k b) → Faultless text names points cs part
      → TurnIs text names points (nat_lt (length cs) 64) (part ++ token k b ∷ rest) (fails (fault.Parse (parse.Unexpected b)))
  unexpected_turn cs g part k b rest u (at_start e) =
      let i = start_refused cs g k b (subst (λ (y : List Token). IsUnexpected (claims_then cs y) (token k b)) e u) in
      subst (λ y. TurnIs text names points (nat_lt (length cs) 64) (y ++ token k b ∷ rest) (fails (fault.Parse (parse.Unexpected b))))
      (sym e)
      (subst (λ y. GoesBy text names y (fails (fault.Parse (parse.Unexpected b))))
      (sym (other_head (nat_lt (length cs) 64) k b rest i.0 i.1)) refl)
  unexpected_turn cs g part k b rest u (behind_name x a e head) =
      let i = colon_refused cs g x a k b (subst (λ (y : List Token). IsUnexpected (claims_then cs y) (token k b)) e u) in
      subst (λ y. TurnIs text names points (nat_lt (length cs) 64) (y ++ token k b ∷ rest) (fails (fault.Parse (parse.Unexpected b))))
      (sym e)
      (by_head cs x a head (token k b ∷ rest) (faulty (fault.Parse (parse.Unexpected b))) (fails (fault.Parse (parse.Unexpected b)))
      (other_colon head.point x a k b rest i) refl)
  unexpected_turn cs g part k b rest u (within_condition x a d begun e head fine unread) =
      let i = within_refused cs g x a d begun (token k b) (subst (λ (y : List Token). IsUnexpected (claims_then cs y) (token k b)) e u) in
      subst (λ y. TurnIs text names points (nat_lt (length cs) 64) (y ++ token k b ∷ rest) (fails (fault.Parse (parse.Unexpected b))))
      (sym e)
      (by_head cs x a head (token colon d ∷ (begun ++ token k b ∷ rest)) (opened head.point x a (begun ++ token k b ∷ rest))
      (fails (fault.Parse (parse.Unexpected b))) refl
      (Err (parse.Unexpected b), inl (b, (begun, k, rest, refl, fine, unread, i), refl), refl))
  unexpected_turn cs g part k b rest u (behind_condition x a d f c e head good fine says) =
      let i = semicolon_refused cs g x a d f k b good (subst (λ (y : List Token). IsUnexpected (claims_then cs y) (token k b)) e u) in
      subst (λ y. TurnIs text names points (nat_lt (length cs) 64) (y ++ token k b ∷ rest) (fails (fault.Parse (parse.Unexpected b))))
      (sym e)
      (by_truth cs x a head d (spell_expr f ++ token k b ∷ rest) (length (spell_expr f)) f (fails (fault.Parse (parse.Unexpected b)))
      (longest_by f (token k b) rest good fine i.1)
      (sym (ap₂ (truth_end head.point x a) says (drop-append_seam (spell_expr f) (token k b ∷ rest))
      ∙ other_end head.point x a c k b rest i.0)))

  -- where tokens behind whole claims have this fault first, it comes next
  pub fault_turn : (cs : List Written) (g : AllGroup cs) (ts : List Token) (f : ClaimFault) → FirstFault text names points cs ts f
      → TurnIs text names points (nat_lt (length cs) 64) ts (fails f)
  fault_turn cs g ts f (too_many x a rest e full is) =
      subst (λ y. TurnIs text names points (nat_lt (length cs) 64) y (fails f)) (sym e)
      (subst (λ b. GoesBy text names (name_head b points x a rest) (fails f)) (sym (is_full (length cs) full)) (ap fails is))
  fault_turn cs g ts f (unknown_label x a rest e few unknown is) =
      subst (λ y. TurnIs text names points (nat_lt (length cs) 64) y (fails f)) (sym e)
      (subst (λ b. GoesBy text names (name_head b points x a rest) (fails f)) (sym (is_few (length cs) few))
      (subst (λ o. GoesBy text names (label_head x a rest o) (fails f)) (sym unknown) (ap fails is)))
  fault_turn cs g ts f (too_deep x a b rest d e head finds is) =
      subst (λ y. TurnIs text names points (nat_lt (length cs) 64) y (fails f)) (sym e)
      (by_head cs x a head (token colon b ∷ rest) (opened head.point x a rest) (fails f) refl
      (Err (parse.Limit d Nesting), inr (inl (d, finds, refl)), ap fails is))
  fault_turn cs g ts f (no_condition x a b rest n p e head longest refuses) =
      subst (λ y. TurnIs text names points (nat_lt (length cs) 64) y (fails f)) (sym e)
      (by_truth cs x a head b rest n p (fails f) longest (sym (ap (λ r. truth_end head.point x a r (drop n rest)) refuses)))
  fault_turn cs g ts f (many_cases c rest d e head good fine says many is) =
      let tail : List Token = spell_expr c.expr ++ token semicolon c.semicolon_at ∷ rest in
      let there : drop (length (spell_expr c.expr)) tail ≡ token semicolon c.semicolon_at ∷ rest =
      drop-append_seam (spell_expr c.expr) (token semicolon c.semicolon_at ∷ rest) in
      subst (λ y. TurnIs text names points (nat_lt (length cs) 64) y (fails f)) (sym e)
      (by_truth cs c.name c.name_at head c.colon_at tail (length (spell_expr c.expr)) c.expr (fails f)
      (longest_by c.expr (token semicolon c.semicolon_at) rest good fine (shut c.expr c.semicolon_at))
      (ap fails is ∙ sym (ap₂ (truth_end head.point c.name c.name_at) says there
      ∙ ap (λ b. cases_end b head.point c.name c.name_at d rest) (is_many (length (cases_of false d)) many))))
  fault_turn cs g ts f (unexpected part k b rest e u faultless is) =
      subst (λ y. TurnIs text names points (nat_lt (length cs) 64) y (fails f)) (sym e)
      (subst (λ y. TurnIs text names points (nat_lt (length cs) 64) (part ++ token k b ∷ rest) (fails y)) (sym is)
      (unexpected_turn cs g part k b rest u faultless))
