-- What was read behind something that was read.
use Rattle.std.proofs.Common.{◌≡◌, ◌∙◌, ◌≤◌, ◌+◌, ℕ, suc, Bool, true, false, List, Result, Ok, Err, refl, ap, subst, arith}
use Rattle.std.specs.Result.{IsErrAnd}
use Rattle.source_tree.specs.Expressions.{Expression}
use Rattle.source_core.specs.Elaborated.{Elaborated, elaborated, numbered, tested, choice}
use Rattle.source_core.specs.Elaborated as core
use Rattle.source_core.specs.Fits.{fits, tested_fits}
use Rattle.source_grammar.specs.Tokens.{Op, Token, level}
use Rattle.source_grammar.specs.Grammar.{Expr}
use Rattle.source_meaning.specs.Results.{◌>>=◌}
use Rattle.source_meaning.specs.Names.{State, passable}
use Rattle.source_meaning.specs.Expressions.{as_condition, behind, behind_number, behind_side, first_of, read, right_of, side}
use Rattle.source_value.specs.declared.fault.OperationFault.{OperationFault}
use Rattle.source_value.specs.declared.site.Site.{Site}
use Rattle.source_value.specs.declared.value.Value.{Value}
use Rattle.source_value.specs.declared.value.Number.{Number}
use Rattle.source_value.specs.declared.value.Tested.{Tested}
use Rattle.source_value.specs.Answers as value
use Rattle.source_value.specs.Stands.{Stands, StandsNumber, StandsTested}
use Rattle.source_reader.specs.declared.stop.Stop.{Stop}
use Rattle.source_reader.specs.Answers.{Answers}
use Rattle.source_reader.specs.Placed.{placed}
use Rattle.source_reader.specs.Reading.{Reading}
use Rattle.source_expression.specs.Signs.{asks_conditions, work_in}
use Rattle.source_expression.specs.declared.signs.Work.{Work}
use Rattle.source_expression.specs.declared.sides.Side.{Side}
use Rattle.source_expression.specs.Sides.{IsRead, IsNumberOf, IsTestedOf, StandsSide, next_of, sides_worked}
use Rattle.source_expression.specs.Readings.{Reads}
use Rattle.source_expression.specs.Joins.{Join, joined_with, chosen_with}
use Rattle.source_expression.proofs.Answering.{answers_of, beside, ok_then, handed_then, wanted_of}
use Rattle.source_expression.proofs.Parts.{choice_answers, joined_steps, side_next}
use Rattle.source_expression.proofs.Worked.{joined_same, tested_answers}

-- ---- names
-- what is read with some names is read with these
pub read_with : (site : Site) (h : ℕ) (s st : State) (e : Expr) (rest : List Token) (out : Result Value Stop) (after : Reading) → s ≡ st
    → Reads site h (read site.integers site.line s e h) rest out after → Reads site h (read site.integers site.line st e h) rest out after
read_with site h s st e rest out after k a = subst (λ s. Reads site h (read site.integers site.line s e h) rest out after) k a

-- where conditions are asked for C may pass over the right side
pub right_passed : (b : Bool) (s st : State) → b ≡ true → s ≡ passable st → s ≡ right_of b st
right_passed true s st e k = k
right_passed false s st e k = absurd cc

-- elsewhere it doesn't
pub right_kept : (b : Bool) (st : State) → b ≡ false → st ≡ right_of b st
right_kept true st e = absurd cc
right_kept false st e = refl

-- ---- choices
module _ (site : Site) (st : State) (h first : ℕ) (x : Expression) (e : Expr) where
  -- the condition and the first value of a choice were read
  pub record Half (c : Tested) (f : Number) : Type 0 where
    -- the condition
    pub u : Expression
    -- the first value
    pub y : Expression
    -- it is the one
    pub condition : as_condition site.integers site.line first h x ≡ Ok u
    -- the code has it
    pub is_condition : IsTestedOf site h c u
    -- the value is the one
    pub yes : read site.integers site.line (passable st) e (behind site.integers site.line u h) ≡ Ok y
    -- the code has it
    pub is_yes : IsNumberOf site (behind site.integers site.line u h) f y

  -- so they are
  pub half : (P : Type 0) (r : Result Tested OperationFault) (c : Tested) (v : Value) (f : Number) → Ok c ≡ placed first r
      → value.Answers (StandsTested site.variables) tested_fits r (tested (elaborated site.integers site.line x h))
      → Answers (λ v x. IsRead site c.next v x × P) (Ok v) (read site.integers site.line (passable st) e c.next)
      → ((d : Elaborated) → Stands site.variables v d → StandsNumber site.variables f (numbered site.integers site.line d)) → Half c f
  half P r c v f k a b n =
      let t : Answers (IsTestedOf site h) (Ok c) (as_condition site.integers site.line first h x) =
      answers_of (IsTestedOf site h) (Ok c) (placed first r) (as_condition site.integers site.line first h x) k
      (tested_answers site h x r first a) in
      let m : c.next ≡ behind site.integers site.line t.0 h = t.2.next in
      record {
        u = t.0;
        y = b.0;
        condition = t.1;
        is_condition = t.2;
        yes = subst (λ n. read site.integers site.line (passable st) e n ≡ Ok b.0) m b.1;
        is_yes = subst (λ n. IsNumberOf site n f b.0) m (n (elaborated site.integers site.line b.0 c.next) b.2.0);
      }

  -- a fault of the second value
  pub half_fault : (P Q : Type 0) (c : Tested) (f : Number) (sign : ℕ) (g : Expr) (out : Result Value Stop) (s : Stop) → Half c f
      → IsErrAnd out (λ z. z ≡ s)
      → Answers (λ v x. IsRead site f.next v x × P) (Err s) (read site.integers site.line (passable st) g f.next)
      → Answers (λ v x. IsRead site h v x × Q) out (chosen_with site.integers site.line st first sign x e g h)
  half_fault P Q c f sign g out s k m a =
      let n = behind site.integers site.line k.u h in
      let As : Value → Expression → Type 0 = λ v x. IsRead site h v x × Q in
      let Bs : Value → Expression → Type 0 = λ v x. IsRead site f.next v x × P in
      let b : Answers Bs (Err s) (read site.integers site.line (passable st) g (behind_number site.integers site.line k.y n)) =
      subst (λ i. Answers Bs (Err s) (read site.integers site.line (passable st) g i)) k.is_yes.next a in
      ok_then As out (as_condition site.integers site.line first h x) k.u _ k.condition
      (ok_then As out (read site.integers site.line (passable st) e n) k.y _ k.yes
      (handed_then Bs As out s (read site.integers site.line (passable st) g (behind_number site.integers site.line k.y n)) _ m b))

  -- the whole choice
  pub whole : (P Q : Type 0) (c : Tested) (f g : Number) (sign : ℕ) (j : Expr) (v : Value) (r : Result Value OperationFault)
      (out : Result Value Stop) → Half c f
      → Answers (λ v x. IsRead site f.next v x × P) (Ok v) (read site.integers site.line (passable st) j f.next)
      → ((d : Elaborated) → Stands site.variables v d → StandsNumber site.variables g (numbered site.integers site.line d))
      → ((a : core.Tested) (b d : core.Numbered) → a.next ≤ b.next → b.next ≤ d.next → StandsTested site.variables c a
      → StandsNumber site.variables f b → StandsNumber site.variables g d
      → value.Answers (Stands site.variables) fits r (choice site.line a b d))
      → out ≡ placed sign r → Q → Answers (λ v x. IsRead site h v x × Q) out (chosen_with site.integers site.line st first sign x e j h)
  whole P Q c f g sign j v r out k a n m o q =
      let i = behind site.integers site.line k.u h in
      let l = behind_number site.integers site.line k.y i in
      let As : Value → Expression → Type 0 = λ v x. IsRead site h v x × Q in
      let z : read site.integers site.line (passable st) j l ≡ Ok a.0 =
      subst (λ i. read site.integers site.line (passable st) j i ≡ Ok a.0) k.is_yes.next a.1 in
      let w : IsNumberOf site l g a.0 = subst (λ i. IsNumberOf site i g a.0) k.is_yes.next (n
      (elaborated site.integers site.line a.0 f.next) a.2.0) in
      ok_then As out (as_condition site.integers site.line first h x) k.u _ k.condition
      (ok_then As out (read site.integers site.line (passable st) e i) k.y _ k.yes
      (ok_then As out (read site.integers site.line (passable st) j l) a.0 _ z
      (beside (IsRead site h) Q out _ q (answers_of (IsRead site h) out (placed sign r) _ o
      (choice_answers site h sign k.u k.y a.0 r c f g k.is_condition k.is_yes w m)))))

-- ---- signs
-- one more than a level
pub level_more : (n : ℕ) (o p : Op) → n ≡ level o → p ≡ o → n + 1 ≡ suc (level p)
level_more n o p e f = let k : level p ≡ level o = ap level f in omega (arith, e, k)

module _ (site : Site) (st : State) (h first : ℕ) (x : Expression) (j : Join) (w : Work) (is : w ≡ work_in j.op) (s : Side)
    (left : Answers (StandsSide site.integers site.variables site.line (asks_conditions w) h) (Ok s) (side site.integers site.line
    (asks_conditions w) first h x)) where
  -- the names with which the right side is read
  abbrev within : Work → State
  within w = right_of (asks_conditions w) st

  -- a fault of the right side
  pub right_fault : (P Q : Type 0) (next : ℕ) (out : Result Value Stop) (z : Stop) → next ≡ next_of s → IsErrAnd out (λ y. y ≡ z)
      → Answers (λ v x. IsRead site next v x × P) (Err z) (read site.integers site.line (within w) j.right next)
      → Answers (λ v x. IsRead site h v x × Q) out (joined_with site.integers site.line st first x j h)
  right_fault P Q next out z e m a =
      let b = asks_conditions w in
      let n : next ≡ behind_side site.integers site.line b left.0 h = e
      ∙ side_next site.integers site.variables site.line b h s left.0 left.2 in
      let As : Value → Expression → Type 0 = λ v x. IsRead site h v x × Q in
      let Bs : Value → Expression → Type 0 = λ v x. IsRead site next v x × P in
      let c : Answers Bs (Err z) (read site.integers site.line (within w) j.right (behind_side site.integers site.line b left.0 h)) =
      subst (λ i. Answers Bs (Err z) (read site.integers site.line (within w) j.right i)) n a in
      wanted_of As out _ _ (joined_same site.integers site.line st first h x j)
      (subst (λ w. Answers As out (side site.integers site.line (asks_conditions w) first h x
      >>= λ x. read site.integers site.line (within w) j.right (behind_side site.integers site.line (asks_conditions w) x h)
      >>= λ y. sides_worked site.integers site.line w j.at (first_of j.right) h x y)) is
      (ok_then As out (side site.integers site.line b first h x) left.0 _ left.1
      (handed_then Bs As out z (read site.integers site.line (within w) j.right (behind_side site.integers site.line b left.0 h)) _ m c)))

  -- both sides
  pub right_read : (P Q : Type 0) (next at right_first : ℕ) (v : Value) (out : Result Value Stop) → next ≡ next_of s → at ≡ j.at
      → right_first ≡ first_of j.right
      → Answers (λ v x. IsRead site next v x × P) (Ok v) (read site.integers site.line (within w) j.right next)
      → ((x y : Expression) (h : ℕ) → StandsSide site.integers site.variables site.line (asks_conditions w) h s x
      → IsRead site (behind_side site.integers site.line (asks_conditions w) x h) v y
      → Answers (IsRead site h) out (sides_worked site.integers site.line w at right_first h x y))
      → Q → Answers (λ v x. IsRead site h v x × Q) out (joined_with site.integers site.line st first x j h)
  right_read P Q next at right_first v out e p r a m q =
      let b = asks_conditions w in
      let n : next ≡ behind_side site.integers site.line b left.0 h = e
      ∙ side_next site.integers site.variables site.line b h s left.0 left.2 in
      let As : Value → Expression → Type 0 = λ v x. IsRead site h v x × Q in
      let y : read site.integers site.line (within w) j.right (behind_side site.integers site.line b left.0 h) ≡ Ok a.0 =
      subst (λ i. read site.integers site.line (within w) j.right i ≡ Ok a.0) n a.1 in
      let i : IsRead site (behind_side site.integers site.line b left.0 h) v a.0 = subst (λ i. IsRead site i v a.0) n a.2.0 in
      joined_steps site.integers site.line st As out first h x j w left.0 a.0 is left.1 y
      (beside (IsRead site h) Q out _ q
      (subst (λ n. Answers (IsRead site h) out (sides_worked site.integers site.line w n (first_of j.right) h left.0 a.0)) p
      (subst (λ n. Answers (IsRead site h) out (sides_worked site.integers site.line w at n h left.0 a.0)) r (m left.0 a.0 h left.2 i))))
