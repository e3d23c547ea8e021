-- Operands without parts.
use Rattle.std.proofs.Common.{◌≡◌, ◌∙◌, ℕ, ℤ, pos, List, ◌∷◌, Option, Some, Result, ap, ap₂, subst}
use Rattle.source_tree.specs.Expressions as made
use Rattle.source_tree.specs.Expressions.{Expression}
use Rattle.source_core.specs.Elaborated.{number_at}
use Rattle.source_core.specs.Fits.{fits}
use Rattle.source_grammar.specs.Tokens.{Name, Kind, a_name, a_number, Token, token}
use Rattle.source_grammar.specs.Grammar as spelled
use Rattle.source_meaning.specs.Names.{Thing, State, thing_of}
use Rattle.source_meaning.specs.Expressions.{operand, ranged, read}
use Rattle.source_names.specs.Entries.{named}
use Rattle.source_value.specs.declared.fault.OperationFault.{OperationFault}
use Rattle.source_value.specs.declared.site.Site.{Site}
use Rattle.source_value.specs.declared.value.Value.{Value}
use Rattle.source_value.specs.Answers as value
use Rattle.source_value.specs.Stands.{Stands}
use Rattle.source_reader.specs.declared.stop.Stop.{Stop}
use Rattle.source_reader.specs.declared.mark.Mark.{Mark}
use Rattle.source_reader.specs.Answers.{Answers}
use Rattle.source_reader.specs.Marks.{mark_in}
use Rattle.source_reader.specs.Reading.{Reading, behind_first, constant_in, first_kind, first_place, name_in, number_in, passed}
use Rattle.source_reader.specs.Placed.{placed}
use Rattle.source_expression.specs.Sides.{IsRead}
use Rattle.source_expression.specs.Readings.{Reads}
use Rattle.source_expression.proofs.Answering.{answers_of, beside}
use Rattle.source_expression.proofs.Worked.{ranged_answers}

-- ---- tokens
module _ (old : Reading) (k : Kind) (a : ℕ) (rest : List Token) (e : old.ahead ≡ token k a ∷ rest) where
  -- behind the token that is passed come the others
  pub passed_to : (new : Reading) → new ≡ passed old → new.ahead ≡ rest
  passed_to new p = ap (λ (r : Reading). r.ahead) p ∙ ap behind_first e

  -- its place is the first
  pub place_is : (at : ℕ) → at ≡ first_place old.ahead → at ≡ a
  place_is at p = p ∙ ap first_place e

  -- its kind is the first
  pub kind_is : first_kind old.ahead ≡ k
  kind_is = ap first_kind e

  -- it is a mark where it is one
  pub mark_is : (m : Mark) → mark_in k ≡ Some m → mark_in (first_kind old.ahead) ≡ Some m
  mark_is m p = ap mark_in kind_is ∙ p

-- ---- operands
-- a number is read
pub number_reads : (site : Site) (next : ℕ) (old new : Reading) (at : ℕ) (n : ℤ) (r : Result Value OperationFault) (out : Result Value Stop)
    → at ≡ first_place old.ahead → n ≡ pos (number_in (first_kind old.ahead)) → new ≡ passed old
    → value.Answers (Stands site.variables) fits r (number_at site.integers site.line n at next) → out ≡ placed at r
    → (v a : ℕ) (st : State) (rest : List Token) → old.ahead ≡ token (a_number v) a ∷ rest
    → Reads site next (read site.integers site.line st (spelled.number v a) next) rest out new
number_reads site next old new at n r out p q s h o v a st rest e =
    let i : at ≡ a = place_is old (a_number v) a rest e at p in
    let j : n ≡ pos v = q ∙ ap (λ k. pos (number_in k)) (kind_is old (a_number v) a rest e) in
    let x = made.number (pos v) a in
    beside (IsRead site next) (new.ahead ≡ rest) out (ranged site.integers site.line a next x) (passed_to old (a_number v) a rest e new s)
    (answers_of (IsRead site next) out (placed a r) (ranged site.integers site.line a next x) (o ∙ ap (λ at. placed at r) i)
    (ranged_answers site next x r a (subst (λ n. value.Answers (Stands site.variables) fits r
    (number_at site.integers site.line n a next)) j
    (subst (λ at. value.Answers (Stands site.variables) fits r (number_at site.integers site.line n at next)) i h))))

-- ---- names
module _ (st : State) (old : Reading) (bytes : List ℕ) (value : Option ℤ) (at : ℕ) (n : bytes ≡ name_in (first_kind old.ahead))
    (v : value ≡ constant_in (first_kind old.ahead)) (p : at ≡ first_place old.ahead) (x : Name) (a : ℕ) (rest : List Token)
    (e : old.ahead ≡ token (a_name x) a ∷ rest) where
  -- the name that comes next is this one
  pub name_is : named bytes value ≡ x
  name_is = ap₂ named (n ∙ ap name_in (kind_is old (a_name x) a rest e)) (v ∙ ap constant_in (kind_is old (a_name x) a rest e))

  -- what is found of it is that of this name
  pub found_is : {A : Type 0} (f : Name → ℕ → A) (r : A) → r ≡ f (named bytes value) at → r ≡ f x a
  found_is f r h = h ∙ ap₂ f name_is (place_is old (a_name x) a rest e at p)

  -- a variable or a constant is read
  pub named_reads : (site : Site) (next : ℕ) (new : Reading) (o : Option Thing) (out : Result Value Stop) → new ≡ passed old
      → o ≡ thing_of (named bytes value) st → Answers (IsRead site next) out (operand site.integers site.line at next o)
      → Reads site next (read site.integers site.line st (spelled.variable x a) next) rest out new
  named_reads site next new o out s h i =
      let w : operand site.integers site.line at next o ≡ operand site.integers site.line a next (thing_of x st) =
      ap₂ (λ n o. operand site.integers site.line n next o) (place_is old (a_name x) a rest e at p) (h ∙ ap (λ y. thing_of y st) name_is) in
      beside (IsRead site next) (new.ahead ≡ rest) out (operand site.integers site.line a next (thing_of x st))
      (passed_to old (a_name x) a rest e new s) (subst (λ r. Answers (IsRead site next) out r) w i)
