-- The reading behind a token.
use Rattle.std.proofs.Common.{◌≡◌, ◌∙◌, ◌++◌, ◌∷◌, ℕ, suc, Bool, true, false, List, [], refl, sym, ap, arith}
use Rattle.std.proofs.Common.{length, map, reverse, Some, None, if◌then◌else◌}
use Rattle.std.specs.Bool.{◌==◌}
use Rattle.std.proofs.lemmas.Bool.{eqb-true}
use Rattle.std.proofs.Common.{true≢false}
use Rattle.std.proofs.lemmas.List.{reverse-append, reverse-reverse}
use Rattle.source_items.specs.declared.mark.Bracket.{Bracket}
use Rattle.source_items.specs.declared.mark.Mark.{Mark}
use Rattle.source_items.specs.declared.mark.Mark.TheVariants.{Opens, Closes, Semicolon, Storage, Returned, Name, Other}
use Rattle.source_items.specs.declared.division.Reading.{Reading}
use Rattle.source_items.specs.Elements.{Element, Elements, plain, group, nil, all_spelled, IsPlain}
use Rattle.source_items.specs.Items.{with_last}
use Rattle.source_items.specs.Machine.{Level, State, put, same, close, step}
use Rattle.source_items.specs.Standing.{IsMet, IsNext, Meets, Stands, written}
use Rattle.source_items.proofs.division.Written.{last_spelled, put_well, put_written, same_self}
use Rattle.source_items.proofs.division.Parts.{both_length}

reverse_last : (bs : List Bracket) (b : Bracket) → reverse (bs ++ b ∷ []) ≡ b ∷ reverse bs
reverse_last bs b = reverse-append bs (b ∷ [])

reversed_nil : (bs : List Bracket) → reverse bs ≡ [] → bs ≡ []
reversed_nil bs h = sym (reverse-reverse bs) ∙ ap (λ (xs : List Bracket). reverse xs) h

-- a list of length 0 has no element
pub nil_of : (bs : List Bracket) → length bs ≡ 0 → bs ≡ []
nil_of [] h = refl
nil_of (b ∷ bs) h = absurd (omega (arith, h))

-- a list without elements, and one with some
pub none_here : (bs : List Bracket) → (length bs == 0) ≡ true → bs ≡ []
none_here bs h = nil_of bs (eqb-true (length bs) 0 h)

-- a list with another length has some
pub some_here : (bs : List Bracket) → (length bs == 0) ≡ false → bs ≡ [] → ⊥
some_here bs h e = true≢false (sym (ap (λ (xs : List Bracket). length xs == 0) e) ∙ h)

no_bracket : (b : Bracket) (bs : List Bracket) → b ∷ bs ≡ [] → ⊥
no_bracket b bs h = cc

-- an element outside of all brackets
pub put_base : (base : Elements) (ls : List Level) (e : Element) (last : Mark) (index : ℕ) (r now : Reading)
    → IsMet (record { base = base; brackets = ls }) r → IsNext (record { base = base; brackets = ls }) e last index
    → r.brackets.items ≡ [] → now.brackets.items ≡ r.brackets.items
    → (length (all_spelled (with_last base e)) ≡ suc index → Meets (with_last base e) now) → Stands (put base ls e) now (suc index)
put_base base [] e last index r now h n none kept meets = record {
  count = ap (λ (ms : List Mark). length ms) (last_spelled base e) ∙ n.count;
  met = record {
    brackets = h.brackets ∙ ap (λ (bs : List Bracket). reverse bs) (sym kept);
    well = put_well base [] e h.well.base h.well.levels n.matches;
    meets = meets (ap (λ (ms : List Mark). length ms) (last_spelled base e) ∙ n.count);
  };
}
put_base base (l ∷ ls) e last index r now h n none kept meets =
    absurd (no_bracket l.bracket (map (λ (l : Level). l.bracket) ls) (h.brackets ∙ ap (λ (bs : List Bracket). reverse bs) none))

-- an element inside of brackets
pub put_inside : (base : Elements) (ls : List Level) (e : Element) (last : Mark) (index : ℕ) (r : Reading)
    → IsMet (record { base = base; brackets = ls }) r → IsNext (record { base = base; brackets = ls }) e last index
    → (r.brackets.items ≡ [] → ⊥) → Stands (put base ls e) r (suc index)
put_inside base [] e last index r h n some = absurd (some (reversed_nil r.brackets.items (sym h.brackets)))
put_inside base (l ∷ ls) e last index r h n some = record {
  count = ap (λ (ms : List Mark). length ms) (put_written base (l ∷ ls) e) ∙ n.count;
  met = record {
    brackets = h.brackets;
    well = put_well base (l ∷ ls) e h.well.base h.well.levels n.matches;
    meets = h.meets;
  };
}

-- a bracket is opened
pub opened : (st : State) (b : Bracket) (index : ℕ) (r now : Reading) → Stands st r index
    → now.brackets.items ≡ r.brackets.items ++ b ∷ [] → Meets st.base now
    → Stands (record { base = st.base; brackets = record { bracket = b; inside = nil } ∷ st.brackets }) now (suc index)
opened st b index r now h push meets = record {
  count = both_length (written st.base st.brackets) (Opens b ∷ []) ∙ omega (arith, h.count);
  met = record {
    brackets = ap (λ (bs : List Bracket). b ∷ bs) h.met.brackets ∙ sym (reverse_last r.brackets.items b)
        ∙ ap (λ (bs : List Bracket). reverse bs) (sym push);
    well = record { base = h.met.well.base; levels = (tt, h.met.well.levels) };
    meets = meets;
  };
}

-- a token that is no bracket comes next
pub plain_next : (st : State) (m : Mark) (index : ℕ) (r : Reading) → IsPlain m → Stands st r index → IsNext st (plain m) m index
plain_next st m index r p h = record {
  ends = refl;
  matches = p;
  count = both_length (written st.base st.brackets) (m ∷ []) ∙ omega (arith, h.count);
}

-- a token that is no bracket is put as it is
pub plain_step : (st : State) (m : Mark) → IsPlain m → step st m ≡ Some (put st.base st.brackets (plain m))
plain_step st (Opens b) p = absurd p
plain_step st (Closes b) p = absurd p
plain_step st Semicolon p = refl
plain_step st Storage p = refl
plain_step st Returned p = refl
plain_step st Name p = refl
plain_step st Other p = refl

-- the innermost bracket comes off, and what it held comes next
pub record IsClosed (b : Bracket) (base : Elements) (ls : List Level) (now : Reading) (index : ℕ) : Type 0 where
  -- what it held
  pub inside : Elements
  -- the brackets that stay open
  pub rest : List Level
  -- the step of the machine
  pub closes : close b base ls ≡ Some (put base rest (group b inside))
  -- the reading stands for what is left
  pub met : IsMet (record { base = base; brackets = rest }) now
  -- and what the bracket held comes next
  pub next : IsNext (record { base = base; brackets = rest }) (group b inside) (Closes b) index

same_closes : (t : Bool) (b : Bracket) (base : Elements) (l : Level) (ls : List Level) → same l.bracket b ≡ t → t ≡ true
    → (if t then Some (put base ls (group b l.inside)) else None) ≡ Some (put base ls (group b l.inside))
same_closes true b base l ls h e = refl
same_closes false b base l ls h e = cc

-- where the bracket that comes off is of the kind, it is closed
pub closed : (b : Bracket) (base : Elements) (ls : List Level) (index : ℕ) (r now : Reading)
    → Stands (record { base = base; brackets = ls }) r index → r.brackets.items ≡ now.brackets.items ++ b ∷ []
    → Meets base now → IsClosed b base ls now index
closed b base [] index r now h pop meets =
    absurd (no_bracket b (reverse now.brackets.items) (sym (h.met.brackets ∙ ap (λ (bs : List Bracket). reverse bs) pop
    ∙ reverse_last now.brackets.items b)))
closed b base (l ∷ ls) index r now h pop meets =
    let order : l.bracket ∷ map (λ (l : Level). l.bracket) ls ≡ b ∷ reverse now.brackets.items =
    h.met.brackets ∙ ap (λ (bs : List Bracket). reverse bs) pop ∙ reverse_last now.brackets.items b in
    let top : l.bracket ≡ b = cc in
    let others : map (λ (l : Level). l.bracket) ls ≡ reverse now.brackets.items = cc in
    record {
      inside = l.inside;
      rest = ls;
      closes = same_closes (same l.bracket b) b base l ls refl (ap (λ c. same c b) top ∙ same_self b);
      met = record {
        brackets = others;
        well = record { base = h.met.well.base; levels = h.met.well.levels.1 };
        meets = meets;
      };
      next = record {
        ends = refl;
        matches = h.met.well.levels.0;
        count = omega (
          arith,
          h.count,
          both_length (written base ls) (Opens b ∷ (all_spelled l.inside ++ Closes b ∷ [])),
          both_length (all_spelled l.inside) (Closes b ∷ []),
          both_length (written base ls) (Opens l.bracket ∷ all_spelled l.inside),
        );
      };
    }

differs : (t : Bool) (b c : Bracket) (base : Elements) (ls : List Level) (inside : Elements) → same b c ≡ t → t ≡ false
    → (if t then Some (put base ls (group c inside)) else None) ≡ None
differs true b c base ls inside s h = cc
differs false b c base ls inside s h = refl

-- another bracket is open, or none
pub unclosed : (b top : Bracket) (base : Elements) (ls : List Level) (index : ℕ) (r : Reading) (rest : List Bracket)
    → Stands (record { base = base; brackets = ls }) r index → r.brackets.items ≡ rest ++ top ∷ [] → same top b ≡ false
    → close b base ls ≡ None
unclosed b top base [] index r rest h pop other = refl
unclosed b top base (l ∷ ls) index r rest h pop other =
    let order : l.bracket ∷ map (λ (l : Level). l.bracket) ls ≡ top ∷ reverse rest =
    h.met.brackets ∙ ap (λ (bs : List Bracket). reverse bs) pop ∙ reverse_last rest top in
    let top_is : l.bracket ≡ top = cc in
    differs (same l.bracket b) l.bracket b base ls l.inside refl (ap (λ c. same c b) top_is ∙ other)

-- where no bracket is open, none is closed
pub unopened : (b : Bracket) (base : Elements) (ls : List Level) (index : ℕ) (r : Reading)
    → Stands (record { base = base; brackets = ls }) r index → r.brackets.items ≡ [] → close b base ls ≡ None
unopened b base [] index r h none = refl
unopened b base (l ∷ ls) index r h none =
    absurd (no_bracket l.bracket (map (λ (l : Level). l.bracket) ls) (h.met.brackets ∙ ap (λ (bs : List Bracket). reverse bs) none))
