-- Alternatives and equations that stand first among symbols are one thing each.
use Rattle.std.proofs.Common.{◌≡◌, ◌∙◌, ◌++◌, ℕ, List, [], ◌∷◌, Option, Some, None, refl, sym, ap, append_assoc}
use Rattle.std.proofs.lemmas.List.{append-nil}
use Rattle.flow_rationals.specs.declared.reading.symbol.Symbol.{Symbol}
use Rattle.flow_rationals.specs.declared.reading.symbol.Symbol.TheVariants as symbol
use Rattle.flow_rationals.specs.declared.reading.written.Ratio.{Ratio}
use Rattle.flow_rationals.specs.declared.reading.written.Addends.{Addends}
use Rattle.flow_rationals.specs.declared.reading.written.Choice.{Choice}
use Rattle.flow_rationals.specs.declared.reading.written.Choice.TheVariants.{Least}
use Rattle.flow_rationals.specs.declared.reading.written.Written.{Written}
use Rattle.flow_rationals.specs.Grammar.{minus_then, ratio_then, sum_then, sums_then, choice_then, choices_then, equation_then}
use Rattle.flow_rationals.specs.Grammar.{equations_symbols, Spells}
use Rattle.flow_rationals.specs.Found.{NoColon, NoMinus}
use Rattle.flow_rationals.proofs.grammar.Complete.{sums_end, choices_end}
use Rattle.flow_rationals.proofs.found.Parts.{Same}
use Rattle.flow_rationals.proofs.found.Lists.{Found, Absent, Listing}

abbrev pub SumFound : List Symbol → Addends → List Symbol → Type 0
SumFound ss s after = Found Addends sum_then ss s after

abbrev pub NoSum : List Symbol → Type 0
NoSum ss = Absent Addends sum_then ss

-- what closes the sums of a minimum
abbrev pub sums_close : List Symbol → List Symbol
sums_close m = symbol.RightParen ∷ m

-- how the further sums of a minimum are spelled
pub sums_listing : Listing Addends sum_then sums_then sums_close
sums_listing = record {
  none = λ m. refl;
  more = λ s ss m. refl;
  ends = sums_end;
  no_comma = λ m x e. cc;
  closed_once = λ m n e. cc;
}

abbrev pub SumsFound : List Symbol → List Addends → List Symbol → Type 0
SumsFound ss sums after = (us : List Addends) (m : List Symbol) → ss ≡ sums_then us m → Same sums us after m

-- a minimum
pub least_some : (ss after rest : List Symbol) (first : Addends) (more : List Addends) → SumFound ss first after → SumsFound after more rest
    → (s : Addends) (sums : List Addends) (m : List Symbol) → ss ≡ sum_then s (sums_then sums m)
    → Same (Least first more) (Least s sums) rest m
least_some ss after rest first more found others s sums m e =
    let f = found s (sums_then sums m) (sums_end sums m) e in
    let g = others sums m f.1 in
    (ap (λ x. Least x more) f.0 ∙ ap (Least s) g.0, g.1)

-- where no further sums follow the first, no minimum stands there
pub least_no_sums : (ss after : List Symbol) (first : Addends) → SumFound ss first after
    → ((us : List Addends) (m : List Symbol) → after ≡ sums_then us m → ⊥) → (s : Addends) (sums : List Addends) (m : List Symbol)
    → ss ≡ sum_then s (sums_then sums m) → ⊥
least_no_sums ss after first found none s sums m e =
    let f = found s (sums_then sums m) (sums_end sums m) e in none sums m f.1

-- where no sum stands first, no minimum stands there
pub least_no_sum : (ss : List Symbol) → NoSum ss → (s : Addends) (sums : List Addends) (m : List Symbol)
    → ss ≡ sum_then s (sums_then sums m) → ⊥
least_no_sum ss none s sums m e = none s (sums_then sums m) (sums_end sums m) e

-- what closes the alternatives of an equation
abbrev pub choices_close : List Symbol → List Symbol
choices_close m = symbol.RightParen ∷ symbol.Semicolon ∷ m

-- how the alternatives of an equation are spelled
pub choices_listing : Listing Choice choice_then choices_then choices_close
choices_listing = record {
  none = λ m. refl;
  more = λ c cs m. refl;
  ends = choices_end;
  no_comma = λ m x e. cc;
  closed_once = λ m n e. cc;
}

choices_no_colon : (cs : List Choice) (m : List Symbol) → NoColon (choices_then cs m)
choices_no_colon [] m = tt
choices_no_colon (c ∷ cs) m = tt

same_minus : (ss number x : List Symbol) (r : Ratio) (found minus : Option ℕ) → ss ≡ minus_then found number → NoMinus found ss
    → ss ≡ minus_then minus (ratio_then r x) → (found ≡ minus) × (number ≡ ratio_then r x)
same_minus ss number x r None None s none e = (refl, sym s ∙ e)
same_minus ss number x r None (Some at) s none e = absurd (none at (ratio_then r x) e)
same_minus ss number x r (Some a) None s none e = absurd cc
same_minus ss number x r (Some a) (Some at) s none e =
    let p : a ≡ at = cc in
    let q : number ≡ ratio_then r x = cc in
    (ap Some p, q)

abbrev pub RatioFound : List Symbol → Ratio → List Symbol → Type 0
RatioFound ss r after = (s : Ratio) (m : List Symbol) → NoColon m → ss ≡ ratio_then s m → Same r s after m

abbrev pub ChoicesFound : List Symbol → List Choice → List Symbol → Type 0
ChoicesFound ss cs after = (ds : List Choice) (m : List Symbol) → ss ≡ choices_then ds m → Same cs ds after m

same_written : (e : Written) (name : List ℕ) (at : ℕ) (minus : Option ℕ) (start : Ratio) (choices : List Choice) → name ≡ e.name → at ≡ e.at
    → minus ≡ e.minus → start ≡ e.start → choices ≡ e.choices → record {
      name = name;
      at = at;
      minus = minus;
      start = start;
      choices =
          choices;
    } ≡ e
same_written e name at minus start choices n a m s c =
    ap (λ x. record { name = x; at = at; minus = minus; start = start; choices = choices }) n
    ∙ (ap (λ x. record { name = e.name; at = x; minus = minus; start = start; choices = choices }) a
    ∙ (ap (λ x. record { name = e.name; at = e.at; minus = x; start = start; choices = choices }) m
    ∙ (ap (λ x. record { name = e.name; at = e.at; minus = e.minus; start = x; choices = choices }) s
    ∙ ap (λ x. record { name = e.name; at = e.at; minus = e.minus; start = e.start; choices = x }) c)))

-- the start and the alternatives of an equation
abbrev pub body_then : Written → List Symbol → List Symbol
body_then e m = minus_then e.minus (ratio_then e.start (choices_then e.choices m))

-- a start and alternatives that were found are those of the equation
pub body_some : (ss number after rest : List Symbol) (name : List ℕ) (at : ℕ) (minus : Option ℕ) (start : Ratio) (choices : List Choice)
    → ss ≡ minus_then minus number → NoMinus minus ss → RatioFound number start after → ChoicesFound after choices rest
    → (e : Written) (m : List Symbol) → name ≡ e.name → at ≡ e.at → ss ≡ body_then e m
    → Same (record { name = name; at = at; minus = minus; start = start; choices = choices }) e rest m
body_some ss number after rest name at minus start choices s none found others e m n a h =
    let x = same_minus ss number (choices_then e.choices m) e.start minus e.minus s none h in
    let f = found e.start (choices_then e.choices m) (choices_no_colon e.choices m) x.1 in
    let g = others e.choices m f.1 in
    (same_written e name at minus start choices n a x.0 f.0 g.0, g.1)

-- where no ratio stands first, no start does
pub body_no_start : (ss number : List Symbol) (minus : Option ℕ) → ss ≡ minus_then minus number → NoMinus minus ss
    → ((r : Ratio) (m : List Symbol) → NoColon m → number ≡ ratio_then r m → ⊥) → (e : Written) (m : List Symbol) → ss ≡ body_then e m → ⊥
body_no_start ss number minus s none absent e m h =
    let x = same_minus ss number (choices_then e.choices m) e.start minus e.minus s none h in
    absent e.start (choices_then e.choices m) (choices_no_colon e.choices m) x.1

-- where no alternatives follow the start, no equation stands there
pub body_no_choices : (ss number after : List Symbol) (minus : Option ℕ) (start : Ratio) → ss ≡ minus_then minus number → NoMinus minus ss
    → RatioFound number start after → ((ds : List Choice) (m : List Symbol) → after ≡ choices_then ds m → ⊥)
    → (e : Written) (m : List Symbol) → ss ≡ body_then e m → ⊥
body_no_choices ss number after minus start s none found absent e m h =
    let x = same_minus ss number (choices_then e.choices m) e.start minus e.minus s none h in
    let f = found e.start (choices_then e.choices m) (choices_no_colon e.choices m) x.1 in
    absent e.choices m f.1

abbrev pub EquationFound : List Symbol → Written → List Symbol → Type 0
EquationFound ss e after = (d : Written) (m : List Symbol) → ss ≡ equation_then d m → Same e d after m

abbrev pub NoEquation : List Symbol → Type 0
NoEquation ss = (d : Written) (m : List Symbol) → ss ≡ equation_then d m → ⊥

-- Equations of which these were found go on with these symbols.
pub record EquationsGoOn (done : List Written) (rest : List Symbol) (es : List Written) : Type 0 where
  -- the equations that are still to come
  pub tail : List Written
  -- the equations found and those to come are all equations
  pub all : done ++ tail ≡ es
  -- the symbols are those of the equations to come
  pub rest_is : rest ≡ equations_symbols tail

-- before any equation is found, all are still to come
pub equations_start : (ss : List Symbol) (es : List Written) → Spells ss es → EquationsGoOn [] ss es
equations_start ss [] h = absurd h
equations_start ss (e ∷ es) h = record { tail = e ∷ es; all = refl; rest_is = h }

equations_by : (done tail : List Written) (rest after : List Symbol) (next : Written) (es : List Written) → done ++ tail ≡ es
    → rest ≡ equations_symbols tail → ((x : List Symbol) → rest ≡ symbol.End ∷ x → ⊥) → EquationFound rest next after
    → EquationsGoOn (done ++ next ∷ []) after es
equations_by done [] rest after next es l r none found = absurd (none [] r)
equations_by done (s ∷ ss) rest after next es l r none found =
    let g = found s (equations_symbols ss) r in
    record { tail = ss; all = append_assoc done (next ∷ []) ss ∙ (ap (λ x. done ++ x ∷ ss) g.0 ∙ l); rest_is = g.1 }

-- equations go on with the one that was found
pub equations_go : (done : List Written) (rest after : List Symbol) (next : Written) (es : List Written) → EquationsGoOn done rest es
    → ((x : List Symbol) → rest ≡ symbol.End ∷ x → ⊥) → EquationFound rest next after → EquationsGoOn (done ++ next ∷ []) after es
equations_go done rest after next es g none found = equations_by done g.tail rest after next es g.all g.rest_is none found

equations_stuck_by : (tail : List Written) (rest : List Symbol) → rest ≡ equations_symbols tail
    → ((x : List Symbol) → rest ≡ symbol.End ∷ x → ⊥) → NoEquation rest → ⊥
equations_stuck_by [] rest r none absent = none [] r
equations_stuck_by (s ∷ ss) rest r none absent = absent s (equations_symbols ss) r

-- where neither an equation nor the end stands next, no equations go on
pub equations_stuck : (done : List Written) (rest : List Symbol) (es : List Written) → EquationsGoOn done rest es
    → ((x : List Symbol) → rest ≡ symbol.End ∷ x → ⊥) → NoEquation rest → ⊥
equations_stuck done rest es g none absent = equations_stuck_by g.tail rest g.rest_is none absent

equations_end_by : (done tail : List Written) (rest after : List Symbol) (es : List Written) → done ++ tail ≡ es
    → rest ≡ equations_symbols tail → rest ≡ symbol.End ∷ after → done ≡ es
equations_end_by done [] rest after es l r e = sym (append-nil done) ∙ l
equations_end_by done (s ∷ ss) rest after es l r e = absurd cc

-- at the end, the equations are those found
pub equations_end : (done : List Written) (rest after : List Symbol) (es : List Written) → EquationsGoOn done rest es
    → rest ≡ symbol.End ∷ after → done ≡ es
equations_end done rest after es g e = equations_end_by done g.tail rest after es g.all g.rest_is e
