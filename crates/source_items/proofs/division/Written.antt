-- What has been read is what is open: each token that fits is written at the end.
use Rattle.std.proofs.Common.{◌≡◌, ◌∙◌, ◌++◌, ◌∷◌, Bool, true, false, List, [], refl, sym, ap, subst, append_assoc, Some, None}
use Rattle.std.proofs.Common.{if◌then◌else◌}
use Rattle.std.proofs.lemmas.List.{append-nil}
use Rattle.source_items.specs.declared.mark.Bracket.{Bracket}
use Rattle.source_items.specs.declared.mark.Bracket.TheVariants.{Round, Square, Curly}
use Rattle.source_items.specs.declared.mark.Mark.{Mark}
use Rattle.source_items.specs.declared.mark.Mark.TheVariants.{Opens, Closes, Semicolon, Storage, Returned, Name, Other}
use Rattle.source_items.specs.Elements.{Element, Elements, plain, group, nil, cons, spelled, all_spelled, Matches, AllMatch}
use Rattle.source_items.specs.Items.{with_last}
use Rattle.source_items.specs.Machine.{Level, State, put, same, close, step}
use Rattle.source_items.specs.Standing.{written, IsWell, LevelsMatch}

-- how elements and one more are spelled
pub last_spelled : (es : Elements) (e : Element) → all_spelled (with_last es e) ≡ all_spelled es ++ spelled e
last_spelled nil e = append-nil (spelled e)
last_spelled (cons d es) e = ap (λ ms. spelled d ++ ms) (last_spelled es e) ∙ sym (append_assoc (spelled d) (all_spelled es) (spelled e))

-- an element that is put is written at the end
pub put_written : (base : Elements) (ls : List Level) (e : Element)
    → let now = put base ls e in written now.base now.brackets ≡ written base ls ++ spelled e
put_written base [] e = last_spelled base e
put_written base (l ∷ ls) e =
    ap (λ ms. written base ls ++ Opens l.bracket ∷ ms) (last_spelled l.inside e)
    ∙ sym (append_assoc (written base ls) (Opens l.bracket ∷ all_spelled l.inside) (spelled e))

-- brackets of a kind are the same
pub same_is : (b c : Bracket) → same b c ≡ true → b ≡ c
same_is Round Round h = refl
same_is Square Square h = refl
same_is Curly Curly h = refl
same_is Round Square h = cc
same_is Round Curly h = cc
same_is Square Round h = cc
same_is Square Curly h = cc
same_is Curly Round h = cc
same_is Curly Square h = cc

-- a bracket is of its own kind
pub same_self : (b : Bracket) → same b b ≡ true
same_self Round = refl
same_self Square = refl
same_self Curly = refl

-- elements and one more match
pub last_matches : (es : Elements) (e : Element) → AllMatch es → Matches e → AllMatch (with_last es e)
last_matches nil e h m = (m, tt)
last_matches (cons d es) e h m = (h.0, last_matches es e h.1 m)

-- so they do where it is put
pub put_well : (base : Elements) (ls : List Level) (e : Element) → AllMatch base → LevelsMatch ls → Matches e → IsWell (put base ls e)
put_well base [] e h i m = record { base = last_matches base e h m; levels = tt }
put_well base (l ∷ ls) e h i m = record { base = h; levels = (last_matches l.inside e i.0 m, i.1) }

-- what a step makes of a token
pub record IsStep (st : State) (m : Mark) (now : State) : Type 0 where
  -- it is written at the end
  pub writes : written now.base now.brackets ≡ written st.base st.brackets ++ m ∷ []
  -- and what is open stays well
  pub well : IsWell st → IsWell now

put_step : (st : State) (m : Mark) → Matches (plain m) → IsStep st m (put st.base st.brackets (plain m))
put_step st m h = record {
  writes = put_written st.base st.brackets (plain m);
  well = λ w. put_well st.base st.brackets (plain m) w.base w.levels h;
}

some_is : (st now : State) (m : Mark) → IsStep st m now → (other : State) → Some now ≡ Some other → IsStep st m other
some_is st now m h other e = let same : now ≡ other = cc in subst (λ x. IsStep st m x) same h

close_by : (t : Bool) (b : Bracket) (base : Elements) (l : Level) (ls : List Level) (now : State) → same l.bracket b ≡ t
    → (if t then Some (put base ls (group b l.inside)) else None) ≡ Some now
    → IsStep (record { base = base; brackets = l ∷ ls }) (Closes b) now
close_by false b base l ls now s e = cc
close_by true b base l ls now s e =
    some_is (record { base = base; brackets = l ∷ ls }) (put base ls (group b l.inside)) (Closes b) (record {
      writes = put_written base ls (group b l.inside)
          ∙ ap (λ (c : Bracket). written base ls ++ Opens c ∷ (all_spelled l.inside ++ Closes b ∷ [])) (sym (same_is l.bracket b s))
          ∙ sym (append_assoc (written base ls) (Opens l.bracket ∷ all_spelled l.inside) (Closes b ∷ []));
      well = λ w. put_well base ls (group b l.inside) w.base w.levels.1 w.levels.0;
    }) now e

close_is : (base : Elements) (ls : List Level) (b : Bracket) (now : State) → close b base ls ≡ Some now
    → IsStep (record { base = base; brackets = ls }) (Closes b) now
close_is base [] b now e = cc
close_is base (l ∷ ls) b now e = close_by (same l.bracket b) b base l ls now refl e

-- a token that fits is written at the end
pub step_is : (st now : State) (m : Mark) → step st m ≡ Some now → IsStep st m now
step_is st now (Opens b) e = some_is st (record { base = st.base; brackets = record { bracket = b; inside = nil } ∷ st.brackets }) (Opens b)
    (record { writes = refl; well = λ w. record { base = w.base; levels = (tt, w.levels) } }) now e
step_is st now (Closes b) e = close_is st.base st.brackets b now e
step_is st now Semicolon e = some_is st (put st.base st.brackets (plain Semicolon)) Semicolon (put_step st Semicolon tt) now e
step_is st now Storage e = some_is st (put st.base st.brackets (plain Storage)) Storage (put_step st Storage tt) now e
step_is st now Returned e = some_is st (put st.base st.brackets (plain Returned)) Returned (put_step st Returned tt) now e
step_is st now Name e = some_is st (put st.base st.brackets (plain Name)) Name (put_step st Name tt) now e
step_is st now Other e = some_is st (put st.base st.brackets (plain Other)) Other (put_step st Other tt) now e
