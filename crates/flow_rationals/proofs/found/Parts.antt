-- What stands first among symbols is one thing.
use Rattle.std.proofs.Common.{◌≡◌, ◌∙◌, ◌++◌, List, [], ◌∷◌, refl, sym, ap, subst, append_assoc}
use Rattle.std.proofs.lemmas.List.{append-nil}
use Rattle.flow_rationals.specs.declared.reading.symbol.Symbol.{Symbol}
use Rattle.flow_rationals.specs.declared.reading.symbol.Symbol.TheVariants as symbol
use Rattle.flow_rationals.specs.declared.reading.written.Part.{Part}
use Rattle.flow_rationals.specs.declared.reading.written.Addends.{Addends}
use Rattle.flow_rationals.specs.Grammar.{part_then, parts_then, sum_then}
use Rattle.flow_rationals.specs.Found.{EndsSum, EndsPart}
use Rattle.flow_rationals.proofs.grammar.Complete.{parts_end}

-- the same value found, and the same symbols after it
abbrev pub Same : {X : Type 0} → X → X → List Symbol → List Symbol → Type 0
Same x y rest other = (x ≡ y) × (rest ≡ other)

-- A sum that has this first part and these parts after it goes on with these symbols.
pub record GoesOn (first : Part) (more : List Part) (rest : List Symbol) (s : Addends) (m : List Symbol) : Type 0 where
  -- the parts that are still to come
  pub tail : List Part
  -- the sum's first part is this one
  pub first_is : first ≡ s.first
  -- the parts after it are these and those still to come
  pub more_is : more ++ tail ≡ s.more
  -- the symbols are those of the parts to come, and what follows the sum
  pub rest_is : rest ≡ parts_then tail m

-- whatever part these symbols begin with is this part, with these symbols after it
abbrev pub PartFound : List Symbol → Part → List Symbol → Type 0
PartFound ss part after = (p : Part) (m : List Symbol) → EndsPart m → ss ≡ part_then p m → Same part p after m

-- these symbols begin with no part
abbrev pub NoPart : List Symbol → Type 0
NoPart ss = (p : Part) (m : List Symbol) → EndsPart m → ss ≡ part_then p m → ⊥

-- a sum whose first part was found goes on with the symbols after it
pub sum_starts : (ss after : List Symbol) (first : Part) → PartFound ss first after → (s : Addends) (m : List Symbol) → EndsSum m
    → ss ≡ sum_then s m → GoesOn first [] after s m
sum_starts ss after first found s m h e =
    let f = found s.first (parts_then s.more m) (parts_end s.more m h) e in
    record { tail = s.more; first_is = f.0; more_is = refl; rest_is = f.1 }

-- where no part stands first, no sum does
pub sum_none : (ss : List Symbol) → NoPart ss → (s : Addends) (m : List Symbol) → EndsSum m → ss ≡ sum_then s m → ⊥
sum_none ss none s m h e = none s.first (parts_then s.more m) (parts_end s.more m h) e

sum_no_plus : (m others : List Symbol) → EndsSum m → m ≡ symbol.Plus ∷ others → ⊥
sum_no_plus m others h e = subst EndsSum e h

goes_by : (first : Part) (more tail : List Part) (rest others after : List Symbol) (next : Part) (s : Addends) (m : List Symbol)
    → first ≡ s.first → more ++ tail ≡ s.more → rest ≡ parts_then tail m → EndsSum m → rest ≡ symbol.Plus ∷ others
    → PartFound others next after → GoesOn first (more ++ next ∷ []) after s m
goes_by first more [] rest others after next s m f l r h plus found = absurd (sum_no_plus m others h (sym r ∙ plus))
goes_by first more (p ∷ ps) rest others after next s m f l r h plus found =
    let t : others ≡ part_then p (parts_then ps m) = cc in
    let g = found p (parts_then ps m) (parts_end ps m h) t in
    record {
      tail = ps;
      first_is = f;
      more_is = append_assoc more (next ∷ []) ps ∙ (ap (λ x. more ++ x ∷ ps) g.0 ∙ l);
      rest_is = g.1;
    }

-- a sum goes on after `+` with the part that was found there
pub sum_goes : (first : Part) (more : List Part) (rest others after : List Symbol) (next : Part) (s : Addends) (m : List Symbol)
    → GoesOn first more rest s m → EndsSum m → rest ≡ symbol.Plus ∷ others → PartFound others next after
    → GoesOn first (more ++ next ∷ []) after s m
sum_goes first more rest others after next s m g h plus found =
    goes_by first more g.tail rest others after next s m g.first_is g.more_is g.rest_is h plus found

stuck_by : (tail : List Part) (rest others : List Symbol) (m : List Symbol) → rest ≡ parts_then tail m → EndsSum m
    → rest ≡ symbol.Plus ∷ others → NoPart others → ⊥
stuck_by [] rest others m r h plus none = sum_no_plus m others h (sym r ∙ plus)
stuck_by (p ∷ ps) rest others m r h plus none = none p (parts_then ps m) (parts_end ps m h) cc

-- where no part stands after `+`, no sum goes on there
pub sum_stuck : (first : Part) (more : List Part) (rest others : List Symbol) (s : Addends) (m : List Symbol) → GoesOn first more rest s m
    → EndsSum m → rest ≡ symbol.Plus ∷ others → NoPart others → ⊥
sum_stuck first more rest others s m g h plus none = stuck_by g.tail rest others m g.rest_is h plus none

no_more : (tail : List Part) (rest m : List Symbol) → rest ≡ parts_then tail m → ((others : List Symbol) → rest ≡ symbol.Plus ∷ others → ⊥)
    → (tail ≡ []) × (rest ≡ m)
no_more [] rest m r none = (refl, r)
no_more (p ∷ ps) rest m r none = absurd (none (part_then p (parts_then ps m)) r)

same_sum : (first : Part) (more : List Part) (s : Addends) → first ≡ s.first → more ≡ s.more → record { first = first; more = more } ≡ s
same_sum first more s f l = ap (λ x. record { first = x; more = more }) f ∙ ap (λ x. record { first = s.first; more = x }) l

-- where no `+` stands next, the sum ends, and is that of the parts found
pub sum_ends : (first : Part) (more made : List Part) (rest : List Symbol) (s : Addends) (m : List Symbol) → made ≡ more
    → GoesOn first more rest s m → ((others : List Symbol) → rest ≡ symbol.Plus ∷ others → ⊥)
    → Same (record { first = first; more = made }) s rest m
sum_ends first more made rest s m l g none =
    let e = no_more g.tail rest m g.rest_is none in
    (same_sum first made s g.first_is (l ∙ (sym (append-nil more) ∙ (ap (λ x. more ++ x) (sym e.0) ∙ g.more_is))), e.1)
