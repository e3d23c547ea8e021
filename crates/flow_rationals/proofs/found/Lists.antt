-- A list of which each part stands behind a `,`, up to what closes it, is one thing where its symbols stand first.
use Rattle.std.proofs.Common.{◌≡◌, ◌∙◌, ◌++◌, List, [], ◌∷◌, sym, ap, append_assoc}
use Rattle.std.proofs.lemmas.List.{append-nil}
use Rattle.flow_rationals.specs.declared.reading.symbol.Symbol.{Symbol}
use Rattle.flow_rationals.specs.declared.reading.symbol.Symbol.TheVariants as symbol
use Rattle.flow_rationals.specs.Found.{EndsSum}
use Rattle.flow_rationals.proofs.found.Parts.{Same}

-- How a list is spelled: each part behind a `,`, and what closes the list behind them.
pub record Listing (X : Type 0) (one : X → List Symbol → List Symbol) (spell : List X → List Symbol → List Symbol)
    (close : List Symbol → List Symbol) : Type 0 where
  -- no part
  pub none : (m : List Symbol) → spell [] m ≡ close m
  -- a part and others
  pub more : (x : X) (xs : List X) (m : List Symbol) → spell (x ∷ xs) m ≡ symbol.Comma ∷ one x (spell xs m)
  -- a part ends where the list goes on or is closed
  pub ends : (xs : List X) (m : List Symbol) → EndsSum (spell xs m)
  -- what closes a list begins with no `,`
  pub no_comma : (m x : List Symbol) → close m ≡ symbol.Comma ∷ x → ⊥
  -- what follows a list that is closed is one thing
  pub closed_once : (m n : List Symbol) → close m ≡ close n → m ≡ n

-- whatever part these symbols begin with is this part, with these symbols after it
abbrev pub Found : (X : Type 0) → (X → List Symbol → List Symbol) → List Symbol → X → List Symbol → Type 0
Found X one ss x after = (t : X) (m : List Symbol) → EndsSum m → ss ≡ one t m → Same x t after m

-- these symbols begin with no part
abbrev pub Absent : (X : Type 0) → (X → List Symbol → List Symbol) → List Symbol → Type 0
Absent X one ss = (t : X) (m : List Symbol) → EndsSum m → ss ≡ one t m → ⊥

-- A list of which these parts were found goes on with these symbols.
pub record ListGoesOn (X : Type 0) (spell : List X → List Symbol → List Symbol) (done : List X) (rest : List Symbol) (xs : List X)
    (m : List Symbol) : Type 0 where
  -- the parts that are still to come
  pub tail : List X
  -- the parts found and those to come are the parts of the list
  pub all : done ++ tail ≡ xs
  -- the symbols are those of the parts to come, and what follows the list
  pub rest_is : rest ≡ spell tail m

module _ (X : Type 0) (one : X → List Symbol → List Symbol) (spell : List X → List Symbol → List Symbol)
    (close : List Symbol → List Symbol) (l : Listing X one spell close) where
  go_by : (done tail : List X) (rest others after : List Symbol) (next : X) (xs : List X) (m : List Symbol) → done ++ tail ≡ xs
      → rest ≡ spell tail m → rest ≡ symbol.Comma ∷ others → Found X one others next after
      → ListGoesOn X spell (done ++ next ∷ []) after xs m
  go_by done [] rest others after next xs m e r c found = absurd (l.no_comma m others (sym (l.none m) ∙ sym r ∙ c))
  go_by done (s ∷ ss) rest others after next xs m e r c found =
      let h = sym c ∙ r ∙ l.more s ss m in
      let t : others ≡ one s (spell ss m) = cc in
      let g = found s (spell ss m) (l.ends ss m) t in
      record { tail = ss; all = append_assoc done (next ∷ []) ss ∙ (ap (λ x. done ++ x ∷ ss) g.0 ∙ e); rest_is = g.1 }

  -- a list goes on after `,` with the part that was found there
  pub list_goes : (done : List X) (rest others after : List Symbol) (next : X) (xs : List X) (m : List Symbol)
      → ListGoesOn X spell done rest xs m → rest ≡ symbol.Comma ∷ others → Found X one others next after
      → ListGoesOn X spell (done ++ next ∷ []) after xs m
  list_goes done rest others after next xs m g c found = go_by done g.tail rest others after next xs m g.all g.rest_is c found

  stuck_by : (tail : List X) (rest others m : List Symbol) → rest ≡ spell tail m → rest ≡ symbol.Comma ∷ others → Absent X one others → ⊥
  stuck_by [] rest others m r c none = l.no_comma m others (sym (l.none m) ∙ sym r ∙ c)
  stuck_by (s ∷ ss) rest others m r c none =
      let h = sym c ∙ r ∙ l.more s ss m in
      let t : others ≡ one s (spell ss m) = cc in
      none s (spell ss m) (l.ends ss m) t

  -- where no part stands after `,`, no list goes on there
  pub list_stuck : (done : List X) (rest others : List Symbol) (xs : List X) (m : List Symbol) → ListGoesOn X spell done rest xs m
      → rest ≡ symbol.Comma ∷ others → Absent X one others → ⊥
  list_stuck done rest others xs m g c none = stuck_by g.tail rest others m g.rest_is c none

  close_by : (done tail : List X) (rest after : List Symbol) (xs : List X) (m : List Symbol) → done ++ tail ≡ xs → rest ≡ spell tail m
      → rest ≡ close after → Same done xs after m
  close_by done [] rest after xs m e r c = (sym (append-nil done) ∙ e, l.closed_once after m (sym c ∙ r ∙ l.none m))
  close_by done (s ∷ ss) rest after xs m e r c = absurd (l.no_comma after (one s (spell ss m)) (sym c ∙ r ∙ l.more s ss m))

  -- where it is closed a list ends, and its parts are those found
  pub list_closes : (done made : List X) (rest after : List Symbol) (xs : List X) (m : List Symbol) → made ≡ done
      → ListGoesOn X spell done rest xs m → rest ≡ close after → Same made xs after m
  list_closes done made rest after xs m e g c =
      let x = close_by done g.tail rest after xs m g.all g.rest_is c in (e ∙ x.0, x.1)

  open_by : (tail : List X) (rest m : List Symbol) → rest ≡ spell tail m → ((x : List Symbol) → rest ≡ symbol.Comma ∷ x → ⊥)
      → ((x : List Symbol) → rest ≡ close x → ⊥) → ⊥
  open_by [] rest m r comma closed = closed m (r ∙ l.none m)
  open_by (s ∷ ss) rest m r comma closed = comma (one s (spell ss m)) (r ∙ l.more s ss m)

  -- where neither `,` nor what closes it stands next, no list goes on
  pub list_open : (done : List X) (rest : List Symbol) (xs : List X) (m : List Symbol) → ListGoesOn X spell done rest xs m
      → ((x : List Symbol) → rest ≡ symbol.Comma ∷ x → ⊥) → ((x : List Symbol) → rest ≡ close x → ⊥) → ⊥
  list_open done rest xs m g comma closed = open_by g.tail rest m g.rest_is comma closed
