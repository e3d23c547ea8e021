use Rattle.std.proofs.Common.{◌≡◌, ◌∙◌, ◌++◌, ◌∷◌, [], ℕ, true, false, List, Ok, Err, refl, sym, ap, subst, rules}
use Rattle.std.specs.declared.alloc.Global.{Global}
use Rattle.std.specs.declared.vec.Vec.{Vec}
use Rattle.lang_tokens.specs.Lines.{line_at}
use Rattle.lang_tree.specs.View.{deeds_of}
use Rattle.lang_tree.specs.declared.deed.Deed.{Deed}
use Rattle.source_grammar.specs.Tokens as g
use Rattle.source_grammar.specs.Tokens.{Kind, Token}
use Rattle.source_grammar.specs.Grammar.{Updates, no_updates, some_updates, GoodUpdates, place, update, step_before, Update}
use Rattle.source_grammar.proofs.grammar.Follow.{AfterList}
use Rattle.source_tree.specs.Statements.{Change}
use Rattle.source_core.specs.Core.{changes_deeds}
use Rattle.source_meaning.specs.Results.{◌>>=◌}
use Rattle.source_meaning.specs.Names.{State}
use Rattle.source_meaning.specs.Changes.{read_update}
use Rattle.source_meaning.specs.Statements.{read_more_updates, read_updates}
use Rattle.source_reader.specs.Answers.{Answers}
use Rattle.source_reader.specs.Reading.{Reading, at_tokens, first_kind}
use Rattle.source_change.specs.Nexts.{begins_change}
use Rattle.source_change.specs.Onto.{onto_update, onto_more_updates, onto_updates}
use Rattle.source_change.specs.Tests.{WasChanged, WereChanged}
use Rattle.source_change.proofs.loops.Updates.{part_follows}
use Rattle.source_change.proofs.results.Answered.{err_then, ok_then}
use Rattle.base_integers.specs.declared.integers.Integers.{Integers}
use Rattle.source_change.proofs.changes.updates.Goals as goal

-- what follows a list begins no change
list_begins : (k : Kind) → AfterList k → begins_change k ≡ false
list_begins g.semicolon h = refl
list_begins g.right_paren h = refl
list_begins _ h = absurd h

-- a change begins as one
change_begins : (u : Update) (w : List Token) → begins_change (first_kind (onto_update u w)) ≡ true
change_begins (update (place x a i) f) w = refl
change_begins (step_before d a p) w = refl

-- one change was read
abbrev One : (integers : Integers) (n : ℕ) → List Token → Reading → Reading → State → Vec Deed Global → State × Change → Type 0
One integers n rest old new met v r = WasChanged integers n rest old new met v.items r

pub returns-in_err-deeds-clause-reads : goal.returns-in_err-deeds-clause-reads
returns-in_err-deeds-clause-reads c = λ us rest gu f h. on us rest gu f h where
  on : (us : Updates) (rest : List Token) → GoodUpdates us → c.args.reader.now.ahead ≡ onto_updates us rest → AfterList (first_kind rest)
      → Answers (λ (v : Vec Deed Global) r. WereChanged c.args.reader.now.integers c.args.reader.now.variables rest c.args.reader.now
      c.update.new.reader
      c.update.new.known [] v.items r) c.from_residual.result
      (read_updates c.args.reader.now.integers (line_at c.args.reader.now.text) c.args.reader.now.variables c.args.known.now us)
  on no_updates rest gu f h =
      let e : begins_change (first_kind rest) ≡ true = ap (λ ts. begins_change (first_kind ts)) (sym f) ∙ sym c.if-not-has_change.ensures in
      let k = list_begins (first_kind rest) h in absurd cc
  on (some_updates u us) rest gu f h =
      let old : Reading = c.args.reader.now in
      let mid : Reading = c.update.new.reader in
      let integers : Integers = old.integers in
      let line : ℕ → ℕ = line_at old.text in
      let n : ℕ = old.variables in
      let st : State = c.args.known.now in
      let ts : List Token = onto_more_updates us rest in
      err_then (One integers n ts old mid c.update.new.known) (λ
      (v : Vec Deed Global) r. WereChanged integers n rest old mid c.update.new.known [] v.items r)
      c.from_residual.result c.in_err-deeds.field-0.0 (read_update integers line n st u)
      (λ r. read_more_updates integers line n r.0 us >>= λ q. Ok (q.0, r.1 ∷ q.1)) c.from_residual.ensures.1
      (c.in_err-deeds.ensures.reads u ts gu.0 f (part_follows integers line n us rest h))

pub returns-in_err-more_updates-clause-reads : goal.returns-in_err-more_updates-clause-reads
returns-in_err-more_updates-clause-reads c = λ us rest gu f h. on us rest gu f h where
  on : (us : Updates) (rest : List Token) → GoodUpdates us → c.args.reader.now.ahead ≡ onto_updates us rest → AfterList (first_kind rest)
      → Answers (λ (v : Vec Deed Global) r. WereChanged c.args.reader.now.integers c.args.reader.now.variables rest c.args.reader.now
      c.more_updates.new.reader
      c.more_updates.new.known [] v.items r) c.from_residual-in_err-more_updates.result
      (read_updates c.args.reader.now.integers (line_at c.args.reader.now.text) c.args.reader.now.variables c.args.known.now us)
  on no_updates rest gu f h =
      let e : begins_change (first_kind rest) ≡ true = ap (λ ts. begins_change (first_kind ts)) (sym f) ∙ sym c.if-not-has_change.ensures in
      let k = list_begins (first_kind rest) h in absurd cc
  on (some_updates u us) rest gu f h =
      let old : Reading = c.args.reader.now in
      let mid : Reading = c.update.new.reader in
      let integers : Integers = old.integers in
      let line : ℕ → ℕ = line_at old.text in
      let n : ℕ = old.variables in
      let st : State = c.args.known.now in
      let ts : List Token = onto_more_updates us rest in
      let new : Reading = c.more_updates.new.reader in
      let ds : List Deed = c.in_ok-deeds.deeds.items in
      ok_then (One integers n ts old mid c.update.new.known)
      (λ (v : Vec Deed Global) r. WereChanged integers n rest old new c.more_updates.new.known [] v.items r) c.in_ok-deeds.deeds
      c.from_residual-in_err-more_updates.result (read_update integers line n st u)
      (λ r. read_more_updates integers line n r.0 us >>= λ q. Ok
      (q.0, r.1 ∷ q.1))
      (c.in_ok-deeds.ensures.reads u ts gu.0 f (part_follows integers line n us rest h))
      (λ r w.
      let P : Reading → Type 0 = λ m. Answers {A = Unit {0}} (λ _ q. WereChanged m.integers m.variables rest m new
      c.more_updates.new.known ds
      c.more_updates.new.deeds.items q) (Err c.in_err-more_updates.field-0.0)
      (read_more_updates m.integers (line_at m.text) m.variables c.update.new.known us) in
      let Q : State → Type 0 = λ k. Answers {A = Unit {0}} (λ _ q. WereChanged integers n rest
      (at_tokens old ts) new c.more_updates.new.known ds
      c.more_updates.new.deeds.items q) (Err c.in_err-more_updates.field-0.0) (read_more_updates integers line n k us) in
      err_then {A = Unit {0}} (λ _ q. WereChanged integers n rest (at_tokens old ts) new c.more_updates.new.known ds
      c.more_updates.new.deeds.items q) (λ (v : Vec Deed Global) r. WereChanged integers n rest old new c.more_updates.new.known []
      v.items r)
      c.from_residual-in_err-more_updates.result c.in_err-more_updates.field-0.0 (read_more_updates integers line n r.0 us)
      (λ q. Ok (q.0, r.1 ∷ q.1)) c.from_residual-in_err-more_updates.ensures.1
      (subst Q w.known (subst P w.reader
      (c.in_err-more_updates.ensures.reads us rest gu.1 (ap (λ (r : Reading). r.ahead) w.reader) h))))

pub returns-clause-reads : goal.returns-clause-reads
returns-clause-reads c = λ us rest gu f h. on us rest gu f h where
  on : (us : Updates) (rest : List Token) → GoodUpdates us → c.args.reader.now.ahead ≡ onto_updates us rest → AfterList (first_kind rest)
      → Answers (λ (v : Vec Deed Global) r. WereChanged c.args.reader.now.integers c.args.reader.now.variables rest c.args.reader.now
      c.more_updates.new.reader
      c.more_updates.new.known [] v.items r) (Ok c.more_updates.new.deeds)
      (read_updates c.args.reader.now.integers (line_at c.args.reader.now.text) c.args.reader.now.variables c.args.known.now us)
  on no_updates rest gu f h =
      let e : begins_change (first_kind rest) ≡ true = ap (λ ts. begins_change (first_kind ts)) (sym f) ∙ sym c.if-not-has_change.ensures in
      let k = list_begins (first_kind rest) h in absurd cc
  on (some_updates u us) rest gu f h =
      let old : Reading = c.args.reader.now in
      let mid : Reading = c.update.new.reader in
      let integers : Integers = old.integers in
      let line : ℕ → ℕ = line_at old.text in
      let n : ℕ = old.variables in
      let st : State = c.args.known.now in
      let ts : List Token = onto_more_updates us rest in
      let new : Reading = c.more_updates.new.reader in
      let ds : List Deed = c.in_ok-deeds.deeds.items in
      ok_then (One integers n ts old mid c.update.new.known)
      (λ (v : Vec Deed Global) r. WereChanged integers n rest old new c.more_updates.new.known [] v.items r) c.in_ok-deeds.deeds
      (Ok c.more_updates.new.deeds) (read_update integers line n st u) (λ r. read_more_updates integers line n r.0 us >>= λ q. Ok
      (q.0, r.1 ∷ q.1))
      (c.in_ok-deeds.ensures.reads u ts gu.0 f (part_follows integers line n us rest h))
      (λ r w.
      let P : Reading → Type 0 = λ m. Answers {A = Unit {0}} (λ _ q. WereChanged m.integers m.variables rest m new
      c.more_updates.new.known ds
      c.more_updates.new.deeds.items q) (Ok tt) (read_more_updates m.integers (line_at m.text) m.variables c.update.new.known us) in
      let Q : State → Type 0 = λ k. Answers {A = Unit {0}} (λ _ q. WereChanged integers n rest
      (at_tokens old ts) new c.more_updates.new.known ds
      c.more_updates.new.deeds.items q) (Ok tt) (read_more_updates integers line n k us) in
      ok_then {A = Unit {0}} (λ _ q. WereChanged integers n rest (at_tokens old ts) new c.more_updates.new.known ds
      c.more_updates.new.deeds.items q) (λ (v : Vec Deed Global) r. WereChanged integers n rest old new c.more_updates.new.known []
      v.items r) tt
      (Ok c.more_updates.new.deeds) (read_more_updates integers line n r.0 us) (λ q. Ok (q.0, r.1 ∷ q.1))
      (subst Q w.known (subst P w.reader (c.in_ok-more_updates.ensures.reads us rest gu.1 (ap (λ (r : Reading). r.ahead) w.reader) h)))
      (λ q s. (
        (q.0, r.1 ∷ q.1),
        refl,
        record {
          known = s.known;
          deeds = s.deeds ∙ ap (λ es. es ++ changes_deeds integers n q.1) w.deeds;
          reader = s.reader;
        },
      )))

pub returns-then-not-has_change-clause-reads : goal.returns-then-not-has_change-clause-reads
returns-then-not-has_change-clause-reads c = λ us rest gu f h. on us rest gu f where
  none : c.new.result.items ≡ []
  none = search rules

  on : (us : Updates) (rest : List Token) → GoodUpdates us → c.args.reader.now.ahead ≡ onto_updates us rest
      → Answers (λ (v : Vec Deed Global) r. WereChanged c.args.reader.now.integers c.args.reader.now.variables rest c.args.reader.now
      c.args.reader.now
      c.args.known.now
      [] v.items r) (Ok c.new.result)
      (read_updates c.args.reader.now.integers (line_at c.args.reader.now.text) c.args.reader.now.variables c.args.known.now us)
  on no_updates rest gu f = (
    (c.args.known.now, []),
    refl,
    record {
      known = refl;
      deeds = ap deeds_of none;
      reader = let P : List Token → Type 0 = λ ts. c.args.reader.now ≡ at_tokens c.args.reader.now ts in subst P f refl;
    },
  )
  on (some_updates u us) rest gu f =
      let e : false ≡ begins_change (first_kind (onto_update u (onto_more_updates us rest))) =
      c.if-not-has_change.ensures ∙ ap (λ ts. begins_change (first_kind ts)) f in
      let k = change_begins u (onto_more_updates us rest) in absurd cc
