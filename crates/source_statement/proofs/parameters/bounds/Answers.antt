use Rattle.std.proofs.Common.{◌≡◌, ◌∙◌, ◌∷◌, ◌++◌, [], Bool, true, false, List, Option, Some, None, Result, Ok, refl, sym, ap}
use Rattle.std.proofs.Common.{subst, ◌⊎◌, inl, inr}
use Rattle.std.specs.declared.alloc.Global.{Global}
use Rattle.std.specs.declared.vec.Vec.{Vec}
use Rattle.source_grammar.specs.Tokens.{Token}
use Rattle.source_grammar.specs.Grammar.{Sizes, last_size, next_size, number_size, name_size, Bounds, sized_bounds, open_bound, open_bounds}
use Rattle.source_tree.specs.Expressions.{Extent}
use Rattle.source_tree.specs.declared.extent.Extent as code_extent
use Rattle.source_meaning.specs.declared.fault.FunctionFault.{FunctionFault}
use Rattle.source_meaning.specs.Results.{◌>>=◌}
use Rattle.source_meaning.specs.Names.{State}
use Rattle.source_meaning.specs.Arrays.{read_bounds, read_sizes}
use Rattle.source_reader.specs.Answers.{Answers}
use Rattle.source_reader.specs.Reading.{Reading, at_tokens, behind_first, first_kind, passed}
use Rattle.source_change.specs.Arrays.{WereSized, extents_of, onto_some_sizes, read_some_sizes}
use Rattle.source_change.specs.Onto.{onto_sizes}
use Rattle.source_change.proofs.results.Answered.{err_then}
use Rattle.source_change.proofs.results.Binds.{bind_ok}
use Rattle.source_statement.specs.Onto.{onto_bounds}
use Rattle.source_statement.specs.Starts.{closes}
use Rattle.source_statement.proofs.parts.Read.{at_first}
use Rattle.source_statement.proofs.parameters.bounds.Goals as goal
use Rattle.source_statement.proofs.parameters.bounds.Goals.{then-is_empty+in_ok-push, else-is_empty}

-- brackets with a size aren't empty
sizes_second : (ss : Sizes) (w : List Token) → closes (first_kind (behind_first (onto_sizes ss w))) ≡ false
sizes_second (last_size a (number_size n d) b) w = refl
sizes_second (last_size a (name_size x d) b) w = refl
sizes_second (next_size a (number_size n d) b ss) w = refl
sizes_second (next_size a (name_size x d) b ss) w = refl

-- The first brackets, if they are empty, have been passed, and their extent is there.
record Opened (st : State) (bs : Bounds) (rest : List Token) (old now : Reading) (before : List code_extent.Extent) : Type 0 where
  -- the sizes behind them
  ys : Option Sizes
  reader : now ≡ at_tokens old (onto_some_sizes ys rest)
  goes : read_bounds st bs ≡ (read_some_sizes st ys >>= λ es. Ok (extents_of before ++ es))

-- the extents of all
abbrev Has : (old new : Reading) → List Token → Vec code_extent.Extent Global → List Extent → Type 0
Has old new rest v es = (extents_of v.items ≡ es) × (new ≡ at_tokens old rest)

-- what is read of the sizes behind them is all
all_read : (st : State) (bs : Bounds) (rest : List Token) (old mid new : Reading) (before : List code_extent.Extent)
    (v : Vec code_extent.Extent Global) (o : Opened st bs rest old mid before)
    → Answers {A = Unit {0}} (λ _ es. WereSized rest mid new before v.items es) (Ok tt) (read_some_sizes st o.ys)
    → Answers (Has old new rest) (Ok v) (read_bounds st bs)
all_read st bs rest old mid new before v o a = (
  extents_of before ++ a.0,
  o.goes ∙ ap (λ w. w >>= λ es. Ok (extents_of before ++ es)) a.1,
  (a.2.extents, a.2.reader ∙ ap (λ (r : Reading). at_tokens r rest) o.reader),
)

-- what has come of the first brackets: they were passed with their extent, or not
abbrev Step : (old mid : Reading) (before : List code_extent.Extent) → Bool → Type 0
Step old mid before b = ((b ≡ true) × (mid ≡ passed (passed old)) × (before ≡ code_extent.TheVariants.Endless ∷ []))
    ⊎ ((b ≡ false) × (mid ≡ old) × (before ≡ []))

opened : (st : State) (bs : Bounds) (rest : List Token) (old mid : Reading) (before : List code_extent.Extent) (b : Bool)
    → old.ahead ≡ onto_bounds bs rest → b ≡ closes (first_kind (behind_first old.ahead)) → Step old mid before b
    → Opened st bs rest old mid before
opened st (sized_bounds ss) rest old mid before b e k s = elim s [
  | inl p ↦ absurd (let j = sym (ap (λ ts. closes (first_kind (behind_first ts))) e ∙ sizes_second ss rest) ∙ sym k ∙ p.0 in cc)
  | inr p ↦ record {
    ys = Some ss;
    reader = p.1 ∙ at_first old (onto_sizes ss rest) e;
    goes = bind_ok (read_sizes st ss) (λ es. extents_of before ++ es) (λ es. ap (λ l. extents_of l ++ es) p.2);
  }
]
opened st (open_bound a d) rest old mid before b e k s = elim s [
  | inl p ↦ record {
    ys = None;
    reader = p.1 ∙ ap (λ r. passed (passed r)) (at_first old (onto_bounds (open_bound a d) rest) e);
    goes = ap (λ l. Ok (extents_of l ++ [])) (sym p.2);
  }
  | inr p ↦ absurd (let j = sym (ap (λ ts. closes (first_kind (behind_first ts))) e) ∙ sym k ∙ p.0 in cc)
]
opened st (open_bounds a d ss) rest old mid before b e k s = elim s [
  | inl p ↦ record {
    ys = Some ss;
    reader = p.1 ∙ ap (λ r. passed (passed r)) (at_first old (onto_bounds (open_bounds a d ss) rest) e);
    goes = ap (λ l. read_sizes st ss >>= λ es. Ok (extents_of l ++ es)) (sym p.2);
  }
  | inr p ↦ absurd (let j = sym (ap (λ ts. closes (first_kind (behind_first ts))) e) ∙ sym k ∙ p.0 in cc)
]

pub returns-in_err-sizes-clause-reads : goal.returns-in_err-sizes-clause-reads
returns-in_err-sizes-clause-reads c = λ bs rest e n.
    let old : Reading = c.args.reader.now in
    let s : Step old c.if-is_empty.reader c.if-is_empty.extents.items c.is_empty.result = elim c.if-is_empty.branch [
      | then-is_empty+in_ok-push w ↦ inl (
        w.if-is_empty.true,
        w.reader-is ∙ w.skip-then-is_empty.ensures ∙ ap passed w.skip.ensures,
        ap (λ v. v.items) w.extents-is ∙ w.in_ok-push.ensures.items
            ∙ ap (λ l. l ++ code_extent.TheVariants.Endless ∷ []) c.new-extents.ensures.items,
      )
      | else-is_empty w ↦ inr (w.if-is_empty.false, w.reader-is, ap (λ v. v.items) w.extents-is ∙ c.new-extents.ensures.items)
    ] in
    let o = opened c.args.known.now bs rest old c.if-is_empty.reader c.if-is_empty.extents.items c.is_empty.result e c.is_empty.ensures s in
    let P : Result (List Extent) FunctionFault → Type 0 = λ w. Answers (Has old c.sizes.new.reader rest)
    c.from_residual-in_err-sizes.result w in
    subst P (sym o.goes) (err_then {A = Unit {0}} (λ _ es. WereSized rest c.if-is_empty.reader c.sizes.new.reader
    c.if-is_empty.extents.items c.sizes.new.extents.items es) (Has old c.sizes.new.reader rest) c.from_residual-in_err-sizes.result
    c.in_err-sizes.field-0.0 (read_some_sizes c.args.known.now o.ys) (λ es. Ok (extents_of c.if-is_empty.extents.items ++ es))
    c.from_residual-in_err-sizes.ensures.1 (c.in_err-sizes.ensures.reads o.ys rest (ap (λ (r : Reading). r.ahead) o.reader) n))

pub returns-clause-reads : goal.returns-clause-reads
returns-clause-reads c = λ bs rest e n.
    let old : Reading = c.args.reader.now in
    let s : Step old c.if-is_empty.reader c.if-is_empty.extents.items c.is_empty.result = elim c.if-is_empty.branch [
      | then-is_empty+in_ok-push w ↦ inl (
        w.if-is_empty.true,
        w.reader-is ∙ w.skip-then-is_empty.ensures ∙ ap passed w.skip.ensures,
        ap (λ v. v.items) w.extents-is ∙ w.in_ok-push.ensures.items
            ∙ ap (λ l. l ++ code_extent.TheVariants.Endless ∷ []) c.new-extents.ensures.items,
      )
      | else-is_empty w ↦ inr (w.if-is_empty.false, w.reader-is, ap (λ v. v.items) w.extents-is ∙ c.new-extents.ensures.items)
    ] in
    let o = opened c.args.known.now bs rest old c.if-is_empty.reader c.if-is_empty.extents.items c.is_empty.result e c.is_empty.ensures s in
    all_read c.args.known.now bs rest old c.if-is_empty.reader c.sizes.new.reader c.if-is_empty.extents.items c.sizes.new.extents o
    (c.in_ok-sizes.ensures.reads o.ys rest (ap (λ (r : Reading). r.ahead) o.reader) n)
