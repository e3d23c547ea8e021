-- The limits of an assignment to a variable.
use Rattle.std.proofs.Common.{◌≡◌, ◌∙◌, ◌++◌, ℕ, List, [], Result, Ok, refl, ap₂, subst}
use Rattle.std.specs.declared.alloc.Global.{Global}
use Rattle.std.specs.declared.vec.Vec.{Vec}
use Rattle.lang_tree.specs.Tree as tree
use Rattle.lang_tree.specs.Tree.{Deed}
use Rattle.lang_tree.specs.DeedView.{deeds_of}
use Rattle.lang_tree.specs.declared.deed.Deed as code_deed
use Rattle.source_tree.specs.Expressions.{Expression}
use Rattle.source_tree.specs.Statements.{Change, sets}
use Rattle.source_core.specs.Elaborated.{any, Elaborated, Numbered, elaborated, numbered}
use Rattle.source_core.specs.Core.{taken_any}
use Rattle.source_meaning.specs.Results.{◌>>=◌}
use Rattle.source_meaning.specs.Limits.{limited}
use Rattle.source_meaning.specs.Changes.{few}
use Rattle.source_reader.specs.Answers.{Answers}
use Rattle.source_reader.specs.declared.stop.Stop.{Stop}
use Rattle.source_change.proofs.limited.Limits.{limited_more}
use Rattle.source_change.proofs.limited.Told.{as_limited}
use Rattle.source_change.proofs.changed.Taken.{takes_any, behind_any, takes_number, behind_number}
use Rattle.base_integers.specs.declared.integers.Integers.{Integers}

module _ (integers : Integers) (n line at var : ℕ) (e : Expression) where
  -- any value
  pub few_any : (elaborated integers line e n).result ≡ any
      → few integers n line at (sets var e line) (sets var e line)
      ≡ limited n at (elaborated integers line e n).next ((elaborated integers line e n).prelude ++ taken_any integers var line) []
      (sets var e line)
  few_any h =
      let x : Elaborated = elaborated integers line e n in
      let g : Change = sets var e line in
      ap₂ (λ k ds. limited n at k ds [] g) (behind_any integers var line x x.result h) (takes_any integers var line x x.result h)

  -- a number
  pub few_number : ((elaborated integers line e n).result ≡ any → ⊥)
      → few integers n line at (sets var e line) (sets var e line)
      ≡ (limited n at (numbered integers line (elaborated integers line e n)).next (numbered integers line
      (elaborated integers line e n)).prelude [] (tt {0})
      >>= λ _. Ok (sets var e line))
  few_number h =
      let x : Elaborated = elaborated integers line e n in
      let a : Numbered = numbered integers line x in
      let g : Change = sets var e line in
      ap₂ (λ k ds. limited n at k ds [] g) (behind_number integers var line x x.result h) (takes_number integers var line x x.result h)
      ∙ limited_more n at a.next a.prelude (tree.sets var a.form line) g (tt {0}) refl

-- what is answered of deeds that are kept
pub kept_told : (n at next h : ℕ) (ds : List Deed) (r : Result (Vec code_deed.Deed Global) Stop) → next ≡ h
    → Answers (λ (v : Vec code_deed.Deed Global) (es : List Deed). deeds_of v.items ≡ es) r (limited n at next ds [] ds)
    → Answers (λ (v : Vec code_deed.Deed Global) (u : Unit {0}). deeds_of v.items ≡ ds) r (limited n at h ds [] (tt {0}))
kept_told n at next h ds r e a =
    let P : ℕ → Type 0 = λ k. Answers (λ (v : Vec code_deed.Deed Global) (u : Unit {0}). deeds_of v.items ≡ ds) r
    (limited n at k ds [] (tt {0})) in
    subst P e (as_limited n at next ds [] (λ (v : Vec code_deed.Deed Global) (es : List Deed). deeds_of v.items ≡ es)
    (λ (v : Vec code_deed.Deed Global) (u : Unit {0}). deeds_of v.items ≡ ds) r ds (tt {0}) (λ v s. s) a)
