use Rattle.std.proofs.Common.{◌≡◌, ◌≢◌, ℕ, ◌<◌, ⊎_elim, length, ap, sym, ◌∙◌, arith}
use Rattle.std.proofs.lemmas.Bool.{cases_lt}
use Rattle.std.proofs.lemmas.List.{get_or_default}
use Rattle.lp_dictionary.specs.declared.entry.Entry.{Entry}
use Rattle.lp_dictionary.specs.Entries.{col_at}
use Rattle.lp_dictionary.proofs.kept.Lists.{cols_rise, value_read, value_none}
use Rattle.lp_dictionary.proofs.kept.Lists.{col_read}
use Rattle.lp_dictionary.proofs.place.value_in.Goals as goal
use Rattle.lp_dictionary.proofs.place.value_in.Goals.{else-place-entries-via-then-place-entries+else-entries-place}
use Rattle.lp_dictionary.proofs.place.value_in.Goals.{else-place-entries-via-else-place-entries}

pub returns-then-entries-place : goal.returns-then-entries-place
returns-then-entries-place g c =
    let m = g.F.OrderedField.meaning in
    let es = c.args.entries.now in
    let p = c.place_of-place.result in
    let e = c.index-entries-place-then-entries-place.result in
    let l : c.place_of-place.result < length c.args.entries.now = omega arith in
    sym (value_read m 0 c.requires.0 p c.args.col es e c.requires.1 l (ap (λ (x : Entry _). x.col)
    (get_or_default es p e c.index-entries-place.result l) ∙ c.if-entries-place.true))

pub returns-else-place-entries : goal.returns-else-place-entries
returns-else-place-entries g c =
    let m = g.F.OrderedField.meaning in
    let es = c.args.entries.now in
    let p = c.place_of-place.result in
    let before = c.place_of-place.ensures.before in
    let none : (i : ℕ) → i < length c.args.entries.now → col_at c.args.entries.now i ≢ c.args.col = elim c.else-place-entries.branch [
      | else-place-entries-via-then-place-entries+else-entries-place w ↦ λ i l q.
          let b : c.place_of-place.result < length c.args.entries.now = omega arith in
          let at = col_read es p w.index-entries-place.result b in
          let off = w.if-entries-place.false in
          let low = c.place_of-place.ensures.behind p (omega arith) b in
          ⊎_elim
          (λ a. let s = before i a in omega (arith, s, q))
          (λ a. ⊎_elim
          (λ d. let s = cols_rise 0 c.requires.0 p i es c.requires.1 d l in omega (arith, s, low, q))
          (λ d. let s : i ≡ c.place_of-place.result = omega (arith, a, d) in off (sym at ∙ ap (col_at es) (sym s) ∙ q))
          (cases_lt p i))
          (cases_lt i p)
      | else-place-entries-via-else-place-entries w ↦ λ i l q. let s = before i (omega arith) in omega (arith, s, q)
    ] in
    c.zero.ensures.value ∙ sym (value_none m c.args.col es none)
