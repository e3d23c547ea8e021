use Rattle.std.proofs.Common.{◌∙◌, ap, ap₂, count_by, drop, length, sym}
use Rattle.std.proofs.lemmas.List.{drop-map}
use Rattle.base_fractions.specs.Extended.{extended}
use Rattle.solve_rounds.specs.Solving.{is_above_bottom}
use Rattle.solve_rounds.proofs.solving.BoundCounts.{count_map}
use Rattle.solve_rounds.proofs.solving.raised.Goals as goal

pub returns : goal.returns
returns c =
    let bounds = c.as_slice.result.now in
    let rows = c.as_slice-2.result.now in
    c.count_raised.ensures
    ∙ sym (count_map extended is_above_bottom (drop (length rows) bounds))
    ∙ ap (λ xs. count_by is_above_bottom xs) (sym (drop-map extended (length rows) bounds))
    ∙ ap₂ (λ n xs. count_by is_above_bottom (drop n xs)) (ap length c.as_slice-2.ensures.rows) c.as_slice.ensures
