use Rattle.std.proofs.Common.{◌≡◌, ◌++◌, ◌∷◌, sym, ap₂, ◌∙◌, arith}
use Rattle.std.proofs.lemmas.List.{take-append-drop}
use Rattle.top_run.specs.Lines.{lines_of}
use Rattle.top_run.proofs.output.InPieces.{next_taken, one_more, part_put}
use Rattle.top_run.proofs.output.put_lines.Goals as goal

pub returns-in-Err-clause-appends : goal.returns-in-Err-clause-appends
returns-in-Err-clause-appends g c =
    let cut : c.loop-rest.rest.now ≡ c.split_at.result.0.now ++ c.split_at.result.1.now =
    sym (ap₂ (λ a b. a ++ b) c.split_at.ensures.front c.split_at.ensures.back ∙ take-append-drop _ _) in
    part_put _ _ _ _ _ _ _ _ _ _ _ _ c.loop-rest.invariant.0 cut c.in-Err.ensures.appends.1

pub loop-rest-preserved : goal.loop-rest-preserved
loop-rest-preserved g c =
    let cut : c.loop-rest.rest.now ≡ c.split_at.result.0.now ++ c.split_at.result.1.now =
    sym (ap₂ (λ a b. a ++ b) c.split_at.ensures.front c.split_at.ensures.back ∙ take-append-drop _ _) in
    let line : lines_of c.loop-rest.rest.now ≡ c.split_at.result.0.now ∷ lines_of c.split_at.result.1.now =
    c.first_line.ensures.cut ∙ sym (ap₂ (λ a b. a ∷ lines_of b) c.split_at.ensures.front c.split_at.ensures.back) in (
      one_more _ _ _ _ _ _ _ _ _ _ _ _ _ c.loop-rest.invariant.0 cut c.in-Ok.ensures.appends c.in-Ok.ensures.cause c.in-Ok.ensures.spare,
      next_taken _ _ _ _ _ _ _ c.loop-rest.invariant.1 line (let some = c.first_line.ensures.some in
          let same = c.split_at.ensures.front_len in omega arith) c.in-Ok.ensures.takes,
    )
