use Rattle.std.proofs.Common.{◌∙◌, ℕ, sym, ap, refl, Ok}
use Rattle.source_meaning.specs.Results.{◌>>=◌}
use Rattle.source_meaning.specs.Names.{variable_of}
use Rattle.source_change.specs.Changed.{a_variable}
use Rattle.source_change.proofs.places.variable.Goals as goal

pub returns : goal.returns
returns c =
    let at : ℕ = c.args.named.now.at in (
      a_variable c.in_ok-var.var at,
      ap (λ w. w >>= λ i. Ok (a_variable i at))
          (ap (λ y. variable_of (record { text = y; value = c.args.named.now.value }) at c.args.scope.now) (sym c.bytes.ensures.bytes)
          ∙ sym c.in_ok-var.ensures),
      record { old = c.in_ok-variable.ensures; var = refl },
    )
