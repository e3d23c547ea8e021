use Rattle.std.proofs.Common.{◌≡◌, ◌++◌, ◌∷◌, drop}
use Rattle.std.specs.List.{flat_map}
use Rattle.out_report.proofs.heads.push_names.Given as goal

abbrev pub invariant-loop-name : goal.invariant-loop-name
invariant-loop-name l = l.text.items ++ flat_map (λ name. 32 ∷ name) (drop l.name-index l.names)
    ≡ l.initial.text.items ++ flat_map (λ name. 32 ∷ name) l.names
