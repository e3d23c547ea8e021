use Rattle.std.proofs.Common.{◌≡◌, ℕ, [], drop, map}
use Rattle.std.specs.declared.alloc.Global.{Global}
use Rattle.std.specs.declared.vec.Vec.{Vec}
use Rattle.source_file.specs.Choice.{repeated}
use Rattle.source_file.proofs.choice.repeated.Given as goal

abbrev pub invariant-loop-function : goal.invariant-loop-function
invariant-loop-function l =
    repeated [] l.functions ≡ repeated (map (λ (k : Vec ℕ Global). k.items) l.before.keys) (drop l.function-index l.functions)
