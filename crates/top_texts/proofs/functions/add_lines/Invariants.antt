use Rattle.std.proofs.Common.{◌≡◌, ◌++◌, drop}
use Rattle.std.specs.List.{flat_map}
use Rattle.flow_systems.specs.Report.{line}
use Rattle.top_texts.proofs.functions.add_lines.Given as goal

abbrev pub invariant-loop-name : goal.invariant-loop-name
invariant-loop-name l = l.lines.items ++ flat_map line (drop l.name-index l.names) ≡ l.initial.lines.items ++ flat_map line l.names
