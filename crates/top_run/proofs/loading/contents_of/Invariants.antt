use Rattle.std.proofs.Common.{◌≡◌, take}
use Rattle.ask_files.specs.Files.{texts_of}
use Rattle.ask_files.specs.Loads.{contents_of}
use Rattle.base_files.specs.Loads.{loaded_files}
use Rattle.top_run.proofs.loading.contents_of.Given as goal

abbrev pub invariant-loop-load : goal.invariant-loop-load
invariant-loop-load l = texts_of l.contents.items ≡ contents_of (loaded_files (take l.load-index l.loads))
