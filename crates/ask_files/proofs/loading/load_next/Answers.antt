use Rattle.std.proofs.Common.{◌∙◌, sym, ap, subst, ◌+◌, Ok, length}
use Rattle.std.specs.Prelude.{leb}
use Rattle.base_files.specs.Loads.{IsFrontOf, newest_bytes}
use Rattle.ask_files.specs.Loads.{LoadsNext}
use Rattle.ask_files.specs.Named.{name_of}
use Rattle.ask_files.proofs.loads.Steps.{loaded}
use Rattle.ask_files.proofs.loading.load_next.Goals as goal

pub returns-in-Ok-clause-next : goal.returns-in-Ok-clause-next
returns-in-Ok-clause-next g c =
    subst (λ most. LoadsNext (g.S.Shelf.files c.args.shelf.now) (name_of c.args.file) (g.S.Shelf.loads c.args.shelf.now)
    (g.S.Shelf.loads c.load.new.self) (g.S.Shelf.faults c.args.shelf.now) (g.S.Shelf.faults c.load.new.self)
    (g.S.Shelf.last_failed c.load.new.self) (Ok (leb (length c.newest_bytes.result.now) most)))
    (sym c.most_bytes-most.ensures)
    (loaded _ (name_of c.args.file) _ _ _ _ _ c.newest_bytes.result.now (c.newest_bytes.ensures ∙ ap newest_bytes c.loaded.ensures.loads)
    c.in-Ok.ensures.logged
    (subst (λ most. IsFrontOf (g.S.Shelf.files c.args.shelf.now) c.args.file.name.now (most + 1)
    (newest_bytes (g.S.Shelf.loads c.load.new.self)))
    c.most_bytes-most.ensures c.in-Ok.ensures.gives)
    c.in-Ok.ensures.cause.0)
