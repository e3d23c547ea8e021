use Rattle.std.proofs.Common.{◌∙◌, [], ap, inl, inr, map, refl, sym, subst, append-nil}
use Rattle.ask_files.specs.Loads.{LoadsEnd}
use Rattle.ask_files.specs.Named.{name_of}
use Rattle.top_run.proofs.loading.load_request.Goals as goal

pub returns-in_err-files : goal.returns-in_err-files
returns-in_err-files g c = record {
  made = [];
  log = sym (append-nil (g.S.Shelf.loads c.args.shelf.now));
  kept = refl;
  ends = inr (refl, refl, c.from_residual.ensures.0);
}

pub returns : goal.returns
returns g c = record {
  made = c.load_files.ensures.loads.0;
  log = c.load_files.ensures.loads.1;
  kept = c.load_files.ensures.kept;
  ends = inl (subst (λ files. LoadsEnd (g.S.Shelf.files c.args.shelf.now) files c.load_files.ensures.loads.0
      (g.S.Shelf.faults c.args.shelf.now) (g.S.Shelf.faults c.load_files.new.shelf) (g.S.Shelf.last_failed c.load_files.new.shelf)
      c.load_files.result) (ap (map name_of) c.deref.ensures.value ∙ c.in_ok-files.ensures) c.load_files.ensures.loads.2);
}
