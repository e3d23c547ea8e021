-- A piece that is written part by part.
use Rattle.std.proofs.Common.{◌≡◌, ◌-◌, ℕ, List, ◌++◌, length, take, drop, sym, ap, subst, ◌∙◌, append_assoc, take-append-drop}
use Rattle.std.proofs.KnownBytes.{Appends-trans, Appends-kept}
use Rattle.std.proofs.Math.Seq.{take-append_seam}
use Rattle.std.proofs.lemmas.List.{take_rest}
use Rattle.std.specs.Prelude.{Option}
use Rattle.std.specs.Io.KnownBytes.{Appends, Keeps}

-- a front of the piece was appended, and this rest is left
pub record HasWritten (before now : Option (List ℕ)) (piece rest : List ℕ) : Type 0 where
  -- the front that was written
  pub front : List ℕ
  -- the piece is that front and the rest
  pub split : piece ≡ front ++ rest
  -- that front was appended
  pub appended : Appends before now front

-- what was appended is a prefix
pub as_prefix : {before now : Option (List ℕ)} {piece rest : List ℕ} → HasWritten before now piece rest
    → (n : ℕ) × Appends before now (take n piece)
as_prefix {before} {now} {piece} {rest} done = (
  length done.front,
  subst (Appends before now) (sym (ap (take (length done.front)) done.split ∙ take-append_seam done.front rest))
      done.appended,
)

-- a write took n bytes of the rest
pub after_write : {before now next : Option (List ℕ)} {piece rest : List ℕ} (n : ℕ) → HasWritten before now piece rest
    → Appends now next (take n rest) → HasWritten before next piece (take (length rest - n) (drop n rest))
after_write {before} {now} {next} {piece} {rest} n done taken = record {
  front = done.front ++ take n rest;
  split = done.split ∙ ap (λ l. done.front ++ l) (sym (take-append-drop n rest))
      ∙ sym (append_assoc done.front (take n rest) (drop n rest)) ∙ ap (λ l. (done.front ++ take n rest) ++ l) (sym (take_rest rest n));
  appended = Appends-trans before now next done.front (take n rest) done.appended taken;
}

-- a write or a flush took nothing
pub after_nothing : {before now next : Option (List ℕ)} {piece rest : List ℕ} → HasWritten before now piece rest
    → Keeps now next → HasWritten before next piece rest
after_nothing {before} {now} {next} done kept = record {
  front = done.front;
  split = done.split;
  appended = Appends-kept before now next done.front done.appended kept;
}
