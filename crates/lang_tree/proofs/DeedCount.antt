-- Deeds of the code are as many as their trees.
use Rattle.std.proofs.Common.{◌≡◌, List, [], ◌∷◌, length, refl, ap, suc}
use Rattle.lang_tree.specs.declared.deed.Deed.{Deed}
use Rattle.lang_tree.specs.DeedView.{deeds_of}

-- the trees of deeds are as many
pub length-deeds_of : (ds : List Deed) → length (deeds_of ds) ≡ length ds
length-deeds_of [] = refl
length-deeds_of (d ∷ ds) = ap suc (length-deeds_of ds)
