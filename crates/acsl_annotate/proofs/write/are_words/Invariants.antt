use Rattle.std.proofs.Common.{◌<◌, IsTrue, List, ℕ, slice_index_or}
use Rattle.lang_tree.specs.Word.{is_word}
use Rattle.acsl_annotate.proofs.write.are_words.Given as goal

abbrev pub invariant-loop-name : goal.invariant-loop-name
invariant-loop-name l = (k : ℕ) (d : List ℕ) → k < l.name-index → IsTrue (is_word (slice_index_or l.names k d))
