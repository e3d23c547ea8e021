-- A text with comments put in, and a text with the same comments taken out again.
use Rattle.std.specs.Prelude.{◌+◌, ◌-◌, ◌++◌, ℕ, List, [], ◌∷◌, drop, if◌then◌else◌, length, nat_le, take}
use Rattle.acsl_comments.specs.declared.comment.Comment.{Comment}

-- the rest of a text from this place on, with each of these comments at its place
abbrev pub with_comments : ℕ → List ℕ → List Comment → List ℕ
with_comments at rest [] = rest
with_comments at rest (c ∷ cs) = take (c.place - at) rest ++ (c.bytes ++ with_comments c.place (drop (c.place - at) rest) cs)

-- the same without them: from what is written, so many bytes are taken out where each stands
abbrev pub without_comments : ℕ → List ℕ → List Comment → List ℕ
without_comments at written [] = written
without_comments at written (c ∷ cs) =
    take (c.place - at) written ++ without_comments c.place (drop (length c.bytes) (drop (c.place - at) written)) cs

-- where what stood at a place stands then: behind all comments that were put in before it or right there
abbrev pub moved_by : List Comment → ℕ → ℕ
moved_by [] place = place
moved_by (c ∷ cs) place = if nat_le c.place place then length c.bytes + moved_by cs place else moved_by cs place
