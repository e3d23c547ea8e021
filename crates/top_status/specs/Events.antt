-- The lines that tell of long work while it goes on.
use Rattle.std.specs.Prelude.{◌++◌, ℕ, Bool, true, false, List, [], ◌∷◌, codes}
use Rattle.top_status.specs.CheckMessages.{numbered}
use Rattle.top_status.specs.declared.message.event.Event.{Event}
use Rattle.top_status.specs.declared.message.event.Event.TheVariants.{Round, Turn, Pivots}

-- what is told of an event, with its line feed
abbrev pub event_text : Event → List ℕ
event_text (Round number raised) = numbered (codes "round ") number ++ numbered (codes ": ") raised ++ codes " bounds raised\n"
event_text (Turn round number) = numbered (codes "round ") round ++ numbered (codes ", turn ") number ++ codes "\n"
event_text (Pivots round turn made) =
    numbered (codes "round ") round ++ numbered (codes ", turn ") turn ++ numbered (codes ": ") made ++ codes " pivots\n"

-- what a terminal takes to go to the line before and to wipe it: ESC [ A, ESC [ K
abbrev pub wipe : List ℕ
wipe = 27 ∷ 91 ∷ 65 ∷ 27 ∷ 91 ∷ 75 ∷ []

-- what stands before a line: what wipes the one before it, or nothing
abbrev pub start_of : (rewrites : Bool) → List ℕ
start_of true = wipe
start_of false = []

-- the line of an event, in place of the one before it or behind it
abbrev pub event_line : (rewrites : Bool) → Event → List ℕ
event_line rewrites event = start_of rewrites ++ event_text event
