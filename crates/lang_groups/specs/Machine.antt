-- What is kept of an expression while its tokens are taken one by one.
use Rattle.std.specs.Prelude.{◌∷◌, ◌++◌, ℕ, true, false, List, [], length, drop, if◌then◌else◌}
use Rattle.lang_groups.specs.declared.mark.Mark.{Mark}
use Rattle.lang_groups.specs.declared.mark.Mark.TheVariants.{Variable, Opens, Closes, Compares, Parts}
use Rattle.lang_groups.specs.declared.run.Run.{Run}
use Rattle.lang_groups.specs.Kept.{kept_group, with_group}

-- the variables that occurred, in order; the run that has begun at the innermost bracket, and those around it, the innermost first; and
-- the groups so far
pub record State : Type 0 where
  pub seen : List ℕ
  pub run : Run
  pub outer : List Run
  pub groups : List (List ℕ)

-- a run that begins behind these variables
abbrev pub fresh : List ℕ → Run
fresh seen = record { start = length seen; compared = false }

-- nothing has begun
abbrev pub at_rest : List (List ℕ) → State
at_rest gs = record { seen = []; run = fresh []; outer = []; groups = gs }

-- the group of a run, where there is a comparison in it
abbrev pub group_of_run : Run → List ℕ → List (List ℕ)
group_of_run r seen = if r.compared then kept_group (drop r.start seen) else []

-- the run ends, and another begins
abbrev pub run_ended : State → State
run_ended st = record st { run = fresh st.seen; groups = st.groups ++ group_of_run st.run st.seen }

-- the innermost bracket closes, and the run around it goes on
abbrev pub unwound : State → List Run → State
unwound st [] = st
unwound st (r ∷ rs) = record st { run = r; outer = rs }

-- what is kept behind a token
abbrev pub taken : Mark → State → State
taken (Variable x) st = record st { seen = st.seen ++ x ∷ [] }
taken Opens st = record st { run = fresh st.seen; outer = st.run ∷ st.outer }
taken Closes st = unwound (run_ended st) st.outer
taken Compares st = record st { run = record { start = st.run.start; compared = true } }
taken Parts st = run_ended st

-- what is kept behind tokens
abbrev pub taken_all : List Mark → State → State
taken_all [] st = st
taken_all (m ∷ ms) st = taken_all ms (taken m st)

-- a group more
abbrev pub with_added : List ℕ → State → State
with_added g st = record st { groups = with_group st.groups g }

-- the expression ends
abbrev pub ended : State → State
ended st = at_rest (run_ended st).groups

-- the expression ends, and all of its variables are a group
abbrev pub ended_together : State → State
ended_together st = at_rest (with_group (run_ended st).groups st.seen)
