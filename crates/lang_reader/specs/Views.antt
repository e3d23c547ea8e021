-- What the state of the second pass stands for.
use Rattle.lang_meaning.specs.Walk.{State}
use Rattle.lang_reader.specs.declared.context.Context.{Context}

abbrev pub state_of : Context → State
state_of c = record { names = c.names; known = c.known.items; labels = c.labels; count = c.count }
