-- The halt that a part that isn't done gives.
use Rattle.flow_systems.specs.declared.fault.Fault.{Fault}
use Rattle.flow_systems.specs.declared.fault.Fault.TheVariants.{Wide as WideStop, NoMemory as NoStop}
use Rattle.flow_systems.specs.declared.spot.Spot.{Spot}
use Rattle.solve_rounds.specs.declared.halt.Halt.{Halt}
use Rattle.solve_rounds.specs.declared.halt.Halt.TheVariants.{Wide, Large, NoMemory}
use Rattle.solve_rounds.specs.declared.halt.RoundStop.{RoundStop}
use Rattle.solve_rounds.specs.declared.halt.RoundStop.TheVariants as round

-- the stop that a growth gives its round
abbrev pub round_stop_of : Fault Spot → RoundStop
round_stop_of (WideStop spot) = round.Wide spot
round_stop_of NoStop = round.NoMemory

-- of a round
abbrev pub halt_of_round : RoundStop → Halt
halt_of_round (round.Wide spot) = Wide spot
halt_of_round (round.Large cells) = Large cells
halt_of_round round.NoMemory = NoMemory

-- of a composition, or of an offer
abbrev pub halt_of : Fault Spot → Halt
halt_of fault = halt_of_round (round_stop_of fault)
