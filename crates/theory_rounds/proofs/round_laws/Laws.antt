-- The laws of growth, rounds and chains, put together.
use Rattle.std.proofs.Common.{arith}
use Rattle.theory_rounds.specs.RoundLaws.{GrowthsAreExact, TurnsAreExact, CutsAreExact, RoundsAreExact, ChainsAreExact, RoundsEnd}
use Rattle.theory_rounds.specs.RoundLaws.{RowsDecide, TurnsComeUp, AnyOutcomesDo, SomeOutcomesDo, AnyStepsDo}
use Rattle.theory_rounds.proofs.joint_items.Joined.{exact_joined}
use Rattle.theory_rounds.proofs.rounds.ExactRound.{exact_cuts, exact_grow_is, exact_round_is}
use Rattle.theory_rounds.proofs.rounds.ExactChain.{state_tight, state_few, state_valid, state_leads, state_below, state_least, state_ends}
use Rattle.theory_rounds.proofs.rounds.ExactEnd.{rounds_end}
use Rattle.theory_rounds.proofs.rounds.GrowthAgrees.{grow_agrees}
use Rattle.theory_rounds.proofs.joint_items.RoundAgrees.{grown_agrees, round_steps_agree, round_agrees}
use Rattle.theory_rounds.proofs.rounds.NextAgrees.{exact_next_agrees}
use Rattle.theory_rounds.proofs.rounds.MadeCertificate.{made_with, made_valid}
use Rattle.theory_rounds.proofs.rounds.RoundBy.{round_by_is, round_by_same, round_by_there, round_by_agrees}
use Rattle.theory_rounds.proofs.rounds.StepsMade.{steps_lead}
use Rattle.theory_rounds.proofs.turns.Coming.{turn_comes}

-- the growth of a supported pick makes valid steps, to a vector that every closed vector bounds
pub growths_law : GrowthsAreExact
growths_law = exact_grow_is

-- the turn of a list that meets the list condition is a point at its transformers, or a ray
pub turns_law : TurnsAreExact
turns_law = exact_joined

-- the cut of a growth's unknowns is admissible and has them all
pub cuts_law : CutsAreExact
cuts_law fitting system d pick is_pick =
    let c = exact_cuts fitting system d pick is_pick in
    record { admissible = c.admissible; from = c.from; all = c.all }

-- the round by a supported pick makes valid steps to the vector above the first, where the pick is tight
pub rounds_law : RoundsAreExact
rounds_law = exact_round_is

-- rounds with any choices among what exceeds lead by valid steps to tight picks, and to the least solution where none exceeds
pub chains_law : ChainsAreExact
chains_law fitting system range choose among n goes =
    record {
      tight = state_tight fitting system range choose among n goes;
      few = state_few fitting system range choose among n goes;
      valid = state_valid fitting system range choose among n goes;
      leads = state_leads fitting system range choose among n goes;
      below = state_below fitting system range choose among n goes;
      least = λ e. state_least fitting system range choose among n goes (state_ends fitting system range choose among n goes e);
      certified = λ e. made_valid fitting system range choose among n goes (state_ends fitting system range choose among n goes e);
    }

-- with any choices the rounds end, after fewer than there are picks
pub end_law : RoundsEnd
end_law fitting system range choose among =
    let e = rounds_end fitting system range choose among in
    record { rounds = e.rounds; few = e.within; made = e.before; ended = e.none }

-- from vectors that agree at the template's rows a round makes the same steps, to vectors that agree
pub rows_law : RowsDecide
rows_law fitting system pick is_pick d e agree =
    record {
      growth = grow_agrees fitting system pick is_pick d e agree;
      grown = grown_agrees fitting system pick is_pick d e agree;
      steps = round_steps_agree fitting system pick is_pick d e agree;
      round = round_agrees fitting system pick is_pick d e agree;
      next = λ choose. exact_next_agrees system d e agree choose pick;
      any = λ made. round_by_agrees fitting system d e pick made is_pick agree;
    }

-- a turn that comes up meets the list condition, between the vectors after the growth and after the round
pub coming_law : TurnsComeUp
coming_law = turn_comes

-- whichever outcomes the turns are made by, the round leads by valid steps to the vector above the first
pub any_law : AnyOutcomesDo
any_law fitting system d pick steps supported h =
    record { done = round_by_is fitting system d pick steps supported h; same = round_by_same fitting system d pick steps supported h }

-- and there are some
pub some_law : SomeOutcomesDo
some_law = round_by_there

-- the steps of rounds by any outcomes are valid and lead to the vector after the rounds
pub steps_law : AnyStepsDo
steps_law fitting system range choose among n goes steps h =
    let made = steps_lead fitting system range choose among n goes n (omega arith) steps h in
    record {
      valid = made.0;
      leads = made.1;
      certified = λ e. made_with fitting system range choose among n goes steps made
          (state_ends fitting system range choose among n goes e);
    }
