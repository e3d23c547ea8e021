-- What the parts around the least bounds mean where exact fractions with numerators and denominators up to 2^63 - 1 decide, as they do in
-- the program.
use Rattle.std.specs.Prelude.{length}
use Rattle.ask_claims.specs.AllVerdicts.{AreVerdicts}
use Rattle.ask_checks.specs.Verdicts.{AreCheckVerdicts}
use Rattle.out_workload.specs.Summaries.{summary_of}
use Rattle.out_workload.specs.Texts.{generated_text}
use Rattle.top_status.specs.CheckMessages.{rows_of}
use Rattle.top_texts.specs.Checks.{HasRowCount, IsAcceptedWith, IsFormFault, IsRefusedCertificate, IsWideAt}
use Rattle.top_texts.specs.Generated.{IsGenerated}
use Rattle.top_texts.specs.MadeCertificates.{IsCertificateOf}
use Rattle.top_texts.specs.Meanings.{Meanings}
use Rattle.top_status.specs.Messages.{line_in, message_of}
use Rattle.top_texts.specs.Spots.{HasExcess, IsCheckedSpot, IsClaimSpot}
use Rattle.top_texts.specs.Upgrades.{IsUpgradeOf}

-- the first operation of the composition, one of the rounds, for a certificate one of its check, and for claims and for the checks of a
-- program the first of their problems, whose exact result doesn't fit; the joint problem of a turn of the rounds that has too many cells;
-- the certificate of the rounds by the policy; certificates that are valid and in whose check no sum is too wide, and the first cause of
-- others;
-- the first fault of the form of bytes, and the text of the certificate that they spell; verdicts by the linear problem of each case
-- against a claim, and against a check at each of its places, an open one with the state of the last dictionary of the first problem that
-- isn't empty; programs drawn from a seed, over intervals
abbrev pub exact : Meanings
exact = record {
  exceeds = λ purpose system policy limit excess. HasExcess purpose system policy limit excess;
  too_wide_for = λ given system policy limit spot. IsClaimSpot given system policy limit spot;
  too_wide_at = λ program system policy limit spot. IsCheckedSpot program system policy limit spot;
  certifies = λ program rows policy limit bytes. IsCertificateOf program rows policy limit bytes;
  accepts = λ program bytes names body rows vector. IsAcceptedWith program bytes names body rows vector;
  refuses = λ program bytes cause. IsRefusedCertificate program bytes cause;
  is_wide_in = λ program bytes spot. IsWideAt program bytes spot;
  has_rows = λ bytes count. HasRowCount bytes count;
  misspells = λ bytes fault. IsFormFault bytes fault;
  upgrades = λ bytes written. IsUpgradeOf bytes written;
  judges = λ system vector claims verdicts. AreVerdicts system vector claims verdicts;
  verifies = λ system vector checks verdicts. AreCheckVerdicts system vector checks verdicts;
  generates = λ seed loops system. IsGenerated seed loops system;
  summary = λ seed loops system vector rounds. summary_of seed loops (length (generated_text seed loops)) system vector rounds;
  message = λ line rows status. message_of line rows status;
  line_named = λ text status. line_in text status;
  rows_named = λ rows status. rows_of rows status;
}
