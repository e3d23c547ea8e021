use Rattle.lang_tokens.proofs.reading.Once.{one_token_list, one_text_fault, no_fault}
use Rattle.lang_tokens.proofs.reading.Total.{has_answer}
use Rattle.lang_tokens.proofs.laws.one_reading.Goals as goal

pub returns : goal.returns
returns c = record { tokens = one_token_list; fault = one_text_fault; apart = no_fault; either = has_answer }
