use Rattle.image_laws.proofs.AnswerLemmas.{one_refusal, one_answer, one_reason, too_stale, of_length, read_most, stops, names, of_mounting}
use Rattle.image_laws.proofs.answer_laws.Goals as goal

pub returns-clause-refusal : goal.returns-clause-refusal
returns-clause-refusal c = one_refusal

pub returns-clause-answer : goal.returns-clause-answer
returns-clause-answer c = one_answer

pub returns-clause-reason : goal.returns-clause-reason
returns-clause-reason c = one_reason

pub returns-clause-stale : goal.returns-clause-stale
returns-clause-stale c = too_stale

pub returns-clause-length : goal.returns-clause-length
returns-clause-length c = of_length

pub returns-clause-stop : goal.returns-clause-stop
returns-clause-stop c = stops

pub returns-clause-named : goal.returns-clause-named
returns-clause-named c = names

pub returns-clause-mounting : goal.returns-clause-mounting
returns-clause-mounting c = of_mounting

pub returns-clause-read : goal.returns-clause-read
returns-clause-read c = read_most
