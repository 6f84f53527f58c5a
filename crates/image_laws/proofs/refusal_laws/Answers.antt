use Rattle.image_laws.proofs.RefusalLemmas.{one_part, one_pair, one_word, certified}
use Rattle.image_laws.proofs.refusal_laws.Goals as goal

pub returns-clause-part : goal.returns-clause-part
returns-clause-part c = one_part

pub returns-clause-pair : goal.returns-clause-pair
returns-clause-pair c = one_pair

pub returns-clause-word : goal.returns-clause-word
returns-clause-word c = one_word

pub returns-clause-certified : goal.returns-clause-certified
returns-clause-certified c = certified
