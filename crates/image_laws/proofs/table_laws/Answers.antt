use Rattle.image_laws.proofs.TableLemmas.{wrong_word, same_length, erase_count, words, right_words, table_word, entry}
use Rattle.image_laws.proofs.table_laws.Goals as goal

pub returns-clause-wrong : goal.returns-clause-wrong
returns-clause-wrong c = wrong_word

pub returns-clause-length : goal.returns-clause-length
returns-clause-length c = same_length

pub returns-clause-erased : goal.returns-clause-erased
returns-clause-erased c = erase_count

pub returns-clause-words : goal.returns-clause-words
returns-clause-words c = words

pub returns-clause-right : goal.returns-clause-right
returns-clause-right c = right_words

pub returns-clause-word : goal.returns-clause-word
returns-clause-word c = table_word

pub returns-clause-entry : goal.returns-clause-entry
returns-clause-entry c = entry
