use Rattle.collection.proofs.Rescued.{lazy_law, followed_law, alone_law, one_lowest, one_answer}
use Rattle.collection.proofs.laws.rescue_laws.Goals as goal

pub returns-clause-lazy : goal.returns-clause-lazy
returns-clause-lazy c = lazy_law

pub returns-clause-followed : goal.returns-clause-followed
returns-clause-followed c = followed_law

pub returns-clause-alone : goal.returns-clause-alone
returns-clause-alone c = alone_law

pub returns-clause-lowest : goal.returns-clause-lowest
returns-clause-lowest c = one_lowest

pub returns-clause-answer : goal.returns-clause-answer
returns-clause-answer c = one_answer
