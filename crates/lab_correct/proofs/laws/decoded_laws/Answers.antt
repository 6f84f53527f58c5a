use Rattle.lab_correct.proofs.DecodedLemmas.{decoded_page, length-decoded_bytes, lost_page, near_page}
use Rattle.lab_correct.proofs.laws.decoded_laws.Goals as goal

pub returns-clause-near : goal.returns-clause-near
returns-clause-near c = near_page

pub returns-clause-lost : goal.returns-clause-lost
returns-clause-lost c = lost_page

pub returns-clause-size : goal.returns-clause-size
returns-clause-size c = length-decoded_bytes

pub returns-clause-row : goal.returns-clause-row
returns-clause-row c = decoded_page
