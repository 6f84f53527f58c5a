use Rattle.device_laws.proofs.CollectionLemmas.{victim, pinned_first, none_waits, lowest_page, room, ailing, less_left}
use Rattle.device_laws.proofs.collection_laws.Goals as goal

pub returns-clause-victim : goal.returns-clause-victim
returns-clause-victim c = victim

pub returns-clause-pinned : goal.returns-clause-pinned
returns-clause-pinned c = pinned_first

pub returns-clause-waits : goal.returns-clause-waits
returns-clause-waits c = none_waits

pub returns-clause-lowest : goal.returns-clause-lowest
returns-clause-lowest c = lowest_page

pub returns-clause-room : goal.returns-clause-room
returns-clause-room c = room

pub returns-clause-ailing : goal.returns-clause-ailing
returns-clause-ailing c = ailing

pub returns-clause-less : goal.returns-clause-less
returns-clause-less c = less_left
