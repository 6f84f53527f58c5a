use Rattle.page_layout.proofs.RecordLemmas.{is_sound, sound_from, erased_all, all_erased, erased_no_record}
use Rattle.page_layout.proofs.laws.record_laws.Goals as goal

pub returns-clause-sound : goal.returns-clause-sound
returns-clause-sound c = λ p r. (is_sound p r, sound_from p r)

pub returns-clause-erased : goal.returns-clause-erased
returns-clause-erased c = λ p. (erased_all p, all_erased p)

pub returns-clause-erased_unsound : goal.returns-clause-erased_unsound
returns-clause-erased_unsound c = erased_no_record
