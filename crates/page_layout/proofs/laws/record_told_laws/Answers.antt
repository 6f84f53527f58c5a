use Rattle.page_layout.proofs.RecordingLemmas.{record_stays, records_join, ends_join, told_on, ran_on, one_cut}
use Rattle.page_layout.proofs.laws.record_told_laws.Goals as goal

pub returns : goal.returns
returns c = record { stays = record_stays; join = records_join; ends = ends_join; on = told_on; ran_on = ran_on; one_cut = one_cut }
