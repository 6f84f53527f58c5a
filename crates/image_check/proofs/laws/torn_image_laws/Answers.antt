use Rattle.image_check.proofs.TornLemmas.{other_keys, no_sector, one_sector, still_one, kept, torn_program, torn_erase, one_more_stale}
use Rattle.image_check.proofs.laws.torn_image_laws.Goals as goal

pub returns : goal.returns
returns c = record {
  other_keys = other_keys;
  no_sector = no_sector;
  one_sector = one_sector;
  still_one = still_one;
  kept = kept;
  torn_program = torn_program;
  torn_erase = torn_erase;
  one_more_stale = one_more_stale;
}
