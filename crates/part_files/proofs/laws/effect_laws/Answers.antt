use Rattle.part_files.proofs.EffectLemmas.{makes_file, exists, claims, removes, links, renames, renames_none, refused_call, refused_make, is_there, one_file, has_one_name, leads_there}
use Rattle.part_files.proofs.laws.effect_laws.Goals as goal

pub returns : goal.returns
returns c = record {
  made = makes_file;
  exists = exists;
  claimed = claims;
  removed = removes;
  linked = links;
  moved = renames;
  unmoved = renames_none;
  refused = refused_call;
  unmade = refused_make;
  there = is_there;
  one_file = one_file;
  one_name = has_one_name;
  leads = leads_there;
}
