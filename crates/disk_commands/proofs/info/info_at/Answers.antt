use Rattle.std.proofs.Common.{◌∙◌, ap}
use Rattle.disk_damage.specs.Numbers.{listed_sectors}
use Rattle.disk_commands.specs.Info.{info_of}
use Rattle.disk_commands.proofs.info.info_at.Goals as goal

pub returns-in-Ok-new-clause-ok : goal.returns-in-Ok-new-clause-ok
returns-in-Ok-new-clause-ok g c = record {
  told = c.in_ok-looked.looked.told;
  found = c.in_ok-looked.looked.found;
  store = c.in_ok-looked.looked.store;
  certificate = _;
  list = c.in_ok-looked.looked.lost.items;
  looked = c.in_ok-looked.ensures.ok;
  is = c.in-Ok-new.ensures ∙ ap (info_of c.in_ok-looked.looked.told.shape c.in_ok-looked.looked.certificate) c.mended-mended.ensures;
  lost_are = c.in-Ok.ensures ∙ ap listed_sectors c.deref.ensures.value;
}
