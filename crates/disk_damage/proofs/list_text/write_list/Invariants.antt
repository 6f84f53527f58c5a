use Rattle.std.proofs.Common.{◌≡◌, map, take}
use Rattle.disk_damage.specs.ListText.{letter}
use Rattle.disk_damage.proofs.list_text.write_list.Given as goal

abbrev pub invariant-loop-is_lost : goal.invariant-loop-is_lost
invariant-loop-is_lost l = l.text.items ≡ map letter (take l.is_lost-index l.lost)
