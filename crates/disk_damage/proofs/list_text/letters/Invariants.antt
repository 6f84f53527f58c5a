use Rattle.std.proofs.Common.{◌≡◌, map, take}
use Rattle.disk_damage.specs.ListText.{letter}
use Rattle.disk_damage.proofs.list_text.letters.Given as goal

abbrev pub invariant-loop-byte : goal.invariant-loop-byte
invariant-loop-byte l = map letter l.lost.items ≡ take l.byte-index l.bytes
