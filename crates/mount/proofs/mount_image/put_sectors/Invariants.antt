use Rattle.std.proofs.Common.{◌≤◌, ◌-◌, ◌+◌, vec_len, vec_capacity}
use Rattle.mount.specs.Shown.{HasWords}
use Rattle.mount.proofs.mount_image.put_sectors.Given as goal

abbrev pub invariant-loop-sector : goal.invariant-loop-sector
invariant-loop-sector l = record {
  words : HasWords l.shown.newest.items 0 l.sector l.words.items;
  room : vec_len l.words + (l.geometry.sectors - l.sector) ≤ vec_capacity l.words;
}
