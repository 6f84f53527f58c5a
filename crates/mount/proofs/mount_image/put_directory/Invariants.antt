use Rattle.std.proofs.Common.{◌≤◌, ◌-◌, ◌+◌, vec_len, vec_capacity}
use Rattle.page_layout.specs.Geometry.{translation_pages, table_pages}
use Rattle.mount.specs.Shown.{HasWords}
use Rattle.mount.proofs.mount_image.put_directory.Given as goal

abbrev pub invariant-loop-page : goal.invariant-loop-page
invariant-loop-page l = record {
  words : HasWords l.shown.newest.items l.geometry.sectors l.page l.words.items;
  room : vec_len l.words + (translation_pages l.geometry + table_pages l.geometry - l.page) ≤ vec_capacity l.words;
}
