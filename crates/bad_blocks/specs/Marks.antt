-- The factory's marks: a defective block has a spare byte 00h in its first or its last page.
use Rattle.std.specs.Prelude.{ℕ, ◌+◌, ◌-◌, ◌*◌, ◌||◌, Bool, List, map, get_or}
use Rattle.std.specs.List.{range_with_len}
use Rattle.page_layout.specs.declared.geometry.Geometry.{Geometry}
use Rattle.page_layout.specs.Page.{Image}
use Rattle.page_layout.specs.Bytes.{has_zero}
use Rattle.page_layout.specs.Flash.{no_page}

-- whether a spare byte of the row's page is 00h
abbrev pub has_mark : Image → ℕ → Bool
has_mark image row = has_zero (get_or image row no_page).spare

-- whether the factory marked a block
abbrev pub is_marked : Geometry → Image → ℕ → Bool
is_marked g image block = has_mark image (block * g.pages) || has_mark image (block * g.pages + (g.pages - 1))

-- which blocks the factory marked, in order
abbrev pub factory_marks : Geometry → Image → List Bool
factory_marks g image = map (is_marked g image) (range_with_len 0 g.blocks)
