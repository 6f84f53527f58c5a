-- A dump that is put in order, and what its pages are then.
use Rattle.std.specs.Prelude.{◌||◌, ℕ, ◌-◌, ◌%◌, ◌==◌, not, is_some, nat_lt, min, if◌then◌else◌, Bool, true, false, List, Option, Some, None, count_by}
use Rattle.std.specs.List.{concat, range_with_len}
use Rattle.page_layout.specs.declared.geometry.Geometry.{Geometry}
use Rattle.page_layout.specs.Geometry.{row_count}
use Rattle.page_layout.specs.declared.look.PageLook.{PageLook}
use Rattle.page_layout.specs.declared.look.PageLook.TheVariants.{Sound, Erased, Unsound}
use Rattle.lab_dump.specs.declared.sample.Sample.{Sample}
use Rattle.lab_dump.specs.Sample.{is_sound_look, is_unsound, look_at, looked_by, looked_count, looked_row}
use Rattle.lab_arrange.specs.declared.arrangement.Arrangement.{Arrangement}
use Rattle.lab_arrange.specs.Arranged.{pieces_below}

-- THE DUMP PUT IN ORDER: its pages, row by row, as `arrange` writes them
unfoldable pub ordered : Geometry → Arrangement → List ℕ → List ℕ
ordered g a all = concat (pieces_below g a all (row_count g))

-- what the page of a row is
abbrev pub look_in : Geometry → List ℕ → ℕ → PageLook
look_in g all row = look_at g.data_bytes g.spare_bytes all row

-- what the pages are of the first places that are looked at
abbrev pub sample_first : Geometry → List ℕ → ℕ → Sample
sample_first g all places = record {
  looked = looked_count (row_count g);
  sound = looked_by is_sound_look g.data_bytes g.spare_bytes (row_count g) all places;
  unsound = looked_by is_unsound g.data_bytes g.spare_bytes (row_count g) all places;
}

-- whether one of the first 64 of these pages is sound: of a geometry and an arrangement that show none no more is read
abbrev pub shows_sound : Geometry → List ℕ → Bool
shows_sound g all = nat_lt 0 (sample_first g all (min (row_count g) 64)).sound

-- whether of these more are sound than neither sound nor erased
abbrev pub shows_more : Geometry → List ℕ → Bool
shows_more g all = nat_lt (sample_first g all (min (row_count g) 64)).unsound (sample_first g all (min (row_count g) 64)).sound

-- Where something was cut off more have to be: some cut makes each shape fit by its length, so a page that stands by chance in its place is no sign.
abbrev pub is_likely : Geometry → Arrangement → List ℕ → Bool
is_likely g a all = not (is_some a.cut) || shows_more g all

-- ---- pages in their turn

-- what the page before that of a row is in its block, if there is one
abbrev pub look_before : Geometry → List ℕ → ℕ → Option PageLook
look_before g all row = if row % g.pages == 0 then None else Some (look_in g all (row - 1))

-- whether a page may follow the one before it in its block: a block is programmed page by page, so that one is not erased, and each sequence is later
abbrev pub may_follow : PageLook → PageLook → Bool
may_follow (Sound q) (Sound r) = nat_lt q.sequence r.sequence
may_follow Erased (Sound r) = false
may_follow Unsound (Sound r) = true
may_follow x Erased = false
may_follow x Unsound = false

-- whether it is sound, and the first one or one that may follow
abbrev pub follows : Option PageLook → PageLook → Bool
follows None x = is_sound_look x
follows (Some before) x = may_follow before x

-- whether the page of a row is in its turn
abbrev pub is_in_turn : Geometry → List ℕ → ℕ → Bool
is_in_turn g all row = follows (look_before g all row) (look_in g all row)

-- how many are of those that are looked at
unfoldable pub in_turn_of : Geometry → List ℕ → ℕ
in_turn_of g all = count_by (λ place. is_in_turn g all (looked_row (row_count g) place)) (range_with_len 0 (looked_count (row_count g)))
