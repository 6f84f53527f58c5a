-- The memory of each run, which is taken before the dumps are opened.
use Rattle.std.specs.Prelude.{◌≡◌, ℕ, ◌≤◌, ◌*◌, [], length}
use Rattle.std.specs.Vec.{vec_capacity}
use Rattle.page_layout.specs.declared.geometry.Geometry.{Geometry}
use Rattle.page_layout.specs.Geometry.{page_bytes, row_count}
use Rattle.lab_dump.specs.Rooms.{HasPageRoom}
use Rattle.lab_mend.specs.declared.merge.MergeRoom.{MergeRoom}
use Rattle.lab_mend.specs.Tried.{IsTrialRoom}
use Rattle.lab_mend.specs.declared.repair.RepairRoom.{RepairRoom}

-- a page has room as it is read and as it is written, and each row in the list, which is empty
pub record IsRepairRoom (g : Geometry) (room : RepairRoom) : Type 0 where
  pub page : HasPageRoom g room.body.items room.spare.items
  pub scratch : length room.scratch.items ≡ page_bytes g
  pub none : room.mends.items ≡ []
  pub places : row_count g ≤ vec_capacity room.mends

-- a page of each of so many readings has room, and one more, what is tried of a row, and each row in all lists, which are empty
pub record IsMergeRoom (g : Geometry) (count : ℕ) (room : MergeRoom) : Type 0 where
  pub pages_size : length room.pages.items ≡ count * page_bytes g
  pub scratch_size : length room.scratch.items ≡ page_bytes g
  pub no_conflicts : room.conflicts.items ≡ []
  pub conflict_places : row_count g ≤ vec_capacity room.conflicts
  pub none_unsound : room.unsound.items ≡ []
  pub unsound_places : row_count g ≤ vec_capacity room.unsound
  pub none_tried : room.tried.items ≡ []
  pub tried_places : row_count g ≤ vec_capacity room.tried
  pub trial : IsTrialRoom g count room.trial
