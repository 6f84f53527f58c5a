-- The memory that mounting takes before it reads the first page.
use Rattle.std.specs.Prelude.{◌≡◌, ◌+◌, ◌≤◌, [], length, vec_capacity}
use Rattle.page_layout.specs.declared.geometry.Geometry.{Geometry}
use Rattle.page_layout.specs.Geometry.{translation_pages, table_pages}
use Rattle.mount.specs.declared.mount_image.Room.{Room}

-- there is room for all words of a certificate and for each sector, and one page
pub record HasMountRoom (g : Geometry) (room : Room) : Type 0 where
  pub no_sector : room.sectors.items ≡ []
  pub sectors : g.sectors ≤ vec_capacity room.sectors
  pub no_page : room.directory.items ≡ []
  pub directory : translation_pages g + table_pages g ≤ vec_capacity room.directory
  pub no_stale : room.stale.items ≡ []
  pub stale : g.sectors ≤ vec_capacity room.stale
  pub body : length room.body.items ≡ g.data_bytes
  pub spare : length room.spare.items ≡ g.spare_bytes
