-- How the keys stand: with no sound page, with a newest one, or with two that share the greatest sequence; and which table pages are well formed.
use Rattle.std.specs.Prelude.{◌≡◌, ◌↔◌, ℕ, ◌<◌, Bool, true, false, List, length, get_or, Some}
use Rattle.page_layout.specs.declared.geometry.Geometry.{Geometry}
use Rattle.page_layout.specs.declared.record.Key.{Key}
use Rattle.page_layout.specs.declared.record.Key.TheVariants.{Table}
use Rattle.page_layout.specs.Geometry.{entries, table_pages}
use Rattle.page_layout.specs.Page.{Image, body_at}
use Rattle.page_layout.specs.Greatest.{place_of}
use Rattle.page_layout.specs.Newest.{latest_below}
use Rattle.page_layout.specs.Array.{marks}
use Rattle.bad_blocks.specs.TablePage.{IsWellFormed}
use Rattle.lab_dump.specs.declared.held.KeyState.{KeyState}
use Rattle.lab_dump.specs.Held.{state_by}

-- how a key stands
unfoldable pub key_state : Image → Key → KeyState
key_state image key = state_by (latest_below (marks image) key (length image))

-- of each table page that has a newest page among the first rows whether that is well formed
pub record HasFormed (g : Geometry) (image : Image) (rows : ℕ) (formed : List Bool) : Type 0 where
  pub size : length formed ≡ table_pages g
  pub at : (u row : ℕ) → u < table_pages g → place_of (latest_below (marks image) (Table u) rows) ≡ Some row
      → (get_or formed u false ≡ true) ↔ IsWellFormed (entries g) g.blocks u (body_at image row)
