-- A STORE IN MEMORY: its geometry and its pages. What stands lasts, as long as the store does.
use Rattle.page_layout.specs.declared.geometry.Geometry.{Geometry}
use Rattle.page_layout.specs.Page.{Image}
use Rattle.file_die.specs.Store.{Held}

pub record Memory : Type 0 where
  pub geometry : Geometry
  pub pages : Image

-- as a store holds it
abbrev pub standing : Geometry → Image → Held
standing g pages = record { geometry = g; pages = pages; durable = pages }
