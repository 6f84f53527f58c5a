-- Pages that a reader gives one behind another.
use Rattle.std.specs.Prelude.{◌≡◌, ℕ, ◌*◌, ◌<◌, ◌≤◌, List, ◌++◌, length, Option, IfSome}
use Rattle.std.specs.Io.KnownBytes.{Consumes, IsAtEnd}
use Rattle.page_layout.specs.declared.geometry.Geometry.{Geometry}
use Rattle.page_layout.specs.Geometry.{row_count, page_bytes}
use Rattle.page_layout.specs.Page.{Image}
use Rattle.page_layout.specs.Raw.{raw_image}
use Rattle.image_check.specs.declared.page_reader.Cut.{Cut}
use Rattle.image_check.specs.declared.page_reader.Cut.TheVariants.{Ended, Failed}

-- as many bytes as the die's pages have
abbrev pub image_bytes : Geometry → ℕ
image_bytes g = row_count g * page_bytes g

-- at most so many bytes were read
pub record ReadsUpTo (most : ℕ) (before after : Option (List ℕ)) : Type 0 where
  pub bytes : List ℕ
  pub few : length bytes ≤ most
  pub read : Consumes before after bytes

-- no byte is left where a reader ended, if it is known
abbrev pub EndsAs : Cut → Option (List ℕ) → Type 0
EndsAs Ended after = IsAtEnd after
EndsAs Failed after = Unit {0}

-- some byte is left, if it is known
abbrev pub HasMore : Option (List ℕ) → Type 0
HasMore known = IfSome known (λ bytes. 0 < length bytes)

-- fewer than so many bytes were read
pub record ReadsFewer (size : ℕ) (before after : Option (List ℕ)) (cut : Cut) : Type 0 where
  pub bytes : List ℕ
  pub few : length bytes < size
  pub read : Consumes before after bytes
  pub ends : EndsAs cut after

-- the first rows of pages were read, and what is shown of an image holds of each that begins with them
pub record IsReadTo (g : Geometry) (rows : ℕ) (before after : Option (List ℕ)) (shows : Image → Type 0) : Type 0 where
  pub bytes : List ℕ
  pub size : length bytes ≡ rows * page_bytes g
  pub read : Consumes before after bytes
  pub shown : (rest : List ℕ) → shows (raw_image g (bytes ++ rest))

-- these bytes are as many as an image has, and what is shown holds of the image that they are
pub record IsTaken (g : Geometry) (shows : Image → Type 0) (bytes : List ℕ) : Type 0 where
  pub whole : length bytes ≡ image_bytes g
  pub shown : shows (raw_image g bytes)
