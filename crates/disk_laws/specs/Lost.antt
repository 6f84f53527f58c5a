-- WHAT A LOSS OF POWER MAY LEAVE OF A DIE IN A FILE, by its operations since a moment at which all of its pages lasted, as after a sync. Each erase stands
-- between two syncs of the file; of the pages programmed since the last sync each may be there, or not, or in part, and then has no sound record.
use Rattle.std.specs.Prelude.{◌⊎◌, ℕ, Bool, List, [], ◌∷◌}
use Rattle.page_layout.specs.declared.geometry.Geometry.{Geometry}
use Rattle.page_layout.specs.Page.{Page, Image, IsImage}
use Rattle.page_layout.specs.Flash.{Operation, Program, Erase}
use Rattle.page_layout.specs.Recording.{image_after}
use Rattle.promises.specs.Stop.{LeftBy, Tears}
use Rattle.image_laws.specs.Power.{LosesSince}

-- THE POWER GOES as a program begins or inside it, where the pages of one image last and another one is there
abbrev pub LostInProgram : (pages : ℕ) → (stored image : Image) → Operation → Image → Type 0
LostInProgram pages stored image op found = (torn : Image) × Tears pages op image torn × LosesSince stored torn found

-- it goes before one of the operations, in it, or after the last: `stored` are the pages that last, `image` those that are there. What was programmed before an erase lasts as that begins,
-- and all does as it ends
abbrev pub LostBy : (pages : ℕ) → (stored image : Image) → List Operation → Image → Type 0
LostBy pages stored image [] found = LosesSince stored image found
LostBy pages stored image (Program row page passed left ∷ log) found =
    LostInProgram pages stored image (Program row page passed left) found ⊎ LostBy pages stored (image_after pages image (Program row page passed left)) log found
LostBy pages stored image (Erase block passed left ∷ log) found =
    LosesSince stored image found ⊎ Tears pages (Erase block passed left) image found
    ⊎ LostBy pages (image_after pages image (Erase block passed left)) (image_after pages image (Erase block passed left)) log found

-- AN IMAGE THAT A LOSS OF POWER MAY LEAVE, since all pages of this one lasted
pub record MayLose (g : Geometry) (stored : Image) (log : List Operation) (found : Image) : Type 0 where
  pub whole : IsImage g found
  pub by : LostBy g.pages stored stored log found

-- ---- laws

-- WHAT A KILL MAY LEAVE A LOSS OF POWER MAY LEAVE TOO: all that was written may be there
abbrev pub AllThereLaw : Type 0
AllThereLaw = (pages : ℕ) (stored image : Image) (log : List Operation) (found : Image) → LeftBy pages image log found → LostBy pages stored image log found

-- nothing that came after an erase takes back what was there as it ended: what may be lost then is what may be lost of the operations behind it
abbrev pub LostAfterEraseLaw : Type 0
LostAfterEraseLaw = (pages : ℕ) (stored image : Image) (block : ℕ) (passed : Bool) (left : List Page) (log : List Operation) (found : Image)
    → LostBy pages (image_after pages image (Erase block passed left)) (image_after pages image (Erase block passed left)) log found → LostBy pages stored image (Erase block passed left ∷ log) found

-- BEFORE THE FIRST ERASE nothing is sure but what lasted: all that was programmed since may be gone
abbrev pub AllGoneLaw : Type 0
AllGoneLaw = (pages : ℕ) (stored image : Image) (log : List Operation) → LosesSince stored image stored → LostBy pages stored image log stored
