-- What is found among the pages of a row while one is chosen.
use Rattle.std.specs.Prelude.{◌≡◌, ℕ, ◌<◌, true, false, List, [], ◌∷◌}
use Rattle.std.specs.List.{filter, list_all}
use Rattle.page_layout.specs.declared.geometry.Geometry.{Geometry}
use Rattle.page_layout.specs.Page.{Page}
use Rattle.page_layout.specs.Raw.{bytes_of_page}
use Rattle.page_layout.specs.Block.{is_programmed}
use Rattle.lab_dump.specs.PageBytes.{is_sound}
use Rattle.lab_mend.specs.declared.choice.Origin.{Origin}
use Rattle.lab_mend.specs.declared.choice.Agreed.{Agreed}
use Rattle.lab_mend.specs.declared.choice.Agreed.TheVariants.{Never, One, Apart}
use Rattle.lab_mend.specs.Pages.{page_of_reading, pages_in}
use Rattle.lab_mend.specs.Choice.{Choice, is_same}

-- of the first pages those that are sound
abbrev pub sound_below : Geometry → List ℕ → ℕ → List Page
sound_below g bytes i = filter is_sound (pages_in g bytes i)

-- those that are not erased
abbrev pub programmed_below : Geometry → List ℕ → ℕ → List Page
programmed_below g bytes i = filter is_programmed (pages_in g bytes i)

-- the first of these pages is page i of the row, and all others are the same page
pub record HasOne (g : Geometry) (bytes : List ℕ) (count : ℕ) (sound : List Page) (i : ℕ) : Type 0 where
  pub within : i < count
  pub more : List Page
  pub are : sound ≡ page_of_reading g bytes i ∷ more
  pub same : list_all (is_same (page_of_reading g bytes i)) more ≡ true

-- one of them is another page than the first
pub record HasTwo (sound : List Page) : Type 0 where
  pub its : Page
  pub more : List Page
  pub are : sound ≡ its ∷ more
  pub apart : list_all (is_same its) more ≡ false

-- what the sound pages come to
abbrev pub IsAgreed : Geometry → List ℕ → ℕ → List Page → Agreed → Type 0
IsAgreed g bytes count sound Never = sound ≡ []
IsAgreed g bytes count sound (One i) = HasOne g bytes count sound i
IsAgreed g bytes count sound Apart = HasTwo sound

-- the bytes of what is chosen were written, and its origin is told
pub record WritesChoice (c : Choice) (origin : Origin) (bytes : List ℕ) : Type 0 where
  pub origin_is : origin ≡ c.origin
  pub bytes_are : bytes ≡ bytes_of_page c.its
