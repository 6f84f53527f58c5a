-- What is found while pages are tried.
use Rattle.std.specs.Prelude.{◌≡◌, ℕ, ◌≤◌, true, if◌then◌else◌, List, [], ◌∷◌, ◌++◌, length, get_or, map}
use Rattle.std.specs.List.{list_all, list_any}
use Rattle.std.specs.Vec.{vec_capacity}
use Rattle.page_layout.specs.declared.geometry.Geometry.{Geometry}
use Rattle.page_layout.specs.Geometry.{page_bytes}
use Rattle.page_layout.specs.Page.{Page}
use Rattle.lab_dump.specs.PageBytes.{page_from_bytes}
use Rattle.lab_mend.specs.declared.trial.Met.{Met}
use Rattle.lab_mend.specs.declared.trial.Met.TheVariants.{Never, Once, Apart}
use Rattle.lab_mend.specs.declared.trial.TrialRoom.{TrialRoom}
use Rattle.lab_mend.specs.Pages.{page_of_reading}
use Rattle.page_layout.specs.Block.{is_programmed}
use Rattle.lab_mend.specs.Trial.{differ_in}
use Rattle.lab_mend.specs.Choice.{is_same}
use Rattle.lab_mend.specs.Found.{HasTwo}

-- the first of these pages is this one, and all others are the same page
pub record HasFirst (sound : List Page) (p : Page) : Type 0 where
  pub more : List Page
  pub are : sound ≡ p ∷ more
  pub same : list_all (is_same p) more ≡ true

-- what the sound pages come to, of which one is kept
abbrev pub SoundPagesComeTo : ℕ → List Page → List ℕ → Met → Type 0
SoundPagesComeTo size sound kept Never = sound ≡ []
SoundPagesComeTo size sound kept Once = HasFirst sound (page_from_bytes size kept)
SoundPagesComeTo size sound kept Apart = HasTwo sound

-- the pages of the row at these places
abbrev pub pages_at : Geometry → List ℕ → List ℕ → List Page
pages_at g bytes places = map (page_of_reading g bytes) places

-- the first of them
abbrev pub first_at : Geometry → List ℕ → List ℕ → Page
first_at g bytes places = page_of_reading g bytes (get_or places 0 0)

-- the places with one more, if its page is not erased
abbrev pub with_place : Page → List ℕ → ℕ → List ℕ
with_place p places i = if is_programmed p then places ++ (i ∷ []) else places

-- the bits with one more, if one of these pages differs from this one in it
abbrev pub with_bit : Page → List Page → List ℕ → ℕ → List ℕ
with_bit p ps bits k = if list_any (λ q. differ_in p q k) ps then bits ++ (k ∷ []) else bits

-- the memory of the trials of a row of so many readings
pub record IsTrialRoom (g : Geometry) (count : ℕ) (room : TrialRoom) : Type 0 where
  pub places : count ≤ vec_capacity room.places
  pub bits : 16 ≤ vec_capacity room.bits
  pub kept : length room.kept.items ≡ page_bytes g
