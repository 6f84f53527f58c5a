-- What a checker says of an image that a reader gives.
use Rattle.std.specs.Prelude.{◌≡◌, ◌⊎◌, ℕ, List, length}
use Rattle.page_layout.specs.declared.geometry.Geometry.{Geometry}
use Rattle.page_layout.specs.Raw.{raw_image}
use Rattle.certificate.specs.Claim.{Claim}
use Rattle.image_check.specs.declared.page_reader.Cut.{Cut}
use Rattle.image_check.specs.declared.page_reader.Cut.TheVariants.{Ended, Failed}
use Rattle.image_check.specs.declared.refusal.Refusal.{Refusal}
use Rattle.image_check.specs.declared.refusal.Refusal.TheVariants as refusals
use Rattle.image_check.specs.PageReader.{image_bytes}
use Rattle.image_check.specs.Refused.{StopsCheck, IsFirstWrong}

-- the refusal for a cut
abbrev pub refusal_of : Cut → Refusal
refusal_of Ended = refusals.WrongLength
refusal_of Failed = refusals.Source

-- the refusal says that these bytes aren't as many as an image has
abbrev pub IsWrongLength : Geometry → List ℕ → Refusal → Type 0
IsWrongLength g bytes r = (r ≡ refusals.WrongLength) × (¬ (length bytes ≡ image_bytes g))

-- why they were not taken: a read failed, or they are not as many
abbrev pub IsUntaken : Geometry → List ℕ → Refusal → Type 0
IsUntaken g bytes r = (r ≡ refusals.Source) ⊎ IsWrongLength g bytes r

-- what a refusal says of the image that these bytes are: a read failed or a growth was refused, or they are not as many as an image has, or
-- it names the first part that fails
abbrev pub IsStreamRefusal : Geometry → ℕ → List ℕ → Claim → Refusal → Type 0
IsStreamRefusal g capacity bytes c r = StopsCheck r ⊎ (IsWrongLength g bytes r ⊎ IsFirstWrong g capacity (raw_image g bytes) c r)
