-- A newest page is of one of the two versions, and of version 1 only where it was so in its row.
use Rattle.std.proofs.Common.{◌≡◌, ◌⊎◌, ℕ, Option, Some, None, inl, inr, ap, ◌∙◌}
use Rattle.std.specs.Prelude.{slice_get}
use Rattle.page_layout.specs.declared.record.Key.{Key}
use Rattle.page_layout.specs.declared.record.Record.{Record}
use Rattle.page_layout.specs.Page.{Page, Image}
use Rattle.page_layout.specs.Sound.{IsSound, record_of, version_of}
use Rattle.page_layout.specs.Newest.{newest}
use Rattle.page_layout.specs.Array.{marks}
use Rattle.page_layout.specs.Version.{version_in, version_at, HasOldAt}
use Rattle.page_layout.proofs.ArrayLemmas.{page_of_mark}
use Rattle.page_layout.proofs.NewestLemmas.{newest-record}
use Rattle.page_layout.proofs.RecordLemmas.{is_sound, version_1, version_2}
use Rattle.image_laws.specs.Versions.{MovedVersionLaw, StayedVersionLaw}

version_here : (image : Image) (row : ℕ) (p : Page) → slice_get image row ≡ Some p → version_at image row ≡ version_of p
unfolding version_at
version_here image row p is = ap version_in is

one_of : (image : Image) (row : ℕ) (p : Page) (r : Record) → version_at image row ≡ version_of p → IsSound p r → (version_at image row ≡ Some 1) ⊎ (version_at image row ≡ Some 2)
one_of image row p r here (inl sound) = inl (here ∙ version_1 p r sound)
one_of image row p r here (inr sound) = inr (here ∙ version_2 p r sound)

newest_version : (image : Image) (key : Key) (row : ℕ) → newest (marks image) key ≡ Some row → (version_at image row ≡ Some 1) ⊎ (version_at image row ≡ Some 2)
newest_version image key row is =
    let found = newest-record (marks image) key row is in
    let its = page_of_mark image row found.0 found.1 in
    one_of image row its.0 found.0 (version_here image row its.0 its.1) (is_sound its.0 found.0 its.2)

pub moved_version : MovedVersionLaw
moved_version g old new key row two adds is other = elim (newest_version new key row is) [
  | inl one ↦ absurd (other (adds two key row (record { newest_is = is; version = one })).newest_is)
  | inr it ↦ it
]

pub stayed_version : StayedVersionLaw
stayed_version g old new key row two adds is other = elim (newest_version new key row is) [
  | inl one ↦ absurd (other (adds two key row (record { newest_is = is; version = one })).version)
  | inr it ↦ it
]
