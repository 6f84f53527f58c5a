-- What a change of an image does to what the image means. The layers above rewrite with these.
use Rattle.std.specs.Prelude.{◌≡◌, ◌≢◌, ℕ, ◌<◌, List, length, slice_set, Some}
use Rattle.page_layout.specs.declared.record.Record.{Record}
use Rattle.page_layout.specs.declared.record.Key.TheVariants.{Sector}
use Rattle.page_layout.specs.declared.geometry.Geometry.{Geometry}
use Rattle.page_layout.specs.Page.{Page, Image}
use Rattle.page_layout.specs.Sound.{record_of, version_of, version_for}
use Rattle.page_layout.specs.Key.{key_of}
use Rattle.page_layout.specs.OneArray.{AreBelow}
use Rattle.page_layout.specs.Live.{IsKeyOf, live}
use Rattle.page_layout.specs.Array.{marks, content_of_kind, array_of, HasOneArray}
use Rattle.page_layout.specs.Change.{IsUnsoundAt, FailsAt, LosesIn, HoldsNone, Keeps, Writes}

-- ---- one change

-- a program that passes, over a page that is not sound, with a record newer than all, in the version for the die
abbrev pub ProgramLaw : Type 0
ProgramLaw = (g : Geometry) (row : ℕ) (old new : Image) (p : Page) (r : Record) → HasOneArray g old → row < length old → IsUnsoundAt old row
    → record_of p ≡ Some r → version_of p ≡ Some (version_for g) → AreBelow (marks old) r.sequence → IsKeyOf g (key_of r) → new ≡ slice_set old row p → Writes g r row p.body old new

-- a program that fails or is cut short, over a page that is not sound
abbrev pub FailureLaw : Type 0
FailureLaw = (g : Geometry) (row : ℕ) (old new : Image) → HasOneArray g old → IsUnsoundAt old row → FailsAt row old new → Keeps g old new

-- an erase, passed, failed or cut short, of a block with no newest page
abbrev pub EraseLaw : Type 0
EraseLaw = (g : Geometry) (block : ℕ) (old new : Image) → HasOneArray g old → HoldsNone g.pages block old → LosesIn g.pages block old new → Keeps g old new

-- a block of one array whose live count is 0 holds no key's newest page
abbrev pub NoneLiveLaw : Type 0
NoneLiveLaw = (g : Geometry) (block : ℕ) (image : Image) → HasOneArray g image → live g (marks image) block ≡ 0 → HoldsNone g.pages block image

-- ---- one change after another

abbrev pub KeepsNothingLaw : Type 0
KeepsNothingLaw = (g : Geometry) (image : Image) → HasOneArray g image → Keeps g image image

abbrev pub KeepsTwiceLaw : Type 0
KeepsTwiceLaw = (g : Geometry) (a b c : Image) → Keeps g a b → Keeps g b c → Keeps g a c

-- what keeps, and then a write
abbrev pub KeepsThenWritesLaw : Type 0
KeepsThenWritesLaw = (g : Geometry) (r : Record) (row : ℕ) (body : List ℕ) (a b c : Image) → Keeps g a b → Writes g r row body b c → Writes g r row body a c

-- a write, and then what keeps
abbrev pub WritesThenKeepsLaw : Type 0
WritesThenKeepsLaw = (g : Geometry) (r : Record) (row : ℕ) (body : List ℕ) (a b c : Image) → Writes g r row body a b → Keeps g b c → Writes g r row body a c

-- ---- the array

abbrev pub ArrayKeptLaw : Type 0
ArrayKeptLaw = (g : Geometry) (old new : Image) → Keeps g old new → array_of g new ≡ array_of g old

-- a page of a sector was written: that sector alone is another
abbrev pub ArrayWrittenLaw : Type 0
ArrayWrittenLaw = (g : Geometry) (n row : ℕ) (r : Record) (body : List ℕ) (old new : Image) → n < g.sectors → key_of r ≡ Sector n
    → Writes g r row body old new → array_of g new ≡ slice_set (array_of g old) n (content_of_kind g r.kind body)

-- a translation or table page was written
abbrev pub ArrayUnwrittenLaw : Type 0
ArrayUnwrittenLaw = (g : Geometry) (r : Record) (row : ℕ) (body : List ℕ) (old new : Image) → ((n : ℕ) → key_of r ≢ Sector n) → Writes g r row body old new → array_of g new ≡ array_of g old
