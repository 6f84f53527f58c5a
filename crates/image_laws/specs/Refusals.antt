-- What is refused has one reason.
use Rattle.std.specs.Prelude.{◌≡◌, ◌⊎◌, ℕ, ◌+◌, ◌<◌, ◌≤◌, List, Option, Some, None, length}
use Rattle.page_layout.specs.declared.geometry.Geometry.{Geometry}
use Rattle.page_layout.specs.declared.record.Record.{Record}
use Rattle.page_layout.specs.Geometry.{translation_pages, table_pages}
use Rattle.page_layout.specs.Page.{Image}
use Rattle.bad_blocks.specs.declared.table.page.TableFault.{TableFault}
use Rattle.bad_blocks.specs.TablePage as table
use Rattle.certificate.specs.Claim.{Claim}
use Rattle.image_check.specs.declared.refusal.Refusal.{Refusal}
use Rattle.image_check.specs.declared.refusal.Refusal.TheVariants as refusals
use Rattle.image_check.specs.Accepted.{Acceptance, IsAcceptance}
use Rattle.image_check.specs.Mountable.{IsMountable}
use Rattle.image_check.specs.Refused.{Tables, Next, Fresh, IsFirstWrong, IsFirstRepeated, IsJudgement, IsOfImage, StopsCheck, part_of}
use Rattle.image_check.specs.PageReader.{ReadsUpTo, image_bytes}
use Rattle.image_check.specs.Streamed.{IsStreamRefusal}
use Rattle.mount.specs.Mounted.{IsAfter, IsUnmountable, IsOfMounting, Refuses}

-- ONE PART: of an image and a certificate the part that fails first is one, so all that may be refused of them name it
abbrev pub OnePartLaw : Type 0
OnePartLaw = (g : Geometry) (capacity : ℕ) (image : Image) (c : Claim) (r s : Refusal) → IsFirstWrong g capacity image c r → IsFirstWrong g capacity image c s
    → part_of r ≡ part_of s

-- ONE REFUSAL: and it is one also in what it names, the rows, the page, the sector or the block
abbrev pub OneRefusalLaw : Type 0
OneRefusalLaw = (g : Geometry) (capacity : ℕ) (image : Image) (c : Claim) (r s : Refusal) → IsFirstWrong g capacity image c r → IsFirstWrong g capacity image c s
    → r ≡ s

-- ONE ANSWER: what is accepted isn't refused, but for want of memory and a page read that failed, and always with the same stale sectors
abbrev pub OneAnswerLaw : Type 0
OneAnswerLaw = (g : Geometry) (capacity : ℕ) (image : Image) (c : Claim) (a : Acceptance) → IsAcceptance g capacity image c a
    → ((r : Refusal) → ¬ IsFirstWrong g capacity image c r) × ((b : Acceptance) → IsAcceptance g capacity image c b → a ≡ b)

-- ONE REASON NOT TO MOUNT: an image has one, but that the last sequence may be used and too many sectors stale at once, which both come
-- after all else
abbrev pub OneReasonLaw : Type 0
OneReasonLaw = (g : Geometry) (capacity : ℕ) (image : Image) (r s : Refusal) → IsUnmountable g capacity image r → IsUnmountable g capacity image s
    → (r ≡ s) ⊎ (IsAfter Tables r × IsAfter Tables s)

-- TOO STALE IS MORE THAN THE CAPACITY, to the checker and to a mount
abbrev pub TooStaleLaw : Type 0
TooStaleLaw = (g : Geometry) (capacity : ℕ) (image : Image) (c : Claim) (stale most : ℕ)
    → IsFirstWrong g capacity image c (refusals.TooStale stale most) ⊎ IsUnmountable g capacity image (refusals.TooStale stale most) → most < stale

-- ANOTHER LENGTH: bytes that are as many as an image has aren't refused for their length
abbrev pub LengthLaw : Type 0
LengthLaw = (g : Geometry) (capacity : ℕ) (bytes : List ℕ) (c : Claim) → length bytes ≡ image_bytes g → ¬ IsStreamRefusal g capacity bytes c refusals.WrongLength

-- NO MORE IS READ than is said: of bytes that are known as many are left
abbrev pub ReadsNoMoreLaw : Type 0
ReadsNoMoreLaw = (most : ℕ) (before after : List ℕ) → ReadsUpTo most (Some before) (Some after) → length before ≤ length after + most

-- WHAT STOPS A CHECK SAYS NOTHING OF THE IMAGE
abbrev pub StopLaw : Type 0
StopLaw = (r : Refusal) → StopsCheck r → (part_of r ≡ None) × (¬ IsJudgement r)

-- the page, the row of the directory, the sector or the block that a refusal names is one of the die
abbrev pub IsNamedOf : Geometry → Refusal → Type 0
IsNamedOf g (refusals.TableDamaged u) = u < table_pages g
IsNamedOf g (refusals.DirectoryWrong i) = i < translation_pages g + table_pages g
IsNamedOf g (refusals.NoSuchRecord n row) = n < g.sectors
IsNamedOf g (refusals.NotNewest n row) = n < g.sectors
IsNamedOf g (refusals.BadSetWrong b) = b < g.blocks
IsNamedOf g (refusals.BlockState b) = b < g.blocks
IsNamedOf g (refusals.LiveWrong b) = b < g.blocks
IsNamedOf g (refusals.WearWrong b) = b < g.blocks
IsNamedOf g _ = Unit {0}

-- NOTHING ELSE IS NAMED than what the die has
abbrev pub RefusalNamesLaw : Type 0
RefusalNamesLaw = (g : Geometry) (capacity : ℕ) (image : Image) (c : Claim) (r : Refusal) → IsFirstWrong g capacity image c r → IsNamedOf g r

-- A MOUNT IS REFUSED for what the pages alone decide, for the last sequence, for too many stale sectors, or for what stops it
abbrev pub MountingLaw : Type 0
MountingLaw = (r : Refusal) → IsOfMounting r → StopsCheck r ⊎ (IsOfImage r ⊎ ((part_of r ≡ Some Next) ⊎ (part_of r ≡ Some Fresh)))

-- ONE PAIR: the rows that share a sequence, and of which the second is lowest, are two rows alone
abbrev pub OnePairLaw : Type 0
OnePairLaw = (marks : List (Option Record)) (a b c d : ℕ) → IsFirstRepeated marks a b → IsFirstRepeated marks c d → (a ≡ c) × (b ≡ d)

-- ONE WORD: what is wrong first with a table page is one thing
abbrev pub OneWordLaw : Type 0
OneWordLaw = (entries blocks u : ℕ) (bytes : List ℕ) (fault other : TableFault) → table.IsFirstWrongWord entries blocks u bytes fault
    → table.IsFirstWrongWord entries blocks u bytes other → fault ≡ other

-- WHAT HAS A CERTIFICATE MOUNTS, but for want of memory and a page read that failed
abbrev pub CertifiedLaw : Type 0
CertifiedLaw = (g : Geometry) (capacity : ℕ) (image : Image) (r : Refusal) → IsMountable g capacity image → Refuses g capacity image r → StopsCheck r
