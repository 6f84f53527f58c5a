-- WHAT A LOOK AT ALL OF A DISK FINDS.
use Rattle.std.specs.Prelude.{◌≡◌, ◌⊎◌, ◌<◌, ℕ, Bool, true, List, ◌++◌, codes, length, Option}
use Rattle.std.specs.Borrow.{Bor}
use Rattle.std.specs.Io.KnownBytes.{Appends, Keeps}
use Rattle.page_layout.specs.Counter.{HasRisen}
use Rattle.certificate.specs.Claim.{Claim}
use Rattle.file_die.specs.Store.{Held}
use Rattle.lost_sectors.specs.declared.fault.LostFault.{LostFault}
use Rattle.lost_sectors.specs.declared.fault.LostFault.TheVariants as lost
use Rattle.disk_damage.specs.Look.{bad_numbers, unsound_numbers}
use Rattle.disk_damage.specs.Numbers.{counted_lines, listed_sectors, with_commas}
use Rattle.disk_server.specs.declared.opened.OpenStoreFault.TheVariants as why
use Rattle.disk_commands.specs.declared.mark.FoundMark.{FoundMark}
use Rattle.disk_commands.specs.declared.printed.Form.{Form}
use Rattle.disk_commands.specs.declared.printed.Form.TheVariants.{Text, Json}
use Rattle.disk_commands.specs.declared.shape_text.DiskText.{DiskText}
use Rattle.disk_commands.specs.declared.text.DiskCommandFault.{DiskCommandFault}
use Rattle.disk_commands.specs.declared.text.DiskCommandFault.TheVariants as fault
use Rattle.disk_commands.specs.declared.words.InfoWords.{InfoWords}
use Rattle.disk_commands.specs.Damage.{IsLookedAt, IsUnlookedAt}
use Rattle.disk_commands.specs.Files.{DiskFileAnswers}
use Rattle.disk_commands.specs.Info.{lost_lines}
use Rattle.disk_commands.specs.Told.{IsPrintedInPart, form_of}

-- ---- what is found

-- OF THE DISK AT A PATH: its lost sectors, its bad blocks by the certificate, and of an honest store the rows of its pages that are neither erased nor sound
pub record IsDamageAt {S : Type 0} (held : S → Held) (honest : S → Bool) (a : DiskFileAnswers) (path : List ℕ) (missing bad unsound : List ℕ) : Type 0 where
  pub told : DiskText
  pub found : FoundMark
  pub store : S
  pub certificate : Claim
  pub list : List Bool
  pub looked : IsLookedAt held honest a path told found store certificate list
  pub lost_are : missing ≡ listed_sectors list
  pub bad_are : bad ≡ bad_numbers certificate.blocks
  pub unsound_are : honest store ≡ true → unsound ≡ unsound_numbers (held store).geometry (held store).pages certificate.blocks

-- how it is told that the pages were not looked at
abbrev pub unseen : LostFault → Bor (List ℕ) → DiskCommandFault
unseen lost.OutOfMemory path = fault.OutOfMemory
unseen lost.Store path = fault.Open path why.Device

-- a page of a disk that was looked at was not loaded, which was counted
pub record FailsCheck {S : Type 0} (held : S → Held) (honest : S → Bool) (failed : S → ℕ) (a : DiskFileAnswers) (path : List ℕ) : Type 0 where
  pub told : DiskText
  pub found : FoundMark
  pub store : S
  pub certificate : Claim
  pub list : List Bool
  pub looked : IsLookedAt held honest a path told found store certificate list
  pub left : S
  pub rose : HasRisen (failed store) (failed left)

abbrev pub ArePagesUnseen : {S : Type 0} → (S → Held) → (honest : S → Bool) → (failed : S → ℕ) → DiskFileAnswers → (path : List ℕ) → DiskCommandFault → Type 0
ArePagesUnseen held honest failed a path (fault.Open at why.Device) = (at.now ≡ path) × FailsCheck held honest failed a path
ArePagesUnseen held honest failed a path fault.OutOfMemory = Unit {0}
ArePagesUnseen held honest failed a path _ = ⊥

-- the disk was not looked at, or not all of its pages
abbrev pub IsUncheckedAt : {S : Type 0} → (S → Held) → (honest : S → Bool) → (failed : S → ℕ) → DiskFileAnswers → (path : List ℕ) → DiskCommandFault → Type 0
IsUncheckedAt held honest failed a path told = IsUnlookedAt held honest failed a path told ⊎ ArePagesUnseen held honest failed a path told

-- ---- what is told

abbrev pub damage_text : Form → (missing bad unsound : List ℕ) → List ℕ
damage_text Text missing bad unsound =
    lost_lines missing ++ (counted_lines (codes "bad ") (codes "bad block ") bad ++ counted_lines (codes "unsound ") (codes "unsound row ") unsound)
damage_text Json missing bad unsound =
    codes "{\"lost\":[" ++ (with_commas missing ++ (codes "],\"bad\":[" ++ (with_commas bad ++ (codes "],\"unsound\":[" ++ (with_commas unsound ++ codes "]}\n")))))

-- ALL WAS LOOKED AT AND TOLD, and so many sectors are lost
pub record HasChecked {S : Type 0} (held : S → Held) (honest : S → Bool) (a : DiskFileAnswers) (words : InfoWords) (count : ℕ) (before after : Option (List ℕ)) : Type 0 where
  pub missing : List ℕ
  pub bad : List ℕ
  pub unsound : List ℕ
  pub at : IsDamageAt held honest a words.disk.now missing bad unsound
  pub count_is : count ≡ length missing
  pub printed : Appends before after (damage_text (form_of words.json) missing bad unsound)

-- so many sectors are lost, which was told with the rest
abbrev pub FindsLost : {S : Type 0} → (S → Held) → (honest : S → Bool) → DiskFileAnswers → InfoWords → (before after : Option (List ℕ)) → DiskCommandFault → Type 0
FindsLost held honest a words before after (fault.Lost at count) = (at ≡ words.disk) × (0 < count) × HasChecked held honest a words count before after
FindsLost held honest a words before after _ = ⊥

-- it was looked at, and was not printed
pub record HasNotChecked {S : Type 0} (held : S → Held) (honest : S → Bool) (a : DiskFileAnswers) (words : InfoWords) (before after : Option (List ℕ)) (told : DiskCommandFault) : Type 0 where
  pub missing : List ℕ
  pub bad : List ℕ
  pub unsound : List ℕ
  pub at : IsDamageAt held honest a words.disk.now missing bad unsound
  pub part : IsPrintedInPart (damage_text (form_of words.json) missing bad unsound) before after told

-- why the answer is not that all is there: the disk was not looked at, and nothing was printed; that failed; or sectors are lost
abbrev pub IsUnclean : {S : Type 0} → (S → Held) → (honest : S → Bool) → (failed : S → ℕ) → DiskFileAnswers → InfoWords → (before after : Option (List ℕ)) → DiskCommandFault → Type 0
IsUnclean held honest failed a words before after told =
    (IsUncheckedAt held honest failed a words.disk.now told × Keeps before after) ⊎ (HasNotChecked held honest a words before after told ⊎ FindsLost held honest a words before after told)
