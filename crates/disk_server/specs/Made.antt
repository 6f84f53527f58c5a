-- A STORE THAT WAS FORMATTED, and one that was not.
use Rattle.std.specs.Prelude.{◌≡◌, ◌<◌, ℕ, Bool, true, Result, Ok, Err}
use Rattle.page_layout.specs.Counter.{HasRisen}
use Rattle.page_layout.specs.Geometry.{need_at}
use Rattle.page_layout.specs.Flash.{Flash}
use Rattle.file_die.specs.Store.{Held}
use Rattle.mount.specs.declared.format_fault.FormatFault.{FormatFault}
use Rattle.mount.specs.declared.format_fault.FormatFault.TheVariants.{Bus}
use Rattle.mount.specs.Formatted.{Formats}
use Rattle.disk_server.specs.Opened.{ComesBack, IsUnopenedAt, flash_as_opened}
use Rattle.disk_server.specs.declared.format.CreateFault.{CreateFault}
use Rattle.disk_server.specs.declared.format.CreateFault.TheVariants as why

-- its die was opened, and its pages are what a format for a device of this share has made of them, with this answer
pub record IsFormattedFrom (share : ℕ) (s t : Held) (answer : Result ℕ FormatFault) : Type 0 where
  pub new : Flash
  pub to : new.image ≡ t.pages
  pub formats : Formats s.geometry (need_at s.geometry share) (flash_as_opened s) new answer

-- its pages became those of a formatted die with so many good blocks, and all of them last
pub record IsDiskMade (share : ℕ) (s t : Held) (good : ℕ) : Type 0 where
  pub formatted : IsFormattedFrom share s t (Ok good)
  pub lasts : t.durable ≡ t.pages

-- it was not formatted, for this; and where its die failed it has counted a failure
pub record IsNotFormatted {S : Type 0} (held : S → Held) (honest : S → Bool) (failed : S → ℕ) (share : ℕ) (store given : S) (fault : FormatFault) : Type 0 where
  pub from : honest store ≡ true → IsFormattedFrom share (held store) (held given) (Err fault)
  pub counted : fault ≡ Bus → honest store ≡ true → 0 < failed given

-- it is formatted, and the sync of what was made failed, which was counted
pub record IsMadeUnsynced {S : Type 0} (held : S → Held) (honest : S → Bool) (failed : S → ℕ) (share : ℕ) (store given : S) : Type 0 where
  pub formatted : honest store ≡ true → (good : ℕ) × IsFormattedFrom share (held store) (held given) (Ok good)
  pub made : S
  pub same : honest store ≡ true → (held made).pages ≡ (held given).pages
  pub rose : HasRisen (failed made) (failed given)

-- why it was not formatted, or may not last, and what came back
abbrev pub IsDiskUnmade : {S : Type 0} → (S → Held) → (honest : S → Bool) → (failed : S → ℕ) → (share : ℕ) → S → S → CreateFault → Type 0
IsDiskUnmade held honest failed share store given (why.Open fault) = IsUnopenedAt held honest failed store given fault × ComesBack held honest store fault given
IsDiskUnmade held honest failed share store given (why.Format fault) = IsNotFormatted held honest failed share store given fault
IsDiskUnmade held honest failed share store given why.Sync = IsMadeUnsynced held honest failed share store given
