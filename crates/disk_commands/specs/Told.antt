-- What is told of the disk at a path.
use Rattle.std.specs.Prelude.{◌≡◌, ◌⊎◌, Bool, ℕ, List, codes, Option, if◌then◌else◌}
use Rattle.std.specs.Io.KnownBytes.{Appends, Keeps}
use Rattle.request_stream.specs.Frames.{AppendsPart}
use Rattle.certificate.specs.Claim.{Claim}
use Rattle.file_die.specs.Store.{Held}
use Rattle.coded_store.specs.declared.coded.Mended.{Mended}
use Rattle.disk_damage.specs.Numbers.{listed_sectors}
use Rattle.disk_commands.specs.declared.mark.FoundMark.{FoundMark}
use Rattle.disk_commands.specs.declared.shape_text.DiskText.{DiskText}
use Rattle.disk_commands.specs.declared.words.InfoWords.{InfoWords}
use Rattle.disk_commands.specs.declared.printed.Form.{Form}
use Rattle.disk_commands.specs.declared.printed.Form.TheVariants.{Text, Json}
use Rattle.disk_commands.specs.declared.printed.Info.{Info}
use Rattle.disk_commands.specs.declared.files.DiskFileFault.TheVariants as file
use Rattle.disk_commands.specs.declared.text.DiskCommandFault.{DiskCommandFault}
use Rattle.disk_commands.specs.declared.text.DiskCommandFault.TheVariants as fault
use Rattle.disk_commands.specs.Files.{DiskFileAnswers}
use Rattle.disk_commands.specs.Info.{info_of, info_text}
use Rattle.disk_commands.specs.Damage.{IsLookedAt, IsUnlookedAt}

-- the form that was asked for
abbrev pub form_of : (json : Bool) → Form
form_of json = if json then Json else Text

-- WHAT IS TOLD OF THE DISK AT A PATH: what its shape and a certificate tell, which is one of a mount of the pages of an honest store, what that store tells was wrong with its pages, and which sectors are lost
pub record IsInfoAt {S : Type 0} (held : S → Held) (honest : S → Bool) (mended : S → Mended) (a : DiskFileAnswers) (path : List ℕ) (info : Info) (missing : List ℕ) : Type 0 where
  pub told : DiskText
  pub found : FoundMark
  pub store : S
  pub certificate : Claim
  pub list : List Bool
  pub looked : IsLookedAt held honest a path told found store certificate list
  pub is : info ≡ info_of told.shape certificate (mended store)
  pub lost_are : missing ≡ listed_sectors list

-- it was printed
pub record HasTold {S : Type 0} (held : S → Held) (honest : S → Bool) (mended : S → Mended) (a : DiskFileAnswers) (words : InfoWords) (before after : Option (List ℕ)) : Type 0 where
  pub info : Info
  pub missing : List ℕ
  pub at : IsInfoAt held honest mended a words.disk.now info missing
  pub printed : Appends before after (info_text (form_of words.json) info missing)

-- standard output failed, or memory was refused
abbrev pub HasPrintingFailed : DiskCommandFault → Type 0
HasPrintingFailed (fault.Write told) = told.now ≡ codes "-"
HasPrintingFailed fault.OutOfMemory = Unit {0}
HasPrintingFailed _ = ⊥

-- A TEXT WAS NOT PRINTED: standard output failed, where a beginning of it stands, or nothing, and never all of it; or memory was refused, and nothing does
abbrev pub IsPrintedInPart : (text : List ℕ) → (before after : Option (List ℕ)) → DiskCommandFault → Type 0
IsPrintedInPart text before after (fault.Write told) = (told.now ≡ codes "-") × AppendsPart before after text
IsPrintedInPart text before after fault.OutOfMemory = Keeps before after
IsPrintedInPart text before after _ = ⊥

-- WHERE IT IS TOLD THAT IT WAS NOT WRITTEN, the last call of standard output, or of standard error, failed
abbrev pub StopsTelling : {O : Type 0} → (writes : O → O → Type 0) → (left : O) → DiskCommandFault → Type 0
StopsTelling {O} writes left (fault.Write told) = (before : O) × writes before left
StopsTelling writes left _ = Unit {0}

-- or a call that names the path did
abbrev pub StopsCommand : {O : Type 0} → (writes : O → O → Type 0) → (left : O) → DiskFileAnswers → (path : List ℕ) → DiskCommandFault → Type 0
StopsCommand {O} writes left a path (fault.Write told) = ((before : O) × writes before left) ⊎ a.fails path file.Write
StopsCommand writes left a path _ = Unit {0}

-- it was looked at, and was not printed
pub record HasNotTold {S : Type 0} (held : S → Held) (honest : S → Bool) (mended : S → Mended) (a : DiskFileAnswers) (words : InfoWords) (before after : Option (List ℕ)) (told : DiskCommandFault) : Type 0 where
  pub info : Info
  pub missing : List ℕ
  pub at : IsInfoAt held honest mended a words.disk.now info missing
  pub part : IsPrintedInPart (info_text (form_of words.json) info missing) before after told

-- why it was not: the disk was not opened, and nothing was printed; or that failed
abbrev pub IsDiskUntold : {S : Type 0} → (S → Held) → (honest : S → Bool) → (mended : S → Mended) → (failed : S → ℕ) → DiskFileAnswers → InfoWords → (before after : Option (List ℕ)) → DiskCommandFault → Type 0
IsDiskUntold held honest mended failed a words before after told =
    (IsUnlookedAt held honest failed a words.disk.now told × Keeps before after) ⊎ HasNotTold held honest mended a words before after told
