-- What a run of the program comes to.
use Rattle.std.specs.Prelude.{◌≡◌, ◌⊎◌, ℕ, Bool, List, Option, Result, Ok, Err, string_bytes}
use Rattle.std.specs.Io.KnownBytes.{Appends}
use Rattle.file_die.specs.Store.{Held}
use Rattle.coded_store.specs.declared.coded.Mended.{Mended}
use Rattle.disk_commands.specs.declared.words.CreateWords.{CreateWords}
use Rattle.disk_commands.specs.declared.words.InfoWords.{InfoWords}
use Rattle.disk_commands.specs.declared.words.DiskWords.{DiskWords}
use Rattle.disk_commands.specs.declared.words.DiskWords.TheVariants as asked
use Rattle.disk_commands.specs.Words.{AsksDiskProgram, IsNoDiskCommand}
use Rattle.disk_commands.specs.declared.text.DiskCommandFault.{DiskCommandFault}
use Rattle.disk_commands.specs.declared.text.DiskCommandFault.TheVariants as fault
use Rattle.disk_commands.specs.Check.{HasChecked, IsUnclean}
use Rattle.disk_commands.specs.Created.{HasCreated, IsUncreated}
use Rattle.disk_server.specs.declared.mark.SyncMark.{SyncMark}
use Rattle.disk_commands.specs.Files.{DiskFileAnswers, Kept, LeavesNoPart, Opened, OpensOnce, to_look}
use Rattle.disk_commands.specs.Opening.{OpensMarked}
use Rattle.disk_commands.specs.Ready.{access_of}
use Rattle.disk_commands.specs.Serve.{HasNotServed, HasServedAt}
use Rattle.disk_commands.specs.Text.{IsDiskFaultTold}
use Rattle.disk_commands.specs.Told.{HasTold, IsDiskUntold, IsPrintedInPart}

-- WHAT A RUN MEETS AND LEAVES: the disks that were put in their places, what was made beside one, the dies that were to be opened, what is left to be read, what was printed, and what standard error has
pub record Around : Type 0 where
  pub kept : Option (List Kept)
  pub part : Option Bool
  pub opened : Option (List Opened)
  pub input : Option (List ℕ)
  pub out : Option (List ℕ)
  pub err : Option (List ℕ)

-- ---- each command, by its answer

-- a text was printed, or that failed
abbrev pub PrintsText : (text : List ℕ) → (old new : Around) → Result (Unit {0}) DiskCommandFault → Type 0
PrintsText text old new (Ok done) = Appends old.out new.out text
PrintsText text old new (Err told) = IsPrintedInPart text old.out new.out told

-- a disk was made, or none
abbrev pub Creates : {S : Type 0} → (S → Held) → (honest : S → Bool) → (failed : S → ℕ) → DiskFileAnswers → CreateWords → (old new : Around) → Result (Unit {0}) DiskCommandFault → Type 0
Creates held honest failed a words old new (Ok done) = HasCreated held honest a words old.kept new.kept
Creates held honest failed a words old new (Err told) = IsUncreated held honest failed a words told × (new.kept ≡ old.kept)

-- it was told what a disk is, or not
abbrev pub TellsInfo : {S : Type 0} → (S → Held) → (honest : S → Bool) → (mended : S → Mended) → (failed : S → ℕ) → DiskFileAnswers → InfoWords → (old new : Around) → Result (Unit {0}) DiskCommandFault → Type 0
TellsInfo held honest mended failed a words old new (Ok done) = HasTold held honest mended a words old.out new.out
TellsInfo held honest mended failed a words old new (Err told) = IsDiskUntold held honest mended failed a words old.out new.out told

-- all of a disk was looked at, or not; or sectors are lost
abbrev pub Checks : {S : Type 0} → (S → Held) → (honest : S → Bool) → (failed : S → ℕ) → DiskFileAnswers → InfoWords → (old new : Around) → Result (Unit {0}) DiskCommandFault → Type 0
Checks held honest failed a words old new (Ok done) = HasChecked held honest a words 0 old.out new.out
Checks held honest failed a words old new (Err told) = IsUnclean held honest failed a words old.out new.out told

-- WHAT THE WORDS ASK FOR WAS DONE, or not for the reason that is answered. Of what it does not name nothing changes; but of a part beside a path, which `create` alone makes, that is said of `create` alone
abbrev pub DoesAsked : {S Y K : Type 0} → (S → Held) → (honest full : S → Bool) → (mended : S → Mended) → (failed : S → ℕ) → (synced missed : Y → ℕ) → (marked : Y → SyncMark) → (kept : K → List Bool) → (says : K → List ℕ) → (unlisted : K → ℕ) → DiskFileAnswers → DiskWords → (old new : Around)
    → Result (Unit {0}) DiskCommandFault → Type 0
DoesAsked held honest full mended failed synced missed marked kept says unlisted a (asked.Create words) old new result = Creates held honest failed a words old new result × (new.out ≡ old.out) × (new.input ≡ old.input) × (new.opened ≡ old.opened) × (new.err ≡ old.err)
    × LeavesNoPart old.part new.part
DoesAsked held honest full mended failed synced missed marked kept says unlisted a (asked.Serve words) old new result =
    (HasServedAt held honest full mended failed synced missed marked kept says a words old.input new.input old.out new.out old.err new.err result ⊎ HasNotServed held honest failed missed kept says unlisted a words old.out new.out old.err new.err result) × (new.kept ≡ old.kept)
    × OpensMarked a words.disk.now (access_of words) old.opened new.opened
DoesAsked held honest full mended failed synced missed marked kept says unlisted a (asked.Info words) old new result = TellsInfo held honest mended failed a words old new result × (new.kept ≡ old.kept) × (new.input ≡ old.input)
    × OpensOnce words.disk.now to_look old.opened new.opened × (new.err ≡ old.err)
DoesAsked held honest full mended failed synced missed marked kept says unlisted a (asked.Check words) old new result = Checks held honest failed a words old new result × (new.kept ≡ old.kept) × (new.input ≡ old.input)
    × OpensOnce words.disk.now to_look old.opened new.opened × (new.err ≡ old.err)
DoesAsked held honest full mended failed synced missed marked kept says unlisted a (asked.Text text) old new result = PrintsText (string_bytes text) old new result × (new.kept ≡ old.kept) × (new.input ≡ old.input) × (new.opened ≡ old.opened) × (new.err ≡ old.err)

-- THE WORDS ARE NO COMMAND, or memory for them was refused: nothing was done
pub record AsksNothing (words : List (List ℕ)) (old new : Around) (result : Result (Unit {0}) DiskCommandFault) : Type 0 where
  pub told : DiskCommandFault
  pub is : result ≡ Err told
  pub why : ((told ≡ fault.NoSuchCommand) × IsNoDiskCommand words) ⊎ (told ≡ fault.OutOfMemory)
  pub same : new ≡ old

-- ---- all of it

abbrev pub ObeysDiskWords : {S Y K : Type 0} → (S → Held) → (honest full : S → Bool) → (mended : S → Mended) → (failed : S → ℕ) → (synced missed : Y → ℕ) → (marked : Y → SyncMark) → (kept : K → List Bool) → (says : K → List ℕ) → (unlisted : K → ℕ) → DiskFileAnswers
    → (words : List (List ℕ)) → (old new : Around) → Result (Unit {0}) DiskCommandFault → Type 0
ObeysDiskWords held honest full mended failed synced missed marked kept says unlisted a words old new result =
    AsksNothing words old new result
    ⊎ ((found : DiskWords) × AsksDiskProgram words found × DoesAsked held honest full mended failed synced missed marked kept says unlisted a found old new result)

-- status 0 where it was done, with no more on standard error; else the fault's line there, and its status
abbrev pub IsAnswered : Result (Unit {0}) DiskCommandFault → (told telling : Option (List ℕ)) → (status : ℕ) → Type 0
IsAnswered (Ok done) told telling status = (status ≡ 0) × (telling ≡ told)
IsAnswered (Err why) told telling status = IsDiskFaultTold why told telling status

-- the same with this on standard error
abbrev pub with_err : Around → Option (List ℕ) → Around
with_err around told = record around { err = told }

-- the command leaves all so, but for the fault's line
pub record DiskCommandRuns {S Y K : Type 0} (held : S → Held) (honest full : S → Bool) (mended : S → Mended) (failed : S → ℕ) (synced missed : Y → ℕ) (marked : Y → SyncMark) (kept : K → List Bool) (says : K → List ℕ) (unlisted : K → ℕ) (a : DiskFileAnswers) (words : List (List ℕ))
    (old new : Around) (status : ℕ) : Type 0 where
  pub result : Result (Unit {0}) DiskCommandFault
  pub told : Option (List ℕ)
  pub obeys : ObeysDiskWords held honest full mended failed synced missed marked kept says unlisted a words old (with_err new told) result
  pub answered : IsAnswered result told new.err status
