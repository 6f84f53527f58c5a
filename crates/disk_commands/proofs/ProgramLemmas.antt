-- What each command comes to, by its answer.
use Rattle.std.proofs.Common.{◌≡◌, ℕ, Bool, List}
use Rattle.std.specs.Prelude.{Result, Ok, Err, OnOk, OnErr, IfErr}
use Rattle.std.specs.Io.KnownBytes.{Appends}
use Rattle.file_die.specs.Store.{Held}
use Rattle.coded_store.specs.declared.coded.Mended.{Mended}
use Rattle.disk_commands.specs.declared.words.CreateWords.{CreateWords}
use Rattle.disk_commands.specs.declared.words.InfoWords.{InfoWords}
use Rattle.disk_commands.specs.declared.text.DiskCommandFault.{DiskCommandFault}
use Rattle.disk_commands.specs.Check.{HasChecked, IsUnclean}
use Rattle.disk_commands.specs.Created.{HasCreated, IsUncreated}
use Rattle.disk_commands.specs.Files.{DiskFileAnswers}
use Rattle.disk_commands.specs.Program.{Around, Checks, Creates, PrintsText, TellsInfo}
use Rattle.disk_commands.specs.Told.{HasTold, IsDiskUntold, IsPrintedInPart}

pub creates : {S : Type 0} (held : S → Held) (honest : S → Bool) (failed : S → ℕ) (a : DiskFileAnswers) (words : CreateWords) (old new : Around) (result : Result (Unit {0}) DiskCommandFault)
    → OnOk result (HasCreated held honest a words old.kept new.kept) → IfErr result (IsUncreated held honest failed a words) → OnErr result (new.kept ≡ old.kept)
    → Creates held honest failed a words old new result
creates held honest failed a words old new (Ok done) made fault kept = made
creates held honest failed a words old new (Err told) made fault kept = (fault, kept)

pub tells : {S : Type 0} (held : S → Held) (honest : S → Bool) (mended : S → Mended) (failed : S → ℕ) (a : DiskFileAnswers) (words : InfoWords) (old new : Around) (result : Result (Unit {0}) DiskCommandFault)
    → OnOk result (HasTold held honest mended a words old.out new.out) → IfErr result (IsDiskUntold held honest mended failed a words old.out new.out) → TellsInfo held honest mended failed a words old new result
tells held honest mended failed a words old new (Ok done) printed fault = printed
tells held honest mended failed a words old new (Err told) printed fault = fault

pub checks : {S : Type 0} (held : S → Held) (honest : S → Bool) (failed : S → ℕ) (a : DiskFileAnswers) (words : InfoWords) (old new : Around) (result : Result (Unit {0}) DiskCommandFault)
    → OnOk result (HasChecked held honest a words 0 old.out new.out) → IfErr result (IsUnclean held honest failed a words old.out new.out) → Checks held honest failed a words old new result
checks held honest failed a words old new (Ok done) printed fault = printed
checks held honest failed a words old new (Err told) printed fault = fault

pub prints : (text : List ℕ) (old new : Around) (result : Result (Unit {0}) DiskCommandFault)
    → OnOk result (Appends old.out new.out text) → IfErr result (IsPrintedInPart text old.out new.out) → PrintsText text old new result
prints text old new (Ok done) printed fault = printed
prints text old new (Err told) printed fault = fault
