-- What was printed of a disk, or was not.
use Rattle.std.proofs.Common.{◌≡◌, ℕ, Bool, true, false, List, Option, inl, inr, subst, sym}
use Rattle.std.specs.Prelude.{Result, Ok, Err, IfErr, OnOk}
use Rattle.std.specs.Io.KnownBytes.{Appends}
use Rattle.file_die.specs.Store.{Held}
use Rattle.coded_store.specs.declared.coded.Mended.{Mended}
use Rattle.disk_commands.specs.declared.printed.Info.{Info}
use Rattle.disk_commands.specs.declared.mark.FoundMark.{FoundMark}
use Rattle.disk_commands.specs.declared.shape_text.DiskText.{DiskText}
use Rattle.disk_commands.specs.declared.text.DiskCommandFault.{DiskCommandFault}
use Rattle.disk_commands.specs.declared.text.DiskCommandFault.TheVariants as fault
use Rattle.disk_commands.specs.declared.words.InfoWords.{InfoWords}
use Rattle.disk_commands.specs.Check.{IsUncheckedAt}
use Rattle.disk_commands.specs.Damage.{IsUnlookedAt}
use Rattle.disk_commands.specs.Files.{DiskFileAnswers}
use Rattle.disk_commands.specs.Info.{info_text}
use Rattle.disk_commands.specs.Opening.{IsFileOrMemoryFault}
use Rattle.disk_commands.specs.Ready.{IsNoneOf, IsUnkeptBy}
use Rattle.disk_commands.specs.Told.{HasTold, IsDiskUntold, IsInfoAt, IsPrintedInPart, StopsCommand, StopsTelling, form_of}

pub has_told : {S : Type 0} (held : S → Held) (honest : S → Bool) (mended : S → Mended) (a : DiskFileAnswers) (words : InfoWords) (before after : Option (List ℕ)) (info : Info) (missing text : List ℕ) (result : Result (Unit {0}) DiskCommandFault)
    → IsInfoAt held honest mended a words.disk.now info missing → text ≡ info_text (form_of words.json) info missing
    → OnOk result (Appends before after text) → OnOk result (HasTold held honest mended a words before after)
has_told held honest mended a words before after info missing text (Ok done) at is h =
    record { info = info; missing = missing; at = at; printed = subst (λ t. Appends before after t) is h }
has_told held honest mended a words before after info missing text (Err told) at is h = tt

pub has_not_told : {S : Type 0} (held : S → Held) (honest : S → Bool) (mended : S → Mended) (failed : S → ℕ) (a : DiskFileAnswers) (words : InfoWords) (before after : Option (List ℕ)) (info : Info) (missing text : List ℕ) (result : Result (Unit {0}) DiskCommandFault)
    → IsInfoAt held honest mended a words.disk.now info missing → text ≡ info_text (form_of words.json) info missing
    → IfErr result (IsPrintedInPart text before after) → IfErr result (IsDiskUntold held honest mended failed a words before after)
has_not_told held honest mended failed a words before after info missing text (Ok done) at is h = tt
has_not_told held honest mended failed a words before after info missing text (Err told) at is h =
    inr (record { info = info; missing = missing; at = at; part = subst (λ t. IsPrintedInPart t before after told) is h })

-- ---- why it was not

pub unlooked_stops : {O S : Type 0} (writes : O → O → Type 0) (left : O) (held : S → Held) (honest : S → Bool) (failed : S → ℕ) (a : DiskFileAnswers) (path : List ℕ) (why : DiskCommandFault)
    → IsUnlookedAt held honest failed a path why → StopsCommand writes left a path why
unlooked_stops writes left held honest failed a path (fault.Write told) (inl (inl h)) = inr h.1
unlooked_stops writes left held honest failed a path (fault.Write told) (inl (inr h)) = inr h.2.1
unlooked_stops writes left held honest failed a path (fault.Write told) (inr (inl h)) = absurd h
unlooked_stops writes left held honest failed a path (fault.Write told) (inr (inr (inl h))) = absurd h.2
unlooked_stops writes left held honest failed a path (fault.Write told) (inr (inr (inr h))) = absurd h
unlooked_stops writes left held honest failed a path why h = tt

pub unchecked_stops : {O S : Type 0} (writes : O → O → Type 0) (left : O) (held : S → Held) (honest : S → Bool) (failed : S → ℕ) (a : DiskFileAnswers) (path : List ℕ) (why : DiskCommandFault)
    → IsUncheckedAt held honest failed a path why → StopsCommand writes left a path why
unchecked_stops writes left held honest failed a path why (inl h) = unlooked_stops writes left held honest failed a path why h
unchecked_stops writes left held honest failed a path (fault.Write told) (inr h) = absurd h
unchecked_stops writes left held honest failed a path why (inr h) = tt

pub unlisted_stops : {O : Type 0} (writes : O → O → Type 0) (left : O) (a : DiskFileAnswers) (path : List ℕ) (why : DiskCommandFault) → IsFileOrMemoryFault a path why → StopsCommand writes left a path why
unlisted_stops writes left a path (fault.Write told) h = inr h.1
unlisted_stops writes left a path why h = tt

pub none_stops : {O S K : Type 0} (writes : O → O → Type 0) (out : O) (held : S → Held) (honest : S → Bool) (failed : S → ℕ) (kept : K → List Bool) (unlisted : K → ℕ) (a : DiskFileAnswers) (path : List ℕ) (read_only : Bool) (told : DiskText)
    (found : FoundMark) (store : S) (lost : List Bool) (place left : K) (why : DiskCommandFault) → IsNoneOf held honest failed kept unlisted path read_only told found store lost place left why → StopsCommand writes out a path why
none_stops writes out held honest failed kept unlisted a path read_only told found store lost place left (fault.Write word) h = absurd h
none_stops writes out held honest failed kept unlisted a path read_only told found store lost place left why h = tt

pub unkept_stops : {O Y : Type 0} (writes : O → O → Type 0) (out : O) (keeps : Bool) (missed : Y → ℕ) (a : DiskFileAnswers) (path : List ℕ) (why : DiskCommandFault) → IsUnkeptBy keeps missed a path why → StopsCommand writes out a path why
unkept_stops writes out true missed a path (fault.Write told) (inl h) = inr h.1
unkept_stops writes out true missed a path (fault.Write told) (inr h) = absurd h
unkept_stops writes out false missed a path (fault.Write told) h = absurd h
unkept_stops writes out keeps missed a path why h = tt

-- a write failed
pub told_stops : {O : Type 0} (writes : O → O → Type 0) (left : O) (a : DiskFileAnswers) (path : List ℕ) (why : DiskCommandFault) → StopsTelling writes left why → StopsCommand writes left a path why
told_stops writes left a path (fault.Write told) h = inl h
told_stops writes left a path why h = tt

pub result_stops : {O : Type 0} (writes : O → O → Type 0) (left : O) (a : DiskFileAnswers) (path : List ℕ) (result : Result (Unit {0}) DiskCommandFault) → IfErr result (StopsTelling writes left) → IfErr result (StopsCommand writes left a path)
result_stops writes left a path (Ok done) h = tt
result_stops writes left a path (Err why) h = told_stops writes left a path why h

pub memory_stops : {O : Type 0} (writes : O → O → Type 0) (left : O) (a : DiskFileAnswers) (path : List ℕ) (why : DiskCommandFault) → why ≡ fault.OutOfMemory → StopsCommand writes left a path why
memory_stops writes left a path why is = subst (StopsCommand writes left a path) (sym is) tt
