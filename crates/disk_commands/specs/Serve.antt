-- A disk that was served to one client.
use Rattle.std.specs.Prelude.{◌≡◌, ℕ, ◌+◌, ◌-◌, ◌*◌, ◌/◌, ◌^◌, ◌⊎◌, nat_le, Bool, true, false, List, [], length, Option, None, Result, Ok, Err, if◌then◌else◌}
use Rattle.std.specs.Borrow.{Bor}
use Rattle.std.specs.Io.KnownBytes.{Keeps}
use Rattle.page_layout.specs.declared.geometry.Geometry.{Geometry}
use Rattle.page_layout.specs.Geometry.{waiting_at}
use Rattle.request_stream.specs.declared.reply.ServeFault.{ServeFault}
use Rattle.file_die.specs.Store.{Held}
use Rattle.coded_store.specs.declared.coded.Mended.{Mended}
use Rattle.disk_server.specs.Asked.{AsksSectors}
use Rattle.disk_server.specs.Reopened.{Reopened, AsksDevice, ReadsDevice, changes_in, contents_in, flushes_of, holds_in, next_to_program, reads_of, rests_of, takes_in}
use Rattle.nbd_stream.specs.declared.fault.DiskFault.{DiskFault as NbdFault}
use Rattle.nbd_stream.specs.declared.fault.DiskFault.TheVariants as nbd
use Rattle.nbd_stream.specs.declared.request.StreamEnd.{StreamEnd}
use Rattle.nbd_stream.specs.declared.request.StreamEnd.TheVariants as end
use Rattle.nbd_stream.specs.declared.task.Task.{Task}
use Rattle.nbd_stream.specs.declared.task.Task.TheVariants.{Flush}
use Rattle.nbd_stream.specs.Disk.{Contents, PerformsTask, answer_from}
use Rattle.nbd_stream.specs.Transmission.{Serves}
use Rattle.disk_commands.specs.declared.serve.Terms.{Terms}
use Rattle.disk_commands.specs.declared.shapes.DiskShape.{DiskShape}
use Rattle.disk_commands.specs.declared.words.DiskServeWords.{DiskServeWords}
use Rattle.disk_server.specs.declared.served.Offer.{Offer}
use Rattle.disk_server.specs.declared.synced.SyncedDisk.{SyncedDisk}
use Rattle.disk_server.specs.declared.synced.SyncPace.{SyncPace}
use Rattle.disk_server.specs.declared.mark.SyncMark.{SyncMark}
use Rattle.disk_server.specs.Synced.{Closes, RestsSynced, SyncsTask, export_of}
use Rattle.disk_server.specs.Reading.{OnlyAsksReads, RestsNever}
use Rattle.request_stream.specs.Streams.{HasStopped}
use Rattle.nbd_stream.specs.Through.{Through}
use Rattle.disk_commands.specs.declared.text.DiskCommandFault.{DiskCommandFault}
use Rattle.disk_commands.specs.declared.text.DiskCommandFault.TheVariants as fault
use Rattle.disk_commands.specs.Files.{DiskFileAnswers}
use Rattle.disk_commands.specs.declared.shape_text.DiskText.{DiskText}
use Rattle.disk_commands.specs.Damage.{NamesAll}
use Rattle.disk_commands.specs.Ready.{IsReadyAt, IsUnreadyAt}
use Rattle.disk_commands.specs.Told.{HasPrintingFailed}
use Rattle.disk_server.specs.declared.guarded.GuardedSectors.{GuardedSectors}
use Rattle.disk_server.specs.Guarded.{ChangesGuarded, PassesOn, ReadsGuarded, guarded_contents}

-- ---- what the client is told

-- the requests that cost the least are those of a sector, where a sector has 512 bytes or more; none has more than a megabyte
abbrev pub offer_of : Geometry → (read_only : Bool) → Offer
offer_of g read_only = record { read_only = read_only; preferred = if nat_le 512 g.data_bytes then g.data_bytes else 4096; maximum = 1048576 }

-- WHAT MAY BE CHANGED BETWEEN TWO SYNCS of the file. Where the host loses power no more is stale then than was at the sync and was changed since: all of it has room in
-- some cache of 65536 entries, beside what the disk's cache has not written back, the sectors that wait, the copies of two blocks, those of two that it has more room for where it was opened anew, and what one request changes
abbrev pub pace_of : DiskShape → SyncPace
pace_of s = record {
  piece = s.geometry.data_bytes;
  most = if nat_le s.geometry.sectors 65536 then 2 ^ 64 - 1 else 65536 - (s.cache + (waiting_at s.geometry s.share + (s.geometry.pages * 4 + (1048576 / s.geometry.data_bytes + 1))));
}

-- by what is told beside it: whether a mark of it counts is told there
abbrev pub terms_told : DiskText → (read_only : Bool) → Terms
terms_told told read_only = record { offer = offer_of told.shape.geometry read_only; pace = pace_of told.shape; marked = told.marked }

-- ---- how it ended

-- by how the session did: the client's bytes are no requests, or a stream failed
abbrev pub end_of : Result StreamEnd ServeFault → Result (Unit {0}) DiskCommandFault
end_of (Ok end.Boundary) = Ok tt
end_of (Ok end.Disconnected) = Ok tt
end_of (Ok end.Unfinished) = Ok tt
end_of (Ok end.BadFrame) = Err fault.BadFrame
end_of (Err e) = Err fault.Stream

-- WHERE IT IS TOLD THAT A STREAM FAILED the last call of the client's input or output failed, or as many requests were read as can be counted
abbrev pub StreamStops : {I O : Type 0} → (reads : I → I → Type 0) → (writes : O → O → Type 0) → (unread left : Option (List ℕ)) → I → O → Result (Unit {0}) DiskCommandFault → Type 0
StreamStops reads writes unread left input out result = result ≡ Err fault.Stream → (e : ServeFault) × HasStopped 16 reads writes unread left input out e

-- but a disk that was not closed is told first
abbrev pub told_at_end : Result (Unit {0}) NbdFault → Bor (List ℕ) → Result StreamEnd ServeFault → Result (Unit {0}) DiskCommandFault
told_at_end (Ok done) path answer = end_of answer
told_at_end (Err e) path answer = Err (fault.Device path)

-- THE DISK IS CLOSED as its session ends: it is flushed, as the device says, and that synced and marked; unless its mark, where one counts, says that all of it is
pub record IsDiskClosed {D Y : Type 0} (contents : D → Contents) (honest : D → Bool) (does : D → Task → Result (Unit {0}) NbdFault → D → Type 0) (next : D → ℕ) (takes : D → Bool)
    (synced failed : Y → ℕ) (marked : Y → SyncMark) (counts : Bool) (path : Bor (List ℕ)) (last : SyncedDisk D Y) (answer : Result StreamEnd ServeFault) (result : Result (Unit {0}) DiskCommandFault) : Type 0 where
  pub done : Result (Unit {0}) NbdFault
  pub left : SyncedDisk D Y
  pub performs : PerformsTask (λ s. contents s.disk) (λ s. honest s.disk) (λ _. false) Flush [] last (answer_from done []) left
  pub closes : Closes does synced failed marked next takes counts last done left
  pub told : result ≡ told_at_end done path answer

-- ---- all of it

-- A DISK THAT WAS SERVED to one client on these terms, and then closed. What each task was to its syncs, and what it asked of the device, `SyncsTask` says
pub record HasServedDisk {D Y : Type 0} (contents : D → Contents) (honest : D → Bool) (does : D → Task → Result (Unit {0}) NbdFault → D → Type 0) (rests : D → Result (Unit {0}) NbdFault → D → Type 0)
    (next : D → ℕ) (takes : D → Bool) (synced failed : Y → ℕ) (marked : Y → SyncMark)
    (terms : Terms) (path : Bor (List ℕ)) (disk : D) (syncs : Y) (unread left before after : Option (List ℕ)) (result : Result (Unit {0}) DiskCommandFault) : Type 0 where
  pub first : SyncedDisk D Y
  pub disk_is : first.disk ≡ disk
  pub syncs_is : first.syncs ≡ syncs
  pub pace_is : first.pace ≡ terms.pace
  pub none_changed : first.unsynced ≡ 0
  pub none_failed : first.failed ≡ false
  pub last : SyncedDisk D Y
  pub answer : Result StreamEnd ServeFault
  pub serves : Serves (λ s. contents s.disk) (λ s. honest s.disk) (λ _. false) (SyncsTask does synced failed marked next) (RestsSynced rests)
      (export_of terms.offer (length (contents first.disk).bytes)) terms.offer.maximum first last unread left before after answer
  pub ends : IsDiskClosed contents honest does next takes synced failed marked terms.marked path last answer result

-- A DISK THAT WAS ONLY READ by one client: what stands under it was asked for reads of its sectors, and for nothing else
pub record HasReadDisk {D : Type 0} (contents : D → Contents) (honest : D → Bool) (reads : D → D → Type 0)
    (terms : Terms) (disk : D) (unread left before after : Option (List ℕ)) (result : Result (Unit {0}) DiskCommandFault) : Type 0 where
  pub last : D
  pub answer : Result StreamEnd ServeFault
  pub serves : Serves contents honest (λ _. false) (OnlyAsksReads reads) RestsNever (export_of terms.offer (length (contents disk).bytes)) terms.offer.maximum disk last unread left before after answer
  pub only_read : Through reads disk last
  pub told : result ≡ end_of answer

-- by whether it was to be read-only
abbrev pub ServedBy : {D Y : Type 0} → (read_only : Bool) → (contents : D → Contents) → (honest : D → Bool) → (does : D → Task → Result (Unit {0}) NbdFault → D → Type 0)
    → (rests : D → Result (Unit {0}) NbdFault → D → Type 0) → (reads : D → D → Type 0) → (next : D → ℕ) → (takes : D → Bool) → (synced failed : Y → ℕ) → (marked : Y → SyncMark)
    → (terms : Terms) → (path : Bor (List ℕ)) → (disk : D) → (syncs : Y) → (unread left before after : Option (List ℕ)) → Result (Unit {0}) DiskCommandFault → Type 0
ServedBy true contents honest does rests reads next takes synced failed marked terms path disk syncs unread left before after result = HasReadDisk contents honest reads terms disk unread left before after result
ServedBy false contents honest does rests reads next takes synced failed marked terms path disk syncs unread left before after result =
    HasServedDisk contents honest does rests next takes synced failed marked terms path disk syncs unread left before after result

abbrev pub HasServedOn : {D Y : Type 0} → (contents : D → Contents) → (honest : D → Bool) → (does : D → Task → Result (Unit {0}) NbdFault → D → Type 0)
    → (rests : D → Result (Unit {0}) NbdFault → D → Type 0) → (reads : D → D → Type 0) → (next : D → ℕ) → (takes : D → Bool) → (synced failed : Y → ℕ) → (marked : Y → SyncMark)
    → (terms : Terms) → (path : Bor (List ℕ)) → (disk : D) → (syncs : Y) → (unread left before after : Option (List ℕ)) → Result (Unit {0}) DiskCommandFault → Type 0
HasServedOn contents honest does rests reads next takes synced failed marked terms path disk syncs unread left before after result =
    ServedBy terms.offer.read_only contents honest does rests reads next takes synced failed marked terms path disk syncs unread left before after result

-- ---- the disk

-- what a rest of such a disk is
abbrev pub rests_in : {S : Type 0} → (S → Held) → (honest full : S → Bool) → (failed : S → ℕ) → Reopened S → Result (Unit {0}) NbdFault → Reopened S → Type 0
rests_in held honest full failed = AsksDevice held honest full failed (rests_of held honest failed) nbd.Failed

-- what a read of it leaves: its die is asked for reads, and programs and erases nothing
abbrev pub reads_in : {S : Type 0} → (S → Held) → (honest : S → Bool) → (failed : S → ℕ) → Reopened S → Reopened S → Type 0
reads_in held honest failed = ReadsDevice (reads_of held honest failed)

-- what a flush of it is
abbrev pub flushes_in : {S : Type 0} → (S → Held) → (honest full : S → Bool) → (failed : S → ℕ) → Reopened S → Result (Unit {0}) NbdFault → Reopened S → Type 0
flushes_in held honest full failed = AsksDevice held honest full failed (flushes_of held honest failed) nbd.Failed

-- what it shows, once its lost sectors are guarded, and what a task asks of it
abbrev pub contents_once_guarded : {S K : Type 0} → (S → Held) → (honest : S → Bool) → (failed : S → ℕ) → GuardedSectors (Reopened S) K → Contents
contents_once_guarded held honest failed = guarded_contents (contents_in held honest failed) (λ d. d.size)

abbrev pub does_in : {S K : Type 0} → (S → Held) → (honest full : S → Bool) → (failed : S → ℕ) → GuardedSectors (Reopened S) K → Task → Result (Unit {0}) NbdFault → GuardedSectors (Reopened S) K → Type 0
does_in held honest full failed = AsksSectors (contents_once_guarded held honest failed) (λ d. holds_in honest d.sectors) (ReadsGuarded (reads_in held honest failed)) (ChangesGuarded (changes_in held honest full failed)) (PassesOn (flushes_in held honest full failed))

-- ---- the command

-- IT SERVED: the disk at the path was opened, its lost sectors were named and guarded, what was wrong with its pages was told, and it was served. No byte of a lost sector is one of its array: so a read of one is not answered without an error until it was
-- written or trimmed (`guard_laws`)
pub record HasServedAt {S Y K : Type 0} (held : S → Held) (honest full : S → Bool) (mended_in : S → Mended) (failed : S → ℕ) (synced missed : Y → ℕ) (marked : Y → SyncMark) (kept : K → List Bool) (says : K → List ℕ) (a : DiskFileAnswers) (words : DiskServeWords)
    (unread left before after telling told_after : Option (List ℕ)) (result : Result (Unit {0}) DiskCommandFault) : Type 0 where
  pub told : DiskText
  pub disk : GuardedSectors (Reopened S) K
  pub syncs : Y
  pub mended : Mended
  pub at : IsReadyAt held honest failed mended_in marked kept says a words.disk.now words.read_only words.sync_always told mended disk syncs
  pub named : NamesAll disk.lost.items told.shape.code mended telling told_after
  pub served : HasServedOn (contents_once_guarded held honest failed) (λ d. holds_in honest d.sectors) (does_in held honest full failed) (PassesOn (rests_in held honest full failed)) (ReadsGuarded (reads_in held honest failed))
      (λ d. next_to_program d.sectors) (λ d. takes_in d.sectors) synced missed marked (terms_told told words.read_only) words.disk disk syncs unread left before after result

-- or it did not, and nothing was sent: the disk was not ready. Lost sectors may have been named where that is told, or where a growth was refused
pub record HasNotServed {S Y K : Type 0} (held : S → Held) (honest : S → Bool) (failed : S → ℕ) (missed : Y → ℕ) (kept : K → List Bool) (says : K → List ℕ) (unlisted : K → ℕ) (a : DiskFileAnswers) (words : DiskServeWords) (before after telling told_after : Option (List ℕ))
    (result : Result (Unit {0}) DiskCommandFault) : Type 0 where
  pub told : DiskCommandFault
  pub is : result ≡ Err told
  pub why : IsUnreadyAt held honest failed missed kept says unlisted a words.disk.now words.read_only told
  pub silent : Keeps before after
  pub unnamed : (told_after ≡ telling) ⊎ HasPrintingFailed told
