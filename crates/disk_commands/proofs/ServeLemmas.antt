-- How a session ends, and what that comes to.
use Rattle.std.proofs.Common.{◌≡◌, ◌⊎◌, inl, inr, ℕ, Bool, true, false, List, [], Option, Result, Ok, Err, refl, sym, ap, ◌∙◌, subst}
use Rattle.std.specs.Prelude.{IfErr}
use Rattle.std.proofs.lemmas.Bool.{true≢false}
use Rattle.std.specs.Borrow.{Bor}
use Rattle.std.specs.Io.KnownBytes.{Keeps}
use Rattle.request_stream.specs.declared.reply.ServeFault.{ServeFault}
use Rattle.file_die.specs.Store.{Held}
use Rattle.coded_store.specs.declared.coded.Mended.{Mended}
use Rattle.disk_server.specs.declared.guarded.GuardedSectors.{GuardedSectors}
use Rattle.disk_server.specs.declared.mark.SyncMark.{SyncMark}
use Rattle.disk_server.specs.Reopened.{Reopened, holds_in, next_to_program, takes_in}
use Rattle.disk_server.specs.Guarded.{PassesOn, ReadsGuarded}
use Rattle.nbd_stream.specs.declared.fault.DiskFault.{DiskFault as NbdFault}
use Rattle.nbd_stream.specs.declared.request.StreamEnd.{StreamEnd}
use Rattle.nbd_stream.specs.declared.request.StreamEnd.TheVariants as end
use Rattle.nbd_stream.specs.declared.task.Task.{Task}
use Rattle.nbd_stream.specs.declared.task.Task.TheVariants.{Flush}
use Rattle.nbd_stream.specs.Disk.{Contents, PerformsTask, answer_from}
use Rattle.nbd_stream.specs.declared.export.Export.{Export}
use Rattle.nbd_stream.specs.Transmission.{Serves}
use Rattle.disk_commands.specs.declared.serve.Terms.{Terms}
use Rattle.disk_commands.specs.declared.shape_text.DiskText.{DiskText}
use Rattle.disk_commands.specs.declared.words.DiskServeWords.{DiskServeWords}
use Rattle.disk_server.specs.declared.synced.SyncedDisk.{SyncedDisk}
use Rattle.disk_server.specs.Synced.{Closes}
use Rattle.disk_commands.specs.declared.text.DiskCommandFault.{DiskCommandFault}
use Rattle.disk_commands.specs.declared.text.DiskCommandFault.TheVariants as fault
use Rattle.disk_commands.specs.Damage.{NamesAll}
use Rattle.disk_commands.specs.Files.{DiskFileAnswers}
use Rattle.disk_commands.specs.Ready.{IsNoneOf, IsNotOpened, IsReadyAt, IsUnkeptBy, IsUnreadyAt, keeps_mark}
use Rattle.disk_commands.specs.Serve.{HasNotServed, HasReadDisk, HasServedAt, HasServedDisk, HasServedOn, IsDiskClosed, ServedBy, does_in, end_of, reads_in, rests_in, contents_once_guarded, terms_told, told_at_end}

-- by how the disk was closed
pub closed : {D Y : Type 0} (contents : D → Contents) (honest : D → Bool) (does : D → Task → Result (Unit {0}) NbdFault → D → Type 0) (next : D → ℕ) (takes : D → Bool) (synced failed : Y → ℕ) (marked : Y → SyncMark)
    (counts : Bool) (path : Bor (List ℕ)) (last left : SyncedDisk D Y) (answer : Result StreamEnd ServeFault) (done said : Result (Unit {0}) NbdFault) (result : Result (Unit {0}) DiskCommandFault)
    → PerformsTask (λ s. contents s.disk) (λ s. honest s.disk) (λ _. false) Flush [] last (answer_from done []) left → Closes does synced failed marked next takes counts last done left
    → done ≡ said → result ≡ told_at_end said path answer → IsDiskClosed contents honest does next takes synced failed marked counts path last answer result
closed contents honest does next takes synced failed marked counts path last left answer done said result performs closes is told =
    record { done = done; left = left; performs = performs; closes = closes; told = subst (λ d. result ≡ told_at_end d path answer) (sym is) told }

-- a disk that was only read, and one that was written
pub was_read : {D Y : Type 0} (contents : D → Contents) (honest : D → Bool) (does : D → Task → Result (Unit {0}) NbdFault → D → Type 0) (rests : D → Result (Unit {0}) NbdFault → D → Type 0) (reads : D → D → Type 0)
    (next : D → ℕ) (takes : D → Bool) (synced failed : Y → ℕ) (marked : Y → SyncMark)
    (terms : Terms) (path : Bor (List ℕ)) (disk : D) (syncs : Y) (unread left before after : Option (List ℕ)) (result : Result (Unit {0}) DiskCommandFault) → terms.offer.read_only ≡ true
    → HasReadDisk contents honest reads terms disk unread left before after result → HasServedOn contents honest does rests reads next takes synced failed marked terms path disk syncs unread left before after result
was_read contents honest does rests reads next takes synced failed marked terms path disk syncs unread left before after result is =
    subst (λ b. ServedBy b contents honest does rests reads next takes synced failed marked terms path disk syncs unread left before after result) (sym is)

pub was_written : {D Y : Type 0} (contents : D → Contents) (honest : D → Bool) (does : D → Task → Result (Unit {0}) NbdFault → D → Type 0) (rests : D → Result (Unit {0}) NbdFault → D → Type 0) (reads : D → D → Type 0)
    (next : D → ℕ) (takes : D → Bool) (synced failed : Y → ℕ) (marked : Y → SyncMark)
    (terms : Terms) (path : Bor (List ℕ)) (disk : D) (syncs : Y) (unread left before after : Option (List ℕ)) (result : Result (Unit {0}) DiskCommandFault) → terms.offer.read_only ≡ false
    → HasServedDisk contents honest does rests next takes synced failed marked terms path disk syncs unread left before after result
    → HasServedOn contents honest does rests reads next takes synced failed marked terms path disk syncs unread left before after result
was_written contents honest does rests reads next takes synced failed marked terms path disk syncs unread left before after result is =
    subst (λ b. ServedBy b contents honest does rests reads next takes synced failed marked terms path disk syncs unread left before after result) (sym is)

-- a session with a buffer of just so many bytes
pub limited : {D : Type 0} (contents : D → Contents) (honest calm : D → Bool) (does : D → Task → Result (Unit {0}) NbdFault → D → Type 0) (rests : D → Result (Unit {0}) NbdFault → D → Type 0) (e : Export) (room most : ℕ) (first last : D)
    (unread left before after : Option (List ℕ)) (result : Result StreamEnd ServeFault) → room ≡ most
    → Serves contents honest calm does rests e room first last unread left before after result → Serves contents honest calm does rests e most first last unread left before after result
limited contents honest calm does rests e room most first last unread left before after result is = subst (λ n. Serves contents honest calm does rests e n first last unread left before after result) is

-- it was served, or memory for its requests was refused
pub served_at : {S Y K : Type 0} (held : S → Held) (honest full : S → Bool) (mended_in : S → Mended) (failed : S → ℕ) (synced missed : Y → ℕ)
    (marked : Y → SyncMark) (kept : K → List Bool) (says : K → List ℕ) (unlisted : K → ℕ) (a : DiskFileAnswers) (words : DiskServeWords) (told : DiskText)
    (mended : Mended)
    (disk : GuardedSectors (Reopened S) K) (syncs : Y) (terms : Terms) (unread left before after telling told_after : Option (List ℕ)) (result : Result (Unit {0}) DiskCommandFault)
    → IsReadyAt held honest failed mended_in marked kept says a words.disk.now words.read_only words.sync_always told mended disk syncs → NamesAll disk.lost.items told.shape.code mended telling told_after → terms ≡ terms_told told words.read_only
    → HasServedOn (contents_once_guarded held honest failed) (λ d. holds_in honest d.sectors) (does_in held honest full failed) (PassesOn (rests_in held honest full failed)) (ReadsGuarded (reads_in held honest failed))
    (λ d. next_to_program d.sectors) (λ d. takes_in d.sectors) synced missed marked terms words.disk disk syncs unread left before after result
    ⊎ ((result ≡ Err fault.OutOfMemory) × Keeps before after)
    → HasServedAt held honest full mended_in failed synced missed marked kept says a words unread left before after telling told_after result ⊎ HasNotServed held honest failed missed kept says unlisted a words before after telling told_after result
served_at held honest full mended_in failed synced missed marked kept says unlisted a words told mended disk syncs terms unread left before after telling told_after result at named is (inl h) =
    inl (record {
      told = told;
      disk = disk;
      syncs = syncs;
      mended = mended;
      at = at;
      named = named;
      served = subst (λ t. HasServedOn (contents_once_guarded held honest failed) (λ d. holds_in honest d.sectors) (does_in held honest full failed) (PassesOn (rests_in held honest full failed)) (ReadsGuarded (reads_in held honest failed))
          (λ d. next_to_program d.sectors) (λ d. takes_in d.sectors) synced missed marked t words.disk disk syncs unread left before after result) is h;
    })
served_at held honest full mended_in failed synced missed marked kept says unlisted a words told mended disk syncs terms unread left before after telling told_after result at named is (inr h) =
    inr (record { told = fault.OutOfMemory; is = h.0; why = inr (inr (inr tt)); silent = h.1; unnamed = inr tt })

-- ---- how it is told that a stream failed

abbrev pub is_stream : DiskCommandFault → Bool
is_stream fault.Stream = true
is_stream _ = false

abbrev pub tells_stream : Result (Unit {0}) DiskCommandFault → Bool
tells_stream (Ok done) = false
tells_stream (Err told) = is_stream told

abbrev pub told_as : DiskCommandFault → Result (Unit {0}) DiskCommandFault
told_as told = Err told

another : (P : Type 0) (one other : Result (Unit {0}) DiskCommandFault) → tells_stream one ≡ false → tells_stream other ≡ true → one ≡ other → P
another P one other quiet told is = absurd (true≢false (sym told ∙ (sym (ap tells_stream is) ∙ quiet)))

-- a session that ended so was stopped
pub stops_ended : (P : ServeFault → Type 0) (answer : Result StreamEnd ServeFault) (result : Result (Unit {0}) DiskCommandFault) → IfErr answer P → result ≡ end_of answer → result ≡ told_as fault.Stream → (e : ServeFault) × P e
stops_ended P (Err e) result stopped is told = (e, stopped)
stops_ended P (Ok end.Boundary) result stopped is told = another _ (end_of (Ok end.Boundary)) (told_as fault.Stream) refl refl (sym is ∙ told)
stops_ended P (Ok end.Disconnected) result stopped is told = another _ (end_of (Ok end.Disconnected)) (told_as fault.Stream) refl refl (sym is ∙ told)
stops_ended P (Ok end.Unfinished) result stopped is told = another _ (end_of (Ok end.Unfinished)) (told_as fault.Stream) refl refl (sym is ∙ told)
stops_ended P (Ok end.BadFrame) result stopped is told = another _ (end_of (Ok end.BadFrame)) (told_as fault.Stream) refl refl (sym is ∙ told)

pub stops_closed : (P : ServeFault → Type 0) (done : Result (Unit {0}) NbdFault) (path : Bor (List ℕ)) (answer : Result StreamEnd ServeFault) (result : Result (Unit {0}) DiskCommandFault) → IfErr answer P → result ≡ told_at_end done path answer
    → result ≡ told_as fault.Stream → (e : ServeFault) × P e
stops_closed P (Ok done) path answer result stopped is told = stops_ended P answer result stopped is told
stops_closed P (Err e) path answer result stopped is told = another _ (told_as (fault.Device path)) (told_as fault.Stream) refl refl (sym is ∙ told)

abbrev told_in : Result (Unit {0}) DiskCommandFault → DiskCommandFault
told_in (Ok done) = fault.OutOfMemory
told_in (Err told) = told

-- what says why a disk is not ready tells of no stream
pub unready_stops : {S Y K : Type 0} (P : Type 0) (held : S → Held) (honest : S → Bool) (failed : S → ℕ) (missed : Y → ℕ) (kept : K → List Bool) (says : K → List ℕ) (unlisted : K → ℕ) (a : DiskFileAnswers) (path : List ℕ) (read_only : Bool) (told : DiskCommandFault)
    → IsUnreadyAt held honest failed missed kept says unlisted a path read_only told → told_as told ≡ told_as fault.Stream → P
unready_stops {S} {Y} {K} P held honest failed missed kept says unlisted a path read_only told why is = absurd (by (subst (IsUnreadyAt held honest failed missed kept says unlisted a path read_only) (ap told_in is) why))
  where
    unkept : (b : Bool) → ¬ IsUnkeptBy b missed a path fault.Stream
    unkept true (inl h) = h
    unkept true (inr h) = h
    unkept false h = h

    unopened : (h : IsNotOpened held honest failed missed kept says unlisted a path read_only fault.Stream)
        → IsNoneOf held honest failed kept unlisted path read_only h.told h.found h.store h.lost h.place h.left fault.Stream ⊎ IsUnkeptBy (keeps_mark read_only h.told.marked) missed a path fault.Stream → ⊥
    unopened h (inl none) = none
    unopened h (inr missing) = unkept (keeps_mark read_only h.told.marked) missing

    by : ¬ IsUnreadyAt held honest failed missed kept says unlisted a path read_only fault.Stream
    by (inl (inl (inl h))) = h
    by (inl (inl (inr h))) = h.2
    by (inl (inr (inl h))) = h
    by (inl (inr (inr (inl h)))) = h.2
    by (inl (inr (inr (inr h)))) = h
    by (inr (inl h)) = h
    by (inr (inr (inl h))) = unopened h h.unopened
    by (inr (inr (inr h))) = h
