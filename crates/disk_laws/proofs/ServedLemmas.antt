-- What a server asks of its device of sectors.
use Rattle.std.proofs.Common.{◌≡◌, inl, inr, ◌⊎◌, ℕ, Bool, true, false, List, [], ◌∷◌, ◌++◌, Option, Some, None, Result, Ok, Err, refl, ap, subst, sym}
use Rattle.std.specs.Prelude.{OnErr, OnOk}
use Rattle.std.proofs.lemmas.Bool.{cases_Bool, cases_eq}
use Rattle.nbd_stream.specs.declared.export.Export.{Export}
use Rattle.nbd_stream.specs.declared.fault.DiskFault.{DiskFault}
use Rattle.nbd_stream.specs.declared.reply.RequestError.{RequestError}
use Rattle.nbd_stream.specs.declared.task.Task.{Task}
use Rattle.nbd_stream.specs.declared.task.Task.TheVariants.{Read, Write, Flush, Trim, WriteZeroes}
use Rattle.nbd_stream.specs.Disk.{Contents, asked_as}
use Rattle.nbd_stream.specs.Exchanges.{NbdExchange, RestsBy, Round, TellsBy, ToldEachRound, task_of}
use Rattle.nbd_stream.specs.Through.{Through}
use Rattle.disk_server.specs.declared.mark.SyncMark.{SyncMark}
use Rattle.disk_server.specs.declared.synced.SyncedDisk.{SyncedDisk}
use Rattle.disk_server.specs.Asked.{AsksCall, AsksPiece, AsksSectors, FlushesIf, SetsRange, StepsTo}
use Rattle.disk_server.specs.Synced.{ClearsDonePart, ClearsPart, ClearsParts, EndsCleared, EndsTask, FlushesBy, IsKnownFlushed, RestsSynced, SettlesDisk, SyncsTask}
use Rattle.disk_laws.specs.CallsMade.{IsRunOf, this_call}
use Rattle.disk_laws.specs.Runs.{AsksOneOf}
use Rattle.disk_laws.specs.Served.{ClosedSessionLaw, DonePiece, ServedSessionLaw, behind_asked, closing_asked, closing_flush, done_asked, done_pieces, ends_asked, flush_asked, part_asked, parts_asked, piece_asked, pieces_asked}
use Rattle.disk_laws.specs.Served.{range_asked, reads_made, rest_asked, rounds_asked, syncs_asked, task_asked, tells_asked}
use Rattle.disk_laws.proofs.RunOfLemmas.{run_below, run_joined, run_none, run_once, run_unless}

untrue : false ≡ true → ⊥
untrue e = cc

module _ {S Y : Type 0} (contents : S → Contents) (honest : S → Bool) (reads : S → S → Type 0) (changes flushes rests : S → Result (Unit {0}) DiskFault → S → Type 0)
    (synced failed : Y → ℕ) (marked : Y → SyncMark) (next : S → ℕ) where
  abbrev One : S → S → Type 0
  One = AsksOneOf reads changes flushes rests

  abbrev Does : S → Task → Result (Unit {0}) DiskFault → S → Type 0
  Does = AsksSectors contents honest reads changes flushes

  -- ---- a task

  run_reads : (old new : S) (is : Through reads old new) → IsRunOf One (reads_made contents honest reads changes flushes rests synced failed marked next old new is) old new
  unfolding AsksCall
  run_reads = run_below reads One (λ s. s) (λ a b read. this_call One a b (inl (inl read))) (λ a b read. run_once One a b (inl (inl read)))

  run_flush : (old new : S) (result : Result (Unit {0}) DiskFault) (is : flushes old result new) → IsRunOf One (flush_asked contents honest reads changes flushes rests synced failed marked next old new result is) old new
  unfolding AsksCall
  run_flush old new result is = run_once One old new (inl (inr (inr (result, is))))

  run_piece : (old new : S) (result : Result (Unit {0}) DiskFault) (is : AsksPiece reads changes old result new) → IsRunOf One (piece_asked contents honest reads changes flushes rests synced failed marked next old new result is) old new
  unfolding AsksCall
  run_piece old new result (inl read) = run_once One old new (inl (inl read.1))
  run_piece old new result (inr change) = run_once One old new (inl (inr (inl (result, change))))

  abbrev DoneOne : S → S → Type 0
  DoneOne = DonePiece contents honest reads changes flushes rests synced failed marked next

  run_done_pieces : (old new : S) (is : Through DoneOne old new) → IsRunOf One (done_pieces contents honest reads changes flushes rests synced failed marked next old new is) old new
  run_done_pieces = run_below DoneOne One (λ s. s) (λ a b piece. piece_asked contents honest reads changes flushes rests synced failed marked next a b (Ok tt) piece) (λ a b piece. run_piece a b (Ok tt) piece)

  run_pieces : (old new : S) (result : Result (Unit {0}) DiskFault) (is : StepsTo (AsksPiece reads changes) old result new) → IsRunOf One (pieces_asked contents honest reads changes flushes rests synced failed marked next old new result is) old new
  run_pieces old new (Ok done) is = run_done_pieces old new is
  run_pieces old new (Err e) (mid, before, last) =
      run_joined One old mid new (done_pieces contents honest reads changes flushes rests synced failed marked next old mid before)
      (piece_asked contents honest reads changes flushes rests synced failed marked next mid new (Err e) last)
      (run_done_pieces old mid before)
      (run_piece mid new (Err e) last)

  run_behind : (durable : Bool) (old new : S) (answer result : Result (Unit {0}) DiskFault) (is : OnOk answer (FlushesIf flushes durable old result new)) → OnErr answer ((result ≡ answer) × (new ≡ old))
      → IsRunOf One (behind_asked contents honest reads changes flushes rests synced failed marked next durable old new answer result is) old new
  run_behind true old new (Ok done) result is not_done = run_flush old new result is
  run_behind false old new (Ok done) result is not_done = run_none One old new is.1
  run_behind durable old new (Err e) result is not_done = run_none One old new not_done.1

  run_range : (durable : Bool) (old new : S) (result : Result (Unit {0}) DiskFault) (is : SetsRange reads changes flushes durable old result new) → IsRunOf One (range_asked contents honest reads changes flushes rests synced failed marked next durable old new result is) old new
  run_range durable old new result is =
      run_joined One old is.mid new (pieces_asked contents honest reads changes flushes rests synced failed marked next old is.mid is.answer is.pieces)
      (behind_asked contents honest reads changes flushes rests synced failed marked next durable is.mid new is.answer result is.done)
      (run_pieces old is.mid is.answer is.pieces)
      (run_behind durable is.mid new is.answer result is.done is.not_done)

  run_task : (old new : S) (task : Task) (result : Result (Unit {0}) DiskFault) (is : Does old task result new) → IsRunOf One (task_asked contents honest reads changes flushes rests synced failed marked next old new task result is) old new
  run_task old new (Read offset count) result is = run_reads old new is
  run_task old new (Write offset count durable) result is = run_range durable old new result is
  run_task old new Flush result is = run_flush old new result is
  run_task old new (Trim offset count durable) result is = run_range durable old new result is.calls
  run_task old new (WriteZeroes offset count durable) result is = run_range durable old new result is.calls

  run_part : (offset count : ℕ) (old new : SyncedDisk S Y) (result : Result (Unit {0}) DiskFault) (is : ClearsPart Does synced failed marked next offset count old result new)
      → IsRunOf One (part_asked contents honest reads changes flushes rests synced failed marked next offset count old new result is) old.disk new.disk
  run_part offset count old new result is = run_task old.disk new.disk (Trim is.place is.taken false) is.change.answer is.change.does_so

  run_done : (offset count : ℕ) (old new : SyncedDisk S Y) (is : Through (ClearsDonePart Does synced failed marked next offset count) old new)
      → IsRunOf One (done_asked contents honest reads changes flushes rests synced failed marked next offset count old new is) old.disk new.disk
  run_done offset count =
      run_below (ClearsDonePart Does synced failed marked next offset count) One (λ (s : SyncedDisk S Y). s.disk) (λ a b part. part_asked contents honest reads changes flushes rests synced failed marked next offset count a b (Ok tt) part)
      (λ a b part. run_part offset count a b (Ok tt) part)

  run_parts : (offset count : ℕ) (old new : SyncedDisk S Y) (result : Result (Unit {0}) DiskFault) (is : ClearsParts Does synced failed marked next offset count old result new)
      → IsRunOf One (parts_asked contents honest reads changes flushes rests synced failed marked next offset count old new result is) old.disk new.disk
  run_parts offset count old new (Ok done) is = run_done offset count old new is
  run_parts offset count old new (Err e) (mid, parts, last) =
      run_joined One old.disk mid.disk new.disk (done_asked contents honest reads changes flushes rests synced failed marked next offset count old mid parts)
      (part_asked contents honest reads changes flushes rests synced failed marked next offset count mid new (Err e) last)
      (run_done offset count old mid parts)
      (run_part offset count mid new (Err e) last)

  -- ---- a task of the synced disk

  same_disk : (old new : SyncedDisk S Y) → new ≡ old → new.disk ≡ old.disk
  same_disk old new same = ap (λ (d : SyncedDisk S Y). d.disk) same

  -- the sync behind a range that was cleared asks nothing of the disk
  settled : (durable : Bool) (mid new : SyncedDisk S Y) (answer result : Result (Unit {0}) DiskFault) → OnOk answer (SettlesDisk synced failed marked next durable mid result new) → OnErr answer ((result ≡ answer) × (new ≡ mid)) → new.disk ≡ mid.disk
  settled durable mid new (Ok done) result is none = is.same
  settled durable mid new (Err e) result none is = same_disk mid new is.1

  run_cleared : (offset count : ℕ) (durable : Bool) (old new : SyncedDisk S Y) (result : Result (Unit {0}) DiskFault) (is : EndsCleared Does synced failed marked next durable offset count old result new)
      → IsRunOf One (parts_asked contents honest reads changes flushes rests synced failed marked next offset count old is.mid is.answer is.parts) old.disk new.disk
  run_cleared offset count durable old new result is =
      subst (λ d. IsRunOf One (parts_asked contents honest reads changes flushes rests synced failed marked next offset count old is.mid is.answer is.parts) old.disk d) (sym (settled durable is.mid new is.answer result is.done is.not_done))
      (run_parts offset count old is.mid is.answer is.parts)

  run_ends : (old new : SyncedDisk S Y) (task : Task) (result : Result (Unit {0}) DiskFault) (is : EndsTask Does synced failed marked next old task result new) → IsRunOf One (ends_asked contents honest reads changes flushes rests synced failed marked next old new task result is) old.disk new.disk
  run_ends old new (Read offset count) result is = run_task old.disk new.disk (Read offset count) result is.0
  run_ends old new (Write offset count durable) result is = run_task old.disk new.disk (Write offset count false) is.answer is.does_so
  run_ends old new Flush result is = run_none One old.disk new.disk is.same
  run_ends old new (Trim offset count durable) result is = run_cleared offset count durable old new result is
  run_ends old new (WriteZeroes offset count durable) result is = run_cleared offset count durable old new result is

  run_syncs : (old new : SyncedDisk S Y) (task : Task) (result : Result (Unit {0}) DiskFault) (is : SyncsTask Does synced failed marked next old task result new)
      → IsRunOf One (syncs_asked contents honest reads changes flushes rests synced failed marked next old new task result is) old.disk new.disk
  run_syncs old new task result is =
      run_unless One old.failed (λ going. ends_asked contents honest reads changes flushes rests synced failed marked next old new task result (is.ends going)) old.disk new.disk (λ over. same_disk old new (is.over over).1) (λ going. run_ends old new task result (is.ends going))

  -- ---- rounds

  run_tells : (asked : Result Task RequestError) (old new : SyncedDisk S Y) (x : NbdExchange)
      (is : TellsBy (λ s. contents s.disk) (λ s. honest s.disk) (λ _. false) (SyncsTask Does synced failed marked next) asked old x new) → IsRunOf One (tells_asked contents honest reads changes flushes rests synced failed marked next asked old new x is) old.disk new.disk
  run_tells (Err e) old new x is = run_none One old.disk new.disk (same_disk old new is.1)
  run_tells (Ok task) old new x is = run_syncs old new (asked_as task) is.1.done is.1.does_so

  run_rest : (asked : Result Task RequestError) (rested : Option (Result (Unit {0}) DiskFault)) (old new : SyncedDisk S Y)
      (is : RestsBy (λ s. contents s.disk) (λ s. honest s.disk) (λ _. false) (RestsSynced rests) asked old rested new) → IsRunOf One (rest_asked contents honest reads changes flushes rests synced failed marked next asked rested old new is) old.disk new.disk
  run_rest asked None old new same = run_none One old.disk new.disk (same_disk old new same)
  run_rest asked (Some result) old new (change, idles, inl over) = run_none One old.disk new.disk (same_disk old new over.1.1)
  run_rest asked (Some result) old new (change, idles, inr on) = run_once One old.disk new.disk (inr (result, on.1))

  run_rounds : (e : Export) (old new : SyncedDisk S Y) (xs : List Round)
      (is : ToldEachRound (λ s. contents s.disk) (λ s. honest s.disk) (λ _. false) (SyncsTask Does synced failed marked next) (RestsSynced rests) e old xs new)
      → IsRunOf One (rounds_asked contents honest reads changes flushes rests synced failed marked next e old new xs is) old.disk new.disk
  run_rounds e old new [] same = run_none One old.disk new.disk (same_disk old new same)
  run_rounds e old new (x ∷ xs) (at, one, more) =
      let told = run_tells (task_of e x.exchange.request) old one.mid x.exchange one.tells in
      let rested = run_rest (task_of e x.exchange.request) x.rested one.mid at one.rest in
      let calls = tells_asked contents honest reads changes flushes rests synced failed marked next (task_of e x.exchange.request) old one.mid x.exchange one.tells in
      let rest = rest_asked contents honest reads changes flushes rests synced failed marked next (task_of e x.exchange.request) x.rested one.mid at one.rest in
      run_joined One old.disk at.disk new.disk (calls ++ rest) (rounds_asked contents honest reads changes flushes rests synced failed marked next e at new xs more)
      (run_joined One old.disk one.mid.disk at.disk calls rest told rested)
      (run_rounds e at new xs more)

  pub served_session : ServedSessionLaw contents honest reads changes flushes rests synced failed marked next
  served_session e limit old new unread left before after result (inl ended) = run_none One old.disk new.disk (same_disk old new ended.0)
  served_session e limit old new unread left before after result (inr begins) = run_rounds e old new begins.transmits.rounds begins.transmits.each

  module _ (takes : S → Bool) where
    run_closing : (old new : SyncedDisk S Y) (result : Result (Unit {0}) DiskFault) (is : FlushesBy Does synced failed marked next takes old result new) → IsRunOf One (closing_flush contents honest reads changes flushes rests synced failed marked next takes old new result is) old.disk new.disk
    run_closing old new (Ok done) is = run_flush old.disk new.disk (Ok tt) is.flushed
    run_closing old new (Err e) is = run_flush old.disk new.disk is.answer is.asked

    known_or_not : (counts : Bool) (s : SyncedDisk S Y) → IsKnownFlushed marked next counts s ⊎ (¬ IsKnownFlushed marked next counts s)
    known_or_not false s = inr (λ known. untrue known.0)
    known_or_not true s = elim (cases_eq (marked s.syncs).flushed (next s.disk)) [
      | inl known ↦ inl (refl, known)
      | inr apart ↦ inr (λ known. apart known.1)
    ]

    pub closed_session : ClosedSessionLaw contents honest reads changes flushes rests synced failed marked next takes
    closed_session counts old new result closes = (known_or_not counts old, by (known_or_not counts old))
      where
        by : (known : IsKnownFlushed marked next counts old ⊎ (¬ IsKnownFlushed marked next counts old)) → IsRunOf One (closing_asked contents honest reads changes flushes rests synced failed marked next takes counts old new result closes known) old.disk new.disk
        by (inl known) = run_none One old.disk new.disk (same_disk old new (elim (cases_Bool old.failed) [ inl over ↦ (closes.over over).1 | inr going ↦ (closes.known going known).1 ]))
        by (inr unknown) =
            run_unless One old.failed (λ going. closing_flush contents honest reads changes flushes rests synced failed marked next takes old new result (closes.flushes going unknown)) old.disk new.disk (λ over. same_disk old new (closes.over over).1)
            (λ going. run_closing old new result (closes.flushes going unknown))
