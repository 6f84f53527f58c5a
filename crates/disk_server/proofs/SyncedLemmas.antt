-- A change of a disk that keeps nothing back, and the sync behind it.
use Rattle.std.proofs.Common.{◌≡◌, ◌⊎◌, ◌&&◌, ◌<◌, ◌≤◌, arith, inl, inr, ℕ, Bool, true, false, List, [], Result, Ok, Err, refl, sym, ap, ◌∙◌, subst}
use Rattle.std.specs.Prelude.{slice_index, IfErr, OnOk}
use Rattle.nbd_stream.specs.declared.fault.DiskFault.{DiskFault}
use Rattle.nbd_stream.specs.declared.fault.DiskFault.TheVariants as fault
use Rattle.nbd_stream.specs.declared.reply.RequestError.{RequestError}
use Rattle.nbd_stream.specs.declared.reply.RequestError.TheVariants.{InputOutput}
use Rattle.nbd_stream.specs.declared.task.Task.{Task}
use Rattle.nbd_stream.specs.declared.task.Task.TheVariants.{Flush, Read, Trim, Write, WriteZeroes}
use Rattle.nbd_stream.specs.Disk.{Contents, MayFailWith, PerformsTask, answer_from, error_for, is_in}
use Rattle.std.proofs.lemmas.Bool.{cases_lt}
use Rattle.page_layout.specs.Counter.{HasRisen, counted}
use Rattle.disk_server.specs.declared.mark.SyncMark.{SyncMark}
use
    Rattle.disk_server.specs.Synced.{
      ClearsDonePart,
      ClearsPart,
      ClearsParts,
      CloseLaw,
      Closes,
      CountsRangeChanged,
      SyncsBehindChange,
      EndsSynced,
      EndsTask,
      FlushLaw,
      HasSynced,
      IsKnownFlushed,
      IsLasting,
      FailsUnasked,
      FaultLaw,
      IsToldOf,
      KeepsCount,
      Marks,
      NoneFailed,
      NotesFailedSync,
      AfterFailedSyncLaw,
      SyncedLastLaw,
      SyncsTask,
      UnflushedLaw,
      WriteLaw,
      after_change,
      after_sync,
    }
use Rattle.disk_server.proofs.Joining.{as_task}
use Rattle.disk_server.proofs.Tasks.{performed}
use Rattle.nbd_stream.specs.Through.{Through}
use Rattle.nbd_stream.proofs.ThroughLemmas.{joined, none, once}
use Rattle.disk_server.proofs.SyncLemmas.{no_less, none_then, one_part, part_failed, then_failed, unflushed}
use Rattle.disk_server.specs.declared.synced.SyncedDisk.{SyncedDisk}

abbrev pub Lasts : {D : Type 0} → (D → Contents) → Type 0
Lasts {D} contents = (d : D) → (contents d).durable ≡ (contents d).bytes

-- a call of the disk, of the joined one
pub joined_call : {D Y : Type 0} (contents : D → Contents) (honest calm : D → Bool) (task : Task) (body : List ℕ) (old new : SyncedDisk D Y) (answer : Result (List ℕ) RequestError)
    → PerformsTask contents honest calm task body old.disk answer new.disk → PerformsTask (λ s. contents s.disk) (λ s. honest s.disk) (λ _. false) task body old answer new
joined_call contents honest calm task body old new answer p = performed (λ s. contents s.disk) (λ s. honest s.disk) task body old new answer p.sized p.kept p.back p.fault p.given p.steps

-- and of the joined one, of the disk
pub as_disk : {D Y : Type 0} (contents : D → Contents) (honest : D → Bool) (task : Task) (body : List ℕ) (old new : SyncedDisk D Y) (answer : Result (List ℕ) RequestError)
    → PerformsTask (λ s. contents s.disk) (λ s. honest s.disk) (λ _. false) task body old answer new → PerformsTask contents honest (λ _. false) task body old.disk answer new.disk
as_disk contents honest task body old new answer p = performed contents honest task body old.disk new.disk answer p.sized p.kept p.back p.fault p.given p.steps

module _ {D : Type 0} (contents : D → Contents) (honest calm : D → Bool) (lasts : Lasts contents) (o n : ℕ) (durable : Bool) (old : D) where
  -- a trim that is done lasts, and one that failed is one that was to last
  pub lasting_trim : (mid : D) (answer : Result (List ℕ) RequestError) → PerformsTask contents honest calm (Trim o n false) [] old answer mid → PerformsTask contents honest calm (Trim o n durable) [] old answer mid
  lasting_trim mid answer =
      as_task contents honest calm (Trim o n false) (Trim o n durable) [] [] old mid answer (λ may. may) (λ long. long) (λ its. record { done = its.done; gave = its.gave; torn = its.torn; stays = its.stays; lasts = all answer mid })
    where
      all : (answer : Result (List ℕ) RequestError) (mid : D) → OnOk answer ((place : ℕ) → (durable && is_in o n place) ≡ true → slice_index (contents mid).durable place ≡ slice_index (contents mid).bytes place)
      all (Ok bytes) mid = λ place makes. ap (λ l. slice_index l place) (lasts mid)
      all (Err e) mid = tt

-- what was done, and then failed to be synced
failed_then : {D : Type 0} (contents : D → Contents) (honest calm : D → Bool) (task : Task) (body : List ℕ) (old new : D) (e : DiskFault) → e ≡ fault.Failed → MayFailWith task InputOutput → calm old ≡ false
    → PerformsTask contents honest calm task body old (Ok []) new → PerformsTask contents honest calm task body old (Err (error_for e)) new
failed_then contents honest calm task body old new e is may never p = record {
  sized = p.sized;
  kept = tt;
  back = p.back;
  calm_is = p.calm_is;
  fault = subst (λ x. MayFailWith task (error_for x)) (sym is) may;
  given = tt;
  calmly = λ is_calm. (let no : true ≡ false = sym is_calm ∙ never in (let never' : ⊥ = cc in absurd never'));
  steps = λ h. let its = p.steps h in record {
    done = tt;
    gave = tt;
    torn = λ place. inr (ap (λ l. slice_index l place) its.done);
    stays = its.stays;
    lasts = tt;
  };
}

pub and_synced : {D : Type 0} (contents : D → Contents) (honest calm : D → Bool) (task : Task) (body : List ℕ) (old new : D) (result : Result (Unit {0}) DiskFault) → IfErr result (λ e. e ≡ fault.Failed)
    → MayFailWith task InputOutput → calm old ≡ false → PerformsTask contents honest calm task body old (Ok []) new → PerformsTask contents honest calm task body old (answer_from result []) new
and_synced contents honest calm task body old new (Ok done) is may never p = p
and_synced contents honest calm task body old new (Err e) is may never p = failed_then contents honest calm task body old new e is may never p

-- ---- what a call answers

module _ {D Y : Type 0} (failed : Y → ℕ) where
  -- done, only where the disk was
  pub told_done : (old new : SyncedDisk D Y) (answer : Result (Unit {0}) DiskFault) → IsToldOf failed answer old (Ok tt) new → answer ≡ Ok tt
  told_done old new (Ok done) told = refl
  told_done old new (Err e) told = (let no = told.0 in let never : ⊥ = cc in absurd never)

  -- that no sync failed, or one did
  pub told_notes : (old new : SyncedDisk D Y) (answer result : Result (Unit {0}) DiskFault) → IsToldOf failed answer old result new → NotesFailedSync failed old result new
  told_notes old new (Ok done) (Ok did) told = told
  told_notes old new (Ok done) (Err e) told = inr told.1
  told_notes old new (Err e) (Ok did) told = told.1
  told_notes old new (Err e) (Err other) told = inl told.1

  -- of a disk with a range counted as changed, of the disk before
  pub uncounted : (offset count : ℕ) (old new : SyncedDisk D Y) (result : Result (Unit {0}) DiskFault) → NotesFailedSync failed (after_change offset count old) result new → NotesFailedSync failed old result new
  uncounted offset count old new (Ok done) none = record { same = none.same; count_same = none.count_same }
  uncounted offset count old new (Err e) (inl none) = inl (record { same = none.same; count_same = none.count_same })
  uncounted offset count old new (Err e) (inr one) = inr (record { kept = one.kept; rose = one.rose })

-- ---- parts of a range

module _ {D Y : Type 0} (does : D → Task → Result (Unit {0}) DiskFault → D → Type 0) (synced failed : Y → ℕ) (marked : Y → SyncMark) (next : D → ℕ) (offset count : ℕ) (old mid new : SyncedDisk D Y) where
  -- the whole as one
  pub one_alone : (result : Result (Unit {0}) DiskFault) → ClearsPart does synced failed marked next offset count old result new → ClearsParts does synced failed marked next offset count old result new
  one_alone (Ok done) part = once (ClearsDonePart does synced failed marked next offset count) old new part
  one_alone (Err e) part = (old, none (ClearsDonePart does synced failed marked next offset count) old old refl, part)

  -- and one more
  pub part_on : Through (ClearsDonePart does synced failed marked next offset count) old mid → ClearsPart does synced failed marked next offset count mid (Ok tt) new
      → Through (ClearsDonePart does synced failed marked next offset count) old new
  part_on before part = joined (ClearsDonePart does synced failed marked next offset count) old mid new before (once (ClearsDonePart does synced failed marked next offset count) mid new part)

module _ {D Y : Type 0} (synced : Y → ℕ) (marked : Y → SyncMark) (next : D → ℕ) (offset count : ℕ) (old new : SyncedDisk D Y) where
  pub alone_kept : (result : Result (Unit {0}) DiskFault) → SyncsBehindChange synced marked next false (after_change offset count old) result new → KeepsCount synced old new
  alone_kept (Ok done) is = one_part synced offset count old old new (record { syncs = inl (omega arith); pace_same = refl }) is.synced_if_due
  alone_kept (Err e) is = part_failed synced offset count old old new (record { syncs = inl (omega arith); pace_same = refl }) is.unsynced

  counts_alone : HasSynced synced false (after_change offset count old) new → CountsRangeChanged synced offset count old new
  counts_alone (inl due) = inl (no_less (synced old.syncs) (synced old.syncs) (synced new.syncs) (inl (omega arith)) due.1.one)
  counts_alone (inr none) = inr (omega (arith, none.1.unsynced_same))

  pub alone_counted : (result : Result (Unit {0}) DiskFault) → SyncsBehindChange synced marked next false (after_change offset count old) result new → OnOk result (0 < count → CountsRangeChanged synced offset count old new)
  alone_counted (Ok done) is = λ some. counts_alone is.synced_if_due
  alone_counted (Err e) is = tt

-- ---- a task

module _ {D Y : Type 0} (does : D → Task → Result (Unit {0}) DiskFault → D → Type 0) (synced failed : Y → ℕ) (marked : Y → SyncMark) (next : D → ℕ) (old : SyncedDisk D Y) (task : Task) where
  -- after a sync that failed
  pub refused : old.failed ≡ true → SyncsTask does synced failed marked next old task (Err fault.Failed) old
  refused over = record {
    over = λ _. (refl, refl);
    ends = λ going. (let no : true ≡ false = sym over ∙ going in (let never : ⊥ = cc in absurd never));
    notes = inl (record { same = refl; count_same = refl });
  }

  -- and before
  pub goes : (new : SyncedDisk D Y) (result : Result (Unit {0}) DiskFault) → old.failed ≡ false → EndsTask does synced failed marked next old task result new → NotesFailedSync failed old result new
      → SyncsTask does synced failed marked next old task result new
  goes new result going ends notes = record {
    over = λ over. (let no : true ≡ false = sym over ∙ going in (let never : ⊥ = cc in absurd never));
    ends = λ _. ends;
    notes = notes;
  }

-- ---- a range to be cleared

module _ {D Y : Type 0} (synced : Y → ℕ) (marked : Y → SyncMark) (next : D → ℕ) (durable : Bool) (offset count : ℕ) (old mid new : SyncedDisk D Y) (kept : KeepsCount synced old mid)
    (counts : 0 < count → CountsRangeChanged synced offset count old mid) where
  counts_then : CountsRangeChanged synced offset count old mid → HasSynced synced durable mid new → CountsRangeChanged synced offset count old new
  counts_then is (inl due) = inl (no_less (synced old.syncs) (synced mid.syncs) (synced new.syncs) kept.syncs due.1.one)
  counts_then (inl risen) (inr none) = inl (subst (λ y. HasRisen (synced old.syncs) (synced y)) (sym none.1.syncs_same) risen)
  counts_then (inr low) (inr none) = inr (omega (arith, low, none.1.unsynced_same))

  pub ends_synced : HasSynced synced durable mid new → EndsSynced synced durable offset count old new
  ends_synced (inl due) = record {
    few = omega (arith, due.1.all);
    counts = λ some. counts_then (counts some) (inl due);
    pace_same = due.1.pace_same ∙ kept.pace_same;
    all = λ _. due.1.all;
    one_more = λ _. no_less (synced old.syncs) (synced mid.syncs) (synced new.syncs) kept.syncs due.1.one;
  }
  ends_synced (inr none) = record {
    few = elim (cases_lt mid.pace.most mid.unsynced) [
      | inl many ↦ absurd (none.0 (inr many))
      | inr few ↦ omega (arith, few, none.1.unsynced_same, ap (λ p. p.most) kept.pace_same)
    ];
    counts = λ some. counts_then (counts some) (inr none);
    pace_same = none.1.pace_same ∙ kept.pace_same;
    all = λ lasts. absurd (none.0 (inl lasts));
    one_more = λ lasts. absurd (none.0 (inl lasts));
  }

  pub ends_all : (result : Result (Unit {0}) DiskFault) → OnOk result (HasSynced synced durable mid new) → OnOk result (EndsSynced synced durable offset count old new)
  ends_all (Ok done) is = ends_synced is
  ends_all (Err e) is = tt

pub marked_last : {D Y : Type 0} (marked : Y → SyncMark) (next : D → ℕ) (durable : Bool) (old new : SyncedDisk D Y) (result : Result (Unit {0}) DiskFault)
    → Marks marked next durable old result new → OnOk result (durable ≡ true → (marked new.syncs).synced ≡ next new.disk)
marked_last marked next durable old new (Ok done) (inl due) = λ lasts. ap (λ m. m.synced) due.1
marked_last marked next durable old new (Ok done) (inr none) = λ lasts. absurd (none.0 (inl lasts))
marked_last marked next durable old new (Err e) is = tt

pub notes_then : {D Y : Type 0} (failed : Y → ℕ) (old mid new : SyncedDisk D Y) (result : Result (Unit {0}) DiskFault) → NoneFailed failed old mid → NotesFailedSync failed mid result new → NotesFailedSync failed old result new
notes_then failed old mid new (Ok done) before more = none_then failed old mid new before more
notes_then failed old mid new (Err e) before more = then_failed failed old mid new before more

-- ---- laws

module _ {D Y : Type 0} (does : D → Task → Result (Unit {0}) DiskFault → D → Type 0) (synced failed : Y → ℕ) (marked : Y → SyncMark) (next : D → ℕ) where
  change_unflushed : (durable : Bool) (offset count : ℕ) (old new : SyncedDisk D Y) (result : Result (Unit {0}) DiskFault) → SyncsBehindChange synced marked next durable (after_change offset count old) result new
      → (marked new.syncs).flushed ≡ (marked old.syncs).flushed
  change_unflushed durable offset count old new result ends = unflushed marked next durable (after_change offset count old) new result ends.marks

  ends_unflushed : (old new : SyncedDisk D Y) (task : Task) (result : Result (Unit {0}) DiskFault) → EndsTask does synced failed marked next old task result new → (marked new.syncs).flushed ≡ (marked old.syncs).flushed
  ends_unflushed old new (Read offset count) result ends = ap (λ y. (marked y).flushed) ends.1.syncs_same
  ends_unflushed old new (Write offset count durable) result ends = change_unflushed durable offset count old new result ends.behind
  ends_unflushed old new Flush result ends = unflushed marked next true old new result ends.behind.marks
  ends_unflushed old new (Trim offset count durable) result ends = ends.unflushed
  ends_unflushed old new (WriteZeroes offset count durable) result ends = ends.unflushed

  unflushed_by : (old new : SyncedDisk D Y) (task : Task) (result : Result (Unit {0}) DiskFault) → SyncsTask does synced failed marked next old task result new → (b : Bool) → old.failed ≡ b
      → (marked new.syncs).flushed ≡ (marked old.syncs).flushed
  unflushed_by old new task result is true over = ap (λ s. (marked s.syncs).flushed) (is.over over).1
  unflushed_by old new task result is false going = ends_unflushed old new task result (is.ends going)

  pub unflushed_law : UnflushedLaw does synced failed marked next
  unflushed_law old new task result is = unflushed_by old new task result is old.failed refl

  -- a sync that was due
  due_marked : (durable : Bool) (old new : SyncedDisk D Y) → durable ≡ true → Marks marked next durable old (Ok tt) new → (marked new.syncs).synced ≡ next new.disk
  due_marked durable old new lasts marks = marked_last marked next durable old new (Ok tt) marks lasts

  ends_marked : (old new : SyncedDisk D Y) (task : Task) → IsLasting task → EndsTask does synced failed marked next old task (Ok tt) new → (marked new.syncs).synced ≡ next new.disk
  ends_marked old new (Read offset count) lasts ends = absurd lasts
  ends_marked old new (Write offset count durable) lasts ends = due_marked durable (after_change offset count old) new lasts ends.behind.marks
  ends_marked old new Flush lasts ends = due_marked true old new refl ends.behind.marks
  ends_marked old new (Trim offset count durable) lasts ends = ends.marked_last lasts
  ends_marked old new (WriteZeroes offset count durable) lasts ends = ends.marked_last lasts

  -- what was done was not refused
  was_going : (old new : SyncedDisk D Y) → (old.failed ≡ true → FailsUnasked old (Ok tt) new) → (b : Bool) → old.failed ≡ b → old.failed ≡ false
  was_going old new over true is = (let no = (over is).0 in let never : ⊥ = cc in absurd never)
  was_going old new over false is = is

  pub synced_law : SyncedLastLaw does synced failed marked next
  synced_law old new task lasts is = ends_marked old new task lasts (is.ends (was_going old new is.over old.failed refl))

  -- a sync that failed is kept
  kept_of : (old mid : SyncedDisk D Y) (answer : Result (Unit {0}) DiskFault) → failed old.syncs < failed mid.syncs → NotesFailedSync failed old answer mid → mid.failed ≡ true
  kept_of old mid (Ok done) less notes = absurd (omega (arith, less, notes.count_same))
  kept_of old mid (Err e) less (inl none) = absurd (omega (arith, less, none.count_same))
  kept_of old mid (Err e) less (inr one) = one.kept

  pub over_law : AfterFailedSyncLaw does synced failed marked next
  over_law old mid new task later answer result less before after = after.over (kept_of old mid answer less before.notes)

  -- one that was due was done
  due_done : (old new : SyncedDisk D Y) → HasSynced synced true old new → (synced new.syncs ≡ counted (synced old.syncs)) × (new.unsynced ≡ 0)
  due_done old new (inl due) = (due.1.one, due.1.all)
  due_done old new (inr undue) = absurd (undue.0 (inl refl))

  pub flush_law : FlushLaw does synced failed marked next
  flush_law old new is = let ends = is.ends (was_going old new is.over old.failed refl) in (let done = due_done old new ends.behind.synced_if_due in (ends.same, done.0, done.1))

  -- one that was not due
  unlasting : (durable : Bool) → ¬ (durable ≡ true) → durable ≡ false
  unlasting true is = absurd (is refl)
  unlasting false is = refl

  few : (old : SyncedDisk D Y) → ¬ (old.pace.most < old.unsynced) → old.unsynced ≤ old.pace.most
  few old is = elim (cases_lt old.pace.most old.unsynced) [
    | inl more ↦ absurd (is more)
    | inr most ↦ most
  ]

  synced_or_few : (durable : Bool) (old new : SyncedDisk D Y) → HasSynced synced durable old new
      → ((synced new.syncs ≡ counted (synced old.syncs)) × (new.unsynced ≡ 0)) ⊎ ((durable ≡ false) × (new.syncs ≡ old.syncs) × (new.unsynced ≡ old.unsynced) × (new.unsynced ≤ old.pace.most))
  synced_or_few durable old new (inl due) = inl (due.1.one, due.1.all)
  synced_or_few durable old new (inr undue) =
      let same = undue.1.unsynced_same in
      inr (unlasting durable (λ e. undue.0 (inl e)), undue.1.syncs_same, same, subst (λ k. k ≤ old.pace.most) (sym same) (few old (λ more. undue.0 (inr more))))

  pub write_law : WriteLaw does synced failed marked next
  write_law old new offset count durable is =
      let ends = is.ends (was_going old new is.over old.failed refl) in
      let answered = told_done failed (after_change offset count old) new ends.answer ends.told in
      (subst (λ a. does old.disk (Write offset count false) a new.disk) answered ends.does_so, synced_or_few durable (after_change offset count old) new ends.behind.synced_if_due)

  -- an error before any sync failed
  none_failed : (old new : SyncedDisk D Y) (e : DiskFault) → new.failed ≡ false → IsToldOf failed (Ok tt) old (Err e) new → ⊥
  none_failed old new e going told = (let no : true ≡ false = sym told.1.kept ∙ going in cc)

  answer_of : (old new : SyncedDisk D Y) (answer : Result (Unit {0}) DiskFault) (e : DiskFault) → new.failed ≡ false → IsToldOf failed answer old (Err e) new → answer ≡ Err e
  answer_of old new (Ok done) e going told = absurd (none_failed old new e going told)
  answer_of old new (Err other) e going told = sym told.0

  pub fault_law : FaultLaw does synced failed marked next
  fault_law old new e was going = (
    λ is. none_failed old new e going (is.ends was).told,
    λ offset count durable is.
        let ends = is.ends was in
        subst (λ a. does old.disk (Write offset count false) a new.disk) (answer_of (after_change offset count old) new ends.answer e going ends.told) ends.does_so,
  )

  module _ (takes : D → Bool) (counts : Bool) (old new : SyncedDisk D Y) (is : Closes does synced failed marked next takes counts old (Ok tt) new) (taking : takes new.disk ≡ true) where
    going : old.failed ≡ false
    going = was_going old new is.over old.failed refl

    by_flush : ¬ IsKnownFlushed marked next counts old → (marked new.syncs).flushed ≡ next new.disk
    by_flush unknown =
        let flushed = is.flushes going unknown in
        ap (λ m. m.flushed) flushed.marks ∙ ap (λ b. (after_sync (next new.disk) b (marked old.syncs)).flushed) taking

    by_mark : IsKnownFlushed marked next counts old → (marked new.syncs).flushed ≡ next new.disk
    by_mark known = ap (λ s. (marked s.syncs).flushed) (is.known going known).1 ∙ known.1 ∙ ap (λ s. next s.disk) (sym (is.known going known).1)

    by_order : counts ≡ true → (marked new.syncs).flushed ≡ next new.disk
    by_order is_counted = elim (cases_lt (marked old.syncs).flushed (next old.disk)) [
      | inl less ↦ by_flush (λ known. omega (arith, less, known.1))
      | inr least ↦ elim (cases_lt (next old.disk) (marked old.syncs).flushed) [
        | inl more ↦ by_flush (λ known. omega (arith, more, known.1))
        | inr most ↦ by_mark (is_counted, omega (arith, least, most))
      ]
    ]

    pub closed_by : (b : Bool) → counts ≡ b → (marked new.syncs).flushed ≡ next new.disk
    closed_by true is_counted = by_order is_counted
    closed_by false is_not = by_flush (λ known. (let no : true ≡ false = sym known.0 ∙ is_not in (let never : ⊥ = cc in never)))

pub close_law : {D Y : Type 0} (does : D → Task → Result (Unit {0}) DiskFault → D → Type 0) (synced failed : Y → ℕ) (marked : Y → SyncMark) (next : D → ℕ) (takes : D → Bool) → CloseLaw does synced failed marked next takes
close_law does synced failed marked next takes counts old new is taking = closed_by does synced failed marked next takes counts old new is taking counts refl
