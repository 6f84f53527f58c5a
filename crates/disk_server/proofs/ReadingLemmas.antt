-- A disk that is only read, and one that is asked nothing any more.
use Rattle.std.proofs.Common.{◌≡◌, ◌⊎◌, inl, inr, ℕ, suc, zero, Bool, true, false, List, [], Result, Ok, Err, refl, sym, ap, ◌∙◌}
use Rattle.std.specs.Prelude.{slice_index}
use Rattle.nbd_stream.specs.declared.reply.RequestError.{RequestError}
use Rattle.nbd_stream.specs.declared.task.Task.{Task}
use Rattle.nbd_stream.specs.declared.fault.DiskFault.{DiskFault}
use Rattle.nbd_stream.specs.declared.task.Task.TheVariants.{Read, Write, Flush, Trim, WriteZeroes}
use Rattle.nbd_stream.specs.Disk.{Contents, IsOldOrDue, MayFailWith, PerformsTask, TaskSteps, count_given}
use Rattle.nbd_stream.specs.Through.{Times, Through}
use Rattle.nbd_stream.proofs.ThroughLemmas.{joined, none}
use Rattle.disk_server.specs.Reading.{AllLasts, OnlyAsksReads, OnlyReadsLaw}

not : false ≡ true → ⊥
not e = cc

-- a call that was answered an error, and asked nothing
pub unasked : {D : Type 0} (contents : D → Contents) (honest : D → Bool) (task : Task) (body : List ℕ) (d : D) (e : RequestError) → MayFailWith task e
    → PerformsTask contents honest (λ _. false) task body d (Err e) d
unasked contents honest task body d e may = record {
  sized = refl;
  kept = tt;
  back = λ h. h;
  calm_is = refl;
  fault = may;
  given = tt;
  calmly = λ c. absurd (not c);
  steps = λ h. record {
    done = tt;
    gave = tt;
    torn = λ place. inl refl;
    stays = λ place. inl refl;
    lasts = tt;
  };
}

-- one that was done, gave nothing, and left all as it is
pub done_as_is : {D : Type 0} (contents : D → Contents) (honest calm : D → Bool) (task : Task) (body : List ℕ) (d : D) → 0 ≡ count_given task
    → (honest d ≡ true → TaskSteps task body (contents d) (Ok []) (contents d)) → PerformsTask contents honest calm task body d (Ok []) d
done_as_is contents honest calm task body d counted steps = record {
  sized = refl;
  kept = refl;
  back = λ h. h;
  calm_is = refl;
  fault = tt;
  given = counted;
  calmly = λ h. refl;
  steps = steps;
}

-- a flush of what lasts already
pub flushed : {D : Type 0} (contents : D → Contents) (honest : D → Bool) (d : D) → (honest d ≡ true → AllLasts (contents d))
    → PerformsTask contents honest (λ _. false) Flush [] d (Ok []) d
flushed contents honest d all =
    done_as_is contents honest (λ _. false) Flush [] d refl (λ h. record { done = refl; gave = refl; torn = tt; stays = λ place. inl refl; lasts = λ place is. all h place })

-- ---- what lasts, lasts after a read

unread : (old new durable : List ℕ) (place : ℕ) → IsOldOrDue old old new place → slice_index new place ≡ slice_index old place
unread old new durable place (inl is) = is
unread old new durable place (inr is) = is

pub by_answer : (offset count : ℕ) (s t : Contents) (answer : Result (List ℕ) RequestError) → TaskSteps (Read offset count) [] s answer t
    → (place : ℕ) → slice_index t.bytes place ≡ slice_index s.bytes place
by_answer offset count s t (Ok bytes) steps place = ap (λ all. slice_index all place) steps.done
by_answer offset count s t (Err e) steps place = unread s.bytes t.bytes [] place (steps.torn place)

kept : (offset count : ℕ) (s t : Contents) (place : ℕ) → AllLasts s
    → (slice_index t.durable place ≡ slice_index s.durable place) ⊎ IsOldOrDue s.bytes s.bytes t.durable place
    → slice_index t.durable place ≡ slice_index s.bytes place
kept offset count s t place all (inl same) = same ∙ all place
kept offset count s t place all (inr either) = unread s.bytes t.durable [] place either

pub still_lasts : (offset count : ℕ) (s t : Contents) (answer : Result (List ℕ) RequestError) → AllLasts s → TaskSteps (Read offset count) [] s answer t → AllLasts t
still_lasts offset count s t answer all steps place =
    kept offset count s t place all (steps.stays place) ∙ sym (by_answer offset count s t answer steps place)

-- a read of a disk whose bytes last
pub read_lasts : {D : Type 0} (contents : D → Contents) (honest calm : D → Bool) (offset count : ℕ) (old new : D) (answer : Result (List ℕ) RequestError)
    → (honest old ≡ true → AllLasts (contents old)) → PerformsTask contents honest calm (Read offset count) [] old answer new
    → honest new ≡ true → AllLasts (contents new)
read_lasts contents honest calm offset count old new answer all performs h =
    still_lasts offset count (contents old) (contents new) answer (all (performs.back h)) (performs.steps h)

-- the same call of a disk that is not calm
pub uncalm : {D : Type 0} (contents : D → Contents) (honest calm : D → Bool) (task : Task) (body : List ℕ) (old new : D) (answer : Result (List ℕ) RequestError)
    → PerformsTask contents honest calm task body old answer new → PerformsTask contents honest (λ _. false) task body old answer new
uncalm contents honest calm task body old new answer performs = record {
  sized = performs.sized;
  kept = performs.kept;
  back = performs.back;
  calm_is = refl;
  fault = performs.fault;
  given = performs.given;
  calmly = λ c. absurd (not c);
  steps = performs.steps;
}

-- ---- steps of steps

flat : {D : Type 0} (R : D → D → Type 0) (n : ℕ) (old new : D) → Times (Through R) n old new → Through R old new
unfolding Times
flat R zero old new same = none R old new same
flat R (suc n) old new more = joined R old more.0 new (flat R n old more.0 more.1) more.2

pub flattened : {D : Type 0} (R : D → D → Type 0) (old new : D) → Through (Through R) old new → Through R old new
flattened R old new through = flat R through.0 old new through.1

-- ---- the law

asked_reads : {D : Type 0} (reads : D → D → Type 0) (old mid : D) (task : Task) (answer : Result (Unit {0}) DiskFault) → OnlyAsksReads reads old task answer mid → Through reads old mid
asked_reads reads old mid (Read offset count) answer is = is
asked_reads reads old mid (Write offset count durable) answer is = none reads old mid is.1
asked_reads reads old mid Flush answer is = none reads old mid is.1
asked_reads reads old mid (Trim offset count durable) answer is = none reads old mid is.1
asked_reads reads old mid (WriteZeroes offset count durable) answer is = none reads old mid is.1

pub only_reads : {D : Type 0} (reads : D → D → Type 0) → OnlyReadsLaw reads
only_reads reads old mid new task answer result is rests = joined reads old mid new (asked_reads reads old mid task answer is) (none reads mid new rests.1)
