-- What a task leaves of a disk that keeps nothing back.
use Rattle.std.proofs.Common.{◌≡◌, inl, inr, ℕ, Bool, true, false, List, length, Result, Ok, Err, refl, ap}
use Rattle.std.specs.Prelude.{slice_index, IfOk, IfErr, OnOk, OnErr}
use Rattle.nbd_stream.specs.declared.reply.RequestError.{RequestError}
use Rattle.nbd_stream.specs.declared.task.Task.{Task}
use Rattle.nbd_stream.specs.Disk.{Contents, MayFailWith, PerformsTask, TaskSteps, bytes_after, bytes_given, count_given}

abbrev pub Answer : Type 0
Answer = Result (List ℕ) RequestError

-- all of it lasts
abbrev pub lasting : List ℕ → Contents
lasting bytes = record { bytes = bytes; durable = bytes }

-- done, the bytes are those that the task leaves; not done, they are as they were
pub record Sets (task : Task) (body s : List ℕ) (answer : Answer) (t : List ℕ) : Type 0 where
  pub done : OnOk answer (t ≡ bytes_after task body s)
  pub gave : IfOk answer (λ given. given ≡ bytes_given task s)
  pub not_done : OnErr answer (t ≡ s)

pub steps_of : (task : Task) (body s : List ℕ) (answer : Answer) (t : List ℕ) → Sets task body s answer t → TaskSteps task body (lasting s) answer (lasting t)
steps_of task body s (Ok given) t its = record {
  done = its.done;
  gave = its.gave;
  torn = tt;
  stays = λ p. inr (inr (ap (λ (l : List ℕ). slice_index l p) its.done));
  lasts = λ p makes. refl;
}
steps_of task body s (Err e) t its = record {
  done = tt;
  gave = tt;
  torn = λ p. inl (ap (λ (l : List ℕ). slice_index l p) its.not_done);
  stays = λ p. inl (ap (λ (l : List ℕ). slice_index l p) its.not_done);
  lasts = tt;
}

-- a call of a disk that promises no calm
pub performed : {D : Type 0} (contents : D → Contents) (honest : D → Bool) (task : Task) (body : List ℕ) (old new : D) (answer : Answer) → length (contents new).bytes ≡ length (contents old).bytes
    → OnOk answer (honest new ≡ honest old) → (honest new ≡ true → honest old ≡ true) → IfErr answer (MayFailWith task) → IfOk answer (λ bytes. length bytes ≡ count_given task)
    → (honest new ≡ true → TaskSteps task body (contents old) answer (contents new)) → PerformsTask contents honest (λ _. false) task body old answer new
performed contents honest task body old new answer sized kept back fault given steps = record {
  sized = sized;
  kept = kept;
  back = back;
  calm_is = refl;
  fault = fault;
  given = given;
  calmly = λ never. (let no : ⊥ = cc in absurd no);
  steps = steps;
}

-- ONE CALL of such a disk, which promises no calm
module _ {D : Type 0} (bytes : D → List ℕ) (honest : D → Bool) (task : Task) (body : List ℕ) (old : D) (answer : Answer) (new : D) where
  pub performs_by : length (bytes new) ≡ length (bytes old) → OnOk answer (honest new ≡ honest old) → (honest new ≡ true → honest old ≡ true)
      → IfErr answer (MayFailWith task) → IfOk answer (λ given. length given ≡ count_given task)
      → (honest new ≡ true → Sets task body (bytes old) answer (bytes new))
      → PerformsTask (λ d. lasting (bytes d)) honest (λ d. false) task body old answer new
  performs_by sized kept back fault given sets =
      performed (λ d. lasting (bytes d)) honest task body old new answer sized kept back fault given (λ h. steps_of task body (bytes old) answer (bytes new) (sets h))
