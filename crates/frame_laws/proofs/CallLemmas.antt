-- What a disk says of a call, by the answer that was made of its own.
use Rattle.std.proofs.Common.{◌≡◌, ℕ, Bool, List, Result, Ok, Err, refl}
use Rattle.std.specs.Prelude.{IsOk}
use Rattle.nbd_stream.specs.declared.fault.DiskFault.{DiskFault}
use Rattle.nbd_stream.specs.declared.reply.RequestError.{RequestError}
use Rattle.nbd_stream.specs.declared.task.Task.{Task}
use Rattle.nbd_stream.specs.declared.task.Task.TheVariants.{Read, Write, Flush, Trim, WriteZeroes}
use Rattle.nbd_stream.specs.Disk.{Contents, answer_from, error_for}
use Rattle.frame_laws.specs.CallWords.{DiskAskedLaw, CallWordLaw}

pub asked : DiskAskedLaw
asked (Read offset count) body bytes place = (refl, refl, refl, λ o n d is. cc)
asked (Write offset count durable) body bytes place = (refl, refl, refl, λ o n d is. cc)
asked Flush body bytes place = (refl, refl, refl, λ o n d is. cc)
asked (Trim offset count durable) body bytes place = (refl, refl, refl, λ o n d is. cc)
asked (WriteZeroes offset count durable) body bytes place = (refl, refl, refl, λ o n d is. cc)

-- what holds of the disk's answer holds of the one that was made of it
done_so : (P : Result (Unit {0}) DiskFault → Type 0) (done : Result (Unit {0}) DiskFault) (answer : Result (List ℕ) RequestError) (bytes : List ℕ)
    → answer ≡ answer_from done bytes → P done → IsOk answer → P (Ok tt)
done_so P (Ok done) answer bytes told so ok = so
done_so P (Err fault) (Ok gave) bytes told so ok = (let never : ⊥ = cc in absurd never)
done_so P (Err fault) (Err error) bytes told so ok = (let never : ⊥ = cc in absurd never)

failed_so : (P : Result (Unit {0}) DiskFault → Type 0) (done : Result (Unit {0}) DiskFault) (answer : Result (List ℕ) RequestError) (bytes : List ℕ)
    → answer ≡ answer_from done bytes → P done → (error : RequestError) → answer ≡ Err error → (fault : DiskFault) × (error_for fault ≡ error) × P (Err fault)
failed_so P (Ok done) answer bytes told so error is = (let never : ⊥ = cc in absurd never)
failed_so P (Err fault) answer bytes told so error is = (let same : error_for fault ≡ error = cc in (fault, same, so))

pub call_word : {D : Type 0} (contents : D → Contents) (honest calm : D → Bool) (does : D → Task → Result (Unit {0}) DiskFault → D → Type 0) → CallWordLaw contents honest calm does
call_word contents honest calm does task old new x (performs, call) = (
  done_so (λ r. does old _ r new) call.done x.answer _ call.told call.does_so,
  failed_so (λ r. does old _ r new) call.done x.answer _ call.told call.does_so,
)
