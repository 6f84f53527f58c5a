-- What a refusal shows, after any log.
use Rattle.std.proofs.Common.{◌≡◌, ◌≢◌, ℕ, ◌+◌, ◌<◌, Bool, List, [], ◌++◌}
use Rattle.std.proofs.Common.{None, Result, Ok, Err, refl, sym, ◌∙◌, inl, inr, subst, arith}
use Rattle.std.specs.Prelude.{IfErr}
use Rattle.page_layout.specs.Page.{Image}
use Rattle.page_layout.specs.Flash.{Operation}
use Rattle.promises.specs.Log as logs
use Rattle.promises.specs.Log.{programs_in, bad_of, IsShort}
use Rattle.promises.specs.Step.{Command}
use Rattle.collection.specs.State.{Ram}
use Rattle.collection.specs.Safe.{IsRam}
use Rattle.collection.specs.Truth.{IsTrue}
use Rattle.collection.specs.Log.{FollowsLog}
use Rattle.ftl_device.specs.declared.fault.DeviceFault.{DeviceFault}
use Rattle.ftl_device.specs.declared.fault.DeviceFault.TheVariants.{OutOfRange, ReadOnly, SequenceSpent, OutOfMemory, Damaged, BusFault}
use Rattle.ftl_device.specs.Calls.{Says}
use Rattle.ftl_device.specs.Counts.{is_bad_by, IsShortIn, IsShownByRefusal, IsLeftReadOnly}
use Rattle.ftl_device.proofs.CountLemmas.{bad_now_law, good_of_log, short_in}

-- a call was not answered `Damaged`
abbrev pub NoDamage : Result (Unit {0}) DeviceFault → Type 0
NoDamage (Ok done) = Unit {0}
NoDamage (Err OutOfRange) = Unit {0}
NoDamage (Err (ReadOnly good wanted failed)) = Unit {0}
NoDamage (Err SequenceSpent) = Unit {0}
NoDamage (Err OutOfMemory) = Unit {0}
NoDamage (Err Damaged) = ⊥
NoDamage (Err BusFault) = Unit {0}

module _ (old new : Ram) (call : List Operation) (safe : IsRam old) (safe' : IsRam new) (sized : new.geometry ≡ old.geometry) (shared : new.mapping.share ≡ old.mapping.share) (follows : FollowsLog old.geometry.pages call old.blocks new.blocks)
    (bad : ℕ → Bool) (before : List Operation) (also : (b : ℕ) → b < old.geometry.blocks → is_bad_by new b ≡ bad_of old.geometry.pages bad (before ++ call) b) where
  pub short_on : (ro : Bool) → IsShort old.geometry old.mapping.share (is_bad_by old) [] call ro → IsShort old.geometry old.mapping.share bad before call ro
  short_on ro (inl few) =
      let here : logs.good_count_after old.geometry (is_bad_by new) [] ≡ logs.good_count_after old.geometry (is_bad_by old) call = good_of_log old.geometry (is_bad_by old) call new [] sized (λ b lt. bad_now_law old new call b safe.blocks_of follows lt) in
      let there : logs.good_count_after old.geometry (is_bad_by new) [] ≡ logs.good_count_after old.geometry bad (before ++ call) = good_of_log old.geometry bad (before ++ call) new [] sized also in
      inl (omega (arith, here, there))
  short_on ro (inr more) = inr more

  -- so is each refusal of a call that changes sectors
  pub shown_on : (next : ℕ) (ro : Bool) (image : Image) (result : Result (Unit {0}) DeviceFault) → IsTrue None new image → new.next ≡ next + programs_in (before ++ call)
      → IfErr result (Says old new) → IfErr result (IsShownByRefusal old.geometry old.mapping.share (is_bad_by old) old.next [] call ro image) → NoDamage result → result ≢ Err BusFault → IfErr result (IsShownByRefusal old.geometry old.mapping.share bad next before call ro image)
  shown_on next ro image (Ok done) w spent says shown sound ne = tt
  shown_on next ro image (Err OutOfRange) w spent says shown sound ne = tt
  shown_on next ro image (Err (ReadOnly good wanted failed)) w spent says shown sound ne = (
    subst (λ n. IsShortIn old.geometry n bad (before ++ call) call image good wanted failed)
        shared (short_in old.geometry bad (before ++ call) new image sized also old call good wanted failed safe safe' refl follows w says),
    short_on ro shown.1,
  )
  shown_on next ro image (Err SequenceSpent) w spent says shown sound ne = sym spent ∙ says
  shown_on next ro image (Err OutOfMemory) w spent says shown sound ne = tt
  shown_on next ro image (Err Damaged) w spent says shown sound ne = sound
  shown_on next ro image (Err BusFault) w spent says shown sound ne = ne refl

  pub left_on : (command : Command) (ro : Bool) (result : Result (Unit {0}) DeviceFault) → IsLeftReadOnly command old.geometry old.mapping.share (is_bad_by old) [] call ro result → IsLeftReadOnly command old.geometry old.mapping.share bad before call ro result
  left_on command ro (Ok done) left = elim left [ inl short ↦ inl (short_on ro short) | inr flushes ↦ inr flushes ]
  left_on command ro (Err OutOfRange) left = tt
  left_on command ro (Err (ReadOnly good wanted failed)) left = tt
  left_on command ro (Err SequenceSpent) left = tt
  left_on command ro (Err OutOfMemory) left = short_on ro left
  left_on command ro (Err Damaged) left = tt
  left_on command ro (Err BusFault) left = tt
