-- Where a look for pages of version 1 goes on.
use Rattle.std.proofs.Common.{◌≡◌, ◌≢◌, inl, inr, ℕ, ◌≤◌, true, Option, None, Some, Result, Err, IfErr, refl, ap, subst, arith}
use Rattle.std.specs.Option.{ForSome}
use Rattle.std.proofs.lemmas.Bool.{cases_lt}
use Rattle.page_layout.specs.View.{View}
use Rattle.page_layout.specs.Flash.{Flash}
use Rattle.page_layout.specs.Page.{Image}
use Rattle.allocation.specs.State.{free_count}
use Rattle.promises.specs.Step as step
use Rattle.collection.specs.declared.engine.Engine.{Engine}
use Rattle.collection.specs.declared.fault.EngineFault.{EngineFault}
use Rattle.collection.specs.declared.fault.EngineFault.TheVariants.{Bus}
use Rattle.collection.specs.State.{Ram}
use Rattle.collection.specs.Safe.{ram, image_in}
use Rattle.collection.specs.Acts.{Stands}
use Rattle.collection.specs.Looks.{IsReadFault}
use Rattle.collection.specs.Stops.{CutsSafely, StopsSafely}
use Rattle.collection.specs.Renew.{HasNoneDue, HasDue, FindsDue, IsNextDue}
use Rattle.ftl_device.specs.declared.device.Device.{Device}
use Rattle.ftl_device.specs.declared.fault.CallFault.{CallFault}
use Rattle.ftl_device.specs.declared.fault.CallFault.TheVariants as call
use Rattle.ftl_device.specs.Device.{IsDevice}
use Rattle.ftl_device.specs.Calls.{Knows}
use Rattle.ftl_device.specs.Flush.{MayFlush}
use Rattle.ftl_device.specs.Shortage.{HasFunds, CallShort}
use Rattle.ftl_device.specs.Changes.{EngineLeaves, EndsKept}
use Rattle.ftl_device.specs.Migrate.{FindsFrom}
use Rattle.ftl_device.proofs.LeaveLemmas.{leaves_by}
use Rattle.ftl_device.proofs.MigrateLemmas.{look_tells}
use Rattle.ftl_device.proofs.ShownLemmas.{left_after}
use Rattle.ftl_device.proofs.SpentLemmas.{funded_begun, five_free}
use Rattle.ftl_device.proofs.UpkeepLemmas.{IsUpkept}

-- a device is one wherever it looks on
pub device_at : {N : Type 0} (flash : N → Flash) (d : Device N) (row : ℕ) → IsDevice flash d → IsDevice flash (record d { cursor = row })
device_at flash d row is = record { engine = is.engine; read_only = is.read_only; refuses = is.refuses; spent = is.spent; calm = is.calm }

-- ---- what is found

due_or_none : (row : ℕ) (image : Image) → HasDue row image → HasNoneDue row image → ⊥
due_or_none row image due none = none due.key due.no_table due.old

one_next : (from a b : ℕ) (image : Image) → IsNextDue from a image → IsNextDue from b image → a ≡ b
one_next from a b image x y = elim (cases_lt a b) [
  | inl less ↦ absurd (due_or_none a image x.due (y.first a x.after less))
  | inr le ↦ elim (cases_lt b a) [ inl less ↦ absurd (due_or_none b image y.due (x.first b y.after less)) | inr ge ↦ omega (arith, le, ge) ]
]

-- the row that is found has such a page
pub due_from : (cursor row : ℕ) (image : Image) → FindsFrom cursor image (Some row) → HasDue row image
due_from cursor row image (inl next) = next.due
due_from cursor row image (inr behind) = behind.first.due

found_or_none : (cursor row : ℕ) (image : Image) → FindsFrom cursor image (Some row) → FindsDue 0 image None → ⊥
found_or_none cursor row image found none = due_or_none row image (due_from cursor row image found) (none row (omega arith))

pub one_found : (cursor : ℕ) (image : Image) (found other : Option ℕ) → FindsFrom cursor image found → FindsFrom cursor image other → found ≡ other
one_found cursor image None None x y = refl
one_found cursor image None (Some b) x y = absurd (found_or_none cursor b image y x)
one_found cursor image (Some a) None x y = absurd (found_or_none cursor a image x y)
one_found cursor image (Some a) (Some b) (inl x) (inl y) = ap Some (one_next cursor a b image x y)
one_found cursor image (Some a) (Some b) (inl x) (inr y) = absurd (due_or_none a image x.due (y.ahead a x.after))
one_found cursor image (Some a) (Some b) (inr x) (inl y) = absurd (due_or_none b image y.due (x.ahead b y.after))
one_found cursor image (Some a) (Some b) (inr x) (inr y) = ap Some (one_next 0 a b image x.first y.first)

not_past : (cursor row next : ℕ) (image : Image) → cursor ≤ row → HasDue row image → IsNextDue cursor next image → next ≤ row
not_past cursor row next image ge due x = elim (cases_lt row next) [
  | inl less ↦ absurd (due_or_none row image due (x.first row ge less))
  | inr le ↦ le
]

pub goes_on : (cursor row : ℕ) (image : Image) → cursor ≤ row → HasDue row image → (found : Option ℕ) → FindsFrom cursor image found → ForSome found (λ next. (cursor ≤ next) × (next ≤ row))
goes_on cursor row image ge due None none = absurd (due_or_none row image due (none row (omega arith)))
goes_on cursor row image ge due (Some next) (inl x) = λ found is. (let same : next ≡ found = cc in subst (λ k. (cursor ≤ k) × (k ≤ row)) same (x.after, not_past cursor row next image ge due x))
goes_on cursor row image ge due (Some next) (inr behind) = absurd (due_or_none row image due (behind.ahead row ge))

-- ---- the engine after a look, and after the call

module _ {N : Type 0} (view : View N) where
  -- a look leaves the engine as a call that wants no room does
  pub leaves_look : {A : Type 0} (old new : Engine N) (result : Result A EngineFault) → old.fault ≡ None → Stands view old new result → ram new ≡ record (ram old) { fault = new.fault } → IfErr result IsReadFault
      → (view.honest old.nand ≡ true → Knows (ram old) (image_in view.flash old) → result ≢ Err Bus → StopsSafely view old new)
      → (view.honest old.nand ≡ true → Knows (ram old) (image_in view.flash old) → result ≡ Err Bus → CutsSafely view old new) → EngineLeaves view old result new
  leaves_look old new result none stands still faults stops cut = leaves_by view old new result none stands (ap (λ (r : Ram). r.geometry) still) (look_tells result (ram old) (ram new) (ap (λ (r : Ram). r.blocks) still) faults) stops cut

  -- what is known of a turn, or of a page brought forward, as the part ends that asks the die
  pub kept_ready : (old : Device N) (mid : Engine N) (answer : Result (Unit {0}) CallFault) → IsDevice view.flash old → MayFlush (ram old.engine) old.read_only → EndsKept view old.engine answer mid → answer ≢ Err call.OutOfMemory
      → (HasFunds (view.honest old.engine.nand) (ram old.engine) (image_in view.flash old.engine) → 5 ≤ free_count (ram old.engine).blocks → CallShort (ram old.engine) (ram mid) answer)
      → IsUpkept view step.Turn old answer mid
  kept_ready old mid answer device may kept memory count = record {
    kept = kept;
    no_memory = memory;
    lacks = λ is_honest w fault is. short is_honest w;
    left = λ is_honest w log ro flag on. left_after view step.Turn old.engine mid mid log old.read_only ro answer _ _ refl refl device.engine.memory kept.ends.safe.memory kept.ends.geometry flag on (short is_honest w);
    worth = λ is_honest w log its. (let no : ⊥ = cc in absurd no);
  }
    where
      short : view.honest old.engine.nand ≡ true → Knows (ram old.engine) (image_in view.flash old.engine) → CallShort (ram old.engine) (ram mid) answer
      short is_honest w = count (is_honest, w, funded_begun (ram old.engine) old.read_only device.read_only may.writable) (five_free (ram old.engine) old.read_only device.read_only may.writable)
