-- What the definitions of a device as a disk come to.
use Rattle.std.proofs.Common.{◌≡◌, ◌+◌, ◌-◌, ◌*◌, ◌^◌, ◌&&◌, inl, inr, ℕ, Bool, true, false, List, [], Result, Ok, Err, refl, sym, ap, ◌∙◌, arith}
use Rattle.std.specs.Prelude.{slice_range, not, ◌==◌}
use Rattle.std.proofs.lemmas.Bool.{eq-eqb, lt-ltb}
use Rattle.page_layout.specs.View.{View}
use Rattle.page_layout.specs.Array.{zeros}
use Rattle.promises.specs.Step.{Flush}
use Rattle.allocation.specs.State.{free_count}
use Rattle.image_check.specs.Stale.{stale_sectors}
use Rattle.collection.specs.Safe.{ram}
use Rattle.ftl_device.specs.declared.device.Device.{Device}
use Rattle.ftl_device.specs.declared.fault.DeviceFault.{DeviceFault}
use Rattle.ftl_device.specs.Changes.{Upkeeps}
use Rattle.disk_server.proofs.FlatLemmas.{flat_law}
use Rattle.ftl_device.specs.declared.fault.DeviceFault.TheVariants.{OutOfRange, ReadOnly, SequenceSpent, OutOfMemory, Damaged, BusFault}
use Rattle.ftl_device.specs.Calls.{array_in}
use Rattle.disk_server.specs.Disk.{holds, flush_answer, takes_changes, IsDisk}
use Rattle.disk_server.specs.Laws.{BelowLaw, DiskLengthLaw, SectorRangeLaw, DurableLaw, HoldsLaw, NoSpaceLaw, ReadOnlyFlushLaw, ClosedLaw, NoneStaleAfterFlushLaw}
use Rattle.disk_server.proofs.Sizes.{zeros_long}
use Rattle.disk_server.proofs.Holding.{parts, holds_from, held, long, array_sectors_of, array_count}

pub length_law : {N : Type 0} (view : View N) → DiskLengthLaw view
length_law view d is = long view d is

pub sector_law : {N : Type 0} (view : View N) → SectorRangeLaw view
sector_law view d n is h within =
    let size : ℕ = d.engine.geometry.data_bytes in
    ap (λ (l : List ℕ). slice_range l (n * size) (n * size + size)) (held view d h)
    ∙ (flat_law size n (zeros d.engine.geometry) (array_in view.flash d) (array_sectors_of view d is h) (omega (arith, array_count view d, within))
    (zeros_long d.engine.geometry)).1

pub lasts_law : {N : Type 0} (view : View N) → DurableLaw view
lasts_law view d = refl

pub holds_law : {N : Type 0} (honest : N → Bool) → HoldsLaw honest
holds_law honest d = (parts honest d, λ its. holds_from honest d its.0 its.1)

pub no_space : NoSpaceLaw
no_space OutOfRange = ((λ e. cc), λ e. cc)
no_space (ReadOnly good wanted failed) = ((λ e. cc), λ e. cc)
no_space SequenceSpent = ((λ e. cc), λ e. cc)
no_space OutOfMemory = ((λ e. refl), λ e. refl)
no_space Damaged = ((λ e. cc), λ e. cc)
no_space BusFault = ((λ e. cc), λ e. cc)

pub read_only : ReadOnlyFlushLaw
read_only OutOfRange = ((λ e. cc), λ e. cc)
read_only (ReadOnly good wanted failed) = ((λ e. refl), λ e. refl)
read_only SequenceSpent = ((λ e. refl), λ e. refl)
read_only OutOfMemory = ((λ e. cc), λ e. cc)
read_only Damaged = ((λ e. cc), λ e. cc)
read_only BusFault = ((λ e. cc), λ e. cc)

pub closed : ClosedLaw
closed OutOfRange = ((λ e. cc), λ o. (elim o [ inl is ↦ cc | inr its ↦ (let is = its.3 in cc) ]))
closed (ReadOnly good wanted failed) = ((λ e. inr (good, wanted, failed, refl)), λ o. refl)
closed SequenceSpent = ((λ e. inl refl), λ o. refl)
closed OutOfMemory = ((λ e. cc), λ o. (elim o [ inl is ↦ cc | inr its ↦ (let is = its.3 in cc) ]))
closed Damaged = ((λ e. cc), λ o. (elim o [ inl is ↦ cc | inr its ↦ (let is = its.3 in cc) ]))
closed BusFault = ((λ e. cc), λ o. (elim o [ inl is ↦ cc | inr its ↦ (let is = its.3 in cc) ]))

-- ---- what a mark says

pub below_law : {N : Type 0} (view : View N) → BelowLaw view
below_law view d is h = (is.well h).truth.below

-- a device that takes changes is not read-only, and its last sequence is not given out
takes : (a b : Bool) → (not a && not b) ≡ true → (a ≡ false) × (b ≡ false)
takes false false e = (refl, refl)
takes false true e = (let no : ⊥ = cc in absurd no)
takes true b e = (let no : ⊥ = cc in absurd no)

module _ {N : Type 0} (view : View N) (old new : Device N) (was : IsDisk view old) (is : IsDisk view new)
    (h : holds view.honest old ≡ true) (going : takes_changes new ≡ true) where
  written_by : (answer : Result (Unit {0}) DeviceFault) → Ok tt ≡ flush_answer answer → Upkeeps view Flush old answer new
      → stale_sectors old.engine.geometry (view.flash new.engine.nand).image ≡ []
  written_by (Ok done) told upkeeps = ((upkeeps.logs (parts view.honest old h).0 (λ e. cc)).flushed (was.well h) refl refl).fresh
  written_by (Err (ReadOnly good wanted grown)) told upkeeps =
      let closed : new.read_only ≡ true = is.device.read_only ∙ lt-ltb (free_count (ram new.engine).blocks) 5 upkeeps.refuses.says.scarce in
      let no : false ≡ true = sym (takes new.read_only (new.engine.next == 2 ^ 64 - 1) going).0 ∙ closed in
      (let never : ⊥ = cc in absurd never)
  written_by (Err SequenceSpent) told upkeeps =
      let spent : (new.engine.next == 2 ^ 64 - 1) ≡ true = eq-eqb new.engine.next (2 ^ 64 - 1) upkeeps.refuses.says in
      let no : false ≡ true = sym (takes new.read_only (new.engine.next == 2 ^ 64 - 1) going).1 ∙ spent in
      (let never : ⊥ = cc in absurd never)
  written_by (Err OutOfRange) told upkeeps = (let no : ⊥ = cc in absurd no)
  written_by (Err OutOfMemory) told upkeeps = (let no : ⊥ = cc in absurd no)
  written_by (Err Damaged) told upkeeps = (let no : ⊥ = cc in absurd no)
  written_by (Err BusFault) told upkeeps = (let no : ⊥ = cc in absurd no)

pub written_law : {N : Type 0} (view : View N) → NoneStaleAfterFlushLaw view
written_law view old new was is asks h going = written_by view old new was is h going asks.answer asks.told asks.upkeeps
