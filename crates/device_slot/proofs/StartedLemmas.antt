-- How a start came to its device.
use Rattle.std.proofs.Common.{◌≡◌, ◌≢◌, ◌<◌, ◌≤◌, ◌+◌, inl, inr, arith, refl, ℕ, true, [], List, length, Result, Ok, Err, sym, ap, ◌∙◌, subst}
use Rattle.std.specs.Prelude.{IfOk, IfErr}
use Rattle.page_layout.specs.View.{View}
use Rattle.page_layout.specs.declared.geometry.Geometry.{Geometry}
use Rattle.page_layout.specs.Flash.{Flash}
use Rattle.page_layout.specs.OnlyReads.{OnlyReads}
use Rattle.promises.specs.Step as step
use Rattle.image_check.specs.Stale.{stale_count, stale_sectors}
use Rattle.collection.specs.Safe.{ram}
use Rattle.collection.specs.State.{Ram}
use Rattle.ftl_device.specs.declared.device.Device.{Device}
use Rattle.ftl_device.specs.declared.fault.DeviceFault.{DeviceFault}
use Rattle.ftl_device.specs.declared.fault.DeviceFault.TheVariants.{BusFault}
use Rattle.ftl_device.specs.Calls.{stop_of}
use Rattle.ftl_device.specs.Changes.{Upkeeps}
use Rattle.device_slot.specs.declared.power.PowerFault.{PowerFault}
use Rattle.device_slot.specs.Begun.{IsDeviceBegun}
use Rattle.device_slot.specs.Power.{look_reads, unpowered_nand, entries_for, ArePagesUnmounted, EndsFlush, FlushesLarger, LooksAtMost, IsBrought, IsDieHandedBack, IsStarted, IsStartedFlushed, HasTriedStart, IsTooStale, WantsCache}
use Rattle.device_slot.proofs.PowerLemmas.{wanted_more}

-- one look
pub looked_once : {N : Type 0} (view : View N) (g : Geometry) (old new : N) → OnlyReads view old new → view.reads new ≤ view.reads old + look_reads g → LooksAtMost view g 1 old new
looked_once view g old new reads most = record { only_reads = reads; most_reads = omega (arith, most) }

-- and another
pub looked_then : {N : Type 0} (view : View N) (g : Geometry) (old mid new : N) → LooksAtMost view g 1 old mid → LooksAtMost view g 1 mid new → LooksAtMost view g 2 old new
looked_then view g old mid new first then = record {
  only_reads = record {
    geometry_is = then.only_reads.geometry_is ∙ first.only_reads.geometry_is;
    honest_is = then.only_reads.honest_is ∙ first.only_reads.honest_is;
    calm_is = then.only_reads.calm_is ∙ first.only_reads.calm_is;
    programs_are = then.only_reads.programs_are ∙ first.only_reads.programs_are;
    erases_are = then.only_reads.erases_are ∙ first.only_reads.erases_are;
    failed_is = omega (arith, first.only_reads.failed_is, then.only_reads.failed_is);
  };
  most_reads = omega (arith, first.most_reads, then.most_reads);
}

-- the die that a refusal gives back
pub mid_looked : {N : Type 0} (view : View N) (nand mid : N) (g : Geometry) (fault : PowerFault N) → mid ≡ unpowered_nand fault → LooksAtMost view g 1 nand (unpowered_nand fault)
    → LooksAtMost view g 1 nand mid
mid_looked view nand mid g fault is looked = subst (λ n. LooksAtMost view g 1 nand n) (sym is) looked

-- a start by one look
pub at_once : {N : Type 0} (view : View N) (nand : N) (g : Geometry) (capacity : ℕ) (d : Device N) → d.engine.mapping.capacity ≡ capacity → LooksAtMost view g 1 nand d.engine.nand
    → (view.honest nand ≡ true → view.flash d.engine.nand ≡ view.flash nand) → IsStarted view nand g capacity d
at_once view nand g capacity d cache looked pages = inl (record { cache_is = cache; looked = looked; pages = pages })

-- ---- a flush, and what comes of it

module _ {N : Type 0} (view : View N) (nand given : N) (g : Geometry) (capacity stale : ℕ) (more : capacity < stale) (most : stale ≤ 65536)
    (wanted : view.honest nand ≡ true → IsTooStale g capacity (view.flash nand).image stale) (flushes : FlushesLarger view g 1 stale nand given) where
  -- no sector is stale, of an honest die that was flushed to its end
  none_stale : view.honest nand ≡ true → flushes.answer ≡ Ok tt → stale_count g (view.flash given).image ≡ 0
  none_stale h done =
      let there : view.honest flushes.larger.engine.nand ≡ true = flushes.looked.only_reads.honest_is ∙ h in
      let well = flushes.begun.kept.well there (ap (λ (r : Ram). stop_of r.fault) flushes.begun.begun) in
      let going : flushes.answer ≢ Err BusFault = λ e. (let both : ◌≡◌ {A = Result (Unit {0}) DeviceFault} (Ok tt) (Err BusFault) = sym done ∙ e in let no : ⊥ = cc in no) in
      let out = (flushes.upkeeps.logs there going).flushed well refl done in
      let fresh : stale_sectors g (view.flash flushes.left.engine.nand).image ≡ [] =
      subst (λ (k : Geometry). stale_sectors k (view.flash flushes.left.engine.nand).image ≡ []) flushes.sized out.fresh in
      ap (λ (n : N). stale_count g (view.flash n).image) flushes.given_is ∙ ap (λ (ns : List ℕ). length ns) fresh

  pub started_flushed : (d : Device N) → IsDieHandedBack view nand given → IsBrought view given g capacity d → LooksAtMost view g 2 given d.engine.nand
      → (view.honest given ≡ true → view.flash d.engine.nand ≡ view.flash given) → IsStartedFlushed view nand g capacity 1 d
  started_flushed d back brings looked pages = record {
    stale = stale;
    more = more;
    most = most;
    wanted = wanted;
    given = given;
    flushes = flushes;
    looked = looked;
    pages = pages;
    again = λ h done.
        let there : view.honest given ≡ true = back.honest_is ∙ h in
        let entries = brings.entries there in
        let none : stale_count g (view.flash d.engine.nand).image ≡ 0 = ap (λ (s : Flash). stale_count g s.image) (pages there) ∙ none_stale h done in
        omega (arith, entries, none);
  }

  pub if_started_flushed : (r : Result (Device N) (PowerFault N)) → IsDieHandedBack view nand given → IfOk r (IsBrought view given g capacity) → IfOk r (λ d. LooksAtMost view g 2 given d.engine.nand)
      → IfOk r (λ d. view.honest given ≡ true → view.flash d.engine.nand ≡ view.flash given) → IfOk r (IsStartedFlushed view nand g capacity 1)
  if_started_flushed (Ok d) back brings looked pages = started_flushed d back brings looked pages
  if_started_flushed (Err fault) back brings looked pages = tt

-- ---- a look, and then that

module _ {N : Type 0} (view : View N) (nand mid : N) (g : Geometry) (capacity : ℕ) (looked : LooksAtMost view g 1 nand mid)
    (same : view.honest nand ≡ true → view.flash mid ≡ view.flash nand) where
  flushes_then : (stale : ℕ) (given : N) (flushes : FlushesLarger view g 1 stale mid given) → FlushesLarger view g 2 stale nand given
  flushes_then stale given flushes = record {
    larger = flushes.larger;
    begun = flushes.begun;
    sized = flushes.sized;
    entries_are = flushes.entries_are;
    looked = looked_then view g nand mid flushes.larger.engine.nand looked flushes.looked;
    pages = λ h. flushes.pages (looked.only_reads.honest_is ∙ h) ∙ same h;
    answer = flushes.answer;
    ends = flushes.ends;
    left = flushes.left;
    upkeeps = flushes.upkeeps;
    given_is = flushes.given_is;
  }

  started_then : (d : Device N) → IsStartedFlushed view mid g capacity 1 d → IsStartedFlushed view nand g capacity 2 d
  unfolding flushes_then
  started_then d its = record {
    stale = its.stale;
    more = its.more;
    most = its.most;
    wanted = λ h. subst (λ (s : Flash). IsTooStale g capacity s.image its.stale) (same h) (its.wanted (looked.only_reads.honest_is ∙ h));
    given = its.given;
    flushes = flushes_then its.stale its.given its.flushes;
    looked = its.looked;
    pages = its.pages;
    again = λ h done. its.again (looked.only_reads.honest_is ∙ h) done;
  }

  pub if_started_then : (r : Result (Device N) (PowerFault N)) → IfOk r (IsStartedFlushed view mid g capacity 1) → IfOk r (IsStarted view nand g capacity)
  if_started_then (Ok d) its = inr (started_then d its)
  if_started_then (Err fault) its = tt

-- where the cache had room nothing was wanted
pub if_few_given : {N : Type 0} (view : View N) (nand : N) (g : Geometry) (capacity n : ℕ) (fault : PowerFault N) → ArePagesUnmounted view nand g capacity fault → WantsCache capacity fault n
    → (r : Result (Device N) (PowerFault N))
    → IfErr r (λ last. view.honest nand ≡ true → stale_count g (view.flash nand).image ≤ capacity → LooksAtMost view g 1 nand (unpowered_nand last))
if_few_given view nand g capacity n fault un wants (Ok d) = tt
if_few_given view nand g capacity n fault un wants (Err last) = λ h few. absurd (wanted_more view nand g capacity fault n un wants h few)

-- ---- a start that failed

-- no look
looked_none : {N : Type 0} (view : View N) (g : Geometry) (die : N) → LooksAtMost view g 2 die die
looked_none view g die = record {
  only_reads = record { geometry_is = refl; honest_is = refl; calm_is = refl; programs_are = refl; erases_are = refl; failed_is = omega arith };
  most_reads = omega arith;
}

-- one is no more than two
looked_twice : {N : Type 0} (view : View N) (g : Geometry) (old new : N) → LooksAtMost view g 1 old new → LooksAtMost view g 2 old new
looked_twice view g old new looked = record { only_reads = looked.only_reads; most_reads = omega (arith, looked.most_reads) }

-- of a device that failed its flush
pub tried_flush : {N : Type 0} (view : View N) (g : Geometry) (nand given : N) (larger left : Device N) (answer : Result (Unit {0}) DeviceFault) → IsDeviceBegun view larger
    → LooksAtMost view g 1 nand larger.engine.nand → Upkeeps view step.Flush larger answer left → given ≡ left.engine.nand → HasTriedStart view g 1 nand given
tried_flush view g nand given larger left answer begun looked upkeeps is = inr (record {
  larger = larger;
  begun = begun;
  looked = looked;
  answer = answer;
  left = left;
  upkeeps = upkeeps;
  looked_after = subst (λ n. LooksAtMost view g 2 left.engine.nand n) (sym is) (looked_none view g left.engine.nand);
})

-- of a die that was not mounted again
pub if_tried_flushed : {N : Type 0} (view : View N) (g : Geometry) (nand given : N) (stale : ℕ) → FlushesLarger view g 1 stale nand given → (r : Result (Device N) (PowerFault N))
    → IfErr r (λ fault. LooksAtMost view g 2 given (unpowered_nand fault)) → IfErr r (λ fault. HasTriedStart view g 1 nand (unpowered_nand fault))
if_tried_flushed view g nand given stale flushes (Ok d) looked = tt
if_tried_flushed view g nand given stale flushes (Err fault) looked = inr (record {
  larger = flushes.larger;
  begun = flushes.begun;
  looked = flushes.looked;
  answer = flushes.answer;
  left = flushes.left;
  upkeeps = flushes.upkeeps;
  looked_after = subst (λ n. LooksAtMost view g 2 n (unpowered_nand fault)) flushes.given_is looked;
})

-- of one for which no larger cache is tried
pub tried_once : {N : Type 0} (view : View N) (g : Geometry) (nand given : N) → LooksAtMost view g 1 nand given → HasTriedStart view g 2 nand given
tried_once view g nand given looked = inl (looked_twice view g nand given looked)

tried_then : {N : Type 0} (view : View N) (g : Geometry) (nand mid given : N) → LooksAtMost view g 1 nand mid → HasTriedStart view g 1 mid given → HasTriedStart view g 2 nand given
tried_then view g nand mid given first (inl looked) = inl (looked_then view g nand mid given first looked)
tried_then view g nand mid given first (inr its) = inr (record {
  larger = its.larger;
  begun = its.begun;
  looked = looked_then view g nand mid its.larger.engine.nand first its.looked;
  answer = its.answer;
  left = its.left;
  upkeeps = its.upkeeps;
  looked_after = its.looked_after;
})

pub if_tried_then : {N : Type 0} (view : View N) (g : Geometry) (nand mid : N) → LooksAtMost view g 1 nand mid → (r : Result (Device N) (PowerFault N))
    → IfErr r (λ fault. HasTriedStart view g 1 mid (unpowered_nand fault)) → IfErr r (λ fault. HasTriedStart view g 2 nand (unpowered_nand fault))
if_tried_then view g nand mid first (Ok d) its = tt
if_tried_then view g nand mid first (Err fault) its = tried_then view g nand mid (unpowered_nand fault) first its
