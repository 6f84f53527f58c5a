-- What power brings, and what it leaves.
use Rattle.std.proofs.Common.{◌≡◌, ◌≢◌, ◌↔◌, ◌<◌, ◌≤◌, inl, inr, arith, refl, ℕ, true, Option, None, Some, Result, Ok, Err, sym, ap, ◌∙◌, subst}
use Rattle.std.proofs.lemmas.Bool.{cases_lt}
use Rattle.page_layout.specs.View.{View}
use Rattle.page_layout.specs.declared.geometry.Geometry.{Geometry}
use Rattle.page_layout.specs.Array.{array_of}
use Rattle.page_layout.specs.Flash.{Flash}
use Rattle.page_layout.specs.Page.{Image}
use Rattle.allocation.specs.View.{state}
use Rattle.promises.specs.Legal.{accounts_of}
use Rattle.promises.specs.Step.{Flush}
use Rattle.promises.proofs.StepLemmas.{quiet}
use Rattle.std.specs.Prelude.{IfOk, IfErr}
use Rattle.page_layout.specs.Counter.{HasRisen}
use Rattle.page_layout.specs.OnlyReads.{OnlyReads}
use Rattle.image_check.specs.Accepted.{Acceptance}
use Rattle.image_check.specs.Stale.{stale_count}
use Rattle.image_check.specs.declared.refusal.Refusal.{Refusal}
use Rattle.image_check.specs.declared.refusal.Refusal.TheVariants.{GeometryDiffers, Source, TooStale, WrongLength}
use Rattle.mount.specs.Mounted.{Refuses, ShowsRefusal}
use Rattle.collection.specs.Safe.{ram, image_in}
use Rattle.collection.specs.State.{Ram}
use Rattle.collection.specs.Truth.{IsTrue}
use Rattle.collection.specs.Log.{IsAccounted}
use Rattle.ftl_device.specs.declared.device.Device.{Device}
use Rattle.ftl_device.specs.declared.fault.DeviceFault.{DeviceFault}
use Rattle.ftl_device.specs.declared.fault.DeviceFault.TheVariants.{Damaged, BusFault}
use Rattle.ftl_device.specs.Begin.{begun_ram, is_bad_in, free_in, is_scarce}
use Rattle.ftl_device.specs.Calls.{Says, array_in, state_in, reply_of, stop_of}
use Rattle.ftl_device.specs.Changes.{Upkeeps}
use Rattle.ftl_device.specs.Device.{IsDevice, IsAcceptedFor}
use Rattle.command_queue.proofs.AcceptedLemmas.{started_well}
use Rattle.collection.proofs.Costs.{risen_over}
use Rattle.device_slot.specs.declared.power.PowerFault.{PowerFault}
use Rattle.device_slot.specs.declared.power.PowerFault.TheVariants.{Refused, Start, Flush as OfFlush}
use Rattle.device_slot.specs.Begun.{IsDeviceBegun}
use Rattle.device_slot.specs.Power.{unpowered_nand, entries_for, HasCertificate, HoldsSame, IsBrought, IsDieHandedBack, IsPastEachCache, IsTooStale, IsUnbrought, ArePagesUnmounted, IsUnsettled, IsUnsettledWith, StopsFlush, WantsCache, WantsMore}

pub begun_so : {N : Type 0} (view : View N) (d : Device N) (nand : N) (a : Acceptance) → IsDevice view.flash d → d.engine.nand ≡ nand
    → ram d.engine ≡ begun_ram (view.flash nand).geometry 0 a.claim a.stale
    → (view.honest nand ≡ true → IsAcceptedFor (view.flash nand) a → IsTrue None (ram d.engine) (image_in view.flash d.engine))
    → (view.honest nand ≡ true → IsAcceptedFor (view.flash nand) a → d.read_only ≡ is_scarce (free_in (view.flash nand).geometry a.claim (view.flash nand).image))
    → (view.honest nand ≡ true → IsAcceptedFor (view.flash nand) a → IsAccounted (accounts_of (view.flash nand).geometry (view.flash nand).image (is_bad_in a.claim)) (state d.engine.blocks))
    → (view.honest nand ≡ true → IsAcceptedFor (view.flash nand) a) → IsDeviceBegun view d
begun_so {N} view d nand a device is begun truth free accounts its =
    let here : view.honest d.engine.nand ≡ true → view.honest nand ≡ true = λ h. sym (ap view.honest is) ∙ h in
    let so : view.honest d.engine.nand ≡ true → IsTrue None (ram d.engine) (image_in view.flash d.engine) = λ h. truth (here h) (its (here h)) in
    record {
      accepted = a;
      kept = record { device = device; well = λ h going. started_well view.flash d (view.flash nand).geometry 0 a.claim a.stale begun (so h) };
      begun = begun ∙ ap (λ (n : N). begun_ram (view.flash n).geometry 0 a.claim a.stale) (sym is);
      its = λ h. subst (λ (n : N). IsAcceptedFor (view.flash n) a) (sym is) (its (here h));
      truth = so;
      free = λ h. free (here h) (its (here h)) ∙ ap (λ (n : N). is_scarce (free_in (view.flash n).geometry a.claim (view.flash n).image)) (sym is);
      accounts = λ h. subst (λ (n : N). IsAccounted (accounts_of (view.flash n).geometry (view.flash n).image (is_bad_in a.claim)) (state d.engine.blocks)) (sym is) (accounts (here h) (its (here h)));
    }

-- a flush leaves the array as it was, unless the bus failed
pub flushed : {N : Type 0} (view : View N) (d e : Device N) (result : Result (Unit {0}) DeviceFault)
    → IsDeviceBegun view d → Upkeeps view Flush d result e → result ≢ Err BusFault → view.honest d.engine.nand ≡ true → array_in view.flash e ≡ array_in view.flash d
flushed view d e result begun upkeeps ne h =
    let well = begun.kept.well h (ap (λ (r : Ram). stop_of r.fault) begun.begun) in
    (quiet d.engine.geometry (state_in view.flash d) (state_in view.flash e) (reply_of result)).0 (upkeeps.means h well ne).step

-- ---- the words of a refusal

pub not_source : {A : Type 0} (why : Refusal) → why ≢ Source → ◌≢◌ {A = Result A Refusal} (Err why) (Err Source)
not_source why ne = λ e. ne (let same = e in cc)

pub is_source : {A : Type 0} (why : Refusal) → why ≡ Source → ◌≡◌ {A = Result A Refusal} (Err why) (Err Source)
is_source {A} why is = ap (λ (r : Refusal). (let it : Result A Refusal = Err r in it)) is

pub of_checking : {A : Type 0} (why : Refusal) (Asked : Type 0) → ◌≢◌ {A = Result A Refusal} (Err why) (Err WrongLength)
    → ◌↔◌ (◌≡◌ {A = Result A Refusal} (Err why) (Err GeometryDiffers)) Asked → (why ≢ WrongLength) × ◌↔◌ (why ≡ GeometryDiffers) Asked
of_checking {A} why Asked only asked = (
  λ e. only (ap (λ (r : Refusal). (let it : Result A Refusal = Err r in it)) e),
  (λ e. asked.0 (ap (λ (r : Refusal). (let it : Result A Refusal = Err r in it)) e), λ its. (let same = asked.1 its in cc)),
)

-- ---- the words of a flush

pub err_same : (result : Result (Unit {0}) DeviceFault) (fault : DeviceFault) → result ≡ Err fault → fault ≢ BusFault → result ≢ Err BusFault
err_same result fault is ne = λ bus. (let both : ◌≡◌ {A = Result (Unit {0}) DeviceFault} (Err fault) (Err BusFault) = sym is ∙ bus in ne (let same = both in cc))

pub err_is : (result : Result (Unit {0}) DeviceFault) (fault : DeviceFault) → result ≡ Err fault → fault ≡ BusFault → result ≡ Err BusFault
err_is result fault is bus = is ∙ ap (λ (f : DeviceFault). (let it : Result (Unit {0}) DeviceFault = Err f in it)) bus

-- ---- what a refusal says at another cache

-- the cache that a start takes is the one that was asked for, where the pages go with that
pub certificate_for : (g : Geometry) (capacity : ℕ) (image : Image) → HasCertificate g capacity image → HasCertificate g (entries_for g capacity image) image
certificate_for g capacity image its =
    let fresh = its.agrees.fresh in
    let is : capacity ≡ entries_for g capacity image = omega (arith, fresh) in
    subst (λ (n : ℕ). HasCertificate g n image) is its

-- or one of as many entries as sectors are stale
pub certificate_at : (g : Geometry) (capacity stale : ℕ) (image : Image) → capacity < stale → stale ≡ stale_count g image → HasCertificate g stale image
    → HasCertificate g (entries_for g capacity image) image
certificate_at g capacity stale image more is its =
    let same : stale ≡ entries_for g capacity image = omega (arith, more, is) in
    subst (λ (n : ℕ). HasCertificate g n image) same its

-- a refusal at a cache with room for what is stale is for something else
shows_less : (g : Geometry) (capacity stale : ℕ) (image : Image) (why : Refusal) → stale ≡ stale_count g image → ShowsRefusal g stale image why → ShowsRefusal g capacity image why
shows_less g capacity stale image (TooStale count most) is shows = absurd (omega (arith, is, shows.0, shows.2))
shows_less g capacity stale image _ is shows = shows

pub refuses_less : (g : Geometry) (capacity stale : ℕ) (image : Image) (why : Refusal) → IsTooStale g capacity image stale → Refuses g stale image why → Refuses g capacity image why
refuses_less g capacity stale image why its (inl stop) = inl stop
refuses_less g capacity stale image why its (inr un) = inr (record {
  none = its.none;
  shows = shows_less g capacity stale image why its.stale_is un.shows;
  numbers = un.numbers;
  sequences = un.sequences;
  tables = un.tables;
})

pub past_less : (g : Geometry) (stale : ℕ) (image : Image) (why : Refusal) → stale ≡ stale_count g image → Refuses g stale image why → IsPastEachCache why
past_less g stale image (TooStale count most) is (inl (inl e)) = (let never : ⊥ = cc in absurd never)
past_less g stale image (TooStale count most) is (inl (inr e)) = (let never : ⊥ = cc in absurd never)
past_less g stale image (TooStale count most) is (inr un) = (let its = un.shows in absurd (omega (arith, is, its.0, its.2)))
past_less g stale image _ is refuses = tt

-- a refusal for which no larger cache is tried
pub past_each : {N : Type 0} (g : Geometry) (capacity : ℕ) (image : Image) (why : Refusal) (given : N) → Refuses g capacity image why
    → ((entries : ℕ) → WantsCache capacity (Refused why given) entries → ⊥) → IsPastEachCache why
past_each g capacity image (TooStale count most) given (inl (inl e)) none = (let never : ⊥ = cc in absurd never)
past_each g capacity image (TooStale count most) given (inl (inr e)) none = (let never : ⊥ = cc in absurd never)
past_each g capacity image (TooStale count most) given (inr un) none = elim (cases_lt 65536 count) [
  | inl past ↦ past
  | inr room ↦ absurd (none count (refl, omega (arith, un.shows.1, un.shows.2), omega (arith, room)))
]
past_each g capacity image _ given refuses none = tt

-- ---- one look, and what it leaves

module _ {N : Type 0} (view : View N) (nand : N) (g : Geometry) (capacity : ℕ) where
  -- a die that was refused for what is stale is as it was
  pub wanted_same : (fault : PowerFault N) (n : ℕ) → ArePagesUnmounted view nand g capacity fault → WantsCache capacity fault n → view.honest nand ≡ true → view.flash (unpowered_nand fault) ≡ view.flash nand
  wanted_same (Refused (TooStale stale most) given) n un wants h = un.same (λ e. let no : ⊥ = cc in no) h
  wanted_same (Refused _ given) n un wants h = absurd wants
  wanted_same (Start given) n un wants h = absurd wants
  wanted_same (OfFlush fault given) n un wants h = absurd wants

  -- so many of its sectors are stale
  pub wanted_stale : (fault : PowerFault N) (n : ℕ) → ArePagesUnmounted view nand g capacity fault → WantsCache capacity fault n → view.honest nand ≡ true
      → IsTooStale g capacity (view.flash nand).image n
  wanted_stale (Refused (TooStale stale most) given) n un wants h = elim (un.shows h) [
    | inl stop ↦ elim stop [ inl source ↦ (let no : ⊥ = cc in absurd no) | inr memory ↦ (let no : ⊥ = cc in absurd no) ]
    | inr refused ↦ record { stale_is = wants.0 ∙ refused.shows.0; none = refused.none }
  ]
  wanted_stale (Refused _ given) n un wants h = absurd wants
  wanted_stale (Start given) n un wants h = absurd wants
  wanted_stale (OfFlush fault given) n un wants h = absurd wants

  pub wanted_cache : (fault : PowerFault N) (n : ℕ) → WantsCache capacity fault n → (capacity < n) × (n ≤ 65536)
  wanted_cache (Refused (TooStale stale most) given) n wants = (wants.1, wants.2)
  wanted_cache (Refused _ given) n wants = absurd wants
  wanted_cache (Start given) n wants = absurd wants
  wanted_cache (OfFlush fault given) n wants = absurd wants

  -- and has more stale sectors than the cache has entries
  pub wanted_more : (fault : PowerFault N) (n : ℕ) → ArePagesUnmounted view nand g capacity fault → WantsCache capacity fault n → view.honest nand ≡ true
      → stale_count g (view.flash nand).image ≤ capacity → ⊥
  wanted_more fault n un wants h few =
      let its = wanted_stale fault n un wants h in
      let cache = wanted_cache fault n wants in
      omega (arith, its.stale_is, cache.0, few)

  pub wanted_array : (fault : PowerFault N) (n : ℕ) → ArePagesUnmounted view nand g capacity fault → WantsCache capacity fault n → HoldsSame view g nand (unpowered_nand fault)
  wanted_array fault n un wants h = ap (λ (s : Flash). array_of g s.image) (wanted_same fault n un wants h)

  -- where no larger cache is tried
  pub unbrought : (fault : PowerFault N) → ArePagesUnmounted view nand g capacity fault → ((entries : ℕ) → WantsCache capacity fault entries → ⊥)
      → IsUnbrought view nand g capacity fault
  unbrought (Refused why given) un none = record {
    only = un.only;
    rose = un.rose;
    holds = λ ne h. ap (λ (s : Flash). array_of g s.image) (un.same ne h);
    refuses = λ ne h. subst (λ (s : Flash). Refuses g capacity s.image why) (sym (un.same ne h)) (un.shows h);
    past = λ h. past_each g capacity (view.flash nand).image why given (un.shows h) none;
    unwritten = λ ne h few. un.same ne h;
  }
  unbrought (Start given) un none = record {
    holds = λ h. ap (λ (s : Flash). array_of g s.image) (un.same h);
    agrees = λ h.
        subst (λ (s : Flash). HasCertificate g (entries_for g capacity s.image) s.image) (sym (un.same h))
        (certificate_for g capacity (view.flash nand).image (un.agrees h));
    unwritten = λ h few. un.same h;
  }
  unbrought (OfFlush fault given) un none = absurd un

  pub handed_back : (given : N) → OnlyReads view nand given → IsDieHandedBack view nand given
  handed_back given reads = record { honest_is = reads.honest_is; geometry_is = reads.geometry_is; failed_is = reads.failed_is }

  pub unsettled_at : (fault : PowerFault N) → ArePagesUnmounted view nand g capacity fault → IsUnsettledWith view nand g capacity fault
  unsettled_at (Refused why given) un = un
  unsettled_at (Start given) un = un
  unsettled_at (OfFlush fault given) un = absurd un

  -- where a device begins the pages go with a certificate
  pub mounted_begun : (d : Device N) → IsDeviceBegun view d → d.engine.geometry ≡ g → d.engine.mapping.capacity ≡ capacity → (view.honest nand ≡ true → view.flash d.engine.nand ≡ view.flash nand)
      → view.honest d.engine.nand ≡ view.honest nand → view.honest nand ≡ true → HasCertificate g capacity (view.flash nand).image
  mounted_begun d begun sized cache pages same h =
      let its = begun.its (same ∙ h) in
      let size : (view.flash d.engine.nand).geometry ≡ g = sym (ap (λ (r : Ram). r.geometry) begun.begun) ∙ sized in
      let claimed : begun.accepted.claim.capacity ≡ capacity = sym (ap (λ (r : Ram). r.mapping.capacity) begun.begun) ∙ cache in
      subst (λ (s : Flash). HasCertificate g capacity s.image) (pages h)
      (subst (λ (n : ℕ). HasCertificate g n (view.flash d.engine.nand).image) claimed
      (subst (λ (k : Geometry). HasCertificate k begun.accepted.claim.capacity (view.flash d.engine.nand).image) size
      (record { certificate = begun.accepted.claim; agrees = its.accepted.agrees })))

  -- as many entries as were asked for are as many as are wanted
  entries_are : (d : Device N) → IsDeviceBegun view d → d.engine.geometry ≡ g → d.engine.mapping.capacity ≡ capacity → view.honest d.engine.nand ≡ true
      → d.engine.mapping.capacity ≡ entries_for g capacity (view.flash d.engine.nand).image
  entries_are d begun sized cache h =
      let its = begun.its h in
      let s = view.flash d.engine.nand in
      let same : s.geometry ≡ g = sym (ap (λ (r : Ram). r.geometry) begun.begun) ∙ sized in
      let claimed : d.engine.mapping.capacity ≡ begun.accepted.claim.capacity = ap (λ (r : Ram). r.mapping.capacity) begun.begun in
      let fresh : stale_count g s.image ≤ begun.accepted.claim.capacity =
      subst (λ (k : Geometry). stale_count k s.image ≤ begun.accepted.claim.capacity) same its.accepted.agrees.fresh in
      omega (arith, fresh, claimed, cache)

  pub brought : (d : Device N) → IsDeviceBegun view d → d.engine.geometry ≡ g → d.engine.mapping.capacity ≡ capacity
      → (view.honest nand ≡ true → array_in view.flash d ≡ array_of g (view.flash nand).image) → OnlyReads view nand d.engine.nand
      → IsBrought view nand g capacity d
  brought d begun sized cache array reads = record {
    begun = begun;
    sized = sized;
    cache = omega (arith, cache);
    entries = λ h. entries_are d begun sized cache (reads.honest_is ∙ h);
    array = array;
    back = handed_back d.engine.nand reads;
  }

-- ---- a look at a larger cache, of a die whose pages are as they were

module _ {N : Type 0} (view : View N) (nand mid : N) (g : Geometry) (capacity stale : ℕ) (more : capacity < stale)
    (back : IsDieHandedBack view nand mid) (same : view.honest nand ≡ true → view.flash mid ≡ view.flash nand)
    (wants : view.honest nand ≡ true → IsTooStale g capacity (view.flash nand).image stale) where
  pub unbrought_with : (fault : PowerFault N) → ArePagesUnmounted view mid g stale fault → IsUnbrought view nand g capacity fault
  unbrought_with (Refused why given) un =
      let is : why ≢ Source → view.honest nand ≡ true → view.flash given ≡ view.flash nand = λ ne h. un.same ne (back.honest_is ∙ h) ∙ same h in
      let was : view.honest nand ≡ true → Refuses g stale (view.flash nand).image why =
      λ h. subst (λ (s : Flash). Refuses g stale s.image why) (same h) (un.shows (back.honest_is ∙ h)) in
      record {
        only = un.only;
        rose = λ e. risen_over (view.failed nand) (view.failed mid) (view.failed given) back.failed_is (un.rose e);
        holds = λ ne h. ap (λ (s : Flash). array_of g s.image) (is ne h);
        refuses = λ ne h. subst (λ (s : Flash). Refuses g capacity s.image why) (sym (is ne h)) (refuses_less g capacity stale (view.flash nand).image why (wants h) (was h));
        past = λ h. past_less g stale (view.flash nand).image why (wants h).stale_is (was h);
        unwritten = λ ne h few. is ne h;
      }
  unbrought_with (Start given) un =
      let is : view.honest nand ≡ true → view.flash given ≡ view.flash nand = λ h. un.same (back.honest_is ∙ h) ∙ same h in
      record {
        holds = λ h. ap (λ (s : Flash). array_of g s.image) (is h);
        agrees = λ h.
            subst (λ (s : Flash). HasCertificate g (entries_for g capacity s.image) s.image) (sym (is h))
            (certificate_at g capacity stale (view.flash nand).image more (wants h).stale_is
            (subst (λ (s : Flash). HasCertificate g stale s.image) (same h) (un.agrees (back.honest_is ∙ h))));
        unwritten = λ h few. is h;
      }
  unbrought_with (OfFlush fault given) un = absurd un

  pub unsettled_with : (fault : PowerFault N) → IsUnsettledWith view mid g stale fault → IsUnsettled view nand g capacity fault
  unsettled_with (Refused why given) un = unbrought_with (Refused why given) un
  unsettled_with (Start given) un = unbrought_with (Start given) un
  unsettled_with (OfFlush fault given) un = record {
    only = un.only;
    bus = λ h. un.bus (back.honest_is ∙ h);
    rose = λ e. risen_over (view.failed nand) (view.failed mid) (view.failed given) back.failed_is (un.rose e);
    started = λ h.
        let is : stale ≡ stale_count g (view.flash nand).image = (wants h).stale_is in
        record {
          more = omega (arith, more, is);
          agrees = subst (λ (n : ℕ). HasCertificate g n (view.flash nand).image) is (subst (λ (s : Flash). HasCertificate g stale s.image) (same h) (un.started (back.honest_is ∙ h)));
        };
  }

  pub brought_with : (d : Device N) → IsBrought view mid g stale d → (view.honest mid ≡ true → view.flash d.engine.nand ≡ view.flash mid) → IsBrought view nand g capacity d
  brought_with d its pages = record {
    begun = its.begun;
    sized = its.sized;
    cache = omega (arith, more, its.cache);
    entries = λ h.
        let is : view.flash d.engine.nand ≡ view.flash nand = pages (back.honest_is ∙ h) ∙ same h in
        let now = its.entries (back.honest_is ∙ h) in
        let count : stale ≡ stale_count g (view.flash d.engine.nand).image = (wants h).stale_is ∙ ap (λ (s : Flash). stale_count g s.image) (sym is) in
        omega (arith, more, now, count);
    array = λ h. its.array (back.honest_is ∙ h) ∙ ap (λ (s : Flash). array_of g s.image) (same h);
    back = record {
      honest_is = its.back.honest_is ∙ back.honest_is;
      geometry_is = its.back.geometry_is ∙ back.geometry_is;
      failed_is = omega (arith, back.failed_is, its.back.failed_is);
    };
  }

  pub if_unbrought_with : (r : Result (Device N) (PowerFault N)) → IfErr r (ArePagesUnmounted view mid g stale) → IfErr r (IsUnbrought view nand g capacity)
  if_unbrought_with (Ok d) its = tt
  if_unbrought_with (Err fault) its = unbrought_with fault its

  pub if_brought_with : (r : Result (Device N) (PowerFault N)) → IfOk r (IsBrought view mid g stale)
      → IfOk r (λ d. view.honest mid ≡ true → view.flash d.engine.nand ≡ view.flash mid) → IfOk r (IsBrought view nand g capacity)
  if_brought_with (Ok d) its pages = brought_with d its pages
  if_brought_with (Err fault) its pages = tt

-- ---- the die that comes back

pub back_same : {N : Type 0} (view : View N) (nand : N) → IsDieHandedBack view nand nand
back_same view nand = record { honest_is = refl; geometry_is = refl; failed_is = omega arith }

pub if_back_on : {N : Type 0} (view : View N) (nand mid : N) → IsDieHandedBack view nand mid → (r : Result (Device N) (PowerFault N))
    → IfErr r (λ fault. IsDieHandedBack view mid (unpowered_nand fault)) → IfErr r (λ fault. IsDieHandedBack view nand (unpowered_nand fault))
if_back_on view nand mid back (Ok d) its = tt
if_back_on view nand mid back (Err fault) its = record {
  honest_is = its.honest_is ∙ back.honest_is;
  geometry_is = its.geometry_is ∙ back.geometry_is;
  failed_is = omega (arith, back.failed_is, its.failed_is);
}

-- ---- a look at this cache, of a die that holds the same array

module _ {N : Type 0} (view : View N) (nand mid : N) (g : Geometry) (capacity : ℕ)
    (back : IsDieHandedBack view nand mid) (same : HoldsSame view g nand mid) where
  pub brought_after : (d : Device N) → IsBrought view mid g capacity d → IsBrought view nand g capacity d
  brought_after d its = record {
    begun = its.begun;
    sized = its.sized;
    cache = its.cache;
    entries = λ h. its.entries (back.honest_is ∙ h);
    array = λ h. its.array (back.honest_is ∙ h) ∙ same h;
    back = record {
      honest_is = its.back.honest_is ∙ back.honest_is;
      geometry_is = its.back.geometry_is ∙ back.geometry_is;
      failed_is = omega (arith, back.failed_is, its.back.failed_is);
    };
  }

  -- what was stale had no room, so something was written
  pub unsettled_after : (fault : PowerFault N) → (view.honest nand ≡ true → capacity < stale_count g (view.flash nand).image) → IsUnbrought view mid g capacity fault
      → IsUnsettled view nand g capacity fault
  unsettled_after (Refused why given) more un = record {
    only = un.only;
    rose = λ e. risen_over (view.failed nand) (view.failed mid) (view.failed given) back.failed_is (un.rose e);
    holds = λ ne h. un.holds ne (back.honest_is ∙ h) ∙ same h;
    refuses = λ ne h. un.refuses ne (back.honest_is ∙ h);
    past = λ h. un.past (back.honest_is ∙ h);
    unwritten = λ ne h few. absurd (omega (arith, few, more h));
  }
  unsettled_after (Start given) more un = record {
    holds = λ h. un.holds (back.honest_is ∙ h) ∙ same h;
    agrees = λ h. un.agrees (back.honest_is ∙ h);
    unwritten = λ h few. absurd (omega (arith, few, more h));
  }
  unsettled_after (OfFlush fault given) more un = absurd un

  pub if_brought : (r : Result (Device N) (PowerFault N)) → IfOk r (IsBrought view mid g capacity) → IfOk r (IsBrought view nand g capacity)
  if_brought (Ok d) its = brought_after d its
  if_brought (Err fault) its = tt

  pub if_unsettled : (r : Result (Device N) (PowerFault N)) → (view.honest nand ≡ true → capacity < stale_count g (view.flash nand).image)
      → IfErr r (IsUnbrought view mid g capacity) → IfErr r (IsUnsettled view nand g capacity)
  if_unsettled (Ok d) more its = tt
  if_unsettled (Err fault) more its = unsettled_after fault more its

-- the cache has no room for what is stale
pub stale_more : (g : Geometry) (capacity stale : ℕ) (image : Image) → capacity < stale → IsTooStale g capacity image stale → capacity < stale_count g image
stale_more g capacity stale image more its = (let is = its.stale_is in omega (arith, more, is))

-- a refusal with which nothing was flushed is one of a start
pub unsettled_of : {N : Type 0} (view : View N) (nand : N) (g : Geometry) (capacity : ℕ) (fault : PowerFault N)
    → IsUnbrought view nand g capacity fault → IsUnsettled view nand g capacity fault
unsettled_of view nand g capacity (Refused why given) un = un
unsettled_of view nand g capacity (Start given) un = un
unsettled_of view nand g capacity (OfFlush fault given) un = absurd un

-- ---- a flush in between

module _ {N : Type 0} (view : View N) (nand : N) (g : Geometry) (stale : ℕ) (d e : Device N) (result : Result (Unit {0}) DeviceFault)
    (its : IsBrought view nand g stale d) (sized : e.engine.geometry ≡ d.engine.geometry) (device : IsDevice view.flash e) (upkeeps : Upkeeps view Flush d result e) where
  pub flushed_same : (given : N) → given ≡ e.engine.nand → result ≢ Err BusFault → HoldsSame view g nand given
  flushed_same given is ne h =
      ap (λ (n : N). array_of g (view.flash n).image) is
      ∙ (ap (λ (k : Geometry). array_of k (view.flash e.engine.nand).image) (sym (sized ∙ its.sized))
      ∙ (flushed view d e result its.begun upkeeps ne (its.back.honest_is ∙ h) ∙ its.array h))

  pub flushed_back : (given : N) → given ≡ e.engine.nand → (view.flash given).geometry ≡ e.engine.geometry → (view.flash nand).geometry ≡ g → IsDieHandedBack view nand given
  flushed_back given is here was = record {
    honest_is = ap view.honest is ∙ (upkeeps.stays.honest_is ∙ its.back.honest_is);
    geometry_is = here ∙ (sized ∙ (its.sized ∙ sym was));
    failed_is = omega (arith, its.back.failed_is, upkeeps.stays.failed_is, ap view.failed is);
  }

  pub flushed_bus : (fault : DeviceFault) → result ≡ Err fault → StopsFlush fault → view.honest nand ≡ true → fault ≡ BusFault
  flushed_bus Damaged is stops h =
      let well = its.begun.kept.well (its.back.honest_is ∙ h) (ap (λ (r : Ram). stop_of r.fault) its.begun.begun) in
      let after = (upkeeps.means (its.back.honest_is ∙ h) well (err_same result Damaged is (λ e. let no : ⊥ = cc in no))).well.going in
      let says : stop_of e.engine.fault ≡ Some Damaged = subst (λ (r : Result (Unit {0}) DeviceFault). IfErr r (Says (ram d.engine) (ram e.engine))) is upkeeps.refuses.says in
      let never : ◌≡◌ {A = Option DeviceFault} None (Some Damaged) = sym after ∙ says in let no : ⊥ = cc in absurd no
  flushed_bus BusFault is stops h = refl
  flushed_bus _ is stops h = absurd stops

  pub flushed_rose : (given : N) → given ≡ e.engine.nand → result ≡ Err BusFault → HasRisen (view.failed nand) (view.failed given)
  flushed_rose given is bus =
      subst (λ (n : N). HasRisen (view.failed nand) (view.failed n)) (sym is)
      (risen_over (view.failed nand) (view.failed d.engine.nand) (view.failed e.engine.nand) its.back.failed_is
      (upkeeps.refuses.rose (ap (λ (r : Ram). stop_of r.fault) its.begun.begun) bus))

-- the die that a refusal gives back
module _ {N : Type 0} (view : View N) (nand mid : N) (g : Geometry) (capacity n : ℕ) (fault : PowerFault N)
    (is : mid ≡ unpowered_nand fault) (un : ArePagesUnmounted view nand g capacity fault) (wants : WantsCache capacity fault n) where
  pub mid_flash : view.honest nand ≡ true → view.flash mid ≡ view.flash nand
  mid_flash h = ap view.flash is ∙ wanted_same view nand g capacity fault n un wants h

  pub mid_same : HoldsSame view g nand mid
  mid_same = subst (λ (m : N). HoldsSame view g nand m) (sym is) (wanted_array view nand g capacity fault n un wants)

  pub mid_back : IsDieHandedBack view nand (unpowered_nand fault) → IsDieHandedBack view nand mid
  mid_back back = subst (λ (m : N). IsDieHandedBack view nand m) (sym is) back

  pub mid_sized : IsDieHandedBack view nand (unpowered_nand fault) → (view.flash nand).geometry ≡ g → (view.flash mid).geometry ≡ g
  mid_sized back was = ap (λ (m : N). (view.flash m).geometry) is ∙ (back.geometry_is ∙ was)

  pub mid_wanted : IsDieHandedBack view nand (unpowered_nand fault) → view.honest mid ≡ true → IsTooStale g capacity (view.flash mid).image n
  mid_wanted back h =
      let was : view.honest nand ≡ true = sym (ap view.honest is ∙ back.honest_is) ∙ h in
      subst (λ (s : Flash). IsTooStale g capacity s.image n) (sym (mid_flash was)) (wanted_stale view nand g capacity fault n un wants was)

  pub mid_still : (r : Result (Device N) (PowerFault N)) → IfOk r (λ d. view.honest nand ≡ true → stale_count g (view.flash nand).image ≤ capacity → view.flash d.engine.nand ≡ view.flash nand)
  mid_still (Ok d) = λ h few. absurd (wanted_more view nand g capacity fault n un wants h few)
  mid_still (Err f) = tt

-- what a start over a die with the same pages is refused for
module _ {N : Type 0} (view : View N) (nand mid : N) (g : Geometry) (capacity : ℕ)
    (back : IsDieHandedBack view nand mid) (same : view.honest nand ≡ true → view.flash mid ≡ view.flash nand) where
  few_there : view.honest nand ≡ true → stale_count g (view.flash nand).image ≤ capacity → stale_count g (view.flash mid).image ≤ capacity
  few_there h few = (let is = ap (λ (s : Flash). stale_count g s.image) (same h) in omega (arith, few, is))

  pub unsettled_there : (fault : PowerFault N) → IsUnsettled view mid g capacity fault → IsUnsettled view nand g capacity fault
  unsettled_there (Refused why given) un = record {
    only = un.only;
    rose = λ e. risen_over (view.failed nand) (view.failed mid) (view.failed given) back.failed_is (un.rose e);
    holds = λ ne h. un.holds ne (back.honest_is ∙ h) ∙ ap (λ (s : Flash). array_of g s.image) (same h);
    refuses = λ ne h. un.refuses ne (back.honest_is ∙ h);
    past = λ h. un.past (back.honest_is ∙ h);
    unwritten = λ ne h few. un.unwritten ne (back.honest_is ∙ h) (few_there h few) ∙ same h;
  }
  unsettled_there (Start given) un = record {
    holds = λ h. un.holds (back.honest_is ∙ h) ∙ ap (λ (s : Flash). array_of g s.image) (same h);
    agrees = λ h. un.agrees (back.honest_is ∙ h);
    unwritten = λ h few. un.unwritten (back.honest_is ∙ h) (few_there h few) ∙ same h;
  }
  unsettled_there (OfFlush fault given) un = record {
    only = un.only;
    bus = λ h. un.bus (back.honest_is ∙ h);
    rose = λ e. risen_over (view.failed nand) (view.failed mid) (view.failed given) back.failed_is (un.rose e);
    started = λ h. subst (λ (s : Flash). WantsMore g capacity s.image) (same h) (un.started (back.honest_is ∙ h));
  }

  pub if_unsettled_there : (r : Result (Device N) (PowerFault N)) → IfErr r (IsUnsettled view mid g capacity) → IfErr r (IsUnsettled view nand g capacity)
  if_unsettled_there (Ok d) its = tt
  if_unsettled_there (Err fault) its = unsettled_there fault its
