-- What a call comes to over a die, from what was brought over it.
use Rattle.std.proofs.Common.{◌≡◌, ◌≢◌, inl, inr, ℕ, true, List, [], length, Some, None, Result, Ok, Err, sym, ◌∙◌, subst}
use Rattle.std.specs.Prelude.{false, ◌≤◌, ◌+◌, IfOk, IfErr}
use Rattle.std.proofs.lemmas.Bool.{cases_eq}
use Rattle.page_layout.specs.View.{View}
use Rattle.page_layout.specs.declared.geometry.Geometry.{Geometry}
use Rattle.page_layout.specs.Array.{array_of}
use Rattle.page_layout.specs.Geometry.{row_count}
use Rattle.page_layout.specs.OnlyReads.{OnlyReads}
use Rattle.page_layout.specs.Raw.{still}
use Rattle.onfi_cycles.specs.Cycles.{Unreset}
use Rattle.certificate.specs.Claim.{Claim}
use Rattle.ftl_device.specs.declared.device.Device.{Device}
use Rattle.ftl_device.specs.Calls.{array_in}
use Rattle.device_slot.specs.declared.power.PowerFault.{PowerFault}
use Rattle.device_slot.specs.Begun.{IsDeviceBegun, IsDeviceKept}
use Rattle.device_slot.specs.Power.{HasTriedStart, IsBrought, IsCertificateUnaccepted, IsStarted, IsUnsettled, unpowered_nand}
use Rattle.device_slot.specs.Slot.{SlotState}
use Rattle.ftl_disk.specs.declared.descriptors.Descriptors.{Descriptors}
use Rattle.ftl_disk.specs.declared.plan.Plan.{Plan}
use Rattle.ftl_disk.specs.Dies.{CertifiesBy, IsCertifiedBy, IsDieLookedAt, IsPutInSlot, StartsBy, StartsByClaim}
use Rattle.ftl_disk.specs.Either.{LeadsTo}
use Rattle.ftl_disk.specs.Measures.{certificate_length}
use Rattle.ftl_disk.specs.NoLaw.{no_law}

-- descriptors are never honest
pub leads : (p : Plan) (link : Descriptors)
    → LeadsTo (λ (d : Descriptors). record { flash = still d.geometry []; phase = Unreset; status = 0 }) (λ d. still d.geometry []) (λ d. false) (λ d. false) p link
leads p link = record { plain = λ none h. no_law h; raw = λ c is h. no_law h; clean = λ c is h. no_law h }

-- a device that was begun is kept
pub begun_kept : {N : Type 0} (view : View N) (r : Result (Device N) (PowerFault N)) → IfOk r (IsDeviceBegun view) → IfOk r (IsDeviceKept view)
begun_kept view (Ok device) begun = begun.kept
begun_kept view (Err why) begun = tt

pub brought_kept : {N : Type 0} (view : View N) (die : N) (g : Geometry) (cache : ℕ) (r : Result (Device N) (PowerFault N))
    → IfOk r (IsBrought view die g cache) → IfOk r (IsDeviceKept view)
brought_kept view die g cache (Ok device) brings = brings.begun.kept
brought_kept view die g cache (Err why) brings = tt

-- a certificate, put into bytes that may be as many
pub filled : {N : Type 0} (view : View N) (g : Geometry) (cache : ℕ) (die after : N) (given out bytes : List ℕ) (number : ℕ) → IsDieLookedAt view g die after → IsCertifiedBy view g cache die bytes
    → (length bytes ≡ length given → (number ≡ 0) × (out ≡ bytes)) → (length bytes ≢ length given → (number ≡ 18) × (out ≡ given)) → CertifiesBy view g cache die given number out after
filled view g cache die after given out bytes number looked its same other = elim (cases_eq (length bytes) (length given)) [
  | inl e ↦ (let so = same e in record {
    kept = λ some. absurd (some so.0);
    why = λ some. absurd (some so.0);
    made = λ done. subst (λ (b : List ℕ). IsCertifiedBy view g cache die b) (sym so.1) its;
    looked = looked;
  })
  | inr ne ↦ (let so = other ne in record {
    kept = λ some. so.1;
    why = λ some. inl (so.0, λ (e : length given ≡ certificate_length g). ne (its.sized ∙ sym e));
    made = λ done. (let no : 18 ≡ 0 = sym so.0 ∙ done in absurd (cc));
    looked = looked;
  })
]

module _ {N W : Type 0} (view : View N) (leaves : W → N → W → Type 0) (g : Geometry) (cache : ℕ) (die : N) (way : W) (was : SlotState N) (number : ℕ) (way' : W) (is : SlotState N) where
  pub starts : (r : Result (Device N) (PowerFault N)) → IfOk r (IsBrought view die g cache) → IfOk r (IsStarted view die g cache) → IfErr r (IsUnsettled view die g cache)
      → IfErr r (λ fault. HasTriedStart view g 2 die (unpowered_nand fault)) → IsPutInSlot leaves r way was number way' is → StartsBy view leaves g cache die way was number way' is
  starts (Ok device) brings started fault tried put = inl (put.0, put.1, record { device = device; stands = put.2; brings = brings; started = started })
  starts (Err why) brings started fault tried put = inr (put.2, record { fault = why; number_is = put.0; unsettled = fault; tried = tried; left = put.1 })

  pub starts_by : (c : Claim) (r : Result (Device N) (PowerFault N)) → IfOk r (IsDeviceBegun view) → IfOk r (λ d. d.engine.geometry ≡ g) → IfOk r (λ d. d.engine.mapping.capacity ≡ cache)
      → IfOk r (λ d. view.honest die ≡ true → array_in view.flash d ≡ array_of g (view.flash die).image) → IfOk r (λ d. view.honest die ≡ true → view.flash d.engine.nand ≡ view.flash die)
      → IfOk r (λ d. OnlyReads view die d.engine.nand) → IfOk r (λ d. view.reads d.engine.nand ≤ view.reads die + row_count g) → IfErr r (IsCertificateUnaccepted view die g cache c)
      → IfErr r (λ fault. OnlyReads view die (unpowered_nand fault)) → IfErr r (λ fault. view.reads (unpowered_nand fault) ≤ view.reads die + row_count g)
      → IsPutInSlot leaves r way was number way' is → StartsByClaim view leaves g cache c die way was number way' is
  starts_by c (Ok device) begun sized capacity array pages reads most fault given most_given put =
      inl (put.0, put.1, record { device = device; stands = put.2; brings = record { begun = begun; sized = sized; cache_is = capacity; array = array; pages = pages; checked = record { only_reads = reads; most_reads = most } } })
  starts_by c (Err why) begun sized capacity array pages reads most fault given most_given put =
      inr (put.2, record { fault = why; number_is = put.0; unaccepted = fault; checked = record { only_reads = given; most_reads = most_given }; left = put.1 })
