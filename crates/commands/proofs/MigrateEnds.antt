-- From what the steps of `migrate` came to, to what the command came to.
use Rattle.std.proofs.Common.{true, ◌≡◌, ◌≢◌, ◌⊎◌, inl, inr, ℕ, ◌+◌, ◌≤◌, List, Option, None, Result, Ok, Err, OnOk, IfErr, refl, sym, ap, subst, ◌∙◌, arith}
use Rattle.std.specs.Io.KnownBytes.{Appends, Keeps}
use Rattle.page_layout.specs.declared.geometry.Geometry.{Geometry}
use Rattle.page_layout.specs.Array.{array_of}
use Rattle.page_layout.specs.Flash.{Flash, Leads}
use Rattle.page_layout.specs.OnlyReads.{OnlyReads}
use Rattle.page_layout.specs.Page.{Image, IsImage}
use Rattle.page_layout.specs.Raw.{raw_image, raw_bytes}
use Rattle.page_layout.specs.Recording.{Recording}
use Rattle.certificate.specs.Claim.{Claim}
use Rattle.mount.specs.Log.{failures}
use Rattle.nand_die.specs.Made.{loaded_flash}
use Rattle.promises.specs.Legal.{IsLegal, LegalFrom, accounts_of}
use Rattle.image_check.specs.Accepted.{Acceptance, IsAcceptance}
use Rattle.image_check.specs.Mountable.{IsMountable}
use Rattle.allocation.specs.View.{state}
use Rattle.collection.specs.State.{Ram}
use Rattle.collection.specs.Log.{IsAccounted, Went}
use Rattle.collection.specs.Safe.{image_in, ram}
use Rattle.collection.specs.Truth.{IsTrue}
use Rattle.ftl_device.specs.Begin.{begun_ram, free_in, is_bad_in, is_scarce}
use Rattle.ftl_device.specs.Device.{IsDevice, IsAcceptedFor}
use Rattle.ftl_device.specs.declared.device.Device.{Device}
use Rattle.ftl_device.specs.declared.fault.DeviceFault.{DeviceFault}
use Rattle.ftl_device.specs.declared.fault.DeviceFault.TheVariants.{BusFault}
use Rattle.page_layout.specs.Counter.{HasRisen}
use Rattle.command_words.specs.declared.words.ServeWords.{ServeWords}
use Rattle.commands.specs.declared.text.CommandFault.{CommandFault}
use Rattle.commands.specs.Check.{HasImageLength}
use Rattle.commands.specs.Files.{LoadAnswers, Left, LeavesUntouched, with_store, written_file}
use Rattle.commands.specs.Lines.{IsLineUnprinted}
use Rattle.commands.specs.Steady.{has_spared}
use Rattle.commands.specs.Serve.{Driver, HasClaim, HasGivenBack, IsDieUnmade, bad_in, failures_of, flash_behind, recorded_of, driver_view}
use Rattle.commands.specs.Migrate.{DoesMigrate, EndsShort, HasMigrated, IsSettled, IsMigrationUnbegun, IsUnmigratedDie, KeepsAll, MigratesDie, RenewsThenFlushes, StartsOver, migrated_line}
use Rattle.ftl_device.proofs.MountableLemmas.{restart_more}
use Rattle.ftl_device.proofs.PinLemmas.{room_within}
use Rattle.block_server.proofs.Checking.{accepted_for, closed_as, geometry_is, is_begun, well}
use Rattle.commands.proofs.BadLemmas.{named_bad}
use Rattle.commands.proofs.FormatLemmas.{not_risen}
use Rattle.commands.proofs.PassedLemmas.{none_failed}

-- a step before a device was started ended it
pub stops : (gives : LoadAnswers) (words : ServeWords) (before after : Left) (result : Result (Unit {0}) CommandFault) (stop : CommandFault)
    → result ≡ Err stop → LeavesUntouched before after → IsMigrationUnbegun gives words stop → DoesMigrate gives words before after result
stops gives words before after result stop is leaves because =
    let P : Result (Unit {0}) CommandFault → Type 0 = λ r. DoesMigrate gives words before after r in
    subst P (sym is) (inl (leaves, because))

-- the device's refusal or the store's did
pub falls_short : (gives : LoadAnswers) (words : ServeWords) (before after : Left) (result : Result (Unit {0}) CommandFault) (stop : CommandFault) (image : List ℕ) (came : Result ℕ DeviceFault)
    → result ≡ Err stop → HasMigrated gives words image came → EndsShort words.output.now image came before.stores after.stores stop → Keeps before.out after.out → DoesMigrate gives words before after result
falls_short gives words before after result stop image came is has short keeps =
    let P : Result (Unit {0}) CommandFault → Type 0 = λ r. DoesMigrate gives words before after r in
    subst P (sym is) (inr (inl (image, came, has, short, keeps)))

-- the printing, after all that came before it
pub prints : (gives : LoadAnswers) (words : ServeWords) (before after : Left) (result : Result (Unit {0}) CommandFault) (image : List ℕ) (count : ℕ) (came : Result ℕ DeviceFault) → came ≡ Ok count
    → HasMigrated gives words image came → after.stores ≡ with_store before.stores (written_file words.output.now image)
    → OnOk result (Appends before.out after.out (migrated_line count)) → IfErr result (IsLineUnprinted (migrated_line count) before.out after.out) → DoesMigrate gives words before after result
prints gives words before after result image count came is has stored ok failed = go result ok failed
  where
    done : HasMigrated gives words image (Ok count)
    done = subst (λ (r : Result ℕ DeviceFault). HasMigrated gives words image r) is has

    go : (r : Result (Unit {0}) CommandFault) → OnOk r (Appends before.out after.out (migrated_line count)) → IfErr r (IsLineUnprinted (migrated_line count) before.out after.out) → DoesMigrate gives words before after r
    go (Ok _) told told_not = (image, count, done, stored, told)
    go (Err stop) told told_not = inr (inr (image, count, done, stored, told_not))

-- an image of which no die was made, or none that was accepted and started
pub no_device : {gives : LoadAnswers} {words : ServeWords} {g : Geometry} {capacity : ℕ} {bytes : List ℕ} {c : Claim} (stop : CommandFault) → HasClaim gives words g capacity bytes c
    → IsDieUnmade g bytes stop ⊎ (HasImageLength g bytes × IsUnmigratedDie g capacity c (loaded_flash g bytes (bad_in g c)) stop) → IsMigrationUnbegun gives words stop
no_device {gives} {words} {g} {capacity} {bytes} {c} stop has why = inr (record { geometry = g; capacity = capacity; bytes = bytes; claim = c; has = has; unmigrated = why })

-- one that was, and this is its image then
pub has_migrated : {gives : LoadAnswers} {words : ServeWords} {g : Geometry} {capacity : ℕ} {bytes after : List ℕ} {c : Claim} {s : Flash} (image : List ℕ) (came : Result ℕ DeviceFault)
    → HasClaim gives words g capacity bytes c → s ≡ loaded_flash g bytes (bad_in g c) → image ≡ after → MigratesDie g capacity c s after came → HasMigrated gives words image came
has_migrated {gives} {words} {g} {capacity} {bytes} {after} {c} {s} image came has held kept migrates = record {
  geometry = g;
  capacity = capacity;
  bytes = bytes;
  claim = c;
  has = has;
  migrates = subst (λ (f : Flash). MigratesDie g capacity c f image came) held (subst (λ (i : List ℕ). MigratesDie g capacity c s i came) (sym kept) migrates);
}

-- ---- a die in memory

-- the accounts of the image agree with the memory that a start made
accounts_over : (nand checked : Driver) (g : Geometry) (capacity : ℕ) (c : Claim) (a : Acceptance) (d : Device Driver) → (flash_behind nand).geometry ≡ g
    → flash_behind checked ≡ flash_behind nand → IsImage g (flash_behind nand).image → a.claim ≡ c
    → IsAcceptance g capacity (flash_behind nand).image c a
    → (IsAcceptedFor (flash_behind checked) a → IsAccounted (accounts_of (flash_behind checked).geometry (flash_behind checked).image (is_bad_in a.claim)) (state d.engine.blocks))
    → IsAccounted (accounts_of g (flash_behind nand).image (is_bad_in c)) (state d.engine.blocks)
accounts_over nand checked g capacity c a d sized same whole claim_is acceptance accounts =
    let of : Flash → Geometry → Claim → Type 0 = λ f k claim. IsAccounted (accounts_of k f.image (is_bad_in claim)) (state d.engine.blocks) in
    let here = accounts (accepted_for (flash_behind nand) (flash_behind checked) g capacity c a same sized whole acceptance) in
    let there = subst (λ (f : Flash). of f f.geometry a.claim) same here in
    subst (of (flash_behind nand) g) claim_is (subst (λ k. of (flash_behind nand) k a.claim) sized there)

-- the checker's answer and the start's, together
pub starts_over : (nand checked : Driver) (g : Geometry) (capacity : ℕ) (c : Claim) (a : Acceptance) (d : Device Driver) → 40 ≤ g.spare_bytes
    → (flash_behind nand).geometry ≡ g → OnlyReads driver_view nand checked
    → flash_behind checked ≡ flash_behind nand → recorded_of checked ≡ recorded_of nand → IsImage g (flash_behind nand).image → a.claim ≡ c → IsAcceptance g capacity (flash_behind nand).image c a
    → IsDevice flash_behind d → d.engine.nand ≡ checked → ram d.engine ≡ begun_ram (flash_behind checked).geometry 0 a.claim a.stale
    → (IsAcceptedFor (flash_behind checked) a → IsTrue None (ram d.engine) (image_in flash_behind d.engine))
    → (IsAcceptedFor (flash_behind checked) a → d.read_only ≡ is_scarce (free_in (flash_behind checked).geometry a.claim (flash_behind checked).image))
    → (IsAcceptedFor (flash_behind checked) a → IsAccounted (accounts_of (flash_behind checked).geometry (flash_behind checked).image (is_bad_in a.claim)) (state d.engine.blocks))
    → d.cursor ≡ 0 → StartsOver g capacity c nand d
starts_over nand checked g capacity c a d roomy sized reads same told whole claim_is acceptance device nand_is begun truth free accounts cursor = record {
  cursor = cursor;
  agrees = acceptance.agrees;
  roomy = roomy;
  begun = is_begun driver_view nand checked checked g 0 capacity c a d sized reads.geometry_is reads.honest_is reads.calm_is reads.failed_is
      (λ _. same) (λ _. told) (λ _. whole) claim_is (λ _. acceptance) device nand_is begun (λ _. truth) (λ _. free) (λ _. accounts);
  sized = geometry_is driver_view nand checked checked g 0 capacity c a d sized reads.geometry_is reads.honest_is reads.calm_is reads.failed_is
      (λ _. same) (λ _. told) (λ _. whole) claim_is (λ _. acceptance) device nand_is begun (λ _. truth) (λ _. free) (λ _. accounts);
  well = well driver_view nand checked checked g 0 capacity c a d sized reads.geometry_is reads.honest_is reads.calm_is reads.failed_is
      (λ _. same) (λ _. told) (λ _. whole) claim_is (λ _. acceptance) device nand_is begun (λ _. truth) (λ _. free) (λ _. accounts) refl;
  free = closed_as driver_view nand checked checked g 0 capacity c a d sized reads.geometry_is reads.honest_is reads.calm_is reads.failed_is
      (λ _. same) (λ _. told) (λ _. whole) claim_is (λ _. acceptance) device nand_is begun (λ _. truth) (λ _. free) (λ _. accounts) refl;
  accounts = accounts_over nand checked g capacity c a d sized same whole claim_is acceptance accounts;
}

-- it answers each call, so the array stays
never_bus : (came : Result ℕ DeviceFault) (was now : ℕ) → (came ≡ Err BusFault → HasRisen was now) → now ≡ 0 → came ≢ Err BusFault
never_bus came was now rose none is = not_risen was now now (rose is) (omega arith) none

-- the image has a certificate at the capacity that the device began with
mounts_on : (g : Geometry) (capacity : ℕ) (c : Claim) (nand : Driver) (first last : Device Driver) → StartsOver g capacity c nand first → IsDevice flash_behind last
    → last.engine.geometry ≡ g → KeepsAll driver_view first last → capacity + g.pages ≤ 65536 → IsMountable g (capacity + g.pages) (flash_behind last.engine.nand).image
mounts_on g capacity c nand first last starts device sized kept =
    let held : last.engine.mapping.capacity ≡ capacity =
    kept.capacity ∙ (ap (λ (r : Ram). r.mapping.capacity) starts.begun.begun ∙ starts.agrees.asked.capacity_same) in
    let none : last.engine.mapping.share ≡ 0 = kept.share ∙ ap (λ (r : Ram). r.mapping.share) starts.begun.begun in
    let P : Geometry → ℕ → Type 0 = λ k n. n + k.pages ≤ 65536 → IsMountable k (n + k.pages) (flash_behind last.engine.nand).image in
    let here : P last.engine.geometry last.engine.mapping.capacity = λ most.
    restart_more (ram last.engine) (flash_behind last.engine.nand).image (last.engine.mapping.capacity + last.engine.geometry.pages) device.engine.memory kept.well.truth (room_within (ram last.engine) none) most in
    subst (λ k. P k capacity) sized (subst (λ n. P last.engine.geometry n) held here)

-- the log of the calls is legal by the accounts of the image
legal_by : (g : Geometry) (capacity : ℕ) (c : Claim) (nand : Driver) (first last : Device Driver) → StartsOver g capacity c nand first
    → (went : Went (ram first.engine) (flash_behind nand) (recorded_of nand) (ram last.engine) (flash_behind last.engine.nand) (recorded_of last.engine.nand)) → IsLegal g (flash_behind nand).image (is_bad_in c) went.log
legal_by g capacity c nand first last starts went =
    let accounts = accounts_of g (flash_behind nand).image (is_bad_in c) in
    subst (λ (k : Geometry). LegalFrom k.pages accounts went.log) starts.sized (went.follows.legal accounts starts.accounts)

pub die_migrated : (g : Geometry) (capacity : ℕ) (c : Claim) (nand given : Driver) (first last : Device Driver) (came : Result ℕ DeviceFault) (after : List ℕ)
    → StartsOver g capacity c nand first
    → RenewsThenFlushes driver_view first came last
    → (came ≢ Err BusFault → KeepsAll driver_view first last) → (came ≡ Err BusFault → HasRisen (failures_of first.engine.nand) (failures_of last.engine.nand))
    → OnOk came (IsSettled g (image_in flash_behind last.engine)) → IsDevice flash_behind last
    → last.engine.geometry ≡ g → given ≡ last.engine.nand → HasGivenBack given after → MigratesDie g capacity c (flash_behind nand) after came
die_migrated g capacity c nand given first last came after starts comes keeps rose settled device sized' given_is back =
    let none : failures_of last.engine.nand ≡ 0 = subst (λ n. failures_of n ≡ 0) given_is back.none in
    let there : flash_behind given ≡ flash_behind last.engine.nand = ap flash_behind given_is in
    let sized : (flash_behind given).geometry ≡ g = ap (λ (f : Flash). f.geometry) there ∙ (device.engine.geometry ∙ sized') in
    let kept : KeepsAll driver_view first last = keeps (never_bus came _ _ rose none) in
    let image_is : raw_image g after ≡ (flash_behind last.engine.nand).image = ap (λ k. raw_image k after) (sym sized) ∙ (back.pages ∙ ap (λ (f : Flash). f.image) there) in
    let same : flash_behind first.engine.nand ≡ flash_behind nand = starts.begun.same refl in
    let there_told = recorded_of last.engine.nand in
    let told : recorded_of first.engine.nand ≡ recorded_of nand = starts.begun.told refl in
    let went : Went (ram first.engine) (flash_behind nand) (recorded_of nand) (ram last.engine) (flash_behind last.engine.nand) there_told =
    subst (λ (r : Option Recording). Went (ram first.engine) (flash_behind nand) r (ram last.engine) (flash_behind last.engine.nand) there_told) told
    (subst (λ (f : Flash). Went (ram first.engine) f (recorded_of first.engine.nand) (ram last.engine) (flash_behind last.engine.nand) there_told) same kept.went) in
    let legal = legal_by g capacity c nand first last starts went in
    let array : array_of g (raw_image g after) ≡ array_of g (flash_behind nand).image =
    ap (array_of g) image_is ∙ (ap (λ k. array_of k (flash_behind last.engine.nand).image) (sym sized') ∙ (kept.array
    ∙ (ap (λ k. array_of k (flash_behind first.engine.nand).image) starts.sized ∙ ap (λ (f : Flash). array_of g f.image) same))) in
    let passed : (before : List ℕ) → flash_behind nand ≡ loaded_flash g before (bad_in g c) → failures went.log ≡ 0 = λ before loaded.
    none_failed g before (bad_in g c) (is_bad_in c) (flash_behind last.engine.nand) went.log (named_bad g c) (subst (λ (f : Flash). has_spared f ≡ true) there back.spared)
    (subst (λ (f : Flash). IsLegal g f.image (is_bad_in c) went.log) loaded legal) (subst (λ (f : Flash). Leads f went.log (flash_behind last.engine.nand)) loaded went.leads) in
    record {
      nand = nand;
      first = first;
      last = last;
      held = refl;
      starts = starts;
      comes = comes;
      pages = image_is;
      bytes = back.bytes ∙ ap (λ (f : Flash). raw_bytes f.image) there;
      array = array;
      mountable = subst (λ (i : Image). capacity + g.pages ≤ 65536 → IsMountable g (capacity + g.pages) i) (sym image_is) (mounts_on g capacity c nand first last starts device sized' kept);
      settled = subst (λ (i : Image). OnOk came (IsSettled g i)) (sym image_is) settled;
      went = went;
      legal = legal;
      passed = passed;
    }
