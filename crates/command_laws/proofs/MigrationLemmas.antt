-- What bringing an image forward comes to, by the fields of its definitions.
use Rattle.std.proofs.Common.{◌≡◌, ℕ, zero, suc, ◌+◌, ◌<◌, ◌≤◌, true, false, refl, List, [], ◌∷◌, ◌++◌, codes, Option, Some, Result, Ok, Err, inl, inr, ap, subst, sym, ◌∙◌, append-nil, arith}
use Rattle.page_layout.specs.View.{View}
use Rattle.page_layout.specs.Flash.{Flash}
use Rattle.page_layout.specs.declared.geometry.Geometry.{Geometry}
use Rattle.page_layout.specs.Page.{Image}
use Rattle.page_layout.specs.Sound.{version_for}
use Rattle.page_layout.specs.Version.{old_pages}
use Rattle.page_layout.proofs.VersionLemmas.{old_from}
use Rattle.ftl_device.specs.declared.device.Device.{Device}
use Rattle.ftl_device.specs.declared.fault.DeviceFault.{DeviceFault}
use Rattle.collection.specs.Safe.{image_in}
use Rattle.collection.specs.Renew.{HasDue, IsNextDue}
use Rattle.ftl_device.specs.Migrate.{FindsFrom}
use Rattle.ftl_device.specs.Renewed.{HasOldTablesOnly}
use Rattle.ftl_device.specs.Brings.{BringsOne, BringsEach}
use Rattle.ftl_device.proofs.CursorLemmas.{due_from}
use Rattle.ftl_device.proofs.BringLemmas.{counted_law}
use Rattle.commands.specs.declared.files.FileFault.{FileFault}
use Rattle.commands.specs.declared.text.CommandFault.{CommandFault}
use Rattle.commands.specs.declared.text.CommandFault.TheVariants as fault
use Rattle.commands.specs.Files.{Stored}
use Rattle.commands.specs.Migrate.{EndsShort, RenewsInCalls}
use Rattle.commands.specs.Serve.{flash_behind, driver_view}
use Rattle.commands.proofs.MigrateLemmas.{has_room}
use Rattle.commands.specs.Text.{device_words}
use Rattle.command_laws.specs.Migrations.{CallsCountedLaw, RenewsWithRoom, FirstBringsLowestLaw, NumberLaw, HasTriedToStore, MigrateDoneLaw, MigratedLaw, MigrateStopsLaw, SettledLaw, EndsShortLaw, TellsRefusal}

pub migrated : MigratedLaw
migrated g capacity c s after came m = (m.bytes, m.pages, m.array, m.mountable, m.went.leads, m.legal, m.passed)

pub settled : SettledLaw
settled g capacity c s after count m = (m.settled.none, m.settled.fresh, m.settled.anywhere)

-- ---- how it ends short

abbrev done_as : ℕ → Result ℕ DeviceFault
done_as count = Ok count

abbrev refused_as : DeviceFault → Result ℕ DeviceFault
refused_as refused = Err refused

no_other : (came : Result ℕ DeviceFault) (count : ℕ) (refused : DeviceFault) → came ≡ Ok count → came ≡ Err refused → ⊥
no_other came count refused done is = (let clash : done_as count ≡ refused_as refused = sym done ∙ is in cc)

same_refusal : (came : Result ℕ DeviceFault) (one other : DeviceFault) → came ≡ Err one → came ≡ Err other → one ≡ other
same_refusal came one other is also = (let same : refused_as one ≡ refused_as other = sym is ∙ also in cc)

tells : (one other : DeviceFault) → one ≡ other → TellsRefusal other (fault.Migrate one)
tells one other same = ([], ap (λ l. codes "refused migrate " ++ l) (ap device_words same ∙ sym (append-nil (device_words other))))

pub short : EndsShortLaw
short path image came before after (fault.Migrate one) (is, stored) =
    (λ refused asked. (tells one refused (same_refusal came one refused is asked), inl stored), λ count asked. absurd (no_other came count one asked is))
short path image came before after (fault.MigrateUnstored one text) (is, at, inl tried) = (
  λ refused asked. ((10 ∷ (codes "fault write " ++ text.now), ap (λ r. codes "refused migrate " ++ (device_words r ++ (10 ∷ (codes "fault write " ++ text.now)))) (same_refusal came one refused is asked)), inr (inl tried)),
  λ count asked. absurd (no_other came count one asked is),
)
short path image came before after (fault.MigrateUnstored one text) (is, at, inr none) = (
  λ refused asked. ((10 ∷ (codes "fault write " ++ text.now), ap (λ r. codes "refused migrate " ++ (device_words r ++ (10 ∷ (codes "fault write " ++ text.now)))) (same_refusal came one refused is asked)), inr (inr none)),
  λ count asked. absurd (no_other came count one asked is),
)
short path image came before after (fault.Write text) (done, at, tried) = (λ refused asked. absurd (no_other came done.0 refused done.1 asked), λ count asked. inl tried)
short path image came before after fault.OutOfMemory (done, none) = (λ refused asked. absurd (no_other came done.0 refused done.1 asked), λ count asked. inr none)
short path image came before after _ ends = absurd ends

-- however it did, the image was stored, or that was tried
tried : (path image : List ℕ) (came : Result ℕ DeviceFault) (before after : Option (List Stored)) (stop : CommandFault) → EndsShort path image came before after stop → HasTriedToStore path image before after
tried path image came before after (fault.Migrate one) (is, stored) = inl stored
tried path image came before after (fault.MigrateUnstored one text) (is, at, ends) = inr ends
tried path image came before after (fault.Write text) (done, at, none) = inr (inl none)
tried path image came before after fault.OutOfMemory (done, none) = inr (inr none)
tried path image came before after _ ends = absurd ends

-- ---- the command

pub migrate_done : {F : Type 0} (gives : F → List ℕ → Result (List ℕ) FileFault → Type 0) → MigrateDoneLaw gives
migrate_done gives store words before after (image, count, has, stored, told) =
    (has.geometry, has.capacity, has.bytes, image, count, (has.has.files.asked, has.has.files.image.bytes), has.migrates.array, has.migrates.settled.none, stored, told)

pub migrate_stops : {F : Type 0} (gives : F → List ℕ → Result (List ℕ) FileFault → Type 0) → MigrateStopsLaw gives
migrate_stops gives store words before after stop (inl (leaves, because)) = inl leaves
migrate_stops gives store words before after stop (inr (inl (image, came, has, ends, keeps))) =
    inr (has.geometry, has.capacity, has.bytes, image, (has.has.files.asked, has.has.files.image.bytes), has.migrates.array, tried words.output.now image came before.stores after.stores stop ends)
migrate_stops gives store words before after stop (inr (inr (image, count, has, stored, unprinted))) =
    inr (has.geometry, has.capacity, has.bytes, image, (has.has.files.asked, has.has.files.image.bytes), has.migrates.array, inl stored)

-- ---- the number that is printed

module _ {N : Type 0} (view : View N) where
  brings_each : (count : ℕ) (old new : Device N) → RenewsWithRoom view count old new → BringsEach view count old new
  brings_each zero old new is = is
  brings_each (suc count) old new (mid, before, nine, call) = (mid, brings_each count old mid before, nine, call.brings refl)

  pub calls_counted : CallsCountedLaw view
  calls_counted count count' first last last' two same told told' =
      counted_law view count count' first last last' two same (brings_each count first last told) (brings_each count' first last' told')

  abbrev image_of : Device N → Image
  image_of d = image_in view.flash d.engine

  abbrev Each : ℕ → Device N → Device N → Type 0
  Each count a b = RenewsInCalls view count a b

  sized_each : (count : ℕ) (a b : Device N) → Each count a b → b.engine.geometry ≡ a.engine.geometry
  sized_each zero a b same = ap (λ (d : Device N). d.engine.geometry) same
  sized_each (suc count) a b (mid, before, call) = (let its = (call.brings refl).brings in its.goes.geometry ∙ (its.room.made.goes.geometry ∙ sized_each count a mid before))

  -- each call leaves a page of version 1 less
  fewer_each : (count : ℕ) (a b : Device N) → version_for a.engine.geometry ≡ 2 → Each count a b → count + old_pages a.engine.geometry (image_of b) ≤ old_pages a.engine.geometry (image_of a)
  fewer_each zero a b two same = (let is : old_pages a.engine.geometry (image_of b) ≡ old_pages a.engine.geometry (image_of a) = ap (λ (d : Device N). old_pages a.engine.geometry (image_of d)) same in omega (arith, is))
  fewer_each (suc count) a b two (mid, before, call) =
      let sized = sized_each count a mid before in
      let so_far = fewer_each count a mid two before in
      let falls = call.migrates (ap version_for sized ∙ two) in
      let one_less = subst (λ (g : Geometry). old_pages g (image_of b) < old_pages g (image_of mid)) sized falls in
      omega (arith, so_far, one_less)

  none_called : (count : ℕ) (a b : Device N) → HasOldTablesOnly (image_of a) → Each count a b → count ≡ 0
  none_called zero a b none each = refl
  none_called (suc count) a b none (mid, before, call) =
      let zero_of : count ≡ 0 = none_called count a mid none before in
      let same : mid ≡ a = subst (λ k. Each k a mid) zero_of before in
      let one = call.brings refl in
      let due : HasDue one.row (image_of mid) = due_from mid.cursor one.row (image_of mid) one.found in
      let no : true ≡ false = sym (old_from (image_of mid) due.key (one.row, due.old)) ∙ subst (λ (d : Device N). HasOldTablesOnly (image_of d)) (sym same) none due.key due.no_table in
      let never : ⊥ = cc in
      absurd never

  -- the first of them
  first_call : (count : ℕ) (a b : Device N) → Each (suc count) a b → (next : Device N) × BringsOne view a next
  first_call zero a b (mid, before, call) = (b, subst (λ d. BringsOne view d b) before (call.brings refl))
  first_call (suc count) a b (mid, before, call) = first_call count a mid before

-- from row 0 on there is none behind
from_zero : (row : ℕ) (image : Image) → FindsFrom 0 image (Some row) → IsNextDue 0 row image
from_zero row image (inl next) = next
from_zero row image (inr behind) = behind.first

pub first_page : FirstBringsLowestLaw
first_page g capacity c s after count m =
    let one = first_call driver_view count m.first m.comes.1.0 m.comes.1.1 in
    let held : (flash_behind m.first.engine.nand).image ≡ s.image = ap (λ (f : Flash). f.image) (m.starts.begun.same refl ∙ m.held) in
    let found : FindsFrom 0 (flash_behind m.first.engine.nand).image (Some one.1.row) = subst (λ k. FindsFrom k (flash_behind m.first.engine.nand).image (Some one.1.row)) m.starts.cursor one.1.found in
    (one.0, one.1, from_zero one.1.row s.image (subst (λ i. FindsFrom 0 i (Some one.1.row)) held found))

pub number : NumberLaw
number g capacity c s after count m =
    let first = m.first in
    let held : (flash_behind first.engine.nand).image ≡ s.image = ap (λ (f : Flash). f.image) (m.starts.begun.same refl ∙ m.held) in
    let two : version_for first.engine.geometry ≡ 2 = ap version_for m.starts.sized ∙ has_room g m.starts.roomy in
    let renews = m.comes.1.1 in
    let few = fewer_each driver_view count first m.comes.1.0 two renews in
    let here = subst (λ (h : Geometry). count + old_pages h (flash_behind m.comes.1.0.engine.nand).image ≤ old_pages h (flash_behind first.engine.nand).image) m.starts.sized few in
    let there = subst (λ (i : Image). count + old_pages g (flash_behind m.comes.1.0.engine.nand).image ≤ old_pages g i) held here in
    (omega (arith, there), λ none. none_called driver_view count first m.comes.1.0 (subst HasOldTablesOnly (sym held) none) renews)
