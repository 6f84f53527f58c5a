-- Whether a device holds its array, before a call and after it; and its bytes as long as it does.
use Rattle.std.proofs.Common.{◌≡◌, ◌≢◌, ◌*◌, ◌<◌, ◌&&◌, ℕ, Bool, true, false, List, length, replicate, Option, Some, None, Result, Err, refl, sym, ap, ◌∙◌, subst, arith}
use Rattle.std.specs.Prelude.{if◌then◌else◌}
use Rattle.std.specs.Option.{ForSome, is_none}
use Rattle.page_layout.specs.View.{View}
use Rattle.page_layout.specs.declared.geometry.Geometry.{Geometry}
use Rattle.page_layout.specs.Array.{zeros}
use Rattle.disk_server.specs.Flat.{AreSectors, flat}
use Rattle.disk_server.proofs.FlatLemmas.{flat_law}
use Rattle.collection.specs.declared.fault.EngineFault.{EngineFault}
use Rattle.collection.specs.declared.fault.EngineFault.TheVariants as engine_fault
use Rattle.ftl_device.specs.declared.device.Device.{Device}
use Rattle.ftl_device.specs.declared.fault.DeviceFault.{DeviceFault}
use Rattle.ftl_device.specs.declared.fault.DeviceFault.TheVariants.{Damaged, BusFault}
use Rattle.ftl_device.specs.Calls.{array_in, stop_of}
use Rattle.disk_server.specs.Disk.{holds, sectors_of, IsDisk}
use Rattle.disk_server.proofs.Sizes.{array_long, array_sectors, chosen_long, chosen_sectors, zeros_long}

-- ---- the parts of the word

both_parts : (a b : Bool) → (a && b) ≡ true → (a ≡ true) × (b ≡ true)
both_parts true true e = (refl, refl)
both_parts true false e = (let no : ⊥ = cc in absurd no)
both_parts false b e = (let no : ⊥ = cc in absurd no)

none_of : (o : Option DeviceFault) → is_none o ≡ true → o ≡ None
none_of None e = refl
none_of (Some fault) e = (let no : ⊥ = cc in absurd no)

-- a fault that stops a device is one of these
still_going : (f : Option EngineFault) (result : Result (Unit {0}) DeviceFault) → ForSome (stop_of f) (λ fault. result ≡ Err fault)
    → result ≢ Err Damaged → result ≢ Err BusFault → stop_of f ≡ None
still_going None result standing no_damage no_bus = refl
still_going (Some engine_fault.ReadOnly) result standing no_damage no_bus = refl
still_going (Some engine_fault.SequenceSpent) result standing no_damage no_bus = refl
still_going (Some engine_fault.Damaged) result standing no_damage no_bus = absurd (no_damage (standing Damaged refl))
still_going (Some engine_fault.Bus) result standing no_damage no_bus = absurd (no_bus (standing BusFault refl))

module _ {N : Type 0} (honest : N → Bool) where
  pub parts : (d : Device N) → holds honest d ≡ true → (honest d.engine.nand ≡ true) × (stop_of d.engine.fault ≡ None)
  parts d h =
      let its = both_parts (honest d.engine.nand) (is_none (stop_of d.engine.fault)) h in
      (its.0, none_of (stop_of d.engine.fault) its.1)

  going_as : (d : Device N) → stop_of d.engine.fault ≡ None → holds honest d ≡ (honest d.engine.nand && true)
  going_as d going = ap (λ (o : Option DeviceFault). honest d.engine.nand && is_none o) going

  pub holds_from : (d : Device N) → honest d.engine.nand ≡ true → stop_of d.engine.fault ≡ None → holds honest d ≡ true
  holds_from d is going = going_as d going ∙ ap (λ (b : Bool). b && true) is

  -- both go on
  pub holds_same : (old new : Device N) → honest new.engine.nand ≡ honest old.engine.nand → stop_of old.engine.fault ≡ None → stop_of new.engine.fault ≡ None
      → holds honest new ≡ holds honest old
  holds_same old new same was going = going_as new going ∙ ap (λ (b : Bool). b && true) same ∙ sym (going_as old was)

  -- the fault is the same one, or none
  pub holds_still : (old new : Device N) → honest new.engine.nand ≡ honest old.engine.nand → new.engine.fault ≡ old.engine.fault → holds honest new ≡ holds honest old
  holds_still old new same is =
      ap (λ (f : Option EngineFault). honest new.engine.nand && is_none (stop_of f)) is ∙ ap (λ (b : Bool). b && is_none (stop_of old.engine.fault)) same

  -- one that was stopped does not go on
  back_by : (old new : Device N) (result : Result (Unit {0}) DeviceFault) → honest new.engine.nand ≡ honest old.engine.nand
      → (o : Option DeviceFault) → stop_of old.engine.fault ≡ o → ForSome (stop_of old.engine.fault) (λ fault. (result ≡ Err fault) × (new ≡ old))
      → holds honest new ≡ true → holds honest old ≡ true
  back_by old new result same None was stopped h = holds_from old (sym same ∙ (parts new h).0) was
  back_by old new result same (Some fault) was stopped h = subst (λ (d : Device N). holds honest d ≡ true) (stopped fault was).1 h

  module _ (old new : Device N) (result : Result (Unit {0}) DeviceFault) (same : honest new.engine.nand ≡ honest old.engine.nand)
      (stopped : ForSome (stop_of old.engine.fault) (λ fault. (result ≡ Err fault) × (new ≡ old))) where
    pub back : holds honest new ≡ true → holds honest old ≡ true
    back h = back_by old new result same (stop_of old.engine.fault) refl stopped h

    pub kept : ForSome (stop_of new.engine.fault) (λ fault. result ≡ Err fault) → result ≢ Err Damaged → result ≢ Err BusFault → holds honest new ≡ holds honest old
    kept standing no_damage no_bus =
        holds_same old new same (still_going old.engine.fault result (λ fault is. (stopped fault is).0) no_damage no_bus) (still_going new.engine.fault result standing no_damage no_bus)

-- ---- its bytes

module _ {N : Type 0} (view : View N) where
  abbrev pub bytes : Device N → List ℕ
  bytes d = flat (sectors_of view d)

  pub held : (d : Device N) → holds view.honest d ≡ true → bytes d ≡ flat (array_in view.flash d)
  held d h = ap (λ (b : Bool). flat (if b then array_in view.flash d else replicate d.engine.geometry.sectors (zeros d.engine.geometry))) h

  are_sectors : (d : Device N) → IsDisk view d → AreSectors d.engine.geometry.data_bytes (sectors_of view d)
  are_sectors d is = chosen_sectors d.engine.geometry (view.flash d.engine.nand).image (holds view.honest d) (λ h. (is.well h).truth.whole)

  count_is : (d : Device N) → length (sectors_of view d) ≡ d.engine.geometry.sectors
  count_is d = chosen_long d.engine.geometry (view.flash d.engine.nand).image (holds view.honest d)

  pub long : (d : Device N) → IsDisk view d → length (bytes d) ≡ d.engine.geometry.sectors * d.engine.geometry.data_bytes
  long d is =
      let g : Geometry = d.engine.geometry in
      let some : 0 < length (sectors_of view d) = omega (arith, count_is d, g.limits.sector_count.least) in
      (flat_law g.data_bytes 0 (zeros g) (sectors_of view d) (are_sectors d is) some (zeros_long g)).0
      ∙ ap (λ (k : ℕ). k * g.data_bytes) (count_is d)

  pub sized : (old new : Device N) → IsDisk view old → IsDisk view new → new.engine.geometry ≡ old.engine.geometry → length (bytes new) ≡ length (bytes old)
  sized old new was is same = long new is ∙ ap (λ (g : Geometry). g.sectors * g.data_bytes) same ∙ sym (long old was)

  -- the array as such, of one that holds it
  pub array_sectors_of : (d : Device N) → IsDisk view d → holds view.honest d ≡ true → AreSectors d.engine.geometry.data_bytes (array_in view.flash d)
  array_sectors_of d is h = array_sectors d.engine.geometry (view.flash d.engine.nand).image (is.well h).truth.whole

  pub array_count : (d : Device N) → length (array_in view.flash d) ≡ d.engine.geometry.sectors
  array_count d = array_long d.engine.geometry (view.flash d.engine.nand).image
