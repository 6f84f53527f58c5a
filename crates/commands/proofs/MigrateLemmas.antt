-- Calls of `migrate_one` one after another: the array stays, and each leaves fewer pages of version 1.
use Rattle.std.proofs.Common.{◌≡◌, ◌≢◌, inl, inr, ℕ, suc, ◌+◌, ◌<◌, ◌≤◌, Bool, true, false, Result, Ok, Err, refl, sym, ap, subst, ◌∙◌, arith}
use Rattle.std.specs.Prelude.{OnOk, IfOk, nat_le, if◌then◌else◌}
use Rattle.page_layout.specs.View.{View}
use Rattle.page_layout.specs.Counter.{HasRisen}
use Rattle.page_layout.specs.OnlyReads.{OnlyReads}
use Rattle.page_layout.specs.declared.geometry.Geometry.{Geometry}
use Rattle.page_layout.specs.Sound.{version_for}
use Rattle.page_layout.specs.Geometry.{key_count}
use Rattle.page_layout.specs.Live.{keys}
use Rattle.page_layout.specs.Page.{Image}
use Rattle.page_layout.specs.Version.{is_old, old_pages}
use Rattle.page_layout.proofs.LiveLemmas.{length-keys}
use Rattle.std.proofs.lemmas.List.Sums.{count_by-le-length}
use Rattle.std.proofs.lemmas.Bool.Decides.{nat_tests}
use Rattle.promises.specs.Step as step
use Rattle.promises.specs.Step.{ArrayState, Reply, Command, QuietStep, Flush, Turn}
use Rattle.collection.specs.Safe.{image_in, ram}
use Rattle.collection.proofs.Costs.{risen_over}
use Rattle.collection.proofs.Logs.{went_same, went_then}
use Rattle.ftl_device.specs.declared.device.Device.{Device}
use Rattle.ftl_device.specs.Device.{IsDevice}
use Rattle.ftl_device.specs.declared.fault.DeviceFault.{DeviceFault}
use Rattle.ftl_device.specs.declared.fault.DeviceFault.TheVariants.{BusFault}
use Rattle.ftl_device.specs.Calls.{IsWell, reply_of, state_in}
use Rattle.ftl_device.specs.Changes.{Upkeeps}
use Rattle.ftl_device.specs.Brings.{HasBrought, BringsOne}
use Rattle.ftl_device.specs.Migrate.{ended, HasMovedOn, Migrates}
use Rattle.ftl_device.specs.Renewed.{Finishes, HasOldTablesOnly}
use Rattle.commands.specs.Migrate.{CallsMigrate, HasRenewed, IsRenewedThenFlushed, IsSettled, KeepsAll, RenewsInCalls}

-- ---- how many calls there are

-- there is a newest page for each key at most
pub few_old : (g : Geometry) (image : Image) → old_pages g image ≤ key_count g
unfolding old_pages
few_old g image = omega (arith, count_by-le-length (is_old image) (keys g), length-keys g)

pub has_room : (g : Geometry) → 40 ≤ g.spare_bytes → version_for g ≡ 2
has_room g roomy = ap (λ b. if b then 2 else 1) (let large : nat_le 40 g.spare_bytes ≡ true = grind (arith, nat_tests) in large)

-- ---- one call

quiet_array : (old new : ArrayState) (reply : Reply) → QuietStep old reply new → new.array ≡ old.array
quiet_array old new step.Done is = is.array_is
quiet_array old new step.ReadOnly is = is.array_is
quiet_array old new step.SequenceSpent is = is.array_is
quiet_array old new _ is = absurd is

abbrev refused_as : DeviceFault → Result (Unit {0}) DeviceFault
refused_as fault = Err fault

module _ {N : Type 0} (view : View N) where
  -- a turn's promise and a flush's
  pub turn_keeps : (old new : Device N) (result : Result (Unit {0}) DeviceFault) → view.honest old.engine.nand ≡ true → IsWell view.flash old → result ≢ Err BusFault
      → Upkeeps view Turn old result new → KeepsAll view old new
  turn_keeps old new result still well ne its =
      let means = its.means still well ne in
      record { well = means.well; array = quiet_array (state_in view.flash old) (state_in view.flash new) (reply_of result) means.step; capacity = its.stays.limits.capacity; share = its.stays.limits.share; went = (its.logs still ne).went }

  pub flush_keeps : (old new : Device N) (result : Result (Unit {0}) DeviceFault) → view.honest old.engine.nand ≡ true → IsWell view.flash old → result ≢ Err BusFault
      → Upkeeps view Flush old result new → KeepsAll view old new
  flush_keeps old new result still well ne its =
      let means = its.means still well ne in
      record { well = means.well; array = quiet_array (state_in view.flash old) (state_in view.flash new) (reply_of result) means.step; capacity = its.stays.limits.capacity; share = its.stays.limits.share; went = (its.logs still ne).went }

  pub keeps_then : (old mid new : Device N) → mid.engine.geometry ≡ old.engine.geometry → KeepsAll view old mid → KeepsAll view mid new → KeepsAll view old new
  keeps_then old mid new sized first next = record {
    well = next.well;
    array = next.array ∙ first.array;
    capacity = next.capacity ∙ first.capacity;
    share = next.share ∙ first.share;
    went = went_then _ _ _ _ _ _ _ _ _ sized first.went next.went;
  }

  -- it counts a fault of the bus
  pub rose_by : {command : Command} (old mid new : Device N) (result : Result (Unit {0}) DeviceFault) → view.failed old.engine.nand ≤ view.failed mid.engine.nand → IsWell view.flash mid
      → Upkeeps view command mid result new → result ≡ Err BusFault → HasRisen (view.failed old.engine.nand) (view.failed new.engine.nand)
  rose_by old mid new result le well its is =
      risen_over (view.failed old.engine.nand) (view.failed mid.engine.nand) (view.failed new.engine.nand) le (its.refuses.rose well.going is)

  -- ---- one after another

  -- after so many calls that answered true
  pub record IsGoing (g : Geometry) (old : Device N) (count : ℕ) (new : Device N) : Type 0 where
    pub device : IsDevice view.flash new
    pub began : old.engine.geometry ≡ g
    pub sized : new.engine.geometry ≡ g
    pub still : view.honest new.engine.nand ≡ true
    pub le : view.failed old.engine.nand ≤ view.failed new.engine.nand
    pub renews : RenewsInCalls view count old new
    pub keeps : KeepsAll view old new
    pub left : count + old_pages g (image_in view.flash new.engine) ≤ key_count g

  pub begins : (g : Geometry) (old : Device N) → IsDevice view.flash old → old.engine.geometry ≡ g → view.honest old.engine.nand ≡ true → IsWell view.flash old → IsGoing g old 0 old
  begins g old device sized still well = record {
    device = device;
    began = sized;
    sized = sized;
    still = still;
    le = omega arith;
    renews = refl;
    keeps = record { well = well; array = refl; capacity = refl; share = refl; went = went_same _ _ _ };
    left = omega (arith, few_old g (image_in view.flash old.engine));
  }

  same_size : (g : Geometry) (old mid : Device N) (count : ℕ) → IsGoing g old count mid → mid.engine.geometry ≡ old.engine.geometry
  same_size g old mid count going = going.sized ∙ sym going.began

  -- what a call promises, after them
  pub calls_as : (g : Geometry) (old mid new : Device N) (count : ℕ) (result : Result Bool DeviceFault) → 40 ≤ g.spare_bytes → IsGoing g old count mid
      → Upkeeps view Turn mid (ended result) new
      → (view.honest mid.engine.nand ≡ true → IsWell view.flash mid → 40 ≤ mid.engine.geometry.spare_bytes
      → IfOk result (λ found. Migrates found mid.engine.geometry (image_in view.flash mid.engine) (image_in view.flash new.engine)))
      → IfOk result (λ found. found ≡ false → OnlyReads view mid.engine.nand new.engine.nand)
      → (result ≡ Ok true → HasBrought (ram mid.engine) (ram new.engine))
      → (view.honest mid.engine.nand ≡ true → IsWell view.flash mid → result ≡ Ok true → BringsOne view mid new)
      → (result ≢ Ok true → new.cursor ≡ mid.cursor)
      → (view.honest mid.engine.nand ≡ true → IsWell view.flash mid → result ≡ Ok true → HasMovedOn mid.cursor (image_in view.flash mid.engine) new.cursor)
      → CallsMigrate view mid result new
  calls_as g old mid new count result roomy going upkeeps migrates rests brought brings stays moves_on = record {
    upkeeps = upkeeps;
    migrates = migrates going.still going.keeps.well (subst (λ (k : Geometry). 40 ≤ k.spare_bytes) (sym going.sized) roomy);
    rests = rests;
    brought = brought;
    brings = brings going.still going.keeps.well;
    stays = stays;
    moves_on = moves_on going.still going.keeps.well;
  }

  -- the next that answered true
  pub goes_on : (g : Geometry) (old mid new : Device N) (count : ℕ) → 40 ≤ g.spare_bytes → IsGoing g old count mid → CallsMigrate view mid (Ok true) new
      → IsDevice view.flash new → new.engine.geometry ≡ mid.engine.geometry → IsGoing g old (count + 1) new
  goes_on g old mid new count roomy going its device sized =
      let fewer : old_pages g (image_in view.flash new.engine) < old_pages g (image_in view.flash mid.engine) =
      subst (λ (k : Geometry). version_for k ≡ 2 → old_pages k (image_in view.flash new.engine) < old_pages k (image_in view.flash mid.engine)) going.sized its.migrates (has_room g roomy) in
      let one_more : suc count ≡ count + 1 = omega arith in
      record {
        device = device;
        began = going.began;
        sized = sized ∙ going.sized;
        still = its.upkeeps.stays.honest_is ∙ going.still;
        le = omega (arith, going.le, its.upkeeps.stays.failed_is);
        renews = subst (λ n. RenewsInCalls view n old new) one_more (mid, going.renews, its);
        keeps = keeps_then old mid new (same_size g old mid count going) going.keeps (turn_keeps mid new (Ok tt) going.still going.keeps.well (λ is. (let never : ⊥ = cc in never)) its.upkeeps);
        left = omega (arith, going.left, fewer);
      }

  -- the one that answered false, or that was refused
  pub ends_done : (g : Geometry) (old mid new : Device N) (count : ℕ) → IsGoing g old count mid → CallsMigrate view mid (Ok false) new → IsDevice view.flash new → new.engine.geometry ≡ mid.engine.geometry
      → HasRenewed view g old (Ok count) new
  ends_done g old mid new count going its device sized = record {
    device = device;
    sized = sized ∙ going.sized;
    began = going.began;
    still = its.upkeeps.stays.honest_is ∙ going.still;
    le = omega (arith, going.le, its.upkeeps.stays.failed_is);
    renews = (mid, going.renews, its);
    keeps = λ _. keeps_then old mid new (same_size g old mid count going) going.keeps (turn_keeps mid new (Ok tt) going.still going.keeps.well (λ is. (let never : ⊥ = cc in never)) its.upkeeps);
    rose = λ is. absurd (let never : ⊥ = cc in never);
    none = its.migrates;
  }

  err_ne : (fault : DeviceFault) → fault ≢ BusFault → refused_as fault ≢ refused_as BusFault
  err_ne fault ne is = ne (let same : fault ≡ BusFault = cc in same)

  pub ends_refused : (g : Geometry) (old mid new : Device N) (count : ℕ) (fault : DeviceFault) → IsGoing g old count mid → CallsMigrate view mid (Err fault) new → IsDevice view.flash new
      → new.engine.geometry ≡ mid.engine.geometry → HasRenewed view g old (Err fault) new
  ends_refused g old mid new count fault going its device sized = record {
    device = device;
    sized = sized ∙ going.sized;
    began = going.began;
    still = its.upkeeps.stays.honest_is ∙ going.still;
    le = omega (arith, going.le, its.upkeeps.stays.failed_is);
    renews = (count, mid, going.renews, its);
    keeps = λ ne. keeps_then old mid new (same_size g old mid count going) going.keeps (turn_keeps mid new (Err fault) going.still going.keeps.well (err_ne fault (λ is. ne (ap Err is))) its.upkeeps);
    rose = λ is. rose_by old mid new (Err fault) going.le going.keeps.well its.upkeeps (let same : fault ≡ BusFault = cc in ap Err same);
    none = tt;
  }

  -- what a flush is worth that was done
  settles : (g : Geometry) (mid new : Device N) → view.honest mid.engine.nand ≡ true → IsWell view.flash mid → mid.engine.geometry ≡ g
      → Upkeeps view Flush mid (Ok tt) new → 40 ≤ g.spare_bytes → HasOldTablesOnly (image_in view.flash mid.engine)
      → Finishes mid.engine.geometry (image_in view.flash mid.engine) (image_in view.flash new.engine) → IsSettled g (image_in view.flash new.engine)
  settles g mid new still well sized its roomy tables finishes =
      let worth = (its.logs still (λ is. (let never : ⊥ = cc in never))).flushed well refl refl in
      subst (λ (k : Geometry). IsSettled k (image_in view.flash new.engine)) sized (record {
        anywhere = worth.anywhere;
        fresh = worth.fresh;
        none = finishes (subst (λ (k : Geometry). version_for k ≡ 2) (sym sized) (has_room g roomy)) tables;
      })

  pub flush_done : (g : Geometry) (old mid new : Device N) (count : ℕ) → HasRenewed view g old (Ok count) mid → 40 ≤ g.spare_bytes
      → IsDevice view.flash new → new.engine.geometry ≡ mid.engine.geometry → Upkeeps view Flush mid (Ok tt) new
      → (view.honest mid.engine.nand ≡ true → IsWell view.flash mid → Finishes mid.engine.geometry (image_in view.flash mid.engine) (image_in view.flash new.engine))
      → IsRenewedThenFlushed view g old (Ok count) new
  flush_done g old mid new count ended roomy device sized its finishes =
      let kept : KeepsAll view old mid = ended.keeps (λ is. (let never : ⊥ = cc in never)) in
      record {
        device = device;
        sized = sized ∙ ended.sized;
        le = omega (arith, ended.le, its.stays.failed_is);
        renews = (mid, ended.renews, its);
        keeps = λ _. keeps_then old mid new (ended.sized ∙ sym ended.began) kept (flush_keeps mid new (Ok tt) ended.still kept.well (λ is. (let never : ⊥ = cc in never)) its);
        rose = λ is. absurd (let never : ⊥ = cc in never);
        settled = settles g mid new ended.still kept.well ended.sized its roomy ended.none (finishes ended.still kept.well);
      }

  pub flush_refused : (g : Geometry) (old mid new : Device N) (count : ℕ) (fault : DeviceFault) → HasRenewed view g old (Ok count) mid
      → IsDevice view.flash new → new.engine.geometry ≡ mid.engine.geometry → Upkeeps view Flush mid (Err fault) new → IsRenewedThenFlushed view g old (Err fault) new
  flush_refused g old mid new count fault ended device sized its =
      let kept : KeepsAll view old mid = ended.keeps (λ is. (let never : ⊥ = cc in never)) in
      record {
        device = device;
        sized = sized ∙ ended.sized;
        le = omega (arith, ended.le, its.stays.failed_is);
        renews = inr (count, mid, ended.renews, its);
        keeps = λ ne. keeps_then old mid new (ended.sized ∙ sym ended.began) kept (flush_keeps mid new (Err fault) ended.still kept.well (err_ne fault (λ is. ne (ap Err is))) its);
        rose = λ is. rose_by old mid new (Err fault) ended.le kept.well its (let same : fault ≡ BusFault = cc in ap Err same);
        settled = tt;
      }

  -- nothing was flushed after a call that was refused
  pub none_flushed : (g : Geometry) (old new : Device N) (fault : DeviceFault) → HasRenewed view g old (Err fault) new → IsRenewedThenFlushed view g old (Err fault) new
  none_flushed g old new fault ended = record {
    device = ended.device;
    sized = ended.sized;
    le = ended.le;
    renews = inl ended.renews;
    keeps = ended.keeps;
    rose = ended.rose;
    settled = tt;
  }
