-- Calls of a device keep an image one of which a cut spares each newest page, and what is left of it after a kill and openings.
use Rattle.std.proofs.Common.{◌≡◌, inl, inr, ℕ, ◌+◌, ◌≤◌, true, List, [], ◌∷◌, sym, ap, subst, ◌∙◌, arith}
use Rattle.page_layout.specs.View.{View}
use Rattle.page_layout.specs.declared.geometry.Geometry.{Geometry}
use Rattle.page_layout.specs.Page.{Image, IsImage}
use Rattle.page_layout.specs.Array.{marks, HasOneArray}
use Rattle.page_layout.specs.Change.{LosesIn}
use Rattle.page_layout.specs.OneArray.{AreBelow}
use Rattle.page_layout.specs.Flash.{Flash, Operation, Program, Erase, Leads, Steps}
use Rattle.page_layout.specs.Recording.{image_after, image_after_all}
use Rattle.page_layout.proofs.FlashLemmas.{erase_loses, geometry-Steps}
use Rattle.page_layout.proofs.RecordingLemmas.{image_stays}
use Rattle.page_layout.proofs.StepLemmas.{failed_marks, lost_keeps}
use Rattle.promises.specs.Legal.{Account, accounted, IsDueProgram, LegalFrom}
use Rattle.promises.specs.Stop.{ErasesDead, LeftBy, MayLeave}
use Rattle.promises.proofs.StopLemmas.{between, image_law, torn_in_one_law}
use Rattle.image_check.specs.Torn.{StandsFor}
use Rattle.collection.specs.Safe.{ram}
use Rattle.collection.specs.Stops.{room_of}
use Rattle.collection.specs.Log.{NumbersFrom}
use Rattle.ftl_device.specs.declared.device.Device.{Device}
use Rattle.disk_server.specs.Flat.{flat}
use Rattle.disk_server.specs.Disk.{IsDisk, holds}
use Rattle.disk_laws.specs.Runs.{DeviceCalls, IsRecordedCall, IsCutIn, NoCall, OneMore, image_on}
use Rattle.disk_laws.specs.Spared.{CutsSpare, IsWholeAfter, KilledOpenedLaw, KilledSparesLaw, OwnMarkLaw}
use Rattle.disk_laws.proofs.FitLemmas.{Fits, erase_fits, program_fits, unsound}
use Rattle.disk_laws.proofs.GrowLemmas.{one_of}
use Rattle.disk_laws.proofs.InOrderLemmas.{Filled, erase_filled, program_filled, program_spare}
use Rattle.disk_laws.proofs.LogLemmas.{after_erase, after_program}
use Rattle.disk_laws.proofs.RunLemmas.{called_on, killed_run}
use Rattle.disk_laws.proofs.SparedLemmas.{IsSpared, all_marked, spare_lost, spare_same, spared_often}

-- ---- a log

module _ (g : Geometry) (mark : ℕ) where
  -- A DIE BEFORE OPERATIONS: its blocks take their pages in order, no block is erased that holds a newest page, each image that a stop may leave is one array, and a cut spares each newest page
  pub record Begins (s : Flash) (accounts : List Account) (next : ℕ) (log : List Operation) : Type 0 where
    pub sized : s.geometry ≡ g
    pub fits : Fits g.pages s.image accounts next
    pub filled : Filled g.pages s.image accounts
    pub whole : IsImage g s.image
    pub ones : (left : Image) → MayLeave g s.image log left → HasOneArray g left
    pub dead : ErasesDead g.pages s.image log
    pub spare : CutsSpare g s.image mark

  -- what is so before one operation more is so after it
  next_ones : (image now : Image) (op : Operation) (log : List Operation) → now ≡ image_after g.pages image op → ((left : Image) → MayLeave g image (op ∷ log) left → HasOneArray g left)
      → (left : Image) → MayLeave g now log left → HasOneArray g left
  next_ones image now op log is ones left m = ones left (record { whole = m.whole; by = inr (subst (λ i. LeftBy g.pages i log left) is m.by) })

  next_whole : (s t : Flash) (op : Operation) → s.geometry ≡ g → Steps s op t → IsImage g s.image → IsImage g t.image
  next_whole s t op same step whole = subst (λ h. IsImage h t.image) same (image_stays s t op step (subst (λ h. IsImage h s.image) (sym same) whole))

  pub found_spare : (log : List Operation) (s t : Flash) (accounts : List Account) (next : ℕ) (found : Image) → Begins s accounts next log → Leads s log t → LegalFrom g.pages accounts log → NumbersFrom next log
      → LeftBy g.pages s.image log found → CutsSpare g found mark
  found_spare [] s t accounts next found b leads legal numbers by = subst (λ i. CutsSpare g i mark) (sym by) b.spare
  found_spare (Program row page passed left ∷ log) s t accounts next found b (mid, step, leads) legal numbers by =
      let op : Operation = Program row page passed left in
      let due : IsDueProgram s.geometry.pages accounts row = subst (λ (h : Geometry). IsDueProgram h.pages accounts row) (sym b.sized) legal.0 in
      let fits : Fits s.geometry.pages s.image accounts next = subst (λ (h : Geometry). Fits h.pages s.image accounts next) (sym b.sized) b.fits in
      let filled : Filled s.geometry.pages s.image accounts = subst (λ (h : Geometry). Filled h.pages s.image accounts) (sym b.sized) b.filled in
      let is : mid.image ≡ image_after g.pages s.image op = after_program g.pages s mid row page left passed step in
      elim by [
        | inl torn ↦ spare_same g s.image found mark (failed_marks row s.image found (unsound s mid row page left passed accounts next step due numbers.0 fits) torn) b.spare
        | inr later ↦ found_spare log mid t (accounted g.pages accounts op) (next + 1) found (record {
          sized = geometry-Steps s mid op step ∙ b.sized;
          fits = subst (λ (h : Geometry). Fits h.pages mid.image (accounted h.pages accounts op) (next + 1)) b.sized (program_fits s mid row page left passed accounts next step due numbers.0 fits);
          filled = subst (λ (h : Geometry). Filled h.pages mid.image (accounted h.pages accounts op)) b.sized (program_filled s mid row page left passed accounts next step due numbers.0 fits filled);
          whole = next_whole s mid op b.sized step b.whole;
          ones = next_ones s.image mid.image op log is b.ones;
          dead = subst (λ i. ErasesDead g.pages i log) (sym is) b.dead;
          spare = subst (λ h. CutsSpare h mid.image mark) b.sized (program_spare s mid row page left passed accounts next step due numbers.0 fits filled mark (subst (λ h. CutsSpare h s.image mark) (sym b.sized) b.spare));
        }) leads legal.1 numbers.1 (subst (λ i. LeftBy g.pages i log found) (sym is) later)
      ]
  found_spare (Erase block passed left ∷ log) s t accounts next found b (mid, step, leads) legal numbers by =
      let op : Operation = Erase block passed left in
      let fits : Fits s.geometry.pages s.image accounts next = subst (λ (h : Geometry). Fits h.pages s.image accounts next) (sym b.sized) b.fits in
      let filled : Filled s.geometry.pages s.image accounts = subst (λ (h : Geometry). Filled h.pages s.image accounts) (sym b.sized) b.filled in
      let is : mid.image ≡ image_after g.pages s.image op = after_erase g s mid block passed left b.sized step in
      let one : HasOneArray g s.image = b.ones s.image (record { whole = b.whole; by = between g.pages s.image [] (op ∷ log) }) in
      let lost : LosesIn g.pages block s.image mid.image = subst (λ (h : Geometry). LosesIn h.pages block s.image mid.image) b.sized (erase_loses s mid block passed left step) in
      elim by [
        | inl torn ↦ spare_lost g s.image found mark block (lost_keeps g block s.image found one b.dead.0 torn) b.dead.0 torn.others b.spare
        | inr later ↦ found_spare log mid t (accounted g.pages accounts op) next found (record {
          sized = geometry-Steps s mid op step ∙ b.sized;
          fits = subst (λ (h : Geometry). Fits h.pages mid.image (accounted h.pages accounts op) next) b.sized (erase_fits s mid block passed left accounts next step legal.0 fits);
          filled = subst (λ (h : Geometry). Filled h.pages mid.image (accounted h.pages accounts op)) b.sized (erase_filled s mid block passed left accounts next step legal.0 fits filled);
          whole = next_whole s mid op b.sized step b.whole;
          ones = next_ones s.image mid.image op log is b.ones;
          dead = subst (λ i. ErasesDead g.pages i log) (sym is) b.dead.1;
          spare = spare_lost g s.image mid.image mark block (lost_keeps g block s.image mid.image one b.dead.0 lost) b.dead.0 lost.others b.spare;
        }) leads legal.1 numbers (subst (λ i. LeftBy g.pages i log found) (sym is) later)
      ]

-- ---- calls one after another

module _ {N : Type 0} (die : View N) (old : Device N) (mark : ℕ) (few : room_of (ram old.engine) ≤ 65536) where
  abbrev g : Geometry
  g = old.engine.geometry

  call_spare : (before : List Operation) (mid : Device N) (log : List Operation) (new : Device N) (found : Image) → DeviceCalls die old before mid → IsRecordedCall die mid log new
      → CutsSpare g (image_on die mid) mark → MayLeave g (image_on die mid) log found → CutsSpare g found mark
  call_spare before mid log new found run does cuts m =
      let c = called_on die old before mid log new run does in
      found_spare g mark log (die.flash mid.engine.nand) (die.flash new.engine.nand) c.accounts c.next found
      (record {
        sized = c.die_sized;
        fits = c.fits;
        filled = c.filled;
        whole = c.whole;
        ones = λ left may. one_of g (room_of (ram old.engine)) left ((c.survives left may).0 few);
        dead = c.dead;
        spare = cuts;
      })
      c.leads c.legal c.numbers m.by

  -- the pages after a call are what a stop behind its last operation leaves
  ends : (before : List Operation) (mid : Device N) (log : List Operation) (new : Device N) → DeviceCalls die old before mid → IsRecordedCall die mid log new → MayLeave g (image_on die mid) log (image_on die new)
  ends before mid log new run does =
      let c = called_on die old before mid log new run does in
      let is : image_on die new ≡ image_after_all g.pages (image_on die mid) log =
      image_law (die.flash mid.engine.nand) (die.flash new.engine.nand) log c.leads ∙ ap (λ (h : Geometry). image_after_all h.pages (image_on die mid) log) c.die_sized in
      record {
        whole = subst (λ h. IsImage h (image_on die new)) c.sized (does.through.is.well does.through.holds_on).truth.whole;
        by = (torn_in_one_law g.pages (image_on die mid) (image_on die new) log).1 (inl is);
      }

  run_spare : (log : List Operation) (new : Device N) → DeviceCalls die old log new → CutsSpare g (image_on die old) mark → CutsSpare g (image_on die new) mark
  run_spare log new NoCall cuts = cuts
  run_spare log new (OneMore before mid more last run does) cuts = call_spare before mid more last (image_on die last) run does (run_spare before mid run cuts) (ends before mid more last run does)

  cut_spare : (log : List Operation) (new : Device N) (found : Image) (run : DeviceCalls die old log new) → CutsSpare g (image_on die old) mark → IsCutIn die old log new run found → CutsSpare g found mark
  cut_spare log new found NoCall cuts c = absurd c
  cut_spare log new found (OneMore before mid more last run does) cuts (inl c) = cut_spare before mid found run cuts c
  cut_spare log new found (OneMore before mid more last run does) cuts (inr c) = call_spare before mid more last found run does (run_spare before mid run cuts) c.cut

  -- what is found is one array
  cut_one : (log : List Operation) (new : Device N) (found : Image) (run : DeviceCalls die old log new) → IsCutIn die old log new run found → HasOneArray g found
  cut_one log new found NoCall c = absurd c
  cut_one log new found (OneMore before mid more last run does) (inl c) = cut_one before mid found run c
  cut_one log new found (OneMore before mid more last run does) (inr c) = one_of g (room_of (ram old.engine)) found (c.mounts few)

  pub spare_found : (log : List Operation) (new : Device N) (found : Image) (run : DeviceCalls die old log new) → CutsSpare g (image_on die old) mark → MayLeave g (image_on die old) log found → CutsSpare g found mark
  spare_found log new found run cuts m = elim (killed_run die old new log found run m) [
    | inl none ↦ subst (λ i. CutsSpare g i mark) (sym none.1) cuts
    | inr c ↦ cut_spare log new found run cuts c
  ]

  pub one_found : (log : List Operation) (new : Device N) (found : Image) (run : DeviceCalls die old log new) → HasOneArray g (image_on die old) → MayLeave g (image_on die old) log found → HasOneArray g found
  one_found log new found run one m = elim (killed_run die old new log found run m) [
    | inl none ↦ subst (HasOneArray g) (sym none.1) one
    | inr c ↦ cut_one log new found run c
  ]

-- what is so of pages that were found is so of those that stand for them
whole_after : {N : Type 0} (die : View N) (old : Device N) (log : List Operation) (new : Device N) (run : DeviceCalls die old log new) (found pages : Image) → StandsFor old.engine.geometry found pages
    → IsCutIn die old log new run found → IsWholeAfter die old log new run pages
whole_after die old log new NoCall found pages stands c = c
whole_after die old log new (OneMore before mid more last run does) found pages stands (inl c) = inl (whole_after die old before mid run found pages stands c)
whole_after die old log new (OneMore before mid more last run does) found pages stands (inr c) = inr (record {
  whole = elim c.whole [ inl was ↦ inl (ap flat stands.array ∙ was) | inr now ↦ inr (ap flat stands.array ∙ now) ];
  mounts = λ few. stands.mountable (room_of (ram old.engine)) (c.mounts few);
})

pub killed_spares : {N : Type 0} (die : View N) → KilledSparesLaw die
killed_spares die old new log run found mark few cuts m = spare_found die old mark few log new found run cuts m

pub well_one : {N : Type 0} (die : View N) (d : Device N) → IsDisk die d → holds die.honest d ≡ true → HasOneArray d.engine.geometry (image_on die d)
well_one die d is held = (is.well held).truth.one

pub well_marked : {N : Type 0} (die : View N) (d : Device N) (mark : ℕ) → IsDisk die d → holds die.honest d ≡ true → d.engine.next ≤ mark → AreBelow (marks (image_on die d)) mark
well_marked die d mark is held le = record { below = λ row r has. (let lt = (is.well held).truth.below.below row r has in omega (arith, le, lt)) }

pub own_mark : {N : Type 0} (die : View N) → OwnMarkLaw die
own_mark die d mark is held le = all_marked d.engine.geometry (image_on die d) mark (well_marked die d mark is held le)

pub killed_opened : {N : Type 0} (die : View N) → KilledOpenedLaw die
killed_opened die old new log run s t mark few is held cuts sized m often =
    let g : Geometry = old.engine.geometry in
    let all : IsSpared g mark s.pages t.pages = spared_often g mark s t sized (one_found die old mark few log new s.pages run (well_one die old is held) m) (spare_found die old mark few log new s.pages run cuts m) often in (
      all.stands,
      elim (killed_run die old new log s.pages run m) [
        | inl none ↦ inl (none.0, subst (λ i. StandsFor g i t.pages) none.1 all.stands)
        | inr c ↦ inr (whole_after die old log new run s.pages t.pages all.stands c)
      ],
    )
