-- A sector is made ready, one step after another.
use Rattle.std.proofs.Common.{◌≡◌, ◌≢◌, ℕ, ◌≤◌, ◌∙◌, None, Option, Some, Result, Ok, Err, OnOk, IfErr, MatchResult, MatchOption, false, [], length, refl, sym, ap, subst, arith}
use Rattle.page_layout.specs.View.{View}
use Rattle.page_layout.specs.declared.geometry.Geometry.{Geometry}
use Rattle.page_layout.specs.declared.record.Key.TheVariants.{Sector}
use Rattle.page_layout.specs.Page.{Image}
use Rattle.page_layout.specs.Flash.{Flash}
use Rattle.page_layout.specs.Recording.{Recording}
use Rattle.bad_blocks.specs.Table.{good_count}
use Rattle.collection.specs.Collect.{waiting}
use Rattle.collection.specs.declared.fault.EngineFault.{EngineFault}
use Rattle.collection.specs.declared.fault.EngineFault.TheVariants.{ReadOnly, SequenceSpent, Damaged, Bus}
use Rattle.mapping_cache.specs.declared.slot.Slot.{Slot}
use Rattle.mapping_cache.specs.Mapping.{MappingState, HasLimitsOf, slot_of, loaded, loaded_by}
use Rattle.collection.specs.declared.engine.Engine.{Engine}
use Rattle.collection.specs.State.{Ram}
use Rattle.collection.specs.Safe.{IsRam, ram, image_in}
use Rattle.collection.specs.Left.{IsCalm, IsHalfDone, LeavesPin, PinHasPassed, PinIsFew}
use Rattle.collection.specs.declared.engine.Pinned.{Pinned}
use Rattle.collection.proofs.Beside.{beside_loaded}
use Rattle.collection.specs.Truth.{IsTrue}
use Rattle.collection.specs.Log.{Went}
use Rattle.collection.specs.Looks.{IsReadFault}
use Rattle.collection.specs.Pages.{newest_row}
use Rattle.ftl_device.specs.declared.fault.CallFault.TheVariants.{Engine as OfEngine}
use Rattle.ftl_device.specs.Calls.{TellsByMemory, Knows, KeepsArray, FindsNewestRow, CallRefused, HasMadeRoom}
use Rattle.ftl_device.proofs.PinLemmas.{knows_beside}
use Rattle.collection.proofs.Lefts.{calm_law}
use Rattle.collection.proofs.Puts.{leaves_same}

-- ---- counts

-- where more were good before
pub tells_then : (fault : EngineFault) (a b c : Ram) → good_count b.blocks.table ≤ good_count a.blocks.table → TellsByMemory {A = Option ℕ} b c (Err fault) → TellsByMemory {A = Option ℕ} a c (Err fault)
tells_then ReadOnly a b c fewer h = (h.0, omega (arith, h.1))
tells_then SequenceSpent a b c fewer h = h
tells_then Damaged a b c fewer h = tt
tells_then Bus a b c fewer h = tt

pub tells_found : (result : Result (Option ℕ) EngineFault) (a b c d : Ram) (fault : Option EngineFault)
    → good_count b.blocks.table ≤ good_count a.blocks.table → good_count c.blocks.table ≤ good_count b.blocks.table
    → d ≡ record c { fault = fault } → IfErr result IsReadFault → TellsByMemory a d result
tells_found (Ok row) a b c d fault first next is of_read = (let e : good_count d.blocks.table ≡ good_count c.blocks.table = ap (λ (r : Ram). good_count r.blocks.table) is in omega arith)
tells_found (Err ReadOnly) a b c d fault first next is of_read = absurd of_read
tells_found (Err SequenceSpent) a b c d fault first next is of_read = absurd of_read
tells_found (Err Damaged) a b c d fault first next is of_read = tt
tells_found (Err Bus) a b c d fault first next is of_read = tt

-- ---- the look-up comes last

module _ (c d : Ram) (fault : Option EngineFault) (is : d ≡ record c { fault = fault }) where
  pub went_found : (a : Ram) (s t u : Flash) (rs rt ru : Option Recording) → Went a s rs c t rt → u ≡ t → ru ≡ rt → Went a s rs d u ru
  went_found a s t u rs rt ru w same still =
      let noted : Went a s rs (record c { fault = fault }) t rt = record { log = w.log; leads = w.leads; records = w.records; follows = w.follows; next = w.next; wears = w.wears; numbers = w.numbers } in
      subst (λ x. Went a s rs d x ru) (sym same) (subst (λ x. Went a s rs d t x) (sym still) (subst (λ r. Went a s rs r t rt) (sym is) noted))

  truth_found : (x : Image) → IsTrue None c x → IsTrue None d x
  truth_found x w =
      let noted : IsTrue None (record c { fault = fault }) x = record { whole = w.whole; one = w.one; below = w.below; filled = w.filled; live = w.live; worn = w.worn; tables = w.tables; maps = w.maps } in
      subst (λ r. IsTrue None r x) (sym is) noted

  calm_found : IsCalm c → IsCalm d
  calm_found k = subst IsCalm (sym is) (record { unmarked = k.unmarked; pinned = half c.pin.block k.pinned })
    where
      half : (o : Option Pinned) → MatchOption o (length c.mapping.moved ≤ waiting c) (IsHalfDone c) → MatchOption o (length c.mapping.moved ≤ waiting c) (IsHalfDone (record c { fault = fault }))
      half None h = h
      half (Some p) h = record { within = h.within; closed = h.closed; passed = h.passed; on_die = h.on_die }

  knows_found : (x : Image) → Knows c x → Knows d x
  knows_found x k = record {
    truth = truth_found x k.truth;
    calm = calm_found k.calm;
    passed = (let P : Ram → Type 0 = λ r. PinHasPassed r x in subst P (sym is) (λ p at. k.passed p at));
    few = subst (PinIsFew 0) (sym is) (λ p at. (let h = k.few p at in record { within = h.within; small = h.small; moved = h.moved }));
  }

  pub found_after : (result : Result (Option ℕ) EngineFault) (n : ℕ) (g : Geometry) (x : Image) (t u : Flash) → KeepsArray g x c t.image → (result ≢ Err Bus → u ≡ t)
      → MatchResult result (λ row. row ≡ newest_row t.image (Sector n)) (λ f. f ≡ Bus)
      → MatchResult result (λ row. FindsNewestRow n row g x d u.image) (λ f. CallRefused g x d u.image (OfEngine f))
  found_after (Ok row) n g x t u keeps same row_is =
      let unread : u ≡ t = same (λ e. (let no : ⊥ = cc in no)) in
      subst (λ (s : Flash). FindsNewestRow n row g x d s.image) (sym unread) (record { keeps = record { truth = knows_found t.image keeps.truth; array = keeps.array; versions = keeps.versions }; row_is = row_is })
  found_after (Err ReadOnly) n g x t u keeps same of_bus = (let no : ⊥ = cc in absurd no)
  found_after (Err SequenceSpent) n g x t u keeps same of_bus = (let no : ⊥ = cc in absurd no)
  found_after (Err Damaged) n g x t u keeps same of_bus = (let no : ⊥ = cc in absurd no)
  found_after (Err Bus) n g x t u keeps same of_bus = tt

  pub calm_after : (result : Result (Option ℕ) EngineFault) (a b : Ram) → HasMadeRoom 9 false a b → LeavesPin b c → OnOk result (IsCalm d)
  calm_after (Ok row) a b room beside = calm_found (calm_law b c beside room.calm)
  calm_after (Err f) a b room beside = tt

-- ---- the entry is cached last

loaded_limits : (m : MappingState) (n : ℕ) (row : Option ℕ) → HasLimitsOf m (loaded m n row)
loaded_limits m n row = by (slot_of m n)
  where
    by : (slot : Option Slot) → HasLimitsOf m (loaded_by slot m n row)
    by (Some s) = record { geometry = refl; capacity = refl; share = refl }
    by None = record { geometry = refl; capacity = refl; share = refl }

module _ {N : Type 0} (e f : Engine N) (n : ℕ) (row : Option ℕ) (is : f ≡ record e { mapping = loaded e.mapping n row }) where
  pub beside_now : LeavesPin (ram e) (ram f)
  beside_now = beside_loaded (ram e) (ram f) n row (ap (λ (x : Engine N). ram x) is)

  pub limits_loaded : (m : MappingState) → HasLimitsOf m e.mapping → HasLimitsOf m f.mapping
  limits_loaded m l =
      let P : Engine N → Type 0 = λ x. HasLimitsOf m x.mapping in
      let here = loaded_limits e.mapping n row in
      subst P (sym is) (record { geometry = here.geometry ∙ l.geometry; capacity = here.capacity ∙ l.capacity; share = here.share ∙ l.share })

  pub went_loaded : (view : View N) (a : Ram) (s : Flash) (rs : Option Recording) → Went a s rs (ram e) (view.flash e.nand) (view.recorded e.nand) → Went a s rs (ram f) (view.flash f.nand) (view.recorded f.nand)
  went_loaded view a s rs w =
      let P : Engine N → Type 0 = λ x. Went a s rs (ram x) (view.flash x.nand) (view.recorded x.nand) in
      subst P (sym is) (record { log = w.log; leads = w.leads; records = w.records; follows = w.follows; next = w.next; wears = w.wears; numbers = w.numbers })

  pub keeps_loaded : (flash : N → Flash) (g : Geometry) (before : Image) → IsRam (ram e) → IsRam (ram f) → KeepsArray g before (ram e) (image_in flash e) → IsTrue None (ram f) (image_in flash e) → KeepsArray g before (ram f) (image_in flash f)
  keeps_loaded flash g before s t kept truth =
      let same : image_in flash f ≡ image_in flash e = ap (λ (x : Engine N). image_in flash x) is in
      let knows : Knows (ram f) (image_in flash e) = knows_beside (ram e) (ram f) _ _ s t beside_now kept.truth truth (leaves_same (ram e) (image_in flash e) (image_in flash e) refl) in
      subst (λ i. KeepsArray g before (ram f) i) (sym same) (record { truth = knows; array = kept.array; versions = kept.versions })
