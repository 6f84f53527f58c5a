-- A page that is brought forward once there is room, and the number of such calls.
use Rattle.std.proofs.Common.{◌≡◌, ◌⊎◌, inl, inr, ℕ, zero, suc, ◌+◌, ◌/◌, ◌≤◌, Bool, true, false, Option, None, Some, Result, Ok, Err, OnOk, refl, sym, ◌∙◌, ap, subst, arith}
use Rattle.std.specs.Map.{keys_of}
use Rattle.page_layout.specs.View.{View}
use Rattle.page_layout.specs.declared.record.Key.{Key}
use Rattle.page_layout.specs.declared.record.Key.TheVariants.{Sector, Translation, Table}
use Rattle.page_layout.specs.Flash.{Flash}
use Rattle.page_layout.specs.Geometry.{entries}
use Rattle.page_layout.specs.Page.{Image}
use Rattle.page_layout.specs.Sound.{version_for}
use Rattle.page_layout.specs.Array.{marks}
use Rattle.page_layout.specs.Version.{is_old, HasOldAt}
use Rattle.page_layout.proofs.KeyLemmas.{cases_key}
use Rattle.page_layout.proofs.NewestLemmas.{newest-record}
use Rattle.page_layout.proofs.VersionLemmas.{old_at, old_from}
use Rattle.mapping_cache.specs.declared.slot.Slot.{Slot}
use Rattle.mapping_cache.specs.Mapping.{slot_of}
use Rattle.allocation.specs.State.{State, free_count}
use Rattle.collection.specs.declared.engine.Engine.{Engine}
use Rattle.collection.specs.State.{Ram}
use Rattle.collection.specs.Safe.{ram, image_in}
use Rattle.collection.specs.Log.{Went}
use Rattle.collection.specs.Results.{Goes, KeepsPage}
use Rattle.collection.specs.Collect.{FollowsCopy, KeepsKeys, HasAiling, HasNoneAiling, HasRescuedPage, LeavesLowest, RescueCosts, IsRearranged, IsRescued}
use Rattle.collection.specs.Renew.{HasNoneDue, HasDue, IsNextDue, IsRenewedPage, IsRenewedAt}
use Rattle.collection.proofs.Follows.{follows_by}
use Rattle.collection.proofs.Logs.{went_then}
use Rattle.ftl_device.specs.declared.device.Device.{Device}
use Rattle.ftl_device.specs.declared.fault.CallFault.{CallFault}
use Rattle.ftl_device.specs.declared.fault.DeviceFault.{DeviceFault}
use Rattle.ftl_device.specs.Calls.{HasMadeRoom, answer_of}
use Rattle.ftl_device.specs.Migrate.{FindsFrom}
use Rattle.ftl_device.specs.Brings.{MadeRoom, RescuesLowest, TurnsHonestly, HasBrought, BringsPage, BringsOne, BringsEach, LowestRowLaw, CountedLaw}
use Rattle.ftl_device.proofs.CostLemmas.{done_after}
use Rattle.ftl_device.proofs.CursorLemmas.{due_from, one_found}

-- ---- inside the call

pub brought_by : (a b c : Ram) (renewed : Bool) → HasMadeRoom 9 false a b → RescueCosts b c (Ok renewed) → HasBrought a c
brought_by a b c true room cost = record { mid = b; room = room; on = inr cost }
brought_by a b c false room cost = record { mid = b; room = room; on = inl cost }

none_ailing : (s : State) → HasAiling s → HasNoneAiling s → ⊥
none_ailing s some none = (let at = some.1 in omega (arith, none some.0 at.within at.bad, at.some))

on_done : {P Q : Type 0} (result : Result (Unit {0}) DeviceFault) → OnOk result P → (P → Q) → OnOk result Q
on_done (Ok done) h part = part h
on_done (Err fault) h part = tt

module _ {N : Type 0} (view : View N) where
  pub made_room : (old new : Engine N) → HasMadeRoom 9 false (ram old) (ram new) → (9 ≤ free_count (ram old).blocks → new ≡ old) → IsRearranged (ram old) (image_in view.flash old) (ram new) (image_in view.flash new)
      → Went (ram old) (view.flash old.nand) (view.recorded old.nand) (ram new) (view.flash new.nand) (view.recorded new.nand) → MadeRoom view old new
  made_room old new made rests rearranged went = record {
    made = made;
    rests = λ nine. (ap (λ (e : Engine N). ram e) (rests nine), ap (λ (e : Engine N). view.flash e.nand) (rests nine));
    rearranged = rearranged;
    went = went;
  }

  pub brings_by : (row : ℕ) (old mid new : Engine N) (renewed : Bool) → MadeRoom view old mid → Goes (ram mid) (ram new) → KeepsKeys mid.mapping new.mapping → RescueCosts (ram mid) (ram new) (Ok renewed)
      → IsRenewedAt row (ram mid) (image_in view.flash mid) (ram new) (image_in view.flash new) renewed → BringsPage view row old new
  brings_by row old mid new renewed room goes keys cost renews = record { mid = mid; room = room; goes = goes; keys = keys; renewed = renewed; cost = cost; renews = renews }

  -- after a look, which leaves memory and die as they were
  room_after : (old look mid : Engine N) → ram look ≡ ram old → view.flash look.nand ≡ view.flash old.nand → Went (ram old) (view.flash old.nand) (view.recorded old.nand) (ram look) (view.flash look.nand) (view.recorded look.nand)
      → MadeRoom view look mid → MadeRoom view old mid
  room_after old look mid same still went room = record {
    made = subst (λ r. HasMadeRoom 9 false r (ram mid)) same room.made;
    rests = λ nine.
        let h = room.rests (subst (λ (r : Ram). 9 ≤ free_count r.blocks) (sym same) nine) in
        (h.0 ∙ same, h.1 ∙ still);
    rearranged = subst (λ r. IsRearranged r (image_in view.flash old) (ram mid) (image_in view.flash mid)) same (subst (λ (f : Flash). IsRearranged (ram look) f.image (ram mid) (image_in view.flash mid)) still room.rearranged);
    went = went_then (ram old) (ram look) (ram mid) _ _ _ _ _ _ (ap (λ (r : Ram). r.geometry) same) went room.went;
  }

  pub brings_after : (row : ℕ) (old look new : Engine N) → ram look ≡ ram old → view.flash look.nand ≡ view.flash old.nand → Went (ram old) (view.flash old.nand) (view.recorded old.nand) (ram look) (view.flash look.nand) (view.recorded look.nand)
      → BringsPage view row look new → BringsPage view row old new
  brings_after row old look new same still went b =
      record { mid = b.mid; room = room_after old look b.mid same still went b.room; goes = b.goes; keys = b.keys; renewed = b.renewed; cost = b.cost; renews = b.renews }

  pub ok_brings : (row : ℕ) (old look new : Engine N) (result : Result (Unit {0}) CallFault) → ram look ≡ ram old → view.flash look.nand ≡ view.flash old.nand → Went (ram old) (view.flash old.nand) (view.recorded old.nand) (ram look) (view.flash look.nand) (view.recorded look.nand)
      → OnOk result (BringsPage view row look new) → OnOk result (BringsPage view row old new)
  ok_brings row old look new (Ok done) same still went b = brings_after row old look new same still went b
  ok_brings row old look new (Err fault) same still went b = tt

  -- what an honest turn does, of the engine as the device leaves it
  pub turned_honestly : {Q : Type 0} (old e last : Engine N) (answer : Result (Unit {0}) CallFault) (result : Result (Unit {0}) DeviceFault) (good : ℕ) → last ≡ e → result ≡ answer_of (ram last) good answer
      → OnOk answer (TurnsHonestly view old e) → (TurnsHonestly view old last → Q) → OnOk result Q
  turned_honestly old e last answer result good same is h part = on_done result (done_after (TurnsHonestly view old) e last answer result good same is h) part

  -- the page of lowest row, where a bad block holds one
  pub lowest_by : (old mid new : Engine N) (found : Bool) → MadeRoom view old mid → RescueCosts (ram mid) (ram new) (Ok found) → IsRescued (ram mid) (image_in view.flash mid) (ram new) (image_in view.flash new) found → RescuesLowest view old new
  lowest_by old mid new true room cost its = record { mid = mid; room = room; lowest = λ some. (cost, its.lowest refl) }
  lowest_by old mid new false room cost its = record { mid = mid; room = room; lowest = λ some. absurd (none_ailing (ram mid).blocks some (its.none refl)) }

  pub lowest_none : (old mid new : Engine N) → MadeRoom view old mid → HasNoneAiling (ram mid).blocks → RescuesLowest view old new
  lowest_none old mid new room none = record { mid = mid; room = room; lowest = λ some. absurd (none_ailing (ram mid).blocks some none) }

  pub lowest_law : LowestRowLaw view
  lowest_law old new its nine some =
      let rests = its.room.rests nine in
      let done = its.lowest (subst (λ (r : Ram). HasAiling r.blocks) (sym rests.0) some) in
      let leaves = subst (λ (f : Flash). LeavesLowest (ram its.mid) f.image (image_in view.flash new)) rests.1 done.1 in
      (subst (λ r. HasRescuedPage r (ram new)) rests.0 done.0, subst (λ r. LeavesLowest r (image_in view.flash old) (image_in view.flash new)) rests.0 leaves)

-- ---- which page follows a copy

module _ (r : Ram) (n : ℕ) (other : Key) where
  of_page : slot_of r.mapping n ≡ None → FollowsCopy r (Sector n) other ⊎ (¬ FollowsCopy r (Sector n) other)
  of_page none = elim (cases_key other (Translation (n / entries r.geometry))) [
    | inl same ↦ inl (record { sector = n; of_sector = refl; uncached = none; page_is = same })
    | inr apart ↦ inr (λ f. (let e : n ≡ f.sector = (let s = f.of_sector in cc) in apart (f.page_is ∙ ap (λ k. Translation (k / entries r.geometry)) (sym e))))
  ]

  of_slot : (o : Option Slot) → slot_of r.mapping n ≡ o → FollowsCopy r (Sector n) other ⊎ (¬ FollowsCopy r (Sector n) other)
  of_slot None is = of_page is
  of_slot (Some slot) is = inr (λ f. (let e : n ≡ f.sector = (let s = f.of_sector in cc) in let no : Some slot ≡ None = sym is ∙ (ap (slot_of r.mapping) e ∙ f.uncached) in let never : ⊥ = cc in never))

follows_or : (r : Ram) (key other : Key) → FollowsCopy r key other ⊎ (¬ FollowsCopy r key other)
follows_or r (Sector n) other = of_slot r n other (slot_of r.mapping n) refl
follows_or r (Translation t) other = inr (λ f. (let s = f.of_sector in let never : ⊥ = cc in never))
follows_or r (Table u) other = inr (λ f. (let s = f.of_sector in let never : ⊥ = cc in never))

-- ---- devices whose images have the same pages of version 1

record IsAlike {N : Type 0} (flash : N → Flash) (a b : Device N) : Type 0 where
  there : (key : Key) (row : ℕ) → HasOldAt (image_in flash a.engine) key row → HasOldAt (image_in flash b.engine) key row
  back : (key : Key) (row : ℕ) → HasOldAt (image_in flash b.engine) key row → HasOldAt (image_in flash a.engine) key row
  cursor : b.cursor ≡ a.cursor
  geometry : b.engine.geometry ≡ a.engine.geometry
  keys : keys_of b.engine.mapping.cached ≡ keys_of a.engine.mapping.cached

-- what is said of one image is said of the other
module _ (x y : Image) (there : (key : Key) (row : ℕ) → HasOldAt x key row → HasOldAt y key row) (back : (key : Key) (row : ℕ) → HasOldAt y key row → HasOldAt x key row) where
  due_there : (row : ℕ) → HasDue row x → HasDue row y
  due_there row d = record { key = d.key; no_table = d.no_table; old = there d.key row d.old }

  none_there : (row : ℕ) → HasNoneDue row x → HasNoneDue row y
  none_there row none key no_table at = none key no_table (back key row at)

  next_there : (from row : ℕ) → IsNextDue from row x → IsNextDue from row y
  next_there from row n = record { after = n.after; due = due_there row n.due; first = λ q ge lt. none_there q (n.first q ge lt) }

  found_there : (cursor row : ℕ) → FindsFrom cursor x (Some row) → FindsFrom cursor y (Some row)
  found_there cursor row (inl next) = inl (next_there cursor row next)
  found_there cursor row (inr behind) = inr (record { ahead = λ q ge. none_there q (behind.ahead q ge); first = next_there 0 row behind.first })

-- a row has one key
one_key : (x : Image) (row : ℕ) (key other : Key) → HasOldAt x key row → HasOldAt x other row → key ≡ other
one_key x row key other a b =
    let r = newest-record (marks x) key row a.newest_is in
    let s = newest-record (marks x) other row b.newest_is in
    let same : Some r.0 ≡ Some s.0 = sym r.1 ∙ s.1 in
    let its : r.0 ≡ s.0 = cc in
    sym r.2 ∙ (ap Rattle.page_layout.specs.Key.key_of its ∙ s.2)

-- a page that stays as it is, is as old as before
old_kept : (x y : Image) (key : Key) (row : ℕ) → KeepsPage key x y → HasOldAt x key row → HasOldAt y key row
old_kept x y key row k at =
    let is : is_old y key ≡ true = k.version ∙ old_from x key (row, at) in
    let found = old_at y key is in
    let e : Some found.0 ≡ Some row = sym found.1.newest_is ∙ (k.row ∙ at.newest_is) in
    let same : found.0 ≡ row = cc in
    subst (HasOldAt y key) same found.1

not_old : (x : Image) (key : Key) (row : ℕ) → is_old x key ≡ false → ¬ HasOldAt x key row
not_old x key row fresh at = (let e : true ≡ false = sym (old_from x key (row, at)) ∙ fresh in let never : ⊥ = cc in never)

-- ---- one call

module _ {N : Type 0} (view : View N) where
  -- with nine free blocks the page that is found is renewed, and nothing else is done
  renews_found : (a b : Device N) → 9 ≤ free_count (ram a.engine).blocks → (one : BringsOne view a b) → IsRenewedPage one.row (ram a.engine) (image_in view.flash a.engine) (ram b.engine) (image_in view.flash b.engine)
  renews_found a b nine one = by one.brings.renewed (subst (λ (r : Ram). IsRenewedAt one.row r (image_in view.flash a.engine) (ram b.engine) (image_in view.flash b.engine) one.brings.renewed) rests.0
      (subst (λ (f : Flash). IsRenewedAt one.row (ram one.brings.mid) f.image (ram b.engine) (image_in view.flash b.engine) one.brings.renewed) rests.1 one.brings.renews))
    where
      rests : (ram one.brings.mid ≡ ram a.engine) × (view.flash one.brings.mid.nand ≡ view.flash a.engine.nand)
      rests = one.brings.room.rests nine

      by : (renewed : Bool) → IsRenewedAt one.row (ram a.engine) (image_in view.flash a.engine) (ram b.engine) (image_in view.flash b.engine) renewed → IsRenewedPage one.row (ram a.engine) (image_in view.flash a.engine) (ram b.engine) (image_in view.flash b.engine)
      by true its = its
      by false its = absurd (let due = due_from a.cursor one.row (image_in view.flash a.engine) one.found in its.0 due.key due.no_table due.old)

  sized_one : (a b : Device N) → BringsOne view a b → b.engine.geometry ≡ a.engine.geometry
  sized_one a b one = one.brings.goes.geometry ∙ one.brings.room.made.goes.geometry

  keys_one : (a b : Device N) → BringsOne view a b → keys_of b.engine.mapping.cached ≡ keys_of a.engine.mapping.cached
  keys_one a b one = one.brings.keys.keys ∙ one.brings.room.made.keys.keys

  -- no page is older after it
  adds_one : (a b : Device N) → version_for a.engine.geometry ≡ 2 → 9 ≤ free_count (ram a.engine).blocks → BringsOne view a b → (key : Key) (row : ℕ) → HasOldAt (image_in view.flash b.engine) key row → HasOldAt (image_in view.flash a.engine) key row
  adds_one a b two nine one = (renews_found a b nine one).same.leaves.versions two

  -- so a page of the other device is as old, too
  old_there : (a b a' b' : Device N) → version_for a.engine.geometry ≡ 2 → IsAlike view.flash a a' → 9 ≤ free_count (ram a.engine).blocks → 9 ≤ free_count (ram a'.engine).blocks → (one : BringsOne view a b) → (one' : BringsOne view a' b') → one'.row ≡ one.row
      → (key : Key) (row : ℕ) → HasOldAt (image_in view.flash b.engine) key row → HasOldAt (image_in view.flash b'.engine) key row
  old_there a b a' b' two alike nine nine' one one' rows key row at = elim (cases_key key its.key) [
    | inl same ↦ absurd (not_old (image_in view.flash b.engine) its.key row (its.renewed two) (subst (λ k. HasOldAt (image_in view.flash b.engine) k row) same at))
    | inr apart ↦ elim (follows_or (ram a.engine) its.key key) [
      | inl follows ↦ absurd (not_old (image_in view.flash b.engine) key row (its.followed two key follows) at)
      | inr far ↦ old_kept (image_in view.flash a'.engine) (image_in view.flash b'.engine) key row (theirs.others key (λ e. apart (e ∙ sym keys_same)) (λ f. far (behind f))) (alike.there key row (its.same.leaves.versions two key row at))
    ]
  ]
    where
      its : IsRenewedPage one.row (ram a.engine) (image_in view.flash a.engine) (ram b.engine) (image_in view.flash b.engine)
      its = renews_found a b nine one

      theirs : IsRenewedPage one'.row (ram a'.engine) (image_in view.flash a'.engine) (ram b'.engine) (image_in view.flash b'.engine)
      theirs = renews_found a' b' nine' one'

      keys_same : its.key ≡ theirs.key
      keys_same = one_key (image_in view.flash a'.engine) one'.row its.key theirs.key (alike.there its.key one'.row (subst (HasOldAt (image_in view.flash a.engine) its.key) (sym rows) its.due)) theirs.due

      behind : FollowsCopy (ram a'.engine) theirs.key key → FollowsCopy (ram a.engine) its.key key
      behind f = subst (λ k. FollowsCopy (ram a.engine) k key) (sym keys_same) (follows_by (ram a.engine) (ram a'.engine) theirs.key key alike.geometry alike.keys f)

  turned_round : (a b : Device N) → IsAlike view.flash a b → IsAlike view.flash b a
  turned_round a b k = record { there = k.back; back = k.there; cursor = sym k.cursor; geometry = sym k.geometry; keys = sym k.keys }

  alike_after : (a b a' b' : Device N) → version_for a.engine.geometry ≡ 2 → IsAlike view.flash a a' → 9 ≤ free_count (ram a.engine).blocks → 9 ≤ free_count (ram a'.engine).blocks → BringsOne view a b → BringsOne view a' b' → IsAlike view.flash b b'
  alike_after a b a' b' two alike nine nine' one one' = record {
    there = old_there a b a' b' two alike nine nine' one one' rows;
    back = old_there a' b' a b (ap version_for alike.geometry ∙ two) (turned_round a a' alike) nine' nine one' one (sym rows);
    cursor = one'.cursor_is ∙ (ap (λ k. k + 1) rows ∙ sym one.cursor_is);
    geometry = sized_one a' b' one' ∙ (alike.geometry ∙ sym (sized_one a b one));
    keys = keys_one a' b' one' ∙ (alike.keys ∙ sym (keys_one a b one));
  }
    where
      rows : one'.row ≡ one.row
      rows =
          let found : FindsFrom a'.cursor (image_in view.flash a'.engine) (Some one.row) = subst
          (λ k. FindsFrom k (image_in view.flash a'.engine) (Some one.row)) (sym alike.cursor)
          (found_there (image_in view.flash a.engine) (image_in view.flash a'.engine) alike.there alike.back a.cursor one.row one.found) in
          let same : Some one'.row ≡ Some one.row = one_found a'.cursor (image_in view.flash a'.engine) (Some one'.row) (Some one.row) one'.found found in
          cc

  -- ---- many calls

  sized_each : (count : ℕ) (a b : Device N) → BringsEach view count a b → b.engine.geometry ≡ a.engine.geometry
  sized_each zero a b same = ap (λ (d : Device N). d.engine.geometry) same
  sized_each (suc count) a b each = sized_one each.0 b each.3 ∙ sized_each count a each.0 each.1

  adds_each : (count : ℕ) (a b : Device N) → version_for a.engine.geometry ≡ 2 → BringsEach view count a b → (key : Key) (row : ℕ) → HasOldAt (image_in view.flash b.engine) key row → HasOldAt (image_in view.flash a.engine) key row
  adds_each zero a b two same key row at = subst (λ (d : Device N). HasOldAt (image_in view.flash d.engine) key row) same at
  adds_each (suc count) a b two each key row at =
      adds_each count a each.0 two each.1 key row (adds_one each.0 b (ap version_for (sized_each count a each.0 each.1) ∙ two) each.2 each.3 key row at)

  alike_same : (a b : Device N) → b ≡ a → IsAlike view.flash a b
  alike_same a b same = record {
    there = λ key row at. subst (λ (d : Device N). HasOldAt (image_in view.flash d.engine) key row) (sym same) at;
    back = λ key row at. subst (λ (d : Device N). HasOldAt (image_in view.flash d.engine) key row) same at;
    cursor = ap (λ (d : Device N). d.cursor) same;
    geometry = ap (λ (d : Device N). d.engine.geometry) same;
    keys = ap (λ (d : Device N). keys_of d.engine.mapping.cached) same;
  }

  -- as many calls of one device leave devices that are alike
  alike_each : (count : ℕ) (old a b : Device N) → version_for old.engine.geometry ≡ 2 → BringsEach view count old a → BringsEach view count old b → IsAlike view.flash a b
  alike_each zero old a b two x y = alike_same a b (y ∙ sym x)
  alike_each (suc count) old a b two x y =
      alike_after x.0 a y.0 b (ap version_for (sized_each count old x.0 x.1) ∙ two) (alike_each count old x.0 y.0 two x.1 y.1) x.2 y.2 x.3 y.3

  -- more calls than none leave a page of version 1 less
  record HasGone (a b : Device N) : Type 0 where
    key : Key
    row : ℕ
    was : HasOldAt (image_in view.flash a.engine) key row
    gone : ¬ HasOldAt (image_in view.flash b.engine) key row

  gone_after : (count : ℕ) (a b : Device N) → version_for a.engine.geometry ≡ 2 → BringsEach view (suc count) a b → HasGone a b
  gone_after count a b two each =
      let there = ap version_for (sized_each count a each.0 each.1) ∙ two in
      let its = renews_found each.0 b each.2 each.3 in
      record { key = its.key; row = each.3.row; was = adds_each count a each.0 two each.1 its.key each.3.row its.due; gone = not_old (image_in view.flash b.engine) its.key each.3.row (its.renewed there) }

  -- the first calls of many, and the others
  each_split : (first rest total : ℕ) (a b : Device N) → total ≡ rest + first → BringsEach view total a b → (mid : Device N) × BringsEach view first a mid × BringsEach view rest mid b
  each_split first zero total a b is each = (let e : total ≡ first = omega (arith, is) in (b, subst (λ k. BringsEach view k a b) e each, refl))
  each_split first (suc rest) zero a b is each = absurd (omega (arith, is))
  each_split first (suc rest) (suc total) a b is each = (let s = each_split first rest total a each.0 (omega (arith, is)) each.1 in (s.0, s.1, (each.0, s.2, each.2, each.3)))

  not_fewer : (count rest total : ℕ) (old new new' : Device N) → total ≡ suc rest + count → version_for old.engine.geometry ≡ 2 → image_in view.flash new'.engine ≡ image_in view.flash new.engine → BringsEach view count old new → BringsEach view total old new' → ⊥
  not_fewer count rest total old new new' is two same each each' =
      let s = each_split count (suc rest) total old new' is each' in
      let gone = gone_after rest s.0 new' (ap version_for (sized_each count old s.0 s.1) ∙ two) s.2 in
      let alike = alike_each count old new s.0 two each s.1 in
      gone.gone (subst (λ x. HasOldAt x gone.key gone.row) (sym same) (alike.back gone.key gone.row gone.was))

  one_more : (n m : ℕ) → (n ≡ m) ⊎ (((rest : ℕ) × (m ≡ suc rest + n)) ⊎ ((rest : ℕ) × (n ≡ suc rest + m))) → (suc n ≡ suc m) ⊎ (((rest : ℕ) × (suc m ≡ suc rest + suc n)) ⊎ ((rest : ℕ) × (suc n ≡ suc rest + suc m)))
  one_more n m (inl same) = inl (ap suc same)
  one_more n m (inr (inl less)) = (let e = less.1 in inr (inl (less.0, omega (arith, e))))
  one_more n m (inr (inr less)) = (let e = less.1 in inr (inr (less.0, omega (arith, e))))

  fewer_or : (count count' : ℕ) → (count ≡ count') ⊎ (((rest : ℕ) × (count' ≡ suc rest + count)) ⊎ ((rest : ℕ) × (count ≡ suc rest + count')))
  fewer_or zero zero = inl refl
  fewer_or zero (suc m) = inr (inl (m, omega arith))
  fewer_or (suc n) zero = inr (inr (n, omega arith))
  fewer_or (suc n) (suc m) = one_more n m (fewer_or n m)

  pub counted_law : CountedLaw view
  counted_law count count' old new new' two same each each' = by (fewer_or count count')
    where
      by : (count ≡ count') ⊎ (((rest : ℕ) × (count' ≡ suc rest + count)) ⊎ ((rest : ℕ) × (count ≡ suc rest + count'))) → count ≡ count'
      by (inl is) = is
      by (inr (inl less)) = absurd (not_fewer count less.0 count' old new new' less.1 two same each each')
      by (inr (inr less)) = absurd (not_fewer count' less.0 count old new' new less.1 two (sym same) each' each)
