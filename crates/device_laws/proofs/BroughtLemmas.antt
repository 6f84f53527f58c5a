-- The number of calls that brought a page forward, whatever room was made for them.
use Rattle.std.proofs.Common.{◌≡◌, ◌⊎◌, inl, inr, ℕ, zero, suc, ◌+◌, ◌-◌, ◌/◌, ◌<◌, Bool, true, false, Option, None, Some, Ok, refl, sym, ◌∙◌, ap, subst, arith}
use Rattle.std.specs.Map.{keys_of}
use Rattle.std.proofs.lemmas.Bool.{cases_lt}
use Rattle.page_layout.specs.View.{View}
use Rattle.page_layout.specs.declared.record.Key.{Key}
use Rattle.page_layout.specs.declared.record.Key.TheVariants.{Sector, Translation, Table}
use Rattle.page_layout.specs.Key.{key_of}
use Rattle.page_layout.specs.Flash.{Flash}
use Rattle.page_layout.specs.Geometry.{entries}
use Rattle.page_layout.specs.Page.{Image}
use Rattle.page_layout.specs.Sound.{version_for}
use Rattle.page_layout.specs.Array.{marks}
use Rattle.page_layout.specs.Version.{is_old, HasOldAt}
use Rattle.page_layout.proofs.KeyLemmas.{cases_key}
use Rattle.page_layout.proofs.NewestLemmas.{newest-record}
use Rattle.page_layout.proofs.VersionLemmas.{old_at, old_from}
use Rattle.mapping_cache.specs.declared.slot.Slot.{Slot}
use Rattle.mapping_cache.specs.Mapping.{slot_of}
use Rattle.allocation.specs.Counts.{counts_of}
use Rattle.collection.specs.declared.engine.Engine.{Engine}
use Rattle.collection.specs.State.{Ram}
use Rattle.collection.specs.Safe.{ram, image_in}
use Rattle.collection.specs.Results.{KeepsPage}
use Rattle.collection.specs.Collect.{FollowsCopy, HasRescuedPage, RescueCosts}
use Rattle.collection.specs.Renew.{HasNoneDue, HasDue, IsNextDue, IsRenewedPage, IsRenewedAt}
use Rattle.collection.proofs.Follows.{follows_by}
use Rattle.ftl_device.specs.declared.device.Device.{Device}
use Rattle.ftl_device.specs.Migrate.{FindsFrom}
use Rattle.ftl_device.specs.Brings.{BringsOne}
use Rattle.ftl_device.proofs.CursorLemmas.{due_from, one_found}
use Rattle.device_laws.specs.Brought.{BringsBy, BringsEachBy, CountedByLaw, FewProgramsLaw, OneRenewedLaw, RoomLogLaw}

-- ---- two images with the same pages of version 1

record AreAsOld (x y : Image) : Type 0 where
  there : (key : Key) (row : ℕ) → HasOldAt x key row → HasOldAt y key row
  back : (key : Key) (row : ℕ) → HasOldAt y key row → HasOldAt x key row

turned : (x y : Image) → AreAsOld x y → AreAsOld y x
turned x y o = record { there = o.back; back = o.there }

none_there : (x y : Image) (row : ℕ) → AreAsOld x y → HasNoneDue row x → HasNoneDue row y
none_there x y row o none key no_table at = none key no_table (o.back key row at)

next_there : (x y : Image) (from row : ℕ) → AreAsOld x y → IsNextDue from row x → IsNextDue from row y
next_there x y from row o n = record {
  after = n.after;
  due = record { key = n.due.key; no_table = n.due.no_table; old = o.there n.due.key row n.due.old };
  first = λ q ge lt. none_there x y q o (n.first q ge lt);
}

found_there : (x y : Image) (cursor row : ℕ) → AreAsOld x y → FindsFrom cursor x (Some row) → FindsFrom cursor y (Some row)
found_there x y cursor row o (inl next) = inl (next_there x y cursor row o next)
found_there x y cursor row o (inr behind) = inr (record { ahead = λ q ge. none_there x y q o (behind.ahead q ge); first = next_there x y 0 row o behind.first })

-- ---- one image

one_key : (x : Image) (row : ℕ) (key other : Key) → HasOldAt x key row → HasOldAt x other row → key ≡ other
one_key x row key other a b =
    let r = newest-record (marks x) key row a.newest_is in
    let s = newest-record (marks x) other row b.newest_is in
    let same : Some r.0 ≡ Some s.0 = sym r.1 ∙ s.1 in
    let its : r.0 ≡ s.0 = cc in
    sym r.2 ∙ (ap key_of its ∙ s.2)

old_kept : (x y : Image) (key : Key) (row : ℕ) → KeepsPage key x y → HasOldAt x key row → HasOldAt y key row
old_kept x y key row k at =
    let found = old_at y key (k.version ∙ old_from x key (row, at)) in
    let e : Some found.0 ≡ Some row = sym found.1.newest_is ∙ (k.row ∙ at.newest_is) in
    let same : found.0 ≡ row = cc in
    subst (HasOldAt y key) same found.1

not_old : (x : Image) (key : Key) (row : ℕ) → is_old x key ≡ false → ¬ HasOldAt x key row
not_old x key row fresh at = (let e : true ≡ false = sym (old_from x key (row, at)) ∙ fresh in let never : ⊥ = cc in never)

-- ---- which page follows a copy

module _ (r : Ram) (n : ℕ) (other : Key) where
  of_page : slot_of r.mapping n ≡ None → FollowsCopy r (Sector n) other ⊎ (¬ FollowsCopy r (Sector n) other)
  of_page none = elim (cases_key other (Translation (n / entries r.geometry))) [
    | inl same ↦ inl (record { sector = n; of_sector = refl; uncached = none; page_is = same })
    | inr apart ↦ inr (λ f. (let e : n ≡ f.sector = (let s = f.of_sector in cc) in apart (f.page_is ∙ ap (λ k. Translation (k / entries r.geometry)) (sym e))))
  ]

  of_slot : (o : Option Slot) → slot_of r.mapping n ≡ o → FollowsCopy r (Sector n) other ⊎ (¬ FollowsCopy r (Sector n) other)
  of_slot None is = of_page is
  of_slot (Some slot) is = inr (λ f. (let e : n ≡ f.sector = (let s = f.of_sector in cc) in let no : Some slot ≡ None = sym is ∙ (ap (slot_of r.mapping) e ∙ f.uncached) in let never : ⊥ = cc in never))

follows_or : (r : Ram) (key other : Key) → FollowsCopy r key other ⊎ (¬ FollowsCopy r key other)
follows_or r (Sector n) other = of_slot r n other (slot_of r.mapping n) refl
follows_or r (Translation t) other = inr (λ f. (let s = f.of_sector in let never : ⊥ = cc in never))
follows_or r (Table u) other = inr (λ f. (let s = f.of_sector in let never : ⊥ = cc in never))

-- ---- a renewal in each of two such images

module _ (row : ℕ) (r r' : Ram) (x x' : Image) (two : version_for r.geometry ≡ 2) (sized : r'.geometry ≡ r.geometry) (keys : keys_of r'.mapping.cached ≡ keys_of r.mapping.cached) (o : AreAsOld x x') where
  both_renewed : (q q' : Ram) (y y' : Image) → IsRenewedPage row r x q y → IsRenewedPage row r' x' q' y' → (key : Key) (at_row : ℕ) → HasOldAt y key at_row → HasOldAt y' key at_row
  both_renewed q q' y y' its theirs key at_row at = elim (cases_key key its.key) [
    | inl same ↦ absurd (not_old y its.key at_row (its.renewed two) (subst (λ k. HasOldAt y k at_row) same at))
    | inr apart ↦ elim (follows_or r its.key key) [
      | inl follows ↦ absurd (not_old y key at_row (its.followed two key follows) at)
      | inr far ↦ old_kept x' y' key at_row (theirs.others key (λ e. apart (e ∙ sym same_key)) (λ f. far (behind f))) (o.there key at_row (its.same.leaves.versions two key at_row at))
    ]
  ]
    where
      same_key : its.key ≡ theirs.key
      same_key = one_key x' row its.key theirs.key (o.there its.key row its.due) theirs.due

      behind : FollowsCopy r' theirs.key key → FollowsCopy r its.key key
      behind f = subst (λ k. FollowsCopy r k key) (sym same_key) (follows_by r r' theirs.key key sized keys f)

  old_after : (q q' : Ram) (y y' : Image) (renewed renewed' : Bool) → IsRenewedAt row r x q y renewed → IsRenewedAt row r' x' q' y' renewed' → (key : Key) (at_row : ℕ) → HasOldAt y key at_row → HasOldAt y' key at_row
  old_after q q' y y' true true its theirs key at_row at = both_renewed q q' y y' its theirs key at_row at
  old_after q q' y y' true false its theirs key at_row at = absurd (theirs.0 its.key its.no_table (o.there its.key row its.due))
  old_after q q' y y' false true its theirs key at_row at = absurd (its.0 theirs.key theirs.no_table (o.back theirs.key row theirs.due))
  old_after q q' y y' false false its theirs key at_row at =
      let was : HasOldAt x key at_row = subst (λ i. HasOldAt i key at_row) its.2 at in
      subst (λ i. HasOldAt i key at_row) (sym theirs.2) (o.there key at_row was)

-- no page of version 1 is added, and none that has to be renewed is in the row
none_added : (row : ℕ) (r q : Ram) (x y : Image) (renewed : Bool) → version_for r.geometry ≡ 2 → IsRenewedAt row r x q y renewed → (key : Key) (at_row : ℕ) → HasOldAt y key at_row → HasOldAt x key at_row
none_added row r q x y true two its key at_row at = its.same.leaves.versions two key at_row at
none_added row r q x y false two its key at_row at = subst (λ i. HasOldAt i key at_row) its.2 at

none_in_row : (row : ℕ) (r q : Ram) (x y : Image) (renewed : Bool) → version_for r.geometry ≡ 2 → IsRenewedAt row r x q y renewed → HasNoneDue row y
none_in_row row r q x y true two its = its.none two
none_in_row row r q x y false two its = subst (HasNoneDue row) (sym its.2) its.0

-- ---- one call

-- devices whose images have the same pages of version 1, that look on from the same row and have the same sectors cached
record IsAlike {N : Type 0} (flash : N → Flash) (a b : Device N) : Type 0 where
  old : AreAsOld (image_in flash a.engine) (image_in flash b.engine)
  cursor : b.cursor ≡ a.cursor
  geometry : b.engine.geometry ≡ a.engine.geometry
  keys : keys_of b.engine.mapping.cached ≡ keys_of a.engine.mapping.cached

module _ {N : Type 0} (view : View N) where
  abbrev image_of : Device N → Image
  image_of d = image_in view.flash d.engine

  sized_one : (a b : Device N) → BringsOne view a b → b.engine.geometry ≡ a.engine.geometry
  sized_one a b one = one.brings.goes.geometry ∙ one.brings.room.made.goes.geometry

  keys_one : (a b : Device N) → BringsOne view a b → keys_of b.engine.mapping.cached ≡ keys_of a.engine.mapping.cached
  keys_one a b one = one.brings.keys.keys ∙ one.brings.room.made.keys.keys

  two_there : (a b : Device N) → version_for a.engine.geometry ≡ 2 → (one : BringsOne view a b) → version_for one.brings.mid.geometry ≡ 2
  two_there a b two one = ap version_for one.brings.room.made.goes.geometry ∙ two

  adds_one : (a b : Device N) → version_for a.engine.geometry ≡ 2 → BringsOne view a b → (key : Key) (row : ℕ) → HasOldAt (image_of b) key row → HasOldAt (image_of a) key row
  adds_one a b two one key row at =
      one.brings.room.rearranged.versions two key row (none_added one.row (ram one.brings.mid) (ram b.engine) (image_in view.flash one.brings.mid) (image_of b) one.brings.renewed (two_there a b two one) one.brings.renews key row at)

  -- once there is room they are alike in this, too
  mids_there : (stays : Key → ℕ → Bool) (a b a' b' : Device N) → version_for a.engine.geometry ≡ 2 → IsAlike view.flash a a' → (x : BringsBy view stays a b) → (y : BringsBy view stays a' b')
      → (key : Key) (row : ℕ) → HasOldAt (image_in view.flash x.one.brings.mid) key row → HasOldAt (image_in view.flash y.one.brings.mid) key row
  mids_there stays a b a' b' two alike x y key row at = y.kept key row (alike.old.there key row (x.one.brings.room.rearranged.versions two key row at)) (x.stood key row at)

  turned_round : (a b : Device N) → IsAlike view.flash a b → IsAlike view.flash b a
  turned_round a b k = record { old = turned (image_of a) (image_of b) k.old; cursor = sym k.cursor; geometry = sym k.geometry; keys = sym k.keys }

  alike_after : (stays : Key → ℕ → Bool) (a b a' b' : Device N) → version_for a.engine.geometry ≡ 2 → IsAlike view.flash a a' → BringsBy view stays a b → BringsBy view stays a' b' → IsAlike view.flash b b'
  alike_after stays a b a' b' two alike x y = record {
    old = record {
      there = old_after row (ram mid) (ram mid') (image_in view.flash mid) (image_in view.flash mid') (two_there a b two x.one) sized keys mids (ram b.engine) (ram b'.engine) (image_of b) (image_of b') x.one.brings.renewed y.one.brings.renewed x.one.brings.renews theirs;
      back = old_after row (ram mid') (ram mid) (image_in view.flash mid') (image_in view.flash mid) (two_there a' b' two' y.one) (sym sized) (sym keys)
          (turned (image_in view.flash mid) (image_in view.flash mid') mids) (ram b'.engine) (ram b.engine) (image_of b') (image_of b) y.one.brings.renewed
          x.one.brings.renewed theirs x.one.brings.renews;
    };
    cursor = y.one.cursor_is ∙ (ap (λ k. k + 1) rows ∙ sym x.one.cursor_is);
    geometry = sized_one a' b' y.one ∙ (alike.geometry ∙ sym (sized_one a b x.one));
    keys = keys_one a' b' y.one ∙ (alike.keys ∙ sym (keys_one a b x.one));
  }
    where
      mid : Engine N
      mid = x.one.brings.mid

      mid' : Engine N
      mid' = y.one.brings.mid

      row : ℕ
      row = x.one.row

      two' : version_for a'.engine.geometry ≡ 2
      two' = ap version_for alike.geometry ∙ two

      mids : AreAsOld (image_in view.flash mid) (image_in view.flash mid')
      mids = record { there = mids_there stays a b a' b' two alike x y; back = mids_there stays a' b' a b two' (turned_round a a' alike) y x }

      sized : (ram mid').geometry ≡ (ram mid).geometry
      sized = y.one.brings.room.made.goes.geometry ∙ (alike.geometry ∙ sym x.one.brings.room.made.goes.geometry)

      keys : keys_of (ram mid').mapping.cached ≡ keys_of (ram mid).mapping.cached
      keys = y.one.brings.room.made.keys.keys ∙ (alike.keys ∙ sym x.one.brings.room.made.keys.keys)

      rows : y.one.row ≡ row
      rows =
          let found : FindsFrom a'.cursor (image_of a') (Some row) = subst (λ k. FindsFrom k (image_of a') (Some row)) (sym alike.cursor) (found_there (image_of a) (image_of a') a.cursor row alike.old x.one.found) in
          let same : Some y.one.row ≡ Some row = one_found a'.cursor (image_of a') (Some y.one.row) (Some row) y.one.found found in
          cc

      theirs : IsRenewedAt row (ram mid') (image_in view.flash mid') (ram b'.engine) (image_of b') y.one.brings.renewed
      theirs = subst (λ k. IsRenewedAt k (ram mid') (image_in view.flash mid') (ram b'.engine) (image_of b') y.one.brings.renewed) rows y.one.brings.renews

  -- a call leaves one page of version 1 less
  record HasGone (a b : Device N) : Type 0 where
    key : Key
    row : ℕ
    was : HasOldAt (image_of a) key row
    gone : ¬ HasOldAt (image_of b) key row

  gone_one : (a b : Device N) → version_for a.engine.geometry ≡ 2 → BringsOne view a b → HasGone a b
  gone_one a b two one =
      let due : HasDue one.row (image_of a) = due_from a.cursor one.row (image_of a) one.found in
      record {
        key = due.key;
        row = one.row;
        was = due.old;
        gone = none_in_row one.row (ram one.brings.mid) (ram b.engine) (image_in view.flash one.brings.mid) (image_of b) one.brings.renewed (two_there a b two one) one.brings.renews due.key due.no_table;
      }

  -- ---- many calls

  module _ (stays : ℕ → Key → ℕ → Bool) where
    abbrev Each : ℕ → Device N → Device N → Type 0
    Each count a b = BringsEachBy view stays count a b

    sized_each : (count : ℕ) (a b : Device N) → Each count a b → b.engine.geometry ≡ a.engine.geometry
    sized_each zero a b same = ap (λ (d : Device N). d.engine.geometry) same
    sized_each (suc count) a b each = sized_one each.0 b each.2.one ∙ sized_each count a each.0 each.1

    alike_same : (a b : Device N) → b ≡ a → IsAlike view.flash a b
    alike_same a b same = record {
      old = record {
        there = λ key row at. subst (λ (d : Device N). HasOldAt (image_of d) key row) (sym same) at;
        back = λ key row at. subst (λ (d : Device N). HasOldAt (image_of d) key row) same at;
      };
      cursor = ap (λ (d : Device N). d.cursor) same;
      geometry = ap (λ (d : Device N). d.engine.geometry) same;
      keys = ap (λ (d : Device N). keys_of d.engine.mapping.cached) same;
    }

    -- as many calls of one device leave devices that are alike
    alike_each : (count : ℕ) (old a b : Device N) → version_for old.engine.geometry ≡ 2 → Each count old a → Each count old b → IsAlike view.flash a b
    alike_each zero old a b two x y = alike_same a b (y ∙ sym x)
    alike_each (suc count) old a b two x y =
        alike_after (stays count) x.0 a y.0 b (ap version_for (sized_each count old x.0 x.1) ∙ two) (alike_each count old x.0 y.0 two x.1 y.1) x.2 y.2

    -- after the first calls of many a page of version 1 stood that is gone in the end
    first_of_many : (count rest total : ℕ) (a b : Device N) → version_for a.engine.geometry ≡ 2 → total ≡ suc rest + count → Each total a b → (mid : Device N) × Each count a mid × HasGone mid b
    first_of_many count rest zero a b two is each = absurd (omega (arith, is))
    first_of_many count zero (suc total) a b two is each =
        let same : total ≡ count = omega (arith, is) in
        (each.0, subst (λ k. Each k a each.0) same each.1, gone_one each.0 b (ap version_for (sized_each total a each.0 each.1) ∙ two) each.2.one)
    first_of_many count (suc rest) (suc total) a b two is each =
        let s = first_of_many count rest total a each.0 two (omega (arith, is)) each.1 in
        let there = ap version_for (sized_each total a each.0 each.1) ∙ two in
        (s.0, s.1, record { key = s.2.key; row = s.2.row; was = s.2.was; gone = λ at. s.2.gone (adds_one each.0 b there each.2.one s.2.key s.2.row at) })

    not_fewer : (count total : ℕ) (old new new' : Device N) → count < total → version_for old.engine.geometry ≡ 2 → image_of new' ≡ image_of new → Each count old new → Each total old new' → ⊥
    not_fewer count total old new new' less two same each each' =
        let s = first_of_many count (total - (count + 1)) total old new' two (omega (arith, less)) each' in
        let alike = alike_each count old new s.0 two each s.1 in
        s.2.gone (subst (λ x. HasOldAt x s.2.key s.2.row) (sym same) (alike.old.back s.2.key s.2.row s.2.was))

  pub counted_by : CountedByLaw view
  counted_by stays count count' old new new' two same each each' = elim (cases_lt count count') [
    | inl less ↦ absurd (not_fewer stays count count' old new new' less two same each each')
    | inr ge ↦ elim (cases_lt count' count) [
      | inl less ↦ absurd (not_fewer stays count' count old new' new less two (sym same) each' each)
      | inr le ↦ omega (arith, ge, le)
    ]
  ]

  -- ---- one call with nine free blocks

  pub one_renewed : OneRenewedLaw view
  one_renewed old new one nine = by one.brings.renewed one.brings.cost (subst (λ (f : Flash). IsRenewedAt one.row (ram one.brings.mid) f.image (ram new.engine) (image_of new) one.brings.renewed) rests.1 one.brings.renews)
    where
      rests : (ram one.brings.mid ≡ ram old.engine) × (view.flash one.brings.mid.nand ≡ view.flash old.engine.nand)
      rests = one.brings.room.rests nine

      by : (renewed : Bool) → RescueCosts (ram one.brings.mid) (ram new.engine) (Ok renewed) → IsRenewedAt one.row (ram one.brings.mid) (image_of old) (ram new.engine) (image_of new) renewed
          → HasRescuedPage (ram old.engine) (ram new.engine) × IsRenewedPage one.row (ram old.engine) (image_of old) (ram new.engine) (image_of new)
      by true cost its = (subst (λ r. HasRescuedPage r (ram new.engine)) rests.0 cost, subst (λ r. IsRenewedPage one.row r (image_of old) (ram new.engine) (image_of new)) rests.0 its)
      by false cost its = absurd (let due = due_from old.cursor one.row (image_of old) one.found in its.0 due.key due.no_table due.old)

  pub room_log : RoomLogLaw view
  room_log old new room = (room.went.leads, room.went.next)

-- ---- what a call costs

abbrev good_in : Ram → ℕ
good_in r = (counts_of r.blocks).good

pub few_programs : FewProgramsLaw
few_programs old new brought nine = elim brought.on [
  | inl same ↦ (let next : new.next ≡ old.next = ap (λ (r : Ram). r.next) (same ∙ rests) in let good : good_in new ≡ good_in old = ap good_in (same ∙ rests) in omega (arith, next, good))
  | inr rescued ↦
      let its : HasRescuedPage old new = subst (λ r. HasRescuedPage r new) rests rescued in
      let spent : new.next + good_in new ≡ old.next + (its.data_pages + its.meta_pages) + good_in old = its.programmed.next in
      let few = its.few in
      omega (arith, spent, few)
]
  where
    rests : brought.mid ≡ old
    rests = brought.room.rests nine
