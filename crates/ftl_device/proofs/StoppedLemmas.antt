-- What stops inside a device's calls leave, and faults of the die that end them, one part of a call after another.
use Rattle.std.proofs.Common.{◌≡◌, ◌⊎◌, inl, inr, ◌+◌, ◌<◌, ◌≤◌, ◌∙◌, true, false, ℕ, List, [], length, Option, Some, None, IsSome, Result, Ok, Err, refl, ap, sym, subst, slice_get, arith}
use Rattle.std.specs.Prelude.{slice_set}
use Rattle.std.proofs.lemmas.List.FromFn.{length-map-range_with_len}
use Rattle.page_layout.specs.View.{View}
use Rattle.page_layout.specs.declared.geometry.Geometry.{Geometry}
use Rattle.page_layout.specs.declared.record.Kind.{Kind}
use Rattle.page_layout.specs.Page.{Image, IsImage}
use Rattle.page_layout.specs.Array.{array_of, sector_of}
use Rattle.page_layout.specs.Flash.{Flash, Operation}
use Rattle.page_layout.specs.Recording.{Recording, Records, EndsAt}
use Rattle.page_layout.proofs.ArrayLemmas.{slice_get-set_same, slice_get-set_other}
use Rattle.mapping_cache.specs.Mapping.{HasLimitsOf}
use Rattle.promises.specs.Step.{ArrayState, Command, Read, Write, Flush, Turn, WriteStep, ArrayStep}
use Rattle.promises.specs.Stop.{CutShort, ErasesDead, LeavesOnly, MayLeave}
use Rattle.promises.proofs.StopLemmas.{leaves_nothing}
use Rattle.promises.proofs.CutLemmas.{cut_join, cut_more}
use Rattle.image_check.specs.Mountable.{IsMountable, IsOrderly}
use Rattle.image_check.proofs.MountableLemmas.{mountable}
use Rattle.collection.specs.declared.engine.Engine.{Engine}
use Rattle.collection.specs.State.{Ram}
use Rattle.collection.specs.Safe.{IsSafe, ram, image_in}
use Rattle.collection.specs.Truth.{IsTrue}
use Rattle.collection.specs.Results.{array_after}
use Rattle.collection.specs.Stops.{Cuts, CutsSafely, IsKeptByStop, IsLeftByStop, IsPutByStop, StopsSafely, room_of}
use Rattle.collection.proofs.Cuts.{cut_after, cut_read, kept_of_left}
use Rattle.collection.proofs.Stops.{IsSized, array_sized, leaves_more, one_gain, orderly_sized, same_left, stops_then}
use Rattle.ftl_device.specs.declared.fault.DeviceFault.{DeviceFault}
use Rattle.ftl_device.specs.Calls.{Knows, KeepsArray, reply_of}
use Rattle.ftl_device.specs.Stopped.{changes_sector, HoldsEither, SurvivesStops, SurvivesCut, QuietStopLaw, RefusedStopLaw, MountsStopLaw, AnsweredStaysLaw, QuietCutLaw, OtherSectorCutLaw}
use Rattle.ftl_device.proofs.MountableLemmas.{some_room}

-- the part before keeps the array, and what is known of the image is so after it
abbrev pub KeepsOn : {N : Type 0} → View N → Engine N → Engine N → Type 0
KeepsOn view old mid = view.honest old.nand ≡ true → Knows (ram old) (image_in view.flash old) → KeepsArray old.geometry (image_in view.flash old) (ram mid) (image_in view.flash mid)

module _ {N : Type 0} (view : View N) where
  -- nothing was asked
  pub stops_same : (e : Engine N) → IsSafe view.flash e → IsTrue None (ram e) (image_in view.flash e) → StopsSafely view e e
  stops_same e safe truth = leaves_nothing (view.flash e.nand) (view.recorded e.nand) _ (same_left (ram e) (image_in view.flash e) (image_in view.flash e) safe.memory truth)

  -- of the die nothing was asked after it
  pub stops_still : (old mid new : Engine N) → view.flash new.nand ≡ view.flash mid.nand → view.recorded new.nand ≡ view.recorded mid.nand → StopsSafely view old mid → StopsSafely view old new
  stops_still old mid new same still stops =
      let P : Flash → Option Recording → Type 0 = λ s t. LeavesOnly (view.flash old.nand) s (view.recorded old.nand) t (IsLeftByStop (ram old) (view.flash old.nand).image s.image) in
      subst (λ s. P s (view.recorded new.nand)) (sym same) (subst (λ t. P (view.flash mid.nand) t) (sym still) stops)

  -- one after another, of which the first keeps the array
  pub stops_on : (old mid new : Engine N) → mid.geometry ≡ old.geometry → HasLimitsOf old.mapping mid.mapping
      → array_of old.geometry (image_in view.flash mid) ≡ array_of old.geometry (image_in view.flash old) → StopsSafely view old mid
      → StopsSafely view mid new → StopsSafely view old new
  stops_on old mid new same limits kept first next = stops_then (ram old) (ram mid) (view.flash old.nand) (view.flash mid.nand) (view.flash new.nand) _ _ _ (record { geometry = same; capacity = limits.capacity; share = limits.share }) kept first next

  -- ---- the whole call: one record, and so one log

  module _ (old new : Engine N) (log : List Operation) (safe : IsSafe view.flash old) (records : Records (view.recorded old.nand) log (view.recorded new.nand)) (stops : StopsSafely view old new) where
    one_log : IsSome (view.recorded new.nand) → log ≡ stops.log
    one_log some = one_gain (view.recorded old.nand) (view.recorded new.nand) log stops.log some records stops.records

    -- no block is erased that holds a newest page
    pub dead_call : IsSome (view.recorded new.nand) → ErasesDead old.geometry.pages (image_in view.flash old) log
    dead_call some = subst (λ l. ErasesDead old.geometry.pages (image_in view.flash old) l) (sym (one_log some))
        (subst (λ (g : Geometry). ErasesDead g.pages (image_in view.flash old) stops.log) safe.geometry stops.dead)

  module _ (old new : Engine N) (command : Command) (result : Result (Unit {0}) DeviceFault) (log : List Operation) (safe : IsSafe view.flash old) (records : Records (view.recorded old.nand) log (view.recorded new.nand)) (stops : StopsSafely view old new)
      (changes : (array_of old.geometry (image_in view.flash new) ≡ array_of old.geometry (image_in view.flash old)) ⊎ ((changes_sector command ≡ true) × (result ≡ Ok tt))) where
    left_by : (left : Image) → IsSome (view.recorded new.nand) → MayLeave old.geometry (image_in view.flash old) log left → IsLeftByStop (ram old) (image_in view.flash old) (image_in view.flash new) left
    left_by left some may =
        let one : log ≡ stops.log = one_log old new log safe records stops some in
        stops.left left (subst (λ (g : Geometry). MayLeave g (image_in view.flash old) stops.log left) (sym safe.geometry) (subst (λ l. MayLeave old.geometry (image_in view.flash old) l left) one may))

    either : (left : Image) → (array_of old.geometry left ≡ array_of old.geometry (image_in view.flash old)) ⊎ (array_of old.geometry left ≡ array_of old.geometry (image_in view.flash new)) → HoldsEither old.geometry command result (image_in view.flash old) (image_in view.flash new) left
    either left (inl was) = inl was
    either left (inr is) = elim changes [
      | inl kept ↦ inl (is ∙ kept)
      | inr done ↦ inr (done.0, done.1, is)
    ]

    pub stopped_call : SurvivesStops old.geometry (room_of (ram old)) command result (image_in view.flash old) (image_in view.flash new) (view.recorded new.nand) log
    stopped_call some left may =
        let l = left_by left some may in
        record {
          array = either left l.array;
          mountable = λ most. (mountable old.geometry (room_of (ram old)) left may.whole.rows (some_room (ram old) safe.memory) most).1 l.orderly;
        }

-- ---- a fault of the die ended the call

put_kept : (kind : Kind) (n : ℕ) (body : List ℕ) (r : Ram) (before left : Image) → IsKeptByStop r before left → IsPutByStop kind n body r before left
put_kept kind n body r before left k = record { array = inl k.array; orderly = k.orderly }

-- after a part that keeps the array, by a memory of the same size
put_later : (kind : Kind) (n : ℕ) (body : List ℕ) (a b : Ram) (before mid left : Image) → IsSized a b → array_of a.geometry mid ≡ array_of a.geometry before → IsPutByStop kind n body b mid left → IsPutByStop kind n body a before left
put_later kind n body a b before mid left sized kept p = record {
  array = elim p.array [
    | inl was ↦ inl (array_sized a b left mid sized was ∙ kept)
    | inr is ↦ inr (subst (λ g. array_of g left ≡ array_after g kind n body (array_of g mid)) sized.geometry is ∙ ap (array_after a.geometry kind n body) kept)
  ];
  orderly = orderly_sized a b left sized p.orderly;
}

-- what is so of all images of the die that may be left is of what is more
cut_whole : (g : Geometry) (die : Flash) (told told' : Option Recording) (P Q : Image → Type 0) → die.geometry ≡ g → ((image : Image) → IsImage g image → P image → Q image) → CutShort die told told' P → CutShort die told told' Q
cut_whole g die told told' P Q same more c = record {
  log = c.log;
  at_hand = c.at_hand;
  mid = c.mid;
  leads = c.leads;
  one = c.one;
  ends = c.ends;
  left = λ image may. more image (subst (λ h. IsImage h image) same may.whole) (c.left image may);
  dead = c.dead;
}

module _ {N : Type 0} (view : View N) where
  -- a look that the die ended
  pub cuts_looked : (e new : Engine N) → IsSafe view.flash e → IsTrue None (ram e) (image_in view.flash e) → EndsAt [] (view.recorded e.nand) (view.recorded new.nand) → CutsSafely view e new
  cuts_looked e new safe truth ends = cut_read (ram e) (view.flash e.nand) (view.recorded e.nand) (view.recorded new.nand) safe.memory truth ends

  -- one part after another, of which the first keeps the array and a fault ends the second
  module _ (old mid new : Engine N) (same : mid.geometry ≡ old.geometry) (limits : HasLimitsOf old.mapping mid.mapping) (kept : array_of old.geometry (image_in view.flash mid) ≡ array_of old.geometry (image_in view.flash old)) (first : StopsSafely view old mid) where
    pub cuts_on : CutsSafely view mid new → CutsSafely view old new
    cuts_on next = cut_after (ram old) (ram mid) (view.flash old.nand) (view.flash mid.nand) (view.recorded old.nand) (view.recorded mid.nand) (view.recorded new.nand) (record { geometry = same; capacity = limits.capacity; share = limits.share }) kept first next

    -- which puts a page
    pub puts_on : (kind : Kind) (n : ℕ) (body : List ℕ) → Cuts view (IsPutByStop kind n body (ram mid) (image_in view.flash mid)) mid new → Cuts view (IsPutByStop kind n body (ram old) (image_in view.flash old)) old new
    puts_on kind n body next =
        let Left : Image → Type 0 = IsLeftByStop (ram old) (image_in view.flash old) (image_in view.flash mid) in
        let Put : Image → Type 0 = IsPutByStop kind n body (ram old) (image_in view.flash old) in
        cut_join (view.flash old.nand) (view.flash mid.nand) (view.recorded old.nand) (view.recorded mid.nand) (view.recorded new.nand) Put
        (leaves_more (view.flash old.nand) (view.flash mid.nand) (view.recorded old.nand) (view.recorded mid.nand) Left Put
        (λ left l. put_kept kind n body (ram old) (image_in view.flash old) left (kept_of_left (ram old) (image_in view.flash old) (image_in view.flash mid) left kept l)) first)
        (cut_more (view.flash mid.nand) (view.recorded mid.nand) (view.recorded new.nand) (IsPutByStop kind n body (ram mid) (image_in view.flash mid)) Put
        (λ left p. put_later kind n body (ram old) (ram mid) (image_in view.flash old) (image_in view.flash mid) left (record { geometry = same; capacity = limits.capacity; share = limits.share }) kept p) next)

  -- a call that keeps the array is one that may put a page
  pub puts_none : (kind : Kind) (n : ℕ) (body : List ℕ) (old new : Engine N) → CutsSafely view old new → Cuts view (IsPutByStop kind n body (ram old) (image_in view.flash old)) old new
  puts_none kind n body old new cut = cut_more (view.flash old.nand) (view.recorded old.nand) (view.recorded new.nand) (IsKeptByStop (ram old) (image_in view.flash old)) (IsPutByStop kind n body (ram old) (image_in view.flash old))
      (λ left k. put_kept kind n body (ram old) (image_in view.flash old) left k) cut

  -- ---- the whole call

  module _ (old new : Engine N) (command : Command) (safe : IsSafe view.flash old) where
    mounts_cut : (left : Image) → IsImage old.geometry left → IsOrderly old.geometry (room_of (ram old)) left → room_of (ram old) ≤ 65536 → IsMountable old.geometry (room_of (ram old)) left
    mounts_cut left whole o most = (mountable old.geometry (room_of (ram old)) left whole.rows (some_room (ram old) safe.memory) most).1 o

    -- one that changes no sector
    pub cut_kept : CutsSafely view old new → CutShort (view.flash old.nand) (view.recorded old.nand) (view.recorded new.nand) (SurvivesCut old.geometry (room_of (ram old)) command (image_in view.flash old))
    cut_kept cut = cut_whole old.geometry (view.flash old.nand) (view.recorded old.nand) (view.recorded new.nand)
        (IsKeptByStop (ram old) (image_in view.flash old)) (SurvivesCut old.geometry (room_of (ram old)) command (image_in view.flash old)) safe.geometry
        (λ left whole k. record { array = inl k.array; mountable = mounts_cut left whole k.orderly }) cut

    -- one that puts a page of a sector, which gives it these bytes
    pub cut_put : (kind : Kind) (n : ℕ) (body bytes : List ℕ) → changes_sector command ≡ true → n < old.geometry.sectors → ((xs : List (List ℕ)) → array_after old.geometry kind n body xs ≡ slice_set xs n bytes)
        → ((s : ArrayState) → WriteStep old.geometry (record { array = array_of old.geometry (image_in view.flash old); ro = false }) n bytes (reply_of (Ok tt)) s → ArrayStep old.geometry (record { array = array_of old.geometry (image_in view.flash old); ro = false }) command (reply_of (Ok tt)) s)
        → Cuts view (IsPutByStop kind n body (ram old) (image_in view.flash old)) old new → CutShort (view.flash old.nand) (view.recorded old.nand) (view.recorded new.nand) (SurvivesCut old.geometry (room_of (ram old)) command (image_in view.flash old))
    cut_put kind n body bytes its within gives takes cut = cut_whole old.geometry (view.flash old.nand) (view.recorded old.nand) (view.recorded new.nand)
        (IsPutByStop kind n body (ram old) (image_in view.flash old)) (SurvivesCut old.geometry (room_of (ram old)) command (image_in view.flash old)) safe.geometry
        (λ left whole p. record {
          array = elim p.array [
            | inl was ↦ inl was
            | inr is ↦ inr (its, takes (record { array = array_of old.geometry left; ro = false }) (record { within = within; writable = refl; array_is = is ∙ gives (array_of old.geometry (image_in view.flash old)) }))
          ];
          mountable = mounts_cut left whole p.orderly;
        }) cut

-- nothing was asked, and the image is as it was
pub stopped_none : (g : Geometry) (room : ℕ) (command : Command) (result : Result (Unit {0}) DeviceFault) (image after : Image)
    (told : Option Recording) → (room ≤ 65536 → IsMountable g room image)
    → SurvivesStops g room command result image after told []
stopped_none g room command result image after told mounts some left may = record {
  array = inl (ap (array_of g) may.by);
  mountable = λ most. subst (λ i. IsMountable g room i) (sym may.by) (mounts most);
}

-- ---- laws

either_kept : (g : Geometry) (command : Command) (result : Result (Unit {0}) DeviceFault) (before after left : Image) → (changes_sector command ≡ true → result ≡ Ok tt → ⊥) → HoldsEither g command result before after left → array_of g left ≡ array_of g before
either_kept g command result before after left never (inl was) = was
either_kept g command result before after left never (inr done) = absurd (never done.0 done.1)

pub quiet_stop : QuietStopLaw
quiet_stop g capacity sector result before after left = (
  λ s. either_kept g (Read sector) result before after left (λ its done. (let no : ⊥ = cc in no)) s.array,
  λ s. either_kept g Flush result before after left (λ its done. (let no : ⊥ = cc in no)) s.array,
  λ s. either_kept g Turn result before after left (λ its done. (let no : ⊥ = cc in no)) s.array,
)

pub refused_stop : RefusedStopLaw
refused_stop g capacity command fault before after left s = either_kept g command (Err fault) before after left (λ its done. (let no : ⊥ = cc in no)) s.array

pub mounts_stop : MountsStopLaw
mounts_stop g capacity command result before after left s most = s.mountable most

sectors_in : (g : Geometry) (image : Image) → length (array_of g image) ≡ g.sectors
unfolding array_of
sectors_in g image = length-map-range_with_len (sector_of g image) 0 g.sectors

pub answered_stays : AnsweredStaysLaw
answered_stays g capacity n m body other result old before after left ro mid on within ne step later s = by result later s.array ∙ here
  where
    here : slice_get (array_of g before) n ≡ Some body
    here =
        let size : length (array_of g old) ≡ g.sectors = sectors_in g old in
        ap (λ xs. slice_get xs n) step.array_is ∙ slice_get-set_same (array_of g old) n body (omega (arith, within, size))

    by : (r : Result (Unit {0}) DeviceFault) → ArrayStep g (record { array = array_of g before; ro = mid }) (Write m other) (reply_of r) (record { array = array_of g after; ro = on }) → HoldsEither g (Write m other) r before after left
        → slice_get (array_of g left) n ≡ slice_get (array_of g before) n
    by r h (inl was) = ap (λ xs. slice_get xs n) was
    by (Ok done) h (inr is) = ap (λ xs. slice_get xs n) (is.2 ∙ h.array_is) ∙ slice_get-set_other (array_of g before) m n other (λ e. ne (sym e))
    by (Err fault) h (inr is) = (let refused : Err fault ≡ Ok tt = is.1 in let no : ⊥ = cc in absurd no)

pub quiet_cut : QuietCutLaw
quiet_cut g capacity command before left quiet s = elim s.array [ inl was ↦ was | inr done ↦ (let its : changes_sector command ≡ true = done.0 in let no : ⊥ = cc in absurd no) ]

pub other_sector_cut : OtherSectorCutLaw
other_sector_cut g capacity n m body before left ne s = elim s.array [
  | inl was ↦ ap (λ xs. slice_get xs n) was
  | inr done ↦ ap (λ xs. slice_get xs n) done.1.array_is ∙ slice_get-set_other (array_of g before) m n body (λ e. ne (sym e))
]
