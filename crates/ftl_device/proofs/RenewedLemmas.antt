-- Pages of version 1 over many calls: they only fall.
use Rattle.std.proofs.Common.{◌≡◌, ◌≢◌, ◌↔◌, inl, inr, ℕ, zero, suc, ◌+◌, ◌<◌, ◌≤◌, Bool, true, false, Some, List, [], ◌∷◌, Result, Ok, Err, refl, sym, ◌∙◌, ap, subst, arith}
use Rattle.std.specs.Prelude.{count_by, OnOk}
use Rattle.std.proofs.lemmas.Bool.{cases_Bool}
use Rattle.std.proofs.Math.Nat.{eq-or-lt_of_le}
use Rattle.page_layout.specs.View.{View}
use Rattle.page_layout.specs.declared.geometry.Geometry.{Geometry}
use Rattle.page_layout.specs.declared.record.Key.{Key}
use Rattle.page_layout.specs.declared.record.Key.TheVariants.{Sector, Translation, Table}
use Rattle.page_layout.specs.Page.{Image}
use Rattle.page_layout.specs.Geometry.{table_pages}
use Rattle.page_layout.specs.Sound.{version_for}
use Rattle.page_layout.specs.Key.{key_eq}
use Rattle.page_layout.specs.Newest.{newest}
use Rattle.page_layout.specs.Live.{IsKeyOf, keys}
use Rattle.page_layout.specs.Array.{marks, HasOneArray}
use Rattle.page_layout.specs.Version.{is_old, old_pages, AddsNoOld}
use Rattle.page_layout.proofs.CountLemmas.{bit, count_by-cons}
use Rattle.page_layout.proofs.KeyLemmas.{cases_key, key_eq-other}
use Rattle.page_layout.proofs.LiveLemmas.{key_once}
use Rattle.page_layout.proofs.NewestLemmas.{newest-record}
use Rattle.page_layout.proofs.VersionLemmas.{old_at, old_before}
use Rattle.promises.specs.Step.{Flush}
use Rattle.collection.specs.Safe.{image_in}
use Rattle.ftl_device.specs.declared.device.Device.{Device}
use Rattle.ftl_device.specs.declared.fault.DeviceFault.{DeviceFault}
use Rattle.ftl_device.specs.declared.fault.DeviceFault.TheVariants.{BusFault}
use Rattle.ftl_device.specs.Calls.{IsWell}
use Rattle.ftl_device.specs.Flush.{HasNewTables}
use Rattle.ftl_device.specs.Changes.{Upkeeps}
use Rattle.ftl_device.specs.Renewed.{HasOldTablesOnly, HasNoneOld, Finishes}

-- no old page is added by the one, nor by the other
pub adds_then : (g h : Geometry) (x y z : Image) → h ≡ g → AddsNoOld g x y → AddsNoOld h y z → AddsNoOld g x z
adds_then g h x y z same first then two key row at = first two key row (then (ap version_for same ∙ two) key row at)

-- a key that is not old stays so where no old page is added
pub still_new : (g : Geometry) (x y : Image) (key : Key) → version_for g ≡ 2 → AddsNoOld g x y → is_old x key ≡ false → is_old y key ≡ false
still_new g x y key two adds new = elim (cases_Bool (is_old y key)) [
  | inl old ↦ absurd (let was : is_old x key ≡ true = old_before g x y two adds key old in let no : ⊥ = cc in no)
  | inr not ↦ not
]

-- only keys of the die have newest pages
pub key_within : (g : Geometry) (image : Image) (key : Key) (row : ℕ) → HasOneArray g image → newest (marks image) key ≡ Some row → IsKeyOf g key
key_within g image key row one is =
    let found = newest-record (marks image) key row is in
    subst (IsKeyOf g) found.2 (one.in_range row found.0 found.1)

-- ---- after a flush

-- no table page is old, whatever its number
pub tables_new : (g : Geometry) (image : Image) → HasOneArray g image → HasNewTables (table_pages g) g image → version_for g ≡ 2 → (u : ℕ) → is_old image (Table u) ≡ false
tables_new g image one new two u = elim (cases_Bool (is_old image (Table u))) [
  | inl old ↦ absurd (
      let at = old_at image (Table u) old in
      let is : is_old image (Table u) ≡ false = new two u (key_within g image (Table u) at.0 one at.1.newest_is) in
      let no : ⊥ = cc in no)
  | inr not ↦ not
]

pub finishes : (g : Geometry) (x y : Image) → AddsNoOld g x y → (version_for g ≡ 2 → (u : ℕ) → is_old y (Table u) ≡ false) → Finishes g x y
finishes g x y adds tables two only (Sector n) = still_new g x y (Sector n) two adds (only (Sector n) refl)
finishes g x y adds tables two only (Translation t) = still_new g x y (Translation t) two adds (only (Translation t) refl)
finishes g x y adds tables two only (Table u) = tables two u

not_bus : (result : Result (Unit {0}) DeviceFault) → result ≡ Ok tt → result ≢ Err BusFault
not_bus result done e = (let no : ⊥ = cc in no)

pub flush_finishes : {N : Type 0} (view : View N) (old new : Device N)
    (result : Result (Unit {0}) DeviceFault) → Upkeeps view Flush old result new → view.honest old.engine.nand ≡ true
    → IsWell view.flash old
    → OnOk result (Finishes old.engine.geometry (image_in view.flash old.engine) (image_in view.flash new.engine))
flush_finishes view old new (Ok done) k is_honest well =
    let some = not_bus (Ok done) refl in
    finishes old.engine.geometry (image_in view.flash old.engine) (image_in view.flash new.engine) (k.means is_honest well some).versions ((k.logs is_honest some).flushed well refl refl).renewed
flush_finishes view old new (Err fault) k is_honest well = tt

-- ---- how many are old

none_counted : (p : Key → Bool) (xs : List Key) → ((key : Key) → p key ≡ false) → count_by p xs ≡ 0
none_counted p [] none = refl
none_counted p (x ∷ xs) none =
    let here : bit (p x) ≡ 0 = ap bit (none x) in
    omega (arith, count_by-cons p x xs, here, none_counted p xs none)

some_counted : (p : Key → Bool) (key : Key) (xs : List Key) → count_by p xs ≡ 0 → count_by (key_eq key) xs ≡ 1 → p key ≡ true → ⊥
some_counted p key [] none once its = omega (arith, once)
some_counted p key (x ∷ xs) none once its = elim (cases_key key x) [
  | inl same ↦
      let here : bit (p x) ≡ 1 = ap bit (ap p (sym same) ∙ its) in
      omega (arith, count_by-cons p x xs, here, none)
  | inr other ↦
      let here : bit (key_eq key x) ≡ 0 = ap bit (key_eq-other key x other) in
      let rest : count_by p xs ≡ 0 = omega (arith, count_by-cons p x xs, none) in
      some_counted p key xs rest (omega (arith, count_by-cons (key_eq key) x xs, here, once)) its
]

none_if_zero : (g : Geometry) (image : Image) → HasOneArray g image → old_pages g image ≡ 0 → HasNoneOld image
unfolding old_pages
none_if_zero g image one count key = elim (cases_Bool (is_old image key)) [
  | inl old ↦ absurd (
      let at = old_at image key old in
      some_counted (is_old image) key (keys g) count (key_once g key (key_within g image key at.0 one at.1.newest_is)) old)
  | inr not ↦ not
]

pub none_old_law : (g : Geometry) (image : Image) → HasOneArray g image → HasNoneOld image ↔ (old_pages g image ≡ 0)
unfolding old_pages
none_old_law g image one = ((λ none. none_counted (is_old image) (keys g) none), none_if_zero g image one)

-- ---- over many calls

pub stays_new : (g : Geometry) (x y : Image) → version_for g ≡ 2 → AddsNoOld g x y → (HasOldTablesOnly x → HasOldTablesOnly y) × (HasNoneOld x → HasNoneOld y)
stays_new g x y two adds = ((λ only key no_table. still_new g x y key two adds (only key no_table)), (λ none key. still_new g x y key two adds (none key)))

-- what is so of an image, and stays so with each call
module _ (P : Image → Type 0) (image_at : ℕ → Image) (from last : ℕ) (step : (k : ℕ) → from ≤ k → k < last → P (image_at k) → P (image_at (k + 1))) (first : P (image_at from)) where
  along : (k : ℕ) → from ≤ k → k ≤ last → P (image_at k)
  along zero ge le = (let same : from ≡ 0 = omega (arith, ge) in subst (λ j. P (image_at j)) same first)
  along (suc n) ge le = elim (eq-or-lt_of_le ge) [
    | inl same ↦ subst (λ j. P (image_at j)) same first
    | inr lt ↦
        let next : n + 1 ≡ suc n = omega arith in
        subst (λ j. P (image_at j)) next (step n (omega (arith, lt)) (omega (arith, le)) (along n (omega (arith, lt)) (omega (arith, le))))
  ]

pub brought_forward : (g : Geometry) (image_at : ℕ → Image) (migrated flush last : ℕ) → version_for g ≡ 2 → HasOldTablesOnly (image_at migrated) → migrated ≤ flush → flush < last
    → ((k : ℕ) → migrated ≤ k → k < last → AddsNoOld g (image_at k) (image_at (k + 1))) → Finishes g (image_at flush) (image_at (flush + 1)) → (k : ℕ) → flush < k → k ≤ last → HasNoneOld (image_at k)
brought_forward g image_at migrated flush last two only later within adds done k after le =
    let before : HasOldTablesOnly (image_at flush) = along HasOldTablesOnly image_at migrated last (λ j ge lt. (stays_new g (image_at j) (image_at (j + 1)) two (adds j ge lt)).0) only flush later (omega (arith, within)) in
    along HasNoneOld image_at (flush + 1) last (λ j ge lt. (stays_new g (image_at j) (image_at (j + 1)) two (adds j (omega (arith, ge, later)) lt)).1) (done two before) k (omega (arith, after)) le
