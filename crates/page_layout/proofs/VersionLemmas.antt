-- The versions of an image's newest pages.
use Rattle.std.proofs.Common.{◌≡◌, ℕ, ◌+◌, ◌<◌, ◌≤◌, Bool, true, false, List, [], ◌∷◌, Option, Some, None, refl, ap, sym, ◌∙◌, arith, inl, inr}
use Rattle.std.specs.Prelude.{count_by, slice_get}
use Rattle.std.proofs.lemmas.Bool.{eqb-true}
use Rattle.page_layout.specs.declared.record.Record.{Record}
use Rattle.page_layout.specs.declared.record.Key.{Key}
use Rattle.page_layout.specs.declared.geometry.Geometry.{Geometry}
use Rattle.page_layout.specs.Page.{Page, Image}
use Rattle.page_layout.specs.Sound.{version_of, version_for}
use Rattle.page_layout.specs.Key.{key_of, key_eq}
use Rattle.page_layout.specs.Newest.{newest}
use Rattle.page_layout.specs.Live.{IsKeyOf, keys}
use Rattle.page_layout.specs.Array.{marks}
use Rattle.page_layout.specs.Change.{Keeps, Writes}
use Rattle.page_layout.specs.Version.{version_in, version_at, is_1, is_old_at, is_old, old_pages, HasOldAt, AddsNoOld}
use Rattle.page_layout.proofs.CountLemmas.{bit, count_by-cons}
use Rattle.page_layout.proofs.KeyLemmas.{cases_key, key_eq-other}
use Rattle.page_layout.proofs.LiveLemmas.{key_once}

pub version_page : (image : Image) (row : ℕ) (p : Page) → slice_get image row ≡ Some p → version_at image row ≡ version_of p
unfolding version_at
version_page image row p is = ap version_in is

pub version_same : (a b : Image) (row : ℕ) → slice_get a row ≡ slice_get b row → version_at a row ≡ version_at b row
unfolding version_at
version_same a b row same = ap version_in same

-- ---- the newest page of a key

old_by : (image : Image) (key : Key) (row : ℕ) → newest (marks image) key ≡ Some row → is_old image key ≡ is_1 (version_at image row)
unfolding is_old
old_by image key row is = ap (is_old_at image) is

pub old_at : (image : Image) (key : Key) → is_old image key ≡ true → (row : ℕ) × HasOldAt image key row
unfolding is_old
old_at image key old = of_row (newest (marks image) key) refl old
  where
    of_version : (row : ℕ) → newest (marks image) key ≡ Some row → (v : Option ℕ) → version_at image row ≡ v → is_1 v ≡ true → (q : ℕ) × HasOldAt image key q
    of_version row is None e old = absurd (cc)
    of_version row is (Some v) e old = (row, record { newest_is = is; version = e ∙ ap Some (eqb-true v 1 old) })

    of_row : (o : Option ℕ) → newest (marks image) key ≡ o → is_old_at image o ≡ true → (q : ℕ) × HasOldAt image key q
    of_row None is old = absurd (cc)
    of_row (Some row) is old = of_version row is (version_at image row) refl old

pub old_from : (image : Image) (key : Key) → (row : ℕ) × HasOldAt image key row → is_old image key ≡ true
old_from image key at = old_by image key at.0 at.1.newest_is ∙ ap is_1 at.1.version

-- ---- old pages only fall

pub kept_adds_none : (g : Geometry) (old new : Image) → Keeps g old new → AddsNoOld g old new
kept_adds_none g old new keeps two key row at =
    let was : newest (marks old) key ≡ Some row = sym (keeps.newest_same key) ∙ at.newest_is in
    record { newest_is = was; version = sym (keeps.versions key row was) ∙ at.version }

-- the key of a page that was written is not old
pub written_not_old : (g : Geometry) (r : Record) (row : ℕ) (body : List ℕ) (old new : Image) → version_for g ≡ 2 → Writes g r row body old new → is_old new (key_of r) ≡ false
written_not_old g r row body old new two writes = old_by new (key_of r) row writes.newest_now ∙ ap is_1 (writes.version_here ∙ ap Some two)

pub written_adds_none : (g : Geometry) (r : Record) (row : ℕ) (body : List ℕ) (old new : Image) → Writes g r row body old new → AddsNoOld g old new
written_adds_none g r row body old new writes two key q at = elim (cases_key (key_of r) key) [
  | inl same ↦ absurd (
      let fresh : is_old new key ≡ false = ap (is_old new) (sym same) ∙ written_not_old g r row body old new two writes in
      let old : is_old new key ≡ true = old_from new key (q, at) in
      cc)
  | inr other ↦
      let was : newest (marks old) key ≡ Some q = sym (writes.newest_others key other) ∙ at.newest_is in
      record { newest_is = was; version = sym (writes.versions key q other was) ∙ at.version }
]

-- each old key was old before
pub old_before : (g : Geometry) (old new : Image) → version_for g ≡ 2 → AddsNoOld g old new → (key : Key) → is_old new key ≡ true → is_old old key ≡ true
old_before g old new two adds key is = (let at = old_at new key is in old_from old key (at.0, adds two key at.0 at.1))

-- ---- how many there are

bit_falls : (a b : Bool) → (b ≡ true → a ≡ true) → bit b ≤ bit a
bit_falls true true h = omega arith
bit_falls true false h = omega arith
bit_falls false false h = omega arith
bit_falls false true h = absurd (let never : false ≡ true = h refl in cc)

one_more : (p q : Key → Bool) (key : Key) (xs : List Key) → ((x : Key) → q x ≡ true → p x ≡ true) → p key ≡ true → q key ≡ false → count_by q xs + count_by (key_eq key) xs ≤ count_by p xs
one_more p q key [] adds was is = omega arith
one_more p q key (x ∷ xs) adds was is =
    let more = one_more p q key xs adds was is in
    rw (count_by-cons p x xs, count_by-cons q x xs, count_by-cons (key_eq key) x xs) (elim (cases_key key x) [
      | inl same ↦
          let px : bit (p x) ≡ 1 = ap bit (ap p (sym same) ∙ was) in
          let qx : bit (q x) ≡ 0 = ap bit (ap q (sym same) ∙ is) in
          omega (arith, more, px, qx, bit_most (key_eq key x))
      | inr other ↦
          let none : bit (key_eq key x) ≡ 0 = ap bit (key_eq-other key x other) in
          omega (arith, more, none, bit_falls (p x) (q x) (adds x))
    ])
  where
    bit_most : (b : Bool) → bit b ≤ 1
    bit_most true = omega arith
    bit_most false = omega arith

no_more : (p q : Key → Bool) (xs : List Key) → ((x : Key) → q x ≡ true → p x ≡ true) → count_by q xs ≤ count_by p xs
no_more p q [] adds = omega arith
no_more p q (x ∷ xs) adds =
    let more = no_more p q xs adds in
    rw (count_by-cons p x xs, count_by-cons q x xs) (omega (arith, more, bit_falls (p x) (q x) (adds x)))

pub no_more_old : (g : Geometry) (old new : Image) → version_for g ≡ 2 → AddsNoOld g old new → old_pages g new ≤ old_pages g old
unfolding old_pages
no_more_old g old new two adds = no_more (is_old old) (is_old new) (keys g) (old_before g old new two adds)

pub fewer_old : (g : Geometry) (old new : Image) (key : Key) → version_for g ≡ 2 → AddsNoOld g old new → IsKeyOf g key → is_old old key ≡ true → is_old new key ≡ false → old_pages g new < old_pages g old
unfolding old_pages
fewer_old g old new key two adds within was is =
    omega (arith, one_more (is_old old) (is_old new) key (keys g) (old_before g old new two adds) was is, key_once g key within)
