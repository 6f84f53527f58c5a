-- A page of version 1 is found and copied.
use Rattle.std.proofs.Common.{◌≡◌, inl, inr, ℕ, ◌+◌, ◌<◌, ◌≤◌, not, Bool, true, false, List, length, Result, Option, Some, None, is_some, refl, ap, sym, ◌∙◌, subst, arith}
use Rattle.std.specs.Prelude.{slice_get}
use Rattle.std.proofs.lemmas.Bool.{cases_eq, and_parts, and_from, eqb-true, not_from_false}
use Rattle.page_layout.specs.declared.record.Record.{Record}
use Rattle.page_layout.specs.declared.record.Key.{Key}
use Rattle.page_layout.specs.Page.{Page, Image}
use Rattle.page_layout.specs.Geometry.{row_count}
use Rattle.page_layout.specs.Sound.{version_of}
use Rattle.page_layout.specs.Key.{key_of}
use Rattle.page_layout.specs.Array.{marks}
use Rattle.page_layout.specs.Version.{is_1, is_old}
use Rattle.page_layout.proofs.NewestLemmas.{newest-record}
use Rattle.page_layout.proofs.VersionLemmas.{version_page, old_from}
use Rattle.page_layout.specs.View.{View}
use Rattle.collection.specs.declared.engine.Engine.{Engine}
use Rattle.collection.specs.declared.fault.EngineFault.{EngineFault}
use Rattle.collection.specs.State.{Ram}
use Rattle.collection.specs.Safe.{IsSafe, ram, image_in}
use Rattle.collection.specs.Acts.{EngineLooks}
use Rattle.collection.specs.Collect.{waiting}
use Rattle.collection.specs.Moves.{IsMovedPage, MovesPage, MovesOne, moved_answer}
use Rattle.collection.proofs.Acts.{ok_as}
use Rattle.collection.proofs.Moves.{moves_found}
use Rattle.collection.specs.Pages.{newest_row}
use Rattle.collection.specs.Truth.{IsTrue}
use Rattle.collection.specs.Live.{NotAt, IsLivePage}
use Rattle.collection.specs.Renew.{is_table_key, is_due_page, HasNoneDue, IsDuePage, LooksAtDue, IsNextDue, IsRenewedAt}
use Rattle.collection.proofs.Lowest.{same_here}
use Rattle.collection.proofs.Truths.{newest_in}

-- ---- the page of a row

-- a row has one record, and so its page is the newest of one key at most
one_key : (image : Image) (key : Key) (row : ℕ) (r : Record) (body : List ℕ) → IsLivePage row body r image → newest_row image key ≡ Some row → key_of r ≡ key
one_key image key row r body live is =
    let found = newest-record (marks image) key row is in
    let same : Some found.0 ≡ Some r = sym found.1 ∙ live.mark in
    let record_same : found.0 ≡ r = cc in
    ap key_of (sym record_same) ∙ found.2

is_1-true : (v : Option ℕ) → is_1 v ≡ true → v ≡ Some 1
is_1-true None e = absurd (cc)
is_1-true (Some v) e = ap Some (eqb-true v 1 e)

not_true : (b : Bool) → not b ≡ true → b ≡ false
not_true true e = absurd (cc)
not_true false e = refl

pub none_at : (image : Image) (row : ℕ) → NotAt row image → HasNoneDue row image
none_at image row gone key no_table at = gone key at.newest_is

pub due_page : (image : Image) (row : ℕ) (p : Page) (r : Record) (body : List ℕ) → slice_get image row ≡ Some p → IsLivePage row body r image → is_due_page r p ≡ true → IsDuePage row body r image
due_page image row p r body at live due =
    let parts = and_parts (not (is_table_key (key_of r))) (is_1 (version_of p)) due in
    record {
      live = live;
      no_table = not_true (is_table_key (key_of r)) parts.0;
      old = record { newest_is = live.newest; version = version_page image row p at ∙ is_1-true (version_of p) parts.1 };
    }

pub no_due_page : (image : Image) (row : ℕ) (p : Page) (r : Record) (body : List ℕ) → slice_get image row ≡ Some p → IsLivePage row body r image → is_due_page r p ≡ false → HasNoneDue row image
no_due_page image row p r body at live no_due key no_table old =
    let same : key_of r ≡ key = one_key image key row r body live old.newest_is in
    let none : not (is_table_key (key_of r)) ≡ true = not_from_false (is_table_key (key_of r)) (ap is_table_key same ∙ no_table) in
    let version : is_1 (version_of p) ≡ true = ap is_1 (sym (version_page image row p at) ∙ old.version) in
    let due : is_due_page r p ≡ true = and_from (not (is_table_key (key_of r))) (is_1 (version_of p)) none version in
    let never : true ≡ false = sym due ∙ no_due in
    cc

-- ---- the next row

pub none_before : (from : ℕ) (image : Image) (q : ℕ) → from ≤ q → q < from → HasNoneDue q image
none_before from image q ge lt = absurd (omega arith)

pub none_more : (from row : ℕ) (image : Image) → ((q : ℕ) → from ≤ q → q < row → HasNoneDue q image) → HasNoneDue row image → (q : ℕ) → from ≤ q → q < row + 1 → HasNoneDue q image
none_more from row image below here q ge lt = elim (cases_eq q row) [
  | inl same ↦ subst (λ k. HasNoneDue k image) (sym same) here
  | inr ne ↦ below q ge (omega arith)
]

-- a look at the row found none
pub none_looked : (from row : ℕ) (x x1 : Image) (body : List ℕ) (due : Option Record) → x1 ≡ x → ((q : ℕ) → from ≤ q → q < row → HasNoneDue q x)
    → LooksAtDue row body x1 due → is_some due ≡ false → (q : ℕ) → from ≤ q → q < row + 1 → HasNoneDue q x
none_looked from row x x1 body None still below looks none = none_more from row x below (subst (HasNoneDue row) still looks)
none_looked from row x x1 body (Some r) still below looks none = (let never : ⊥ = cc in absurd never)

-- no row is past the last one
pub none_past : (r : Ram) (from end : ℕ) (image : Image) → IsTrue None r image → row_count r.geometry ≤ end → ((q : ℕ) → from ≤ q → q < end → HasNoneDue q image) → (q : ℕ) → from ≤ q → HasNoneDue q image
none_past r from end image w all below q ge key no_table old =
    let within : q < row_count r.geometry = newest_in r.geometry image key q w.whole.rows old.newest_is in
    below q ge (omega arith) key no_table old

pub next_due : (from row : ℕ) (image : Image) (body : List ℕ) (r : Record) → from ≤ row → ((q : ℕ) → from ≤ q → q < row → HasNoneDue q image) → IsDuePage row body r image → IsNextDue from row image
next_due from row image body r ge below due = record {
  after = ge;
  due = record { key = key_of r; no_table = due.no_table; old = due.old };
  first = below;
}

-- ---- the copy

module _ (a : Ram) (x : Image) (row : ℕ) (found : Record) (body : List ℕ) (due : Option Record) (finds : LooksAtDue row body x due) (is : due ≡ Some found) where
  page_found : IsDuePage row body found x
  page_found = (let P : Option Record → Type 0 = λ o. LooksAtDue row body x o in subst P is finds)

  -- it is live
  pub due_live : IsLivePage row body found x
  due_live = page_found.live

  pub renewed_at : (d : Ram) (z : Image) → IsMovedPage (key_of found) row a x d z → IsRenewedAt row a x d z true
  renewed_at d z m = record {
    key = key_of found;
    no_table = page_found.no_table;
    due = page_found.old;
    same = m.same;
    renewed = m.renewed;
    followed = m.followed;
    others = m.others;
    none = λ two key no_table old.
        let of_key : key_of found ≡ key = one_key x key row found body due_live (m.same.leaves.versions two key row old).newest_is in
        let is_so : is_old z key ≡ true = old_from z key (row, old) in
        let is_not : is_old z key ≡ false = ap (is_old z) (sym of_key) ∙ m.renewed two in
        let never : true ≡ false = sym is_so ∙ is_not in
        cc;
  }

-- what is told of the page that was found, whatever became of it
pub renewal_found : {N : Type 0} {view : View N} (a b d : Engine N) (row : ℕ) (found : Record) (due : Option Record) (result : Result (Unit {0}) EngineFault) → IsSafe view.flash a
    → length a.mapping.moved < waiting (ram a) + a.geometry.pages → EngineLooks view a b (ok_as due)
    → (view.honest a.nand ≡ true → IsTrue None (ram a) (image_in view.flash a) → LooksAtDue row b.page.body.items (image_in view.flash a) due)
    → due ≡ Some found → MovesPage view found row b d result → MovesOne view (IsRenewedAt row) a d (moved_answer result)
renewal_found a b d row found due result safe room p finds is m = moves_found (IsRenewedAt row) a b safe room due found row d result p
    (λ honest w. due_live (ram a) _ row found _ due (finds honest w) is)
    (λ honest w. renewed_at (ram a) _ row found _ due (finds honest w) is (ram d) _)
    m

pub none_renewed : (a b : Ram) (x x1 : Image) (row : ℕ) (body : List ℕ) (due : Option Record) → b ≡ a → x1 ≡ x → IsTrue None a x → LooksAtDue row body x due → due ≡ None → IsRenewedAt row a x b x1 false
none_renewed a b x x1 row body due same still w finds is =
    let none : HasNoneDue row x = (let P : Option Record → Type 0 = λ o. LooksAtDue row body x o in subst P is finds) in
    let r : IsRenewedAt row a x a x false = (none, same_here a x w, refl) in
    rw (same, still) r
