-- Where the newest page of a sector is.
use Rattle.std.proofs.Common.{true, false, is_some, ◌≡◌, ◌≢◌, ℕ, ◌+◌, ◌/◌, ◌%◌, ◌<◌, List, length, replicate, slice_get, Option, Some, None, Result}
use Rattle.std.proofs.Common.{Ok, Err, refl, ap, sym, ◌∙◌, subst, arith}
use Rattle.std.specs.Option.{ForSome}
use Rattle.std.specs.Prelude.{MatchResult, IfOk, OnErr}
use Rattle.page_layout.specs.declared.geometry.Geometry.{Geometry}
use Rattle.page_layout.specs.declared.record.Record.{Record}
use Rattle.page_layout.specs.declared.record.Key.{Key}
use Rattle.page_layout.specs.declared.record.Kind.{Kind}
use Rattle.page_layout.specs.declared.record.Kind.TheVariants as kind
use Rattle.page_layout.specs.declared.record.Key.TheVariants.{Sector, Translation}
use Rattle.page_layout.specs.Page.{Image, Page, body_at}
use Rattle.page_layout.specs.Geometry.{row_count, entries, translation_pages, table_pages}
use Rattle.page_layout.specs.Newest.{sequence_of}
use Rattle.page_layout.specs.Sound.{record_of}
use Rattle.page_layout.specs.Key.{key_of}
use Rattle.page_layout.specs.Array.{marks, zeros, content_of_kind, sector_of}
use Rattle.page_layout.proofs.NewestLemmas.{newest-record, sequence_of-key, sequence_of-is, IsOf}
use Rattle.page_layout.proofs.ArrayLemmas.{mark-page, body_page, sector_here, sector_none}
use Rattle.mapping_cache.specs.Mapping.{MappingState, known}
use Rattle.mapping_cache.proofs.CallerLemmas.{pending-unknown}
use Rattle.translation_pages.specs.TranslationPage.{entry_at}
use Rattle.translation_pages.specs.Entry.{entry_of}
use Rattle.collection.specs.Pages.{newest_row}
use Rattle.collection.specs.Maps.{Maps}
use Rattle.collection.specs.State.{Ram}
use Rattle.collection.specs.Looks.{IsPageOf, IsNotOf, IsRead, GivesRow, GivesNoRow, FindsRow, GivesSector}
use Rattle.collection.specs.declared.fault.EngineFault.{EngineFault}
use Rattle.collection.specs.declared.fault.EngineFault.TheVariants.{Bus, Damaged}
use Rattle.page_layout.proofs.GeometryLemmas.{sector_entry}
use Rattle.collection.proofs.MapLemmas.{entry_here, entry_none, none_not}
use Rattle.collection.proofs.Truths.{newest_in}

-- the page of a newest row is sound and of its key
newest_record : (image : Image) (key : Key) (row : ℕ) (p : Page) → newest_row image key ≡ Some row → slice_get image row ≡ Some p → (r : Record) × (record_of p ≡ Some r) × (key_of r ≡ key)
newest_record image key row p is at =
    let found = newest-record (marks image) key row is in
    (found.0, sym (mark-page image row p at) ∙ found.1, found.2)

pub not_unsound : (image : Image) (key : Key) (row : ℕ) (p : Page) → newest_row image key ≡ Some row → slice_get image row ≡ Some p → record_of p ≡ None → ⊥
not_unsound image key row p is at none = (let found = newest_record image key row p is at in let e : record_of p ≡ Some found.0 = found.1 in cc)

pub not_other : (image : Image) (key : Key) (row : ℕ) (p : Page) (r : Record) → newest_row image key ≡ Some row → slice_get image row ≡ Some p → record_of p ≡ Some r → is_some (sequence_of key (Some r)) ≡ false → ⊥
not_other image key row p r is at mark none =
    let found = newest_record image key row p is at in
    let e : record_of p ≡ Some found.0 = found.1 in
    let same : r ≡ found.0 = cc in
    let s : sequence_of key (Some r) ≡ Some r.sequence = (let of_key : key_of r ≡ key = ap key_of same ∙ found.2 in rw (← of_key) (sequence_of-key r)) in
    let yes : is_some (sequence_of key (Some r)) ≡ true = ap is_some s in
    cc

pub unsound_not_of : (key : Key) (p : Page) → record_of p ≡ None → IsNotOf key p
unsound_not_of key p none its is = (let e : record_of p ≡ Some its = is.sound in cc)

pub other_not_of : (key : Key) (p : Page) (r : Record) → record_of p ≡ Some r → is_some (sequence_of key (Some r)) ≡ false → IsNotOf key p
other_not_of key p r mark none its is =
    let e : record_of p ≡ Some its = is.sound in
    let same : r ≡ its = cc in
    let s : sequence_of key (Some r) ≡ Some r.sequence = (let of_key : key_of r ≡ key = ap key_of same ∙ is.of_key in rw (← of_key) (sequence_of-key r)) in
    let yes : is_some (sequence_of key (Some r)) ≡ true = ap is_some s in
    cc

some_of : {X : Type 0} (o : Option X) → is_some o ≡ true → (x : X) × (o ≡ Some x)
some_of None e = (let no : ⊥ = cc in absurd no)
some_of (Some x) e = (x, refl)

pub page_of : (key : Key) (p : Page) (r : Record) → record_of p ≡ Some r → is_some (sequence_of key (Some r)) ≡ true → IsPageOf key r p
page_of key p r mark some =
    let s = some_of (sequence_of key (Some r)) some in
    let found : IsOf key (Some r) s.0 = sequence_of-is key (Some r) s.0 s.1 in
    let same : r ≡ found.its = (let e : Some r ≡ Some found.its = found.is in cc) in
    record { sound = mark; of_key = ap key_of same ∙ found.of_key }

-- an answer is no fault
pub ok_not_bus : {A : Type 0} (x : A) → Ok x ≢ Err Bus
ok_not_bus x e = (let never : ⊥ = cc in never)

pub ok_not_damaged : {A : Type 0} (x : A) → Ok x ≢ Err Damaged
ok_not_damaged x e = (let never : ⊥ = cc in never)

pub bus_not_damaged : {A : Type 0} (r : Result A EngineFault) → r ≡ Err Bus → r ≢ Err Damaged
bus_not_damaged r was e = (let never : ⊥ = cc in never)

-- an answer has one fault
pub fault_is : {A : Type 0} (r : Result A EngineFault) (f x : EngineFault) → r ≡ Err f → r ≡ Err x → f ≡ x
fault_is r f x was is = cc

-- ---- a page that gives no row

pub unread_row : (g : Geometry) (n e : ℕ) (p : Page) → e ≡ entries g → IsNotOf (Translation (n / e)) p → GivesNoRow g n p
unread_row g n e p same none row holds small = none holds.its (subst (λ k. IsPageOf (Translation (n / k)) holds.its p) (sym same) holds.checked)

pub unlisted_row : (g : Geometry) (n e : ℕ) (p : Page) (lent : List ℕ) (result : Result (Option ℕ) EngineFault) → e ≡ entries g → lent ≡ p.body
    → (ForSome (entry_at lent (n % e)) (λ r. r < row_count g) → OnErr result ⊥) → result ≡ Err Damaged → GivesNoRow g n p
unlisted_row g n e p lent result same is_lent undamaged is row holds small =
    let entry : row ≡ entry_at lent (n % e) = holds.entry ∙ (ap (λ k. entry_at p.body (n % k)) (sym same) ∙ ap (λ b. entry_at b (n % e)) (sym is_lent)) in
    subst (λ (r : Result (Option ℕ) EngineFault). OnErr r ⊥) is (undamaged (subst (λ o. ForSome o (λ r. r < row_count g)) entry small))

-- the row that the directory has for a translation page is its newest page's
pub directory_row : (g : Geometry) (image : Image) (directory : List (Option ℕ)) (m : MappingState) (t : ℕ) (row : Option ℕ) → Maps None g image directory m → t < translation_pages g → slice_get directory t ≡ Some row → newest_row image (Translation t) ≡ row
directory_row g image directory m t row w lt is = (let e : slice_get directory t ≡ Some (newest_row image (Translation t)) = w.directory_is (Translation t) t lt (none_not (Translation t)) refl in cc)

-- ---- a sector's row

pub none_from : {X : Type 0} (o : Option X) → ((x : X) → o ≡ Some x → ⊥) → o ≡ None
none_from None never = refl
none_from (Some x) never = absurd (never x refl)

-- the newest page of the translation page of a sector
pub newest_at : (g : Geometry) (image : Image) (directory : List (Option ℕ)) (m : MappingState) (n e : ℕ) (o p : Option ℕ) → Maps None g image directory m → n < g.sectors → e ≡ entries g → slice_get directory (n / e) ≡ Some o → o ≡ p → newest_row image (Translation (n / e)) ≡ p
newest_at g image directory m n e o p w lt same is at = directory_row g image directory m (n / e) o w (rw same (sector_entry g n lt)) is ∙ at

-- the row in a look-up's answer is a row of the die
pub has_place : (g : Geometry) (n e size : ℕ) → n < g.sectors → e ≡ entries g → size ≡ translation_pages g + table_pages g → n / e < size
has_place g n e size lt same is = (let l : n / e < translation_pages g = rw same (sector_entry g n lt) in omega arith)

module _ (g : Geometry) (image : Image) (directory : List (Option ℕ)) (m : MappingState) (n e : ℕ) (w : Maps None g image directory m) (lt : n < g.sectors) (same : e ≡ entries g) (unknown : known m n ≡ None) where
  right : entry_of g image n ≡ newest_row image (Sector n)
  right = w.entry_is n lt (none_not (Sector n)) (pending-unknown m n unknown)

  page_at : (o : Option ℕ) → newest_row image (Translation (n / e)) ≡ o → newest_row image (Translation (n / entries g)) ≡ o
  page_at o is = rw same at is

  -- its translation page was never written, so it wasn't
  pub found_none : newest_row image (Translation (n / e)) ≡ None → None ≡ newest_row image (Sector n)
  found_none is = sym (entry_none g image n (page_at None is)) ∙ right

  -- its row is the entry that was read
  entry_read : (at : ℕ) (p : Page) → newest_row image (Translation (n / e)) ≡ Some at → slice_get image at ≡ Some p → entry_at p.body (n % e) ≡ newest_row image (Sector n)
  entry_read at p is read =
      let holds : body_at image at ≡ p.body = body_page image at p read in
      ap (λ k. entry_at p.body (n % k)) same ∙ (ap (λ b. entry_at b (n % entries g)) (sym holds) ∙ (sym (entry_here g image n at (page_at (Some at) is)) ∙ right))

  -- and the test of it passes
  pub found_by : (at : ℕ) (p : Page) (lent : List ℕ) (result : Result (Option ℕ) EngineFault) → length image ≡ row_count g
      → newest_row image (Translation (n / e)) ≡ Some at → slice_get image at ≡ Some p → lent ≡ p.body
      → IfOk result (λ row. row ≡ entry_at lent (n % e)) → (ForSome (entry_at lent (n % e)) (λ r. r < row_count g) → OnErr result ⊥)
      → MatchResult result (λ row. row ≡ newest_row image (Sector n)) (λ fault. fault ≡ Bus)
  found_by at p lent (Ok row) whole is read is_lent entry tested = entry ∙ (ap (λ b. entry_at b (n % e)) is_lent ∙ entry_read at p is read)
  found_by at p lent (Err fault) whole is read is_lent entry tested =
      let here : entry_at lent (n % e) ≡ newest_row image (Sector n) = ap (λ b. entry_at b (n % e)) is_lent ∙ entry_read at p is read in
      absurd (tested (λ r e. newest_in g image (Sector n) r whole (sym here ∙ e)))

-- ---- a sector's bytes

pub read_none : (g : Geometry) (image : Image) (n : ℕ) (row : Option ℕ) (bytes : List ℕ) (size : ℕ) → row ≡ newest_row image (Sector n) → row ≡ None → bytes ≡ replicate size 0 → size ≡ g.data_bytes → IsRead n None bytes g image
read_none g image n row bytes size found none filled whole = record {
  found = sym none ∙ found;
  sector = filled ∙ (ap (λ k. replicate k 0) whole ∙ sym (sector_none g image n (sym found ∙ none)));
}

by_kind : (g : Geometry) (k : Kind) (bytes body : List ℕ) → (k ≡ kind.Sector → bytes ≡ body) → (k ≢ kind.Sector → bytes ≡ zeros g) → bytes ≡ content_of_kind g k body
by_kind g kind.Sector bytes body written cleared = written refl
by_kind g kind.Trim bytes body written cleared = cleared (λ e. (let never : ⊥ = cc in never))
by_kind g kind.Translation bytes body written cleared = cleared (λ e. (let never : ⊥ = cc in never))
by_kind g kind.Table bytes body written cleared = cleared (λ e. (let never : ⊥ = cc in never))

-- zeros where there is no row, and else what the page holds
pub gives_none : (g : Geometry) (n size : ℕ) (p : Page) (bytes : List ℕ) → bytes ≡ replicate size 0 → size ≡ g.data_bytes → GivesSector g n None p bytes
gives_none g n size p bytes filled whole = filled ∙ ap (λ k. replicate k 0) whole

pub gives_some : (g : Geometry) (n at : ℕ) (row : Option ℕ) (p : Page) (its : Record) (bytes lent : List ℕ) (size : ℕ) → row ≡ Some at
    → IsPageOf (Sector n) its p → lent ≡ p.body → (its.kind ≡ kind.Sector → bytes ≡ lent) → (its.kind ≢ kind.Sector → bytes ≡ replicate size 0)
    → size ≡ g.data_bytes → GivesSector g n row p bytes
gives_some g n at row p its bytes lent size is checked is_lent written cleared whole =
    let holds : bytes ≡ content_of_kind g its.kind p.body = by_kind g its.kind bytes p.body (λ k. written k ∙ is_lent) (λ k. cleared k ∙ ap (λ z. replicate z 0) whole) in
    let given : GivesSector g n (Some at) p bytes = record { its = its; checked = checked; holds = holds } in
    let P : Option ℕ → Type 0 = λ o. GivesSector g n o p bytes in
    subst P (sym is) given

-- what is told of a look-up, by what memory knows
abbrev found_row : Option ℕ → Result (Option ℕ) EngineFault
found_row row = Ok row

pub finds_row : {A : Type 0} (r : Ram) (n : ℕ) (p : Page) (row : Option ℕ) → ForSome (known r.mapping n) (λ its. (found_row row ≡ found_row its) × A) → (known r.mapping n ≡ None → GivesRow r.geometry r.directory n p row) → FindsRow r n p row
finds_row r n p row hit miss = record { hit = λ its is. (let e : found_row row ≡ found_row its = (hit its is).0 in cc); miss = miss }

pub read_some : (g : Geometry) (image : Image) (n at : ℕ) (row : Option ℕ) (p : Page) (its : Record) (bytes lent : List ℕ) (size : ℕ)
    → row ≡ newest_row image (Sector n) → row ≡ Some at → slice_get image at ≡ Some p → IsPageOf (Sector n) its p → lent ≡ p.body
    → (its.kind ≡ kind.Sector → bytes ≡ lent) → (its.kind ≢ kind.Sector → bytes ≡ replicate size 0) → size ≡ g.data_bytes
    → IsRead n (Some at) bytes g image
read_some g image n at row p its bytes lent size found is read checked is_lent written cleared whole =
    let newest_is : newest_row image (Sector n) ≡ Some at = sym found ∙ is in
    let here : sector_of g image n ≡ content_of_kind g its.kind (body_at image at) = sector_here g image n at its newest_is (mark-page image at p read ∙ checked.sound) in
    let body : lent ≡ body_at image at = is_lent ∙ sym (body_page image at p read) in
    record {
      found = sym is ∙ found;
      sector = by_kind g its.kind bytes (body_at image at) (λ k. written k ∙ body) (λ k. cleared k ∙ ap (λ z. replicate z 0) whole) ∙ sym here;
    }
