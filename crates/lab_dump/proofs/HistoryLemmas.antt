-- The pages of a sector, newest first.
use Rattle.std.proofs.Common.{◌≡◌, inl, inr, ℕ, zero, suc, ◌+◌, ◌<◌, ◌≤◌, length, get_or, take, List, [], ◌∷◌, ◌++◌, Option, Some, None, true, false, refl, sym, ap, ◌∙◌, subst, arith, cond, count_by}
use Rattle.std.specs.Prelude.{slice_get, slice_index, Contains, IsPermutation, IsSorted}
use Rattle.std.specs.Ordering.{is_lt, nat_cmp}
use Rattle.std.specs.Cmp.{nat_cmp_is}
use Rattle.std.specs.declared.cmp.Ordering.TheVariants.{Less, Equal}
use Rattle.std.proofs.lemmas.Bool.{cases_Bool, cases_eq, cases_order, cases_lt}
use Rattle.std.proofs.lemmas.List.Elements.{Contains-append_cases, Contains-append_left, Contains-append_right, Contains-get_or, Contains-push, Contains-push_cases}
use Rattle.std.proofs.lemmas.List.Sorted.{Contains-permutation, IsPermutation-sym}
use Rattle.std.proofs.lemmas.Option.{slice_get-get_or, slice_get_within}
use Rattle.std.proofs.Math.Seq.{take-length}
use Rattle.page_layout.specs.declared.geometry.Geometry.{Geometry}
use Rattle.page_layout.specs.declared.record.Record.{Record}
use Rattle.page_layout.specs.declared.record.Key.TheVariants as key
use Rattle.page_layout.specs.Geometry.{row_count}
use Rattle.page_layout.specs.Page.{Page, Image}
use Rattle.page_layout.specs.Raw.{raw_image}
use Rattle.page_layout.specs.Sound.{record_of}
use Rattle.page_layout.specs.Block.{is_broken}
use Rattle.page_layout.specs.Key.{key_of, key_eq}
use Rattle.page_layout.specs.Newest.{sequence_at}
use Rattle.page_layout.specs.Array.{marks}
use Rattle.page_layout.proofs.ArrayLemmas.{mark-page, page_of_mark}
use Rattle.page_layout.proofs.KeyLemmas.{key_eq-same, key_eq-true}
use Rattle.page_layout.proofs.NewestLemmas.{newest-is, sequence_at-is, sequence_at-key}
use Rattle.page_layout.proofs.RawLemmas.{length-raw_image}
use Rattle.page_layout.specs.Change.{one_if}
use Rattle.lab_dump.specs.Scan.{IsTaken}
use Rattle.lab_dump.specs.declared.history.History.{History}
use Rattle.lab_dump.specs.declared.history.SectorPage.{SectorPage}
use Rattle.lab_dump.specs.declared.history.Wrote.{Wrote}
use Rattle.lab_dump.specs.contracts.history.SectorPageOrd.TheImpl as ranked
use Rattle.lab_dump.proofs.CountLemmas.{count_more}
use Rattle.lab_dump.specs.History.{AreNewestFirst, ComesBefore, FirstLaw, HistoryLaw, IsHistoryOf, TellsSectorPage, ShowsHistory, page_by, page_in_row, pages_below, sector_pages_of, told_page, wrote_of}
use Rattle.lab_dump.specs.Rooms.{HasRowRoom}

-- ---- one row more

pub pages_more : (image : Image) (n row : ℕ) → pages_below image n (row + 1) ≡ pages_below image n row ++ page_in_row n row (slice_get image row)
unfolding pages_below
pages_more image n row = let next : row + 1 ≡ suc row = omega arith in ap (pages_below image n) next

pub pages_none : (image : Image) (n : ℕ) → pages_below image n 0 ≡ []
unfolding pages_below
pages_none image n = refl

-- the page of a row that was noted
pub pages_noted : (image : Image) (n row : ℕ) (p : Page) (found : Option Record) (old new : List SectorPage) → slice_get image row ≡ Some p → record_of p ≡ found → old ≡ pages_below image n row
    → new ≡ old ++ page_by n row (slice_index p.spare 2) found → new ≡ pages_below image n (row + 1)
pages_noted image n row p found old new at says before after =
    let here : page_in_row n row (slice_get image row) ≡ page_by n row (slice_index p.spare 2) found = ap (page_in_row n row) at ∙ ap (page_by n row (slice_index p.spare 2)) says in
    after ∙ (ap (λ xs. xs ++ page_by n row (slice_index p.spare 2) found) before ∙ (ap (λ xs. pages_below image n row ++ xs) (sym here) ∙ sym (pages_more image n row)))

-- ---- the pages that are neither erased nor sound

pub unsound_same : (image : Image) (row : ℕ) (p : Page) (n : ℕ) → slice_get image row ≡ Some p → is_broken p ≡ false → n ≡ count_by is_broken (take row image) → n ≡ count_by is_broken (take (row + 1) image)
unsound_same image row p n at whole before = let more = count_more is_broken image row p at ∙ ap (λ b. count_by is_broken (take row image) + one_if b) whole in omega arith

pub unsound_more : (image : Image) (row : ℕ) (p : Page) (n : ℕ) → slice_get image row ≡ Some p → is_broken p ≡ true → n ≡ count_by is_broken (take row image) → n + 1 ≡ count_by is_broken (take (row + 1) image)
unsound_more image row p n at broken before = let more = count_more is_broken image row p at ∙ ap (λ b. count_by is_broken (take row image) + one_if b) broken in omega arith

-- ---- the order

-- what the order of the fields, as it is derived, leaves between neighbours
comes_before : (x y : SectorPage) → is_lt (ranked.ghosts.cmp y x) ≡ false → ComesBefore x y
comes_before x y e = elim (cases_order x.sequence.0 y.sequence.0) [
  | inl same ↦ elim (cases_lt y.row x.row) [
    | inr le ↦ inr (sym same, le)
    | inl gt ↦ absurd (let e0 : Equal ≡ nat_cmp x.sequence.0 y.sequence.0 = nat_cmp_is x.sequence.0 y.sequence.0 Equal same in let e1 : Less ≡ nat_cmp y.row x.row = nat_cmp_is y.row x.row Less gt in let t = rw (← e0, ← e1) at e in cc)
  ]
  | inr (inl below) ↦ absurd (let e0 : Less ≡ nat_cmp x.sequence.0 y.sequence.0 = nat_cmp_is x.sequence.0 y.sequence.0 Less below in let t = rw (← e0) at e in cc)
  | inr (inr above) ↦ inl above
]

pub newest_first : (pages : List SectorPage) → IsSorted ranked.ghosts.cmp pages → AreNewestFirst pages
newest_first pages sorted k d within = comes_before (get_or pages k d) (get_or pages (k + 1) d) (sorted k d (omega arith) within)

-- the first page has no earlier sequence than any other
first_greatest : (pages : List SectorPage) (k : ℕ) (d : SectorPage) → AreNewestFirst pages → k < length pages → (get_or pages k d).sequence.0 ≤ (get_or pages 0 d).sequence.0
first_greatest pages zero d order within = omega arith
first_greatest pages (suc k) d order within =
    let next : k + 1 ≡ suc k = omega arith in
    let rest = first_greatest pages k d order (omega arith) in
    let step : ComesBefore (get_or pages k d) (get_or pages (suc k) d) = subst (λ j. ComesBefore (get_or pages k d) (get_or pages j d)) next (order k d (omega arith)) in
    elim step [
      | inl lt ↦ omega arith
      | inr same ↦ (let e = same.0 in omega arith)
    ]

-- ---- which pages are told

told_is : (x : SectorPage) (row version : ℕ) (r : Record) → x.row ≡ row → x.version ≡ version → x.sequence.0 ≡ r.sequence → x.wrote ≡ wrote_of r.kind → told_page row version r ≡ x
told_is x row version r at same sequence kind =
    ap (λ s. told s row version (wrote_of r.kind)) (sym sequence) ∙ (ap (λ w. told x.sequence.0 row version w) (sym kind)
    ∙ (ap (λ v. told x.sequence.0 row v x.wrote) (sym same) ∙ ap (λ q. told x.sequence.0 q x.version x.wrote) (sym at)))
  where
    told : ℕ → ℕ → ℕ → Wrote → SectorPage
    told s row version w = record { sequence = record { 0 = s }; row = row; version = version; wrote = w }

nothing : (x : SectorPage) → Contains [] x → ⊥
nothing x h = omega (arith, h.1)

told_in_row : (image : Image) (n row : ℕ) (x : SectorPage) → Contains (page_in_row n row (slice_get image row)) x → TellsSectorPage image n x × (x.row ≡ row)
told_in_row image n row x h = at_row (slice_get image row) refl h
  where
    at_page : (p : Page) (o : Option Record) → slice_get image row ≡ Some p → record_of p ≡ o → Contains (page_by n row (slice_index p.spare 2) o) x → TellsSectorPage image n x × (x.row ≡ row)
    at_page p None at says h = absurd (nothing x h)
    at_page p (Some r) at says h = elim (cases_Bool (key_eq (key_of r) (key.Sector n))) [
      | inl same_key ↦
          let one : Contains ([] ++ told_page row (slice_index p.spare 2) r ∷ []) x = subst (λ b. Contains (cond b (told_page row (slice_index p.spare 2) r ∷ []) []) x) same_key h in
          elim (Contains-push_cases [] (told_page row (slice_index p.spare 2) r) x one) [
            | inl none ↦ absurd (nothing x none)
            | inr same ↦
                let row_is : x.row ≡ row = sym (ap (λ y. y.row) same) in (
                  record {
                    page = p;
                    its = r;
                    at = ap (slice_get image) row_is ∙ at;
                    says = says;
                    of_sector = key_eq-true (key_of r) (key.Sector n) same_key;
                    sequence_is = sym (ap (λ y. y.sequence.0) same);
                    wrote_is = sym (ap (λ y. y.wrote) same);
                    version_is = sym (ap (λ y. y.version) same);
                  },
                  row_is,
                )
          ]
      | inr other ↦ absurd (nothing x (subst (λ b. Contains (cond b (told_page row (slice_index p.spare 2) r ∷ []) []) x) other h))
    ]

    at_row : (o : Option Page) → slice_get image row ≡ o → Contains (page_in_row n row o) x → TellsSectorPage image n x × (x.row ≡ row)
    at_row None at h = absurd (nothing x h)
    at_row (Some p) at h = at_page p (record_of p) at refl h

in_its_row : (image : Image) (n : ℕ) (x : SectorPage) → TellsSectorPage image n x → Contains (page_in_row n x.row (slice_get image x.row)) x
in_its_row image n x h =
    let version : ℕ = slice_index h.page.spare 2 in
    let same_key : key_eq (key_of h.its) (key.Sector n) ≡ true = ap (λ k. key_eq k (key.Sector n)) h.of_sector ∙ key_eq-same (key.Sector n) in
    let is : page_in_row n x.row (slice_get image x.row) ≡ x ∷ [] =
    ap (page_in_row n x.row) h.at ∙ (ap (page_by n x.row version) h.says ∙ (ap (λ b. cond b (told_page x.row version h.its ∷ []) []) same_key
    ∙ ap (λ y. y ∷ []) (told_is x x.row version h.its refl h.version_is h.sequence_is h.wrote_is))) in
    subst (λ xs. Contains xs x) (sym is) (Contains-push [] x)

told_below : (image : Image) (n rows : ℕ) (x : SectorPage) → Contains (pages_below image n rows) x → TellsSectorPage image n x
unfolding pages_below
told_below image n zero x h = absurd (nothing x h)
told_below image n (suc row) x h = elim (Contains-append_cases (pages_below image n row) (page_in_row n row (slice_get image row)) x h) [
  | inl before ↦ told_below image n row x before
  | inr here ↦ (told_in_row image n row x here).0
]

all_below : (image : Image) (n rows : ℕ) (x : SectorPage) → TellsSectorPage image n x → x.row < rows → Contains (pages_below image n rows) x
unfolding pages_below
all_below image n zero x h within = absurd (omega arith)
all_below image n (suc row) x h within = elim (cases_eq x.row row) [
  | inl same ↦ Contains-append_right (pages_below image n row) (page_in_row n row (slice_get image row)) x (subst (λ r. Contains (page_in_row n r (slice_get image r)) x) same (in_its_row image n x h))
  | inr ne ↦ Contains-append_left (pages_below image n row) (page_in_row n row (slice_get image row)) x (all_below image n row x h (omega arith))
]

pub history_law : HistoryLaw
history_law image n x = (told_below image n (length image) x, λ h. all_below image n (length image) x h (slice_get_within image x.row h.page h.at))

-- ---- the first page

pub first_law : FirstLaw
first_law image n row h is e =
    let newest_is = newest-is (marks image) (key.Sector n) row e in
    let found = sequence_at-is (marks image) (key.Sector n) row newest_is.value newest_is.here in
    let p = page_of_mark image row found.its found.is in
    let x : SectorPage = told_page row (slice_index p.0.spare 2) found.its in
    let of_x : TellsSectorPage image n x = record { page = p.0; its = found.its; at = p.1; says = p.2; of_sector = found.of_key; sequence_is = refl; wrote_is = refl; version_is = refl } in
    let pages : List SectorPage = h.pages.items in
    let place = Contains-permutation (sector_pages_of image n) pages x is.all ((history_law image n x).1 of_x) in
    let inside : 0 < length pages = omega (arith, place.1) in
    let first : SectorPage = get_or pages 0 x in
    let greatest : x.sequence.0 ≤ first.sequence.0 = subst (λ y. y.sequence.0 ≤ first.sequence.0) place.2 (first_greatest pages place.0 x is.order place.1) in
    let of_first : TellsSectorPage image n first = (history_law image n first).0 (Contains-permutation pages (sector_pages_of image n) first (IsPermutation-sym (sector_pages_of image n) pages is.all) (Contains-get_or pages 0 x inside)) in
    let mark = mark-page image first.row of_first.page of_first.at ∙ of_first.says in
    let sequence : sequence_at (marks image) (key.Sector n) first.row ≡ Some of_first.its.sequence =
    subst (λ k. sequence_at (marks image) k first.row ≡ Some of_first.its.sequence) of_first.of_sector (sequence_at-key (marks image) first.row of_first.its mark) in
    record {
      first = first;
      at = slice_get-get_or pages 0 x inside;
      row_is = elim (cases_eq first.row row) [
        | inl same ↦ same
        | inr ne ↦ absurd (let lt = newest_is.others first.row of_first.its.sequence ne sequence in let a = of_first.sequence_is in let b = found.sequence_is in omega arith)
      ];
    }

-- ---- all pages

pub history_of : (g : Geometry) (n : ℕ) (pages : List SectorPage) (h : History) (bytes : List ℕ) → IsTaken g (λ image. ShowsHistory n (row_count g) image pages h.unsound) bytes → IsPermutation pages h.pages.items → AreNewestFirst h.pages.items
    → IsHistoryOf g n h bytes
history_of g n pages h bytes taken moved order =
    let image : Image = raw_image g bytes in
    let size : length image ≡ row_count g = length-raw_image g bytes in
    let all : pages ≡ sector_pages_of image n = taken.shown.pages_are ∙ ap (pages_below image n) (sym size) in
    record {
      whole = taken.whole;
      history = record {
        all = subst (λ xs. IsPermutation xs h.pages.items) all moved;
        order = order;
        unsound_is = taken.shown.unsound_is ∙ ap (count_by is_broken) (ap (λ k. take k image) (sym size) ∙ take-length image);
      };
    }

-- no page has passed, and none is listed
pub nothing_listed : (all capacity : ℕ) (pages : List SectorPage) → pages ≡ [] → all ≤ capacity → HasRowRoom all 0 pages capacity × (0 ≤ 0)
nothing_listed all capacity pages none room = (record { few = subst (λ (ps : List SectorPage). length ps ≤ 0) (sym none) (omega arith); room = room }, omega arith)

pub room_more : (all row capacity kept : ℕ) (old new : List SectorPage) → HasRowRoom all row old capacity → length new ≤ length old + 1 → kept ≡ capacity → HasRowRoom all (row + 1) new kept
room_more all row capacity kept old new h one same = record { few = (let few = h.few in omega arith); room = (let room = h.room in omega arith) }

pub room_same : (all row capacity : ℕ) (pages : List SectorPage) → HasRowRoom all row pages capacity → HasRowRoom all (row + 1) pages capacity
room_same all row capacity pages h = record { few = (let few = h.few in omega arith); room = h.room }

pub same_unsound : (row old new : ℕ) → old ≤ row → new ≡ old → new ≤ row + 1
same_unsound row old new few same = omega arith

pub one_unsound : (row old : ℕ) → old ≤ row → old + 1 ≤ row + 1
one_unsound row old few = omega arith
