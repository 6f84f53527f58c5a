-- What one page more makes of what is held.
use Rattle.std.proofs.Common.{◌≡◌, ◌≢◌, inl, inr, ℕ, ◌+◌, ◌-◌, ◌*◌, ◌<◌, Bool, true, false, List, length, get_or, set, map, take, drop, replicate, Option, Some, None, refl, sym, ap, ◌∙◌, subst, arith, cond}
use Rattle.std.specs.Prelude.{nat_lt, option_map, slice_get, slice_range}
use Rattle.std.specs.List.{range_with_len}
use Rattle.std.proofs.lemmas.Bool.{cases_eq}
use Rattle.std.proofs.lemmas.List.{get_or-set_same, get_or-set_other, get_or-replicate, get_or_default, length-map, length-set, length-replicate, same_lists}
use Rattle.std.proofs.lemmas.Option.{slice_get-map}
use Rattle.std.proofs.lemmas.List.FromFn.{get_or-map-range_with_len, length-map-range_with_len}
use Rattle.page_layout.specs.declared.geometry.Geometry.{Geometry}
use Rattle.page_layout.specs.declared.record.Record.{Record}
use Rattle.page_layout.specs.declared.record.Key.TheVariants as key
use Rattle.page_layout.specs.declared.newest.Latest.{Latest}
use Rattle.page_layout.specs.declared.newest.Latest.TheVariants as latest
use Rattle.page_layout.specs.Geometry.{page_bytes, row_count}
use Rattle.page_layout.specs.Change.{erased_page}
use Rattle.page_layout.specs.Page.{Page, Image, page}
use Rattle.page_layout.specs.Raw.{page_from, raw_image}
use Rattle.page_layout.specs.Sound.{record_of}
use Rattle.page_layout.specs.Key.{key_of}
use Rattle.page_layout.specs.Greatest.{step}
use Rattle.page_layout.specs.Newest.{latest_below, sequence_at}
use Rattle.page_layout.specs.Array.{marks}
use Rattle.page_layout.proofs.ArrayLemmas.{mark-page}
use Rattle.page_layout.proofs.NewestLemmas.{sequence_at-other, sequence_at-key}
use Rattle.page_layout.proofs.RawLemmas.{raw_image-at, length-raw_image}
use Rattle.page_layout.proofs.StepLemmas.{erased_unsound}
use Rattle.image_check.proofs.SurveyLemmas.{latest_more, latest_other, latest_start}
use Rattle.lab_dump.specs.PageBytes.{page_from_bytes}
use Rattle.lab_dump.proofs.PageLemmas.{page_sliced}
use Rattle.lab_dump.specs.Until.{record_until, is_later, page_until, until}
use Rattle.lab_dump.specs.Writing.{sector_in}
use Rattle.lab_dump.proofs.WritingLemmas.{within_is, IsOfNone}
use Rattle.lab_dump.specs.declared.mark.MapMark.{MapMark}
use Rattle.lab_dump.specs.declared.mark.MapMark.TheVariants as mark
use Rattle.lab_origin.specs.declared.newest.Change.{Change}
use Rattle.lab_origin.specs.declared.newest.Change.TheVariants as change
use Rattle.lab_origin.specs.Origin.{image_of, is_in_a_reading, mark_by_latest, sector_mark_of, marks_of, read_mark, row_bytes}
use Rattle.lab_origin.specs.Tracing.{HasSectorPlaces, PageChanges, ShowsOrigins}

-- ---- what a page does

pub stays_once : (b : Latest) (row s q t : ℕ) → step b row (Some s) ≡ latest.Once q t → q ≢ row → step b row (Some s) ≡ b
stays_once latest.Never row s q t e ne = absurd (let same : row ≡ q = cc in ne (sym same))
stays_once (latest.Once p u) row s q t e ne = by (nat_lt u s) (nat_lt s u) e
  where
    by : (more less : Bool) → cond more (latest.Once row s) (cond less (latest.Once p u) (latest.Tied p row u)) ≡ latest.Once q t → cond more (latest.Once row s) (cond less (latest.Once p u) (latest.Tied p row u)) ≡ latest.Once p u
    by true less is = absurd (let same : row ≡ q = cc in ne (sym same))
    by false true is = refl
    by false false is = absurd (cc)
stays_once (latest.Tied a b u) row s q t e ne = by (nat_lt u s) e
  where
    by : (more : Bool) → cond more (latest.Once row s) (latest.Tied a b u) ≡ latest.Once q t → cond more (latest.Once row s) (latest.Tied a b u) ≡ latest.Tied a b u
    by true is = absurd (let same : row ≡ q = cc in ne (sym same))
    by false is = refl

pub never_never : (b : Latest) (row s : ℕ) → step b row (Some s) ≢ latest.Never
never_never latest.Never row s e = cc
never_never (latest.Once p u) row s e = by (nat_lt u s) (nat_lt s u) e
  where
    by : (more less : Bool) → cond more (latest.Once row s) (cond less (latest.Once p u) (latest.Tied p row u)) ≢ latest.Never
    by true less is = cc
    by false true is = cc
    by false false is = cc
never_never (latest.Tied a b u) row s e = by (nat_lt u s) e
  where
    by : (more : Bool) → cond more (latest.Once row s) (latest.Tied a b u) ≢ latest.Never
    by true is = cc
    by false is = cc

-- the mark that it makes of one
abbrev pub MarkIs : Change → Bool → MapMark → MapMark → Type 0
MarkIs change.Stays read was new = new ≡ was
MarkIs change.Newest read was new = new ≡ read_mark read
MarkIs change.Tie read was new = new ≡ mark.Bad

pub marked : (read : ℕ → Bool) (row : ℕ) (c : Change) (before after : Latest) (was new : MapMark) → PageChanges c row before after → was ≡ mark_by_latest read before → MarkIs c (read row) was new → new ≡ mark_by_latest read after
marked read row change.Stays before after was new does held is = is ∙ (held ∙ ap (mark_by_latest read) (sym does))
marked read row change.Newest before after was new does held is = is ∙ sym (ap (mark_by_latest read) does.1)
marked read row change.Tie before after was new does held is = is ∙ sym (ap (mark_by_latest read) does.3)

-- ---- a row

-- one that says nothing of a sector
pub not_taken : (g : Geometry) (records : List (Option Record)) (read : ℕ → Bool) (row : ℕ) (ls : List Latest) (ms : List MapMark) → ShowsOrigins g records read row ls ms → IsOfNone g records row → ShowsOrigins g records read (row + 1) ls ms
not_taken g records read row ls ms h none = record {
  latest_is = λ n l. h.latest_is n l ∙ sym (latest_other records (key.Sector n) row (none n l));
  mark_is = λ n l. h.mark_is n l ∙ ap (mark_by_latest read) (sym (latest_other records (key.Sector n) row (none n l)));
}

others : (records : List (Option Record)) (row n : ℕ) (r : Record) → get_or records row None ≡ Some r → key_of r ≡ key.Sector n → (m : ℕ) → m ≢ n → sequence_at records (key.Sector m) row ≡ None
others records row n r at same m ne = sequence_at-other records (key.Sector m) row r at (λ e. ne (let k : key.Sector n ≡ key.Sector m = sym same ∙ e in cc))

here : (records : List (Option Record)) (row n : ℕ) (r : Record) → get_or records row None ≡ Some r → key_of r ≡ key.Sector n → latest_below records (key.Sector n) (row + 1) ≡ step (latest_below records (key.Sector n) row) row (Some r.sequence)
here records row n r at same =
    let seen : sequence_at records (key.Sector n) row ≡ Some r.sequence = subst (λ k. sequence_at records k row ≡ Some r.sequence) same (sequence_at-key records row r at) in
    latest_more records (key.Sector n) row ∙ ap (step (latest_below records (key.Sector n) row) row) seen

-- one of a sound page of sector n, which makes this of what is held
pub taken : (g : Geometry) (records : List (Option Record)) (read : ℕ → Bool) (row n : ℕ) (r : Record) (ls : List Latest) (ms : List MapMark) (old next : Latest) (new : MapMark) (c : Change) → ShowsOrigins g records read row ls ms → HasSectorPlaces g ls ms
    → sector_in g r ≡ Some n → get_or records row None ≡ Some r → old ≡ get_or ls n old → next ≡ step old row (Some r.sequence) → PageChanges c row old next → MarkIs c (read row) (get_or ms n mark.Untried) new
    → ShowsOrigins g records read (row + 1) (set ls n next) (set ms n new)
taken g records read row n r ls ms old next new c h sized in_die at old_is next_is does is =
    let its = within_is g r n in_die in
    let in_range : n < g.sectors = its.1 in
    let ls_size : length ls ≡ g.sectors = sized.latest_size in
    let ms_size : length ms ≡ g.sectors = sized.marks_size in
    let more = here records row n r at its.0 in
    let held : old ≡ latest_below records (key.Sector n) row = old_is ∙ (get_or_default ls n old latest.Never (omega arith) ∙ h.latest_is n in_range) in
    let after : next ≡ latest_below records (key.Sector n) (row + 1) = next_is ∙ (ap (λ l. step l row (Some r.sequence)) held ∙ sym more) in
    let stood : get_or ms n mark.Untried ≡ mark_by_latest read old = h.mark_is n in_range ∙ ap (mark_by_latest read) (sym held) in
    let made : new ≡ mark_by_latest read next = marked read row c old next (get_or ms n mark.Untried) new does stood is in
    record {
      latest_is = λ m l. elim (cases_eq m n) [
        | inl same ↦ ap (λ k. get_or (set ls n next) k latest.Never) same ∙ (get_or-set_same ls n next latest.Never (omega arith) ∙ (after ∙ ap (λ k. latest_below records (key.Sector k) (row + 1)) (sym same)))
        | inr ne ↦ get_or-set_other ls n m next latest.Never ne ∙ (h.latest_is m l ∙ sym (latest_other records (key.Sector m) row (others records row n r at its.0 m ne)))
      ];
      mark_is = λ m l. elim (cases_eq m n) [
        | inl same ↦ ap (λ k. get_or (set ms n new) k mark.Untried) same ∙ (get_or-set_same ms n new mark.Untried (omega arith) ∙ (made ∙ (ap (mark_by_latest read) after ∙ ap (λ k. mark_by_latest read (latest_below records (key.Sector k) (row + 1))) (sym same))))
        | inr ne ↦ get_or-set_other ms n m new mark.Untried ne ∙ (h.mark_is m l ∙ ap (mark_by_latest read) (sym (latest_other records (key.Sector m) row (others records row n r at its.0 m ne))))
      ];
    }

pub taken_sized : (g : Geometry) (ls : List Latest) (ms : List MapMark) (n : ℕ) (next : Latest) (new : MapMark) → HasSectorPlaces g ls ms → HasSectorPlaces g (set ls n next) (set ms n new)
taken_sized g ls ms n next new h = record { latest_size = length-set ls n next ∙ h.latest_size; marks_size = length-set ms n new ∙ h.marks_size }

-- ---- the image as of a sequence

until_size : (g : Geometry) (last : Option ℕ) (image : Image) → length (until g last image) ≡ length image
unfolding until
until_size g last image = length-map image (page_until g last)

until_page : (g : Geometry) (last : Option ℕ) (image : Image) (row : ℕ) (p : Page) → slice_get image row ≡ Some p → slice_get (until g last image) row ≡ Some (page_until g last p)
unfolding until
until_page g last image row p at = slice_get-map (page_until g last) image row ∙ ap (option_map (page_until g last)) at

-- a page that does not count has no record
counted_record : (g : Geometry) (last : Option ℕ) (p : Page) → record_of (page_until g last p) ≡ record_until last (record_of p)
counted_record g None p = refl
counted_record g (Some l) p = by (is_later l (record_of p))
  where
    by : (b : Bool) → record_of (cond b (erased_page g) p) ≡ cond b None (record_of p)
    by true = erased_unsound g
    by false = refl

-- ---- before the first row, and behind the last one

pub nothing_yet : (g : Geometry) (ls : List Latest) (ms : List MapMark) → ls ≡ replicate g.sectors latest.Never → ms ≡ replicate g.sectors mark.Untried → (records : List (Option Record)) (read : ℕ → Bool) → ShowsOrigins g records read 0 ls ms
nothing_yet g ls ms a b records read = record {
  latest_is = λ n l. ap (λ xs. get_or xs n latest.Never) a ∙ (get_or-replicate g.sectors n latest.Never latest.Never l ∙ sym (latest_start records (key.Sector n)));
  mark_is = λ n l. ap (λ xs. get_or xs n mark.Untried) b ∙ (get_or-replicate g.sectors n mark.Untried mark.Untried l ∙ sym (ap (mark_by_latest read) (latest_start records (key.Sector n))));
}

pub sized_first : (g : Geometry) (ls : List Latest) (ms : List MapMark) → ls ≡ replicate g.sectors latest.Never → ms ≡ replicate g.sectors mark.Untried → HasSectorPlaces g ls ms
sized_first g ls ms a b = record { latest_size = ap length a ∙ length-replicate g.sectors latest.Never; marks_size = ap length b ∙ length-replicate g.sectors mark.Untried }

pub all_marks : (g : Geometry) (last : Option ℕ) (all : List ℕ) (files : List (List ℕ)) (ls : List Latest) (ms : List MapMark) → HasSectorPlaces g ls ms → ShowsOrigins g (marks (image_of g last all)) (is_in_a_reading g all files) (row_count g) ls ms → ms ≡ marks_of g last all files
unfolding sector_mark_of
all_marks g last all files ls ms sized h =
    let f = sector_mark_of g last all files in
    let size : length (image_of g last all) ≡ row_count g = until_size g last (raw_image g all) ∙ length-raw_image g all in
    same_lists ms (map f (range_with_len 0 g.sectors)) (sized.marks_size ∙ sym (length-map-range_with_len f 0 g.sectors)) (λ n d l.
    let few = sized.marks_size in
    let within : n < g.sectors = omega arith in
    get_or_default ms n d mark.Untried l
    ∙ (h.mark_is n within
    ∙ (ap (λ k. mark_by_latest (is_in_a_reading g all files) (latest_below (marks (image_of g last all)) (key.Sector n) k)) (sym size)
    ∙ sym (get_or-map-range_with_len f 0 g.sectors n n d within (omega arith)))))

-- ---- the page of a row as its bytes

-- what counts of it
pub record_at : (g : Geometry) (last : Option ℕ) (all piece : List ℕ) (row : ℕ) → row < row_count g → piece ≡ row_bytes g all row → get_or (marks (image_of g last all)) row None ≡ record_until last (record_of (page_from_bytes g.data_bytes piece))
record_at g last all piece row l is =
    let p : Page = page_from g all (row * page_bytes g) in
    let image : Image = raw_image g all in
    let same : page_from_bytes g.data_bytes piece ≡ p = ap (page_from_bytes g.data_bytes) is ∙ page_sliced g all (row * page_bytes g) in
    mark-page (until g last image) row (page_until g last p) (until_page g last image row p (raw_image-at g all row l)) ∙ (counted_record g last p ∙ ap (λ q. record_until last (record_of q)) (sym same))
