-- What pages tell, one page more.
use Rattle.std.proofs.Common.{◌≡◌, ℕ, suc, ◌+◌, ◌*◌, ◌/◌, ◌%◌, ◌≤◌, List, length, refl, sym, ap, ◌∙◌, subst, arith, count_by, Bool, true, false, Option, Some, None, inl, inr, slice_index, slice_range, le_trans, take, length-take-le}
use Rattle.std.specs.Prelude.{◌||◌, max, nat_lt}
use Rattle.std.proofs.lemmas.Bool.{ltb-false, true≢false}
use Rattle.std.specs.List.{range_with_len}
use Rattle.page_layout.specs.Word.{word_at}
use Rattle.std.proofs.lemmas.List.Sums.{count_by-le-length}
use Rattle.std.proofs.lemmas.List.FromFn.{length-range_with_len}
use Rattle.byteorder.specs.Endian.{little_number}
use Rattle.page_layout.specs.declared.geometry.Geometry.{Geometry}
use Rattle.page_layout.specs.Geometry.{page_bytes}
use Rattle.page_layout.specs.declared.record.Record.{Record}
use Rattle.page_layout.specs.declared.record.Kind.{Kind}
use Rattle.page_layout.specs.declared.record.Kind.TheVariants as kind
use Rattle.page_layout.specs.Page.{Page}
use Rattle.page_layout.specs.Sound.{code_of_kind, record_of, is_erased_page, SpellsRecord, IsSound}
use Rattle.page_layout.proofs.RecordLemmas.{is_sound}
use Rattle.page_layout.specs.PageLook.{look_by, look_of}
use Rattle.page_layout.specs.declared.look.PageLook.{PageLook}
use Rattle.lab_dump.specs.declared.told.PagesTold.{PagesTold}
use Rattle.lab_dump.specs.PageBytes.{page_from_bytes}
use Rattle.lab_dump.specs.Pages.{dump_page_at}
use Rattle.lab_dump.specs.Sample.{look_at}
use Rattle.lab_dump.specs.Told.{words_used, least_blocks_of, least_sectors, blocks_by, sectors_by, blocks_at, sectors_told_at, greatest_of_rows, pages_told_of, told_with_page, may_raise, most_by, most_in}
use Rattle.lab_dump.proofs.SampleLemmas.{one, count_last}

-- ---- words

-- how many of the first words may be of blocks
abbrev pub used_below : List ℕ → ℕ → ℕ
used_below body n = count_by (λ i. nat_lt (word_at body (4 * i) % 256) 3) (range_with_len 0 n)

pub used_more : (body : List ℕ) (n used : ℕ) (b : Bool) → used ≡ used_below body n → nat_lt (word_at body (4 * n) % 256) 3 ≡ b → used + one b ≡ used_below body (n + 1)
used_more body n used b old is = ap (λ k. k + one b) old ∙ (ap (λ t. used_below body n + one t) (sym is) ∙ sym (count_last (λ i. nat_lt (word_at body (4 * i) % 256) 3) n))

pub used_all : (body : List ℕ) (n used : ℕ) → n ≡ length body / 4 → used ≡ used_below body n → used ≡ words_used body
unfolding words_used
used_all body n used size e = e ∙ ap (used_below body) size

-- ---- what is told

greatest_more : (f : ℕ → ℕ) (n : ℕ) → greatest_of_rows f (n + 1) ≡ max (greatest_of_rows f n) (f n)
unfolding greatest_of_rows
greatest_more f n = let next : n + 1 ≡ suc n = omega arith in ap (greatest_of_rows f) next

pub told_none : (d s : ℕ) (all : List ℕ) (t : PagesTold) → t ≡ record { blocks = 0; sectors = 0 } → t ≡ pages_told_of d s 0 all
unfolding pages_told_of greatest_of_rows
told_none d s all t e = e

pub told_more : (d s row : ℕ) (all body : List ℕ) (t new : PagesTold) (look : PageLook) → t ≡ pages_told_of d s row all → look ≡ look_at d s all row → body ≡ (dump_page_at d s all row).body → length body ≡ d
    → new ≡ told_with_page t look body → new ≡ pages_told_of d s (row + 1) all
unfolding pages_told_of
told_more d s row all body t new look old is there size e =
    let a = greatest_more (blocks_at d s all) row in
    let b = greatest_more (sectors_told_at d s all) row in
    e ∙ (ap (λ k. told_with_page k look body) old ∙ (ap (λ k. told_with_page (pages_told_of d s row all) k body) is ∙ (rw (a, b) (
    ap (λ n. record { blocks = max (greatest_of_rows (blocks_at d s all) row) (blocks_by (look_at d s all row) body); sectors = max (greatest_of_rows (sectors_told_at d s all) row) (sectors_by (look_at d s all row) (n / 4)) }) size
    ∙ ap (λ x. record { blocks = max (greatest_of_rows (blocks_at d s all) row) (blocks_by (look_at d s all row) x); sectors = max (greatest_of_rows (sectors_told_at d s all) row) (sectors_told_at d s all row) }) there))))

-- a page of which the bytes are known
pub told_page : (g : Geometry) (row : ℕ) (all bytes : List ℕ) (t new : PagesTold) → t ≡ pages_told_of g.data_bytes g.spare_bytes row all → page_from_bytes g.data_bytes bytes ≡ dump_page_at g.data_bytes g.spare_bytes all row → length bytes ≡ page_bytes g
    → new ≡ told_with_page t (look_of (page_from_bytes g.data_bytes bytes)) (take g.data_bytes bytes) → new ≡ pages_told_of g.data_bytes g.spare_bytes (row + 1) all
told_page g row all bytes t new old there whole e =
    told_more g.data_bytes g.spare_bytes row all (take g.data_bytes bytes) t new (look_of (page_from_bytes g.data_bytes bytes)) old (ap look_of there) (ap (λ p. p.body) there) (length-take-le g.data_bytes bytes (omega arith)) e

-- ---- a page that tells no more

words_few : (body : List ℕ) → words_used body ≤ length body / 4
unfolding words_used
words_few body = omega (arith, count_by-le-length (λ i. nat_lt (word_at body (4 * i) % 256) 3) (range_with_len 0 (length body / 4)), length-range_with_len 0 (length body / 4))

blocks_most : (k : Kind) (n entries : ℕ) (body : List ℕ) → entries ≡ length body / 4 → least_blocks_of k n body ≤ (most_by (code_of_kind k) n entries).blocks
blocks_most kind.Sector n entries body e = omega arith
blocks_most kind.Trim n entries body e = omega arith
blocks_most kind.Translation n entries body e = omega arith
blocks_most kind.Table n entries body e =
    let few = words_few body in
    let next : (n + 1) * entries ≡ n * entries + entries = omega arith in
    let same : n * (length body / 4) ≡ n * entries = ap (λ k. n * k) (sym e) in
    omega arith

sectors_most : (k : Kind) (n entries : ℕ) → least_sectors k n entries ≤ (most_by (code_of_kind k) n entries).sectors
sectors_most kind.Sector n entries = omega arith
sectors_most kind.Trim n entries = omega arith
sectors_most kind.Translation n entries = omega arith
sectors_most kind.Table n entries = omega arith

told_kept : (a b : ℕ) (t : PagesTold) → a ≤ t.blocks → b ≤ t.sectors → t ≡ record { blocks = max t.blocks a; sectors = max t.sectors b }
told_kept a b t x y =
    let first : t.blocks ≡ max t.blocks a = omega arith in
    let second : t.sectors ≡ max t.sectors b = omega arith in
    ap (λ k. record { blocks = k; sectors = t.sectors }) first ∙ ap (λ k. record { blocks = max t.blocks a; sectors = k }) second

-- what its spare bytes say of a sound page, in either version
says : (p : Page) (r : Record) → IsSound p r → SpellsRecord p.spare r
says p r (inl x) = x.spells
says p r (inr x) = x.spells

told_kept_by : (t : PagesTold) (p : Page) (entries n code : ℕ) → entries ≡ length p.body / 4 → code ≡ slice_index p.spare 3 → n ≡ little_number 4 (slice_range p.spare 4 8)
    → (most_by code n entries).blocks ≤ t.blocks → (most_by code n entries).sectors ≤ t.sectors → t ≡ told_with_page t (look_of p) p.body
unfolding look_of
told_kept_by t p entries n code size code_is n_is blocks sectors = by_record (record_of p) refl
  where
    nothing : (b : Bool) → t ≡ told_with_page t (look_by None b) p.body
    nothing true = told_kept 0 0 t (omega arith) (omega arith)
    nothing false = told_kept 0 0 t (omega arith) (omega arith)

    by_record : (o : Option Record) → record_of p ≡ o → t ≡ told_with_page t (look_by o (is_erased_page p)) p.body
    by_record None e = nothing (is_erased_page p)
    by_record (Some r) e =
        let said = says p r (is_sound p r e) in
        let code_here : code ≡ code_of_kind r.kind = code_is ∙ said.kind_code in
        let n_here : n ≡ r.number = n_is ∙ said.number in
        let here : most_by code n entries ≡ most_by (code_of_kind r.kind) r.number entries = ap (λ k. most_by k n entries) code_here ∙ ap (λ k. most_by (code_of_kind r.kind) k entries) n_here in
        let b = blocks_most r.kind r.number entries p.body size in
        let s = sectors_most r.kind r.number entries in
        let same_s : least_sectors r.kind r.number entries ≡ least_sectors r.kind r.number (length p.body / 4) = ap (least_sectors r.kind r.number) size in
        let x : (most_by (code_of_kind r.kind) r.number entries).blocks ≤ t.blocks = subst (λ m. m.blocks ≤ t.blocks) here blocks in
        let y : (most_by (code_of_kind r.kind) r.number entries).sectors ≤ t.sectors = subst (λ m. m.sectors ≤ t.sectors) here sectors in
        told_kept (least_blocks_of r.kind r.number p.body) (least_sectors r.kind r.number (length p.body / 4)) t (le_trans b x) (le_trans (subst (λ k. k ≤ (most_by (code_of_kind r.kind) r.number entries).sectors) same_s s) y)

neither : (a b : Bool) → a || b ≡ false → (a ≡ false) × (b ≡ false)
neither false b e = (refl, e)
neither true b e = absurd (true≢false e)

-- one that could not tell more tells no more
pub told_same : (t : PagesTold) (d : ℕ) (p : Page) → length p.body ≡ d → may_raise t (most_in d p.spare) ≡ false → t ≡ told_with_page t (look_of p) p.body
told_same t d p size less =
    let parts = neither (nat_lt t.blocks (most_in d p.spare).blocks) (nat_lt t.sectors (most_in d p.spare).sectors) less in
    told_kept_by t p (d / 4) (little_number 4 (slice_range p.spare 4 8)) (slice_index p.spare 3) (ap (λ k. k / 4) (sym size)) refl refl
    (ltb-false t.blocks (most_in d p.spare).blocks parts.0) (ltb-false t.sectors (most_in d p.spare).sectors parts.1)
