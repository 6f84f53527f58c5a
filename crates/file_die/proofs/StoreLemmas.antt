-- What the calls of a store leave.
use Rattle.std.proofs.Common.{◌≡◌, ◌∙◌, ◌<◌, ◌≤◌, ◌/◌, ◌+◌, ◌*◌, ap, refl, sym, subst, arith, ℕ, Bool, List, [], ◌∷◌, length, replicate}
use Rattle.std.proofs.lemmas.List.{get_or-set_same, get_or-replicate, length-replicate}
use Rattle.page_layout.specs.declared.geometry.Geometry.{Geometry}
use Rattle.page_layout.specs.Geometry.{row_count}
use Rattle.page_layout.specs.Page.{Image}
use Rattle.page_layout.specs.Change.{erased_page}
use Rattle.page_layout.specs.Flash.{no_page, with_block}
use Rattle.page_layout.proofs.FlashLemmas.{inside, with_block-inside}
use Rattle.nand_die.proofs.PagesLemmas.{block_within}
use Rattle.file_die.specs.Store.{Held, AreImages, page_in}
use Rattle.file_die.specs.Laws.{Call, Load, Put, Clear, Sync, CallsStore, StoreRun, Spares, SpareAll, StaysLaw, PutIsLoadedLaw, ClearedLaw, LoadLaw, SyncLaw, WholeLaw}

-- one call spares the row: its page stays
spared : (s t : Held) (call : Call) (done : Bool) (row : ℕ) → CallsStore s call done t → Spares s.geometry row call → page_in t.pages row ≡ page_in s.pages row
spared s t (Load r page) done row c n = ap (λ (h : Held). page_in h.pages row) c.does.same
spared s t (Put r page) done row c n = c.does.others row n
spared s t (Clear block) done row c n = c.does.others row n
spared s t Sync done row c n = ap (λ (image : Image). page_in image row) c.does.same

-- and it lasts where it lasted
outlasts : (s t : Held) (call : Call) (done : Bool) (row : ℕ) → CallsStore s call done t → Spares s.geometry row call → page_in s.durable row ≡ page_in s.pages row → page_in t.durable row ≡ page_in s.pages row
outlasts s t (Load r page) done row c n e = ap (λ (h : Held). page_in h.durable row) c.does.same ∙ e
outlasts s t (Put r page) done row c n e = (c.does.lasts row).kept e (c.does.others row n)
outlasts s t (Clear block) done row c n e = (c.does.lasts row).kept e (c.does.others row n)
outlasts s t Sync done row c n e = (c.does.lasts row).kept e (ap (λ (image : Image). page_in image row) c.does.same)

whole_call : (s t : Held) (call : Call) (done : Bool) → AreImages s → CallsStore s call done t → AreImages t
whole_call s t (Load r page) done w c = subst AreImages (sym c.does.same) w
whole_call s t (Put r page) done w c = c.does.whole w
whole_call s t (Clear block) done w c = c.does.whole w
whole_call s t Sync done w c = c.does.whole w

pub stays : StaysLaw
stays s t [] row r a = ap (λ (h : Held). page_in h.pages row) r
stays s t (call ∷ calls) row r a =
    stays r.0 t calls row r.3 (subst (λ g. SpareAll g row calls) (sym r.2.geometry) a.1) ∙ spared s r.0 call r.1 row r.2 a.0

lasts_on : (s t : Held) (calls : List Call) (row : ℕ) → StoreRun s calls t → SpareAll s.geometry row calls → page_in s.durable row ≡ page_in s.pages row → page_in t.durable row ≡ page_in s.pages row
lasts_on s t [] row r a e = ap (λ (h : Held). page_in h.durable row) r ∙ e
lasts_on s t (call ∷ calls) row r a e =
    let now = spared s r.0 call r.1 row r.2 a.0 in
    lasts_on r.0 t calls row r.3 (subst (λ g. SpareAll g row calls) (sym r.2.geometry) a.1) (outlasts s r.0 call r.1 row r.2 a.0 e ∙ sym now) ∙ now

pub whole_run : WholeLaw
whole_run s t [] w r = subst AreImages (sym r) w
whole_run s t (call ∷ calls) w r = whole_run r.0 t calls (whole_call s r.0 call r.1 w r.2) r.3

pub load_law : LoadLaw
load_law s t row page done c = c.does.same

pub read_back : PutIsLoadedLaw
read_back s t u v calls row page given w lt put run spare load =
    let there : page_in t.pages row ≡ page = ap (λ (image : Image). page_in image row) (put.does.put refl) ∙ get_or-set_same s.pages row page no_page (subst (λ n. row < n) (sym w.pages_whole.rows) lt) in
    load.does.gave refl ∙ (stays t u calls row run (subst (λ g. SpareAll g row calls) (sym put.geometry) spare) ∙ there)

-- a row of a block that was erased
pub erased_in : (g : Geometry) (block row : ℕ) (image : Image) → length image ≡ row_count g → block < g.blocks → row / g.pages ≡ block
    → page_in (with_block g.pages block (replicate g.pages (erased_page g)) image) row ≡ erased_page g
erased_in g block row image rows lt is =
    let some : 0 < g.pages = omega (arith, g.limits.page_count.least) in
    let k = inside g.pages block row some is in
    let fits : block * g.pages + g.pages ≤ length image = subst (λ n. block * g.pages + g.pages ≤ n) (sym rows) (block_within g block lt) in
    ap (λ q. page_in (with_block g.pages block (replicate g.pages (erased_page g)) image) q) k.2
    ∙ (with_block-inside g.pages block k.0 (replicate g.pages (erased_page g)) image (length-replicate g.pages (erased_page g)) fits k.1
    ∙ get_or-replicate g.pages k.0 (erased_page g) no_page k.1)

pub cleared : ClearedLaw
cleared s t u v calls row block given w lt is clear run spare load =
    let there : page_in t.pages row ≡ erased_page s.geometry = ap (λ (image : Image). page_in image row) (clear.does.cleared refl) ∙ erased_in s.geometry block row s.pages w.pages_whole.rows lt is in
    load.does.gave refl ∙ (stays t u calls row run (subst (λ g. SpareAll g row calls) (sym clear.geometry) spare) ∙ there)

pub sync_law : SyncLaw
sync_law s t u calls row sync run spare =
    let held : t.durable ≡ s.pages = sync.does.synced refl in
    let same : t.pages ≡ s.pages = sync.does.same in
    (held, lasts_on t u calls row run (subst (λ g. SpareAll g row calls) (sym sync.geometry) spare) (ap (λ (image : Image). page_in image row) (held ∙ sym same)) ∙ ap (λ (image : Image). page_in image row) same)
