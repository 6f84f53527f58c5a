-- A program or an erase of the fields is one of the flash.
use Rattle.std.proofs.Common.{◌≡◌, ℕ, ◌/◌, ◌%◌, ◌<◌, Bool, not, ◌&&◌, ◌==◌, List, length, sym, ◌∙◌, ap, subst, arith, get_or, if◌then◌else◌}
use Rattle.std.specs.Prelude.{slice_set, map}
use Rattle.std.proofs.lemmas.List.{get_or-map, map-set}
use Rattle.std.proofs.Math.Nat.{div-lt_iff_lt-mul}
use Rattle.page_layout.specs.declared.geometry.Geometry.{Geometry}
use Rattle.page_layout.specs.Geometry.{row_count}
use Rattle.page_layout.specs.Page.{Page}
use Rattle.page_layout.specs.Raw.{raw_image}
use Rattle.page_layout.specs.Counter.{counted}
use Rattle.page_layout.specs.Flash.{Flash, NextState, Program, Erase, after, next_page_at, may_program, may_erase, no_next_page, after_program, after_erase, with_block}
use Rattle.nand_die.specs.NextPages.{next_page_of, flash_of}
use Rattle.nand_die.specs.declared.change.NextPage.{NextPage}

pub turn_here : (g : Geometry) (bytes : List ℕ) (next_pages : List NextPage) (abuse block : ℕ) (t : NextPage) → block < length next_pages → t ≡ get_or next_pages block t
    → next_page_at (flash_of g bytes next_pages abuse) block ≡ next_page_of t
turn_here g bytes next_pages abuse block t lt read = get_or-map next_page_of next_pages block t no_next_page lt ∙ ap next_page_of (sym read)

pub may_here : (g : Geometry) (bytes : List ℕ) (next_pages : List NextPage) (abuse row block : ℕ) (t : NextPage) → row / g.pages ≡ block → block < length next_pages → t ≡ get_or next_pages block t
    → may_program (flash_of g bytes next_pages abuse) row ≡ (not t.barred && (t.next == row % g.pages))
may_here g bytes next_pages abuse row block t at lt read =
    ap (λ b. not (next_page_at (flash_of g bytes next_pages abuse) b).barred && ((next_page_at (flash_of g bytes next_pages abuse) b).next == row % g.pages)) at
    ∙ ap (λ (u : NextState). not u.barred && (u.next == row % g.pages)) (turn_here g bytes next_pages abuse block t lt read)

-- the flash with this image, these next pages and this abuse
abbrev flash_with : Geometry → List Page → List NextState → ℕ → Flash
flash_with g image next_pages abuse = record { geometry = g; image = image; next_pages = next_pages; abuse = abuse }

pub programs_so : (g : Geometry) (bytes bytes' : List ℕ) (next_pages : List NextPage) (abuse row block : ℕ) (t new : NextPage) (page left : Page) (legal passed : Bool)
    → row / g.pages ≡ block → block < length next_pages → t ≡ get_or next_pages block t → next_page_of new ≡ after_program (next_page_of t) legal passed
    → legal ≡ (not t.barred && (t.next == row % g.pages)) → raw_image g bytes' ≡ slice_set (raw_image g bytes) row left
    → flash_of g bytes' (slice_set next_pages block new) (if legal then abuse else counted abuse) ≡ after (flash_of g bytes next_pages abuse) (Program row page passed left)
unfolding after
programs_so g bytes bytes' next_pages abuse row block t new page left legal passed at lt read is_new is_legal written =
    let old : Flash = flash_of g bytes next_pages abuse in
    let image : List Page = slice_set (raw_image g bytes) row left in
    let next_page : next_page_at old (row / g.pages) ≡ next_page_of t = ap (next_page_at old) at ∙ turn_here g bytes next_pages abuse block t lt read in
    let may : legal ≡ may_program old row = is_legal ∙ sym (may_here g bytes next_pages abuse row block t at lt read) in
    let e_turns : map next_page_of (slice_set next_pages block new) ≡ slice_set (map next_page_of next_pages) (row / g.pages) (after_program (next_page_at old (row / g.pages)) (may_program old row) passed)
    = map-set next_page_of next_pages block new ∙ (ap (slice_set (map next_page_of next_pages) block) (is_new ∙ (ap (λ u. after_program u legal passed) (sym next_page) ∙ ap (λ b. after_program (next_page_at old (row / g.pages)) b passed) may))
    ∙ ap (λ b. slice_set (map next_page_of next_pages) b (after_program (next_page_at old (row / g.pages)) (may_program old row) passed)) (sym at)) in
    ap (λ i. flash_with g i (map next_page_of (slice_set next_pages block new)) (if legal then abuse else counted abuse)) written
    ∙ (ap (λ ts. flash_with g image ts (if legal then abuse else counted abuse)) e_turns
    ∙ ap (λ b. flash_with g image (slice_set (map next_page_of next_pages) (row / g.pages) (after_program (next_page_at old (row / g.pages)) (may_program old row) passed)) (if b then abuse else counted abuse)) may)

pub erases_so : (g : Geometry) (bytes bytes' : List ℕ) (next_pages : List NextPage) (abuse block : ℕ) (t new : NextPage) (left : List Page) (legal passed : Bool)
    → block < length next_pages → t ≡ get_or next_pages block t → next_page_of new ≡ after_erase (next_page_of t) legal passed → legal ≡ not t.barred
    → raw_image g bytes' ≡ with_block g.pages block left (raw_image g bytes)
    → flash_of g bytes' (slice_set next_pages block new) (if legal then abuse else counted abuse) ≡ after (flash_of g bytes next_pages abuse) (Erase block passed left)
unfolding after
erases_so g bytes bytes' next_pages abuse block t new left legal passed lt read is_new is_legal written =
    let old : Flash = flash_of g bytes next_pages abuse in
    let image : List Page = with_block g.pages block left (raw_image g bytes) in
    let next_page : next_page_at old block ≡ next_page_of t = turn_here g bytes next_pages abuse block t lt read in
    let may : legal ≡ may_erase old block = is_legal ∙ ap (λ (u : NextState). not u.barred) (sym next_page) in
    let e_turns : map next_page_of (slice_set next_pages block new) ≡ slice_set (map next_page_of next_pages) block (after_erase (next_page_at old block) (may_erase old block) passed)
    = map-set next_page_of next_pages block new ∙ ap (slice_set (map next_page_of next_pages) block) (is_new ∙ (ap (λ u. after_erase u legal passed) (sym next_page) ∙ ap (λ b. after_erase (next_page_at old block) b passed) may)) in
    ap (λ i. flash_with g i (map next_page_of (slice_set next_pages block new)) (if legal then abuse else counted abuse)) written
    ∙ (ap (λ ts. flash_with g image ts (if legal then abuse else counted abuse)) e_turns
    ∙ ap (λ b. flash_with g image (slice_set (map next_page_of next_pages) block (after_erase (next_page_at old block) (may_erase old block) passed)) (if b then abuse else counted abuse)) may)

pub block_in : (g : Geometry) (row pages n : ℕ) → pages ≡ g.pages → n ≡ g.blocks → row < row_count g → row / pages < n
block_in g row pages n e f lt =
    subst (λ p. row / p < n) (sym e) (subst (λ k. row / g.pages < k) (sym f) ((div-lt_iff_lt-mul {k = g.pages} {x = row} {y = g.blocks} (omega (arith, g.limits.page_count.least))).1 lt))
