-- A program or an erase of a die over a store is a case of the protocol.
use Rattle.std.proofs.Common.{◌≡◌, ℕ, ◌*◌, ◌/◌, ◌%◌, ◌<◌, ◌==◌, Bool, true, false, not, ◌&&◌, List, length, refl, sym, ◌∙◌, ap, subst, get_or, take, drop, Ok, Err}
use Rattle.std.specs.Prelude.{slice_set}
use Rattle.std.proofs.lemmas.List.{length-set}
use Rattle.page_layout.specs.declared.geometry.Geometry.{Geometry}
use Rattle.page_layout.specs.Geometry.{row_count}
use Rattle.page_layout.specs.Page.{Page, IsImage}
use Rattle.page_layout.specs.Flash.{Flash, NextState, Program, Erase, Steps, IsWhole, after_program, after_erase, next_page_at, may_program, may_erase, no_page, no_next_page}
use Rattle.onfi_cycles.specs.Cycles.{Due, Programs, Erases}
use Rattle.onfi_cycles.specs.declared.nand.BusFault.{BusFault}
use Rattle.file_die.specs.Store.{Held, AreImages}
use Rattle.file_die.specs.Die.{FileState, IsFit, ActsOverStore, Leaves, IfDue, Asks, ProgramsIn, ErasesInStore, shown, idle, change_ended}
use Rattle.file_die.proofs.DieLemmas.{acts_done, asks_none, program_steps, erase_steps}

pub whole_fit : {S : Type 0} → (held : S → Held) (honest : S → Bool) (d : FileState S) → IsFit held honest d → honest d.store ≡ true → IsWhole (shown held d).flash
whole_fit held honest d fit h = record { image_whole = (fit.images h).pages_whole; next_pages_whole = fit.blocks }

-- whether a program is due, by the next page of the block
may_of : (f : Flash) (row block page : ℕ) (t : NextState) → block ≡ row / f.geometry.pages → page ≡ row % f.geometry.pages → t ≡ get_or f.next_pages block no_next_page
    → (not t.barred && (t.next == page)) ≡ may_program f row
may_of f row block page t is_block is_page is =
    ap (λ (u : NextState). not u.barred && (u.next == page)) (is ∙ ap (next_page_at f) is_block) ∙ ap (λ n. not (next_page_at f (row / f.geometry.pages)).barred && ((next_page_at f (row / f.geometry.pages)).next == n)) is_page

-- the same of a row, by the parts of a die
pub may_at : {S : Type 0} → (held : S → Held) (parts d : FileState S) (g : Geometry) (row per per' : ℕ) (t : NextState) (due legal : Bool) → parts ≡ d → (held parts.store).geometry ≡ g → per ≡ g.pages → per' ≡ g.pages
    → t ≡ get_or d.next_pages (row / per) no_next_page → due ≡ (not t.barred && (t.next == row % per')) → legal ≡ due
    → (row / per ≡ row / (held d.store).geometry.pages) × (legal ≡ may_program (shown held d).flash row)
may_at held parts d g row per per' t due legal is same is_per is_per' next_page is_due is_legal =
    let pages : g.pages ≡ (held d.store).geometry.pages = ap (λ (x : Geometry). x.pages) (sym same ∙ ap (λ v. (held v.store).geometry) is) in
    let block : row / per ≡ row / (held d.store).geometry.pages = ap (λ n. row / n) (is_per ∙ pages) in
    (block, is_legal ∙ (is_due ∙ may_of (shown held d).flash row (row / per) (row % per') t block (ap (λ n. row % n) (is_per' ∙ pages)) next_page))

-- ---- the store failed

pub acts_failed : {S : Type 0} → (held : S → Held) (honest : S → Bool) (failed : S → ℕ) (due : Due) (d e : FileState S) (fault : BusFault)
    → IsFit held honest d → e ≡ idle e.store d → Asks held honest failed d.store e.store (Err fault) → (honest d.store ≡ true → AreImages (held e.store))
    → (honest d.store ≡ true → Leaves due (shown held d).flash d.sync_when (held d.store) false (held e.store)) → ActsOverStore held honest failed due d e (Err fault)
acts_failed held honest failed due d e fault fit is asks images leaves =
    let m = e.store in
    subst (λ v. ActsOverStore held honest failed due d v (Err fault)) (sym is)
    (subst (λ f. ActsOverStore held honest failed due d (idle m d) (Err f)) (sym asks.device)
    (record {
      follows = λ h. refl;
      leaves = leaves;
      whole = λ h. record { image_whole = (images h).pages_whole; next_pages_whole = fit.blocks ∙ ap (λ (g : Geometry). g.blocks) (sym asks.geometry) };
      geometry = asks.geometry;
      sync_when = refl;
      as_honest = asks.as_honest;
      rising = asks.rising;
      rose = λ e. asks.rose;
      settled = tt;
      uncounted = λ ne. absurd (ne refl);
    }))

if_due : (b : Bool) (P Q : Type 0) → b ≡ true → P → IfDue b P Q
if_due b P Q e p = subst (λ x. IfDue x P Q) (sym e) p

not_due : (b : Bool) (P Q : Type 0) → b ≡ false → Q → IfDue b P Q
not_due b P Q e q = subst (λ x. IfDue x P Q) (sym e) q

pub program_failed : {S : Type 0} → (held : S → Held) (honest : S → Bool) (failed : S → ℕ) (d e : FileState S) (row : ℕ) (page : Page) (fault : BusFault)
    → IsFit held honest d → e ≡ idle e.store d → Asks held honest failed d.store e.store (Err fault) → true ≡ may_program (shown held d).flash row
    → (honest d.store ≡ true → ProgramsIn (held d.store) row page d.sync_when false (held e.store)) → ActsOverStore held honest failed (Programs row page) d e (Err fault)
program_failed held honest failed d e row page fault fit is asks may programs =
    acts_failed held honest failed (Programs row page) d e fault fit is asks (λ h. (programs h).puts.whole (fit.images h))
    (λ h. if_due _ (ProgramsIn (held d.store) row page d.sync_when false (held e.store)) (held e.store ≡ held d.store) (sym may) (programs h))

pub erase_failed : {S : Type 0} → (held : S → Held) (honest : S → Bool) (failed : S → ℕ) (d e : FileState S) (block : ℕ) (fault : BusFault)
    → IsFit held honest d → e ≡ idle e.store d → Asks held honest failed d.store e.store (Err fault) → true ≡ may_erase (shown held d).flash block
    → (honest d.store ≡ true → ErasesInStore (held d.store) block false (held e.store)) → ActsOverStore held honest failed (Erases block) d e (Err fault)
erase_failed held honest failed d e block fault fit is asks may erases =
    acts_failed held honest failed (Erases block) d e fault fit is asks (λ h. (erases h).clears.whole (fit.images h))
    (λ h. if_due _ (ErasesInStore (held d.store) block false (held e.store)) (held e.store ≡ held d.store) (sym may) (erases h))

-- ---- the change was done, or was not due

long_set : (next_pages : List NextState) (block n : ℕ) (next_page : NextState) → length next_pages ≡ n → length (slice_set next_pages block next_page) ≡ n
long_set next_pages block n next_page e = length-set next_pages block next_page ∙ e

pub program_done : {S : Type 0} → (held : S → Held) (honest : S → Bool) (failed : S → ℕ) (d mid e : FileState S) (row block : ℕ) (page : Page) (was next_page : NextState) (legal passed : Bool)
    → IsFit held honest d → row < row_count (held d.store).geometry → block ≡ row / (held d.store).geometry.pages → legal ≡ may_program (shown held d).flash row → legal ≡ true → passed ≡ (legal && not false)
    → was ≡ get_or d.next_pages block no_next_page → next_page ≡ after_program was legal passed → mid ≡ idle mid.store d → e ≡ change_ended block next_page legal passed mid
    → Asks held honest failed d.store mid.store (Ok tt) → (honest d.store ≡ true → ProgramsIn (held d.store) row page d.sync_when true (held mid.store))
    → ActsOverStore held honest failed (Programs row page) d e (Ok tt)
program_done held honest failed d mid e row block page was next_page legal passed fit lt is_block due is_legal passes is_was turns_to is to asks programs =
    let may : true ≡ may_program (shown held d).flash row = sym is_legal ∙ due in
    let is_passed : passed ≡ true = passes ∙ ap (λ b. b && not false) is_legal in
    let is_turn : next_page ≡ after_program (get_or d.next_pages block no_next_page) true true = turns_to ∙ (ap (λ b. after_program was b passed) is_legal ∙ (ap (λ b. after_program was true b) is_passed ∙ ap (λ t. after_program t true true) is_was)) in
    let m = mid.store in
    let g : Geometry = (held d.store).geometry in
    let end : e ≡ change_ended block next_page true true (idle m d) = to ∙ (ap (λ b. change_ended block next_page b passed mid) is_legal ∙ (ap (λ b. change_ended block next_page true b mid) is_passed ∙ ap (change_ended block next_page true true) is)) in
    let next_pages : slice_set d.next_pages block next_page ≡ slice_set d.next_pages (row / g.pages) (after_program (next_page_at (shown held d).flash (row / g.pages)) true true)
    = ap (slice_set d.next_pages block) (is_turn ∙ ap (λ b. after_program (get_or d.next_pages b no_next_page) true true) is_block) ∙ ap (λ b. slice_set d.next_pages b (after_program (next_page_at (shown held d).flash (row / g.pages)) true true)) is_block in
    subst (λ v. ActsOverStore held honest failed (Programs row page) d v (Ok tt)) (sym end)
    (acts_done held honest failed (Programs row page) d (change_ended block next_page true true (idle m d)) refl asks
    (λ h.
    let images : AreImages (held m) = (programs h).puts.whole (fit.images h) in
    record {
      passed = true;
      step = subst (λ (x : Geometry). Steps (shown held d).flash (Program row page true (get_or (held m).pages row no_page)) (record { geometry = x; image = (held m).pages; next_pages = slice_set d.next_pages block next_page; abuse = d.abuse })) (sym asks.geometry)
          (program_steps g (held d.store).pages (held m).pages d.next_pages (slice_set d.next_pages block next_page) d.abuse d.abuse row page true (whole_fit held honest d fit h)
          (subst (λ (x : Geometry). IsImage x (held m).pages) asks.geometry images.pages_whole) lt may (λ e. (programs h).puts.put refl) (λ e. let no : ⊥ = cc in absurd no) next_pages refl);
      phase = refl;
      status = refl;
    })
    (λ h. if_due _ (ProgramsIn (held d.store) row page d.sync_when true (held m)) (held m ≡ held d.store) (sym may) (programs h))
    (λ h. record { image_whole = ((programs h).puts.whole (fit.images h)).pages_whole; next_pages_whole = long_set d.next_pages block _ next_page (fit.blocks ∙ ap (λ (g : Geometry). g.blocks) (sym asks.geometry)) }))

pub program_refused : {S : Type 0} → (held : S → Held) (honest : S → Bool) (failed : S → ℕ) (d e : FileState S) (row block : ℕ) (page : Page) (was next_page : NextState) (legal passed : Bool)
    → IsFit held honest d → row < row_count (held d.store).geometry → block ≡ row / (held d.store).geometry.pages → legal ≡ may_program (shown held d).flash row → legal ≡ false → passed ≡ (legal && not false)
    → was ≡ get_or d.next_pages block no_next_page → next_page ≡ after_program was legal passed → e ≡ change_ended block next_page legal passed d → ActsOverStore held honest failed (Programs row page) d e (Ok tt)
program_refused held honest failed d e row block page was next_page legal passed fit lt is_block due is_legal passes is_was turns_to to =
    let may : false ≡ may_program (shown held d).flash row = sym is_legal ∙ due in
    let is_passed : passed ≡ false = passes ∙ ap (λ b. b && not false) is_legal in
    let is_turn : next_page ≡ after_program (get_or d.next_pages block no_next_page) false false = turns_to ∙ (ap (λ b. after_program was b passed) is_legal ∙ (ap (λ b. after_program was false b) is_passed ∙ ap (λ t. after_program t false false) is_was)) in
    let g : Geometry = (held d.store).geometry in
    let next_pages : slice_set d.next_pages block next_page ≡ slice_set d.next_pages (row / g.pages) (after_program (next_page_at (shown held d).flash (row / g.pages)) false false)
    = ap (slice_set d.next_pages block) (is_turn ∙ ap (λ b. after_program (get_or d.next_pages b no_next_page) false false) is_block) ∙ ap (λ b. slice_set d.next_pages b (after_program (next_page_at (shown held d).flash (row / g.pages)) false false)) is_block in
    subst (λ v. ActsOverStore held honest failed (Programs row page) d v (Ok tt)) (sym (to ∙ (ap (λ b. change_ended block next_page b passed d) is_legal ∙ ap (λ b. change_ended block next_page false b d) is_passed)))
    (acts_done held honest failed (Programs row page) d (change_ended block next_page false false d) refl (asks_none held honest failed d.store)
    (λ h. record {
      passed = false;
      step = program_steps g (held d.store).pages (held d.store).pages d.next_pages (slice_set d.next_pages block next_page) d.abuse _ row page false (whole_fit held honest d fit h)
          (fit.images h).pages_whole lt may (λ e. let no : ⊥ = cc in absurd no) (λ e. refl) next_pages refl;
      phase = refl;
      status = refl;
    })
    (λ h. not_due _ (ProgramsIn (held d.store) row page d.sync_when true (held d.store)) (held d.store ≡ held d.store) (sym may) refl)
    (λ h. record { image_whole = (fit.images h).pages_whole; next_pages_whole = long_set d.next_pages block _ next_page fit.blocks }))

pub erase_done : {S : Type 0} → (held : S → Held) (honest : S → Bool) (failed : S → ℕ) (d mid e : FileState S) (block : ℕ) (was next_page : NextState) (legal passed : Bool)
    → IsFit held honest d → block < (held d.store).geometry.blocks → legal ≡ may_erase (shown held d).flash block → legal ≡ true → passed ≡ (legal && not false)
    → was ≡ get_or d.next_pages block no_next_page → next_page ≡ after_erase was legal passed → mid ≡ idle mid.store d → e ≡ change_ended block next_page legal passed mid
    → Asks held honest failed d.store mid.store (Ok tt) → (honest d.store ≡ true → ErasesInStore (held d.store) block true (held mid.store))
    → ActsOverStore held honest failed (Erases block) d e (Ok tt)
erase_done held honest failed d mid e block was next_page legal passed fit lt due is_legal passes is_was turns_to is to asks erases =
    let may : true ≡ may_erase (shown held d).flash block = sym is_legal ∙ due in
    let is_passed : passed ≡ true = passes ∙ ap (λ b. b && not false) is_legal in
    let is_turn : next_page ≡ after_erase (get_or d.next_pages block no_next_page) true true = turns_to ∙ (ap (λ b. after_erase was b passed) is_legal ∙ (ap (λ b. after_erase was true b) is_passed ∙ ap (λ t. after_erase t true true) is_was)) in
    let m = mid.store in
    let g : Geometry = (held d.store).geometry in
    let end : e ≡ change_ended block next_page true true (idle m d) = to ∙ (ap (λ b. change_ended block next_page b passed mid) is_legal ∙ (ap (λ b. change_ended block next_page true b mid) is_passed ∙ ap (change_ended block next_page true true) is)) in
    subst (λ v. ActsOverStore held honest failed (Erases block) d v (Ok tt)) (sym end)
    (acts_done held honest failed (Erases block) d (change_ended block next_page true true (idle m d)) refl asks
    (λ h.
    let images : AreImages (held m) = (erases h).clears.whole (fit.images h) in
    record {
      passed = true;
      step = subst (λ (x : Geometry). Steps (shown held d).flash (Erase block true (take x.pages (drop (block * x.pages) (held m).pages))) (record { geometry = x; image = (held m).pages; next_pages = slice_set d.next_pages block next_page; abuse = d.abuse })) (sym asks.geometry)
          (erase_steps g (held d.store).pages (held m).pages d.next_pages (slice_set d.next_pages block next_page) d.abuse d.abuse block true (whole_fit held honest d fit h)
          (subst (λ (x : Geometry). IsImage x (held m).pages) asks.geometry images.pages_whole) lt may (λ e. (erases h).clears.cleared refl) (λ e. let no : ⊥ = cc in absurd no) (ap (slice_set d.next_pages block) is_turn) refl);
      phase = refl;
      status = refl;
    })
    (λ h. if_due _ (ErasesInStore (held d.store) block true (held m)) (held m ≡ held d.store) (sym may) (erases h))
    (λ h. record { image_whole = ((erases h).clears.whole (fit.images h)).pages_whole; next_pages_whole = long_set d.next_pages block _ next_page (fit.blocks ∙ ap (λ (g : Geometry). g.blocks) (sym asks.geometry)) }))

pub erase_refused : {S : Type 0} → (held : S → Held) (honest : S → Bool) (failed : S → ℕ) (d e : FileState S) (block : ℕ) (was next_page : NextState) (legal passed : Bool)
    → IsFit held honest d → block < (held d.store).geometry.blocks → legal ≡ may_erase (shown held d).flash block → legal ≡ false → passed ≡ (legal && not false)
    → was ≡ get_or d.next_pages block no_next_page → next_page ≡ after_erase was legal passed → e ≡ change_ended block next_page legal passed d → ActsOverStore held honest failed (Erases block) d e (Ok tt)
erase_refused held honest failed d e block was next_page legal passed fit lt due is_legal passes is_was turns_to to =
    let may : false ≡ may_erase (shown held d).flash block = sym is_legal ∙ due in
    let is_passed : passed ≡ false = passes ∙ ap (λ b. b && not false) is_legal in
    let is_turn : next_page ≡ after_erase (get_or d.next_pages block no_next_page) false false = turns_to ∙ (ap (λ b. after_erase was b passed) is_legal ∙ (ap (λ b. after_erase was false b) is_passed ∙ ap (λ t. after_erase t false false) is_was)) in
    let g : Geometry = (held d.store).geometry in
    subst (λ v. ActsOverStore held honest failed (Erases block) d v (Ok tt)) (sym (to ∙ (ap (λ b. change_ended block next_page b passed d) is_legal ∙ ap (λ b. change_ended block next_page false b d) is_passed)))
    (acts_done held honest failed (Erases block) d (change_ended block next_page false false d) refl (asks_none held honest failed d.store)
    (λ h. record {
      passed = false;
      step = erase_steps g (held d.store).pages (held d.store).pages d.next_pages (slice_set d.next_pages block next_page) d.abuse _ block false (whole_fit held honest d fit h)
          (fit.images h).pages_whole lt may (λ e. let no : ⊥ = cc in absurd no) (λ e. refl) (ap (slice_set d.next_pages block) is_turn) refl;
      phase = refl;
      status = refl;
    })
    (λ h. not_due _ (ErasesInStore (held d.store) block true (held d.store)) (held d.store ≡ held d.store) (sym may) refl)
    (λ h. record { image_whole = (fit.images h).pages_whole; next_pages_whole = long_set d.next_pages block _ next_page fit.blocks }))
