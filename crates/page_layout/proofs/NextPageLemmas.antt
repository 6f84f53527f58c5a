-- What an operation makes of the next pages of the blocks.
use Rattle.std.proofs.Common.{◌≡◌, inl, inr, ℕ, ◌+◌, ◌/◌, ◌%◌, ◌==◌, ◌<◌, ◌&&◌, ◌||◌, not, Bool, true, false, if◌then◌else◌, List, length, get_or}
use Rattle.std.proofs.Common.{refl, sym, ◌∙◌, ap, subst, arith}
use Rattle.std.specs.Prelude.{slice_set}
use Rattle.std.proofs.lemmas.Bool.{cases_lt, and_parts, not-true}
use Rattle.std.proofs.lemmas.List.{get_or_past, get_or-set_same, get_or-set_other, length-set}
use Rattle.page_layout.specs.Page.{Page}
use Rattle.page_layout.specs.Flash.{Flash, Program, Erase, NextState, no_next_page, next_page_at, may_program, may_erase, after_program, after_erase, after, Steps}
use Rattle.page_layout.specs.StepLaws.{MovesTurn, ProgramNextLaw, ProgramCountLaw, EraseNextLaw, EraseCountLaw}

-- ---- one next page set

-- a block that isn't barred is one of the die's
good_within : (next_pages : List NextState) (block : ℕ) → (get_or next_pages block no_next_page).barred ≡ false → block < length next_pages
good_within next_pages block good =
    elim (cases_lt block (length next_pages)) [
      | inl lt ↦ lt
      | inr ge ↦ let e : true ≡ false = sym (ap (λ (t : NextState). t.barred) (get_or_past next_pages block no_next_page ge)) ∙ good in cc
    ]

-- a fact of the block's next page that the next page set has too: past the blocks nothing is set
either_way : (next_pages : List NextState) (block : ℕ) (next_page : NextState) (P : NextState → Type 0) → P next_page → P (get_or next_pages block no_next_page) → P (get_or (slice_set next_pages block next_page) block no_next_page)
either_way next_pages block next_page P now was =
    elim (cases_lt block (length next_pages)) [
      | inl lt ↦ subst P (sym (get_or-set_same next_pages block next_page no_next_page lt)) now
      | inr ge ↦
          let past : get_or next_pages block no_next_page ≡ get_or (slice_set next_pages block next_page) block no_next_page =
          get_or_past next_pages block no_next_page ge ∙ sym (get_or_past (slice_set next_pages block next_page) block no_next_page (omega (arith, ge, length-set next_pages block next_page))) in
          subst P past was
    ]

-- what stands there of the new next page, as `after_program` and `after_erase` make it
record Made (t u : NextState) (next : ℕ) (due passed : Bool) : Type 0 where
  next_is : u.next ≡ (if due && passed then next else t.next)
  barred_is : u.barred ≡ (t.barred || (due && not passed))
  good : due ≡ true → t.barred ≡ false

or_false : (b : Bool) → (b || false) ≡ b
or_false true = refl
or_false false = refl

moves : (old new : Flash) (block next : ℕ) (due passed : Bool) (u : NextState) → new.next_pages ≡ slice_set old.next_pages block u → Made (next_page_at old block) u next due passed → MovesTurn old new block next due passed
moves old new block next due passed u set made = record {
  passes_next = λ e f. ap (λ (t : NextState). t.next) (now e) ∙ (made.next_is ∙ by_next e f);
  passes_good = λ e f. ap (λ (t : NextState). t.barred) (now e) ∙ (made.barred_is ∙ (by_barred e f ∙ (or_false was.barred ∙ made.good e)));
  fails_next = λ e f. ap (λ (t : NextState). t.next) (now e) ∙ (made.next_is ∙ by_next e f);
  fails_barred = λ e f. ap (λ (t : NextState). t.barred) (now e) ∙ (made.barred_is ∙ (by_barred e f ∙ ap (λ b. b || true) (made.good e)));
  refused_next = λ e. at_block (λ t. t.next ≡ was.next) (made.next_is ∙ ap (λ d. if d && passed then next else was.next) e) refl;
  refused_barred = λ e. at_block (λ t. t.barred ≡ was.barred) (made.barred_is ∙ (ap (λ d. was.barred || (d && not passed)) e ∙ or_false was.barred)) refl;
  others = λ other ne. ap (λ next_pages. get_or next_pages other no_next_page) set ∙ get_or-set_other old.next_pages block other u no_next_page ne;
}
  where
    was : NextState
    was = next_page_at old block

    now : due ≡ true → next_page_at new block ≡ u
    now e = ap (λ next_pages. get_or next_pages block no_next_page) set ∙ get_or-set_same old.next_pages block u no_next_page (good_within old.next_pages block (made.good e))

    at_block : (P : NextState → Type 0) → P u → P was → P (next_page_at new block)
    at_block P holds held = subst P (ap (λ next_pages. get_or next_pages block no_next_page) (sym set)) (either_way old.next_pages block u P holds held)

    by_next : due ≡ true → {p : Bool} → passed ≡ p → (if due && passed then next else was.next) ≡ (if p then next else was.next)
    by_next e f = ap (λ d. if d && passed then next else was.next) e ∙ ap (λ p. if p then next else was.next) f

    by_barred : due ≡ true → {p : Bool} → passed ≡ p → (was.barred || (due && not passed)) ≡ (was.barred || not p)
    by_barred e f = ap (λ d. was.barred || (d && not passed)) e ∙ ap (λ p. was.barred || not p) f

-- ---- programs and erases

program_sets : (old new : Flash) (row : ℕ) (p : Page) (passed : Bool) (left : Page) → Steps old (Program row p passed left) new
    → new.next_pages ≡ slice_set old.next_pages (row / old.geometry.pages) (after_program (next_page_at old (row / old.geometry.pages)) (may_program old row) passed)
unfolding after
program_sets old new row p passed left steps = ap (λ (f : Flash). f.next_pages) steps.left

erase_sets : (old new : Flash) (block : ℕ) (passed : Bool) (left : List Page) → Steps old (Erase block passed left) new → new.next_pages ≡ slice_set old.next_pages block (after_erase (next_page_at old block) (may_erase old block) passed)
unfolding after
erase_sets old new block passed left steps = ap (λ (f : Flash). f.next_pages) steps.left

pub program_next : ProgramNextLaw
program_next old new row p passed left steps =
    let block : ℕ = row / old.geometry.pages in
    let was : NextState = next_page_at old block in
    moves old new block (was.next + 1) (may_program old row) passed (after_program was (may_program old row) passed) (program_sets old new row p passed left steps) (record {
      next_is = refl;
      barred_is = refl;
      good = λ due. not-true was.barred (and_parts (not was.barred) (was.next == row % old.geometry.pages) due).0;
    })

pub program_count : ProgramCountLaw
program_count old new row p passed left within steps =
    let block : ℕ = row / old.geometry.pages in
    let next_page : NextState = after_program (next_page_at old block) (may_program old row) passed in
    let now : next_page_at new block ≡ next_page = ap (λ next_pages. get_or next_pages block no_next_page) (program_sets old new row p passed left steps) ∙ get_or-set_same old.next_pages block next_page no_next_page within in
    record { programs = ap (λ (t : NextState). t.programs) now; erases = ap (λ (t : NextState). t.erases) now }

pub erase_next : EraseNextLaw
erase_next old new block passed left steps =
    let was : NextState = next_page_at old block in
    moves old new block 0 (may_erase old block) passed (after_erase was (may_erase old block) passed) (erase_sets old new block passed left steps) (record {
      next_is = refl;
      barred_is = refl;
      good = not-true was.barred;
    })

pub erase_count : EraseCountLaw
erase_count old new block passed left steps =
    let next_page : NextState = after_erase (next_page_at old block) (may_erase old block) passed in
    let now : next_page_at new block ≡ next_page = ap (λ next_pages. get_or next_pages block no_next_page) (erase_sets old new block passed left steps) ∙ get_or-set_same old.next_pages block next_page no_next_page steps.lawful.in_range in
    record { programs = ap (λ (t : NextState). t.programs) now; erases = ap (λ (t : NextState). t.erases) now }
