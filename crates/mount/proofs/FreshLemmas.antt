-- A fresh die before anything is programmed.
use Rattle.std.proofs.Common.{◌≡◌, inl, inr, ℕ, ◌+◌, ◌*◌, ◌/◌, ◌<◌, Bool, true, false, List, [], length, get_or, Option, Some, None, refl, sym, ◌∙◌, ap, arith}
use Rattle.std.specs.Prelude.{is_some, ◌==◌, if◌then◌else◌}
use Rattle.std.proofs.lemmas.Bool.{cases_lt, not-false, not_from_true, cases_Bool}
use Rattle.std.proofs.lemmas.List.{get_or_past}
use Rattle.std.proofs.lemmas.Option.{slice_get-get_or}
use Rattle.page_layout.specs.declared.geometry.Geometry.{Geometry}
use Rattle.page_layout.specs.declared.record.Record.{Record}
use Rattle.page_layout.specs.declared.record.Key.{Key}
use Rattle.page_layout.specs.declared.record.Key.TheVariants.{Sector, Translation}
use Rattle.page_layout.specs.Geometry.{row_count}
use Rattle.page_layout.specs.Page.{Image, IsImage}
use Rattle.page_layout.specs.Sound.{record_of, is_erased_page}
use Rattle.page_layout.specs.Block.{block_pages, is_programmed, past_last}
use Rattle.page_layout.specs.Newest.{newest}
use Rattle.page_layout.specs.OneArray.{AreBelow}
use Rattle.page_layout.specs.Array.{marks, HasOneArray}
use Rattle.page_layout.specs.Flash.{Flash, no_page}
use Rattle.page_layout.proofs.ArrayLemmas.{unsound_at, length-marks}
use Rattle.page_layout.proofs.NewestLemmas.{newest-record}
use Rattle.page_layout.proofs.GeometryLemmas.{row_within}
use Rattle.bad_blocks.specs.declared.table.TableRow.{TableRow}
use Rattle.bad_blocks.specs.Marks.{is_marked}
use Rattle.bad_blocks.specs.Table.{is_good_at, good_count}
use Rattle.mount.specs.Fresh.{is_page_used, IsFresh}
use Rattle.promises.specs.Legal.{Account, account_at, accounts_of}
use Rattle.promises.proofs.AccountLemmas.{account_of}
use Rattle.mount.specs.Formatted.{table_after, good_after}
use Rattle.mount.specs.Attempt.{done_in, IsTrying}
use Rattle.page_layout.proofs.RecordLemmas.{erased_no_record}
use Rattle.mount.proofs.BlockLemmas.{block_of_row, none_of_block, past_last-zero}
use Rattle.mount.proofs.TableLemmas.{IsClear, good_is_clear, good_count-table}

-- ---- its pages

-- the pages of an unmarked block are erased
pub fresh_erased : (g : Geometry) (image : Image) (row : ℕ) → IsFresh g image → row < row_count g → is_marked g image (row / g.pages) ≡ false → is_erased_page (get_or image row no_page) ≡ true
fresh_erased g image row fresh within unmarked =
    let unused : is_page_used false (get_or image row no_page) ≡ false = ap (λ m. is_page_used m (get_or image row no_page)) (sym unmarked) ∙ fresh.none row (omega arith) within in
    not-false (is_erased_page (get_or image row no_page)) unused

none_from : (o : Option Record) → is_some o ≡ false → o ≡ None
none_from None is = refl
none_from (Some r) is = absurd (cc is)

-- no page has a record
fresh_page : (g : Geometry) (image : Image) (row : ℕ) → IsFresh g image → row < row_count g → record_of (get_or image row no_page) ≡ None
fresh_page g image row fresh within = elim (cases_Bool (is_marked g image (row / g.pages))) [
  | inl marked ↦ none_from (record_of (get_or image row no_page)) (ap (λ m. is_page_used m (get_or image row no_page)) (sym marked) ∙ fresh.none row (omega arith) within)
  | inr unmarked ↦ erased_no_record (get_or image row no_page) (fresh_erased g image row fresh within unmarked)
]

pub fresh_unsound : (g : Geometry) (image : Image) (row : ℕ) → IsFresh g image → length image ≡ row_count g → get_or (marks image) row None ≡ None
fresh_unsound g image row fresh whole = elim (cases_lt row (length image)) [
  | inl within ↦ unsound_at image row (get_or image row no_page) (slice_get-get_or image row no_page within) (fresh_page g image row fresh (omega arith))
  | inr past ↦ get_or_past (marks image) row None (rw length-marks past)
]

-- ---- what it means

none_newest : (ms : List (Option Record)) (key : Key) → ((row : ℕ) → get_or ms row None ≡ None) → newest ms key ≡ None
none_newest ms key none = go (newest ms key) refl
  where
    go : (o : Option ℕ) → newest ms key ≡ o → o ≡ None
    go None e = refl
    go (Some row) e =
        let found = newest-record ms key row e in
        let bad : Some found.0 ≡ None = sym found.1 ∙ none row in
        absurd (cc bad)

none_one : (g : Geometry) (image : Image) → ((row : ℕ) → get_or (marks image) row None ≡ None) → HasOneArray g image
none_one g image none = record {
  distinct = record { apart = λ a b x y at_a at_b same. (let bad : Some x ≡ None = sym at_a ∙ none a in absurd (cc bad)) };
  in_range = λ row r at. (let bad : Some r ≡ None = sym at ∙ none row in absurd (cc bad));
}

none_below : (image : Image) (next : ℕ) → ((row : ℕ) → get_or (marks image) row None ≡ None) → AreBelow (marks image) next
none_below image next none = record { below = λ row x at. (let bad : Some x ≡ None = sym at ∙ none row in absurd (cc bad)) }

-- ---- its accounts

pub account-unmarked : (g : Geometry) (image : Image) (b : ℕ) → IsFresh g image → b < g.blocks → is_marked g image b ≡ false → account_at (accounts_of g image (is_marked g image)) b ≡ record { next = 0; barred = false }
account-unmarked g image b fresh within unmarked =
    let erased : (k : ℕ) → k < g.pages → is_programmed (get_or image (b * g.pages + k) no_page) ≡ false =
    λ k l. not_from_true (is_erased_page (get_or image (b * g.pages + k) no_page))
    (fresh_erased g image (b * g.pages + k) fresh (row_within g b k within l) (ap (is_marked g image) (block_of_row g b k l) ∙ unmarked)) in
    let next : past_last (block_pages g image b) ≡ 0 = past_last-zero (block_pages g image b) (none_of_block g image b is_programmed erased) in
    let of_parts : ℕ → Bool → Account = λ n m. record { next = n; barred = m } in
    account_of g image (is_marked g image) b within
    ∙ (ap (λ n. of_parts n (is_marked g image b)) next ∙ ap (λ m. of_parts 0 m) unmarked)

-- ---- the start

pub done_none : (block b : ℕ) → done_in block 0 b ≡ 0
done_none block b = same (b == block)
  where
    same : (t : Bool) → ◌≡◌ {A = ℕ} (if t then 0 else 0) 0
    same true = refl
    same false = refl

pub start : (g : Geometry) (first : Flash) (table : List TableRow) (block : ℕ) → IsFresh g first.image → IsImage g first.image → table ≡ table_after g first.image [] → IsTrying g first first table block 0 1 0
start g first table block fresh whole is =
    let none : (row : ℕ) → get_or (marks first.image) row None ≡ None = λ row. fresh_unsound g first.image row fresh whole.rows in
    let clear : (b : ℕ) → b < g.blocks → is_good_at table b ≡ true → IsClear g first.image [] b = λ b l good. good_is_clear g first.image [] b l (rw (← is) good) in
    record {
      log = [];
      failed_is = refl;
      fewer = (let same : good_count table ≡ good_after g first.image [] = ap good_count is ∙ good_count-table g first.image [] in omega arith);
      underway = record {
        fresh = fresh;
        whole = whole;
        did = record { leads = refl; legal = tt; erases = refl };
        count = refl;
        table_is = is;
        turns = λ b l good. account-unmarked g first.image b fresh l (clear b l good).unmarked ∙ ap turn (sym (done_none block b));
        kept = λ row l good turn. refl;
        one = none_one g first.image none;
        below = none_below first.image 1 none;
        no_sector = λ n. none_newest (marks first.image) (Sector n) none;
        no_translation = λ t. none_newest (marks first.image) (Translation t) none;
        tried = λ other b failed. absurd (cc failed);
        sequence = 1;
        sequence_is = refl;
        pages = λ u l. absurd (omega arith);
      };
    }
  where
    turn : ℕ → Account
    turn n = record { next = n; barred = false }
