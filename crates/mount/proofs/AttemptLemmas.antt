-- One more program of a table page.
use Rattle.std.proofs.Common.{◌≡◌, ◌≢◌, inl, inr, ℕ, ◌+◌, ◌*◌, ◌/◌, ◌%◌, ◌<◌, ◌≤◌, Bool, true, false, List, [], ◌∷◌, ◌++◌, length, Some, slice_get}
use Rattle.std.proofs.Common.{refl, sym, ◌∙◌, ap, subst, arith}
use Rattle.std.proofs.lemmas.Bool.{cases_lt, cases_eq, eq-eqb, ne_eqb, both_ways}
use Rattle.std.proofs.lemmas.List.{get_or-set_same, get_or-set_other}
use Rattle.page_layout.specs.declared.geometry.Geometry.{Geometry}
use Rattle.page_layout.specs.declared.record.Record.{Record}
use Rattle.page_layout.specs.declared.record.Key.TheVariants.{Sector, Translation, Table}
use Rattle.page_layout.specs.Geometry.{entries, row_count, table_pages}
use Rattle.page_layout.specs.Page.{Page}
use Rattle.page_layout.specs.Sound.{version_of, version_for, record_of}
use Rattle.page_layout.specs.Change.{IsUnsoundAt, Keeps, Writes}
use Rattle.page_layout.specs.Flash.{Flash, Operation, Program, Steps, page_at}
use Rattle.page_layout.proofs.ArrayLemmas.{mark-same}
use Rattle.page_layout.proofs.FlashLemmas.{Leads-append, Leads-one, program_writes, program_below, program_keeps, program_next, program_other, program_sets}
use Rattle.page_layout.proofs.GeometryLemmas.{row_within}
use Rattle.bad_blocks.specs.declared.class.Class.TheVariants.{Grown}
use Rattle.bad_blocks.specs.declared.table.TableRow.{TableRow}
use Rattle.bad_blocks.specs.Marks.{is_marked}
use Rattle.bad_blocks.specs.Table.{no_table_row, wear_at, is_good, is_good_at, retired}
use Rattle.bad_blocks.specs.TablePage.{table_bytes}
use Rattle.bad_blocks.proofs.TableLemmas.{slice_get-set_same}
use Rattle.promises.specs.Legal.{IsDue, Account, account_at, accounts_of, accounted_all, account_after}
use Rattle.promises.proofs.AccountLemmas.{length-accounts_of, length-accounted_all, accounted-same, accounted-other}
use Rattle.promises.proofs.LogLemmas.{counts}
use Rattle.promises.proofs.LegalLemmas.{accounts_join, legal_append}
use Rattle.mount.specs.Formatted.{table_after, table_record, IsDone, HasTablePage}
use Rattle.mount.specs.Attempt.{done_in, IsUnderway, IsTrying, IsTableProgram}
use Rattle.onfi_cycles.specs.declared.nand.Outcome.{Outcome}
use Rattle.onfi_cycles.specs.Outcomes.{is_passed}
use Rattle.mount.proofs.SizeLemmas.{table_pages_fit}
use Rattle.mount.proofs.GoodLemmas.{good_count-retired}
use Rattle.mount.proofs.LogLemmas.{failed_in-passed, failed_in-other, failures-passed, failures-failed}
use Rattle.mount.proofs.TableLemmas.{length-table_after, table_after-passed, table_after-failed}
use Rattle.mount.proofs.BlockLemmas.{block_of_row, page_of_row}
use Rattle.mount.proofs.FreshLemmas.{fresh_unsound, done_none}

abbrev turn : ℕ → Account
turn n = record { next = n; barred = false }

pub done-same : (block done b : ℕ) → b ≡ block → done_in block done b ≡ done
done-same block done b is = rw (eq-eqb b block is) refl

pub done-other : (block done b : ℕ) → b ≢ block → done_in block done b ≡ 0
done-other block done b ne = rw (ne_eqb b block ne) refl

-- a page that isn't among the first ones and one more isn't among the first ones
done-less : (block done b page : ℕ) → done_in block (done + 1) b ≤ page → done_in block done b ≤ page
done-less block done b page le = elim (cases_eq b block) [
  | inl same ↦ omega (arith, done-same block done b same, done-same block (done + 1) b same)
  | inr ne ↦ omega (arith, done-other block done b ne)
]

-- ---- what is known of the page whose turn it is

-- the next page of the block that is being tried
pub record IsNext (g : Geometry) (first old : Flash) (table : List TableRow) (block done next : ℕ) (log : List Operation) : Type 0 where
  pub so_far : IsUnderway g first old table block done next log
  pub within : block < g.blocks
  pub room : done < table_pages g
  pub small : table_pages g ≤ g.pages
  pub good : is_good_at table block ≡ true

abbrev pub row_of : Geometry → ℕ → ℕ → ℕ
row_of g block done = block * g.pages + done

next_block : (g : Geometry) (first old : Flash) (table : List TableRow) (block done next : ℕ) (log : List Operation) → IsNext g first old table block done next log → row_of g block done / g.pages ≡ block
next_block g first old table block done next log h = block_of_row g block done (omega (arith, h.room, h.small))

next_unsound : (g : Geometry) (first old : Flash) (table : List TableRow) (block done next : ℕ) (log : List Operation) → IsNext g first old table block done next log → IsUnsoundAt old.image (row_of g block done)
next_unsound g first old table block done next log h =
    let l : done < g.pages = omega (arith, h.room, h.small) in
    let row : ℕ = row_of g block done in
    let in_block : row / g.pages ≡ block = block_of_row g block done l in
    let page : row % g.pages ≡ done = page_of_row g block done l in
    let mine : done_in block done (row / g.pages) ≡ done = done-same block done (row / g.pages) in_block in
    let kept : slice_get old.image row ≡ slice_get first.image row = h.so_far.kept row (row_within g block done h.within l) (rw in_block h.good) (omega (arith, mine, page)) in
    mark-same old.image first.image row kept ∙ fresh_unsound g first.image row h.so_far.fresh h.so_far.whole.rows

-- the account of the block that is being tried
next_turn : (g : Geometry) (first old : Flash) (table : List TableRow) (block done next : ℕ) (log : List Operation) → IsNext g first old table block done next log
    → account_at (accounted_all g.pages (accounts_of g first.image (is_marked g first.image)) log) block ≡ turn done
next_turn g first old table block done next log h = h.so_far.turns block h.within h.good ∙ ap turn (done-same block done block refl)

-- the program is due
next_due : (g : Geometry) (first old : Flash) (table : List TableRow) (block done next : ℕ) (log : List Operation) (its left : Page) (passed : Bool) → IsNext g first old table block done next log
    → IsDue g.pages (accounted_all g.pages (accounts_of g first.image (is_marked g first.image)) log) (Program (row_of g block done) its passed left)
next_due g first old table block done next log its left passed h =
    let accounts : List Account = accounted_all g.pages (accounts_of g first.image (is_marked g first.image)) log in
    let same : account_at accounts (row_of g block done / g.pages) ≡ turn done =
    ap (λ b. account_at accounts b) (next_block g first old table block done next log h) ∙ next_turn g first old table block done next log h in
    record {
      good = ap (λ (a : Account). a.barred) same;
      next = ap (λ (a : Account). a.next) same ∙ sym (page_of_row g block done (omega (arith, h.room, h.small)));
    }

-- the log with one program more
done_more : (g : Geometry) (first old new : Flash) (table : List TableRow) (block done next : ℕ) (log : List Operation) (its left : Page) (passed : Bool) → IsNext g first old table block done next log
    → Steps old (Program (row_of g block done) its passed left) new → IsDone g first new (log ++ Program (row_of g block done) its passed left ∷ [])
done_more g first old new table block done next log its left passed h steps =
    let op : Operation = Program (row_of g block done) its passed left in
    record {
      leads = Leads-append first old new log (op ∷ []) h.so_far.did.leads (Leads-one old new op steps);
      legal = legal_append g.pages (accounts_of g first.image (is_marked g first.image)) log (op ∷ []) h.so_far.did.legal (next_due g first old table block done next log its left passed h, tt);
      erases = omega (arith, (counts g.pages 0 log (op ∷ [])).erases, h.so_far.did.erases);
    }

-- the accounts of the blocks that aren't being tried
turns_other : (g : Geometry) (first old : Flash) (table : List TableRow) (block done next b : ℕ) (log : List Operation) (its left : Page) (passed : Bool) → IsNext g first old table block done next log → b < g.blocks → is_good_at table b ≡ true → b ≢ block
    → account_at (accounted_all g.pages (accounts_of g first.image (is_marked g first.image)) (log ++ Program (row_of g block done) its passed left ∷ [])) b ≡ turn 0
turns_other g first old table block done next b log its left passed h l good ne =
    let accounts : List Account = accounts_of g first.image (is_marked g first.image) in
    let op : Operation = Program (row_of g block done) its passed left in
    ap (λ (xs : List Account). account_at xs b) (accounts_join g.pages accounts log (op ∷ []))
    ∙ (accounted-other g.pages (accounted_all g.pages accounts log) op b (λ e. ne (sym e ∙ next_block g first old table block done next log h))
    ∙ (h.so_far.turns b l good ∙ ap turn (done-other block done b ne)))

-- a row whose turn hasn't come
kept_more : (g : Geometry) (first old new : Flash) (table : List TableRow) (block done next row : ℕ) (log : List Operation) (its left : Page) (passed : Bool) → IsNext g first old table block done next log
    → Steps old (Program (row_of g block done) its passed left) new → row < row_count g → is_good_at table (row / g.pages) ≡ true → done_in block done (row / g.pages) ≤ row % g.pages → row ≢ row_of g block done
    → slice_get new.image row ≡ slice_get first.image row
kept_more g first old new table block done next row log its left passed h steps l good turn_of ne =
    program_other old new (row_of g block done) row its left passed steps ne ∙ h.so_far.kept row l good turn_of

-- ---- a program that passed

-- the pages that stand in the block
page_more : (g : Geometry) (first old new : Flash) (table : List TableRow) (block done next u : ℕ) (log : List Operation) (its left : Page) (h : IsNext g first old table block done next log)
    → Steps old (Program (row_of g block done) its true left) new → Writes g (table_record done next) (row_of g block done) its.body old.image new.image → its.body ≡ table_bytes (entries g) table done → record_of its ≡ Some (table_record done next)
    → version_of its ≡ Some (version_for g) → u < done + 1 → HasTablePage g new.image (row_of g block u) u (h.so_far.sequence + u) table
page_more g first old new table block done next u log its left h steps writes body says version l = elim (cases_eq u done) [
  | inl same ↦
      let P : ℕ → Type 0 = λ k. HasTablePage g new.image (row_of g block k) k (h.so_far.sequence + k) table in
      let in_image : row_of g block done < length old.image = steps.lawful.in_range in
      let sequence : h.so_far.sequence + done ≡ next = h.so_far.sequence_is in
      subst P (sym same) (record {
        newest_is = writes.newest_now;
        its = its;
        at = ap (λ (i : List Page). slice_get i (row_of g block done)) (program_sets old new (row_of g block done) its left steps) ∙ slice_get-set_same old.image (row_of g block done) its in_image;
        body = body;
        says = says ∙ ap (λ s. Some (table_record done s)) (sym sequence);
        version = version;
      })
  | inr ne ↦
      let before : HasTablePage g old.image (row_of g block u) u (h.so_far.sequence + u) table = h.so_far.pages u (omega arith) in
      record {
        newest_is = writes.newest_others (Table u) (λ e. ne (key_number u done e)) ∙ before.newest_is;
        its = before.its;
        at = program_other old new (row_of g block done) (row_of g block u) its left true steps (λ e. ne (omega (arith, e))) ∙ before.at;
        body = before.body;
        says = before.says;
        version = before.version;
      }
]
  where
    key_number : (u done : ℕ) → Table done ≡ Table u → u ≡ done
    key_number u done e = cc

pub passes : (g : Geometry) (first old new : Flash) (table : List TableRow) (block done next : ℕ) (log : List Operation) (its left : Page) → IsNext g first old table block done next log
    → Steps old (Program (row_of g block done) its true left) new → its.body ≡ table_bytes (entries g) table done → record_of its ≡ Some (table_record done next) → version_of its ≡ Some (version_for g)
    → IsUnderway g first new table block (done + 1) (next + 1) (log ++ Program (row_of g block done) its true left ∷ [])
passes g first old new table block done next log its left h steps body says version =
    let row : ℕ = row_of g block done in
    let op : Operation = Program row its true left in
    let u : IsUnderway g first old table block done next log = h.so_far in
    let r : Record = table_record done next in
    let unsound : IsUnsoundAt old.image row = next_unsound g first old table block done next log h in
    let writes : Writes g r row its.body old.image new.image = program_writes g old new row its left r steps u.one unsound says version u.below h.room in
    let accounts : List Account = accounts_of g first.image (is_marked g first.image) in
    let size : length (accounted_all g.pages accounts log) ≡ g.blocks = length-accounted_all g.pages accounts log ∙ length-accounts_of g first.image (is_marked g first.image) in
    record {
      fresh = u.fresh;
      whole = u.whole;
      did = done_more g first old new table block done next log its left true h steps;
      count = omega (arith, (counts g.pages 0 log (op ∷ [])).programs, u.count);
      table_is = u.table_is ∙ table_after-passed g first.image log op refl;
      turns = λ b l good. elim (cases_eq b block) [
        | inl same ↦
            let in_block : row / g.pages ≡ b = next_block g first old table block done next log h ∙ sym same in
            ap (λ (xs : List Account). account_at xs b) (accounts_join g.pages accounts log (op ∷ []))
            ∙ (accounted-same g.pages (accounted_all g.pages accounts log) op b in_block (omega (arith, size, l))
            ∙ (ap (λ (a : Account). account_after a op) (ap (λ k. account_at (accounted_all g.pages accounts log) k) same ∙ next_turn g first old table block done next log h)
            ∙ ap turn (sym (done-same block (done + 1) b same))))
        | inr ne ↦ turns_other g first old table block done next b log its left true h l good ne ∙ ap turn (sym (done-other block (done + 1) b ne))
      ];
      kept = λ q l good turn_of.
          let in_block : row / g.pages ≡ block = next_block g first old table block done next log h in
          let page : row % g.pages ≡ done = page_of_row g block done (omega (arith, h.room, h.small)) in
          kept_more g first old new table block done next q log its left true h steps l good (done-less block done (q / g.pages) (q % g.pages) turn_of)
          (λ e. (let mine : done_in block (done + 1) (q / g.pages) ≡ done + 1 = done-same block (done + 1) (q / g.pages) (ap (λ n. n / g.pages) e ∙ in_block) in
          let last : q % g.pages ≡ done = ap (λ n. n % g.pages) e ∙ page in
          absurd (omega arith)));
      one = writes.one;
      below = program_below old new row its left r steps says u.below;
      no_sector = λ n. writes.newest_others (Sector n) (λ e. cc e) ∙ u.no_sector n;
      no_translation = λ t. writes.newest_others (Translation t) (λ e. cc e) ∙ u.no_translation t;
      tried = λ other b failed l good. u.tried other b (sym (failed_in-passed g.pages log op other refl) ∙ failed) l good;
      sequence = u.sequence;
      sequence_is = omega (arith, u.sequence_is);
      pages = λ k l. page_more g first old new table block done next k log its left h steps writes body says version l;
    }

-- ---- a program that failed

-- a block that is still good after the failure of another one
record IsLeft (g : Geometry) (table : List TableRow) (block b : ℕ) : Type 0 where
  good : is_good_at table b ≡ true
  other : b ≢ block

left_good : (g : Geometry) (table : List TableRow) (block b : ℕ) → block < length table → is_good_at (retired table block) b ≡ true → IsLeft g table block b
left_good g table block b within good = elim (cases_eq b block) [
  | inl same ↦
      let grown : TableRow = record { class = Grown; wear = wear_at table block } in
      let bad : is_good_at (retired table block) b ≡ false =
      ap (λ k. is_good_at (retired table block) k) same ∙ ap is_good (get_or-set_same table block grown no_table_row within) in
      absurd (both_ways (is_good_at (retired table block) b) bad good)
  | inr ne ↦ record {
    good = ap is_good (sym (get_or-set_other table block b (record { class = Grown; wear = wear_at table block }) no_table_row ne)) ∙ good;
    other = ne;
  }
]

pub fails : (g : Geometry) (first old new : Flash) (table : List TableRow) (block done next other : ℕ) (log : List Operation) (its left : Page) → IsNext g first old table block done next log
    → Steps old (Program (row_of g block done) its false left) new → record_of its ≡ Some (table_record done next) → ((lower : ℕ) → lower < block → is_good_at table lower ≡ false)
    → IsUnderway g first new (retired table block) other 0 (next + 1) (log ++ Program (row_of g block done) its false left ∷ [])
fails g first old new table block done next other log its left h steps says lowest =
    let row : ℕ = row_of g block done in
    let op : Operation = Program row its false left in
    let u : IsUnderway g first old table block done next log = h.so_far in
    let r : Record = table_record done next in
    let in_block : row / g.pages ≡ block = next_block g first old table block done next log h in
    let unsound : IsUnsoundAt old.image row = next_unsound g first old table block done next log h in
    let keeps : Keeps g old.image new.image = program_keeps g old new row its left steps u.one unsound in
    let within : block < length table = rw (u.table_is, length-table_after g first.image log) h.within in
    let good : is_good_at (table_after g first.image log) block ≡ true = rw (← u.table_is) h.good in
    let still : (b : ℕ) → is_good_at (retired table block) b ≡ true → IsLeft g table block b = λ b is. left_good g table block b within is in
    record {
      fresh = u.fresh;
      whole = u.whole;
      did = done_more g first old new table block done next log its left false h steps;
      count = omega (arith, (counts g.pages 0 log (op ∷ [])).programs, u.count);
      table_is = ap (λ (t : List TableRow). retired t block) u.table_is ∙ table_after-failed g first.image log op block refl in_block h.within good;
      turns = λ b l is.
          turns_other g first old table block done next b log its left false h l (still b is).good (still b is).other ∙ ap turn (sym (done_none other b));
      kept = λ q l is turn_of.
          let mine = still (q / g.pages) is in
          kept_more g first old new table block done next q log its left false h steps l mine.good (omega (arith, done-other block done (q / g.pages) mine.other))
          (λ e. mine.other (ap (λ n. n / g.pages) e ∙ in_block));
      one = keeps.one;
      below = program_next old new row its left false r steps unsound says u.below;
      no_sector = λ n. keeps.newest_same (Sector n) ∙ u.no_sector n;
      no_translation = λ t. keeps.newest_same (Translation t) ∙ u.no_translation t;
      tried = λ failed b has l is. elim (cases_eq failed block) [
        | inl same ↦
            let mine = still b is in
            let above : block ≤ b = not_below block b (λ lt. both_ways (is_good_at table b) (lowest b lt) mine.good) in
            let other : b ≢ block = mine.other in
            omega arith
        | inr ne ↦ u.tried failed b (sym (failed_in-other g.pages log op failed (λ e. ne (sym e ∙ in_block))) ∙ has) l (still b is).good
      ];
      sequence = next + 1;
      sequence_is = omega arith;
      pages = λ k l. absurd (omega arith);
    }
  where
    not_below : (block b : ℕ) → (b < block → ⊥) → block ≤ b
    not_below block b none = elim (cases_lt b block) [ inl lt ↦ absurd (none lt) | inr ge ↦ ge ]

-- ---- the same for some log

pub tries_more : (g : Geometry) (first old new : Flash) (table : List TableRow) (block done next failed : ℕ) (outcome : Outcome) → IsTrying g first old table block done next failed → block < g.blocks → done < table_pages g
    → is_good_at table block ≡ true → IsTableProgram g old new (row_of g block done) done next table outcome → is_passed outcome ≡ true → IsTrying g first new table block (done + 1) (next + 1) failed
tries_more g first old new table block done next failed outcome trying within room good program passed =
    let h : IsNext g first old table block done next trying.log = record { so_far = trying.underway; within = within; room = room; small = table_pages_fit g; good = good } in
    let row : ℕ = row_of g block done in
    let left : Page = page_at new row in
    let steps : Steps old (Program row program.its true left) new = subst (λ b. Steps old (Program row program.its b left) new) passed program.step in
    record {
      log = trying.log ++ Program row program.its true left ∷ [];
      underway = passes g first old new table block done next trying.log program.its left h steps program.body program.says program.version;
      failed_is = failures-passed trying.log (Program row program.its true left) refl ∙ trying.failed_is;
      fewer = trying.fewer;
    }

pub tries_failed : (g : Geometry) (first old new : Flash) (table : List TableRow) (block done next failed : ℕ) (outcome : Outcome) → IsTrying g first old table block done next failed → block < g.blocks → done < table_pages g
    → is_good_at table block ≡ true → ((lower : ℕ) → lower < block → is_good_at table lower ≡ false) → IsTableProgram g old new (row_of g block done) done next table outcome → is_passed outcome ≡ false
    → (other : ℕ) → IsTrying g first new (retired table block) other 0 (next + 1) (failed + 1)
tries_failed g first old new table block done next failed outcome trying within room good lowest program passed other =
    let h : IsNext g first old table block done next trying.log = record { so_far = trying.underway; within = within; room = room; small = table_pages_fit g; good = good } in
    let row : ℕ = row_of g block done in
    let left : Page = page_at new row in
    let steps : Steps old (Program row program.its false left) new = subst (λ b. Steps old (Program row program.its b left) new) passed program.step in
    record {
      log = trying.log ++ Program row program.its false left ∷ [];
      underway = fails g first old new table block done next other trying.log program.its left h steps program.says lowest;
      failed_is = failures-failed trying.log (Program row program.its false left) refl ∙ ap (λ n. n + 1) trying.failed_is;
      fewer = (let in_table : block < length table = rw (trying.underway.table_is, length-table_after g first.image trying.log) within in
          omega (arith, trying.fewer, good_count-retired table block in_table good));
    }

-- before the first page of a block it makes no difference which one is tried next
pub any_block : (g : Geometry) (first now : Flash) (table : List TableRow) (block next failed other : ℕ) → IsTrying g first now table block 0 next failed → IsTrying g first now table other 0 next failed
any_block g first now table block next failed other trying =
    let u = trying.underway in
    record {
      log = trying.log;
      underway = record {
        fresh = u.fresh;
        whole = u.whole;
        did = u.did;
        count = u.count;
        table_is = u.table_is;
        turns = λ b l good. u.turns b l good ∙ ap turn (done_none block b ∙ sym (done_none other b));
        kept = λ row l good turn_of. u.kept row l good (omega (arith, done_none block (row / g.pages)));
        one = u.one;
        below = u.below;
        no_sector = u.no_sector;
        no_translation = u.no_translation;
        tried = u.tried;
        sequence = u.sequence;
        sequence_is = u.sequence_is;
        pages = λ k l. absurd (omega arith);
      };
      failed_is = trying.failed_is;
      fewer = trying.fewer;
    }
