-- Writing the table pages into one block after another.
use Rattle.std.proofs.Common.{◌≡◌, refl, ℕ, ◌+◌, ◌*◌, ◌^◌, ◌<◌, ◌≤◌, Bool, true, false, List, [], ◌∷◌, Result, Ok, Err, sym, ◌∙◌, ap, subst, arith}
use Rattle.std.proofs.Math.Nat.{mul-le-mul}
use Rattle.page_layout.specs.declared.geometry.Geometry.{Geometry}
use Rattle.page_layout.specs.Geometry.{row_count, table_pages}
use Rattle.page_layout.specs.Flash.{Flash, Operation, Program, Erase, Leads}
use Rattle.onfi_cycles.specs.declared.nand.Outcome.{Outcome}
use Rattle.onfi_cycles.specs.declared.nand.Outcome.TheVariants.{Passed, Failed}
use Rattle.onfi_cycles.specs.Outcomes.{is_passed}
use Rattle.bad_blocks.specs.declared.table.TableRow.{TableRow}
use Rattle.bad_blocks.specs.Table.{good_count, is_good_at, retired}
use Rattle.promises.specs.Log.{programs_in, erases_in}
use Rattle.mount.specs.Log.{failures}
use Rattle.mount.specs.Fresh.{is_used, IsFirstPass, IsFresh}
use Rattle.mount.proofs.TableLemmas.{good_count-table}
use Rattle.mount.specs.Formatted.{good_after, Answers, IsNotFresh, IsScanned, table_after, IsFormatted, IsTooFewGood, IsWriteFailed, Formats}
use Rattle.mount.specs.Attempt.{IsTrying, TriesBlock, WritesFormat, AnswersTableWrite}
use Rattle.mount.specs.declared.format_fault.FormatFault.{FormatFault}
use Rattle.mount.specs.declared.format_fault.FormatFault.TheVariants.{TooFewGood, Bus, OutOfMemory, WriteFailed, NotFresh}
use Rattle.mount.proofs.FinishLemmas.{finished}
use Rattle.mount.proofs.SizeLemmas.{table_pages_fit}

-- ---- by the outcome

pub tries-passed : (g : Geometry) (first now : Flash) (table : List TableRow) (block next failed : ℕ) (outcome : Outcome) → is_passed outcome ≡ true → TriesBlock g first now table block next failed outcome → IsTrying g first now table block (table_pages g) next failed
tries-passed g first now table block next failed Passed passed tries = tries
tries-passed g first now table block next failed Failed passed tries = absurd (cc passed)

pub tries-failed : (g : Geometry) (first now : Flash) (table : List TableRow) (block next failed : ℕ) (outcome : Outcome) → is_passed outcome ≡ false → TriesBlock g first now table block next failed outcome
    → (other : ℕ) → IsTrying g first now (retired table block) other 0 next (failed + 1)
tries-failed g first now table block next failed Passed passed tries other = absurd (cc passed)
tries-failed g first now table block next failed Failed passed tries other = tries other

-- ---- the answers

pub writes_all : (g : Geometry) (needed : ℕ) (first now : Flash) (table : List TableRow) (block next failed good : ℕ) → IsTrying g first now table block (table_pages g) next failed → block < g.blocks → is_good_at table block ≡ true
    → ((lower : ℕ) → lower < block → is_good_at table lower ≡ false) → failed ≤ 2 → next ≤ 1 + 3 * table_pages g → good ≡ good_count table → needed ≤ good → IsFormatted g needed first now good
writes_all g needed first now table block next failed good trying within is_good lowest most few good_is enough =
    finished g needed first now table block next good trying.log trying.underway within is_good lowest (omega (arith, trying.failed_is, most)) few good_is (omega (arith, trying.failed_is, trying.fewer, good_is)) enough

no_log : (a b : Flash) (log : List Operation) → Leads a log b → programs_in log ≡ 0 → erases_in log ≡ 0 → b ≡ a
no_log a b [] leads programs erases = leads
no_log a b (Program row page passed left ∷ log) leads programs erases = absurd (omega arith)
no_log a b (Erase block passed left ∷ log) leads programs erases = absurd (omega arith)

pub too_few : (g : Geometry) (needed : ℕ) (first now : Flash) (table : List TableRow) (block next failed good asked : ℕ) → IsTrying g first now table block 0 next failed → good ≡ good_count table → good < needed → asked ≡ needed → failed ≤ 2
    → (failed ≡ 0 → next ≤ 1) → (0 < failed → needed ≤ good_count table + 1) → IsTooFewGood g needed first now good asked
too_few g needed first now table block next failed good asked trying good_is few asked_is most none just =
    let same : good_count table ≡ good_after g first.image trying.log = ap good_count trying.underway.table_is ∙ good_count-table g first.image trying.log in
    let is : failures trying.log ≡ failed = trying.failed_is in
    record {
      log = trying.log;
      done = trying.underway.did;
      good_is = good_is ∙ same;
      fewer = omega (arith, trying.fewer, good_is, is);
      few = few;
      asked_is = asked_is;
      at_most = omega (arith, is, most);
      untouched = λ zero_failed.
          let at_most : next ≤ 1 = none (sym is ∙ zero_failed) in
          no_log first now trying.log trying.underway.did.leads (omega (arith, trying.underway.count, at_most)) trying.underway.did.erases;
      fresh = λ some. trying.underway.fresh;
      just = λ some. let enough : needed ≤ good_count table + 1 = just (omega (arith, is, some)) in omega (arith, good_is, few);
    }

pub gives_up : (g : Geometry) (needed : ℕ) (first now : Flash) (table : List TableRow) (block next failed : ℕ) → IsTrying g first now table block 0 next failed → failed ≡ 3 → needed ≤ good_count table + 1 → IsWriteFailed g needed first now
gives_up g needed first now table block next failed trying three enough = record {
  log = trying.log;
  done = trying.underway.did;
  three = trying.failed_is ∙ three;
  fewer = (let same : good_count table ≡ good_after g first.image trying.log = ap good_count trying.underway.table_is ∙ good_count-table g first.image trying.log in omega (arith, trying.fewer));
  fresh = trying.underway.fresh;
  enough = (let same : good_count table ≡ good_after g first.image trying.log = ap good_count trying.underway.table_is ∙ good_count-table g first.image trying.log in omega (arith, enough));
}

pub writes_formats : (g : Geometry) (needed : ℕ) (first now : Flash) (r : Result ℕ FormatFault) → WritesFormat g needed first now r → Formats g needed first now r
writes_formats g needed first now (Ok good) writes = writes
writes_formats g needed first now (Err (TooFewGood good asked)) writes = writes
writes_formats g needed first now (Err Bus) writes = writes
writes_formats g needed first now (Err OutOfMemory) writes = absurd writes
writes_formats g needed first now (Err WriteFailed) writes = writes
writes_formats g needed first now (Err (NotFresh row)) writes = absurd writes

-- ---- refusals by the scan

pub few_at_once : (g : Geometry) (needed : ℕ) (old : Flash) (table : List TableRow) → table ≡ table_after g old.image [] → good_count table < needed → IsTooFewGood g needed old old (good_count table) needed
few_at_once g needed old table is few = record {
  log = [];
  done = record { leads = refl; legal = tt; erases = refl };
  good_is = ap good_count is ∙ good_count-table g old.image [];
  fewer = (let same : good_count table ≡ good_after g old.image [] = ap good_count is ∙ good_count-table g old.image [] in omega (arith, same));
  few = few;
  asked_is = refl;
  at_most = omega arith;
  untouched = λ none. refl;
  fresh = λ some. absurd (omega arith);
  just = λ some. absurd (omega arith);
}

pub used_at : (g : Geometry) (needed : ℕ) (old : Flash) (table : List TableRow) (row : ℕ) → table ≡ table_after g old.image [] → needed ≤ good_count table → IsFirstPass (is_used g old.image) 0 (row_count g) row → IsNotFresh g needed old old row
used_at g needed old table row is enough first = record {
  enough = (let same : good_count table ≡ good_after g old.image [] = ap good_count is ∙ good_count-table g old.image [] in omega arith);
  first = first;
  untouched = refl;
}

-- ---- what was read before the first program

pub enough_good : (g : Geometry) (needed : ℕ) (old : Flash) (table : List TableRow) → table ≡ table_after g old.image [] → needed ≤ good_count table → needed ≤ good_after g old.image []
enough_good g needed old table is enough = (let same : good_count table ≡ good_after g old.image [] = ap good_count is ∙ good_count-table g old.image [] in omega (arith, same, enough))

pub scanned_before : (g : Geometry) (needed : ℕ) (honest : Bool) (old : Flash) (table : List TableRow) (a b c : ℕ) → (a + row_count g < 2 ^ 64 → b ≡ a + row_count g) → c ≡ b → (honest ≡ true → IsFresh g old.image)
    → (honest ≡ true → table ≡ table_after g old.image []) → needed ≤ good_count table → IsScanned g needed honest old a c
scanned_before g needed honest old table a b c reads same fresh is enough = record {
  read = λ fits. same ∙ reads fits;
  fresh = fresh;
  enough = λ h. enough_good g needed old table (is h) enough;
}

-- ---- what the loops of the writes know

-- an outcome that isn't passed
pub failed_of : (o : Outcome) → is_passed o ≡ false → o ≡ Failed
failed_of Passed e = absurd (let clash : true ≡ false = e in cc)
failed_of Failed e = refl

pub passed_not_failed : Passed ≡ Failed → ⊥
passed_not_failed e = (let never : ⊥ = cc in never)

-- before the first failure nothing was written
pub first_sequence : (g : Geometry) (next failed : ℕ) → next ≤ 1 + failed * table_pages g → failed ≡ 0 → next ≤ 1
first_sequence g next failed most none = (let zero : failed * table_pages g ≡ 0 * table_pages g = ap (λ f. f * table_pages g) none in omega (arith, most, zero))

pub sequences_fit : (g : Geometry) (next failed : ℕ) → next ≤ 1 + failed * table_pages g → failed < 3 → next + table_pages g < 2 ^ 64
sequences_fit g next failed most few =
    let all : failed * table_pages g ≤ 3 * table_pages g = mul-le-mul (omega (arith, few)) (omega arith) in
    omega (arith, most, all, table_pages_fit g, g.limits.page_count.most)

pub good_not_bus : {T : Type 0} (good : T) → ◌≡◌ {A = Result T FormatFault} (Ok good) (Err Bus) → ⊥
good_not_bus good is = (let never : ⊥ = cc in never)

pub few_not_bus : {T : Type 0} (good asked : ℕ) → ◌≡◌ {A = Result T FormatFault} (Err (TooFewGood good asked)) (Err Bus) → ⊥
few_not_bus good asked is = (let never : ⊥ = cc in never)

pub write_not_bus : {T : Type 0} → ◌≡◌ {A = Result T FormatFault} (Err WriteFailed) (Err Bus) → ⊥
write_not_bus is = (let never : ⊥ = cc in never)

pub fresh_not_bus : {T : Type 0} (row : ℕ) → ◌≡◌ {A = Result T FormatFault} (Err (NotFresh row)) (Err Bus) → ⊥
fresh_not_bus row is = (let never : ⊥ = cc in never)

pub fresh_not_memory : {T : Type 0} (row : ℕ) → ◌≡◌ {A = Result T FormatFault} (Err (NotFresh row)) (Err OutOfMemory) → ⊥
fresh_not_memory row is = (let never : ⊥ = cc in never)

pub few_not_memory : {T : Type 0} (good asked : ℕ) → ◌≡◌ {A = Result T FormatFault} (Err (TooFewGood good asked)) (Err OutOfMemory) → ⊥
few_not_memory good asked is = (let never : ⊥ = cc in never)

pub memory_not_bus : {T : Type 0} → ◌≡◌ {A = Result T FormatFault} (Err OutOfMemory) (Err Bus) → ⊥
memory_not_bus is = (let never : ⊥ = cc in never)

pub bus_not_memory : {T : Type 0} → ◌≡◌ {A = Result T FormatFault} (Err Bus) (Err OutOfMemory) → ⊥
bus_not_memory is = (let never : ⊥ = cc in never)

-- what the writes answer after a scan that programmed nothing
pub writes_answers : (g : Geometry) (needed before old new : ℕ) (r : Result ℕ FormatFault) → old ≡ before → AnswersTableWrite g needed old new r → Answers g needed before new r
writes_answers g needed before old new r same writes = by_case r (subst (λ n. AnswersTableWrite g needed n new r) same writes)
  where
    by_case : (r : Result ℕ FormatFault) → AnswersTableWrite g needed before new r → Answers g needed before new r
    by_case (Ok good) writes = writes
    by_case (Err (TooFewGood good asked)) writes = writes
    by_case (Err Bus) writes = writes
    by_case (Err OutOfMemory) writes = absurd writes
    by_case (Err WriteFailed) writes = writes
    by_case (Err (NotFresh row)) writes = absurd writes

-- the writes never want memory
pub not_for_memory : (g : Geometry) (needed old new : ℕ) (r : Result ℕ FormatFault) → r ≡ Err OutOfMemory → AnswersTableWrite g needed old new r → ⊥
not_for_memory g needed old new r is writes = subst (λ r. AnswersTableWrite g needed old new r) is writes
