-- One attempt to program a page, by its outcome.
use Rattle.std.proofs.Common.{◌≡◌, ◌≢◌, ℕ, ◌+◌, ◌-◌, ◌/◌, ◌<◌, ◌≤◌, ◌^◌, true, List, length, slice_get, Option, None, Result, Err, refl, ap, sym, ◌∙◌, subst}
use Rattle.std.proofs.Common.{arith}
use Rattle.std.specs.Option.{ForSome}
use Rattle.page_layout.specs.declared.geometry.Geometry.{Geometry}
use Rattle.page_layout.specs.declared.record.Record.{Record}
use Rattle.page_layout.specs.declared.record.Kind.{Kind}
use Rattle.page_layout.specs.Page.{Image, IsImage}
use Rattle.page_layout.specs.Key.{key_from}
use Rattle.page_layout.specs.Geometry.{row_count}
use Rattle.page_layout.specs.Live.{IsKeyOf}
use Rattle.page_layout.specs.Flash.{Flash}
use Rattle.page_layout.specs.Recording.{Recording}
use Rattle.page_layout.specs.View.{View}
use Rattle.page_layout.specs.Counter.{HasRisen}
use Rattle.page_layout.specs.DieCalls.{AsksOnly}
use Rattle.page_layout.specs.Change.{Keeps, Writes}
use Rattle.page_layout.proofs.FlashLemmas.{program_other}
use Rattle.bad_blocks.specs.Table.{is_good_at, wear_at}
use Rattle.budget.specs.declared.stream.Stream.{Stream}
use Rattle.budget.specs.Counts.{TakesOne, FailsOne}
use Rattle.allocation.specs.declared.blocks.Blocks.{Blocks}
use Rattle.allocation.specs.State.{State, free_count}
use Rattle.allocation.specs.Step.{TakesNextRow, taken, without}
use Rattle.allocation.specs.Counts.{counts_of}
use Rattle.onfi_cycles.specs.declared.nand.Outcome.{Outcome}
use Rattle.onfi_cycles.specs.declared.nand.Outcome.TheVariants.{Passed, Failed}
use Rattle.onfi_cycles.specs.Outcomes.{is_passed}
use Rattle.collection.specs.State.{Ram}
use Rattle.collection.specs.declared.engine.Buffer.{Buffer}
use Rattle.collection.specs.declared.engine.Engine.{Engine}
use Rattle.collection.specs.declared.fault.EngineFault.{EngineFault}
use Rattle.collection.specs.declared.fault.EngineFault.TheVariants.{Bus}
use Rattle.collection.specs.Acts.{EngineActs}
use Rattle.collection.specs.Safe.{IsRam, IsSafe, IsBuffer, ram}
use Rattle.collection.specs.Cost.{moved_live, FailsTry, PassesTry}
use Rattle.collection.specs.Log.{Went}
use Rattle.collection.specs.Results.{CanProgram, IsStep, MayPut, IsImageKept, IsPut, GoesPut, last_record}
use Rattle.collection.proofs.Blocks.{IsMade, IsTaken, taken_at, block_of_taken, taken_table, taken_pointer, failed_bad, made_taken, made_failed}
use Rattle.collection.proofs.Blocks.{made_passed, moved_pointer, counts_failed, counts_passed}
use Rattle.collection.proofs.Memory.{Ticks, made_ram, made_goes, table_kept, table_failed}
use Rattle.collection.proofs.Wears.{wear_retired, moved_table}
use Rattle.collection.proofs.Truths.{can_program, row_in_block, true_failed, true_passed}
use Rattle.collection.proofs.Logs.{went_one}

-- the record of an attempt
abbrev pub next_record : Kind → ℕ → ℕ → ℕ → Record
next_record kind n sequence wear = record { kind = kind; number = n; sequence = sequence; wear = wear }

-- the step of a program, as its caller sees it
abbrev pub StepOf : {N : Type 0} → View N → (row sequence : ℕ) → (old new : N) → Outcome → Type 0
StepOf view row sequence old new outcome = IsStep row sequence outcome (view.flash old) (view.recorded old) (view.flash new) (view.recorded new)

-- ---- the row that was taken

pub taken_by : (r : Ram) (stream : Stream) (row block : ℕ) (t : State) → IsRam r → TakesNextRow stream row r.blocks t → block ≡ row / r.geometry.pages → IsTaken stream block row r.blocks t
taken_by r stream row block t s takes is = taken_at stream row block r.blocks t takes (is ∙ ap (λ g. row / g.pages) (sym s.blocks_of))

pub taken_good : (stream : Stream) (block row : ℕ) (s t : State) → IsTaken stream block row s t → is_good_at t.table block ≡ true
taken_good stream block row s t is = ap (λ x. is_good_at x.table block) is.left ∙ (ap (λ x. is_good_at x block) (taken_table stream s block) ∙ is.next.good)

pub in_block : (r : Ram) (o : Option ℕ) → IsRam r → ForSome o (λ q. q < row_count r.geometry) → ForSome o (λ q. q / r.blocks.geometry.pages < r.blocks.geometry.blocks)
in_block r o s within = λ q e. rw s.blocks_of (row_in_block r.geometry q (within q e))

pub step_others : (row sequence : ℕ) (outcome : Outcome) (before after : Flash) (told told' : Option Recording) → IsStep row sequence outcome before told after told'
    → (q : ℕ) → q ≢ row → slice_get after.image q ≡ slice_get before.image q
step_others row sequence outcome before after told told' step q ne = program_other before after row q step.its step.left (is_passed outcome) step.step ne

module _ (stream : Stream) (block row : ℕ) (r : Ram) (t : State) (s : IsRam r) (is : IsTaken stream block row r.blocks t) where
  is_block_of : block < r.geometry.blocks
  is_block_of = rw (← s.blocks_of) is.next.within

  -- ---- what is made of the memory

  module _ (r' : Ram) (ticks : Ticks r r') where
    made_asked : r'.blocks ≡ t → IsMade block r.blocks r'.blocks
    made_asked e = rw (e ∙ is.left) (made_taken (free_count r.blocks) stream block r.blocks s.blocks is.next)

    made_retired : r'.blocks ≡ without block t → IsMade block r.blocks r'.blocks
    made_retired e = rw (e ∙ ap (without block) is.left) (made_failed (free_count r.blocks) stream block r.blocks s.blocks is.next)

    made_moved : (o : Option ℕ) → r'.blocks ≡ moved_live o block t → ForSome o (λ q. q < row_count r.geometry) → IsMade block r.blocks r'.blocks
    made_moved o e within = rw (e ∙ ap (moved_live o block) is.left) (made_passed (free_count r.blocks) stream block r.blocks o s.blocks is.next (in_block r o s within))

    pub asked_ram : r'.blocks ≡ t → r.next + 1 < 2 ^ 64 → IsRam r'
    asked_ram e next = made_ram block r r' s ticks (made_asked e) next

    pub asked_goes : r'.blocks ≡ t → GoesPut r r'
    asked_goes e = made_goes stream block r r' s ticks is.next (made_asked e) (table_kept r.blocks r'.blocks (ap (λ (x : State). x.table) (e ∙ is.left) ∙ taken_table stream r.blocks block))

    pub failed_ram : r'.blocks ≡ without block t → r.next + 1 < 2 ^ 64 → IsRam r'
    failed_ram e next = made_ram block r r' s ticks (made_retired e) next

    pub failed_goes : r'.blocks ≡ without block t → GoesPut r r'
    failed_goes e = made_goes stream block r r' s ticks is.next (made_retired e) (rw (e ∙ ap (without block) is.left) (table_failed r.blocks (without block (taken stream block r.blocks)) (counts_failed (free_count r.blocks) stream block r.blocks s.blocks is.next).good))

    pub passed_ram : (o : Option ℕ) → r'.blocks ≡ moved_live o block t → ForSome o (λ q. q < row_count r.geometry) → r.next + 1 < 2 ^ 64 → IsRam r'
    passed_ram o e within next = made_ram block r r' s ticks (made_moved o e within) next

    pub passed_goes : (o : Option ℕ) → r'.blocks ≡ moved_live o block t → ForSome o (λ q. q < row_count r.geometry) → GoesPut r r'
    passed_goes o e within = made_goes stream block r r' s ticks is.next (made_moved o e within)
        (table_kept r.blocks r'.blocks
        (ap (λ (x : State). x.table) (e ∙ ap (moved_live o block) is.left)
        ∙ (moved_table o block (taken stream block r.blocks) ∙ taken_table stream r.blocks block)))

    -- ---- what it costs

    pub failed_cost : (wanted : Stream) → stream ≡ wanted → r'.blocks ≡ without block t → FailsTry wanted r r'
    failed_cost wanted same e = record {
      counts = (let P : Stream → Type 0 = λ x. FailsOne x (counts_of r.blocks) (counts_of r'.blocks) in subst P same (rw (e ∙ ap (without block) is.left) (counts_failed (free_count r.blocks) stream block r.blocks s.blocks is.next)));
      next = ticks.next;
    }

    pub passed_cost : (wanted : Stream) (o : Option ℕ) → stream ≡ wanted → r'.blocks ≡ moved_live o block t → ForSome o (λ q. q < row_count r.geometry) → PassesTry wanted r r'
    passed_cost wanted o same e within = record {
      counts =
          (let P : Stream → Geometry → Type 0 = λ x g. TakesOne x g.pages (counts_of r.blocks) (counts_of r'.blocks) in
          subst (λ x. P x r.geometry) same (subst (λ g. P stream g) s.blocks_of (rw (e ∙ ap (moved_live o block) is.left) (counts_passed (free_count r.blocks) stream block r.blocks o s.blocks is.next (in_block r o s within)))));
      next = ticks.next;
    }

    -- ---- what went on

    module _ (before after : Flash) (told told' : Option Recording) where
      pub failed_went : r'.blocks ≡ without block t → IsStep row r.next Failed before told after told' → Went r before told r' after told'
      failed_went e step = went_one r r' before after told told' block row Failed step s.blocks_of (record {
        is_block = is.next.within;
        was_good = is.next.good;
        room = is.next.room;
        made = made_retired e;
        good = rw (e ∙ ap (without block) is.left) (failed_bad (free_count r.blocks) stream block r.blocks s.blocks is.next);
        pointer = rw (e ∙ ap (without block) is.left) (taken_pointer stream r.blocks block (omega (arith, s.blocks.fills_whole, is.next.within)));
        wear = rw (e ∙ ap (without block) is.left) (wear_retired (taken stream block r.blocks).table block block (omega (arith, ap length (taken_table stream r.blocks block), s.blocks.table_whole, is.next.within)) ∙ ap (λ x. wear_at x block) (taken_table stream r.blocks block));
      }) is.row_is ticks.next

      pub passed_went : (o : Option ℕ) → r'.blocks ≡ moved_live o block t → ForSome o (λ q. q < row_count r.geometry) → IsStep row r.next Passed before told after told' → Went r before told r' after told'
      passed_went o e within step = went_one r r' before after told told' block row Passed step s.blocks_of (record {
        is_block = is.next.within;
        was_good = is.next.good;
        room = is.next.room;
        made = made_moved o e within;
        good = rw (e ∙ ap (moved_live o block) is.left) (ap (λ x. is_good_at x block) (moved_table o block (taken stream block r.blocks) ∙ taken_table stream r.blocks block) ∙ is.next.good);
        pointer = rw (e ∙ ap (moved_live o block) is.left) (moved_pointer (free_count r.blocks) stream block r.blocks o s.blocks is.next (in_block r o s within));
        wear = rw (e ∙ ap (moved_live o block) is.left) (ap (λ x. wear_at x block) (moved_table o block (taken stream block r.blocks) ∙ taken_table stream r.blocks block));
      }) is.row_is ticks.next

  -- ---- what is true of the image

  module _ (kind : Kind) (n : ℕ) (o : Option ℕ) (body : List ℕ) (old : Image) (m : MayPut kind n o body r old) (of_key : IsKeyOf r.geometry (key_from kind n)) where
    pub may_program : (wear : ℕ) → CanProgram r.geometry row (next_record kind n r.next wear) old
    may_program wear = can_program None r old block row (next_record kind n r.next wear) s m.truth is.next.within is.next.good is.next.room is.row_is refl of_key

    module _ (r' : Ram) (ticks : Ticks r r') (new : Image) (whole : IsImage r.geometry new) (others : (q : ℕ) → q ≢ row → slice_get new q ≡ slice_get old q) where
      pub failed_kept : r'.blocks ≡ without block t → Keeps r.geometry old new → IsImageKept r old r' new
      failed_kept e k = record {
        truth = true_failed None stream block row r r' old new s ticks is.next is.row_is whole others (e ∙ ap (without block) is.left) m.truth k;
        keeps = k;
      }

      pub passed_put : (wear : ℕ) → wear ≡ wear_at t.table block → r'.blocks ≡ moved_live o block t → ForSome o (λ q. q < row_count r.geometry) → Writes r.geometry (next_record kind n r.next wear) row body old new → IsPut kind n row body r old r' new
      passed_put wear wear_is e within w =
          let rec : Record = next_record kind n r.next wear in
          let sequence : r'.next - 1 ≡ r.next = omega (arith, ticks.next) in
          let block_is : row / r'.geometry.pages ≡ block = ap (λ g. row / g.pages) (ticks.geometry ∙ sym s.blocks_of) ∙ block_of_taken stream block row r.blocks t is in
          let table_is : r'.blocks.table ≡ t.table = ap (λ (x : State). x.table) e ∙ moved_table o block t in
          let its : wear_at r'.blocks.table (row / r'.geometry.pages) ≡ wear = ap (λ x. wear_at x (row / r'.geometry.pages)) table_is ∙ (ap (wear_at t.table) block_is ∙ sym wear_is) in
          let same : last_record kind n row r' ≡ rec = ap (λ q. next_record kind n q (wear_at r'.blocks.table (row / r'.geometry.pages))) sequence ∙ ap (next_record kind n r.next) its in
          record {
            truth = true_passed stream block row rec body o r r' old new s ticks is.next is.row_is whole others (e ∙ ap (moved_live o block) is.left)
                m.truth refl (wear_is ∙ (ap (λ x. wear_at x.table block) is.left ∙ ap (λ x. wear_at x block) (taken_table stream r.blocks block)))
                of_key within m.old_row_is m.page_for w;
            writes = (let P : Record → Type 0 = λ x. Writes r.geometry x row body old new in subst P (sym same) w);
          }

-- the row that was taken may be programmed
pub can_take : (r : Ram) (stream : Stream) (row block : ℕ) (t : State) → IsRam r → TakesNextRow stream row r.blocks t → block ≡ row / r.geometry.pages → (kind : Kind) (n : ℕ) (o : Option ℕ) (body : List ℕ) (old : Image)
    → MayPut kind n o body r old → IsKeyOf r.geometry (key_from kind n) → (wear : ℕ) → CanProgram r.geometry row (next_record kind n r.next wear) old
can_take r stream row block t s takes at kind n o body old may of_key wear = may_program stream block row r t s (taken_by r stream row block t s takes at) kind n o body old may of_key wear

-- ---- the engine, once the die was asked for the program

pub asked_acts : {A N : Type 0} (view : View N) (a : Engine N) (nand : N) (left : Blocks) (next : ℕ) (page : Buffer) (result : Result A EngineFault)
    → IsRam (ram (record a { nand = nand; blocks = left; next = next; page = page })) → IsSafe view.flash a → IsBuffer a.geometry page
    → (view.flash nand).geometry ≡ (view.flash a.nand).geometry → view.honest nand ≡ view.honest a.nand → view.calm nand ≡ view.calm a.nand
    → AsksOnly view.called a.nand nand → view.failed a.nand ≤ view.failed nand → (result ≡ Err Bus → HasRisen (view.failed a.nand) (view.failed nand))
    → (view.honest a.nand ≡ true → result ≢ Err Bus → Went (ram a) (view.flash a.nand) (view.recorded a.nand) (ram (record a { nand = nand; blocks = left; next = next; page = page })) (view.flash nand) (view.recorded nand))
    → EngineActs view a (record a { nand = nand; blocks = left; next = next; page = page }) result
asked_acts view a nand left next page result memory safe buffer sized honest calm asked failed rose went = record {
  safe = record { memory = memory; geometry = sized ∙ safe.geometry; page = buffer; scratch = safe.scratch };
  fault = refl;
  honest_is = honest;
  calm_is = calm;
  asked = asked;
  failed_is = failed;
  rose = rose;
  went = went;
}
